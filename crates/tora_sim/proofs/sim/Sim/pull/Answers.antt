use Rattle.std.proofs.Common.{◌≡◌, ◌<◌, List, length, nat_lt, slice_get, true, inl, refl, ap, sym, ◌∙◌, subst}
use Rattle.std.specs.Prelude.{slice_set}
use Rattle.std.proofs.lemmas.Bool.{both_ways, lt-ltb}
use borrow.Author.Tests.{ltb-true, ltb-false}
use Rattle.tora_world.specs.declared.event.Event.TheVariants.{Pull}
use Rattle.tora_world.specs.declared.sim_error.SimError.TheVariants as Refused
use Rattle.tora_sim.specs.Links.{LinkView, after_pull_at}
use Rattle.tora_sim.specs.Store.{SimState, state_of, world_of}
use Rattle.tora_sim.specs.Steps.{IsDone, IsRefused}
use Rattle.tora_sim.proofs.Opens.{pull_refused, pull_done, pull_store, same_read}
use Rattle.tora_sim.proofs.Quiets.{set_same}
use Rattle.tora_sim.proofs.IdleEnds.{possible_idle}
use Rattle.tora_sim.proofs.Unchanged.{links_stay}
use Rattle.tora_sim.proofs.sim.Sim.pull.Goals as goal

pub place_near-requires-clause-keys : goal.place_near-requires-clause-keys
place_near-requires-clause-keys c = c.self.invariant.2 ∙ sym c.self.invariant.0.keys

pub returns-then-not-has_cargo : goal.returns-then-not-has_cargo
returns-then-not-has_cargo c =
    let s = c.self.inside in
    subst (λ (w : SimState). IsRefused (world_of w) (Pull c.args.n c.args.k) Refused.NotPossible (world_of w)) c.self.view_is
    (pull_refused s.topology s.times s.clock s.nodes.items s.links.items s.datagrams.items c.self.invariant.0 c.args.n c.args.k c.in-Some.at c.index.result.now c.in-Some.ensures.first c.index.ensures
    (ltb-false c.index.result.now.pulled (length c.index.result.now.put) (sym c.has_cargo.ensures ∙ c.if-not-has_cargo.true)))

waits : (x y : LinkView) → x ≡ y → nat_lt x.pulled (length x.put) ≡ true → y.pulled < length y.put
waits x y same h = subst (λ (z : LinkView). z.pulled < length z.put) same (ltb-true x.pulled (length x.put) h)

-- ---- memory ran out

module _ (c : goal.Then-not-pull) where
  stays : slice_set c.self.inside.links.items c.in-Some.at c.pull.new.self ≡ c.self.inside.links.items
  stays = set_same c.self.inside.links.items c.in-Some.at c.index_mut.result.now c.pull.new.self c.in-Some.ensures.first.within c.index_mut.ensures.value (c.pull.ensures.same c.if-not-pull.true)

pub invariant_of-self : goal.invariant_of-self
invariant_of-self c =
    let s = c.self.inside in
    links_stay s.topology s.times s.clock s.nodes.items s.links.items s.datagrams.items s.keys.items s.deadlines c.self.invariant (slice_set s.links.items c.in-Some.at c.pull.new.self) (stays c)

pub returns-then-not-pull : goal.returns-then-not-pull
returns-then-not-pull c =
    let s = c.self.inside in
    let x = c.index_mut.result.now in
    subst (λ (w : SimState). IsRefused (world_of w) (Pull c.args.n c.args.k) Refused.Memory (world_of (state_of s.topology s.times s.clock s.nodes.items (slice_set s.links.items c.in-Some.at c.pull.new.self) s.datagrams.items))) c.self.view_is (record {
      cause = inl (
        refl,
        (pull_done s.topology s.times s.clock s.nodes.items s.links.items s.datagrams.items c.self.invariant.0 c.args.n c.args.k c.in-Some.at x c.in-Some.ensures.first c.index_mut.ensures.value
            (after_pull_at x (slice_get x.put x.pulled)) (waits c.index.result.now c.index_mut.result.now (same_read c.self.inside.links.items c.in-Some.at c.index.result.now c.index_mut.result.now c.in-Some.ensures.first.within c.index.ensures c.index_mut.ensures.value) (sym c.has_cargo.ensures ∙ c.if-not-has_cargo.false)) refl).accepted,
      );
      world = ap (λ (xs : List LinkView). world_of (state_of s.topology s.times s.clock s.nodes.items xs s.datagrams.items)) (stays c);
    })

-- ---- the cargo is pulled

pub invariant_of-self-2 : goal.invariant_of-self-2
invariant_of-self-2 c =
    let s = c.self.inside in (
      pull_store s.topology s.times s.clock s.nodes.items s.links.items s.datagrams.items c.self.invariant.0 c.args.n c.args.k c.in-Some.at c.index_mut.result.now c.in-Some.ensures.first c.index_mut.ensures.value
          c.pull.new.self (waits c.index.result.now c.index_mut.result.now (same_read c.self.inside.links.items c.in-Some.at c.index.result.now c.index_mut.result.now c.in-Some.ensures.first.within c.index.ensures c.index_mut.ensures.value) (sym c.has_cargo.ensures ∙ c.if-not-has_cargo.false)) (c.pull.ensures.pulled c.if-not-pull.false),
      possible_idle s.clock s.deadlines s.links.items c.in-Some.at c.index_mut.result.now c.pull.new.self c.in-Some.ensures.first.within c.index_mut.ensures.value
          (λ until lt h. both_ways (nat_lt c.index_mut.result.now.pulled (length c.index_mut.result.now.put)) h.lane (lt-ltb c.index_mut.result.now.pulled (length c.index_mut.result.now.put) (waits c.index.result.now c.index_mut.result.now (same_read c.self.inside.links.items c.in-Some.at c.index.result.now c.index_mut.result.now c.in-Some.ensures.first.within c.index.ensures c.index_mut.ensures.value) (sym c.has_cargo.ensures ∙ c.if-not-has_cargo.false)))) c.self.invariant.1,
      c.self.invariant.2,
    )

pub returns : goal.returns
returns c =
    let s = c.self.inside in
    subst (λ (before : SimState). IsDone (world_of before) (Pull c.args.n c.args.k) (world_of (state_of s.topology s.times s.clock s.nodes.items (slice_set s.links.items c.in-Some.at c.pull.new.self) s.datagrams.items))) c.self.view_is
    (pull_done s.topology s.times s.clock s.nodes.items s.links.items s.datagrams.items c.self.invariant.0 c.args.n c.args.k c.in-Some.at c.index_mut.result.now c.in-Some.ensures.first c.index_mut.ensures.value
    c.pull.new.self (waits c.index.result.now c.index_mut.result.now (same_read c.self.inside.links.items c.in-Some.at c.index.result.now c.index_mut.result.now c.in-Some.ensures.first.within c.index.ensures c.index_mut.ensures.value) (sym c.has_cargo.ensures ∙ c.if-not-has_cargo.false)) (c.pull.ensures.pulled c.if-not-pull.false))
