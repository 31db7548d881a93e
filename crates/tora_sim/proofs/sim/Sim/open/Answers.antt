use Rattle.std.proofs.Common.{ap, sym, ◌∙◌, subst}
use Rattle.std.proofs.lemmas.Bool.{both_ways}
use Rattle.tora_world.specs.declared.event.Event.TheVariants.{Open}
use Rattle.tora_world.specs.declared.sim_error.SimError.TheVariants as Refused
use Rattle.tora_arq.specs.LinkEnd.{is_closed}
use Rattle.tora_sim.specs.Links.{LinkView}
use Rattle.tora_sim.specs.Store.{SimState, state_of, world_of}
use Rattle.tora_sim.specs.Steps.{IsDone, IsRefused}
use Rattle.std.specs.Prelude.{slice_set}
use Rattle.tora_sim.proofs.Opens.{open_refused, open_done, open_store, same_read}
use Rattle.tora_sim.proofs.IdleEnds.{possible_idle}
use Rattle.tora_sim.proofs.sim.Sim.open.Goals as goal

pub place-requires-clause-keys : goal.place-requires-clause-keys
place-requires-clause-keys c = c.self.invariant.2 ∙ sym c.self.invariant.0.keys

pub returns-then-not-is_closed : goal.returns-then-not-is_closed
returns-then-not-is_closed c =
    let s = c.self.inside in
    subst (λ (w : SimState). IsRefused (world_of w) (Open c.args.n c.args.k) Refused.NotPossible (world_of w)) c.self.view_is
    (open_refused s.topology s.times s.clock s.nodes.items s.links.items s.datagrams.items c.self.invariant.0 c.args.n c.args.k c.in-Some.at c.index.result.now c.in-Some.ensures.first c.index.ensures
    (sym c.is_closed.ensures ∙ c.if-not-is_closed.true))

pub invariant_of-self : goal.invariant_of-self
invariant_of-self c =
    let s = c.self.inside in (
      open_store s.topology s.times s.clock s.nodes.items s.links.items s.datagrams.items c.self.invariant.0 c.args.n c.args.k c.in-Some.at c.index_mut.result.now c.in-Some.ensures.first c.index_mut.ensures.value
          c.open.new.self c.open.ensures,
      possible_idle s.clock s.deadlines s.links.items c.in-Some.at c.index_mut.result.now c.open.new.self c.in-Some.ensures.first.within c.index_mut.ensures.value
          (λ until lt h. both_ways (is_closed c.index_mut.result.now.state) h.opened (ap (λ (x : LinkView). is_closed x.state) (same_read s.links.items c.in-Some.at c.index_mut.result.now c.index.result.now c.in-Some.ensures.first.within c.index_mut.ensures.value c.index.ensures)
          ∙ sym c.is_closed.ensures ∙ c.if-not-is_closed.false)) c.self.invariant.1,
      c.self.invariant.2,
    )

pub returns : goal.returns
returns c =
    let s = c.self.inside in
    subst (λ (before : SimState). IsDone (world_of before) (Open c.args.n c.args.k) (world_of (state_of s.topology s.times s.clock s.nodes.items (slice_set s.links.items c.in-Some.at c.open.new.self) s.datagrams.items))) c.self.view_is
    (open_done s.topology s.times s.clock s.nodes.items s.links.items s.datagrams.items c.self.invariant.0 c.args.n c.args.k c.in-Some.at c.index_mut.result.now c.in-Some.ensures.first c.index_mut.ensures.value
    c.open.new.self (ap (λ (x : LinkView). is_closed x.state) (same_read s.links.items c.in-Some.at c.index_mut.result.now c.index.result.now c.in-Some.ensures.first.within c.index_mut.ensures.value c.index.ensures)
    ∙ sym c.is_closed.ensures ∙ c.if-not-is_closed.false) c.open.ensures)
