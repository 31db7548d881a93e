use Rattle.std.proofs.Common.{◌≡◌, ◌<◌, ◌≤◌, length, nat_lt, true, arith, MatchResult, ap, sym, ◌∙◌, subst}
use Rattle.std.specs.Prelude.{slice_set}
use Rattle.std.proofs.lemmas.Bool.{lt-ltb, le-ltb}
use Rattle.tora_world.specs.declared.event.Event.TheVariants.{Need}
use Rattle.tora_world.specs.declared.sim_error.SimError.TheVariants as Refused
use Rattle.tora_seat.specs.declared.what.What.TheVariants as Tells
use Rattle.tora_sim.specs.Nodes.{NodeView, after_item}
use Rattle.tora_sim.specs.Store.{SimState, state_of, world_of}
use Rattle.tora_sim.specs.Steps.{IsRefused, Does}
use Rattle.tora_sim.proofs.Opens.{same_read}
use Rattle.tora_sim.proofs.Needs.{need_refused, put_store, need_does, last_seat, IsPut}
use Rattle.tora_sim.proofs.sim.Sim.need.Goals as goal

pub returns-then-waiting-ge-MOST_ITEMS : goal.returns-then-waiting-ge-MOST_ITEMS
returns-then-waiting-ge-MOST_ITEMS c =
    let s = c.self.inside in
    let full : 1024 ≤ length c.index.result.now.items = omega (arith, c.waiting.ensures, c.if-waiting-ge-MOST_ITEMS.true) in
    subst (λ (w : SimState). IsRefused (world_of w) (Need c.args.n c.args.d) Refused.NotPossible (world_of w)) c.self.view_is
    (need_refused s.topology s.times s.clock s.nodes.items s.links.items s.datagrams.items c.self.invariant.0 c.args.n c.in-Some.home c.index.result.now c.in-Some.ensures.first c.index.ensures c.args.d
    (le-ltb (length c.index.result.now.items) 1024 full))

pub put_item-requires : goal.put_item-requires
put_item-requires c =
    let s = c.self.inside in
    let y = c.index_mut.result.now in
    let same : c.index-2.result.now ≡ y = same_read s.nodes.items c.in-Some.home c.index-2.result.now y c.in-Some.ensures.first.within c.index-2.ensures c.index_mut.ensures.value in
    subst (λ m. m < length y.counts) (sym (c.count-seat.ensures ∙ ap (λ (z : NodeView). z.count) same))
    (last_seat s.topology s.times s.clock s.nodes.items s.links.items s.datagrams.items c.self.invariant.0 c.args.n c.in-Some.home y c.in-Some.ensures.first c.index_mut.ensures.value)

module _ (c : goal.After-self-1) where
  abbrev x : NodeView
  x = c.index_mut.result.now

  first_read : c.index.result.now ≡ x
  first_read = same_read c.self.inside.nodes.items c.in-Some.home c.index.result.now c.index_mut.result.now c.in-Some.ensures.first.within c.index.ensures c.index_mut.ensures.value

  second_read : c.index-2.result.now ≡ x
  second_read = same_read c.self.inside.nodes.items c.in-Some.home c.index-2.result.now c.index_mut.result.now c.in-Some.ensures.first.within c.index-2.ensures c.index_mut.ensures.value

  seat_is : c.count-seat.result ≡ x.count
  seat_is = c.count-seat.ensures ∙ ap (λ (y : NodeView). y.count) second_read

  waits : nat_lt (length x.items) 1024 ≡ true
  waits =
      let less : length c.index.result.now.items < 1024 = omega (arith, c.waiting.ensures, c.if-waiting-ge-MOST_ITEMS.false) in
      subst (λ (y : NodeView). nat_lt (length y.items) 1024 ≡ true) first_read (lt-ltb (length c.index.result.now.items) 1024 less)

  is_put : IsPut c.self.inside.topology c.self.inside.times c.self.inside.clock c.self.inside.nodes.items c.self.inside.links.items c.self.inside.datagrams.items c.self.invariant.0 c.args.n c.in-Some.home x c.in-Some.ensures.first c.index_mut.ensures.value
      x.count (Tells.Need c.args.d) c.put_item.new.self c.put_item.result
  is_put = subst (λ m. MatchResult c.put_item.result (λ _. c.put_item.new.self ≡ after_item x m c.self.inside.clock (Tells.Need c.args.d)) (λ e. (e ≡ Refused.Memory) × (c.put_item.new.self ≡ x))) seat_is c.put_item.ensures

pub invariant_of-self : goal.invariant_of-self
invariant_of-self c =
    let s = c.self.inside in (
      put_store s.topology s.times s.clock s.nodes.items s.links.items s.datagrams.items c.self.invariant.0 c.args.n c.in-Some.home (x c) c.in-Some.ensures.first c.index_mut.ensures.value
          (x c).count (Tells.Need c.args.d) c.put_item.new.self c.put_item.result
          (last_seat s.topology s.times s.clock s.nodes.items s.links.items s.datagrams.items c.self.invariant.0 c.args.n c.in-Some.home (x c) c.in-Some.ensures.first c.index_mut.ensures.value) (is_put c),
      c.self.invariant.1,
      c.self.invariant.2,
    )

pub returns : goal.returns
returns c =
    let s = c.self.inside in
    subst (λ (before : SimState). Does before (Need c.args.n c.args.d) c.put_item.result (state_of s.topology s.times s.clock (slice_set s.nodes.items c.in-Some.home c.put_item.new.self) s.links.items s.datagrams.items)) c.self.view_is
    (need_does s.topology s.times s.clock s.nodes.items s.links.items s.datagrams.items c.self.invariant.0 c.args.n c.in-Some.home (x c) c.in-Some.ensures.first c.index_mut.ensures.value
    c.args.d c.put_item.new.self c.put_item.result (waits c) (is_put c))
