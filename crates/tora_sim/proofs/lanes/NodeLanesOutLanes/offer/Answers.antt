use Rattle.std.proofs.Common.{◌<◌, ◌+◌, sym, subst}
use Rattle.std.specs.Prelude.{slice_set}
use Rattle.tora_sim.specs.Lanes.{LanesView, lanes_of, bare_between, DidOffer}
use Rattle.tora_sim.proofs.Rooms.{there, still_within, still_roomy, still_fitting, did}
use Rattle.tora_sim.proofs.lanes.NodeLanesOutLanes.offer.Goals as goal

pub offer-requires : goal.offer-requires
offer-requires c =
    let s = c.self.inside in
    let lt : c.args.place < s.count = subst (λ (v : LanesView). c.args.place < v.count) (sym c.self.view_is) c.requires in
    c.self.invariant.2 c.args.place c.index_mut.result.now lt (there s.links.items s.first s.count c.args.place c.self.invariant.0 c.self.invariant.1 lt c.index_mut.result.now c.index_mut.ensures.value)

pub invariant_of-self : goal.invariant_of-self
invariant_of-self c =
    let s = c.self.inside in
    let lt : c.args.place < s.count = subst (λ (v : LanesView). c.args.place < v.count) (sym c.self.view_is) c.requires in (
      still_within s.links.items s.first s.count c.args.place c.self.invariant.0 c.self.invariant.1 lt c.index_mut.result.now c.index_mut.ensures.value s.pool c.offer.new.pool c.offer.new.self c.args.cargo c.offer.result c.offer.ensures.lane c.offer.ensures.step c.offer.ensures.room,
      still_roomy s.links.items s.first s.count c.args.place c.self.invariant.0 c.self.invariant.1 lt c.index_mut.result.now c.index_mut.ensures.value s.pool c.offer.new.pool c.offer.new.self c.args.cargo c.offer.result c.offer.ensures.lane c.offer.ensures.step c.offer.ensures.room,
      still_fitting s.links.items s.first s.count c.args.place c.self.invariant.0 c.self.invariant.1 lt c.index_mut.result.now c.index_mut.ensures.value s.pool c.offer.new.pool c.offer.new.self c.args.cargo c.offer.result c.offer.ensures.lane c.offer.ensures.step c.offer.ensures.room
          c.offer.ensures.others c.self.invariant.2,
    )

pub returns-clause-offered : goal.returns-clause-offered
returns-clause-offered c =
    let s = c.self.inside in
    let lt : c.args.place < s.count = subst (λ (v : LanesView). c.args.place < v.count) (sym c.self.view_is) c.requires in
    subst (λ (before : LanesView). DidOffer before c.args.place c.args.cargo c.offer.result (lanes_of (bare_between s.first s.count (slice_set s.links.items (s.first + c.args.place) c.offer.new.self)) s.first s.count)) c.self.view_is
    (did s.links.items s.first s.count c.args.place c.self.invariant.0 c.self.invariant.1 lt c.index_mut.result.now c.index_mut.ensures.value s.pool c.offer.new.pool c.offer.new.self c.args.cargo c.offer.result c.offer.ensures.lane c.offer.ensures.step c.offer.ensures.room c.offer.ensures.put)
