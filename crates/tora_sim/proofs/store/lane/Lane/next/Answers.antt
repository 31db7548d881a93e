use Rattle.std.proofs.Common.{◌≡◌, slice_get, Some, ◌∙◌, subst}
use Rattle.tora_sim.specs.Lane.{LaneView}
use Rattle.tora_sim.proofs.LaneLists.{get_behind, waits}
use Rattle.tora_sim.proofs.store.lane.Lane.next.Goals as goal

pub at-requires : goal.at-requires
at-requires c = let l = c.self.inside in waits c.args.self.now l.past.items l.cargoes l.taken c.self.view_is c.requires

pub returns : goal.returns
returns c =
    let l = c.self.inside in
    subst (λ (v : LaneView). slice_get v.put v.pulled ≡ Some c.at.result) c.self.view_is (get_behind l.past.items l.cargoes.items l.taken ∙ c.at.ensures.cargo)
