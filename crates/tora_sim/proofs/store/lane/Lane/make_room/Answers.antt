use Rattle.std.proofs.Common.{◌∙◌, ap, ◌++◌, List}
use Rattle.tora_seat.specs.declared.cargo.Cargo.{Cargo}
use Rattle.tora_sim.specs.Lane.{LaneView}
use Rattle.tora_sim.proofs.store.lane.Lane.make_room.Goals as goal

pub returns-clause-put : goal.returns-clause-put
returns-clause-put c =
    ap (λ (cs : List Cargo). c.keep_taken.new.past.items ++ cs) c.reserve.ensures.items ∙ c.in_ok-keep_taken.ensures.all ∙ ap (λ (v : LaneView). v.put) c.self.view_is

pub returns-clause-pulled : goal.returns-clause-pulled
returns-clause-pulled c = c.in_ok-keep_taken.ensures.pulled ∙ ap (λ (v : LaneView). v.pulled) c.self.view_is
