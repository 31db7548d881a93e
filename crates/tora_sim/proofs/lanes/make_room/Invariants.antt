use Rattle.tora_sim.proofs.Rooms.{RoomMade}
use Rattle.tora_sim.proofs.lanes.make_room.Given as goal

abbrev pub invariant-loop-place : goal.invariant-loop-place
invariant-loop-place l = RoomMade l.initial.links.items l.links.items l.first l.place
