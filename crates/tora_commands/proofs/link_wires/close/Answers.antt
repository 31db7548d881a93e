use Rattle.std.proofs.Common.{arith}
use Rattle.std.proofs.lemmas.Grind.{common_steps}
use Rattle.std.proofs.lemmas.List.Edits.{map_over_more}
use Rattle.tora_keyed.specs.Links.{cleared}
use Rattle.tora_neighbour.specs.WakingWire.{WireView}
use Rattle.tora_neighbour.specs.declared.waited_socket.PolledSocket.{PolledSocket}
use Rattle.tora_commands.proofs.link_wires.close.Goals as goal

pub loop-wire-preserved : goal.loop-wire-preserved
loop-wire-preserved g c = grind (arith, common_steps, map_over_more (cleared {W = WireView PolledSocket}))
