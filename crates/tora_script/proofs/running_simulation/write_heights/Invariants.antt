use Rattle.std.proofs.Common.{◌≡◌, ◌++◌, string_bytes, take}
use Rattle.tora_script.specs.SimulationText.{heights_text}
use Rattle.tora_script.proofs.running_simulation.write_heights.Given as goal

abbrev pub invariant-loop-n : goal.invariant-loop-n
invariant-loop-n g l = string_bytes l.out ≡ string_bytes l.initial.out ++ heights_text (g.S.Simulator.world l.sim) l.d (take l.n-index l.nodes)
