use Rattle.std.proofs.Common.{◌≡◌, ◌++◌, string_bytes, take}
use Rattle.tora_script.specs.SimulationText.{rest_text}
use Rattle.tora_script.proofs.running_simulation.write_rest.Given as goal

abbrev pub invariant-loop-n : goal.invariant-loop-n
invariant-loop-n l = string_bytes l.out ≡ string_bytes l.initial.out ++ rest_text (take l.n-index l.nodes)
