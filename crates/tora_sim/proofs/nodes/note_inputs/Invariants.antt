use Rattle.std.proofs.Common.{◌≡◌, ◌≤◌, ◌+◌, ◌++◌, map, take, length}
use Rattle.std.specs.Prelude.{vec_len, vec_capacity}
use Rattle.tora_sim.proofs.nodes.note_inputs.Given as goal

abbrev pub invariant-loop-input : goal.invariant-loop-input
invariant-loop-input l =
    (l.inputs.items ≡ l.initial.inputs.items ++ map (λ input. (input, l.now)) (take l.input-index l.accepted))
    × (vec_len l.inputs + length l.accepted ≤ vec_capacity l.inputs + l.input-index)
