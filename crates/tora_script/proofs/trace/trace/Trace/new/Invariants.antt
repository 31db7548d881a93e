use Rattle.std.proofs.Common.{◌≡◌, map, take, drop}
use Rattle.tora_script.specs.Trace.{first_copy_of, first_refusal, refusal_of}
use Rattle.tora_script.proofs.trace.trace.Trace.new.Given as goal

abbrev pub invariant-loop-n : goal.invariant-loop-n
invariant-loop-n l = record {
  copies : l.copies.items ≡ map (first_copy_of l.erasure l.choices l.ends l.destinations) (take l.n-index l.nodes);
  none : first_refusal (refusal_of l.ends l.destinations) l.nodes ≡ first_refusal (refusal_of l.ends l.destinations) (drop l.n-index l.nodes);
}
