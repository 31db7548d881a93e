use Rattle.std.proofs.Common.{◌≡◌, string_bytes, take}
use Rattle.tora_script.specs.CoreCopies.{after_inputs}
use Rattle.tora_script.proofs.trace.core_copy.CoreCopy.step_all.Given as goal

abbrev pub invariant-loop-input : goal.invariant-loop-input
invariant-loop-input l = record {
  told : (l.self, string_bytes l.out) ≡ after_inputs l.life (take l.input-index l.inputs) (l.initial.self, string_bytes l.initial.out);
  me : l.self.core.me ≡ l.initial.self.core.me;
}
