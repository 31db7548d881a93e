use Rattle.std.proofs.Common.{◌∙◌, ap}
use Rattle.tora_script.specs.Trace.{owners_of}
use Rattle.tora_script.proofs.CopyOwners.{owners_set}
use Rattle.tora_script.proofs.trace.trace.Trace.restart.Goals as goal

pub place-requires : goal.place-requires
place-requires c = ap owners_of c.as_slice.ensures.value ∙ c.self.invariant

pub invariant_of-self : goal.invariant_of-self
invariant_of-self c = owners_set c.self.inside.copies.items c.in-Some.at c.index_mut.result.now c.restart.new.self c.index_mut.ensures.value c.restart.ensures.me ∙ c.self.invariant
