use Rattle.std.proofs.Common.{◌∙◌, sym, ap, map}
use Rattle.std.proofs.lemmas.List.{take_all}
use Rattle.tora_script.specs.Trace.{first_copy_of, owners_of}
use Rattle.tora_script.proofs.CopyOwners.{owners_first}
use Rattle.tora_script.proofs.trace.trace.Trace.new.Goals as goal

pub invariant_of-result : goal.invariant_of-result
invariant_of-result c =
    ap owners_of (c.loop-n.invariant.copies ∙ ap (map (first_copy_of c.args.erasure c.args.choices.now c.args.ends.now c.args.destinations.now)) (take_all c.loop-n.n-index c.args.nodes.now c.loop-n-test.false))
    ∙ owners_first c.args.erasure c.args.choices.now c.args.ends.now c.args.destinations.now c.args.nodes.now ∙ sym c.in-Ok.ensures
