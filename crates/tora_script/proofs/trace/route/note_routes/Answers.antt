use Rattle.std.proofs.Common.{arith}
use Rattle.std.proofs.lemmas.Grind.{common_steps}
use Rattle.std.proofs.lemmas.List.Edits.{map_over_more}
use Rattle.tora_script.specs.CoreCopies.{route_told}
use Rattle.tora_script.proofs.trace.route.note_routes.Goals as goal

pub loop-told-preserved : goal.loop-told-preserved
loop-told-preserved c = grind (arith, common_steps, map_over_more (route_told c.args.core.now))
