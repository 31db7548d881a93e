use Rattle.std.proofs.Common.{◌≡◌, ◌++◌, string_bytes, take}
use Rattle.tora_script.specs.CoreCopies.{route_changes}
use Rattle.tora_script.proofs.trace.route.write_routes.Given as goal

abbrev pub invariant-loop-told : goal.invariant-loop-told
invariant-loop-told l = string_bytes l.out ≡ string_bytes l.initial.out ++ route_changes l.now l.core (take l.told-index l.routes)
