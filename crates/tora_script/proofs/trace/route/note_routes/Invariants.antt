use Rattle.std.proofs.Common.{◌≡◌, ◌++◌, map, take, drop}
use Rattle.tora_script.specs.CoreCopies.{route_told}
use Rattle.tora_script.proofs.trace.route.note_routes.Given as goal

-- the routes so far are stored as recorded, the others are not
abbrev pub invariant-loop-told : goal.invariant-loop-told
invariant-loop-told l = l.routes ≡ map (route_told l.core) (take l.told-index l.initial.routes) ++ drop l.told-index l.initial.routes
