use Rattle.std.proofs.Common.{◌≡◌, ◌≤◌, ◌+◌, ℕ}
use Rattle.tora_router.specs.Links.{waiting}
use Rattle.tora_router.specs.Router.{router_of}
use Rattle.tora_router.proofs.Settling.{SettledSoFar}
use Rattle.tora_router.proofs.router.Router.settle.Given as goal

abbrev pub invariant-events : goal.invariant-events
invariant-events l = SettledSoFar l.now (router_of l.initial.self) (router_of l.self)

abbrev pub decreases-events : goal.decreases-events
decreases-events l = waiting l.self.links
