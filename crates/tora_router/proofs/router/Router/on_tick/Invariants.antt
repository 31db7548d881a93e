use Rattle.std.proofs.Common.{◌≡◌, length}
use Rattle.tora_router.specs.Router.{router_of, ticked_before}
use Rattle.tora_router.proofs.router.Router.on_tick.Given as goal

abbrev pub invariant-loop-place : goal.invariant-loop-place
invariant-loop-place l = record {
  ticked : router_of l.self ≡ ticked_before l.place l.now (router_of l.initial.self);
  same_count : length l.self.links ≡ length l.initial.self.links;
}
