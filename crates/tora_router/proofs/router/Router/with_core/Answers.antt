use Rattle.std.proofs.Common.{ap, ◌∙◌}
use Rattle.std.specs.Prelude.{map}
use Rattle.tora_router.specs.Router.{new_hop}
use Rattle.tora_router.proofs.News.{new_router}
use Rattle.tora_router.proofs.router.Router.with_core.Goals as goal

pub returns : goal.returns
returns c =
    new_router c.args.core c.args.times c.args.first_life c.in-Ok-new.seat c.in-Some.links c.in-Ok.hops.items c.in-Ok-new.ensures c.in-Some.ensures (c.in-Ok.ensures ∙ ap (map new_hop) c.destinations.ensures)
