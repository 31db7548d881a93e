use Rattle.std.proofs.Common.{refl}
use Rattle.tora_router.specs.Links.{given}
use Rattle.tora_router.proofs.Places.{set_as}
use Rattle.tora_router.proofs.links.LinksOutLanes.offer.Goals as goal

pub returns-clause-offered : goal.returns-clause-offered
returns-clause-offered c = (refl, set_as (given c.args.cargo) c.args.place c.self.inside.list.items c.args.self.now c.index_mut.result.now c.give.new.self c.self.view_is c.index_mut.ensures.value c.give.ensures)
