use Rattle.std.proofs.Common.{refl}
use Rattle.tora_router.specs.Links.{cut}
use Rattle.tora_router.proofs.Places.{set_as}
use Rattle.tora_router.proofs.links.Links.cut.Goals as goal

pub returns : goal.returns
returns c = set_as cut c.args.place c.self.inside.list.items c.args.self.now c.index_mut.result.now c.cut.new.self c.self.view_is c.index_mut.ensures.value c.cut.ensures
