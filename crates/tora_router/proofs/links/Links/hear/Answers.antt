use Rattle.std.proofs.Common.{refl}
use Rattle.tora_frame.specs.FrameGrammar.{frame_reading}
use Rattle.tora_router.specs.Links.{heard}
use Rattle.tora_router.proofs.Places.{set_as}
use Rattle.tora_router.proofs.links.Links.hear.Goals as goal

pub returns-clause-heard : goal.returns-clause-heard
returns-clause-heard c = set_as (heard c.args.now (frame_reading c.args.datagram.now)) c.args.place c.self.inside.list.items c.args.self.now c.index_mut.result.now c.hear.new.self c.self.view_is c.index_mut.ensures.value c.hear.ensures.heard
