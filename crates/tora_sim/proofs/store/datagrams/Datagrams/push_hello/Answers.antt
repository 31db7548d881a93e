use Rattle.std.proofs.Common.{◌∷◌, [], ◌++◌, ap, ◌∙◌}
use Rattle.tora_frame.specs.FrameParts.{frame_of}
use Rattle.tora_frame.specs.declared.parts.Body.TheVariants.{Hello}
use Rattle.tora_sim.specs.Datagrams.{DatagramList}
use Rattle.tora_sim.specs.SentFrames.{sent_frames}
use Rattle.tora_sim.proofs.SentFrames.{one_more_hello}
use Rattle.tora_sim.proofs.store.datagrams.Datagrams.push_hello.Goals as goal

pub returns-in-Some : goal.returns-in-Some
returns-in-Some c =
    let d = c.self.inside in
    ap (sent_frames d.frames.items d.kept.items) c.push_reserved.ensures.items
    ∙ one_more_hello d.frames.items d.kept.items d.places.items c.in-Some.place c.args.header.now c.in-Some.ensures c.self.invariant.0
    ∙ ap (λ (v : DatagramList). v.items ++ frame_of c.args.header.now Hello ∷ []) c.self.view_is
