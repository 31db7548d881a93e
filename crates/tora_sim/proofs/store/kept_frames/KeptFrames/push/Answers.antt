use Rattle.std.proofs.Common.{◌∷◌, [], ◌++◌, ap, ◌∙◌}
use Rattle.tora_frame.specs.declared.parts.Header.{Header}
use Rattle.tora_frame.specs.FrameParts.{frame_of}
use Rattle.tora_sim.specs.Datagrams.{DatagramList, body_in}
use Rattle.tora_sim.proofs.KeptFrames.{pushed, pushed_kept}
use Rattle.tora_sim.proofs.store.kept_frames.KeptFrames.push.Goals as goal

pub invariant_of-self : goal.invariant_of-self
invariant_of-self c =
    let s = c.self.inside in
    let ys = c.keep_body-body.new.packets.items in
    pushed_kept s.packets.items ys s.frames.items c.push_reserved.new.self.items _ c.args.frame.now c.keep_body-body.ensures.more
    (ap (λ (h : Header). frame_of h (body_in ys c.keep_body-body.result)) c.header-header.ensures.value ∙ ap (frame_of c.args.frame.now.header) c.keep_body-body.ensures.body)
    c.push_reserved.ensures.items c.self.invariant c.keep_body-body.ensures.within c.keep_body-body.ensures.valid

pub returns-clause-items : goal.returns-clause-items
returns-clause-items c =
    let s = c.self.inside in
    let ys = c.keep_body-body.new.packets.items in
    pushed s.packets.items ys s.frames.items c.push_reserved.new.self.items _ c.args.frame.now c.keep_body-body.ensures.more
    (ap (λ (h : Header). frame_of h (body_in ys c.keep_body-body.result)) c.header-header.ensures.value ∙ ap (frame_of c.args.frame.now.header) c.keep_body-body.ensures.body)
    c.push_reserved.ensures.items c.self.invariant
    ∙ ap (λ (d : DatagramList). d.items ++ c.args.frame.now ∷ []) c.self.view_is
