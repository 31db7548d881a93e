use Rattle.std.proofs.Common.{◌≡◌, ℕ, List, ◌∷◌, [], ◌++◌, length, sym, ap, ◌∙◌, subst, arith, length-append}
use Rattle.tora_frame.specs.FrameParts.{frame_of}
use Rattle.tora_frame.specs.declared.parts.Header.{Header}
use Rattle.tora_frame.specs.declared.parts.Version.TheVariants.{One}
use Rattle.tora_frame.specs.declared.parts.Body.TheVariants.{Hello}
use Rattle.tora_sim.specs.Datagrams.{DatagramList}
use Rattle.tora_sim.specs.SentFrames.{AreWithin, in_version, sent_frames}
use Rattle.tora_sim.proofs.EachItem.{kept_last}
use Rattle.tora_sim.proofs.SentFrames.{new_hello, new_within}
use Rattle.tora_sim.proofs.store.datagrams.Datagrams.push_new_hello.Goals as goal

pub returns : goal.returns
returns c =
    let d = c.self.inside in
    let header = c.args.header.now in
    let after = c.push_reserved.new.self.items in
    let new : after ≡ d.kept.items ++ in_version One header ∷ [] = c.push_reserved.ensures.items ∙ ap (λ (h : Header). d.kept.items ++ h ∷ []) c.new.ensures in
    ap (sent_frames d.frames.items after) c.push_reserved-2.ensures.items
    ∙ new_hello d.frames.items d.kept.items after d.places.items c.place_of.result c.len-index.result header new
    (kept_last d.kept.items after (in_version One header) c.len-index.result new (omega (arith, c.len-index.ensures, d.kept.ok.0))) (c.place_of.ensures after) c.self.invariant.0
    ∙ ap (λ (v : DatagramList). v.items ++ frame_of header Hello ∷ []) c.self.view_is

pub invariant_of-self : goal.invariant_of-self
invariant_of-self c =
    let d = c.self.inside in
    let header = c.args.header.now in
    let after = c.push_reserved.new.self.items in
    let new : after ≡ d.kept.items ++ in_version One header ∷ [] = c.push_reserved.ensures.items ∙ ap (λ (h : Header). d.kept.items ++ h ∷ []) c.new.ensures in (
      subst (λ (places : List ℕ). AreWithin d.frames.items after places) (sym c.push_reserved-2.ensures.items)
          (new_within d.frames.items d.kept.items after d.places.items c.place_of.result c.len-index.result header new
          (kept_last d.kept.items after (in_version One header) c.len-index.result new (omega (arith, c.len-index.ensures, d.kept.ok.0))) (c.place_of.ensures after) c.self.invariant.0),
      omega (arith, ap length new, length-append d.kept.items (in_version One header ∷ []), c.requires.room.0, ap (λ (v : DatagramList). v.places) c.self.view_is),
    )
