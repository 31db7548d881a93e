use Rattle.std.proofs.Common.{ℕ, List, ◌∷◌, [], ◌++◌, sym, ap, ◌∙◌, subst}
use Rattle.tora_sim.specs.Datagrams.{DatagramList}
use Rattle.tora_sim.specs.SentFrames.{AreWithin, sent_frames}
use Rattle.tora_sim.proofs.EachItem.{kept_last}
use Rattle.tora_sim.proofs.SentFrames.{one_more, all_within, frame_here, no_more}
use Rattle.tora_sim.proofs.store.datagrams.Datagrams.push_frame.Goals as goal

pub returns : goal.returns
returns c =
    let d = c.self.inside in
    let p = c.push-place in
    let after = p.new.self.items in
    let is = frame_here after d.kept.items p.result c.args.frame.now p.ensures.low (kept_last d.frames.items after c.args.frame.now p.result p.ensures.items p.ensures.place) in
    ap (sent_frames after d.kept.items) c.push_reserved.ensures.items
    ∙ one_more d.frames.items after d.kept.items d.kept.items d.places.items p.result c.args.frame.now (c.args.frame.now ∷ [], p.ensures.items) (no_more d.kept.items) is c.self.invariant.0
    ∙ ap (λ (v : DatagramList). v.items ++ c.args.frame.now ∷ []) c.self.view_is

pub invariant_of-self : goal.invariant_of-self
invariant_of-self c =
    let d = c.self.inside in
    let p = c.push-place in
    let after = p.new.self.items in
    let is = frame_here after d.kept.items p.result c.args.frame.now p.ensures.low (kept_last d.frames.items after c.args.frame.now p.result p.ensures.items p.ensures.place) in (
      subst (λ (places : List ℕ). AreWithin after d.kept.items places) (sym c.push_reserved.ensures.items)
          (all_within d.frames.items after d.kept.items d.kept.items d.places.items p.result c.args.frame.now (c.args.frame.now ∷ [], p.ensures.items) (no_more d.kept.items) is c.self.invariant.0),
      c.self.invariant.1,
    )
