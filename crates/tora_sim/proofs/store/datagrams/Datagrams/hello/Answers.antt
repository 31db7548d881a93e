use Rattle.std.proofs.Common.{◌≡◌, ◌∙◌, sym, ap, subst, slice_get, Option, Some}
use Rattle.std.specs.Prelude.{IfSome}
use Rattle.tora_frame.specs.FrameParts.{FrameParts, frame_of}
use Rattle.tora_frame.specs.declared.parts.Body.TheVariants.{Hello}
use Rattle.tora_sim.specs.Datagrams.{DatagramList}
use Rattle.tora_sim.proofs.SentFrames.{told_sent}
use Rattle.tora_sim.proofs.store.datagrams.Datagrams.hello.Goals as goal

pub returns-clause-hello : goal.returns-clause-hello
returns-clause-hello c =
    let d = c.self.inside in
    subst (λ (o : Option FrameParts). IfSome c.hello_at.result (λ told. o ≡ Some (frame_of told.0 Hello)))
    (ap (λ (d : DatagramList). slice_get d.items c.args.place) c.self.view_is)
    (told_sent d.frames.items d.kept.items d.places.items c.self.invariant.0 c.args.place c.in-Some.at c.hello_at.result (sym c.place_at.ensures ∙ c.in-Some.is) c.hello_at.ensures.header)
