use Rattle.std.proofs.Common.{◌∙◌, sym, ap, slice_get, Some}
use Rattle.std.specs.Prelude.{option_map}
use Rattle.tora_sim.specs.Datagrams.{DatagramList}
use Rattle.tora_sim.proofs.SentFrames.{none_at, hello_sent, frame_sent}
use Rattle.tora_sim.proofs.store.datagrams.Datagrams.get.Goals as goal

pub returns-in_default : goal.returns-in_default
returns-in_default c =
    none_at c.self.inside.frames.items c.self.inside.kept.items c.self.inside.places.items c.self.invariant.0 c.args.place (sym c.place_at.ensures ∙ c.in_default.is)
    ∙ ap (λ (d : DatagramList). slice_get d.items c.args.place) c.self.view_is

pub returns-in-Some-hello_at : goal.returns-in-Some-hello_at
returns-in-Some-hello_at c =
    let d = c.self.inside in
    ap Some c.hello.ensures
    ∙ hello_sent d.frames.items d.kept.items d.places.items c.self.invariant.0 c.args.place c.in-Some.at c.in-Some-hello_at.header (sym c.place_at.ensures ∙ c.in-Some.is)
    (sym c.hello_at.ensures.header ∙ ap (option_map (λ told. told.0)) c.in-Some-hello_at.is)
    ∙ ap (λ (d : DatagramList). slice_get d.items c.args.place) c.self.view_is

pub returns-in-None : goal.returns-in-None
returns-in-None c =
    let d = c.self.inside in
    c.get.ensures
    ∙ frame_sent d.frames.items d.kept.items d.places.items c.self.invariant.0 c.args.place c.in-Some.at (sym c.place_at.ensures ∙ c.in-Some.is)
    (sym c.hello_at.ensures.header ∙ ap (option_map (λ told. told.0)) c.in-None.is)
    ∙ ap (λ (d : DatagramList). slice_get d.items c.args.place) c.self.view_is
