use Rattle.std.proofs.Common.{◌≡◌, ◌∙◌, ap, length, arith}
use Rattle.tora_sim.specs.Datagrams.{DatagramList}
use Rattle.tora_sim.specs.SentFrames.{sent_frames}
use Rattle.tora_sim.proofs.SentFrames.{as_many}
use Rattle.tora_sim.proofs.store.datagrams.Datagrams.len.Goals as goal

pub returns : goal.returns
returns c =
    let d = c.self.inside in
    let many : c.len.result ≡ length (sent_frames d.frames.items d.kept.items d.places.items) =
    omega (arith, c.len.ensures, d.places.ok.0, as_many d.frames.items d.kept.items d.places.items c.self.invariant.0) in
    many ∙ ap (λ (d : DatagramList). length d.items) c.self.view_is
