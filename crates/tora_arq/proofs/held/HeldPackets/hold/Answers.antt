use Rattle.std.proofs.Common.{◌≡◌, ◌+◌, Option, length, sym, ap, ◌∙◌, arith}
use Rattle.circular_buffer.specs.Buffer.{Buffer}
use Rattle.tora_packet.specs.declared.Packet.{Packet}
use Rattle.std.specs.Option.{option_copied}
use Rattle.tora_arq.specs.Held.{padded}
use Rattle.tora_arq.proofs.HeldLemmas.{padded_within, none_past}
use Rattle.tora_arq.proofs.held.HeldPackets.hold.Goals as goal

pub unreachable-requires : goal.unreachable-requires
unreachable-requires c =
    let items : length c.self.inside.ring.items ≡ length (padded (c.args.place + 1) c.args.self.now.items) = ap (λ (b : Buffer (Option Packet)). length b.items) (c.self.view_is ∙ c.pad.ensures) in
    let past = none_past c.self.inside.ring.items c.args.place (sym c.get.ensures ∙ ap option_copied c.in_default.is) in
    omega (arith, items, past, padded_within (c.args.place + 1) c.args.self.now.items)
