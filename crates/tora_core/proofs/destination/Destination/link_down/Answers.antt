use Rattle.std.proofs.Common.{◌≡◌, sym, ap, subst, ℕ, Option}
use Rattle.std.specs.Prelude.{IfSome}
use Rattle.tora_core.specs.declared.Input.TheVariants as In
use Rattle.tora_core.specs.declared.destination.Broadcast.{Broadcast}
use Rattle.tora_core.specs.Table.{TableView}
use Rattle.tora_core.specs.Kept.{MakesPacket}
use Rattle.tora_core.proofs.Broadcasts.{broadcasts-make_packets}
use Rattle.tora_core.proofs.destination.Destination.link_down.Goals as goal

pub packet_to_send-requires : goal.packet_to_send-requires
packet_to_send-requires c =
    let v = c.args.self.now.view in
    let same : v.destination ≡ c.self.inside.destination = sym (ap (λ (t : TableView). t.view.destination) c.self.view_is) in
    let makes = broadcasts-make_packets v (In.LinkDown c.args.k) c.args.now c.requires.kept tt in
    let told = subst (λ (o : Option Broadcast). IfSome o (MakesPacket v.destination)) (sym c.react_to_link_down-broadcast.ensures.broadcast) makes in
    subst (λ (d : ℕ). IfSome c.react_to_link_down-broadcast.result (MakesPacket d)) same told
