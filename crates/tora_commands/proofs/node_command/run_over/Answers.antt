use Rattle.std.proofs.Common.{inr, ◌≡◌, length, arith}
use Rattle.tora_commands.proofs.NodeEnds.{answers_of}
use Rattle.tora_commands.proofs.node_command.run_over.Goals as goal

pub returns : goal.returns
returns g c =
    let count : c.len.result ≡ length c.args.devices.disks.items = omega (arith, c.len.ensures) in
    inr (
      c.in-Some-lend.lent.items,
      c.in-Some-lend.ensures,
      answers_of _ _ _ _ _ _ _ _ _ _ _ _ _ _ _ c.in-Some.ensures.node (rw count at (rw c.in-Some-shared.ensures at c.run_node.ensures)),
    )
