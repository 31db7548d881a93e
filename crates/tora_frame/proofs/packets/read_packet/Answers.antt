use Rattle.std.proofs.Common.{refl}
use Rattle.tora_frame.proofs.PacketLists.{read_as, refused_as}
use Rattle.tora_frame.proofs.packets.read_packet.Goals as goal

pub returns-in-Ok-clause-exact : goal.returns-in-Ok-clause-exact
returns-in-Ok-clause-exact c =
    let i = read_as c.args.bytes.now c.in-Ok.packet c.in-Ok.ensures.exact in
    rw (i.0, i.1) refl

pub returns-in-Err-clause-exact : goal.returns-in-Err-clause-exact
returns-in-Err-clause-exact c = rw (refused_as c.args.bytes.now c.in-Err.error c.in-Err.ensures.exact) refl
