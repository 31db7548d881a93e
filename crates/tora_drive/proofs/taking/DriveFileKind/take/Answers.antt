use Rattle.std.proofs.Common.{string_bytes}
use Rattle.tora_drive.specs.DriveView.{view_of}
use Rattle.tora_drive.proofs.DriveLaws.{goes}
use Rattle.tora_drive.proofs.taking.DriveFileKind.take.Goals as goal

pub returns : goal.returns
returns g c =
    let world = g.S.Simulator.world in
    let d = c.args.self.now in
    let e = c.reply.new.self in
    goes d.setup e.setup (view_of world d) (view_of world e) c.args.line.now (string_bytes c.reply.new.text) c.requires.short c.reply.ensures.setup c.in_ok-reply.ensures.answer
