use Rattle.std.proofs.Common.{string_bytes, sym, ◌∙◌}
use Rattle.tora_drive.specs.DriveView.{view_of}
use Rattle.tora_drive.proofs.DriveLaws.{notice_goes, other_goes}
use Rattle.tora_drive.proofs.recorded.RecordingFileKind.take.Goals as goal

pub returns-then-says_notice : goal.returns-then-says_notice
returns-then-says_notice g c =
    let world = g.S.Simulator.world in
    let d = c.args.self.now.drive in
    let e = c.refuse.new.self in
    notice_goes d.setup e.setup (view_of world d) (view_of world e) c.args.line.now (string_bytes c.refuse.new.text) c.requires.short c.refuse.ensures.setup (sym c.says_notice.ensures ∙ c.if-says_notice.true) c.in_ok-refuse.ensures.answer

pub returns : goal.returns
returns g c =
    let world = g.S.Simulator.world in
    let d = c.args.self.now.drive in
    let e = c.reply.new.self in
    other_goes d.setup e.setup (view_of world d) (view_of world e) c.args.line.now (string_bytes c.reply.new.text) c.requires.short c.reply.ensures.setup (sym c.says_notice.ensures ∙ c.if-says_notice.false) c.in_ok-reply.ensures.answer
