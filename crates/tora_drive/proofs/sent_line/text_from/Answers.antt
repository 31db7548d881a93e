use Rattle.std.proofs.Common.{◌-◌, length, drop, sym, subst, arith}
use Rattle.std.specs.Str.{IsUtf8}
use Rattle.std.proofs.lemmas.List.{take_all, length-drop}
use Rattle.std.proofs.lemmas.Str.{IsUtf8-from_ascii}
use Rattle.tora_drive.proofs.sent_line.text_from.Goals as goal

pub unreachable-requires : goal.unreachable-requires
unreachable-requires c =
    let room = c.args.room.now in
    let rest = take_all (length room - c.args.at) (drop c.args.at room) (omega (arith, length-drop c.args.at room)) in
    c.in_default.ensures.cases.0 (subst IsUtf8 (sym rest) (IsUtf8-from_ascii (drop c.args.at room) c.requires.ascii))
