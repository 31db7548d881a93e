use Rattle.std.proofs.Common.{◌-◌, [], length, drop}
use Rattle.tora_lines.proofs.Steps.{tail_is}
use Rattle.tora_lines.proofs.Pending.{keeps_left}
use Rattle.tora_lines.proofs.engine.take_rest.Goals as goal

pub returns-clause-text : goal.returns-clause-text
returns-clause-text g c =
    let d = rw c.in-Some.is at c.in_ok-left.ensures.text in
    let k = rw (c.requires.empty, tail_is (length c.args.text.now - c.in-Some.left) c.args.text.now) at c.keep.ensures in
    keeps_left g.K.FileKind.kind c.args.session.now.state c.args.number.now c.args.text.now (g.W.Write.contents c.args.writer.now) (g.W.Write.contents c.drain.new.writer)
    c.drain.new.session.state c.drain.new.number [] (drop (length c.args.text.now - c.in-Some.left) c.args.text.now) c.keep.new.pending.items c.keep.result d.1 k
