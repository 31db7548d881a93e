use Rattle.tora_lines.proofs.Pending.{keeps_not}
use Rattle.tora_lines.proofs.engine.end_line.Goals as goal

pub returns-then-not-branch-clause-line : goal.returns-then-not-branch-clause-line
returns-then-not-branch-clause-line g c =
    let k = rw c.if-not-branch.true at c.in_ok-keep.ensures in
    keeps_not g.K.FileKind.kind c.args.session.now.state c.args.session.now.state c.args.pending.now.items c.args.end.now c.keep.new.pending.items (g.W.Write.contents c.args.writer.now) k
