use Rattle.tora_lines.proofs.ShortenedLaws.{writes_none, writes_last, writes_fault}
use Rattle.tora_lines.proofs.shortened.finish_held.Goals as goal

pub returns-then-is_empty-clause-text : goal.returns-then-is_empty-clause-text
returns-then-is_empty-clause-text g c = λ text holds whole.
    writes_none g.K.FileKind.kind c.args.session.now.state c.args.number text (g.W.Write.contents c.args.writer.now) (g.W.Write.contents c.close.new.writer) c.close.result (c.is_empty.ensures.none c.if-is_empty.true text holds) c.close.ensures.text

pub returns-then-branch-clause-text : goal.returns-then-branch-clause-text
returns-then-branch-clause-text g c = λ text holds whole.
    let a = rw c.if-branch.true at c.in_ok-answer.ensures.text in
    writes_last g.K.FileKind.kind c.args.session.now.state c.args.number text c.shortened.result.now (g.W.Write.contents c.args.writer.now) (g.W.Write.contents c.answer.new.writer) (g.W.Write.contents c.close-then-branch.new.writer) c.answer.new.session.state c.close-then-branch.result
    whole (c.is_empty.ensures.some c.if-is_empty.false text holds) (c.shortened.ensures text holds) a c.close-then-branch.ensures.text

pub returns-else-branch-clause-text : goal.returns-else-branch-clause-text
returns-else-branch-clause-text g c = λ text holds whole.
    let a = rw c.if-branch.false at c.in_ok-answer.ensures.text in
    writes_fault g.K.FileKind.kind c.args.session.now.state c.args.number text c.shortened.result.now (g.W.Write.contents c.args.writer.now) (g.W.Write.contents c.answer.new.writer) (g.W.Write.contents c.fault.new.writer) c.fault.result
    whole (c.is_empty.ensures.some c.if-is_empty.false text holds) (c.shortened.ensures text holds) a.0 a.1 c.fault.ensures.text
