use Rattle.std.proofs.Common.{sym, arith}
use Rattle.std.proofs.lemmas.List.{nil_from_length}
use Rattle.std.proofs.lemmas.Bool.{eqb-true, eqb-false}
use Rattle.tora_lines.proofs.Ends.{finish_none, finish_line, finish_fault}
use Rattle.tora_lines.proofs.engine.finish.Goals as goal

pub returns-then-is_empty-clause-text : goal.returns-then-is_empty-clause-text
returns-then-is_empty-clause-text g c =
    finish_none g.K.FileKind.kind c.args.session.now.state c.args.number c.args.last.now (g.W.Write.contents c.args.writer.now) (g.W.Write.contents c.close.new.writer) c.close.result
    (nil_from_length c.args.last.now (eqb-true _ _ (sym c.if-is_empty.ensures))) c.close.ensures.text

pub returns-then-branch-clause-text : goal.returns-then-branch-clause-text
returns-then-branch-clause-text g c =
    let a = rw c.if-branch.true at c.in_ok-answer.ensures.text in
    let n = eqb-false _ _ (sym c.if-is_empty.ensures) in
    finish_line g.K.FileKind.kind c.args.session.now.state c.args.number c.args.last.now (g.W.Write.contents c.args.writer.now) (g.W.Write.contents c.answer.new.writer) (g.W.Write.contents c.close-then-branch.new.writer) c.answer.new.session.state c.close-then-branch.result
    c.requires.is_open (omega (arith, n)) a c.close-then-branch.ensures.text

pub returns-else-branch-clause-text : goal.returns-else-branch-clause-text
returns-else-branch-clause-text g c =
    let a = rw c.if-branch.false at c.in_ok-answer.ensures.text in
    let n = eqb-false _ _ (sym c.if-is_empty.ensures) in
    finish_fault g.K.FileKind.kind c.args.session.now.state c.args.number c.args.last.now (g.W.Write.contents c.args.writer.now) (g.W.Write.contents c.answer.new.writer) (g.W.Write.contents c.fault.new.writer) c.fault.result
    c.requires.is_open (omega (arith, n)) a.0 a.1 c.fault.ensures.text
