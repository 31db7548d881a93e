use Rattle.std.proofs.Common.{sym, take}
use Rattle.std.proofs.lemmas.Result.{err_from_is_err_and}
use Rattle.tora_lines.proofs.Flow.{Prints-then}
use Rattle.tora_lines.proofs.Steps.{line_faults, line_stops, Stops-then, runs_on}
use Rattle.tora_lines.proofs.engine.drain.Goals as goal

pub returns-in_err-answer-clause-text : goal.returns-in_err-answer-clause-text
returns-in_err-answer-clause-text g c =
    let p = err_from_is_err_and c.from_residual.result c.from_residual.ensures.1 in
    let h = c.in_err-answer.ensures.text in
    rw (p.1, p.2) (Stops-then g.K.FileKind.kind c.args.session.now.state c.args.number.now c.args.text.now (g.W.Write.contents c.args.writer.now) (g.W.Write.contents c.loop-at.writer) (g.W.Write.contents c.answer.new.writer)
    c.loop-at.session.state c.loop-at.number c.loop-at.rest.now c.in_err-answer.field-0.0 c.loop-at.invariant.prints
    (line_stops g.K.FileKind.kind c.loop-at.session.state c.loop-at.number c.loop-at.rest.now (take c.in-Some.at c.loop-at.rest.now) c.answer.new.session.state (g.W.Write.contents c.loop-at.writer) (g.W.Write.contents c.answer.new.writer) c.in_err-answer.field-0.0 h))

pub returns-then-not-branch-clause-text : goal.returns-then-not-branch-clause-text
returns-then-not-branch-clause-text g c =
    let h = rw c.if-not-branch.true at c.in_ok-answer.ensures.text in
    Prints-then g.K.FileKind.kind c.args.session.now.state c.args.number.now c.args.text.now (g.W.Write.contents c.args.writer.now) (g.W.Write.contents c.loop-at.writer) (g.W.Write.contents c.answer.new.writer)
    c.loop-at.session.state c.loop-at.number c.loop-at.rest.now _ c.loop-at.invariant.prints
    (line_faults g.K.FileKind.kind c.loop-at.session.state c.loop-at.number c.in-Some.at c.loop-at.rest.now (g.W.Write.contents c.loop-at.writer) (g.W.Write.contents c.answer.new.writer) (sym c.in-Some.ensures) h.0 h.1)

pub loop-at-preserved : goal.loop-at-preserved
loop-at-preserved g c =
    let h = rw c.if-not-branch.false at c.in_ok-answer.ensures.text in
    runs_on g.K.FileKind.kind c.args.session.now.state c.args.number.now c.args.text.now (g.W.Write.contents c.args.writer.now) (g.W.Write.contents c.loop-at.writer) (g.W.Write.contents c.answer.new.writer)
    c.loop-at.session.state c.loop-at.number c.loop-at.rest.now c.in-Some.at c.answer.new.session.state c.loop-at.invariant (sym c.in-Some.ensures) h
