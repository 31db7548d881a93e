use Rattle.std.proofs.Common.{ℕ, List, ◌∷◌, ◌+◌, get_or, drop, sym, subst, arith, ◌∙◌}
use Rattle.std.proofs.lemmas.Bool.{ne_eqb}
use Rattle.std.proofs.lemmas.List.{drop_all}
use Rattle.std.proofs.lemmas.Result.{err_from_is_err_and}
use Rattle.tora_lines.specs.Engine.{IsOpen}
use Rattle.tora_lines.specs.Shortened.{Holds, Takes}
use Rattle.tora_lines.proofs.ShortenedLaws.{bytes_at, takes_byte, takes_line, stops_at_line, stops_at_error, when_ok}
use Rattle.tora_lines.proofs.shortened.take_bytes.Goals as goal
use Rattle.tora_lines.proofs.shortened.take_bytes.Goals.{then-byte-eq10+in_ok-answer+else-not-branch, else-byte-eq10+else-is_err}

pub returns-in_err-answer-clause-text : goal.returns-in_err-answer-clause-text
returns-in_err-answer-clause-text g c = λ text holds whole.
    let r = err_from_is_err_and c.from_residual.result c.from_residual.ensures.1 in
    rw (r.1, r.2) (stops_at_error g.K.FileKind.kind c.args.session.now.state c.args.number.now text c.args.bytes.now (drop c.loop-byte.byte-index c.args.bytes.now)
    (g.W.Write.contents c.args.writer.now) (g.W.Write.contents c.loop-byte.writer) (g.W.Write.contents c.answer.new.writer) c.loop-byte.session.state c.loop-byte.number c.loop-byte.held c.shortened.result.now c.answer.new.session.state c.answer.new.session.state c.loop-byte.number c.loop-byte.held
    c.in_err-answer.field-0.0 (c.loop-byte.invariant.takes text holds whole) c.in_err-answer.ensures.text)

pub returns-then-not-branch-clause-text : goal.returns-then-not-branch-clause-text
returns-then-not-branch-clause-text g c = λ text holds whole.
    let i = c.loop-byte.byte-index in
    let p = subst (λ (t : List ℕ). Takes g.K.FileKind.kind c.args.session.now.state c.args.number.now text c.args.bytes.now (g.W.Write.contents c.args.writer.now) (g.W.Write.contents c.loop-byte.writer) c.loop-byte.session.state c.loop-byte.number c.loop-byte.held t)
    (bytes_at i c.args.bytes.now c.loop-byte-test.true) (c.loop-byte.invariant.takes text holds whole) in
    let a = rw c.if-not-branch.true at c.in_ok-answer.ensures.text in
    stops_at_line g.K.FileKind.kind c.args.session.now.state c.args.number.now text c.args.bytes.now (drop (i + 1) c.args.bytes.now) (g.W.Write.contents c.args.writer.now) (g.W.Write.contents c.loop-byte.writer) (g.W.Write.contents c.answer.new.writer)
    c.loop-byte.session.state c.loop-byte.number c.loop-byte.held (get_or c.args.bytes.now i 0) c.shortened.result.now p c.if-byte-eq10.true (c.shortened.ensures p.rest p.holds) a.0 a.1

pub loop-byte-preserved : goal.loop-byte-preserved
loop-byte-preserved g c =
    let i = c.loop-byte.byte-index in
    let kind = g.K.FileKind.kind in
    let w0 = g.W.Write.contents c.args.writer.now in
    let w1 = g.W.Write.contents c.loop-byte.writer in
    let left = drop (i + 1) c.args.bytes.now in
    let byte = get_or c.args.bytes.now i 0 in
    let at : (text : List ℕ) → Holds c.args.held.now text → IsOpen text → Takes kind c.args.session.now.state c.args.number.now text c.args.bytes.now w0 w1 c.loop-byte.session.state c.loop-byte.number c.loop-byte.held (byte ∷ left) = λ text holds whole.
    subst (λ (t : List ℕ). Takes kind c.args.session.now.state c.args.number.now text c.args.bytes.now w0 w1 c.loop-byte.session.state c.loop-byte.number c.loop-byte.held t) (bytes_at i c.args.bytes.now c.loop-byte-test.true) (c.loop-byte.invariant.takes text holds whole) in
    elim c.if-byte-eq10.branch [
      | then-byte-eq10+in_ok-answer+else-not-branch w ↦ rw (w.session-is, w.number-is, w.writer-is, w.held-is) (record {
        takes = λ text holds whole.
            let p = at text holds whole in
            let a = rw w.if-not-branch.false at w.in_ok-answer.ensures.text in
            takes_line kind c.args.session.now.state c.args.number.now text c.args.bytes.now left w0 w1 (g.W.Write.contents w.answer.new.writer) c.loop-byte.session.state c.loop-byte.number c.loop-byte.held w.clear.new.self byte w.answer.new.session.state w.shortened.result.now
            p w.if-byte-eq10.true (w.shortened.ensures p.rest p.holds) a w.clear.ensures;
        count = omega (arith, c.loop-byte.invariant.count);
      })
      | else-byte-eq10+else-is_err w ↦ rw (w.session-is, w.number-is, w.writer-is, w.held-is) (record {
        takes = λ text holds whole.
            takes_byte kind c.args.session.now.state c.args.number.now text c.args.bytes.now left w0 w1 c.loop-byte.session.state c.loop-byte.number c.loop-byte.held w.push.new.self byte
            (at text holds whole) (ne_eqb _ 10 w.if-byte-eq10.false) (when_ok w.push.result _ (sym w.is_err.ensures.value ∙ w.if-is_err.false) w.push.ensures);
        count = omega (arith, c.loop-byte.invariant.count);
      })
    ]

pub returns-clause-text : goal.returns-clause-text
returns-clause-text g c = λ text holds whole.
    subst (λ (t : List ℕ). Takes g.K.FileKind.kind c.args.session.now.state c.args.number.now text c.args.bytes.now (g.W.Write.contents c.args.writer.now) (g.W.Write.contents c.loop-byte.writer) c.loop-byte.session.state c.loop-byte.number c.loop-byte.held t)
    (drop_all c.loop-byte.byte-index c.args.bytes.now c.loop-byte-test.false) (c.loop-byte.invariant.takes text holds whole)
