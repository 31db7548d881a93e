use Rattle.std.proofs.Common.{sym, ◌++◌, ◌+◌, take}
use Rattle.std.proofs.lemmas.Result.{err_from_is_err_and}
use Rattle.tora_lines.proofs.Steps.{tail_is}
use Rattle.tora_lines.proofs.Pending.{joined, joined_faults, joined_stops, joined_taken, keeps_left, still_open}
use Rattle.tora_lines.proofs.engine.take_chunk.Goals as goal

pub returns-in_default-clause-text : goal.returns-in_default-clause-text
returns-in_default-clause-text g c =
    keeps_left g.K.FileKind.kind c.args.session.now.state c.args.number.now (c.args.pending.now.items ++ c.args.chunk.now) (g.W.Write.contents c.args.writer.now) (g.W.Write.contents c.args.writer.now)
    c.args.session.now.state c.args.number.now c.args.pending.now.items c.args.chunk.now c.keep.new.pending.items c.keep.result
    (still_open g.K.FileKind.kind c.args.session.now.state c.args.number.now c.args.pending.now.items c.args.chunk.now (g.W.Write.contents c.args.writer.now) c.requires.is_open (sym c.in_default.ensures)) c.keep.ensures

pub returns-in_err-end_line-clause-text : goal.returns-in_err-end_line-clause-text
returns-in_err-end_line-clause-text g c =
    let p = err_from_is_err_and c.from_residual.result c.from_residual.ensures.1 in
    rw (p.1, p.2) (joined_stops g.K.FileKind.kind c.args.session.now.state c.args.number.now (c.args.pending.now.items ++ c.args.chunk.now) (c.args.pending.now.items ++ take c.in-Some.at c.args.chunk.now) c.end_line.new.session.state (g.W.Write.contents c.args.writer.now) (g.W.Write.contents c.end_line.new.writer)
    c.in_err-end_line.field-0.0 c.in_err-end_line.ensures.line)

pub returns-then-not-branch-clause-text : goal.returns-then-not-branch-clause-text
returns-then-not-branch-clause-text g c =
    let h = rw c.if-not-branch.true at c.in_ok-end_line.ensures.line in
    joined_faults g.K.FileKind.kind c.args.session.now.state c.args.number.now c.args.pending.now.items c.args.chunk.now _ _ (g.W.Write.contents c.args.writer.now) (g.W.Write.contents c.end_line.new.writer)
    (joined c.args.pending.now.items c.args.chunk.now c.in-Some.at c.requires.is_open (sym c.in-Some.ensures)) h

pub returns-clause-text : goal.returns-clause-text
returns-clause-text g c =
    let h = rw c.if-not-branch.false at c.in_ok-end_line.ensures.line in
    let t = rw (tail_is (c.in-Some.at + 1) c.args.chunk.now) at c.take_rest.ensures.text in
    joined_taken g.K.FileKind.kind c.args.session.now.state c.args.number.now c.args.pending.now.items c.args.chunk.now c.in-Some.at c.end_line.new.session.state
    (g.W.Write.contents c.args.writer.now) (g.W.Write.contents c.end_line.new.writer) (g.W.Write.contents c.take_rest.new.writer) c.take_rest.new.session.state c.take_rest.new.number c.take_rest.new.pending.items c.take_rest.result
    c.requires.is_open (sym c.in-Some.ensures) h t
