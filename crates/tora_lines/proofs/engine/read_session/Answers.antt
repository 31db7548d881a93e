use denote.Enum.Bare.{differs_true, differs_false}
use Rattle.std.proofs.Common.{◌+◌, ◌*◌, ◌≤◌, ◌∙◌, arith, length, sym, take, Err}
use Rattle.std.specs.contracts.io.ErrorKind.{the_type}
use Rattle.std.proofs.lemmas.List.{length-take}
use Rattle.std.proofs.lemmas.Result.{err_from_is_err_and}
use Rattle.tora_lines.proofs.Flow.{Consumes-then}
use Rattle.tora_lines.proofs.Whole.{gives_none, keeps_on, takes_chunk, chunk_prints, underway_begun, stops_begun, fault_begun, end_ok, end_begun}
use Rattle.tora_lines.proofs.ReadLaws.{read_more, ends_at_most, ends_at_failure, ends_at_end, ends_before, finished_fine, fault_fine, stops_fine}
use Rattle.tora_lines.proofs.engine.read_session.Goals as goal
use Rattle.tora_lines.proofs.engine.read_session.Goals.{in-Ok-read_some+else-n-eq0+in_ok-goes-in-Ok-read_some+else-not-goes, in-Err+else-ne}

pub returns-clause-begun : goal.returns-clause-begun
returns-clause-begun g c = λ h. underway_begun g.K.FileKind.kind c.args.session.now.state _ _ _ _ _ _ _ _ c.loop.invariant.underway

pub returns-then-n-eq0-clause-begun : goal.returns-then-n-eq0-clause-begun
returns-then-n-eq0-clause-begun g c =
    let b = c.in-Ok-read_some.ensures.bytes in
    let u = gives_none g.K.FileKind.kind c.args.session.now.state c.loop.session.state c.loop.number c.loop.pending.items (g.R.Input.remaining c.args.reader.now) (g.R.Input.remaining c.loop.reader) (g.R.Input.remaining c.read_some.new.reader) (g.W.Write.contents c.args.writer.now) (g.W.Write.contents c.loop.writer) (65536 * c.loop.counter)
    c.in-Ok-read_some.n c.read_some.new.chunk.items c.loop.invariant.underway b.0 c.if-n-eq0.true in
    let f = rw c.as_slice.ensures.value at c.finish.ensures.text in
    end_begun g.K.FileKind.kind c.args.session.now.state _ _ _ _ _ _ _ _ _ c.finish.result u f

pub returns-then-n-eq0-clause-whole : goal.returns-then-n-eq0-clause-whole
returns-then-n-eq0-clause-whole g c =
    let b = c.in-Ok-read_some.ensures.bytes in
    let u = gives_none g.K.FileKind.kind c.args.session.now.state c.loop.session.state c.loop.number c.loop.pending.items (g.R.Input.remaining c.args.reader.now) (g.R.Input.remaining c.loop.reader) (g.R.Input.remaining c.read_some.new.reader) (g.W.Write.contents c.args.writer.now) (g.W.Write.contents c.loop.writer) (65536 * c.loop.counter)
    c.in-Ok-read_some.n c.read_some.new.chunk.items c.loop.invariant.underway b.0 c.if-n-eq0.true in
    let f = rw c.as_slice.ensures.value at c.finish.ensures.text in
    end_ok g.K.FileKind.kind c.args.session.now.state _ _ _ _ _ _ _ _ _ c.finish.result u (b.1 c.if-n-eq0.true (omega (arith, c.in-Ok-read_some.ensures.len, c.loop.invariant.room))) f

pub returns-in_err-goes-in-Ok-read_some-clause-begun : goal.returns-in_err-goes-in-Ok-read_some-clause-begun
returns-in_err-goes-in-Ok-read_some-clause-begun g c =
    let p = err_from_is_err_and c.from_residual.result c.from_residual.ensures.1 in
    let b = c.in-Ok-read_some.ensures.bytes in
    let v = c.as_slice-in-Ok-read_some.ensures.value in
    let t = rw v at c.in_err-goes-in-Ok-read_some.ensures.text in
    rw (p.1, p.2) (stops_begun g.K.FileKind.kind c.args.session.now.state c.loop.session.state c.loop.number c.loop.pending.items (take c.in-Ok-read_some.n c.read_some.new.chunk.items) (g.R.Input.remaining c.args.reader.now) (g.R.Input.remaining c.loop.reader) (g.R.Input.remaining c.read_some.new.reader)
    (g.W.Write.contents c.args.writer.now) (g.W.Write.contents c.loop.writer) (g.W.Write.contents c.take_chunk.new.writer) (65536 * c.loop.counter) c.in_err-goes-in-Ok-read_some.field-0.0 c.loop.invariant.underway b.0 t)

pub returns-then-ne-clause-begun : goal.returns-then-ne-clause-begun
returns-then-ne-clause-begun g c = λ h.
    underway_begun g.K.FileKind.kind c.args.session.now.state c.loop.session.state c.loop.number c.loop.pending.items (g.R.Input.remaining c.args.reader.now) (g.R.Input.remaining c.read_some.new.reader) (g.W.Write.contents c.args.writer.now) (g.W.Write.contents c.loop.writer) (65536 * c.loop.counter)
    (keeps_on g.K.FileKind.kind c.args.session.now.state c.loop.session.state c.loop.number c.loop.pending.items (g.R.Input.remaining c.args.reader.now) (g.R.Input.remaining c.loop.reader) (g.R.Input.remaining c.read_some.new.reader) (g.W.Write.contents c.args.writer.now) (g.W.Write.contents c.loop.writer) (65536 * c.loop.counter) (65536 * c.loop.counter)
    c.loop.invariant.underway c.in-Err.ensures.bytes (omega arith))

pub returns-then-not-goes-clause-begun : goal.returns-then-not-goes-clause-begun
returns-then-not-goes-clause-begun g c =
    let b = c.in-Ok-read_some.ensures.bytes in
    let v = c.as_slice-in-Ok-read_some.ensures.value in
    let t = rw (c.if-not-goes.true, v) at c.in_ok-goes-in-Ok-read_some.ensures.text in
    let u = c.loop.invariant.underway in
    let p = chunk_prints g.K.FileKind.kind c.args.session.now.state c.loop.session.state c.loop.number c.loop.pending.items (take c.in-Ok-read_some.n c.read_some.new.chunk.items) (g.R.Input.remaining c.args.reader.now) (g.R.Input.remaining c.loop.reader)
    (g.W.Write.contents c.args.writer.now) (g.W.Write.contents c.loop.writer) (g.W.Write.contents c.take_chunk.new.writer) (65536 * c.loop.counter) _ u t in
    fault_begun g.K.FileKind.kind c.args.session.now.state _ (g.R.Input.remaining c.args.reader.now) (g.R.Input.remaining c.read_some.new.reader) (g.W.Write.contents c.args.writer.now) (g.W.Write.contents c.take_chunk.new.writer) (g.W.Write.contents c.fault.new.writer) _ c.fault.result
    (Consumes-then (g.R.Input.remaining c.args.reader.now) (g.R.Input.remaining c.loop.reader) (g.R.Input.remaining c.read_some.new.reader) u.given _ u.read b.0) p c.fault.ensures.text

pub returns-clause-reads : goal.returns-clause-reads
returns-clause-reads g c = ends_at_most g.R.Input.did_read c.args.reader.now c.loop.reader c.loop.counter c.loop.invariant.reads (omega (arith, c.loop-test.false, c.loop.auto.counter-end))

pub returns-then-n-eq0-clause-reads : goal.returns-then-n-eq0-clause-reads
returns-then-n-eq0-clause-reads g c =
    ends_at_end g.R.Input.did_read c.args.reader.now c.loop.reader c.read_some.new.reader c.loop.counter c.in-Ok-read_some.n c.read_some.new.chunk.items c.finish.result c.loop.invariant.reads c.in-Ok-read_some.ensures.call c.if-n-eq0.true
    (finished_fine g.K.FileKind.kind _ _ _ _ _ c.finish.result c.finish.ensures.text)

pub returns-in_err-goes-in-Ok-read_some-clause-reads : goal.returns-in_err-goes-in-Ok-read_some-clause-reads
returns-in_err-goes-in-Ok-read_some-clause-reads g c =
    let p = err_from_is_err_and c.from_residual.result c.from_residual.ensures.1 in
    rw (p.1, p.2) (ends_before g.R.Input.did_read c.args.reader.now c.loop.reader c.read_some.new.reader c.loop.counter c.in-Ok-read_some.n c.read_some.new.chunk.items (Err c.in_err-goes-in-Ok-read_some.field-0.0) c.loop.invariant.reads c.in-Ok-read_some.ensures.call
    (stops_fine g.K.FileKind.kind _ _ _ _ _ c.in_err-goes-in-Ok-read_some.field-0.0 c.in_err-goes-in-Ok-read_some.ensures.text))

pub returns-then-ne-clause-reads : goal.returns-then-ne-clause-reads
returns-then-ne-clause-reads g c =
    ends_at_failure g.R.Input.did_read c.args.reader.now c.loop.reader c.read_some.new.reader c.loop.counter _ c.loop.invariant.reads c.in-Err.ensures.call
    (λ h. differs_true the_type _ _ (sym c.ne.ensures ∙ c.if-ne.true) (c.kind.ensures ∙ h))

pub returns-then-not-goes-clause-reads : goal.returns-then-not-goes-clause-reads
returns-then-not-goes-clause-reads g c =
    ends_before g.R.Input.did_read c.args.reader.now c.loop.reader c.read_some.new.reader c.loop.counter c.in-Ok-read_some.n c.read_some.new.chunk.items c.fault.result c.loop.invariant.reads c.in-Ok-read_some.ensures.call
    (fault_fine c.take_chunk.new.number _ _ c.fault.result c.fault.ensures.text)

pub loop-preserved : goal.loop-preserved
loop-preserved g c =
    let u = c.loop.invariant.underway in
    let room = c.loop.invariant.room in
    elim c.match-read_some.branch [
      | in-Ok-read_some+else-n-eq0+in_ok-goes-in-Ok-read_some+else-not-goes w ↦
          let b = w.in-Ok-read_some.ensures in
          let some = take w.in-Ok-read_some.n c.read_some.new.chunk.items in
          let t = rw (w.if-not-goes.false, w.as_slice-in-Ok-read_some.ensures.value) at w.in_ok-goes-in-Ok-read_some.ensures.text in
          let k : 65536 * c.loop.counter + length some ≤ 65536 * (c.loop.counter + 1) = omega (arith, length-take w.in-Ok-read_some.n c.read_some.new.chunk.items, b.bound, b.len, room) in
          let after = takes_chunk g.K.FileKind.kind c.args.session.now.state c.loop.session.state c.loop.number c.loop.pending.items some (g.R.Input.remaining c.args.reader.now) (g.R.Input.remaining c.loop.reader) (g.R.Input.remaining c.read_some.new.reader)
          (g.W.Write.contents c.args.writer.now) (g.W.Write.contents c.loop.writer) (g.W.Write.contents w.take_chunk.new.writer) (65536 * c.loop.counter) (65536 * (c.loop.counter + 1))
          w.take_chunk.new.session.state w.take_chunk.new.number w.take_chunk.new.pending.items u b.bytes.0 t.0 t.1 k in
          rw (w.session-is, w.number-is, w.pending-is, w.writer-is) (record { underway = after; reads = read_more g.R.Input.did_read c.args.reader.now c.loop.reader c.read_some.new.reader c.loop.counter _ c.loop.invariant.reads b.call tt; room = omega (arith, b.len, room) })
      | in-Err+else-ne w ↦
          let b = w.in-Err.ensures in
          let after = keeps_on g.K.FileKind.kind c.args.session.now.state c.loop.session.state c.loop.number c.loop.pending.items (g.R.Input.remaining c.args.reader.now) (g.R.Input.remaining c.loop.reader) (g.R.Input.remaining c.read_some.new.reader) (g.W.Write.contents c.args.writer.now) (g.W.Write.contents c.loop.writer) (65536 * c.loop.counter) (65536 * (c.loop.counter + 1))
          u b.bytes (omega arith) in
          rw (w.session-is, w.number-is, w.pending-is, w.writer-is) (record { underway = after; reads = read_more g.R.Input.did_read c.args.reader.now c.loop.reader c.read_some.new.reader c.loop.counter _ c.loop.invariant.reads b.call (sym w.kind.ensures ∙ differs_false the_type tt _ _ (sym w.ne.ensures ∙ w.if-ne.false)); room = omega (arith, b.len, room) })
    ]
