use denote.Enum.Bare.{differs_true, differs_false}
use Rattle.std.proofs.Common.{◌≡◌, ◌∙◌, ℕ, List, [], Err, arith, subst, sym, take}
use Rattle.std.specs.contracts.io.ErrorKind.{the_type}
use Rattle.std.proofs.lemmas.List.{length-take}
use Rattle.std.proofs.lemmas.Result.{err_from_is_err_and}
use Rattle.tora_lines.specs.LineText.{faulty}
use Rattle.tora_lines.specs.Shortened.{Goes, text_behind, Takes, TakesBytes}
use Rattle.tora_lines.proofs.ReadLaws.{read_more, ends_at_most, ends_at_failure, ends_at_end, ends_before, written_fine, taken_fine, fault_fine}
use Rattle.tora_lines.proofs.ShortenedLaws.{between_none, between_failed, between_more, between_begun, stops_begun, fault_begun, end_whole, end_begun}
use Rattle.tora_lines.proofs.shortened.read_shortened_lines.Goals as goal
use Rattle.tora_lines.proofs.shortened.read_shortened_lines.Goals.{in-Ok-read_some+else-n-eq0+in_ok-goes-in-Ok-read_some+else-not-goes, in-Err+else-ne}

pub returns-clause-begun : goal.returns-clause-begun
returns-clause-begun g c = λ h. between_begun g.K.FileKind.kind c.args.state _ _ _ _ _ _ _ c.loop.invariant.between

pub returns-then-n-eq0-clause-begun : goal.returns-then-n-eq0-clause-begun
returns-then-n-eq0-clause-begun g c =
    let b = c.in-Ok-read_some.ensures.bytes in
    let u = between_none g.K.FileKind.kind c.args.state c.loop.session.state c.loop.number c.loop.held (g.R.Input.remaining c.args.reader.now) (g.R.Input.remaining c.loop.reader) (g.R.Input.remaining c.read_some.new.reader) (g.W.Write.contents c.args.writer.now) (g.W.Write.contents c.loop.writer)
    c.in-Ok-read_some.n c.read_some.new.chunk.items c.loop.invariant.between b.0 c.if-n-eq0.true in
    end_begun g.K.FileKind.kind c.args.state _ _ _ _ _ _ _ _ c.finish_held.result u (c.finish_held.ensures.text u.rest u.holds u.is_open)

pub returns-then-n-eq0-clause-whole : goal.returns-then-n-eq0-clause-whole
returns-then-n-eq0-clause-whole g c =
    let b = c.in-Ok-read_some.ensures.bytes in
    let u = between_none g.K.FileKind.kind c.args.state c.loop.session.state c.loop.number c.loop.held (g.R.Input.remaining c.args.reader.now) (g.R.Input.remaining c.loop.reader) (g.R.Input.remaining c.read_some.new.reader) (g.W.Write.contents c.args.writer.now) (g.W.Write.contents c.loop.writer)
    c.in-Ok-read_some.n c.read_some.new.chunk.items c.loop.invariant.between b.0 c.if-n-eq0.true in
    end_whole g.K.FileKind.kind c.args.state _ _ _ _ _ _ _ _ c.finish_held.result u (b.1 c.if-n-eq0.true (omega (arith, c.in-Ok-read_some.ensures.len, c.loop.invariant.room))) (c.finish_held.ensures.text u.rest u.holds u.is_open)

pub returns-in_err-goes-in-Ok-read_some-clause-begun : goal.returns-in_err-goes-in-Ok-read_some-clause-begun
returns-in_err-goes-in-Ok-read_some-clause-begun g c =
    let p = err_from_is_err_and c.from_residual.result c.from_residual.ensures.1 in
    let b = c.in-Ok-read_some.ensures.bytes in
    let u = c.loop.invariant.between in
    let v : c.as_slice.result.now ≡ c.read_some.new.chunk.items = c.as_slice.ensures.value in
    let t = subst (λ (x : List ℕ). TakesBytes g.K.FileKind.kind c.loop.session.state c.loop.number u.rest (take c.in-Ok-read_some.n x) (g.W.Write.contents c.loop.writer) (g.W.Write.contents c.take_bytes.new.writer) c.take_bytes.new.session.state c.take_bytes.new.number c.take_bytes.new.held (Err c.in_err-goes-in-Ok-read_some.field-0.0))
    v (c.in_err-goes-in-Ok-read_some.ensures.text u.rest u.holds u.is_open) in
    rw (p.1, p.2) (stops_begun g.K.FileKind.kind c.args.state c.loop.session.state c.loop.number c.loop.held (g.R.Input.remaining c.args.reader.now) (g.R.Input.remaining c.loop.reader) (g.R.Input.remaining c.read_some.new.reader)
    (g.W.Write.contents c.args.writer.now) (g.W.Write.contents c.loop.writer) (g.W.Write.contents c.take_bytes.new.writer) (take c.in-Ok-read_some.n c.read_some.new.chunk.items) c.take_bytes.new.session.state c.take_bytes.new.number c.take_bytes.new.held c.in_err-goes-in-Ok-read_some.field-0.0 u b.0 t)

pub returns-then-ne-clause-begun : goal.returns-then-ne-clause-begun
returns-then-ne-clause-begun g c = λ h.
    between_begun g.K.FileKind.kind c.args.state _ _ _ _ _ _ _
    (between_failed g.K.FileKind.kind c.args.state c.loop.session.state c.loop.number c.loop.held (g.R.Input.remaining c.args.reader.now) (g.R.Input.remaining c.loop.reader) (g.R.Input.remaining c.read_some.new.reader) (g.W.Write.contents c.args.writer.now) (g.W.Write.contents c.loop.writer)
    c.loop.invariant.between c.in-Err.ensures.bytes)

pub returns-then-not-goes-clause-begun : goal.returns-then-not-goes-clause-begun
returns-then-not-goes-clause-begun g c =
    let b = c.in-Ok-read_some.ensures.bytes in
    let u = c.loop.invariant.between in
    let v : c.as_slice.result.now ≡ c.read_some.new.chunk.items = c.as_slice.ensures.value in
    let h = rw c.if-not-goes.true at (c.in_ok-goes-in-Ok-read_some.ensures.text u.rest u.holds u.is_open) in
    let t = subst (λ (x : List ℕ). Goes (text_behind g.K.FileKind.kind c.loop.session.state c.loop.number u.rest) (take c.in-Ok-read_some.n x) (g.W.Write.contents c.loop.writer) (g.W.Write.contents c.take_bytes.new.writer) (λ more. faulty c.take_bytes.new.number)) v h in
    fault_begun g.K.FileKind.kind c.args.state c.loop.session.state c.loop.number c.loop.held (g.R.Input.remaining c.args.reader.now) (g.R.Input.remaining c.loop.reader) (g.R.Input.remaining c.read_some.new.reader)
    (g.W.Write.contents c.args.writer.now) (g.W.Write.contents c.loop.writer) (g.W.Write.contents c.take_bytes.new.writer) (g.W.Write.contents c.fault.new.writer) (take c.in-Ok-read_some.n c.read_some.new.chunk.items) _ c.fault.result u b.0 t c.fault.ensures.text

pub returns-clause-reads : goal.returns-clause-reads
returns-clause-reads g c = ends_at_most g.R.Input.did_read c.args.reader.now c.loop.reader c.loop.counter c.loop.invariant.reads (omega (arith, c.loop-test.false, c.loop.auto.counter-end))

pub returns-then-n-eq0-clause-reads : goal.returns-then-n-eq0-clause-reads
returns-then-n-eq0-clause-reads g c =
    let u = c.loop.invariant.between in
    ends_at_end g.R.Input.did_read c.args.reader.now c.loop.reader c.read_some.new.reader c.loop.counter c.in-Ok-read_some.n c.read_some.new.chunk.items c.finish_held.result c.loop.invariant.reads c.in-Ok-read_some.ensures.call c.if-n-eq0.true
    (written_fine _ _ _ c.finish_held.result (c.finish_held.ensures.text u.rest u.holds u.is_open))

pub returns-in_err-goes-in-Ok-read_some-clause-reads : goal.returns-in_err-goes-in-Ok-read_some-clause-reads
returns-in_err-goes-in-Ok-read_some-clause-reads g c =
    let p = err_from_is_err_and c.from_residual.result c.from_residual.ensures.1 in
    let u = c.loop.invariant.between in
    rw (p.1, p.2) (ends_before g.R.Input.did_read c.args.reader.now c.loop.reader c.read_some.new.reader c.loop.counter c.in-Ok-read_some.n c.read_some.new.chunk.items (Err c.in_err-goes-in-Ok-read_some.field-0.0) c.loop.invariant.reads c.in-Ok-read_some.ensures.call
    (taken_fine g.K.FileKind.kind _ _ _ _ _ _ c.take_bytes.new.session.state c.take_bytes.new.number c.take_bytes.new.held c.in_err-goes-in-Ok-read_some.field-0.0 (c.in_err-goes-in-Ok-read_some.ensures.text u.rest u.holds u.is_open)))

pub returns-then-ne-clause-reads : goal.returns-then-ne-clause-reads
returns-then-ne-clause-reads g c =
    ends_at_failure g.R.Input.did_read c.args.reader.now c.loop.reader c.read_some.new.reader c.loop.counter _ c.loop.invariant.reads c.in-Err.ensures.call
    (λ h. differs_true the_type _ _ (sym c.ne.ensures ∙ c.if-ne.true) (c.kind.ensures ∙ h))

pub returns-then-not-goes-clause-reads : goal.returns-then-not-goes-clause-reads
returns-then-not-goes-clause-reads g c =
    ends_before g.R.Input.did_read c.args.reader.now c.loop.reader c.read_some.new.reader c.loop.counter c.in-Ok-read_some.n c.read_some.new.chunk.items c.fault.result c.loop.invariant.reads c.in-Ok-read_some.ensures.call
    (fault_fine c.take_bytes.new.number _ _ c.fault.result c.fault.ensures.text)

pub loop-preserved : goal.loop-preserved
loop-preserved g c =
    let u = c.loop.invariant.between in
    let room = c.loop.invariant.room in
    let count = c.loop.invariant.count in
    elim c.match-read_some.branch [
      | in-Ok-read_some+else-n-eq0+in_ok-goes-in-Ok-read_some+else-not-goes w ↦
          let b = w.in-Ok-read_some.ensures in
          let some = take w.in-Ok-read_some.n c.read_some.new.chunk.items in
          let v : w.as_slice.result.now ≡ c.read_some.new.chunk.items = w.as_slice.ensures.value in
          let h = rw w.if-not-goes.false at (w.in_ok-goes-in-Ok-read_some.ensures.text u.rest u.holds u.is_open) in
          let t = subst (λ (x : List ℕ). Takes g.K.FileKind.kind c.loop.session.state c.loop.number u.rest (take w.in-Ok-read_some.n x) (g.W.Write.contents c.loop.writer) (g.W.Write.contents w.take_bytes.new.writer) w.take_bytes.new.session.state w.take_bytes.new.number w.take_bytes.new.held []) v h in
          let after = between_more g.K.FileKind.kind c.args.state c.loop.session.state c.loop.number c.loop.held (g.R.Input.remaining c.args.reader.now) (g.R.Input.remaining c.loop.reader) (g.R.Input.remaining c.read_some.new.reader)
          (g.W.Write.contents c.args.writer.now) (g.W.Write.contents c.loop.writer) (g.W.Write.contents w.take_bytes.new.writer) some w.take_bytes.new.session.state w.take_bytes.new.number w.take_bytes.new.held u b.bytes.0 t in
          rw (w.session-is, w.number-is, w.held-is, w.writer-is) (record {
            between = after;
            reads = read_more g.R.Input.did_read c.args.reader.now c.loop.reader c.read_some.new.reader c.loop.counter _ c.loop.invariant.reads b.call tt;
            room = omega (arith, b.len, room);
            count = omega (arith, w.take_bytes.ensures.count, count, length-take w.in-Ok-read_some.n w.as_slice.result.now, b.bound, b.len, room);
          })
      | in-Err+else-ne w ↦
          let b = w.in-Err.ensures in
          let after = between_failed g.K.FileKind.kind c.args.state c.loop.session.state c.loop.number c.loop.held (g.R.Input.remaining c.args.reader.now) (g.R.Input.remaining c.loop.reader) (g.R.Input.remaining c.read_some.new.reader) (g.W.Write.contents c.args.writer.now) (g.W.Write.contents c.loop.writer) u b.bytes in
          rw (w.session-is, w.number-is, w.held-is, w.writer-is) (record { between = after; reads = read_more g.R.Input.did_read c.args.reader.now c.loop.reader c.read_some.new.reader c.loop.counter _ c.loop.invariant.reads b.call (sym w.kind.ensures ∙ differs_false the_type tt _ _ (sym w.ne.ensures ∙ w.if-ne.false)); room = omega (arith, b.len, room); count = omega (arith, count) })
    ]
