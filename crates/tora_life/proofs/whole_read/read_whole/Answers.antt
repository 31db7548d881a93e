use Rattle.std.proofs.Common.{ℕ, ◌+◌, ◌-◌, ◌^◌, ◌<◌, ◌≤◌, List, ◌++◌, Result, IfOk, length, take, drop, IsTrue, rules, sym, subst, ap, ◌∙◌, arith}
use Rattle.std.specs.declared.io.Error.{Error}
use borrow.Rule.Slice.PartMut.{put_mid, mid_of}
use Rattle.tora_life.specs.Disk.{IsReadInPart}
use Rattle.tora_life.specs.WholeRead.{ReadsOn}
use Rattle.tora_life.proofs.ReadSteps.{none_left, ends, goes_on, again, fails}
use Rattle.tora_life.proofs.ReadOn.{more_read, all_read, put_none, place_is}
use Rattle.tora_life.proofs.whole_read.read_whole.Goals as goal
use Rattle.tora_life.proofs.whole_read.read_whole.Goals.{in-Ok, in-Err}

pub returns-in-Ok-eq0-clause-read : goal.returns-in-Ok-eq0-clause-read
returns-in-Ok-eq0-clause-read g c = λ told.
    let seen = g.F.ReadFrom.bytes c.args.reader.now in
    let i = c.loop.invariant in
    let now : IsTrue (g.F.ReadFrom.tells c.loop.reader) = subst IsTrue (sym i.tells) told in
    let left = mid_of c.loop.count (length c.loop.buf - c.loop.count) c.loop.buf in
    let part = subst (λ (r : Result ℕ Error). IfOk r (λ n. IsReadInPart (g.F.ReadFrom.bytes c.loop.reader) c.saturating_add-place.result left n c.read_from.new.buf)) c.in-Ok-eq0.is (c.read_from.ensures.read now) in
    all_read seen c.args.at c.args.buf.now c.loop.buf c.loop.count c.saturating_add-place.result c.in-Ok-eq0.field-0 c.read_from.new.buf i.long i.few (i.there told) (i.bytes told)
    (place_is seen c.args.at c.loop.count c.saturating_add-place.result c.saturating_add-place.ensures (i.there told) (subst (λ (l : List ℕ). length l < 2 ^ 64) i.same (c.read_from.ensures.long now)) c.ranges.at.fits)
    (subst (λ (l : List ℕ). IsReadInPart l c.saturating_add-place.result left c.in-Ok-eq0.field-0 c.read_from.new.buf) i.same part)
    c.in-Ok-eq0.field-0-test

pub loop-preserved : goal.loop-preserved
loop-preserved g c = elim c.match-read_from.branch [
  | in-Ok w ↦
      let i = c.loop.invariant in
      let more = λ (told : IsTrue (g.F.ReadFrom.tells c.args.reader.now)). more_read (g.F.ReadFrom.bytes c.args.reader.now) c.args.at c.args.buf.now c.loop.buf c.loop.count c.saturating_add-place.result w.in-Ok.n c.read_from.new.buf i.long i.few (i.there told) (i.bytes told)
      (place_is (g.F.ReadFrom.bytes c.args.reader.now) c.args.at c.loop.count c.saturating_add-place.result c.saturating_add-place.ensures (i.there told) (subst (λ (l : List ℕ). length l < 2 ^ 64) i.same (c.read_from.ensures.long (subst IsTrue (sym i.tells) told))) c.ranges.at.fits)
      (subst (λ (l : List ℕ). IsReadInPart l c.saturating_add-place.result (mid_of c.loop.count (length c.loop.buf - c.loop.count) c.loop.buf) w.in-Ok.n c.read_from.new.buf) i.same (w.in-Ok.ensures.read (subst IsTrue (sym i.tells) told))) in
      record {
        few = search rules;
        long = search rules;
        tells = w.in-Ok.ensures.tells ∙ i.tells;
        same = w.in-Ok.ensures.same ∙ i.same;
        there = λ told. subst (λ (k : ℕ). k ≤ length (drop c.args.at (g.F.ReadFrom.bytes c.args.reader.now))) (sym w.count-is) (more told).0;
        bytes = λ told. (more told).1 ∙ ap (λ (k : ℕ). take k (drop c.args.at (g.F.ReadFrom.bytes c.args.reader.now)) ++ drop k c.args.buf.now) (sym w.count-is);
        onward = λ answer after new further. i.onward answer after new
            (goes_on g.F.ReadFrom.did_read_at 18446744073709551615 c.loop.counter c.args.at (omega (arith, c.loop-test.true)) c.loop.reader c.loop.count c.loop.buf c.saturating_add-place.result c.read_from.new.buf c.read_from.new.self i.few c.saturating_add-place.ensures
            w.in-Ok.n (search rules) w.in-Ok.ensures.call answer after new
            (subst (λ (k : ℕ). ReadsOn g.F.ReadFrom.did_read_at (18446744073709551615 - (c.loop.counter + 1)) c.args.at c.read_from.new.self k (put_mid c.loop.count (length c.loop.buf - c.loop.count) c.loop.buf c.read_from.new.buf) answer after new) w.count-is further));
      }
  | in-Err w ↦
      let i = c.loop.invariant in record {
        few = search rules;
        long = search rules;
        tells = w.in-Err.ensures.tells ∙ i.tells;
        same = w.in-Err.ensures.same ∙ i.same;
        there = λ told. subst (λ (k : ℕ). k ≤ length (drop c.args.at (g.F.ReadFrom.bytes c.args.reader.now))) (sym w.count-is) (i.there told);
        bytes = λ told.
            put_none (drop c.args.at (g.F.ReadFrom.bytes c.args.reader.now)) c.args.buf.now c.loop.buf c.loop.count i.long i.few (i.there told) (i.bytes told) c.read_from.new.buf (w.in-Err.ensures.err (subst IsTrue (sym i.tells) told))
            ∙ i.bytes told ∙ ap (λ (k : ℕ). take k (drop c.args.at (g.F.ReadFrom.bytes c.args.reader.now)) ++ drop k c.args.buf.now) (sym w.count-is);
        onward = λ answer after new further. i.onward answer after new
            (again g.F.ReadFrom.did_read_at 18446744073709551615 c.loop.counter c.args.at (omega (arith, c.loop-test.true)) c.loop.reader c.loop.count c.loop.buf c.saturating_add-place.result c.read_from.new.buf c.read_from.new.self i.few c.saturating_add-place.ensures
            w.in-Err.error (search rules) w.in-Err.ensures.call answer after new
            (subst (λ (k : ℕ). ReadsOn g.F.ReadFrom.did_read_at (18446744073709551615 - (c.loop.counter + 1)) c.args.at c.read_from.new.self k (put_mid c.loop.count (length c.loop.buf - c.loop.count) c.loop.buf c.read_from.new.buf) answer after new) w.count-is further));
      }
]

pub returns-in-Ok-eq0-clause-calls : goal.returns-in-Ok-eq0-clause-calls
returns-in-Ok-eq0-clause-calls g c =
    let left = mid_of c.loop.count (length c.loop.buf - c.loop.count) c.loop.buf in
    c.loop.invariant.onward _ _ _
    (ends g.F.ReadFrom.did_read_at 18446744073709551615 c.loop.counter c.args.at (omega (arith, c.loop-test.true)) c.loop.reader c.loop.count c.loop.buf c.saturating_add-place.result c.read_from.new.buf c.read_from.new.self c.loop.invariant.few c.saturating_add-place.ensures
    c.in-Ok-eq0.field-0 c.in-Ok-eq0.field-0-test
    (subst (λ (r : Result ℕ Error). g.F.ReadFrom.did_read_at c.loop.reader c.saturating_add-place.result left r c.read_from.new.buf c.read_from.new.self) c.in-Ok-eq0.is c.read_from.ensures.call))

pub returns-in-Err-2-clause-calls : goal.returns-in-Err-2-clause-calls
returns-in-Err-2-clause-calls g c = c.loop.invariant.onward _ _ _
    (fails g.F.ReadFrom.did_read_at 18446744073709551615 c.loop.counter c.args.at (omega (arith, c.loop-test.true)) c.loop.reader c.loop.count c.loop.buf c.saturating_add-place.result c.read_from.new.buf c.read_from.new.self c.loop.invariant.few c.saturating_add-place.ensures
    c.in-Err.error (search rules) c.in-Err.ensures.call)

pub returns-clause-calls : goal.returns-clause-calls
returns-clause-calls g c = c.loop.invariant.onward _ _ _
    (none_left g.F.ReadFrom.did_read_at (18446744073709551615 - c.loop.counter) c.args.at c.loop.reader c.loop.count c.loop.buf c.from.result (omega (arith, c.loop-test.false, c.loop.auto.counter-end)))
