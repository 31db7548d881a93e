use Rattle.std.proofs.Common.{◌+◌, [], List, ℕ, get_or, drop, refl, sym, subst, ◌∙◌}
use Rattle.std.proofs.lemmas.Bool.{eq-eqb, ne_eqb}
use Rattle.std.proofs.lemmas.List.{drop_all}
use Rattle.tora_node.specs.CommandSteps.{Putting}
use Rattle.tora_node.proofs.Commanding.{bytes_at, put_none, pushed, went_on, stopped}
use Rattle.tora_node.proofs.commands.put_all.Goals as goal
use Rattle.tora_node.proofs.commands.put_all.Goals.{then-byte-eq10+else-is_some, else-byte-eq10}

pub loop-byte-init : goal.loop-byte-init
loop-byte-init g c = λ text holds. record {
  items = [];
  rest = text;
  put = put_none g.C.Clock.did_tell (c.args.port.now, c.args.clock.now);
  holds = holds;
  goes = λ more. refl;
}

pub returns-then-is_some : goal.returns-then-is_some
returns-then-is_some g c = λ text holds.
    let tell = g.C.Clock.did_tell in
    let i = c.loop-byte.byte-index in
    let left = drop (i + 1) c.args.bytes.now in
    let p = subst (λ (t : List ℕ). Putting tell text c.args.bytes.now (c.args.port.now, c.args.clock.now) (c.loop-byte.port, c.loop-byte.clock) c.loop-byte.line t) (bytes_at i c.args.bytes.now c.loop-byte-test.true) (c.loop-byte.invariant text holds) in
    stopped tell text c.args.bytes.now left (c.args.port.now, c.args.clock.now) (c.loop-byte.port, c.loop-byte.clock) (c.put-end.new.port, c.put-end.new.clock) c.loop-byte.line c.take.new.self (get_or c.args.bytes.now i 0) c.take.result c.put-end.result p (eq-eqb _ 10 c.if-byte-eq10.true) (c.take.ensures.asked p.rest p.holds) c.put-end.ensures (sym c.is_some.ensures ∙ c.if-is_some.true)

pub loop-byte-preserved : goal.loop-byte-preserved
loop-byte-preserved g c = λ text holds.
    let tell = g.C.Clock.did_tell in
    let i = c.loop-byte.byte-index in
    let left = drop (i + 1) c.args.bytes.now in
    let p = subst (λ (t : List ℕ). Putting tell text c.args.bytes.now (c.args.port.now, c.args.clock.now) (c.loop-byte.port, c.loop-byte.clock) c.loop-byte.line t) (bytes_at i c.args.bytes.now c.loop-byte-test.true) (c.loop-byte.invariant text holds) in
    elim c.if-byte-eq10.branch [
      | then-byte-eq10+else-is_some w ↦ rw (w.port-is, w.clock-is, w.line-is) (went_on tell text c.args.bytes.now left (c.args.port.now, c.args.clock.now) (c.loop-byte.port, c.loop-byte.clock) (w.put-end.new.port, w.put-end.new.clock) c.loop-byte.line w.take.new.self (get_or c.args.bytes.now i 0) w.take.result w.put-end.result p (eq-eqb _ 10 w.if-byte-eq10.true) (w.take.ensures.asked p.rest p.holds) w.put-end.ensures (sym w.is_some.ensures ∙ w.if-is_some.false) w.take.ensures.next)
      | else-byte-eq10 w ↦ rw (w.port-is, w.clock-is, w.line-is) (pushed tell text c.args.bytes.now left (c.args.port.now, c.args.clock.now) (c.loop-byte.port, c.loop-byte.clock) c.loop-byte.line w.push.new.self (get_or c.args.bytes.now i 0) p (ne_eqb _ 10 w.if-byte-eq10.false) w.push.ensures)
    ]

pub returns : goal.returns
returns g c = λ text holds.
    subst (λ (t : List ℕ). Putting g.C.Clock.did_tell text c.args.bytes.now (c.args.port.now, c.args.clock.now) (c.loop-byte.port, c.loop-byte.clock) c.loop-byte.line t) (drop_all c.loop-byte.byte-index c.args.bytes.now c.loop-byte-test.false) (c.loop-byte.invariant text holds)
