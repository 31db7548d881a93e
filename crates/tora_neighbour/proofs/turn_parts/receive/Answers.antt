use Rattle.std.proofs.Common.{ℕ, Some, None, Ok, Err, Option, refl, subst, ap, ◌∙◌, arith}
use Rattle.tora_neighbour.specs.Datagrams.{IsReceived}
use Rattle.tora_neighbour.specs.declared.intake.Intake.{Intake}
use Rattle.tora_neighbour.specs.Tally.{counted}
use Rattle.tora_neighbour.proofs.Further.{came_one, came_none, on_err_anyway}
use Rattle.tora_neighbour.proofs.turn_parts.receive.Goals as goal

pub returns-in-Ok-Some-clause-came : goal.returns-in-Ok-Some-clause-came
returns-in-Ok-Some-clause-came g c = (
  Ok (Some c.in-Ok-Some.count),
  c.receive.new.buf,
  subst (λ (n : Option ℕ). g.W.Wire.did_receive c.args.wire.now (Ok n) c.receive.new.buf c.receive.new.self) c.in-Ok-Some.field-0-is c.in-Ok-Some.ensures.call,
  refl,
  c.take_in.ensures.end,
  c.take_in.ensures.tally ∙ ap (λ (x : Intake). counted x c.args.tally.now) c.take_in.ensures.intake,
  (λ yes.
      came_one 2048 (g.W.Wire.coming c.args.wire.now) (g.W.Wire.coming c.receive.new.self) c.in-Ok-Some.count c.receive.new.buf (omega arith)
      (subst (λ (n : Option ℕ). IsReceived (g.W.Wire.coming c.args.wire.now) 2048 (Ok n) c.receive.new.buf (g.W.Wire.coming c.receive.new.self)) c.in-Ok-Some.field-0-is (c.in-Ok-Some.ensures.came yes))),
  tt,
)

pub returns-in-Ok-None-clause-came : goal.returns-in-Ok-None-clause-came
returns-in-Ok-None-clause-came g c = (
  Ok None,
  c.receive.new.buf,
  subst (λ (n : Option ℕ). g.W.Wire.did_receive c.args.wire.now (Ok n) c.receive.new.buf c.receive.new.self) c.in-Ok-None.field-0-is c.in-Ok-None.ensures.call,
  refl,
  refl,
  refl,
  (λ yes.
      came_none (g.W.Wire.coming c.args.wire.now) (g.W.Wire.coming c.receive.new.self)
      (subst (λ (n : Option ℕ). IsReceived (g.W.Wire.coming c.args.wire.now) 2048 (Ok n) c.receive.new.buf (g.W.Wire.coming c.receive.new.self)) c.in-Ok-None.field-0-is (c.in-Ok-None.ensures.came yes))),
  tt,
)

pub returns-in-Err-clause-came : goal.returns-in-Err-clause-came
returns-in-Err-clause-came g c = (
  Err c.in-Err.field-0,
  c.receive.new.buf,
  c.in-Err.ensures.call,
  omega (arith, c.count_failure.ensures.more),
  refl,
  refl,
  (λ yes. came_none (g.W.Wire.coming c.args.wire.now) (g.W.Wire.coming c.receive.new.self) (c.in-Err.ensures.came yes)),
  on_err_anyway _ refl,
)
