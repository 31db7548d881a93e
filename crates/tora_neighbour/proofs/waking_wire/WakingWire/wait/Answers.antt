use Rattle.std.proofs.Common.{◌∙◌, ◌+◌, ◌-◌, ◌^◌, min, true, false, refl, ap, subst, Bool, Ok, Err}
use Rattle.tora_neighbour.specs.WakingWire.{WireView, Takes}
use Rattle.tora_neighbour.proofs.waking_wire.WakingWire.wait.Goals as goal

pub returns-in-Ok-true-clause-waits : goal.returns-in-Ok-true-clause-waits
returns-in-Ok-true-clause-waits g c = (
  Ok true,
  c.wait.new.self,
  subst (λ (v : WireView _). g.S.WaitedSocket.did_wait v.socket (Ok true) c.wait.new.self) c.self.view_is
      (subst (λ (b : Bool). g.S.WaitedSocket.did_wait c.self.inside.socket (Ok b) c.wait.new.self) c.in-Ok-true.field-0-test c.in-Ok-true.ensures),
  subst (λ (v : WireView _). Takes g.S.WaitedSocket.did_receive_from (record v { socket = c.wait.new.self; has_more = true }) c.take.result c.take.new.buf c.take.new.self) c.self.view_is c.take.ensures.takes,
)

pub returns-in-Ok-false-clause-waits : goal.returns-in-Ok-false-clause-waits
returns-in-Ok-false-clause-waits g c = (
  Ok false,
  c.wait.new.self,
  subst (λ (v : WireView _). g.S.WaitedSocket.did_wait v.socket (Ok false) c.wait.new.self) c.self.view_is
      (subst (λ (b : Bool). g.S.WaitedSocket.did_wait c.self.inside.socket (Ok b) c.wait.new.self) c.in-Ok-false.field-0-test c.in-Ok-false.ensures),
  (refl, ap (λ (v : WireView _). record v { socket = c.wait.new.self }) c.self.view_is),
)

pub returns-in-Err-clause-waits : goal.returns-in-Err-clause-waits
returns-in-Err-clause-waits g c = (
  Err c.in-Err.field-0,
  c.wait.new.self,
  subst (λ (v : WireView _). g.S.WaitedSocket.did_wait v.socket (Err c.in-Err.field-0) c.wait.new.self) c.self.view_is c.in-Err.ensures,
  (refl, c.count.ensures ∙ ap (λ (v : WireView _). record v { socket = c.wait.new.self; failures = min (v.failures + 1) (2 ^ 64 - 1) }) c.self.view_is),
)
