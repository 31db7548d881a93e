use Rattle.std.proofs.Common.{◌+◌, ◌-◌, ◌^◌, ◌∙◌, min, refl, arith, length, Some, None, Ok, Err}
use Rattle.tora_keyed.specs.Links.{LinkView}
use Rattle.tora_keyed.proofs.Wires.{received, let_in_or_not, came_in}
use Rattle.tora_keyed.proofs.link_wire.LinkWireWire.receive.Goals as goal

pub returns-in-Ok-Some-clause-call : goal.returns-in-Ok-Some-clause-call
returns-in-Ok-Some-clause-call g c =
    let before : LinkView _ = record { wire = c.self.inside.wire; key = c.self.inside.key; told = c.self.inside.told; unauthenticated = c.self.inside.unauthenticated; failures = c.self.inside.failures } in
    let call = rw c.in-Ok-Some.field-0-is at c.in-Ok-Some.ensures.call in
    let_in_or_not g.W.Wire.did_receive c.args.self.now before c.note.new.self c.in-Some.key c.in-Ok-Some.count c.receive-2.new.buf c.let_in-written.result c.let_in-written.new.buf
    c.receive-2.new.self c.self.view_is c.note.ensures c.in-Some.is call c.let_in-written.ensures

pub returns-in-Ok-Some-clause-came : goal.returns-in-Ok-Some-clause-came
returns-in-Ok-Some-clause-came g c =
    let before : LinkView _ = record { wire = c.self.inside.wire; key = c.self.inside.key; told = c.self.inside.told; unauthenticated = c.self.inside.unauthenticated; failures = c.self.inside.failures } in
    came_in g.W.Wire.tells g.W.Wire.coming c.args.self.now before c.note.new.self c.in-Some.key c.in-Ok-Some.count _ (length c.args.buf.now) c.receive-2.new.buf c.let_in-written.new.buf
    c.let_in-written.result c.receive-2.new.self c.self.view_is c.note.ensures c.in-Some.is c.self.invariant.0 (λ told. rw c.in-Ok-Some.field-0-is at (c.in-Ok-Some.ensures.came told))
    c.let_in-written.ensures (omega arith)

pub returns-in-Ok-None-clause-call : goal.returns-in-Ok-None-clause-call
returns-in-Ok-None-clause-call g c =
    let before : LinkView _ = record { wire = c.self.inside.wire; key = c.self.inside.key; told = c.self.inside.told; unauthenticated = c.self.inside.unauthenticated; failures = c.self.inside.failures } in
    let after : LinkView _ = record { wire = c.receive-2.new.self; key = c.self.inside.key; told = c.self.inside.told; unauthenticated = c.self.inside.unauthenticated; failures = c.self.inside.failures } in
    let call = rw c.in-Ok-None.field-0-is at c.in-Ok-None.ensures.call in
    received g.W.Wire.did_receive c.args.self.now before c.notice.new.self after c.in-Some.key (Ok None) (Ok None) c.receive-2.new.buf c.args.buf.now c.self.view_is c.notice.ensures
    c.in-Some.is call (refl, refl)

pub returns-in-Err-clause-call : goal.returns-in-Err-clause-call
returns-in-Err-clause-call g c =
    let before : LinkView _ = record { wire = c.self.inside.wire; key = c.self.inside.key; told = c.self.inside.told; unauthenticated = c.self.inside.unauthenticated; failures = c.self.inside.failures } in
    let after : LinkView _ = record { wire = c.receive-2.new.self; key = c.self.inside.key; told = c.self.inside.told; unauthenticated = c.self.inside.unauthenticated; failures = min (c.self.inside.failures + 1) (2 ^ 64 - 1) } in
    received g.W.Wire.did_receive c.args.self.now before c.notice-in-Err.new.self after c.in-Some.key (Err c.in-Err.error) (Err c.in-Err.error) c.receive-2.new.buf c.args.buf.now
    c.self.view_is (c.notice-in-Err.ensures ∙ c.count.ensures) c.in-Some.is c.in-Err.ensures.call (refl, refl)
