use Rattle.tora_keyed.proofs.Wires.{sent_with_tag}
use Rattle.tora_keyed.proofs.link_wire.LinkWireWire.send.Goals as goal

pub returns-in-Ok-clause-tried : goal.returns-in-Ok-clause-tried
returns-in-Ok-clause-tried g c =
    rw (← c.self.view_is)
    (sent_with_tag c.self.inside.key c.self.inside.key c.self.inside.told (g.W.Wire.tells c.send-2.new.self) c.in-Some.key c.args.bytes.now (g.W.Wire.tries c.send-2.new.self)
    (g.W.Wire.tries c.self.inside.wire) c.in-Some.is c.in-Some.is c.if-bytes-gt-LONGEST_FRAME.false (λ told. rw c.seal-end.ensures.sealed at (c.in-Ok.ensures.tried told)))

pub returns-in-Err-clause-tried : goal.returns-in-Err-clause-tried
returns-in-Err-clause-tried g c =
    rw (← c.self.view_is, c.count-in-Err.ensures)
    (sent_with_tag c.self.inside.key c.self.inside.key c.self.inside.told (g.W.Wire.tells c.send-2.new.self) c.in-Some.key c.args.bytes.now (g.W.Wire.tries c.send-2.new.self)
    (g.W.Wire.tries c.self.inside.wire) c.in-Some.is c.in-Some.is c.if-bytes-gt-LONGEST_FRAME.false (λ told. rw c.seal-end.ensures.sealed at (c.in-Err.ensures.tried told)))
