use Rattle.std.proofs.Common.{◌∙◌, sym, ap, subst}
use Rattle.tora_neighbour.specs.WakingWire.{WireView, Waits}
use Rattle.tora_neighbour.proofs.Receiving.{took, took_and_waited, waited}
use Rattle.tora_neighbour.proofs.waking_wire.WakingWireWire.receive.Goals as goal
use Rattle.tora_neighbour.proofs.waking_wire.WakingWireWire.receive.Goals.{then-self+else-self-2, else-self}

pub returns-then-self-2-clause-call : goal.returns-then-self-2-clause-call
returns-then-self-2-clause-call g c =
    let more = sym (ap (λ (v : WireView _). v.has_more) c.self.view_is) ∙ c.if-self.true in
    let still = sym (ap (λ (v : WireView _). v.has_more) c.self-then-self.view_is) ∙ c.if-self-2.true in
    took g.S.WaitedSocket.did_receive_from g.S.WaitedSocket.did_wait c.args.self.now c.take-taken.result c.take-taken.new.buf c.take-taken.new.self more c.take-taken.ensures.takes still

pub returns-clause-call : goal.returns-clause-call
returns-clause-call g c =
    elim c.if-self.branch [
      | then-self+else-self-2 w ↦
          let more = sym (ap (λ (v : WireView _). v.has_more) c.self.view_is) ∙ w.if-self.true in
          let none = sym (ap (λ (v : WireView _). v.has_more) w.self-then-self.view_is) ∙ w.if-self-2.false in
          took_and_waited g.S.WaitedSocket.did_receive_from g.S.WaitedSocket.did_wait c.args.self.now w.take-taken.result c.wait.result w.take-taken.new.buf c.wait.new.buf w.take-taken.new.self c.wait.new.self more w.take-taken.ensures.takes none
          (subst (λ (v : WireView _). Waits g.S.WaitedSocket.did_receive_from g.S.WaitedSocket.did_wait v c.wait.result c.wait.new.buf c.wait.new.self) w.self-is c.wait.ensures.waits)
      | else-self w ↦
          let none = sym (ap (λ (v : WireView _). v.has_more) c.self.view_is) ∙ w.if-self.false in
          waited g.S.WaitedSocket.did_receive_from g.S.WaitedSocket.did_wait c.args.self.now c.wait.result c.wait.new.buf c.wait.new.self none
          (subst (λ (v : WireView _). Waits g.S.WaitedSocket.did_receive_from g.S.WaitedSocket.did_wait v c.wait.result c.wait.new.buf c.wait.new.self) w.self-is c.wait.ensures.waits)
    ]
