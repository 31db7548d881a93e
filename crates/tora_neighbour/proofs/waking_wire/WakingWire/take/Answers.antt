use Rattle.std.proofs.Common.{◌≡◌, ◌∙◌, ◌+◌, ◌-◌, ◌^◌, min, false, refl, sym, ap, subst, inl, inr, ⊎_elim, ℕ, Ok, Err}
use Rattle.std.specs.declared.io.ErrorKind.{ErrorKind}
use Rattle.std.specs.declared.io.ErrorKind.TheVariants.{WouldBlock, Interrupted}
use Rattle.tora_neighbour.specs.WakingWire.{WireView}
use Rattle.tora_neighbour.proofs.waking_wire.WakingWire.take.Goals as goal

pub returns-in-Ok-clause-takes : goal.returns-in-Ok-clause-takes
returns-in-Ok-clause-takes g c = (
  c.args.buf.now,
  Ok (c.in-Ok.count, c.in-Ok.field-0-1),
  subst (λ (v : WireView _). g.S.WaitedSocket.did_receive_from v.socket c.args.buf.now (Ok (c.in-Ok.count, c.in-Ok.field-0-1)) c.receive_datagram.new.buf c.receive_datagram.new.self) c.self.view_is c.in-Ok.ensures.call,
  refl,
  ap (λ (v : WireView _). record v { socket = c.receive_datagram.new.self; has_more = c.self.inside.has_more }) c.self.view_is,
  ap (λ (v : WireView _). v.has_more) c.self.view_is,
)

pub returns-in-WouldBlock-clause-takes : goal.returns-in-WouldBlock-clause-takes
returns-in-WouldBlock-clause-takes g c = (
  c.args.buf.now,
  Err c.in-Err.error,
  subst (λ (v : WireView _). g.S.WaitedSocket.did_receive_from v.socket c.args.buf.now (Err c.in-Err.error) c.receive_datagram.new.buf c.receive_datagram.new.self) c.self.view_is c.in-Err.ensures.call,
  (inl (sym c.in-WouldBlock.ensures), refl),
  ap (λ (v : WireView _). record v { socket = c.receive_datagram.new.self; has_more = false }) c.self.view_is,
  (λ _. refl, λ other. absurd (other (sym c.in-WouldBlock.ensures))),
)

pub returns-in-Interrupted-clause-takes : goal.returns-in-Interrupted-clause-takes
returns-in-Interrupted-clause-takes g c = (
  c.args.buf.now,
  Err c.in-Err.error,
  subst (λ (v : WireView _). g.S.WaitedSocket.did_receive_from v.socket c.args.buf.now (Err c.in-Err.error) c.receive_datagram.new.buf c.receive_datagram.new.self) c.self.view_is c.in-Err.ensures.call,
  (inr (sym c.in-Interrupted.ensures), refl),
  ap (λ (v : WireView _). record v { socket = c.receive_datagram.new.self; has_more = c.self.inside.has_more }) c.self.view_is,
  (λ blocks. let no : Interrupted ≡ WouldBlock = c.in-Interrupted.ensures ∙ blocks in absurd cc, λ _. ap (λ (v : WireView _). v.has_more) c.self.view_is),
)

pub returns-in_default : goal.returns-in_default
returns-in_default g c =
    let is = c.count.ensures in
    record {
      takes = (
        c.args.buf.now,
        Err c.in-Err.error,
        subst (λ (s : _). g.S.WaitedSocket.did_receive_from c.args.self.now.socket c.args.buf.now (Err c.in-Err.error) c.receive_datagram.new.buf s) (ap (λ (v : WireView _). v.socket) (sym is))
            (subst (λ (v : WireView _). g.S.WaitedSocket.did_receive_from v.socket c.args.buf.now (Err c.in-Err.error) c.receive_datagram.new.buf c.receive_datagram.new.self) c.self.view_is c.in-Err.ensures.call),
        (λ vain. ⊎_elim (λ e. c.in_default.not-WouldBlock (c.kind.ensures ∙ e)) (λ e. c.in_default.not-Interrupted (c.kind.ensures ∙ e)) vain),
        is ∙ (λ i. record {
          socket = ap (λ (v : WireView _). v.socket) (sym is) i;
          remote = ap (λ (v : WireView _). v.remote) c.self.view_is i;
          has_more = ap (λ (v : WireView _). v.has_more) (sym is) i;
          failures = ap (λ (v : WireView _). min (v.failures + 1) (2 ^ 64 - 1)) c.self.view_is i;
        }),
        (λ blocks. absurd (c.in_default.not-WouldBlock (c.kind.ensures ∙ blocks)), λ _. ap (λ (v : WireView _). v.has_more) is ∙ ap (λ (v : WireView _). v.has_more) c.self.view_is),
      );
      count = tt;
    }
