use Rattle.std.proofs.Common.{◌≡◌, None, sym, ◌∙◌}
use Rattle.tora_seat.specs.Rows.{current_of, pending_of}
use Rattle.tora_seat.proofs.Steps.{at_neighbour, forget_goes}
use Rattle.tora_seat.proofs.seat.BareSeat.on_down.Goals as goal

pub returns-then-is_current-2-clause-goes : goal.returns-then-is_current-2-clause-goes
returns-then-is_current-2-clause-goes g c =
    let s = c.args.self.now in
    forget_goes g.O.OutLanes.did_offer c.args.peer.id c.args.now c.args.life.now s c.args.outs.now c.set_pending.new.self c.current.result c.pending.result c.set_pending.ensures.rest
    (at_neighbour _ c.args.peer.id (c.current.result ≡ None) (λ k. c.current.result ≡ current_of s.rows k) c.requires.place c.current.ensures) (sym c.is_current.ensures ∙ c.if-is_current.false)
    (at_neighbour _ c.args.peer.id (c.pending.result ≡ None) (λ k. c.pending.result ≡ pending_of s.rows k) c.requires.place c.pending.ensures) (sym c.is_current-else-is_current.ensures ∙ c.if-is_current-2.true)
    c.set_pending.ensures.set
