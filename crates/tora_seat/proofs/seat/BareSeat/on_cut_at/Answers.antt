use Rattle.std.proofs.Common.{◌≡◌, None, sym, ◌∙◌}
use Rattle.tora_seat.specs.Rows.{current_of}
use Rattle.tora_seat.proofs.Steps.{at_neighbour}
use Rattle.tora_seat.proofs.CutOffers.{cut_ends, cut_none}
use Rattle.tora_seat.proofs.seat.BareSeat.on_cut_at.Goals as goal

pub returns-in-Some-clause-goes : goal.returns-in-Some-clause-goes
returns-in-Some-clause-goes g c =
    let s = c.args.self.now in
    cut_ends g.O.OutLanes.did_offer s c.ask_cut.new.self c.on_end.new.self c.args.outs.now c.ask_cut.new.outs c.on_end.new.outs c.args.peer.id c.args.now c.in-Some.life
    (sym (at_neighbour _ c.args.peer.id (c.current.result ≡ None) (λ k. c.current.result ≡ current_of s.rows k) c.requires.place c.current.ensures) ∙ c.in-Some.is) c.ask_cut.ensures.goes c.on_end.ensures.goes

pub returns-in_default-clause-goes : goal.returns-in_default-clause-goes
returns-in_default-clause-goes g c =
    let s = c.args.self.now in
    cut_none g.O.OutLanes.did_offer s c.args.outs.now c.args.peer.id c.args.now
    (sym (at_neighbour _ c.args.peer.id (c.current.result ≡ None) (λ k. c.current.result ≡ current_of s.rows k) c.requires.place c.current.ensures) ∙ c.in_default.is)
