use Rattle.std.proofs.Common.{ap, sym, ◌∙◌}
use Rattle.tora_arq.specs.LinkEnd.{bound_life}
use Rattle.tora_arq.specs.EndRange.{LinkEndView}
use Rattle.tora_seat.specs.Between.{after_cut_of_bound}
use Rattle.tora_world.specs.World.{owner_of}
use Rattle.tora_sim.proofs.Lasts.{bound_stays, stays_drawn}
use Rattle.tora_sim.proofs.links.LinkParts.cut_bound.Goals as goal

pub invariant_of-self : goal.invariant_of-self
invariant_of-self c =
    let end = c.self.inside.end in (
      stays_drawn end.state (after_cut_of_bound end.state (bound_life end.state)) c.cut_bound.new.end.state _ (ap (λ (e : LinkEndView). e.state) c.cut_bound.ensures)
          (bound_stays c.lives_are_bound_once.ensures.number end.settings end.state (bound_life end.state)) c.self.invariant.0,
      c.self.invariant.1,
      c.self.invariant.2 ∙ sym (ap (λ (e : LinkEndView). owner_of e.settings.me e.settings.peer) c.cut_bound.ensures),
    )
