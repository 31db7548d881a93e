use Rattle.std.proofs.Common.{◌≡◌, ◌-◌, nat_lt, length, drop, ap, sym, ◌∙◌, arith, length-drop, List}
use Rattle.tora_seat.specs.declared.cargo.Cargo.{Cargo}
use Rattle.tora_seat.specs.declared.TheConstants.{MOST_CARGOES}
use Rattle.tora_sim.specs.Lane.{has_place_in}
use Rattle.tora_sim.proofs.LaneLists.{drop_behind}
use Rattle.tora_sim.proofs.store.lane.Lane.has_place.Goals as goal

pub returns : goal.returns
returns c =
    let l = c.self.inside in
    let few : c.len.result - l.taken ≡ length (drop l.taken l.cargoes.items) = omega (arith, c.len.ensures.len, length-drop l.taken l.cargoes.items) in
    ap (λ n. nat_lt n MOST_CARGOES) few
    ∙ sym (ap (λ (cs : List Cargo). nat_lt (length cs) MOST_CARGOES) (drop_behind l.past.items l.cargoes.items l.taken))
    ∙ ap has_place_in c.self.view_is
