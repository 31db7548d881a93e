use Rattle.std.proofs.Common.{◌≡◌, ◌∙◌, ap, arith}
use Rattle.tora_arq.specs.EndRange.{LinkEndView}
use Rattle.tora_neighbour.proofs.Numbers.{kept_tick, kept_cargoes}
use Rattle.tora_neighbour.proofs.turn_stages.begin.Goals as goal

pub returns-clause-ready : goal.returns-clause-ready
returns-clause-ready g c =
    let law = c.lives_are_bound_once.ensures.number in
    let s = c.open_closed.new.end.settings in
    let t = c.take_cargoes.ensures.taken in
    let same : c.take_cargoes.new.end.state.last_life ≡ c.open_closed.new.end.state.last_life =
    ap (λ (v : LinkEndView). v.state.last_life) t.2
    ∙ kept_cargoes law s c.on_tick.new.self.state t.0
    ∙ ap (λ (v : LinkEndView). v.state.last_life) c.on_tick.ensures
    ∙ kept_tick law s c.open_closed.new.end.state c.args.now in
    let ready = c.in_ok-open_closed.ensures.ready in omega (arith, same, ready)
