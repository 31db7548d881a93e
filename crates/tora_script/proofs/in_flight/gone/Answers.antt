use Rattle.std.proofs.Common.{◌≡◌, ◌∙◌, ◌-◌, ap, arith, ℕ}
use Rattle.tora_script.specs.InFlight.{gone}
use Rattle.tora_script.proofs.in_flight.gone.Goals as goal

pub returns : goal.returns
returns g c =
    let k : c.loop-i.i - c.args.first ≡ c.args.end - c.args.first = omega (arith, c.loop-i.invariant.within, c.loop-i-test.false) in
    c.loop-i.invariant.value ∙ ap (λ (n : ℕ). gone (g.S.Simulator.world c.args.sim.now) c.args.direction c.args.first n) k
