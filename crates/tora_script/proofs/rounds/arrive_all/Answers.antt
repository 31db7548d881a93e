use Rattle.tora_script.specs.Rounds.{arrival, arrivals}
use Rattle.tora_script.proofs.RoundLaws.{each_part}
use Rattle.tora_script.proofs.rounds.arrive_all.Goals as goal

pub loop-place-preserved : goal.loop-place-preserved
loop-place-preserved g c =
    rw c.either-some.ensures (each_part (arrival c.args.moment.now.network.parted.now) c.args.later.now c.loop-place.place (0, 0) (g.S.Simulator.world c.args.sim.now) (arrivals c.args.moment.now.network.parted.now c.args.later.now (g.S.Simulator.world c.args.sim.now))
    (g.S.Simulator.world c.loop-place.sim) (g.S.Simulator.world c.arrive_in.new.sim) c.loop-place.some c.in_ok-any.any c.loop-place-test.true c.loop-place.invariant c.in_ok-any.ensures)
