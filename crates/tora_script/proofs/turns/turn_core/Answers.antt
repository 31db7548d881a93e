use Rattle.tora_world.specs.declared.event.Event.TheVariants.{CoreTurn}
use Rattle.tora_script.proofs.RoundLaws.{idle}
use Rattle.tora_script.proofs.turns.turn_core.Goals as goal

pub returns-then-not-may_happen : goal.returns-then-not-may_happen
returns-then-not-may_happen g c = idle (g.S.Simulator.world c.args.sim.now) 1024 (CoreTurn c.args.n) (c.may_happen.ensures c.if-not-may_happen.true)
