use Rattle.tora_script.specs.Rounds.{end_event}
use Rattle.tora_script.proofs.RoundLaws.{idle}
use Rattle.tora_script.proofs.turns.repeat_turn.Goals as goal

pub returns-then-not-may_happen : goal.returns-then-not-may_happen
returns-then-not-may_happen g c = idle (g.S.Simulator.world c.args.sim.now) c.args.most (end_event c.args.kind c.args.end) (rw c.event.ensures at (c.may_happen.ensures c.if-not-may_happen.true))
