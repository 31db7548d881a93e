use Rattle.tora_seat.proofs.CoreFollows.{inputs_make_the_core}
use Rattle.tora_seat.proofs.ItemTicks.{inputs_have_the_tick}
use Rattle.tora_seat.proofs.inputs.accepted_inputs_make_the_core.Goals as goal

pub returns-clause-runs : goal.returns-clause-runs
returns-clause-runs c = inputs_make_the_core

pub returns-clause-ticks : goal.returns-clause-ticks
returns-clause-ticks c = inputs_have_the_tick
