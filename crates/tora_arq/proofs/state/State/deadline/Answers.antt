use Rattle.std.proofs.Common.{arith}
use Rattle.tora_arq.specs.StateView.{settings_in, state_in}
use Rattle.tora_arq.proofs.StillLemmas.{still_frames, still_ticks}
use Rattle.tora_arq.proofs.state.State.deadline.Goals as goal

pub returns-clause-frames : goal.returns-clause-frames
returns-clause-frames c tick h = still_frames (settings_in c.args.settings.now) (state_in c.args.self.now) c.due_from.result tick c.due_from.ensures (omega arith) h

pub returns-clause-ticks : goal.returns-clause-ticks
returns-clause-ticks c tick h = still_ticks (settings_in c.args.settings.now) (state_in c.args.self.now) c.due_from.result tick c.due_from.ensures (omega arith) h
