use Rattle.std.proofs.Common.{length}
use Rattle.tora_lines.proofs.Steps.{IsRunning}
use Rattle.tora_lines.proofs.engine.drain.Given as goal

abbrev pub invariant-loop-at : goal.invariant-loop-at
invariant-loop-at g l =
    IsRunning g.K.FileKind.kind l.initial.session.state l.initial.number l.text (g.W.Write.contents l.initial.writer) (g.W.Write.contents l.writer) l.session.state l.number l.rest

abbrev pub decreases-loop-at : goal.decreases-loop-at
decreases-loop-at g l = length l.rest
