use Rattle.std.proofs.Common.{◌≡◌, ◌*◌, vec_len}
use Rattle.tora_lines.specs.Engine.{IsUnderway}
use Rattle.tora_lines.specs.Reads.{HasRead}
use Rattle.tora_lines.proofs.engine.read_session.Given as goal

abbrev pub invariant-loop : goal.invariant-loop
invariant-loop g l = record {
  underway : IsUnderway g.K.FileKind.kind l.initial.session.state l.session.state l.number l.pending.items (g.R.Input.remaining l.initial.reader) (g.R.Input.remaining l.reader) (g.W.Write.contents l.initial.writer) (g.W.Write.contents l.writer) (65536 * l.counter);
  reads : HasRead g.R.Input.did_read l.initial.reader l.reader l.counter;
  room : vec_len l.chunk ≡ 65536;
}
