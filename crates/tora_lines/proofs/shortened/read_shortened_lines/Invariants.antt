use Rattle.std.proofs.Common.{◌≡◌, ◌+◌, ◌*◌, ◌≤◌, vec_len}
use Rattle.tora_lines.specs.Reads.{HasRead}
use Rattle.tora_lines.specs.Shortened.{IsBetweenReads}
use Rattle.tora_lines.proofs.shortened.read_shortened_lines.Given as goal

abbrev pub invariant-loop : goal.invariant-loop
invariant-loop g l = record {
  between : IsBetweenReads g.K.FileKind.kind l.fn.state l.session.state l.number l.held (g.R.Input.remaining l.initial.reader) (g.R.Input.remaining l.reader) (g.W.Write.contents l.initial.writer) (g.W.Write.contents l.writer);
  reads : HasRead g.R.Input.did_read l.initial.reader l.reader l.counter;
  room : vec_len l.chunk ≡ 65536;
  count : l.number ≤ 1 + 65536 * l.counter;
}
