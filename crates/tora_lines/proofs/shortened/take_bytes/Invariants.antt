use Rattle.std.proofs.Common.{ℕ, List, ◌+◌, ◌≤◌, drop}
use Rattle.tora_lines.specs.Engine.{IsOpen}
use Rattle.tora_lines.specs.Shortened.{Holds, Takes}
use Rattle.tora_lines.proofs.shortened.take_bytes.Given as goal

abbrev pub invariant-loop-byte : goal.invariant-loop-byte
invariant-loop-byte g l = record {
  takes : (text : List ℕ) → Holds l.initial.held text → IsOpen text → Takes g.K.FileKind.kind l.initial.session.state l.initial.number text l.bytes (g.W.Write.contents l.initial.writer) (g.W.Write.contents l.writer) l.session.state l.number l.held (drop l.byte-index l.bytes);
  count : l.number ≤ l.initial.number + l.byte-index;
}
