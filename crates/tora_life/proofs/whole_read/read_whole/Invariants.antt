use Rattle.std.proofs.Common.{◌≡◌, ◌≤◌, ◌-◌, ◌++◌, ℕ, List, Result, length, take, drop, IsTrue}
use Rattle.std.specs.declared.io.Error.{Error}
use Rattle.tora_life.specs.WholeRead.{ReadsOn}
use Rattle.tora_life.proofs.whole_read.read_whole.Given as goal

-- the bytes read so far are the first ones from the offset on, and reading on from here completes the read from the
-- start
abbrev pub invariant-loop : goal.invariant-loop
invariant-loop g l = record {
  few : l.count ≤ length l.buf;
  long : length l.buf ≡ length l.fn.buf;
  tells : g.F.ReadFrom.tells l.reader ≡ g.F.ReadFrom.tells l.fn.reader;
  same : g.F.ReadFrom.bytes l.reader ≡ g.F.ReadFrom.bytes l.fn.reader;
  there : IsTrue (g.F.ReadFrom.tells l.fn.reader) → l.count ≤ length (drop l.at (g.F.ReadFrom.bytes l.fn.reader));
  bytes : IsTrue (g.F.ReadFrom.tells l.fn.reader) → l.buf ≡ take l.count (drop l.at (g.F.ReadFrom.bytes l.fn.reader)) ++ drop l.count l.fn.buf;
  onward : (answer : Result ℕ Error) (after : _) (new : List ℕ) → ReadsOn g.F.ReadFrom.did_read_at (18446744073709551615 - l.counter) l.at l.reader l.count l.buf answer after new → ReadsOn g.F.ReadFrom.did_read_at 18446744073709551615 l.at l.fn.reader 0 l.fn.buf answer after new;
}
