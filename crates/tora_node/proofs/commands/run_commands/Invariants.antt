use Rattle.tora_node.proofs.CommandReads.{HaveRead}
use Rattle.tora_node.proofs.Commanding.{Underway}
use Rattle.tora_node.proofs.commands.run_commands.Given as goal

abbrev pub invariant-loop : goal.invariant-loop
invariant-loop g l = record {
  underway : Underway g.C.Clock.did_tell (g.Rd.Input.remaining l.fn.reader) (g.Rd.Input.remaining l.reader) (l.fn.port, l.fn.clock) (l.port, l.clock) l.line;
  reads : HaveRead g.Rd.Input.did_read l.fn.reader l.reader;
}
