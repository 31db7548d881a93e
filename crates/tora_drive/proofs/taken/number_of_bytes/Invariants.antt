use Rattle.std.proofs.Common.{◌≡◌}
use Rattle.tora_drive.specs.Taking.{last_sent, number_of_bytes}
use Rattle.tora_drive.proofs.taken.number_of_bytes.Given as goal

abbrev pub invariant-loop-i : goal.invariant-loop-i
invariant-loop-i g l = last_sent (g.S.Simulator.world l.sim) l.sender l.receiver l.bytes l.forgotten l.i ≡ number_of_bytes (g.S.Simulator.world l.sim) l.forgotten l.sender l.receiver l.bytes

abbrev pub decreases-loop-i : goal.decreases-loop-i
decreases-loop-i g l = l.i
