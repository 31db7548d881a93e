use Rattle.std.proofs.Common.{◌≡◌, length}
use Rattle.tora_commands.proofs.life_files.open.Given as goal

-- a disk for each link so far
abbrev pub invariant-loop-link : goal.invariant-loop-link
invariant-loop-link g l = length l.disks.items ≡ l.link-index
