use Rattle.std.proofs.Common.{sym}
use Rattle.tora_sim.proofs.duplicates.has_repeated_link.Goals as goal

pub returns-then-are_known_apart : goal.returns-then-are_known_apart
returns-then-are_known_apart c = sym (c.are_known_apart.ensures c.if-are_known_apart.true)
