use Rattle.std.proofs.Common.{◌≡◌, ◌++◌, take}
use Rattle.tora_sim.proofs.store.lane.keep_first.Given as goal

-- the cargoes so far were appended
abbrev pub invariant-loop-place : goal.invariant-loop-place
invariant-loop-place l = l.past.items ≡ l.fn.past.items ++ take l.place l.cargoes
