use Rattle.std.proofs.Common.{◌≡◌, ◌≤◌, ◌+◌, take}
use Rattle.std.specs.Prelude.{vec_capacity}
use Rattle.tora_seat.specs.declared.TheConstants.{MOST_CARGOES}
use Rattle.tora_sim.specs.declared.store.inline_cargoes.TheConstants.{INLINE_CARGOES}
use Rattle.tora_sim.proofs.store.inline_cargoes.listed.Given as goal

-- the cargoes so far are in the list, which has memory for all
abbrev pub invariant-loop-at : goal.invariant-loop-at
invariant-loop-at l = (l.list.items ≡ take l.at l.cells) × (MOST_CARGOES + INLINE_CARGOES ≤ vec_capacity l.list)
