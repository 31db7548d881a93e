use Rattle.std.proofs.Common.{◌≡◌, ◌++◌, take}
use Rattle.std.specs.Prelude.{vec_capacity}
use Rattle.tora_sim.proofs.store.kept_list.append_all.Given as goal

-- the cargoes so far were appended, and there is room for the rest
abbrev pub invariant-loop-at : goal.invariant-loop-at
invariant-loop-at l = (l.list.items ≡ l.initial.list.items ++ take l.at l.inline_items) × (vec_capacity l.list ≡ vec_capacity l.initial.list)
