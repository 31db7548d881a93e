use Rattle.std.proofs.Common.{◌<◌, ℕ, zero, suc, List, [], ◌∷◌, length, sym, subst, arith}
use Rattle.std.specs.Prelude.{slice_index_or}
use Rattle.std.specs.List.{AllByRecursion}
use Rattle.tora_core.specs.View.{View}
use Rattle.tora_core.specs.Kept.{IsViewOf, destinations_of}
use Rattle.tora_script.proofs.trace.core_copy.CoreCopy.restart.Goals as goal

are_positive : (me : ℕ) (up : List ℕ) (views : List View) → AllByRecursion (IsViewOf me up) views → (k d : ℕ) → k < length (destinations_of views) → 0 < slice_index_or (destinations_of views) k d
are_positive me up [] h k d lt = absurd (omega (arith, lt))
are_positive me up (v ∷ views) h zero d lt = h.0.kept.destination.0
are_positive me up (v ∷ views) h (suc k) d lt = are_positive me up views h.1 k d (omega (arith, lt))

pub with_erasure-requires-clause-destinations : goal.with_erasure-requires-clause-destinations
with_erasure-requires-clause-destinations c =
    subst (λ (ds : List ℕ). (k d : ℕ) → k < length ds → 0 < slice_index_or ds k d) (sym c.destinations.ensures)
    (are_positive c.self.inside.core.me c.self.inside.core.up c.self.inside.core.views c.me.ensures.kept.views)
