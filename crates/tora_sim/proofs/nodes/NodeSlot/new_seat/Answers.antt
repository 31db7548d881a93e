use Rattle.std.proofs.Common.{◌≡◌, ◌<◌, ℕ, zero, suc, List, [], ◌∷◌, length, None, sym, ap, ◌∙◌, subst, arith}
use Rattle.std.specs.Prelude.{slice_index_or}
use Rattle.std.specs.List.{AllByRecursion}
use Rattle.tora_core.specs.View.{View}
use Rattle.tora_core.specs.Kept.{IsViewOf, destinations_of}
use Rattle.tora_core.specs.CoreRun.{CoreView, core_refusal_within}
use Rattle.tora_core.specs.declared.TheConstants.{GREATEST_NEIGHBOURS, MOST_DESTINATIONS}
use Rattle.tora_seat.specs.Rows.{SeatView}
use Rattle.tora_sim.specs.Nodes.{NodeView}
use Rattle.tora_sim.proofs.Served.{not_refused}
use Rattle.tora_sim.proofs.nodes.NodeSlot.new_seat.Goals as goal

are_positive : (me : ℕ) (up : List ℕ) (views : List View) → AllByRecursion (IsViewOf me up) views → (k d : ℕ) → k < length (destinations_of views) → 0 < slice_index_or (destinations_of views) k d
are_positive me up [] h k d lt = absurd (omega (arith, lt))
are_positive me up (v ∷ views) h zero d lt = h.0.kept.destination.0
are_positive me up (v ∷ views) h (suc k) d lt = are_positive me up views h.1 k d (omega (arith, lt))

pub with_erasure-requires-clause-destinations : goal.with_erasure-requires-clause-destinations
with_erasure-requires-clause-destinations c =
    subst (λ (ds : List ℕ). (k d : ℕ) → k < length ds → 0 < slice_index_or ds k d) (sym c.destinations.ensures)
    (are_positive c.core-core.result.now.me c.core-core.result.now.up c.core-core.result.now.views c.me.ensures.kept.views)

pub returns-in-Err-clause-accepted : goal.returns-in-Err-clause-accepted
returns-in-Err-clause-accepted c =
    subst (λ (core : CoreView). core_refusal_within GREATEST_NEIGHBOURS MOST_DESTINATIONS core.me core.neighbours (destinations_of core.views) ≡ None)
    (c.core-core.ensures ∙ ap (λ (s : SeatView). s.core) c.deref.ensures ∙ ap (λ (v : NodeView). v.seat.core) c.self.view_is) (not_refused c.core-core.result.now c.me.ensures.kept)
