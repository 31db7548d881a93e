-- All link ends are ticked, except those that the tick does not change.
use Rattle.std.proofs.Common.{◌≡◌, ℕ, zero, suc, ◌+◌, ◌<◌, ◌≤◌, ◌⊎◌, inl, inr, List, [], ◌∷◌, map, length, set, slice_get, Some, refl, sym, ap, ◌∙◌, subst, arith}
use Rattle.std.specs.Prelude.{slice_index, slice_index_or}
use Rattle.std.proofs.lemmas.Option.{none-some, same_Some, slice_get_read, slice_get_within}
use Rattle.tora_sim.specs.Links.{LinkView, ticked, AreChanged}
use Rattle.tora_sim.specs.Quiet.{AreDeadlines}
use Rattle.tora_sim.proofs.FreshEnds.{item_at, one_changed}
use Rattle.tora_sim.proofs.NodeEnds.{by_places}
use Rattle.tora_sim.proofs.Quiets.{idle_tick}
use Rattle.tora_sim.proofs.EachItem.{before_or_not}

read_of : (xs : List LinkView) (i : ℕ) (x : LinkView) → slice_get xs i ≡ Some x → x ≡ slice_index_or xs i x
read_of [] i x e = absurd (none-some x e)
read_of (y ∷ xs) zero x e = sym (same_Some y x e)
read_of (y ∷ xs) (suc i) x e = read_of xs i x e

-- an end counts as ticked if it is replaced by its state after the tick
pub ticked_at : (now place : ℕ) (links : List LinkView) (x new link : LinkView) → place < length links → x ≡ slice_index_or links place x → new ≡ ticked now x → slice_get links place ≡ Some link → set links place new ≡ set links place (ticked now link)
ticked_at now place links x new link within read e there =
    let same : x ≡ link = same_Some x link (sym (slice_get_read links (length links) place x refl within read) ∙ there) in
    ap (λ (z : LinkView). set links place z) (e ∙ ap (ticked now) same)

module _ (now first place count : ℕ) (before links : List LinkView) (h : AreChanged (ticked now) before links first place) (lt : place < count) (within : first + count ≤ length before) where
  -- one more end is ticked
  pub one_ticked : (after : List LinkView) → ((link : LinkView) → slice_get links (first + place) ≡ Some link → after ≡ set links (first + place) (ticked now link)) → AreChanged (ticked now) before after first (place + 1)
  one_ticked after e =
      let as_many = h.as_many in
      let x = item_at links (first + place) (omega (arith, lt, within, as_many)) in
      subst (λ (ys : List LinkView). AreChanged (ticked now) before ys first (place + 1)) (sym (e x.0 x.1))
      (one_changed (ticked now) before links first place count h lt within x.0 (read_of links (first + place) x.0 x.1) (ticked now x.0) refl)

-- the ends up to the next deadline that has come count as ticked without a call
pub more_still : (now at next : ℕ) (deadlines : List ℕ) (before links : List LinkView) → AreDeadlines now deadlines before → at ≤ next → ((i : ℕ) → at ≤ i → i < next → now < slice_index deadlines i) → AreChanged (ticked now) before links 0 at
    → AreChanged (ticked now) before links 0 next
more_still now at next deadlines before links s le later h = record {
  as_many = h.as_many;
  done = λ place link lt there. done place link lt there (before_or_not place at);
  rest = λ i link away there. h.rest i link (λ place lt q. away place (omega (arith, lt, le)) q) there;
}
  where
    done : (place : ℕ) (link : LinkView) → place < next → slice_get before (0 + place) ≡ Some link → (place < at) ⊎ (at ≤ place) → slice_get links (0 + place) ≡ Some (ticked now link)
    done place link lt there (inl less) = h.done place link less there
    done place link lt there (inr more) =
        let due : now < slice_index deadlines (0 + place) = later (0 + place) (omega (arith, more)) (omega (arith, lt)) in
        h.rest (0 + place) link (λ j less q. absurd (omega (arith, less, q, more))) there
        ∙ ap Some (sym (idle_tick (slice_index deadlines (0 + place)) now link due (s.idle (0 + place) link due there)))

-- all ends
pub all_ticked : (now count : ℕ) (before links : List LinkView) → length before ≤ count → AreChanged (ticked now) before links 0 count → links ≡ map (ticked now) before
all_ticked now count before links many h =
    by_places (ticked now) before links h.as_many
    (λ j x at.
    let here : 0 + j ≡ j = omega arith in
    let within = slice_get_within before j x at in
    subst (λ (n : ℕ). slice_get links n ≡ Some (ticked now x)) here (h.done j x (omega (arith, within, many)) (subst (λ (n : ℕ). slice_get before n ≡ Some x) (sym here) at)))
