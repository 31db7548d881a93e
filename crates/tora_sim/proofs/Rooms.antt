-- Memory that is allocated at the link ends of a node before an item is served.
use Rattle.std.proofs.Common.{◌≡◌, ℕ, zero, suc, ◌<◌, ◌≤◌, ◌+◌, ◌⊎◌, inl, inr, Bool, List, [], ◌∷◌, map, length, set, slice_get, Some, refl, sym, ap, ◌∙◌, subst, arith}
use Rattle.std.proofs.lemmas.List.{length-map, length-set}
use Rattle.std.proofs.lemmas.Bool.{cases_eq}
use Rattle.std.proofs.lemmas.Option.{same_Some, slice_get_read}
use Rattle.std.specs.Prelude.{slice_index_or}
use Rattle.tora_seat.specs.declared.cargo.Cargo.{Cargo}
use Rattle.tora_seat.specs.declared.TheConstants.{MOST_CARGOES}
use Rattle.tora_sim.specs.declared.store.inline_cargoes.TheConstants.{INLINE_CARGOES}
use Rattle.tora_sim.specs.Links.{LinkView}
use Rattle.tora_sim.specs.Lane.{Fits, AreWhole, AreOthersAsWhole}
use Rattle.tora_sim.specs.Lanes.{bare, bare_between, AreAlike, AreFitting, AreOthersKept, HasRoom, HaveRoom, lanes_of, after_offer_at, has_place, DidOffer}
use Rattle.tora_sim.proofs.Bared.{between_set, between_within}
use Rattle.tora_sim.proofs.EachItem.{set_same, set_other}
use Rattle.tora_sim.proofs.FreshEnds.{below_next}
use Rattle.tora_sim.proofs.Stores.{set_read}

-- there is room at the first ends of the node, up to `count`
pub record RoomMade (before links : List LinkView) (first count : ℕ) : Type 0 where
  pub same : AreAlike before links
  pub room : HaveRoom links first count
  pub others : AreOthersKept before links first count

map_set : (links : List LinkView) (i : ℕ) (x y : LinkView) → slice_get links i ≡ Some x → bare y ≡ bare x → map bare (set links i y) ≡ map bare links
map_set [] i x y e q = refl
map_set (z ∷ links) zero x y e q = let is : z ≡ x = cc in ap (λ b. b ∷ map bare links) (q ∙ ap bare (sym is))
map_set (z ∷ links) (suc i) x y e q = ap (λ b. bare z ∷ b) (map_set links i x y e q)

pub alike_set : (before links : List LinkView) (i : ℕ) (x y : LinkView) → AreAlike before links → slice_get links i ≡ Some x → bare y ≡ bare x → AreAlike before (set links i y)
alike_set before links i x y h e q = map_set links i x y e q ∙ h

pub no_room : (links : List LinkView) (first : ℕ) → RoomMade links links first 0
no_room links first = record { same = refl; room = λ place link lt e. absurd (omega arith); others = λ at away. refl }

pub same_length : (before links : List LinkView) → AreAlike before links → length links ≡ length before
same_length before links h = sym (length-map links bare) ∙ ap length h ∙ length-map before bare

module _ (before links : List LinkView) (first place : ℕ) (h : RoomMade before links first place) (x new : LinkView) (within : first + place < length links) (read : x ≡ slice_index_or links (first + place) x) (same : bare new ≡ bare x) where
  -- one more end changed at most in its memory
  pub alike_on : AreAlike before (set links (first + place) new)
  alike_on = alike_set before links (first + place) x new h.same (slice_get_read links (length links) (first + place) x refl within read) same

  pub others_on : (count : ℕ) → place < count → AreOthersKept before (set links (first + place) new) first count
  others_on count less at away =
      set_other links (first + place) at new (λ q. away place less q) ∙ h.others at (λ j lt q. away j (omega (arith, lt, less)) q)

  -- there is room at the first ends and at one more
  pub more_room : HasRoom new → RoomMade before (set links (first + place) new) first (place + 1)
  more_room room = record {
    same = alike_on;
    room = λ j link lt at. go j link at (below_next j place lt);
    others = others_on (place + 1) (omega arith);
  }
    where
      go : (j : ℕ) (link : LinkView) → slice_get (set links (first + place) new) (first + j) ≡ Some link → (j < place) ⊎ (j ≡ place) → HasRoom link
      go j link at (inl less) = h.room j link less (sym (set_other links (first + place) (first + j) new (λ (q : first + j ≡ first + place). absurd (omega (arith, less, q)))) ∙ at)
      go j link at (inr same) = subst (λ (z : LinkView). HasRoom z) (same_Some new link (sym (set_same links (first + place) new within) ∙ ap (λ (m : ℕ). slice_get (set links (first + place) new) (first + m)) (sym same) ∙ at)) room

-- ---- an offer

-- a lane that fits has no list, or its list has memory for all that the lane can hold
pub fits_room : (pulled room : ℕ) (pool : List ℕ) (place : ℕ) → Fits pulled room pool place → (room ≡ 0) ⊎ (pulled + MOST_CARGOES ≤ room)
fits_room pulled room pool place (inl near) = inl near.0
fits_room pulled room pool place (inr wide) = inr wide

-- a lane that fits still fits if another list of the pool is taken
fits_still : (pulled room : ℕ) (pool after : List ℕ) (place other : ℕ) → (other ≡ place → ⊥) → AreOthersAsWhole pool after place → Fits pulled room pool other → Fits pulled room after other
fits_still pulled room pool after place other away others (inl near) = inl (near.0, subst (λ (n : ℕ). MOST_CARGOES + INLINE_CARGOES ≤ n) (sym (others other away)) near.1)
fits_still pulled room pool after place other away others (inr wide) = inr wide

-- the ends fit, if they have memory or no list, and the pool has a whole list for each
pub all_fit : (links : List LinkView) (first count : ℕ) (pool : List ℕ) → HaveRoom links first count → AreWhole pool count → AreFitting links first count pool
all_fit links first count pool room whole place link lt there = elim (room place link lt there).cargoes [ inl near ↦ inl (near, whole place lt) | inr wide ↦ inr wide ]

module _ (links : List LinkView) (first count place : ℕ) (ends : first + count ≤ length links) (room : HaveRoom links first count) (lt : place < count) (x : LinkView) (read : x ≡ slice_index_or links (first + place) x) where
  pub within : first + place < length links
  within = omega (arith, ends, lt)

  pub there : slice_get links (first + place) ≡ Some x
  there = slice_get_read links (length links) (first + place) x refl within read

  module _ (pool after : List ℕ) (y : LinkView) (cargo : Cargo) (put : Bool) (lane : bare y ≡ bare (after_offer_at x cargo put)) (step : y.step_room ≡ x.step_room) (fits : Fits y.pulled y.room after place) where
    offered_room : HasRoom y
    offered_room = record {
      cargoes = fits_room y.pulled y.room after place fits;
      step = let had = (room place x lt there).step in let same = ap (λ (z : LinkView). length z.steps) lane in omega (arith, had, same, step);
    }

    pub still_within : first + count ≤ length (set links (first + place) y)
    still_within = subst (λ m. first + count ≤ m) (sym (length-set links (first + place) y)) ends

    pub still_roomy : HaveRoom (set links (first + place) y) first count
    still_roomy j link less at = elim (set_read links (first + place) y (first + j) link at) [
      | inl told ↦ subst HasRoom told.1 offered_room
      | inr was ↦ room j link less was
    ]

    pub still_fitting : AreOthersAsWhole pool after place → AreFitting links first count pool → AreFitting (set links (first + place) y) first count after
    still_fitting others h j link less at = go (cases_eq j place)
      where
        go : (j ≡ place) ⊎ (j ≡ place → ⊥) → Fits link.pulled link.room after j
        go (inl q) =
            let is : y ≡ link = same_Some y link (sym (set_same links (first + place) y within) ∙ ap (λ (m : ℕ). slice_get (set links (first + place) y) (first + m)) (sym q) ∙ at) in
            subst (λ (z : LinkView). Fits z.pulled z.room after j) is (subst (λ (m : ℕ). Fits y.pulled y.room after m) (sym q) fits)
        go (inr away) =
            fits_still link.pulled link.room pool after place j away others
            (h j link less (sym (set_other links (first + place) (first + j) y (λ (q : first + j ≡ first + place). away (omega (arith, q)))) ∙ at))

    pub did : put ≡ has_place x → DidOffer (lanes_of (bare_between first count links) first count) place cargo put (lanes_of (bare_between first count (set links (first + place) y)) first count)
    did p = record {
      link = bare x;
      within = lt;
      there = between_within first count links place x lt there;
      answer = p;
      lanes = ap (λ (xs : List LinkView). lanes_of xs first count) (between_set first count links place y lt ∙ ap (λ (z : LinkView). set (bare_between first count links) (first + place) z) lane);
    }
