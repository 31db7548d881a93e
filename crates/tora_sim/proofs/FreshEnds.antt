-- Fresh link ends for those of a node, and the restart of one end after another.
use Rattle.std.proofs.Common.{◌≡◌, ℕ, zero, suc, ◌<◌, ◌≤◌, ◌+◌, ◌⊎◌, inl, inr, List, [], ◌∷◌, ◌++◌, length, set, slice_get, Option, Some, refl, sym, ap, ◌∙◌, arith, ltb}
use borrow.Author.Tests.{ltb-true, ltb-false}
use Rattle.std.proofs.lemmas.Bool.{cases_Bool}
use Rattle.std.proofs.lemmas.Option.{slice_get_read, slice_get_within}
use Rattle.std.proofs.lemmas.List.{length-set}
use Rattle.std.specs.Prelude.{slice_index_or}
use Rattle.tora_arq.specs.LinkEnd.{first_end}
use Rattle.tora_arq.specs.EndRange.{LinkEndView, link_end_of}
use Rattle.tora_sim.proofs.EachItem.{set_same, set_other}
use Rattle.tora_sim.specs.Links.{LinkView, AreChanged}
use Rattle.tora_sim.specs.Restarts.{restarted, AreFresh}

-- ---- lists

get_front : {A : Type 0} → (xs ys : List A) (i : ℕ) → i < length xs → slice_get (xs ++ ys) i ≡ slice_get xs i
get_front [] ys i lt = absurd (omega (arith, lt))
get_front (x ∷ xs) ys zero lt = refl
get_front (x ∷ xs) ys (suc i) lt = get_front xs ys i (omega (arith, lt))

get_back : {A : Type 0} → (xs : List A) (y : A) → slice_get (xs ++ y ∷ []) (length xs) ≡ Some y
get_back [] y = refl
get_back (x ∷ xs) y = get_back xs y

pub item_at : {A : Type 0} → (xs : List A) (i : ℕ) → i < length xs → (x : A) × (slice_get xs i ≡ Some x)
item_at [] i lt = absurd (omega (arith, lt))
item_at (x ∷ xs) zero lt = (x, refl)
item_at (x ∷ xs) (suc i) lt = item_at xs i (omega (arith, lt))

pub same_item : {A : Type 0} → (x y : A) → Some x ≡ Some y → x ≡ y
same_item x y e = cc

-- a number below the next one is below this one, or equal to it
pub below_next : (j place : ℕ) → j < place + 1 → (j < place) ⊎ (j ≡ place)
below_next j place lt = elim (cases_Bool (ltb j place)) [ inl e ↦ inl (ltb-true j place e) | inr e ↦ inr (let more = ltb-false j place e in omega (arith, lt, more)) ]

-- ---- one more fresh end

pub none_fresh : (links : List LinkView) (first : ℕ) (ends : List LinkEndView) → AreFresh links first 0 ends
none_fresh links first ends place link lt e = absurd (omega (arith, lt))

pub more_fresh : (links : List LinkView) (first place : ℕ) (x : LinkView) (ends : List LinkEndView) (end : LinkEndView) → AreFresh links first place ends → length ends ≡ place
    → first + place < length links → x ≡ slice_index_or links (first + place) x → end ≡ link_end_of x.settings first_end → AreFresh links first (place + 1) (ends ++ end ∷ [])
more_fresh links first place x ends end h count within read e j link lt at = go (below_next j place lt)
  where
    there : slice_get links (first + place) ≡ Some x
    there = slice_get_read links (length links) (first + place) x refl within read

    go : (j < place) ⊎ (j ≡ place) → slice_get (ends ++ end ∷ []) j ≡ Some (link_end_of link.settings first_end)
    go (inl less) = get_front ends (end ∷ []) j (omega (arith, less, count)) ∙ h j link less at
    go (inr same) =
        let is : x ≡ link = same_item x link (sym there ∙ ap (λ m. slice_get links (first + m)) (sym same) ∙ at) in
        ap (λ m. slice_get (ends ++ end ∷ []) m) (same ∙ sym count) ∙ get_back ends end ∙ ap Some (e ∙ ap (λ (z : LinkView). link_end_of z.settings first_end) is)

-- ---- one more end is changed

pub none_changed : (change : LinkView → LinkView) (links : List LinkView) (first : ℕ) → AreChanged change links links first 0
none_changed change links first = record { as_many = refl; done = λ place link lt e. absurd (omega (arith, lt)); rest = λ i link elsewhere e. e }

module _ (change : LinkView → LinkView) (before links : List LinkView) (first place count : ℕ) (h : AreChanged change before links first place)
    (lt : place < count) (within : first + count ≤ length before) (x : LinkView) (read : x ≡ slice_index_or links (first + place) x) where
  there : slice_get links (first + place) ≡ Some x
  there = let same = h.as_many in slice_get_read links (length links) (first + place) x refl (omega (arith, same, lt, within)) read

  -- the end at this index is unchanged so far
  pub was : slice_get before (first + place) ≡ Some x
  was =
      let old = item_at before (first + place) (omega (arith, lt, within)) in
      let idle = h.rest (first + place) old.0 (λ j less e. absurd (omega (arith, less, e))) old.1 in
      old.1 ∙ ap Some (same_item old.0 x (sym idle ∙ there))

  pub one_changed : (y : LinkView) → y ≡ change x → AreChanged change before (set links (first + place) y) first (place + 1)
  one_changed y e = record {
    as_many = length-set links (first + place) y ∙ h.as_many;
    done = λ j link less at. done j link at (below_next j place less);
    rest = λ i link elsewhere at.
        set_other links (first + place) i y (λ q. elsewhere place (omega arith) q)
        ∙ h.rest i link (λ j less q. elsewhere j (omega (arith, less)) q) at;
  }
    where
      done : (j : ℕ) (link : LinkView) → slice_get before (first + j) ≡ Some link → (j < place) ⊎ (j ≡ place) → slice_get (set links (first + place) y) (first + j) ≡ Some (change link)
      done j link at (inl less) = set_other links (first + place) (first + j) y (λ q. absurd (omega (arith, less, q))) ∙ h.done j link less at
      done j link at (inr same) =
          let is : x ≡ link = same_item x link (sym was ∙ ap (λ m. slice_get before (first + m)) (sym same) ∙ at) in
          ap (λ m. slice_get (set links (first + place) y) (first + m)) same
          ∙ set_same links (first + place) y (slice_get_within links (first + place) x there)
          ∙ ap Some (e ∙ ap change is)

-- ---- one more end is restarted

-- the ends from an index on are unchanged so far
pub record IsGoing (torn : Option (List ℕ)) (before links : List LinkView) (first place : ℕ) (ends_before ends : List LinkEndView) : Type 0 where
  pub changed : AreChanged (restarted torn) before links first place
  pub as_many : length ends ≡ length ends_before
  pub ahead : (j : ℕ) → place ≤ j → slice_get ends j ≡ slice_get ends_before j

pub begins : (torn : Option (List ℕ)) (links : List LinkView) (first : ℕ) (ends : List LinkEndView) → IsGoing torn links links first 0 ends ends
begins torn links first ends = record { changed = none_changed (restarted torn) links first; as_many = refl; ahead = λ j le. refl }

module _ (torn : Option (List ℕ)) (before links : List LinkView) (first place count : ℕ) (ends_before ends : List LinkEndView) (h : IsGoing torn before links first place ends_before ends)
    (lt : place < count) (within : first + count ≤ length before) (x : LinkView) (read : x ≡ slice_index_or links (first + place) x) where
  pub fresh_here : AreFresh before first count ends_before → (end : LinkEndView) → place < length ends → end ≡ slice_index_or ends place end → end ≡ link_end_of x.settings first_end
  fresh_here fresh end less e =
      same_item end (link_end_of x.settings first_end)
      (sym (slice_get_read ends (length ends) place end refl less e) ∙ h.ahead place (omega arith) ∙ fresh place x lt (was (restarted torn) before links first place count h.changed lt within x read))

  pub goes_on : (y : LinkView) (end : LinkEndView) → y ≡ restarted torn x → IsGoing torn before (set links (first + place) y) first (place + 1) ends_before (set ends place end)
  goes_on y end e = record {
    changed = one_changed (restarted torn) before links first place count h.changed lt within x read y e;
    as_many = length-set ends place end ∙ h.as_many;
    ahead = λ j le. set_other ends place j end (λ q. absurd (omega (arith, le, q))) ∙ h.ahead j (omega (arith, le));
  }
