-- An input that concerns one destination changes only its view, and sends only its packet.
use Rattle.std.proofs.Common.{◌≡◌, refl, ap, sym, ◌∙◌, ℕ, ◌+◌, ◌<◌, ◌≤◌, suc, Bool, true, false, not, List, [], ◌∷◌, map, length, Option, Some, None, arith, nat_lt}
use Rattle.std.specs.Prelude.{filter_map, if◌then◌else◌, slice_set, slice_index_or}
use Rattle.std.specs.List.{AllByRecursion, position, position_or_len, cons_option}
use Rattle.std.proofs.lemmas.Bool.Decides.{nat_tests}
use Rattle.tora_packet.specs.declared.Packet.{Packet}
use Rattle.tora_core.specs.declared.Input.{Input}
use Rattle.tora_core.specs.Numbers.{IsAscending}
use Rattle.tora_core.specs.View.{View}
use Rattle.tora_core.specs.Rules.{view_after, packet_sent}
use Rattle.tora_core.specs.CoreRun.{is_of, own_destination, concerns, next_view, next_packet}
use Rattle.tora_core.specs.Kept.{destinations_of}
use Rattle.tora_core.proofs.NumberLemmas.{same-number}

-- ---- the first element that passes a test

module _ {X : Type 0} (p : X → Bool) where
  pub place-Some : (xs : List X) (i : ℕ) → position p xs ≡ Some i → (position_or_len p xs < length xs) × (i ≡ position_or_len p xs)
  place-Some xs i e = at (nat_lt (position_or_len p xs) (length xs)) refl e
    where
      at : (b : Bool) → nat_lt (position_or_len p xs) (length xs) ≡ b → (if b then Some (position_or_len p xs) else None) ≡ Some i → (position_or_len p xs < length xs) × (i ≡ position_or_len p xs)
      at true t f = (grind (arith, nat_tests), cc)
      at false t f = absurd cc

  place-None : (xs : List X) → position p xs ≡ None → length xs ≤ position_or_len p xs
  place-None xs e = at (nat_lt (position_or_len p xs) (length xs)) refl e
    where
      at : (b : Bool) → nat_lt (position_or_len p xs) (length xs) ≡ b → (if b then Some (position_or_len p xs) else None) ≡ None → length xs ≤ position_or_len p xs
      at true t f = absurd cc
      at false t f = grind (arith, nat_tests)

  none-within : (xs : List X) → length xs ≤ position_or_len p xs → AllByRecursion (λ (x : X). p x ≡ false) xs
  none-within [] e = tt
  none-within (x ∷ xs) e = at (none-within xs) (p x) refl e
    where
      at : (length xs ≤ position_or_len p xs → AllByRecursion (λ (x : X). p x ≡ false) xs) → (b : Bool) → p x ≡ b → suc (length xs) ≤ (if not b then 1 + position_or_len p xs else 0)
          → AllByRecursion (λ (x : X). p x ≡ false) (x ∷ xs)
      at rest true be f = absurd (omega arith)
      at rest false be f = (be, rest (omega arith))

  pub none-passes : (xs : List X) → position p xs ≡ None → AllByRecursion (λ (x : X). p x ≡ false) xs
  none-passes xs e = none-within xs (place-None xs e)

-- no later view has the same destination
later-apart : (d : ℕ) (v : View) (views : List View) → is_of d v ≡ true → AllByRecursion (λ (m : ℕ). v.destination < m) (destinations_of views) → AllByRecursion (λ (w : View). is_of d w ≡ false) views
later-apart d v [] is above = tt
later-apart d v (w ∷ views) is above =
    let same : v.destination ≡ d = same-number v.destination d is in
    let later = above.0 in
    (grind (arith, nat_tests), later-apart d v views is above.1)

-- ---- the views after an input of destination d

module _ (input : Input) (now d : ℕ) (own : own_destination input ≡ Some d) where
  pub concerned : (v : View) → is_of d v ≡ true → concerns input v.destination ≡ true
  concerned v is = rw own is

  still : (v : View) → is_of d v ≡ false → next_view input now v ≡ v
  still v is = rw (own, is) refl

  silent : (v : View) → is_of d v ≡ false → next_packet input now v ≡ None
  silent v is = rw (own, is) refl

  pub views-none : (views : List View) → AllByRecursion (λ (v : View). is_of d v ≡ false) views → map (next_view input now) views ≡ views
  views-none [] none = refl
  views-none (v ∷ views) none = let e = still v none.0 in let rest = views-none views none.1 in cc

  pub sends-none : (views : List View) → AllByRecursion (λ (v : View). is_of d v ≡ false) views → filter_map (next_packet input now) views ≡ []
  sends-none [] none = refl
  sends-none (v ∷ views) none =
      ap (λ (o : Option Packet). cons_option o (filter_map (next_packet input now) views)) (silent v none.0) ∙ sends-none views none.1

  pub views-at : (views : List View) (x : View) → IsAscending (destinations_of views) → position_or_len (is_of d) views < length views → x ≡ slice_index_or views (position_or_len (is_of d) views) x
      → map (next_view input now) views ≡ slice_set views (position_or_len (is_of d) views) (next_view input now x)
  views-at [] x asc lt read = absurd (omega arith)
  views-at (v ∷ views) x asc lt read = at (views-at views x asc.1) (is_of d v) refl lt read
    where
      at : (position_or_len (is_of d) views < length views → x ≡ slice_index_or views (position_or_len (is_of d) views) x → map (next_view input now) views ≡ slice_set views (position_or_len (is_of d) views) (next_view input now x))
          → (b : Bool) → is_of d v ≡ b
          → (if not b then 1 + position_or_len (is_of d) views else 0) < suc (length views)
          → x ≡ slice_index_or (v ∷ views) (if not b then 1 + position_or_len (is_of d) views else 0) x
          → map (next_view input now) (v ∷ views) ≡ slice_set (v ∷ views) (if not b then 1 + position_or_len (is_of d) views else 0) (next_view input now x)
      at rest true be f r =
          let same : x ≡ v = r in
          let later = views-none views (later-apart d v views be asc.0) in
          let first : next_view input now v ≡ next_view input now x = ap (next_view input now) (sym same) in
          cc
      at rest false be f r =
          let s : 1 + position_or_len (is_of d) views ≡ suc (position_or_len (is_of d) views) = omega arith in
          let here = still v be in
          let later = rest (omega arith) (rw s at r) in
          rw s (cc)

  pub sends-at : (views : List View) (x : View) → IsAscending (destinations_of views) → position_or_len (is_of d) views < length views → x ≡ slice_index_or views (position_or_len (is_of d) views) x
      → filter_map (next_packet input now) views ≡ cons_option (next_packet input now x) []
  sends-at [] x asc lt read = absurd (omega arith)
  sends-at (v ∷ views) x asc lt read = at (sends-at views x asc.1) (is_of d v) refl lt read
    where
      at : (position_or_len (is_of d) views < length views → x ≡ slice_index_or views (position_or_len (is_of d) views) x → filter_map (next_packet input now) views ≡ cons_option (next_packet input now x) [])
          → (b : Bool) → is_of d v ≡ b
          → (if not b then 1 + position_or_len (is_of d) views else 0) < suc (length views)
          → x ≡ slice_index_or (v ∷ views) (if not b then 1 + position_or_len (is_of d) views else 0) x
          → filter_map (next_packet input now) (v ∷ views) ≡ cons_option (next_packet input now x) []
      at rest true be f r =
          let same : x ≡ v = r in
          let later = sends-none views (later-apart d v views be asc.0) in
          let first : next_packet input now v ≡ next_packet input now x = ap (next_packet input now) (sym same) in
          cc
      at rest false be f r =
          let s : 1 + position_or_len (is_of d) views ≡ suc (position_or_len (is_of d) views) = omega arith in
          ap (λ (o : Option Packet). cons_option o (filter_map (next_packet input now) views)) (silent v be) ∙ rest (omega arith) (rw s at r)

  -- the first view that is of the destination
  pub found : (views : List View) (x : View) → position_or_len (is_of d) views < length views → x ≡ slice_index_or views (position_or_len (is_of d) views) x → is_of d x ≡ true
  found [] x lt read = absurd (omega arith)
  found (v ∷ views) x lt read = at (found views x) (is_of d v) refl lt read
    where
      at : (position_or_len (is_of d) views < length views → x ≡ slice_index_or views (position_or_len (is_of d) views) x → is_of d x ≡ true)
          → (b : Bool) → is_of d v ≡ b
          → (if not b then 1 + position_or_len (is_of d) views else 0) < suc (length views)
          → x ≡ slice_index_or (v ∷ views) (if not b then 1 + position_or_len (is_of d) views else 0) x
          → is_of d x ≡ true
      at rest true be f r = let same : x ≡ v = r in ap (is_of d) same ∙ be
      at rest false be f r = let s : 1 + position_or_len (is_of d) views ≡ suc (position_or_len (is_of d) views) = omega arith in rest (omega arith) (rw s at r)

-- a view that an input concerns takes the input
pub view-taken : (input : Input) (now : ℕ) (v : View) → concerns input v.destination ≡ true → next_view input now v ≡ view_after v input now
view-taken input now v is = ap (λ b. if b then view_after v input now else v) is

pub packet-taken : (input : Input) (now : ℕ) (v : View) → concerns input v.destination ≡ true → next_packet input now v ≡ packet_sent v input now
packet-taken input now v is = ap (λ b. if b then packet_sent v input now else None) is
