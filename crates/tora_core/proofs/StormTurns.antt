-- The turns of a storm, computed, apart from two questions: whether the computed height is in range, and whether an
-- entry is below it.
use Rattle.std.proofs.Common.{◌≡◌, ◌∙◌, ap, refl, ℕ, ◌^◌, Bool, true, false, not, ◌&&◌, ◌||◌, List, [], ◌∷◌, ◌++◌, Option, None, Some, ℤ, pos, neg_ℤ, ◌+ℤ◌, ◌≤ℤ◌, ◌<ℤ◌, ◌≤◌, arith}
use Rattle.std.specs.Prelude.{if◌then◌else◌}
use Rattle.std.proofs.lemmas.Int.{ints}
use Rattle.std.specs.Ordering.{is_lt}
use Rattle.tora_height.specs.declared.height_error.HeightError.{HeightError}
use Rattle.tora_height.specs.Height.{IsHeight, height_fault}
use Rattle.tora_height.specs.HeightOrder.{height_cmp}
use Rattle.tora_height.proofs.Ranges.{height_has_no_fault}
use Rattle.tora_core.specs.declared.destination.Broadcast.{Broadcast}
use Rattle.tora_core.specs.declared.destination.Broadcast.TheVariants as Tell
use Rattle.tora_core.specs.View.{is_downstream}
use Rattle.tora_core.specs.Heights.{fitted_by}
use Rattle.tora_core.specs.Rules.{Outcome, silent, update_broadcast_of, after_join, after_erase, after_update_loss}
use Rattle.tora_core.specs.Storms.{GoesOn, Turn, after_heard, storm_height, storm_row, storm_view, turn_after}
use Rattle.tora_core.proofs.Order.{lt-delta}

one-more : (delta : ℤ) → (delta +ℤ pos 1) <ℤ ((delta +ℤ pos 1) +ℤ pos 1)
one-more delta = omega (arith, ints)

below : (delta : ℤ) (j n : ℕ) → is_lt (height_cmp (storm_height (delta +ℤ pos 1) j) (storm_height ((delta +ℤ pos 1) +ℤ pos 1) n)) ≡ true
below delta j n = lt-delta (storm_height (delta +ℤ pos 1) j) (storm_height ((delta +ℤ pos 1) +ℤ pos 1) n) refl (one-more delta)

in-range : (delta : ℤ) (n : ℕ) → 1 ≤ n → n ≤ 3 → neg_ℤ (pos (2 ^ 30)) ≤ℤ delta → (delta +ℤ pos 2) ≤ℤ pos (2 ^ 30) → IsHeight (storm_height ((delta +ℤ pos 1) +ℤ pos 1) n)
in-range delta n least most low high = record {
  level = record { tau = omega arith; oid = omega arith; r = omega arith; zero_tau = λ e. absurd (omega arith); zero_oid = λ e. absurd (omega arith) };
  delta_low = omega (arith, ints);
  delta_high = omega (arith, ints);
  zero_level = λ e f. absurd (omega arith);
  id = omega arith;
  id_fits = omega arith;
}

-- node 1 after the update of 2, by the fault of the computed height, if it has one
abbrev joined-1 : ℤ → Option HeightError → Outcome
joined-1 delta fault =
    let height = fitted_by (storm_height ((delta +ℤ pos 1) +ℤ pos 1) 1) fault in
    update_broadcast_of (record (storm_view delta 1 2 3) {
      height = height;
      rows = storm_row (delta +ℤ pos 1) 2 ∷ record { neighbour = 3; entry = None; told = true } ∷ [];
    }) height

-- node 1 after the update of 3; the Bool says whether the entry of 2 is below the height
abbrev settled-1 : ℕ → ℤ → Bool → Outcome
settled-1 now delta lower =
    let w = storm_view (delta +ℤ pos 1) 1 2 3 in
    if true && not (lower || (is_downstream w.height (Some (storm_height (delta +ℤ pos 1) 3)) || false)) then after_update_loss w now else silent w

pub goes-on-1 : (now : ℕ) (delta : ℤ) → neg_ℤ (pos (2 ^ 30)) ≤ℤ delta → (delta +ℤ pos 2) ≤ℤ pos (2 ^ 30) → GoesOn now delta 1 2 3
unfolding after_join after_erase
goes-on-1 now delta low high =
    let told : List Broadcast = Tell.Clear 1 1 ∷ Tell.Query ∷ [] in
    let last : ℕ × Broadcast = (3, Tell.Update (storm_height (delta +ℤ pos 1) 3)) in
    let fits : height_fault (storm_height ((delta +ℤ pos 1) +ℤ pos 1) 1) ≡ None = height_has_no_fault _ (in-range delta 1 (omega arith) (omega arith) low high) in
    let P : Option HeightError → Turn = λ o. after_heard now (turn_after (record { view = storm_view delta 1 2 3; told = told }) (joined-1 delta o)) last in
    let Q : Bool → Turn = λ b. turn_after (record { view = storm_view delta 1 2 3; told = told ++ Tell.Update (storm_height ((delta +ℤ pos 1) +ℤ pos 1) 1) ∷ [] }) (settled-1 now delta b) in
    ap P fits ∙ ap Q (below delta 2 1)

-- node 2 after the update of 1, by the fault of the computed height, if it has one
abbrev joined-2 : ℤ → Option HeightError → Outcome
joined-2 delta fault =
    let height = fitted_by (storm_height ((delta +ℤ pos 1) +ℤ pos 1) 2) fault in
    update_broadcast_of (record (storm_view delta 2 1 3) {
      height = height;
      rows = storm_row (delta +ℤ pos 1) 1 ∷ record { neighbour = 3; entry = None; told = true } ∷ [];
    }) height

-- node 2 after the update of 3; the Bool says whether the entry of 1 is below the height
abbrev settled-2 : ℕ → ℤ → Bool → Outcome
settled-2 now delta lower =
    let w = storm_view (delta +ℤ pos 1) 2 1 3 in
    if true && not (lower || (is_downstream w.height (Some (storm_height (delta +ℤ pos 1) 3)) || false)) then after_update_loss w now else silent w

pub goes-on-2 : (now : ℕ) (delta : ℤ) → neg_ℤ (pos (2 ^ 30)) ≤ℤ delta → (delta +ℤ pos 2) ≤ℤ pos (2 ^ 30) → GoesOn now delta 2 1 3
unfolding after_join after_erase
goes-on-2 now delta low high =
    let told : List Broadcast = Tell.Clear 1 1 ∷ Tell.Query ∷ [] in
    let last : ℕ × Broadcast = (3, Tell.Update (storm_height (delta +ℤ pos 1) 3)) in
    let fits : height_fault (storm_height ((delta +ℤ pos 1) +ℤ pos 1) 2) ≡ None = height_has_no_fault _ (in-range delta 2 (omega arith) (omega arith) low high) in
    let P : Option HeightError → Turn = λ o. after_heard now (turn_after (record { view = storm_view delta 2 1 3; told = told }) (joined-2 delta o)) last in
    let Q : Bool → Turn = λ b. turn_after (record { view = storm_view delta 2 1 3; told = told ++ Tell.Update (storm_height ((delta +ℤ pos 1) +ℤ pos 1) 2) ∷ [] }) (settled-2 now delta b) in
    ap P fits ∙ ap Q (below delta 1 2)

-- node 3 after the update of 1, by the fault of the computed height, if it has one
abbrev joined-3 : ℤ → Option HeightError → Outcome
joined-3 delta fault =
    let height = fitted_by (storm_height ((delta +ℤ pos 1) +ℤ pos 1) 3) fault in
    update_broadcast_of (record (storm_view delta 3 1 2) {
      height = height;
      rows = storm_row (delta +ℤ pos 1) 1 ∷ record { neighbour = 2; entry = None; told = true } ∷ [];
    }) height

-- node 3 after the update of 2; the Bool says whether the entry of 1 is below the height
abbrev settled-3 : ℕ → ℤ → Bool → Outcome
settled-3 now delta lower =
    let w = storm_view (delta +ℤ pos 1) 3 1 2 in
    if true && not (lower || (is_downstream w.height (Some (storm_height (delta +ℤ pos 1) 2)) || false)) then after_update_loss w now else silent w

pub goes-on-3 : (now : ℕ) (delta : ℤ) → neg_ℤ (pos (2 ^ 30)) ≤ℤ delta → (delta +ℤ pos 2) ≤ℤ pos (2 ^ 30) → GoesOn now delta 3 1 2
unfolding after_join after_erase
goes-on-3 now delta low high =
    let told : List Broadcast = Tell.Clear 1 1 ∷ Tell.Query ∷ [] in
    let last : ℕ × Broadcast = (2, Tell.Update (storm_height (delta +ℤ pos 1) 2)) in
    let fits : height_fault (storm_height ((delta +ℤ pos 1) +ℤ pos 1) 3) ≡ None = height_has_no_fault _ (in-range delta 3 (omega arith) (omega arith) low high) in
    let P : Option HeightError → Turn = λ o. after_heard now (turn_after (record { view = storm_view delta 3 1 2; told = told }) (joined-3 delta o)) last in
    let Q : Bool → Turn = λ b. turn_after (record { view = storm_view delta 3 1 2; told = told ++ Tell.Update (storm_height ((delta +ℤ pos 1) +ℤ pos 1) 3) ∷ [] }) (settled-3 now delta b) in
    ap P fits ∙ ap Q (below delta 1 3)
