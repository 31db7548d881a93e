-- A draw from a life file in memory keeps the invariant.
use Rattle.std.proofs.Common.{◌≡◌, inl, inr, ℕ, ◌+◌, ◌^◌, ◌≤◌, max, Bool, true, false, List, length, refl, sym, ◌∙◌, ap, subst, arith, Result, Ok, Err, OnOk, IsFalse, nat_le, nat_lt, ◌==◌, if◌then◌else◌}
use Rattle.std.proofs.lemmas.Bool.Decides.{nat_tests}
use Rattle.tora_life.specs.declared.disk.DiskError.{DiskError}
use Rattle.tora_life.specs.declared.numbers.Numbers.{Numbers}
use Rattle.tora_life.specs.declared.numbers.LifeError.{LifeError}
use Rattle.tora_life.specs.declared.numbers.LifeError.TheVariants.{Disk, Failed, Spent}
use Rattle.tora_life.specs.declared.slots.Slot.{Slot}
use Rattle.tora_life.specs.declared.tags.Owner.{Owner}
use Rattle.tora_life.specs.declared.slots.Slot.TheVariants.{First, Second}
use Rattle.tora_life.specs.declared.state.State.{State}
use Rattle.tora_life.specs.Disk.{Holds, IsOnlyImage}
use Rattle.tora_life.specs.LifeFile.{Covers, file_value, slot_of, slot_value}
use Rattle.tora_life.specs.Numbers.{value_of, lesser_slot, with_bound, reserved, numbers_after}
use Rattle.tora_life.specs.Calls.{place_of}
use Rattle.tora_life.specs.Slots.{kept_bound, written_bound, IsReplaced}
use Rattle.tora_life.specs.State.{IsWhole, MayLeave, seen_of, after_sync, sync_answer}
use Rattle.tora_life.specs.InMemory.{IsKeptOn, by_result, slot_answer, slot_state, draw_answer, draw_state}
use Rattle.tora_life.proofs.Bounds.{le_or_lt, lesser_place, images_keep, length-slot_of, replaced}
use Rattle.tora_life.proofs.Writes.{write_crash, write_held, sync_crash, sync_durable}
use Rattle.tora_life.proofs.Wholes.{write_whole, sync_whole}

-- the bound in the other slot is the greater one
other_bound : (a b : ℕ) (file : List ℕ) → a ≡ slot_value file 0 → b ≡ slot_value file 1 → kept_bound (if nat_le a b then First else Second) file ≡ max a b
other_bound a b file one two = elim (le_or_lt a b) [
  | inl le ↦ let first : (if nat_le a b then First else Second) ≡ First = grind (arith, nat_tests) in rw first (omega (arith, two, le))
  | inr lt ↦ let second : (if nat_le a b then First else Second) ≡ Second = grind (arith, nat_tests) in rw second (omega (arith, one, lt))
]

new_first : (slot : Slot) (bound : ℕ) (numbers : Numbers) (old new : List ℕ) → written_bound slot new ≡ bound → kept_bound slot new ≡ kept_bound slot old → numbers.first ≡ slot_value old 0 → (with_bound slot bound numbers).first ≡ slot_value new 0
new_first First bound numbers old new written kept was = sym written
new_first Second bound numbers old new written kept was = was ∙ sym kept

new_second : (slot : Slot) (bound : ℕ) (numbers : Numbers) (old new : List ℕ) → written_bound slot new ≡ bound → kept_bound slot new ≡ kept_bound slot old → numbers.second ≡ slot_value old 1 → (with_bound slot bound numbers).second ≡ slot_value new 1
new_second First bound numbers old new written kept was = was ∙ sym kept
new_second Second bound numbers old new written kept was = sym written

new_value : (slot : Slot) (bound : ℕ) (numbers : Numbers) → bound ≤ value_of (with_bound slot bound numbers)
new_value First bound numbers = omega arith
new_value Second bound numbers = omega arith

abbrev pub Goes : Owner → Numbers → Result ℕ LifeError → State → Type 0
Goes owner numbers answer after = IsWhole after × IsKeptOn owner (numbers_after answer numbers) after

bound_reach : (slot : Slot) (numbers : Numbers) → value_of numbers + 16 ≤ 2 ^ 62 → value_of (with_bound slot (value_of numbers + 16) numbers) ≤ 2 ^ 62
bound_reach First numbers left = omega arith
bound_reach Second numbers left = omega arith

module _ (owner : Owner) (numbers : Numbers) (s : State) (whole : IsWhole s) (kept : IsKeptOn owner numbers s) (sound : IsFalse numbers.failed) (used : numbers.drawn ≡ value_of numbers) (left : value_of numbers + 16 ≤ 2 ^ 62) where
  abbrev slot : Slot
  slot = lesser_slot numbers

  abbrev bound : ℕ
  bound = value_of numbers + 16

  abbrev after : State
  after = slot_state numbers s

  only : IsOnlyImage (seen_of s) (MayLeave s)
  only = kept.only refl sound

  place : place_of slot ≤ length (seen_of s)
  place = lesser_place numbers (seen_of s) (kept.first refl sound)

  images : (c : List ℕ) → MayLeave after c → Covers owner (kept_bound slot (seen_of s)) c
  images c may =
      images_keep owner slot (seen_of s) (place_of slot) (length (slot_of bound)) (MayLeave s) refl (length-slot_of bound) (kept.images refl (seen_of s) (inl refl)).tag only c
      (write_crash s whole (place_of slot) (slot_of bound) place c may)

  after_whole : IsWhole after
  after_whole = write_whole s whole (place_of slot) (slot_of bound)

  covers : (c : List ℕ) → MayLeave after c → Covers owner numbers.drawn c
  covers c may = subst (λ (k : ℕ). Covers owner k c) (other_bound numbers.first numbers.second (seen_of s) (kept.first refl sound) (kept.second refl sound) ∙ sym used) (images c may)

  has_failed : (new : State) → ((c : List ℕ) → MayLeave new c → MayLeave after c) → IsKeptOn owner (record numbers { failed = true }) new
  has_failed new back = record {
    room = kept.room;
    reach = kept.reach;
    images = λ told c may. covers c (back c may);
    only = λ told no. absurd (cc);
    first = λ told no. absurd (cc);
    second = λ told no. absurd (cc);
  }

  has_more : (new : State) → Holds (seen_of s) (place_of slot) (slot_of bound) (seen_of after) → IsOnlyImage (seen_of after) (MayLeave new) → seen_of new ≡ seen_of after → IsKeptOn owner (record (reserved numbers) { drawn = numbers.drawn + 1 }) new
  has_more new holds one same =
      let is : IsReplaced slot bound (seen_of s) (seen_of after) (MayLeave new) = replaced slot bound (place_of slot) (seen_of s) (slot_of bound) (seen_of after) (MayLeave new) refl refl (omega (arith, left)) place holds one in
      let first : (with_bound slot bound numbers).first ≡ slot_value (seen_of after) 0 = new_first slot bound numbers (seen_of s) (seen_of after) is.written is.kept (kept.first refl sound) in
      let second : (with_bound slot bound numbers).second ≡ slot_value (seen_of after) 1 = new_second slot bound numbers (seen_of s) (seen_of after) is.written is.kept (kept.second refl sound) in
      let more : numbers.drawn + 1 ≤ value_of (with_bound slot bound numbers) = omega (arith, new_value slot bound numbers, used) in
      record {
        room = more;
        reach = λ less. bound_reach slot numbers left;
        images = λ told c may.
            subst (λ (l : List ℕ). Covers owner (numbers.drawn + 1) l) (sym (one c may)) (record { value = omega (arith, more, first, second); tag = (images (seen_of after) (inl refl)).tag });
        only = λ told no c may. one c may ∙ sym same;
        first = λ told no. first ∙ ap (λ (l : List ℕ). slot_value l 0) (sym same);
        second = λ told no. second ∙ ap (λ (l : List ℕ). slot_value l 1) (sym same);
      }

  reserves : (written synced : Result (Unit {0}) DiskError) → written ≡ slot_answer numbers s → synced ≡ sync_answer after
      → Goes owner numbers (by_result written (by_result synced (Ok (numbers.drawn + 1)) (Err Disk)) (Err Disk)) (by_result written (after_sync after) after)
  reserves (Err e) synced is ends = (after_whole, has_failed after (λ c may. may))
  reserves (Ok u) (Err e) is ends = (sync_whole after after_whole, has_failed (after_sync after) (sync_crash after after_whole))
  reserves (Ok u) (Ok v) is ends =
      let holds : Holds (seen_of s) (place_of slot) (slot_of bound) (seen_of after) =
      subst (λ (r : Result (Unit {0}) DiskError). OnOk r (Holds (seen_of s) (place_of slot) (slot_of bound) (seen_of after))) (sym is) (write_held s whole (place_of slot) (slot_of bound) place)
      in
      let one : IsOnlyImage (seen_of after) (MayLeave (after_sync after)) = subst (λ (r : Result (Unit {0}) DiskError). OnOk r (IsOnlyImage (seen_of after) (MayLeave (after_sync after)))) (sym ends) (sync_durable after after_whole) in
      let yes : true ≡ (numbers.drawn == value_of numbers) = grind (arith, nat_tests) in (
        sync_whole after after_whole,
        subst (λ (b : Bool). IsKeptOn owner (record (if b then reserved numbers else numbers) { drawn = numbers.drawn + 1 }) (after_sync after)) yes
            (has_more (after_sync after) holds one (one (seen_of (after_sync after)) (inl refl))),
      )

module _ (owner : Owner) (numbers : Numbers) (s : State) (whole : IsWhole s) (kept : IsKeptOn owner numbers s) where
  -- the next number is reserved already
  in_hand : IsFalse numbers.failed → false ≡ (numbers.drawn == value_of numbers) → IsKeptOn owner (record numbers { drawn = numbers.drawn + 1 }) s
  in_hand sound not =
      let less : numbers.drawn + 1 ≤ value_of numbers = grind (arith, nat_tests, kept.room) in
      let all : (c : List ℕ) → MayLeave s c → Covers owner (numbers.drawn + 1) c = λ c may.
      let is : c ≡ seen_of s = kept.only refl sound c may in
      let at : numbers.drawn + 1 ≤ file_value (seen_of s) = omega (arith, less, kept.first refl sound, kept.second refl sound) in
      record { value = subst (λ (l : List ℕ). numbers.drawn + 1 ≤ file_value l) (sym is) at; tag = (kept.images refl c may).tag }
      in
      record { room = less; reach = λ more. kept.reach (omega arith); images = λ told. all; only = kept.only; first = kept.first; second = kept.second }

  goes : (failed used none : Bool) → failed ≡ numbers.failed → used ≡ (numbers.drawn == value_of numbers) → none ≡ nat_lt (2 ^ 62) (value_of numbers + 16)
      → Goes owner numbers (if failed then Err Failed
      else if used then
      (if none then Err Spent
      else by_result (slot_answer numbers s) (by_result (sync_answer (slot_state numbers s)) (Ok (numbers.drawn + 1)) (Err Disk)) (Err Disk))
      else Ok (numbers.drawn + 1))
      (if failed then s
      else if used then
      (if none then s
      else by_result (slot_answer numbers s) (after_sync (slot_state numbers s)) (slot_state numbers s))
      else s)
  goes true used none f u n = (whole, kept)
  goes false true true f u n = (whole, kept)
  goes false true false f u n =
      let is : numbers.drawn ≡ value_of numbers = grind (arith, nat_tests) in
      let left : value_of numbers + 16 ≤ 2 ^ 62 = grind (arith, nat_tests) in
      reserves owner numbers s whole kept (sym f) is left (slot_answer numbers s) (sync_answer (slot_state numbers s)) refl refl
  goes false false none f u n = (whole, subst (λ (b : Bool). IsKeptOn owner (record (if b then reserved numbers else numbers) { drawn = numbers.drawn + 1 }) s) u (in_hand (sym f) u))

  pub draw_keeps : Goes owner numbers (draw_answer numbers s) (draw_state numbers s)
  draw_keeps = goes numbers.failed (numbers.drawn == value_of numbers) (nat_lt (2 ^ 62) (value_of numbers + 16)) refl refl refl

answer_is : (numbers : Numbers) (failed used none : Bool) (written synced : Result (Unit {0}) DiskError) (n : ℕ)
    → (if failed then Err Failed else if used then (if none then Err Spent else by_result written (by_result synced (Ok (numbers.drawn + 1)) (Err Disk)) (Err Disk)) else Ok (numbers.drawn + 1)) ≡ Ok n
    → n ≡ numbers.drawn + 1
answer_is numbers true used none written synced n is = absurd (cc)
answer_is numbers false true true written synced n is = absurd (cc)
answer_is numbers false true false (Err e) synced n is = absurd (cc)
answer_is numbers false true false (Ok u) (Err e) n is = absurd (cc)
answer_is numbers false true false (Ok u) (Ok v) n is = cc
answer_is numbers false false none written synced n is = cc

-- the number drawn is the one after the last number
pub drawn_is : (numbers : Numbers) (s : State) (n : ℕ) → draw_answer numbers s ≡ Ok n → n ≡ numbers.drawn + 1
drawn_is numbers s n is =
    answer_is numbers numbers.failed (numbers.drawn == value_of numbers) (nat_lt (2 ^ 62) (value_of numbers + 16)) (slot_answer numbers s) (sync_answer (slot_state numbers s)) n is
