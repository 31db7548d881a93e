-- The life file of the free world for an end of a running node: it is changed before each draw, so that it draws
-- exactly the number that the node has drawn.
use Rattle.std.proofs.Common.{◌≡◌, ℕ, suc, ◌<◌, ◌≤◌, ◌^◌, List, [], ◌∷◌, length, Ok, refl, sym, ap, ◌∙◌, subst, arith, eqb-true}
use Rattle.std.proofs.lemmas.Bool.{cond_both}
use Rattle.std.specs.Prelude.{◌==◌, Result}
use Rattle.tora_life.specs.declared.numbers.Numbers.{Numbers}
use Rattle.tora_life.specs.declared.numbers.LifeError.{LifeError}
use Rattle.tora_life.specs.declared.state.State.{State}
use Rattle.tora_life.specs.declared.tags.Owner.{Owner}
use Rattle.tora_life.specs.LifeFile.{slot_bound, number_of, slot_of, file_value}
use Rattle.tora_life.specs.Migration.{slot_filled}
use Rattle.tora_life.specs.Tags.{tag_read, tag_of}
use Rattle.tora_life.specs.State.{fresh_state}
use Rattle.tora_life.specs.Numbers.{numbers_of, numbers_after, value_of}
use Rattle.tora_life.specs.InMemory.{open_state, draw_answer}
use Rattle.tora_life.specs.LifeRun.{LifeDisk, IsFloor, IsFloorOfOpen, opened, owner_in, after_event, drawn_by, number_in}
use Rattle.tora_life.specs.LifeRun.LifeDisk.{Opened, Unopened}
use Rattle.tora_life.specs.LifeRun.LifeEvent.{Draw}
use Rattle.tora_world.specs.FreeWorld.{MayBecome}

-- the laws of life files that are used: the first floor, and what a file may become
pub record FileLaws : Type 0 where
  pub first : (owner : Owner) (file : List ℕ) → length file ≤ 80 → IsFloor (file_value file) (opened owner (fresh_state file))
  pub any : (before after : LifeDisk) → ((n : ℕ) → IsFloor n before → IsFloor n after) → MayBecome before after

-- the file is open, and the last number that it has drawn is no greater than this
abbrev pub IsUnder : ℕ → LifeDisk → Type 0
IsUnder m (Opened owner numbers s) = numbers.drawn ≤ m
IsUnder m (Unopened owner s) = ⊥

-- a file with all numbers up to m reserved and drawn, whose next number is the one after m
abbrev full : List ℕ
full = slot_of (2 ^ 62)

abbrev full_state : Owner → State
full_state owner = open_state owner (fresh_state full)

abbrev drawn_to : ℕ → Numbers
drawn_to m = record (numbers_of full) { drawn = m }

abbrev pub raised : Owner → ℕ → LifeDisk
raised owner m = Opened owner (drawn_to m) (full_state owner)

full_opens : (owner : Owner) → opened owner (fresh_state full) ≡ Opened owner (numbers_of full) (full_state owner)
unfolding slot_bound number_of slot_of slot_filled tag_read tag_of
full_opens owner = refl

full_value : file_value full ≡ 2 ^ 62
unfolding slot_bound number_of slot_of
full_value = refl

full_length : length full ≤ 80
unfolding slot_of
full_length = omega arith

pub new_opens : (owner : Owner) → IsUnder 0 (opened owner (fresh_state []))
unfolding slot_bound number_of slot_of slot_filled tag_read tag_of
new_opens owner = omega arith

-- ---- its floor

module _ (laws : FileLaws) where
  full_floor : (owner : Owner) → IsFloorOfOpen (file_value full) owner (numbers_of full) (full_state owner)
  full_floor owner = subst (IsFloor (file_value full)) (full_opens owner) (laws.first owner full full_length)

  raised_floor : (owner : Owner) (n m : ℕ) → n ≤ m → m ≤ 2 ^ 62 → IsFloor n (raised owner m)
  raised_floor owner n m under most =
      let x = full_floor owner in record {
        whole = x.whole;
        kept = record {
          room = subst (λ v. m ≤ v) (sym full_value) most;
          reach = λ _. subst (λ v. v ≤ 2 ^ 62) (sym full_value) (omega arith);
          images = λ told c left. record { value = let y : file_value full ≤ file_value c = (x.kept.images told c left).value in let z : m ≤ file_value full = subst (λ v. m ≤ v) (sym full_value) most in omega (arith, y, z); tag = (x.kept.images told c left).tag };
          only = x.kept.only;
          first = x.kept.first;
          second = x.kept.second;
        };
        drawn = under;
      }

  pub becomes_raised : (disk : LifeDisk) (m : ℕ) → IsUnder m disk → m ≤ 2 ^ 62 → MayBecome disk (raised (owner_in disk) m)
  becomes_raised (Opened owner numbers s) m under most = laws.any (Opened owner numbers s) (raised owner m) (λ n h. raised_floor owner n m (let x : n ≤ numbers.drawn = h.drawn in omega (arith, x, under)) most)
  becomes_raised (Unopened owner s) m under most = absurd under

-- ---- the draw

raised_answer : (owner : Owner) (m : ℕ) → m < 2 ^ 62 → draw_answer (drawn_to m) (full_state owner) ≡ Ok (suc m)
raised_answer owner m less =
    cond_both (m == value_of (drawn_to m)) _ _ (λ (r : Result ℕ LifeError). r ≡ Ok (suc m)) (λ e. absurd (let x : m ≡ 2 ^ 62 = eqb-true m (value_of (drawn_to m)) e ∙ full_value in omega (arith, x, less))) (λ _. ap Ok (omega arith))

pub raised_draws : (owner : Owner) (m : ℕ) → m < 2 ^ 62 → drawn_by Draw (raised owner m) ≡ suc m ∷ []
raised_draws owner m less = ap number_in (raised_answer owner m less)

pub raised_left : (owner : Owner) (m : ℕ) → m < 2 ^ 62 → IsUnder (suc m) (after_event Draw (raised owner m))
raised_left owner m less =
    subst (λ (r : Result ℕ LifeError). (numbers_after r (drawn_to m)).drawn ≤ suc m) (sym (raised_answer owner m less)) (omega arith)
