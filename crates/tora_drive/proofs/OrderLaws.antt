-- The orders of a drive are lines of a simulation file, unchanged.
use Rattle.std.proofs.Common.{◌≡◌, ℕ, Bool, true, false, List, if◌then◌else◌, codes, Option, Some, None}
use Rattle.std.specs.Prelude.{option_map}
use Rattle.std.specs.Result.{result_ok}
use Rattle.hex.specs.Hex.{decode_of}
use Rattle.tora_lines.specs.Words.{cut, number_of, id_of}
use Rattle.tora_lines.specs.Fronts.{after, or_else, ◌>>=◌}
use Rattle.tora_world.specs.declared.event.Event.TheVariants.{Deliver}
use Rattle.tora_world.specs.World.{World}
use Rattle.tora_script.specs.declared.script_line.SimulationLine.{SimulationLine}
use Rattle.tora_script.specs.SimulationLines.{is_word, pair_of, for_pair, simulation_line_of}
use Rattle.tora_drive.specs.declared.line.DriveLine.{DriveLine}
use Rattle.tora_drive.specs.declared.line.DriveLine.TheVariants.{Script, Step, Needs, Near, Far, Notice, Bytes, Forget}
use Rattle.tora_drive.specs.DriveLines.{for_number, own_line_of, or_own, drive_line_of}
use Rattle.tora_drive.specs.Scripts.{IsOrder, OrdersAreRead}
use Rattle.tora_drive.specs.Taking.{number_of_bytes, taking, line_in}

module _ (order : SimulationLine) where
  from_option : {A : Type 0} (f : A → Option DriveLine) (found : Option A) → ((x : A) → f x ≡ Some (Script order) → ⊥) → (found >>= f) ≡ Some (Script order) → ⊥
  from_option f None never e = absurd cc
  from_option f (Some x) never e = never x e

  -- a line `take A B HEX` is not an order
  no_taking : (w : World) (forgotten : ℕ) (text : List ℕ) → IsOrder order → taking w forgotten text ≡ Some (Script order) → ⊥
  unfolding taking
  no_taking w forgotten text is e =
      from_option _ (cut 32 text) (λ a. from_option _ (id_of a.0) (λ receiver. from_option _ (cut 32 a.1) (λ b. from_option _ (id_of b.0)
      (λ sender. from_option _ (result_ok (decode_of b.1)) (λ bytes same. is (Deliver (number_of_bytes w forgotten sender receiver bytes)) cc))))) e

  -- a line that only a drive has is not an order
  either_never : (rest : Option (List ℕ)) (read : List ℕ → Option DriveLine) (other : Option DriveLine) → ((t : List ℕ) → read t ≡ Some (Script order) → ⊥) → (other ≡ Some (Script order) → ⊥) → or_else rest read other ≡ Some (Script order) → ⊥
  either_never None read other first second e = second e
  either_never (Some t) read other first second e = first t e

  pair_never : (make : ℕ → ℕ → DriveLine) → ((n k : ℕ) → make n k ≡ Script order → ⊥) → (t : List ℕ) → for_pair make t ≡ Some (Script order) → ⊥
  unfolding for_pair
  pair_never make never t e = from_option _ (pair_of t) (λ p same. never p.0 p.1 cc) e

  number_never : (make : ℕ → DriveLine) → ((i : ℕ) → make i ≡ Script order → ⊥) → (t : List ℕ) → for_number make t ≡ Some (Script order) → ⊥
  unfolding for_number
  number_never make never t e = from_option _ (number_of t) (λ i same. never i cc) e

  own_never : (text : List ℕ) → own_line_of text ≡ Some (Script order) → ⊥
  unfolding own_line_of
  own_never text e =
      either_never (after (codes "near ") text) (for_pair Near) _ (pair_never Near (λ n k same. absurd cc))
      (either_never (after (codes "far ") text) (for_pair Far) _ (pair_never Far (λ n k same. absurd cc))
      (either_never (after (codes "notice ") text) (for_pair Notice) _ (pair_never Notice (λ n k same. absurd cc))
      (either_never (after (codes "bytes ") text) (for_number Bytes) _ (number_never Bytes (λ i same. absurd cc))
      (either_never (after (codes "forget ") text) (for_number Forget) None (number_never Forget (λ i same. absurd cc)) (λ same. absurd cc))))) e

  chosen : (text : List ℕ) (a b : Bool) (found : Option SimulationLine) → (if a then Some Step else if b then Some Needs else or_own (option_map (λ line. Script line) found) text) ≡ Some (Script order) → found ≡ Some order
  chosen text true b found e = absurd cc
  chosen text false true found e = absurd cc
  chosen text false false None e = absurd (own_never text e)
  chosen text false false (Some line) e = cc

  said : (text : List ℕ) → drive_line_of text ≡ Some (Script order) → simulation_line_of text ≡ Some order
  unfolding drive_line_of
  said text e = chosen text (is_word (codes "step") text) (is_word (codes "needs") text) (simulation_line_of text) e

  picked : (w : World) (forgotten : ℕ) (text : List ℕ) (rest : Option (List ℕ)) → IsOrder order → or_else rest (taking w forgotten) (drive_line_of text) ≡ Some (Script order) → simulation_line_of text ≡ Some order
  picked w forgotten text None is e = said text e
  picked w forgotten text (Some rest) is e = absurd (no_taking w forgotten rest is e)

pub orders_are_read : OrdersAreRead
unfolding line_in
orders_are_read w forgotten text order is e = picked order w forgotten text (after (codes "take ") text) is e
