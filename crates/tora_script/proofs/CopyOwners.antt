-- The nodes of the copies of a trace.
use Rattle.std.proofs.Common.{◌≡◌, refl, ap, ◌∙◌, ℕ, zero, suc, ◌+◌, ◌==◌, not, nat_lt, List, [], ◌∷◌, map, length, get_or, set, Some, None, if◌then◌else◌}
use Rattle.std.specs.List.{position, position_or_len}
use Rattle.tora_core.specs.declared.erasure.Erasure.{Erasure}
use Rattle.tora_core.specs.declared.Input.{Input}
use Rattle.tora_core.specs.CoreRun.{CoreView, core_after}
use Rattle.tora_core.proofs.AfterInputs.{same-me}
use Rattle.tora_script.specs.CoreCopies.{CopyState}
use Rattle.tora_script.specs.Trace.{first_copy_of, is_copy_of, owner_of, owners_of}

-- an input does not change the node of a core
pub me_stays : (c : CoreView) (input : Input) (now : ℕ) → (core_after c input now).me ≡ c.me
me_stays c input now = same-me c input now

-- the first copies are those of the nodes, in their order
pub owners_first : (erasure : Erasure) (choices : List (ℕ × Erasure)) (ends : List (ℕ × ℕ)) (destinations nodes : List ℕ) → owners_of (map (first_copy_of erasure choices ends destinations) nodes) ≡ nodes
owners_first erasure choices ends destinations [] = refl
owners_first erasure choices ends destinations (n ∷ nodes) = ap (λ (ns : List ℕ). n ∷ ns) (owners_first erasure choices ends destinations nodes)

-- the owners do not change if a copy is replaced by one of the same node
pub owners_set : (copies : List CopyState) (i : ℕ) (x y : CopyState) → x ≡ get_or copies i x → owner_of y ≡ owner_of x → owners_of (set copies i y) ≡ owners_of copies
owners_set [] i x y is same = refl
owners_set (z ∷ copies) zero x y is same = ap (λ (n : ℕ). n ∷ owners_of copies) (same ∙ ap owner_of is)
owners_set (z ∷ copies) (suc i) x y is same = ap (λ (ns : List ℕ). owner_of z ∷ ns) (owners_set copies i x y is same)

-- a node has the same index among the nodes as its copy among the copies
place-owners : (n : ℕ) (copies : List CopyState) → position_or_len (λ m. m == n) (owners_of copies) ≡ position_or_len (is_copy_of n) copies
place-owners n [] = refl
place-owners n (copy ∷ copies) = ap (λ (k : ℕ). if not (owner_of copy == n) then 1 + k else 0) (place-owners n copies)

length-owners : (copies : List CopyState) → length (owners_of copies) ≡ length copies
length-owners [] = refl
length-owners (copy ∷ copies) = ap suc (length-owners copies)

pub owner_place : (n : ℕ) (copies : List CopyState) → position (λ m. m == n) (owners_of copies) ≡ position (is_copy_of n) copies
owner_place n copies =
    ap (λ (i : ℕ). if nat_lt i (length (owners_of copies)) then Some i else None) (place-owners n copies)
    ∙ ap (λ (k : ℕ). if nat_lt (position_or_len (is_copy_of n) copies) k then Some (position_or_len (is_copy_of n) copies) else None) (length-owners copies)
