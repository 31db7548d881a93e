-- A walk, hop by hop.
use Rattle.std.proofs.Common.{◌≡◌, ◌≢◌, ℕ, zero, suc, ◌==◌, Bool, false, List, [], ◌∷◌, ◌++◌, Option, None, Some, if◌then◌else◌, sym, ap, ◌∙◌, refl, append_assoc, eq-eqb, arith}
use Rattle.std.proofs.lemmas.Bool.Decides.{nat_tests}
use Rattle.std.specs.Prelude.{option_map}
use Rattle.tora_world.specs.World.{World}
use Rattle.tora_world.specs.Walks.{hop_at, walk_within}

pub none_before : (o : Option (List ℕ)) → option_map (λ after. [] ++ after) o ≡ o
none_before None = refl
none_before (Some after) = refl

other : (m n : ℕ) → m ≢ n → (m == n) ≡ false
other m n e = grind (arith, nat_tests)

-- these nodes were passed before this one, from which at most this many hops are left
module _ (w : World) (d node : ℕ) (nodes new : List ℕ) (all : Option (List ℕ)) (put : new ≡ nodes ++ node ∷ []) where
  pub at_end : (left : ℕ) → option_map (λ after. nodes ++ after) (walk_within left w node d) ≡ all → node ≡ d → Some new ≡ all
  at_end zero e is = ap Some put ∙ sym (ap (λ (b : Bool). option_map (λ after. nodes ++ after) (if b then Some (node ∷ []) else None)) (eq-eqb node d is)) ∙ e
  at_end (suc left) e is =
      ap Some put
      ∙ sym (ap (λ (b : Bool). option_map (λ after. nodes ++ after) (if b then Some (node ∷ []) else elim (hop_at w node d) [ None ↦ None | Some k ↦ option_map (λ xs. node ∷ xs) (walk_within left w k d) ])) (eq-eqb node d is)) ∙ e

  pub no_hops : (left : ℕ) → left ≡ 0 → option_map (λ after. nodes ++ after) (walk_within left w node d) ≡ all → node ≢ d → None ≡ all
  no_hops zero z e is = sym (ap (λ (b : Bool). option_map (λ after. nodes ++ after) (if b then Some (node ∷ []) else None)) (other node d is)) ∙ e
  no_hops (suc left) z e is = absurd (omega arith)

  on : (left : ℕ) → option_map (λ after. nodes ++ after) (walk_within (suc left) w node d) ≡ all → node ≢ d
      → option_map (λ after. nodes ++ after) (elim (hop_at w node d) [ None ↦ None | Some k ↦ option_map (λ xs. node ∷ xs) (walk_within left w k d) ]) ≡ all
  on left e is =
      sym (ap (λ (b : Bool). option_map (λ after. nodes ++ after) (if b then Some (node ∷ []) else elim (hop_at w node d) [ None ↦ None | Some k ↦ option_map (λ xs. node ∷ xs) (walk_within left w k d) ])) (other node d is)) ∙ e

  pub no_hop : (left rest : ℕ) → left ≡ suc rest → option_map (λ after. nodes ++ after) (walk_within left w node d) ≡ all → node ≢ d → hop_at w node d ≡ None → None ≡ all
  no_hop zero rest z e is none = absurd (omega arith)
  no_hop (suc left) rest z e is none =
      sym (ap (λ (o : Option ℕ). option_map (λ after. nodes ++ after) (elim o [ None ↦ None | Some k ↦ option_map (λ xs. node ∷ xs) (walk_within left w k d) ])) none) ∙ on left e is

  longer : (o : Option (List ℕ)) → option_map (λ after. new ++ after) o ≡ option_map (λ after. nodes ++ after) (option_map (λ xs. node ∷ xs) o)
  longer None = refl
  longer (Some after) = ap Some (ap (λ xs. xs ++ after) put ∙ append_assoc nodes (node ∷ []) after)

  pub next_hop : (left rest k : ℕ) → left ≡ suc rest → option_map (λ after. nodes ++ after) (walk_within left w node d) ≡ all → node ≢ d → hop_at w node d ≡ Some k
      → option_map (λ after. new ++ after) (walk_within rest w k d) ≡ all
  next_hop zero rest k z e is hop = absurd (omega arith)
  next_hop (suc left) rest k z e is hop =
      let same : rest ≡ left = omega arith in
      ap (λ m. option_map (λ after. new ++ after) (walk_within m w k d)) same ∙ longer (walk_within left w k d)
      ∙ sym (ap (λ (o : Option ℕ). option_map (λ after. nodes ++ after) (elim o [ None ↦ None | Some j ↦ option_map (λ xs. node ∷ xs) (walk_within left w j d) ])) hop) ∙ on left e is
