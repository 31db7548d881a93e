-- After an input and its consequences, no link is up without a current session.
use Rattle.std.proofs.Common.{◌≡◌, ℕ, zero, suc, ◌≤◌, true, List, length, Option, Some, None, refl, ap, ◌∙◌, arith}
use Rattle.tora_core.specs.declared.Input.{Input}
use Rattle.tora_core.specs.declared.Input.TheVariants as In
use Rattle.tora_core.specs.Numbers.{has_number}
use Rattle.tora_core.specs.CoreRun.{CoreView}
use Rattle.tora_seat.specs.Serving.{SeatState, Serving, Answers, after_step, first_cut, after_settling, after_input}
use Rattle.tora_seat.specs.Serves.{IsCut}
use Rattle.tora_seat.proofs.Ups.{count_up, count_most, first_cut_is, first_cut_none}
use Rattle.tora_seat.proofs.CutLinks.{none-is, first-none}
use Rattle.tora_seat.proofs.RelationLeads.{step_near, cut_drops}
use Rattle.tora_seat.proofs.RelationHolds.{step_holds}

pub next-is : (ks : List ℕ) (s : SeatState) (k : ℕ) → first_cut s ks ≡ Some k → IsCut ks s k
next-is ks s k e = let h = first_cut_is s ks k e in record { neighbour = h.0; up = h.1; none = none-is (s.current k) h.2 }

module _ (answers : Answers) (ks : List ℕ) (now : ℕ) where
  abbrev Near : CoreView → Type 0
  Near c = (j : ℕ) → has_number j ks ≡ true → has_number j c.neighbours ≡ true

  near_step : (v : Serving) (input : Input) → Near v.seat.core → Near (after_step answers ks input now v).seat.core
  near_step v input h j i = ap (has_number j) (step_near ks now v input (step_holds answers ks now v input)) ∙ h j i

  settling_none : (most : ℕ) (v : Serving) → Near v.seat.core → count_up ks v.seat.core.up ≤ most → first_cut (after_settling most answers ks now v).seat ks ≡ None
  unfolding after_settling
  settling_none zero v near few = first_cut_none v.seat ks few
  settling_none (suc most) v near few = go (first_cut v.seat ks) refl (λ u n f. settling_none most u n f)
    where
      go : (o : Option ℕ) → first_cut v.seat ks ≡ o → ((u : Serving) → Near u.seat.core → count_up ks u.seat.core.up ≤ most → first_cut (after_settling most answers ks now u).seat ks ≡ None) →
          first_cut (elim o as (λ _. Serving) [ None ↦ v | Some k ↦ after_settling most answers ks now (after_step answers ks (In.LinkDown k) now v) ]).seat ks ≡ None
      go None e again = e
      go (Some k) e again =
          let cut = next-is ks v.seat k e in
          let d = cut_drops ks now v k (near k cut.neighbour) cut (step_holds answers ks now v (In.LinkDown k)) in
          again (after_step answers ks (In.LinkDown k) now v) (near_step v (In.LinkDown k) near) (omega (arith, d, few))

  pub none-left : (input : Input) (v : Serving) → Near v.seat.core → (k : ℕ) → ¬ IsCut ks (after_input answers ks input now v).seat k
  unfolding after_input
  none-left input v near =
      let u = after_step answers ks input now v in
      first-none ks (after_settling (length ks) answers ks now u).seat (settling_none (length ks) u (near_step v input near) (count_most ks u.seat.core.up))
