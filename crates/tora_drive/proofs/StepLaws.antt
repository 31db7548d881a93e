-- The passes of a step, one after another.
use Rattle.std.proofs.Common.{◌≡◌, ℕ, suc, Bool, true, false, not, List, [], ◌∷◌, refl, sym, ap, ◌∙◌}
use Rattle.tora_world.specs.declared.event.Event.{Event}
use Rattle.tora_world.specs.World.{World, is_empty, world_after_all}
use Rattle.tora_script.specs.Rounds.{plan_then, Happened}
use Rattle.tora_script.proofs.RoundLaws.{after_then}
use Rattle.tora_drive.specs.Steps.{step_pass, step_passes}

not_not : (b c : Bool) → not b ≡ c → b ≡ not c
not_not true c h = ap not h
not_not false c h = ap not h

empty_is : (xs : List Event) → is_empty xs ≡ true → xs ≡ []
empty_is [] h = refl
empty_is (x ∷ xs) h = absurd cc

pub passes_on : (now next : World) (j : ℕ) (nodes : List ℕ) (ends silent : List (ℕ × ℕ)) (left : World) → world_after_all now (step_passes (suc j) nodes ends silent now) ≡ left → Happened now (step_pass nodes ends silent now) next true
    → world_after_all next (step_passes j nodes ends silent next) ≡ left
unfolding step_passes
passes_on now next j nodes ends silent left e h =
    let some : is_empty (step_pass nodes ends silent now) ≡ false = not_not (is_empty (step_pass nodes ends silent now)) true (sym h.some_is) in
    let step : step_passes (suc j) nodes ends silent now ≡ plan_then (step_pass nodes ends silent) (step_passes j nodes ends silent) now = rw some refl in
    after_then now next (world_after_all next (step_passes j nodes ends silent next)) (step_pass nodes ends silent) (step_passes j nodes ends silent) h.after_is refl ∙ ap (world_after_all now) (sym step) ∙ e

pub passes_stop : (now next : World) (j : ℕ) (nodes : List ℕ) (ends silent : List (ℕ × ℕ)) (left : World) → world_after_all now (step_passes (suc j) nodes ends silent now) ≡ left → Happened now (step_pass nodes ends silent now) next false → next ≡ left
unfolding step_passes
passes_stop now next j nodes ends silent left e h =
    let empty : is_empty (step_pass nodes ends silent now) ≡ true = not_not (is_empty (step_pass nodes ends silent now)) false (sym h.some_is) in
    let none : step_pass nodes ends silent now ≡ [] = empty_is (step_pass nodes ends silent now) empty in
    let stop : step_passes (suc j) nodes ends silent now ≡ [] = rw empty refl in
    h.after_is ∙ ap (world_after_all now) none ∙ sym (ap (world_after_all now) stop) ∙ e
