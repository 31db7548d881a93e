use Rattle.std.proofs.Common.{◌≡◌, ◌∙◌, sym, ap, subst, arith, ℕ, Option, None, is_some, List, length}
use Rattle.std.proofs.lemmas.Grind.{common_steps}
use Rattle.std.proofs.lemmas.List.Elements.{All-from_recursion}
use Rattle.std.specs.List.{refill}
use Rattle.tora_core.specs.declared.Input.{Input}
use Rattle.tora_core.specs.Table.{TableView, views_in}
use Rattle.tora_core.specs.View.{View, up_neighbours}
use Rattle.tora_core.specs.CoreRun.{CoreView, refusal_of, core_after, core_taking}
use Rattle.tora_core.specs.declared.errors.StepError.{StepError}
use Rattle.std.specs.Prelude.{if◌then◌else◌}
use Rattle.tora_core.specs.Kept.{IsCore, CanTake, IsLinked}
use Rattle.tora_core.proofs.AfterInputs.{all-linked, linked, of-one}
use Rattle.tora_core.proofs.CoreLemmas.{all-can_take, core-kept, destinations_of-next, fewer-up}
use Rattle.tora_core.proofs.TableViews.{all-in, places-next, views_next}
use Rattle.tora_core.proofs.node.Core.step_into.Goals as goal

pub step-requires-clause-may : goal.step-requires-clause-may
step-requires-clause-may c =
    let core : CoreView = record { me = c.self.inside.me; erasure = c.self.inside.erasure; neighbours = c.self.inside.neighbours.items; up = c.self.inside.up.items; views = views_in c.self.inside.views.items } in
    let free : refusal_of core c.args.input.now ≡ None = ap (λ (x : CoreView). refusal_of x c.args.input.now) c.self.view_is ∙ sym c.refusal.ensures.value ∙ c.in_default.is in
    rw c.deref_mut.ensures.value (All-from_recursion (λ (t : TableView). CanTake c.args.input.now t.view) c.self.inside.views.items (all-in (CanTake c.args.input.now) c.self.inside.views.items (all-can_take core c.args.input.now c.self.invariant.0 c.in_default.ensures.valid free)))

pub note-requires : goal.note-requires
note-requires c = λ k is.
    let core : CoreView = record { me = c.self.inside.me; erasure = c.self.inside.erasure; neighbours = c.self.inside.neighbours.items; up = c.self.inside.up.items; views = views_in c.self.inside.views.items } in
    let free : refusal_of core c.args.input.now ≡ None = ap (λ (x : CoreView). refusal_of x c.args.input.now) c.self.view_is ∙ sym c.refusal.ensures.value ∙ c.in_default.is in
    let P : Input → Type 0 = λ i. refusal_of core i ≡ None in
    let fewer = fewer-up core k c.self.invariant.0 (subst P is free) in
    let len = c.self.inside.up.ok.0 in
    let wide = c.self.invariant.1.1 in
    omega arith

refill-same : (n : ℕ) (xs ws : List TableView) → length ws ≡ n → refill n xs ws ≡ ws
refill-same n xs ws e = grind (arith, common_steps)

pub invariant_of-self : goal.invariant_of-self
invariant_of-self c =
    let core : CoreView = record { me = c.self.inside.me; erasure = c.self.inside.erasure; neighbours = c.self.inside.neighbours.items; up = c.self.inside.up.items; views = views_in c.self.inside.views.items } in
    let free : refusal_of core c.args.input.now ≡ None = ap (λ (x : CoreView). refusal_of x c.args.input.now) c.self.view_is ∙ sym c.refusal.ensures.value ∙ c.in_default.is in
    let kept : IsCore (core_taking core c.args.input.now c.args.now) = core-kept core c.args.input.now c.args.now c.self.invariant.0 c.in_default.ensures.valid free in
    let same = refill-same c.self.inside.views.len c.self.inside.views.items c.step.new.views (omega (arith, c.step.auto.views, c.deref_mut.ensures.len)) in
    rw (same, c.note.ensures.items, c.step.ensures.views, c.deref_mut.ensures.value, views_next c.args.input.now c.args.now c.self.inside.views.items)
    (kept, (c.self.invariant.1.0 ∙ sym (destinations_of-next c.args.input.now c.args.now (views_in c.self.inside.views.items)), (let same_room = c.note.ensures.capacity in let wide = c.self.invariant.1.1 in omega arith)), places-next c.args.input.now c.args.now c.self.inside.neighbours.items c.self.inside.views.items c.self.invariant.2)

pub step-requires-clause-ascending : goal.step-requires-clause-ascending
step-requires-clause-ascending c = rw (c.as_slice.ensures.value, c.self.invariant.1.0) c.self.invariant.0.ascending_destinations

pub step-requires-clause-names : goal.step-requires-clause-names
step-requires-clause-names c = rw (c.as_slice.ensures.value, c.deref_mut.ensures.value) c.self.invariant.1.0

pub step-requires-clause-sorted : goal.step-requires-clause-sorted
step-requires-clause-sorted c = rw c.as_slice-2.ensures.value c.self.invariant.0.ascending_neighbours

pub step-requires-clause-places : goal.step-requires-clause-places
step-requires-clause-places c =
    rw (c.deref_mut.ensures.value, c.as_slice-2.ensures.value)
    (All-from_recursion (λ (t : TableView). t.neighbours ≡ c.self.inside.neighbours.items) c.self.inside.views.items c.self.invariant.2)

pub step-requires-clause-known : goal.step-requires-clause-known
step-requires-clause-known c =
    let core : CoreView = record { me = c.self.inside.me; erasure = c.self.inside.erasure; neighbours = c.self.inside.neighbours.items; up = c.self.inside.up.items; views = views_in c.self.inside.views.items } in
    let free : refusal_of core c.args.input.now ≡ None = ap (λ (x : CoreView). refusal_of x c.args.input.now) c.self.view_is ∙ sym c.refusal.ensures.value ∙ c.in_default.is in
    rw c.as_slice-2.ensures.value (of-one core c.args.input.now free)

pub step-requires-clause-linked : goal.step-requires-clause-linked
step-requires-clause-linked c =
    let core : CoreView = record { me = c.self.inside.me; erasure = c.self.inside.erasure; neighbours = c.self.inside.neighbours.items; up = c.self.inside.up.items; views = views_in c.self.inside.views.items } in
    let free : refusal_of core c.args.input.now ≡ None = ap (λ (x : CoreView). refusal_of x c.args.input.now) c.self.view_is ∙ sym c.refusal.ensures.value ∙ c.in_default.is in
    let IsUpIn : View → Type 0 = λ v. IsLinked c.args.input.now (up_neighbours v) in
    rw c.deref_mut.ensures.value
    (All-from_recursion (λ (t : TableView). IsLinked c.args.input.now (up_neighbours t.view)) c.self.inside.views.items
    (all-in IsUpIn c.self.inside.views.items (all-linked c.self.inside.me c.self.inside.up.items c.args.input.now (views_in c.self.inside.views.items) (linked core c.args.input.now free) c.self.invariant.0.views)))

pub returns-clause-core : goal.returns-clause-core
returns-clause-core c =
    let core : CoreView = record { me = c.self.inside.me; erasure = c.self.inside.erasure; neighbours = c.self.inside.neighbours.items; up = c.self.inside.up.items; views = views_in c.self.inside.views.items } in
    let free : refusal_of core c.args.input.now ≡ None = ap (λ (x : CoreView). refusal_of x c.args.input.now) c.self.view_is ∙ sym c.refusal.ensures.value ∙ c.in_default.is in
    let same = refill-same c.self.inside.views.len c.self.inside.views.items c.step.new.views (omega (arith, c.step.auto.views, c.deref_mut.ensures.len)) in
    let taken : core_after core c.args.input.now c.args.now ≡ core_taking core c.args.input.now c.args.now = ap (λ (o : Option StepError). if is_some o then core else core_taking core c.args.input.now c.args.now) free in
    rw (same, c.note.ensures.items, c.step.ensures.views, c.deref_mut.ensures.value, views_next c.args.input.now c.args.now c.self.inside.views.items)
    (sym taken ∙ ap (λ (x : CoreView). core_after x c.args.input.now c.args.now) c.self.view_is)
