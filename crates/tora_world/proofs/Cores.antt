-- Each core has the state that the rules give for the inputs that it accepted.
use Rattle.std.proofs.Common.{◌≡◌, ℕ, true, false, ◌⊎◌, inl, inr, List, [], ◌∷◌, ◌++◌, Option, nat_eq, if◌then◌else◌, refl, sym, ap, ap₂, ◌∙◌, subst, eqb-true}
use Rattle.std.proofs.lemmas.Bool.{cond_both, cases_Bool}
use Rattle.std.specs.Prelude.{is_some}
use Rattle.tora_arq.specs.declared.times.Times.{Times}
use Rattle.tora_core.specs.declared.Input.{Input}
use Rattle.tora_core.specs.CoreRun.{CoreView, core_after, core_after_all}
use Rattle.tora_seat.specs.declared.item.Item.{Item}
use Rattle.tora_seat.specs.Serving.{Serving, put_one, serving_of}
use Rattle.tora_world.specs.declared.event.Event.{Event}
use Rattle.tora_world.specs.Topology.{Topology, new_core}
use Rattle.tora_world.specs.World.{World, Choice, neighbours, first_seat, first_world, refusal_by, after_serving, after_turn, effect_by, world_by, after_restart}
use Rattle.tora_world.specs.FreeWorld.{FreeEvent, free_by, Schedule, after_schedule}
use Rattle.tora_world.specs.Law.{CoresFollow}
use Rattle.tora_world.specs.Layers.{SeatLaws}
use Rattle.tora_world.proofs.CoreEvents.{effect_cases}
use Rattle.tora_world.proofs.FreeEvents.{free_cases}

pub core_after-push : (c : CoreView) (is : List (Input × ℕ)) (input : Input) (now : ℕ) → core_after_all c (is ++ (input, now) ∷ []) ≡ core_after (core_after_all c is) input now
core_after-push c [] input now = refl
core_after-push c ((i, t) ∷ is) input now = core_after-push (core_after c i t) is input now

core_after-append : (c : CoreView) (is js : List (Input × ℕ)) → core_after_all c (is ++ js) ≡ core_after_all (core_after_all c is) js
core_after-append c [] js = refl
core_after-append c ((i, t) ∷ is) js = core_after-append (core_after c i t) is js

abbrev HasCore : Topology → World → ℕ → Type 0
HasCore t w n = (w.seats n).core ≡ core_after_all (new_core t n) (w.inputs n)

record AllFollow (t : Topology) (w : World) : Type 0 where
  topology : w.topology ≡ t
  each : (n : ℕ) → HasCore t w n

same_cores : (t : Topology) (w w' : World) → w'.topology ≡ w.topology → w'.seats ≡ w.seats → w'.inputs ≡ w.inputs → AllFollow t w → AllFollow t w'
same_cores t w w' a b c h = record {
  topology = a ∙ h.topology;
  each = λ n. ap (λ s. (s n).core) b ∙ h.each n ∙ ap (λ is. core_after_all (new_core t n) (is n)) (sym c);
}

module _ (seats : SeatLaws) (t : Topology) (w : World) (h : AllFollow t w) where
  serving_world : (n : ℕ) (items : List Item) (v : Serving) → v.seat.core ≡ core_after_all (new_core t n) (w.inputs n ++ v.inputs) → AllFollow t (after_serving w n items v)
  serving_world n items v f = record {
    topology = h.topology;
    each = λ a. go a (cases_Bool (nat_eq a n));
  }
    where
      go : (a : ℕ) → (nat_eq a n ≡ true) ⊎ (nat_eq a n ≡ false) → HasCore t (after_serving w n items v) a
      go a (inl e) = subst (λ x. (if x then v.seat else w.seats a).core ≡ core_after_all (new_core t a) (if x then w.inputs n ++ v.inputs else w.inputs a)) (sym e)
          (subst (λ m. v.seat.core ≡ core_after_all (new_core t m) (w.inputs n ++ v.inputs)) (sym (eqb-true a n e)) f)
      go a (inr e) = subst (λ x. (if x then v.seat else w.seats a).core ≡ core_after_all (new_core t a) (if x then w.inputs n ++ v.inputs else w.inputs a)) (sym e) (h.each a)

  turn_follows : (c : Choice) (n : ℕ) (items : List Item) → AllFollow t (after_turn w c n items)
  turn_follows c n [] = h
  turn_follows c n (item ∷ items) =
      let v = serving_of c.answers (neighbours w n) (w.seats n) item in
      serving_world n items v
      (seats.runs c.answers (neighbours w n) (w.seats n) item ∙ ap (λ x. core_after_all x v.inputs) (h.each n) ∙ sym (core_after-append (new_core t n) (w.inputs n) v.inputs))

  restart_follows : (n : ℕ) (torn : Option (List ℕ)) (w' : World) → w'.topology ≡ w.topology → w'.seats ≡ put_one w.seats n (first_seat w.topology n) → w'.inputs ≡ put_one w.inputs n [] → AllFollow t w'
  restart_follows n torn w' a b c = record {
    topology = a ∙ h.topology;
    each = λ m. ap (λ s. (s m).core) b ∙ go m (cases_Bool (nat_eq m n)) ∙ ap (λ is. core_after_all (new_core t m) (is m)) (sym c);
  }
    where
      go : (m : ℕ) → (nat_eq m n ≡ true) ⊎ (nat_eq m n ≡ false) → (put_one w.seats n (first_seat w.topology n) m).core ≡ core_after_all (new_core t m) (put_one w.inputs n [] m)
      go m (inl e) = subst (λ x. (if x then first_seat w.topology n else w.seats m).core ≡ core_after_all (new_core t m) (if x then [] else w.inputs m)) (sym e) (ap₂ (λ x y. new_core x y) h.topology (sym (eqb-true m n e)))
      go m (inr e) = subst (λ x. (if x then first_seat w.topology n else w.seats m).core ≡ core_after_all (new_core t m) (if x then [] else w.inputs m)) (sym e) (h.each m)

  effect_follows : (c : Choice) (event : Event) → AllFollow t (effect_by c w event)
  effect_follows c event =
      effect_cases c w (AllFollow t) (λ after l. same_cores t w after l.topology l.seats l.inputs h) (λ n. turn_follows c n (w.items n))
      (λ n torn. restart_follows n torn (after_restart w n torn) refl refl refl) event

  world_follows : (c : Choice) (event : Event) → AllFollow t (world_by c w event)
  unfolding world_by
  world_follows c event = cond_both (is_some (refusal_by c w event)) _ _ (AllFollow t) (λ _. h) (λ _. effect_follows c event)

  free_follows : (c : Choice) (event : FreeEvent) → AllFollow t (free_by c w event)
  free_follows c event = free_cases w (λ of after. AllFollow t after) c (λ e. world_follows c e) (λ after l. same_cores t w after l.topology l.seats l.inputs h)
      (λ of after k. same_cores t after (record after { files = w.files }) refl refl refl k) event

run_follows : SeatLaws → (t : Topology) (es : Schedule) (w : World) → AllFollow t w → AllFollow t (after_schedule es w)
unfolding after_schedule
run_follows seats t [] w h = h
run_follows seats t (e ∷ es) w h = run_follows seats t es (free_by e.1 w e.0) (free_follows seats t w h e.1 e.0)

pub cores_follow : SeatLaws → (t : Topology) (times : Times) (es : Schedule) → CoresFollow t (after_schedule es (first_world t times))
cores_follow seats t times es = (run_follows seats t es (first_world t times) (record { topology = refl; each = λ n. refl })).each
