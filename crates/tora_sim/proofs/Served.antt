-- Facts on a served item, and on the node's seat after it.
use Rattle.std.proofs.Common.{◌≡◌, ℕ, ◌<◌, ◌≤◌, ◌+◌, ◌||◌, inl, inr, Bool, false, List, [], ◌∷◌, length, Option, Some, None, refl, sym, ap, ap₂, ◌∙◌, subst, arith, nat_eq, nat_lt, if◌then◌else◌, eqb-true, MatchOption}
use Rattle.std.proofs.lemmas.List.{length-map}
use Rattle.std.proofs.lemmas.Option.{slice_get_within}
use Rattle.std.proofs.lemmas.Bool.{false_from_ne_true}
use Rattle.std.proofs.lemmas.Bool.Decides.{nat_tests}
use Rattle.std.specs.Prelude.{⊤}
use Rattle.std.specs.List.{AllByRecursion}
use Rattle.tora_core.specs.declared.Input.{Input}
use Rattle.tora_core.specs.Numbers.{has_number, has_repeat, IsAscending}
use Rattle.tora_core.specs.CoreRun.{CoreView, core_after, core_after_all, core_refusal_within}
use Rattle.tora_core.specs.Kept.{IsCore, IsNeighbour, destinations_of}
use Rattle.tora_core.specs.declared.errors.CoreError.TheVariants as Refusal
use Rattle.tora_core.specs.declared.TheConstants.{GREATEST_NEIGHBOURS, MOST_DESTINATIONS}
use Rattle.tora_seat.specs.declared.item.Item.{Item}
use Rattle.tora_seat.specs.declared.stepped.Stepped.{Stepped}
use Rattle.tora_seat.specs.Serving.{Answers, Offer, SeatState, serving_of}
use Rattle.tora_seat.specs.Offers.{AreOffered, Follows, answers_in}
use Rattle.tora_seat.specs.Rows.{SeatView, serving_at, steps_of}
use Rattle.tora_seat.specs.Rows as Rows
use Rattle.tora_sim.specs.Nodes.{NodeView}
use Rattle.tora_sim.specs.Lanes.{LanesView, DidOffer}
use Rattle.tora_sim.specs.Turns.{IsServed}
use Rattle.tora_sim.proofs.ItemSteps.{AreStepsAt, steps_at}

-- numbers in ascending order are different
above_absent : (n : ℕ) (numbers : List ℕ) → AllByRecursion (λ (m : ℕ). n < m) numbers → has_number n numbers ≡ false
above_absent n [] h = refl
above_absent n (m ∷ numbers) h =
    ap₂ (λ (a b : Bool). a || b) (false_from_ne_true (nat_eq m n) (λ e. let same = eqb-true m n e in let lt = h.0 in absurd (omega (arith, same, lt)))) (above_absent n numbers h.1)

pub different : (numbers : List ℕ) → IsAscending numbers → has_repeat numbers ≡ false
different [] h = refl
different (n ∷ numbers) h = ap₂ (λ (a b : Bool). a || b) (above_absent n numbers h.0) (different numbers h.1)

-- the number of inputs that were accepted
pub few_inputs : (before after : SeatView) (item : Item) (offers : List Offer)
    → ((answers : Answers) (ks : List ℕ) (s : SeatState) (item : Item) → ks ≡ s.core.neighbours → has_repeat ks ≡ false → length (serving_of answers ks s item).inputs ≤ length ks + 2)
    → ((offers : List Offer) → Follows (answers_in offers) [] offers)
    → IsAscending before.core.neighbours
    → ((answers : Answers) → Follows answers [] offers → serving_of answers before.core.neighbours (Rows.state_of before) item ≡ serving_at item.now after offers)
    → length after.inputs ≤ length before.core.neighbours + 2
few_inputs before after item offers few own rising served =
    let most = few (answers_in offers) before.core.neighbours (Rows.state_of before) item refl (different before.core.neighbours rising) in
    let count : length (serving_of (answers_in offers) before.core.neighbours (Rows.state_of before) item).inputs ≡ length after.inputs =
    ap (λ v. length v.inputs) (served (answers_in offers) (own offers)) ∙ length-map after.inputs (λ input. (input, item.now)) in
    omega (arith, most, count)

-- a property of a core that one input does not change, over all inputs
pub stays_over : {A : Type 0} → (f : CoreView → A) → ((c : CoreView) (input : Input) (now : ℕ) → f (core_after c input now) ≡ f c) → (c : CoreView) (inputs : List (Input × ℕ)) → f (core_after_all c inputs) ≡ f c
stays_over f h c [] = refl
stays_over f h c ((input, now) ∷ inputs) = stays_over f h (core_after c input now) inputs ∙ h c input now

pub stays_served : {A : Type 0} → (f : CoreView → A) → ((c : CoreView) (input : Input) (now : ℕ) → f (core_after c input now) ≡ f c)
    → ((answers : Answers) (ks : List ℕ) (s : SeatState) (item : Item) → (serving_of answers ks s item).seat.core ≡ core_after_all s.core (serving_of answers ks s item).inputs)
    → ((offers : List Offer) → Follows (answers_in offers) [] offers)
    → (before after : SeatView) (item : Item) (offers : List Offer)
    → ((answers : Answers) → Follows answers [] offers → serving_of answers before.core.neighbours (Rows.state_of before) item ≡ serving_at item.now after offers)
    → f after.core ≡ f before.core
stays_served f h runs own before after item offers served =
    let answers = answers_in offers in
    let is = served answers (own offers) in
    ap (λ v. f v.seat.core) (sym is) ∙ ap f (runs answers before.core.neighbours (Rows.state_of before) item)
    ∙ stays_over f h before.core (serving_of answers before.core.neighbours (Rows.state_of before) item).inputs

-- the offers do not change the indexes of the lanes
pub lanes_stay : (ks : List ℕ) (offers : List Offer) (lanes after : LanesView) → AreOffered DidOffer ks lanes offers after → (after.first ≡ lanes.first) × (after.count ≡ lanes.count)
lanes_stay ks [] lanes after e = (ap (λ (v : LanesView). v.first) e, ap (λ (v : LanesView). v.count) e)
lanes_stay ks (o ∷ offers) lanes after (between, did, rest) =
    let again = lanes_stay ks offers between after rest in
    (again.0 ∙ ap (λ (v : LanesView). v.first) did.lanes, again.1 ∙ ap (λ (v : LanesView). v.count) did.lanes)

-- a stepped packet is from the neighbour at the item's seat
pub seat_within : (before after : NodeView) (lanes lanes_after : LanesView) (item : Item) → ((offers : List Offer) → Follows (answers_in offers) [] offers)
    → length before.seat.core.neighbours ≤ lanes.count → IsServed before lanes item after lanes_after
    → (stepped : Option Stepped) → stepped ≡ after.seat.stepped → MatchOption stepped ⊤ (λ _. item.seat < lanes_after.count)
seat_within before after lanes lanes_after item own le s None e = tt
seat_within before after lanes lanes_after item own le s (Some p) e =
    go (subst (AreStepsAt before.seat.core.neighbours item.seat) (ap (λ v. v.steps) (s.serving (answers_in s.offers) (own s.offers)) ∙ ap steps_of (sym e)) (steps_at (answers_in s.offers) before.seat.core.neighbours (Rows.state_of before.seat) item))
  where
    go : AreStepsAt before.seat.core.neighbours item.seat (steps_of (Some p)) → item.seat < lanes_after.count
    go (inl none) = absurd (cc)
    go (inr (k, at, parcel, is)) =
        let same = (lanes_stay before.seat.core.neighbours s.offers lanes lanes_after s.offered).1 in
        let lt = slice_get_within before.seat.core.neighbours item.seat k at in
        omega (arith, same, lt, le)

-- ---- the lists of a core within the greatest limits are accepted for a new one

no_number : (me : ℕ) (numbers : List ℕ) → AllByRecursion (IsNeighbour me) numbers → has_number me numbers ≡ false
no_number me [] h = refl
no_number me (k ∷ numbers) h = ap₂ (λ (a b : Bool). a || b) (false_from_ne_true (nat_eq k me) (λ e. h.0.1 (eqb-true k me e))) (no_number me numbers h.1)

not_above : (most count : ℕ) → count ≤ most → nat_lt most count ≡ false
not_above most count le = grind (arith, nat_tests, le)

pub not_refused : (core : CoreView) → IsCore core → core_refusal_within GREATEST_NEIGHBOURS MOST_DESTINATIONS core.me core.neighbours (destinations_of core.views) ≡ None
not_refused core h =
    let few : length (destinations_of core.views) ≤ MOST_DESTINATIONS = subst (λ m. m ≤ MOST_DESTINATIONS) (sym (length-map core.views (λ v. v.destination))) h.few_views in
    ap₂ (λ (a b : Bool). if a || b then Some Refusal.TooMany else if has_repeat core.neighbours || has_repeat (destinations_of core.views) then Some Refusal.Repeated else if has_number core.me core.neighbours then Some Refusal.OwnId else None)
    (not_above GREATEST_NEIGHBOURS (length core.neighbours) h.few_neighbours) (not_above MOST_DESTINATIONS (length (destinations_of core.views)) few)
    ∙ ap₂ (λ (a b : Bool). if a || b then Some Refusal.Repeated else if has_number core.me core.neighbours then Some Refusal.OwnId else None)
    (different core.neighbours h.ascending_neighbours) (different (destinations_of core.views) h.ascending_destinations)
    ∙ ap (λ (b : Bool). if b then Some Refusal.OwnId else None) (no_number core.me core.neighbours h.neighbours)
