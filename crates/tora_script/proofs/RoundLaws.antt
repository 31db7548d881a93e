-- Plans of events, carried out step by step.
use Rattle.std.proofs.Common.{◌≡◌, ℕ, zero, suc, ◌+◌, ◌-◌, ◌<◌, ◌≤◌, Bool, true, false, not, ◌||◌, List, [], ◌∷◌, ◌++◌, length, drop, get_or, is_some, Option, None, Some, refl, sym, ap, ◌∙◌, subst, arith}
use Rattle.std.proofs.lemmas.Bool.{cond-true, cond-false}
use Rattle.std.proofs.lemmas.List.{drop_more, drop_all}
use Rattle.std.proofs.lemmas.Option.{none-some, same_Some}
use Rattle.tora_frame.specs.FrameParts.{FrameParts}
use Rattle.tora_world.specs.declared.event.Event.{Event}
use Rattle.tora_world.specs.declared.event.Event.TheVariants.{Deliver}
use Rattle.tora_world.specs.declared.sim_error.SimError.{SimError}
use Rattle.tora_world.specs.World.{World, is_empty, refusal_of, world_by, world_after, world_after_all}
use Rattle.tora_script.specs.declared.channel.channel.Copies.{Copies}
use Rattle.tora_script.specs.Table.{Channels}
use Rattle.tora_script.specs.Parted.{is_parted}
use Rattle.tora_script.specs.InFlight.{MomentView, copies_in, at_once}
use Rattle.tora_script.specs.DirectionCounts.{direction_in}
use Rattle.tora_sim.specs.Quiet.{IsQuiet}
use Rattle.tora_script.specs.declared.turns.EndTurn.{EndTurn}
use Rattle.tora_script.specs.declared.turns.EndTurn.TheVariants as turn
use Rattle.tora_script.specs.Rounds.{Plan, end_event, repeats, plan_then, each, delivery_of, delivery, deliveries, pass, passes, after_round, rounds, Sky, Happened}

pub after_append : (w : World) (xs ys : List Event) → world_after_all w (xs ++ ys) ≡ world_after_all (world_after_all w xs) ys
after_append w [] ys = refl
after_append w (x ∷ xs) ys = after_append (world_after w x) xs ys

some_append : (xs ys : List Event) → not (is_empty (xs ++ ys)) ≡ (not (is_empty xs) || not (is_empty ys))
some_append [] ys = refl
some_append (x ∷ xs) ys = refl

or_assoc : (a b c : Bool) → ((a || b) || c) ≡ (a || (b || c))
or_assoc true b c = refl
or_assoc false b c = refl

or_false : (a : Bool) → (a || false) ≡ a
or_false true = refl
or_false false = refl

-- some of the events have happened, possibly none, and these are left
pub record Onward (w : World) (events : List Event) (now : World) (some : Bool) (left : List Event) : Type 0 where
  pub goes : world_after_all now left ≡ world_after_all w events
  pub any : (some || not (is_empty left)) ≡ not (is_empty events)

pub begins : (w : World) (events : List Event) → Onward w events w false events
begins w events = record { goes = refl; any = refl }

pub ends : (w : World) (events : List Event) (now : World) (some : Bool) → Onward w events now some [] → Happened w events now some
ends w events now some o = record { after_is = o.goes; some_is = sym (or_false some) ∙ o.any }

-- one plan was carried out, and the next one is left
pub part : (w : World) (events : List Event) (now next : World) (some any : Bool) (plan rest : Plan) → Onward w events now some (plan_then plan rest now) → Happened now (plan now) next any → Onward w events next (some || any) (rest next)
part w events now next some any plan rest o h =
    let here : world_after_all now (plan now) ≡ next = sym h.after_is in
    let whole : plan_then plan rest now ≡ plan now ++ rest next = ap (λ (x : World). plan now ++ rest x) here in
    record {
      goes = ap (λ (x : World). world_after_all x (rest next)) h.after_is ∙ sym (after_append now (plan now) (rest next)) ∙ ap (world_after_all now) (sym whole) ∙ o.goes;
      any =
          or_assoc some any (not (is_empty (rest next))) ∙ ap (λ (b : Bool). some || (b || not (is_empty (rest next)))) h.some_is
          ∙ ap (λ (b : Bool). some || b) (sym (some_append (plan now) (rest next))) ∙ ap (λ (x : List Event). some || not (is_empty x)) (sym whole) ∙ o.any;
    }

-- ---- one event, repeated

pub again : (w : World) (events : List Event) (now next : World) (some : Bool) (j : ℕ) (event : Event) → Onward w events now some (repeats (suc j) event now) → refusal_of now event ≡ None → next ≡ world_after now event → Onward w events next true (repeats j event next)
unfolding repeats
again w events now next some j event o free e =
    let left : repeats (suc j) event now ≡ event ∷ repeats j event (world_after now event) = rw free refl in
    let goes : world_after_all now (event ∷ repeats j event (world_after now event)) ≡ world_after_all w events = ap (world_after_all now) (sym left) ∙ o.goes in
    let any : (some || true) ≡ not (is_empty events) = ap (λ (x : List Event). some || not (is_empty x)) (sym left) ∙ o.any in
    rw e (record { goes = goes; any = sym (or_true some) ∙ any })
  where
    or_true : (a : Bool) → (a || true) ≡ true
    or_true true = refl
    or_true false = refl

pub refused : (w : World) (events : List Event) (now next : World) (some : Bool) (j : ℕ) (event : Event) (error : SimError) → Onward w events now some (repeats (suc j) event now) → refusal_of now event ≡ Some error → next ≡ world_after now event → Happened w events next some
unfolding repeats world_by
refused w events now next some j event error o stop e =
    let same : world_after now event ≡ now = rw stop refl in
    let left : repeats (suc j) event now ≡ [] = rw stop refl in
    let o' : Onward w events now some [] = rw left at o in
    rw (e, same) (ends w events now some o')

-- the event is refused, so it was not tried
pub impossible : (w : World) (events : List Event) (now : World) (some : Bool) (j : ℕ) (event : Event) → Onward w events now some (repeats (suc j) event now) → is_some (refusal_of now event) ≡ true → Happened w events now some
unfolding repeats
impossible w events now some j event o stop =
    let left : repeats (suc j) event now ≡ [] = rw stop refl in
    ends w events now some (rw left at o)

-- the plan to repeat an event that is refused has no event
pub idle : (w : World) (most : ℕ) (event : Event) → is_some (refusal_of w event) ≡ true → Happened w (repeats most event w) w false
unfolding repeats
idle w zero event stop = record { after_is = refl; some_is = refl }
idle w (suc k) event stop = rw stop (record { after_is = refl; some_is = refl })

pub no_more : (w : World) (events : List Event) (now : World) (some : Bool) (event : Event) → Onward w events now some (repeats zero event now) → Happened w events now some
unfolding repeats
no_more w events now some event o = ends w events now some o

-- ---- one plan after another

pub Happened-then : (w mid next : World) (some any : Bool) (plan rest : Plan) → Happened w (plan w) mid some → Happened mid (rest mid) next any → Happened w (plan_then plan rest w) next (some || any)
Happened-then w mid next some any plan rest p q =
    let here : world_after_all w (plan w) ≡ mid = sym p.after_is in
    let whole : plan_then plan rest w ≡ plan w ++ rest mid = ap (λ (x : World). plan w ++ rest x) here in
    rw whole (record {
      after_is = q.after_is ∙ ap (λ (x : World). world_after_all x (rest mid)) p.after_is ∙ sym (after_append w (plan w) (rest mid));
      some_is = rw (p.some_is, q.some_is) (sym (some_append (plan w) (rest mid)));
    })

pub after_then : (w mid next : World) (plan rest : Plan) → mid ≡ world_after_all w (plan w) → next ≡ world_after_all mid (rest mid) → next ≡ world_after_all w (plan_then plan rest w)
after_then w mid next plan rest p q =
    let whole : plan_then plan rest w ≡ plan w ++ rest mid = ap (λ (x : World). plan w ++ rest x) (sym p) in
    q ∙ ap (λ (x : World). world_after_all x (rest mid)) p ∙ sym (after_append w (plan w) (rest mid)) ∙ ap (world_after_all w) (sym whole)

-- ---- passes and rounds

pub passes_on : (now next : World) (j : ℕ) (nodes : List ℕ) (ends parted : List (ℕ × ℕ)) (m : MomentView) (left : World) → world_after_all now (passes (suc j) nodes ends parted m now) ≡ left → Happened now (pass nodes ends parted m now) next true
    → world_after_all next (passes j nodes ends parted m next) ≡ left
unfolding passes
passes_on now next j nodes ends parted m left e h =
    let some : is_empty (pass nodes ends parted m now) ≡ false = not_not (is_empty (pass nodes ends parted m now)) (sym h.some_is) in
    let step : passes (suc j) nodes ends parted m now ≡ plan_then (pass nodes ends parted m) (passes j nodes ends parted m) now = rw some refl in
    after_then now next (world_after_all next (passes j nodes ends parted m next)) (pass nodes ends parted m) (passes j nodes ends parted m) h.after_is refl ∙ ap (world_after_all now) (sym step) ∙ e
  where
    not_not : (b : Bool) → not b ≡ true → b ≡ false
    not_not true h = absurd cc
    not_not false h = refl

pub passes_stop : (now next : World) (j : ℕ) (nodes : List ℕ) (ends parted : List (ℕ × ℕ)) (m : MomentView) (left : World) → world_after_all now (passes (suc j) nodes ends parted m now) ≡ left → Happened now (pass nodes ends parted m now) next false → next ≡ left
unfolding passes
passes_stop now next j nodes ends parted m left e h =
    let none = empty_is (pass nodes ends parted m now) (not_not (is_empty (pass nodes ends parted m now)) (sym h.some_is)) in
    let stop : passes (suc j) nodes ends parted m now ≡ [] = rw none.1 refl in
    h.after_is ∙ ap (world_after_all now) none.0 ∙ sym (ap (world_after_all now) stop) ∙ e
  where
    not_not : (b : Bool) → not b ≡ false → b ≡ true
    not_not true h = refl
    not_not false h = absurd cc

    empty_is : (xs : List Event) → is_empty xs ≡ true → (xs ≡ []) × (is_empty xs ≡ true)
    empty_is [] h = (refl, refl)
    empty_is (x ∷ xs) h = absurd cc

pub no_passes : (w : World) (nodes : List ℕ) (ends parted : List (ℕ × ℕ)) (m : MomentView) → world_after_all w (passes zero nodes ends parted m w) ≡ w
unfolding passes
no_passes w nodes ends parted m = refl

pub rounds_on : (now next : Sky) (r : ℕ) (nodes : List ℕ) (ends parted : List (ℕ × ℕ)) (channel : Channels) (left : Sky) → rounds (suc r) nodes ends parted channel now ≡ left → next ≡ after_round nodes ends parted channel now
    → rounds r nodes ends parted channel next ≡ left
unfolding rounds
rounds_on now next r nodes ends parted channel left e h = ap (rounds r nodes ends parted channel) h ∙ e

pub no_rounds : (s : Sky) (nodes : List ℕ) (ends parted : List (ℕ × ℕ)) (channel : Channels) → rounds zero nodes ends parted channel s ≡ s
unfolding rounds
no_rounds s nodes ends parted channel = refl

-- ---- a plan for each item of a list

pub each_part : {A : Type 0} (plan : A → Plan) (xs : List A) (i : ℕ) (d : A) (w : World) (events : List Event) (now next : World) (some any : Bool) → i < length xs → Onward w events now some (each plan (drop i xs) now) → Happened now (plan (get_or xs i d) now) next any
    → Onward w events next (some || any) (each plan (drop (i + 1) xs) next)
each_part {A} plan xs i d w events now next some any below o h =
    let e : each plan (drop i xs) now ≡ plan_then (plan (get_or xs i d)) (each plan (drop (i + 1) xs)) now = ap (λ (l : List A). each plan l now) (drop_more xs i d below) in
    part w events now next some any (plan (get_or xs i d)) (each plan (drop (i + 1) xs)) (rw e at o) h

pub each_ends : {A : Type 0} (plan : A → Plan) (xs : List A) (i : ℕ) (w : World) (events : List Event) (now : World) (some : Bool) → length xs ≤ i → Onward w events now some (each plan (drop i xs) now) → Happened w events now some
each_ends {A} plan xs i w events now some above o =
    let e : each plan (drop i xs) now ≡ [] = ap (λ (l : List A). each plan l now) (drop_all i xs above) in
    ends w events now some (rw e at o)

-- ---- datagrams

pub delivered : (parted : List (ℕ × ℕ)) (m : MomentView) (i end : ℕ) (w : World) (events : List Event) (now next : World) (some any : Bool) → i < end → Onward w events now some (deliveries parted m i (end - i) now) → Happened now (delivery parted m (i + 1) now) next any
    → Onward w events next (some || any) (deliveries parted m (i + 1) (end - (i + 1)) next)
unfolding deliveries
delivered parted m i end w events now next some any below o h =
    let k : end - i ≡ suc (end - (i + 1)) = omega arith in
    part w events now next some any (delivery parted m (i + 1)) (deliveries parted m (i + 1) (end - (i + 1))) (rw k at o) h

pub all_delivered : (parted : List (ℕ × ℕ)) (m : MomentView) (i end : ℕ) (w : World) (events : List Event) (now : World) (some : Bool) → end ≤ i → Onward w events now some (deliveries parted m i (end - i) now) → Happened w events now some
unfolding deliveries
all_delivered parted m i end w events now some above o =
    let k : end - i ≡ zero = omega arith in
    ends w events now some (rw k at o)

-- the number is not that of a datagram, so nothing is delivered
pub no_delivery : (parted : List (ℕ × ℕ)) (m : MomentView) (i : ℕ) (w : World) (o : Option FrameParts) → direction_in o ≡ None → Happened w (delivery_of parted m i o w) w false
no_delivery parted m i w None there = record { after_is = refl; some_is = refl }
no_delivery parted m i w (Some f) there = absurd (none-some (f.header.sender, f.header.receiver) (sym there))

-- the nodes of the datagram are parted, so it is not delivered
pub parted_delivery : (parted : List (ℕ × ℕ)) (m : MomentView) (i : ℕ) (w : World) (o : Option FrameParts) (direction : ℕ × ℕ) → direction_in o ≡ Some direction → is_parted parted direction.0 direction.1 ≡ true → Happened w (delivery_of parted m i o w) w false
parted_delivery parted m i w None direction there is = absurd (none-some direction there)
parted_delivery parted m i w (Some f) direction there is =
    let same : (f.header.sender, f.header.receiver) ≡ direction = same_Some (f.header.sender, f.header.receiver) direction there in
    let none : delivery_of parted m i (Some f) w ≡ [] =
    cond-true (is_parted parted f.header.sender f.header.receiver) [] (repeats (at_once (copies_in m i (f.header.sender, f.header.receiver) w)) (Deliver i) w) (ap (λ (p : ℕ × ℕ). is_parted parted p.0 p.1) same ∙ is) in
    subst (λ (events : List Event). Happened w events w false) (sym none) (record { after_is = refl; some_is = refl })

-- the datagram is delivered as often as the channel says
pub whole_delivery : (parted : List (ℕ × ℕ)) (m : MomentView) (i : ℕ) (w next : World) (some : Bool) (o : Option FrameParts) (direction : ℕ × ℕ) (copies : Copies) → direction_in o ≡ Some direction → is_parted parted direction.0 direction.1 ≡ false → copies ≡ copies_in m i direction w
    → Happened w (repeats (at_once copies) (Deliver i) w) next some → Happened w (delivery_of parted m i o w) next some
whole_delivery parted m i w next some None direction copies there is value h = absurd (none-some direction there)
whole_delivery parted m i w next some (Some f) direction copies there is value h =
    let same : (f.header.sender, f.header.receiver) ≡ direction = same_Some (f.header.sender, f.header.receiver) direction there in
    let plan : delivery_of parted m i (Some f) w ≡ repeats (at_once (copies_in m i (f.header.sender, f.header.receiver) w)) (Deliver i) w =
    cond-false (is_parted parted f.header.sender f.header.receiver) [] (repeats (at_once (copies_in m i (f.header.sender, f.header.receiver) w)) (Deliver i) w) (ap (λ (p : ℕ × ℕ). is_parted parted p.0 p.1) same ∙ is) in
    let here : repeats (at_once copies) (Deliver i) w ≡ delivery_of parted m i (Some f) w =
    ap (λ (c : Copies). repeats (at_once c) (Deliver i) w) value ∙ sym (ap (λ (p : ℕ × ℕ). repeats (at_once (copies_in m i p w)) (Deliver i) w) same) ∙ sym plan in
    subst (λ (events : List Event). Happened w events next some) here h

-- no plan of the list has an event
pub each_none : {A : Type 0} (plan : A → Plan) (xs : List A) (w : World) → ((x : A) → plan x w ≡ []) → each plan xs w ≡ []
each_none plan [] w h = refl
each_none {A} plan (x ∷ xs) w h = ap (λ (events : List Event). events ++ each plan xs (world_after_all w events)) (h x) ∙ each_none plan xs w h

pub no_event : (w : World) (k : ℕ) (event : Event) → is_some (refusal_of w event) ≡ true → repeats k event w ≡ []
unfolding repeats
no_event w zero event stop = refl
no_event w (suc k) event stop = rw stop refl

pub all_idle : {A : Type 0} (event : A → Event) (most : ℕ) (xs : List A) (w : World) → ((x : A) → is_some (refusal_of w (event x)) ≡ true) → Happened w (each (λ x. repeats most (event x)) xs w) w false
all_idle {A} event most xs w h =
    let none : each (λ x. repeats most (event x)) xs w ≡ [] = each_none (λ x. repeats most (event x)) xs w (λ x. no_event w most (event x) (h x)) in
    subst (λ (events : List Event). Happened w events w false) (sym none) (record { after_is = refl; some_is = refl })

-- no link end has anything to do
pub quiet_ends : (kind : EndTurn) (w : World) → IsQuiet w → (e : ℕ × ℕ) → is_some (refusal_of w (end_event kind e)) ≡ true
quiet_ends turn.Open w q e = q.opens e.0 e.1
quiet_ends turn.Pull w q e = q.pulls e.0 e.1
quiet_ends turn.Transmit w q e = q.sends e.0 e.1
quiet_ends turn.Pump w q e = q.pumps e.0 e.1
