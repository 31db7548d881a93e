-- The table with the simulator's own choice.
use Rattle.std.proofs.Common.{◌≡◌, ◌↔◌, ℕ, ◌+◌, ◌<◌, Bool, true, List, ◌++◌, length, Some, refl, sym, ap, ◌∙◌, subst, nat_lt, length-append, lt-ltb, ltb-true}
use Rattle.std.proofs.lemmas.Bool.{ltb_from_iff}
use mathlib.Core.Path.{fun_ext}
use Rattle.tora_seat.specs.Serving.{Offer, Answers, put_to}
use Rattle.tora_seat.specs.declared.TheConstants.{MOST_CARGOES}
use Rattle.tora_world.specs.declared.event.Event.{Event}
use Rattle.tora_world.specs.declared.event.Event.TheVariants.{Need, Tick, Open, Pull, Transmit, Deliver, Pump, CoreTurn, Arm, Restart}
use Rattle.tora_world.specs.declared.sim_error.SimError.{SimError}
use Rattle.tora_world.specs.World.{World, Choice, tick_of, node_of, own_answers, own_choice, refusal_by, refusal_of, effect_by, world_by, world_after}
use Rattle.tora_world.specs.Table.{IsTickOf, IsOwnChoice, IsStep, IsStepBy, IsRefused, IsRefusedBy}
use Rattle.tora_world.proofs.TableRefusals.{refused_leads, refused_holds}
use Rattle.tora_world.proofs.TableHolds.{step_holds}
use Rattle.tora_world.proofs.TableLeads.{step_leads}

-- ---- ticks

tick_is : (w : World) (event : Event) (now : ℕ) → IsTickOf w event now → now ≡ tick_of w event
tick_is w (Need n d) now h = h.1 (λ q. cc)
tick_is w Tick now h = h.0 refl
tick_is w (Open n k) now h = h.1 (λ q. cc)
tick_is w (Pull n k) now h = h.1 (λ q. cc)
tick_is w (Transmit n k) now h = h.1 (λ q. cc)
tick_is w (Deliver i) now h = h.1 (λ q. cc)
tick_is w (Pump n k) now h = h.1 (λ q. cc)
tick_is w (CoreTurn n) now h = h.1 (λ q. cc)
tick_is w (Arm n call) now h = h.1 (λ q. cc)
tick_is w (Restart n torn) now h = h.1 (λ q. cc)

is_tick : (w : World) (event : Event) → IsTickOf w event (tick_of w event)
is_tick w (Need n d) = (λ q. absurd (cc), λ ne. refl)
is_tick w Tick = (λ q. refl, λ ne. absurd (ne refl))
is_tick w (Open n k) = (λ q. absurd (cc), λ ne. refl)
is_tick w (Pull n k) = (λ q. absurd (cc), λ ne. refl)
is_tick w (Transmit n k) = (λ q. absurd (cc), λ ne. refl)
is_tick w (Deliver i) = (λ q. absurd (cc), λ ne. refl)
is_tick w (Pump n k) = (λ q. absurd (cc), λ ne. refl)
is_tick w (CoreTurn n) = (λ q. absurd (cc), λ ne. refl)
is_tick w (Arm n call) = (λ q. absurd (cc), λ ne. refl)
is_tick w (Restart n torn) = (λ q. absurd (cc), λ ne. refl)

-- ---- results of offers

module _ (w : World) (n : ℕ) (offers : List Offer) (k : ℕ) where
  waits : length (w.cargoes n k ++ put_to k offers) ≡ length (w.cargoes n k) + length (put_to k offers)
  waits = length-append (w.cargoes n k) (put_to k offers)

  answer_is : (b : Bool) → (b ≡ true) ↔ (length (w.cargoes n k) + length (put_to k offers) < MOST_CARGOES) → b ≡ own_answers w n offers k
  answer_is b h = ltb_from_iff h ∙ ap (λ m. nat_lt m MOST_CARGOES) (sym waits)

  is_answer : (own_answers w n offers k ≡ true) ↔ (length (w.cargoes n k) + length (put_to k offers) < MOST_CARGOES)
  is_answer = (
    λ e. subst (λ m. m < MOST_CARGOES) waits (ltb-true (length (w.cargoes n k ++ put_to k offers)) MOST_CARGOES e),
    λ lt. lt-ltb (length (w.cargoes n k ++ put_to k offers)) MOST_CARGOES (subst (λ m. m < MOST_CARGOES) (sym waits) lt),
  )

-- ---- the simulator's choice

own_is : (w : World) (event : Event) → IsOwnChoice w event (own_choice w event)
own_is w event = record {
  clock = is_tick w event;
  now = λ n k. is_tick w event;
  stamp = is_tick w event;
  answers = λ n e offers k. subst (λ m. (own_answers w m offers k ≡ true) ↔ (length (w.cargoes n k) + length (put_to k offers) < MOST_CARGOES)) (sym (ap node_of e)) (is_answer w n offers k);
}

-- a choice that gives every call this tick
abbrev choice_at : ℕ → Answers → Choice
choice_at now answers = record { clock = now; now = λ n k. now; stamp = now; answers = answers }

choice_is : (w : World) (event : Event) (c : Choice) → IsOwnChoice w event c → c ≡ choice_at (tick_of w event) c.answers
choice_is w event c h = λ i. record {
  clock = tick_is w event c.clock h.clock i;
  now = λ n k. tick_is w event (c.now n k) (h.now n k) i;
  stamp = tick_is w event c.stamp h.stamp i;
  answers = c.answers;
}

-- the results of queues matter only in a turn
answers_count : (w : World) (now : ℕ) (a b : Answers) (event : Event) → ((n : ℕ) → event ≡ CoreTurn n → a ≡ b) → world_by (choice_at now a) w event ≡ world_by (choice_at now b) w event
unfolding world_by effect_by
answers_count w now a b (Need n d) h = refl
answers_count w now a b Tick h = refl
answers_count w now a b (Open n k) h = refl
answers_count w now a b (Pull n k) h = refl
answers_count w now a b (Transmit n k) h = refl
answers_count w now a b (Deliver i) h = refl
answers_count w now a b (Pump n k) h = refl
answers_count w now a b (CoreTurn n) h = ap (λ x. world_by (choice_at now x) w (CoreTurn n)) (h n refl)
answers_count w now a b (Arm n call) h = refl
answers_count w now a b (Restart n torn) h = refl

own_world : (w : World) (event : Event) (c : Choice) → IsOwnChoice w event c → world_by c w event ≡ world_after w event
own_world w event c h =
    ap (λ x. world_by x w event) (choice_is w event c h)
    ∙ answers_count w (tick_of w event) c.answers (own_answers w (node_of event)) event (λ n e.
    fun_ext (λ offers. fun_ext (λ k. answer_is w n offers k (c.answers offers k) (h.answers n e offers k) ∙ ap (λ m. own_answers w m offers k) (sym (ap node_of e)))))

own_refusal : (w : World) (event : Event) (c : Choice) → IsOwnChoice w event c → refusal_by c w event ≡ refusal_of w event
own_refusal w event c h = ap (λ x. refusal_by x w event) (choice_is w event c h) ∙ blind event
  where
    blind : (event : Event) → refusal_by (choice_at (tick_of w event) c.answers) w event ≡ refusal_of w event
    blind (Need n d) = refl
    blind Tick = refl
    blind (Open n k) = refl
    blind (Pull n k) = refl
    blind (Transmit n k) = refl
    blind (Deliver i) = refl
    blind (Pump n k) = refl
    blind (CoreTurn n) = refl
    blind (Arm n call) = refl
    blind (Restart n torn) = refl

-- ---- the law

pub steps_both : (w : World) (event : Event) (after : World) → IsStep w event after ↔ (after ≡ world_after w event)
steps_both w event after = (
  λ s. step_leads s.0 w s.2 ∙ own_world w event s.0 s.1,
  λ e. (own_choice w event, own_is w event, subst (IsStepBy (own_choice w event) w event) (sym e) (step_holds (own_choice w event) w event)),
)

pub refusals_both : (w : World) (event : Event) (error : SimError) → IsRefused w event error ↔ (refusal_of w event ≡ Some error)
refusals_both w event error = (
  λ s. sym (own_refusal w event s.0 s.1) ∙ refused_leads s.0 w s.2,
  λ e. (own_choice w event, own_is w event, refused_holds (own_choice w event) w event error e),
)

pub free_both : (c : Choice) (w : World) (event : Event) (after : World) → IsStepBy c w event after ↔ (after ≡ world_by c w event)
free_both c w event after = (λ s. step_leads c w s, λ e. subst (IsStepBy c w event) (sym e) (step_holds c w event))

pub free_refusals_both : (c : Choice) (w : World) (event : Event) (error : SimError) → IsRefusedBy c w event error ↔ (refusal_by c w event ≡ Some error)
free_refusals_both c w event error = (λ s. refused_leads c w s, λ e. refused_holds c w event error e)
