-- What holds for each run of a link end.
use Rattle.std.proofs.Common.{◌≡◌, ℕ, suc, ◌+◌, ◌-◌, ◌<◌, ◌≤◌, true, false, true≢false, ◌⊎◌, inl, inr, ⊎_elim, List, [], ◌∷◌, ◌++◌, map, length, Option, Some, None, if◌then◌else◌, refl, sym, ap, ◌∙◌, subst, arith, append_assoc, append-nil, length-append}
use Rattle.std.specs.List.{AllByRecursion}
use Rattle.std.proofs.lemmas.Bool.{cases_Bool, false_from_ne_true}
use Rattle.tora_packet.specs.declared.Packet.{Packet}
use Rattle.std.proofs.lemmas.Option.{same_Some}
use Rattle.tora_frame.specs.declared.parts.Body.{Body}
use Rattle.tora_frame.specs.declared.parts.Body.TheVariants.{Hello, Data, Ack}
use Rattle.tora_frame.specs.FrameParts.{FrameParts}
use Rattle.tora_arq.specs.declared.life.Life.{Life}
use Rattle.tora_arq.specs.declared.link_event.LinkEvent.{LinkEvent}
use Rattle.tora_arq.specs.declared.phase.Phase.{Phase}
use Rattle.tora_arq.specs.declared.phase.Phase.TheVariants.{Closed, Unbound, Bound}
use Rattle.tora_arq.specs.Lives.{life_of, is_same_life}
use Rattle.tora_arq.specs.Settings.{Settings}
use Rattle.tora_arq.specs.LinkEnd.{EndState, bound_life, life_in}
use Rattle.tora_arq.specs.LinkFacts.{LinkCall, after_call, IsPossible, frame_sent_by, event_given_by, events_left, events_queued, packet_submitted, IsUnboundEnd, IsBoundEnd, IsEndIn, IsEnd, IsFrameOf, HandsInFrameOf, IsFrameSentIn, IsQueueOf, IsBodyOf, AreHeld, AreFrom, BodyTells, CallTells, packets_delivered, DeliversNext, list_of, AreEventsBetween, Leads, AreRising, IsCountOfCall, IsPacketAt, Carries}
use Rattle.tora_arq.specs.LinkFacts.LinkCall.{Open, Frame, Tick, Submit, PollEvent, Transmit, Cut}
use Rattle.tora_arq.specs.LinkRuns.{FrameHandedIn, Submission, LinkRun, first_run, own_number_in, frames_handed_in, submission_of, submissions, run_after, run_after_all, AreAllPossible, run_of, packets_submitted, WasHandedIn, CameAt, CountCame, AreAllTold, IsBodyOfRun, IsFrameOfRun, IsSameAtEachTry}
use Rattle.tora_arq.proofs.FactSteps.{is_same_life-refl, is_same_life-true, AreFrom-append, Step, call_step}
use Rattle.tora_arq.proofs.FactSteps.Step.{stays, opens, ends, submits, binds, goes_on}
use Rattle.tora_arq.proofs.FactCalls.{Any, queued_by, frame-content, call-sends, events_queued-is, call-gives, call-end, call-bound, call-behind, call-between, call-delivers, call-queue, call-first, call-acknowledges}
use Rattle.tora_arq.proofs.FactLists.{packets_delivered-append, packets_submitted-append, packets_delivered-other, EachBelow, EachBelow-more, EachBelow-append, EachBelow-map, none_delivered, none_submitted, all_more, all_append, all_at, Leads-append, Leads-between, rising_packets, rising_down, rising_up, AreFrom-more, AreHeld-more, IsPacketAt-append, was_last, came_more, count_more, told_more, told_append, told_map}

-- the own numbers of all sessions so far are below this number
abbrev pub next_number : Phase → ℕ → ℕ
next_number Closed last = suc last
next_number (Unbound own) last = own
next_number (Bound life) last = suc last

-- what went through an end in the bound session
pub record IsBoundRun (s : Settings) (run : LinkRun) (life : Life) : Type 0 where
  pub accepted : length (packets_delivered life run.events) ≡ run.state.accepted
  pub held : AreHeld (CameAt s run.frames life) run.state.accepted run.state.held
  pub queue : IsQueueOf (packets_submitted life run.submitted) run.state
  pub count : (run.state.acknowledged ≡ 0) ⊎ CountCame s run.frames life run.state.acknowledged

-- the invariant of a run
pub record IsRun (s : Settings) (run : LinkRun) : Type 0 where
  pub end : IsEnd s run.state
  pub positive : (own : ℕ) → run.state.phase ≡ Unbound own → 0 < own
  pub given : run.given ++ run.state.events ≡ run.events
  pub leads : Leads None run.events (bound_life run.state)
  pub rising : AreRising 0 run.events
  pub told : AreAllTold s run.frames run.events
  pub below : EachBelow (next_number run.state.phase run.state.last_life) run.events
  pub submitted : AllByRecursion (λ (x : Submission). x.life.own < next_number run.state.phase run.state.last_life) run.submitted
  pub delivered : (life : Life) → AreFrom (CameAt s run.frames life) 0 (packets_delivered life run.events)
  pub bound : (life : Life) → run.state.phase ≡ Bound life → IsBoundRun s run life
  pub sent : AllByRecursion (IsFrameOfRun run) run.sent

pub first-run : (s : Settings) → IsRun s first_run
first-run s = record {
  end = (refl, refl);
  positive = λ own j. absurd (cc);
  given = refl;
  leads = refl;
  rising = tt;
  told = tt;
  below = tt;
  submitted = tt;
  delivered = λ life. tt;
  bound = λ life j. absurd (cc);
  sent = tt;
}

no_submissions : (e : EndState) (call : LinkCall) → packet_submitted e call ≡ [] → submissions e call ≡ []
no_submissions e (Open life now) p = refl
no_submissions e (Frame frame now) p = refl
no_submissions e (Tick now) p = refl
no_submissions e (Submit life packet) p = ap (map (submission_of life)) p
no_submissions e PollEvent p = refl
no_submissions e (Transmit now) p = refl
no_submissions e (Cut life) p = refl

-- a frame of the session, passed in while the end has the session's own number
abbrev handed_in : EndState → FrameParts → FrameHandedIn
handed_in e frame = record { own = own_number_in e.phase; frame = frame }

was_handed : (s : Settings) (e : EndState) (life : Life) (frame : FrameParts) → own_number_in e.phase ≡ Some life.own → IsFrameOf s life frame → WasHandedIn s (handed_in e frame ∷ []) life (handed_in e frame)
was_handed s e life frame o h = record { among = (0, omega arith, refl); own = o; of_life = h }

call_hands : (s : Settings) (frames : List FrameHandedIn) (e : EndState) (life : Life) (call : LinkCall) → own_number_in e.phase ≡ Some life.own → HandsInFrameOf s life call → (handed : FrameHandedIn) × WasHandedIn s (frames ++ frames_handed_in e call) life handed
call_hands s frames e life (Open own now) o h = absurd h
call_hands s frames e life (Frame frame now) o h = (handed_in e frame, was_last s frames (handed_in e frame ∷ []) life (handed_in e frame) (was_handed s e life frame o h))
call_hands s frames e life (Tick now) o h = absurd h
call_hands s frames e life (Submit other packet) o h = absurd h
call_hands s frames e life PollEvent o h = absurd h
call_hands s frames e life (Transmit now) o h = absurd h
call_hands s frames e life (Cut other) o h = absurd h

-- each packet of the frame came in that frame
body_tells : (s : Settings) (frames : List FrameHandedIn) (e : EndState) (life : Life) (frame : FrameParts) → own_number_in e.phase ≡ Some life.own → IsFrameOf s life frame → (body : Body) → frame.body ≡ body → BodyTells (CameAt s (frames ++ handed_in e frame ∷ []) life) body
body_tells s frames e life frame o h body q = λ place packet c. record {
  handed = handed_in e frame;
  was = was_last s frames (handed_in e frame ∷ []) life (handed_in e frame) (was_handed s e life frame o h);
  carries = subst (λ b. Carries b (suc place) packet) (sym q) c;
}

call_tells : (s : Settings) (frames : List FrameHandedIn) (e : EndState) (life : Life) (call : LinkCall) → own_number_in e.phase ≡ Some life.own → CallTells (CameAt s (frames ++ frames_handed_in e call) life) s life call
call_tells s frames e life (Open own now) o = tt
call_tells s frames e life (Frame frame now) o = λ h. body_tells s frames e life frame o h frame.body refl
call_tells s frames e life (Tick now) o = tt
call_tells s frames e life (Submit other packet) o = tt
call_tells s frames e life PollEvent o = tt
call_tells s frames e life (Transmit now) o = tt
call_tells s frames e life (Cut other) o = tt

-- the count of the frame came in that frame
call_counts : (s : Settings) (frames : List FrameHandedIn) (e : EndState) (life : Life) (count : ℕ) (call : LinkCall) → own_number_in e.phase ≡ Some life.own → IsCountOfCall s life count call → CountCame s (frames ++ frames_handed_in e call) life count
call_counts s frames e life count (Open own now) o h = absurd h
call_counts s frames e life count (Frame frame now) o h = record {
  handed = handed_in e frame;
  was = was_last s frames (handed_in e frame ∷ []) life (handed_in e frame) (was_handed s e life frame o h.0);
  count_is = h.1;
}
call_counts s frames e life count (Tick now) o h = absurd h
call_counts s frames e life count (Submit other packet) o h = absurd h
call_counts s frames e life count PollEvent o h = absurd h
call_counts s frames e life count (Transmit now) o h = absurd h
call_counts s frames e life count (Cut other) o h = absurd h

-- a session is bound, or it is not the bound one
bound_or_not : (ph : Phase) (life : Life) → (ph ≡ Bound life) ⊎ (life_in ph ≡ Some life → ⊥)
bound_or_not Closed life = inr (λ q. absurd (cc))
bound_or_not (Unbound own) life = inr (λ q. absurd (cc))
bound_or_not (Bound other) life =
    ⊎_elim
    (λ (t : is_same_life other life ≡ true). inl (ap Bound (is_same_life-true other life t)))
    (λ (t : is_same_life other life ≡ false). inr (λ q. let y : other ≡ life = cc in true≢false (sym (subst (λ x. is_same_life other x ≡ true) y (is_same_life-refl other)) ∙ t)))
    (cases_Bool (is_same_life other life))

other_life : (life other : Life) → (Some other ≡ Some life → ⊥) → is_same_life life other ≡ false
other_life life other n = false_from_ne_true (is_same_life life other) (λ t. n (ap Some (sym (is_same_life-true life other t))))

none_between : (a b : Option Life) (events : List LinkEvent) (life : Life) → (b ≡ Some life → ⊥) → AreEventsBetween a b events → packets_delivered life events ≡ []
none_between None None events life n h = ap (packets_delivered life) h
none_between None (Some other) events life n h = ap (packets_delivered life) h.1 ∙ packets_delivered-other life other h.0 (other_life life other n)
none_between (Some before) None events life n h = ap (packets_delivered life) h.1
none_between (Some before) (Some other) events life n h =
    ap (packets_delivered life) h.2 ∙ packets_delivered-other life before h.1 (subst (λ x. is_same_life life x ≡ false) (sym h.0) (other_life life other n))

-- what was submitted and delivered in a session only grows
body_more : (run run' : LinkRun) (life : Life) (packets : List Packet) → packets_submitted life run'.submitted ≡ packets_submitted life run.submitted ++ packets → length (packets_delivered life run.events) ≤ length (packets_delivered life run'.events) → (body : Body) → IsBodyOfRun run life body → IsBodyOfRun run' life body
body_more run run' life packets q le Hello h = tt
body_more run run' life packets q le (Data number count carried) h =
    record {
      first = h.first;
      packets_are = λ place packet has.
          subst (λ xs. IsPacketAt xs place packet) (sym q) (IsPacketAt-append (packets_submitted life run.submitted) packets place packet (h.packets_are place packet has));
      count_is = omega (arith, h.count_is);
    }
body_more run run' life packets q le (Ack count) h = omega arith

body_of_run : (run : LinkRun) (life : Life) (accepted : ℕ) → length (packets_delivered life run.events) ≡ accepted → (body : Body) → IsBodyOf (packets_submitted life run.submitted) accepted body → IsBodyOfRun run life body
body_of_run run life accepted q Hello h = tt
body_of_run run life accepted q (Data number count packets) h = record { first = h.first; packets_are = h.packets_are; count_is = omega (arith, h.count_is) }
body_of_run run life accepted q (Ack count) h = omega arith

all_list_of : {A : Type 0} (P : A → Type 0) (o : Option A) → ((x : A) → o ≡ Some x → P x) → AllByRecursion P (list_of o)
all_list_of P None f = tt
all_list_of P (Some x) f = (f x refl, tt)

module _ (s : Settings) (run : LinkRun) (call : LinkCall) (ok : IsPossible run.state call) (h : IsRun s run) where
  abbrev E : EndState
  E = run.state

  abbrev E' : EndState
  E' = after_call s run.state call

  abbrev Queued : List LinkEvent
  Queued = events_queued s run.state call

  abbrev Frames : List FrameHandedIn
  Frames = run.frames ++ frames_handed_in run.state call

  abbrev Submitted : List Submission
  Submitted = run.submitted ++ submissions run.state call

  step : Step Any s call E E'
  step = call_step Any s E call ok

  queued : (t : Step Any s call E E') → Queued ≡ queued_by Any s call E E' t
  queued t = events_queued-is Any s E call t

  next_at : (e : EndState) (ph : Phase) → e.phase ≡ ph → next_number e.phase e.last_life ≡ next_number ph e.last_life
  next_at e ph j = ap (λ p. next_number p e.last_life) j

  at_closed : (e : EndState) (last : ℕ) → e.phase ≡ Closed → e.last_life ≡ last → next_number e.phase e.last_life ≡ suc last
  at_closed e last j q = next_at e Closed j ∙ ap suc q

  at_bound : (e : EndState) (life : Life) (last : ℕ) → e.phase ≡ Bound life → e.last_life ≡ last → next_number e.phase e.last_life ≡ suc last
  at_bound e life last j q = next_at e (Bound life) j ∙ ap suc q

  at_unbound : (e : EndState) (own : ℕ) → e.phase ≡ Unbound own → next_number e.phase e.last_life ≡ own
  at_unbound e own j = next_at e (Unbound own) j

  number_of_bound : (life : Life) → E.phase ≡ Bound life → life.own ≡ E.last_life
  number_of_bound life j = let b : IsBoundEnd s E life = subst (IsEndIn s E) j h.end in b.number

  number_of_unbound : (own : ℕ) → E.phase ≡ Unbound own → own ≡ E.last_life
  number_of_unbound own j = let b : IsUnboundEnd E own = subst (IsEndIn s E) j h.end in b.number

  -- the next own number never falls
  next_rises : (t : Step Any s call E E') → next_number E.phase E.last_life ≤ next_number E'.phase E'.last_life
  next_rises (stays k) = let z : next_number E'.phase E'.last_life ≡ next_number E.phase E.last_life = ap (λ p. next_number p E'.last_life) k.phase ∙ ap (next_number E.phase) k.last_life in omega arith
  next_rises (opens own k) = omega (arith, at_closed E E.last_life k.closed refl, at_unbound E' own k.phase, k.above)
  next_rises (ends l r k) = omega (arith, at_bound E l E.last_life k.bound refl, at_closed E' E.last_life k.phase k.last_life)
  next_rises (submits l p k) = omega (arith, at_bound E l E.last_life k.bound refl, at_bound E' l E.last_life k.phase k.last_life)
  next_rises (binds l i v p g) = omega (arith, at_unbound E l.own i, number_of_unbound l.own i, at_bound E' l E.last_life g.phase g.last_life)
  next_rises (goes_on l i v p g) = omega (arith, at_bound E l E.last_life i refl, at_bound E' l E.last_life (g.phase ∙ i) g.last_life)

  -- the queued events are of the bound session
  queued_below : (t : Step Any s call E E') → EachBelow (next_number E'.phase E'.last_life) (queued_by Any s call E E' t)
  queued_below (stays k) = tt
  queued_below (opens own k) = tt
  queued_below (ends l r k) = (omega (arith, number_of_bound l k.bound, at_closed E' E.last_life k.phase k.last_life), tt)
  queued_below (submits l p k) = tt
  queued_below (binds l i v p g) =
      let n : l.own < next_number E'.phase E'.last_life = omega (arith, number_of_unbound l.own i, at_bound E' l E.last_life g.phase g.last_life) in
      (n, EachBelow-map (next_number E'.phase E'.last_life) l g.packets n)
  queued_below (goes_on l i v p g) =
      EachBelow-map (next_number E'.phase E'.last_life) l g.packets (omega (arith, number_of_bound l i, at_bound E' l E.last_life (g.phase ∙ i) g.last_life))

  below' : EachBelow (next_number E'.phase E'.last_life) (run.events ++ Queued)
  below' =
      EachBelow-append (next_number E'.phase E'.last_life) run.events Queued
      (EachBelow-more (next_number E.phase E.last_life) (next_number E'.phase E'.last_life) run.events (next_rises step) h.below)
      (subst (EachBelow (next_number E'.phase E'.last_life)) (sym (queued step)) (queued_below step))

  rising_by : (t : Step Any s call E E') → AreRising 0 (run.events ++ queued_by Any s call E E' t)
  rising_by (stays k) = subst (AreRising 0) (sym (append-nil run.events)) h.rising
  rising_by (opens own k) = subst (AreRising 0) (sym (append-nil run.events)) h.rising
  rising_by (ends l r k) = rising_down 0 run.events l r h.rising
  rising_by (submits l p k) = subst (AreRising 0) (sym (append-nil run.events)) h.rising
  rising_by (binds l i v p g) = rising_up 0 run.events l g.packets (h.positive l.own i) (subst (λ n. EachBelow n run.events) (at_unbound E l.own i) h.below) h.rising
  rising_by (goes_on l i v p g) = rising_packets 0 run.events l g.packets h.rising

  own_of_unbound : (own : ℕ) → E.phase ≡ Unbound own → own_number_in E.phase ≡ Some own
  own_of_unbound own j = ap own_number_in j

  own_of_bound : (life : Life) → E.phase ≡ Bound life → own_number_in E.phase ≡ Some life.own
  own_of_bound life j = ap own_number_in j

  told_by : (t : Step Any s call E E') → AreAllTold s Frames (queued_by Any s call E E' t)
  told_by (stays k) = tt
  told_by (opens own k) = tt
  told_by (ends l r k) = tt
  told_by (submits l p k) = tt
  told_by (binds l i v p g) =
      (call_hands s run.frames E l call (own_of_unbound l.own i) g.comes, told_map s Frames l g.packets)
  told_by (goes_on l i v p g) = told_map s Frames l g.packets

  positive_by : (t : Step Any s call E E') (own : ℕ) → E'.phase ≡ Unbound own → 0 < own
  positive_by (stays k) own j = h.positive own (sym k.phase ∙ j)
  positive_by (opens x k) own j = let y : x ≡ own = number_in E'.phase x own k.phase j in omega (arith, k.above)
    where
      number_in : (ph : Phase) (a b : ℕ) → ph ≡ Unbound a → ph ≡ Unbound b → a ≡ b
      number_in ph a b p q = cc
  positive_by (ends l r k) own j = let y : Closed ≡ Unbound own = sym k.phase ∙ j in absurd (cc)
  positive_by (submits l p k) own j = let y : Bound l ≡ Unbound own = sym k.phase ∙ j in absurd (cc)
  positive_by (binds l i v p g) own j = let y : Bound l ≡ Unbound own = sym g.phase ∙ j in absurd (cc)
  positive_by (goes_on l i v p g) own j = let y : Bound l ≡ Unbound own = sym (g.phase ∙ i) ∙ j in absurd (cc)

  -- ---- packets submitted

  submissions_by : (t : Step Any s call E E') → AllByRecursion (λ (x : Submission). x.life.own < next_number E'.phase E'.last_life) (submissions E call)
  submissions_by (stays k) = subst (AllByRecursion (λ (x : Submission). x.life.own < next_number E'.phase E'.last_life)) (sym (no_submissions E call k.submitted)) tt
  submissions_by (opens own k) = subst (AllByRecursion (λ (x : Submission). x.life.own < next_number E'.phase E'.last_life)) (sym (no_submissions E call k.submitted)) tt
  submissions_by (ends l r k) = subst (AllByRecursion (λ (x : Submission). x.life.own < next_number E'.phase E'.last_life)) (sym (no_submissions E call k.submitted)) tt
  submissions_by (submits l p k) =
      let y : submissions E call ≡ submission_of l p ∷ [] = submitted_in l p k.names k.submitted in
      subst (AllByRecursion (λ (x : Submission). x.life.own < next_number E'.phase E'.last_life)) (sym y)
      (omega (arith, number_of_bound l k.bound, at_bound E' l E.last_life k.phase k.last_life), tt)
    where
      submitted_in : (l : Life) (p : Packet) → call ≡ Submit l p → packet_submitted E call ≡ p ∷ [] → submissions E call ≡ submission_of l p ∷ []
      submitted_in l p n q = ap (submissions E) n ∙ ap (map (submission_of l)) (ap (packet_submitted E) (sym n) ∙ q)
  submissions_by (binds l i v p g) = subst (AllByRecursion (λ (x : Submission). x.life.own < next_number E'.phase E'.last_life)) (sym (no_submissions E call p)) tt
  submissions_by (goes_on l i v p g) = subst (AllByRecursion (λ (x : Submission). x.life.own < next_number E'.phase E'.last_life)) (sym (no_submissions E call p)) tt

  -- in the bound session the call submits exactly this
  submitted_of : (t : Step Any s call E E') (life : Life) → E.phase ≡ Bound life → packets_submitted life (submissions E call) ≡ packet_submitted E call
  submitted_of (stays k) life j = ap (packets_submitted life) (no_submissions E call k.submitted) ∙ sym k.submitted
  submitted_of (opens own k) life j = ap (packets_submitted life) (no_submissions E call k.submitted) ∙ sym k.submitted
  submitted_of (ends l r k) life j = ap (packets_submitted life) (no_submissions E call k.submitted) ∙ sym k.submitted
  submitted_of (submits l p k) life j =
      let y : l ≡ life = life_in_phase E.phase l life k.bound j in
      ap (packets_submitted life) (ap (submissions E) k.names ∙ ap (map (submission_of l)) (ap (packet_submitted E) (sym k.names) ∙ k.submitted))
      ∙ ap (λ x. packets_submitted life (submission_of x p ∷ [])) y ∙ ap (λ b. (if b then p ∷ [] else []) ++ []) (is_same_life-refl life) ∙ sym k.submitted
    where
      life_in_phase : (ph : Phase) (a b : Life) → ph ≡ Bound a → ph ≡ Bound b → a ≡ b
      life_in_phase ph a b p q = cc
  submitted_of (binds l i v p g) life j = ap (packets_submitted life) (no_submissions E call p) ∙ sym p
  submitted_of (goes_on l i v p g) life j = ap (packets_submitted life) (no_submissions E call p) ∙ sym p

  -- ---- packets delivered

  own_of : (life : Life) → E'.phase ≡ Bound life → own_number_in E.phase ≡ Some life.own
  own_of life k = ⊎_elim (λ j. own_of_bound life j) (λ b. own_of_unbound life.own b.0) (call-bound s E call ok life k)

  none_yet : (life : Life) → E.phase ≡ Unbound life.own → packets_delivered life run.events ≡ []
  none_yet life j = none_delivered life run.events (subst (λ n. EachBelow n run.events) (at_unbound E life.own j) h.below)

  accepted_before : (life : Life) → E'.phase ≡ Bound life → length (packets_delivered life run.events) ≡ E.accepted
  accepted_before life k =
      ⊎_elim (λ j. (h.bound life j).accepted)
      (λ b. let u : IsUnboundEnd E life.own = subst (IsEndIn s E) b.0 h.end in ap length (none_yet life b.0) ∙ sym u.accepted)
      (call-bound s E call ok life k)

  delivers : (life : Life) → E'.phase ≡ Bound life → DeliversNext (CameAt s Frames life) E E' (packets_delivered life Queued)
  delivers life k =
      call-delivers s E call (CameAt s Frames life) ok life k h.end
      (λ j. AreHeld-more (CameAt s run.frames life) (CameAt s Frames life) (λ place packet c. came_more s run.frames (frames_handed_in E call) life place packet c) E.accepted E.held (h.bound life j).held)
      (call_tells s run.frames E life call (own_of life k))

  delivered' : (life : Life) → AreFrom (CameAt s Frames life) 0 (packets_delivered life (run.events ++ Queued))
  delivered' life =
      let xs : List Packet = packets_delivered life run.events in
      let ys : List Packet = packets_delivered life Queued in
      let old : AreFrom (CameAt s Frames life) 0 xs = AreFrom-more (CameAt s run.frames life) (CameAt s Frames life) (λ place packet c. came_more s run.frames (frames_handed_in E call) life place packet c) 0 xs (h.delivered life) in
      let new : AreFrom (CameAt s Frames life) (0 + length xs) ys =
      ⊎_elim
      (λ (k : E'.phase ≡ Bound life). let z : E.accepted ≡ 0 + length xs = omega (arith, accepted_before life k) in subst (λ n. AreFrom (CameAt s Frames life) n ys) z (delivers life k).next)
      (λ (n : bound_life E' ≡ Some life → ⊥). subst (AreFrom (CameAt s Frames life) (0 + length xs)) (sym (none_between (bound_life E) (bound_life E') Queued life n (call-between s E call ok))) tt)
      (bound_or_not E'.phase life) in
      subst (AreFrom (CameAt s Frames life) 0) (sym (packets_delivered-append life run.events Queued)) (AreFrom-append (CameAt s Frames life) 0 xs ys old new)

  more_delivered : (life : Life) → length (packets_delivered life (run.events ++ Queued)) ≡ length (packets_delivered life run.events) + length (packets_delivered life Queued)
  more_delivered life = ap length (packets_delivered-append life run.events Queued) ∙ length-append (packets_delivered life run.events) (packets_delivered life Queued)

  -- ---- the bound session

  queue' : (life : Life) → E'.phase ≡ Bound life → IsQueueOf (packets_submitted life Submitted) E'
  queue' life k =
      ⊎_elim
      (λ j. subst (λ xs. IsQueueOf xs E') (ap (λ ys. packets_submitted life run.submitted ++ ys) (sym (submitted_of step life j)) ∙ sym (packets_submitted-append life run.submitted (submissions E call)))
      (call-queue s E call ok life (packets_submitted life run.submitted) j k h.end (h.bound life j).queue))
      (λ b. let f = call-first s E call ok life.own life b.0 k in
      let none : packets_submitted life run.submitted ≡ [] = none_submitted life run.submitted (subst (λ n. AllByRecursion (λ (x : Submission). x.life.own < n) run.submitted) (at_unbound E life.own b.0) h.submitted) in
      let z : packets_submitted life Submitted ≡ [] =
      packets_submitted-append life run.submitted (submissions E call) ∙ ap (λ xs. xs ++ packets_submitted life (submissions E call)) none ∙ ap (packets_submitted life) (no_submissions E call f.1) in
      subst (λ xs. IsQueueOf xs E') (sym z) f.0)
      (call-bound s E call ok life k)

  count' : (life : Life) → E'.phase ≡ Bound life → (E'.acknowledged ≡ 0) ⊎ CountCame s Frames life E'.acknowledged
  count' life k =
      ⊎_elim
      (λ j. ⊎_elim
      (λ (q : E'.acknowledged ≡ E.acknowledged).
      ⊎_elim
      (λ (z : E.acknowledged ≡ 0). inl (q ∙ z))
      (λ c. inr (subst (CountCame s Frames life) (sym q) (count_more s run.frames (frames_handed_in E call) life E.acknowledged c)))
      (h.bound life j).count)
      (λ c. inr (call_counts s run.frames E life E'.acknowledged call (own_of life k) c))
      (call-acknowledges s E call ok life j k h.end).told)
      (λ b. inl (call-first s E call ok life.own life b.0 k).2)
      (call-bound s E call ok life k)

  bound' : (life : Life) → E'.phase ≡ Bound life → IsBoundRun s (run_after s run call) life
  bound' life k = record {
    accepted = omega (arith, more_delivered life, accepted_before life k, (delivers life k).accepted);
    held = (delivers life k).held;
    queue = queue' life k;
    count = count' life k;
  }

  -- ---- frames sent

  grown : (life : Life) (body : Body) → IsBodyOfRun run life body → IsBodyOfRun (run_after s run call) life body
  grown life body b =
      body_more run (run_after s run call) life (packets_submitted life (submissions E call)) (packets_submitted-append life run.submitted (submissions E call)) (omega (arith, more_delivered life)) body b

  sent_in : (f : FrameParts) → (ph : Phase) → E.phase ≡ ph → IsFrameSentIn s E f ph → IsFrameOfRun run f
  sent_in f Closed j k = absurd k
  sent_in f (Unbound own) j k = subst (IsFrameOfRun run) (sym k) tt
  sent_in f (Bound life) j k =
      let content = frame-content s E f life (packets_submitted life run.submitted) j (subst (IsFrameSentIn s E f) (sym j) k) (h.bound life j).queue in
      let y : life_of f.header.life f.header.heard ≡ life = ap (λ (x : FrameParts). life_of x.header.life x.header.heard) k.0 in
      subst (λ x. IsBodyOfRun run x f.body) (sym y) (body_of_run run life E.accepted (h.bound life j).accepted f.body content)

  sent' : AllByRecursion (IsFrameOfRun (run_after s run call)) (run.sent ++ list_of (frame_sent_by s E call))
  sent' =
      all_append (IsFrameOfRun (run_after s run call)) run.sent (list_of (frame_sent_by s E call))
      (all_more (IsFrameOfRun run) (IsFrameOfRun (run_after s run call)) (λ (f : FrameParts) k. grown (life_of f.header.life f.header.heard) f.body k) run.sent h.sent)
      (all_list_of (IsFrameOfRun (run_after s run call)) (frame_sent_by s E call) (λ f q. grown (life_of f.header.life f.header.heard) f.body (sent_in f E.phase refl (call-sends s E call f q))))

  given' : (run.given ++ list_of (event_given_by E call)) ++ E'.events ≡ run.events ++ Queued
  given' =
      ap (λ xs. (run.given ++ list_of (event_given_by E call)) ++ xs) (call-behind s E call ok)
      ∙ append_assoc run.given (list_of (event_given_by E call)) (events_left E call ++ Queued)
      ∙ ap (λ xs. run.given ++ xs) (sym (append_assoc (list_of (event_given_by E call)) (events_left E call) Queued) ∙ ap (λ xs. xs ++ Queued) (call-gives E call))
      ∙ sym (append_assoc run.given E.events Queued) ∙ ap (λ xs. xs ++ Queued) h.given

  pub next-run : IsRun s (run_after s run call)
  next-run = record {
    end = call-end s E call ok h.end;
    positive = positive_by step;
    given = given';
    leads = Leads-append None (bound_life E) (bound_life E') run.events Queued h.leads (Leads-between (bound_life E) (bound_life E') Queued (call-between s E call ok));
    rising = subst (λ xs. AreRising 0 (run.events ++ xs)) (sym (queued step)) (rising_by step);
    told = told_append s Frames run.events Queued (told_more s run.frames (frames_handed_in E call) run.events h.told) (subst (AreAllTold s Frames) (sym (queued step)) (told_by step));
    below = below';
    submitted = all_append (λ (x : Submission). x.life.own < next_number E'.phase E'.last_life) run.submitted (submissions E call)
        (all_more (λ (x : Submission). x.life.own < next_number E.phase E.last_life) (λ (x : Submission). x.life.own < next_number E'.phase E'.last_life) (λ x k. omega (arith, next_rises step)) run.submitted h.submitted)
        (submissions_by step);
    delivered = delivered';
    bound = bound';
    sent = sent';
  }

pub all-runs : (s : Settings) (calls : List LinkCall) (run : LinkRun) → AreAllPossible s run calls → IsRun s run → IsRun s (run_after_all s run calls)
all-runs s [] run ok h = h
all-runs s (call ∷ calls) run ok h = all-runs s calls (run_after s run call) ok.1 (next-run s run call ok.0 h)

pub every-run : (s : Settings) (calls : List LinkCall) → AreAllPossible s first_run calls → IsRun s (run_of s calls)
every-run s calls ok = all-runs s calls first_run ok (first-run s)

-- ---- consequences for frames sent

-- the packet that a frame carries under a number was submitted under that number
carried : (run : LinkRun) (life : Life) (body : Body) (number : ℕ) (packet : Packet) → IsBodyOfRun run life body → Carries body number packet → (place : ℕ) × (number ≡ suc place) × IsPacketAt (packets_submitted life run.submitted) place packet
carried run life Hello number packet h c = absurd c
carried run life (Data first count packets) number packet h c =
    let place : number ≡ suc (number - 1) = omega (arith, h.first, c.1) in
    (number - 1, place, h.packets_are (number - 1) packet (c.0, omega (arith, h.first, c.1), c.2))
carried run life (Ack count) number packet h c = absurd c

same_packet : (run : LinkRun) (life : Life) (a b : Body) (number : ℕ) (packet other : Packet) → IsBodyOfRun run life a → IsBodyOfRun run life b → Carries a number packet → Carries b number other → packet ≡ other
same_packet run life a b number packet other p q c d =
    let x = carried run life a number packet p c in
    let y = carried run life b number other q d in
    let z : y.0 ≡ x.0 = omega (arith, x.1, y.1) in
    same_Some packet other (sym x.2 ∙ subst (λ n. IsPacketAt (packets_submitted life run.submitted) n other) z y.2)

pub same_at_each_try : (s : Settings) (run : LinkRun) → IsRun s run → IsSameAtEachTry run.sent
same_at_each_try s run h f g number packet other i j one c d =
    let life : life_of f.header.life f.header.heard ≡ life_of g.header.life g.header.heard = ap (life_of f.header.life) one.peer ∙ ap (λ n. life_of n g.header.heard) one.own in
    same_packet run (life_of g.header.life g.header.heard) f.body g.body number packet other
    (subst (λ x. IsBodyOfRun run x f.body) life (all_at (IsFrameOfRun run) run.sent f h.sent i))
    (all_at (IsFrameOfRun run) run.sent g h.sent j) c d
