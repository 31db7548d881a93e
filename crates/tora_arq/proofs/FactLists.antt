-- Events, packets and frames of a run after one more call.
use Rattle.std.proofs.Common.{◌≡◌, ◌≢◌, ℕ, zero, suc, ◌+◌, ◌<◌, ◌≤◌, true, false, ⊎_elim, List, [], ◌∷◌, ◌++◌, map, Option, Some, None, if◌then◌else◌, Contains, refl, sym, ap, ◌∙◌, subst, arith, eqb-true, ◌==◌, append_assoc}
use Rattle.std.specs.List.{AllByRecursion}
use Rattle.std.proofs.lemmas.Bool.{cases_Bool, false_from_ne_true}
use Rattle.std.proofs.lemmas.List.Elements.{Contains-append_left, Contains-append_right}
use Rattle.tora_packet.specs.declared.Packet.{Packet}
use Rattle.tora_arq.specs.declared.life.Life.{Life}
use Rattle.tora_arq.specs.declared.reason.Reason.{Reason}
use Rattle.tora_arq.specs.declared.link_event.LinkEvent.{LinkEvent}
use Rattle.tora_arq.specs.declared.link_event.LinkEvent.TheVariants.{Up, Deliver, Down}
use Rattle.tora_arq.specs.Lives.{is_same_life}
use Rattle.tora_arq.specs.Settings.{Settings}
use Rattle.tora_arq.specs.LinkFacts.{AreHeld, AreFrom, packets_delivered, AreEventsBetween, Leads, AreOfOthers, AreOverByDown, AreRising, IsPacketAt}
use Rattle.tora_arq.specs.LinkRuns.{FrameHandedIn, Submission, packets_submitted, times_bound, WasHandedIn, CameAt, CountCame, AreAllTold}
use Rattle.tora_arq.proofs.FactSteps.{is_same_life-true}

-- ---- the packets of one session

pub packets_delivered-append : (life : Life) (xs ys : List LinkEvent) → packets_delivered life (xs ++ ys) ≡ packets_delivered life xs ++ packets_delivered life ys
packets_delivered-append life [] ys = refl
packets_delivered-append life (Up other ∷ xs) ys = packets_delivered-append life xs ys
packets_delivered-append life (Deliver other packet ∷ xs) ys =
    ap (λ zs. (if is_same_life life other then packet ∷ [] else []) ++ zs) (packets_delivered-append life xs ys)
    ∙ sym (append_assoc (if is_same_life life other then packet ∷ [] else []) (packets_delivered life xs) (packets_delivered life ys))
packets_delivered-append life (Down other reason ∷ xs) ys = packets_delivered-append life xs ys

pub packets_submitted-append : (life : Life) (xs ys : List Submission) → packets_submitted life (xs ++ ys) ≡ packets_submitted life xs ++ packets_submitted life ys
packets_submitted-append life [] ys = refl
packets_submitted-append life (x ∷ xs) ys =
    ap (λ zs. (if is_same_life life x.life then x.packet ∷ [] else []) ++ zs) (packets_submitted-append life xs ys)
    ∙ sym (append_assoc (if is_same_life life x.life then x.packet ∷ [] else []) (packets_submitted life xs) (packets_submitted life ys))

pub packets_delivered-other : (life other : Life) (packets : List Packet) → is_same_life life other ≡ false → packets_delivered life (map (Deliver other) packets) ≡ []
packets_delivered-other life other [] n = refl
packets_delivered-other life other (packet ∷ packets) n =
    ap (λ b. (if b then packet ∷ [] else []) ++ packets_delivered life (map (Deliver other) packets)) n ∙ packets_delivered-other life other packets n

-- ---- every event is of a session with an own number below this one

abbrev pub EachBelow : ℕ → List LinkEvent → Type 0
EachBelow n [] = Unit {0}
EachBelow n (Up life ∷ events) = (life.own < n) × EachBelow n events
EachBelow n (Deliver life packet ∷ events) = (life.own < n) × EachBelow n events
EachBelow n (Down life reason ∷ events) = (life.own < n) × EachBelow n events

pub EachBelow-more : (m n : ℕ) (events : List LinkEvent) → m ≤ n → EachBelow m events → EachBelow n events
EachBelow-more m n [] h b = tt
EachBelow-more m n (Up life ∷ events) h b = (omega (arith, b.0), EachBelow-more m n events h b.1)
EachBelow-more m n (Deliver life packet ∷ events) h b = (omega (arith, b.0), EachBelow-more m n events h b.1)
EachBelow-more m n (Down life reason ∷ events) h b = (omega (arith, b.0), EachBelow-more m n events h b.1)

pub EachBelow-append : (n : ℕ) (xs ys : List LinkEvent) → EachBelow n xs → EachBelow n ys → EachBelow n (xs ++ ys)
EachBelow-append n [] ys a b = b
EachBelow-append n (Up life ∷ xs) ys a b = (a.0, EachBelow-append n xs ys a.1 b)
EachBelow-append n (Deliver life packet ∷ xs) ys a b = (a.0, EachBelow-append n xs ys a.1 b)
EachBelow-append n (Down life reason ∷ xs) ys a b = (a.0, EachBelow-append n xs ys a.1 b)

pub EachBelow-map : (n : ℕ) (life : Life) (packets : List Packet) → life.own < n → EachBelow n (map (Deliver life) packets)
EachBelow-map n life [] h = tt
EachBelow-map n life (packet ∷ packets) h = (h, EachBelow-map n life packets h)

pub different_lives : (a b : Life) → a.own < b.own → is_same_life b a ≡ false
different_lives a b h = false_from_ne_true (is_same_life b a) (λ t. let y : b ≡ a = is_same_life-true b a t in let z : b.own ≡ a.own = ap (λ (x : Life). x.own) y in absurd (omega arith))

pub none_delivered : (life : Life) (events : List LinkEvent) → EachBelow life.own events → packets_delivered life events ≡ []
none_delivered life [] b = refl
none_delivered life (Up other ∷ events) b = none_delivered life events b.1
none_delivered life (Deliver other packet ∷ events) b =
    ap (λ x. (if x then packet ∷ [] else []) ++ packets_delivered life events) (different_lives other life b.0) ∙ none_delivered life events b.1
none_delivered life (Down other reason ∷ events) b = none_delivered life events b.1

pub none_submitted : (life : Life) (xs : List Submission) → AllByRecursion (λ (x : Submission). x.life.own < life.own) xs → packets_submitted life xs ≡ []
none_submitted life [] b = refl
none_submitted life (x ∷ xs) b = ap (λ y. (if y then x.packet ∷ [] else []) ++ packets_submitted life xs) (different_lives x.life life b.0) ∙ none_submitted life xs b.1

pub all_more : {A : Type 0} (P Q : A → Type 0) → ((x : A) → P x → Q x) → (xs : List A) → AllByRecursion P xs → AllByRecursion Q xs
all_more P Q f [] h = tt
all_more P Q f (x ∷ xs) h = (f x h.0, all_more P Q f xs h.1)

pub all_append : {A : Type 0} (P : A → Type 0) (xs ys : List A) → AllByRecursion P xs → AllByRecursion P ys → AllByRecursion P (xs ++ ys)
all_append P [] ys a b = b
all_append P (x ∷ xs) ys a b = (a.0, all_append P xs ys a.1 b)

-- ---- events in order

pub Leads-append : (a b c : Option Life) (xs ys : List LinkEvent) → Leads a xs b → Leads b ys c → Leads a (xs ++ ys) c
Leads-append a b c [] ys p q = subst (λ x. Leads x ys c) (sym p) q
Leads-append None b c (Up life ∷ xs) ys p q = Leads-append (Some life) b c xs ys p q
Leads-append None b c (Deliver life packet ∷ xs) ys p q = absurd p
Leads-append None b c (Down life reason ∷ xs) ys p q = absurd p
Leads-append (Some now) b c (Up life ∷ xs) ys p q = absurd p
Leads-append (Some now) b c (Deliver life packet ∷ xs) ys p q = (p.0, Leads-append (Some now) b c xs ys p.1 q)
Leads-append (Some now) b c (Down life reason ∷ xs) ys p q = (p.0, Leads-append None b c xs ys p.1 q)

leads_map : (life : Life) (packets : List Packet) → Leads (Some life) (map (Deliver life) packets) (Some life)
leads_map life [] = refl
leads_map life (packet ∷ packets) = (refl, leads_map life packets)

pub Leads-between : (a b : Option Life) (events : List LinkEvent) → AreEventsBetween a b events → Leads a events b
Leads-between None None events h = subst (λ x. Leads None x None) (sym h) refl
Leads-between None (Some life) events h = subst (λ x. Leads None x (Some life)) (sym h.1) (leads_map life h.0)
Leads-between (Some life) None events h = subst (λ x. Leads (Some life) x None) (sym h.1) (refl, refl)
Leads-between (Some life) (Some next) events h =
    subst (λ y. Leads (Some life) events (Some y)) h.0 (subst (λ x. Leads (Some life) x (Some life)) (sym h.2) (leads_map life h.1))

rising_map : (n : ℕ) (life : Life) (packets : List Packet) → AreRising n (map (Deliver life) packets)
rising_map n life [] = tt
rising_map n life (packet ∷ packets) = rising_map n life packets

-- then packets of the session, or its end
pub rising_packets : (n : ℕ) (events : List LinkEvent) (life : Life) (packets : List Packet) → AreRising n events → AreRising n (events ++ map (Deliver life) packets)
rising_packets n [] life packets h = rising_map n life packets
rising_packets n (Up other ∷ events) life packets h = (h.0, rising_packets other.own events life packets h.1)
rising_packets n (Deliver other packet ∷ events) life packets h = rising_packets n events life packets h
rising_packets n (Down other reason ∷ events) life packets h = rising_packets n events life packets h

pub rising_down : (n : ℕ) (events : List LinkEvent) (life : Life) (reason : Reason) → AreRising n events → AreRising n (events ++ Down life reason ∷ [])
rising_down n [] life reason h = tt
rising_down n (Up other ∷ events) life reason h = (h.0, rising_down other.own events life reason h.1)
rising_down n (Deliver other packet ∷ events) life reason h = rising_down n events life reason h
rising_down n (Down other why ∷ events) life reason h = rising_down n events life reason h

-- then a session with an own number above all earlier ones
pub rising_up : (n : ℕ) (events : List LinkEvent) (life : Life) (packets : List Packet) → n < life.own → EachBelow life.own events → AreRising n events → AreRising n (events ++ Up life ∷ map (Deliver life) packets)
rising_up n [] life packets m b h = (m, rising_map life.own life packets)
rising_up n (Up other ∷ events) life packets m b h = (h.0, rising_up other.own events life packets b.0 b.1 h.1)
rising_up n (Deliver other packet ∷ events) life packets m b h = rising_up n events life packets m b.1 h
rising_up n (Down other reason ∷ events) life packets m b h = rising_up n events life packets m b.1 h

-- sessions with different own numbers differ
other_above : (a b : Life) → a.own < b.own → a ≢ b
other_above a b h = λ q. let z : a.own ≡ b.own = ap (λ (x : Life). x.own) q in absurd (omega arith)

-- the number of a session is below that of the session that is bound now
abbrev IsBelowNow : Life → Option Life → Type 0
IsBelowNow life None = Unit {0}
IsBelowNow life (Some now) = life.own < now.own

others_follow : (life : Life) (n : ℕ) (now after : Option Life) (events : List LinkEvent) → life.own ≤ n → IsBelowNow life now → Leads now events after → AreRising n events → AreOfOthers life events
others_follow life n now after [] le b l r = tt
others_follow life n None after (Up other ∷ events) le b l r =
    let m : life.own < other.own = omega (arith, r.0) in (other_above life other m, others_follow life other.own (Some other) after events (omega arith) m l r.1)
others_follow life n None after (Deliver other packet ∷ events) le b l r = absurd l
others_follow life n None after (Down other reason ∷ events) le b l r = absurd l
others_follow life n (Some now) after (Up other ∷ events) le b l r = absurd l
others_follow life n (Some now) after (Deliver other packet ∷ events) le b l r =
    (subst (λ x. life ≢ x) (sym l.0) (other_above life now b), others_follow life n (Some now) after events le b l.1 r)
others_follow life n (Some now) after (Down other reason ∷ events) le b l r =
    (subst (λ x. life ≢ x) (sym l.0) (other_above life now b), others_follow life n None after events le tt l.1 r)

-- the number of the session that is bound now is at most this
abbrev IsUpTo : ℕ → Option Life → Type 0
IsUpTo n None = Unit {0}
IsUpTo n (Some now) = now.own ≤ n

pub over_by_down : (n : ℕ) (now after : Option Life) (events : List LinkEvent) → IsUpTo n now → Leads now events after → AreRising n events → AreOverByDown events
over_by_down n now after [] u l r = tt
over_by_down n None after (Up other ∷ events) u l r = over_by_down other.own (Some other) after events (omega arith) l r.1
over_by_down n None after (Deliver other packet ∷ events) u l r = absurd l
over_by_down n None after (Down other reason ∷ events) u l r = absurd l
over_by_down n (Some now) after (Up other ∷ events) u l r = absurd l
over_by_down n (Some now) after (Deliver other packet ∷ events) u l r = over_by_down n (Some now) after events u l.1 r
over_by_down n (Some now) after (Down other reason ∷ events) u l r =
    let z : other.own ≡ now.own = ap (λ (x : Life). x.own) l.0 in (others_follow other n None after events (omega arith) tt l.1 r, over_by_down n None after events tt l.1 r)

-- ---- packets in order

pub AreFrom-more : (P Q : ℕ → Packet → Type 0) → ((place : ℕ) (packet : Packet) → P place packet → Q place packet) → (place : ℕ) (xs : List Packet) → AreFrom P place xs → AreFrom Q place xs
AreFrom-more P Q f place [] h = tt
AreFrom-more P Q f place (x ∷ xs) h = (f place x h.0, AreFrom-more P Q f (suc place) xs h.1)

pub AreHeld-more : (P Q : ℕ → Packet → Type 0) → ((place : ℕ) (packet : Packet) → P place packet → Q place packet) → (place : ℕ) (held : List (Option Packet)) → AreHeld P place held → AreHeld Q place held
AreHeld-more P Q f place [] h = tt
AreHeld-more P Q f place (None ∷ held) h = AreHeld-more P Q f (suc place) held h
AreHeld-more P Q f place (Some packet ∷ held) h = (f place packet h.0, AreHeld-more P Q f (suc place) held h.1)

pub IsPacketAt-append : (xs ys : List Packet) (place : ℕ) (packet : Packet) → IsPacketAt xs place packet → IsPacketAt (xs ++ ys) place packet
IsPacketAt-append [] ys place packet h = absurd (cc)
IsPacketAt-append (x ∷ xs) ys zero packet h = h
IsPacketAt-append (x ∷ xs) ys (suc place) packet h = IsPacketAt-append xs ys place packet h

-- ---- frames that were passed in

module _ (s : Settings) (frames more : List FrameHandedIn) where
  was_more : (life : Life) (handed : FrameHandedIn) → WasHandedIn s frames life handed → WasHandedIn s (frames ++ more) life handed
  was_more life handed h = record { among = Contains-append_left frames more handed h.among; own = h.own; of_life = h.of_life }

  pub was_last : (life : Life) (handed : FrameHandedIn) → WasHandedIn s more life handed → WasHandedIn s (frames ++ more) life handed
  was_last life handed h = record { among = Contains-append_right frames more handed h.among; own = h.own; of_life = h.of_life }

  pub came_more : (life : Life) (place : ℕ) (packet : Packet) → CameAt s frames life place packet → CameAt s (frames ++ more) life place packet
  came_more life place packet h = record { handed = h.handed; was = was_more life h.handed h.was; carries = h.carries }

  pub count_more : (life : Life) (count : ℕ) → CountCame s frames life count → CountCame s (frames ++ more) life count
  count_more life count h = record { handed = h.handed; was = was_more life h.handed h.was; count_is = h.count_is }

  pub told_more : (events : List LinkEvent) → AreAllTold s frames events → AreAllTold s (frames ++ more) events
  told_more [] h = tt
  told_more (Up life ∷ events) h = ((h.0.0, was_more life h.0.0 h.0.1), told_more events h.1)
  told_more (Deliver life packet ∷ events) h = told_more events h
  told_more (Down life reason ∷ events) h = told_more events h

pub told_append : (s : Settings) (frames : List FrameHandedIn) (xs ys : List LinkEvent) → AreAllTold s frames xs → AreAllTold s frames ys → AreAllTold s frames (xs ++ ys)
told_append s frames [] ys a b = b
told_append s frames (Up life ∷ xs) ys a b = (a.0, told_append s frames xs ys a.1 b)
told_append s frames (Deliver life packet ∷ xs) ys a b = told_append s frames xs ys a b
told_append s frames (Down life reason ∷ xs) ys a b = told_append s frames xs ys a b

pub told_map : (s : Settings) (frames : List FrameHandedIn) (life : Life) (packets : List Packet) → AreAllTold s frames (map (Deliver life) packets)
told_map s frames life [] = tt
told_map s frames life (packet ∷ packets) = told_map s frames life packets

-- ---- how often a number was bound

times_none : (own n : ℕ) (events : List LinkEvent) → own ≤ n → AreRising n events → times_bound own events ≡ 0
times_none own n [] le h = refl
times_none own n (Up life ∷ events) le h =
    let z : (life.own == own) ≡ false = false_from_ne_true (life.own == own) (λ t. let y : life.own ≡ own = eqb-true life.own own t in absurd (omega (arith, h.0))) in
    ap (λ b. (if b then 1 else 0) + times_bound own events) z ∙ omega (arith, times_none own life.own events (omega (arith, h.0)) h.1)
times_none own n (Deliver life packet ∷ events) le h = times_none own n events le h
times_none own n (Down life reason ∷ events) le h = times_none own n events le h

pub times_once : (own n : ℕ) (events : List LinkEvent) → AreRising n events → times_bound own events ≤ 1
times_once own n [] h = omega arith
times_once own n (Up life ∷ events) h =
    ⊎_elim
    (λ (t : (life.own == own) ≡ true). subst (λ b. (if b then 1 else 0) + times_bound own events ≤ 1) (sym t)
    (let y : life.own ≡ own = eqb-true life.own own t in omega (arith, times_none own life.own events (omega arith) h.1)))
    (λ (t : (life.own == own) ≡ false). subst (λ b. (if b then 1 else 0) + times_bound own events ≤ 1) (sym t) (omega (arith, times_once own life.own events h.1)))
    (cases_Bool (life.own == own))
times_once own n (Deliver life packet ∷ events) h = times_once own n events h
times_once own n (Down life reason ∷ events) h = times_once own n events h

pub all_at : {A : Type 0} (P : A → Type 0) (xs : List A) (x : A) → AllByRecursion P xs → Contains xs x → P x
all_at P [] x h c = absurd (omega (arith, c.1))
all_at P (y ∷ ys) x h (zero, l, q) = subst P q h.0
all_at P (y ∷ ys) x h (suc k, l, q) = all_at P ys x h.1 (k, omega arith, q)
