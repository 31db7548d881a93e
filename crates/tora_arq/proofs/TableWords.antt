-- The terms of the link end's table agree with the tests of the definitions.
use Rattle.std.proofs.Common.{◌≡◌, ◌≢◌, ◌⊎◌, inl, inr, ℕ, zero, suc, ◌-◌, ◌<◌, ◌≤◌, Bool, true, false, not, true≢false, ◌||◌, nat_le, List, [], ◌∷◌, length, Option, Some, None, Contains, refl, sym, ap, ◌∙◌, subst, arith}
use Rattle.std.specs.List.{list_any}
use Rattle.std.proofs.lemmas.Bool.{or_from, or_parts, or_left, or_right, and_from, and_parts, not-false, not-true, le-leb, leb-true, le-ltb, lt-ltb, ltb-true, ltb-false, eq-eqb, eqb-true, cases_lt}
use Rattle.tora_packet.specs.PacketParts.{UpdateParts}
use Rattle.tora_packet.specs.declared.Packet.{Packet}
use Rattle.tora_packet.specs.declared.Packet.TheVariants.{Qry, Upd, Clr}
use Rattle.tora_frame.specs.declared.parts.Version.{Version}
use Rattle.tora_frame.specs.declared.parts.Version.TheVariants.{One, Two}
use Rattle.tora_frame.specs.declared.parts.Header.{Header}
use Rattle.tora_frame.specs.declared.parts.Body.{Body}
use Rattle.tora_frame.specs.declared.parts.Body.TheVariants.{Hello, Data, Ack}
use Rattle.tora_frame.specs.FrameParts.{frame_of}
use Rattle.tora_arq.specs.declared.TheConstants.{EVENT_PLACES, PLACES_OF_A_FRAME}
use Rattle.tora_arq.specs.declared.life.Life.{Life}
use Rattle.tora_arq.specs.declared.phase.Phase.{Phase}
use Rattle.tora_arq.specs.declared.phase.Phase.TheVariants.{Closed, Unbound, Bound}
use Rattle.tora_arq.specs.declared.queued_packet.QueuedPacket.{QueuedPacket}
use Rattle.tora_arq.specs.declared.times.Times.{Times}
use Rattle.tora_arq.specs.Lives.{is_same_life}
use Rattle.tora_arq.specs.Settings.{Settings, ticks_passed}
use Rattle.tora_arq.specs.SendQueue.{is_ready, is_given_up, has_given_up}
use Rattle.tora_arq.specs.LinkEnd.{EndState, is_unknown, is_update_of_another, has_update_of_another, is_foreign, is_busy, is_silent, has_hello_passed, is_hello_due, is_old_hello_due}
use Rattle.tora_arq.specs.LinkTable.{HasPacket, IsFromPeer, HasPlaces, IsGivenUp, IsSilent, IsDue, IsHelloDue, IsOldHelloDue}
use Rattle.tora_arq.proofs.FactSteps.{is_same_life-refl, is_same_life-true}

-- ---- tests and types

abbrev pub Told : Bool → Type 0 → Type 0
Told b P = (b ≡ true → P) × (P → b ≡ true)

pub told-not : (b : Bool) (P : Type 0) → Told b P → b ≡ false → ¬ P
told-not b P t f = λ p. true≢false (sym (t.1 p) ∙ f)

pub not-told : (b : Bool) (P : Type 0) → Told b P → ¬ P → b ≡ false
not-told true P t n = absurd (n (t.0 refl))
not-told false P t n = refl

pub told_or : (a b : Bool) (P Q : Type 0) → Told a P → Told b Q → Told (a || b) (P ⊎ Q)
told_or a b P Q s t = (λ e. first a e s.0, λ x. second x)
  where
    first : (a : Bool) → (a || b) ≡ true → (a ≡ true → P) → P ⊎ Q
    first true e f = inl (f refl)
    first false e f = inr (t.0 e)

    second : P ⊎ Q → (a || b) ≡ true
    second (inl p) = or_left a b (s.1 p)
    second (inr q) = or_right a b (t.1 q)

-- ---- frames

spoken : (newest version : Version) → (version ≡ Two → newest ≡ Two) → is_unknown newest version ≡ false
spoken One One h = refl
spoken One Two h = let e = h refl in absurd cc
spoken Two version h = refl

known : (newest version : Version) → is_unknown newest version ≡ false → version ≡ Two → newest ≡ Two
known One One h e = absurd cc
known One Two h e = absurd cc
known Two version h e = refl

abbrev TellsOwn : ℕ → List Packet → Type 0
TellsOwn sender packets = (u : UpdateParts) → Contains packets (Upd u) → u.height.id ≡ sender

one_own : (sender : ℕ) (packet : Packet) → ((u : UpdateParts) → packet ≡ Upd u → u.height.id ≡ sender) → is_update_of_another sender packet ≡ false
one_own sender (Qry q) h = refl
one_own sender (Upd u) h = ap not (eq-eqb _ _ (h u refl))
one_own sender (Clr c) h = refl

all_own : (sender : ℕ) (packets : List Packet) → TellsOwn sender packets → list_any (is_update_of_another sender) packets ≡ false
all_own sender [] h = refl
all_own sender (packet ∷ packets) h =
    or_from _ _ (one_own sender packet (λ u e. h u (0, omega arith, e))) (all_own sender packets (λ u c. h u (suc c.0, omega (arith, c.1), c.2)))

own_all : (sender : ℕ) (packets : List Packet) → list_any (is_update_of_another sender) packets ≡ false → TellsOwn sender packets
own_all sender [] h u c = absurd (omega (arith, c.1))
own_all sender (packet ∷ packets) h u (zero, l, e) = eqb-true _ _ (not-false _ (subst (λ p. is_update_of_another sender p ≡ false) e (or_parts _ _ h).0))
own_all sender (packet ∷ packets) h u (suc k, l, e) = own_all sender packets (or_parts _ _ h).1 u (k, omega arith, e)

own_body : (sender : ℕ) (body : Body) → ((u : UpdateParts) → HasPacket body (Upd u) → u.height.id ≡ sender) → has_update_of_another sender body ≡ false
own_body sender Hello h = refl
own_body sender (Data number count packets) h = all_own sender packets.items h
own_body sender (Ack count) h = refl

body_own : (sender : ℕ) (body : Body) → has_update_of_another sender body ≡ false → (u : UpdateParts) → HasPacket body (Upd u) → u.height.id ≡ sender
body_own sender Hello h u c = absurd c
body_own sender (Data number count packets) h u c = own_all sender packets.items h u c
body_own sender (Ack count) h u c = absurd c

pub not_foreign : (s : Settings) (h : Header) (body : Body) → IsFromPeer s h body → is_foreign s (frame_of h body) ≡ false
not_foreign s h body p =
    or_from _ _ (or_from _ _ (ap not (eq-eqb _ _ p.sender)) (ap not (eq-eqb _ _ p.receiver)))
    (or_from _ _ (spoken s.version h.version p.version) (own_body h.sender body p.updates))

pub from_peer : (s : Settings) (h : Header) (body : Body) → is_foreign s (frame_of h body) ≡ false → IsFromPeer s h body
from_peer s h body f =
    let p = or_parts _ _ f in
    let a = or_parts _ _ p.0 in
    let b = or_parts _ _ p.1 in
    record {
      sender = eqb-true _ _ (not-false _ a.0);
      receiver = eqb-true _ _ (not-false _ a.1);
      version = known s.version h.version b.0;
      updates = body_own h.sender body b.1;
    }

pub foreign : (s : Settings) (h : Header) (body : Body) → ¬ IsFromPeer s h body → is_foreign s (frame_of h body) ≡ true
foreign s h body n = at (is_foreign s (frame_of h body)) refl
  where
    at : (b : Bool) → is_foreign s (frame_of h body) ≡ b → b ≡ true
    at true e = refl
    at false e = absurd (n (from_peer s h body e))

pub not_busy : (e : EndState) → HasPlaces e → is_busy e ≡ false
not_busy e p = le-ltb _ _ (omega (arith, p))

pub busy : (e : EndState) → ¬ HasPlaces e → is_busy e ≡ true
busy e n = at (cases_lt (EVENT_PLACES - length e.events) PLACES_OF_A_FRAME)
  where
    at : (EVENT_PLACES - length e.events < PLACES_OF_A_FRAME) ⊎ (PLACES_OF_A_FRAME ≤ EVENT_PLACES - length e.events) → is_busy e ≡ true
    at (inl l) = lt-ltb _ _ l
    at (inr m) = absurd (n (omega (arith, m)))

pub has_places : (e : EndState) → is_busy e ≡ false → HasPlaces e
has_places e f = let m = ltb-false _ _ f in omega (arith, m)

-- ---- time

pub told_le : (a b : ℕ) → Told (nat_le a b) (a ≤ b)
told_le a b = (leb-true a b, le-leb a b)

told_given : (times : Times) (now : ℕ) (q : QueuedPacket) → Told (is_given_up times now q) (IsGivenUp times now q)
told_given times now q = (
  λ t. let p = and_parts _ _ t in record { tried = leb-true _ _ p.0; long_ago = leb-true _ _ p.1 },
  λ g. and_from _ _ (le-leb _ _ g.tried) (le-leb _ _ g.long_ago),
)

abbrev AnyGivenUp : Times → ℕ → List QueuedPacket → Type 0
AnyGivenUp times now queue = (q : QueuedPacket) × Contains queue q × IsGivenUp times now q

any_given : (times : Times) (now : ℕ) (queue : List QueuedPacket) → has_given_up times now queue ≡ true → AnyGivenUp times now queue
any_given times now [] t = absurd cc
any_given times now (q ∷ queue) t = at (λ h. any_given times now queue h) (is_given_up times now q) refl t
  where
    at : (has_given_up times now queue ≡ true → AnyGivenUp times now queue) → (b : Bool) → is_given_up times now q ≡ b → (b || has_given_up times now queue) ≡ true → AnyGivenUp times now (q ∷ queue)
    at rest true e h = (q, (0, omega arith, refl), (told_given times now q).0 e)
    at rest false e h = let r = rest h in let c = r.1 in (r.0, (suc c.0, omega (arith, c.1), c.2), r.2)

given_any : (times : Times) (now : ℕ) (queue : List QueuedPacket) (q : QueuedPacket) → Contains queue q → IsGivenUp times now q → has_given_up times now queue ≡ true
given_any times now [] q c g = absurd (omega (arith, c.1))
given_any times now (x ∷ queue) q (zero, l, e) g = or_left _ _ (subst (λ y. is_given_up times now y ≡ true) (sym e) ((told_given times now q).1 g))
given_any times now (x ∷ queue) q (suc k, l, e) g = or_right _ _ (given_any times now queue q (k, omega (arith, l), e) g)

pub told_silent : (s : Settings) (e : EndState) (now : ℕ) → Told (is_silent s e now) (IsSilent s e now)
told_silent s e now =
    told_or (nat_le s.times.silent (ticks_passed e.last_hearing now)) (has_given_up s.times now e.queue) (s.times.silent ≤ ticks_passed e.last_hearing now) (AnyGivenUp s.times now e.queue)
    (told_le s.times.silent (ticks_passed e.last_hearing now))
    (any_given s.times now e.queue, λ g. given_any s.times now e.queue g.0 g.1 g.2)

-- ---- what is due

pub told_due : (times : Times) (now : ℕ) (q : QueuedPacket) → Told (is_ready times now q) (IsDue times now q)
told_due times now q =
    told_or _ _ (q.tries ≡ 0) ((q.tries < times.tries) × (times.retry ≤ ticks_passed q.last_try now))
    (eqb-true q.tries 0, eq-eqb q.tries 0)
    (λ t. let p = and_parts _ _ t in (ltb-true _ _ p.0, leb-true _ _ p.1), λ d. and_from _ _ (lt-ltb _ _ d.0) (le-leb _ _ d.1))

abbrev HelloPassed : Settings → Option ℕ → ℕ → Type 0
HelloPassed s hello now = (last : ℕ) × (hello ≡ Some last) × (s.times.hello ≤ ticks_passed last now)

told_passed : (s : Settings) (hello : Option ℕ) (now : ℕ) → Told (has_hello_passed s hello now) (HelloPassed s hello now)
told_passed s None now = (λ t. absurd cc, λ p. let e = p.1 in absurd cc)
told_passed s (Some last) now = (λ t. (last, refl, leb-true _ _ t), λ p. let e : last ≡ p.0 = let f = p.1 in cc in le-leb _ _ (subst (λ x. s.times.hello ≤ ticks_passed x now) (sym e) p.2))

pub told_hello : (s : Settings) (e : EndState) (now : ℕ) → Told (is_hello_due s e now) (IsHelloDue s e now)
told_hello s e now = told_or e.owes_hello (has_hello_passed s e.last_hello now) (e.owes_hello ≡ true) (HelloPassed s e.last_hello now) (λ t. t, λ t. t) (told_passed s e.last_hello now)

pub told_old : (e : EndState) → Told (is_old_hello_due e) (IsOldHelloDue e)
told_old e = (λ t. let p = and_parts _ _ t in (p.0, not-true _ p.1), λ d. and_from _ _ d.0 (ap not d.1))

-- ---- sessions

pub told_life : (a b : Life) → Told (is_same_life a b) (a ≡ b)
told_life a b = (is_same_life-true a b, λ e. subst (λ x. is_same_life a x ≡ true) e (is_same_life-refl a))

-- a phase is bound to this session, or not
pub bound_or_not : (phase : Phase) (life : Life) → (phase ≡ Bound life) ⊎ (phase ≢ Bound life)
bound_or_not Closed life = inr (λ e. cc)
bound_or_not (Unbound own) life = inr (λ e. cc)
bound_or_not (Bound current) life = at (is_same_life current life) refl
  where
    at : (b : Bool) → is_same_life current life ≡ b → (Bound current ≡ Bound life) ⊎ (Bound current ≢ Bound life)
    at true e = inl (ap Bound (is_same_life-true current life e))
    at false e = inr (λ p. let q : current ≡ life = cc in true≢false (sym ((told_life current life).1 q) ∙ e))
