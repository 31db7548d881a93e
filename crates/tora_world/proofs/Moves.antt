-- The steps of an end, its queues and its core's seat: each keeps the invariant.
use Rattle.std.proofs.Common.{◌≡◌, ◌≢◌, ℕ, suc, ◌+◌, ◌<◌, ◌≤◌, Bool, true, false, true≢false, ◌&&◌, ◌⊎◌, inl, inr, ⊎_elim, List, [], ◌∷◌, ◌++◌, map, length, Option, Some, None, if◌then◌else◌, refl, sym, ap, ◌∙◌, subst, ap₂, append_assoc, append-nil, arith, length-append}
use Rattle.std.proofs.lemmas.Bool.{cases_Bool, and_parts}
use Rattle.std.specs.Prelude.{slice_get}
use Rattle.tora_packet.specs.declared.Packet.{Packet}
use Rattle.tora_arq.specs.declared.life.Life.{Life}
use Rattle.tora_arq.specs.declared.link_event.LinkEvent.{LinkEvent}
use Rattle.tora_arq.specs.declared.link_event.LinkEvent.TheVariants.{Up, Deliver}
use Rattle.tora_arq.specs.declared.phase.Phase.{Phase}
use Rattle.tora_arq.specs.declared.phase.Phase.TheVariants.{Closed, Unbound, Bound}
use Rattle.tora_arq.specs.Lives.{is_same_life, reversed}
use Rattle.tora_arq.specs.LinkEnd.{EndState, first_end, after_open, life_in, after_poll_event}
use Rattle.tora_arq.specs.LinkFacts.{LinkCall, after_call, IsPossible, events_queued, packet_submitted, IsEndIn, IsUnboundEnd, OpensWith, IsPacketAt, AreHeld, AreFrom, CallTells, DeliversNext, packets_delivered, AreEventsBetween, IsCountOfCall}
use Rattle.tora_arq.specs.LinkFacts.LinkCall.{PollEvent}
use Rattle.tora_life.specs.LifeRun.{LifeDisk, IsFloor}
use Rattle.tora_seat.specs.Serving.{Parcel}
use Rattle.tora_world.specs.Lists.{packet_where, packets_of, Begins, IsIn, Each}
use Rattle.tora_world.specs.LinkMachine.{MachineEnd, IsLast, drawing, binding, sending, taking, closing}
use Rattle.tora_world.specs.Layers.{LinkLaws}
use Rattle.tora_world.proofs.PacketLists.{same_refl, same_true, of-push, only_other, begins_trans, begins_front, begins_many, at_begins, at_middle, Each_mono, Each_at}
use Rattle.tora_world.proofs.Invariant.{Arrival, EndView, arrival_of, is_the_current, given, awaited, lives, number_of, IsOf, AllOf, Counted, InLife, InWait, InPhase, Histories, IsLatest, IsOver, Arriving, FollowsMachine}
use Rattle.tora_world.proofs.Invariant.Arrival.{LifeComes, PacketComes, OtherComes}
use Rattle.tora_world.proofs.Arrivals.{awaited-append, lives-append, lives_off, awaited_off, awaited_new, Rises_push, Rises_quiet, Comes-append, Comes_quiet, Comes_more, BringsNoLife, gives_quiet, awaited_gives, lives_gives}

-- the other end may send more
abbrev pub Grows : List Parcel → List Parcel → Type 0
Grows xs ys = (l : Life) → Begins (packets_of l xs) (packets_of l ys)

held_grows : (xs ys : List Packet) → Begins xs ys → (i : ℕ) (hs : List (Option Packet)) → AreHeld (IsPacketAt xs) i hs → AreHeld (IsPacketAt ys) i hs
held_grows xs ys b i [] h = tt
held_grows xs ys b i (None ∷ hs) h = held_grows xs ys b (suc i) hs h
held_grows xs ys b i (Some p ∷ hs) h = (at_begins xs ys i p b h.0, held_grows xs ys b (suc i) hs h.1)

phase_grows : (v : EndView) (p : MachineEnd) (xs ys : List Parcel) (done done' : Life → ℕ → Type 0) → Grows xs ys → ((l : Life) (c : ℕ) → done l c → done' l c) → (ph : Phase) → InPhase ph v p xs done → InPhase ph v p ys done'
phase_grows v p xs ys done done' g d Closed h = h
phase_grows v p xs ys done done' g d (Unbound own) h = h
phase_grows v p xs ys done done' g d (Bound l) h = record {
  bound = h.bound;
  drawn = h.drawn;
  queued = h.queued;
  counted = h.counted;
  held = held_grows (packets_of (reversed l) xs) (packets_of (reversed l) ys) (g (reversed l)) v.endpoint.accepted v.endpoint.held h.held;
  told = d l v.endpoint.acknowledged h.told;
}

pub grows : (v : EndView) (p : MachineEnd) (xs ys : List Parcel) (done done' : Life → ℕ → Type 0) → Grows xs ys → ((l : Life) (c : ℕ) → done l c → done' l c) → FollowsMachine v p xs done → FollowsMachine v p ys done'
grows v p xs ys done done' g d h = record {
  kept = h.kept;
  histories = h.histories;
  arriving = record {
    latest = h.arriving.latest;
    was_bound = h.arriving.was_bound;
    now = h.arriving.now;
    comes = h.arriving.comes;
    rises = h.arriving.rises;
    older = h.arriving.older;
    taken_before = h.arriving.taken_before;
    over = h.arriving.over;
    chain = λ l. begins_trans _ _ _ (h.arriving.chain l) (g (reversed l));
  };
  phase = phase_grows v p xs ys done done' g d v.endpoint.phase h.phase;
}

IsOf_more : (l : Life) (ls : List Life) (o : Option Life) → IsOf ls o → IsOf (l ∷ ls) o
IsOf_more l ls None h = tt
IsOf_more l ls (Some j) h = inr h

All_more : (l : Life) (ls : List Life) (xs : List Parcel) → AllOf ls xs → AllOf (l ∷ ls) xs
All_more l ls xs h = Each_mono (λ (x : Parcel). IsIn x.life ls) (λ (x : Parcel). IsIn x.life (l ∷ ls)) (λ x i. inr i) xs h

-- there is nothing of a session above all bound sessions
none_of : (l : Life) (ls : List Life) (xs : List Parcel) → Each (λ j. j.own < l.own) ls → AllOf ls xs → packets_of l xs ≡ []
none_of l ls [] b h = refl
none_of l ls (x ∷ xs) b h =
    let n : l ≢ x.life = λ e. let o : l.own ≡ x.life.own = ap (λ (j : Life). j.own) e in let m : x.life.own < l.own = Each_at (λ (j : Life). j.own < l.own) ls x.life b h.0 in omega arith in
    ap (λ ys. ys ++ packets_of l xs) (only_other l x n) ∙ none_of l ls xs b h.1

-- a session that is current now is the last one that came up
now_is : (l : Life) (latest current : Option Life) → is_the_current l current ≡ true → IsLatest latest current → latest ≡ Some l
now_is l latest None e n = absurd (true≢false (sym e))
now_is l latest (Some j) e n = n ∙ ap Some (sym (same_true l j e))

number_below : (l : Life) (ls : List Life) (o : Option Life) → 0 < l.own → Each (λ j. j.own < l.own) ls → IsOf ls o → number_of o < l.own
number_below l ls None z b h = z
number_below l ls (Some j) z b h = Each_at (λ (j : Life). j.own < l.own) ls j b h

number_now : (l : Life) (latest current : Option Life) → is_the_current l current ≡ true → IsLatest latest current → number_of latest ≡ l.own
number_now l latest current e n = ap number_of (now_is l latest current e n)

not_now : (l : Life) (ls : List Life) (latest current : Option Life) → 0 < l.own → Each (λ j. j.own < l.own) ls → IsOf ls latest → IsLatest latest current → is_the_current l current ≡ false
not_now l ls latest current z b h n = ⊎_elim
    (λ (e : is_the_current l current ≡ true). absurd (let q = number_now l latest current e n in let m = number_below l ls latest z b h in omega (arith, q, m)))
    (λ (e : is_the_current l current ≡ false). e)
    (cases_Bool (is_the_current l current))

last_in : (x : ℕ) (xs : List ℕ) → IsLast x xs → IsIn x xs
last_in x [] e = absurd e
last_in x (y ∷ ys) e = inl e

last_at : (P : ℕ → Type 0) (x : ℕ) (xs : List ℕ) → IsLast x xs → Each P xs → P x
last_at P x [] e h = absurd e
last_at P x (y ∷ ys) e h = subst P (sym e) h.0

-- the life file changes, and draws no number that it could not draw before
pub refiles : (v : EndView) (p : MachineEnd) (other : List Parcel) (done : Life → ℕ → Type 0) (file : LifeDisk) → ((n : ℕ) → IsFloor n v.file → IsFloor n file) → FollowsMachine v p other done → FollowsMachine (record v { file = file }) p other done
refiles v p other done file f h = record {
  kept = h.kept;
  histories = record {
    floor = h.histories.floor;
    kept = f h.histories.floor h.histories.kept;
    opened = h.histories.opened;
    drawn = h.histories.drawn;
    bound = h.histories.bound;
    sent_is = h.histories.sent_is;
    taken_is = h.histories.taken_is;
    all_sent = h.histories.all_sent;
    all_taken = h.histories.all_taken;
    all_out = h.histories.all_out;
  };
  arriving = h.arriving;
  phase = go v.endpoint.phase h.phase;
}
  where
    go : (ph : Phase) → InPhase ph v p other done → InPhase ph (record v { file = file }) p other done
    go Closed k = tt
    go (Unbound own) k = k
    go (Bound l) k = k

-- the end is opened with a number that its life file draws
pub opens : (v : EndView) (p : MachineEnd) (other : List Parcel) (done : Life → ℕ → Type 0) (x now : ℕ) (file : LifeDisk) → ((n : ℕ) → IsFloor n v.file → (n < x) × IsFloor x file) → FollowsMachine v p other done →
    FollowsMachine (record v { endpoint = after_open v.endpoint x now; file = file }) (drawing p x) other done
opens v p other done x now file f h =
    let d = f h.histories.floor h.histories.kept in
    let above : h.histories.floor < x = d.0 in record {
      kept = record { number = refl; queue = refl; acknowledged = refl; transmitted = refl; accepted = refl; held = refl };
      histories = record {
        floor = x;
        kept = d.1;
        opened = omega arith;
        drawn = (omega arith, Each_mono (λ y. y ≤ h.histories.floor) (λ y. y ≤ x) (λ y e. omega (arith, e, above)) p.drawn h.histories.drawn);
        bound = Each_mono (λ (l : Life). l.own ≤ h.histories.floor) (λ (l : Life). l.own ≤ x) (λ l e. omega (arith, e, above)) p.bound h.histories.bound;
        sent_is = h.histories.sent_is;
        taken_is = h.histories.taken_is;
        all_sent = h.histories.all_sent;
        all_taken = h.histories.all_taken;
        all_out = h.histories.all_out;
      };
      arriving = h.arriving;
      phase = record {
        last = refl;
        above = Each_mono (λ (l : Life). l.own ≤ h.histories.floor) (λ (l : Life). l.own < x) (λ l e. omega (arith, e, above)) p.bound h.histories.bound;
        some = omega (arith, above);
      };
    }

-- ---- later arrivals

-- an arrival that brings no session up
quiet_arriving : (current : Option Life) (q r : List Arrival) (sent taken other : List Parcel) (bound closed : List Life) → BringsNoLife r
    → ((l : Life) → Begins (packets_of l taken ++ awaited l (is_the_current l current) q) (packets_of (reversed l) other) → Begins (packets_of l taken ++ awaited l (is_the_current l current) (q ++ r)) (packets_of (reversed l) other))
    → Arriving current q sent taken other bound closed → Arriving current (q ++ r) sent taken other bound closed
quiet_arriving current q r sent taken other bound closed k c f = record {
  latest = f.latest;
  was_bound = f.was_bound;
  now = f.now;
  comes = Comes_quiet bound q r k f.comes;
  rises = Rises_quiet (number_of f.latest) q r k f.rises;
  older = f.older;
  taken_before = f.taken_before;
  over = f.over;
  chain = λ l. c l (f.chain l);
}

same_rest : (l : Life) (b : Bool) (q : List Arrival) → awaited l b (q ++ OtherComes ∷ []) ≡ awaited l b q
same_rest l b q = awaited-append l b q (OtherComes ∷ []) ∙ append-nil (awaited l b q)

rest_arriving : (current : Option Life) (q : List Arrival) (sent taken other : List Parcel) (bound closed : List Life) → Arriving current q sent taken other bound closed → Arriving current (q ++ OtherComes ∷ []) sent taken other bound closed
rest_arriving current q sent taken other bound closed f =
    quiet_arriving current q (OtherComes ∷ []) sent taken other bound closed tt
    (λ l b. subst (λ xs. Begins (packets_of l taken ++ xs) (packets_of (reversed l) other)) (sym (same_rest l (is_the_current l current) q)) b) f

-- the packets that arrive, after those awaited
gives_awaited : (j l : Life) (b : Bool) (q : List Arrival) (xs : List Packet) (ps : List Packet) →
    xs ++ awaited j b (q ++ map (PacketComes l) ps) ≡ (xs ++ awaited j b q) ++ (if lives j b q && is_same_life j l then ps else [])
gives_awaited j l b q xs ps =
    ap (λ ys. xs ++ ys) (awaited-append j b q (map (PacketComes l) ps) ∙ ap (λ ys. awaited j b q ++ ys) (awaited_gives j l (lives j b q) ps))
    ∙ sym (append_assoc xs (awaited j b q) (if lives j b q && is_same_life j l then ps else []))

gives_chain : (l : Life) (accepted : ℕ) (current : Option Life) (q : List Arrival) (ps : List Packet) (taken other : List Parcel)
    → Counted l accepted current q taken → AreFrom (IsPacketAt (packets_of (reversed l) other)) accepted ps
    → (j : Life) → Begins (packets_of j taken ++ awaited j (is_the_current j current) q) (packets_of (reversed j) other) → Begins (packets_of j taken ++ awaited j (is_the_current j current) (q ++ map (PacketComes l) ps)) (packets_of (reversed j) other)
gives_chain l accepted current q ps taken other c f j b =
    subst (λ zs. Begins zs (packets_of (reversed j) other)) (sym (gives_awaited j l (is_the_current j current) q (packets_of j taken) ps)) (go (cases_Bool (lives j (is_the_current j current) q && is_same_life j l)))
  where
    go : ((lives j (is_the_current j current) q && is_same_life j l) ≡ true) ⊎ ((lives j (is_the_current j current) q && is_same_life j l) ≡ false) → Begins ((packets_of j taken ++ awaited j (is_the_current j current) q) ++ (if lives j (is_the_current j current) q && is_same_life j l then ps else [])) (packets_of (reversed j) other)
    go (inl t) =
        let h = and_parts _ _ t in
        let e : j ≡ l = same_true j l h.1 in
        let n : length (packets_of j taken ++ awaited j (is_the_current j current) q) ≡ accepted = subst (λ i. Counted i accepted current q taken) (sym e) c h.0 in
        subst (λ x. Begins ((packets_of j taken ++ awaited j (is_the_current j current) q) ++ (if x then ps else [])) (packets_of (reversed j) other)) (sym t)
        (begins_many (packets_of j taken ++ awaited j (is_the_current j current) q) (packets_of (reversed j) other) ps b
        (subst (λ m. AreFrom (IsPacketAt (packets_of (reversed j) other)) m ps) (sym n) (subst (λ i. AreFrom (IsPacketAt (packets_of (reversed i) other)) accepted ps) (sym e) f)))
    go (inr t) =
        subst (λ x. Begins ((packets_of j taken ++ awaited j (is_the_current j current) q) ++ (if x then ps else [])) (packets_of (reversed j) other)) (sym t)
        (subst (λ zs. Begins zs (packets_of (reversed j) other)) (sym (append-nil (packets_of j taken ++ awaited j (is_the_current j current) q))) b)

gives_arriving : (l : Life) (accepted : ℕ) (current : Option Life) (q : List Arrival) (ps : List Packet) (sent taken other : List Parcel) (bound closed : List Life)
    → Counted l accepted current q taken → AreFrom (IsPacketAt (packets_of (reversed l) other)) accepted ps
    → Arriving current q sent taken other bound closed → Arriving current (q ++ map (PacketComes l) ps) sent taken other bound closed
gives_arriving l accepted current q ps sent taken other bound closed c a f =
    quiet_arriving current q (map (PacketComes l) ps) sent taken other bound closed (gives_quiet l ps) (gives_chain l accepted current q ps taken other c a) f

gives_counted : (l : Life) (accepted : ℕ) (current : Option Life) (q : List Arrival) (ps : List Packet) (taken : List Parcel)
    → Counted l accepted current q taken → Counted l (accepted + length ps) current (q ++ map (PacketComes l) ps) taken
gives_counted l accepted current q ps taken c on =
    let live : lives l (is_the_current l current) q ≡ true = sym (lives-append l (is_the_current l current) q (map (PacketComes l) ps) ∙ lives_gives l l (lives l (is_the_current l current) q) ps) ∙ on in
    let front : List Packet = packets_of l taken ++ awaited l (is_the_current l current) q in
    let all : packets_of l taken ++ awaited l (is_the_current l current) (q ++ map (PacketComes l) ps) ≡ front ++ ps =
    gives_awaited l l (is_the_current l current) q (packets_of l taken) ps
    ∙ ap (λ b. front ++ (if b && is_same_life l l then ps else [])) live ∙ ap (λ b. front ++ (if b then ps else [])) (same_refl l) in
    let n = c live in
    ap length all ∙ length-append front ps ∙ ap (λ m. m + length ps) n

-- ---- calls of the end

arrivals_of_packets : (l : Life) (ps : List Packet) → map arrival_of (map (Deliver l) ps) ≡ map (PacketComes l) ps
arrivals_of_packets l [] = refl
arrivals_of_packets l (p ∷ ps) = ap (λ xs. PacketComes l p ∷ xs) (arrivals_of_packets l ps)

-- the effect of a call that does not open the end, and its input
pub record IsCall (v : EndView) (p : MachineEnd) (other : List Parcel) (done : Life → ℕ → Type 0) (call : LinkCall) (out : List Parcel) : Type 0 where
  pub possible : IsPossible v.endpoint call
  pub not_open : (x : ℕ) → OpensWith x call → ⊥
  pub tells : (l : Life) → CallTells (IsPacketAt (packets_of (reversed l) other)) v.settings l call
  pub counts : (l : Life) (c : ℕ) → IsCountOfCall v.settings l c call → done l c
  pub outs : (l : Life) → v.endpoint.phase ≡ Bound l → (after_call v.settings v.endpoint call).phase ≡ Bound l → packet_submitted v.endpoint call ++ packets_of l out ≡ packets_of l v.out
  pub all_out : AllOf p.bound out

abbrev pub queued : EndView → LinkCall → List LinkEvent
queued v call = events_queued v.settings v.endpoint call

abbrev pub called : EndView → LinkCall → List Parcel → EndView
called v call out = record v { endpoint = after_call v.settings v.endpoint call; coming = v.coming ++ map arrival_of (queued v call); out = out }

module _ (laws : LinkLaws) (v : EndView) (p : MachineEnd) (other : List Parcel) (done : Life → ℕ → Type 0) (call : LinkCall) (out : List Parcel) (ok : IsCall v p other done call out) where
  abbrev after : EndState
  after = after_call v.settings v.endpoint call

  abbrev events : List LinkEvent
  events = queued v call

  last_kept : after.last_life ≡ v.endpoint.last_life
  last_kept = ⊎_elim (λ e. e) (λ o. absurd (ok.not_open after.last_life o.0)) (laws.number v.settings v.endpoint call ok.possible)

  histories_kept : FollowsMachine v p other done → Histories v.file after.last_life out v.sent v.taken p
  histories_kept h = record {
    floor = h.histories.floor;
    kept = h.histories.kept;
    opened = subst (λ n. n ≤ h.histories.floor) (sym last_kept) h.histories.opened;
    drawn = h.histories.drawn;
    bound = h.histories.bound;
    sent_is = h.histories.sent_is;
    taken_is = h.histories.taken_is;
    all_sent = h.histories.all_sent;
    all_taken = h.histories.all_taken;
    all_out = ok.all_out;
  }

  between : (ph ph' : Phase) → v.endpoint.phase ≡ ph → after.phase ≡ ph' → AreEventsBetween (life_in ph) (life_in ph') events
  between ph ph' e e' =
      subst (λ x. AreEventsBetween (life_in x) (life_in ph') events) e
      (subst (λ x. AreEventsBetween (life_in v.endpoint.phase) (life_in x) events) e' (laws.between v.settings v.endpoint call ok.possible))

  same_arriving : FollowsMachine v p other done → events ≡ [] → Arriving v.current (v.coming ++ map arrival_of events) v.sent v.taken other p.bound p.closed
  same_arriving h e = subst (λ (xs : List LinkEvent). Arriving v.current (v.coming ++ map arrival_of xs) v.sent v.taken other p.bound p.closed) (sym e)
      (subst (λ q. Arriving v.current q v.sent v.taken other p.bound p.closed) (sym (append-nil v.coming)) h.arriving)

  closed_arriving : FollowsMachine v p other done → (ph : Phase) → v.endpoint.phase ≡ ph → after.phase ≡ Closed → Arriving v.current (v.coming ++ map arrival_of events) v.sent v.taken other p.bound p.closed
  closed_arriving h Closed e e' = same_arriving h (between Closed Closed e e')
  closed_arriving h (Unbound own) e e' = same_arriving h (between (Unbound own) Closed e e')
  closed_arriving h (Bound l) e e' =
      let b = between (Bound l) Closed e e' in
      subst (λ (xs : List LinkEvent). Arriving v.current (v.coming ++ map arrival_of xs) v.sent v.taken other p.bound p.closed) (sym b.1) (rest_arriving v.current v.coming v.sent v.taken other p.bound p.closed h.arriving)

  finish : (ph : Phase) → after.phase ≡ ph → FollowsMachine v p other done → Arriving v.current (v.coming ++ map arrival_of events) v.sent v.taken other p.bound p.closed → InPhase ph (called v call out) p other done → FollowsMachine (called v call out) p other done
  finish ph e h f k = record {
    kept = laws.next v.settings v.endpoint call ok.possible h.kept;
    histories = histories_kept h;
    arriving = f;
    phase = subst (λ x. InPhase x (called v call out) p other done) (sym e) k;
  }

  -- the bound session continues
  goes_on : (l : Life) → v.endpoint.phase ≡ Bound l → after.phase ≡ Bound l → FollowsMachine v p other done → FollowsMachine (called v call out) p other done
  goes_on l e e' h =
      let k : InLife l v.endpoint v.current v.coming v.out v.sent v.taken other p done = subst (λ x. InPhase x v p other done) e h.phase in
      let b = between (Bound l) (Bound l) e e' in
      let ps : List Packet = b.1 in
      let evs : events ≡ map (Deliver l) ps = b.2 in
      let d : DeliversNext (IsPacketAt (packets_of (reversed l) other)) v.endpoint after ps =
      subst (λ xs. DeliversNext (IsPacketAt (packets_of (reversed l) other)) v.endpoint after xs) (ap (packets_delivered l) evs ∙ laws.packets l ps)
      (laws.delivers v.settings v.endpoint call ok.possible l (packets_of (reversed l) other) h.kept e' (λ _. k.held) (ok.tells l)) in
      let arrivals : v.coming ++ map (PacketComes l) ps ≡ v.coming ++ map arrival_of events = ap (λ xs. v.coming ++ xs) (sym (arrivals_of_packets l ps) ∙ ap (map arrival_of) (sym evs)) in
      let a = laws.counted v.settings v.endpoint call ok.possible l h.kept e e' in
      finish (Bound l) e' h
      (subst (λ q. Arriving v.current q v.sent v.taken other p.bound p.closed) arrivals (gives_arriving l v.endpoint.accepted v.current v.coming ps v.sent v.taken other p.bound p.closed k.counted d.next h.arriving))
      (record {
        bound = k.bound;
        drawn = k.drawn;
        queued = record {
          submitted = k.queued.submitted ++ packet_submitted v.endpoint call;
          queue = laws.queue v.settings v.endpoint call ok.possible l k.queued.submitted h.kept e e' k.queued.queue;
          waits = append_assoc k.queued.submitted (packet_submitted v.endpoint call) (packets_of l out) ∙ ap (λ xs. k.queued.submitted ++ xs) (ok.outs l e e') ∙ k.queued.waits;
        };
        counted = subst (λ q. Counted l after.accepted v.current q v.taken) arrivals (subst (λ n. Counted l n v.current (v.coming ++ map (PacketComes l) ps) v.taken) (sym d.accepted) (gives_counted l v.endpoint.accepted v.current v.coming ps v.taken k.counted));
        held = d.held;
        told = ⊎_elim (λ q. subst (done l) (sym q) k.told) (λ t. ok.counts l after.acknowledged t) a.told;
      })

  -- the call binds no session
  pub call_stays : ((l : Life) → after.phase ≡ Bound l → v.endpoint.phase ≡ Bound l) → FollowsMachine v p other done → FollowsMachine (called v call out) p other done
  call_stays stays h = go after.phase refl
    where
      go : (ph : Phase) → after.phase ≡ ph → FollowsMachine (called v call out) p other done
      go Closed e = finish Closed e h (closed_arriving h v.endpoint.phase refl e) tt
      go (Unbound own) e =
          ⊎_elim
          (λ b. finish (Unbound own) e h (same_arriving h (between (Unbound own) (Unbound own) b e)) (subst (λ x. InPhase x v p other done) b h.phase))
          (λ o. absurd (ok.not_open own o.1))
          (laws.opens v.settings v.endpoint call ok.possible own e)
      go (Bound l) e = goes_on l (stays l e) e h

  -- the call binds a session
  pub call_binds : (l : Life) → v.endpoint.phase ≡ Unbound l.own → after.phase ≡ Bound l → done l 0 → FollowsMachine v p other done → FollowsMachine (called v call out) (binding p l) other done
  call_binds l e e' zero h =
      let w : InWait l.own p = subst (λ x. InPhase x v p other done) e h.phase in
      let u : IsUnboundEnd v.endpoint l.own = subst (λ x. IsEndIn v.settings v.endpoint x) e h.kept in
      let none : v.endpoint.accepted ≡ 0 = u.accepted in
      let b = between (Unbound l.own) (Bound l) e e' in
      let ps : List Packet = b.0 in
      let evs : events ≡ Up l ∷ map (Deliver l) ps = b.1 in
      let d : DeliversNext (IsPacketAt (packets_of (reversed l) other)) v.endpoint after ps =
      subst (λ xs. DeliversNext (IsPacketAt (packets_of (reversed l) other)) v.endpoint after xs) (ap (packets_delivered l) evs ∙ laws.packets l ps)
      (laws.delivers v.settings v.endpoint call ok.possible l (packets_of (reversed l) other) h.kept e' (λ x. absurd (let y : Unbound l.own ≡ Bound l = sym e ∙ x in cc)) (ok.tells l)) in
      let no_sent : packets_of l v.sent ≡ [] = none_of l p.bound v.sent w.above h.histories.all_sent in
      let no_taken : packets_of l v.taken ≡ [] = none_of l p.bound v.taken w.above h.histories.all_taken in
      let no_out : packets_of l out ≡ [] = none_of l p.bound out w.above ok.all_out in
      let off : is_the_current l v.current ≡ false = not_now l p.bound h.arriving.latest v.current w.some w.above h.arriving.was_bound h.arriving.now in
      let q : List Arrival = v.coming ++ LifeComes l ∷ [] in
      let come : (j : Life) → awaited j (is_the_current j v.current) (v.coming ++ LifeComes l ∷ []) ≡ awaited j (is_the_current j v.current) v.coming =
      λ j. awaited-append j (is_the_current j v.current) v.coming (LifeComes l ∷ []) ∙ append-nil (awaited j (is_the_current j v.current) v.coming) in
      let up : Arriving v.current (v.coming ++ LifeComes l ∷ []) v.sent v.taken other (l ∷ p.bound) p.closed = record {
        latest = h.arriving.latest;
        was_bound = IsOf_more l p.bound h.arriving.latest h.arriving.was_bound;
        now = h.arriving.now;
        comes = Comes-append (l ∷ p.bound) v.coming (LifeComes l ∷ []) (Comes_more l p.bound v.coming h.arriving.comes) (inl refl, tt);
        rises = Rises_push (number_of h.arriving.latest) p.bound v.coming l (number_below l p.bound h.arriving.latest w.some w.above h.arriving.was_bound) w.above h.arriving.comes h.arriving.rises;
        older = h.arriving.older;
        taken_before = h.arriving.taken_before;
        over = h.arriving.over;
        chain = λ j. subst (λ xs. Begins (packets_of j v.taken ++ xs) (packets_of (reversed j) other)) (sym (come j)) (h.arriving.chain j);
      } in
      let count : Counted l 0 v.current (v.coming ++ LifeComes l ∷ []) v.taken =
      λ _. ap length (ap₂ (λ xs ys. xs ++ ys) no_taken (come l ∙ ap (λ x. awaited l x v.coming) off ∙ awaited_new l p.bound v.coming w.above h.arriving.comes)) in
      let next : AreFrom (IsPacketAt (packets_of (reversed l) other)) 0 ps = subst (λ n. AreFrom (IsPacketAt (packets_of (reversed l) other)) n ps) none d.next in
      let arrivals : (v.coming ++ LifeComes l ∷ []) ++ map (PacketComes l) ps ≡ v.coming ++ map arrival_of events =
      append_assoc v.coming (LifeComes l ∷ []) (map (PacketComes l) ps) ∙ ap (λ xs. v.coming ++ LifeComes l ∷ xs) (sym (arrivals_of_packets l ps)) ∙ ap (λ xs. v.coming ++ map arrival_of xs) (sym evs) in
      let number : 0 + length ps ≡ after.accepted = let n = d.accepted in omega (arith, n, none) in
      let k : InLife l after v.current (v.coming ++ map arrival_of events) out v.sent v.taken other (binding p l) done = record {
        bound = inl refl;
        drawn = last_in l.own p.drawn w.last;
        queued = record {
          submitted = [];
          queue = (laws.begins v.settings v.endpoint call ok.possible l.own l e e').0;
          waits = no_out ∙ sym no_sent;
        };
        counted = subst (λ x. Counted l after.accepted v.current x v.taken) arrivals (subst (λ n. Counted l n v.current ((v.coming ++ LifeComes l ∷ []) ++ map (PacketComes l) ps) v.taken) number (gives_counted l 0 v.current (v.coming ++ LifeComes l ∷ []) ps v.taken count));
        held = d.held;
        told = subst (done l) (sym (laws.none_counted v.settings v.endpoint call ok.possible l.own l e e')) zero;
      } in
      record {
        kept = laws.next v.settings v.endpoint call ok.possible h.kept;
        histories = record {
          floor = h.histories.floor;
          kept = h.histories.kept;
          opened = subst (λ n. n ≤ h.histories.floor) (sym last_kept) h.histories.opened;
          drawn = h.histories.drawn;
          bound = (last_at (λ x. x ≤ h.histories.floor) l.own p.drawn w.last h.histories.drawn, h.histories.bound);
          sent_is = h.histories.sent_is;
          taken_is = h.histories.taken_is;
          all_sent = All_more l p.bound v.sent h.histories.all_sent;
          all_taken = All_more l p.bound v.taken h.histories.all_taken;
          all_out = All_more l p.bound out ok.all_out;
        };
        arriving = subst (λ x. Arriving v.current x v.sent v.taken other (l ∷ p.bound) p.closed) arrivals (gives_arriving l 0 v.current (v.coming ++ LifeComes l ∷ []) ps v.sent v.taken other (l ∷ p.bound) p.closed count next up);
        phase = subst (λ x. InPhase x (called v call out) (binding p l) other done) (sym e') k;
      }

-- an event is polled, and stays an arrival
pub polls : (laws : LinkLaws) (v : EndView) (p : MachineEnd) (other : List Parcel) (done : Life → ℕ → Type 0) → FollowsMachine v p other done → FollowsMachine (record v { endpoint = after_poll_event v.endpoint }) p other done
polls laws v p other done h = record {
  kept = laws.next v.settings v.endpoint PollEvent tt h.kept;
  histories = h.histories;
  arriving = h.arriving;
  phase = go v.endpoint.phase h.phase;
}
  where
    go : (ph : Phase) → InPhase ph v p other done → InPhase ph (record v { endpoint = after_poll_event v.endpoint }) p other done
    go Closed k = tt
    go (Unbound own) k = k
    go (Bound l) k = record {
      bound = k.bound;
      drawn = k.drawn;
      queued = record {
        submitted = k.queued.submitted;
        queue = record { acknowledged = k.queued.queue.acknowledged; transmitted = k.queued.queue.transmitted; waiting = k.queued.queue.waiting };
        waits = k.queued.waits;
      };
      counted = k.counted;
      held = k.held;
      told = k.told;
    }

-- ---- the core's seat

-- the arrivals may change if the packets awaited are the same
pub phase_counted : (v : EndView) (p p' : MachineEnd) (other : List Parcel) (done : Life → ℕ → Type 0) (now : Option Life) (q : List Arrival) (t : List Parcel) → p.bound ≡ p'.bound → p.drawn ≡ p'.drawn → ((l : Life) → Counted l v.endpoint.accepted v.current v.coming v.taken → Counted l v.endpoint.accepted now q t) →
    (ph : Phase) → InPhase ph v p other done → InPhase ph (record v { current = now; coming = q; taken = t }) p' other done
phase_counted v p p' other done now q t b d c Closed h = tt
phase_counted v p p' other done now q t b d c (Unbound own) h = record { last = subst (IsLast own) d h.last; above = subst (Each (λ l. l.own < own)) b h.above; some = h.some }
phase_counted v p p' other done now q t b d c (Bound l) h = record {
  bound = subst (IsIn l) b h.bound;
  drawn = subst (IsIn l.own) d h.drawn;
  queued = h.queued;
  counted = c l h.counted;
  held = h.held;
  told = h.told;
}

-- the core's seat takes the next arrival
pub coming_is : {v : EndView} {p : MachineEnd} {other : List Parcel} {done : Life → ℕ → Type 0} {q : List Arrival} → v.coming ≡ q → FollowsMachine v p other done → Arriving v.current q v.sent v.taken other p.bound p.closed
coming_is {v} {p} {other} {done} e h = subst (λ q. Arriving v.current q v.sent v.taken other p.bound p.closed) e h.arriving

pub counted_is : (v : EndView) (q : List Arrival) → v.coming ≡ q → (l : Life) → Counted l v.endpoint.accepted v.current v.coming v.taken → Counted l v.endpoint.accepted v.current q v.taken
counted_is v q e l c = subst (λ r. Counted l v.endpoint.accepted v.current r v.taken) e c

-- it ignores an arrival that is neither a packet nor a session
pub passes : (v : EndView) (p : MachineEnd) (other : List Parcel) (done : Life → ℕ → Type 0) (q : List Arrival) → v.coming ≡ OtherComes ∷ q → FollowsMachine v p other done → FollowsMachine (record v { coming = q }) p other done
passes v p other done q e h =
    let f = coming_is e h in record {
      kept = h.kept;
      histories = h.histories;
      arriving = record { latest = f.latest; was_bound = f.was_bound; now = f.now; comes = f.comes; rises = f.rises; older = f.older; taken_before = f.taken_before; over = f.over; chain = f.chain };
      phase = phase_counted v p p other done v.current q v.taken refl refl (λ l c. counted_is v (OtherComes ∷ q) e l c) v.endpoint.phase h.phase;
    }

given_both : (Q : List Packet → Type 0) (xs : List Packet) (l : Life) (live : Bool) (j : Life) (p : Packet) → (live ≡ true → l ≡ j → Q (xs ++ p ∷ [])) → Q xs → Q (xs ++ given l live j p)
given_both Q xs l false j p mine other = subst Q (sym (append-nil xs)) other
given_both Q xs l true j p mine other =
    ⊎_elim
    (λ (e : is_same_life l j ≡ true). subst (λ b. Q (xs ++ (if b then p ∷ [] else []))) (sym e) (mine refl (same_true l j e)))
    (λ (e : is_same_life l j ≡ false). subst (λ b. Q (xs ++ (if b then p ∷ [] else []))) (sym e) (subst Q (sym (append-nil xs)) other))
    (cases_Bool (is_same_life l j))

given_same : (l : Life) (p : Packet) → given l true l p ≡ p ∷ []
given_same l p = ap (λ b. if b then p ∷ [] else []) (same_refl l)

is_now_true : (l : Life) (o : Option Life) → is_the_current l o ≡ true → o ≡ Some l
is_now_true l None e = absurd (true≢false (sym e))
is_now_true l (Some j) e = ap Some (sym (same_true l j e))

given_off : (l j : Life) (o : Option Life) (x : Packet) → o ≢ Some j → given l (is_the_current l o) j x ≡ []
given_off l j o x n =
    given_both (λ ys. ys ≡ []) [] l (is_the_current l o) j x
    (λ on e. absurd (n (subst (λ i. o ≡ Some i) e (is_now_true l o on))))
    refl

-- it ignores a packet of a session that is not current
pub skips : (v : EndView) (p : MachineEnd) (other : List Parcel) (done : Life → ℕ → Type 0) (j : Life) (x : Packet) (q : List Arrival) → v.coming ≡ PacketComes j x ∷ q → v.current ≢ Some j → FollowsMachine v p other done → FollowsMachine (record v { coming = q }) p other done
skips v p other done j x q e n h =
    let f = coming_is e h in
    let none : (l : Life) → awaited l (is_the_current l v.current) (PacketComes j x ∷ q) ≡ awaited l (is_the_current l v.current) q =
    λ l. ap (λ ys. ys ++ awaited l (is_the_current l v.current) q) (given_off l j v.current x n) in
    record {
      kept = h.kept;
      histories = h.histories;
      arriving = record {
        latest = f.latest;
        was_bound = f.was_bound;
        now = f.now;
        comes = f.comes;
        rises = f.rises;
        older = f.older;
        taken_before = f.taken_before;
        over = f.over;
        chain = λ l. subst (λ ys. Begins (packets_of l v.taken ++ ys) (packets_of (reversed l) other)) (none l) (f.chain l);
      };
      phase = phase_counted v p p other done v.current q v.taken refl refl
          (λ l c on. sym (ap (λ ys. length (packets_of l v.taken ++ ys)) (none l)) ∙ counted_is v (PacketComes j x ∷ q) e l c on) v.endpoint.phase h.phase;
    }

-- a session that comes up is the current one
pub ups : (v : EndView) (p : MachineEnd) (other : List Parcel) (done : Life → ℕ → Type 0) (l : Life) (q : List Arrival) → v.coming ≡ LifeComes l ∷ q → FollowsMachine v p other done → FollowsMachine (record v { coming = q; current = Some l }) p other done
ups v p other done l q e h =
    let f = coming_is e h in record {
      kept = h.kept;
      histories = h.histories;
      arriving = record {
        latest = Some l;
        was_bound = f.comes.0;
        now = refl;
        comes = f.comes.1;
        rises = f.rises.1;
        older = Each_mono (λ (x : Parcel). x.life.own ≤ number_of f.latest) (λ (x : Parcel). x.life.own ≤ l.own) (λ x le. omega (arith, le, f.rises.0)) v.sent f.older;
        taken_before = Each_mono (λ (x : Parcel). x.life.own ≤ number_of f.latest) (λ (x : Parcel). x.life.own ≤ l.own) (λ x le. omega (arith, le, f.rises.0)) v.taken f.taken_before;
        over = Each_mono (IsOver f.latest v.current) (IsOver (Some l) (Some l)) (λ j o. (omega (arith, o.0, f.rises.0), λ e. let q : l ≡ j = cc in let n : l.own ≡ j.own = ap (λ (x : Life). x.own) q in absurd (omega (arith, n, o.0, f.rises.0)))) p.closed f.over;
        chain = f.chain;
      };
      phase = phase_counted v p p other done (Some l) q v.taken refl refl (λ j c. counted_is v (LifeComes l ∷ q) e j c) v.endpoint.phase h.phase;
    }

-- there is nothing of a session above this one
none_above : (l : Life) (latest : ℕ) (xs : List Parcel) → latest < l.own → Each (λ x. x.life.own ≤ latest) xs → packets_of l xs ≡ []
none_above l latest [] lt k = refl
none_above l latest (x ∷ xs) lt k =
    let n : l ≢ x.life = λ y. let o : l.own ≡ x.life.own = ap (λ (j : Life). j.own) y in absurd (omega (arith, o, k.0, lt)) in
    ap (λ ys. ys ++ packets_of l xs) (only_other l x n) ∙ none_above l latest xs lt k.1

-- nothing was sent in a session that comes up
pub comes_new : (v : EndView) (p : MachineEnd) (other : List Parcel) (done : Life → ℕ → Type 0) (l : Life) (q : List Arrival) → v.coming ≡ LifeComes l ∷ q → FollowsMachine v p other done → packets_of l v.sent ≡ []
comes_new v p other done l q e h = let f = coming_is e h in none_above l (number_of f.latest) v.sent f.rises.0 f.older

-- nothing was taken in a session that comes up
pub comes_untaken : (v : EndView) (p : MachineEnd) (other : List Parcel) (done : Life → ℕ → Type 0) (l : Life) (q : List Arrival) → v.coming ≡ LifeComes l ∷ q → FollowsMachine v p other done → packets_of l v.taken ≡ []
comes_untaken v p other done l q e h = let f = coming_is e h in none_above l (number_of f.latest) v.taken f.rises.0 f.taken_before

is_of_now : (bound : List Life) (latest : Option Life) (l : Life) → IsOf bound latest → latest ≡ Some l → IsIn l bound
is_of_now bound latest l o e = subst (IsOf bound) e o

-- a packet of the current session is taken
taken_front : (j l : Life) (x : Packet) (t : List Parcel) (ys : List Packet) →
    packets_of j (t ++ record { life = l; packet = x } ∷ []) ++ ys ≡ packets_of j t ++ (given j (is_the_current j (Some l)) l x ++ ys)
taken_front j l x t ys =
    ap (λ zs. zs ++ ys) (of-push j t (record { life = l; packet = x })) ∙ append_assoc (packets_of j t) (packet_where j (record { life = l; packet = x })) ys
    ∙ ap (λ zs. packets_of j t ++ (zs ++ ys)) (go (is_same_life j l))
  where
    go : (b : Bool) → (if b then x ∷ [] else []) ≡ (if b && b then x ∷ [] else [])
    go true = refl
    go false = refl

all_push : (ls : List Life) (xs : List Parcel) (y : Parcel) → AllOf ls xs → IsIn y.life ls → AllOf ls (xs ++ y ∷ [])
all_push ls [] y a i = (i, tt)
all_push ls (x ∷ xs) y a i = (a.0, all_push ls xs y a.1 i)

each_push : (P : Parcel → Type 0) (xs : List Parcel) (y : Parcel) → Each P xs → P y → Each P (xs ++ y ∷ [])
each_push P [] y a i = (i, tt)
each_push P (x ∷ xs) y a i = (a.0, each_push P xs y a.1 i)

pub current_bound : (v : EndView) (p : MachineEnd) (other : List Parcel) (done : Life → ℕ → Type 0) (l : Life) → v.current ≡ Some l → FollowsMachine v p other done → IsIn l p.bound
current_bound v p other done l on h = is_of_now p.bound h.arriving.latest l h.arriving.was_bound (subst (IsLatest h.arriving.latest) on h.arriving.now)

pub takes : (v : EndView) (p : MachineEnd) (other : List Parcel) (done : Life → ℕ → Type 0) (l : Life) (x : Packet) (q : List Arrival) → v.coming ≡ PacketComes l x ∷ q → v.current ≡ Some l → FollowsMachine v p other done →
    FollowsMachine (record v { coming = q; taken = v.taken ++ record { life = l; packet = x } ∷ [] }) (taking p (record { life = l; packet = x })) other done
takes v p other done l x q e on h =
    let f = coming_is e h in
    let y : Parcel = record { life = l; packet = x } in
    let same_all : (j : Life) → packets_of j (v.taken ++ y ∷ []) ++ awaited j (is_the_current j v.current) q ≡ packets_of j v.taken ++ awaited j (is_the_current j v.current) (PacketComes l x ∷ q) =
    λ j. subst (λ o. packets_of j (v.taken ++ y ∷ []) ++ awaited j (is_the_current j o) q ≡ packets_of j v.taken ++ awaited j (is_the_current j o) (PacketComes l x ∷ q)) (sym on) (taken_front j l x v.taken (awaited j (is_the_current j (Some l)) q)) in
    record {
      kept = h.kept;
      histories = record {
        floor = h.histories.floor;
        kept = h.histories.kept;
        opened = h.histories.opened;
        drawn = h.histories.drawn;
        bound = h.histories.bound;
        sent_is = h.histories.sent_is;
        taken_is = ap (λ xs. xs ++ y ∷ []) h.histories.taken_is;
        all_sent = h.histories.all_sent;
        all_taken = all_push p.bound v.taken y h.histories.all_taken (current_bound v p other done l on h);
        all_out = h.histories.all_out;
      };
      arriving = record {
        latest = f.latest;
        was_bound = f.was_bound;
        now = f.now;
        comes = f.comes;
        rises = f.rises;
        older = f.older;
        taken_before = each_push (λ z. z.life.own ≤ number_of f.latest) v.taken y f.taken_before (let late : f.latest ≡ Some l = subst (IsLatest f.latest) on f.now in let n : number_of f.latest ≡ l.own = ap number_of late in omega (arith, n));
        over = f.over;
        chain = λ j. subst (λ ys. Begins ys (packets_of (reversed j) other)) (sym (same_all j)) (f.chain j);
      };
      phase = phase_counted v p (taking p y) other done v.current q (v.taken ++ y ∷ []) refl refl
          (λ j c live. ap length (same_all j) ∙ counted_is v (PacketComes l x ∷ q) e j c live) v.endpoint.phase h.phase;
    }

-- the packet that is taken is the next one sent
pub takes_next : (v : EndView) (p : MachineEnd) (other : List Parcel) (done : Life → ℕ → Type 0) (l : Life) (x : Packet) (q : List Arrival) → v.coming ≡ PacketComes l x ∷ q → v.current ≡ Some l → FollowsMachine v p other done →
    slice_get (packets_of (reversed l) other) (length (packets_of l p.taken)) ≡ Some x
takes_next v p other done l x q e on h =
    let f = coming_is e h in
    let c : Begins (packets_of l v.taken ++ (x ∷ awaited l (is_the_current l (Some l)) q)) (packets_of (reversed l) other) =
    subst (λ ys. Begins (packets_of l v.taken ++ (ys ++ awaited l (is_the_current l (Some l)) q)) (packets_of (reversed l) other)) (ap (λ b. given l b l x) (same_refl l) ∙ given_same l x)
    (subst (λ o. Begins (packets_of l v.taken ++ awaited l (is_the_current l o) (PacketComes l x ∷ q)) (packets_of (reversed l) other)) on (f.chain l)) in
    subst (λ t. slice_get (packets_of (reversed l) other) (length (packets_of l t)) ≡ Some x) (sym h.histories.taken_is)
    (at_begins (packets_of l v.taken ++ (x ∷ awaited l (is_the_current l (Some l)) q)) (packets_of (reversed l) other) (length (packets_of l v.taken)) x c
    (let z : length (packets_of l v.taken) ≡ length (packets_of l v.taken) + 0 = omega arith in
    subst (λ i. slice_get (packets_of l v.taken ++ (x ∷ awaited l (is_the_current l (Some l)) q)) i ≡ Some x) (sym z) (at_middle (packets_of l v.taken) (x ∷ awaited l (is_the_current l (Some l)) q) 0)))

-- a closed session that was not current is not current after there is none
over_none : (latest current : Option Life) (ls : List Life) → Each (IsOver latest current) ls → Each (IsOver latest None) ls
over_none latest current ls h = Each_mono (IsOver latest current) (IsOver latest None) (λ l o. (o.0, λ e. cc)) ls h

-- the current session is closed: the core takes no more packets of it
pub closes : (v : EndView) (p : MachineEnd) (other : List Parcel) (done : Life → ℕ → Type 0) (life : Life) → v.current ≡ Some life → FollowsMachine v p other done → FollowsMachine (record v { current = None }) (closing p life) other done
closes v p other done life on h =
    let less : (l : Life) → Begins (packets_of l v.taken ++ awaited l false v.coming) (packets_of (reversed l) other) = λ l. less_of l (cases_Bool (is_the_current l v.current)) in
    record {
      kept = h.kept;
      histories = record {
        floor = h.histories.floor;
        kept = h.histories.kept;
        opened = h.histories.opened;
        drawn = h.histories.drawn;
        bound = h.histories.bound;
        sent_is = h.histories.sent_is;
        taken_is = h.histories.taken_is;
        all_sent = h.histories.all_sent;
        all_taken = h.histories.all_taken;
        all_out = h.histories.all_out;
      };
      arriving = record { latest = h.arriving.latest; was_bound = h.arriving.was_bound; now = tt; comes = h.arriving.comes; rises = h.arriving.rises; older = h.arriving.older; taken_before = h.arriving.taken_before; over = ((last_own, λ e. cc), over_none h.arriving.latest v.current p.closed h.arriving.over); chain = less };
      phase = phase_counted v p (closing p life) other done None v.coming v.taken refl refl (λ l c. count_of l c (cases_Bool (is_the_current l v.current))) v.endpoint.phase h.phase;
    }
  where
    last_own : life.own ≤ number_of h.arriving.latest
    last_own = let e : h.arriving.latest ≡ Some life = subst (IsLatest h.arriving.latest) on h.arriving.now in let n : number_of h.arriving.latest ≡ life.own = ap number_of e in omega (arith, n)

    below : (l : Life) → is_the_current l v.current ≡ true → l.own ≤ number_of h.arriving.latest
    below l e = let n = number_now l h.arriving.latest v.current e h.arriving.now in omega (arith, n)

    less_of : (l : Life) → (is_the_current l v.current ≡ true) ⊎ (is_the_current l v.current ≡ false) → Begins (packets_of l v.taken ++ awaited l false v.coming) (packets_of (reversed l) other)
    less_of l (inl e) =
        subst (λ ys. Begins ys (packets_of (reversed l) other)) (sym (ap (λ ys. packets_of l v.taken ++ ys) (awaited_off l (number_of h.arriving.latest) v.coming (below l e) h.arriving.rises) ∙ append-nil (packets_of l v.taken)))
        (begins_front (packets_of l v.taken) (awaited l (is_the_current l v.current) v.coming) (packets_of (reversed l) other) (h.arriving.chain l))
    less_of l (inr e) = subst (λ b. Begins (packets_of l v.taken ++ awaited l b v.coming) (packets_of (reversed l) other)) e (h.arriving.chain l)

    count_of : (l : Life) → Counted l v.endpoint.accepted v.current v.coming v.taken → (is_the_current l v.current ≡ true) ⊎ (is_the_current l v.current ≡ false) → Counted l v.endpoint.accepted None v.coming v.taken
    count_of l c (inl e) on = absurd (true≢false (sym on ∙ lives_off l (number_of h.arriving.latest) v.coming (below l e) h.arriving.rises))
    count_of l c (inr e) on = subst (λ b. lives l b v.coming ≡ true → length (packets_of l v.taken ++ awaited l b v.coming) ≡ v.endpoint.accepted) e c on

-- the core puts a packet of the current session into the queue to its neighbour
phase_puts : (v : EndView) (p : MachineEnd) (other : List Parcel) (done : Life → ℕ → Type 0) (x : Parcel) → (ph : Phase) → InPhase ph v p other done → InPhase ph (record v { sent = v.sent ++ x ∷ []; out = v.out ++ x ∷ [] }) (sending p x) other done
phase_puts v p other done x Closed h = tt
phase_puts v p other done x (Unbound own) h = record { last = h.last; above = h.above; some = h.some }
phase_puts v p other done x (Bound l) h = record {
  bound = h.bound;
  drawn = h.drawn;
  queued = record {
    submitted = h.queued.submitted;
    queue = h.queued.queue;
    waits = ap (λ ys. h.queued.submitted ++ ys) (of-push l v.out x) ∙ sym (append_assoc h.queued.submitted (packets_of l v.out) (packet_where l x))
        ∙ ap (λ ys. ys ++ packet_where l x) h.queued.waits ∙ sym (of-push l v.sent x);
  };
  counted = h.counted;
  held = h.held;
  told = h.told;
}

pub puts : (v : EndView) (p : MachineEnd) (other : List Parcel) (done : Life → ℕ → Type 0) (x : Parcel) → v.current ≡ Some x.life → FollowsMachine v p other done →
    FollowsMachine (record v { sent = v.sent ++ x ∷ []; out = v.out ++ x ∷ [] }) (sending p x) other done
puts v p other done x e h =
    let here : IsIn x.life p.bound = current_bound v p other done x.life e h in
    let late : h.arriving.latest ≡ Some x.life = subst (IsLatest h.arriving.latest) e h.arriving.now in
    record {
      kept = h.kept;
      histories = record {
        floor = h.histories.floor;
        kept = h.histories.kept;
        opened = h.histories.opened;
        drawn = h.histories.drawn;
        bound = h.histories.bound;
        sent_is = ap (λ xs. xs ++ x ∷ []) h.histories.sent_is;
        taken_is = h.histories.taken_is;
        all_sent = all_push p.bound v.sent x h.histories.all_sent here;
        all_taken = h.histories.all_taken;
        all_out = all_push p.bound v.out x h.histories.all_out here;
      };
      arriving = record {
        latest = h.arriving.latest;
        was_bound = h.arriving.was_bound;
        now = h.arriving.now;
        comes = h.arriving.comes;
        rises = h.arriving.rises;
        older = each_push (λ y. y.life.own ≤ number_of h.arriving.latest) v.sent x h.arriving.older (let n = ap number_of late in omega (arith, n));
        taken_before = h.arriving.taken_before;
        over = h.arriving.over;
        chain = h.arriving.chain;
      };
      phase = phase_puts v p other done x v.endpoint.phase h.phase;
    }

-- only sessions were closed, and these were closed or current before
pub record ClosesMore (current : Option Life) (p p' : MachineEnd) : Type 0 where
  pub drawn : p'.drawn ≡ p.drawn
  pub bound : p'.bound ≡ p.bound
  pub sent : p'.sent ≡ p.sent
  pub taken : p'.taken ≡ p.taken
  pub closed : Each (λ l. (current ≡ Some l) ⊎ IsIn l p.closed) p'.closed

-- the node restarts, and the current session is lost
pub restarts : (laws : LinkLaws) (v : EndView) (p p' : MachineEnd) (other : List Parcel) (done : Life → ℕ → Type 0) (file : LifeDisk) → ClosesMore v.current p p' → ((n : ℕ) → IsFloor n v.file → IsFloor n file) → FollowsMachine v p other done →
    FollowsMachine (record v { endpoint = first_end; file = file; current = None; coming = []; out = [] }) p' other done
restarts laws v p p' other done file more f h = record {
  kept = laws.first v.settings;
  histories = record {
    floor = h.histories.floor;
    kept = f h.histories.floor h.histories.kept;
    opened = omega arith;
    drawn = subst (Each (λ x. x ≤ h.histories.floor)) (sym more.drawn) h.histories.drawn;
    bound = subst (Each (λ (l : Life). l.own ≤ h.histories.floor)) (sym more.bound) h.histories.bound;
    sent_is = more.sent ∙ h.histories.sent_is;
    taken_is = more.taken ∙ h.histories.taken_is;
    all_sent = subst (λ ls. AllOf ls v.sent) (sym more.bound) h.histories.all_sent;
    all_taken = subst (λ ls. AllOf ls v.taken) (sym more.bound) h.histories.all_taken;
    all_out = tt;
  };
  arriving = record {
    latest = h.arriving.latest;
    was_bound = subst (λ ls. IsOf ls h.arriving.latest) (sym more.bound) h.arriving.was_bound;
    now = tt;
    comes = tt;
    rises = tt;
    older = h.arriving.older;
    taken_before = h.arriving.taken_before;
    over = Each_mono (λ l. (v.current ≡ Some l) ⊎ IsIn l p.closed) (IsOver h.arriving.latest None) (λ l o. (⊎_elim (current_own l) (λ i. (Each_at (IsOver h.arriving.latest v.current) p.closed l h.arriving.over i).0) o, λ e. cc)) p'.closed more.closed;
    chain = λ j. subst (λ ys. Begins ys (packets_of (reversed j) other)) (sym (append-nil (packets_of j v.taken))) (begins_front (packets_of j v.taken) (awaited j (is_the_current j v.current) v.coming) (packets_of (reversed j) other) (h.arriving.chain j));
  };
  phase = tt;
}
  where
    current_own : (l : Life) → v.current ≡ Some l → l.own ≤ number_of h.arriving.latest
    current_own l on = let e : h.arriving.latest ≡ Some l = subst (IsLatest h.arriving.latest) on h.arriving.now in let n : number_of h.arriving.latest ≡ l.own = ap number_of e in omega (arith, n)

-- a session that is current is not closed
pub current_open : (v : EndView) (p : MachineEnd) (other : List Parcel) (done : Life → ℕ → Type 0) (l : Life) → v.current ≡ Some l → FollowsMachine v p other done → Each (λ c. c ≢ l) p.closed
current_open v p other done l on h = Each_mono (IsOver h.arriving.latest v.current) (λ c. c ≢ l) (λ c o e. o.1 (on ∙ ap Some (sym e))) p.closed h.arriving.over
