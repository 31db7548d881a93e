-- A change at one end, with its step of the machine, keeps the invariant of all ends.
use Rattle.std.proofs.Common.{◌≡◌, ◌≢◌, ℕ, ◌<◌, ◌≤◌, true, false, true≢false, ◌⊎◌, inl, inr, ⊎_elim, List, [], ◌∷◌, ◌++◌, Option, Some, None, nat_eq, eq-eqb, refl, sym, ◌∙◌, ap, subst, subst₂, arith}
use Rattle.std.proofs.lemmas.Bool.{cases_Bool}
use Rattle.tora_packet.specs.declared.Packet.{Packet}
use Rattle.tora_frame.specs.declared.parts.Body.{Body}
use Rattle.tora_frame.specs.declared.parts.Body.TheVariants.{Hello, Data, Ack}
use Rattle.tora_frame.specs.FrameParts.{FrameParts}
use Rattle.tora_arq.specs.declared.life.Life.{Life}
use Rattle.tora_arq.specs.declared.phase.Phase.{Phase}
use Rattle.tora_arq.specs.declared.phase.Phase.TheVariants.{Closed, Unbound, Bound}
use Rattle.tora_arq.specs.Lives.{life_of, reversed}
use Rattle.tora_arq.specs.LinkEnd.{after_open, life_in}
use Rattle.tora_arq.specs.LinkFacts.{LinkCall, after_call, HandsInFrameOf}
use Rattle.tora_life.specs.LifeRun.{LifeDisk, IsFloor}
use Rattle.tora_seat.specs.Serving.{Parcel}
use Rattle.tora_world.specs.Lists.{packets_of, Begins, IsIn, Each}
use Rattle.tora_world.specs.LinkMachine.{put_at, MachineEnd, Machine, MachineStep, MayStep, after_machine_step, machine_after, IsMachineRun, drawing, binding, sending, taking, closing, made}
use Rattle.tora_world.specs.LinkMachine.MachineStep.{Draw, Bind, Send, Take, Close}
use Rattle.tora_world.specs.MachineRun.{steps_of_binding, steps_of_end, steps_of_restart}
use Rattle.tora_world.specs.Layers.{LinkLaws}
use Rattle.tora_world.proofs.PacketLists.{at_pair, put_here, put_there, by_pair, of_push_both, begins_refl, begins_append, at_begins, Each_mono, Each_at, Each_from}
use Rattle.tora_world.proofs.Invariant.{Arrival, EndView, FollowsMachine, Tells, Told, AllEndsFollow, Seen, seen_at_other, InPhase, InWait}
use Rattle.tora_world.proofs.Invariant.Arrival.{PacketComes}
use Rattle.tora_world.proofs.MachineLaw.{machine_keeps}
use Rattle.tora_world.proofs.Moves.{Grows, grows, opens, takes, takes_next, puts, closes, ClosesMore, current_bound, current_open, IsCall, called, call_stays, call_binds}

-- all ends except one are as before
pub record Changes (view view' : ℕ → ℕ → EndView) (n k : ℕ) (v v' : EndView) : Type 0 where
  pub was : view n k ≡ v
  pub here : view' n k ≡ v'
  pub there : (a b : ℕ) → at_pair n k a b ≡ false → view' a b ≡ view a b

-- the second pair has sent at least as much in each session, and has drawn at least the same numbers
pub record Older (p q : MachineEnd) : Type 0 where
  pub sent : Grows p.sent q.sent
  pub drawn : (x : ℕ) → IsIn x p.drawn → IsIn x q.drawn

pub older_refl : (p : MachineEnd) → Older p p
older_refl p = record { sent = λ l. begins_refl (packets_of l p.sent); drawn = λ x i. i }

abbrev pub AllOlder : Machine → Machine → Type 0
AllOlder m m' = (a b : ℕ) → Older (m a b) (m' a b)

older_put : (m : Machine) (n k : ℕ) (p : MachineEnd) → Older (m n k) p → AllOlder m (put_at m n k p)
older_put m n k p o =
    by_pair (λ a b. Older (m a b) (put_at m n k p a b)) n k
    (subst (Older (m n k)) (sym (put_here m n k p)) o)
    (λ a b e. subst (Older (m a b)) (sym (put_there m n k p a b e)) (older_refl (m a b)))

tells_grow : (xs ys : List Parcel) (done done' : Life → ℕ → Type 0) (l : Life) → Grows xs ys → ((c : ℕ) → done l c → done' l c) → (b : Body) → Tells xs done l b → Tells ys done' l b
tells_grow xs ys done done' l g d Hello h = h
tells_grow xs ys done done' l g d (Data number count packets) h =
    (λ place packet has. at_begins (packets_of l xs) (packets_of l ys) place packet (g l) (h.0 place packet has), d count h.1)
tells_grow xs ys done done' l g d (Ack count) h = d count h

abbrev pub SeenMore : Seen → Seen → Type 0
SeenMore s t = (n k : ℕ) (l : Life) (c : ℕ) → s n k l c → t n k l c

told_grows : (m m' : Machine) (seen seen' : Seen) → AllOlder m m' → SeenMore seen seen' → (f : FrameParts) → Told m seen f → Told m' seen' f
told_grows m m' seen seen' o s f h = (
  (o f.header.sender f.header.receiver).drawn f.header.life h.0,
  tells_grow (m f.header.sender f.header.receiver).sent (m' f.header.sender f.header.receiver).sent (seen f.header.sender f.header.receiver) (seen' f.header.sender f.header.receiver) (life_of f.header.life f.header.heard)
      (o f.header.sender f.header.receiver).sent (λ c. s f.header.sender f.header.receiver (life_of f.header.life f.header.heard) c) f.body h.1,
)

pub told_all : (m m' : Machine) (seen seen' : Seen) → AllOlder m m' → SeenMore seen seen' → (fs : List FrameParts) → Each (Told m seen) fs → Each (Told m' seen') fs
told_all m m' seen seen' o s fs h = Each_mono (Told m seen) (Told m' seen') (λ f. told_grows m m' seen seen' o s f) fs h

module _ (steps : List MachineStep) (view view' : ℕ → ℕ → EndView) (frames : List FrameParts) (seen : Seen) (n k : ℕ) (v v' : EndView) where
  -- a change without a step
  pub no_step : Changes view view' n k v v' → (g : AllEndsFollow steps view frames seen) → (FollowsMachine v (machine_after steps n k) (machine_after steps k n).sent (seen_at_other seen n k) → FollowsMachine v' (machine_after steps n k) (machine_after steps k n).sent (seen_at_other seen n k)) → AllEndsFollow steps view' frames seen
  no_step c g f = record {
    legal = g.legal;
    sides = by_pair (λ a b. FollowsMachine (view' a b) (machine_after steps a b) (machine_after steps b a).sent (seen_at_other seen a b)) n k
        (subst (λ w. FollowsMachine w (machine_after steps n k) (machine_after steps k n).sent (seen_at_other seen n k)) (sym c.here)
        (f (subst (λ w. FollowsMachine w (machine_after steps n k) (machine_after steps k n).sent (seen_at_other seen n k)) c.was (g.sides n k))))
        (λ a b e. subst (λ w. FollowsMachine w (machine_after steps a b) (machine_after steps b a).sent (seen_at_other seen a b)) (sym (c.there a b e)) (g.sides a b));
    tells = g.tells;
  }

  -- a change with one step, which changes the pair of this end
  pub one_step : Changes view view' n k v v' → (s : MachineStep) (change : MachineEnd → MachineEnd) → ((m : Machine) → after_machine_step m s ≡ put_at m n k (change (m n k))) →
      ((p : MachineEnd) → Older p (change p)) →
      (g : AllEndsFollow steps view frames seen) →
      (FollowsMachine v (machine_after steps n k) (machine_after steps k n).sent (seen_at_other seen n k) → FollowsMachine v' (change (machine_after steps n k)) (machine_after steps k n).sent (seen_at_other seen n k)) →
      MayStep (machine_after steps) s → AllEndsFollow (s ∷ steps) view' frames seen
  one_step c s change is older g f ok =
      let m : Machine = machine_after steps in
      let new : Machine = put_at m n k (change (m n k)) in
      let all : AllOlder m new = older_put m n k (change (m n k)) (older (m n k)) in
      let to : AllOlder m (after_machine_step m s) = subst (AllOlder m) (sym (is m)) all in
      record {
        legal = (ok, g.legal);
        sides = subst (λ (x : Machine). (a b : ℕ) → FollowsMachine (view' a b) (x a b) (x b a).sent (seen_at_other seen a b)) (sym (is m))
            (by_pair (λ a b. FollowsMachine (view' a b) (new a b) (new b a).sent (seen_at_other seen a b)) n k
            (subst (λ w. FollowsMachine w (new n k) (new k n).sent (seen_at_other seen n k)) (sym c.here)
            (grows v' (new n k) (m k n).sent (new k n).sent (seen_at_other seen n k) (seen_at_other seen n k) (all k n).sent (λ l x d. d)
            (subst (λ p. FollowsMachine v' p (m k n).sent (seen_at_other seen n k)) (sym (put_here m n k (change (m n k)))) (f (subst (λ w. FollowsMachine w (m n k) (m k n).sent (seen_at_other seen n k)) c.was (g.sides n k))))))
            (λ a b e. subst (λ w. FollowsMachine w (new a b) (new b a).sent (seen_at_other seen a b)) (sym (c.there a b e))
            (grows (view a b) (new a b) (m b a).sent (new b a).sent (seen_at_other seen a b) (seen_at_other seen a b) (all b a).sent (λ l x d. d)
            (subst (λ p. FollowsMachine (view a b) p (m b a).sent (seen_at_other seen a b)) (sym (put_there m n k (change (m n k)) a b e)) (g.sides a b)))));
        tells = told_all m (after_machine_step m s) seen seen to (λ a b l x d. d) frames g.tells;
      }

-- more counts were seen
pub more_seen : (steps : List MachineStep) (view : ℕ → ℕ → EndView) (frames : List FrameParts) (seen seen' : Seen) → SeenMore seen seen' → AllEndsFollow steps view frames seen → AllEndsFollow steps view frames seen'
more_seen steps view frames seen seen' s g = record {
  legal = g.legal;
  sides = λ n k. grows (view n k) (machine_after steps n k) (machine_after steps k n).sent (machine_after steps k n).sent (seen_at_other seen n k) (seen_at_other seen' n k) (λ l. begins_refl (packets_of l (machine_after steps k n).sent)) (λ l c. s k n (reversed l) c) (g.sides n k);
  tells = told_all (machine_after steps) (machine_after steps) seen seen' (λ a b. older_refl (machine_after steps a b)) s frames g.tells;
}

-- the same views of the ends, expressed differently
pub same_views : (steps : List MachineStep) (view view' : ℕ → ℕ → EndView) (frames : List FrameParts) (seen : Seen) → ((a b : ℕ) → view' a b ≡ view a b) → AllEndsFollow steps view frames seen → AllEndsFollow steps view' frames seen
same_views steps view view' frames seen e g = record {
  legal = g.legal;
  sides = λ a b. subst (λ w. FollowsMachine w (machine_after steps a b) (machine_after steps b a).sent (seen_at_other seen a b)) (sym (e a b)) (g.sides a b);
  tells = g.tells;
}

-- a change at every end that the machine does not see
pub at_every_end : (steps : List MachineStep) (view view' : ℕ → ℕ → EndView) (frames : List FrameParts) (seen : Seen) → ((a b : ℕ) (p : MachineEnd) (other : List Parcel) → FollowsMachine (view a b) p other (seen_at_other seen a b) → FollowsMachine (view' a b) p other (seen_at_other seen a b)) → AllEndsFollow steps view frames seen → AllEndsFollow steps view' frames seen
at_every_end steps view view' frames seen f g = record {
  legal = g.legal;
  sides = λ a b. f a b (machine_after steps a b) (machine_after steps b a).sent (g.sides a b);
  tells = g.tells;
}

older_drawing : (x : ℕ) (p : MachineEnd) → Older p (drawing p x)
older_drawing x p = record { sent = λ l. begins_refl (packets_of l p.sent); drawn = λ y i. inr i }

older_binding : (l : Life) (p : MachineEnd) → Older p (binding p l)
older_binding l p = record { sent = λ l. begins_refl (packets_of l p.sent); drawn = λ y i. i }

older_taking : (x : Parcel) (p : MachineEnd) → Older p (taking p x)
older_taking x p = record { sent = λ l. begins_refl (packets_of l p.sent); drawn = λ y i. i }

older_sending : (x : Parcel) (p : MachineEnd) → Older p (sending p x)
older_sending x p = record {
  sent = λ l. of_push_both (λ ys. Begins (packets_of l p.sent) ys) l p.sent x (λ _. begins_append (packets_of l p.sent) (x.packet ∷ [])) (λ _. begins_refl (packets_of l p.sent));
  drawn = λ y i. i;
}

older_closing : (l : Life) (p : MachineEnd) → Older p (closing p l)
older_closing l p = record { sent = λ l. begins_refl (packets_of l p.sent); drawn = λ y i. i }

module _ (steps : List MachineStep) (view view' : ℕ → ℕ → EndView) (frames : List FrameParts) (seen : Seen) (n k : ℕ) (v : EndView) where
  side : {v' : EndView} → Changes view view' n k v v' → (g : AllEndsFollow steps view frames seen) → FollowsMachine v (machine_after steps n k) (machine_after steps k n).sent (seen_at_other seen n k)
  side c g = subst (λ w. FollowsMachine w (machine_after steps n k) (machine_after steps k n).sent (seen_at_other seen n k)) c.was (g.sides n k)

  pub opening_follows : (x now : ℕ) (file : LifeDisk) → ((m : ℕ) → IsFloor m v.file → (m < x) × IsFloor x file) → Changes view view' n k v (record v { endpoint = after_open v.endpoint x now; file = file }) → AllEndsFollow steps view frames seen → AllEndsFollow (Draw n k x ∷ steps) view' frames seen
  opening_follows x now file f c g =
      let r = side c g in
      let above : r.histories.floor < x = (f r.histories.floor r.histories.kept).0 in
      one_step steps view view' frames seen n k v (record v { endpoint = after_open v.endpoint x now; file = file }) c
      (Draw n k x) (λ p. drawing p x) (λ m. refl) (older_drawing x) g (λ h. opens v (machine_after steps n k) (machine_after steps k n).sent (seen_at_other seen n k) x now file f h)
      (Each_mono (λ y. y ≤ r.histories.floor) (λ y. y < x) (λ y e. omega (arith, e, above)) (machine_after steps n k).drawn r.histories.drawn)

  -- a call of the end that neither opens it nor passes in a frame
  pub call_follows : (laws : LinkLaws) (call : LinkCall) (out : List Parcel) → Changes view view' n k v (called v call out) →
      (g : AllEndsFollow steps view frames seen) → IsCall v (machine_after steps n k) (machine_after steps k n).sent (seen_at_other seen n k) call out → ((l : Life) → HandsInFrameOf v.settings l call → ⊥) → AllEndsFollow steps view' frames seen
  call_follows laws call out c g ok no_frame =
      no_step steps view view' frames seen n k v (called v call out) c g
      (λ h. call_stays laws v (machine_after steps n k) (machine_after steps k n).sent (seen_at_other seen n k) call out ok
      (λ l e. ⊎_elim (λ b. b) (λ u. absurd (no_frame l u.1)) (laws.binds v.settings v.endpoint call ok.possible l e)) h)

  abbrev Heard : Phase → Phase → Type 0
  Heard ph ph' = AllEndsFollow (made (steps_of_binding n k (life_in ph) (life_in ph')) steps) view' frames seen

  -- a call that passes in a frame, and may bind a session
  pub frame_follows : (laws : LinkLaws) (call : LinkCall) (out : List Parcel) → ((l : Life) → seen k n (reversed l) 0) → Changes view view' n k v (called v call out) →
      (g : AllEndsFollow steps view frames seen) → IsCall v (machine_after steps n k) (machine_after steps k n).sent (seen_at_other seen n k) call out → ((l : Life) → HandsInFrameOf v.settings l call → IsIn l.peer (machine_after steps k n).drawn) →
      AllEndsFollow (made (steps_of_binding n k (life_in v.endpoint.phase) (life_in (after_call v.settings v.endpoint call).phase)) steps) view' frames seen
  frame_follows laws call out zero c g ok told = go (after_call v.settings v.endpoint call).phase refl
    where
      stays : ((l : Life) → (after_call v.settings v.endpoint call).phase ≡ Bound l → v.endpoint.phase ≡ Bound l) → AllEndsFollow steps view' frames seen
      stays f = no_step steps view view' frames seen n k v (called v call out) c g (λ h. call_stays laws v (machine_after steps n k) (machine_after steps k n).sent (seen_at_other seen n k) call out ok f h)

      binds : (l : Life) → v.endpoint.phase ≡ Unbound l.own → (after_call v.settings v.endpoint call).phase ≡ Bound l → IsIn l.peer (machine_after steps k n).drawn → AllEndsFollow (Bind n k l.own l.peer ∷ steps) view' frames seen
      binds l e e' i =
          let w : InWait l.own (machine_after steps n k) = subst (λ ph. InPhase ph v (machine_after steps n k) (machine_after steps k n).sent (seen_at_other seen n k)) e (side c g).phase in
          one_step steps view view' frames seen n k v (called v call out) c
          (Bind n k l.own l.peer) (λ p. binding p l) (λ m. refl) (older_binding l) g
          (λ h. call_binds laws v (machine_after steps n k) (machine_after steps k n).sent (seen_at_other seen n k) call out ok l e e' (zero l) h)
          (w.last, Each_mono (λ (j : Life). j.own < l.own) (λ (j : Life). j.own ≢ l.own) (λ j le e. omega (arith, le, e)) (machine_after steps n k).bound w.above, i)

      go : (ph' : Phase) → (after_call v.settings v.endpoint call).phase ≡ ph' → Heard v.endpoint.phase (after_call v.settings v.endpoint call).phase
      go Closed e = subst (Heard v.endpoint.phase) (sym e) (stays (λ l e'. absurd (let y : Closed ≡ Bound l = sym e ∙ e' in cc)))
      go (Unbound own) e = subst (Heard v.endpoint.phase) (sym e) (stays (λ l e'. absurd (let y : Unbound own ≡ Bound l = sym e ∙ e' in cc)))
      go (Bound l) e =
          subst (Heard v.endpoint.phase) (sym e)
          (⊎_elim
          (λ b. subst (λ ph. Heard ph (Bound l)) (sym b) (stays (λ j e'. let y : Bound l ≡ Bound j = sym e ∙ e' in let z : l ≡ j = cc in b ∙ ap Bound z)))
          (λ u. subst (λ ph. Heard ph (Bound l)) (sym u.0) (binds l u.0 e (told l u.1)))
          (laws.binds v.settings v.endpoint call ok.possible l e))

  pub taking_follows : (l : Life) (x : Packet) (q : List Arrival) → v.coming ≡ PacketComes l x ∷ q → v.current ≡ Some l →
      Changes view view' n k v (record v { coming = q; taken = v.taken ++ record { life = l; packet = x } ∷ [] }) →
      AllEndsFollow steps view frames seen → AllEndsFollow (Take n k l x ∷ steps) view' frames seen
  taking_follows l x q e on c g =
      let r = side c g in
      one_step steps view view' frames seen n k v (record v { coming = q; taken = v.taken ++ record { life = l; packet = x } ∷ [] }) c
      (Take n k l x) (λ p. taking p (record { life = l; packet = x })) (λ m. refl) (older_taking (record { life = l; packet = x })) g
      (λ h. takes v (machine_after steps n k) (machine_after steps k n).sent (seen_at_other seen n k) l x q e on h)
      (current_bound v (machine_after steps n k) (machine_after steps k n).sent (seen_at_other seen n k) l on r, current_open v (machine_after steps n k) (machine_after steps k n).sent (seen_at_other seen n k) l on r, takes_next v (machine_after steps n k) (machine_after steps k n).sent (seen_at_other seen n k) l x q e on r)

  pub putting_follows : (x : Parcel) → v.current ≡ Some x.life →
      Changes view view' n k v (record v { sent = v.sent ++ x ∷ []; out = v.out ++ x ∷ [] }) →
      AllEndsFollow steps view frames seen → AllEndsFollow (Send n k x.life x.packet ∷ steps) view' frames seen
  putting_follows x on c g =
      let r = side c g in
      one_step steps view view' frames seen n k v (record v { sent = v.sent ++ x ∷ []; out = v.out ++ x ∷ [] }) c
      (Send n k x.life x.packet) (λ p. sending p x) (λ m. refl) (older_sending x) g (λ h. puts v (machine_after steps n k) (machine_after steps k n).sent (seen_at_other seen n k) x on h)
      (current_bound v (machine_after steps n k) (machine_after steps k n).sent (seen_at_other seen n k) x.life on r, current_open v (machine_after steps n k) (machine_after steps k n).sent (seen_at_other seen n k) x.life on r)

  pub closing_follows : (l : Life) → v.current ≡ Some l → Changes view view' n k v (record v { current = None }) → AllEndsFollow steps view frames seen → AllEndsFollow (Close n k l ∷ steps) view' frames seen
  closing_follows l on c g =
      one_step steps view view' frames seen n k v (record v { current = None }) c
      (Close n k l) (λ p. closing p l) (λ m. refl) (older_closing l) g (λ h. closes v (machine_after steps n k) (machine_after steps k n).sent (seen_at_other seen n k) l on h) tt

-- the conclusion
pub prefix_follows : (steps : List MachineStep) (view : ℕ → ℕ → EndView) (frames : List FrameParts) (seen : Seen) → AllEndsFollow steps view frames seen → (n k : ℕ) (l : Life) → Begins (packets_of l (view n k).taken) (packets_of (reversed l) (view k n).sent)
prefix_follows steps view frames seen g n k l =
    subst₂ (λ t s. Begins (packets_of l t) (packets_of (reversed l) s)) (g.sides n k).histories.taken_is (g.sides k n).histories.sent_is (machine_keeps steps g.legal n k l)

-- one more frame was sent
pub frames_more : (steps : List MachineStep) (view : ℕ → ℕ → EndView) (frames : List FrameParts) (seen : Seen) (f : FrameParts) → (g : AllEndsFollow steps view frames seen) → Told (machine_after steps) seen f → AllEndsFollow steps view (frames ++ f ∷ []) seen
frames_more steps view frames seen f g t = record { legal = g.legal; sides = g.sides; tells = each_push frames g.tells }
  where
    each_push : (fs : List FrameParts) → Each (Told (machine_after steps) seen) fs → Each (Told (machine_after steps) seen) (fs ++ f ∷ [])
    each_push [] h = (t, tt)
    each_push (x ∷ fs) h = (h.0, each_push fs h.1)

-- ---- the current sessions of one node are closed

closes_none : (current : Option Life) (p : MachineEnd) → ClosesMore current p p
closes_none current p = record { drawn = refl; bound = refl; sent = refl; taken = refl; closed = Each_from (λ l. (current ≡ Some l) ⊎ IsIn l p.closed) p.closed (λ l i. inr i) }

closes_both : (current : Option Life) (p q r : MachineEnd) → ClosesMore current p q → ClosesMore current q r → ClosesMore current p r
closes_both current p q r a b = record {
  drawn = b.drawn ∙ a.drawn;
  bound = b.bound ∙ a.bound;
  sent = b.sent ∙ a.sent;
  taken = b.taken ∙ a.taken;
  closed = Each_mono (λ l. (current ≡ Some l) ⊎ IsIn l q.closed) (λ l. (current ≡ Some l) ⊎ IsIn l p.closed) (λ l o. ⊎_elim (λ e. inl e) (λ i. Each_at (λ j. (current ≡ Some j) ⊎ IsIn j p.closed) q.closed l a.closed i) o) r.closed b.closed;
}

closes_one : (current : Option Life) (p : MachineEnd) (l : Life) → current ≡ Some l → ClosesMore current p (closing p l)
closes_one current p l e = record { drawn = refl; bound = refl; sent = refl; taken = refl; closed = (inl e, Each_from (λ j. (current ≡ Some j) ⊎ IsIn j p.closed) p.closed (λ j i. inr i)) }

older_closes : (current : Option Life) (p q : MachineEnd) → ClosesMore current p q → Older p q
older_closes current p q c = record {
  sent = λ l. subst (λ xs. Begins (packets_of l p.sent) (packets_of l xs)) (sym c.sent) (begins_refl (packets_of l p.sent));
  drawn = λ x i. subst (IsIn x) (sym c.drawn) i;
}

module _ (n : ℕ) (current : ℕ → Option Life) where
  -- the machine is unchanged at other nodes
  record ClosesAt (m m' : Machine) (a b : ℕ) : Type 0 where
    here : nat_eq a n ≡ true → ClosesMore (current b) (m a b) (m' a b)
    there : nat_eq a n ≡ false → m' a b ≡ m a b

  abbrev ClosesAll : Machine → Machine → Type 0
  ClosesAll m m' = (a b : ℕ) → ClosesAt m m' a b

  close_step : (m : Machine) (k : ℕ) (l : Life) → current k ≡ Some l → ClosesAll m (put_at m n k (closing (m n k) l))
  close_step m k l e =
      by_pair (λ a b. ClosesAt m (put_at m n k (closing (m n k) l)) a b) n k
      (record {
        here = λ t. subst (ClosesMore (current k) (m n k)) (sym (put_here m n k (closing (m n k) l))) (closes_one (current k) (m n k) l e);
        there = λ f. absurd (true≢false (sym (eq-eqb n n refl) ∙ f));
      })
      (λ a b o. record {
        here = λ t. subst (ClosesMore (current b) (m a b)) (sym (put_there m n k (closing (m n k) l) a b o)) (closes_none (current b) (m a b));
        there = λ f. put_there m n k (closing (m n k) l) a b o;
      })

  close_both : (m m' m'' : Machine) → ClosesAll m m' → ClosesAll m' m'' → ClosesAll m m''
  close_both m m' m'' f g a b = record {
    here = λ t. closes_both (current b) (m a b) (m' a b) (m'' a b) ((f a b).here t) ((g a b).here t);
    there = λ e. (g a b).there e ∙ (f a b).there e;
  }

  record AreClosed (steps steps' : List MachineStep) : Type 0 where
    legal : IsMachineRun steps'
    all : ClosesAll (machine_after steps) (machine_after steps')

  close_all : (ks : List ℕ) (steps : List MachineStep) → IsMachineRun steps → AreClosed steps (made (steps_of_restart n current ks) steps)
  close_all [] steps ok = record { legal = ok; all = λ a b. record { here = λ t. closes_none (current b) (machine_after steps a b); there = λ f. refl } }
  close_all (k ∷ ks) steps ok = go (current k) refl (λ ss s. close_all ks ss s)
    where
      go : (o : Option Life) → current k ≡ o → ((ss : List MachineStep) → IsMachineRun ss → AreClosed ss (made (steps_of_restart n current ks) ss)) → AreClosed steps (made (steps_of_end n k o ++ steps_of_restart n current ks) steps)
      go None e again = again steps ok
      go (Some l) e again =
          let c = again (Close n k l ∷ steps) (tt, ok) in record {
            legal = c.legal;
            all = close_both (machine_after steps) (machine_after (Close n k l ∷ steps)) (machine_after (made (steps_of_restart n current ks) (Close n k l ∷ steps))) (close_step (machine_after steps) k l e) c.all;
          }

  pub restart_follows : (steps : List MachineStep) (view view' : ℕ → ℕ → EndView) (frames : List FrameParts) (seen : Seen) (ks : List ℕ) →
      ((a b : ℕ) → nat_eq a n ≡ false → view' a b ≡ view a b) →
      ((a b : ℕ) (p p' : MachineEnd) (other : List Parcel) → nat_eq a n ≡ true → ClosesMore (current b) p p' → FollowsMachine (view a b) p other (seen_at_other seen a b) → FollowsMachine (view' a b) p' other (seen_at_other seen a b)) →
      AllEndsFollow steps view frames seen → AllEndsFollow (made (steps_of_restart n current ks) steps) view' frames seen
  restart_follows steps view view' frames seen ks off on g =
      let c = close_all ks steps g.legal in
      let m : Machine = machine_after steps in
      let m' : Machine = machine_after (made (steps_of_restart n current ks) steps) in
      let older : AllOlder m m' = λ a b. ⊎_elim (λ t. older_closes (current b) (m a b) (m' a b) ((c.all a b).here t)) (λ f. subst (Older (m a b)) (sym ((c.all a b).there f)) (older_refl (m a b))) (cases_Bool (nat_eq a n)) in
      let side : (a b : ℕ) → FollowsMachine (view' a b) (m' a b) (m b a).sent (seen_at_other seen a b) =
      λ a b. ⊎_elim
      (λ t. on a b (m a b) (m' a b) (m b a).sent t ((c.all a b).here t) (g.sides a b))
      (λ f. subst (λ v. FollowsMachine v (m' a b) (m b a).sent (seen_at_other seen a b)) (sym (off a b f)) (subst (λ p. FollowsMachine (view a b) p (m b a).sent (seen_at_other seen a b)) (sym ((c.all a b).there f)) (g.sides a b)))
      (cases_Bool (nat_eq a n)) in
      record {
        legal = c.legal;
        sides = λ a b. grows (view' a b) (m' a b) (m b a).sent (m' b a).sent (seen_at_other seen a b) (seen_at_other seen a b) (older b a).sent (λ l x d. d) (side a b);
        tells = told_all m m' seen seen older (λ a b l x d. d) frames g.tells;
      }
