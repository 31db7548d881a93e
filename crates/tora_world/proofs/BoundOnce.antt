-- Each end binds each pair of session numbers at most once.
use Rattle.std.proofs.Common.{◌≡◌, ◌≢◌, ℕ, ◌+◌, ◌<◌, ◌≤◌, Bool, true, false, true≢false, not, ◌&&◌, ◌⊎◌, inl, inr, ⊎_elim, List, [], ◌∷◌, Option, Some, None, nat_eq, if◌then◌else◌, refl, sym, ap, ◌∙◌, subst, arith}
use Rattle.std.proofs.lemmas.Bool.{cond_both, cases_Bool, and_parts}
use Rattle.std.specs.Prelude.{is_some}
use Rattle.tora_frame.specs.FrameParts.{FrameParts}
use Rattle.tora_arq.specs.declared.life.Life.{Life}
use Rattle.tora_arq.specs.declared.times.Times.{Times}
use Rattle.tora_arq.specs.declared.link_event.LinkEvent.{LinkEvent}
use Rattle.tora_arq.specs.declared.phase.Phase.{Phase}
use Rattle.tora_arq.specs.declared.phase.Phase.TheVariants.{Closed, Unbound, Bound}
use Rattle.tora_arq.specs.Lives.{is_same_life}
use Rattle.tora_arq.specs.Settings.{Settings}
use Rattle.tora_arq.specs.LinkEnd.{EndState, first_end, after_frame, after_tick, after_cut, after_transmit, frame_due, bound_life, first_event, after_poll_event}
use Rattle.tora_arq.specs.LinkFacts.{LinkCall, IsPossible, after_call, OpensWith}
use Rattle.tora_arq.specs.LinkFacts.LinkCall.{Frame as Hears, Tick as Ticks, Submit as Submits, Transmit as Transmits, Cut as Cuts}
use Rattle.tora_life.specs.declared.state.DiskCall.{DiskCall}
use Rattle.tora_life.specs.declared.state.DiskCall.TheVariants as Disk
use Rattle.tora_life.specs.State.{after_crash}
use Rattle.tora_life.specs.LifeFile.{file_value}
use Rattle.tora_life.specs.LifeRun.{LifeDisk, IsFloor, after_event, drawn_by, state_in}
use Rattle.tora_life.specs.LifeRun.LifeEvent.{Draw as DrawsNumber, Arm as ArmsDisk, Restart as OpensAnew}
use Rattle.tora_seat.specs.declared.item.Item.{Item}
use Rattle.tora_seat.specs.declared.cargo.Cargo.{Cargo}
use Rattle.tora_seat.specs.declared.cargo.Cargo.TheVariants as Gives
use Rattle.tora_seat.specs.Serving.{put_one}
use Rattle.tora_world.specs.declared.event.Event.{Event}
use Rattle.tora_world.specs.declared.event.Event.TheVariants.{Need, Tick, Open, Pull, Transmit, Deliver, Pump, CoreTurn, Arm, Restart}
use Rattle.tora_world.specs.declared.call.Call.{Call}
use Rattle.tora_world.specs.declared.call.Call.TheVariants as Fails
use Rattle.tora_world.specs.Topology.{Topology, is_link}
use Rattle.tora_world.specs.LinkMachine.{put_at}
use Rattle.tora_seat.specs.Between.{after_cargo}
use Rattle.tora_world.specs.World.{owner_of, World, Choice, settings, datagram, with_end, first_world, refusal_by, open_with, after_opening, after_pull, after_sending, after_receiving, after_pump, after_turn, is_file_of, with_armed_files, after_arming, reopened, effect_by, world_by}
use Rattle.tora_seat.specs.Between.{after_cut_of_bound}
use Rattle.tora_world.specs.FreeWorld.{FreeEvent, free_by, Schedule}
use Rattle.tora_world.specs.FreeWorld.FreeEvent.{Happens, TicksEnd, PumpsOver, Puts, CutsBound, ChangesFile, StartsAnew}
use Rattle.tora_world.specs.Law.{is_bound_to, times_bound, BindsOnce}
use Rattle.tora_world.specs.Layers.{LinkLaws, LifeLaws}
use Rattle.tora_world.proofs.PacketLists.{put_here, put_there, by_pair, same_true, same_refl}
use Rattle.tora_world.proofs.Events.{one_number}

-- the effect of one call on the phase
abbrev To : Phase → Phase → Type 0
To ph ph' = (ph' ≡ ph) ⊎ ((ph' ≡ Closed) ⊎ ((l : Life) × (ph ≡ Unbound l.own) × (ph' ≡ Bound l)))

abbrev Opens : Phase → LifeDisk → LifeDisk → Type 0
Opens ph file file' = (own : ℕ) × (ph ≡ Unbound own) × ((m : ℕ) → IsFloor m file → (m < own) × IsFloor own file')

-- the effect of an event on an end and its life file
record Onward (e e' : EndState) (file file' : LifeDisk) : Type 0 where
  floors : (m : ℕ) → IsFloor m file → IsFloor m file'
  phase : To e.phase e'.phase ⊎ Opens e'.phase file file'

abbrev Between : World → World → ℕ → ℕ → Type 0
Between w w' n k = Onward (w.ends n k) (w'.ends n k) (w.files n k) (w'.files n k)

module _ (laws : LinkLaws) (lows : LifeLaws) where
  call_phase : (s : Settings) (e : EndState) (call : LinkCall) → IsPossible e call → ((x : ℕ) → OpensWith x call → ⊥) → To e.phase (after_call s e call).phase
  call_phase s e call ok not_open = go (after_call s e call).phase refl
    where
      go : (ph : Phase) → (after_call s e call).phase ≡ ph → To e.phase (after_call s e call).phase
      go Closed q = inr (inl q)
      go (Unbound own) q = ⊎_elim (λ b. inl (q ∙ sym b)) (λ o. absurd (not_open own o.1)) (laws.opens s e call ok own q)
      go (Bound l) q = ⊎_elim (λ b. inl (q ∙ sym b)) (λ b. inr (inr (l, b.0, q))) (laws.binds s e call ok l q)

  cargo_phase : (s : Settings) (e : EndState) (c : Cargo) → To e.phase (after_cargo e c).phase
  cargo_phase s e (Gives.Packet l p) = call_phase s e (Submits l p) tt (λ x o. o)
  cargo_phase s e (Gives.Cut l) = call_phase s e (Cuts l) tt (λ x o. o)

  module _ (w : World) (a b : ℕ) where
    still : Between w w a b
    still = record { floors = λ m f. f; phase = inl (inl refl) }

    one_end : (n k : ℕ) (e : EndState) (w' : World) → w'.ends ≡ put_at w.ends n k e → w'.files ≡ w.files → To (w.ends n k).phase e.phase → Between w w' a b
    one_end n k e w' q r t = record {
      floors = λ m f. subst (λ fs. IsFloor m (fs a b)) (sym r) f;
      phase = inl (subst (λ es. To (w.ends a b).phase (es a b).phase) (sym q)
          (by_pair (λ x y. To (w.ends x y).phase (put_at w.ends n k e x y).phase) n k
          (subst (λ (z : EndState). To (w.ends n k).phase z.phase) (sym (put_here w.ends n k e)) t)
          (λ x y o. subst (λ (z : EndState). To (w.ends x y).phase z.phase) (sym (put_there w.ends n k e x y o)) (inl refl)) a b));
    }

    same_ends : (w' : World) → w'.ends ≡ w.ends → w'.files ≡ w.files → Between w w' a b
    same_ends w' q r = record { floors = λ m f. subst (λ fs. IsFloor m (fs a b)) (sym r) f; phase = inl (inl (ap (λ es. (es a b).phase) q)) }

    opening_between : (c : Choice) (n k : ℕ) → Between w (after_opening w c n k) a b
    opening_between c n k =
        by_pair (λ x y. Onward (w.ends x y) (put_at w.ends n k (open_with (w.ends n k) (c.now n k) (drawn_by DrawsNumber (w.files n k))) x y) (w.files x y) (put_at w.files n k (after_event DrawsNumber (w.files n k)) x y)) n k
        (both (sym (put_here w.ends n k (open_with (w.ends n k) (c.now n k) (drawn_by DrawsNumber (w.files n k))))) (sym (put_here w.files n k (after_event DrawsNumber (w.files n k)))) (here (one_number (w.files n k))))
        (λ x y o. both' x y (sym (put_there w.ends n k (open_with (w.ends n k) (c.now n k) (drawn_by DrawsNumber (w.files n k))) x y o)) (sym (put_there w.files n k (after_event DrawsNumber (w.files n k)) x y o)) (record { floors = λ m f. f; phase = inl (inl refl) }))
        a b
      where
        both : {e e' : EndState} {f f' : LifeDisk} → e ≡ e' → f ≡ f' → Onward (w.ends n k) e (w.files n k) f → Onward (w.ends n k) e' (w.files n k) f'
        both p q o = subst (λ (z : EndState × LifeDisk). Onward (w.ends n k) z.0 (w.files n k) z.1) (λ i. (p i, q i)) o

        both' : (x y : ℕ) {e e' : EndState} {f f' : LifeDisk} → e ≡ e' → f ≡ f' → Onward (w.ends x y) e (w.files x y) f → Onward (w.ends x y) e' (w.files x y) f'
        both' x y p q o = subst (λ (z : EndState × LifeDisk). Onward (w.ends x y) z.0 (w.files x y) z.1) (λ i. (p i, q i)) o

        here : (drawn_by DrawsNumber (w.files n k) ≡ []) ⊎ ((x : ℕ) × (drawn_by DrawsNumber (w.files n k) ≡ x ∷ [])) → Onward (w.ends n k) (open_with (w.ends n k) (c.now n k) (drawn_by DrawsNumber (w.files n k))) (w.files n k) (after_event DrawsNumber (w.files n k))
        here (inl e) = record {
          floors = λ m f. lows.keep m DrawsNumber (w.files n k) f tt;
          phase = inl (inl (ap (λ xs. (open_with (w.ends n k) (c.now n k) xs).phase) e));
        }
        here (inr (x, e)) = record {
          floors = λ m f. lows.keep m DrawsNumber (w.files n k) f tt;
          phase = inr (x, ap (λ xs. (open_with (w.ends n k) (c.now n k) xs).phase) e, λ m f. lows.draw m x (w.files n k) f e);
        }

    armed_between : (n : ℕ) (call : DiskCall) → Between w (with_armed_files w n call) a b
    armed_between n call = record {
      floors = λ m f. cond_both (is_file_of w n a b) (after_event (ArmsDisk call) (w.files a b)) (w.files a b) (IsFloor m) (λ _. lows.keep m (ArmsDisk call) (w.files a b) f tt) (λ _. f);
      phase = inl (inl refl);
    }

    pumped_between : (c : Choice) (n k : ℕ) (o : Option LinkEvent) → Between w (after_pump w c n k o) a b
    pumped_between c n k None = still
    pumped_between c n k (Some event) = one_end n k (after_poll_event (w.ends n k)) (after_pump w c n k (Some event)) refl refl (inl refl)

    cut_between : (n k : ℕ) (o : Option Life) → Between w (with_end w n k (after_cut_of_bound (w.ends n k) o)) a b
    cut_between n k None = one_end n k (w.ends n k) (with_end w n k (w.ends n k)) refl refl (inl refl)
    cut_between n k (Some l) = one_end n k (after_cut (w.ends n k) l) (with_end w n k (after_cut (w.ends n k) l)) refl refl (call_phase (settings w n k) (w.ends n k) (Cuts l) tt (λ x o. o))

    changed_between : (n k : ℕ) (file : LifeDisk) → ((m : ℕ) → IsFloor m (w.files n k) → IsFloor m file) → Between w (record w { files = put_at w.files n k file }) a b
    changed_between n k file kept = record {
      floors = λ m. by_pair (λ x y. IsFloor m (w.files x y) → IsFloor m (put_at w.files n k file x y)) n k
          (λ f. subst (IsFloor m) (sym (put_here w.files n k file)) (kept m f))
          (λ x y o f. subst (IsFloor m) (sym (put_there w.files n k file x y o)) f) a b;
      phase = inl (inl refl);
    }

    anew_phase : (n : ℕ) → To (w.ends a b).phase (if nat_eq a n then first_end else w.ends a b).phase
    anew_phase n = cond_both (nat_eq a n) first_end (w.ends a b) (λ (e : EndState). To (w.ends a b).phase e.phase) (λ _. inr (inl refl)) (λ _. inl refl)

    onward : (c : Choice) (event : Event) → Between w (effect_by c w event) a b
    unfolding effect_by
    onward c (Need n d) = same_ends (effect_by c w (Need n d)) refl refl
    onward c Tick = record { floors = λ m f. f; phase = inl (call_phase (settings w a b) (w.ends a b) (Ticks (c.now a b)) tt (λ x o. o)) }
    onward c (Open n k) = opening_between c n k
    onward c (Pull n k) = go (w.cargoes n k)
      where
        go : (cs : List Cargo) → Between w (after_pull w n k cs) a b
        go [] = still
        go (x ∷ cs) = one_end n k (after_cargo (w.ends n k) x) (after_pull w n k (x ∷ cs)) refl refl (cargo_phase (settings w n k) (w.ends n k) x)
    onward c (Transmit n k) = go (frame_due (settings w n k) (w.ends n k) (c.now n k))
      where
        go : (o : Option FrameParts) → Between w (after_sending w n k (after_transmit (settings w n k) (w.ends n k) (c.now n k)) o) a b
        go None = still
        go (Some f) = one_end n k (after_transmit (settings w n k) (w.ends n k) (c.now n k)) (after_sending w n k (after_transmit (settings w n k) (w.ends n k) (c.now n k)) (Some f)) refl refl
            (call_phase (settings w n k) (w.ends n k) (Transmits (c.now n k)) tt (λ x o. o))
    onward c (Deliver i) = go (datagram w i)
      where
        go : (o : Option FrameParts) → Between w (after_receiving w c o) a b
        go None = still
        go (Some f) = cond_both (w.arms f.header.receiver).receive _ _ (λ (x : World). Between w x a b)
            (λ _. same_ends (record w { arms = put_one w.arms f.header.receiver (record (w.arms f.header.receiver) { receive = false }) }) refl refl)
            (λ _. one_end f.header.receiver f.header.sender (after_frame (settings w f.header.receiver f.header.sender) (w.ends f.header.receiver f.header.sender) f (c.now f.header.receiver f.header.sender)) (with_end w f.header.receiver f.header.sender (after_frame (settings w f.header.receiver f.header.sender) (w.ends f.header.receiver f.header.sender) f (c.now f.header.receiver f.header.sender))) refl refl
            (call_phase (settings w f.header.receiver f.header.sender) (w.ends f.header.receiver f.header.sender) (Hears f (c.now f.header.receiver f.header.sender)) tt (λ x o. o)))
    onward c (Pump n k) = pumped_between c n k (first_event (w.ends n k))
    onward c (CoreTurn n) = go (w.items n)
      where
        go : (is : List Item) → Between w (after_turn w c n is) a b
        go [] = still
        go (x ∷ is) = same_ends (after_turn w c n (x ∷ is)) refl refl
    onward c (Arm n call) = go call
      where
        go : (x : Call) → Between w (after_arming w n x) a b
        go Fails.SendLost = same_ends (after_arming w n Fails.SendLost) refl refl
        go Fails.SendGone = same_ends (after_arming w n Fails.SendGone) refl refl
        go Fails.Receive = same_ends (after_arming w n Fails.Receive) refl refl
        go Fails.Read = armed_between n Disk.Read
        go Fails.Write = armed_between n Disk.Write
        go Fails.Sync = armed_between n Disk.Sync
    onward c (Restart n torn) = record {
      floors = λ m f. cond_both (is_file_of w n a b) (reopened torn (w.files a b)) (w.files a b) (IsFloor m) (λ _. lows.keep m (OpensAnew (after_crash torn (state_in (w.files a b)))) (w.files a b) f (lows.crash m torn (w.files a b) f)) (λ _. f);
      phase = inl (anew_phase n);
    }

    onward_world : (c : Choice) (event : Event) → Between w (world_by c w event) a b
    unfolding world_by
    onward_world c event = cond_both (is_some (refusal_by c w event)) _ _ (λ (x : World). Between w x a b) (λ _. still) (λ _. onward c event)

    -- the life files are unchanged
    started_between : (c : Choice) (n : ℕ) → Between w (free_by c w (StartsAnew n)) a b
    unfolding world_by effect_by
    started_between c n =
        cond_both (is_some (refusal_by c w (Restart n None))) _ _ (λ (x : World). Between w (record x { files = w.files }) a b) (λ _. record { floors = λ m f. f; phase = inl (inl refl) })
        (λ _. record { floors = λ m f. f; phase = inl (anew_phase n) })

    onward_free : (c : Choice) (event : FreeEvent) → Between w (free_by c w event) a b
    onward_free c (Happens event) = onward_world c event
    onward_free c (TicksEnd n k) = one_end n k (after_tick (settings w n k) (w.ends n k) (c.now n k)) (free_by c w (TicksEnd n k)) refl refl (call_phase (settings w n k) (w.ends n k) (Ticks (c.now n k)) tt (λ x o. o))
    onward_free c (PumpsOver n k) = cond_both (is_link w.topology n k) _ _ (λ (x : World). Between w x a b) (λ _. pumped_between c n k (first_event (w.ends n k))) (λ _. still)
    onward_free c (Puts n seat what silent) = same_ends (free_by c w (Puts n seat what silent)) refl refl
    onward_free c (CutsBound n k) = cut_between n k (bound_life (w.ends n k))
    onward_free c (ChangesFile n k change kept) = changed_between n k (change (w.files n k)) (λ m. kept m (w.files n k))
    onward_free c (StartsAnew n) = started_between c n

-- the own number of an end is at most this
abbrev Under : Phase → ℕ → Type 0
Under Closed m = Unit {0}
Under (Unbound own) m = own ≤ m
Under (Bound l) m = l.own ≤ m

-- no session number of an end is drawn again
record Below (e : EndState) (file : LifeDisk) : Type 0 where
  floor : ℕ
  kept : IsFloor floor file
  under : Under e.phase floor

below_on : (e e' : EndState) (file file' : LifeDisk) → Onward e e' file file' → Below e file → Below e' file'
below_on e e' file file' o h = go o.phase
  where
    go : (To e.phase e'.phase ⊎ Opens e'.phase file file') → Below e' file'
    go (inl (inl q)) = record { floor = h.floor; kept = o.floors h.floor h.kept; under = subst (λ x. Under x h.floor) (sym q) h.under }
    go (inl (inr (inl q))) = record { floor = h.floor; kept = o.floors h.floor h.kept; under = subst (λ x. Under x h.floor) (sym q) tt }
    go (inl (inr (inr b))) = record { floor = h.floor; kept = o.floors h.floor h.kept; under = subst (λ x. Under x h.floor) (sym b.2) (subst (λ x. Under x h.floor) b.1 h.under) }
    go (inr b) = record { floor = b.0; kept = (b.2 h.floor h.kept).1; under = subst (λ x. Under x b.0) (sym b.1) (omega arith) }

pub bound_to : (l : Life) (ph : Phase) → is_bound_to l ph ≡ true → ph ≡ Bound l
bound_to l Closed e = absurd (true≢false (sym e))
bound_to l (Unbound own) e = absurd (true≢false (sym e))
bound_to l (Bound j) e = ap Bound (sym (same_true l j e))

pub not_bound_to : (l : Life) (ph : Phase) → ph ≢ Bound l → is_bound_to l ph ≡ false
not_bound_to l Closed n = refl
not_bound_to l (Unbound own) n = refl
not_bound_to l (Bound j) n = ⊎_elim (λ e. absurd (n (bound_to l (Bound j) e))) (λ e. e) (cases_Bool (is_same_life l j))

-- a session that is over and does not return
record Past (l : Life) (e : EndState) (file : LifeDisk) : Type 0 where
  floor : ℕ
  kept : IsFloor floor file
  below : l.own ≤ floor
  left : e.phase ≢ Bound l
  waits : (own : ℕ) → e.phase ≡ Unbound own → l.own < own

past_on : (l : Life) (e e' : EndState) (file file' : LifeDisk) → Onward e e' file file' → Past l e file → Past l e' file'
past_on l e e' file file' o h = go o.phase
  where
    go : (To e.phase e'.phase ⊎ Opens e'.phase file file') → Past l e' file'
    go (inl (inl q)) = record { floor = h.floor; kept = o.floors h.floor h.kept; below = h.below; left = λ j. h.left (sym q ∙ j); waits = λ own w. h.waits own (sym q ∙ w) }
    go (inl (inr (inl q))) = record {
      floor = h.floor;
      kept = o.floors h.floor h.kept;
      below = h.below;
      left = λ j. let y : Closed ≡ Bound l = sym q ∙ j in absurd (cc);
      waits = λ own w. let y : Closed ≡ Unbound own = sym q ∙ w in absurd (cc);
    }
    go (inl (inr (inr b))) =
        let lt : l.own < b.0.own = h.waits b.0.own b.1 in record {
          floor = h.floor;
          kept = o.floors h.floor h.kept;
          below = h.below;
          left = λ j. let q : Bound b.0 ≡ Bound l = sym b.2 ∙ j in let z : b.0 ≡ l = cc in let y : b.0.own ≡ l.own = ap (λ (x : Life). x.own) z in absurd (omega (arith, y, lt));
          waits = λ own w. let q : Bound b.0 ≡ Unbound own = sym b.2 ∙ w in absurd (cc);
        }
    go (inr b) =
        let d = b.2 h.floor h.kept in record {
          floor = b.0;
          kept = d.1;
          below = omega (arith, h.below, d.0);
          left = λ j. let q : Unbound b.0 ≡ Bound l = sym b.1 ∙ j in absurd (cc);
          waits = λ own w. let q : Unbound b.0 ≡ Unbound own = sym b.1 ∙ w in let z : b.0 ≡ own = cc in omega (arith, h.below, d.0, z);
        }

-- a session that ends does not return
leaves_on : (l : Life) (e e' : EndState) (file file' : LifeDisk) → Onward e e' file file' → e.phase ≡ Bound l → Below e file → e'.phase ≢ Bound l → Past l e' file'
leaves_on l e e' file file' o j h n = go o.phase
  where
    under : l.own ≤ h.floor
    under = subst (λ x. Under x h.floor) j h.under

    go : (To e.phase e'.phase ⊎ Opens e'.phase file file') → Past l e' file'
    go (inl (inl q)) = absurd (n (q ∙ j))
    go (inl (inr (inl q))) = record { floor = h.floor; kept = o.floors h.floor h.kept; below = under; left = n; waits = λ own w. let y : Closed ≡ Unbound own = sym q ∙ w in absurd (cc) }
    go (inl (inr (inr b))) = absurd (let q : Bound l ≡ Unbound b.0.own = sym j ∙ b.1 in cc)
    go (inr b) =
        let d = b.2 h.floor h.kept in
        record { floor = b.0; kept = d.1; below = omega (arith, under, d.0); left = n; waits = λ own w. let q : Unbound b.0 ≡ Unbound own = sym b.1 ∙ w in let z : b.0 ≡ own = cc in omega (arith, under, d.0, z) }

module _ (laws : LinkLaws) (lows : LifeLaws) (n k : ℕ) (l : Life) where
  past_none : (es : Schedule) (w : World) → Past l (w.ends n k) (w.files n k) → times_bound n k l es w ≡ 0
  past_none [] w p = refl
  past_none (e ∷ es) w p =
      let w' : World = free_by e.1 w e.0 in
      let p' = past_on l (w.ends n k) (w'.ends n k) (w.files n k) (w'.files n k) (onward_free laws lows w n k e.1 e.0) p in
      let z : times_bound n k l es w' ≡ 0 = past_none es w' p' in
      ap (λ b. (if b && not (is_bound_to l (w.ends n k).phase) then 1 else 0) + times_bound n k l es w') (not_bound_to l (w'.ends n k).phase p'.left) ∙ omega arith

  bound_none : (es : Schedule) (w : World) → (w.ends n k).phase ≡ Bound l → Below (w.ends n k) (w.files n k) → times_bound n k l es w ≡ 0
  bound_none [] w j h = refl
  bound_none (e ∷ es) w j h =
      let w' : World = free_by e.1 w e.0 in
      let o = onward_free laws lows w n k e.1 e.0 in
      ap (λ ph. (if is_bound_to l (w'.ends n k).phase && not (is_bound_to l ph) then 1 else 0) + times_bound n k l es w') j
      ∙ ap (λ b. (if is_bound_to l (w'.ends n k).phase && not b then 1 else 0) + times_bound n k l es w') (same_refl l)
      ∙ ap (λ (b : Bool). (if b then 1 else 0) + times_bound n k l es w') (and_off (is_bound_to l (w'.ends n k).phase))
      ∙ go o (λ q. bound_none es w' q (below_on (w.ends n k) (w'.ends n k) (w.files n k) (w'.files n k) o h)) (cases_Bool (is_bound_to l (w'.ends n k).phase))
    where
      and_off : (b : Bool) → (b && false) ≡ false
      and_off true = refl
      and_off false = refl

      go : Between w (free_by e.1 w e.0) n k → (((free_by e.1 w e.0).ends n k).phase ≡ Bound l → times_bound n k l es (free_by e.1 w e.0) ≡ 0) →
          (is_bound_to l ((free_by e.1 w e.0).ends n k).phase ≡ true) ⊎ (is_bound_to l ((free_by e.1 w e.0).ends n k).phase ≡ false) → 0 + times_bound n k l es (free_by e.1 w e.0) ≡ 0
      go o again (inl t) = let z = again (bound_to l ((free_by e.1 w e.0).ends n k).phase t) in omega (arith, z)
      go o again (inr t) =
          let z = past_none es (free_by e.1 w e.0) (leaves_on l (w.ends n k) ((free_by e.1 w e.0).ends n k) (w.files n k) ((free_by e.1 w e.0).files n k) o j h
          (λ q. true≢false (sym (same_refl l) ∙ ap (is_bound_to l) (sym q) ∙ t))) in omega (arith, z)

  at_most_once : (es : Schedule) (w : World) → Below (w.ends n k) (w.files n k) → times_bound n k l es w ≤ 1
  at_most_once [] w h = omega arith
  at_most_once (e ∷ es) w h =
      let w' : World = free_by e.1 w e.0 in
      let h' = below_on (w.ends n k) (w'.ends n k) (w.files n k) (w'.files n k) (onward_free laws lows w n k e.1 e.0) h in
      let rest : times_bound n k l es w' ≤ 1 = at_most_once es w' h' in
      cond_both (is_bound_to l (w'.ends n k).phase && not (is_bound_to l (w.ends n k).phase)) 1 0 (λ x. x + times_bound n k l es w' ≤ 1)
      (λ t. let j : (w'.ends n k).phase ≡ Bound l = bound_to l (w'.ends n k).phase (and_parts _ _ t).0 in
      let z : times_bound n k l es w' ≡ 0 = bound_none es w' j h' in omega arith)
      (λ _. omega arith)

pub binds_once : (laws : LinkLaws) (lows : LifeLaws) (t : Topology) (times : Times) (es : Schedule) → BindsOnce (first_world t times) es
binds_once laws lows t times es n k l = at_most_once laws lows n k l es (first_world t times) (record { floor = file_value []; kept = lows.first (owner_of n k) [] (omega arith); under = tt })
