-- A part of the thread of a link is one or two events of the free world.
use Rattle.std.proofs.Common.{◌≡◌, ℕ, zero, suc, ◌<◌, ◌≤◌, ◌^◌, true, false, ◌⊎◌, inl, inr, ⊎_elim, List, [], ◌∷◌, ◌++◌, Some, None, Ok, Err, nat_eq, if◌then◌else◌, refl, sym, ap, ap₂, ◌∙◌, subst, arith}
use Rattle.std.proofs.lemmas.Bool.{cond_both}
use Rattle.std.specs.Prelude.{is_some, not, drop, slice_get, IsTrue}
use Rattle.tora_frame.specs.FrameParts.{FrameParts}
use Rattle.tora_frame.specs.declared.FrameError.{FrameError}
use Rattle.tora_arq.specs.declared.link_event.LinkEvent.{LinkEvent}
use Rattle.tora_arq.specs.declared.phase.Phase.{Phase}
use Rattle.tora_arq.specs.declared.phase.Phase.TheVariants.{Closed, Unbound, Bound}
use Rattle.tora_arq.specs.declared.verdict.Verdict.{Verdict}
use Rattle.tora_arq.specs.declared.verdict.Verdict.TheVariants.{Accepted, Repeated, Ahead, Stale, Foreign, Busy}
use Rattle.tora_arq.specs.Settings.{Settings}
use Rattle.tora_arq.specs.LinkEnd.{EndState, is_closed, bound_life, after_open, after_tick, after_frame, verdict_of, frame_due, after_transmit, first_event}
use Rattle.tora_arq.specs.LinkFacts.{LinkCall, frame_sent_by, IsFrameSent, IsFrameSentIn}
use Rattle.tora_arq.specs.LinkFacts.LinkCall.{Transmit as Transmits}
use Rattle.tora_life.specs.LifeRun.{LifeDisk, owner_in, after_event, drawn_by}
use Rattle.tora_life.specs.LifeRun.LifeDisk.{Opened, Unopened}
use Rattle.tora_life.specs.LifeRun.LifeEvent.{Draw}
use Rattle.tora_life.specs.declared.tags.Owner.{Owner}
use Rattle.tora_seat.specs.declared.what.What.TheVariants as Told
use Rattle.tora_seat.specs.declared.cargo.Cargo.{Cargo}
use Rattle.tora_seat.specs.Serving.{put_one}
use Rattle.tora_world.specs.declared.event.Event.TheVariants.{Open, Pull, Transmit, Deliver}
use Rattle.tora_world.specs.declared.sim_error.SimError.TheVariants as Refused
use Rattle.tora_world.specs.Topology.{is_link}
use Rattle.tora_world.specs.Lists.{IsIn}
use Rattle.tora_world.specs.LinkMachine.{put_at}
use Rattle.tora_seat.specs.Between.{after_cargo}
use Rattle.tora_world.specs.World.{World, Choice, Sending, settings, neighbours, datagram, is_empty, effect_by, with_end, with_item, open_with, after_pull, with_datagram, after_sending, after_receiving, after_pump}
use Rattle.tora_seat.specs.Offers.{place_of}
use Rattle.tora_world.specs.World.Sending.{Goes, IsLost, IsGone}
use Rattle.tora_seat.specs.Between.{after_cut_of_bound}
use Rattle.tora_world.specs.FreeWorld.{MayBecome, after_schedule}
use Rattle.tora_world.specs.FreeWorld.FreeEvent.{Happens, TicksEnd, PumpsOver, Puts, CutsBound, ChangesFile}
use Rattle.tora_world.proofs.PacketLists.{by_pair, put_cases, put_here, put_there}
use Rattle.tora_running.specs.Parts as parts
use Rattle.tora_running.specs.Parts.{LinkPart}
use Rattle.tora_running.specs.Parts.LinkPart.{Opens, Ticks, Takes, Sends, Hears, Tells, Beats, Breaks}
use Rattle.tora_running.specs.Network as net
use Rattle.tora_running.specs.Network.{Network, IsFront, after_part}
use Rattle.tora_running.specs.Network.Part.{OfLink}
use Rattle.tora_running.proofs.LifeFiles.{FileLaws, IsUnder, raised, becomes_raised, raised_draws, raised_left}
use Rattle.tora_running.proofs.PartEvents.{network_of, WentOut, IsUnarmed, IsBeside, Reaches, by_one, by_two, is_possible, world_is, at_tick}

-- ---- lists

in_push : {A : Type 0} (x y : A) (xs : List A) → IsIn x (xs ++ y ∷ []) → IsIn x xs ⊎ (x ≡ y)
in_push x y [] (inl e) = inr e
in_push x y [] (inr o) = absurd o
in_push x y (z ∷ xs) (inl e) = inl (inl e)
in_push x y (z ∷ xs) (inr i) = ⊎_elim (λ j. inl (inr j)) (λ e. inr e) (in_push x y xs i)

in_more : {A : Type 0} (x y : A) (xs : List A) → IsIn x xs → IsIn x (xs ++ y ∷ [])
in_more x y [] i = absurd i
in_more x y (z ∷ xs) (inl e) = inl e
in_more x y (z ∷ xs) (inr i) = inr (in_more x y xs i)

in_last : {A : Type 0} (x : A) (xs : List A) → IsIn x (xs ++ x ∷ [])
in_last x [] = inl refl
in_last x (z ∷ xs) = inr (in_last x xs)

place_in : {A : Type 0} (x : A) (xs : List A) → IsIn x xs → (i : ℕ) × (slice_get xs i ≡ Some x)
place_in x [] i = absurd i
place_in x (y ∷ xs) (inl e) = (0, ap Some (sym e))
place_in x (y ∷ xs) (inr i) = let r = place_in x xs i in (suc r.0, r.1)

put_same : {A : Type 0} (f : ℕ → ℕ → A) (n k : ℕ) → put_at f n k (f n k) ≡ f
put_same f n k = λ i a b. put_cases (λ a b v. v ≡ f a b) f n k (f n k) refl (λ a b. refl) a b i

-- ---- frames

-- a frame of an end has the end's node and neighbour in its header
ends_of_frame : (s : Settings) (e : EndState) (f : FrameParts) (phase : Phase) → IsFrameSentIn s e f phase → (f.header.sender ≡ s.me) × (f.header.receiver ≡ s.peer)
ends_of_frame s e f Closed h = absurd h
ends_of_frame s e f (Unbound own) h = (ap (λ (x : FrameParts). x.header.sender) h, ap (λ (x : FrameParts). x.header.receiver) h)
ends_of_frame s e f (Bound life) h = (ap (λ (x : FrameParts). x.header.sender) h.0, ap (λ (x : FrameParts). x.header.receiver) h.0)

-- the laws of link ends that are used: which frames an end sends, and that a frame that is refused changes nothing
pub record FrameLaws : Type 0 where
  pub sent : (s : Settings) (e : EndState) (call : LinkCall) (f : FrameParts) → frame_sent_by s e call ≡ Some f → IsFrameSent s e f
  pub foreign : (s : Settings) (e : EndState) (f : FrameParts) (now : ℕ) → verdict_of s e f now ≡ Foreign → after_frame s e f now ≡ e
  pub busy : (s : Settings) (e : EndState) (f : FrameParts) (now : ℕ) → verdict_of s e f now ≡ Busy → after_frame s e f now ≡ e
  pub stale : (s : Settings) (e : EndState) (f : FrameParts) (now : ℕ) → verdict_of s e f now ≡ Stale → after_frame s e f now ≡ e

refused_changes_nothing : FrameLaws → (s : Settings) (e : EndState) (f : FrameParts) (now : ℕ) (v : Verdict) → verdict_of s e f now ≡ v → net.IsRefusal v → after_frame s e f now ≡ e
refused_changes_nothing laws s e f now Foreign q h = laws.foreign s e f now q
refused_changes_nothing laws s e f now Busy q h = laws.busy s e f now q
refused_changes_nothing laws s e f now Stale q h = laws.stale s e f now q
refused_changes_nothing laws s e f now Accepted q h = absurd h
refused_changes_nothing laws s e f now Repeated q h = absurd h
refused_changes_nothing laws s e f now Ahead q h = absurd h

under_more : (m m' : ℕ) (disk : LifeDisk) → m ≤ m' → IsUnder m disk → IsUnder m' disk
under_more m m' (Opened owner numbers s) le h = omega (arith, le, h)
under_more m m' (Unopened owner s) le h = absurd h

module _ (w : World) (numbers : ℕ → ℕ → ℕ) (frames : ℕ → ℕ → List FrameParts) (b : IsBeside w numbers frames) (n k : ℕ) (link : is_link w.topology n k ≡ true) where
  abbrev Leads : LinkPart → Type 0
  Leads part = Reaches w (after_part (network_of w numbers frames) (OfLink n k part))

  tick_leads : (now : ℕ) → Leads (Ticks now)
  tick_leads now = by_one w (TicksEnd n k) (at_tick now []) (with_end w n k (after_tick (settings w n k) (w.ends n k) now)) numbers frames refl b

  break_leads : Leads Breaks
  break_leads = by_one w (CutsBound n k) (at_tick 0 []) (with_end w n k (after_cut_of_bound (w.ends n k) (bound_life (w.ends n k)))) numbers frames refl b

  tell_leads : (now : ℕ) (event : LinkEvent) → first_event (w.ends n k) ≡ Some event → Leads (Tells now event)
  tell_leads now event first =
      by_one w (PumpsOver n k) (at_tick now []) (after_pump w (at_tick now []) n k (Some event)) numbers frames
      (ap₂ (λ here o. if here then after_pump w (at_tick now []) n k o else w) link first) b

  beat_leads : (now : ℕ) → Leads (Beats now)
  beat_leads now =
      subst (λ ends. Reaches w (net.with_item (record (network_of w numbers frames) { ends = ends }) n (place_of k (neighbours w n)) now Told.Beat)) (sym (put_same w.ends n k))
      (by_one w (Puts n (place_of k (neighbours w n)) Told.Beat tt) (at_tick now []) (with_item w n (place_of k (neighbours w n)) now Told.Beat) numbers frames refl b)

  take_leads : (cargo : Cargo) → IsFront cargo (w.cargoes n k) → Leads (Takes cargo)
  unfolding effect_by
  take_leads cargo front = go (w.cargoes n k) refl front
    where
      taken : List Cargo → Network
      taken rest = record (network_of w numbers frames) { ends = put_at w.ends n k (after_cargo (w.ends n k) cargo); cargoes = put_at w.cargoes n k rest }

      go : (cargoes : List Cargo) → w.cargoes n k ≡ cargoes → IsFront cargo cargoes → Leads (Takes cargo)
      go [] q i = absurd i
      go (x ∷ rest) q i =
          let here : w.cargoes n k ≡ cargo ∷ rest = q ∙ ap (λ y. y ∷ rest) (sym i) in
          subst (λ ys. Reaches w (taken ys)) (sym (ap (drop 1) here))
          (by_one w (Happens (Pull n k)) (at_tick 0 []) (after_pull w n k (cargo ∷ rest)) numbers frames
          (world_is (at_tick 0 []) w (Pull n k) (is_possible (is_link w.topology n k) (not (is_empty (w.cargoes n k))) link (ap (λ ys. not (is_empty ys)) here)) ∙ ap (after_pull w n k) here) b)

  send_leads : FrameLaws → (now : ℕ) (frame : FrameParts) (sending : Sending) → frame_due (settings w n k) (w.ends n k) now ≡ Some frame → Leads (Sends now frame sending)
  unfolding effect_by
  send_leads laws now frame sending due =
      by_one w (Happens (Transmit n k)) (at_tick now []) (after_sending w n k (after_transmit (settings w n k) (w.ends n k) now) (Some frame)) numbers (put_at frames n k (with_datagram sending (frames n k) frame))
      (world_is (at_tick now []) w (Transmit n k) (is_possible (is_link w.topology n k) (is_some (frame_due (settings w n k) (w.ends n k) now)) link (ap is_some due)) ∙ ap (after_sending w n k (after_transmit (settings w n k) (w.ends n k) now)) due)
      (record {
        unarmed = λ a. cond_both (nat_eq a n) (record (w.arms n) { sending = Goes }) (w.arms a) IsUnarmed (λ _. record { sending = refl; receive = (b.unarmed n).receive }) (λ _. b.unarmed a);
        under = b.under;
        went_out = put_cases (λ a j fs. (f : FrameParts) → IsIn f fs → WentOut datagrams a j f) frames n k (with_datagram sending (frames n k) frame) (went sending) (λ a j f i. more a j f (b.went_out a j f i));
      })
    where
      datagrams : List FrameParts
      datagrams = with_datagram (w.arms n).sending w.datagrams frame

      all : datagrams ≡ w.datagrams ++ frame ∷ []
      all = ap (λ x. with_datagram x w.datagrams frame) (b.unarmed n).sending

      more : (a j : ℕ) (f : FrameParts) → WentOut w.datagrams a j f → WentOut datagrams a j f
      more a j f h = record { sender = h.sender; receiver = h.receiver; among = subst (IsIn f) (sym all) (in_more f frame w.datagrams h.among) }

      this : (f : FrameParts) → f ≡ frame → WentOut datagrams n k f
      this f e =
          let s = settings w n k in
          let x = ends_of_frame s (w.ends n k) frame (w.ends n k).phase (laws.sent s (w.ends n k) (Transmits now) frame due) in
          subst (λ y. WentOut datagrams n k y) (sym e) (record { sender = x.0; receiver = x.1; among = subst (IsIn frame) (sym all) (in_last frame w.datagrams) })

      pushed : (f : FrameParts) → IsIn f (frames n k ++ frame ∷ []) → WentOut datagrams n k f
      pushed f i = ⊎_elim (λ j. more n k f (b.went_out n k f j)) (λ e. this f e) (in_push f frame (frames n k) i)

      went : (x : Sending) (f : FrameParts) → IsIn f (with_datagram x (frames n k) frame) → WentOut datagrams n k f
      went Goes f i = pushed f i
      went IsLost f i = more n k f (b.went_out n k f i)
      went IsGone f i = pushed f i

  hear_leads : (now : ℕ) (frame : FrameParts) → IsIn frame (frames k n) → Leads (Hears now (Ok frame))
  unfolding effect_by
  hear_leads now frame i =
      by_one w (Happens (Deliver (suc place))) c (with_end w n k (after_frame (settings w n k) (w.ends n k) frame now)) numbers frames
      (world_is c w (Deliver (suc place)) (ap (λ o. is_some (if is_some o then None else Some Refused.NoDatagram)) at) ∙ ap (after_receiving w c) at
      ∙ ap (λ x. if x then record w { arms = put_one w.arms frame.header.receiver (record (w.arms frame.header.receiver) { receive = false }) } else heard frame.header.receiver frame.header.sender) (b.unarmed frame.header.receiver).receive
      ∙ ap₂ heard out.receiver out.sender) b
    where
      c : Choice
      c = at_tick now []

      out : WentOut w.datagrams k n frame
      out = b.went_out k n frame i

      found : (place : ℕ) × (slice_get w.datagrams place ≡ Some frame)
      found = place_in frame w.datagrams out.among

      place : ℕ
      place = found.0

      at : datagram w (suc place) ≡ Some frame
      at = found.1

      heard : ℕ → ℕ → World
      heard a j = with_end w a j (after_frame (settings w a j) (w.ends a j) frame now)

  -- a refused frame is no event
  refuse_leads : FrameLaws → (now : ℕ) (frame : FrameParts) → net.IsRefusal (verdict_of (settings w n k) (w.ends n k) frame now) → Leads (Hears now (Ok frame))
  unfolding after_schedule
  refuse_leads laws now frame refused =
      subst (λ e. Reaches w (record (network_of w numbers frames) { ends = put_at w.ends n k e })) (sym (refused_changes_nothing laws (settings w n k) (w.ends n k) frame now (verdict_of (settings w n k) (w.ends n k) frame now) refl refused))
      (subst (λ ends. Reaches w (record (network_of w numbers frames) { ends = ends })) (sym (put_same w.ends n k)) (record { es = []; numbers = numbers; frames = frames; shows = refl; other = b }))

  bad_leads : (now : ℕ) (error : FrameError) → Leads (Hears now (Err error))
  unfolding after_schedule
  bad_leads now error =
      subst (λ ends. Reaches w (record (network_of w numbers frames) { ends = ends })) (sym (put_same w.ends n k)) (record { es = []; numbers = numbers; frames = frames; shows = refl; other = b })

  open_leads : FileLaws → (number now : ℕ) → IsTrue (is_closed (w.ends n k)) → numbers n k < number → number ≤ 2 ^ 62 → Leads (Opens number now)
  unfolding effect_by
  open_leads laws zero now closed above most = absurd (omega (arith, above))
  open_leads laws (suc m) now closed above most =
      by_two w (ChangesFile n k changed.0 changed.1) (Happens (Open n k)) c opened numbers' frames
      (world_is c w' (Open n k) (is_possible (is_link w.topology n k) (is_closed (w.ends n k)) link closed)
      ∙ ap (λ d. record w' { ends = put_at w.ends n k (open_with (w.ends n k) now (drawn_by Draw d)); files = put_at w'.files n k (after_event Draw d) }) (put_here w.files n k (changed.0 (w.files n k)) ∙ changed.2)
      ∙ ap (λ ns. record w' { ends = put_at w.ends n k (open_with (w.ends n k) now ns); files = put_at w'.files n k left }) (raised_draws owner m less))
      (record {
        unarmed = b.unarmed;
        under = by_pair (λ x y. IsUnder (numbers' x y) (put_at w'.files n k left x y)) n k
            (subst (λ z. IsUnder z (put_at w'.files n k left n k)) (sym (put_here numbers n k (suc m))) (subst (IsUnder (suc m)) (sym (put_here w'.files n k left)) (raised_left owner m less)))
            (λ x y o. subst (λ z. IsUnder z (put_at w'.files n k left x y)) (sym (put_there numbers n k (suc m) x y o)) (subst (IsUnder (numbers x y)) (sym (put_there w'.files n k left x y o ∙ put_there w.files n k (changed.0 (w.files n k)) x y o)) (b.under x y)));
        went_out = b.went_out;
      })
    where
      c : Choice
      c = at_tick now []

      less : m < 2 ^ 62
      less = omega (arith, most)

      owner : Owner
      owner = owner_in (w.files n k)

      changed : MayBecome (w.files n k) (raised owner m)
      changed = becomes_raised laws (w.files n k) m (under_more (numbers n k) m (w.files n k) (omega (arith, above)) (b.under n k)) (omega (arith, most))

      w' : World
      w' = record w { files = put_at w.files n k (changed.0 (w.files n k)) }

      left : LifeDisk
      left = after_event Draw (raised owner m)

      numbers' : ℕ → ℕ → ℕ
      numbers' = put_at numbers n k (suc m)

      opened : World
      opened = record w' { ends = put_at w.ends n k (after_open (w.ends n k) (suc m) now); files = put_at w'.files n k left }

  pub link_leads : FileLaws → FrameLaws → (part : LinkPart) → parts.IsPossible (settings w n k) (w.ends n k) part → net.IsGiven (network_of w numbers frames) n k part → Leads part
  link_leads files law (Opens number now) p g = open_leads files number now p.0 g.0 g.1
  link_leads files law (Ticks now) p g = tick_leads now
  link_leads files law (Takes cargo) p g = take_leads cargo g
  link_leads files law (Sends now frame sending) p g = send_leads law now frame sending p
  link_leads files law (Hears now (Ok frame)) p (inl i) = hear_leads now frame i
  link_leads files law (Hears now (Ok frame)) p (inr refused) = refuse_leads law now frame refused
  link_leads files law (Hears now (Err error)) p g = bad_leads now error
  link_leads files law (Tells now event) p g = tell_leads now event p
  link_leads files law (Beats now) p g = beat_leads now
  link_leads files law Breaks p g = break_leads
