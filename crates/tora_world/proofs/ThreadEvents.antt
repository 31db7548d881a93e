-- Each event that only threads make keeps the invariant of all ends.
use Rattle.std.proofs.Common.{◌≡◌, ℕ, suc, ◌⊎◌, inl, inr, List, [], ◌∷◌, ◌++◌, map, Option, Some, None, nat_eq, if◌then◌else◌, refl, sym, ap, ◌∙◌, subst, append_assoc, append-nil, eqb-true}
use Rattle.std.proofs.lemmas.Bool.{cond_both}
use Rattle.std.specs.Prelude.{slice_get}
use Rattle.tora_arq.specs.declared.life.Life.{Life}
use Rattle.tora_arq.specs.LinkEnd.{after_tick}
use Rattle.tora_arq.specs.LinkFacts.{LinkCall, IsPossible, after_call, HandsInFrameOf, events_left}
use Rattle.tora_arq.specs.LinkFacts.LinkCall.{Tick as Ticks, Cut as Cuts}
use Rattle.tora_life.specs.LifeRun.{LifeDisk, IsFloor}
use Rattle.tora_seat.specs.declared.what.What.{What}
use Rattle.tora_seat.specs.declared.what.What.TheVariants as Tells
use Rattle.tora_seat.specs.declared.item.Item.{Item}
use Rattle.tora_seat.specs.Serving.{Parcel}
use Rattle.tora_world.specs.Topology.{is_link}
use Rattle.tora_world.specs.LinkMachine.{put_at, MachineEnd, MachineStep, machine_after}
use Rattle.tora_world.specs.World.{World, Choice, settings, neighbours, with_end, with_item, after_pump}
use Rattle.tora_seat.specs.Between.{after_cut_of_bound}
use Rattle.tora_world.specs.FreeWorld.{TellsNoLife}
use Rattle.tora_world.specs.Layers.{LinkLaws, LifeLaws}
use Rattle.tora_world.proofs.PacketLists.{put_here, put_there}
use Rattle.tora_world.proofs.Invariant.{Arrival, FollowsMachine, AllEndsFollow, Seen, arrival_of, seen_at_other}
use Rattle.tora_world.proofs.Invariant.Arrival.{OtherComes}
use Rattle.tora_world.proofs.Moves.{IsCall, refiles}
use Rattle.tora_world.proofs.AllEnds.{no_step, at_every_end, call_follows}
use Rattle.tora_world.proofs.EndViews.{arrival_in, arrivals_in, arrivals_of, view_of, end_views, arrivals-append}
use Rattle.tora_world.proofs.Events.{tick_call, cut_call, end_changes, pump_keeps}
use Rattle.tora_world.proofs.SilentItems.{silent_comes}

-- an item that reports no session is an arrival that reports none
arrival_silent : (what : What) → TellsNoLife what → arrival_in what ≡ OtherComes
arrival_silent (Tells.Up l) h = absurd h
arrival_silent (Tells.Packet l p) h = absurd h
arrival_silent (Tells.Down l r) h = absurd h
arrival_silent Tells.Beat h = refl
arrival_silent (Tells.Need d) h = refl
arrival_silent (Tells.Cut k) h = refl
arrival_silent Tells.Show h = refl
arrival_silent (Tells.Status status) h = refl
arrival_silent Tells.Quit h = refl

arrivals_silent : (k : ℕ) (seat : Option ℕ) (what : What) → TellsNoLife what → (arrivals_in k seat what ≡ []) ⊎ (arrivals_in k seat what ≡ OtherComes ∷ [])
arrivals_silent k None what h = inl refl
arrivals_silent k (Some j) what h =
    cond_both (nat_eq j k) (arrival_in what ∷ []) [] (λ xs. (xs ≡ []) ⊎ (xs ≡ OtherComes ∷ [])) (λ _. inr (ap (λ x. x ∷ []) (arrival_silent what h))) (λ _. inl refl)

module _ (laws : LinkLaws) (lows : LifeLaws) (steps : List MachineStep) (w : World) (seen : Seen) (g : AllEndsFollow steps (end_views w) w.datagrams seen) where
  abbrev Keeps : World → Type 0
  Keeps after = AllEndsFollow steps (end_views after) after.datagrams seen

  -- a call that one end may make
  abbrev HandsIn : ℕ → ℕ → LinkCall → Type 0
  HandsIn n k call = IsCall (end_views w n k) (machine_after steps n k) (machine_after steps k n).sent (seen_at_other seen n k) call (end_views w n k).out

  -- one end makes a call that polls nothing and passes in no frame
  call_keeps : (n k : ℕ) (call : LinkCall) → IsPossible (w.ends n k) call → events_left (w.ends n k) call ≡ (w.ends n k).events → ((l : Life) → HandsInFrameOf (settings w n k) l call → ⊥) → HandsIn n k call →
      Keeps (with_end w n k (after_call (settings w n k) (w.ends n k) call))
  call_keeps n k call ok left no_frame is =
      call_follows steps (end_views w) (end_views (with_end w n k (after_call (settings w n k) (w.ends n k) call))) w.datagrams seen n k (end_views w n k) laws call (end_views w n k).out
      (end_changes laws lows steps w seen n k call ok left) g is no_frame

  pub one_tick_keeps : (n k now : ℕ) → Keeps (with_end w n k (after_tick (settings w n k) (w.ends n k) now))
  one_tick_keeps n k now =
      call_keeps n k (Ticks now) tt refl (λ l o. o) (tick_call (end_views w n k) (machine_after steps n k) (machine_after steps k n).sent (seen_at_other seen n k) now (g.sides n k).histories.all_out)

  -- a life file becomes another one
  pub file_keeps : (n k : ℕ) (file : LifeDisk) → ((m : ℕ) → IsFloor m (w.files n k) → IsFloor m file) → Keeps (record w { files = put_at w.files n k file })
  file_keeps n k file kept =
      no_step steps (end_views w) (end_views (record w { files = put_at w.files n k file })) w.datagrams seen n k (end_views w n k) (record (end_views w n k) { file = file })
      (record {
        was = refl;
        here = ap (λ f. view_of (settings w n k) (w.ends n k) f ((w.seats n).current k) (arrivals_of (neighbours w n) k (w.items n)) (w.cargoes n k) (w.put n k) (w.steps n k)) (put_here w.files n k file);
        there = λ a b o. ap (λ f. view_of (settings w a b) (w.ends a b) f ((w.seats a).current b) (arrivals_of (neighbours w a) b (w.items a)) (w.cargoes a b) (w.put a b) (w.steps a b)) (put_there w.files n k file a b o);
      }) g
      (λ h. refiles (end_views w n k) (machine_after steps n k) (machine_after steps k n).sent (seen_at_other seen n k) file kept h)

  same_end_keeps : (n k : ℕ) → Keeps (with_end w n k (w.ends n k))
  same_end_keeps n k =
      no_step steps (end_views w) (end_views (with_end w n k (w.ends n k))) w.datagrams seen n k (end_views w n k) (end_views w n k)
      (record {
        was = refl;
        here = ap (λ x. view_of (settings w n k) x (w.files n k) ((w.seats n).current k) (arrivals_of (neighbours w n) k (w.items n)) (w.cargoes n k) (w.put n k) (w.steps n k)) (put_here w.ends n k (w.ends n k));
        there = λ a b o. ap (λ x. view_of (settings w a b) x (w.files a b) ((w.seats a).current b) (arrivals_of (neighbours w a) b (w.items a)) (w.cargoes a b) (w.put a b) (w.steps a b)) (put_there w.ends n k (w.ends n k) a b o);
      }) g (λ h. h)

  pub cut_keeps : (n k : ℕ) (bound : Option Life) → Keeps (with_end w n k (after_cut_of_bound (w.ends n k) bound))
  cut_keeps n k None = same_end_keeps n k
  cut_keeps n k (Some l) =
      call_keeps n k (Cuts l) tt refl (λ j o. o) (cut_call (end_views w n k) (machine_after steps n k) (machine_after steps k n).sent (seen_at_other seen n k) l (g.sides n k).histories.all_out)

  pub pump_over_keeps : (c : Choice) (n k : ℕ) → Keeps (if is_link w.topology n k then after_pump w c n k (slice_get (w.ends n k).events 0) else w)
  pump_over_keeps c n k = cond_both (is_link w.topology n k) _ _ Keeps (λ link. pump_keeps laws lows steps w seen c n k link g (w.ends n k).events refl) (λ _. g)

  pub put_keeps : (n seat now : ℕ) (what : What) → TellsNoLife what → Keeps (with_item w n seat now what)
  put_keeps n seat now what silent =
      at_every_end steps (end_views w) (end_views (with_item w n seat now what)) w.datagrams seen
      (λ a b p other h. cond_both (nat_eq a n) (w.items n ++ item ∷ []) (w.items a)
      (λ items. FollowsMachine (record (end_views w a b) { coming = arrivals_of (neighbours w a) b items ++ map arrival_of (w.ends a b).events }) p other (seen_at_other seen a b))
      (λ e. subst (λ m. FollowsMachine (record (end_views w a b) { coming = arrivals_of (neighbours w a) b (w.items m ++ item ∷ []) ++ map arrival_of (w.ends a b).events }) p other (seen_at_other seen a b)) (eqb-true a n e) (here a b p other h))
      (λ _. h)) g
    where
      item : Item
      item = record { seat = seat; number = suc (w.counts n seat); now = now; what = what }

      here : (a b : ℕ) (p : MachineEnd) (other : List Parcel) → FollowsMachine (end_views w a b) p other (seen_at_other seen a b) →
          FollowsMachine (record (end_views w a b) { coming = arrivals_of (neighbours w a) b (w.items a ++ item ∷ []) ++ map arrival_of (w.ends a b).events }) p other (seen_at_other seen a b)
      here a b p other h =
          subst Follows (sym (arrivals-append (neighbours w a) b (w.items a) (item ∷ []) ∙ ap (λ xs. lane ++ xs) (append-nil (arrivals_in b (slice_get (neighbours w a) seat) what))))
          (go (arrivals_in b (slice_get (neighbours w a) seat) what) (arrivals_silent b (slice_get (neighbours w a) seat) what silent))
        where
          lane : List Arrival
          lane = arrivals_of (neighbours w a) b (w.items a)

          Follows : List Arrival → Type 0
          Follows xs = FollowsMachine (record (end_views w a b) { coming = xs ++ map arrival_of (w.ends a b).events }) p other (seen_at_other seen a b)

          go : (xs : List Arrival) → (xs ≡ []) ⊎ (xs ≡ OtherComes ∷ []) → Follows (lane ++ xs)
          go xs (inl e) = subst (λ ys. Follows (lane ++ ys)) (sym e) (subst Follows (sym (append-nil lane)) h)
          go xs (inr e) =
              subst (λ ys. Follows (lane ++ ys)) (sym e)
              (subst (λ ys. FollowsMachine (record (end_views w a b) { coming = ys }) p other (seen_at_other seen a b)) (sym (append_assoc lane (OtherComes ∷ []) (map arrival_of (w.ends a b).events)))
              (silent_comes (end_views w a b) p other (seen_at_other seen a b) lane (map arrival_of (w.ends a b).events) refl h))
