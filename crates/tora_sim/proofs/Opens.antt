-- Events at one link end.
use mathlib.Core.Path.{fun_ext}
use Rattle.std.proofs.Common.{◌≡◌, ℕ, zero, suc, ◌<◌, ◌≤◌, inr, Bool, true, false, not, List, [], ◌∷◌, Some, None, refl, sym, ap, ap₂, ◌∙◌, subst, arith, length, drop, set, slice_get, is_some, if◌then◌else◌}
use Rattle.std.proofs.lemmas.Option.{slice_get_read, slice_get_within}
use Rattle.std.proofs.lemmas.List.{drop_all, get_or_default}
use Rattle.std.specs.Prelude.{slice_index_or}
use Rattle.tora_frame.specs.FrameParts.{FrameParts}
use Rattle.tora_arq.specs.declared.times.Times.{Times}
use Rattle.tora_arq.specs.LinkEnd.{EndState, is_closed, bound_life}
use Rattle.tora_life.specs.LifeRun.{LifeDisk, after_event, drawn_by}
use Rattle.tora_life.specs.LifeRun.LifeEvent.{Draw as DrawsNumber}
use Rattle.tora_seat.specs.declared.cargo.Cargo.{Cargo}
use Rattle.tora_seat.specs.Serving.{Parcel}
use Rattle.tora_world.specs.declared.event.Event.{Event}
use Rattle.tora_world.specs.declared.event.Event.TheVariants.{Tick, Open, Pull}
use Rattle.tora_world.specs.declared.sim_error.SimError.{SimError}
use Rattle.tora_world.specs.declared.sim_error.SimError.TheVariants as Refused
use Rattle.tora_world.specs.LinkMachine.{put_at}
use Rattle.tora_world.specs.Topology.{Topology, is_link}
use Rattle.tora_seat.specs.Between.{after_cargo}
use Rattle.tora_world.specs.World.{World, refusal_of, effect_by, world_by, world_after, own_choice, unless_possible, open_with, after_pull, is_empty}
use Rattle.tora_seat.specs.Between.{after_cut_of_bound}
use Rattle.tora_world.specs.FreeWorld.{free_by}
use Rattle.tora_world.specs.FreeWorld.FreeEvent.{CutsBound}
use Rattle.tora_sim.specs.Cuts.{after_cut_at}
use Rattle.tora_sim.specs.Keyed.{IsFirst}
use Rattle.tora_sim.specs.Links.{LinkView, with_state, is_at, after_open_at, after_pull_at, waiting}
use Rattle.tora_sim.specs.Nodes.{NodeView}
use Rattle.tora_sim.specs.Store.{state_of, world_of, IsStore, link_at, end_in, file_in, lane_in, put_in, steps_in}
use Rattle.tora_sim.specs.Steps.{IsDone, IsRefused}
use Rattle.tora_sim.proofs.Stores.{each_at, IsSameLink, link_there, link_changes, link_stays, store_set}

-- an event that is not refused has its effect
pub effect_is : (w : World) (event : Event) → refusal_of w event ≡ None → world_after w event ≡ effect_by (own_choice w event) w event
unfolding world_by
effect_is w event e = ap (λ o. if is_some o then w else effect_by (own_choice w event) w event) e

pub refused_for : (w : World) (event : Event) (error : SimError) → refusal_of w event ≡ Some error → IsRefused w event error w
refused_for w event error e = record { cause = inr e; world = refl }

slice_get_at : (xs : List Cargo) (i : ℕ) → i < length xs → (cargo : Cargo) × (slice_get xs i ≡ Some cargo) × (drop i xs ≡ cargo ∷ drop (suc i) xs)
slice_get_at [] i lt = absurd (omega arith)
slice_get_at (x ∷ xs) zero lt = (x, refl, refl)
slice_get_at (x ∷ xs) (suc i) lt = slice_get_at xs i (omega arith)

-- two reads of one index give the same item
pub same_read : {A : Type 0} → (xs : List A) (i : ℕ) (x y : A) → i < length xs → x ≡ slice_index_or xs i x → y ≡ slice_index_or xs i y → x ≡ y
same_read xs i x y lt a b = a ∙ get_or_default xs i x y lt ∙ sym b

-- worlds with the same functions over links are the same
pub links_same : (w : World) {ends ends' : ℕ → ℕ → EndState} {files files' : ℕ → ℕ → LifeDisk} {lanes lanes' puts puts' : ℕ → ℕ → List Cargo} {steps steps' : ℕ → ℕ → List Parcel}
    → ends ≡ ends' → files ≡ files' → lanes ≡ lanes' → puts ≡ puts' → steps ≡ steps'
    → ◌≡◌ {A = World} (record w { ends = ends; files = files; cargoes = lanes; put = puts; steps = steps }) (record w { ends = ends'; files = files'; cargoes = lanes'; put = puts'; steps = steps' })
links_same w {ends} {ends'} {files} {files'} {lanes} {lanes'} {puts} {puts'} {steps} {steps'} e f l p s =
    ap₂ (λ (a : ℕ → ℕ → EndState) (b : ℕ → ℕ → LifeDisk). record w { ends = a; files = b; cargoes = lanes; put = puts; steps = steps }) e f
    ∙ ap₂ (λ (a b : ℕ → ℕ → List Cargo). record w { ends = ends'; files = files'; cargoes = a; put = b; steps = steps }) l p
    ∙ ap (λ (a : ℕ → ℕ → List Parcel). record w { ends = ends'; files = files'; cargoes = lanes'; put = puts'; steps = a }) s

module _ (t : Topology) (times : Times) (clock : ℕ) (nodes : List NodeView) (links : List LinkView) (ds : List FrameParts) (h : IsStore (state_of t times clock nodes links ds))
    (n k i : ℕ) (x : LinkView) (first : IsFirst (is_at n k) links i) (read : x ≡ slice_index_or links i x) where
  abbrev w : World
  w = world_of (state_of t times clock nodes links ds)

  pub at_place : slice_get links i ≡ Some x
  at_place = slice_get_read links (length links) i x refl first.within read

  abbrev itself : IsSameLink x x
  itself = record { node = refl; peer = refl; seat = refl; settings = refl; pulled = λ q. q }

  pub end_there : link_at links n k ≡ Some x
  end_there = link_there n k links i x x first at_place itself

  pub is_linked : is_link t n k ≡ true
  is_linked = h.links n k ∙ ap is_some end_there

  -- an event at a stored end is refused only if it is not possible
  pub at_end : (possible : Bool) (b : Bool) → possible ≡ b → (if is_link t n k then unless_possible possible else Some Refused.NoNode) ≡ unless_possible b
  at_end possible b e = ap₂ (λ (l : Bool) (p : Bool). if l then unless_possible p else Some Refused.NoNode) is_linked e

  -- ---- opening

  open_possible : (b : Bool) → is_closed x.state ≡ b → refusal_of w (Open n k) ≡ unless_possible b
  open_possible b e = at_end (is_closed (end_in (link_at links n k))) b (ap (λ o. is_closed (end_in o)) end_there ∙ e)

  pub open_refused : is_closed x.state ≡ false → IsRefused w (Open n k) Refused.NotPossible w
  open_refused e = refused_for w (Open n k) Refused.NotPossible (open_possible false e)

  opened_world : is_closed x.state ≡ true → world_of (state_of t times clock nodes (set links i (after_open_at x clock)) ds) ≡ world_after w (Open n k)
  unfolding effect_by
  opened_world e =
      let new = after_open_at x clock in
      let same : IsSameLink x new = record { node = refl; peer = refl; seat = refl; settings = refl; pulled = λ q. q } in
      let effect = effect_is w (Open n k) (open_possible true e) in
      let ends = link_changes n k links i x new first at_place same end_in
      ∙ ap (λ o. put_at (λ a b. end_in (link_at links a b)) n k (open_with (end_in o) clock (drawn_by DrawsNumber (file_in n k o)))) (sym end_there) in
      let files = fun_ext (λ a. fun_ext (λ b. ap (λ (g : ℕ → ℕ → LifeDisk). g a b) (link_changes n k links i x new first at_place same (file_in a b))))
      ∙ ap (λ o. put_at (λ a b. file_in a b (link_at links a b)) n k (after_event DrawsNumber (file_in n k o))) (sym end_there) in
      let lanes = link_stays n k links i x new first at_place same lane_in refl in
      let puts = link_stays n k links i x new first at_place same put_in refl in
      let steps = link_stays n k links i x new first at_place same steps_in refl in
      links_same w ends files lanes puts steps ∙ sym effect

  pub open_done : (new : LinkView) → is_closed x.state ≡ true → new ≡ after_open_at x clock → IsDone w (Open n k) (world_of (state_of t times clock nodes (set links i new) ds))
  open_done new e f = record { accepted = open_possible true e; world = ap (λ y. world_of (state_of t times clock nodes (set links i y) ds)) f ∙ opened_world e }

  pub open_store : (new : LinkView) → new ≡ after_open_at x clock → IsStore (state_of t times clock nodes (set links i new) ds)
  open_store new f =
      subst (λ y. IsStore (state_of t times clock nodes (set links i y) ds)) (sym f)
      (store_set n k links i x (after_open_at x clock) first at_place (record { node = refl; peer = refl; seat = refl; settings = refl; pulled = λ q. q }) t times clock nodes ds h)

  -- ---- a cargo of the lane

  pull_possible : (b : Bool) → not (is_empty (waiting x)) ≡ b → refusal_of w (Pull n k) ≡ unless_possible b
  pull_possible b e = at_end (not (is_empty (lane_in (link_at links n k)))) b (ap (λ o. not (is_empty (lane_in o))) end_there ∙ e)

  pub pull_refused : length x.put ≤ x.pulled → IsRefused w (Pull n k) Refused.NotPossible w
  pull_refused e = refused_for w (Pull n k) Refused.NotPossible (pull_possible false (ap (λ (xs : List Cargo). not (is_empty xs)) (drop_all x.pulled x.put e)))

  pulled_world : (cargo : Cargo) → slice_get x.put x.pulled ≡ Some cargo → waiting x ≡ cargo ∷ drop (suc x.pulled) x.put → world_of (state_of t times clock nodes (set links i (after_pull_at x (Some cargo))) ds) ≡ world_after w (Pull n k)
  unfolding effect_by
  pulled_world cargo at front =
      let new = after_pull_at x (Some cargo) in
      let same : IsSameLink x new = record { node = refl; peer = refl; seat = refl; settings = refl; pulled = λ q. slice_get_within x.put x.pulled cargo at } in
      let lane : lane_in (link_at links n k) ≡ cargo ∷ drop (suc x.pulled) x.put = ap lane_in end_there ∙ front in
      let effect = effect_is w (Pull n k) (pull_possible true (ap (λ (xs : List Cargo). not (is_empty xs)) front)) ∙ ap (after_pull w n k) lane in
      let ends = link_changes n k links i x new first at_place same end_in
      ∙ ap (λ o. put_at (λ a b. end_in (link_at links a b)) n k (after_cargo (end_in o) cargo)) (sym end_there) in
      let files = each_at file_in (link_at (set links i new)) (link_at links) (λ a b. link_stays n k links i x new first at_place same (file_in a b) refl) in
      let lanes = link_changes n k links i x new first at_place same lane_in in
      let puts = link_stays n k links i x new first at_place same put_in refl in
      let steps = link_stays n k links i x new first at_place same steps_in refl in
      links_same w ends files lanes puts steps ∙ sym effect

  pub pull_done : (new : LinkView) → x.pulled < length x.put → new ≡ after_pull_at x (slice_get x.put x.pulled) → IsDone w (Pull n k) (world_of (state_of t times clock nodes (set links i new) ds))
  pull_done new lt f = go (slice_get_at x.put x.pulled lt)
    where
      go : (cargo : Cargo) × (slice_get x.put x.pulled ≡ Some cargo) × (waiting x ≡ cargo ∷ drop (suc x.pulled) x.put) → IsDone w (Pull n k) (world_of (state_of t times clock nodes (set links i new) ds))
      go (cargo, at, front) = record {
        accepted = pull_possible true (ap (λ (xs : List Cargo). not (is_empty xs)) front);
        world = ap (λ y. world_of (state_of t times clock nodes (set links i y) ds)) (f ∙ ap (after_pull_at x) at) ∙ pulled_world cargo at front;
      }

  pub pull_store : (new : LinkView) → x.pulled < length x.put → new ≡ after_pull_at x (slice_get x.put x.pulled) → IsStore (state_of t times clock nodes (set links i new) ds)
  pull_store new lt f = go (slice_get_at x.put x.pulled lt)
    where
      go : (cargo : Cargo) × (slice_get x.put x.pulled ≡ Some cargo) × (waiting x ≡ cargo ∷ drop (suc x.pulled) x.put) → IsStore (state_of t times clock nodes (set links i new) ds)
      go (cargo, at, front) =
          subst (λ y. IsStore (state_of t times clock nodes (set links i y) ds)) (sym (f ∙ ap (after_pull_at x) at))
          (store_set n k links i x (after_pull_at x (Some cargo)) first at_place (record { node = refl; peer = refl; seat = refl; settings = refl; pulled = λ q. slice_get_within x.put x.pulled cargo at }) t times clock nodes ds h)

  -- ---- a cut

  abbrev cut_view : LinkView
  cut_view = with_state x (after_cut_of_bound x.state (bound_life x.state))

  abbrev same_cut : IsSameLink x cut_view
  same_cut = record { node = refl; peer = refl; seat = refl; settings = refl; pulled = λ q. q }

  cut_world : world_of (state_of t times clock nodes (set links i cut_view) ds) ≡ after_cut_at w n k
  cut_world =
      let effect : after_cut_at w n k ≡ free_by (own_choice w Tick) w (CutsBound n k) = ap (λ (b : Bool). if b then free_by (own_choice w Tick) w (CutsBound n k) else w) is_linked in
      let ends = link_changes n k links i x cut_view first at_place same_cut end_in
      ∙ ap (λ o. put_at (λ a b. end_in (link_at links a b)) n k (after_cut_of_bound (end_in o) (bound_life (end_in o)))) (sym end_there) in
      let files = each_at file_in (link_at (set links i cut_view)) (link_at links) (λ a b. link_stays n k links i x cut_view first at_place same_cut (file_in a b) refl) in
      let lanes = link_stays n k links i x cut_view first at_place same_cut lane_in refl in
      let puts = link_stays n k links i x cut_view first at_place same_cut put_in refl in
      let steps = link_stays n k links i x cut_view first at_place same_cut steps_in refl in
      links_same w ends files lanes puts steps ∙ sym effect

  pub cut_done : (new : LinkView) → new ≡ cut_view → world_of (state_of t times clock nodes (set links i new) ds) ≡ after_cut_at w n k
  cut_done new f = ap (λ y. world_of (state_of t times clock nodes (set links i y) ds)) f ∙ cut_world

  pub cut_store : (new : LinkView) → new ≡ cut_view → IsStore (state_of t times clock nodes (set links i new) ds)
  cut_store new f = subst (λ y. IsStore (state_of t times clock nodes (set links i y) ds)) (sym f) (store_set n k links i x cut_view first at_place same_cut t times clock nodes ds h)
