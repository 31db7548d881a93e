-- Before a deadline of all ends, a tick changes only the clock, and every turn is refused.
use Rattle.std.proofs.Common.{◌≡◌, ℕ, zero, suc, ◌+◌, ◌<◌, ◌≤◌, not, ◌&&◌, Bool, true, false, List, [], ◌∷◌, length, set, slice_get, is_some, Option, Some, None, refl, sym, ap, ◌∙◌, subst, arith, if◌then◌else◌, option_map, nat_eq, eq-eqb}
use Rattle.std.specs.List.{list_all}
use Rattle.std.specs.Prelude.{slice_index_or}
use Rattle.std.proofs.lemmas.Option.{slice_get_within, slice_get-map}
use Rattle.std.proofs.lemmas.Bool.{and_parts, and_from}
use borrow.Author.Tests.{ltb-false, eqb-true}
use Rattle.tora_frame.specs.FrameParts.{FrameParts}
use Rattle.tora_arq.specs.declared.times.Times.{Times}
use Rattle.tora_arq.specs.LinkEnd.{is_closed, first_event, frame_due}
use Rattle.tora_world.specs.declared.event.Event.{Event}
use Rattle.tora_world.specs.declared.event.Event.TheVariants.{Open, Pull, Transmit, Pump, CoreTurn}
use Rattle.tora_world.specs.declared.sim_error.SimError.TheVariants as Refused
use Rattle.tora_world.specs.Topology.{Topology, is_node, is_link}
use Rattle.tora_world.specs.World.{World, settings, is_empty, has_room, unless_possible, at_node, at_link}
use Rattle.tora_sim.specs.Keyed.{IsFirst}
use Rattle.tora_sim.specs.Links.{LinkView, is_at, key_of, ticked, with_state}
use Rattle.tora_sim.specs.Nodes.{NodeView, is_of}
use Rattle.tora_sim.specs.Quiet.{IsQuiet, IsQuietEnd, IsIdleUntil, is_idle}
use Rattle.tora_sim.specs.Readers.{ends_in}
use Rattle.tora_sim.specs.Store.{state_of, world_of, IsStore, EachOf, node_at, link_at}
use Rattle.tora_sim.proofs.Keys.{read_first, read_first_node}
use Rattle.tora_sim.proofs.Opens.{open_refused, pull_refused}
use Rattle.tora_sim.proofs.Sends.{transmit_refused}
use Rattle.tora_sim.proofs.Pumps.{pump_without}
use Rattle.tora_sim.proofs.Turning.{turn_refused}
use Rattle.tora_sim.proofs.Possibles.{IsImpossible, is_impossible, no_event, read_of}
use Rattle.tora_sim.proofs.Stores.{is_found}

-- an end that is still until a tick is still until an earlier one
pub earlier : (until before : ℕ) (link : LinkView) → before ≤ until → IsIdleUntil until link → IsIdleUntil before link
earlier until before link le h = record {
  opened = h.opened;
  lane = h.lane;
  events = h.events;
  frames = λ tick lt. h.frames tick (omega (arith, lt, le));
  ticks = λ tick lt. h.ticks tick (omega (arith, lt, le));
}

-- replacing an end by itself
pub set_same : (links : List LinkView) (i : ℕ) (x y : LinkView) → i < length links → x ≡ slice_index_or links i x → y ≡ x → set links i y ≡ links
set_same [] i x y lt read e = absurd (omega (arith, lt))
set_same (z ∷ links) zero x y lt read e = ap (λ (w : LinkView). w ∷ links) (e ∙ read)
set_same (z ∷ links) (suc i) x y lt read e = ap (λ (ws : List LinkView). z ∷ ws) (set_same links i x y (omega (arith, lt)) read e)

-- ---- a tick

pub idle_tick : (until now : ℕ) (link : LinkView) → now < until → IsIdleUntil until link → ticked now link ≡ link
idle_tick until now link lt h = ap (with_state link) (h.ticks now lt)

-- ---- turns

idle_at : (nodes : List NodeView) (i : ℕ) (x : NodeView) → list_all is_idle nodes ≡ true → slice_get nodes i ≡ Some x → length x.items ≡ 0
idle_at [] i x all e = absurd (let none : None ≡ Some x = e in cc)
idle_at (y ∷ nodes) zero x all e =
    let there : Some y ≡ Some x = e in
    let same : y ≡ x = cc in
    subst (λ (z : NodeView). length z.items ≡ 0) same (eqb-true (length y.items) 0 (and_parts (is_idle y) (list_all is_idle nodes) all).0)
idle_at (y ∷ nodes) (suc i) x all e = idle_at nodes i x (and_parts (is_idle y) (list_all is_idle nodes) all).1 e

no_link : (w : World) (n k : ℕ) (possible : Bool) → is_link w.topology n k ≡ false → is_some (at_link w n k possible) ≡ true
no_link w n k possible e = ap (λ (b : Bool). is_some (if b then unless_possible possible else Some Refused.NoNode)) e

no_node : (w : World) (n : ℕ) (possible : Bool) → is_node w.topology n ≡ false → is_some (at_node w n possible) ≡ true
no_node w n possible e = ap (λ (b : Bool). is_some (if b then unless_possible possible else Some Refused.NoNode)) e

module _ (t : Topology) (times : Times) (clock : ℕ) (nodes : List NodeView) (links : List LinkView) (ds : List FrameParts) (h : IsStore (state_of t times clock nodes links ds)) where
  abbrev w : World
  w = world_of (state_of t times clock nodes links ds)

  at_ends : (event : Event) (n k until : ℕ) → EachOf (IsIdleUntil until) links → (is_link t n k ≡ false → IsImpossible w event) →
      ((x : LinkView) (place : ℕ) → IsFirst (is_at n k) links place → x ≡ slice_index_or links place x → IsIdleUntil until x → IsImpossible w event) → IsImpossible w event
  at_ends event n k until idle away here = go (link_at links n k) refl
    where
      go : (o : Option LinkView) → link_at links n k ≡ o → IsImpossible w event
      go None e = away (h.links n k ∙ ap is_some e)
      go (Some x) e =
          let f = is_found (is_at n k) links x e in
          let read = read_of links f.place x f.there in
          here x f.place (read_first n k links f.place x h.rising_links (slice_get_within links f.place x f.there) read f.passes) read (idle f.place x f.there)

  pub at_nodes : (n : ℕ) → list_all is_idle nodes ≡ true → IsImpossible w (CoreTurn n)
  at_nodes n idle = go (node_at nodes n) refl
    where
      go : (o : Option NodeView) → node_at nodes n ≡ o → IsImpossible w (CoreTurn n)
      go None e = no_node w n (not (is_empty (w.items n))) (h.nodes n ∙ ap is_some e)
      go (Some x) e =
          let f = is_found (is_of n) nodes x e in
          let read = read_of nodes f.place x f.there in
          is_impossible w (CoreTurn n) (turn_refused t times clock nodes links ds h n f.place x (read_first_node n nodes f.place x h.rising_nodes (slice_get_within nodes f.place x f.there) read f.passes) read (idle_at nodes f.place x idle f.there))

  pub quiet_now : (until : ℕ) → clock < until → list_all is_idle nodes ≡ true → EachOf (IsIdleUntil until) links → IsQuiet w
  quiet_now until lt cores idle =
      record {
        cores = λ n. at_nodes n cores;
        opens = λ n k. at_ends (Open n k) n k until idle (λ e. no_link w n k (is_closed (w.ends n k)) e) (λ x place first read s. is_impossible w (Open n k) (open_refused t times clock nodes links ds h n k place x first read s.opened));
        pulls = λ n k. at_ends (Pull n k) n k until idle (λ e. no_link w n k (not (is_empty (w.cargoes n k))) e) (λ x place first read s. is_impossible w (Pull n k) (pull_refused t times clock nodes links ds h n k place x first read (ltb-false x.pulled (length x.put) s.lane)));
        sends = λ n k. at_ends (Transmit n k) n k until idle (λ e. no_link w n k (is_some (frame_due (settings w n k) (w.ends n k) clock)) e) (λ x place first read s. is_impossible w (Transmit n k) (transmit_refused t times clock nodes links ds h n k place x first read (s.frames clock lt)));
        pumps = λ n k. at_ends (Pump n k) n k until idle (λ e. no_link w n k (not (is_empty (w.ends n k).events) && has_room w n) e) (λ x place first read s. is_impossible w (Pump n k) (pump_without t times clock nodes links ds h n k place x first read (no_event (first_event x.state) s.events)));
      }

  -- nothing is to be done at the end with this key
  pub quiet_at : (at : ℕ) (end : ℕ × ℕ) → slice_get (ends_in t) at ≡ Some end → ((link : LinkView) → slice_get links at ≡ Some link → IsIdleUntil (clock + 1) link) → IsQuietEnd w end.0 end.1
  quiet_at at end there idle = go (slice_get links at) refl (sym (slice_get-map key_of links at) ∙ ap (λ (keys : List (ℕ × ℕ)). slice_get keys at) h.keys ∙ there)
    where
      go : (o : Option LinkView) → slice_get links at ≡ o → option_map key_of o ≡ Some end → IsQuietEnd w end.0 end.1
      go None read e = absurd (let none : None ≡ Some end = e in cc)
      go (Some x) read e =
          let key : Some (x.node, x.peer) ≡ Some end = e in
          let same : (x.node, x.peer) ≡ end = cc in
          let n : x.node ≡ end.0 = ap (λ (p : ℕ × ℕ). p.0) same in
          let k : x.peer ≡ end.1 = ap (λ (p : ℕ × ℕ). p.1) same in
          let value = read_of links at x read in
          let first = read_first end.0 end.1 links at x h.rising_links (slice_get_within links at x read) value (both n k) in
          let s = idle x read in
          record {
            opens = is_impossible w (Open end.0 end.1) (open_refused t times clock nodes links ds h end.0 end.1 at x first value s.opened);
            pulls = is_impossible w (Pull end.0 end.1) (pull_refused t times clock nodes links ds h end.0 end.1 at x first value (ltb-false x.pulled (length x.put) s.lane));
            sends = is_impossible w (Transmit end.0 end.1) (transmit_refused t times clock nodes links ds h end.0 end.1 at x first value (s.frames clock (omega arith)));
            pumps = is_impossible w (Pump end.0 end.1) (pump_without t times clock nodes links ds h end.0 end.1 at x first value (no_event (first_event x.state) s.events));
          }
        where
          both : x.node ≡ end.0 → x.peer ≡ end.1 → is_at end.0 end.1 x ≡ true
          both a b = and_from (nat_eq x.node end.0) (nat_eq x.peer end.1) (eq-eqb x.node end.0 a) (eq-eqb x.peer end.1 b)
