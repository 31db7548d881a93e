-- An event that is not possible at the given index is refused.
use Rattle.std.proofs.Common.{◌≡◌, ℕ, inl, inr, Bool, true, false, not, ◌||◌, List, length, slice_get, is_some, nat_lt, Option, Some, None, refl, sym, ap, ◌∙◌, arith}
use Rattle.std.specs.Prelude.{slice_index_or}
use Rattle.std.proofs.lemmas.Option.{slice_get-get_or, slice_get_within}
use borrow.Author.Tests.{ltb-false}
use Rattle.tora_frame.specs.FrameParts.{FrameParts}
use Rattle.tora_arq.specs.declared.times.Times.{Times}
use Rattle.tora_arq.specs.LinkEnd.{is_closed, first_event, frame_due}
use Rattle.tora_world.specs.declared.event.Event.{Event}
use Rattle.tora_world.specs.declared.event.Event.TheVariants.{Need, Tick, Open, Pull, Transmit, Deliver, Pump, CoreTurn, Arm, Restart}
use Rattle.tora_world.specs.declared.sim_error.SimError.TheVariants as Refused
use Rattle.tora_world.specs.Topology.{Topology}
use Rattle.tora_world.specs.World.{World, refusal_of}
use Rattle.tora_sim.specs.Keyed.{IsFirst}
use Rattle.tora_sim.specs.Links.{LinkView, is_at}
use Rattle.tora_sim.specs.Nodes.{NodeView, is_of}
use Rattle.tora_sim.specs.Possible.{has_cargo, end_may, node_may, may_happen}
use Rattle.tora_sim.specs.Store.{state_of, world_of, IsStore}
use Rattle.tora_sim.specs.Steps.{IsRefused}
use Rattle.tora_sim.proofs.Keys.{read_first, read_first_node}
use Rattle.tora_sim.proofs.Opens.{open_refused, pull_refused}
use Rattle.tora_sim.proofs.Sends.{transmit_refused}
use Rattle.tora_sim.proofs.Pumps.{pump_without}
use Rattle.tora_sim.proofs.Turning.{turn_refused}

-- the event has a refusal
abbrev pub IsImpossible : World → Event → Type 0
IsImpossible w event = is_some (refusal_of w event) ≡ true

pub is_impossible : (w : World) (event : Event) → IsRefused w event Refused.NotPossible w → IsImpossible w event
is_impossible w event r = elim r.cause [ inl e ↦ absurd (let z : Refused.NotPossible ≡ Refused.Memory = e.0 in cc) | inr e ↦ ap is_some e ]

pub no_event : {A : Type 0} (o : Option A) → is_some o ≡ false → o ≡ None
no_event None e = refl
no_event (Some x) e = absurd cc

pub read_of : {A : Type 0} (xs : List A) (i : ℕ) (x : A) → slice_get xs i ≡ Some x → x ≡ slice_index_or xs i x
read_of xs i x e = some_is (sym e ∙ slice_get-get_or xs i x (slice_get_within xs i x e))
  where
    some_is : {y : _} → Some x ≡ Some y → x ≡ y
    some_is {y} q = cc

module _ (t : Topology) (times : Times) (clock : ℕ) (nodes : List NodeView) (links : List LinkView) (ds : List FrameParts) (h : IsStore (state_of t times clock nodes links ds)) where
  abbrev w : World
  w = world_of (state_of t times clock nodes links ds)

  -- an end that has nothing to do is the one of the event
  at_end : (event : Event) (n k place : ℕ) (has : LinkView → Bool) → ((x : LinkView) → IsFirst (is_at n k) links place → x ≡ slice_index_or links place x → has x ≡ false → IsImpossible w event)
      → end_may n k has (slice_get links place) ≡ false → IsImpossible w event
  at_end event n k place has law = go (slice_get links place) refl
    where
      here : (x : LinkView) → slice_get links place ≡ Some x → (a : Bool) → is_at n k x ≡ a → (b : Bool) → has x ≡ b → (not a || b) ≡ false → IsImpossible w event
      here x read true at false q e = law x (read_first n k links place x h.rising_links (slice_get_within links place x read) (read_of links place x read) at) (read_of links place x read) q
      here x read true at true q e = absurd cc
      here x read false at b q e = absurd cc

      go : (o : Option LinkView) → slice_get links place ≡ o → end_may n k has o ≡ false → IsImpossible w event
      go None read e = absurd cc
      go (Some x) read e = here x read (is_at n k x) refl (has x) refl e

  at_node : (n place : ℕ) → node_may n (slice_get nodes place) ≡ false → IsImpossible w (CoreTurn n)
  at_node n place = go (slice_get nodes place) refl
    where
      here : (x : NodeView) → slice_get nodes place ≡ Some x → (a : Bool) → is_of n x ≡ a → (b : Bool) → nat_lt 0 (length x.items) ≡ b → (not a || b) ≡ false → IsImpossible w (CoreTurn n)
      here x read true at false q e =
          let none = ltb-false 0 (length x.items) q in
          is_impossible w (CoreTurn n) (turn_refused t times clock nodes links ds h n place x (read_first_node n nodes place x h.rising_nodes (slice_get_within nodes place x read) (read_of nodes place x read) at) (read_of nodes place x read) (omega (arith, none)))
      here x read true at true q e = absurd cc
      here x read false at b q e = absurd cc

      go : (o : Option NodeView) → slice_get nodes place ≡ o → node_may n o ≡ false → IsImpossible w (CoreTurn n)
      go None read e = absurd cc
      go (Some x) read e = here x read (is_of n x) refl (nat_lt 0 (length x.items)) refl e

  pub impossible : (place : ℕ) (event : Event) → may_happen nodes links clock place event ≡ false → IsImpossible w event
  impossible place (Open n k) e = at_end (Open n k) n k place (λ link. is_closed link.state) (λ x first read q. is_impossible w (Open n k) (open_refused t times clock nodes links ds h n k place x first read q)) e
  impossible place (Pull n k) e = at_end (Pull n k) n k place has_cargo (λ x first read q. is_impossible w (Pull n k) (pull_refused t times clock nodes links ds h n k place x first read (ltb-false x.pulled (length x.put) q))) e
  impossible place (Transmit n k) e = at_end (Transmit n k) n k place (λ link. is_some (frame_due link.settings link.state clock)) (λ x first read q. is_impossible w (Transmit n k) (transmit_refused t times clock nodes links ds h n k place x first read q)) e
  impossible place (Pump n k) e = at_end (Pump n k) n k place (λ link. is_some (first_event link.state)) (λ x first read q. is_impossible w (Pump n k) (pump_without t times clock nodes links ds h n k place x first read (no_event (first_event x.state) q))) e
  impossible place (CoreTurn n) e = at_node n place e
  impossible place (Need n d) e = absurd cc
  impossible place Tick e = absurd cc
  impossible place (Deliver i) e = absurd cc
  impossible place (Arm n call) e = absurd cc
  impossible place (Restart n torn) e = absurd cc
