-- The frames of a link end are sent, one after another.
use Rattle.std.proofs.Common.{◌≡◌, ℕ, zero, suc, ◌<◌, inl, inr, ◌||◌, Bool, true, false, not, List, [], ◌∷◌, length, set, is_some, Option, Some, None, refl, sym, ap, ◌∙◌, subst, arith, if◌then◌else◌}
use Rattle.std.specs.Prelude.{slice_index_or}
use Rattle.std.proofs.lemmas.List.{get_or-set_same, get_or-set_other, length-set}
use Rattle.tora_frame.specs.FrameParts.{FrameParts}
use Rattle.tora_arq.specs.declared.times.Times.{Times}
use Rattle.tora_arq.specs.LinkEnd.{EndState, frame_due}
use Rattle.tora_world.specs.declared.event.Event.{Event}
use Rattle.tora_world.specs.declared.event.Event.TheVariants.{Transmit, Deliver}
use Rattle.tora_world.specs.declared.sim_error.SimError.{SimError}
use Rattle.tora_world.specs.declared.sim_error.SimError.TheVariants as Refused
use Rattle.tora_world.specs.Topology.{Topology, is_link}
use Rattle.tora_world.specs.World.{World, is_empty, datagram, settings, unless_possible, refusal_of, world_after, world_after_all}
use Rattle.tora_sim.specs.Keyed.{IsFirst}
use Rattle.tora_sim.specs.declared.nodes.Sending.TheVariants as Sends
use Rattle.tora_sim.specs.Links.{LinkView, is_at, with_state}
use Rattle.tora_sim.specs.Nodes.{NodeView, is_of}
use Rattle.tora_sim.specs.Store.{SimState, IsStore, state_of, world_of, link_at}
use Rattle.tora_sim.specs.Steps.{IsDone, IsRefused, StopsWith, repeats, Happened}

-- there is an end at each index below the length
pub read_there : (links : List LinkView) (i : ℕ) → i < length links → (x : LinkView) × (x ≡ slice_index_or links i x)
read_there [] i lt = absurd (omega (arith, lt))
read_there (x ∷ links) zero lt = (x, refl)
read_there (x ∷ links) (suc i) lt = read_there links i (omega (arith, lt))

-- a new item that passes the test is found at the same index
pub still_first : {A : Type 0} (p : A → Bool) (xs : List A) (i : ℕ) (new : A) → p new ≡ true → IsFirst p xs i → IsFirst p (set xs i new) i
still_first {A} p xs i new passes h = record {
  within = subst (λ (m : ℕ). i < m) (sym (length-set xs i new)) h.within;
  here = λ d. ap p (get_or-set_same xs i new d h.within) ∙ passes;
  before = λ j d lt. ap p (get_or-set_other xs i j new d (λ same. let e : j ≡ i = same in absurd (omega (arith, lt, e)))) ∙ h.before j d lt;
}

-- an index in the stored data is one in its view
pub end_of : {a b : SimState} (n k at : ℕ) → a ≡ b → IsFirst (is_at n k) b.links at → IsFirst (is_at n k) a.links at
end_of n k at same h = subst (λ (s : SimState). IsFirst (is_at n k) s.links at) (sym same) h

pub node_of : {a b : SimState} (n home : ℕ) → a ≡ b → IsFirst (is_of n) b.nodes home → IsFirst (is_of n) a.nodes home
node_of n home same h = subst (λ (s : SimState). IsFirst (is_of n) s.nodes home) (sym same) h

pub still_end : (n k : ℕ) (links : List LinkView) (at : ℕ) (x new : LinkView) (state : EndState) → IsFirst (is_at n k) links at → x ≡ slice_index_or links at x → new ≡ with_state x state → IsFirst (is_at n k) (set links at new) at
still_end n k links at x new state h read e =
    still_first (is_at n k) links at new (ap (is_at n k) e ∙ subst (λ (z : LinkView). is_at n k z ≡ true) (sym read) (h.here x)) h

pub still_node : (n : ℕ) (nodes : List NodeView) (home : ℕ) (x new : NodeView) → IsFirst (is_of n) nodes home → x ≡ slice_index_or nodes home x → new ≡ record x { sending = Sends.Goes } → IsFirst (is_of n) (set nodes home new) home
still_node n nodes home x new h read e =
    still_first (is_of n) nodes home new (ap (is_of n) e ∙ subst (λ (z : NodeView). is_of n z ≡ true) (sym read) (h.here x)) h

-- the event is refused because memory ran out, so it may be possible
pub no_memory : (w : World) (n k : ℕ) (after : World) → IsRefused w (Transmit n k) Refused.Memory after → refusal_of w (Transmit n k) ≡ None
no_memory w n k after r = elim r.cause [ inl e ↦ e.1 | inr e ↦ absurd (go (is_link w.topology n k) (is_some (frame_due (settings w n k) (w.ends n k) w.clock)) e) ]
  where
    go : (l b : Bool) → (if l then unless_possible b else Some Refused.NoNode) ≡ Some Refused.Memory → ⊥
    go true true e = cc
    go true false e = let z : Some Refused.NotPossible ≡ Some Refused.Memory = e in cc
    go false b e = let z : Some Refused.NoNode ≡ Some Refused.Memory = e in cc

pub no_memory_then : (w : World) (i : ℕ) (after : World) → IsRefused w (Deliver i) Refused.Memory after → refusal_of w (Deliver i) ≡ None
no_memory_then w i after r = elim r.cause [ inl e ↦ e.1 | inr e ↦ absurd (go (is_some (datagram w i)) e) ]
  where
    go : (b : Bool) → (if b then None else Some Refused.NoDatagram) ≡ Some Refused.Memory → ⊥
    go true e = cc
    go false e = let z : Some Refused.NoDatagram ≡ Some Refused.Memory = e in cc

-- the event is refused for another reason
pub other_cause : (w : World) (event : Event) (error : SimError) (after : World) → (error ≡ Refused.Memory → ⊥) → IsRefused w event error after → is_some (refusal_of w event) ≡ true
other_cause w event error after other r = elim r.cause [ inl e ↦ absurd (other e.0) | inr e ↦ ap is_some e ]

-- there is no such end
pub no_end : (t : Topology) (times : Times) (clock : ℕ) (nodes : List NodeView) (links : List LinkView) (ds : List FrameParts) → IsStore (state_of t times clock nodes links ds) → (n k : ℕ) → link_at links n k ≡ None
    → is_some (refusal_of (world_of (state_of t times clock nodes links ds)) (Transmit n k)) ≡ true
no_end t times clock nodes links ds h n k none =
    let w = world_of (state_of t times clock nodes links ds) in
    ap (λ (l : Bool). is_some (if l then unless_possible (is_some (frame_due (settings w n k) (w.ends n k) w.clock)) else Some Refused.NoNode)) (h.links n k ∙ ap is_some none)

-- ---- the events that are left

pub record Onward (start : World) (events : List Event) (w : World) (some : Bool) (left : List Event) : Type 0 where
  pub goes : world_after_all w left ≡ world_after_all start events
  pub any : (some || not (is_empty left)) ≡ not (is_empty events)
  pub stops : (error : SimError) (after : World) → StopsWith w left error after → StopsWith start events error after

pub begins : (w : World) (events : List Event) → Onward w events w false events
begins w events = record { goes = refl; any = refl; stops = λ error after h. h }

-- the same for an equal store
pub still_onward : {a b : SimState} (start : World) (events : List Event) (some : Bool) (j : ℕ) (event : Event) → a ≡ b → Onward start events (world_of b) some (repeats j event (world_of b)) → Onward start events (world_of a) some (repeats j event (world_of a))
still_onward start events some j event same o = subst (λ (s : SimState). Onward start events (world_of s) some (repeats j event (world_of s))) (sym same) o

or_true : (a : Bool) → (a || true) ≡ true
or_true true = refl
or_true false = refl

or_false : (a : Bool) → (a || false) ≡ a
or_false true = refl
or_false false = refl

ended : (start : World) (events : List Event) (w : World) (some : Bool) → Onward start events w some [] → Happened start events w some
ended start events w some o = record { after_is = o.goes; some_is = sym (or_false some) ∙ o.any }

-- the event happened
pub again : (start : World) (events : List Event) (w next : World) (some : Bool) (j : ℕ) (event : Event) → Onward start events w some (repeats (suc j) event w) → IsDone w event next → Onward start events next true (repeats j event next)
unfolding repeats
again start events w next some j event o d =
    let left : repeats (suc j) event w ≡ event ∷ repeats j event (world_after w event) = ap (λ (r : Option SimError). if is_some r then [] else event ∷ repeats j event (world_after w event)) d.accepted in
    let o' : Onward start events w some (event ∷ repeats j event (world_after w event)) = subst (λ (l : List Event). Onward start events w some l) left o in
    subst (λ (v : World). Onward start events v true (repeats j event v)) (sym d.world)
    (record { goes = o'.goes; any = sym (or_true some) ∙ o'.any; stops = λ error after h. o'.stops error after (inr (d.accepted, h)) })

-- the event is refused
pub refused : (start : World) (events : List Event) (w : World) (some : Bool) (j : ℕ) (event : Event) → Onward start events w some (repeats (suc j) event w) → is_some (refusal_of w event) ≡ true → Happened start events w some
unfolding repeats
refused start events w some j event o stop =
    let left : repeats (suc j) event w ≡ [] = ap (λ (b : Bool). if b then [] else event ∷ repeats j event (world_after w event)) stop in
    ended start events w some (subst (λ (l : List Event). Onward start events w some l) left o)

-- memory ran out for the event
pub starved_of : (start : World) (events : List Event) (w next : World) (some : Bool) (j : ℕ) (event : Event) → Onward start events w some (repeats (suc j) event w) → refusal_of w event ≡ None → IsRefused w event Refused.Memory next → StopsWith start events Refused.Memory next
unfolding repeats
starved_of start events w next some j event o free r =
    let left : repeats (suc j) event w ≡ event ∷ repeats j event (world_after w event) =
    ap (λ (r : Option SimError). if is_some r then [] else event ∷ repeats j event (world_after w event)) free in
    o.stops Refused.Memory next (subst (λ (l : List Event). StopsWith w l Refused.Memory next) (sym left) (inl r))

pub starved : (start : World) (events : List Event) (w next : World) (some : Bool) (j n k : ℕ) → Onward start events w some (repeats (suc j) (Transmit n k) w) → IsRefused w (Transmit n k) Refused.Memory next → StopsWith start events Refused.Memory next
starved start events w next some j n k o r = starved_of start events w next some j (Transmit n k) o (no_memory w n k next r) r

pub no_more : (start : World) (events : List Event) (w : World) (some : Bool) (event : Event) → Onward start events w some (repeats zero event w) → Happened start events w some
unfolding repeats
no_more start events w some event o = ended start events w some o

-- the event is refused at once
pub none_at_all : (w : World) (most : ℕ) (event : Event) → is_some (refusal_of w event) ≡ true → Happened w (repeats most event w) w false
unfolding repeats
none_at_all w zero event stop = record { after_is = refl; some_is = refl }
none_at_all w (suc j) event stop = refused w (repeats (suc j) event w) w false j event (begins w (repeats (suc j) event w)) stop
