-- In a world at rest, what was taken in a current session is all that was sent in it.
use Rattle.std.proofs.Common.{◌≡◌, ℕ, zero, suc, ◌≤◌, true, ◌⊎◌, inl, inr, List, [], ◌∷◌, ◌++◌, map, length, Option, Some, refl, sym, ap, ap₂, ◌∙◌, subst, append-nil, arith}
use Rattle.std.specs.Prelude.{drop}
use Rattle.tora_packet.specs.declared.Packet.{Packet}
use Rattle.tora_arq.specs.declared.life.Life.{Life}
use Rattle.tora_arq.specs.declared.times.Times.{Times}
use Rattle.tora_arq.specs.declared.phase.Phase.TheVariants.{Bound}
use Rattle.tora_arq.specs.SendQueue.{packets_in}
use Rattle.tora_arq.specs.LinkEnd.{EndState}
use Rattle.tora_seat.specs.Serving.{Parcel}
use Rattle.tora_world.specs.Topology.{Topology}
use Rattle.tora_world.specs.Lists.{packets_of, parcels_in, Begins}
use Rattle.tora_arq.specs.Lives.{reversed}
use Rattle.tora_world.specs.LinkMachine.{MachineEnd, machine_after}
use Rattle.tora_world.specs.World.{World, first_world, neighbours}
use Rattle.tora_world.specs.FreeWorld.{Schedule, after_schedule}
use Rattle.tora_world.specs.Law.{Sometime, HasAccepted}
use Rattle.tora_world.specs.Layers.{LinkLaws, LifeLaws}
use Rattle.tora_world.specs.Rest.{IsIdleEnd}
use Rattle.tora_world.proofs.PacketLists.{same_refl}
use Rattle.tora_world.proofs.Invariant.{Arrival, arrival_of, is_the_current, Queued, InLife, InPhase, seen_at_other}
use Rattle.tora_world.proofs.EndViews.{arrivals_of, end_views}
use Rattle.tora_world.proofs.AllRuns.{all_steps, all_seen, all_follow, prefix}
use Rattle.tora_world.proofs.AcceptedCounts.{seen_now}

-- ---- lists

drop_none : (count : ℕ) (xs : List Packet) → drop count xs ≡ [] → length xs ≤ count
drop_none zero xs e = let z : length xs ≡ 0 = ap length e in omega (arith, z)
drop_none (suc count) [] e = omega arith
drop_none (suc count) (x ∷ xs) e = let r = drop_none count xs e in omega (arith, r)

-- a prefix of a list that is at least as long is the list
begins_all : (xs ys : List Packet) → Begins xs ys → length ys ≤ length xs → xs ≡ ys
begins_all [] [] b le = refl
begins_all [] (y ∷ ys) b le = absurd (omega (arith, le))
begins_all (x ∷ xs) [] b le = absurd (let q : x ∷ (xs ++ b.0) ≡ [] = b.1 in cc)
begins_all (x ∷ xs) (y ∷ ys) b le =
    let q : x ∷ (xs ++ b.0) ≡ y ∷ ys = b.1 in
    let head : x ≡ y = cc in
    let tail : xs ++ b.0 ≡ ys = cc in
    ap₂ (λ z zs. z ∷ zs) head (begins_all xs ys (b.0, tail) (omega (arith, le)))

-- ---- one end

-- if an end has no more arrivals, each packet accepted in its current session has been taken
taken_count : (l : Life) (accepted : ℕ) (current : Option Life) (coming : List Arrival) (taken : List Parcel) (e : EndState) (out sent other : List Parcel) (p : MachineEnd) (done : Life → ℕ → Type 0) →
    current ≡ Some l → coming ≡ [] → InLife l e current coming out sent taken other p done → length (packets_of l taken) ≡ e.accepted
taken_count l accepted current coming taken e out sent other p done on none k =
    let on_now : is_the_current l current ≡ true = ap (is_the_current l) on ∙ same_refl l in
    let k' : InLife l e current [] out sent taken other p done = subst (λ (q : List Arrival). InLife l e current q out sent taken other p done) none k in
    ap length (sym (append-nil (packets_of l taken))) ∙ k'.counted on_now

-- if an end's send queue and the queue to it are empty, each packet sent is acknowledged
sent_count : (l : Life) (e : EndState) (out sent : List Parcel) → e.queue ≡ [] → out ≡ [] → Queued l e out sent → length (packets_of l sent) ≤ e.acknowledged
sent_count l e out sent empty none q =
    let left : drop e.acknowledged q.submitted ≡ [] = sym q.queue.waiting ∙ ap packets_in empty in
    let few : length q.submitted ≤ e.acknowledged = drop_none e.acknowledged q.submitted left in
    let all : q.submitted ≡ packets_of l sent = sym (append-nil q.submitted) ∙ ap (λ xs. q.submitted ++ packets_of l xs) (sym none) ∙ q.waits in
    let n : length q.submitted ≡ length (packets_of l sent) = ap length all in
    omega (arith, few, n)

-- ---- both ends

module _ (laws : LinkLaws) (lows : LifeLaws) (t : Topology) (times : Times) (es : Schedule) where
  abbrev final : World
  final = after_schedule es (first_world t times)

  -- the invariant of a bound end
  in_life : (n k : ℕ) (l : Life) → (final.ends n k).phase ≡ Bound l →
      InLife l (end_views final n k).endpoint (end_views final n k).current (end_views final n k).coming (end_views final n k).out (end_views final n k).sent (end_views final n k).taken
      (machine_after (all_steps laws lows t times es) k n).sent (machine_after (all_steps laws lows t times es) n k) (seen_at_other (all_seen laws lows t times es) n k)
  in_life n k l on =
      subst (λ ph. InPhase ph (end_views final n k) (machine_after (all_steps laws lows t times es) n k) (machine_after (all_steps laws lows t times es) k n).sent (seen_at_other (all_seen laws lows t times es) n k)) on
      ((all_follow laws lows t times es).sides n k).phase

  none_comes : (n k : ℕ) → final.items n ≡ [] → (final.ends n k).events ≡ [] → (end_views final n k).coming ≡ []
  none_comes n k items events = ap₂ (λ is vs. arrivals_of (neighbours final n) k is ++ map arrival_of vs) items events

  -- a count that was seen is at most the count that is accepted now
  told_now : (n k : ℕ) (l : Life) (count : ℕ) → (final.ends n k).phase ≡ Bound l → (count ≡ 0) ⊎ Sometime (HasAccepted n k l count) es (first_world t times) → count ≤ (final.ends n k).accepted
  told_now n k l count on (inl z) = omega (arith, z)
  told_now n k l count on (inr s) = seen_now laws lows t times es n k l count on s

  pub taken_is_sent : (n k : ℕ) (l : Life) → final.items n ≡ [] → IsIdleEnd final n k → IsIdleEnd final k n → (final.ends n k).phase ≡ Bound l → (final.ends k n).phase ≡ Bound (reversed l) → (final.seats n).current k ≡ Some l →
      packets_of l (final.steps n k) ≡ packets_of (reversed l) (parcels_in (final.put k n))
  taken_is_sent n k l items here there bound other_bound on =
      let a = in_life n k l bound in
      let b = in_life k n (reversed l) other_bound in
      let taken : length (packets_of l (final.steps n k)) ≡ (final.ends n k).accepted =
      taken_count l (final.ends n k).accepted (end_views final n k).current (end_views final n k).coming (final.steps n k) (final.ends n k) (end_views final n k).out (end_views final n k).sent
      (machine_after (all_steps laws lows t times es) k n).sent (machine_after (all_steps laws lows t times es) n k) (seen_at_other (all_seen laws lows t times es) n k) on (none_comes n k items here.events) a in
      let sent : length (packets_of (reversed l) (parcels_in (final.put k n))) ≤ (final.ends k n).acknowledged =
      sent_count (reversed l) (final.ends k n) (end_views final k n).out (parcels_in (final.put k n)) there.queue (ap parcels_in there.cargoes) b.queued in
      let told : (final.ends k n).acknowledged ≤ (final.ends n k).accepted = told_now n k l (final.ends k n).acknowledged bound b.told in
      begins_all (packets_of l (final.steps n k)) (packets_of (reversed l) (parcels_in (final.put k n))) (prefix laws lows t times es k n (reversed l)) (omega (arith, taken, sent, told))
