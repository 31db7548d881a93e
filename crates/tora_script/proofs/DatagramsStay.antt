-- The delivery of a datagram does not change which datagrams were sent.
use Rattle.std.proofs.Common.{◌≡◌, ℕ, zero, suc, ◌+◌, List, [], ◌∷◌, is_some, Option, Some, None, slice_get, refl, sym, ap, ap₂, ◌∙◌}
use Rattle.std.proofs.lemmas.Bool.{cond_both}
use Rattle.tora_frame.specs.FrameParts.{FrameParts}
use Rattle.tora_world.specs.declared.event.Event.{Event}
use Rattle.tora_world.specs.declared.event.Event.TheVariants.{Deliver}
use Rattle.tora_world.specs.World.{World, Choice, datagram, refusal_of, refusal_by, own_choice, after_receiving, effect_by, world_by, world_after, world_after_all}
use Rattle.tora_script.specs.Parted.{is_parted}
use Rattle.tora_script.specs.InFlight.{MomentView, gone, goes, copies_in, at_once}
use Rattle.tora_script.specs.Rounds.{repeats, delivery_of, delivery}
use Rattle.tora_script.specs.declared.direction_counts.DirectionCounts.{DirectionCounts}
use Rattle.tora_script.specs.DirectionCounts.{AreCounted}

module _ (c : Choice) (w : World) where
  receiving_keeps : (o : Option FrameParts) → (after_receiving w c o).datagrams ≡ w.datagrams
  receiving_keeps None = refl
  receiving_keeps (Some f) = cond_both (w.arms f.header.receiver).receive _ _ (λ (v : World). v.datagrams ≡ w.datagrams) (λ _. refl) (λ _. refl)

  delivering_keeps : (i : ℕ) → (effect_by c w (Deliver i)).datagrams ≡ w.datagrams
  unfolding effect_by
  delivering_keeps i = receiving_keeps (datagram w i)

one_keeps : (w : World) (i : ℕ) → (world_after w (Deliver i)).datagrams ≡ w.datagrams
unfolding world_by
one_keeps w i = cond_both (is_some (refusal_by (own_choice w (Deliver i)) w (Deliver i))) w (effect_by (own_choice w (Deliver i)) w (Deliver i)) (λ (v : World). v.datagrams ≡ w.datagrams) (λ _. refl) (λ _. delivering_keeps (own_choice w (Deliver i)) w i)

all_keep : (k i : ℕ) (w : World) → (world_after_all w (repeats k (Deliver i) w)).datagrams ≡ w.datagrams
unfolding repeats
all_keep zero i w = refl
all_keep (suc k) i w =
    cond_both (is_some (refusal_of w (Deliver i))) [] (Deliver i ∷ repeats k (Deliver i) (world_after w (Deliver i))) (λ (events : List Event). (world_after_all w events).datagrams ≡ w.datagrams) (λ _. refl)
    (λ _. all_keep k i (world_after w (Deliver i)) ∙ one_keeps w i)

delivery_keeps : (parted : List (ℕ × ℕ)) (m : MomentView) (i : ℕ) (w : World) (o : Option FrameParts) → (world_after_all w (delivery_of parted m i o w)).datagrams ≡ w.datagrams
delivery_keeps parted m i w None = refl
delivery_keeps parted m i w (Some f) =
    cond_both (is_parted parted f.header.sender f.header.receiver) [] (repeats (at_once (copies_in m i (f.header.sender, f.header.receiver) w)) (Deliver i) w) (λ (events : List Event). (world_after_all w events).datagrams ≡ w.datagrams) (λ _. refl)
    (λ _. all_keep (at_once (copies_in m i (f.header.sender, f.header.receiver) w)) i w)

same_datagram : (v w : World) → v.datagrams ≡ w.datagrams → (i : ℕ) → datagram v i ≡ datagram w i
same_datagram v w e zero = refl
same_datagram v w e (suc place) = ap (λ (ds : List FrameParts). slice_get ds place) e

same_gone : (v w : World) (direction : ℕ × ℕ) (first count : ℕ) → v.datagrams ≡ w.datagrams → gone v direction first count ≡ gone w direction first count
unfolding gone
same_gone v w direction first zero e = refl
same_gone v w direction first (suc count) e = ap₂ (λ (a b : ℕ). a + b) (same_gone v w direction first count e) (ap (goes direction) (same_datagram v w e (first + count + 1)))

-- the counts that held before a delivery hold after it
pub still_counted : (parted : List (ℕ × ℕ)) (m : MomentView) (i : ℕ) (w v : World) (counts : DirectionCounts) (first count : ℕ) → v ≡ world_after_all w (delivery parted m i w) → AreCounted w counts first count → AreCounted v counts first count
still_counted parted m i w v counts first count after h direction =
    let stay : v.datagrams ≡ w.datagrams = ap (λ (x : World). x.datagrams) after ∙ delivery_keeps parted m i w (datagram w i) in
    h direction ∙ sym (same_gone v w direction first count stay)
