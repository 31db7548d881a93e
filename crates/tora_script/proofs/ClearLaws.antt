-- Rounds over the clear channel.
use Rattle.std.proofs.Common.{◌≡◌, ℕ, zero, suc, ◌+◌, Bool, true, false, if◌then◌else◌, List, [], ◌++◌, Option, Some, None, refl, ap, ap₂, ◌∙◌}
use Rattle.tora_frame.specs.FrameParts.{FrameParts}
use Rattle.tora_script.specs.declared.channel.channel.Copies.{Copies}
use Rattle.tora_script.specs.declared.channel.channel.Place.{Place}
use Rattle.tora_script.specs.Channel as Base
use Rattle.tora_script.specs.Channel.{copies_of}
use Rattle.tora_script.specs.Table.{clear, channel_on, copies_on}
use Rattle.tora_world.specs.declared.event.Event.TheVariants.{Deliver}
use Rattle.tora_world.specs.World.{World, datagram}
use Rattle.tora_script.specs.InFlight.{MomentView, copies_in, at_once, later_copies, put_off_of, put_off}
use Rattle.tora_script.specs.Rounds.{is_parted, repeats, arrival_of, delivery_of, delivery}

-- a datagram arrives once, without delay
abbrev pub one_now : Copies
one_now = record { first = Some 0; second = None }

-- no line of a table changes the clear channel
on_clear : (p : Place) → copies_on clear p ≡ copies_of Base.clear p
unfolding channel_on
on_clear p = refl

module _ (copies : (p : Place) → copies_of Base.clear p ≡ one_now) (parted : List (ℕ × ℕ)) (m : MomentView) (e : m.channel ≡ clear) (w : World) where
  copies_are : (i : ℕ) (direction : ℕ × ℕ) → copies_in m i direction w ≡ one_now
  copies_are i direction = rw e (on_clear _ ∙ copies _)

  delivers_of : (i : ℕ) (o : Option FrameParts) → delivery_of parted m i o w ≡ arrival_of parted i o w
  delivers_of i None = refl
  delivers_of i (Some f) =
      ap (λ (c : Copies). if is_parted parted f.header.sender f.header.receiver then [] else repeats (at_once c) (Deliver i) w) (copies_are i (f.header.sender, f.header.receiver))

  pub delivers : (i : ℕ) → delivery parted m i w ≡ arrival_of parted i (datagram w i) w
  delivers i = delivers_of i (datagram w i)

  none_of : (i : ℕ) (b : Bool) (c : Copies) → c ≡ one_now → (if b then [] else later_copies i c) ≡ []
  none_of i true c is = refl
  none_of i false c is = ap (later_copies i) is

  not_put_off : (i : ℕ) (o : Option FrameParts) → put_off_of parted m i w o ≡ []
  not_put_off i None = refl
  not_put_off i (Some f) = none_of i (is_parted parted f.header.sender f.header.receiver) (copies_in m i (f.header.sender, f.header.receiver) w) (copies_are i (f.header.sender, f.header.receiver))

  pub nothing_later : (count : ℕ) → put_off parted m count w ≡ []
  unfolding put_off
  nothing_later zero = refl
  nothing_later (suc count) = ap₂ (λ (xs ys : List (ℕ × ℕ)). xs ++ ys) (nothing_later count) (not_put_off (m.start + count + 1) (datagram w (m.start + count + 1)))
