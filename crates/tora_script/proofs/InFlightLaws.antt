-- The delayed copies of datagrams, one datagram after another.
use Rattle.std.proofs.Common.{◌≡◌, ℕ, zero, suc, ◌+◌, ◌-◌, ◌≤◌, Bool, true, false, if◌then◌else◌, List, [], ◌++◌, Option, Some, None, refl, sym, ap, ap₂, ◌∙◌, arith, append_assoc, append-nil}
use Rattle.std.proofs.lemmas.Bool.{cond-true, cond-false}
use Rattle.std.proofs.lemmas.Option.{none-some, same_Some}
use Rattle.tora_frame.specs.FrameParts.{FrameParts}
use Rattle.tora_script.specs.declared.channel.channel.Copies.{Copies}
use Rattle.tora_script.specs.declared.channel.channel.Place.{Place}
use Rattle.tora_script.specs.Table.{copies_on}
use Rattle.tora_world.specs.World.{World, datagram}
use Rattle.tora_script.specs.Parted.{is_parted}
use Rattle.tora_script.specs.InFlight.{MomentView, copies_in, later_copies, put_off_of, put_off}
use Rattle.tora_script.specs.DirectionCounts.{direction_in}
use Rattle.tora_script.proofs.ClearLaws.{one_now}

put_off_next : (parted : List (ℕ × ℕ)) (m : MomentView) (i : ℕ) (w : World) → m.start ≤ i → put_off parted m (i + 1 - m.start) w ≡ put_off parted m (i - m.start) w ++ put_off_of parted m (i + 1) w (datagram w (i + 1))
unfolding put_off
put_off_next parted m i w above =
    let k : i + 1 - m.start ≡ suc (i - m.start) = omega arith in
    let j : m.start + (i - m.start) + 1 ≡ i + 1 = omega arith in
    ap (λ (n : ℕ). put_off parted m n w) k ∙ ap (λ (n : ℕ). put_off parted m (i - m.start) w ++ put_off_of parted m n w (datagram w n)) j

-- the delayed copies with those of one more datagram
pub put_off_on : (old now next : List (ℕ × ℕ)) (parted : List (ℕ × ℕ)) (m : MomentView) (i : ℕ) (w : World) → m.start ≤ i → now ≡ old ++ put_off parted m (i - m.start) w → next ≡ now ++ put_off_of parted m (i + 1) w (datagram w (i + 1))
    → next ≡ old ++ put_off parted m (i + 1 - m.start) w
put_off_on old now next parted m i w above so_far one =
    let more : List (ℕ × ℕ) = put_off_of parted m (i + 1) w (datagram w (i + 1)) in
    one ∙ ap (λ (xs : List (ℕ × ℕ)). xs ++ more) so_far ∙ append_assoc old (put_off parted m (i - m.start) w) more
    ∙ ap (λ (xs : List (ℕ × ℕ)). old ++ xs) (sym (put_off_next parted m i w above))

-- ---- the delayed copies of one datagram

pub notes_none : (parted : List (ℕ × ℕ)) (m : MomentView) (i : ℕ) (w : World) (o : Option FrameParts) (old : List (ℕ × ℕ)) → direction_in o ≡ None → old ≡ old ++ put_off_of parted m i w o
notes_none parted m i w None old there = sym (append-nil old)
notes_none parted m i w (Some f) old there = absurd (none-some (f.header.sender, f.header.receiver) (sym there))

pub notes_parted : (parted : List (ℕ × ℕ)) (m : MomentView) (i : ℕ) (w : World) (o : Option FrameParts) (direction : ℕ × ℕ) (old : List (ℕ × ℕ)) → direction_in o ≡ Some direction → is_parted parted direction.0 direction.1 ≡ true → old ≡ old ++ put_off_of parted m i w o
notes_parted parted m i w None direction old there is = absurd (none-some direction there)
notes_parted parted m i w (Some f) direction old there is =
    let same : (f.header.sender, f.header.receiver) ≡ direction = same_Some (f.header.sender, f.header.receiver) direction there in
    let none : put_off_of parted m i w (Some f) ≡ [] =
    cond-true (is_parted parted f.header.sender f.header.receiver) [] (later_copies i (copies_in m i (f.header.sender, f.header.receiver) w)) (ap (λ (p : ℕ × ℕ). is_parted parted p.0 p.1) same ∙ is) in
    sym (ap (λ (xs : List (ℕ × ℕ)). old ++ xs) none ∙ append-nil old)

pub notes_both : (parted : List (ℕ × ℕ)) (m : MomentView) (i : ℕ) (w : World) (o : Option FrameParts) (direction : ℕ × ℕ) (copies : Copies) (old new : List (ℕ × ℕ)) → direction_in o ≡ Some direction → is_parted parted direction.0 direction.1 ≡ false → copies ≡ copies_in m i direction w → new ≡ old ++ later_copies i copies
    → new ≡ old ++ put_off_of parted m i w o
notes_both parted m i w None direction copies old new there is value noted = absurd (none-some direction there)
notes_both parted m i w (Some f) direction copies old new there is value noted =
    let same : (f.header.sender, f.header.receiver) ≡ direction = same_Some (f.header.sender, f.header.receiver) direction there in
    let some : put_off_of parted m i w (Some f) ≡ later_copies i (copies_in m i (f.header.sender, f.header.receiver) w) =
    cond-false (is_parted parted f.header.sender f.header.receiver) [] (later_copies i (copies_in m i (f.header.sender, f.header.receiver) w)) (ap (λ (p : ℕ × ℕ). is_parted parted p.0 p.1) same ∙ is) in
    let here : later_copies i copies ≡ put_off_of parted m i w (Some f) = ap (λ (c : Copies). later_copies i c) value ∙ sym (ap (λ (p : ℕ × ℕ). later_copies i (copies_in m i p w)) same) ∙ sym some in
    noted ∙ ap (λ (xs : List (ℕ × ℕ)). old ++ xs) here

-- ---- over a clear channel no copy is delayed

none_of : (i : ℕ) (b : Bool) (c : Copies) → c ≡ one_now → (if b then [] else later_copies i c) ≡ []
none_of i true c is = refl
none_of i false c is = ap (later_copies i) is

module _ (parted : List (ℕ × ℕ)) (m : MomentView) (w : World) (clear : (place : Place) → copies_on m.channel place ≡ one_now) where
  none_put_off_of : (i : ℕ) (o : Option FrameParts) → put_off_of parted m i w o ≡ []
  none_put_off_of i None = refl
  none_put_off_of i (Some f) = none_of i (is_parted parted f.header.sender f.header.receiver) (copies_in m i (f.header.sender, f.header.receiver) w) (clear _)

  pub none_put_off : (count : ℕ) → put_off parted m count w ≡ []
  unfolding put_off
  none_put_off zero = refl
  none_put_off (suc count) = ap₂ (λ (xs ys : List (ℕ × ℕ)). xs ++ ys) (none_put_off count) (none_put_off_of (m.start + count + 1) (datagram w (m.start + count + 1)))
