-- How many datagrams were counted in each direction, one datagram after another.
use Rattle.std.proofs.Common.{◌≡◌, ℕ, zero, suc, ◌+◌, ◌-◌, ◌<◌, ◌==◌, Bool, true, false, cond, if◌then◌else◌, Option, Some, None, refl, sym, ap, ◌∙◌, arith, unwrap_or}
use Rattle.std.specs.Ordering.{is_eq}
use Rattle.std.proofs.lemmas.Bool.{eq-eqb, and_from}
use Rattle.std.proofs.lemmas.Option.{none-some, same_Some}
use Rattle.tora_frame.specs.FrameParts.{FrameParts}
use Rattle.tora_world.specs.World.{World, datagram}
use Rattle.tora_script.specs.InFlight.{gone, goes}
use Rattle.tora_script.specs.declared.direction_counts.DirectionCounts.{DirectionCounts}
use Rattle.tora_script.specs.Pairs.{pair_cmp}
use Rattle.tora_script.specs.DirectionCounts.{direction_in, times, goes_as, IsOneMore, AreCounted}
use Rattle.tora_script.proofs.PairOrder.{same_pair, other_pair}

-- ---- the count of one direction rises

up : (a n o p g : ℕ) → a ≡ n → n ≡ o + 1 → o ≡ p → g ≡ 1 → a ≡ p + g
up a n o p g now next before here = omega (arith, now, next, before, here)

stay : (a p g : ℕ) → a ≡ p → g ≡ 0 → a ≡ p + g
stay a p g same none = omega (arith, same, none)

-- the count of this direction is one more, and every other count is unchanged
pub one_more : (old new : ℕ × ℕ → Option ℕ) (direction : ℕ × ℕ) (n : ℕ) → n ≡ unwrap_or (old direction) 0 + 1 → ((q : ℕ × ℕ) → new q ≡ cond (is_eq (pair_cmp direction q)) (Some n) (old q))
    → (q : ℕ × ℕ) → unwrap_or (new q) 0 ≡ unwrap_or (old q) 0 + goes_as direction q
one_more old new direction n next updates q = go (is_eq (pair_cmp direction q)) refl
  where
    go : (b : Bool) → is_eq (pair_cmp direction q) ≡ b → unwrap_or (new q) 0 ≡ unwrap_or (old q) 0 + goes_as direction q
    go true e =
        let same : direction ≡ q = same_pair direction q e in
        let here : goes_as direction q ≡ 1 = ap (λ (b : Bool). if b then 1 else 0) (and_from (direction.0 == q.0) (direction.1 == q.1) (eq-eqb direction.0 q.0 (ap (λ (p : ℕ × ℕ). p.0) same)) (eq-eqb direction.1 q.1 (ap (λ (p : ℕ × ℕ). p.1) same))) in
        let now : unwrap_or (new q) 0 ≡ n = ap (λ (o : Option ℕ). unwrap_or o 0) (updates q ∙ ap (λ (b : Bool). cond b (Some n) (old q)) e) in
        up (unwrap_or (new q) 0) n (unwrap_or (old direction) 0) (unwrap_or (old q) 0) (goes_as direction q) now next (ap (λ (p : ℕ × ℕ). unwrap_or (old p) 0) same) here
    go false e =
        let none : goes_as direction q ≡ 0 = ap (λ (b : Bool). if b then 1 else 0) (other_pair direction q e) in
        let same : unwrap_or (new q) 0 ≡ unwrap_or (old q) 0 = ap (λ (o : Option ℕ). unwrap_or o 0) (updates q ∙ ap (λ (b : Bool). cond b (Some n) (old q)) e) in
        stay (unwrap_or (new q) 0) (unwrap_or (old q) 0) (goes_as direction q) same none

-- ---- one more datagram

-- the datagrams up to i are those before i, and datagram i
next_gone : (w : World) (direction : ℕ × ℕ) (start i : ℕ) → start < i → gone w direction start (i - start) ≡ gone w direction start (i - 1 - start) + goes direction (datagram w i)
unfolding gone
next_gone w direction start i behind =
    let k : i - start ≡ suc (i - 1 - start) = omega (arith, behind) in
    let j : start + (i - 1 - start) + 1 ≡ i = omega (arith, behind) in
    ap (gone w direction start) k ∙ ap (λ (n : ℕ). gone w direction start (i - 1 - start) + goes direction (datagram w n)) j

goes_nowhere : (o : Option FrameParts) (direction : ℕ × ℕ) → direction_in o ≡ None → goes direction o ≡ 0
goes_nowhere None direction e = refl
goes_nowhere (Some f) direction e = absurd (none-some (f.header.sender, f.header.receiver) (sym e))

goes_there : (o : Option FrameParts) (here direction : ℕ × ℕ) → direction_in o ≡ Some here → goes direction o ≡ goes_as here direction
goes_there None here direction e = absurd (none-some here e)
goes_there (Some f) here direction e =
    let same : (f.header.sender, f.header.receiver) ≡ here = same_Some (f.header.sender, f.header.receiver) here e in
    ap (λ (p : ℕ × ℕ). goes_as p direction) same

as_many : (t a b g : ℕ) → g ≡ 0 → t ≡ a → b ≡ a + g → t ≡ b
as_many t a b g none front last = omega (arith, none, front, last)

-- there is no datagram i
pub none_more : (w : World) (counts : DirectionCounts) (start i : ℕ) → start < i → AreCounted w counts start (i - 1 - start) → direction_in (datagram w i) ≡ None → AreCounted w counts start (i - start)
none_more w counts start i behind h none direction =
    as_many (times counts direction) (gone w direction start (i - 1 - start)) (gone w direction start (i - start)) (goes direction (datagram w i)) (goes_nowhere (datagram w i) direction none) (h direction) (next_gone w direction start i behind)

-- datagram i was sent in this direction
pub some_more : (w : World) (old new : DirectionCounts) (start i : ℕ) (here : ℕ × ℕ) → start < i → AreCounted w old start (i - 1 - start) → direction_in (datagram w i) ≡ Some here → IsOneMore old new here → AreCounted w new start (i - start)
some_more w old new start i here behind h is more direction =
    more direction ∙ ap (λ (n : ℕ). n + goes_as here direction) (h direction) ∙ ap (λ (n : ℕ). gone w direction start (i - 1 - start) + n) (sym (goes_there (datagram w i) here direction is)) ∙ sym (next_gone w direction start i behind)

-- no datagram was counted yet
pub none_yet : (w : World) (counts : DirectionCounts) (start count : ℕ) → count ≡ 0 → ((direction : ℕ × ℕ) → times counts direction ≡ 0) → AreCounted w counts start count
unfolding gone
none_yet w counts start zero is none direction = none direction
none_yet w counts start (suc count) is none direction = absurd (omega (arith, is))
