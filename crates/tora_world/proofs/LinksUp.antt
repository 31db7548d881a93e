-- Which links are up after an input, and when the input of a link is accepted, by the laws of the core.
use Rattle.std.proofs.Common.{◌≡◌, ℕ, true, false, true≢false, None, sym, ap, ◌∙◌, subst, eqb-true, eq-eqb}
use Rattle.tora_seat.specs.SeatLaws.{is_link_down}
use Rattle.tora_core.specs.declared.Input.{Input}
use Rattle.tora_core.specs.declared.Input.TheVariants as In
use Rattle.tora_core.specs.Numbers.{has_number}
use Rattle.tora_core.specs.CoreRun.{CoreView, core_after, refusal_of}
use Rattle.tora_world.specs.Gaps.{is_link_up}
use Rattle.tora_world.specs.Layers.{CoreLaws}

module _ (cores : CoreLaws) where
  pub up_accepted : (c : CoreView) (k : ℕ) → has_number k c.neighbours ≡ true → has_number k c.up ≡ false → refusal_of c (In.LinkUp k) ≡ None
  up_accepted c k a b = (cores.link_up c k).1 (a, b)

  pub down_accepted : (c : CoreView) (k : ℕ) → has_number k c.neighbours ≡ true → has_number k c.up ≡ true → refusal_of c (In.LinkDown k) ≡ None
  down_accepted c k a b = (cores.link_down c k).1 (a, b)

  pub up_same : (k : ℕ) (c : CoreView) (input : Input) (now : ℕ) → is_link_up k input ≡ false → is_link_down k input ≡ false → has_number k (core_after c input now).up ≡ has_number k c.up
  up_same k c (In.LinkUp j) now a b = cores.others_at_up c k j now (λ q. true≢false (sym (eq-eqb j k (sym q)) ∙ a))
  up_same k c (In.LinkDown j) now a b = cores.others_at_down c k j now (λ q. true≢false (sym (eq-eqb j k (sym q)) ∙ b))
  up_same k c (In.Packet j packet) now a b = ap (has_number k) (cores.at_packet c j packet now)
  up_same k c (In.Need d) now a b = ap (has_number k) (cores.at_need c d now)

  pub up_gone : (k : ℕ) (c : CoreView) (input : Input) (now : ℕ) → refusal_of c input ≡ None → is_link_down k input ≡ true → has_number k (core_after c input now).up ≡ false
  up_gone k c (In.LinkUp j) now ok e = absurd (true≢false (sym e))
  up_gone k c (In.LinkDown j) now ok e = subst (λ x. has_number x (core_after c (In.LinkDown j) now).up ≡ false) (eqb-true j k e) (cores.goes c j now ok)
  up_gone k c (In.Packet j packet) now ok e = absurd (true≢false (sym e))
  up_gone k c (In.Need d) now ok e = absurd (true≢false (sym e))
