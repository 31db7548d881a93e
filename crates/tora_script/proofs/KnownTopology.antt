-- A topology that exists within known limits exists within equal limits.
use Rattle.std.proofs.Common.{◌≡◌, ◌==◌, ◌&&◌, ℕ, Bool, true, false, List, Option, Some, None, ap, sym, subst, ◌∙◌, true≢false, eqb-true, MatchBool}
use Rattle.std.specs.Prelude.{⊤}
use Rattle.std.proofs.lemmas.Bool.{and_parts}
use Rattle.tora_world.specs.declared.limits.Limits.{Limits}
use Rattle.tora_script.specs.Simulator.{has_topology}
use Rattle.tora_script.specs.KnownLimits.{is_same_limits, are_limits, has_known_topology}

same_limits : (a b : Limits) → is_same_limits a b ≡ true → a ≡ b
same_limits a b h =
    let two = and_parts ((a.neighbours == b.neighbours) && (a.destinations == b.destinations)) (a.nodes == b.nodes) h in
    let one = and_parts (a.neighbours == b.neighbours) (a.destinations == b.destinations) two.0 in
    let make : ℕ → ℕ → ℕ → Limits = λ x y z. record { neighbours = x; destinations = y; nodes = z } in
    ap (λ (n : ℕ). make n a.destinations a.nodes) (eqb-true a.neighbours b.neighbours one.0)
    ∙ ap (λ (n : ℕ). make b.neighbours n a.nodes) (eqb-true a.destinations b.destinations one.1)
    ∙ ap (λ (n : ℕ). make b.neighbours b.destinations n) (eqb-true a.nodes b.nodes two.1)

pub known_stands : (known : Option Limits) (limits : Limits) (links : List (ℕ × ℕ)) (dests : List ℕ) (b : Bool) → b ≡ are_limits known limits → has_known_topology known links dests ≡ true
    → MatchBool b (has_topology limits links dests ≡ true) ⊤
known_stands None limits links dests true is h = absurd (true≢false is)
known_stands None limits links dests false is h = tt
known_stands (Some same) limits links dests true is h = subst (λ (l : Limits). has_topology l links dests ≡ true) (same_limits same limits (sym is)) h
known_stands (Some same) limits links dests false is h = tt
