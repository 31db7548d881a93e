-- After a link is appended to others, or is not, no number of a link is 0.
use Rattle.std.proofs.Common.{ℕ, ◌<◌, Bool, true, false, cond, List, [], ◌∷◌, ◌++◌}
use Rattle.std.proofs.Math.Logic.{∥∥₁_map}
use Rattle.std.proofs.lemmas.List.Elements.{All-nil, All-cons, All-append}
use Rattle.tora_script.specs.Simulator.{ArePairs}

pub pairs_with : (links : List (ℕ × ℕ)) (p : ℕ × ℕ) (is_put : Bool) → ∥ ArePairs links ∥₁ → (0 < p.0) × (0 < p.1) → ∥ ArePairs (cond is_put (links ++ p ∷ []) links) ∥₁
pairs_with links p true h pos = ∥∥₁_map h (λ all.
    All-append (λ q. (0 < q.0) × (0 < q.1)) links (p ∷ []) all (All-cons (λ q. (0 < q.0) × (0 < q.1)) p [] pos (All-nil (λ q. (0 < q.0) × (0 < q.1)))))
pairs_with links p false h pos = h
