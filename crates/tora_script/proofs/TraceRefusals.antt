-- The refusals of a list of nodes, one after the other.
use Rattle.std.proofs.Common.{◌≡◌, ◌∙◌, ap, ℕ, ◌+◌, ◌<◌, ◌≤◌, List, length, get_or, drop, Option, None, Some, refl, add-one}
use Rattle.std.proofs.Math.Seq.{drop-cons}
use Rattle.std.proofs.lemmas.List.{drop_all}
use Rattle.tora_core.specs.declared.errors.CoreError.{CoreError}
use Rattle.tora_script.specs.Trace.{first_refusal, refusal_or}

pub first_step : (f : ℕ → Option CoreError) (nodes : List ℕ) (i : ℕ) → i < length nodes → first_refusal f (drop i nodes) ≡ refusal_or (f (get_or nodes i 0)) (first_refusal f (drop (i + 1) nodes))
first_step f nodes i h = rw (drop-cons nodes i 0 h, add-one) refl

-- if this node is not refused, the refusal is that of the following nodes
pub first_on : (f : ℕ → Option CoreError) (nodes : List ℕ) (i : ℕ) → i < length nodes → first_refusal f nodes ≡ first_refusal f (drop i nodes) → f (get_or nodes i 0) ≡ None → first_refusal f nodes ≡ first_refusal f (drop (i + 1) nodes)
first_on f nodes i h so none = so ∙ first_step f nodes i h ∙ ap (λ (r : Option CoreError). refusal_or r (first_refusal f (drop (i + 1) nodes))) none

pub first_here : (f : ℕ → Option CoreError) (nodes : List ℕ) (i : ℕ) (e : CoreError) → i < length nodes → first_refusal f nodes ≡ first_refusal f (drop i nodes) → f (get_or nodes i 0) ≡ Some e → first_refusal f nodes ≡ Some e
first_here f nodes i e h so some = so ∙ first_step f nodes i h ∙ ap (λ (r : Option CoreError). refusal_or r (first_refusal f (drop (i + 1) nodes))) some

pub first_none : (f : ℕ → Option CoreError) (nodes : List ℕ) (i : ℕ) → length nodes ≤ i → first_refusal f nodes ≡ first_refusal f (drop i nodes) → first_refusal f nodes ≡ None
first_none f nodes i h so = so ∙ ap (first_refusal f) (drop_all i nodes h)
