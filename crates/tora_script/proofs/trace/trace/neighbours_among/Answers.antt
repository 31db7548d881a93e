use Rattle.std.proofs.Common.{ℕ, List, IfOk, ◌≡◌, subst}
use Rattle.tora_script.proofs.trace.trace.neighbours_among.Goals as goal

pub returns : goal.returns
returns c = subst (λ (ks : List ℕ). IfOk c.neighbours_in.result (λ v. v.items ≡ ks)) c.ends_of.ensures c.neighbours_in.ensures
