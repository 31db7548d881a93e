use Rattle.std.proofs.Common.{◌≡◌, ◌∙◌, sym, ℕ, ◌<◌, true, ltb, List, [], ◌∷◌, All}
use Rattle.std.specs.List.{list_all}
use Rattle.std.proofs.lemmas.Bool.{and_parts, ltb-true}
use Rattle.std.proofs.lemmas.List.Elements.{All-cons, All-nil}
use Rattle.tora_script.proofs.trace.core_copy.are_ids.Goals as goal

all_ids : (xs : List ℕ) → list_all (λ n. ltb 0 n) xs ≡ true → All (λ n. 0 < n) xs
all_ids [] h = All-nil _
all_ids (x ∷ xs) h = let p = and_parts (ltb 0 x) (list_all (λ n. ltb 0 n) xs) h in All-cons (λ n. 0 < n) x xs (ltb-true 0 x p.0) (all_ids xs p.1)

pub returns-clause-all : goal.returns-clause-all
returns-clause-all c h = all_ids c.args.numbers.now (sym c.has_no_zero.ensures ∙ h)
