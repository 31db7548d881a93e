use Rattle.std.proofs.Common.{◌≡◌, ℕ, Option, Some, None, IfSome, IfNone, slice_get, find, sym, subst}
use Rattle.tora_sim.specs.Links.{is_key}
use Rattle.tora_sim.proofs.Keys.{key_found, key_not_found}
use Rattle.tora_sim.proofs.end_keys.search.Goals as goal

pub returns-clause-first : goal.returns-clause-first
returns-clause-first c =
    subst (λ (o : Option ℕ). IfSome o (λ i. slice_get c.args.keys.now i ≡ Some (c.args.n, c.args.k))) (sym c.ok.ensures.value)
    (key_found c.args.n c.args.k c.args.keys.now c.binary_search.result c.binary_search.ensures.bound c.binary_search.ensures.position)

pub returns-clause-none : goal.returns-clause-none
returns-clause-none c =
    subst (λ (o : Option ℕ). IfNone o (find (is_key c.args.n c.args.k) c.args.keys.now ≡ None)) (sym c.ok.ensures.value)
    (key_not_found c.args.n c.args.k c.args.keys.now c.binary_search.result c.requires c.binary_search.ensures.position)
