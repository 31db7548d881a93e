use Rattle.std.proofs.Common.{ℕ, Option, IfSome, IfNone, None, find, ◌≡◌, sym, subst, rules}
use Rattle.std.proofs.lemmas.List.Sorted.{answers_always}
use Rattle.tora_sim.specs.Keyed.{IsFirst}
use Rattle.tora_sim.specs.Nodes.{NodeView, is_of}
use Rattle.tora_sim.proofs.Keys.{node_placed, node_not_placed}
use Rattle.tora_sim.proofs.nodes.search.Goals as goal

pub returns-clause-first : goal.returns-clause-first
returns-clause-first c =
    let by_key = c.binary_search_by_key.ensures.position (λ (node : NodeView). node.node) (answers_always _ _ _ (λ f a r g called. search rules)) in
    subst (λ (o : Option ℕ). IfSome o (IsFirst (is_of c.args.n) c.args.nodes.now)) (sym c.ok.ensures.value)
    (node_placed c.args.n c.args.nodes.now c.binary_search_by_key.result c.requires c.binary_search_by_key.ensures.bound by_key)

pub returns-clause-none : goal.returns-clause-none
returns-clause-none c =
    let by_key = c.binary_search_by_key.ensures.position (λ (node : NodeView). node.node) (answers_always _ _ _ (λ f a r g called. search rules)) in
    subst (λ (o : Option ℕ). IfNone o (find (is_of c.args.n) c.args.nodes.now ≡ None)) (sym c.ok.ensures.value)
    (node_not_placed c.args.n c.args.nodes.now c.binary_search_by_key.result c.requires by_key)
