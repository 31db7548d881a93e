use Rattle.std.proofs.Common.{◌++◌, ◌∷◌, [], ℕ, List, map, take, get_or, ap, ap₂, sym, ◌∙◌}
use Rattle.std.proofs.lemmas.List.{take_more, map_push}
use Rattle.tora_sim.specs.Links.{key_of}
use Rattle.tora_sim.proofs.end_keys.keys_of.Goals as goal

pub loop-link-preserved : goal.loop-link-preserved
loop-link-preserved c =
    let links = c.args.links.now in
    let i = c.loop-link.link-index in
    let x = c.link-item.result in
    c.in-Ok.ensures.items
    ∙ ap₂ (λ (xs : List (ℕ × ℕ)) (y : ℕ × ℕ). xs ++ y ∷ []) c.loop-link.invariant (c.key.ensures ∙ ap key_of c.link-item.is)
    ∙ sym (ap (map key_of) (take_more links i x c.loop-link-test.true) ∙ map_push key_of (take i links) (get_or links i x))
