use Rattle.std.proofs.Common.{◌∙◌, sym, subst, ℕ, List}
use Rattle.tora_sim.specs.Links.{AreRisingKeys}
use Rattle.tora_sim.proofs.Keys.{keys_rise, found_by_key, none_by_key}
use Rattle.tora_sim.proofs.end_keys.place.Goals as goal

pub search-requires : goal.search-requires
search-requires c = subst (λ (keys : List (ℕ × ℕ)). AreRisingKeys keys) (sym (c.as_slice-ends.ensures.value ∙ c.requires.keys)) (keys_rise c.args._links.now.items c.requires.rising)

pub returns-clause-first : goal.returns-clause-first
returns-clause-first c =
    found_by_key c.args.n c.args.k c.args._links.now.items c.as_slice-ends.result.now (c.as_slice-ends.ensures.value ∙ c.requires.keys) c.search.result c.requires.rising c.search.ensures.first

pub returns-clause-none : goal.returns-clause-none
returns-clause-none c =
    none_by_key c.args.n c.args.k c.args._links.now.items c.as_slice-ends.result.now (c.as_slice-ends.ensures.value ∙ c.requires.keys) c.search.result c.search.ensures.none
