use Rattle.tora_sim.proofs.store.kept_cargoes.keep.Goals as goal

pub returns-in-Some-clause-value : goal.returns-in-Some-clause-value
returns-in-Some-clause-value c origins is = c.in-Some.ensures.value origins c.args.apart.now.items is

pub returns-in-Some-clause-within : goal.returns-in-Some-clause-within
returns-in-Some-clause-within c origins is = c.in-Some.ensures.within origins c.args.apart.now.items is
