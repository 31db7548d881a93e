use Rattle.std.proofs.Common.{◌≡◌, true, false}
use Rattle.tora_lane.proofs.Offers.{handed_back}
use Rattle.tora_lane.proofs.out_puts.OutPutsOutLanes.offer.Goals as goal

pub returns-in-Err-clause-offered : goal.returns-in-Err-clause-offered
returns-in-Err-clause-offered c =
    let told = c.in-Err.ensures in
    handed_back _ _ _ _ c.args.cargo c.requires c.index_mut.ensures.value told.back.1 (λ less. let never : false ≡ true = told.room less in absurd (cc))
