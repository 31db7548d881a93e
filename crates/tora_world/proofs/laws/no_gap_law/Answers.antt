use Rattle.tora_world.proofs.NeighboursApart.{neighbours_apart}
use Rattle.tora_world.proofs.RunsWithoutGap.{without_gap, sends_in_latest}
use Rattle.tora_world.proofs.laws.no_gap_law.Goals as goal

pub returns-clause-gapless : goal.returns-clause-gapless
returns-clause-gapless c = λ t times es n k accepted inside. without_gap c.layers_keep_their_laws.ensures.cores c.layers_keep_their_laws.ensures.seats t n k (neighbours_apart c.layers_keep_their_laws.ensures.cores t n accepted) inside c.layers_keep_their_laws.ensures.links c.layers_keep_their_laws.ensures.files times es

pub returns-clause-latest : goal.returns-clause-latest
returns-clause-latest c = λ t times es n k accepted inside. sends_in_latest c.layers_keep_their_laws.ensures.cores c.layers_keep_their_laws.ensures.seats t n k (neighbours_apart c.layers_keep_their_laws.ensures.cores t n accepted) inside c.layers_keep_their_laws.ensures.links c.layers_keep_their_laws.ensures.files times es
