use Rattle.std.proofs.Common.{sym}
use Rattle.tora_core.proofs.ReactsWords.{least-known, known-least, least-nothing, nothing-least, greatest-known, known-greatest, least-delta, delta-least, time-fresh, fresh-same, downstream-some, some-downstream}
use Rattle.tora_core.proofs.ReactsHop.{hop-is, is-hop}
use Rattle.tora_core.proofs.relation.words_are_computed.Goals as goal

pub returns-clause-least : goal.returns-clause-least
returns-clause-least c = λ v low. (least-known v low, known-least v low)

pub returns-clause-nothing : goal.returns-clause-nothing
returns-clause-nothing c = λ v. (least-nothing v, nothing-least v)

pub returns-clause-level : goal.returns-clause-level
returns-clause-level c = λ v level. (greatest-known v level, known-greatest v level)

pub returns-clause-delta : goal.returns-clause-delta
returns-clause-delta c = λ v level delta. (least-delta v level delta, delta-least v level delta)

pub returns-clause-time : goal.returns-clause-time
returns-clause-time c = λ v now t. (fresh-same v now t, λ is. sym (time-fresh v now t is))

pub returns-clause-downstream : goal.returns-clause-downstream
returns-clause-downstream c = λ v. (downstream-some v, some-downstream v)

pub returns-clause-next_hop : goal.returns-clause-next_hop
returns-clause-next_hop c = λ v k kept. (hop-is v k, is-hop v k kept)
