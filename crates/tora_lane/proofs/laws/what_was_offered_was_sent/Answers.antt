use Rattle.tora_lane.proofs.Offers.{offers_are_sent}
use Rattle.tora_lane.proofs.laws.what_was_offered_was_sent.Goals as goal

pub returns : goal.returns
returns c = offers_are_sent
