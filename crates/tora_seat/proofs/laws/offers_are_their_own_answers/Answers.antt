use Rattle.tora_seat.proofs.Chains.{follows_back}
use Rattle.tora_seat.proofs.laws.offers_are_their_own_answers.Goals as goal

pub returns : goal.returns
returns c = follows_back
