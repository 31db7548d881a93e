use Rattle.tora_seat.proofs.ItemLaws.{ends_at_back}
use Rattle.tora_seat.proofs.laws.handed_back_packets_end_their_lives.Goals as goal

pub returns : goal.returns
returns c = ends_at_back
