use Rattle.tora_seat.proofs.ItemLaws.{no_gap}
use Rattle.tora_seat.proofs.laws.lives_have_no_gap.Goals as goal

pub returns : goal.returns
returns c = no_gap
