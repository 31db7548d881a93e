use Rattle.tora_seat.proofs.ItemLaws.{keeps_in_step}
use Rattle.tora_seat.proofs.laws.lives_are_current_where_links_are_up.Goals as goal

pub returns : goal.returns
returns c = keeps_in_step
