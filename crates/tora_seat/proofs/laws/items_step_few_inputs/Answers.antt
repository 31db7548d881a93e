use Rattle.tora_seat.proofs.Counts.{few_inputs}
use Rattle.tora_seat.proofs.laws.items_step_few_inputs.Goals as goal

pub returns : goal.returns
returns c = λ answers ks s item near apart. few_inputs answers ks apart s item near
