use Rattle.tora_seat.proofs.CutsGoDown.{next-is, none-left}
use Rattle.tora_seat.proofs.relation.cut_links_go_down.Goals as goal

pub returns-clause-next : goal.returns-clause-next
returns-clause-next c = next-is

pub returns-clause-none_left : goal.returns-clause-none_left
returns-clause-none_left c = λ answers ks input now v near. none-left answers ks now input v near
