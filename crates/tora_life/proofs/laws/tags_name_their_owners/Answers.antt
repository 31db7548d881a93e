use Rattle.tora_life.proofs.TagReads.{read_back, foreign}
use Rattle.tora_life.proofs.laws.tags_name_their_owners.Goals as goal

pub returns : goal.returns
returns c = record { read = read_back; foreign = foreign }
