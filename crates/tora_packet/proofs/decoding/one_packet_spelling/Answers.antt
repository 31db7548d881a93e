use Rattle.std.proofs.Common.{sym, ◌∙◌}
use Rattle.tora_packet.proofs.GrammarLaws.{length-packet_spelling, prefix_free}
use Rattle.tora_packet.proofs.decoding.one_packet_spelling.Goals as goal

pub returns-clause-length : goal.returns-clause-length
returns-clause-length c = length-packet_spelling

pub returns-clause-one : goal.returns-clause-one
returns-clause-one c = λ a b p s t. s.bytes_are ∙ sym t.bytes_are

pub returns-clause-prefix_free : goal.returns-clause-prefix_free
returns-clause-prefix_free c = prefix_free
