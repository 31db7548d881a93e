use Rattle.std.proofs.Common.{arith}
use Rattle.tora_packet.proofs.GrammarLaws.{is_found, is_only, is_fault, is_reading}
use Rattle.tora_packet.proofs.decoding.decode.Goals as goal

pub returns-clause-found : goal.returns-clause-found
returns-clause-found c = is_found c.args.bytes.now c.packet_at.result (λ i. omega (arith, c.type_inv.bytes i)) c.packet_at.ensures.exact c.packet_at.ensures.valid

pub returns-clause-only : goal.returns-clause-only
returns-clause-only c = is_only c.args.bytes.now c.packet_at.result c.packet_at.ensures.exact

pub returns-clause-fault : goal.returns-clause-fault
returns-clause-fault c = is_fault c.args.bytes.now c.packet_at.result c.packet_at.ensures.exact

pub returns-clause-exact : goal.returns-clause-exact
returns-clause-exact c = is_reading c.args.bytes.now c.packet_at.result c.packet_at.ensures.exact
