use Rattle.std.proofs.Common.{arith}
use Rattle.tora_frame.proofs.FrameLaws.{is_found, is_only, is_fault, is_reading}
use Rattle.tora_frame.proofs.decoding.decode_into.Goals as goal

pub returns-clause-found : goal.returns-clause-found
returns-clause-found c = is_found c.args.bytes.now c.read_frame.result (λ i. omega (arith, c.type_inv.bytes i)) c.read_frame.ensures.exact c.read_frame.ensures.valid

pub returns-clause-only : goal.returns-clause-only
returns-clause-only c = is_only c.args.bytes.now c.read_frame.result c.read_frame.ensures.exact

pub returns-clause-fault : goal.returns-clause-fault
returns-clause-fault c = is_fault c.args.bytes.now c.read_frame.result c.read_frame.ensures.exact

pub returns-clause-exact : goal.returns-clause-exact
returns-clause-exact c = is_reading c.args.bytes.now c.read_frame.result c.read_frame.ensures.exact
