use Rattle.std.proofs.Common.{arith}
use Rattle.tora_sim.proofs.store.kept_list.KeptList.len.Goals as goal

pub returns-clause-most : goal.returns-clause-most
returns-clause-most c = omega (arith, c.len.ensures, c.self.inside.list.ok.0, c.self.invariant.0, c.self.invariant.2)
