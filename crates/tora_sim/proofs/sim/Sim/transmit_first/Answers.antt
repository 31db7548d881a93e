use Rattle.std.proofs.Common.{subst}
use Rattle.tora_world.specs.declared.event.Event.TheVariants.{Transmit}
use Rattle.tora_sim.specs.Store.{SimState}
use Rattle.tora_sim.specs.Steps.{Does}
use Rattle.tora_sim.proofs.sim.Sim.transmit_first.Goals as goal

pub returns-then-transmit_hello-clause-done : goal.returns-then-transmit_hello-clause-done
returns-then-transmit_hello-clause-done c = c.transmit_hello.ensures.done c.if-transmit_hello.true

pub returns-clause-done : goal.returns-clause-done
returns-clause-done c =
    subst (λ (s : SimState). Does s (Transmit c.args.n c.args.k) c.transmit_at.result c.transmit_at.new.self) (c.transmit_hello.ensures.same c.if-transmit_hello.false) c.transmit_at.ensures.done
