use Rattle.std.proofs.Common.{◌≡◌, ℕ, true, subst, eqb-true, get_or}
use Rattle.tora_core.specs.Numbers.{has_number}
use Rattle.tora_sim.proofs.Peers.{there}
use Rattle.tora_sim.proofs.link_nodes.is_found.Goals as goal

pub returns-in-Ok : goal.returns-in-Ok
returns-in-Ok c e =
    subst (λ (m : ℕ). has_number m c.args.numbers.now ≡ true) (eqb-true (get_or c.args.numbers.now c.in-Ok.at 0) c.args.n e) (there c.args.numbers.now c.in-Ok.at 0 c.in-Ok.ensures.bound)
