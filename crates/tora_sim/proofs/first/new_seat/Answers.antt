use Rattle.std.proofs.Common.{◌<◌, ℕ, List, sym, subst}
use Rattle.std.specs.List.{All}
use Rattle.tora_sim.proofs.Peers.{positive-peer}
use Rattle.tora_sim.proofs.first.new_seat.Goals as goal

pub with_erasure-requires-clause-neighbours : goal.with_erasure-requires-clause-neighbours
with_erasure-requires-clause-neighbours c =
    subst (λ (ns : List ℕ). All (λ k. 0 < k) ns) (sym c.requires.neighbours)
    (λ k d lt. positive-peer c.args.topology.now c.requires.kept c.args.n k d lt)
