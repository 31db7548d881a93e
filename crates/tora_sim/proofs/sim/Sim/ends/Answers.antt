use Rattle.std.proofs.Common.{ℕ, ◌++◌, List, [], take, get_or, ap, sym, ◌∙◌}
use Rattle.std.specs.List.{flat_map}
use Rattle.std.proofs.lemmas.List.{take_more, flat_map_more}
use Rattle.tora_world.specs.Topology.{Topology}
use Rattle.tora_sim.specs.Readers.{ends_at}
use Rattle.tora_sim.proofs.sim.Sim.ends.Goals as goal

pub loop-n-preserved : goal.loop-n-preserved
loop-n-preserved c =
    let ns = c.as_slice-n-items.result.now in
    let i = c.loop-n.n-index in
    let t : Topology = c.args.self.now.topology in
    let n : ℕ = get_or c.as_slice-n-items.result.now c.loop-n.n-index 0 in
    c.in_ok-put_ends_of.ensures
    ∙ ap (λ (xs : List (ℕ × ℕ)). xs ++ ends_at t n) c.loop-n.invariant
    ∙ flat_map_more (ends_at t) [] (take i ns) n ∙ ap (flat_map (ends_at t)) (sym (take_more ns i 0 c.loop-n-test.true))
