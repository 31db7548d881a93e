use Rattle.std.proofs.Common.{◌≡◌, ◌+◌, ◌++◌, length, ap, ◌∙◌, ℕ, arith, length-append}
use Rattle.tora_sim.specs.Lane.{LaneView, lane_of}
use Rattle.tora_sim.proofs.store.lane.Lane.take_all.Goals as goal

pub returns : goal.returns
returns c =
    let l = c.self.inside in
    let all : length l.past.items + c.len-self-inside.result ≡ length (l.past.items ++ l.cargoes.items) = omega (arith, c.len-self-inside.ensures.len, length-append l.past.items l.cargoes.items) in
    ap (λ (n : ℕ). record (lane_of l.past.items l.cargoes l.taken) { pulled = n }) all
    ∙ ap (λ (v : LaneView). record v { pulled = length v.put }) c.self.view_is
