use Rattle.std.proofs.Common.{◌≡◌, ◌<◌, ◌+◌, suc, length, slice_get, Some, ap, ◌∙◌, subst, arith, ℕ}
use Rattle.tora_sim.specs.Lane.{LaneView, lane_of}
use Rattle.tora_sim.proofs.LaneLists.{get_behind, waits}
use Rattle.tora_sim.proofs.store.lane.Lane.take.Goals as goal

pub at-cargo-requires : goal.at-cargo-requires
at-cargo-requires c = let l = c.self.inside in waits c.args.self.now l.past.items l.cargoes l.taken c.self.view_is c.requires

pub overflow_add-self : goal.overflow_add-self
overflow_add-self c =
    let l = c.self.inside in
    let w : l.taken < length l.cargoes.items = waits c.args.self.now l.past.items l.cargoes l.taken c.self.view_is c.requires in
    omega (arith, w, c.at-cargo.ensures.most)

pub invariant_of-self : goal.invariant_of-self
invariant_of-self c = (let l = c.self.inside in let w : l.taken < length l.cargoes.items = waits c.args.self.now l.past.items l.cargoes l.taken c.self.view_is c.requires in omega (arith, w))

pub returns-clause-cargo : goal.returns-clause-cargo
returns-clause-cargo c =
    let l = c.self.inside in
    subst (λ (v : LaneView). slice_get v.put v.pulled ≡ Some c.at-cargo.result) c.self.view_is (get_behind l.past.items l.cargoes.items l.taken ∙ c.at-cargo.ensures.cargo)

pub returns-clause-lane : goal.returns-clause-lane
returns-clause-lane c =
    let l = c.self.inside in
    let plus : length l.past.items + (l.taken + 1) ≡ suc (length l.past.items + l.taken) = omega arith in
    ap (λ (n : ℕ). record (lane_of l.past.items l.cargoes l.taken) { pulled = n }) plus
    ∙ ap (λ (v : LaneView). record v { pulled = suc v.pulled }) c.self.view_is
