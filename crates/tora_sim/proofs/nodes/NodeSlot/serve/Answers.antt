use Rattle.std.proofs.Common.{◌≡◌, ◌≤◌, ◌+◌, ◌++◌, ℕ, List, map, length, ap, ap₂, sym, ◌∙◌, subst, arith, rules}
use Rattle.std.specs.Prelude.{vec_len, vec_capacity}
use Rattle.tora_core.specs.declared.Input.{Input}
use Rattle.tora_core.specs.CoreRun.{CoreView}
use Rattle.tora_core.specs.Numbers.{IsAscending}
use Rattle.tora_core.specs.Kept.{destinations_of}
use Rattle.tora_seat.specs.Rows.{SeatView}
use Rattle.tora_sim.specs.Nodes.{NodeView, node_of}
use Rattle.tora_sim.specs.Turns.{IsServed}
use Rattle.tora_sim.proofs.Served.{few_inputs, stays_served}
use Rattle.tora_sim.proofs.nodes.NodeSlot.serve.Goals as goal

pub note_inputs-requires : goal.note_inputs-requires
note_inputs-requires c =
    let few = few_inputs c.deref_mut.result.now c.serve.new.self c.in-Some.item c.serve.ensures.served.0 c.items_step_few_inputs.ensures c.offers_are_their_own_answers.ensures
    (subst (λ (core : CoreView). IsAscending core.neighbours) (c.core-core.ensures ∙ ap (λ (s : SeatView). s.core) (c.deref.ensures ∙ sym c.deref_mut.ensures.value)) c.me-me.ensures.kept.ascending_neighbours) c.serve.ensures.served.2 in
    let ks : length c.neighbours.result.now ≡ length c.deref_mut.result.now.core.neighbours = ap length c.neighbours.ensures ∙ ap (λ (core : CoreView). length core.neighbours) (c.core-core.ensures ∙ ap (λ (s : SeatView). s.core) (c.deref.ensures ∙ sym c.deref_mut.ensures.value)) in
    let room : vec_len c.make_room.new.inputs + (length c.neighbours.result.now + 2) ≤ vec_capacity c.make_room.new.inputs = search rules in
    let same : length c.inputs.result.now ≡ length c.serve.new.self.inputs = ap length (c.inputs.ensures ∙ ap (λ (s : SeatView). s.inputs) c.deref-in-Some.ensures) in
    omega (arith, few, same, room, ks)

pub returns-clause-served : goal.returns-clause-served
returns-clause-served c =
    let s = c.self.inside in
    let before : NodeView = node_of s.node s.first s.count c.deref_mut.result.now s.inputs.items s.items.items s.counts.items s.sending s.receive in
    let noted : c.note_inputs.new.inputs.items ≡ s.inputs.items ++ map (λ input. (input, c.in-Some.item.now)) c.serve.new.self.inputs =
    c.note_inputs.ensures
    ∙ ap₂ (λ (a : List (Input × ℕ)) (b : List Input). a ++ map (λ input. (input, c.in-Some.item.now)) b) c.make_room.ensures.items (c.inputs.ensures ∙ ap (λ (s : SeatView). s.inputs) c.deref-in-Some.ensures) in
    subst (λ (v : NodeView). IsServed v c.args.lanes.now c.in-Some.item (node_of s.node s.first s.count c.serve.new.self c.note_inputs.new.inputs.items c.pop.new.self.items s.counts.items s.sending s.receive) c.serve.new.outs) (ap (λ (seat : SeatView). node_of s.node s.first s.count seat s.inputs.items s.items.items s.counts.items s.sending s.receive) c.deref_mut.ensures.value ∙ c.self.view_is)
    (record {
      items = c.in-Some.ensures.items;
      offers = c.serve.ensures.served.0;
      offered = c.serve.ensures.served.1;
      serving = c.serve.ensures.served.2;
      me = stays_served (λ (core : CoreView). core.me) c.tables_stay.ensures.node c.accepted_inputs_make_the_core.ensures.runs c.offers_are_their_own_answers.ensures c.deref_mut.result.now c.serve.new.self c.in-Some.item c.serve.ensures.served.0 c.serve.ensures.served.2;
      erasure = stays_served (λ (core : CoreView). core.erasure) c.tables_stay.ensures.erasure c.accepted_inputs_make_the_core.ensures.runs c.offers_are_their_own_answers.ensures c.deref_mut.result.now c.serve.new.self c.in-Some.item c.serve.ensures.served.0 c.serve.ensures.served.2;
      neighbours = c.serve.ensures.neighbours;
      destinations = stays_served (λ (core : CoreView). destinations_of core.views) c.tables_stay.ensures.destinations c.accepted_inputs_make_the_core.ensures.runs c.offers_are_their_own_answers.ensures c.deref_mut.result.now c.serve.new.self c.in-Some.item c.serve.ensures.served.0 c.serve.ensures.served.2;
      node = ap (λ (inputs : List (Input × ℕ)). record before { seat = c.serve.new.self; inputs = inputs; items = c.pop.new.self.items }) noted;
    })
