use Rattle.std.proofs.Common.{◌≡◌, Bool, Result, Ok, Err, sym, ap, ◌∙◌, subst, arith}
use Rattle.std.specs.Prelude.{slice_set}
use Rattle.std.specs.declared.alloc.AllocError.{AllocError}
use Rattle.tora_world.specs.declared.event.Event.TheVariants.{CoreTurn}
use Rattle.tora_world.specs.declared.sim_error.SimError.TheVariants as Refused
use Rattle.tora_sim.specs.Nodes.{NodeView}
use Rattle.tora_sim.specs.Quiet.{AreForgottenWhere}
use Rattle.tora_sim.specs.Store.{SimState, state_of, world_of}
use Rattle.tora_sim.specs.Steps.{IsRefused, Repeats}
use Rattle.tora_sim.proofs.Opens.{same_read}
use Rattle.tora_sim.proofs.Sendings.{node_of, none_at_all, other_cause}
use Rattle.tora_sim.proofs.TakenItems.{placed, taken_between}
use Rattle.tora_sim.proofs.Turning.{turn_refused, ends_within, as_many}
use Rattle.tora_sim.proofs.IdleEnds.{where_forgotten}
use Rattle.tora_sim.proofs.sim.Sim.turn_from.Goals as goal
use Rattle.tora_sim.proofs.sim.Sim.turn_from.Goals.{in-Ok, in-Err}

pub returns-then-waiting-eq0 : goal.returns-then-waiting-eq0
returns-then-waiting-eq0 c =
    let s = c.self.inside in
    let w = world_of c.args.self.now in
    let r = subst (λ (v : SimState). IsRefused (world_of v) (CoreTurn c.args._n) Refused.NotPossible (world_of v)) c.self.view_is
    (turn_refused s.topology s.times s.clock s.nodes.items s.links.items s.datagrams.items c.self.invariant.0 c.args._n c.args.home c.index.result.now (node_of c.args._n c.args.home c.self.view_is c.requires.first) c.index.ensures
    (sym c.waiting.ensures ∙ c.if-waiting-eq0.true)) in
    none_at_all w c.args.most (CoreTurn c.args._n) (other_cause w (CoreTurn c.args._n) Refused.NotPossible w (λ e. let z : Refused.NotPossible ≡ Refused.Memory = e in cc) r)

pub take_items-taken-requires-clause-within : goal.take_items-taken-requires-clause-within
take_items-taken-requires-clause-within c =
    let s = c.self.inside in
    ends_within s.topology s.times s.clock s.nodes.items s.links.items s.datagrams.items c.self.invariant.0 c.args._n c.args.home c.index_mut.result.now (node_of c.args._n c.args.home c.self.view_is c.requires.first) c.index_mut.ensures.value

pub take_items-taken-requires-clause-neighbours : goal.take_items-taken-requires-clause-neighbours
take_items-taken-requires-clause-neighbours c =
    let s = c.self.inside in
    as_many s.topology s.times s.clock s.nodes.items s.links.items s.datagrams.items c.self.invariant.0 c.args._n c.args.home c.index_mut.result.now (node_of c.args._n c.args.home c.self.view_is c.requires.first) c.index_mut.ensures.value

pub forget_waiting-requires-clause-within : goal.forget_waiting-requires-clause-within
forget_waiting-requires-clause-within c =
    let s = c.self.inside in
    let node = c.index_mut.result.now in
    let first : c.first-first.result ≡ node.first = c.first-first.ensures ∙ ap (λ (x : NodeView). x.first) (same_read s.nodes.items c.args.home c.index-2.result.now node (node_of c.args._n c.args.home c.self.view_is c.requires.first).within c.index-2.ensures c.index_mut.ensures.value) in
    let count : c.count-count.result ≡ node.count = c.count-count.ensures ∙ ap (λ (x : NodeView). x.count) (same_read s.nodes.items c.args.home c.index-3.result.now node (node_of c.args._n c.args.home c.self.view_is c.requires.first).within c.index-3.ensures c.index_mut.ensures.value) in
    let within = ends_within s.topology s.times s.clock s.nodes.items s.links.items s.datagrams.items c.self.invariant.0 c.args._n c.args.home node (node_of c.args._n c.args.home c.self.view_is c.requires.first) c.index_mut.ensures.value in
    let many = c.take_items-taken.ensures.taken.many in
    omega (arith, within, first, count, many)

pub forget_waiting-requires-clause-deadlines : goal.forget_waiting-requires-clause-deadlines
forget_waiting-requires-clause-deadlines c = (c.take_items-taken.ensures.taken.idle c.self.inside.clock c.self.inside.deadlines c.self.invariant.1).as_many

pub invariant_of-self : goal.invariant_of-self
invariant_of-self c =
    let s = c.self.inside in
    let node = c.index_mut.result.now in
    let first : c.first-first.result ≡ node.first = c.first-first.ensures ∙ ap (λ (x : NodeView). x.first) (same_read s.nodes.items c.args.home c.index-2.result.now node (node_of c.args._n c.args.home c.self.view_is c.requires.first).within c.index-2.ensures c.index_mut.ensures.value) in
    let count : c.count-count.result ≡ node.count = c.count-count.ensures ∙ ap (λ (x : NodeView). x.count) (same_read s.nodes.items c.args.home c.index-3.result.now node (node_of c.args._n c.args.home c.self.view_is c.requires.first).within c.index-3.ensures c.index_mut.ensures.value) in
    let links = c.take_items-taken.new.links.items in
    let deadlines = placed (λ f n. AreForgottenWhere links s.deadlines c.forget_waiting.new.deadlines f n) node.first node.count c.first-first.result c.count-count.result (sym first) (sym count) c.forget_waiting.ensures in (
      (c.take_items-taken.ensures.items s.topology s.times s.clock s.nodes.items s.datagrams.items c.args._n c.args.home c.self.invariant.0 (node_of c.args._n c.args.home c.self.view_is c.requires.first) c.index_mut.ensures.value).store,
      where_forgotten s.clock s.deadlines c.forget_waiting.new.deadlines links node.first node.count deadlines (c.take_items-taken.ensures.taken.idle s.clock s.deadlines c.self.invariant.1),
      c.self.invariant.2,
    )

pub returns : goal.returns
returns c =
    let s = c.self.inside in
    let before = state_of s.topology s.times s.clock s.nodes.items s.links.items s.datagrams.items in
    let after = state_of s.topology s.times s.clock (slice_set s.nodes.items c.args.home c.take_items-taken.new.node) c.take_items-taken.new.links.items s.datagrams.items in
    let goes : (r : Result Bool AllocError) → Type 0 = λ r. Repeats c.args.self.now c.args.most (CoreTurn c.args._n) r after in
    elim c.match-taken.branch [
      | in-Ok b ↦
          subst goes (sym b.result-is)
          (taken_between c.args.self.now before after c.args._n c.args.most (Ok b.in-Ok.some) (ap world_of c.self.view_is)
          (b.in-Ok.ensures.items s.topology s.times s.clock s.nodes.items s.datagrams.items c.args._n c.args.home c.self.invariant.0 (node_of c.args._n c.args.home c.self.view_is c.requires.first) c.index_mut.ensures.value))
      | in-Err b ↦
          subst goes (sym b.result-is)
          (taken_between c.args.self.now before after c.args._n c.args.most (Err b.in-Err.field-0) (ap world_of c.self.view_is)
          (b.in-Err.ensures.items s.topology s.times s.clock s.nodes.items s.datagrams.items c.args._n c.args.home c.self.invariant.0 (node_of c.args._n c.args.home c.self.view_is c.requires.first) c.index_mut.ensures.value))
    ]
