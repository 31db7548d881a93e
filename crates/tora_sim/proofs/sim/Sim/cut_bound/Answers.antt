use Rattle.std.proofs.Common.{◌≡◌, subst, arith, sym, ◌∙◌}
use Rattle.std.specs.Prelude.{slice_set}
use Rattle.tora_sim.specs.Cuts.{after_cut_at}
use Rattle.tora_sim.specs.Store.{SimState, state_of, world_of}
use Rattle.tora_sim.proofs.Opens.{cut_done, cut_store}
use Rattle.tora_sim.proofs.IdleEnds.{unknown_idle, one_forgotten, forgotten_idle}
use Rattle.tora_sim.proofs.sim.Sim.cut_bound.Goals as goal

pub place-requires-clause-keys : goal.place-requires-clause-keys
place-requires-clause-keys c = c.self.invariant.2 ∙ sym c.self.invariant.0.keys

pub forget-requires : goal.forget-requires
forget-requires c = omega (arith, c.in-Some.ensures.first.within, c.self.invariant.1.as_many)

pub invariant_of-self : goal.invariant_of-self
invariant_of-self c =
    let s = c.self.inside in (
      cut_store s.topology s.times s.clock s.nodes.items s.links.items s.datagrams.items c.self.invariant.0 c.args.n c.args.k c.in-Some.at c.index_mut.result.now c.in-Some.ensures.first c.index_mut.ensures.value
          c.cut_bound.new.self c.cut_bound.ensures,
      unknown_idle s.clock c.forget.new.deadlines s.links.items c.in-Some.at c.cut_bound.new.self (one_forgotten s.deadlines c.forget.new.deadlines c.in-Some.at c.forget.ensures)
          (forgotten_idle s.clock s.deadlines c.forget.new.deadlines s.links.items c.in-Some.at 1 c.forget.ensures c.self.invariant.1),
      c.self.invariant.2,
    )

pub returns-in-Some : goal.returns-in-Some
returns-in-Some c =
    let s = c.self.inside in
    subst (λ (before : SimState). world_of (state_of s.topology s.times s.clock s.nodes.items (slice_set s.links.items c.in-Some.at c.cut_bound.new.self) s.datagrams.items) ≡ after_cut_at (world_of before) c.args.n c.args.k) c.self.view_is
    (cut_done s.topology s.times s.clock s.nodes.items s.links.items s.datagrams.items c.self.invariant.0 c.args.n c.args.k c.in-Some.at c.index_mut.result.now c.in-Some.ensures.first c.index_mut.ensures.value
    c.cut_bound.new.self c.cut_bound.ensures)
