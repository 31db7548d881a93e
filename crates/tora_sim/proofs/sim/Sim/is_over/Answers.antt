use Rattle.std.proofs.Common.{◌≡◌, ℕ, ◌<◌, true, refl, length, is_some, sym, subst, arith}
use Rattle.std.proofs.lemmas.Option.{slice_get_read}
use Rattle.tora_world.specs.declared.event.Event.TheVariants.{Transmit}
use Rattle.tora_world.specs.World.{refusal_of}
use Rattle.tora_sim.specs.Store.{SimState, world_of}
use Rattle.tora_sim.proofs.Possibles.{is_impossible}
use Rattle.tora_sim.proofs.Sends.{transmit_refused}
use Rattle.tora_sim.proofs.Sendings.{end_of}
use Rattle.tora_sim.specs.Quiet.{IsDeadline}
use Rattle.tora_sim.proofs.IdleEnds.{known_here, short_idle}
use Rattle.tora_sim.proofs.sim.Sim.is_over.Goals as goal

pub set_deadline-requires : goal.set_deadline-requires
set_deadline-requires c = omega (arith, c.self.invariant.1.as_many, subst (λ (s : SimState). c.args.at < length s.links) (sym c.self.view_is) c.requires)

pub invariant_of-self : goal.invariant_of-self
invariant_of-self c =
    let s = c.self.inside in
    let within : c.args.at < length s.links.items = subst (λ (v : SimState). c.args.at < length v.links) (sym c.self.view_is) c.requires in (
      c.self.invariant.0,
      known_here s.clock s.deadlines c.set_deadline.new.deadlines s.links.items c.args.at c.short.result c.index.result.now c.set_deadline.ensures (omega (arith, within, c.self.invariant.1.as_many))
          (slice_get_read s.links.items (length s.links.items) c.args.at c.index.result.now refl within c.index.ensures)
          (subst (λ (n : ℕ). IsDeadline n c.index.result.now) (sym c.short.ensures) (short_idle c.deadline-until.result c.index.result.now c.deadline-until.ensures)) c.self.invariant.1,
      c.self.invariant.2,
    )

pub returns-clause-over : goal.returns-clause-over
returns-clause-over c told n k first =
    let s = c.self.inside in
    subst (λ (v : SimState). is_some (refusal_of (world_of v) (Transmit n k)) ≡ true) c.self.view_is
    (is_impossible _ (Transmit n k)
    (transmit_refused s.topology s.times s.clock s.nodes.items s.links.items s.datagrams.items c.self.invariant.0 n k c.args.at c.index.result.now (end_of n k c.args.at c.self.view_is first) c.index.ensures
    ((c.deadline-until.ensures (omega (arith, c.if-self-until.false))).frames s.clock c.if-self-until.false)))
