use Rattle.std.proofs.Common.{ap, ap₂, sym, ◌∙◌, subst, arith, ◌+◌, length, ◌<◌, ◌≤◌, slice_get, Option}
use Rattle.tora_sim.specs.Files.{disk_of, IsDrawn}
use Rattle.tora_arq.specs.EndRange.{LinkEndView}
use Rattle.tora_seat.specs.declared.cargo.Cargo.{Cargo}
use Rattle.tora_seat.specs.Between.{after_cargo}
use Rattle.tora_world.specs.Lists.{parcels_in}
use Rattle.tora_world.specs.World.{owner_of}
use Rattle.tora_sim.specs.Lane.{LaneView}
use Rattle.tora_sim.specs.Links.{LinkView, link_of, after_pull_at}
use Rattle.tora_sim.proofs.Lasts.{cargo_stays, stays_drawn}
use Rattle.tora_sim.proofs.links.LinkParts.pull.Goals as goal

pub next-cargo-requires : goal.next-cargo-requires
next-cargo-requires c = subst (λ (v : LinkView). v.pulled < length v.put) (sym c.self.view_is) c.requires

-- memory ran out
pub invariant_of-self : goal.invariant_of-self
invariant_of-self c =
    let same = c.hand_in.ensures.same c.if-not-hand_in.true in (
      subst (λ (e : LinkEndView). IsDrawn e.state.last_life (disk_of c.self.inside.file.value)) (sym same) c.self.invariant.0,
      c.self.invariant.1,
      c.self.invariant.2 ∙ sym (ap (λ (e : LinkEndView). owner_of e.settings.me e.settings.peer) same),
    )

pub invariant_of-self-2 : goal.invariant_of-self-2
invariant_of-self-2 c =
    let end = c.self.inside.end in (
      stays_drawn end.state (after_cargo end.state c.next-cargo.result) c.hand_in.new.end.state _ (ap (λ (e : LinkEndView). e.state) (c.hand_in.ensures.state c.if-not-hand_in.false))
          (cargo_stays c.lives_are_bound_once.ensures.number end.settings end.state c.next-cargo.result) c.self.invariant.0,
      (let w : c.self.inside.lane.pulled < length c.self.inside.lane.put = subst (λ (v : LinkView). v.pulled < length v.put) (sym c.self.view_is) c.requires in subst (λ (v : LaneView). v.pulled ≤ length v.put) (sym c.take.ensures.lane) (omega (arith, w))),
      c.self.invariant.2 ∙ sym (ap (λ (e : LinkEndView). owner_of e.settings.me e.settings.peer) (c.hand_in.ensures.state c.if-not-hand_in.false)),
    )

pub returns-clause-pulled : goal.returns-clause-pulled
returns-clause-pulled c _ =
    let s = c.self.inside in
    let room = length (parcels_in s.steps.items) + s.steps.places in
    ap₂ (λ (e : LinkEndView) (l : LaneView). link_of e.settings.me e.settings.peer s.seat e (disk_of s.file.value) l.put l.pulled l.room s.steps.items room) (c.hand_in.ensures.state c.if-not-hand_in.false) c.take.ensures.lane
    ∙ ap (λ (o : Option Cargo). after_pull_at (link_of s.end.settings.me s.end.settings.peer s.seat s.end (disk_of s.file.value) s.lane.put s.lane.pulled s.lane.room s.steps.items room) o) (sym c.next-cargo.ensures)
    ∙ ap (λ (v : LinkView). after_pull_at v (slice_get v.put v.pulled)) c.self.view_is

pub take-requires : goal.take-requires
take-requires c = subst (λ (v : LinkView). v.pulled < length v.put) (sym c.self.view_is) c.requires
