use Rattle.std.proofs.Common.{◌≡◌, ◌<◌, Option, Some, MatchOption, refl, sym, subst}
use Rattle.std.specs.Prelude.{⊤}
use Rattle.tora_seat.specs.declared.stepped.Stepped.{Stepped}
use Rattle.tora_sim.specs.Lanes.{LanesView, bare_between}
use Rattle.tora_sim.specs.Turns.{IsNoted}
use Rattle.tora_sim.proofs.Bared.{none_noted, some_noted, noted_between}
use Rattle.tora_sim.proofs.lanes.NodeLanes.into_links.Goals as goal

pub returns-in_default : goal.returns-in_default
returns-in_default c =
    let s = c.self.inside in
    none_noted c.args.self c.args.place c.args.stepped (bare_between c.args.self.first c.args.self.count s.links.items) c.in_default.is
    (subst (λ (v : LanesView). bare_between v.first v.count s.links.items ≡ v.links) c.self.view_is refl)

pub returns : goal.returns
returns c =
    let s = c.self.inside in
    some_noted c.args.self c.args.place c.args.stepped c.in-Some.step (bare_between c.args.self.first c.args.self.count c.note.new.links.items) c.in-Some.is
    (subst (λ (v : LanesView). IsNoted v c.args.place (Some c.in-Some.step) (bare_between v.first v.count c.note.new.links.items)) c.self.view_is
    (noted_between s.links.items c.note.new.links.items s.first s.count c.args.place c.in-Some.step
    (subst (λ (v : LanesView). c.args.place < v.count) (sym c.self.view_is) (subst (λ (o : Option Stepped). MatchOption o ⊤ (λ _. c.args.place < c.args.self.count)) c.in-Some.is c.requires)) c.note.ensures))
