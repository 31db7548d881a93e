use Rattle.std.proofs.Common.{ℕ, ◌<◌, length, refl, sym, subst, arith}
use Rattle.std.proofs.lemmas.Option.{slice_get_read}
use Rattle.tora_sim.specs.Quiet.{IsDeadline}
use Rattle.tora_sim.proofs.IdleEnds.{known_here, short_idle}
use Rattle.tora_sim.proofs.looks.look.Goals as goal

pub returns-clause-holds : goal.returns-clause-holds
returns-clause-holds c =
    let links = c.args.links.now.items in
    let many = c.requires.holds.as_many in
    let within : c.args.place < length links = omega (arith, c.requires.within, many) in
    known_here c.args._now c.args.deadlines.now c.set_deadline.new.deadlines links c.args.place c.short-until.result c.index.result.now c.set_deadline.ensures c.requires.within
    (slice_get_read links (length links) c.args.place c.index.result.now refl within c.index.ensures)
    (subst (λ (n : ℕ). IsDeadline n c.index.result.now) (sym c.short-until.ensures) (short_idle c.deadline.result c.index.result.now c.deadline.ensures)) c.requires.holds
