use Rattle.std.proofs.Common.{◌∙◌, ℕ, ap}
use Rattle.tora_script.specs.Table.{over, copies_on}
use Rattle.tora_script.proofs.DirectionCountLaws.{some_more}
use Rattle.tora_script.proofs.in_flight.counted_copies.Goals as goal

pub returns-clause-copies : goal.returns-clause-copies
returns-clause-copies g c =
    c.copies_behind.ensures
    ∙ ap (λ (n : ℕ). copies_on (over c.args.moment.now.network.table.now c.args.moment.now.network.channel) (record { round = c.args.moment.now.round; sender = c.args.direction.0; receiver = c.args.direction.1; before = n })) (c.times-before.ensures ∙ c.requires.counted c.args.direction)

pub returns-clause-counted : goal.returns-clause-counted
returns-clause-counted g c =
    some_more (g.S.Simulator.world c.args._sim.now) c.args.counts.now c.count.new.self c.args.moment.now.start c.args.i c.args.direction c.requires.behind c.requires.counted c.requires.going c.in_ok-count.ensures
