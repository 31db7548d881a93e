use Rattle.std.proofs.Common.{◌<◌, length, arith}
use Rattle.tora_sim.proofs.FreshEnds.{fresh_here, goes_on}
use Rattle.tora_sim.proofs.restarts.restart_ends.Goals as goal

pub restart-requires : goal.restart-requires
restart-requires c =
    let l = c.loop-place in
    let lt : l.place < length c.args.ends.now.items = omega (arith, c.loop-place-test.true, c.len-count.ensures) in
    let less : l.place < length l.ends.items = let same = l.invariant.as_many in omega (arith, lt, same) in
    fresh_here c.args.torn c.args.links.now.items l.links.items c.args.first l.place (length c.args.ends.now.items) c.args.ends.now.items l.ends.items l.invariant lt c.requires.within c.index_mut.result.now c.index_mut.ensures.value
    c.requires.fresh c.index_mut-in-loop-place.result.now less c.index_mut-in-loop-place.ensures.value

pub loop-place-preserved : goal.loop-place-preserved
loop-place-preserved c =
    let l = c.loop-place in
    let lt : l.place < length c.args.ends.now.items = omega (arith, c.loop-place-test.true, c.len-count.ensures) in
    goes_on c.args.torn c.args.links.now.items l.links.items c.args.first l.place (length c.args.ends.now.items) c.args.ends.now.items l.ends.items l.invariant lt c.requires.within c.index_mut.result.now c.index_mut.ensures.value
    c.restart.new.self c.restart.new.end c.restart.ensures
