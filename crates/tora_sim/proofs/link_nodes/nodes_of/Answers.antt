use Rattle.tora_sim.proofs.Named.{many-by-one, many-by-both}
use Rattle.tora_sim.proofs.link_nodes.nodes_of.Goals as goal

pub returns-then-not-put : goal.returns-then-not-put
returns-then-not-put c =
    many-by-one c.args.links.now c.loop-left.left 1024 c.loop-left.nodes.items (0, 0) c.loop-left-test.true c.loop-left.invariant.within c.loop-left.invariant.nodes
    c.if-not-put.ensures

pub returns-then-not-put-2 : goal.returns-then-not-put-2
returns-then-not-put-2 c =
    many-by-both c.args.links.now c.loop-left.left 1024 c.loop-left.nodes.items c.put.new.numbers.items (0, 0) c.loop-left-test.true c.loop-left.invariant.within
    c.loop-left.invariant.nodes c.if-not-put.ensures c.if-not-put-2.ensures
