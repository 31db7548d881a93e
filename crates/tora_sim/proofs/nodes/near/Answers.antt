use Rattle.std.proofs.Common.{◌∙◌, sym, length}
use borrow.Author.Tests.{ltb-true}
use Rattle.tora_sim.proofs.Keys.{read_first_node}
use Rattle.tora_sim.proofs.nodes.near.Goals as goal

pub returns-then-is_node : goal.returns-then-is_node
returns-then-is_node c =
    read_first_node c.args.n c.args.nodes.now c.args.place c.in-Some.node.now c.requires (ltb-true c.args.place (length c.args.nodes.now) (sym c.in-Some.ensures.lookup.0)) c.in-Some.ensures.lookup.1 (sym c.is_node.ensures ∙ c.if-is_node.true)
