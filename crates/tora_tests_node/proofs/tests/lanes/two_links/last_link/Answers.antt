use Rattle.std.proofs.Common.{List, [], ◌∷◌, ◌++◌, length, subst}
use Rattle.tora_lane.specs.Out.{SendEnd, ReceiveEnd}
use Rattle.tora_lane.specs.Ports.{InEnd}
use Rattle.tora_lane.specs.NodeLanes.{AreLinks}
use Rattle.tora_lane.proofs.Links.{last_link}
use Rattle.tora_tests_node.proofs.tests.lanes.two_links.last_link.Goals as goal

pub returns-clause-others : goal.returns-clause-others
returns-clause-others g c =
    let links = c.in-Some.ensures in
    let outs = c.in-Some-pop.ensures in
    let all : AreLinks c.args.core.now.lane c.requires.0 (c.pop.new.self.items ++ (c.in-Some.port, c.in-Some.take) ∷ []) (c.pop-2.new.self.items ++ c.in-Some-pop.put ∷ []) =
    subst (λ (l : List (InEnd × ReceiveEnd) × List SendEnd). AreLinks c.args.core.now.lane c.requires.0 l.0 l.1) (λ i. (links.items i, outs.items i)) c.requires.1 in
    (length c.pop.new.self.items, (last_link _ _ _ _ _ _ all).1)
