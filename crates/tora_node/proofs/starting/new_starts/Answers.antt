use Rattle.std.proofs.Common.{◌∙◌, sym, ap}
use Rattle.std.specs.Prelude.{map}
use Rattle.std.specs.Vec.Iter.{into_iter_items}
use Rattle.tora_node.specs.Threads.{started, link_to_start, hub_started, hub_of, clock_started}
use Rattle.tora_node.proofs.Lists.{gone_over}
use Rattle.tora_node.proofs.Runs.{all_done}
use Rattle.tora_node.proofs.starting.new_starts.Goals as goal

pub returns-clause-links : goal.returns-clause-links
returns-clause-links g c =
    let at = c.loop-new in
    all_done link_to_start (map started at.starts.items) (into_iter_items at.new-iterator) (map link_to_start c.args.links.items) (sym at.new-iterator.rest.ok.0 ∙ c.in-None.ensures.steps.0) (at.invariant.links ∙ ap (map link_to_start) c.into_iter-new-iterator.ensures.into_iter_gives.0)

pub returns-clause-hubs : goal.returns-clause-hubs
returns-clause-hubs g c =
    let at = c.loop-new in
    all_done hub_of (map hub_started at.starts.items) (into_iter_items at.hubs) (map hub_of c.args.hubs.items) (sym at.hubs.rest.ok.0 ∙ at.invariant.lanes ∙ c.in-None.ensures.steps.0) (at.invariant.hubs ∙ ap (map hub_of) c.into_iter-hubs.ensures.rest)

pub returns-clause-clocks : goal.returns-clause-clocks
returns-clause-clocks g c =
    let at = c.loop-new in
    gone_over (map clock_started at.starts.items) (into_iter_items at.clocks) _ (sym at.clocks.rest.ok.0 ∙ at.invariant.clocks_left ∙ c.in-None.ensures.steps.0) at.invariant.clocks ∙ c.into_iter-clocks.ensures.rest
