use Rattle.std.proofs.Common.{◌≡◌, ◌++◌, List}
use Rattle.std.specs.Prelude.{map}
use Rattle.std.specs.Vec.Iter.{into_iter_items, into_iter_len}
use Rattle.tora_lane.specs.Out.{SendEnd}
use Rattle.tora_node.specs.declared.link_task.LinkRest.{LinkRest}
use Rattle.tora_node.specs.Threads.{Each, HasEnds, IsSettled, outcome_of}
use Rattle.tora_node.proofs.settle.settle_links.Given as goal

abbrev pub invariant-loop-rest : goal.invariant-loop-rest
invariant-loop-rest l = record {
  left : into_iter_len l.outs ≡ into_iter_len l.rest-iterator;
  same : l.port ≡ l.fn.port;
  ends : Each (HasEnds l.fn.port.lane) (into_iter_items l.rest-iterator) (into_iter_items l.outs);
  done :
      (links : List LinkRest) × (outs : List SendEnd) × (links ++ into_iter_items l.rest-iterator ≡ into_iter_items l.initial.rest-iterator) × (outs ++ into_iter_items l.outs ≡ into_iter_items l.initial.outs)
      × Each (IsSettled l.fn.port.taken) links outs × (l.outcomes.items ≡ map outcome_of links);
}
