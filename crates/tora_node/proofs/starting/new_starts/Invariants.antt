use Rattle.std.proofs.Common.{◌≡◌, ◌++◌}
use Rattle.std.specs.Prelude.{map}
use Rattle.std.specs.Vec.Iter.{into_iter_items, into_iter_len}
use Rattle.tora_node.specs.Threads.{started, link_to_start, hub_started, hub_of, clock_started}
use Rattle.tora_node.proofs.starting.new_starts.Given as goal

abbrev pub invariant-loop-new : goal.invariant-loop-new
invariant-loop-new g l = record {
  lanes : into_iter_len l.hubs ≡ into_iter_len l.new-iterator;
  clocks_left : into_iter_len l.clocks ≡ into_iter_len l.new-iterator;
  links : map started l.starts.items ++ map link_to_start (into_iter_items l.new-iterator) ≡ map link_to_start (into_iter_items l.initial.new-iterator);
  hubs : map hub_started l.starts.items ++ map hub_of (into_iter_items l.hubs) ≡ map hub_of (into_iter_items l.initial.hubs);
  clocks : map clock_started l.starts.items ++ into_iter_items l.clocks ≡ into_iter_items l.initial.clocks;
}
