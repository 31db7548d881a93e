use Rattle.std.proofs.Common.{◌≡◌, ◌++◌, List}
use Rattle.std.specs.Prelude.{map}
use Rattle.std.specs.Vec.Iter.{into_iter_items, into_iter_len}
use Rattle.tora_node.specs.LinkRuns.{link_ended, link_made, wire_made, OpenedOn}
use Rattle.tora_node.specs.NewLinks.{IsOpened}
use Rattle.tora_node.specs.Threads.{Each}
use Rattle.tora_node.proofs.starting.new_links.Given as goal

abbrev pub invariant-loop-new : goal.invariant-loop-new
invariant-loop-new g l = record {
  disks : into_iter_len l.disks ≡ into_iter_len l.new-iterator;
  wires : into_iter_len l.wires ≡ into_iter_len l.new-iterator;
  made : map link_made l.links.items ++ map link_ended (into_iter_items l.new-iterator) ≡ map link_ended (into_iter_items l.initial.new-iterator);
  opened : (done : List g.row.D.Denot) × Each (OpenedOn (IsOpened g.D.Disk.syncs g.D.Disk.reads g.D.Disk.writes)) done l.links.items × (done ++ into_iter_items l.disks ≡ into_iter_items l.initial.disks);
  wired : map wire_made l.links.items ++ into_iter_items l.wires ≡ into_iter_items l.initial.wires;
}
