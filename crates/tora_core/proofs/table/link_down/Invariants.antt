use Rattle.std.proofs.Common.{◌≡◌, ◌≤◌, ◌++◌, length, map, take, drop}
use Rattle.std.specs.Prelude.{filter_map}
use Rattle.tora_core.specs.declared.Input.TheVariants as In
use Rattle.tora_core.specs.Table.{next_in}
use Rattle.tora_core.proofs.TableViews.{packet_in}
use Rattle.tora_core.proofs.table.link_down.Given as goal

-- the views so far have taken the input, and their packets are listed
abbrev pub invariant-loop-view : goal.invariant-loop-view
invariant-loop-view l = record {
  views : l.views ≡ map (next_in (In.LinkDown l.k) l.now) (take l.view-index l.initial.views) ++ drop l.view-index l.initial.views;
  sends : l.sends.items ≡ filter_map (packet_in (In.LinkDown l.k) l.now) (take l.view-index l.initial.views);
  room : length l.sends.items ≤ l.view-index;
}
