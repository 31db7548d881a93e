use Rattle.std.proofs.Common.{◌≡◌, ◌≤◌, length, take}
use Rattle.tora_core.specs.Links.{directions_of, downstream_in}
use Rattle.tora_core.proofs.links.direct.Given as goal

-- the links so far are directed and counted
abbrev pub invariant-loop-i : goal.invariant-loop-i
invariant-loop-i l = record {
  directions : take l.i l.directions ≡ directions_of l.own (take l.i l.rows);
  lengths : length l.directions ≡ length l.rows;
  downstream : l.downstream ≡ downstream_in l.own (take l.i l.rows);
  few : l.downstream ≤ l.i;
}
