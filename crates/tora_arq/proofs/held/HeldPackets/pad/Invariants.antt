use Rattle.std.proofs.Common.{◌≡◌, length}
use Rattle.tora_arq.specs.Held.{padded}
use Rattle.tora_arq.proofs.held.HeldPackets.pad.Given as goal

abbrev pub invariant-loop : goal.invariant-loop
invariant-loop l = record {
  padded_is : padded l.places l.self-inside.ring.items ≡ padded l.places l.initial.self-inside.ring.items;
  len : length l.self-inside.ring.items ≡ l.counter;
  capacity : l.self-inside.ring.capacity ≡ l.initial.self-inside.ring.capacity;
}
