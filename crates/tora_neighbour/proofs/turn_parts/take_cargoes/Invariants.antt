use Rattle.std.proofs.Common.{◌≡◌, ◌++◌, List, length}
use Rattle.tora_seat.specs.declared.cargo.Cargo.{Cargo}
use Rattle.tora_neighbour.specs.Calls.{TakesSome}
use Rattle.tora_neighbour.specs.Turns.{after_cargoes}
use Rattle.tora_neighbour.proofs.turn_parts.take_cargoes.Given as goal

abbrev pub invariant-loop-count : goal.invariant-loop-count
invariant-loop-count g l = record {
  taken :
      (cargoes : List Cargo) × (length cargoes ≡ l.count) × (l.end ≡ record l.fn.end { state = after_cargoes l.fn.end.state cargoes }) × (g.H.Hub.takes l.hub ≡ g.H.Hub.takes l.fn.hub ++ cargoes) × TakesSome g.H.Hub.did_take l.fn.hub cargoes l.hub;
  puts : g.H.Hub.puts l.hub ≡ g.H.Hub.puts l.fn.hub;
  gone : g.H.Hub.gone l.hub ≡ g.H.Hub.gone l.fn.hub;
}
