use Rattle.std.proofs.Common.{◌≡◌, ◌<◌, ◌+◌, ◌^◌, length}
use Rattle.tora_arq.specs.LinkEnd.{after_release}
use Rattle.tora_arq.specs.StateView.{rooms_in, state_in}
use Rattle.tora_arq.proofs.state.State.release.Given as goal

abbrev pub invariant-loop-packet : goal.invariant-loop-packet
invariant-loop-packet l = record {
  onward : after_release l.life (state_in l.self) l.self.held.items ≡ after_release l.life (state_in l.initial.self) l.initial.self.held.items;
  rooms : rooms_in l.self ≡ rooms_in l.initial.self;
  room : length l.self.events.items + length l.self.held.items < l.self.events.capacity;
  number : l.self.accepted + length l.self.held.items < 2 ^ 64;
}

abbrev pub decreases-loop-packet : goal.decreases-loop-packet
decreases-loop-packet l = length l.self.held.items
