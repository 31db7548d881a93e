use Rattle.std.proofs.Common.{◌≡◌, ◌-◌, ◌+◌, ◌++◌, take, drop, length}
use Rattle.tora_arq.specs.SendQueue.{ready_run}
use Rattle.tora_arq.proofs.QueueLemmas.{Taking}
use Rattle.tora_arq.proofs.queue.SendQueue.take_run.Given as goal

-- the packets taken so far and those that may still be taken are the run of the original queue
abbrev pub invariant-loop-at : goal.invariant-loop-at
invariant-loop-at l = record {
  taking : Taking l.times l.now (l.end - l.at) l.at l.packets.items l.self.items (ready_run l.times l.now (l.end - l.place) (drop l.place l.fn.self.items)).packets
      (take l.place l.fn.self.items ++ (ready_run l.times l.now (l.end - l.place) (drop l.place l.fn.self.items)).queue);
  taken : length l.packets.items + l.place ≡ l.at;
  len : length l.self.items ≡ length l.fn.self.items;
  room : l.self.capacity ≡ l.fn.self.capacity;
}
