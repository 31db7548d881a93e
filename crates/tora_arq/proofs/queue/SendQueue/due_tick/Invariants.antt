use Rattle.std.specs.Prelude.{◌≡◌, ℕ, ◌<◌, ◌^◌}
use Rattle.tora_arq.specs.NextDue.{has_begun}
use Rattle.tora_arq.proofs.DueLemmas.{is_queue_due}
use Rattle.tora_arq.proofs.queue.SendQueue.due_tick.Given as goal

-- the first tick at which a packet so far is due or given up
abbrev pub invariant-loop-place : goal.invariant-loop-place
invariant-loop-place l = (tick : ℕ) → tick < 2 ^ 64 → has_begun l.first tick ≡ is_queue_due l.times tick l.place l.self.items
