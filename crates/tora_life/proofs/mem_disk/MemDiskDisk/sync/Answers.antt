use Rattle.std.proofs.Common.{List, ℕ, subst, length, OnOk}
use Rattle.tora_life.specs.Disk.{Elapses, IsOnlyImage}
use Rattle.tora_life.specs.DiskView.{DiskView}
use Rattle.tora_life.specs.Past.{LeftSince}
use Rattle.tora_life.specs.State.{MayLeave, seen_of}
use Rattle.tora_life.proofs.Past.{elapses}
use Rattle.tora_life.proofs.Writes.{sync_durable, sync_crash}
use Rattle.tora_life.proofs.mem_disk.MemDiskDisk.sync.Goals as goal

pub returns-clause-durable : goal.returns-clause-durable
returns-clause-durable c = λ told.
    subst (λ (d : DiskView). OnOk c.sync.result (IsOnlyImage (seen_of d.state) (MayLeave c.sync.new.self))) c.self.view_is
    (rw (c.sync.ensures.answer, c.sync.ensures.after) (sync_durable c.self.inside.state c.self.invariant))

pub returns-clause-crash : goal.returns-clause-crash
returns-clause-crash c = λ told.
    subst (λ (d : DiskView). (f : List ℕ) → MayLeave c.sync.new.self f → MayLeave d.state f) c.self.view_is
    (rw c.sync.ensures.after (sync_crash c.self.inside.state c.self.invariant))

pub returns-clause-time : goal.returns-clause-time
returns-clause-time c = λ told.
    subst (λ (d : DiskView). Elapses (length d.past) (length c.with-self-inside.result.states) (LeftSince d.past d.state) (LeftSince c.with-self-inside.result.states c.sync.new.self) (MayLeave c.sync.new.self)) c.self.view_is
    (elapses c.self.inside.past.states c.with-self-inside.result.states c.self.inside.state c.sync.new.self c.with-self-inside.ensures)
