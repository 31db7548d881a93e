use Rattle.std.proofs.Common.{subst, length}
use Rattle.tora_life.specs.Disk.{Elapses}
use Rattle.tora_life.specs.DiskView.{DiskView}
use Rattle.tora_life.specs.Past.{LeftSince}
use Rattle.tora_life.specs.State.{MayLeave}
use Rattle.tora_life.proofs.Past.{elapses}
use Rattle.tora_life.proofs.mem_disk.MemDiskDisk.read.Goals as goal

pub returns-clause-time : goal.returns-clause-time
returns-clause-time c = λ told.
    subst (λ (d : DiskView). Elapses (length d.past) (length c.with-self-inside.result.states) (LeftSince d.past d.state) (LeftSince c.with-self-inside.result.states c.read.new.self) (MayLeave c.read.new.self)) c.self.view_is
    (elapses c.self.inside.past.states c.with-self-inside.result.states c.self.inside.state c.read.new.self c.with-self-inside.ensures)
