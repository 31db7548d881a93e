use Rattle.std.proofs.Common.{sym, subst, length, ◌≤◌, OnOk}
use Rattle.tora_life.specs.Disk.{Elapses, Holds, Torn, Follows}
use Rattle.tora_life.specs.DiskView.{DiskView}
use Rattle.tora_life.specs.Past.{LeftSince}
use Rattle.tora_life.specs.State.{MayLeave, seen_of}
use Rattle.tora_life.proofs.Past.{elapses}
use Rattle.tora_life.proofs.Writes.{write_held, write_crash}
use Rattle.tora_life.proofs.mem_disk.MemDiskDisk.write_at.Goals as goal

pub returns-clause-written : goal.returns-clause-written
returns-clause-written c = λ told.
    let place : c.args.at ≤ length (seen_of c.self.inside.state) = subst (λ (d : DiskView). c.args.at ≤ length (seen_of d.state)) (sym c.self.view_is) (c.requires told) in
    subst (λ (d : DiskView). OnOk c.write.result (Holds (seen_of d.state) c.args.at c.args.bytes.now (seen_of c.write.new.self))) c.self.view_is
    (rw (c.write.ensures.answer, c.write.ensures.after) (write_held c.self.inside.state c.self.invariant c.args.at c.args.bytes.now place))

pub returns-clause-crash : goal.returns-clause-crash
returns-clause-crash c = λ told.
    let place : c.args.at ≤ length (seen_of c.self.inside.state) = subst (λ (d : DiskView). c.args.at ≤ length (seen_of d.state)) (sym c.self.view_is) (c.requires told) in
    subst (λ (d : DiskView). Follows (Torn c.args.at (length c.args.bytes.now)) (MayLeave d.state) (MayLeave c.write.new.self)) c.self.view_is
    (rw c.write.ensures.after (write_crash c.self.inside.state c.self.invariant c.args.at c.args.bytes.now place))

pub returns-clause-time : goal.returns-clause-time
returns-clause-time c = λ told.
    subst (λ (d : DiskView). Elapses (length d.past) (length c.with-self-inside.result.states) (LeftSince d.past d.state) (LeftSince c.with-self-inside.result.states c.write.new.self) (MayLeave c.write.new.self)) c.self.view_is
    (elapses c.self.inside.past.states c.with-self-inside.result.states c.self.inside.state c.write.new.self c.with-self-inside.ensures)
