use Rattle.std.proofs.Common.{ℕ, List, sym, subst}
use Rattle.tora_life.specs.DiskView.{DiskView}
use Rattle.tora_life.specs.State.{IsWhole, MayLeave, seen_of}
use Rattle.tora_life.proofs.TornBytes.{crash_images, crash_left, crash_whole}
use Rattle.tora_life.proofs.mem_disk.MemDisk.crash.Goals as goal

pub invariant_of-self : goal.invariant_of-self
invariant_of-self c = subst IsWhole (sym c.crash.ensures) (crash_whole c.args.torn c.self.inside.state c.self.invariant)

pub returns-clause-left : goal.returns-clause-left
returns-clause-left c =
    subst (λ (d : DiskView). MayLeave d.state (seen_of c.crash.new.self)) c.self.view_is (rw c.crash.ensures (crash_left c.args.torn c.self.inside.state c.self.invariant))

pub returns-clause-images : goal.returns-clause-images
returns-clause-images c =
    subst (λ (d : DiskView). (f : List ℕ) → MayLeave c.crash.new.self f → MayLeave d.state f) c.self.view_is (rw c.crash.ensures (crash_images c.args.torn c.self.inside.state c.self.invariant))
