use Rattle.std.proofs.Common.{IsTrue, subst}
use Rattle.tora_life.specs.Numbers.{IsKept}
use Rattle.tora_life.proofs.Opens.{opened_kept}
use Rattle.tora_life.proofs.life_file.LifeFile.open.Goals as goal

kept : (g : _) (c : goal.In-Ok g) → IsKept g.D.Disk.tells g.D.Disk.seen g.D.Disk.may_leave (record { node = c.args.me; peer = c.args.peer }) c.in-Ok.numbers c.open_file.new.disk
kept g c =
    let d = g.D.Disk in
    let before = λ (told : IsTrue (d.tells c.open_file.new.disk)). subst IsTrue c.open_file.ensures.tells told in
    opened_kept d.tells d.seen d.may_leave (record { node = c.args.me; peer = c.args.peer }) c.in-Ok.numbers c.open_file.new.disk (d.seen c.args.disk) c.in-Ok.ensures.used (λ told. c.in-Ok.ensures.numbers (before told)) (λ told. c.in-Ok.ensures.seen (before told)) (λ told. c.in-Ok.ensures.only (before told))

pub invariant_of-result : goal.invariant_of-result
invariant_of-result g c = kept g c

pub returns-in-Ok-clause-kept : goal.returns-in-Ok-clause-kept
returns-in-Ok-clause-kept g c = kept g c
