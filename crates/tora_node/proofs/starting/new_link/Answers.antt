use Rattle.std.proofs.Common.{refl, subst, Ok, Err}
use Rattle.tora_life.specs.Calls.{OpensBy}
use Rattle.tora_life.specs.declared.tags.Owner.{Owner}
use Rattle.tora_node.proofs.starting.new_link.Goals as goal

pub returns-in-Ok-clause-made : goal.returns-in-Ok-clause-made
returns-in-Ok-clause-made g c =
    let calls = subst (λ (o : Owner). OpensBy g.D.Disk.syncs g.D.Disk.reads g.D.Disk.writes o c.args.disk (Ok c.in-Ok.file.numbers) c.in-Ok.file.disk) (λ i. record { node = c.me.ensures i; peer = c.peer.ensures.peer i }) c.in-Ok.ensures.calls in
    (refl, refl, (c.in-Ok.file.numbers, c.in-Ok.file.disk, calls, refl))

pub returns-in-Err-clause-failed : goal.returns-in-Err-clause-failed
returns-in-Err-clause-failed g c = (
  c.in-Err.fault.disk,
  subst (λ (o : Owner). OpensBy g.D.Disk.syncs g.D.Disk.reads g.D.Disk.writes o c.args.disk (Err c.in-Err.fault.error) c.in-Err.fault.disk) (λ i. record { node = c.me.ensures i; peer = c.peer.ensures.peer i }) c.in-Err.ensures.calls_err,
)
