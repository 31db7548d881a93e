use Rattle.std.proofs.Common.{◌≡◌, ◌-◌, arith, length, string_bytes}
use Rattle.tora_drive.proofs.RecordLaws.{none_sent, next_sent}
use Rattle.tora_drive.proofs.records.write_sent.Goals as goal

pub loop-i-init : goal.loop-i-init
loop-i-init g c = record { text = none_sent (g.S.Simulator.world c.args.sim.now) c.args.first _; within = omega arith }

pub loop-i-preserved : goal.loop-i-preserved
loop-i-preserved g c = record {
  text =
      next_sent (g.S.Simulator.world c.args.sim.now) c.args.first c.loop-i.i (string_bytes c.args.out.now) (string_bytes c.loop-i.out) (string_bytes c.write_sent_one.new.out) c.loop-i.auto.i c.loop-i.invariant.text
      c.in_ok-write_sent_one.ensures;
  within = omega (arith, c.loop-i-test.true);
}

pub returns : goal.returns
returns g c =
    let k : c.loop-i.i - c.args.first ≡ length (g.S.Simulator.world c.args.sim.now).datagrams - c.args.first = omega (arith, c.datagrams-i-end.ensures, c.loop-i.invariant.within, c.loop-i-test.false) in
    rw k at c.loop-i.invariant.text
