use Rattle.std.proofs.Common.{Option, sym, subst, take, ◌∙◌}
use Rattle.tora_node.specs.declared.commands.CommandsEnd.{CommandsEnd}
use Rattle.tora_node.specs.CommandSteps.{PutsAll}
use Rattle.tora_node.proofs.CommandReads.{none_read, read_once, read_to_line, read_to_end, read_to_gone}
use Rattle.tora_node.proofs.Commanding.{begun, read_on, stops, closes_with, closes_without}
use Rattle.tora_node.proofs.commands.run_commands.Goals as goal
use Rattle.tora_node.proofs.commands.run_commands.Goals.{then-is_gone, else-is_gone}

pub loop-init : goal.loop-init
loop-init g c = record {
  underway = begun g.C.Clock.did_tell (g.Rd.Input.remaining c.args.reader.now) (c.args.port.now, c.args.clock.now) c.new-line.result c.new-line.ensures;
  reads = none_read g.Rd.Input.did_read c.args.reader.now;
}

pub returns-in-Some-put_all-clause-put : goal.returns-in-Some-put_all-clause-put
returns-in-Some-put_all-clause-put g c =
    let tell = g.C.Clock.did_tell in
    let u = c.loop.invariant.underway in
    let p = c.put_all.ensures u.rest u.holds in
    stops tell (g.Rd.Input.remaining c.args.reader.now) (g.Rd.Input.remaining c.loop.reader) (g.Rd.Input.remaining c.read.new.reader) (c.args.port.now, c.args.clock.now) (c.loop.port, c.loop.clock) (c.put_all.new.port, c.put_all.new.clock) c.loop.line c.put_all.new.line
    (take c.in-Ok.count c.read.new.chunk) c.in-Some-put_all.end u c.in-Ok.ensures.bytes (subst (λ (e : Option CommandsEnd). PutsAll tell u.rest (take c.in-Ok.count c.read.new.chunk) (c.loop.port, c.loop.clock) (c.put_all.new.port, c.put_all.new.clock) c.put_all.new.line e) c.in-Some-put_all.is p)

pub returns-in-Some-put_all-clause-reads : goal.returns-in-Some-put_all-clause-reads
returns-in-Some-put_all-clause-reads g c =
    let tell = g.C.Clock.did_tell in
    let u = c.loop.invariant.underway in
    let p = c.put_all.ensures u.rest u.holds in
    read_to_line g.Rd.Input.did_read c.args.reader.now c.loop.reader c.read.new.reader c.in-Ok.count tell u.rest (take c.in-Ok.count c.read.new.chunk) (c.loop.port, c.loop.clock) (c.put_all.new.port, c.put_all.new.clock) c.put_all.new.line c.in-Some-put_all.end
    c.loop.invariant.reads c.in-Ok.ensures.call (subst (λ (e : Option CommandsEnd). PutsAll tell u.rest (take c.in-Ok.count c.read.new.chunk) (c.loop.port, c.loop.clock) (c.put_all.new.port, c.put_all.new.clock) c.put_all.new.line e) c.in-Some-put_all.is p)

pub loop-preserved : goal.loop-preserved
loop-preserved g c =
    let tell = g.C.Clock.did_tell in
    let u = c.loop.invariant.underway in
    let p = c.put_all.ensures u.rest u.holds in
    record {
      underway =
          read_on tell (g.Rd.Input.remaining c.args.reader.now) (g.Rd.Input.remaining c.loop.reader) (g.Rd.Input.remaining c.read.new.reader) (c.args.port.now, c.args.clock.now) (c.loop.port, c.loop.clock) (c.put_all.new.port, c.put_all.new.clock) c.loop.line c.put_all.new.line
          (take c.in-Ok.count c.read.new.chunk) u c.in-Ok.ensures.bytes (subst (λ (e : Option CommandsEnd). PutsAll tell u.rest (take c.in-Ok.count c.read.new.chunk) (c.loop.port, c.loop.clock) (c.put_all.new.port, c.put_all.new.clock) c.put_all.new.line e) c.in-None-put_all.is p);
      reads = read_once g.Rd.Input.did_read c.args.reader.now c.loop.reader c.read.new.reader c.in-Ok.count c.loop.invariant.reads c.in-Ok.ensures.call;
    }

pub returns-in-Err-clause-put : goal.returns-in-Err-clause-put
returns-in-Err-clause-put g c =
    let tell = g.C.Clock.did_tell in
    let r0 = g.Rd.Input.remaining c.args.reader.now in
    let r1 = g.Rd.Input.remaining c.loop.reader in
    let r2 = g.Rd.Input.remaining c.read.new.reader in
    let u = c.loop.invariant.underway in
    let p = c.put_last-last.ensures u.rest u.holds in
    elim c.if-is_gone.branch [
      | then-is_gone w ↦
          rw w.result-is (closes_without tell r0 r1 r2 (c.args.port.now, c.args.clock.now) (c.loop.port, c.loop.clock) (c.put_last-last.new.port, c.put_last-last.new.clock) c.loop.line c.in-Err.end c.put_last-last.result u c.in-Err.ensures.err p (sym c.is_gone.ensures ∙ w.if-is_gone.true))
      | else-is_gone w ↦
          rw w.result-is (closes_with tell r0 r1 r2 (c.args.port.now, c.args.clock.now) (c.loop.port, c.loop.clock) (c.put_last-last.new.port, c.put_last-last.new.clock) c.loop.line c.in-Err.end c.put_last-last.result u c.in-Err.ensures.err p (sym c.is_gone.ensures ∙ w.if-is_gone.false))
    ]

pub returns-in-Err-clause-reads : goal.returns-in-Err-clause-reads
returns-in-Err-clause-reads g c =
    elim c.if-is_gone.branch [
      | then-is_gone w ↦ rw w.result-is (read_to_gone g.Rd.Input.did_read c.args.reader.now c.loop.reader c.read.new.reader c.in-Err.end c.loop.invariant.reads c.in-Err.ensures.call)
      | else-is_gone w ↦ rw w.result-is (read_to_end g.Rd.Input.did_read c.args.reader.now c.loop.reader c.read.new.reader c.in-Err.end c.loop.invariant.reads c.in-Err.ensures.call)
    ]
