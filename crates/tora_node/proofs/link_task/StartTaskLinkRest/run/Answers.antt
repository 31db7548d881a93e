use Rattle.std.proofs.Common.{subst}
use Rattle.tora_arq.specs.EndRange.{LinkEndView}
use Rattle.tora_neighbour.specs.Turns.{IsTurnRun}
use Rattle.tora_node.proofs.Kept.{calls_there, ends_stay}
use Rattle.tora_node.proofs.link_task.StartTaskLinkRest.run.Goals as goal

pub returns : goal.returns
returns g c =
    let t = c.run_neighbour-hub.ensures.turns in
    let after = c.run_neighbour-hub.result in
    let same = ends_stay (λ h. h.hub) g.W.Wire.did_send g.W.Wire.did_receive _ t.8.0 after.hub _ t.8.1 after.link.wire t.0 t.1 t.2 t.8.2 t.8.3 in
    let calls = calls_there (λ h. h.hub) g.W.Wire.did_send g.W.Wire.did_receive _ t.8.0 after.hub _ t.8.1 after.link.wire t.0 t.1 t.2 t.8.2 t.8.3 in
    record {
      run = record {
        turns = t.0;
        last = t.1;
        ending = t.2;
        after = after.link.end.state;
        runs = subst (λ (e : LinkEndView). IsTurnRun e.settings e.state t.0 t.1 t.2 after.link.end.state) c.args.self.new.new t.4;
        fault_is = t.3;
        tally_is = t.6;
      };
      called = record {
        between = t.8.1;
        after = after.link.wire;
        calls = calls.0;
        last_calls = calls.1;
        clock_after = c.run_neighbour-hub.new.clock;
        reads = t.7;
      };
      last_drawn = after.link.file.numbers.drawn;
      numbers = t.5.drawn;
      puts = t.5.puts;
      takes = t.5.takes;
      port = same.0;
      ring = same.1;
    }
