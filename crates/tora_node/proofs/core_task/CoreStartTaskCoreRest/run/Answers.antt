use Rattle.std.proofs.Common.{◌∙◌, sym, ap, subst}
use Rattle.tora_lane.specs.Offering.{DidOffer}
use Rattle.tora_lane.specs.Ports.{CoreEnd}
use Rattle.tora_node.specs.CoreRuns.{EndsSo, offers_made}
use Rattle.tora_node.proofs.Faults.{core_fault}
use Rattle.tora_node.proofs.Kept.{offered_inside}
use Rattle.tora_node.proofs.core_task.CoreStartTaskCoreRest.run.Goals as goal

pub returns : goal.returns
returns g c =
    let r = c.run_core-end.ensures.runs in
    let after = c.run_core-end.result in
    record {
      xs = r.0;
      taken = ap (λ (p : CoreEnd). p.taken) c.end-port.ensures ∙ r.1;
      lane = ap (λ (p : CoreEnd). p.lane) c.end-port.ensures ∙ c.run_core-end.ensures.lane;
      served = r.2;
      offered = offered_inside (λ o. o.ends.items) DidOffer c.args.self.seat.core.neighbours _ (offers_made r.0) after.outs r.3;
      core_is = r.4;
      ends = subst (λ (p : CoreEnd). EndsSo after.fault r.0 p.gone) (sym c.end-port.ensures) r.6;
      written = r.5;
      neighbours = c.run_core-end.ensures.neighbours;
      fault = core_fault after.fault r.0 after.port.gone r.6;
    }
