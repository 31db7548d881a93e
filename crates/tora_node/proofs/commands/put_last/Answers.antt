use Rattle.std.proofs.Common.{sym, subst, ◌∙◌}
use Rattle.tora_lane.specs.Ports.{InEnd}
use Rattle.tora_node.specs.declared.commands.Command.TheVariants.{Quit}
use Rattle.tora_node.specs.CommandSteps.{DidPut}
use Rattle.tora_node.proofs.Commanding.{empty_last, went_last}
use Rattle.tora_node.proofs.commands.put_last.Goals as goal
use Rattle.tora_node.proofs.commands.put_last.Goals.{then-not-is_empty+else-is_some, else-not-is_empty}

pub returns : goal.returns
returns g c = λ text holds.
    let tell = g.C.Clock.did_tell in
    let quits = λ (p : InEnd × _). DidPut tell Quit p (c.put.new.port, c.put.new.clock) c.put.result in
    elim c.if-not-is_empty.branch [
      | then-not-is_empty+else-is_some w ↦
          went_last tell text (c.args.port.now, c.args.clock.now) (w.put-end.new.port, w.put-end.new.clock) (c.put.new.port, c.put.new.clock) w.take.result w.put-end.result c.put.result (w.take.ensures.asked text holds) w.put-end.ensures (sym w.is_some.ensures ∙ w.if-is_some.false)
          (subst quits (λ i. (w.port-is i, w.clock-is i)) c.put.ensures)
      | else-not-is_empty w ↦
          empty_last tell text (c.args.port.now, c.args.clock.now) (c.put.new.port, c.put.new.clock) c.put.result (c.is_empty.ensures w.if-not-is_empty.false text holds) (subst quits (λ i. (w.port-is i, w.clock-is i)) c.put.ensures)
    ]
