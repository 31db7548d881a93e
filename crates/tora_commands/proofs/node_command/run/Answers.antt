use Rattle.std.proofs.Common.{refl}
use Rattle.tora_commands.proofs.NodeEnds.{map_right, only_read, ran_or_memory, run_to_end, unconfigured, unstarted}
use Rattle.tora_commands.proofs.node_command.run.Goals as goal

pub returns-in-Err : goal.returns-in-Err
returns-in-Err g c = unconfigured _ _ _ _ _ _ _ _ _ _ _ c.code_of.ensures c.in-Err.ensures.refused refl

pub returns-then-options : goal.returns-then-options
returns-then-options g c = only_read _ _ _ _ _ _ _ _ _ _ _ c.in-Ok.ensures.says c.if-options.true refl refl

pub returns-in-Err-bind : goal.returns-in-Err-bind
returns-in-Err-bind g c = unstarted _ _ _ _ _ _ _ _ _ _ _ _ c.in-Ok.ensures.says c.if-options.false c.code_of-in-Err-bind.ensures c.in-Err-bind.ensures.fault refl

pub returns-in-Err-open : goal.returns-in-Err-open
returns-in-Err-open g c = unstarted _ _ _ _ _ _ _ _ _ _ _ _ c.in-Ok.ensures.says c.if-options.false c.code_of-in-Err-open.ensures c.in-Err-open.ensures.fault refl

pub returns : goal.returns
returns g c =
    run_to_end _ _ _ _ _ _ _ _ _ _ _ c.in-Ok.ensures.says c.if-options.false (
    ran_or_memory _ _ _ _ c.run_over-ended.result.0 _ c.finish-code.ensures
    (map_right c.run_over-ended.ensures (λ ran. (_, ran.0, c.in-Ok-open.disks.items, ran.2))))
