use Rattle.std.proofs.Common.{refl}
use Rattle.toml.proofs.Views.{table_get}
use Rattle.tora_commands.proofs.configuration.values.value_at.Goals as goal

pub returns-in-Some-clause-found : goal.returns-in-Some-clause-found
returns-in-Some-clause-found c =
    let found = table_get c.get.result c.args.key.now c.args.table.now.entries c.get.ensures.value in
    rw (← rw c.in-Some.is at found)

pub returns-in-None-clause-missing : goal.returns-in-None-clause-missing
returns-in-None-clause-missing c =
    let found = table_get c.get.result c.args.key.now c.args.table.now.entries c.get.ensures.value in
    (rw (← rw c.in-None.is at found) refl, refl)
