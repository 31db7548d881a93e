use Rattle.std.proofs.Common.{◌≡◌, ap, subst, List}
use Rattle.std.specs.Prelude.{IfOk}
use Rattle.tora_core.specs.declared.rows.Row.{Row}
use Rattle.tora_core.specs.Table.{TableView}
use Rattle.tora_core.proofs.destination.Destination.rows.Goals as goal

pub returns : goal.returns
returns c = subst (λ (xs : List Row). IfOk c.rows.result (λ rows. rows.items ≡ xs)) (ap (λ (t : TableView). t.view.rows) c.self.view_is) c.rows.ensures
