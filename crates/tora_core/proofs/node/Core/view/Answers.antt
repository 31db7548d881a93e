use Rattle.std.proofs.Common.{◌∙◌, ap}
use Rattle.std.specs.Prelude.{◌==◌, find, option_map}
use Rattle.tora_core.specs.CoreRun.{CoreView, view_of}
use Rattle.tora_core.specs.Table.{TableView}
use Rattle.tora_core.proofs.TableViews.{find_in}
use Rattle.tora_core.proofs.node.Core.view.Goals as goal

pub returns : goal.returns
returns c =
    ap (option_map (λ (t : TableView). t.view)) (c.view_of.ensures ∙ ap (find (λ t. t.view.destination == c.args.d)) c.as_slice.ensures.value)
    ∙ find_in c.args.d c.self.inside.views.items ∙ ap (λ (x : CoreView). view_of x c.args.d) c.self.view_is
