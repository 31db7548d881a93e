use Rattle.std.proofs.Common.{◌≡◌, ◌∙◌, refl, ap, ℕ, Bool, List, [], ◌∷◌, ◌==◌, ◌||◌}
use Rattle.tora_core.specs.Numbers.{has_number}
use Rattle.tora_core.specs.View.{View}
use Rattle.tora_core.specs.Table.{views_in}
use Rattle.tora_core.specs.CoreRun.{CoreView, has_destination}
use Rattle.tora_core.specs.Kept.{destinations_of}
use Rattle.tora_core.proofs.node.Core.has_destination.Goals as goal

named-views : (d : ℕ) (views : List View) → has_number d (destinations_of views) ≡ has_destination d views
named-views d [] = refl
named-views d (v ∷ views) = ap (λ (b : Bool). (v.destination == d) || b) (named-views d views)

pub returns : goal.returns
returns c =
    c.has_number.ensures ∙ ap (has_number c.args.d) (c.as_slice.ensures.value ∙ c.self.invariant.1.0) ∙ named-views c.args.d (views_in c.self.inside.views.items)
    ∙ ap (λ (core : CoreView). has_destination c.args.d core.views) c.self.view_is
