-- The broadcast of a view that keeps the invariants makes a packet for its destination.
use Rattle.std.proofs.Common.{◌≡◌, ◌∙◌, sym, subst, ℕ, Option, None, Some}
use Rattle.std.specs.Prelude.{IfSome}
use Rattle.tora_height.specs.Height.{Quintuple, IsHeightOf}
use Rattle.tora_core.specs.declared.Input.{Input}
use Rattle.tora_core.specs.declared.destination.Broadcast.{Broadcast}
use Rattle.tora_core.specs.declared.destination.Broadcast.TheVariants as Tell
use Rattle.tora_core.specs.View.{View}
use Rattle.tora_core.specs.Kept.{IsKept, IsKeptOutcome, IsBroadcastOf, MakesPacket, MayCome}
use Rattle.tora_core.specs.Rules.{Outcome, outcome_of}
use Rattle.tora_core.proofs.KeptLemmas.{outcome_of-kept}
use Rattle.tora_core.proofs.Places.{outcome_of-place}

makes_packet : (v : View) (o : Option Broadcast) → IsKept v → IsBroadcastOf v o → IfSome o (MakesPacket v.destination)
makes_packet v None k s = tt
makes_packet v (Some Tell.Query) k s = k.destination
makes_packet v (Some (Tell.Update h)) k s =
    let P : Option Quintuple → Type 0 = λ o. IfSome o (IsHeightOf v.me v.destination) in
    let is : IsHeightOf v.me v.destination h = subst P s.1 k.height in
    record { destination = k.destination; height = is.ranges; other = λ (e : h.id ≡ v.destination). s.0 (sym is.id ∙ e); above = is.above s.0 }
makes_packet v (Some (Tell.Clear tau oid)) k s = s

pub broadcasts-make_packets : (v : View) (input : Input) (now : ℕ) → IsKept v → MayCome v input → IfSome (outcome_of v input now).broadcast (MakesPacket v.destination)
broadcasts-make_packets v input now k may =
    let o : Outcome = outcome_of v input now in
    let kept : IsKeptOutcome o = outcome_of-kept v input now k may in
    let same : o.view.destination ≡ v.destination = (outcome_of-place v input now).destination in
    subst (λ (d : ℕ). IfSome o.broadcast (MakesPacket d)) same (makes_packet o.view o.broadcast kept.view kept.broadcast)
