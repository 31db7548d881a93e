use Rattle.std.proofs.Common.{◌≡◌, ◌<◌, ◌+◌, ◌++◌, ◌∷◌, [], ℕ, List, length, ap, ap₂, sym, ◌∙◌, subst, arith, length-append}
use Rattle.tora_seat.specs.declared.cargo.Cargo.TheVariants as Gives
use Rattle.tora_seat.specs.Serving.{Parcel}
use Rattle.tora_world.specs.Lists.{parcel_of, parcels_in}
use Rattle.tora_world.proofs.EndViews.{parcels-append}
use Rattle.tora_sim.specs.Files.{disk_of}
use Rattle.tora_sim.specs.KeptCargoes.{CargoList}
use Rattle.tora_sim.specs.Links.{LinkView, link_of}
use Rattle.tora_sim.proofs.links.LinkParts.note_step.Goals as goal

pub returns : goal.returns
returns c =
    let s = c.self.inside in
    let parcel = parcel_of c.args.life c.args.packet in
    let before = parcels_in s.steps.items in
    let steps : parcels_in c.push.new.self.items ≡ before ++ parcel ∷ [] =
    ap (λ (v : CargoList). parcels_in v.items) c.push.ensures ∙ parcels-append s.steps.items (Gives.Packet c.args.life c.args.packet ∷ []) in
    let fits : length before < length before + s.steps.places = subst (λ (v : LinkView). length v.steps < v.step_room) (sym c.self.view_is) c.requires in
    let room : length (parcels_in c.push.new.self.items) + c.push.new.self.places ≡ length before + s.steps.places =
    omega (arith, fits, ap length steps, length-append before (parcel ∷ []), ap (λ (v : CargoList). v.places) c.push.ensures) in
    ap₂ (λ (ps : List Parcel) (n : ℕ). record (link_of s.end.settings.me s.end.settings.peer s.seat s.end (disk_of s.file.value) s.lane.put s.lane.pulled s.lane.room s.steps.items n) { steps = ps }) steps room
    ∙ ap (λ (v : LinkView). record v { steps = v.steps ++ parcel ∷ [] }) c.self.view_is
