use Rattle.std.proofs.Common.{length, set, refl, ap}
use Rattle.std.proofs.lemmas.Option.{slice_get_read}
use Rattle.tora_sim.specs.Links.{LinkView}
use Rattle.tora_sim.proofs.lanes.note.Goals as goal

pub note_step-requires : goal.note_step-requires
note_step-requires c =
    let links = c.args.links.now.items in
    let x = c.index_mut.result.now in
    let room = c.requires.room x (slice_get_read links (length links) c.args.at x refl c.requires.within c.index_mut.ensures.value) in
    room.step

pub returns : goal.returns
returns c =
    let links = c.args.links.now.items in
    let x = c.index_mut.result.now in (
      x,
      slice_get_read links (length links) c.args.at x refl c.requires.within c.index_mut.ensures.value,
      ap (λ (z : LinkView). set links c.args.at z) c.note_step.ensures,
    )
