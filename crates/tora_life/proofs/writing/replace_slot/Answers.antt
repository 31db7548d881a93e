use Rattle.std.proofs.Common.{ap, length, ◌∙◌}
use Rattle.tora_life.proofs.Bounds.{images_keep, length-slot_of, replaced}
use Rattle.tora_life.proofs.Moments.{weaker}
use Rattle.tora_life.proofs.OnOks.{both_ok}
use Rattle.tora_life.proofs.writing.replace_slot.Goals as goal

pub returns-clause-ok : goal.returns-clause-ok
returns-clause-ok g c = λ tells.
    both_ok c.write_through.result (replaced c.args.slot c.args.bound _ _ _ _ _ c.place.ensures c.slot_bytes.ensures c.ranges.bound.fits (c.requires.place tells)) (c.write_through.ensures.held tells) (c.write_through.ensures.only tells)

pub returns-clause-images : goal.returns-clause-images
returns-clause-images g c = λ tells owner tag f left.
    images_keep owner c.args.slot (g.D.Disk.seen c.args.disk.now) _ _ _ c.place.ensures (ap length c.slot_bytes.ensures ∙ length-slot_of c.args.bound) tag (c.requires.only tells) f (c.write_through.ensures.images tells f left)

pub returns-clause-any_moment : goal.returns-clause-any_moment
returns-clause-any_moment g c = λ tells owner tag.
    let d = g.D.Disk in
    weaker d.moment d.left_since c.args.disk.now c.write_through.new.disk _ _ (images_keep owner c.args.slot (d.seen c.args.disk.now) _ _ _ c.place.ensures (ap length c.slot_bytes.ensures ∙ length-slot_of c.args.bound) tag (c.requires.only tells)) (c.write_through.ensures.any_moment tells)

pub returns-clause-calls : goal.returns-clause-calls
returns-clause-calls g c = rw (← c.place.ensures, ← c.slot_bytes.ensures) c.write_through.ensures.calls
