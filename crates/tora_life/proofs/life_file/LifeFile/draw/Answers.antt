use Rattle.std.proofs.Common.{◌+◌, subst, true, false}
use Rattle.tora_life.specs.Calls.{WritesAndSyncs, place_of}
use Rattle.tora_life.specs.LifeFile.{slot_of}
use Rattle.tora_life.specs.FileView.{FileView}
use Rattle.tora_life.specs.Numbers.{value_of, lesser_slot}
use Rattle.tora_life.proofs.Bounds.{lesser_place}
use Rattle.tora_life.proofs.life_file.LifeFile.draw.Goals as goal

pub replace_slot-requires-clause-place : goal.replace_slot-requires-clause-place
replace_slot-requires-clause-place g c = λ told.
    rw c.lesser.ensures (lesser_place c.self.inside.numbers (g.D.Disk.seen c.self.inside.disk) (c.self.invariant.first told c.if-self.false))

pub returns-in-Ok-clause-calls : goal.returns-in-Ok-clause-calls
returns-in-Ok-clause-calls g c = λ _.
    subst (λ (f : FileView g.row.D.Denot). WritesAndSyncs g.D.Disk.writes g.D.Disk.syncs (place_of (lesser_slot f.numbers)) (slot_of (value_of f.numbers + 16)) f.disk true c.replace_slot.new.disk) c.self.view_is
    (rw (← c.lesser.ensures, ← c.value-value.ensures) c.in-Ok.ensures.calls)

pub returns-in-Err-clause-calls : goal.returns-in-Err-clause-calls
returns-in-Err-clause-calls g c = λ _.
    subst (λ (f : FileView g.row.D.Denot). WritesAndSyncs g.D.Disk.writes g.D.Disk.syncs (place_of (lesser_slot f.numbers)) (slot_of (value_of f.numbers + 16)) f.disk false c.replace_slot.new.disk) c.self.view_is
    (rw (← c.lesser.ensures, ← c.value-value.ensures) c.in-Err.ensures.calls)
