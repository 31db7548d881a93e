use Rattle.std.proofs.Common.{refl}
use Rattle.tora_core.specs.Rules.{after_join, new_level, after_erase, after_link_loss, after_update_loss}
use Rattle.tora_height.specs.Height.{height_fault}
use Rattle.tora_seat.specs.Serving.{after_cuts_tried, after_broadcast, after_broadcasts, after_step, after_settling, after_input, after_link_item, after_other_item, serving_of}
use Rattle.tora_seat.proofs.worked.worked_downs_hold.Goals as goal

pub returns : goal.returns
unfolding after_join new_level after_erase after_link_loss after_update_loss height_fault after_cuts_tried after_broadcast after_broadcasts after_step after_settling after_input after_link_item after_other_item serving_of
returns c = record { ended = refl; stepped = refl; passed_over = refl; not_stepped = refl; forgotten = refl; stays_pending = refl; none_stepped = refl }
