use Rattle.std.proofs.Common.{refl}
use Rattle.tora_height.specs.Height.{height_fault}
use Rattle.tora_arq.specs.LinkEnd.{after_release, after_packet, after_packets, on_data, on_matched, on_frame_in, on_frame, after_tick, on_submit, after_cut, on_transmit_in, on_transmit}
use Rattle.tora_arq.specs.SendQueue.{ready_run, first_due}
use Rattle.tora_core.specs.Rules.{after_join, new_level, after_erase, after_link_loss, after_update_loss}
use Rattle.tora_life.specs.LifeFile.{slot_bound, number_of, slot_of}
use Rattle.tora_life.specs.Migration.{slot_filled}
use Rattle.tora_life.specs.Tags.{word_of, long_of, tag_read, tag_of}
use Rattle.tora_seat.specs.Serving.{after_cuts_tried, after_broadcast, after_broadcasts, after_step, after_settling, after_input, after_link_item, after_other_item, serving_of}
use Rattle.tora_world.specs.World.{effect_by, world_by}
use Rattle.tora_world.specs.FreeWorld.{after_schedule}
use Rattle.tora_world.proofs.laws.worked_free_events_hold.Goals as goal

pub returns-clause-ticks : goal.returns-clause-ticks
unfolding after_release after_packet after_packets on_data on_matched on_frame_in on_frame after_tick on_submit after_cut on_transmit_in on_transmit ready_run first_due after_join new_level after_erase after_link_loss after_update_loss slot_bound number_of slot_of slot_filled word_of long_of tag_read tag_of after_cuts_tried after_broadcast after_broadcasts after_step after_settling after_input after_link_item after_other_item serving_of effect_by world_by after_schedule height_fault
returns-clause-ticks c = record { ticked = refl; other = refl; clock = refl }

pub returns-clause-pumps : goal.returns-clause-pumps
unfolding after_release after_packet after_packets on_data on_matched on_frame_in on_frame after_tick on_submit after_cut on_transmit_in on_transmit ready_run first_due after_join new_level after_erase after_link_loss after_update_loss slot_bound number_of slot_of slot_filled word_of long_of tag_read tag_of after_cuts_tried after_broadcast after_broadcasts after_step after_settling after_input after_link_item after_other_item serving_of effect_by world_by after_schedule height_fault
returns-clause-pumps c = record { refused = refl; put = refl; polled = refl }

pub returns-clause-puts : goal.returns-clause-puts
unfolding after_release after_packet after_packets on_data on_matched on_frame_in on_frame after_tick on_submit after_cut on_transmit_in on_transmit ready_run first_due after_join new_level after_erase after_link_loss after_update_loss slot_bound number_of slot_of slot_filled word_of long_of tag_read tag_of after_cuts_tried after_broadcast after_broadcasts after_step after_settling after_input after_link_item after_other_item serving_of effect_by world_by after_schedule height_fault
returns-clause-puts c = record { beat = refl; taken = refl; steps = refl }

pub returns-clause-cuts : goal.returns-clause-cuts
unfolding after_release after_packet after_packets on_data on_matched on_frame_in on_frame after_tick on_submit after_cut on_transmit_in on_transmit ready_run first_due after_join new_level after_erase after_link_loss after_update_loss slot_bound number_of slot_of slot_filled word_of long_of tag_read tag_of after_cuts_tried after_broadcast after_broadcasts after_step after_settling after_input after_link_item after_other_item serving_of effect_by world_by after_schedule height_fault
returns-clause-cuts c = record { current = refl; closed = refl; waits = refl; over = refl; down = refl; steps = refl; none = refl }

pub returns-clause-asks : goal.returns-clause-asks
unfolding after_release after_packet after_packets on_data on_matched on_frame_in on_frame after_tick on_submit after_cut on_transmit_in on_transmit ready_run first_due after_join new_level after_erase after_link_loss after_update_loss slot_bound number_of slot_of slot_filled word_of long_of tag_read tag_of after_cuts_tried after_broadcast after_broadcasts after_step after_settling after_input after_link_item after_other_item serving_of effect_by world_by after_schedule height_fault
returns-clause-asks c = record { over = refl; down = refl; steps = refl; cargoes = refl; closed = refl; none = refl }

pub returns-clause-changes : goal.returns-clause-changes
unfolding after_release after_packet after_packets on_data on_matched on_frame_in on_frame after_tick on_submit after_cut on_transmit_in on_transmit ready_run first_due after_join new_level after_erase after_link_loss after_update_loss slot_bound number_of slot_of slot_filled word_of long_of tag_read tag_of after_cuts_tried after_broadcast after_broadcasts after_step after_settling after_input after_link_item after_other_item serving_of effect_by world_by after_schedule height_fault
returns-clause-changes c = record { as_it_was = refl; changed = refl; steps = refl }

pub returns-clause-starts : goal.returns-clause-starts
unfolding after_release after_packet after_packets on_data on_matched on_frame_in on_frame after_tick on_submit after_cut on_transmit_in on_transmit ready_run first_due after_join new_level after_erase after_link_loss after_update_loss slot_bound number_of slot_of slot_filled word_of long_of tag_read tag_of after_cuts_tried after_broadcast after_broadcasts after_step after_settling after_input after_link_item after_other_item serving_of effect_by world_by after_schedule height_fault
returns-clause-starts c = record { closed = refl; over = refl; other = refl; steps = refl; drawn = refl; restarted = refl }
