use Rattle.std.proofs.Common.{refl}
use Rattle.tora_height.specs.Height.{height_fault}
use Rattle.tora_arq.specs.LinkEnd.{after_release, after_packet, after_packets, on_data, on_matched, on_frame_in, on_frame, after_tick, on_submit, after_cut, on_transmit_in, on_transmit}
use Rattle.tora_arq.specs.SendQueue.{ready_run, first_due}
use Rattle.tora_core.specs.Rules.{after_join, new_level, after_erase, after_link_loss, after_update_loss}
use Rattle.tora_life.specs.LifeFile.{slot_bound, number_of, slot_of}
use Rattle.tora_life.specs.Migration.{slot_filled}
use Rattle.tora_life.specs.Tags.{word_of, long_of, tag_read, tag_of}
use Rattle.tora_seat.specs.Serving.{after_cuts_tried, after_broadcast, after_broadcasts, after_step, after_settling, after_input, after_link_item, after_other_item, serving_of}
use Rattle.tora_world.specs.World.{effect_by, world_by}
use Rattle.tora_world.specs.FreeWorld.{after_schedule}
use Rattle.tora_world.proofs.table.worked_rows_of_the_table_hold.Goals as goal

pub returns-clause-pulls : goal.returns-clause-pulls
unfolding after_release after_packet after_packets on_data on_matched on_frame_in on_frame after_tick on_submit after_cut on_transmit_in on_transmit ready_run first_due after_join new_level after_erase after_link_loss after_update_loss slot_bound number_of slot_of slot_filled word_of long_of tag_read tag_of after_cuts_tried after_broadcast after_broadcasts after_step after_settling after_input after_link_item after_other_item serving_of effect_by world_by after_schedule height_fault
returns-clause-pulls c = record { cut = refl; other_cut = refl; packet = refl; other_packet = refl }

pub returns-clause-crashes : goal.returns-clause-crashes
unfolding after_release after_packet after_packets on_data on_matched on_frame_in on_frame after_tick on_submit after_cut on_transmit_in on_transmit ready_run first_due after_join new_level after_erase after_link_loss after_update_loss slot_bound number_of slot_of slot_filled word_of long_of tag_read tag_of after_cuts_tried after_broadcast after_broadcasts after_step after_settling after_input after_link_item after_other_item serving_of effect_by world_by after_schedule height_fault
returns-clause-crashes c = record { torn = refl; as_before = refl; send_armed = refl; receive_armed = refl; write_armed = refl; not_read = refl; read_again = refl }

pub returns-clause-pumps : goal.returns-clause-pumps
unfolding after_release after_packet after_packets on_data on_matched on_frame_in on_frame after_tick on_submit after_cut on_transmit_in on_transmit ready_run first_due after_join new_level after_erase after_link_loss after_update_loss slot_bound number_of slot_of slot_filled word_of long_of tag_read tag_of after_cuts_tried after_broadcast after_broadcasts after_step after_settling after_input after_link_item after_other_item serving_of effect_by world_by after_schedule height_fault
returns-clause-pumps c = record { room = refl; no_room = refl; item = refl }

pub returns-clause-tries : goal.returns-clause-tries
unfolding after_release after_packet after_packets on_data on_matched on_frame_in on_frame after_tick on_submit after_cut on_transmit_in on_transmit ready_run first_due after_join new_level after_erase after_link_loss after_update_loss slot_bound number_of slot_of slot_filled word_of long_of tag_read tag_of after_cuts_tried after_broadcast after_broadcasts after_step after_settling after_input after_link_item after_other_item serving_of effect_by world_by after_schedule height_fault
returns-clause-tries c = record { before = refl; lost = refl; none_sent = refl }

pub returns-clause-rooms : goal.returns-clause-rooms
unfolding after_release after_packet after_packets on_data on_matched on_frame_in on_frame after_tick on_submit after_cut on_transmit_in on_transmit ready_run first_due after_join new_level after_erase after_link_loss after_update_loss slot_bound number_of slot_of slot_filled word_of long_of tag_read tag_of after_cuts_tried after_broadcast after_broadcasts after_step after_settling after_input after_link_item after_other_item serving_of effect_by world_by after_schedule height_fault
returns-clause-rooms c = record { both = refl; stays = refl; one = refl; ends = refl }

pub returns-clause-ticks : goal.returns-clause-ticks
unfolding after_release after_packet after_packets on_data on_matched on_frame_in on_frame after_tick on_submit after_cut on_transmit_in on_transmit ready_run first_due after_join new_level after_erase after_link_loss after_update_loss slot_bound number_of slot_of slot_filled word_of long_of tag_read tag_of after_cuts_tried after_broadcast after_broadcasts after_step after_settling after_input after_link_item after_other_item serving_of effect_by world_by after_schedule height_fault
returns-clause-ticks c = record { first = refl; second = refl; not_before = refl }

pub returns-clause-meetings : goal.returns-clause-meetings
unfolding after_release after_packet after_packets on_data on_matched on_frame_in on_frame after_tick on_submit after_cut on_transmit_in on_transmit ready_run first_due after_join new_level after_erase after_link_loss after_update_loss slot_bound number_of slot_of slot_filled word_of long_of tag_read tag_of after_cuts_tried after_broadcast after_broadcasts after_step after_settling after_input after_link_item after_other_item serving_of effect_by world_by after_schedule height_fault
returns-clause-meetings c = record { accepted = refl; unknown = refl; acknowledged = refl; exact = refl; walk = refl }
