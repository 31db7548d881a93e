use Rattle.std.proofs.Common.{refl}
use Rattle.tora_height.specs.Height.{height_fault}
use Rattle.tora_arq.specs.LinkEnd.{after_release, after_packet, after_packets, on_data, on_matched, on_frame_in, on_frame, after_tick, on_submit, after_cut, on_transmit_in, on_transmit}
use Rattle.tora_arq.specs.SendQueue.{ready_run, first_due}
use Rattle.tora_core.specs.Rules.{after_join, new_level, after_erase, after_link_loss, after_update_loss}
use Rattle.tora_life.specs.LifeFile.{slot_bound, number_of, slot_of}
use Rattle.tora_life.specs.Migration.{slot_filled}
use Rattle.tora_life.specs.Tags.{word_of, long_of, tag_read, tag_of}
use Rattle.tora_seat.specs.Serving.{after_cuts_tried, after_broadcast, after_broadcasts, after_step, after_settling, after_input, after_link_item, after_other_item, serving_of}
use Rattle.tora_world.specs.World.{effect_by, world_by}
use Rattle.tora_world.specs.FreeWorld.{after_schedule}
use Rattle.tora_world.proofs.laws.worked_schedules_hold.Goals as goal

pub returns-clause-broadcast : goal.returns-clause-broadcast
unfolding after_release after_packet after_packets on_data on_matched on_frame_in on_frame after_tick on_submit after_cut on_transmit_in on_transmit ready_run first_due after_join new_level after_erase after_link_loss after_update_loss slot_bound number_of slot_of slot_filled word_of long_of tag_read tag_of after_cuts_tried after_broadcast after_broadcasts after_step after_settling after_input after_link_item after_other_item serving_of effect_by world_by after_schedule height_fault
returns-clause-broadcast c = refl

pub returns-clause-sent : goal.returns-clause-sent
unfolding after_release after_packet after_packets on_data on_matched on_frame_in on_frame after_tick on_submit after_cut on_transmit_in on_transmit ready_run first_due after_join new_level after_erase after_link_loss after_update_loss slot_bound number_of slot_of slot_filled word_of long_of tag_read tag_of after_cuts_tried after_broadcast after_broadcasts after_step after_settling after_input after_link_item after_other_item serving_of effect_by world_by after_schedule height_fault
returns-clause-sent c = refl

pub returns-clause-taken : goal.returns-clause-taken
unfolding after_release after_packet after_packets on_data on_matched on_frame_in on_frame after_tick on_submit after_cut on_transmit_in on_transmit ready_run first_due after_join new_level after_erase after_link_loss after_update_loss slot_bound number_of slot_of slot_filled word_of long_of tag_read tag_of after_cuts_tried after_broadcast after_broadcasts after_step after_settling after_input after_link_item after_other_item serving_of effect_by world_by after_schedule height_fault
returns-clause-taken c = refl

pub returns-clause-steps : goal.returns-clause-steps
unfolding after_release after_packet after_packets on_data on_matched on_frame_in on_frame after_tick on_submit after_cut on_transmit_in on_transmit ready_run first_due after_join new_level after_erase after_link_loss after_update_loss slot_bound number_of slot_of slot_filled word_of long_of tag_read tag_of after_cuts_tried after_broadcast after_broadcasts after_step after_settling after_input after_link_item after_other_item serving_of effect_by world_by after_schedule height_fault
returns-clause-steps c = refl

pub returns-clause-restart : goal.returns-clause-restart
unfolding after_release after_packet after_packets on_data on_matched on_frame_in on_frame after_tick on_submit after_cut on_transmit_in on_transmit ready_run first_due after_join new_level after_erase after_link_loss after_update_loss slot_bound number_of slot_of slot_filled word_of long_of tag_read tag_of after_cuts_tried after_broadcast after_broadcasts after_step after_settling after_input after_link_item after_other_item serving_of effect_by world_by after_schedule height_fault
returns-clause-restart c = refl

pub returns-clause-broadcast_all_the_same : goal.returns-clause-broadcast_all_the_same
unfolding after_release after_packet after_packets on_data on_matched on_frame_in on_frame after_tick on_submit after_cut on_transmit_in on_transmit ready_run first_due after_join new_level after_erase after_link_loss after_update_loss slot_bound number_of slot_of slot_filled word_of long_of tag_read tag_of after_cuts_tried after_broadcast after_broadcasts after_step after_settling after_input after_link_item after_other_item serving_of effect_by world_by after_schedule height_fault
returns-clause-broadcast_all_the_same c = refl

pub returns-clause-none_sent : goal.returns-clause-none_sent
unfolding after_release after_packet after_packets on_data on_matched on_frame_in on_frame after_tick on_submit after_cut on_transmit_in on_transmit ready_run first_due after_join new_level after_erase after_link_loss after_update_loss slot_bound number_of slot_of slot_filled word_of long_of tag_read tag_of after_cuts_tried after_broadcast after_broadcasts after_step after_settling after_input after_link_item after_other_item serving_of effect_by world_by after_schedule height_fault
returns-clause-none_sent c = refl

pub returns-clause-not_current : goal.returns-clause-not_current
unfolding after_release after_packet after_packets on_data on_matched on_frame_in on_frame after_tick on_submit after_cut on_transmit_in on_transmit ready_run first_due after_join new_level after_erase after_link_loss after_update_loss slot_bound number_of slot_of slot_filled word_of long_of tag_read tag_of after_cuts_tried after_broadcast after_broadcasts after_step after_settling after_input after_link_item after_other_item serving_of effect_by world_by after_schedule height_fault
returns-clause-not_current c = refl

pub returns-clause-cut : goal.returns-clause-cut
unfolding after_release after_packet after_packets on_data on_matched on_frame_in on_frame after_tick on_submit after_cut on_transmit_in on_transmit ready_run first_due after_join new_level after_erase after_link_loss after_update_loss slot_bound number_of slot_of slot_filled word_of long_of tag_read tag_of after_cuts_tried after_broadcast after_broadcasts after_step after_settling after_input after_link_item after_other_item serving_of effect_by world_by after_schedule height_fault
returns-clause-cut c = refl

pub returns-clause-down : goal.returns-clause-down
unfolding after_release after_packet after_packets on_data on_matched on_frame_in on_frame after_tick on_submit after_cut on_transmit_in on_transmit ready_run first_due after_join new_level after_erase after_link_loss after_update_loss slot_bound number_of slot_of slot_filled word_of long_of tag_read tag_of after_cuts_tried after_broadcast after_broadcasts after_step after_settling after_input after_link_item after_other_item serving_of effect_by world_by after_schedule height_fault
returns-clause-down c = refl

pub returns-clause-closed : goal.returns-clause-closed
unfolding after_release after_packet after_packets on_data on_matched on_frame_in on_frame after_tick on_submit after_cut on_transmit_in on_transmit ready_run first_due after_join new_level after_erase after_link_loss after_update_loss slot_bound number_of slot_of slot_filled word_of long_of tag_read tag_of after_cuts_tried after_broadcast after_broadcasts after_step after_settling after_input after_link_item after_other_item serving_of effect_by world_by after_schedule height_fault
returns-clause-closed c = refl

pub returns-clause-ended : goal.returns-clause-ended
unfolding after_release after_packet after_packets on_data on_matched on_frame_in on_frame after_tick on_submit after_cut on_transmit_in on_transmit ready_run first_due after_join new_level after_erase after_link_loss after_update_loss slot_bound number_of slot_of slot_filled word_of long_of tag_read tag_of after_cuts_tried after_broadcast after_broadcasts after_step after_settling after_input after_link_item after_other_item serving_of effect_by world_by after_schedule height_fault
returns-clause-ended c = refl

pub returns-clause-again : goal.returns-clause-again
unfolding after_release after_packet after_packets on_data on_matched on_frame_in on_frame after_tick on_submit after_cut on_transmit_in on_transmit ready_run first_due after_join new_level after_erase after_link_loss after_update_loss slot_bound number_of slot_of slot_filled word_of long_of tag_read tag_of after_cuts_tried after_broadcast after_broadcasts after_step after_settling after_input after_link_item after_other_item serving_of effect_by world_by after_schedule height_fault
returns-clause-again c = refl

pub returns-clause-sent_again : goal.returns-clause-sent_again
unfolding after_release after_packet after_packets on_data on_matched on_frame_in on_frame after_tick on_submit after_cut on_transmit_in on_transmit ready_run first_due after_join new_level after_erase after_link_loss after_update_loss slot_bound number_of slot_of slot_filled word_of long_of tag_read tag_of after_cuts_tried after_broadcast after_broadcasts after_step after_settling after_input after_link_item after_other_item serving_of effect_by world_by after_schedule height_fault
returns-clause-sent_again c = refl

pub returns-clause-taken_again : goal.returns-clause-taken_again
unfolding after_release after_packet after_packets on_data on_matched on_frame_in on_frame after_tick on_submit after_cut on_transmit_in on_transmit ready_run first_due after_join new_level after_erase after_link_loss after_update_loss slot_bound number_of slot_of slot_filled word_of long_of tag_read tag_of after_cuts_tried after_broadcast after_broadcasts after_step after_settling after_input after_link_item after_other_item serving_of effect_by world_by after_schedule height_fault
returns-clause-taken_again c = refl

pub returns-clause-taken_before : goal.returns-clause-taken_before
unfolding after_release after_packet after_packets on_data on_matched on_frame_in on_frame after_tick on_submit after_cut on_transmit_in on_transmit ready_run first_due after_join new_level after_erase after_link_loss after_update_loss slot_bound number_of slot_of slot_filled word_of long_of tag_read tag_of after_cuts_tried after_broadcast after_broadcasts after_step after_settling after_input after_link_item after_other_item serving_of effect_by world_by after_schedule height_fault
returns-clause-taken_before c = refl

pub returns-clause-asked : goal.returns-clause-asked
unfolding after_release after_packet after_packets on_data on_matched on_frame_in on_frame after_tick on_submit after_cut on_transmit_in on_transmit ready_run first_due after_join new_level after_erase after_link_loss after_update_loss slot_bound number_of slot_of slot_filled word_of long_of tag_read tag_of after_cuts_tried after_broadcast after_broadcasts after_step after_settling after_input after_link_item after_other_item serving_of effect_by world_by after_schedule height_fault
returns-clause-asked c = refl
