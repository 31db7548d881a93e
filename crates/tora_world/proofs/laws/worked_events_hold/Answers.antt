use Rattle.std.proofs.Common.{refl}
use Rattle.tora_height.specs.Height.{height_fault}
use Rattle.tora_arq.specs.LinkEnd.{after_release, after_packet, after_packets, on_data, on_matched, on_frame_in, on_frame, after_tick, on_submit, after_cut, on_transmit_in, on_transmit}
use Rattle.tora_arq.specs.SendQueue.{ready_run, first_due}
use Rattle.tora_core.specs.Rules.{after_join, new_level, after_erase, after_link_loss, after_update_loss}
use Rattle.tora_life.specs.LifeFile.{slot_bound, number_of, slot_of}
use Rattle.tora_life.specs.Migration.{slot_filled}
use Rattle.tora_life.specs.Tags.{word_of, long_of, tag_read, tag_of}
use Rattle.tora_seat.specs.Serving.{after_cuts_tried, after_broadcast, after_broadcasts, after_step, after_settling, after_input, after_link_item, after_other_item, serving_of}
use Rattle.tora_world.specs.World.{effect_by, world_by}
use Rattle.tora_world.specs.FreeWorld.{after_schedule}
use Rattle.tora_world.proofs.laws.worked_events_hold.Goals as goal

pub returns-clause-armed : goal.returns-clause-armed
unfolding after_release after_packet after_packets on_data on_matched on_frame_in on_frame after_tick on_submit after_cut on_transmit_in on_transmit ready_run first_due after_join new_level after_erase after_link_loss after_update_loss slot_bound number_of slot_of slot_filled word_of long_of tag_read tag_of after_cuts_tried after_broadcast after_broadcasts after_step after_settling after_input after_link_item after_other_item serving_of effect_by world_by after_schedule height_fault
returns-clause-armed c = record { lost = record { none = refl; used = refl }; gone = refl; not_received = refl; received = refl; not_written = refl; not_synced = refl }

pub returns-clause-lanes : goal.returns-clause-lanes
unfolding after_release after_packet after_packets on_data on_matched on_frame_in on_frame after_tick on_submit after_cut on_transmit_in on_transmit ready_run first_due after_join new_level after_erase after_link_loss after_update_loss slot_bound number_of slot_of slot_filled word_of long_of tag_read tag_of after_cuts_tried after_broadcast after_broadcasts after_step after_settling after_input after_link_item after_other_item serving_of effect_by world_by after_schedule height_fault
returns-clause-lanes c = record { put = refl; handed_back = refl; room = refl; no_room = refl; needs = refl; clock = refl }

pub returns-clause-refused : goal.returns-clause-refused
unfolding after_release after_packet after_packets on_data on_matched on_frame_in on_frame after_tick on_submit after_cut on_transmit_in on_transmit ready_run first_due after_join new_level after_erase after_link_loss after_update_loss slot_bound number_of slot_of slot_filled word_of long_of tag_read tag_of after_cuts_tried after_broadcast after_broadcasts after_step after_settling after_input after_link_item after_other_item serving_of effect_by world_by after_schedule height_fault
returns-clause-refused c = record { no_node = refl; no_link = refl; no_datagram = refl; no_first_datagram = refl; not_closed = refl; no_cargo = refl; no_frame = refl; no_event = refl; no_item = refl }

pub returns-clause-anew : goal.returns-clause-anew
unfolding after_release after_packet after_packets on_data on_matched on_frame_in on_frame after_tick on_submit after_cut on_transmit_in on_transmit ready_run first_due after_join new_level after_erase after_link_loss after_update_loss slot_bound number_of slot_of slot_filled word_of long_of tag_read tag_of after_cuts_tried after_broadcast after_broadcasts after_step after_settling after_input after_link_item after_other_item serving_of effect_by world_by after_schedule height_fault
returns-clause-anew c = record { current_before = refl; cargo_before = refl; items_before = refl; seat = refl; endpoint = refl; cargoes = refl; items = refl; counts = refl; sent = refl; taken = refl }
