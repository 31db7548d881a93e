use Rattle.std.proofs.Common.{refl, inl, inr}
use Rattle.std.proofs.lemmas.Bool.{leb-true}
use Rattle.tora_height.specs.Height.{height_fault}
use Rattle.tora_arq.specs.LinkEnd.{after_release, after_packet, after_packets, on_data, on_matched, on_frame_in, on_frame, after_tick, on_submit, after_cut, on_transmit_in, on_transmit}
use Rattle.tora_arq.specs.SendQueue.{ready_run, first_due}
use Rattle.tora_core.specs.Rules.{after_join, new_level, after_erase, after_link_loss, after_update_loss}
use Rattle.tora_seat.specs.Serving.{after_cuts_tried, after_broadcast, after_broadcasts, after_step, after_settling, after_input, after_link_item, after_other_item, serving_of}
use Rattle.tora_router.specs.Router.{after_item, after_first_event}
use Rattle.tora_running.proofs.routers.laws.worked_routers_hold.Goals as goal

pub returns-clause-first : goal.returns-clause-first
unfolding after_release after_packet after_packets on_data on_matched on_frame_in on_frame after_tick on_submit after_cut on_transmit_in on_transmit ready_run first_due after_join new_level after_erase after_link_loss after_update_loss after_cuts_tried after_broadcast after_broadcasts after_step after_settling after_input after_link_item after_other_item serving_of height_fault after_item after_first_event
returns-clause-first c = (refl, tt, (refl, tt, (refl, tt, (refl, tt, (refl, tt, (refl, inl (inr (inl refl)), (refl, tt, (refl, inl (inl refl), (refl, tt, (refl, inl (inr (inr (inl refl))), (refl, tt, (refl, inl (inr (inr (inr (inl refl)))), (refl, inl (inr (inr (inr (inl refl)))), tt)))))))))))))

pub returns-clause-met : goal.returns-clause-met
unfolding after_release after_packet after_packets on_data on_matched on_frame_in on_frame after_tick on_submit after_cut on_transmit_in on_transmit ready_run first_due after_join new_level after_erase after_link_loss after_update_loss after_cuts_tried after_broadcast after_broadcasts after_step after_settling after_input after_link_item after_other_item serving_of height_fault after_item after_first_event
returns-clause-met c = record { sent = refl; taken = refl; hop = refl }

pub returns-clause-second : goal.returns-clause-second
unfolding after_release after_packet after_packets on_data on_matched on_frame_in on_frame after_tick on_submit after_cut on_transmit_in on_transmit ready_run first_due after_join new_level after_erase after_link_loss after_update_loss after_cuts_tried after_broadcast after_broadcasts after_step after_settling after_input after_link_item after_other_item serving_of height_fault after_item after_first_event
returns-clause-second c = (refl, (refl, refl, leb-true _ _ refl), (refl, (refl, refl, leb-true _ _ refl), (refl, tt, (refl, tt, (refl, tt, (refl, inl (inr (inl refl)), (refl, tt, (refl, inl (inr (inr (inr (inr (inl refl))))), (refl, tt, (refl, inl (inr (inl refl)), (refl, tt, (refl, inl (inr (inr (inr (inr (inr (inl refl)))))), (refl, tt, (refl, inl (inr (inr (inr (inr (inr (inr (inl refl))))))), (refl, inl (inr (inr (inr (inr (inr (inr (inl refl))))))), tt)))))))))))))))

pub returns-clause-met_again : goal.returns-clause-met_again
unfolding after_release after_packet after_packets on_data on_matched on_frame_in on_frame after_tick on_submit after_cut on_transmit_in on_transmit ready_run first_due after_join new_level after_erase after_link_loss after_update_loss after_cuts_tried after_broadcast after_broadcasts after_step after_settling after_input after_link_item after_other_item serving_of height_fault after_item after_first_event
returns-clause-met_again c = record { sent = refl; taken = refl; hop = refl }

pub returns-clause-last : goal.returns-clause-last
unfolding after_release after_packet after_packets on_data on_matched on_frame_in on_frame after_tick on_submit after_cut on_transmit_in on_transmit ready_run first_due after_join new_level after_erase after_link_loss after_update_loss after_cuts_tried after_broadcast after_broadcasts after_step after_settling after_input after_link_item after_other_item serving_of height_fault after_item after_first_event
returns-clause-last c = (refl, tt, (refl, tt, tt))

pub returns-clause-left : goal.returns-clause-left
unfolding after_release after_packet after_packets on_data on_matched on_frame_in on_frame after_tick on_submit after_cut on_transmit_in on_transmit ready_run first_due after_join new_level after_erase after_link_loss after_update_loss after_cuts_tried after_broadcast after_broadcasts after_step after_settling after_input after_link_item after_other_item serving_of height_fault after_item after_first_event
returns-clause-left c = record { over = refl; other_over = refl; hop = refl }

pub returns-clause-numbers : goal.returns-clause-numbers
unfolding after_release after_packet after_packets on_data on_matched on_frame_in on_frame after_tick on_submit after_cut on_transmit_in on_transmit ready_run first_due after_join new_level after_erase after_link_loss after_update_loss after_cuts_tried after_broadcast after_broadcasts after_step after_settling after_input after_link_item after_other_item serving_of height_fault after_item after_first_event
returns-clause-numbers c = record { sent = refl; taken = refl }
