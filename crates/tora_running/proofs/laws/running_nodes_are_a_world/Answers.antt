use Rattle.tora_running.proofs.RunsOfParts.{is_of_world}
use Rattle.tora_running.proofs.laws.running_nodes_are_a_world.Goals as goal

pub returns : goal.returns
returns c = λ t times parts run. is_of_world (record { first = c.drawn_life_numbers_rise.ensures.first; any = c.life_files_become_what_crashes_leave.ensures.any }) (record { sent = c.data_frames_are_what_was_submitted.ensures.frame; foreign = c.refused_frames_change_nothing.ensures.foreign; busy = c.refused_frames_change_nothing.ensures.busy; stale = c.refused_frames_change_nothing.ensures.stale }) t times parts run
