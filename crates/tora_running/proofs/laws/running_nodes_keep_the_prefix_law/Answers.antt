use Rattle.tora_running.specs.Network.{first_network, after_parts}
use Rattle.tora_running.proofs.NodeHistories.{hears}
use Rattle.tora_running.proofs.RunsOfParts.{binds_once}
use Rattle.tora_running.proofs.WorldLaws.{taken_begins_sent}
use Rattle.tora_running.proofs.laws.running_nodes_keep_the_prefix_law.Goals as goal

pub returns-clause-prefix : goal.returns-clause-prefix
returns-clause-prefix c = λ t times parts run. taken_begins_sent c.prefix_law.ensures.prefix t times (after_parts parts (first_network t times)) (c.running_nodes_are_a_world.ensures t times parts run)

pub returns-clause-once : goal.returns-clause-once
returns-clause-once c = binds_once (record { first = c.drawn_life_numbers_rise.ensures.first; any = c.life_files_become_what_crashes_leave.ensures.any }) (record { sent = c.data_frames_are_what_was_submitted.ensures.frame; foreign = c.refused_frames_change_nothing.ensures.foreign; busy = c.refused_frames_change_nothing.ensures.busy; stale = c.refused_frames_change_nothing.ensures.stale }) c.prefix_law.ensures.once

pub returns-clause-heard : goal.returns-clause-heard
returns-clause-heard c = λ me peer fault tally run. hears me peer fault tally run
