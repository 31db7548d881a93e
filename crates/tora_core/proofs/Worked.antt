-- The worked examples, by computation.
use Rattle.std.proofs.Common.{refl}
use Rattle.tora_height.specs.Height.{height_fault}
use Rattle.tora_core.specs.Rules.{after_join, new_level, after_erase, after_link_loss, after_update_loss}
use Rattle.tora_core.specs.ShowText.{to_line, via_line}
use Rattle.std.specs.Fmt.{digits}
use Rattle.tora_core.specs.Worked.{WorkedRows}

pub worked_rows : WorkedRows
unfolding digits height_fault after_join new_level after_erase after_link_loss after_update_loss to_line via_line
worked_rows = record {
  query_is_answered_by_the_destinations_neighbour = (refl, refl);
  partition_is_detected_by_the_reflected_level = (refl, refl, refl);
  line_of_four_joins = (refl, refl, refl);
  line_of_four_detects_a_partition = (refl, refl);
  reflection_of_another_node_gives_a_new_level = refl;
  clear_of_a_foreign_level_counts_as_link_failure = (refl, refl, refl);
  fresh_time_passes_a_clock_that_is_behind = refl;
  delta_out_of_range_gives_no_height = (refl, refl);
  told_neighbour_gets_no_second_answer = refl;
  refusals_change_nothing = (refl, refl, refl, refl, refl, refl, refl, refl);
  sends_are_listed_by_destination = refl;
  propagation_takes_the_least_delta = refl;
}
