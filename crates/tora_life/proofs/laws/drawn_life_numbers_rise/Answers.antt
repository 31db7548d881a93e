use Rattle.tora_life.proofs.Runs.{fresh_floor, keeps_floor, draws_above, crash_left_by, one_number, rises}
use Rattle.tora_life.proofs.laws.drawn_life_numbers_rise.Goals as goal

pub returns : goal.returns
returns c = record {
  rise = λ owner file events fits run. rises _ _ events (fresh_floor owner file fits) run;
  first = fresh_floor;
  draw = draws_above;
  keep = keeps_floor;
  one = one_number;
  crash = crash_left_by;
}
