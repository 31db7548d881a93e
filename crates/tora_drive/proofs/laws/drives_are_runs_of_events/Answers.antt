use Rattle.std.proofs.Common.{◌≡◌, ℕ, Some}
use Rattle.tora_height.specs.Height.{Quintuple}
use Rattle.tora_world.specs.World.{World}
use Rattle.tora_world.specs.Walks.{height_at, IsExact, Arrives}
use Rattle.tora_drive.proofs.RunLaws.{drives_are_runs}
use Rattle.tora_drive.proofs.ScheduleLaws.{are_schedules, drives_keep_the_prefix_law, drives_keep_the_no_gap_law, drives_keep_laws_of_worlds}
use Rattle.tora_drive.proofs.laws.drives_are_runs_of_events.Goals as goal

pub returns-clause-events : goal.returns-clause-events
returns-clause-events c = drives_are_runs

pub returns-clause-schedules : goal.returns-clause-schedules
returns-clause-schedules c = are_schedules

pub returns-clause-prefix : goal.returns-clause-prefix
returns-clause-prefix c = drives_keep_the_prefix_law c.prefix_law.ensures.prefix

pub returns-clause-gapless : goal.returns-clause-gapless
returns-clause-gapless c = drives_keep_the_no_gap_law c.no_gap_law.ensures.gapless

pub returns-clause-walks : goal.returns-clause-walks
returns-clause-walks c =
    drives_keep_laws_of_worlds (λ (w : World). (d n : ℕ) (height : Quintuple) → IsExact w d → height_at w n d ≡ Some (Some height) → Arrives w n d) c.exact_entries_give_walks.ensures.walks
