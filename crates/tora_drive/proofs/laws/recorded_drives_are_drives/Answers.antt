use Rattle.tora_drive.proofs.RecordedLaws.{recorded_are_drives, no_notice, recorded_are_runs}
use Rattle.tora_drive.proofs.laws.recorded_drives_are_drives.Goals as goal

pub returns-clause-drives : goal.returns-clause-drives
returns-clause-drives c = recorded_are_drives

pub returns-clause-silent : goal.returns-clause-silent
returns-clause-silent c = no_notice

pub returns-clause-events : goal.returns-clause-events
returns-clause-events c = recorded_are_runs
