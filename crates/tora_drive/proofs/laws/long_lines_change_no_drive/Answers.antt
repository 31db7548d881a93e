use Rattle.tora_drive.proofs.RecordedLaws.{long_is_fault, long_is_recorded_fault}
use Rattle.tora_drive.proofs.laws.long_lines_change_no_drive.Goals as goal

pub returns : goal.returns
returns c = record { drives = long_is_fault; recorded = long_is_recorded_fault }
