use Rattle.tora_script.proofs.ClearLaws.{delivers, nothing_later}
use Rattle.tora_script.proofs.clear.clear_channel_delivers_at_once.Goals as goal

pub returns-clause-now : goal.returns-clause-now
returns-clause-now c parted m i w e = delivers (c.is_clear.ensures.copies (c.is_clear.ensures.value)) parted m e w i

pub returns-clause-later : goal.returns-clause-later
returns-clause-later c parted m count w e = nothing_later (c.is_clear.ensures.copies (c.is_clear.ensures.value)) parted m e w count
