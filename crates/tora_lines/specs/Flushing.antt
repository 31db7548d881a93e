-- The result of a run whose output is flushed at the end.
use Rattle.std.specs.Prelude.{Bool, true, false, Result, Ok, Err}
use Rattle.tora_lines.specs.declared.ended.Ended.{Ended}
use Rattle.tora_lines.specs.declared.ended.ReplayError.{ReplayError}
use Rattle.tora_lines.specs.declared.ended.ReplayError.TheVariants.{Write}

-- the result of a run, by the success of the flush at its end and its result before the flush
abbrev pub after_flush : Bool → Result Ended ReplayError → Result Ended ReplayError
after_flush true ended = ended
after_flush false (Ok ended) = Err Write
after_flush false (Err error) = Err error
