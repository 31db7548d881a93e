use Rattle.std.proofs.Common.{sym, ◌∙◌}
use Rattle.tora_frame.proofs.FrameLaws.{frame_reading-frame_spelling, prefix_free}
use Rattle.tora_frame.proofs.decoding.one_frame_spelling.Goals as goal

pub returns-clause-one : goal.returns-clause-one
returns-clause-one c = λ a b f s t. s.bytes_are ∙ sym t.bytes_are

pub returns-clause-read : goal.returns-clause-read
returns-clause-read c = frame_reading-frame_spelling

pub returns-clause-prefix_free : goal.returns-clause-prefix_free
returns-clause-prefix_free c = prefix_free
