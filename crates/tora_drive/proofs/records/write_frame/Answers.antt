use Rattle.std.proofs.lemmas.Str.{IsUtf8-from_ascii}
use Rattle.hex.specs.Hex.{lower_digits}
use Rattle.hex.proofs.HexLemmas.{IsAscii-encode_with}
use Rattle.tora_drive.proofs.DigitLaws.{lower_digits_are_ascii}
use Rattle.tora_drive.proofs.records.write_frame.Goals as goal

pub unreachable-requires-in_default-from_utf8 : goal.unreachable-requires-in_default-from_utf8
unreachable-requires-in_default-from_utf8 c =
    c.in_default-from_utf8.ensures.cases.0 (rw c.in-Ok.ensures.written (IsUtf8-from_ascii _ (IsAscii-encode_with lower_digits c.as_slice.result.now lower_digits_are_ascii)))
