-- Received bytes, and the datagram that has them.
use Rattle.std.specs.Prelude.{ℕ, zero, suc, ◌==◌, ◌&&◌, Bool, false, nat_le, if◌then◌else◌, codes, List, length, Option}
use Rattle.std.specs.Prelude.{Some}
use Rattle.std.specs.Option.{option_map_or}
use Rattle.std.specs.Result.{result_ok}
use Rattle.hex.specs.Hex.{decode_of}
use Rattle.tora_frame.specs.FrameParts.{FrameParts}
use Rattle.tora_frame.specs.FrameGrammar.{frame_spelling}
use Rattle.tora_lines.specs.Words.{cut, id_of}
use Rattle.tora_lines.specs.Fronts.{after, or_else, ◌>>=◌}
use Rattle.tora_world.specs.declared.event.Event.TheVariants.{Deliver}
use Rattle.tora_world.specs.World.{World, datagram}
use Rattle.tora_script.specs.declared.script_line.SimulationLine.TheVariants.{Happens}
use Rattle.tora_script.specs.SimulationLines.{is_word}
use Rattle.tora_drive.specs.declared.line.DriveLine.{DriveLine}
use Rattle.tora_drive.specs.declared.line.DriveLine.TheVariants.{Script}
use Rattle.tora_drive.specs.DriveLines.{drive_line_of}

-- the datagram was sent from one node to another, and has these bytes
abbrev pub is_sent_so : ℕ → ℕ → List ℕ → FrameParts → Bool
is_sent_so sender receiver bytes f =
    (f.header.sender == sender) && (f.header.receiver == receiver) && is_word bytes (frame_spelling f)

abbrev pub is_sent_at : World → ℕ → ℕ → List ℕ → ℕ → Bool
is_sent_at w sender receiver bytes i = option_map_or (is_sent_so sender receiver bytes) (datagram w i) false

-- the greatest number of such a datagram, at most this number and above those that are forgotten; 0 if there is none
unfoldable pub last_sent : World → ℕ → ℕ → List ℕ → ℕ → ℕ → ℕ
last_sent w sender receiver bytes forgotten zero = 0
last_sent w sender receiver bytes forgotten (suc i) =
    if nat_le (suc i) forgotten then 0
    else if is_sent_at w sender receiver bytes (suc i) then suc i
    else last_sent w sender receiver bytes forgotten i

-- the number of the last datagram from one node to another that has these bytes and is not forgotten; 0 if there is
-- none
abbrev pub number_of_bytes : World → ℕ → ℕ → ℕ → List ℕ → ℕ
number_of_bytes w forgotten sender receiver bytes = last_sent w sender receiver bytes forgotten (length w.datagrams)

-- the rest of a line `take A B HEX` after its word: the receiver, the sender and the bytes. The line is the delivery of
-- the datagram with these bytes.
unfoldable pub taking : World → ℕ → List ℕ → Option DriveLine
taking w forgotten text = do
  a ← cut 32 text
  receiver ← id_of a.0
  b ← cut 32 a.1
  sender ← id_of b.0
  bytes ← result_ok (decode_of b.1)
  Some (Script (Happens (Deliver (number_of_bytes w forgotten sender receiver bytes))))

-- the line with this text, in a world
unfoldable pub line_in : World → ℕ → List ℕ → Option DriveLine
line_in w forgotten text = or_else (after (codes "take ") text) (taking w forgotten) (drive_line_of text)
