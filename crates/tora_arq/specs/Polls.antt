-- Repeated polls for a frame at one tick.
use Rattle.std.specs.Prelude.{ℕ, zero, suc, List, [], ◌++◌}
use Rattle.tora_frame.specs.FrameParts.{FrameParts}
use Rattle.tora_arq.specs.Settings.{Settings}
use Rattle.tora_arq.specs.LinkEnd.{EndState, frame_due, after_transmit}
use Rattle.tora_arq.specs.LinkFacts.{list_of}

-- the end after this many polls
abbrev pub after_polls : Settings → EndState → ℕ → ℕ → EndState
after_polls s e now zero = e
after_polls s e now (suc n) = after_polls s (after_transmit s e now) now n

-- the frames that this many polls return
abbrev pub frames_polled : Settings → EndState → ℕ → ℕ → List FrameParts
frames_polled s e now zero = []
frames_polled s e now (suc n) = list_of (frame_due s e now) ++ frames_polled s (after_transmit s e now) now n
