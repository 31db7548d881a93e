-- The first HELLO of an end that speaks version 2, and a frame that arrives before its HELLO of version 1.
use Rattle.tora_frame.specs.declared.parts.Body.TheVariants.{Hello}
use Rattle.tora_frame.specs.declared.parts.Version.TheVariants.{One, Two}
use Rattle.tora_frame.specs.FrameParts.{FrameParts, frame_of}
use Rattle.tora_arq.specs.Settings.{Settings, settings_of}
use Rattle.tora_arq.specs.LinkEnd.{EndState, first_end, after_open, after_frame, after_transmit}

-- the settings of node 1 for its link to node 2
abbrev pub worked_settings : Settings
worked_settings = settings_of Two 1 2 (record { hello = 10; silent = 50; retry = 5; tries = 8 })

-- the end is opened with 5, and sends its HELLO of version 2
abbrev pub given_hello : EndState
given_hello = after_transmit worked_settings (after_open first_end 5 0) 0

-- a HELLO of version 1 of node 2, which has heard nothing
abbrev pub other_hello : FrameParts
other_hello = frame_of (record { version = One; sender = 2; receiver = 1; life = 9; heard = 0 }) Hello

abbrev pub behind_hello : EndState
behind_hello = after_frame worked_settings given_hello other_hello 0
