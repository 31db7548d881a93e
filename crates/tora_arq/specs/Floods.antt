-- Packets that are submitted one after another, with no other call in between.
use Rattle.std.specs.Prelude.{◌≡◌, ℕ, suc, true, false, List, [], ◌∷◌}
use Rattle.tora_packet.specs.declared.Packet.{Packet}
use Rattle.tora_frame.specs.declared.parts.Version.TheVariants.{Two}
use Rattle.tora_frame.specs.declared.parts.Body.TheVariants.{Data}
use Rattle.tora_frame.specs.FrameParts.{FrameParts, batch}
use Rattle.tora_arq.specs.declared.life.Life.{Life}
use Rattle.tora_arq.specs.declared.phase.Phase.TheVariants.{Bound}
use Rattle.tora_arq.specs.Settings.{Settings}
use Rattle.tora_arq.specs.LinkEnd.{EndState, after_submit, is_hello_due, frame_sent}

-- the end after these packets were submitted in a session
abbrev pub after_submits : EndState → Life → List Packet → EndState
after_submits e life [] = e
after_submits e life (packet ∷ packets) = after_submits (after_submit e life packet) life packets

-- the session is bound, the peer is known to speak version 2, the send queue is empty, and no HELLO is due
pub record IsIdle (s : Settings) (e : EndState) (life : Life) (now : ℕ) : Type 0 where
  pub bound : e.phase ≡ Bound life
  pub mark : e.speaks_two ≡ true
  pub none_waits : e.queue ≡ []
  pub no_hello : is_hello_due s e now ≡ false

-- the DATA frame of version 2 with these packets, which are the next ones of the session
abbrev pub flood_frame : Settings → EndState → Life → List Packet → FrameParts
flood_frame s e life packets =
    frame_sent s Two life.own life.peer (Data (suc e.acknowledged) e.accepted (batch packets))
