-- The settings of a link end.
use Rattle.std.specs.Prelude.{◌≢◌, ℕ, ◌-◌, ◌<◌}
use Rattle.tora_packet.specs.PacketParts.{IsId}
use Rattle.tora_frame.specs.declared.parts.Version.{Version}
use Rattle.tora_arq.specs.declared.times.Times.{Times}
use Rattle.tora_arq.specs.declared.TheConstants.{WINDOW}

-- the newest version that an end speaks, its node, the node at the other end, its times, and its window
pub record Settings : Type 0 where
  pub version : Version
  pub me : ℕ
  pub peer : ℕ
  pub times : Times
  pub window : ℕ

abbrev pub settings_of : Version → ℕ → ℕ → Times → Settings
settings_of version me peer times = record { version = version; me = me; peer = peer; times = times; window = WINDOW }

-- every time is at least 1
pub record IsTimes (t : Times) : Type 0 where
  pub hello : 0 < t.hello
  pub silent : 0 < t.silent
  pub retry : 0 < t.retry
  pub tries : 0 < t.tries

-- two different nodes
pub record IsLink (node neighbour : ℕ) : Type 0 where
  pub me : IsId node
  pub peer : IsId neighbour
  pub other : node ≢ neighbour

-- how many ticks have passed since an earlier tick; 0 if the clock went back
abbrev pub ticks_passed : ℕ → ℕ → ℕ
ticks_passed earlier now = now - earlier
