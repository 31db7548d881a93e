-- The tick before which a link end has nothing to do, if there is no other call.
use Rattle.std.specs.Prelude.{◌≡◌, ℕ, ◌-◌, ◌^◌, ◌<◌, nat_le}
use Rattle.tora_arq.specs.Settings.{Settings}
use Rattle.tora_arq.specs.LinkEnd.{EndState}
use Rattle.tora_arq.specs.NextDue.{is_any_due}

-- the greatest tick, 2^64 - 1
abbrev pub last_tick : ℕ
last_tick = 2 ^ 64 - 1

-- before this tick no frame is due and no tick ends the session; at and after this tick, one of the two holds
abbrev pub IsStillUntil : Settings → EndState → ℕ → Type 0
IsStillUntil s e until = (tick : ℕ) → tick < last_tick → nat_le until tick ≡ is_any_due s e tick
