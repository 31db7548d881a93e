-- Computed heights that are in range.
use Rattle.std.proofs.Common.{◌≡◌, ap, ℕ, pos, Some, arith}
use Rattle.std.proofs.lemmas.Int.{ints}
use Rattle.tora_height.specs.declared.level.Level.{Level}
use Rattle.tora_height.specs.Height.{Quintuple, quintuple, IsLevel, IsHeight}
use Rattle.tora_height.proofs.Ranges.{height_has_no_fault}
use Rattle.tora_packet.specs.PacketParts.{IsId}
use Rattle.tora_core.specs.Heights.{fitted_by, fitted_height}

pub fitted_height-in_range : (h : Quintuple) → IsHeight h → fitted_height h ≡ Some h
fitted_height-in_range h ok = ap (fitted_by h) (height_has_no_fault h ok)

-- the reflection of a level in range gives a height in range
pub reflected-in_range : (l : Level) (me : ℕ) → IsLevel l → IsId me → IsHeight (quintuple l.tau l.oid 1 (pos 0) me)
reflected-in_range l me ok id =
    record {
      level = record { tau = ok.tau; oid = ok.oid; r = omega arith; zero_tau = ok.zero_tau; zero_oid = ok.zero_oid };
      delta_low = omega (arith, ints);
      delta_high = omega (arith, ints);
      zero_level = λ _ _. omega (arith, ints);
      id = id.0;
      id_fits = id.1;
    }
