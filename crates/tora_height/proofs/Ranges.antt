-- The ranges of a height, and the checks of its parts.
use Rattle.std.proofs.Common.{◌≡◌, None, arith}
use Rattle.std.proofs.lemmas.Bool.Decides.{nat_tests}
use Rattle.std.proofs.lemmas.Int.{ints}
use Rattle.std.specs.Prelude.{◌<◌, ◌^◌}
use Rattle.tora_height.specs.Height.{Quintuple, IsHeight, height_fault}

-- parts without a fault are a height, if the node numbers fit into 32 bits
pub no_fault_is_height : (h : Quintuple) → h.oid < 2 ^ 32 → h.id < 2 ^ 32 → height_fault h ≡ None → IsHeight h
unfolding height_fault
no_fault_is_height h oid id e =
    record {
      level = record {
        tau = grind (arith, nat_tests, ints);
        oid = oid;
        r = grind (arith, nat_tests, ints);
        zero_tau = λ (z : h.tau ≡ 0). grind (arith, nat_tests, ints);
        zero_oid = λ (z : h.oid ≡ 0). grind (arith, nat_tests, ints);
      };
      delta_low = grind (arith, nat_tests, ints);
      delta_high = grind (arith, nat_tests, ints);
      zero_level = λ (z : h.tau ≡ 0) (y : h.r ≡ 0). grind (arith, nat_tests, ints);
      id = grind (arith, nat_tests, ints);
      id_fits = id;
    }

-- a height has no fault
pub height_has_no_fault : (h : Quintuple) → IsHeight h → height_fault h ≡ None
unfolding height_fault
height_has_no_fault h e = let o = e.level.zero_tau in let p = e.level.zero_oid in let tau = e.level.tau in let r = e.level.r in grind (arith, nat_tests, ints)
