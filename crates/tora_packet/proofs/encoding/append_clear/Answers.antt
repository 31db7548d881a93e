use Rattle.std.proofs.Common.{◌≡◌, ℕ, List, ◌∷◌, ◌++◌, append_assoc}
use Rattle.std.specs.Int.{w32, w64, to_be_bytes}
use Rattle.tora_packet.proofs.encoding.append_clear.Goals as goal

-- three pieces appended to a list, one after another
in_turn : (out a b rest : List ℕ) → ((out ++ a) ++ b) ++ rest ≡ out ++ (a ++ (b ++ rest))
in_turn out a b rest = simp append_assoc

pub returns : goal.returns
returns g c =
    let k = c.args.clear.now in
    let e = in_turn c.args.out.now.items (1 ∷ 3 ∷ 0 ∷ 0 ∷ to_be_bytes w32 k.destination) (to_be_bytes w64 k.tau) (to_be_bytes w32 k.oid) in
    rw (c.put-2.ensures.items, c.put.ensures.items, c.begin.ensures.items, c.to_be_bytes.ensures, c.to_be_bytes-2.ensures, c.destination.ensures.value, c.tau.ensures.value, c.oid.ensures.value) e
