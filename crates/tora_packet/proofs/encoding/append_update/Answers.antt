use Rattle.std.proofs.Common.{◌≡◌, ℕ, List, [], ◌∷◌, ◌++◌, append_assoc}
use Rattle.std.specs.Int.{w32, w64, to_be_bytes, cast_unsigned}
use Rattle.tora_packet.proofs.encoding.append_update.Goals as goal

-- six pieces appended to a list, one after another
in_turn : (out a b d e f rest : List ℕ) → (((((out ++ a) ++ b) ++ d) ++ e) ++ f) ++ rest ≡ out ++ (a ++ (b ++ (d ++ (e ++ (f ++ rest)))))
in_turn out a b d e f rest = simp append_assoc

pub returns : goal.returns
returns g c =
    let u = c.args.update.now in
    let h = u.height in
    let pieces = in_turn c.args.out.now.items (1 ∷ 2 ∷ 0 ∷ 0 ∷ to_be_bytes w32 u.destination) (to_be_bytes w64 h.tau) (to_be_bytes w32 h.oid) (h.r ∷ 0 ∷ 0 ∷ 0 ∷ []) (to_be_bytes w32 (cast_unsigned w32 h.delta)) (to_be_bytes w32 h.id) in
    rw (c.put-4.ensures.items, c.put_delta.ensures.items, c.put-3.ensures.items, c.put-2.ensures.items, c.put.ensures.items, c.begin.ensures.items, c.to_be_bytes-3.ensures, c.to_be_bytes-2.ensures, c.to_be_bytes.ensures, c.destination.ensures.value, c.tau.ensures.value, c.oid.ensures.value, c.r.ensures.value, c.id.ensures.value, c.height-height.ensures.value) pieces
