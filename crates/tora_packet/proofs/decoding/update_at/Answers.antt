use Rattle.std.proofs.Common.{◌≡◌, sym, ap, Bool, true, false, Result, Ok, Err, arith}
use Rattle.std.specs.Prelude.{MatchBool}
use Rattle.tora_packet.specs.declared.PacketError.{PacketError}
use Rattle.tora_packet.specs.declared.PacketError.TheVariants.{Height}
use Rattle.tora_packet.specs.declared.Packet.{Packet}
use Rattle.tora_packet.specs.declared.Packet.TheVariants.{Upd}
use Rattle.tora_packet.specs.PacketParts.{UpdateParts}
use Rattle.tora_packet.specs.PacketGrammar.{height_at}
use Rattle.tora_packet.proofs.Fields.{made_is, passed}
use Rattle.tora_packet.proofs.decoding.update_at.Goals as goal

-- the packet of an update that was decoded
packet-Ok : (bad : Bool) (r : Result UpdateParts PacketError) (u v : UpdateParts) → MatchBool bad (r ≡ Err Height) (r ≡ Ok v) → r ≡ Ok u
    → MatchBool bad (◌≡◌ {A = Result Packet PacketError} (Ok (Upd u)) (Err Height)) (◌≡◌ {A = Result Packet PacketError} (Ok (Upd u)) (Ok (Upd v)))
packet-Ok true r u v m is = absurd cc
packet-Ok false r u v m is = let same : u ≡ v = cc in ap (λ (w : UpdateParts). Ok (Upd w)) same

packet-Err : (bad : Bool) (r : Result UpdateParts PacketError) (e : PacketError) (v : UpdateParts) → MatchBool bad (r ≡ Err Height) (r ≡ Ok v) → r ≡ Err e
    → MatchBool bad (◌≡◌ {A = Result Packet PacketError} (Err e) (Err Height)) (◌≡◌ {A = Result Packet PacketError} (Err e) (Ok (Upd v)))
packet-Err true r e v m is = let same : e ≡ Height = cc in ap (λ (w : PacketError). Err w) same
packet-Err false r e v m is = absurd cc

pub returns-in-Ok-new-clause-exact : goal.returns-in-Ok-new-clause-exact
returns-in-Ok-new-clause-exact c =
    let d = passed c.u32_at.result c.cast_signed-delta.result c.cast_signed-delta.ensures (omega arith) in
    let h = rw (d, c.u32_at.ensures, c.u64_at-tau.ensures, c.u32_at-oid.ensures, c.u32_at-id.ensures) at c.in-Ok.ensures.exact in
    let e = made_is (height_at c.args.bytes.now) c.in-Ok.height h in
    rw (sym e, sym c.u32_at-2.ensures) (packet-Ok _ c.new-2.result c.in-Ok-new.update _ c.new-2.ensures.exact c.in-Ok-new.is)

pub returns-in-Err-clause-exact : goal.returns-in-Err-clause-exact
returns-in-Err-clause-exact c =
    let d = passed c.u32_at.result c.cast_signed-delta.result c.cast_signed-delta.ensures (omega arith) in
    let h = rw (d, c.u32_at.ensures, c.u64_at-tau.ensures, c.u32_at-oid.ensures, c.u32_at-id.ensures) at c.in-Ok.ensures.exact in
    let e = made_is (height_at c.args.bytes.now) c.in-Ok.height h in
    rw (sym e, sym c.u32_at-2.ensures) (packet-Err _ c.new-2.result c.in-Err.error _ c.new-2.ensures.exact c.in-Err.is)
