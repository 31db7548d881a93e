use Rattle.std.proofs.Common.{◌≡◌, ℕ, ℤ, sym, ap, ap₂, ◌∙◌, subst, Some, Result, Ok, Err, OkIff, FitsSigned, w8, w32, to_z, of_z}
use Rattle.std.specs.Result.{result_ok}
use Rattle.std.proofs.lemmas.Int.{to_z-of_z}
use Rattle.tora_height.specs.Height.{Quintuple, quintuple}
use Rattle.tora_packet.specs.PacketParts.{UpdateParts, IsUpdate, update_of}
use Rattle.tora_packet.specs.declared.Packet.TheVariants.{Upd}
use Rattle.tora_arq.specs.declared.life.Life.{Life}
use Rattle.tora_seat.specs.declared.cargo.Cargo.TheVariants as Gives
use Rattle.tora_sim.specs.KeptCargoes.{origin_at, tau_of}
use Rattle.tora_sim.proofs.store.kept_cargoes.short_update.Goals as goal

-- a conversion that succeeds keeps the number
fitting : {A E : Type 0} (P : Type 0) (r : Result A E) (x y : A) → OkIff r P x → Some y ≡ result_ok r → P × (y ≡ x)
fitting P (Ok z) x y h e = (let same : y ≡ z = cc in (h.0, same ∙ h.1))
fitting P (Err z) x y h e = absurd cc

-- updates with the same parts are equal
same_update : (u : UpdateParts) (h : Quintuple) (destination tau oid r id : ℕ) (delta : ℤ) → h ≡ u.height → destination ≡ u.destination → tau ≡ h.tau → oid ≡ h.oid → r ≡ h.r → delta ≡ h.delta → id ≡ h.id
    → update_of destination (quintuple tau oid r delta id) ≡ u
same_update u h destination tau oid r id delta height d t o b e i =
    ap (λ n. update_of n (quintuple tau oid r delta id)) d
    ∙ ap (λ n. update_of u.destination (quintuple n oid r delta id)) t
    ∙ ap (λ n. update_of u.destination (quintuple h.tau n r delta id)) o
    ∙ ap (λ n. update_of u.destination (quintuple h.tau h.oid n delta id)) b
    ∙ ap (λ n. update_of u.destination (quintuple h.tau h.oid h.r n id)) e
    ∙ ap (λ n. update_of u.destination (quintuple h.tau h.oid h.r h.delta n)) i
    ∙ ap (λ (q : Quintuple). update_of u.destination q) height

pub returns : goal.returns
returns c life =
    let u = c.args.update.now in
    let destination = fitting _ c.try_from.result _ c.in_ok-destination.destination c.try_from.ensures c.in_ok-destination.ensures.value in
    let oid = fitting _ c.try_from-2.result _ c.in_ok-oid.oid c.try_from-2.ensures c.in_ok-oid.ensures.value in
    let delta = fitting _ c.try_from-3.result _ c.in_ok-delta.delta c.try_from-3.ensures c.in_ok-delta.ensures.value in
    let tau : tau_of c.in_ok-low.low c.in_ok-low.high ≡ c.tau.result = c.in_ok-low.ensures in
    let order : to_z w8 (of_z w8 c.in_ok-delta.delta) ≡ c.height-height.result.delta =
    to_z-of_z w8 c.in_ok-delta.delta (subst (FitsSigned w8) (sym delta.1) delta.0) ∙ delta.1 ∙ to_z-of_z w32 c.delta.result (record { sfits = c.delta.type_inv }) ∙ c.delta.ensures.value in
    let same : (id : ℕ) → id ≡ u.height.id → update_of c.in_ok-destination.destination (quintuple (tau_of c.in_ok-low.low c.in_ok-low.high) c.in_ok-oid.oid c.r.result (to_z w8 (of_z w8 c.in_ok-delta.delta)) id) ≡ u =
    λ id is. same_update u c.height-height.result c.in_ok-destination.destination (tau_of c.in_ok-low.low c.in_ok-low.high) c.in_ok-oid.oid c.r.result id (to_z w8 (of_z w8 c.in_ok-delta.delta))
    c.height-height.ensures.value (destination.1 ∙ c.destination.ensures.value) (tau ∙ c.tau.ensures.value) (oid.1 ∙ c.oid.ensures.value) c.r.ensures.value order (is ∙ sym (ap (λ (q : Quintuple). q.id) c.height-height.ensures.value)) in
    record {
      value = λ origins apart is. ap₂ (λ (l : Life) (v : UpdateParts). Gives.Packet l (Upd v)) is.1.0 (same (origin_at origins c.args.origin).id is.1.1);
      within = λ origins apart is. (is.0, subst IsUpdate (sym (same (origin_at origins c.args.origin).id is.1.1)) c.destination.ensures.valid);
    }
