use Rattle.std.proofs.Common.{List, ◌∷◌, [], ◌++◌, ◌-◌, ◌≡◌, ℕ, Bool, true, false, refl, ap, ap₂, ◌∙◌}
use Rattle.tora_seat.specs.declared.cargo.Cargo.{Cargo}
use Rattle.tora_sim.specs.KeptCargoes.{CargoList, one_if}
use Rattle.tora_sim.proofs.KeptMore.{pushed, pushed_kept}
use Rattle.tora_sim.proofs.store.kept_cargoes.KeptCargoes.push.Goals as goal

pub invariant_of-self : goal.invariant_of-self
invariant_of-self c =
    let s = c.self.inside in
    let origins = c.number_of-number.new.origins.items in (
      pushed_kept s.origins.items origins s.apart.items c.keep-kept.new.apart.items s.cargoes.items c.push.new.self.items c.keep-kept.result c.args.cargo.now
          c.number_of-number.ensures.more c.keep-kept.ensures.more (c.keep-kept.ensures.value origins c.number_of-number.ensures.is)
          (c.keep-kept.ensures.within origins c.number_of-number.ensures.is) c.push.ensures c.self.invariant.0,
      (λ none. absurd cc),
      c.number_of-number.ensures.last,
    )

-- there is no more room after the push
none_left : (spare : Bool) → 0 ≡ one_if spare - 1
none_left true = refl
none_left false = refl

pub returns : goal.returns
returns c =
    let s = c.self.inside in
    let origins = c.number_of-number.new.origins.items in
    ap₂ (λ (items : List Cargo) (n : ℕ). record { items = items; places = n })
    (pushed s.origins.items origins s.apart.items c.keep-kept.new.apart.items s.cargoes.items c.push.new.self.items c.keep-kept.result c.args.cargo.now
    c.number_of-number.ensures.more c.keep-kept.ensures.more (c.keep-kept.ensures.value origins c.number_of-number.ensures.is)
    (c.keep-kept.ensures.within origins c.number_of-number.ensures.is) c.push.ensures c.self.invariant.0)
    (none_left s.spare)
    ∙ ap (λ (v : CargoList). record { items = v.items ++ c.args.cargo.now ∷ []; places = v.places - 1 }) c.self.view_is
