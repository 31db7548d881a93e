-- The lines of datagrams, one after another.
use Rattle.std.proofs.Common.{◌≡◌, ℕ, suc, ◌+◌, ◌-◌, ◌≤◌, Bool, if◌then◌else◌, List, [], ◌++◌, Option, Some, None, is_some, refl, sym, arith, append_assoc}
use Rattle.std.specs.Prelude.{option_map}
use Rattle.std.proofs.lemmas.List.{append-nil}
use Rattle.tora_world.specs.World.{World}
use Rattle.tora_drive.specs.Recording.{cleared}
use Rattle.tora_drive.specs.Records.{sent_of, sent_from}

module _ (w : World) (first : ℕ) where
  -- there is no line yet after the first datagrams
  pub none_sent : (text : List ℕ) → text ≡ text ++ sent_from w first (first - first)
  unfolding sent_from
  none_sent text = let k : first - first ≡ 0 = omega arith in rw k (sym (append-nil text))

  pub next_sent : (i : ℕ) (old text new : List ℕ) → first ≤ i → text ≡ old ++ sent_from w first (i - first) → new ≡ text ++ sent_of w (i + 1) → new ≡ old ++ sent_from w first (i + 1 - first)
  unfolding sent_from
  next_sent i old text new above so_far more =
      let k : i + 1 - first ≡ suc (i - first) = omega arith in
      let at : first + suc (i - first) ≡ i + 1 = omega arith in
      rw (k, at, more, so_far) (append_assoc old (sent_from w first (i - first)) (sent_of w (i + 1)))

-- a record that is emptied, if there is one
pub cleared_so : {V : Type 0} (items : V → List ℕ) (o : Option V) (is : Bool) → is ≡ is_some o → (if is then Some [] else None) ≡ cleared (option_map items o)
cleared_so items None is h = rw h refl
cleared_so items (Some v) is h = rw h refl
