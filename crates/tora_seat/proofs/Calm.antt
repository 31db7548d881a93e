-- Offers do not change the core and the inputs that it accepted; and the effect of an accepted input.
use Rattle.std.proofs.Common.{◌≡◌, ℕ, List, [], ◌∷◌, Option, Some, None, refl, ap, ◌∙◌}
use Rattle.std.proofs.lemmas.Bool.{cond_both}
use Rattle.tora_packet.specs.declared.Packet.{Packet}
use Rattle.tora_arq.specs.declared.life.Life.{Life}
use Rattle.tora_core.specs.declared.Input.{Input}
use Rattle.tora_core.specs.CoreRun.{CoreView, refusal_of, core_after, sends_of}
use Rattle.tora_seat.specs.Serving.{Serving, Answers, after_cut_tried, after_cuts_tried, after_sent, after_broadcast, after_broadcasts, accepting, after_answer, after_step}

pub record Calm (v v' : Serving) : Type 0 where
  pub core : v'.seat.core ≡ v.seat.core
  pub inputs : v'.inputs ≡ v.inputs

calm_by : (v v' v'' : Serving) → Calm v v' → Calm v' v'' → Calm v v''
calm_by v v' v'' a b = record { core = b.core ∙ a.core; inputs = b.inputs ∙ a.inputs }

module _ (answers : Answers) where
  calm_sent : (p : Packet) (v : Serving) (j : ℕ) (cur : Option Life) → Calm v (after_sent answers p v j cur)
  calm_sent p v j None = record { core = refl; inputs = refl }
  calm_sent p v j (Some l) = cond_both (answers v.offers j) _ _ (Calm v) (λ _. record { core = refl; inputs = refl }) (λ _. record { core = refl; inputs = refl })

  calm_broadcast : (p : Packet) (js : List ℕ) (v : Serving) → Calm v (after_broadcast answers p js v)
  unfolding after_broadcast
  calm_broadcast p [] v = record { core = refl; inputs = refl }
  calm_broadcast p (j ∷ js) v = calm_by v (after_sent answers p v j (v.seat.current j)) (after_broadcast answers p js (after_sent answers p v j (v.seat.current j))) (calm_sent p v j (v.seat.current j)) (calm_broadcast p js (after_sent answers p v j (v.seat.current j)))

  pub calm_broadcasts : (ks : List ℕ) (ps : List Packet) (v : Serving) → Calm v (after_broadcasts answers ks ps v)
  unfolding after_broadcasts
  calm_broadcasts ks [] v = record { core = refl; inputs = refl }
  calm_broadcasts ks (p ∷ ps) v = calm_by v (after_broadcast answers p ks v) (after_broadcasts answers ks ps (after_broadcast answers p ks v)) (calm_broadcast p ks v) (calm_broadcasts ks ps (after_broadcast answers p ks v))

  -- offering a pending cut does not change the current sessions
  pub tried_current : (v : Serving) (j : ℕ) (o : Option Life) → (after_cut_tried answers v j o).seat.current ≡ v.seat.current
  tried_current v j None = refl
  tried_current v j (Some l) = cond_both (answers v.offers j) _ _ (λ (x : Serving). x.seat.current ≡ v.seat.current) (λ _. refl) (λ _. refl)

  pub calm_cut : (v : Serving) (j : ℕ) (o : Option Life) → Calm v (after_cut_tried answers v j o)
  calm_cut v j None = record { core = refl; inputs = refl }
  calm_cut v j (Some l) = cond_both (answers v.offers j) _ _ (Calm v) (λ _. record { core = refl; inputs = refl }) (λ _. record { core = refl; inputs = refl })

  pub calm_cuts : (js : List ℕ) (v : Serving) → Calm v (after_cuts_tried answers js v)
  unfolding after_cuts_tried
  calm_cuts [] v = record { core = refl; inputs = refl }
  calm_cuts (j ∷ js) v = calm_by v (after_cut_tried answers v j (v.seat.pending j)) (after_cuts_tried answers js (after_cut_tried answers v j (v.seat.pending j))) (calm_cut v j (v.seat.pending j)) (calm_cuts js (after_cut_tried answers v j (v.seat.pending j)))

  -- an accepted input changes the core by the rules, and sends the packets that the rules prescribe
  pub accepted_step : (ks : List ℕ) (v : Serving) (input : Input) (now : ℕ) → refusal_of v.seat.core input ≡ None → after_step answers ks input now v ≡ after_broadcasts answers ks (sends_of v.seat.core input now) (accepting v input now)
  unfolding after_step
  accepted_step ks v input now e = ap (after_answer answers ks input now v) e

  -- sending packets does not change the core
  pub accepted_core : (ks : List ℕ) (v : Serving) (input : Input) (now : ℕ) → refusal_of v.seat.core input ≡ None → (after_step answers ks input now v).seat.core ≡ core_after v.seat.core input now
  accepted_core ks v input now e =
      ap (λ (x : Serving). x.seat.core) (accepted_step ks v input now e) ∙ (calm_broadcasts ks (sends_of v.seat.core input now) (accepting v input now)).core

  pub accepted_up : (ks : List ℕ) (v : Serving) (input : Input) (now : ℕ) → refusal_of v.seat.core input ≡ None → (after_step answers ks input now v).seat.core.up ≡ (core_after v.seat.core input now).up
  accepted_up ks v input now e = ap (λ (c : CoreView). c.up) (accepted_core ks v input now e)
