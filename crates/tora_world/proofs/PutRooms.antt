-- With the simulator's queues, an item puts at most as many messages into a queue as there is room for.
use Rattle.std.proofs.Common.{◌≡◌, ℕ, suc, ◌≤◌, Bool, true, false, ◌&&◌, List, [], ◌∷◌, ◌++◌, length, nat_eq, if◌then◌else◌, refl, sym, ap, ◌∙◌, subst, append_assoc, append-nil, length-append, ltb-true, eqb-true, arith}
use Rattle.tora_core.specs.declared.Input.{Input}
use Rattle.tora_core.specs.CoreRun.{CoreView}
use Rattle.tora_seat.specs.declared.item.Item.{Item}
use Rattle.tora_seat.specs.declared.cargo.Cargo.{Cargo}
use Rattle.tora_seat.specs.declared.TheConstants.{MOST_CARGOES}
use Rattle.tora_seat.specs.Serving.{SeatState, Offer, Answers, put_to, serving_of}
use Rattle.tora_seat.proofs.ServedBy.{Offering, serving_follows}
use Rattle.tora_world.specs.World.{World, own_answers}

put_to-push : (k : ℕ) (offers : List Offer) (o : Offer) → put_to k (offers ++ o ∷ []) ≡ put_to k offers ++ (if nat_eq o.to k && o.put then o.cargo ∷ [] else [])
put_to-push k [] o = append-nil (if nat_eq o.to k && o.put then o.cargo ∷ [] else [])
put_to-push k (x ∷ offers) o =
    ap (λ cs. (if nat_eq x.to k && x.put then x.cargo ∷ [] else []) ++ cs) (put_to-push k offers o)
    ∙ sym (append_assoc (if nat_eq x.to k && x.put then x.cargo ∷ [] else []) (put_to k offers) (if nat_eq o.to k && o.put then o.cargo ∷ [] else []))

module _ (w : World) (n : ℕ) where
  abbrev answers : Answers
  answers = own_answers w n

  -- no queue out of the core has more messages than it holds
  abbrev Within : List Offer → Type 0
  Within offers = (k : ℕ) → length (w.cargoes n k ++ put_to k offers) ≤ MOST_CARGOES

  -- one more offer
  more : (offers : List Offer) (to : ℕ) (cargo : Cargo) (put : Bool) → (put ≡ true → answers offers to ≡ true) → Within offers → Within (offers ++ record { to = to; cargo = cargo; put = put } ∷ [])
  more offers to cargo put room h k = subst (λ cs. length (w.cargoes n k ++ cs) ≤ MOST_CARGOES) (sym (put_to-push k offers (record { to = to; cargo = cargo; put = put }))) (go (nat_eq to k) put refl room)
    where
      none : length (w.cargoes n k ++ (put_to k offers ++ [])) ≤ MOST_CARGOES
      none = subst (λ cs. length (w.cargoes n k ++ cs) ≤ MOST_CARGOES) (sym (append-nil (put_to k offers))) (h k)

      go : (b p : Bool) → nat_eq to k ≡ b → (p ≡ true → answers offers to ≡ true) → length (w.cargoes n k ++ (put_to k offers ++ (if b && p then cargo ∷ [] else []))) ≤ MOST_CARGOES
      go false p e r = none
      go true false e r = none
      go true true e r =
          let lt = ltb-true (length (w.cargoes n to ++ put_to to offers)) MOST_CARGOES (r refl) in
          let here = subst (λ m. suc (length (w.cargoes n m ++ put_to m offers)) ≤ MOST_CARGOES) (eqb-true to k e) lt in
          let long : length (w.cargoes n k ++ (put_to k offers ++ cargo ∷ [])) ≡ suc (length (w.cargoes n k ++ put_to k offers)) =
          ap length (sym (append_assoc (w.cargoes n k) (put_to k offers) (cargo ∷ []))) ∙ length-append (w.cargoes n k ++ put_to k offers) (cargo ∷ []) ∙ omega arith in
          subst (λ m. m ≤ MOST_CARGOES) (sym long) here

  abbrev Holds : List Offer → CoreView → List (Input × ℕ) → Type 0
  Holds offers core inputs = Within offers

  offering : Offering answers Holds
  offering offers core inputs to cargo put room h = more offers to cargo put room h

pub room_served : (w : World) (n : ℕ) → ((k : ℕ) → length (w.cargoes n k) ≤ MOST_CARGOES) → (js : List ℕ) (seat : SeatState) (item : Item) (k : ℕ) → length (w.cargoes n k ++ put_to k (serving_of (own_answers w n) js seat item).offers) ≤ MOST_CARGOES
room_served w n all js seat item =
    serving_follows (own_answers w n) (Holds w n) (offering w n) (λ offers core inputs input now h. h) js seat item (λ k. subst (λ cs. length cs ≤ MOST_CARGOES) (sym (append-nil (w.cargoes n k))) (all k))
