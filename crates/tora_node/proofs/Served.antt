-- Items that are served one after another.
use Rattle.std.proofs.Common.{◌≡◌, ◌≢◌, ℕ, List, [], ◌∷◌, ◌++◌, refl, sym, ap, subst, ◌∙◌, append_assoc, append-nil, ⊎_elim, inl, inr, Option, Some, None}
use Rattle.std.proofs.lemmas.Bool.{false≢true}
use Rattle.std.specs.Prelude.{◌⊎◌, Bool, true, false, is_some}
use Rattle.std.specs.Io.KnownBytes.{Appends}
use Rattle.tora_core.specs.declared.Input.{Input}
use Rattle.tora_core.specs.CoreRun.{CoreView, core_after, core_after_all}
use Rattle.tora_seat.specs.declared.item.Item.{Item}
use Rattle.tora_seat.specs.declared.cargo.Cargo.{Cargo}
use Rattle.tora_seat.specs.declared.status.Status.TheVariants as Asked
use Rattle.tora_seat.specs.declared.what.What.{What}
use Rattle.tora_seat.specs.declared.what.What.TheVariants as Tells
use Rattle.tora_seat.specs.Serving.{Answers, Offer, SeatState, Serving, serving_of}
use Rattle.tora_seat.specs.Offers.{AreOffered, Follows}
use Rattle.tora_node.specs.CoreRuns.{ServedItem, answers_told, serving_told, AreServed, items_served, offers_made, inputs_stepped, text_of, told_anew, told_after, text_served, told_served, IsWatched, MayTell, MayFail, GoOn}
use Rattle.tora_node.specs.declared.watch.Told.{Told}
use Rattle.tora_node.specs.StatusLines.{told_in}
use Rattle.tora_node.specs.declared.fault.NodeError.{NodeError}
use Rattle.tora_node.specs.declared.fault.NodeError.TheVariants as Fault
use Rattle.std.specs.declared.vec.Vec.{Vec}
use Rattle.tora_node.proofs.Told.{told_follows, offered_then}

items_more : (xs : List ServedItem) (x : ServedItem) → items_served (xs ++ x ∷ []) ≡ items_served xs ++ x.item ∷ []
items_more [] x = refl
items_more (y ∷ xs) x = ap (λ (l : List Item). y.item ∷ l) (items_more xs x)

offers_more : (xs : List ServedItem) (x : ServedItem) → offers_made (xs ++ x ∷ []) ≡ offers_made xs ++ x.offers
offers_more [] x = append-nil x.offers
offers_more (y ∷ xs) x = ap (λ (l : List Offer). y.offers ++ l) (offers_more xs x) ∙ sym (append_assoc y.offers (offers_made xs) x.offers)

served_more : (ks : List ℕ) (s mid : SeatState) (xs : List ServedItem) (x : ServedItem) → AreServed ks s xs mid → (serving_told ks mid x).offers ≡ x.offers → AreServed ks s (xs ++ x ∷ []) (serving_told ks mid x).seat
served_more ks s mid [] x p q = subst (λ (t : SeatState). ((serving_told ks t x).offers ≡ x.offers) × ((serving_told ks mid x).seat ≡ (serving_told ks t x).seat)) p (q, refl)
served_more ks s mid (y ∷ xs) x p q = (p.0, served_more ks (serving_told ks s y).seat mid xs x p.1 q)

text_more : (ks : List ℕ) (told : Option (List Told)) (s mid : SeatState) (xs : List ServedItem) (x : ServedItem) → AreServed ks s xs mid →
    text_served ks told s (xs ++ x ∷ []) ≡ text_served ks told s xs ++ text_of (told_served ks told s xs) x.item (serving_told ks mid x)
text_more ks told s mid [] x p = subst (λ (t : SeatState). text_served ks told t (x ∷ []) ≡ text_of told x.item (serving_told ks mid x)) p (append-nil (text_of told x.item (serving_told ks mid x)))
text_more ks told s mid (y ∷ xs) x p =
    let t : Serving = serving_told ks s y in
    let next : Option (List Told) = told_after told y.item.what t.seat.core in
    ap (λ (l : List ℕ). text_of told y.item t ++ l) (text_more ks next t.seat mid xs x p.1)
    ∙ sym (append_assoc (text_of told y.item t) (text_served ks next t.seat xs) (text_of (told_served ks next t.seat xs) x.item (serving_told ks mid x)))

told_more : (ks : List ℕ) (told : Option (List Told)) (s mid : SeatState) (xs : List ServedItem) (x : ServedItem) → AreServed ks s xs mid →
    told_served ks told s (xs ++ x ∷ []) ≡ told_after (told_served ks told s xs) x.item.what (serving_told ks mid x).seat.core
told_more ks told s mid [] x p = subst (λ (t : SeatState). told_served ks told t (x ∷ []) ≡ told_after told x.item.what (serving_told ks mid x).seat.core) p refl
told_more ks told s mid (y ∷ xs) x p =
    let t : Serving = serving_told ks s y in
    told_more ks (told_after told y.item.what t.seat.core) t.seat mid xs x p.1

watched_more : (xs : List ServedItem) (x : ServedItem) → IsWatched xs → IsWatched (xs ++ x ∷ [])
watched_more [] x h = absurd h
watched_more (y ∷ xs) x (inl e) = inl e
watched_more (y ∷ xs) x (inr h) = inr (watched_more xs x h)

watched_last : (xs : List ServedItem) (x : ServedItem) → x.item.what ≡ Tells.Status Asked.Watch → IsWatched (xs ++ x ∷ [])
watched_last [] x e = inl e
watched_last (y ∷ xs) x e = inr (watched_last xs x e)

still_told : (told : Option (List Told)) (core : CoreView) → is_some (told_anew told core) ≡ true → is_some told ≡ true
still_told None core e = e
still_told (Some told) core e = refl

-- a state was printed only after `watch`
told_since : (told : Option (List Told)) (what : What) (core : CoreView) → is_some (told_after told what core) ≡ true → (is_some told ≡ true) ⊎ (what ≡ Tells.Status Asked.Watch)
told_since told (Tells.Status Asked.Watch) core e = inr refl
told_since told (Tells.Status Asked.Json) core e = inl e
told_since told (Tells.Need d) core e = inl (still_told told core e)
told_since told (Tells.Cut k) core e = inl (still_told told core e)
told_since told (Tells.Up life) core e = inl (still_told told core e)
told_since told (Tells.Packet life packet) core e = inl (still_told told core e)
told_since told (Tells.Down life reason) core e = inl (still_told told core e)
told_since told Tells.Beat core e = inl e
told_since told Tells.Show core e = inl e
told_since told Tells.Quit core e = inl e

watched_then : (xs : List ServedItem) (x : ServedItem) (told : Option (List Told)) (core : CoreView) → (is_some told ≡ true → IsWatched xs) → is_some (told_after told x.item.what core) ≡ true → IsWatched (xs ++ x ∷ [])
watched_then xs x told core h e = ⊎_elim (λ (before : is_some told ≡ true). watched_more xs x (h before)) (λ (here : x.item.what ≡ Tells.Status Asked.Watch). watched_last xs x here) (told_since told x.item.what core e)

goes_more : (xs : List ServedItem) (x : ServedItem) → GoOn xs → x.item.what ≢ Tells.Quit → GoOn (xs ++ x ∷ [])
goes_more [] x h other = (other, tt)
goes_more (y ∷ xs) x h other = (h.0, goes_more xs x h.1 other)

-- ---- a run: the items taken, the offers and the output since its start

pub record Ran {O : Type 0} (did : O → ℕ → Cargo → Bool → O → Type 0) (ks : List ℕ) (s : SeatState) (outs : O) (taken : List Item) (old : Option (List ℕ))
    (now : SeatState) (outs_now : O) (taken_now : List Item) (new : Option (List ℕ)) (told : Option (List Told)) : Type 0 where
  pub xs : List ServedItem
  pub taken_is : taken_now ≡ taken ++ items_served xs
  pub served : AreServed ks s xs now
  pub offered : AreOffered did ks outs (offers_made xs) outs_now
  pub written : Appends old new (text_served ks None s xs)
  pub told_is : told ≡ told_served ks None s xs
  pub watched : is_some told ≡ true → IsWatched xs
  pub goes : GoOn xs

pub Appends-nil : (old : Option (List ℕ)) → Appends old old []
Appends-nil None = tt
Appends-nil (Some xs) = sym (append-nil xs)

Appends-then : (a b c : Option (List ℕ)) (xs ys : List ℕ) → Appends a b xs → Appends b c ys → Appends a c (xs ++ ys)
Appends-then None b c xs ys p q = tt
Appends-then (Some a) None c xs ys p q = absurd p
Appends-then (Some a) (Some b) None xs ys p q = absurd q
Appends-then (Some a) (Some b) (Some c) xs ys p q = q ∙ ap (λ (t : List ℕ). t ++ ys) p ∙ append_assoc a xs ys

abbrev pub nothing_ran : {O : Type 0} → (did : O → ℕ → Cargo → Bool → O → Type 0) (ks : List ℕ) (s : SeatState) (outs : O) (taken : List Item) (old : Option (List ℕ)) → Ran did ks s outs taken old s outs taken old None
nothing_ran did ks s outs taken old = record { xs = []; taken_is = sym (append-nil taken); served = refl; offered = refl; written = Appends-nil old; told_is = refl; watched = λ e. absurd (false≢true e); goes = tt }

-- one more item was taken and served, with these offers; its output is not written yet
pub record Done {O : Type 0} (did : O → ℕ → Cargo → Bool → O → Type 0) (ks : List ℕ) (s : SeatState) (outs : O) (taken : List Item) (old : Option (List ℕ))
    (item : Item) (v : Serving) (outs_new : O) (taken_new : List Item) (mid_text : Option (List ℕ)) (told : Option (List Told)) : Type 0 where
  pub front : List ServedItem
  pub x : ServedItem
  pub item_is : x.item ≡ item
  pub goes : GoOn front
  pub taken_is : taken_new ≡ taken ++ items_served (front ++ x ∷ [])
  pub served : AreServed ks s (front ++ x ∷ []) v.seat
  pub offered : AreOffered did ks outs (offers_made (front ++ x ∷ [])) outs_new
  pub written : (new : Option (List ℕ)) → Appends mid_text new (text_of told item v) → Appends old new (text_served ks None s (front ++ x ∷ []))
  pub told_is : told_after told item.what v.seat.core ≡ told_served ks None s (front ++ x ∷ [])
  pub before : is_some told ≡ true → IsWatched front
  pub watched : is_some (told_after told item.what v.seat.core) ≡ true → IsWatched (front ++ x ∷ [])

module _ {O : Type 0} (did : O → ℕ → Cargo → Bool → O → Type 0) (ks : List ℕ) (s : SeatState) (outs : O) (taken : List Item) (old : Option (List ℕ))
    (mid : SeatState) (outs_mid : O) (taken_mid : List Item) (mid_text : Option (List ℕ)) (told : Option (List Told)) (r : Ran did ks s outs taken old mid outs_mid taken_mid mid_text told)
    (item : Item) (offers : List Offer) (outs_new : O) (taken_new : List Item) (v : Serving) where
  abbrev pub Agrees : List ℕ → Type 0
  Agrees ks = (answers : Answers) → Follows answers [] offers → serving_of answers ks mid item ≡ v

  served_as : Agrees ks → serving_told ks mid (record { item = item; offers = offers }) ≡ v
  served_as f = f (answers_told offers) (told_follows [] offers)

  done_here : taken_new ≡ taken_mid ++ item ∷ [] → AreOffered did ks outs_mid offers outs_new → Agrees ks → v.offers ≡ offers → Done did ks s outs taken old item v outs_new taken_new mid_text told
  done_here e a f same =
      let x : ServedItem = record { item = item; offers = offers } in
      record {
        front = r.xs;
        x = x;
        item_is = refl;
        goes = r.goes;
        taken_is = e ∙ ap (λ (l : List Item). l ++ item ∷ []) r.taken_is ∙ append_assoc taken (items_served r.xs) (item ∷ []) ∙ ap (λ (l : List Item). taken ++ l) (sym (items_more r.xs x));
        served = subst (λ (w : Serving). AreServed ks s (r.xs ++ x ∷ []) w.seat) (served_as f) (served_more ks s mid r.xs x r.served (ap (λ (w : Serving). w.offers) (served_as f) ∙ same));
        offered = subst (λ (l : List Offer). AreOffered did ks outs l outs_new) (sym (offers_more r.xs x)) (offered_then did ks outs outs_mid outs_new (offers_made r.xs) offers r.offered a);
        written = λ new w.
            subst (λ (l : List ℕ). Appends old new l) (sym (text_more ks None s mid r.xs x r.served))
            (Appends-then old mid_text new (text_served ks None s r.xs) (text_of (told_served ks None s r.xs) item (serving_told ks mid x)) r.written
            (subst (λ (t : Option (List Told)). Appends mid_text new (text_of t item (serving_told ks mid x))) r.told_is
            (subst (λ (u : Serving). Appends mid_text new (text_of told item u)) (sym (served_as f)) w)));
        told_is =
            ap (λ (u : Serving). told_after told item.what u.seat.core) (sym (served_as f))
            ∙ ap (λ (t : Option (List Told)). told_after t item.what (serving_told ks mid x).seat.core) r.told_is
            ∙ sym (told_more ks None s mid r.xs x r.served);
        before = r.watched;
        watched = watched_then r.xs x told v.seat.core r.watched;
      }

  -- the neighbours are the first ones
  pub done : (now : List ℕ) → now ≡ ks → taken_new ≡ taken_mid ++ item ∷ [] → AreOffered did now outs_mid offers outs_new → Agrees now → v.offers ≡ offers → Done did ks s outs taken old item v outs_new taken_new mid_text told
  done now e t a f same = done_here t (subst (λ (l : List ℕ). AreOffered did l outs_mid offers outs_new) e a) (subst Agrees e f) same

-- if the item is not Quit, the run goes on
pub goes_on : (front : List ServedItem) (x : ServedItem) (item : Item) → GoOn front → x.item ≡ item → item.what ≢ Tells.Quit → GoOn (front ++ x ∷ [])
goes_on front x item h is other = goes_more front x h (λ quit. other (sym (ap (λ (i : Item). i.what) is) ∙ quit))

-- ---- the core

runs_then : (c : CoreView) (xs ys : List (Input × ℕ)) → core_after_all c (xs ++ ys) ≡ core_after_all (core_after_all c xs) ys
runs_then c [] ys = refl
runs_then c ((i, t) ∷ xs) ys = runs_then (core_after c i t) xs ys

abbrev pub Accepts : Type 0
Accepts = (answers : Answers) (ks : List ℕ) (seat : SeatState) (item : Item) → (serving_of answers ks seat item).seat.core ≡ core_after_all seat.core (serving_of answers ks seat item).inputs

pub core_is : Accepts → (ks : List ℕ) (s after : SeatState) (xs : List ServedItem) → AreServed ks s xs after → after.core ≡ core_after_all s.core (inputs_stepped ks s xs)
core_is law ks s after [] p = ap (λ (t : SeatState). t.core) p
core_is law ks s after (x ∷ xs) p =
    let t : Serving = serving_told ks s x in
    core_is law ks t.seat after xs p.1 ∙ ap (λ (c : CoreView). core_after_all c (inputs_stepped ks t.seat xs)) (law (answers_told x.offers) ks s x.item) ∙ sym (runs_then s.core t.inputs (inputs_stepped ks t.seat xs))

-- ---- a fault

module _ {A B : Type 0} (f : A → B) where
  may_tell_more : (what : What) → MayTell A what → MayTell B what
  may_tell_more Tells.Show h = tt
  may_tell_more (Tells.Status status) h = tt
  may_tell_more (Tells.Need d) h = f h
  may_tell_more (Tells.Cut k) h = f h
  may_tell_more (Tells.Up life) h = f h
  may_tell_more (Tells.Packet life packet) h = f h
  may_tell_more (Tells.Down life reason) h = f h
  may_tell_more Tells.Beat h = absurd h
  may_tell_more Tells.Quit h = absurd h

pub may_fail_more : {A B : Type 0} (e : NodeError) (what : What) → (A → B) → MayFail e A what → MayFail e B what
may_fail_more Fault.Memory what f h = may_tell_more f what h
may_fail_more Fault.Output what f (inl h) = inl (may_tell_more f what h)
may_fail_more Fault.Output what f (inr need) = inr need
may_fail_more Fault.Lane what f h = absurd h
may_fail_more (Fault.Life peer error) what f h = absurd h
may_fail_more (Fault.Wire peer) what f h = absurd h

pub told_before : {A : Type 0} (watch : Option (Vec Told A)) (front : List ServedItem) → (is_some (told_in watch) ≡ true → IsWatched front) → is_some watch ≡ true → IsWatched front
told_before None front h e = absurd (false≢true e)
told_before (Some told) front h e = h refl
