-- An item that is served with every outbound message put: the offers determine the serving.
use Rattle.std.proofs.Common.{◌≡◌, ℕ, zero, suc, Bool, true, false, List, [], ◌∷◌, ◌++◌, length, Option, Some, None, nat_eq, ◌||◌, if◌then◌else◌, refl, sym, ap, ◌∙◌, subst, append_assoc, append-nil, eq-eqb}
use Rattle.std.proofs.lemmas.Bool.{or_right}
use Rattle.std.specs.Prelude.{slice_get, is_some}
use Rattle.tora_packet.specs.declared.Packet.{Packet}
use Rattle.tora_arq.specs.declared.life.Life.{Life}
use Rattle.tora_core.specs.declared.Input.{Input}
use Rattle.tora_core.specs.declared.Input.TheVariants as In
use Rattle.tora_core.specs.declared.errors.StepError.{StepError}
use Rattle.tora_core.specs.Numbers.{has_number}
use Rattle.tora_core.specs.CoreRun.{CoreView, refusal_of, core_after, core_taking, core_after_all, sends_of}
use Rattle.tora_seat.specs.declared.what.What.{What}
use Rattle.tora_seat.specs.declared.what.What.TheVariants as Tells
use Rattle.tora_seat.specs.declared.item.Item.{Item}
use Rattle.tora_seat.specs.declared.cargo.Cargo.{Cargo}
use Rattle.tora_seat.specs.declared.cargo.Cargo.TheVariants as Gives
use Rattle.tora_seat.specs.declared.answer.Answer.TheVariants as Says
use Rattle.tora_seat.specs.Offers.{Follows}
use Rattle.tora_seat.specs.Serving.{SeatState, Serving, Offer, Answers, offered, with_current, with_pending, after_cut_tried, after_cuts_tried, after_sent, after_broadcast, after_broadcasts, accepting, after_answer, after_step, first_cut, after_settling, after_input, is_current, after_old_down, after_cut_asked, after_life_cut, after_link_item, after_other_item, after_item_of, begin_serving, serving_of}
use Rattle.tora_seat.proofs.Chains.{follows_split}
use Rattle.tora_node.specs.CoreRuns.{answers_told, was_put}
use Rattle.tora_router.specs.Router.{all_put}

-- ---- the neighbours of the core do not change

one_stays : (c : CoreView) (input : Input) (now : ℕ) → (core_after c input now).neighbours ≡ c.neighbours
one_stays c input now = go (is_some (refusal_of c input))
  where
    go : (b : Bool) → (if b then c else core_taking c input now).neighbours ≡ c.neighbours
    go true = refl
    go false = refl

pub all_stay : (c : CoreView) (inputs : List (Input × ℕ)) → (core_after_all c inputs).neighbours ≡ c.neighbours
all_stay c [] = refl
all_stay c ((input, now) ∷ inputs) = all_stay (core_after c input now) inputs ∙ one_stays c input now

-- ---- results of offers

at_length : (before : List Offer) (o : Offer) (offers : List Offer) → slice_get (before ++ o ∷ offers) (length before) ≡ Some o
at_length [] o offers = refl
at_length (x ∷ before) o offers = at_length before o offers

-- the offers have the results that are read back from them
told_follows : (before offers : List Offer) → Follows (answers_told (before ++ offers)) before offers
told_follows before [] = tt
told_follows before (o ∷ offers) = (
  ap was_put (at_length before o offers),
  subst (λ (all : List Offer). Follows (answers_told all) (before ++ o ∷ []) offers) (append_assoc before (o ∷ []) offers) (told_follows (before ++ o ∷ []) offers),
)

-- each offer was put, and is for one of these neighbours
abbrev pub ArePut : List ℕ → List Offer → Type 0
ArePut ks [] = Unit {0}
ArePut ks (o ∷ offers) = (o.put ≡ true) × (has_number o.to ks ≡ true) × ArePut ks offers

put_append : (ks : List ℕ) (xs ys : List Offer) → ArePut ks xs → ArePut ks ys → ArePut ks (xs ++ ys)
put_append ks [] ys p q = q
put_append ks (x ∷ xs) ys p q = (p.0, p.1, put_append ks xs ys p.2 q)

-- each of the second numbers is among the first
abbrev AreAmong : List ℕ → List ℕ → Type 0
AreAmong ks [] = Unit {0}
AreAmong ks (j ∷ js) = (has_number j ks ≡ true) × AreAmong ks js

all_among : (ks js : List ℕ) → ((j : ℕ) → has_number j js ≡ true → has_number j ks ≡ true) → AreAmong ks js
all_among ks [] inside = tt
all_among ks (j ∷ js) inside = (inside j (ap (λ b. b || has_number j js) (eq-eqb j j refl)), all_among ks js (λ i e. inside i (or_right (nat_eq j i) (has_number i js) e)))

module _ (ks : List ℕ) (told : Answers) where
  -- one serving puts every outbound message, the other uses given results: they are equal if the results agree
  record Same (before : List Offer) (near : List ℕ) (x y : Serving) : Type 0 where
    added : List Offer
    offers : x.offers ≡ before ++ added
    are_put : ArePut ks added
    neighbours : x.seat.core.neighbours ≡ near
    same : Follows told before added → y ≡ x

  -- both servings continue from here
  abbrev From : Serving → Serving → Serving → Type 0
  From v x y = Same v.offers v.seat.core.neighbours x y

  nothing : (x : Serving) → From x x x
  nothing x = record { added = []; offers = sym (append-nil x.offers); are_put = tt; neighbours = refl; same = λ h. refl }

  chain : (next : Serving → Serving) (before : List Offer) (near : List ℕ) (x y z : Serving) → Same before near x y → From x z (next x) → Same before near z (next y)
  chain next before near x y z a b = record {
    added = a.added ++ b.added;
    offers = b.offers ∙ ap (λ (os : List Offer). os ++ b.added) a.offers ∙ append_assoc before a.added b.added;
    are_put = put_append ks a.added b.added a.are_put b.are_put;
    neighbours = b.neighbours ∙ a.neighbours;
    same = λ h. let s = follows_split told before a.added b.added h in ap next (a.same s.0) ∙ b.same (subst (λ (os : List Offer). Follows told os b.added) (sym a.offers) s.1);
  }

  one_offer : (v : Serving) (k : ℕ) (cargo : Cargo) (x other : Serving) → has_number k ks ≡ true → x.offers ≡ v.offers ++ record { to = k; cargo = cargo; put = true } ∷ [] → x.seat.core.neighbours ≡ v.seat.core.neighbours → From v x (if told v.offers k then x else other)
  one_offer v k cargo x other i e near = record {
    added = record { to = k; cargo = cargo; put = true } ∷ [];
    offers = e;
    are_put = (refl, i, tt);
    neighbours = near;
    same = λ h. ap (λ b. if b then x else other) h.0;
  }

  same_if : (b : Bool) (v x y : Serving) → (b ≡ true → From v x y) → From v (if b then x else v) (if b then y else v)
  same_if true v x y h = h refl
  same_if false v x y h = nothing v

  cut_goes : (v : Serving) (k : ℕ) (o : Option Life) → has_number k ks ≡ true → From v (after_cut_tried all_put v k o) (after_cut_tried told v k o)
  cut_goes v k None i = nothing v
  cut_goes v k (Some life) i = one_offer v k (Gives.Cut life) (with_pending (offered v k (Gives.Cut life) true) k None) (offered v k (Gives.Cut life) false) i refl refl

  cuts_go : (js : List ℕ) (v : Serving) → AreAmong ks js → From v (after_cuts_tried all_put js v) (after_cuts_tried told js v)
  unfolding after_cuts_tried
  cuts_go [] v i = nothing v
  cuts_go (k ∷ js) v i =
      let x : Serving = after_cut_tried all_put v k (v.seat.pending k) in
      chain (after_cuts_tried told js) v.offers v.seat.core.neighbours x (after_cut_tried told v k (v.seat.pending k)) (after_cuts_tried all_put js x) (cut_goes v k (v.seat.pending k) i.0) (cuts_go js x i.1)

  sent_goes : (p : Packet) (v : Serving) (k : ℕ) (o : Option Life) → has_number k ks ≡ true → From v (after_sent all_put p v k o) (after_sent told p v k o)
  sent_goes p v k None i = nothing v
  sent_goes p v k (Some life) i = one_offer v k (Gives.Packet life p) (offered v k (Gives.Packet life p) true) (with_pending (with_current (offered v k (Gives.Packet life p) false) k None) k (Some life)) i refl refl

  broadcast_goes : (p : Packet) (js : List ℕ) (v : Serving) → AreAmong ks js → From v (after_broadcast all_put p js v) (after_broadcast told p js v)
  unfolding after_broadcast
  broadcast_goes p [] v i = nothing v
  broadcast_goes p (k ∷ js) v i =
      let x : Serving = after_sent all_put p v k (v.seat.current k) in
      chain (after_broadcast told p js) v.offers v.seat.core.neighbours x (after_sent told p v k (v.seat.current k)) (after_broadcast all_put p js x) (sent_goes p v k (v.seat.current k) i.0) (broadcast_goes p js x i.1)

  module _ (js : List ℕ) (among : AreAmong ks js) (inside : (k : ℕ) → has_number k js ≡ true → has_number k ks ≡ true) where
    broadcasts_go : (ps : List Packet) (v : Serving) → From v (after_broadcasts all_put js ps v) (after_broadcasts told js ps v)
    unfolding after_broadcasts
    broadcasts_go [] v = nothing v
    broadcasts_go (p ∷ ps) v =
        let x : Serving = after_broadcast all_put p js v in
        chain (after_broadcasts told js ps) v.offers v.seat.core.neighbours x (after_broadcast told p js v) (after_broadcasts all_put js ps x) (broadcast_goes p js v among) (broadcasts_go ps x)

    step_goes : (input : Input) (now : ℕ) (v : Serving) → From v (after_step all_put js input now v) (after_step told js input now v)
    unfolding after_step
    step_goes input now v = go (refusal_of v.seat.core input)
      where
        go : (o : Option StepError) → From v (after_answer all_put js input now v o) (after_answer told js input now v o)
        go None =
            let g = broadcasts_go (sends_of v.seat.core input now) (accepting v input now) in
            record { added = g.added; offers = g.offers; are_put = g.are_put; neighbours = g.neighbours ∙ one_stays v.seat.core input now; same = g.same }
        go (Some error) = nothing (record v { answer = Says.Refused error })

    settling_goes : (most now : ℕ) (v : Serving) → From v (after_settling most all_put js now v) (after_settling most told js now v)
    unfolding after_settling
    settling_goes zero now v = nothing v
    settling_goes (suc most) now v = go (first_cut v.seat js) (λ k. let x : Serving = after_step all_put js (In.LinkDown k) now v in
        chain (after_settling most told js now) v.offers v.seat.core.neighbours x (after_step told js (In.LinkDown k) now v) (after_settling most all_put js now x) (step_goes (In.LinkDown k) now v) (settling_goes most now x))
      where
        go : (o : Option ℕ) → ((k : ℕ) → From v (after_settling most all_put js now (after_step all_put js (In.LinkDown k) now v)) (after_settling most told js now (after_step told js (In.LinkDown k) now v))) →
            From v (elim o [ None ↦ v | Some k ↦ after_settling most all_put js now (after_step all_put js (In.LinkDown k) now v) ]) (elim o [ None ↦ v | Some k ↦ after_settling most told js now (after_step told js (In.LinkDown k) now v) ])
        go None f = nothing v
        go (Some k) f = f k

    input_goes : (input : Input) (now : ℕ) (v : Serving) → From v (after_input all_put js input now v) (after_input told js input now v)
    unfolding after_input
    input_goes input now v =
        let x : Serving = after_step all_put js input now v in
        chain (after_settling (length js) told js now) v.offers v.seat.core.neighbours x (after_step told js input now v) (after_settling (length js) all_put js now x) (step_goes input now v) (settling_goes (length js) now x)

    old_down_goes : (k now : ℕ) (v : Serving) (o : Option Life) → From v (after_old_down all_put js k now v o) (after_old_down told js k now v o)
    old_down_goes k now v None = nothing v
    old_down_goes k now v (Some l) = input_goes (In.LinkDown k) now (with_current v k None)

    life_cut_goes : (k now : ℕ) (v : Serving) (o : Option Life) → has_number k ks ≡ true → From v (after_life_cut all_put js k now v o) (after_life_cut told js k now v o)
    life_cut_goes k now v None i = nothing v
    life_cut_goes k now v (Some l) i =
        let x : Serving = after_cut_asked all_put v k l in
        chain (λ (y : Serving). after_input told js (In.LinkDown k) now (with_current y k None)) v.offers v.seat.core.neighbours x (after_cut_asked told v k l) (after_input all_put js (In.LinkDown k) now (with_current x k None))
        (cut_goes (with_pending v k (Some l)) k (Some l) i) (input_goes (In.LinkDown k) now (with_current x k None))

    link_item_goes : (k now : ℕ) (what : What) (v : Serving) → From v (after_link_item all_put js k now what v) (after_link_item told js k now what v)
    unfolding after_link_item
    link_item_goes k now (Tells.Up l) v =
        let x : Serving = after_old_down all_put js k now v (v.seat.current k) in
        chain (λ (y : Serving). after_input told js (In.LinkUp k) now (with_current y k (Some l))) v.offers v.seat.core.neighbours x (after_old_down told js k now v (v.seat.current k)) (after_input all_put js (In.LinkUp k) now (with_current x k (Some l)))
        (old_down_goes k now v (v.seat.current k)) (input_goes (In.LinkUp k) now (with_current x k (Some l)))
    link_item_goes k now (Tells.Packet l p) v =
        let next : Serving = record v { steps = v.steps ++ record { from = k; parcel = record { life = l; packet = p } } ∷ [] } in
        same_if (is_current l (v.seat.current k)) v (after_input all_put js (In.Packet k p) now next) (after_input told js (In.Packet k p) now next) (λ e. input_goes (In.Packet k p) now next)
    link_item_goes k now (Tells.Down l r) v = go (is_current l (v.seat.current k)) (is_current l (v.seat.pending k)) (input_goes (In.LinkDown k) now (with_current v k None))
      where
        go : (a b : Bool) → From v (after_input all_put js (In.LinkDown k) now (with_current v k None)) (after_input told js (In.LinkDown k) now (with_current v k None)) →
            From v (if a then after_input all_put js (In.LinkDown k) now (with_current v k None) else if b then with_pending v k None else v)
            (if a then after_input told js (In.LinkDown k) now (with_current v k None) else if b then with_pending v k None else v)
        go true b h = h
        go false true h = nothing (with_pending v k None)
        go false false h = nothing v
    link_item_goes k now (Tells.Need d) v = input_goes (In.Need d) now v
    link_item_goes k now (Tells.Cut j) v = nothing v
    link_item_goes k now Tells.Beat v = nothing v
    link_item_goes k now Tells.Show v = nothing (record v { answer = Says.Show })
    link_item_goes k now (Tells.Status status) v = nothing (record v { answer = Says.Show })
    link_item_goes k now Tells.Quit v = nothing (record v { answer = Says.Quit })

    other_item_goes : (now : ℕ) (what : What) (v : Serving) → From v (after_other_item all_put js now what v) (after_other_item told js now what v)
    unfolding after_other_item
    other_item_goes now (Tells.Need d) v = input_goes (In.Need d) now v
    other_item_goes now (Tells.Cut k) v =
        same_if (has_number k js) v (after_life_cut all_put js k now v (v.seat.current k)) (after_life_cut told js k now v (v.seat.current k)) (λ e. life_cut_goes k now v (v.seat.current k) (inside k e))
    other_item_goes now (Tells.Up l) v = nothing v
    other_item_goes now (Tells.Packet l p) v = nothing v
    other_item_goes now (Tells.Down l r) v = nothing v
    other_item_goes now Tells.Beat v = nothing v
    other_item_goes now Tells.Show v = nothing (record v { answer = Says.Show })
    other_item_goes now (Tells.Status status) v = nothing (record v { answer = Says.Show })
    other_item_goes now Tells.Quit v = nothing (record v { answer = Says.Quit })

    item_goes : (o : Option ℕ) (now : ℕ) (what : What) (v : Serving) → From v (after_item_of all_put js o now what v) (after_item_of told js o now what v)
    item_goes None now what v = other_item_goes now what v
    item_goes (Some k) now what v = link_item_goes k now what v

    serving_goes : (seat : SeatState) (item : Item) → Same [] seat.core.neighbours (serving_of all_put js seat item) (serving_of told js seat item)
    unfolding serving_of
    serving_goes seat item =
        let v : Serving = begin_serving seat in
        let x : Serving = after_cuts_tried all_put js v in
        chain (after_item_of told js (slice_get js item.seat) item.now item.what) [] seat.core.neighbours x (after_cuts_tried told js v) (after_item_of all_put js (slice_get js item.seat) item.now item.what x)
        (cuts_go js v among) (item_goes (slice_get js item.seat) item.now item.what x)

module _ (ks : List ℕ) (seat : SeatState) (item : Item) where
  abbrev served : Serving
  served = serving_of all_put ks seat item

  goes : Same ks (answers_told served.offers) [] seat.core.neighbours served (serving_of (answers_told served.offers) ks seat item)
  goes = serving_goes ks (answers_told served.offers) ks (all_among ks ks (λ j e. e)) (λ j e. e) seat item

  -- every offer was put, and is for a neighbour
  pub served_put : ArePut ks served.offers
  served_put = subst (ArePut ks) (sym goes.offers) goes.are_put

  -- the offers determine the serving
  pub served_told : serving_of (answers_told served.offers) ks seat item ≡ served
  served_told = goes.same (subst (Follows (answers_told served.offers) []) goes.offers (told_follows [] served.offers))

  -- the neighbours of the core do not change
  pub neighbours_stay : served.seat.core.neighbours ≡ seat.core.neighbours
  neighbours_stay = goes.neighbours
