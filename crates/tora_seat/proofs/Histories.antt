-- Lists of offers and of inputs after one more.
use Rattle.std.proofs.Common.{◌≡◌, ℕ, Bool, true, false, true≢false, ◌&&◌, ◌||◌, List, [], ◌∷◌, ◌++◌, Option, nat_eq, if◌then◌else◌, refl, sym, ap, ◌∙◌, append_assoc, append-nil}
use Rattle.std.proofs.lemmas.Bool.{or_parts}
use Rattle.tora_packet.specs.declared.Packet.{Packet}
use Rattle.tora_arq.specs.declared.life.Life.{Life}
use Rattle.tora_core.specs.declared.Input.{Input}
use Rattle.tora_core.specs.Numbers.{has_number}
use Rattle.tora_core.specs.CoreRun.{CoreView, core_after, core_after_all, sends_of}
use Rattle.tora_seat.specs.Serving.{Offer}
use Rattle.tora_seat.specs.SeatLaws.{is_back, has_back, has_offer, NothingAfterBack, packet_in, packets_put, IsOfLife, AreOfLife, broadcast_to, is_link_down, has_link_down, Begins}

pub or_false : (a : Bool) → (a || false) ≡ a
or_false true = refl
or_false false = refl

or_assoc : (a b c : Bool) → (a || (b || c)) ≡ ((a || b) || c)
or_assoc true b c = refl
or_assoc false b c = refl

pub back-push : (k : ℕ) (os : List Offer) (o : Offer) → has_back k (os ++ o ∷ []) ≡ (has_back k os || is_back k o)
back-push k [] o = or_false (is_back k o)
back-push k (x ∷ os) o = ap (λ b. is_back k x || b) (back-push k os o) ∙ or_assoc (is_back k x) (has_back k os) (is_back k o)

offer-push : (k : ℕ) (os : List Offer) (o : Offer) → has_offer k (os ++ o ∷ []) ≡ (has_offer k os || nat_eq o.to k)
offer-push k [] o = or_false (nat_eq o.to k)
offer-push k (x ∷ os) o = ap (λ b. nat_eq x.to k || b) (offer-push k os o) ∙ or_assoc (nat_eq x.to k) (has_offer k os) (nat_eq o.to k)

pub nothing_other : (k : ℕ) (os : List Offer) (o : Offer) → nat_eq o.to k ≡ false → NothingAfterBack k os → NothingAfterBack k (os ++ o ∷ [])
nothing_other k [] o off h = ((λ _. refl), tt)
nothing_other k (x ∷ os) o off h = ((λ b. offer-push k os o ∙ ap (λ t. t || nat_eq o.to k) (h.0 b) ∙ off), nothing_other k os o off h.1)

pub nothing_first : (k : ℕ) (os : List Offer) (o : Offer) → has_back k os ≡ false → NothingAfterBack k os → NothingAfterBack k (os ++ o ∷ [])
nothing_first k [] o none h = ((λ _. refl), tt)
nothing_first k (x ∷ os) o none h = let q = or_parts (is_back k x) (has_back k os) none in ((λ b. absurd (true≢false (sym b ∙ q.0))), nothing_first k os o q.1 h.1)

pub put-push : (k : ℕ) (os : List Offer) (o : Offer) → packets_put k (os ++ o ∷ []) ≡ packets_put k os ++ (if nat_eq o.to k && o.put then packet_in o.cargo else [])
put-push k [] o = append-nil (if nat_eq o.to k && o.put then packet_in o.cargo else [])
put-push k (x ∷ os) o =
    ap (λ ps. (if nat_eq x.to k && x.put then packet_in x.cargo else []) ++ ps) (put-push k os o)
    ∙ sym (append_assoc (if nat_eq x.to k && x.put then packet_in x.cargo else []) (packets_put k os) (if nat_eq o.to k && o.put then packet_in o.cargo else []))

pub life-push : (k : ℕ) (life : Option Life) (os : List Offer) (o : Offer) → AreOfLife k life os → (o.to ≡ k → IsOfLife life o.cargo) → AreOfLife k life (os ++ o ∷ [])
life-push k life [] o h f = (f, tt)
life-push k life (x ∷ os) o h f = (h.0, life-push k life os o h.1 f)

pub core-push : (c : CoreView) (is : List (Input × ℕ)) (input : Input) (now : ℕ) → core_after_all c (is ++ (input, now) ∷ []) ≡ core_after (core_after_all c is) input now
core-push c [] input now = refl
core-push c ((i, t) ∷ is) input now = core-push (core_after c i t) is input now

pub broadcast-push : (k : ℕ) (c : CoreView) (is : List (Input × ℕ)) (input : Input) (now : ℕ) →
    broadcast_to k c (is ++ (input, now) ∷ []) ≡ broadcast_to k c is ++ (if has_number k (core_after (core_after_all c is) input now).up then sends_of (core_after_all c is) input now else [])
broadcast-push k c [] input now = append-nil (if has_number k (core_after c input now).up then sends_of c input now else [])
broadcast-push k c ((i, t) ∷ is) input now =
    ap (λ ps. (if has_number k (core_after c i t).up then sends_of c i t else []) ++ ps) (broadcast-push k (core_after c i t) is input now)
    ∙ sym (append_assoc (if has_number k (core_after c i t).up then sends_of c i t else []) (broadcast_to k (core_after c i t) is) _)

pub down-push : (k : ℕ) (is : List (Input × ℕ)) (input : Input) (now : ℕ) → has_link_down k (is ++ (input, now) ∷ []) ≡ (has_link_down k is || is_link_down k input)
down-push k [] input now = or_false (is_link_down k input)
down-push k ((i, t) ∷ is) input now = ap (λ b. is_link_down k i || b) (down-push k is input now) ∙ or_assoc (is_link_down k i) (has_link_down k is) (is_link_down k input)

pub begins_more : (xs ys zs : List Packet) → Begins xs ys → Begins xs (ys ++ zs)
begins_more xs ys zs h = (h.0 ++ zs, sym (append_assoc xs h.0 zs) ∙ ap (λ ps. ps ++ zs) h.1)

pub begins_same : (xs ys : List Packet) → xs ≡ ys → Begins xs ys
begins_same xs ys e = ([], append-nil xs ∙ e)
