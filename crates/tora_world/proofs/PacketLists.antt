-- Lists of packets by session, prefixes, places, and a value for each pair of nodes.
use Rattle.tora_packet.specs.declared.Packet.{Packet}
use Rattle.std.proofs.Common.{◌≡◌, ◌≢◌, ℕ, zero, suc, ◌+◌, Bool, true, false, true≢false, ◌&&◌, inl, inr, ⊎_elim, List, [], ◌∷◌, ◌++◌, length, Some, nat_eq, if◌then◌else◌, refl, sym, ap, ◌∙◌, subst, append_assoc, append-nil, eqb-true, eq-eqb, arith, length-append}
use Rattle.std.proofs.lemmas.Bool.{and_parts, and_from, cases_Bool, false_from_ne_true}
use Rattle.tora_arq.specs.declared.life.Life.{Life}
use Rattle.std.specs.Prelude.{slice_get}
use Rattle.tora_arq.specs.Lives.{is_same_life}
use Rattle.tora_arq.specs.LinkFacts.{AreFrom, IsPacketAt}
use Rattle.tora_seat.specs.Serving.{Parcel}
use Rattle.tora_world.specs.Lists.{packet_where, packets_of, Begins, IsIn, Each}
use Rattle.tora_world.specs.LinkMachine.{put_at}

pub same_refl : (l : Life) → is_same_life l l ≡ true
same_refl l = and_from _ _ (eq-eqb l.own l.own refl) (eq-eqb l.peer l.peer refl)

pub same_true : (l m : Life) → is_same_life l m ≡ true → l ≡ m
same_true l m e =
    let h = and_parts _ _ e in
    let p : l.own ≡ m.own = eqb-true _ _ h.0 in
    let q : l.peer ≡ m.peer = eqb-true _ _ h.1 in
    λ i. record { own = p i; peer = q i }

pub same_false : (l m : Life) → l ≢ m → is_same_life l m ≡ false
same_false l m n = false_from_ne_true _ (λ e. n (same_true l m e))

-- the value at the one pair, or the old value
pub put_cases {ℓ} : {A : Type 0} (P : ℕ → ℕ → A → Type ℓ) (f : ℕ → ℕ → A) (n k : ℕ) (v : A) → P n k v → ((a b : ℕ) → P a b (f a b)) → (a b : ℕ) → P a b (put_at f n k v a b)
put_cases P f n k v here there a b =
    cond_both_up (nat_eq a n && nat_eq b k) v (f a b) (P a b)
    (λ e. let h = and_parts _ _ e in subst (λ x. P x b v) (sym (eqb-true _ _ h.0)) (subst (λ y. P n y v) (sym (eqb-true _ _ h.1)) here))
    (λ _. there a b)
  where
    cond_both_up : {A : Type 0} (b : Bool) (x y : A) (Q : A → Type ℓ) → (b ≡ true → Q x) → (b ≡ false → Q y) → Q (if b then x else y)
    cond_both_up true x y Q t f = t refl
    cond_both_up false x y Q t f = f refl

pub put_here : {A : Type 0} (f : ℕ → ℕ → A) (n k : ℕ) (v : A) → put_at f n k v n k ≡ v
put_here f n k v = ap (λ b. if b then v else f n k) (and_from _ _ (eq-eqb n n refl) (eq-eqb k k refl))

pub of-append : (l : Life) (xs ys : List Parcel) → packets_of l (xs ++ ys) ≡ packets_of l xs ++ packets_of l ys
of-append l [] ys = refl
of-append l (x ∷ xs) ys = ap (λ zs. packet_where l x ++ zs) (of-append l xs ys) ∙ sym (append_assoc (packet_where l x) (packets_of l xs) (packets_of l ys))

pub of-push : (l : Life) (xs : List Parcel) (x : Parcel) → packets_of l (xs ++ x ∷ []) ≡ packets_of l xs ++ packet_where l x
of-push l xs x = of-append l xs (x ∷ []) ∙ ap (λ zs. packets_of l xs ++ zs) (append-nil (packet_where l x))

-- one more packet is the last one of its own session, and changes no other session
pub of_push_both : (Q : List Packet → Type 0) (l : Life) (xs : List Parcel) (x : Parcel) → (l ≡ x.life → Q (packets_of l xs ++ x.packet ∷ [])) → (l ≢ x.life → Q (packets_of l xs)) → Q (packets_of l (xs ++ x ∷ []))
of_push_both Q l xs x mine other =
    subst Q (sym (of-push l xs x))
    (⊎_elim
    (λ (e : is_same_life l x.life ≡ true). subst (λ b. Q (packets_of l xs ++ (if b then x.packet ∷ [] else []))) (sym e) (mine (same_true l x.life e)))
    (λ (e : is_same_life l x.life ≡ false). subst (λ b. Q (packets_of l xs ++ (if b then x.packet ∷ [] else []))) (sym e) (subst Q (sym (append-nil (packets_of l xs))) (other (λ q. true≢false (sym (subst (λ y. is_same_life l y ≡ true) q (same_refl l)) ∙ e)))))
    (cases_Bool (is_same_life l x.life)))

pub only_same : (l : Life) (p : Packet) → packet_where l (record { life = l; packet = p }) ≡ p ∷ []
only_same l p = ap (λ b. if b then p ∷ [] else []) (same_refl l)

pub only_other : (l : Life) (x : Parcel) → l ≢ x.life → packet_where l x ≡ []
only_other l x n = ap (λ b. if b then x.packet ∷ [] else []) (same_false l x.life n)

pub begins_refl : (xs : List Packet) → Begins xs xs
begins_refl xs = ([], append-nil xs)

pub begins_nil : (xs : List Packet) → Begins [] xs
begins_nil xs = (xs, refl)

pub begins_trans : (xs ys zs : List Packet) → Begins xs ys → Begins ys zs → Begins xs zs
begins_trans xs ys zs p q = (p.0 ++ q.0, sym (append_assoc xs p.0 q.0) ∙ ap (λ ws. ws ++ q.0) p.1 ∙ q.1)

pub begins_append : (xs ys : List Packet) → Begins xs (xs ++ ys)
begins_append xs ys = (ys, refl)

-- a prefix of a prefix
pub begins_front : (xs ys zs : List Packet) → Begins (xs ++ ys) zs → Begins xs zs
begins_front xs ys zs p = (ys ++ p.0, sym (append_assoc xs ys p.0) ∙ p.1)

-- an element at a place is at that place in a longer list
pub at_begins : (xs ys : List Packet) (i : ℕ) (p : Packet) → Begins xs ys → slice_get xs i ≡ Some p → slice_get ys i ≡ Some p
at_begins xs ys i p b e = subst (λ zs. slice_get zs i ≡ Some p) b.1 (go xs b.0 i e)
  where
    go : (xs zs : List Packet) (i : ℕ) → slice_get xs i ≡ Some p → slice_get (xs ++ zs) i ≡ Some p
    go [] zs i e = absurd (cc)
    go (x ∷ xs) zs zero e = e
    go (x ∷ xs) zs (suc i) e = go xs zs i e

-- the next element may be added to a prefix
pub begins_more : (xs ys : List Packet) (p : Packet) → Begins xs ys → slice_get ys (length xs) ≡ Some p → Begins (xs ++ p ∷ []) ys
begins_more xs ys p b e = go xs b.0 ys b.1 e
  where
    go : (xs rest ys : List Packet) → xs ++ rest ≡ ys → slice_get ys (length xs) ≡ Some p → Begins (xs ++ p ∷ []) ys
    go [] rest [] e h = absurd (cc)
    go [] rest (y ∷ ys) e h = let q : p ≡ y = cc in (ys, ap (λ x. x ∷ ys) q)
    go (x ∷ xs) rest [] e h = absurd (cc)
    go (x ∷ xs) rest (y ∷ ys) e h =
        let q : x ≡ y = cc in
        let r = go xs rest ys (cc) h in (r.0, ap (λ zs. x ∷ zs) r.1 ∙ ap (λ x. x ∷ ys) q)

-- the elements after a prefix of this length
pub at_middle : (xs ys : List Packet) (i : ℕ) → slice_get (xs ++ ys) (length xs + i) ≡ slice_get ys i
at_middle [] ys i = ap (slice_get ys) (omega arith)
at_middle (x ∷ xs) ys i = let e : suc (length xs) + i ≡ suc (length xs + i) = omega arith in ap (slice_get (x ∷ (xs ++ ys))) e ∙ at_middle xs ys i

pub Each_mono : {A : Type 0} (P Q : A → Type 0) → ((x : A) → P x → Q x) → (xs : List A) → Each P xs → Each Q xs
Each_mono P Q f [] h = tt
Each_mono P Q f (x ∷ xs) h = (f x h.0, Each_mono P Q f xs h.1)

pub Each_at : {A : Type 0} (P : A → Type 0) (xs : List A) (x : A) → Each P xs → IsIn x xs → P x
Each_at P [] x h i = absurd i
Each_at P (y ∷ ys) x h i = ⊎_elim (λ e. subst P (sym e) h.0) (λ j. Each_at P ys x h.1 j) i

pub Each_from : {A : Type 0} (P : A → Type 0) (xs : List A) → ((x : A) → IsIn x xs → P x) → Each P xs
Each_from P [] f = tt
Each_from P (x ∷ xs) f = (f x (inl refl), Each_from P xs (λ y i. f y (inr i)))

abbrev pub at_pair : ℕ → ℕ → ℕ → ℕ → Bool
at_pair n k a b = nat_eq a n && nat_eq b k

pub put_there : {A : Type 0} (f : ℕ → ℕ → A) (n k : ℕ) (v : A) (a b : ℕ) → at_pair n k a b ≡ false → put_at f n k v a b ≡ f a b
put_there f n k v a b e = ap (λ t. if t then v else f a b) e

-- at the one pair, and at every other
pub by_pair : (P : ℕ → ℕ → Type 0) (n k : ℕ) → P n k → ((a b : ℕ) → at_pair n k a b ≡ false → P a b) → (a b : ℕ) → P a b
by_pair P n k here there a b =
    ⊎_elim
    (λ (e : at_pair n k a b ≡ true). let h = and_parts _ _ e in subst (λ x. P x b) (sym (eqb-true a n h.0)) (subst (λ y. P n y) (sym (eqb-true b k h.1)) here))
    (λ (e : at_pair n k a b ≡ false). there a b e)
    (cases_Bool (at_pair n k a b))

-- the next elements may be added to a prefix
pub begins_many : (xs ys ps : List Packet) → Begins xs ys → AreFrom (IsPacketAt ys) (length xs) ps → Begins (xs ++ ps) ys
begins_many xs ys [] b f = subst (λ zs. Begins zs ys) (sym (append-nil xs)) b
begins_many xs ys (p ∷ ps) b f =
    let e : suc (length xs) ≡ length (xs ++ p ∷ []) = omega (arith, length-append xs (p ∷ [])) in
    subst (λ zs. Begins zs ys) (append_assoc xs (p ∷ []) ps)
    (begins_many (xs ++ p ∷ []) ys ps (begins_more xs ys p b f.0) (subst (λ n. AreFrom (IsPacketAt ys) n ps) e f.1))
