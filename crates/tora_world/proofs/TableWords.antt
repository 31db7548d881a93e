-- The terms of the table agree with those of the computing definition.
use Rattle.std.proofs.Common.{◌≡◌, ℕ, zero, suc, ◌<◌, Bool, true, false, true≢false, ◌&&◌, ◌||◌, ◌⊎◌, inl, inr, List, [], ◌∷◌, ◌++◌, length, Some, None, nat_eq, if◌then◌else◌, refl, sym, ap, ap₂, ◌∙◌, subst, slice_get, eqb-true, eq-eqb, ne_eqb, arith}
use Rattle.std.proofs.lemmas.Bool.{cases_Bool, or_parts}
use Rattle.std.proofs.lemmas.Option.{slice_get_past}
use mathlib.Core.Path.{fun_ext}
use Rattle.tora_frame.specs.FrameParts.{FrameParts}
use Rattle.tora_arq.specs.declared.link_event.LinkEvent.{LinkEvent}
use Rattle.tora_arq.specs.declared.link_event.LinkEvent.TheVariants as Link
use Rattle.tora_core.specs.Numbers.{has_number}
use Rattle.tora_life.specs.LifeRun.{LifeDisk}
use Rattle.tora_seat.specs.declared.what.What.{What}
use Rattle.tora_seat.specs.Serving.{put_one}
use Rattle.tora_world.specs.Topology.{is_link}
use Rattle.tora_world.specs.LinkMachine.{put_at}
use Rattle.tora_seat.specs.Between.{what_of}
use Rattle.tora_world.specs.World.{World, datagram, is_file_of}
use Rattle.tora_seat.specs.Offers.{place_of}
use Rattle.tora_world.specs.Frames.{ChangesAt, ChangesAtEnd, ChangesFiles}
use Rattle.tora_world.specs.Table.{IsDatagram, IsSeatOf, IsTold, up_told, packet_told, down_told}

-- ---- worlds

-- worlds with the same parts
pub same_world : (v w : World) → v.topology ≡ w.topology → v.times ≡ w.times → v.clock ≡ w.clock → v.seats ≡ w.seats → v.ends ≡ w.ends → v.files ≡ w.files → v.items ≡ w.items → v.counts ≡ w.counts
    → v.cargoes ≡ w.cargoes → v.arms ≡ w.arms → v.datagrams ≡ w.datagrams → v.put ≡ w.put → v.inputs ≡ w.inputs → v.steps ≡ w.steps → v ≡ w
same_world v w topology times clock seats ends files items counts cargoes arms datagrams put inputs steps = λ i. record {
  topology = topology i;
  times = times i;
  clock = clock i;
  seats = seats i;
  ends = ends i;
  files = files i;
  items = items i;
  counts = counts i;
  cargoes = cargoes i;
  arms = arms i;
  datagrams = datagrams i;
  put = put i;
  inputs = inputs i;
  steps = steps i;
}

pub both_true : (x y : Bool) → (x && y) ≡ true → (x ≡ true) × (y ≡ true)
both_true true y e = (refl, e)
both_true false y e = absurd (true≢false (sym e))

-- ---- one value changes

pub changes_one : {A : Type 0} (n : ℕ) (value : A) (old new : ℕ → A) → ChangesAt n value old new → new ≡ put_one old n value
changes_one n value old new h = fun_ext (λ a. go a (cases_Bool (nat_eq a n)))
  where
    go : (a : ℕ) → (nat_eq a n ≡ true) ⊎ (nat_eq a n ≡ false) → new a ≡ put_one old n value a
    go a (inl t) = ap new (eqb-true a n t) ∙ h.here ∙ sym (ap (λ (b : Bool). if b then value else old a) t)
    go a (inr f) = h.elsewhere a (λ q. true≢false (sym (eq-eqb a n q) ∙ f)) ∙ sym (ap (λ (b : Bool). if b then value else old a) f)

pub one_changes : {A : Type 0} (n : ℕ) (value : A) (old : ℕ → A) → ChangesAt n value old (put_one old n value)
one_changes n value old = record {
  here = ap (λ (b : Bool). if b then value else old n) (eq-eqb n n refl);
  elsewhere = λ a ne. ap (λ (b : Bool). if b then value else old a) (ne_eqb a n ne);
}

pub changes_end : {A : Type 0} (n k : ℕ) (value : A) (old new : ℕ → ℕ → A) → ChangesAtEnd n k value old new → new ≡ put_at old n k value
changes_end n k value old new h = fun_ext (λ a. fun_ext (λ b. go a b (cases_Bool (nat_eq a n && nat_eq b k))))
  where
    go : (a b : ℕ) → ((nat_eq a n && nat_eq b k) ≡ true) ⊎ ((nat_eq a n && nat_eq b k) ≡ false) → new a b ≡ put_at old n k value a b
    go a b (inl t) =
        let x = both_true (nat_eq a n) (nat_eq b k) t in
        ap₂ new (eqb-true a n x.0) (eqb-true b k x.1) ∙ h.here ∙ sym (ap (λ (z : Bool). if z then value else old a b) t)
    go a b (inr f) =
        h.elsewhere a b (λ q. true≢false (sym (ap₂ (λ x y. x && y) (eq-eqb a n q.0) (eq-eqb b k q.1)) ∙ f)) ∙ sym (ap (λ (z : Bool). if z then value else old a b) f)

not_both : (a b n k : ℕ) → ¬ ((a ≡ n) × (b ≡ k)) → (nat_eq a n && nat_eq b k) ≡ false
not_both a b n k ne = go (cases_Bool (nat_eq a n && nat_eq b k))
  where
    go : ((nat_eq a n && nat_eq b k) ≡ true) ⊎ ((nat_eq a n && nat_eq b k) ≡ false) → (nat_eq a n && nat_eq b k) ≡ false
    go (inl t) = let x = both_true (nat_eq a n) (nat_eq b k) t in absurd (ne (eqb-true a n x.0, eqb-true b k x.1))
    go (inr f) = f

pub end_changes : {A : Type 0} (n k : ℕ) (value : A) (old : ℕ → ℕ → A) → ChangesAtEnd n k value old (put_at old n k value)
end_changes n k value old = record {
  here = ap₂ (λ (x y : Bool). if x && y then value else old n k) (eq-eqb n n refl) (eq-eqb k k refl);
  elsewhere = λ a b ne. ap (λ (z : Bool). if z then value else old a b) (not_both a b n k ne);
}

-- putting an equal value changes nothing
pub one_same : {A : Type 0} (n : ℕ) (value : A) (old : ℕ → A) → value ≡ old n → put_one old n value ≡ old
one_same n value old e = sym (changes_one n value old old (record { here = sym e; elsewhere = λ a ne. refl }))

pub end_same : {A : Type 0} (n k : ℕ) (old : ℕ → ℕ → A) → put_at old n k (old n k) ≡ old
end_same n k old = sym (changes_end n k (old n k) old old (record { here = refl; elsewhere = λ a b ne. refl }))

-- a value for all ends of a node
pub ends_of : {A : Type 0} (n : ℕ) (value : A) (old : ℕ → ℕ → A) → put_one old n (λ k. value) ≡ (λ a k. if nat_eq a n then value else old a k)
ends_of n value old = fun_ext (λ a. fun_ext (λ k. go a k (nat_eq a n)))
  where
    go : (a k : ℕ) (b : Bool) → (if b then (λ j. value) else old a) k ≡ (if b then value else old a k)
    go a k true = refl
    go a k false = refl

pub files_change : (n : ℕ) (next : LifeDisk → LifeDisk) (w after : World) → ChangesFiles n next w after → after.files ≡ (λ a k. if is_file_of w n a k then next (w.files a k) else w.files a k)
files_change n next w after h = fun_ext (λ a. fun_ext (λ k. go a k (cases_Bool (is_file_of w n a k))))
  where
    go : (a k : ℕ) → (is_file_of w n a k ≡ true) ⊎ (is_file_of w n a k ≡ false) → after.files a k ≡ (if is_file_of w n a k then next (w.files a k) else w.files a k)
    go a k (inl t) =
        let x = both_true (nat_eq a n) (is_link w.topology a k) t in
        subst (λ m. is_link w.topology m k ≡ true → after.files m k ≡ next (w.files m k)) (sym (eqb-true a n x.0)) (h.own k) x.1
        ∙ sym (ap (λ (b : Bool). if b then next (w.files a k) else w.files a k) t)
    go a k (inr f) =
        h.others a k (λ q. true≢false (sym (ap₂ (λ x y. x && y) (eq-eqb a n q.0) (ap (λ m. is_link w.topology m k) q.0 ∙ q.1)) ∙ f))
        ∙ sym (ap (λ (b : Bool). if b then next (w.files a k) else w.files a k) f)

pub change_files : (n : ℕ) (next : LifeDisk → LifeDisk) (w after : World) → after.files ≡ (λ a k. if is_file_of w n a k then next (w.files a k) else w.files a k) → ChangesFiles n next w after
change_files n next w after e = record {
  own = λ k link. ap (λ (f : ℕ → ℕ → LifeDisk). f n k) e ∙ ap₂ (λ (x y : Bool). if x && y then next (w.files n k) else w.files n k) (eq-eqb n n refl) link;
  others = λ a b ne. ap (λ (f : ℕ → ℕ → LifeDisk). f a b) e ∙ ap (λ (z : Bool). if z then next (w.files a b) else w.files a b) (no_file a b ne);
}
  where
    no_file : (a b : ℕ) → ¬ ((a ≡ n) × (is_link w.topology n b ≡ true)) → is_file_of w n a b ≡ false
    no_file a b ne = go (cases_Bool (is_file_of w n a b))
      where
        go : (is_file_of w n a b ≡ true) ⊎ (is_file_of w n a b ≡ false) → is_file_of w n a b ≡ false
        go (inl t) = let x = both_true (nat_eq a n) (is_link w.topology a b) t in absurd (ne (eqb-true a n x.0, ap (λ m. is_link w.topology m b) (sym (eqb-true a n x.0)) ∙ x.1))
        go (inr f) = f

-- ---- datagrams

behind_them : (before behind : List FrameParts) (f : FrameParts) → slice_get (before ++ f ∷ behind) (length before) ≡ Some f
behind_them [] behind f = refl
behind_them (x ∷ before) behind f = behind_them before behind f

pub datagram_is : (w : World) (i : ℕ) (f : FrameParts) → IsDatagram w i f → datagram w i ≡ Some f
datagram_is w i f h = ap (datagram w) h.number ∙ ap (λ xs. slice_get xs (length h.before)) h.all ∙ behind_them h.before h.behind f

record Splits (xs : List FrameParts) (place : ℕ) (f : FrameParts) : Type 0 where
  before : List FrameParts
  behind : List FrameParts
  all : xs ≡ before ++ f ∷ behind
  number : place ≡ length before

splits : (xs : List FrameParts) (place : ℕ) (f : FrameParts) → slice_get xs place ≡ Some f → Splits xs place f
splits [] place f e = absurd (cc)
splits (x ∷ xs) zero f e = let q : x ≡ f = cc in record { before = []; behind = xs; all = ap (λ y. y ∷ xs) q; number = refl }
splits (x ∷ xs) (suc place) f e = let s = splits xs place f e in record { before = x ∷ s.before; behind = s.behind; all = ap (λ ys. x ∷ ys) s.all; number = ap suc s.number }

pub is_datagram : (w : World) (i : ℕ) (f : FrameParts) → datagram w i ≡ Some f → IsDatagram w i f
is_datagram w zero f e = absurd (cc)
is_datagram w (suc place) f e = let s = splits w.datagrams place f e in record { before = s.before; behind = s.behind; all = s.all; number = ap suc s.number }

none_past : (xs : List FrameParts) (place : ℕ) → slice_get xs place ≡ None → length xs < suc place
none_past [] place e = omega arith
none_past (x ∷ xs) zero e = absurd (cc)
none_past (x ∷ xs) (suc place) e = let h = none_past xs place e in omega (arith, h)

pub no_datagram_past : (w : World) (i : ℕ) → datagram w i ≡ None → (i ≡ 0) ⊎ (length w.datagrams < i)
no_datagram_past w zero e = inl refl
no_datagram_past w (suc place) e = inr (none_past w.datagrams place e)

pub past_no_datagram : (w : World) (i : ℕ) → (i ≡ 0) ⊎ (length w.datagrams < i) → datagram w i ≡ None
past_no_datagram w zero h = refl
past_no_datagram w (suc place) (inl e) = absurd (omega (arith, e))
past_no_datagram w (suc place) (inr lt) = slice_get_past w.datagrams place (omega (arith, lt))

-- ---- seats

placed : (k : ℕ) (before behind : List ℕ) → has_number k before ≡ false → place_of k (before ++ k ∷ behind) ≡ length before
placed k [] behind e = ap (λ (b : Bool). if b then 0 else suc (place_of k behind)) (eq-eqb k k refl)
placed k (j ∷ before) behind e =
    let x = or_parts (nat_eq j k) (has_number k before) e in
    ap (λ (b : Bool). if b then 0 else suc (place_of k (before ++ k ∷ behind))) x.0 ∙ ap suc (placed k before behind x.1)

pub seat_is : (k : ℕ) (ks : List ℕ) (seat : ℕ) → IsSeatOf k ks seat → place_of k ks ≡ seat
seat_is k ks seat h = ap (place_of k) h.all ∙ placed k h.before h.behind h.first ∙ sym h.place

pub is_seat : (k : ℕ) (ks : List ℕ) → has_number k ks ≡ true → IsSeatOf k ks (place_of k ks)
is_seat k [] e = absurd (true≢false (sym e))
is_seat k (j ∷ js) e = go (cases_Bool (nat_eq j k)) (λ h. is_seat k js h)
  where
    go : (nat_eq j k ≡ true) ⊎ (nat_eq j k ≡ false) → (has_number k js ≡ true → IsSeatOf k js (place_of k js)) → IsSeatOf k (j ∷ js) (place_of k (j ∷ js))
    go (inl t) rest = record { before = []; behind = js; all = ap (λ x. x ∷ js) (eqb-true j k t); first = refl; place = ap (λ (b : Bool). if b then 0 else suc (place_of k js)) t }
    go (inr f) rest =
        let s = rest (ap (λ (b : Bool). b || has_number k js) (sym f) ∙ e) in record {
          before = j ∷ s.before;
          behind = s.behind;
          all = ap (λ xs. j ∷ xs) s.all;
          first = ap (λ (b : Bool). b || has_number k s.before) f ∙ s.first;
          place = ap (λ (b : Bool). if b then 0 else suc (place_of k js)) f ∙ ap suc s.place;
        }

-- ---- reports

pub told_is : {event : LinkEvent} {what : What} → IsTold event what → what_of event ≡ what
told_is up_told = refl
told_is packet_told = refl
told_is down_told = refl

pub is_told : (event : LinkEvent) → IsTold event (what_of event)
is_told (Link.Up life) = up_told
is_told (Link.Deliver life packet) = packet_told
is_told (Link.Down life reason) = down_told
