-- The arrivals at a core: one more at the end, or one fewer at the front.
use Rattle.tora_packet.specs.declared.Packet.{Packet}
use Rattle.std.proofs.Common.{◌≡◌, ℕ, ◌<◌, ◌≤◌, Bool, true, false, ◌&&◌, inr, if◌then◌else◌, map, List, [], ◌∷◌, ◌++◌, refl, sym, ap, ◌∙◌, subst, append_assoc, arith}
use Rattle.tora_arq.specs.declared.life.Life.{Life}
use Rattle.tora_arq.specs.Lives.{is_same_life}
use Rattle.tora_world.specs.Lists.{Each}
use Rattle.tora_world.proofs.PacketLists.{same_false, Each_at}
use Rattle.tora_world.proofs.Invariant.{Arrival, given, awaited, lives, AreRising, ComesOf}
use Rattle.tora_world.proofs.Invariant.Arrival.{LifeComes, PacketComes, OtherComes}

pub awaited-append : (l : Life) (b : Bool) (q r : List Arrival) → awaited l b (q ++ r) ≡ awaited l b q ++ awaited l (lives l b q) r
awaited-append l b [] r = refl
awaited-append l b (LifeComes j ∷ q) r = awaited-append l (is_same_life l j) q r
awaited-append l b (PacketComes j p ∷ q) r = ap (λ xs. given l b j p ++ xs) (awaited-append l b q r) ∙ sym (append_assoc (given l b j p) (awaited l b q) (awaited l (lives l b q) r))
awaited-append l b (OtherComes ∷ q) r = awaited-append l b q r

pub lives-append : (l : Life) (b : Bool) (q r : List Arrival) → lives l b (q ++ r) ≡ lives l (lives l b q) r
lives-append l b [] r = refl
lives-append l b (LifeComes j ∷ q) r = lives-append l (is_same_life l j) q r
lives-append l b (PacketComes j p ∷ q) r = lives-append l b q r
lives-append l b (OtherComes ∷ q) r = lives-append l b q r

-- if this session does not come up among the arrivals, packets of it are taken only while it is current
pub lives_off : (l : Life) (n : ℕ) (q : List Arrival) → l.own ≤ n → AreRising n q → lives l false q ≡ false
lives_off l n [] h r = refl
lives_off l n (LifeComes j ∷ q) h r = subst (λ b. lives l b q ≡ false) (sym (same_false l j (λ e. absurd (let o : l.own ≡ j.own = ap (λ (x : Life). x.own) e in omega (arith, o, r.0))))) (lives_off l j.own q (omega (arith, r.0)) r.1)
lives_off l n (PacketComes j p ∷ q) h r = lives_off l n q h r
lives_off l n (OtherComes ∷ q) h r = lives_off l n q h r

pub awaited_off : (l : Life) (n : ℕ) (q : List Arrival) → l.own ≤ n → AreRising n q → awaited l false q ≡ []
awaited_off l n [] h r = refl
awaited_off l n (LifeComes j ∷ q) h r = subst (λ b. awaited l b q ≡ []) (sym (same_false l j (λ e. absurd (let o : l.own ≡ j.own = ap (λ (x : Life). x.own) e in omega (arith, o, r.0))))) (awaited_off l j.own q (omega (arith, r.0)) r.1)
awaited_off l n (PacketComes j p ∷ q) h r = awaited_off l n q h r
awaited_off l n (OtherComes ∷ q) h r = awaited_off l n q h r

-- nothing is awaited of a session above all sessions that come up
pub awaited_new : (l : Life) (ls : List Life) (q : List Arrival) → Each (λ j. j.own < l.own) ls → ComesOf ls q → awaited l false q ≡ []
awaited_new l ls [] h c = refl
awaited_new l ls (LifeComes j ∷ q) h c = subst (λ b. awaited l b q ≡ []) (sym (same_false l j (λ e. absurd (let o : l.own ≡ j.own = ap (λ (x : Life). x.own) e in let b : j.own < l.own = Each_at (λ (j : Life). j.own < l.own) ls j h c.0 in omega arith)))) (awaited_new l ls q h c.1)
awaited_new l ls (PacketComes j p ∷ q) h c = awaited_new l ls q h c
awaited_new l ls (OtherComes ∷ q) h c = awaited_new l ls q h c

pub Rises_weaken : (m n : ℕ) (q : List Arrival) → m ≤ n → AreRising n q → AreRising m q
Rises_weaken m n [] h r = tt
Rises_weaken m n (LifeComes l ∷ q) h r = (omega (arith, r.0), r.1)
Rises_weaken m n (PacketComes l p ∷ q) h r = Rises_weaken m n q h r
Rises_weaken m n (OtherComes ∷ q) h r = Rises_weaken m n q h r

-- the last arrival may be a session above all others
pub Rises_push : (n : ℕ) (ls : List Life) (q : List Arrival) (l : Life) → n < l.own → Each (λ j. j.own < l.own) ls → ComesOf ls q → AreRising n q → AreRising n (q ++ LifeComes l ∷ [])
Rises_push n ls [] l h b c r = (h, tt)
Rises_push n ls (LifeComes j ∷ q) l h b c r = (r.0, Rises_push j.own ls q l (Each_at (λ (j : Life). j.own < l.own) ls j b c.0) b c.1 r.1)
Rises_push n ls (PacketComes j p ∷ q) l h b c r = Rises_push n ls q l h b c r
Rises_push n ls (OtherComes ∷ q) l h b c r = Rises_push n ls q l h b c r

pub Rises-append : (n : ℕ) (q : List Arrival) (l : Life) (p : Packet) → AreRising n q → AreRising n (q ++ PacketComes l p ∷ [])
Rises-append n [] l p r = tt
Rises-append n (LifeComes j ∷ q) l p r = (r.0, Rises-append j.own q l p r.1)
Rises-append n (PacketComes j x ∷ q) l p r = Rises-append n q l p r
Rises-append n (OtherComes ∷ q) l p r = Rises-append n q l p r

pub Rises_rest : (n : ℕ) (q : List Arrival) → AreRising n q → AreRising n (q ++ OtherComes ∷ [])
Rises_rest n [] r = tt
Rises_rest n (LifeComes j ∷ q) r = (r.0, Rises_rest j.own q r.1)
Rises_rest n (PacketComes j x ∷ q) r = Rises_rest n q r
Rises_rest n (OtherComes ∷ q) r = Rises_rest n q r

pub Comes-append : (ls : List Life) (q r : List Arrival) → ComesOf ls q → ComesOf ls r → ComesOf ls (q ++ r)
Comes-append ls [] r c d = d
Comes-append ls (LifeComes l ∷ q) r c d = (c.0, Comes-append ls q r c.1 d)
Comes-append ls (PacketComes l p ∷ q) r c d = Comes-append ls q r c d
Comes-append ls (OtherComes ∷ q) r c d = Comes-append ls q r c d

pub Comes_more : (l : Life) (ls : List Life) (q : List Arrival) → ComesOf ls q → ComesOf (l ∷ ls) q
Comes_more l ls [] c = tt
Comes_more l ls (LifeComes j ∷ q) c = (inr c.0, Comes_more l ls q c.1)
Comes_more l ls (PacketComes j p ∷ q) c = Comes_more l ls q c
Comes_more l ls (OtherComes ∷ q) c = Comes_more l ls q c

-- no session comes up among the arrivals
abbrev pub BringsNoLife : List Arrival → Type 0
BringsNoLife [] = Unit {0}
BringsNoLife (LifeComes l ∷ q) = ⊥
BringsNoLife (PacketComes l p ∷ q) = BringsNoLife q
BringsNoLife (OtherComes ∷ q) = BringsNoLife q

pub Rises_quiet : (n : ℕ) (q r : List Arrival) → BringsNoLife r → AreRising n q → AreRising n (q ++ r)
Rises_quiet n [] [] k h = tt
Rises_quiet n [] (LifeComes l ∷ r) k h = absurd k
Rises_quiet n [] (PacketComes l p ∷ r) k h = Rises_quiet n [] r k h
Rises_quiet n [] (OtherComes ∷ r) k h = Rises_quiet n [] r k h
Rises_quiet n (LifeComes j ∷ q) r k h = (h.0, Rises_quiet j.own q r k h.1)
Rises_quiet n (PacketComes j x ∷ q) r k h = Rises_quiet n q r k h
Rises_quiet n (OtherComes ∷ q) r k h = Rises_quiet n q r k h

Comes_of_quiet : (ls : List Life) (r : List Arrival) → BringsNoLife r → ComesOf ls r
Comes_of_quiet ls [] k = tt
Comes_of_quiet ls (LifeComes l ∷ r) k = absurd k
Comes_of_quiet ls (PacketComes l p ∷ r) k = Comes_of_quiet ls r k
Comes_of_quiet ls (OtherComes ∷ r) k = Comes_of_quiet ls r k

pub Comes_quiet : (ls : List Life) (q r : List Arrival) → BringsNoLife r → ComesOf ls q → ComesOf ls (q ++ r)
Comes_quiet ls q r k c = Comes-append ls q r c (Comes_of_quiet ls r k)

pub gives_quiet : (l : Life) (ps : List Packet) → BringsNoLife (map (PacketComes l) ps)
gives_quiet l [] = tt
gives_quiet l (p ∷ ps) = gives_quiet l ps

either_way : (t : Bool) (xs : List Packet) → xs ≡ (if t then xs else xs)
either_way true xs = refl
either_way false xs = refl

pub awaited_gives : (j l : Life) (b : Bool) (ps : List Packet) → awaited j b (map (PacketComes l) ps) ≡ (if b && is_same_life j l then ps else [])
awaited_gives j l b [] = either_way (b && is_same_life j l) []
awaited_gives j l b (p ∷ ps) = ap (λ xs. given j b l p ++ xs) (awaited_gives j l b ps) ∙ go (b && is_same_life j l)
  where
    go : (t : Bool) → (if t then p ∷ [] else []) ++ (if t then ps else []) ≡ (if t then p ∷ ps else [])
    go true = refl
    go false = refl

pub lives_gives : (j l : Life) (b : Bool) (ps : List Packet) → lives j b (map (PacketComes l) ps) ≡ b
lives_gives j l b [] = refl
lives_gives j l b (p ∷ ps) = lives_gives j l b ps
