-- An arrival that reports no session changes nothing in the invariant.
use Rattle.std.proofs.Common.{◌≡◌, ℕ, Bool, List, [], ◌∷◌, ◌++◌, length, ap, ◌∙◌, refl, sym, subst}
use Rattle.tora_arq.specs.declared.life.Life.{Life}
use Rattle.tora_arq.specs.Lives.{is_same_life, reversed}
use Rattle.tora_seat.specs.Serving.{Parcel}
use Rattle.tora_world.specs.Lists.{packets_of, Begins}
use Rattle.tora_world.specs.LinkMachine.{MachineEnd}
use Rattle.tora_world.proofs.Invariant.{Arrival, EndView, awaited, lives, given, is_the_current, AreRising, ComesOf, Counted, FollowsMachine, number_of}
use Rattle.tora_world.proofs.Invariant.Arrival.{LifeComes, PacketComes, OtherComes}
use Rattle.tora_world.proofs.Moves.{phase_counted, coming_is, counted_is}

awaited_silent : (l : Life) (live : Bool) (q r : List Arrival) → awaited l live (q ++ OtherComes ∷ r) ≡ awaited l live (q ++ r)
awaited_silent l live [] r = refl
awaited_silent l live (LifeComes j ∷ q) r = awaited_silent l (is_same_life l j) q r
awaited_silent l live (PacketComes j p ∷ q) r = ap (λ ps. given l live j p ++ ps) (awaited_silent l live q r)
awaited_silent l live (OtherComes ∷ q) r = awaited_silent l live q r

lives_silent : (l : Life) (live : Bool) (q r : List Arrival) → lives l live (q ++ OtherComes ∷ r) ≡ lives l live (q ++ r)
lives_silent l live [] r = refl
lives_silent l live (LifeComes j ∷ q) r = lives_silent l (is_same_life l j) q r
lives_silent l live (PacketComes j p ∷ q) r = lives_silent l live q r
lives_silent l live (OtherComes ∷ q) r = lives_silent l live q r

rises_silent : (n : ℕ) (q r : List Arrival) → AreRising n (q ++ r) → AreRising n (q ++ OtherComes ∷ r)
rises_silent n [] r h = h
rises_silent n (LifeComes l ∷ q) r h = (h.0, rises_silent l.own q r h.1)
rises_silent n (PacketComes l p ∷ q) r h = rises_silent n q r h
rises_silent n (OtherComes ∷ q) r h = rises_silent n q r h

comes_silent : (ls : List Life) (q r : List Arrival) → ComesOf ls (q ++ r) → ComesOf ls (q ++ OtherComes ∷ r)
comes_silent ls [] r h = h
comes_silent ls (LifeComes l ∷ q) r h = (h.0, comes_silent ls q r h.1)
comes_silent ls (PacketComes l p ∷ q) r h = comes_silent ls q r h
comes_silent ls (OtherComes ∷ q) r h = comes_silent ls q r h

-- such an arrival at any place among the arrivals
pub silent_comes : (v : EndView) (p : MachineEnd) (other : List Parcel) (done : Life → ℕ → Type 0) (q r : List Arrival) → v.coming ≡ q ++ r → FollowsMachine v p other done → FollowsMachine (record v { coming = q ++ OtherComes ∷ r }) p other done
silent_comes v p other done q r e h =
    let f = coming_is e h in record {
      kept = h.kept;
      histories = h.histories;
      arriving = record {
        latest = f.latest;
        was_bound = f.was_bound;
        now = f.now;
        comes = comes_silent p.bound q r f.comes;
        rises = rises_silent (number_of f.latest) q r f.rises;
        older = f.older;
        taken_before = f.taken_before;
        over = f.over;
        chain = λ l. subst (λ ps. Begins (packets_of l v.taken ++ ps) (packets_of (reversed l) other)) (sym (awaited_silent l (is_the_current l v.current) q r)) (f.chain l);
      };
      phase = phase_counted v p p other done v.current (q ++ OtherComes ∷ r) v.taken refl refl (λ l c. counted l (counted_is v (q ++ r) e l c)) v.endpoint.phase h.phase;
    }
  where
    counted : (l : Life) → Counted l v.endpoint.accepted v.current (q ++ r) v.taken → Counted l v.endpoint.accepted v.current (q ++ OtherComes ∷ r) v.taken
    counted l c on =
        ap (λ ps. length (packets_of l v.taken ++ ps)) (awaited_silent l (is_the_current l v.current) q r) ∙ c (sym (lives_silent l (is_the_current l v.current) q r) ∙ on)
