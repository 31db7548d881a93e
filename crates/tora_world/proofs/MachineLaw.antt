-- In every run of the machine, what was taken is a prefix of what was sent.
use Rattle.std.proofs.Common.{◌≡◌, ℕ, List, [], ◌∷◌, length, Some, sym, subst}
use Rattle.tora_arq.specs.declared.life.Life.{Life}
use Rattle.std.specs.Prelude.{slice_get}
use Rattle.tora_world.specs.Lists.{packets_of, Begins}
use Rattle.tora_arq.specs.Lives.{reversed}
use Rattle.tora_world.specs.LinkMachine.{put_at, MachineEnd, MachineStep, Machine, MayStep, after_machine_step, machine_after, IsMachineRun, drawing, binding, sending, taking, closing}
use Rattle.tora_world.specs.LinkMachine.MachineStep.{Draw, Bind, Send, Take, Close}
use Rattle.tora_world.proofs.PacketLists.{put_cases, of_push_both, begins_refl, begins_nil, begins_trans, begins_append, begins_more}

abbrev pub Prefix : Machine → Type 0
Prefix m = (n k : ℕ) (l : Life) → Begins (packets_of l (m n k).taken) (packets_of (reversed l) (m k n).sent)

-- a change at one pair that removes nothing sent, and takes no more than was sent
keeps : (m : Machine) (n k : ℕ) (p : MachineEnd) → Prefix m → ((l : Life) → Begins (packets_of l (m n k).sent) (packets_of l p.sent)) → ((l : Life) → Begins (packets_of l p.taken) (packets_of (reversed l) (m k n).sent)) → Prefix (put_at m n k p)
keeps m n k p h sent taken a b l =
    let grown = put_cases (λ c d (x : MachineEnd). (l : Life) → Begins (packets_of l (m c d).sent) (packets_of l x.sent)) m n k p sent (λ c d l. begins_refl (packets_of l (m c d).sent)) in
    let begun = put_cases (λ c d (x : MachineEnd). (l : Life) → Begins (packets_of l x.taken) (packets_of (reversed l) (m d c).sent)) m n k p taken h in
    begins_trans _ _ _ (begun a b l) (grown b a (reversed l))

step : (m : Machine) (s : MachineStep) → MayStep m s → Prefix m → Prefix (after_machine_step m s)
step m (Draw n k x) ok h = keeps m n k (drawing (m n k) x) h (λ l. begins_refl (packets_of l (m n k).sent)) (h n k)
step m (Bind n k x y) ok h = keeps m n k (binding (m n k) (record { own = x; peer = y })) h (λ l. begins_refl (packets_of l (m n k).sent)) (h n k)
step m (Close n k l) ok h = keeps m n k (closing (m n k) l) h (λ l. begins_refl (packets_of l (m n k).sent)) (h n k)
step m (Send n k l p) ok h =
    keeps m n k (sending (m n k) (record { life = l; packet = p })) h
    (λ j. of_push_both (λ xs. Begins (packets_of j (m n k).sent) xs) j (m n k).sent (record { life = l; packet = p }) (λ _. begins_append (packets_of j (m n k).sent) (p ∷ [])) (λ _. begins_refl (packets_of j (m n k).sent)))
    (h n k)
step m (Take n k l p) ok h =
    keeps m n k (taking (m n k) (record { life = l; packet = p })) h
    (λ j. begins_refl (packets_of j (m n k).sent))
    (λ j. of_push_both (λ xs. Begins xs (packets_of (reversed j) (m k n).sent)) j (m n k).taken (record { life = l; packet = p })
    (λ e. begins_more (packets_of j (m n k).taken) (packets_of (reversed j) (m k n).sent) p (h n k j) (subst (λ (i : Life). slice_get (packets_of (reversed i) (m k n).sent) (length (packets_of i (m n k).taken)) ≡ Some p) (sym e) ok.2))
    (λ _. h n k j))

pub machine_keeps : (steps : List MachineStep) → IsMachineRun steps → Prefix (machine_after steps)
machine_keeps [] ok = λ n k l. begins_nil []
machine_keeps (s ∷ ss) ok = step (machine_after ss) s ok.0 (machine_keeps ss ok.1)
