-- A life file may become any file that draws no number which it could not draw itself: the change that turns the first
-- file into the second, and leaves every other file as it is, allows no number again.
use Rattle.std.proofs.Common.{◌≡◌, ℕ, Bool, true, false, true≢false, List, [], ◌∷◌, Option, Some, None, refl, sym, ap, ap₂, ◌∙◌, subst}
use native.Mathlib.Decide.{ℕ_discrete}
use Rattle.tora_life.specs.declared.numbers.Numbers.{Numbers}
use Rattle.tora_life.specs.declared.state.State.{State}
use Rattle.tora_life.specs.declared.tags.Owner.{Owner}
use Rattle.tora_life.specs.LifeRun.LifeDisk.{Opened, Unopened}
use Rattle.tora_life.specs.LifeRun.{LifeDisk, LifeEvent, IsFloor, MayHappen, after_event}
use Rattle.tora_world.specs.FreeWorld.{MayBecome}
use Rattle.tora_world.specs.Layers.{LifeLaws}

-- ---- whether two files are equal

-- equality is decidable if it is for the parts
discrete_by : {A B : Type 0} (parts : A → B) (whole : B → A) → ((a : A) → whole (parts a) ≡ a) → Discrete B → Discrete A
discrete_by {A} {B} parts whole is dec a b = go (dec (parts a) (parts b))
  where
    go : Dec (parts a ≡ parts b) → Dec (a ≡ b)
    go (yes e) = yes (sym (is a) ∙ ap whole e ∙ is b)
    go (no n) = no (λ e. n (ap parts e))

discrete_both : {A B : Type 0} → Discrete A → Discrete B → Discrete (A × B)
discrete_both {A} {B} one other p q = go (one p.0 q.0) (other p.1 q.1)
  where
    go : Dec (p.0 ≡ q.0) → Dec (p.1 ≡ q.1) → Dec (p ≡ q)
    go (yes e) (yes f) = yes (λ i. (e i, f i))
    go (yes e) (no n) = no (λ r. n (ap (λ (x : A × B). x.1) r))
    go (no n) s = no (λ r. n (ap (λ (x : A × B). x.0) r))

discrete_bool : Discrete Bool
discrete_bool true true = yes refl
discrete_bool true false = no true≢false
discrete_bool false true = no (λ e. true≢false (sym e))
discrete_bool false false = yes refl

discrete_list : {A : Type 0} → Discrete A → Discrete (List A)
discrete_list dec [] [] = yes refl
discrete_list dec [] (y ∷ ys) = no (λ e. cc)
discrete_list dec (x ∷ xs) [] = no (λ e. cc)
discrete_list dec (x ∷ xs) (y ∷ ys) = go (dec x y) (discrete_list dec xs ys)
  where
    go : Dec (x ≡ y) → Dec (xs ≡ ys) → Dec (x ∷ xs ≡ y ∷ ys)
    go (yes e) (yes f) = yes (ap₂ (λ z zs. z ∷ zs) e f)
    go (yes e) (no n) = no (λ r. n (let s : xs ≡ ys = cc in s))
    go (no n) d = no (λ r. n (let s : x ≡ y = cc in s))

discrete_option : {A : Type 0} → Discrete A → Discrete (Option A)
discrete_option {A} dec = discrete_by items first is (discrete_list dec)
  where
    items : Option A → List A
    items None = []
    items (Some x) = x ∷ []

    first : List A → Option A
    first [] = None
    first (x ∷ xs) = Some x

    is : (o : Option A) → first (items o) ≡ o
    is None = refl
    is (Some x) = refl

discrete_owner : Discrete Owner
discrete_owner = discrete_by (λ o. (o.node, o.peer)) (λ p. record { node = p.0; peer = p.1 }) (λ o. refl) (discrete_both ℕ_discrete ℕ_discrete)

discrete_numbers : Discrete Numbers
discrete_numbers =
    discrete_by (λ m. (m.first, (m.second, (m.drawn, m.failed)))) (λ p. record { first = p.0; second = p.1.0; drawn = p.1.1.0; failed = p.1.1.1 }) (λ m. refl)
    (discrete_both ℕ_discrete (discrete_both ℕ_discrete (discrete_both ℕ_discrete discrete_bool)))

abbrev StateParts : Type 0
StateParts = List ℕ × (ℕ × (List ℕ × (ℕ × (List Bool × (ℕ × (Bool × (Bool × (Bool × ℕ))))))))

abbrev state_parts : State → StateParts
state_parts s = (s.bytes, (s.len, (s.synced, (s.synced_len, (s.written, (s.reach, (s.read_fails, (s.write_fails, (s.sync_fails, s.failures)))))))))

abbrev state_whole : StateParts → State
state_whole (bytes, (len, (synced, (synced_len, (written, (reach, (read_fails, (write_fails, (sync_fails, failures))))))))) = record {
  bytes = bytes;
  len = len;
  synced = synced;
  synced_len = synced_len;
  written = written;
  reach = reach;
  read_fails = read_fails;
  write_fails = write_fails;
  sync_fails = sync_fails;
  failures = failures;
}

discrete_state : Discrete State
discrete_state =
    let flags : Discrete (Bool × (Bool × (Bool × ℕ))) = discrete_both discrete_bool (discrete_both discrete_bool (discrete_both discrete_bool ℕ_discrete)) in
    discrete_by state_parts state_whole (λ s. refl)
    (discrete_both (discrete_list ℕ_discrete) (discrete_both ℕ_discrete (discrete_both (discrete_list ℕ_discrete) (discrete_both ℕ_discrete (discrete_both (discrete_list discrete_bool) (discrete_both ℕ_discrete flags))))))

discrete_disk : Discrete LifeDisk
discrete_disk = discrete_by parts whole is (discrete_both discrete_owner (discrete_both (discrete_option discrete_numbers) discrete_state))
  where
    parts : LifeDisk → Owner × (Option Numbers × State)
    parts (Opened owner numbers s) = (owner, (Some numbers, s))
    parts (Unopened owner s) = (owner, (None, s))

    of : Owner → Option Numbers → State → LifeDisk
    of owner None s = Unopened owner s
    of owner (Some numbers) s = Opened owner numbers s

    whole : Owner × (Option Numbers × State) → LifeDisk
    whole p = of p.0 p.1.0 p.1.1

    is : (disk : LifeDisk) → whole (parts disk) ≡ disk
    is (Opened owner numbers s) = refl
    is (Unopened owner s) = refl

-- ---- the change

module _ (before after : LifeDisk) where
  instead : (disk : LifeDisk) → Dec (disk ≡ before) → LifeDisk
  instead disk (yes e) = after
  instead disk (no n) = disk

  forgets_nothing : ((m : ℕ) → IsFloor m before → IsFloor m after) → (n : ℕ) (disk : LifeDisk) (same : Dec (disk ≡ before)) → IsFloor n disk → IsFloor n (instead disk same)
  unfolding instead
  forgets_nothing kept n disk (yes e) h = kept n (subst (IsFloor n) e h)
  forgets_nothing kept n disk (no off) h = h

  here : (same : Dec (before ≡ before)) → instead before same ≡ after
  unfolding instead
  here (yes e) = refl
  here (no off) = absurd (off refl)

  pub may_become : ((m : ℕ) → IsFloor m before → IsFloor m after) → MayBecome before after
  may_become kept = (λ disk. instead disk (discrete_disk disk before), λ n disk h. forgets_nothing kept n disk (discrete_disk disk before) h, here (discrete_disk before before))

-- a life file may become the file after any call or crash
pub becomes_by_event : LifeLaws → (event : LifeEvent) (disk : LifeDisk) → MayHappen event disk → MayBecome disk (after_event event disk)
becomes_by_event lows event disk may = may_become disk (after_event event disk) (λ m h. lows.keep m event disk h may)
