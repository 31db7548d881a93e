-- In a run in which a node is not started, the parts of each of its links are parts of that link's end, one after
-- another, and its core serves its items one after another.
use Rattle.std.proofs.Common.{◌≡◌, ℕ, Bool, true, false, List, [], ◌∷◌, nat_eq, if◌then◌else◌, ◌&&◌, refl, sym, ap, ap₂, ◌∙◌, subst, eqb-true}
use Rattle.std.proofs.lemmas.Bool.{and_parts}
use Rattle.tora_arq.specs.Settings.{Settings}
use Rattle.tora_arq.specs.LinkEnd.{EndState, first_end}
use Rattle.tora_running.specs.Parts.{LinkPart, end_after, IsPossible, AreLinkParts}
use Rattle.tora_running.specs.Parts.LinkPart.{Opens, Ticks, Takes, Sends, Hears, Tells, Beats, Breaks}
use Rattle.tora_seat.specs.Serving.{SeatState}
use Rattle.tora_world.specs.Topology.{neighbours_of}
use Rattle.tora_world.specs.World.{first_seat}
use Rattle.tora_node.specs.CoreRuns.{ServedItem, serving_told, AreServed}
use Rattle.tora_running.specs.Network.{Network, Part, settings_at, neighbours_at, beside, with_part, after_part, after_parts, IsRun}
use Rattle.tora_running.specs.Network.Part.{Starts, OfLink, Serves, Asks}
use Rattle.tora_running.specs.Histories.{parts_of_link, served_in, IsNotStarted}

-- ---- what a part leaves unchanged

pub beside_ends : (w : Network) (n k : ℕ) (part : LinkPart) → (beside w n k part).ends ≡ w.ends
beside_ends w n k (Opens number now) = refl
beside_ends w n k (Ticks now) = refl
beside_ends w n k (Takes cargo) = refl
beside_ends w n k (Sends now frame sending) = refl
beside_ends w n k (Hears now frame) = refl
beside_ends w n k (Tells now event) = refl
beside_ends w n k (Beats now) = refl
beside_ends w n k Breaks = refl

beside_settings : (w : Network) (n k : ℕ) (part : LinkPart) (a b : ℕ) → settings_at (beside w n k part) a b ≡ settings_at w a b
beside_settings w n k (Opens number now) a b = refl
beside_settings w n k (Ticks now) a b = refl
beside_settings w n k (Takes cargo) a b = refl
beside_settings w n k (Sends now frame sending) a b = refl
beside_settings w n k (Hears now frame) a b = refl
beside_settings w n k (Tells now event) a b = refl
beside_settings w n k (Beats now) a b = refl
beside_settings w n k Breaks a b = refl

pub beside_seats : (w : Network) (n k : ℕ) (part : LinkPart) → (beside w n k part).seats ≡ w.seats
beside_seats w n k (Opens number now) = refl
beside_seats w n k (Ticks now) = refl
beside_seats w n k (Takes cargo) = refl
beside_seats w n k (Sends now frame sending) = refl
beside_seats w n k (Hears now frame) = refl
beside_seats w n k (Tells now event) = refl
beside_seats w n k (Beats now) = refl
beside_seats w n k Breaks = refl

pub beside_topology : (w : Network) (n k : ℕ) (part : LinkPart) → (beside w n k part).topology ≡ w.topology
beside_topology w n k (Opens number now) = refl
beside_topology w n k (Ticks now) = refl
beside_topology w n k (Takes cargo) = refl
beside_topology w n k (Sends now frame sending) = refl
beside_topology w n k (Hears now frame) = refl
beside_topology w n k (Tells now event) = refl
beside_topology w n k (Beats now) = refl
beside_topology w n k Breaks = refl

pub part_settings : (w : Network) (part : Part) (a b : ℕ) → settings_at (after_part w part) a b ≡ settings_at w a b
part_settings w (Starts n) a b = refl
part_settings w (OfLink n k part) a b = beside_settings (with_part w n k part) n k part a b
part_settings w (Serves n item offers) a b = refl
part_settings w (Asks n now what) a b = refl

module _ (n k : ℕ) where
  -- the parts of a link, from this end on, with these settings
  abbrev Made : Settings → EndState → List Part → EndState → Type 0
  Made s e parts after = AreLinkParts s e (parts_of_link n k parts) after

  pub link_parts : (parts : List Part) (w : Network) → IsRun w parts → IsNotStarted n parts → Made (settings_at w n k) (w.ends n k) parts ((after_parts parts w).ends n k)
  link_parts [] w run others = refl
  link_parts (Starts m ∷ parts) w run others =
      subst (λ e. Made (settings_at w n k) e parts ((after_parts parts (after_part w (Starts m))).ends n k)) (ap (λ b. if b then first_end else w.ends n k) others.0)
      (link_parts parts (after_part w (Starts m)) run.1 others.1)
  link_parts (Serves m item offers ∷ parts) w run others = link_parts parts (after_part w (Serves m item offers)) run.1 others
  link_parts (Asks m now what ∷ parts) w run others = link_parts parts (after_part w (Asks m now what)) run.1 others
  link_parts (OfLink m j part ∷ parts) w run others =
      go (nat_eq n m && nat_eq k j) refl (subst (λ s. Made s (w'.ends n k) parts after) (part_settings w (OfLink m j part) n k) (link_parts parts w' run.1 others))
    where
      w' : Network
      w' = after_part w (OfLink m j part)

      after : EndState
      after = (after_parts parts w').ends n k

      ends_are : (b : Bool) → (nat_eq n m && nat_eq k j) ≡ b → w'.ends n k ≡ (if b then end_after (settings_at w m j) (w.ends m j) part else w.ends n k)
      ends_are b q = ap (λ (f : ℕ → ℕ → EndState). f n k) (beside_ends (with_part w m j part) m j part) ∙ ap (λ x. if x then end_after (settings_at w m j) (w.ends m j) part else w.ends n k) q

      go : (b : Bool) → (nat_eq n m && nat_eq k j) ≡ b → Made (settings_at w n k) (w'.ends n k) parts after → AreLinkParts (settings_at w n k) (w.ends n k) (if b then part ∷ parts_of_link n k parts else parts_of_link n k parts) after
      go true q later =
          let one : m ≡ n = sym (eqb-true n m (and_parts (nat_eq n m) (nat_eq k j) q).0) in
          let two : j ≡ k = sym (eqb-true k j (and_parts (nat_eq n m) (nat_eq k j) q).1) in (
            subst (λ x. IsPossible (settings_at w n x) (w.ends n x) part) two (subst (λ x. IsPossible (settings_at w x j) (w.ends x j) part) one run.0.1),
            subst (λ e. Made (settings_at w n k) e parts after) (ends_are true q ∙ ap₂ (λ x y. end_after (settings_at w x y) (w.ends x y) part) one two) later,
          )
      go false q later = subst (λ e. Made (settings_at w n k) e parts after) (ends_are false q) later

-- the core has served its items one after another
pub core_parts : (n : ℕ) (parts : List Part) (w : Network) → IsRun w parts → IsNotStarted n parts → AreServed (neighbours_at w n) (w.seats n) (served_in n parts) ((after_parts parts w).seats n)
core_parts n [] w run others = refl
core_parts n (Starts m ∷ parts) w run others =
    subst (λ s. AreServed (neighbours_at w n) s (served_in n parts) ((after_parts parts (after_part w (Starts m))).seats n)) (ap (λ b. if b then first_seat w.topology m else w.seats n) others.0)
    (core_parts n parts (after_part w (Starts m)) run.1 others.1)
core_parts n (Asks m now what ∷ parts) w run others = core_parts n parts (after_part w (Asks m now what)) run.1 others
core_parts n (OfLink m j part ∷ parts) w run others =
    subst (λ ks. AreServed ks (w.seats n) (served_in n parts) ((after_parts parts (after_part w (OfLink m j part))).seats n)) (ap (λ t. neighbours_of t n) (beside_topology (with_part w m j part) m j part))
    (subst (λ (f : ℕ → SeatState). AreServed (neighbours_at (after_part w (OfLink m j part)) n) (f n) (served_in n parts) ((after_parts parts (after_part w (OfLink m j part))).seats n)) (beside_seats (with_part w m j part) m j part)
    (core_parts n parts (after_part w (OfLink m j part)) run.1 others))
core_parts n (Serves m item offers ∷ parts) w run others = go (nat_eq n m) refl (core_parts n parts w' run.1 others)
  where
    w' : Network
    w' = after_part w (Serves m item offers)

    x : ServedItem
    x = record { item = item; offers = offers }

    after : SeatState
    after = (after_parts parts w').seats n

    seat_is : (b : Bool) → nat_eq n m ≡ b → w'.seats n ≡ (if b then (serving_told (neighbours_at w m) (w.seats m) x).seat else w.seats n)
    seat_is b q = ap (λ y. if y then (serving_told (neighbours_at w m) (w.seats m) x).seat else w.seats n) q

    go : (b : Bool) → nat_eq n m ≡ b → AreServed (neighbours_at w n) (w'.seats n) (served_in n parts) after → AreServed (neighbours_at w n) (w.seats n) (if b then x ∷ served_in n parts else served_in n parts) after
    go true q later =
        let one : m ≡ n = sym (eqb-true n m q) in (
          subst (λ y. (serving_told (neighbours_at w y) (w.seats y) x).offers ≡ offers) one run.0.2,
          subst (λ s. AreServed (neighbours_at w n) s (served_in n parts) after) (seat_is true q ∙ ap (λ y. (serving_told (neighbours_at w y) (w.seats y) x).seat) one) later,
        )
    go false q later = subst (λ s. AreServed (neighbours_at w n) s (served_in n parts) after) (seat_is false q) later
