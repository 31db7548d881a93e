-- One node of a network: the effect of a part of a run, and the agreement with a router.
use Rattle.std.proofs.Common.{◌≡◌, ℕ, ◌<◌, Bool, true, false, List, [], ◌∷◌, ◌++◌, nat_eq, refl, sym, ap, ◌∙◌, subst, eq-eqb}
use Rattle.tora_frame.specs.FrameParts.{FrameParts}
use Rattle.tora_arq.specs.declared.times.Times.{Times}
use Rattle.tora_arq.specs.EndRange.{LinkEndView, link_end_of}
use Rattle.tora_arq.specs.LinkEnd.{EndState}
use Rattle.tora_arq.specs.Settings.{Settings, settings_of}
use Rattle.tora_core.specs.declared.Input.{Input}
use Rattle.tora_seat.specs.declared.cargo.Cargo.{Cargo}
use Rattle.tora_seat.specs.declared.item.Item.{Item}
use Rattle.tora_seat.specs.Serving.{SeatState, Parcel, Offer, put_to}
use Rattle.tora_router.specs.Router.{RouterState}
use Rattle.tora_world.specs.Topology.{Topology, version_at, neighbours_of}
use Rattle.tora_running.specs.Network.{Network, Part, after_part, after_parts, MayBe, IsRun}
use Rattle.tora_running.specs.Hosts.{History}
use Rattle.tora_running.specs.RouterLaws.{AreEnds}

pub record Node : Type 0 where
  pub seat : SeatState
  pub ends : ℕ → EndState
  pub numbers : ℕ → ℕ
  pub items : List Item
  pub counts : ℕ → ℕ
  pub cargoes : ℕ → List Cargo
  pub frames : ℕ → List FrameParts
  pub put : ℕ → List Cargo
  pub inputs : List (Input × ℕ)
  pub steps : ℕ → List Parcel

abbrev pub node_of : Network → ℕ → Node
node_of w n = record {
  seat = w.seats n;
  ends = w.ends n;
  numbers = w.numbers n;
  items = w.items n;
  counts = w.counts n;
  cargoes = w.cargoes n;
  frames = w.frames n;
  put = w.put n;
  inputs = w.inputs n;
  steps = w.steps n;
}

-- ---- some parts, and then others

pub parts-append : (ps qs : List Part) (w : Network) → after_parts (ps ++ qs) w ≡ after_parts qs (after_parts ps w)
parts-append [] qs w = refl
parts-append (p ∷ ps) qs w = parts-append ps qs (after_part w p)

pub run-append : (ps qs : List Part) (w : Network) → IsRun w ps → IsRun (after_parts ps w) qs → IsRun w (ps ++ qs)
run-append [] qs w r s = s
run-append (p ∷ ps) qs w r s = (r.0, run-append ps qs (after_part w p) r.1 s)

-- ---- the node of a router

-- the core, and what it has exchanged
pub record IsCoreOf (ks : List ℕ) (seat : SeatState) (put : ℕ → List Cargo) (inputs : List (Input × ℕ)) (steps : ℕ → List Parcel) (seat' : SeatState) (put' : ℕ → List Cargo) (inputs' : List (Input × ℕ)) (steps' : ℕ → List Parcel) : Type 0 where
  pub seat_is : seat' ≡ seat
  pub neighbours : seat.core.neighbours ≡ ks
  pub put_is : (k : ℕ) → put' k ≡ put k
  pub inputs_is : inputs' ≡ inputs
  pub steps_is : (k : ℕ) → steps' k ≡ steps k

abbrev pub IsCore : List ℕ → RouterState → History → Node → Type 0
IsCore ks r h v = IsCoreOf ks r.seat h.put h.inputs h.steps v.seat v.put v.inputs v.steps

module _ (t : Topology) (times : Times) where
  -- the network over this topology
  abbrev pub net : Network → Network
  net w = record w { topology = t; times = times }

  module _ (n : ℕ) where
    abbrev pub ks : List ℕ
    ks = neighbours_of t n

    abbrev pub s : ℕ → Settings
    s k = settings_of (version_at t n) n k times

    abbrev pub end_in : (ℕ → EndState) → ℕ → LinkEndView
    end_in ends k = link_end_of (s k) (ends k)

    -- the node agrees with the router; these items and the outbound messages of these offers wait in its queues
    pub record IsNode (r : RouterState) (h : History) (items : List Item) (offers : List Offer) (v : Node) : Type 0 where
      pub core : IsCore ks r h v
      pub ends : AreEnds (end_in v.ends) ks r.links
      pub items_are : v.items ≡ items
      pub cargoes : (k : ℕ) → v.cargoes k ≡ put_to k offers
      pub numbers : (k : ℕ) → v.numbers k < r.next_life
      pub frames : (k : ℕ) → v.frames k ≡ h.frames k

    -- parts of the node lead to this network
    pub record Reached (r : RouterState) (h : History) (items : List Item) (offers : List Offer) (w : Network) : Type 0 where
      pub after : Network
      pub parts : List Part
      pub run : IsRun (net w) parts
      pub shows : after_parts parts (net w) ≡ net after
      pub node : IsNode r h items offers (node_of after n)
      pub others : (m : ℕ) → nat_eq m n ≡ false → node_of after m ≡ node_of w m

    pub stays : (r : RouterState) (h : History) (items : List Item) (offers : List Offer) (w : Network) → IsNode r h items offers (node_of w n) → Reached r h items offers w
    stays r h items offers w i = record { after = w; parts = []; run = tt; shows = refl; node = i; others = λ m e. refl }

    pub goes_on : (r r' : RouterState) (h h' : History) (items items' : List Item) (offers offers' : List Offer) (w : Network) → Reached r h items offers w
        → ((x : Network) → IsNode r h items offers (node_of x n) → Reached r' h' items' offers' x) → Reached r' h' items' offers' w
    goes_on r r' h h' items items' offers offers' w a f =
        let b = f a.after a.node in
        record {
          after = b.after;
          parts = a.parts ++ b.parts;
          run = run-append a.parts b.parts (net w) a.run (subst (λ x. IsRun x b.parts) (sym a.shows) b.run);
          shows = parts-append a.parts b.parts (net w) ∙ ap (after_parts b.parts) a.shows ∙ b.shows;
          node = b.node;
          others = λ m e. b.others m e ∙ a.others m e;
        }

    -- one part leads there; `made` is its effect on each node: on this node if the Bool is true, and otherwise none
    pub by_part : (r : RouterState) (h : History) (items : List Item) (offers : List Offer) (w after : Network) (p : Part) (made : ℕ → Bool → Node) → MayBe (net w) p → after_part (net w) p ≡ net after
        → ((m : ℕ) → node_of after m ≡ made m (nat_eq m n)) → ((m : ℕ) → made m false ≡ node_of w m) → IsNode r h items offers (made n true) → Reached r h items offers w
    by_part r h items offers w after p made may shows is others i = record {
      after = after;
      parts = p ∷ [];
      run = (may, tt);
      shows = shows;
      node = subst (IsNode r h items offers) (sym (is n ∙ ap (made n) (eq-eqb n n refl))) i;
      others = λ m e. is m ∙ ap (made m) e ∙ others m;
    }
