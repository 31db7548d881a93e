-- The nodes and link ends of a world at its start, added one at a time.
use Rattle.std.proofs.Common.{◌≡◌, refl, sym, ap, ap₂, ◌∙◌, subst, ℕ, zero, suc, ◌+◌, ◌<◌, List, [], ◌∷◌, ◌++◌, map, take, length, get_or, slice_get, Some, None, arith}
use Rattle.std.specs.Prelude.{option_map}
use Rattle.std.proofs.lemmas.List.{append_assoc, map-append, map_push, map_more, flat_map_more, length-append, length-map}
use Rattle.std.proofs.lemmas.Option.{slice_get-map}
use Rattle.tora_arq.specs.declared.times.Times.{Times}
use Rattle.tora_frame.specs.declared.parts.Version.{Version}
use Rattle.tora_arq.specs.Settings.{settings_of}
use Rattle.tora_world.specs.Topology.{version_at, Topology, neighbours_of}
use Rattle.tora_world.specs.World.{owner_of}
use Rattle.tora_seat.specs.Offers.{place_of}
use Rattle.tora_sim.specs.Topologies.{IsTopology}
use Rattle.tora_sim.specs.Links.{LinkView, key_of}
use Rattle.tora_sim.specs.Nodes.{NodeView}
use Rattle.tora_sim.specs.Store.{EachOf}
use Rattle.tora_sim.specs.Readers.{ends_at}
use Rattle.tora_life.specs.State.{fresh_state}
use Rattle.tora_life.specs.LifeRun.{opened}
use Rattle.tora_sim.specs.Firsts.{IsFirstEnd, IsFirstLink, IsFirstNode, HasEnds, AreAdded, AreMade, IsMade}
use Rattle.tora_sim.proofs.Stores.{each_push}
use Rattle.tora_sim.proofs.Peers.{PutInOrder, neighbours-ascend, place-of}

-- ---- one more link end

pub first-link : PutInOrder → (t : Topology) (times : Times) → IsTopology t → (n i d : ℕ) (x : LinkView) → i < length (neighbours_of t n) → IsFirstEnd (version_at t n) times n (get_or (neighbours_of t n) i d) i x → IsFirstLink t times x
first-link order t times h n i d x lt f = record {
  node = refl;
  peer = refl;
  seat = f.seat ∙ sym (place-of (neighbours_of t n) i d (neighbours-ascend order t h n) lt) ∙ ap₂ (λ k m. place_of k (neighbours_of t m)) (sym f.peer) (sym f.node);
  settings = f.settings ∙ ap₂ (λ m k. settings_of (version_at t m) m k times) (sym f.node) (sym f.peer);
  state = f.state;
  file = f.file ∙ ap₂ (λ m k. opened (owner_of m k) (fresh_state [])) (sym f.node) (sym f.peer);
  put = f.put;
  pulled = f.pulled;
  steps = f.steps;
}

pub keys-more : (version : Version) (times : Times) (n : ℕ) (ks : List ℕ) (old links : List LinkView) (i d : ℕ) (x : LinkView) → i < length ks → IsFirstEnd version times n (get_or ks i d) i x
    → map key_of links ≡ map key_of old ++ map (λ k. (n, k)) (take i ks) → map key_of (links ++ x ∷ []) ≡ map key_of old ++ map (λ k. (n, k)) (take (i + 1) ks)
keys-more version times n ks old links i d x lt f e =
    map_push key_of links x
    ∙ ap₂ (λ (xs : List (ℕ × ℕ)) (y : ℕ × ℕ). xs ++ y ∷ []) e (ap₂ (λ (a b : ℕ). (a, b)) f.node f.peer)
    ∙ append_assoc (map key_of old) (map (λ k. (n, k)) (take i ks)) ((n, get_or ks i d) ∷ [])
    ∙ ap (λ ys. map key_of old ++ ys) (sym (map_more (λ (k : ℕ). (n, k)) ks i d lt))

-- a property of all items of two lists holds for their concatenation
each_append : {A : Type 0} → (P : A → Type 0) (xs ys : List A) → EachOf P xs → EachOf P ys → EachOf P (xs ++ ys)
each_append P [] ys h k j y e = k j y e
each_append P (x ∷ xs) ys h k zero y e = h zero y e
each_append P (x ∷ xs) ys h k (suc j) y e = each_append P xs ys (λ m z q. h (suc m) z q) k j y e

none_each : {A : Type 0} → (P : A → Type 0) → EachOf P []
none_each P i x e = absurd cc

pub added-behind : (t : Topology) (times : Times) (n : ℕ) (links parts : List LinkView) → AreAdded t times n [] parts → AreAdded t times n links (links ++ parts)
added-behind t times n links parts h = record {
  keys = map-append key_of links parts ∙ ap (λ ks. map key_of links ++ ks) h.keys;
  each = λ before. each_append (IsFirstLink t times) links parts before (h.each (none_each (IsFirstLink t times)));
}

-- ---- one more node

read-left : {A : Type 0} → (xs ys : List A) (i : ℕ) (v : A) → slice_get xs i ≡ Some v → slice_get (xs ++ ys) i ≡ Some v
read-left [] ys i v e = absurd cc
read-left (x ∷ xs) ys zero v e = e
read-left (x ∷ xs) ys (suc i) v e = read-left xs ys i v e

read-right : {A : Type 0} → (xs ys : List A) (i : ℕ) → slice_get (xs ++ ys) (length xs + i) ≡ slice_get ys i
read-right [] ys i = let e : 0 + i ≡ i = omega arith in ap (slice_get ys) e
read-right (x ∷ xs) ys i =
    let e : suc (length xs) + i ≡ suc (length xs + i) = omega arith in
    ap (slice_get (x ∷ (xs ++ ys))) e ∙ read-right xs ys i

has-more : (t : Topology) (keys more : List (ℕ × ℕ)) (node : NodeView) → HasEnds t keys node → HasEnds t (keys ++ more) node
has-more t keys more node h = record {
  within = (let e = length-append keys more in let w = h.within in omega arith);
  at = λ place k e. read-left keys more (node.first + place) (node.node, k) (h.at place k e);
}

each-weaker : {A : Type 0} → (P Q : A → Type 0) → ((x : A) → P x → Q x) → (xs : List A) → EachOf P xs → EachOf Q xs
each-weaker P Q f xs h i x e = f x (h i x e)

has-own : (t : Topology) (n : ℕ) (keys : List (ℕ × ℕ)) (node : NodeView) → node.node ≡ n → node.first ≡ length keys → HasEnds t (keys ++ ends_at t n) node
has-own t n keys node is first = record {
  within =
      (let e = length-append keys (ends_at t n) in
      let s : length (ends_at t n) ≡ length (neighbours_of t n) = length-map (neighbours_of t n) (λ (k : ℕ). (n, k)) in
      let m : length (neighbours_of t node.node) ≡ length (neighbours_of t n) = ap (λ j. length (neighbours_of t j)) is in
      omega arith);
  at = λ place k e.
      ap (λ f. slice_get (keys ++ ends_at t n) (f + place)) first ∙ read-right keys (ends_at t n) place
      ∙ slice_get-map (λ (j : ℕ). (n, j)) (neighbours_of t n) place
      ∙ ap (option_map (λ (j : ℕ). (n, j))) (ap (λ m. slice_get (neighbours_of t m) place) (sym is) ∙ e)
      ∙ ap (λ m. Some (m, k)) (sym is);
}

pub node-more : (t : Topology) (times : Times) (n : ℕ) (nodes : List NodeView) (links new : List LinkView) (node : NodeView) → AreAdded t times n links new → IsFirstNode t node → node.node ≡ n → node.first ≡ length links
    → IsMade t times n nodes links (nodes ++ node ∷ []) new
node-more t times n nodes links new node a f is first ns m = record {
  names = map_push (λ (x : NodeView). x.node) nodes node ∙ ap₂ (λ (xs : List ℕ) (y : ℕ). xs ++ y ∷ []) m.names is;
  keys = a.keys ∙ ap (λ xs. xs ++ ends_at t n) m.keys ∙ flat_map_more (ends_at t) [] ns n;
  each_node = each_push (IsFirstNode t) nodes node m.each_node f;
  each_link = a.each m.each_link;
  ends = subst (λ (keys : List (ℕ × ℕ)). EachOf (HasEnds t keys) (nodes ++ node ∷ [])) (sym a.keys)
      (each_push (HasEnds t (map key_of links ++ ends_at t n)) nodes node
      (each-weaker (HasEnds t (map key_of links)) (HasEnds t (map key_of links ++ ends_at t n)) (λ x h. has-more t (map key_of links) (ends_at t n) x h) nodes m.ends)
      (has-own t n (map key_of links) node is (first ∙ sym (length-map links key_of))));
}

-- no nodes, with no link ends
pub none-made : (t : Topology) (times : Times) → AreMade t times [] [] []
none-made t times = record {
  names = refl;
  keys = refl;
  each_node = λ i x e. absurd (let z : None ≡ Some x = e in cc);
  each_link = λ i x e. absurd (let z : None ≡ Some x = e in cc);
  ends = λ i x e. absurd (let z : None ≡ Some x = e in cc);
}
