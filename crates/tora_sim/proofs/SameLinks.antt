-- Lists of link ends that agree in node, peer, seat and settings.
use Rattle.std.proofs.Common.{◌≡◌, ℕ, zero, suc, ◌<◌, ◌≤◌, ◌+◌, Bool, true, false, ◌&&◌, inl, inr, List, [], ◌∷◌, map, length, get_or, slice_get, Option, Some, None, refl, sym, ap, ap₂, ◌∙◌, subst, arith, cond, is_some, option_map, nat_eq}
use Rattle.tora_frame.specs.FrameParts.{FrameParts}
use Rattle.tora_arq.specs.declared.times.Times.{Times}
use Rattle.tora_arq.specs.Settings.{settings_of}
use Rattle.tora_seat.specs.Offers.{place_of}
use Rattle.tora_world.specs.Topology.{version_at, Topology, is_node, is_link, neighbours_of}
use Rattle.tora_sim.specs.Links.{LinkView, is_at, key_of}
use Rattle.tora_sim.specs.Nodes.{NodeView}
use Rattle.tora_sim.specs.Lanes.{bare, AreAlike}
use Rattle.tora_sim.specs.Store.{state_of, world_of, IsStore, IsLinkOf, AreEndsOf, link_at, end_in, file_in, lane_in, put_in, steps_in}
use Rattle.tora_sim.specs.Links as Links
use Rattle.tora_sim.proofs.Stores.{each_at, IsSameLink}
use Rattle.tora_sim.proofs.Opens.{links_same}
use mathlib.Core.Path.{fun_ext}

abbrev pub AreSame : List LinkView → List LinkView → Type 0
AreSame [] [] = Unit {0}
AreSame [] (y ∷ ys) = ⊥
AreSame (x ∷ xs) [] = ⊥
AreSame (x ∷ xs) (y ∷ ys) = IsSameLink x y × AreSame xs ys

pub same_map : (f : LinkView → LinkView) → ((x : LinkView) → IsSameLink x (f x)) → (xs : List LinkView) → AreSame xs (map f xs)
same_map f h [] = tt
same_map f h (x ∷ xs) = (h x, same_map f h xs)

same_bare : (x y : LinkView) → bare y ≡ bare x → IsSameLink x y
same_bare x y e =
    let pulled : y.pulled ≡ x.pulled = ap (λ (z : LinkView). z.pulled) e in
    let put : length y.put ≡ length x.put = ap (λ (z : LinkView). length z.put) e in
    record {
      node = ap (λ (z : LinkView). z.node) e;
      peer = ap (λ (z : LinkView). z.peer) e;
      seat = ap (λ (z : LinkView). z.seat) e;
      settings = ap (λ (z : LinkView). z.settings) e;
      pulled = λ q. omega (arith, pulled, put, q);
    }

head_of : (x y : LinkView) (xs ys : List LinkView) → x ∷ xs ≡ y ∷ ys → x ≡ y
head_of x y xs ys e = cc

rest_of : (x y : LinkView) (xs ys : List LinkView) → x ∷ xs ≡ y ∷ ys → xs ≡ ys
rest_of x y xs ys e = cc

pub same_alike : (xs ys : List LinkView) → AreAlike xs ys → AreSame xs ys
same_alike [] [] e = tt
same_alike [] (y ∷ ys) e = absurd (let z : bare y ∷ map bare ys ≡ [] = e in cc)
same_alike (x ∷ xs) [] e = absurd (let z : [] ≡ bare x ∷ map bare xs = e in cc)
same_alike (x ∷ xs) (y ∷ ys) e = (same_bare x y (head_of (bare y) (bare x) (map bare ys) (map bare xs) e), same_alike xs ys (rest_of (bare y) (bare x) (map bare ys) (map bare xs) e))

same_at : (a k : ℕ) (x y : LinkView) → IsSameLink x y → is_at a k y ≡ is_at a k x
same_at a k x y h = ap₂ (λ p q. nat_eq p a && nat_eq q k) h.node h.peer

found_same : (a k : ℕ) (xs ys : List LinkView) → AreSame xs ys → is_some (link_at xs a k) ≡ is_some (link_at ys a k)
found_same a k [] [] h = refl
found_same a k [] (y ∷ ys) h = absurd h
found_same a k (x ∷ xs) [] h = absurd h
found_same a k (x ∷ xs) (y ∷ ys) h = go (found_same a k xs ys h.1) (is_at a k x) ∙ ap (λ b. is_some (cond b (Some y) (link_at ys a k))) (sym (same_at a k x y h.0))
  where
    go : is_some (link_at xs a k) ≡ is_some (link_at ys a k) → (b : Bool) → is_some (cond b (Some x) (link_at xs a k)) ≡ is_some (cond b (Some y) (link_at ys a k))
    go again true = refl
    go again false = again

pub read_same : (xs ys : List LinkView) → AreSame xs ys → (i : ℕ) (y : LinkView) → slice_get ys i ≡ Some y → (x : LinkView) × (slice_get xs i ≡ Some x) × IsSameLink x y
read_same [] [] h i y e = absurd (let z : None ≡ Some y = e in cc)
read_same [] (z ∷ zs) h i y e = absurd h
read_same (x ∷ xs) [] h i y e = absurd h
read_same (x ∷ xs) (z ∷ zs) h zero y e = let is : z ≡ y = cc in (x, refl, subst (IsSameLink x) is h.0)
read_same (x ∷ xs) (z ∷ zs) h (suc i) y e = read_same xs zs h.1 i y e

pub length_same : (xs ys : List LinkView) → AreSame xs ys → length ys ≡ length xs
length_same [] [] h = refl
length_same [] (y ∷ ys) h = absurd h
length_same (x ∷ xs) [] h = absurd h
length_same (x ∷ xs) (y ∷ ys) h = ap suc (length_same xs ys h.1)

node_same : (xs ys : List LinkView) → AreSame xs ys → (i : ℕ) (d : LinkView) → ((get_or ys i d).node ≡ (get_or xs i d).node) × ((get_or ys i d).peer ≡ (get_or xs i d).peer)
node_same [] [] h i d = (refl, refl)
node_same [] (y ∷ ys) h i d = absurd h
node_same (x ∷ xs) [] h i d = absurd h
node_same (x ∷ xs) (y ∷ ys) h zero d = (h.0.node, h.0.peer)
node_same (x ∷ xs) (y ∷ ys) h (suc i) d = node_same xs ys h.1 i d

before_same : (a b c d : LinkView) → a.node ≡ c.node → a.peer ≡ c.peer → b.node ≡ d.node → b.peer ≡ d.peer → Links.ComesBefore c d → Links.ComesBefore a b
before_same a b c d p q r s (inl h) = inl (omega (arith, p, r, h))
before_same a b c d p q r s (inr h) = let e = h.0 in let lt = h.1 in inr (p ∙ e ∙ sym r, omega (arith, q, s, lt))

link_same : (t : Topology) (times : Times) (x y : LinkView) → IsSameLink x y → IsLinkOf t times x → IsLinkOf t times y
link_same t times x y same h = record {
  settings = same.settings ∙ h.settings ∙ ap₂ (λ y z. settings_of (version_at t y) y z times) (sym same.node) (sym same.peer);
  seat = same.seat ∙ h.seat ∙ ap₂ (λ y z. place_of y (neighbours_of t z)) (sym same.peer) (sym same.node);
  home = ap (is_node t) same.node ∙ h.home;
  back = ap₂ (λ y z. is_link t y z) same.peer same.node ∙ h.back;
  pulled = same.pulled h.pulled;
}

pub ends_same : (t : Topology) (xs ys : List LinkView) → AreSame xs ys → (node : NodeView) → AreEndsOf t xs node → AreEndsOf t ys node
ends_same t xs ys same node h = record {
  within = subst (λ m. node.first + node.count ≤ m) (sym (length_same xs ys same)) h.within;
  at = λ place k link e q.
      let o = read_same xs ys same (node.first + place) link q in
      let told = h.at place k o.0 e o.1 in
      (o.2.node ∙ told.0, o.2.peer ∙ told.1);
}

keys_same : (xs ys : List LinkView) → AreSame xs ys → map key_of ys ≡ map key_of xs
keys_same [] [] h = refl
keys_same [] (y ∷ ys) h = absurd h
keys_same (x ∷ xs) [] h = absurd h
keys_same (x ∷ xs) (y ∷ ys) h = ap₂ (λ (key : ℕ × ℕ) (keys : List (ℕ × ℕ)). key ∷ keys) (ap₂ (λ (a b : ℕ). (a, b)) h.0.node h.0.peer) (keys_same xs ys h.1)

pub store_same : (t : Topology) (times : Times) (clock : ℕ) (nodes : List NodeView) (xs ys : List LinkView) (ds : List FrameParts) → AreSame xs ys → IsStore (state_of t times clock nodes xs ds) → IsStore (state_of t times clock nodes ys ds)
store_same t times clock nodes xs ys ds same h = record {
  nodes = h.nodes;
  links = λ a k. h.links a k ∙ found_same a k xs ys same;
  keys = keys_same xs ys same ∙ h.keys;
  rising_nodes = h.rising_nodes;
  rising_links = λ i j d lt within.
      let p = node_same xs ys same i d in
      let q = node_same xs ys same j d in
      before_same (get_or ys i d) (get_or ys j d) (get_or xs i d) (get_or xs j d) p.0 p.1 q.0 q.1 (h.rising_links i j d lt (subst (λ m. j < m) (length_same xs ys same) within));
  each_node = h.each_node;
  each_link = λ i y e. let o = read_same xs ys same i y e in link_same t times o.0 y o.2 (h.each_link i o.0 o.1);
  each_ends = λ i node e. ends_same t xs ys same node (h.each_ends i node e);
  each_datagram = h.each_datagram;
}

-- ---- the result of a search after each end changed in place

pub map_found : (f : LinkView → LinkView) → ((x : LinkView) → IsSameLink x (f x)) → (a k : ℕ) (xs : List LinkView) → link_at (map f xs) a k ≡ option_map f (link_at xs a k)
map_found f h a k [] = refl
map_found f h a k (x ∷ xs) = ap₂ (λ (b : Bool) (r : Option LinkView). cond b (Some (f x)) r) (same_at a k x (f x) (h x)) (map_found f h a k xs) ∙ go (is_at a k x)
  where
    go : (b : Bool) → cond b (Some (f x)) (option_map f (link_at xs a k)) ≡ option_map f (cond b (Some x) (link_at xs a k))
    go true = refl
    go false = refl

is_itself : (x : LinkView) → IsSameLink x (bare x)
is_itself x = record { node = refl; peer = refl; seat = refl; settings = refl; pulled = λ q. q }

-- a function that does not read the memory has the same value for ends that differ only in it
pub seen_alike : {A : Type 0} → (f : Option LinkView → A) → ((o : Option LinkView) → f (option_map bare o) ≡ f o) → (xs ys : List LinkView) → AreAlike xs ys → ◌≡◌ {A = ℕ → ℕ → A} (λ a k. f (link_at ys a k)) (λ a k. f (link_at xs a k))
seen_alike {A} f blind xs ys e = fun_ext (λ a. fun_ext (λ k.
    sym (blind (link_at ys a k)) ∙ ap f (sym (map_found bare is_itself a k ys) ∙ ap (λ zs. link_at zs a k) e ∙ map_found bare is_itself a k xs) ∙ blind (link_at xs a k)))

blind_by : {A : Type 0} → (f : Option LinkView → A) → ((x : LinkView) → f (Some (bare x)) ≡ f (Some x)) → (o : Option LinkView) → f (option_map bare o) ≡ f o
blind_by f h None = refl
blind_by f h (Some x) = h x

pub world_alike : (t : Topology) (times : Times) (clock : ℕ) (nodes : List NodeView) (xs ys : List LinkView) (ds : List FrameParts) → AreAlike xs ys
    → world_of (state_of t times clock nodes ys ds) ≡ world_of (state_of t times clock nodes xs ds)
world_alike t times clock nodes xs ys ds e =
    links_same (world_of (state_of t times clock nodes xs ds))
    (seen_alike end_in (blind_by end_in (λ x. refl)) xs ys e)
    (each_at file_in (link_at ys) (link_at xs) (λ a b. seen_alike (file_in a b) (blind_by (file_in a b) (λ x. refl)) xs ys e))
    (seen_alike lane_in (blind_by lane_in (λ x. refl)) xs ys e)
    (seen_alike put_in (blind_by put_in (λ x. refl)) xs ys e)
    (seen_alike steps_in (blind_by steps_in (λ x. refl)) xs ys e)
