-- The nodes and neighbours that links name, from the last link to the first.
use Rattle.std.proofs.Common.{◌≡◌, refl, sym, ap, ◌∙◌, subst, ℕ, zero, suc, ◌+◌, ◌-◌, ◌<◌, ◌≤◌, ◌==◌, ◌||◌, Bool, true, false, nat_lt, List, [], ◌∷◌, length, drop, get_or, cond, arith, if◌then◌else◌}
use Rattle.std.proofs.lemmas.Bool.{cond_both}
use Rattle.std.proofs.lemmas.Bool.Decides.{nat_tests}
use Rattle.std.proofs.lemmas.List.{drop_more}
use Rattle.tora_core.specs.Numbers.{has_number, with_number}
use Rattle.tora_world.specs.Topology.{Link, nodes_in, with_node, different, different_neighbours, other_ends}
use Rattle.tora_world.proofs.SoundTopology.{length-with_number, one_if, IsSplit, split-different, has-with_node}
use Rattle.tora_sim.specs.Topologies.{link_in, links_in, is_named, with_end}

-- ---- adding a number does not make a list shorter

pub length-with_node-le : (k : ℕ) (ns : List ℕ) → length ns ≤ length (with_node k ns)
length-with_node-le k ns =
    cond_both (has_number k ns) ns (with_number k ns) (λ (xs : List ℕ). length ns ≤ length xs) (λ _. omega arith) (λ _. omega (arith, length-with_number k ns))

pub length-with_end-le : (n : ℕ) (link : Link) (ns : List ℕ) → length ns ≤ length (with_end n link ns)
length-with_end-le n link ns =
    cond_both (link.a == n) (with_node link.b ns) (if link.b == n then with_node link.a ns else ns) (λ (xs : List ℕ). length ns ≤ length xs)
    (λ _. length-with_node-le link.b ns)
    (λ _. cond_both (link.b == n) (with_node link.a ns) ns (λ (xs : List ℕ). length ns ≤ length xs) (λ _. length-with_node-le link.a ns) (λ _. omega arith))

-- ---- the nodes of the links from an index on

abbrev pub nodes_from : List (ℕ × ℕ) → ℕ → List ℕ
nodes_from links i = nodes_in (links_in (drop i links))

nodes-step : (links : List (ℕ × ℕ)) (i : ℕ) (d : ℕ × ℕ) → i < length links
    → nodes_from links i ≡ with_node (get_or links i d).0 (with_node (get_or links i d).1 (nodes_from links (i + 1)))
nodes-step links i d lt = ap (λ xs. nodes_in (links_in xs)) (drop_more links i d lt)

nodes-fewer : (links : List (ℕ × ℕ)) (i : ℕ) → length (nodes_from links i) ≤ length (nodes_in (links_in links))
nodes-fewer links zero = omega arith
nodes-fewer [] (suc i) = omega arith
nodes-fewer (x ∷ links) (suc i) =
    let rest = nodes-fewer links i in
    let one = length-with_node-le x.1 (nodes_in (links_in links)) in
    let two = length-with_node-le x.0 (with_node x.1 (nodes_in (links_in links))) in
    omega arith

-- if the nodes are too many after one end of a link, or after both, the links name too many
pub many-by-one : (links : List (ℕ × ℕ)) (left most : ℕ) (items : List ℕ) (d : ℕ × ℕ) → 0 < left → left ≤ length links → items ≡ nodes_from links left
    → most < length (with_node (get_or links (left - 1) d).1 items) → most < length (nodes_in (links_in links))
many-by-one links left most items d some within is more =
    let i : ℕ = left - 1 in
    let next : i + 1 ≡ left = omega arith in
    let step = nodes-step links i d (omega arith) in
    let same : nodes_from links (i + 1) ≡ items = ap (nodes_from links) next ∙ sym is in
    let two = length-with_node-le (get_or links i d).0 (with_node (get_or links i d).1 items) in
    let fewer = nodes-fewer links i in
    let is_step : nodes_from links i ≡ with_node (get_or links i d).0 (with_node (get_or links i d).1 items) = step ∙ ap (λ ns. with_node (get_or links i d).0 (with_node (get_or links i d).1 ns)) same in
    let size = ap length is_step in
    omega arith

pub many-by-both : (links : List (ℕ × ℕ)) (left most : ℕ) (items behind : List ℕ) (d : ℕ × ℕ) → 0 < left → left ≤ length links → items ≡ nodes_from links left
    → behind ≡ with_node (get_or links (left - 1) d).1 items
    → most < length (with_node (get_or links (left - 1) d).0 behind) → most < length (nodes_in (links_in links))
many-by-both links left most items behind d some within is next_is more =
    let i : ℕ = left - 1 in
    let next : i + 1 ≡ left = omega arith in
    let same : nodes_from links (i + 1) ≡ items = ap (nodes_from links) next ∙ sym is in
    let is_step : nodes_from links i ≡ with_node (get_or links i d).0 behind =
    nodes-step links i d (omega arith) ∙ ap (λ ns. with_node (get_or links i d).0 (with_node (get_or links i d).1 ns)) same ∙ ap (with_node (get_or links i d).0) (sym next_is) in
    let fewer = nodes-fewer links i in
    let size = ap length is_step in
    omega arith

-- ---- a link that names a number makes it a node

or-more : (a b c d : Bool) → c ≡ (b || d) → ((a || b) || d) ≡ (a || c)
or-more true b c d e = refl
or-more false b c d e = sym e

pub named-nodes : (n : ℕ) (links : List (ℕ × ℕ)) → is_named n links ≡ has_number n (nodes_in (links_in links))
named-nodes n [] = refl
named-nodes n (x ∷ links) =
    ap (λ b. ((x.0 == n) || (x.1 == n)) || b) (named-nodes n links)
    ∙ or-more (x.0 == n) (x.1 == n) (has_number n (with_node x.1 (nodes_in (links_in links)))) (has_number n (nodes_in (links_in links))) (has-with_node n x.1 (nodes_in (links_in links)))
    ∙ sym (has-with_node n x.0 (with_node x.1 (nodes_in (links_in links))))

-- ---- the other ends of a node's links from an index on

abbrev pub ends_from : ℕ → List (ℕ × ℕ) → ℕ → List ℕ
ends_from n links i = different (other_ends n (links_in (drop i links)))

pub ends-more : (n : ℕ) (link : Link) (links : List Link) → different (other_ends n (link ∷ links)) ≡ with_end n link (different (other_ends n links))
ends-more n link links = go (link.a == n) (link.b == n)
  where
    go : (a b : Bool) → different (if a then link.b ∷ other_ends n links else if b then link.a ∷ other_ends n links else other_ends n links)
        ≡ (if a then with_node link.b (different (other_ends n links)) else if b then with_node link.a (different (other_ends n links)) else different (other_ends n links))
    go true b = refl
    go false true = refl
    go false false = refl

pub ends-step : (n : ℕ) (links : List (ℕ × ℕ)) (i : ℕ) (d : ℕ × ℕ) → i < length links
    → ends_from n links i ≡ with_end n (link_in (get_or links i d)) (ends_from n links (i + 1))
ends-step n links i d lt =
    ap (λ xs. different (other_ends n (links_in xs))) (drop_more links i d lt)
    ∙ ends-more n (link_in (get_or links i d)) (links_in (drop (i + 1) links))

ends-fewer : (n : ℕ) (links : List (ℕ × ℕ)) (i : ℕ) → length (ends_from n links i) ≤ length (different (other_ends n (links_in links)))
ends-fewer n links zero = omega arith
ends-fewer n [] (suc i) = omega arith
ends-fewer n (x ∷ links) (suc i) =
    let rest = ends-fewer n links i in
    let more = ends-more n (link_in x) (links_in links) in
    let one = length-with_end-le n (link_in x) (different (other_ends n (links_in links))) in
    subst (λ (xs : List ℕ). length (ends_from n links i) ≤ length xs) (sym more) (omega arith)

-- ---- how many of them are not the node itself

-- if there are more than 256, more than 255 of them are other nodes, and so more than any smaller number
pub many-above : (most n : ℕ) (links : List (ℕ × ℕ)) → most ≤ 255 → 256 < length (different (other_ends n (links_in links))) → nat_lt most (length (different_neighbours n (links_in links))) ≡ true
many-above most n links small more =
    let ns : List ℕ = different (other_ends n (links_in links)) in
    let e = split-different n (other_ends n (links_in links)) in
    go (has_number n ns) refl e
  where
    go : (b : Bool) → has_number n (different (other_ends n (links_in links))) ≡ b → IsSplit n (different (other_ends n (links_in links)))
        → nat_lt most (length (different_neighbours n (links_in links))) ≡ true
    go b is e =
        let all : length (different_neighbours n (links_in links)) + one_if b ≡ length (different (other_ends n (links_in links))) =
        subst (λ d. length (different_neighbours n (links_in links)) + one_if d ≡ length (different (other_ends n (links_in links)))) is e in
        let some : most < length (different_neighbours n (links_in links)) = few b all in
        grind (arith, nat_tests)
      where
        few : (d : Bool) → length (different_neighbours n (links_in links)) + one_if d ≡ length (different (other_ends n (links_in links))) → most < length (different_neighbours n (links_in links))
        few true h = omega arith
        few false h = omega arith

pub fresh_node : (k : ℕ) (ns : List ℕ) → has_number k ns ≡ false → length (with_node k ns) ≡ suc (length ns)
fresh_node k ns absent = ap (λ b. length (cond b ns (with_number k ns))) absent ∙ length-with_number k ns

-- if the ends are too many after a link, the links have too many
pub many-ends : (most n : ℕ) (links : List (ℕ × ℕ)) (left : ℕ) (items : List ℕ) (d : ℕ × ℕ) → most ≤ 255 → 0 < left → left ≤ length links → items ≡ ends_from n links left
    → 256 < length (with_end n (link_in (get_or links (left - 1) d)) items) → nat_lt most (length (different_neighbours n (links_in links))) ≡ true
many-ends most n links left items d small some within is more =
    let i : ℕ = left - 1 in
    let next : i + 1 ≡ left = omega arith in
    let same : ends_from n links (i + 1) ≡ items = ap (ends_from n links) next ∙ sym is in
    let is_step : ends_from n links i ≡ with_end n (link_in (get_or links i d)) items = ends-step n links i d (omega arith) ∙ ap (with_end n (link_in (get_or links i d))) same in
    let fewer = ends-fewer n links i in
    let size = ap length is_step in
    many-above most n links small (omega arith)

-- how many of the ends are other nodes
pub other-count : (n : ℕ) (links : List (ℕ × ℕ)) → cond (has_number n (different (other_ends n (links_in links)))) (length (different (other_ends n (links_in links))) - 1) (length (different (other_ends n (links_in links))))
    ≡ length (different_neighbours n (links_in links))
other-count n links = go (has_number n (different (other_ends n (links_in links)))) (split-different n (other_ends n (links_in links)))
  where
    go : (d : Bool) → length (different_neighbours n (links_in links)) + one_if d ≡ length (different (other_ends n (links_in links)))
        → cond d (length (different (other_ends n (links_in links))) - 1) (length (different (other_ends n (links_in links)))) ≡ length (different_neighbours n (links_in links))
    go true e = omega arith
    go false e = omega arith
