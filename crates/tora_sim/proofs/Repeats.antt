-- Tests of each item of a list against the later ones, and tests of links by their two nodes.
use Rattle.std.proofs.Common.{◌≡◌, refl, sym, ap, ◌∙◌, ℕ, zero, suc, ◌+◌, ◌-◌, ◌<◌, ◌≤◌, ◌==◌, true, ◌||◌, List, [], ◌∷◌, length, take, drop, get_or, arith}
use Rattle.std.proofs.lemmas.Bool.{or_right}
use Rattle.std.specs.List.{list_any}
use Rattle.std.proofs.lemmas.List.{drop_more, take_rest}
use Rattle.tora_world.specs.Topology.{is_same_link, has_link, has_repeated_link, has_own_link}
use Rattle.tora_sim.specs.Topologies.{link_in, links_in}

-- ---- links

links-behind : (links : List (ℕ × ℕ)) (i : ℕ) → has_repeated_link (links_in (drop i links)) ≡ true → has_repeated_link (links_in links) ≡ true
links-behind links zero e = e
links-behind [] (suc i) e = e
links-behind (x ∷ links) (suc i) e = or_right (has_link (link_in x) (links_in links)) (has_repeated_link (links_in links)) (links-behind links i e)

-- a link that is named again later
pub link-again : (links : List (ℕ × ℕ)) (left : ℕ) (d : ℕ × ℕ) → 0 < left → left ≤ length links
    → true ≡ has_link (link_in (get_or links (left - 1) d)) (links_in (take (length links - (left - 1 + 1)) (drop (left - 1 + 1) links)))
    → true ≡ has_repeated_link (links_in links)
link-again links left d some within e =
    let i : ℕ = left - 1 in
    let lt : i < length links = omega arith in
    let found : has_link (link_in (get_or links i d)) (links_in (drop (i + 1) links)) ≡ true = ap (λ xs. has_link (link_in (get_or links i d)) (links_in xs)) (sym (take_rest links (i + 1))) ∙ sym e in
    let here : has_repeated_link (links_in (drop i links)) ≡ true =
    ap (λ xs. has_repeated_link (links_in xs)) (drop_more links i d lt) ∙ ap (λ b. b || has_repeated_link (links_in (drop (i + 1) links))) found in
    sym (links-behind links i here)

pub link-any : (x : ℕ × ℕ) (links : List (ℕ × ℕ)) → list_any (λ (y : ℕ × ℕ). is_same_link (link_in x) (link_in y)) links ≡ has_link (link_in x) (links_in links)
link-any x [] = refl
link-any x (y ∷ links) = ap (λ b. is_same_link (link_in x) (link_in y) || b) (link-any x links)

pub own-any : (links : List (ℕ × ℕ)) → list_any (λ (y : ℕ × ℕ). y.0 == y.1) links ≡ has_own_link (links_in links)
own-any [] = refl
own-any (y ∷ links) = ap (λ b. (y.0 == y.1) || b) (own-any links)
