-- A text is read as a first line exactly if it has the written form of one.
use Rattle.std.proofs.Common.{◌≡◌, ℕ, codes, List, ◌∷◌, ◌++◌, Option, Some, refl, ap, ◌∙◌, arith}
use Rattle.std.specs.Fmt.{decimal}
use Rattle.tora_lines.specs.Words.{cut, id_of, list_of}
use Rattle.tora_script.specs.ReplayLines.{HeaderParts, header_of}
use Rattle.tora_lines.specs.Fronts.{after, ◌>>=◌}
use Rattle.tora_lines.specs.WordGrammar.{list_text}
use Rattle.tora_script.specs.ReplayGrammar.{SpellsHeader}
use Rattle.tora_lines.proofs.WordLaws.{some_is, bind_some, id_found, id_here, after_found, after_here, cut_found, cut_here, no_blank}
use Rattle.tora_lines.proofs.ListLaws.{list_found, list_here, list_no_blank}

-- ---- the first line

abbrev made : ℕ → List ℕ → List ℕ → Option HeaderParts
made node links dests = Some (record { node = node; links = links; dests = dests })

abbrev read_dests : ℕ → List ℕ → List ℕ → Option HeaderParts
read_dests node links text = list_of text >>= made node links

abbrev read_links : ℕ → List ℕ × List ℕ → Option HeaderParts
read_links node d = list_of d.0 >>= (λ links. after (codes "dests ") d.1 >>= read_dests node links)

abbrev read_node : List ℕ × List ℕ → Option HeaderParts
read_node b = id_of b.0 >>= (λ node. after (codes "links ") b.1 >>= (λ c. cut 32 c >>= read_links node))

pub header_found : (text : List ℕ) (h : HeaderParts) → header_of text ≡ Some h → SpellsHeader text h
unfolding header_of
header_found text h given =
    let a = bind_some (after (codes "node ") text) (λ a. cut 32 a >>= read_node) h given in
    let b = bind_some (cut 32 a.0) read_node h a.2 in
    let node = bind_some (id_of b.0.0) (λ node. after (codes "links ") b.0.1 >>= (λ c. cut 32 c >>= read_links node)) h b.2 in
    let c = bind_some (after (codes "links ") b.0.1) (λ c. cut 32 c >>= read_links node.0) h node.2 in
    let d = bind_some (cut 32 c.0) (read_links node.0) h c.2 in
    let links = bind_some (list_of d.0.0) (λ links. after (codes "dests ") d.0.1 >>= read_dests node.0 links) h d.2 in
    let e = bind_some (after (codes "dests ") d.0.1) (read_dests node.0 links.0) h links.2 in
    let dests = bind_some (list_of e.0) (made node.0 links.0) h e.2 in
    let id = id_found b.0.0 node.0 node.1 in
    let first = list_found d.0.0 links.0 links.1 in
    let second = list_found e.0 dests.0 dests.1 in
    let t4 : d.0.1 ≡ codes "dests " ++ list_text dests.0 = after_found (codes "dests ") d.0.1 e.0 e.1 ∙ ap (λ (t : List ℕ). codes "dests " ++ t) second.0 in
    let t3 : c.0 ≡ list_text links.0 ++ 32 ∷ (codes "dests " ++ list_text dests.0) =
    cut_found c.0 d.0.0 d.0.1 d.1 ∙ ap (λ (t : List ℕ). t ++ 32 ∷ d.0.1) first.0 ∙ ap (λ (t : List ℕ). list_text links.0 ++ 32 ∷ t) t4 in
    let t2 : b.0.1 ≡ codes "links " ++ (list_text links.0 ++ 32 ∷ (codes "dests " ++ list_text dests.0)) = after_found (codes "links ") b.0.1 c.0 c.1 ∙ ap (λ (t : List ℕ). codes "links " ++ t) t3 in
    let t1 : a.0 ≡ decimal node.0 ++ 32 ∷ (codes "links " ++ (list_text links.0 ++ 32 ∷ (codes "dests " ++ list_text dests.0))) =
    cut_found a.0 b.0.0 b.0.1 b.1 ∙ ap (λ (t : List ℕ). t ++ 32 ∷ b.0.1) id.0 ∙ ap (λ (t : List ℕ). decimal node.0 ++ 32 ∷ t) t2 in
    rw (← some_is (record { node = node.0; links = links.0; dests = dests.0 }) h dests.2) (record {
      node = id.1;
      links = first.1;
      dests = second.1;
      text_is = after_found (codes "node ") text a.0 a.1 ∙ ap (λ (t : List ℕ). codes "node " ++ t) t1;
    })

pub header_here : (text : List ℕ) (h : HeaderParts) → SpellsHeader text h → header_of text ≡ Some h
unfolding header_of
header_here text h s =
    let t4 = codes "dests " ++ list_text h.dests in
    let t2 = codes "links " ++ (list_text h.links ++ 32 ∷ t4) in
    let here : header_of (codes "node " ++ (decimal h.node ++ 32 ∷ t2)) ≡ Some h =
    rw (
      after_here (codes "node ") (decimal h.node ++ 32 ∷ t2),
      cut_here (decimal h.node) t2 (no_blank h.node (omega (arith, s.node.1))),
      id_here h.node s.node,
      after_here (codes "links ") (list_text h.links ++ 32 ∷ t4),
      cut_here (list_text h.links) t4 (list_no_blank h.links s.links),
      list_here h.links s.links,
      after_here (codes "dests ") (list_text h.dests),
      list_here h.dests s.dests,
    ) refl in
    ap header_of s.text_is ∙ here
