-- The links of a node, and the results of their threads.
use Rattle.std.proofs.Common.{◌≡◌, ◌∙◌, sym, ap, subst, refl, inl, ℕ, zero, suc, List, [], ◌∷◌, ◌++◌, length, append_assoc, append-nil, arith, Option, None, Some, Result, Err}
use Rattle.std.specs.Prelude.{map, slice_get}
use Rattle.tora_arq.specs.EndRange.{LinkEndView}
use Rattle.tora_arq.specs.LinkEnd.{EndState}
use Rattle.tora_core.specs.CoreRun.{CoreView}
use Rattle.tora_life.specs.declared.numbers.LifeError.{LifeError}
use Rattle.tora_neighbour.specs.Causes.{fault_of}
use Rattle.tora_neighbour.specs.Tally.{first_tally}
use Rattle.tora_neighbour.specs.Turns.{Turn, IsTurnRun, tally_after}
use Rattle.tora_neighbour.specs.declared.ending.Ending.{Ending}
use Rattle.tora_node.specs.declared.fault.NodeError.{NodeError}
use Rattle.tora_node.specs.declared.fault.NodeError.TheVariants as Fault
use Rattle.tora_neighbour.specs.declared.tally.Tally.{Tally}
use Rattle.tora_neighbour.specs.declared.wire.WireError.{WireError}
use Rattle.tora_node.specs.NewLinks.{new_end}
use Rattle.tora_node.specs.NodeRuns.{fault_or, first_link_fault, first_fault, IsNodeFault}
use Rattle.tora_node.specs.LinkRuns.{LinkName, name_of, links_of, AreFaultless, AreLinkRuns, IsLinkRun, IsOpening, IsStartFault, FailsToOpen}
use Rattle.tora_neighbour.specs.declared.fault.LinkFault.{LinkFault}
use Rattle.tora_node.specs.declared.link_task.Outcome.{Outcome}
use Rattle.tora_node.specs.WholeRuns.{NodeAnswers}
use Rattle.tora_node.proofs.Lists.{map_more}
use Rattle.tora_node.proofs.Openings.{failed_start}

-- ---- the rest of a list in a loop

module _ {A B : Type 0} where
  pub one_more : (f : A → B) (done : List B) (before rest : List A) (x : A) (all : List B) → before ≡ x ∷ rest → done ++ map f before ≡ all → (done ++ f x ∷ []) ++ map f rest ≡ all
  one_more f done before rest x all e h = append_assoc done (f x ∷ []) (map f rest) ∙ ap (λ (l : List A). done ++ map f l) (sym e) ∙ h

  -- one more result
  pub made_more : {C : Type 0} (f : A → B) (g : C → B) (ys : List C) (y : C) (before rest : List A) (x : A) (all : List B) → before ≡ x ∷ rest → g y ≡ f x → map g ys ++ map f before ≡ all → map g (ys ++ y ∷ []) ++ map f rest ≡ all
  made_more f g ys y before rest x all e same h =
      ap (λ (l : List B). l ++ map f rest) (map_more g ys y ∙ ap (λ (b : B). map g ys ++ b ∷ []) same) ∙ one_more f (map g ys) before rest x all e h

  -- no item is left
  pub all_done : (f : A → B) (done : List B) (rest : List A) (all : List B) → length rest ≡ 0 → done ++ map f rest ≡ all → done ≡ all
  all_done f done [] all e h = sym (append-nil done) ∙ h
  all_done f done (x ∷ rest) all e h = absurd (omega arith)

-- ---- a new end, and its link

-- the next link comes after those that are done
at_length : (done rest : List LinkName) (link : LinkName) → slice_get (done ++ link ∷ rest) (length done) ≡ Some link
at_length [] rest link = refl
at_length (l ∷ done) rest link = at_length done rest link

-- the life file of the next link does not open
pub did_not_open : {A : Type 0} (f : A → LinkName) (done : List LinkName) (before rest : List A) (x : A) (all : List LinkName) → before ≡ x ∷ rest → done ++ map f before ≡ all → slice_get all (length done) ≡ Some (f x)
did_not_open f done before rest x all e h =
    subst (λ (l : List LinkName). slice_get l (length done) ≡ Some (f x)) (ap (λ (l : List _). done ++ map f l) (sym e) ∙ h) (at_length done (map f rest) (f x))

-- the neighbour of the link that did not open
name_at : (me : ℕ) (neighbours : List ℕ) (place : ℕ) (link : LinkName) → slice_get (map (name_of me) neighbours) place ≡ Some link → slice_get neighbours place ≡ Some link.peer
name_at me [] place link e = absurd cc
name_at me (k ∷ ks) zero link e = let same : name_of me k ≡ link = cc in ap (λ (l : LinkName). Some l.peer) same
name_at me (k ∷ ks) (suc place) link e = name_at me ks place link e

pub opening_fault : (me : ℕ) (neighbours : List ℕ) (links : List LinkName) (e : NodeError) → links ≡ map (name_of me) neighbours → IsOpening links e → IsNodeFault neighbours e
opening_fault me neighbours links Fault.Memory same h = tt
opening_fault me neighbours links Fault.Lane same h = absurd h
opening_fault me neighbours links (Fault.Life peer error) same h =
    let place = h.0 in let link = h.1 in
    let at : slice_get (map (name_of me) neighbours) place ≡ Some link = subst (λ (l : List LinkName). slice_get l place ≡ Some link) same h.2 in
    (place, name_at me neighbours place link at ∙ ap Some h.3)
opening_fault me neighbours links (Fault.Wire peer) same h = absurd h
opening_fault me neighbours links Fault.Output same h = absurd h

opening_start : (first : CoreView) (e : NodeError) → IsOpening (links_of first) e → IsNodeFault first.neighbours e → IsStartFault first e
opening_start first Fault.Memory h n = tt
opening_start first Fault.Lane h n = absurd h
opening_start first (Fault.Life peer error) h n = n
opening_start first (Fault.Wire peer) h n = absurd h
opening_start first Fault.Output h n = absurd h

pub did_not_start : (first : CoreView) (links : List LinkName) (e : NodeError) → links ≡ links_of first → IsOpening links e → IsStartFault first e
did_not_start first links e same h = opening_start first e (subst (λ (l : List LinkName). IsOpening l e) same h) (opening_fault first.me first.neighbours links e same h)

-- the result of a node whose threads were not started
pub not_started : {W D C Wr : Type 0} (send : W → List ℕ → Result (Unit {0}) WireError → W → Type 0) (receive : W → Result (Option ℕ) WireError → List ℕ → W → Type 0) (tell : C → ℕ → C → Type 0) (opened : ℕ → ℕ → D → Result ℕ LifeError → Type 0) (contents : Wr → Option (List ℕ)) (first : CoreView) (wires : List W) (disks : List D) (clocks : List C) (clock : C)
    (input : Option (List ℕ)) (writer : Wr) (links : List LinkName) (e : NodeError) → links ≡ links_of first → IsOpening links e → FailsToOpen opened links disks e → NodeAnswers send receive tell opened contents first wires disks clocks clock input writer (Some writer) (Err e)
not_started send receive tell opened contents first wires disks clocks clock input writer links e same h failed =
    let start = did_not_start first links e same h in
    record { core = tt; links = tt; fault = opening_fault first.me first.neighbours links e same h; cause = inl start; count = tt; ran = tt; failed = inl (failed_start opened first disks e (subst (λ (l : List LinkName). FailsToOpen opened l disks e) same failed), inl refl) }

-- ---- the results of the threads

pub first_of : (first ks : List ℕ) (os outcomes : List Outcome) (fault r : Option NodeError) → ks ≡ first → os ≡ outcomes → first_fault fault ks os ≡ r → first_fault fault first outcomes ≡ r
first_of first ks os outcomes fault r a b h = subst (λ (l : List ℕ). first_fault fault l outcomes ≡ r) a (subst (λ (o : List Outcome). first_fault fault ks o ≡ r) b h)

pub no_fault : (fault : Option NodeError) (ks : List ℕ) (os : List Outcome) → first_fault fault ks os ≡ None → (fault ≡ None) × (first_link_fault ks os ≡ None)
no_fault (Some f) ks os h = absurd cc
no_fault None ks os h = (refl, h)

-- ---- no thread has a fault

none_first : (k : ℕ) (fault : Option LinkFault) (others : Option NodeError) → fault_or k fault others ≡ None → (fault ≡ None) × (others ≡ None)
none_first k (Some f) others h = absurd cc
none_first k None others h = (refl, h)

pub faultless : (me : ℕ) (ks : List ℕ) (outcomes : List Outcome) → AreLinkRuns (map (name_of me) ks) outcomes → first_link_fault ks outcomes ≡ None → AreFaultless (map (name_of me) ks) (map (λ o. o.tally) outcomes)
faultless me [] [] h e = tt
faultless me [] (o ∷ outcomes) h e = absurd h
faultless me (k ∷ ks) [] h e = absurd h
faultless me (k ∷ ks) (o ∷ outcomes) h e =
    let n = none_first k o.fault (first_link_fault ks outcomes) e in
    (subst (λ (f : Option LinkFault). IsLinkRun me k f o.tally) n.0 h.0, faultless me ks outcomes h.1 n.1)
