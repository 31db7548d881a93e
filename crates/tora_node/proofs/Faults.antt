-- The fault of a node, by the faults of its threads.
use Rattle.std.proofs.Common.{◌≡◌, ◌∙◌, sym, ap, subst, refl, ℕ, zero, suc, ◌+◌, ◌<◌, ◌≤◌, Bool, List, [], ◌∷◌, length, get_or, drop, arith, Option, None, Some, add-one}
use Rattle.std.proofs.Math.Seq.{drop-cons}
use Rattle.std.proofs.lemmas.List.{drop_all}
use Rattle.std.specs.Prelude.{slice_get}
use Rattle.tora_node.specs.declared.fault.NodeError.{NodeError}
use Rattle.tora_node.specs.declared.fault.NodeError.TheVariants as Fault
use Rattle.tora_neighbour.specs.declared.fault.LinkFault.{LinkFault}
use Rattle.tora_neighbour.specs.declared.fault.LinkFault.TheVariants as Of
use Rattle.tora_node.specs.declared.link_task.Outcome.{Outcome}
use Rattle.tora_node.specs.CoreRuns.{ServedItem, EndsSo}
use Rattle.tora_node.specs.NodeRuns.{IsCoreFault, IsNeighbour, IsNodeFault, fault_of_link, fault_or, first_link_fault, first_fault}

get_cons : (os : List Outcome) (i : ℕ) (o : Outcome) → slice_get os i ≡ Some o → drop i os ≡ o ∷ drop (suc i) os
get_cons [] i o e = absurd cc
get_cons (x ∷ os) zero o e = ap (λ (y : Outcome). y ∷ os) cc
get_cons (x ∷ os) (suc i) o e = get_cons os i o e

get_none : (os : List Outcome) (i : ℕ) → slice_get os i ≡ None → drop i os ≡ []
get_none [] zero e = refl
get_none [] (suc i) e = refl
get_none (x ∷ os) zero e = absurd cc
get_none (x ∷ os) (suc i) e = get_none os i e

pub get_past : (os : List Outcome) (i : ℕ) → length os ≤ i → slice_get os i ≡ None
get_past [] zero h = refl
get_past [] (suc i) h = refl
get_past (x ∷ os) zero h = absurd (omega arith)
get_past (x ∷ os) (suc i) h = get_past os i (omega arith)

pub get_some : (os : List Outcome) (i : ℕ) (o : Outcome) → i < length os → o ≡ get_or os i o → slice_get os i ≡ Some o
get_some [] i o h e = absurd (omega arith)
get_some (x ∷ os) zero o h e = ap (λ (y : Outcome). Some y) (sym e)
get_some (x ∷ os) (suc i) o h e = get_some os i o (omega arith) e

fault_at : (ks : List ℕ) (os : List Outcome) (i : ℕ) (o : Outcome) → i < length ks → slice_get os i ≡ Some o
    → first_link_fault (drop i ks) (drop i os) ≡ fault_or (get_or ks i 0) o.fault (first_link_fault (drop (i + 1) ks) (drop (i + 1) os))
fault_at ks os i o h e = rw (drop-cons ks i 0 h, get_cons os i o e, add-one) refl

pub fault_here : (ks : List ℕ) (os : List Outcome) (i : ℕ) (o : Outcome) (f : LinkFault) → i < length ks → slice_get os i ≡ Some o
    → first_link_fault ks os ≡ first_link_fault (drop i ks) (drop i os) → o.fault ≡ Some f → first_link_fault ks os ≡ Some (fault_of_link (get_or ks i 0) f)
fault_here ks os i o f h e so some = so ∙ fault_at ks os i o h e ∙ ap (λ (x : Option LinkFault). fault_or (get_or ks i 0) x (first_link_fault (drop (i + 1) ks) (drop (i + 1) os))) some

pub fault_behind : (ks : List ℕ) (os : List Outcome) (i : ℕ) (o : Outcome) → i < length ks → slice_get os i ≡ Some o
    → first_link_fault ks os ≡ first_link_fault (drop i ks) (drop i os) → o.fault ≡ None → first_link_fault ks os ≡ first_link_fault (drop (i + 1) ks) (drop (i + 1) os)
fault_behind ks os i o h e so none = so ∙ fault_at ks os i o h e ∙ ap (λ (x : Option LinkFault). fault_or (get_or ks i 0) x (first_link_fault (drop (i + 1) ks) (drop (i + 1) os))) none

pub no_fault_behind : (ks : List ℕ) (os : List Outcome) (i : ℕ) → length ks ≤ i → first_link_fault ks os ≡ first_link_fault (drop i ks) (drop i os) → first_link_fault ks os ≡ None
no_fault_behind ks os i h so = so ∙ ap (λ (l : List ℕ). first_link_fault l (drop i os)) (drop_all i ks h)

none_of : (ks : List ℕ) → first_link_fault ks [] ≡ None
none_of [] = refl
none_of (k ∷ ks) = refl

pub no_outcome : (ks : List ℕ) (os : List Outcome) (i : ℕ) → slice_get os i ≡ None → first_link_fault ks os ≡ first_link_fault (drop i ks) (drop i os) → first_link_fault ks os ≡ None
no_outcome ks os i e so = so ∙ ap (λ (l : List Outcome). first_link_fault (drop i ks) l) (get_none os i e) ∙ none_of (drop i ks)

-- ---- the faults that are possible

pub core_fault : (fault : Option NodeError) (xs : List ServedItem) (gone : Bool) → EndsSo fault xs gone → IsCoreFault fault
core_fault None xs gone h = tt
core_fault (Some Fault.Memory) xs gone h = tt
core_fault (Some Fault.Lane) xs gone h = h.4
core_fault (Some (Fault.Life peer error)) xs gone h = h.4
core_fault (Some (Fault.Wire peer)) xs gone h = h.4
core_fault (Some Fault.Output) xs gone h = tt

at_index : (ks : List ℕ) (i : ℕ) → i < length ks → slice_get ks i ≡ Some (get_or ks i 0)
at_index [] i h = absurd (omega arith)
at_index (k ∷ ks) zero h = refl
at_index (k ∷ ks) (suc i) h = at_index ks i (omega arith)

pub is_neighbour : (ks : List ℕ) (i : ℕ) → i < length ks → IsNeighbour ks (get_or ks i 0)
is_neighbour ks i h = (i, at_index ks i h)

named : (k : ℕ) (all : List ℕ) (f : LinkFault) → IsNeighbour all k → IsNodeFault all (fault_of_link k f)
named k all (Of.Life error) n = n
named k all Of.Wire n = n

step : (k : ℕ) (all : List ℕ) (fault : Option LinkFault) (others : Option NodeError) (e : NodeError) → IsNeighbour all k → (others ≡ Some e → IsNodeFault all e) → fault_or k fault others ≡ Some e → IsNodeFault all e
step k all None others e n rest h = rest h
step k all (Some f) others e n rest h = let same : fault_of_link k f ≡ e = cc in subst (λ (x : NodeError). IsNodeFault all x) same (named k all f n)

of_link : (ks all : List ℕ) (os : List Outcome) (e : NodeError) → ((place peer : ℕ) → slice_get ks place ≡ Some peer → IsNeighbour all peer) → first_link_fault ks os ≡ Some e → IsNodeFault all e
of_link [] all os e among h = absurd cc
of_link (k ∷ ks) all [] e among h = absurd cc
of_link (k ∷ ks) all (o ∷ os) e among h = step k all o.fault (first_link_fault ks os) e (among 0 k refl) (of_link ks all os e (λ place peer at. among (suc place) peer at)) h

of_core : (ks : List ℕ) (f : NodeError) → IsCoreFault (Some f) → IsNodeFault ks f
of_core ks Fault.Memory c = tt
of_core ks Fault.Lane c = absurd c
of_core ks (Fault.Life peer error) c = absurd c
of_core ks (Fault.Wire peer) c = absurd c
of_core ks Fault.Output c = tt

node_fault : (ks : List ℕ) (os : List Outcome) (fault : Option NodeError) (e : NodeError) → IsCoreFault fault → first_fault fault ks os ≡ Some e → IsNodeFault ks e
node_fault ks os None e c h = of_link ks ks os e (λ place peer at. (place, at)) h
node_fault ks os (Some f) e c h = let same : f ≡ e = cc in subst (λ (x : NodeError). IsNodeFault ks x) same (of_core ks f c)

pub ended_fault : (first ks : List ℕ) (os : List Outcome) (fault : Option NodeError) (e : NodeError) → ks ≡ first → IsCoreFault fault → first_fault fault ks os ≡ Some e → IsNodeFault first e
ended_fault first ks os fault e same c h = subst (λ (l : List ℕ). IsNodeFault l e) same (node_fault ks os fault e c h)
