-- A struct with one pointer, which owns what `owned` says, as the machine sees it: one word, null or the pointer to a
-- block.
--     open_handle      a value is null and holds nothing, or it is the pointer to the block of the value that it holds
--     close_null       null makes a value that holds nothing
--     close_block      the pointer to a block makes a value that holds the value in the block
use Rattle.std.proofs.Common.{◌≡◌, ℕ, List, [], ◌∷◌, ◌++◌, refl, subst}
use seplogic.Ra.Ura.{Ura}
use mir.Raw.{raw as bare}
use mir.Syntax.{impl, tnil, dnil}
use mir.Val.{Val, vnull, vptr, vstruct, vcons, vnil, of_list}
use base.Fml.{Fml, feq, fex, fsep}
use base.Logic.{ent, never, via, fst∗, snd∗, guard, guard_i}
use base.Fraction.{full_share}
use types.Logic.{Logic, sem}
use types.Kit.{Item, Goal, Seq, Step, step, ‵, given, ◌$◌, drop, fsplit, fjoin, fpick, fpack, feq_i, feq_l, learn, use1}
use contract.Monad.{fact_use}
use denote.RattleType.{RattleType, Valss, flat, owns}
use denote.Builtin.{RawPtr}
use denote.Memory.{lone}
use denote.RawPtr.{Ptr, block_ptr, null_ptr, ptr_val, in_a_block, lies_at, Testable}
use denote.Steps.{nothing}
use denote.Param.Laws.{Laws}
use Rattle.core.specs.declared.option.Option.{Option}
use Rattle.core.specs.declared.option.Option.TheVariants.{None, Some}
use Rattle.core.proofs.alloc.Calls.{Al}
use Rattle.std.specs.declared.alloc.Global.{Global}
use Rattle.std.specs.contracts.alloc.Global as global
use Rattle.std.proofs.alloc.Global.TheLaws as global_laws
use Rattle.std.proofs.GlobalToken.{dealloc_token-Testable}
use Rattle.std.specs.contracts.impls.GlobalAllocator.TheImpl.{ghosts}
use Rattle.std_alloc.specs.Box.Ownership.{box_owns}
use Rattle.tora_c.proofs.Parts.{Parts}
use Rattle.tora_c.specs.Held.{owned, token}

abbrev pub Heap : RattleType
Heap = global.the_row

abbrev pub laws : Laws Heap
laws = global_laws.the_row_laws

abbrev pub heap : Al
heap = record { row = Heap; laws = laws; g = ghosts; d = impl [] tnil dnil; drops = impl [] tnil dnil }

abbrev pub word : Val → Val
word pointer = vstruct (vcons pointer vnil)

module _ (Value : RattleType) where
  -- the parts of the box that holds a value
  abbrev pub Raw : RattleType
  Raw = Parts Value Heap laws ghosts

  abbrev pub block : Ptr → Value.Denot → Fml
  block p x = box_owns token Value p x

  -- the only field of the struct is the pointer
  abbrev pub Fields : List RattleType
  Fields = RawPtr ∷ []

  abbrev fields : Ptr → List Val → Valss Fields → Fml
  fields p vs vss = fsep (feq (List Val) vs (vstruct (of_list (flat Fields vss)) ∷ [])) (owns Fields (p, tt) vss)

  -- what a value of the struct owns
  abbrev pub own : Ptr → Option Value.Denot → List Val → Fml
  own p held vs = fsep (fex (Valss Fields) (fields p vs)) (owned Value p held)

  module _ {M : Type 1} {𝓤 : Ura M} (𝓛 : Logic 𝓤) where
    abbrev freed : Ptr → Fml
    freed p = token (bare (lone Value.mir)) p

    -- the right to free a block allows a comparison of its pointer with null
    may_test : (a : Global) (p : Ptr) (x : Value.Denot) → ent 𝓤 (sem 𝓛 (block p x)) (guard 𝓤 (Testable p) (sem 𝓛 (block p x)))
    may_test a p x =
        fact_use 𝓤 (Testable p)
        (via 𝓤 (sem 𝓛 (freed p)) (snd∗ 𝓤 (sem 𝓛 (lies_at Value full_share p x)) (sem 𝓛 (freed p))) (dealloc_token-Testable 𝓛 a (bare (lone Value.mir)) p))
        (guard_i 𝓤 (Testable p) (sem 𝓛 (block p x)))

  module _ {M : Type 1} {𝓤 : Ura M} {𝓛 : Logic 𝓤} {K : Type 0} {Γ : List (Item 𝓤)} {G : Goal 𝓤 𝓛.H} where
    pub open_handle : K → (a : Global) (at : Ptr) (held : Option Value.Denot) (vs : List Val)
        → (held ≡ None → vs ≡ word vnull ∷ [] → Seq K 𝓛 Γ G)
        → ((b o : ℕ) (x : Value.Denot) → held ≡ Some x → Testable (block_ptr b o) → vs ≡ word (vptr b o) ∷ [] → Seq K 𝓛 (‵ (block (block_ptr b o) x) ∷ Γ) G)
        → Seq K 𝓛 (‵ (own at held vs) ∷ Γ) G
    open_handle k a at held vs at_null at_block =
        fsplit k $ fpick k (λ vss. fsplit k $ feq_l k (λ is_word. fsplit k $ feq_l k (λ is_pointer. drop k $
        let words : vs ≡ word (ptr_val at) ∷ [] = subst (λ (ps : List Val). vs ≡ vstruct (of_list (ps ++ [])) ∷ []) is_pointer is_word in
        let pointed : (p : Ptr) → at ≡ p → vs ≡ word (ptr_val p) ∷ [] = λ p e. subst (λ (q : Ptr). vs ≡ word (ptr_val q) ∷ []) e words in
        let by_held : (it : Option Value.Denot) → held ≡ it → Seq K 𝓛 (‵ (owned Value at it) ∷ Γ) G =
        λ it. elim it as (λ (it : Option Value.Denot). held ≡ it → Seq K 𝓛 (‵ (owned Value at it) ∷ Γ) G) [
          | None ↦ λ none. feq_l k (λ e. at_null none (pointed null_ptr e))
          | Some x ↦ λ some. in_a_block k at (λ p. block p x) (fst∗ 𝓤 (never 𝓤) (sem 𝓛 (freed 𝓛 null_ptr))) (λ b o e.
              use1 𝓛 (given (Testable (block_ptr b o)) (‵ (block (block_ptr b o) x))) (may_test 𝓛 a (block_ptr b o) x) $
              learn k (λ may. at_block b o x some may (pointed (block_ptr b o) e)))
        ] in
        by_held held refl)))

    pub close_null : K → Step K 𝓛 (‵ (own null_ptr None (word vnull ∷ [])) ∷ Γ) G Γ G
    close_null k = step (λ rest. let w : Val = word vnull in
        feq_i k Ptr null_ptr null_ptr refl $
        nothing k $ feq_i k (List Val) (vnull ∷ []) (vnull ∷ []) refl $ fjoin k $ feq_i k (List Val) (w ∷ []) (w ∷ []) refl $ fjoin k $
        fpack k (Valss Fields) (fields null_ptr (w ∷ [])) (vnull ∷ [], tt) $ fjoin k $ rest)

    pub close_block : K → (b o : ℕ) (x : Value.Denot)
        → Step K 𝓛 (‵ (own (block_ptr b o) (Some x) (word (vptr b o) ∷ [])) ∷ Γ) G (‵ (block (block_ptr b o) x) ∷ Γ) G
    close_block k b o x = step (λ rest. let w : Val = word (vptr b o) in
        nothing k $ feq_i k (List Val) (vptr b o ∷ []) (vptr b o ∷ []) refl $ fjoin k $ feq_i k (List Val) (w ∷ []) (w ∷ []) refl $ fjoin k $
        fpack k (Valss Fields) (fields (block_ptr b o) (w ∷ [])) (vptr b o ∷ [], tt) $ fjoin k $ rest)
