-- A `RawBox` as the machine sees it: two words, the pointer to a block and the word of the allocator.
--     typed          the two words have their types
--     open_parts     the value is in a block, and the parts own what the box owns
--     close_parts    the converse of open_parts
use Rattle.std.proofs.Common.{◌≡◌, ℕ, List, [], ◌∷◌, ◌++◌, refl, subst}
use mathlib.Core.Bool.{◌&&◌, true}
use lib.Dec.{T}
use seplogic.Ra.Ura.{Ura}
use mir.Syntax.{impl, tnil, dnil}
use mir.Raw.{raw as bare}
use mir.Val.{Val, vptr, vstruct, vcons, vnil, of_list, has_ty, WT}
use base.Fml.{Fml}
use base.Logic.{never, fst∗}
use types.Logic.{Logic, sem}
use types.Kit.{Item, Goal, Seq, Step, step, ‵, ◌$◌, move, drop, fsplit, fjoin, fpick, fpack, feq_i, feq_l}
use denote.RattleType.{RattleType, Valss}
use denote.Builtin.{RawPtr}
use denote.Memory.{lone}
use denote.RawPtr.{Ptr, block_ptr, null_ptr, ptr_val, in_a_block}
use denote.Steps.{nothing}
use denote.Param.{layout}
use denote.Param.Laws.{Laws}
use denote.Struct.Struct.{within}
use denote.Struct.Owning.{shape}
use Rattle.core.specs.declared.alloc.Allocator.{Ghosts}
use Rattle.core.proofs.alloc.Calls.{Al, handle_tells}
use Rattle.core.proofs.cell.Inside.{Good}
use Rattle.std_alloc.specs.Box.Ownership.{box_owns}
use Rattle.std_alloc.proofs.ResultValues.{and_tt}
use Rattle.tora_c.specs.contracts.handle.RawBox as contracts

abbrev pub words : Val → Val → Val
words pointer allocator = vstruct (vcons pointer (vcons allocator vnil))

module _ (Value Heap : RattleType) (laws : Laws Heap) (ghosts : Ghosts Heap.Denot) where
  abbrev pub Parts : RattleType
  Parts = contracts.the_row Value Heap ghosts

  abbrev heap : Al
  heap = record { row = Heap; laws = laws; g = ghosts; d = impl [] tnil dnil; drops = impl [] tnil dnil }

  -- the right to free a block of this heap, and the block with its value
  abbrev frees : Heap.Denot → Ptr → Fml
  frees h p = ghosts.dealloc_token h (bare (lone Value.mir)) p

  abbrev pub owned : Heap.Denot → Ptr → Value.Denot → Fml
  owned h p x = box_owns (ghosts.dealloc_token h) Value p x

  pub typed : (block offset : ℕ) (h : Val) → Good (layout Heap) h → T (has_ty (layout Heap) h && true) × WT (words (vptr block offset) h)
  typed block offset h good = (and_tt (has_ty (layout Heap) h) good.0, (tt, (good.1, tt)))

  module _ {M : Type 1} {𝓤 : Ura M} {𝓛 : Logic 𝓤} {K : Type 0} {Γ : List (Item 𝓤)} {G : Goal 𝓤 𝓛.H} where
    pub open_parts : K → (d : Parts.Denot) (vs : List Val)
        → ((block offset : ℕ) (h : Val) → d.pointer ≡ block_ptr block offset → vs ≡ words (vptr block offset) h ∷ [] → Good (layout Heap) h
        → Seq K 𝓛 (‵ (owned d.allocator (block_ptr block offset) d.value) ∷ ‵ (Heap.own_val d.allocator (h ∷ [])) ∷ Γ) G)
        → Seq K 𝓛 (‵ (Parts.own_val d vs) ∷ Γ) G
    open_parts k d vs go =
        fsplit k $ fpick k (λ vss. fsplit k $ feq_l k (λ is_words. fsplit k $ feq_l k (λ is_pointer. fsplit k $
        handle_tells heap k d.allocator vss.1.0 (λ h is_heap good. move k (1 ∷ []) $ drop k $ move k (1 ∷ []) $
        let of_parts : vs ≡ vstruct (of_list (ptr_val d.pointer ∷ (vss.1.0 ++ []))) ∷ [] =
        subst (λ (ps : List Val). vs ≡ vstruct (of_list (ps ++ (vss.1.0 ++ []))) ∷ []) is_pointer is_words in
        let of_words : vs ≡ vstruct (of_list (ptr_val d.pointer ∷ h ∷ [])) ∷ [] =
        subst (λ (hs : List Val). vs ≡ vstruct (of_list (ptr_val d.pointer ∷ (hs ++ []))) ∷ []) is_heap of_parts in
        in_a_block k d.pointer (λ p. owned d.allocator p d.value) (fst∗ 𝓤 (never 𝓤) (sem 𝓛 (frees d.allocator null_ptr))) (λ block offset at.
        go block offset h at (subst (λ (p : Ptr). vs ≡ vstruct (of_list (ptr_val p ∷ h ∷ [])) ∷ []) at of_words) good)))))

    pub close_parts : K → (block offset : ℕ) (h : Val) (a : Heap.Denot) (x : Value.Denot)
        → Step K 𝓛 (‵ (Parts.own_val (record { pointer = block_ptr block offset; allocator = a; value = x }) (words (vptr block offset) h ∷ [])) ∷ Γ) G
        (‵ (owned a (block_ptr block offset) x) ∷ ‵ (Heap.own_val a (h ∷ [])) ∷ Γ) G
    close_parts k block offset h a x = step (λ rest. let w : Val = words (vptr block offset) h in
        nothing k $ move k (2 ∷ 0 ∷ []) $ fjoin k $ feq_i k (List Val) (vptr block offset ∷ []) (vptr block offset ∷ []) refl $ fjoin k $
        feq_i k (List Val) (w ∷ []) (w ∷ []) refl $ fjoin k $
        fpack k (Valss (RawPtr ∷ Heap ∷ [])) (within (shape (contracts.the_type Value Heap ghosts)) (block_ptr block offset, (a, tt)) (w ∷ [])) (vptr block offset ∷ [], (h ∷ [], tt)) $
        fjoin k $ rest)
