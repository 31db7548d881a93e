-- `of`: the word of the handle is the pointer to the parts, and the handle holds their value.
use Rattle.std.proofs.Common.{◌≡◌, List, [], ◌∷◌, ◌++◌, refl, sym, subst}
use mir.Val.{Val, vptr}
use base.Logic.{SProp, ent, emp, id⊢}
use base.Fml.{ftrue}
use prog.Wp.{WpFn}
use types.Kit.{‵, raw, ◌⊛◌, ◌$◌, ◌∵◌, !, qed, by, keep, drop, split, fsplit, fjoin, suffices, use0}
use types.Run.{stop, fld, of_opd, no_more, and_then, returns, enter}
use types.ByLocal.{alloc_all, pass_all, free_all, look_at, get, get_in, sets}
use types.Part.{agg, sub, whole}
use contract.Monad.{fact, fact_i}
use contract.Running.{tables}
use denote.Exit.{yes}
use denote.RattleType.{owns}
use denote.Signature.{types_at, plain}
use denote.RawPtr.{block_ptr}
use denote.Steps.{nothing}
use denote.Triple.Walked.{Stays, stay_dropped, Goes-dropped, walk_of}
use Rattle.core.specs.declared.option.Option.{Option}
use Rattle.core.specs.declared.option.Option.TheVariants.{Some}
use Rattle.std.proofs.raw_atomic.Walks.{proved_at, leaves}
use Rattle.std.specs.contracts.impls.GlobalAllocator.TheImpl.{ghosts}
use Rattle.tora_c.proofs.Parts.{words, typed, open_parts}
use Rattle.tora_c.proofs.Handles.{Heap, laws, Raw, word, close_block}
use Rattle.tora_router.specs.contracts.router.Router.{the_row}
use Rattle.tora_c.specs.contracts.router_handle.RouterHandle.of as own
use Rattle.tora_c.proofs.router_handle.RouterHandle.of.Statement.{statement}
use Rattle.tora_c.proofs.router_handle.RouterHandle.of.Code as code

pub of_spec : {M : Type 1} → statement M
of_spec 𝓤 𝓛 𝓜 𝓡 wired =
    let H = 𝓛.H in
    let 𝓣 = tables 𝓤 H 𝓜 𝓡 𝓡.env in
    let clauses = own.clauses 𝓛 𝓜.mem 𝓡.returns in
    let stays : Stays own.ended.signature.params own.ended.kept = (stay_dropped (plain (λ _. (Raw the_row))) yes, tt) in
    proved_at 𝓛 own.ended stays clauses 𝓜 𝓡 (Goes-dropped 𝓛 0 (plain (λ _. (Raw the_row))) yes (λ κs x g. refl), tt) own.Key.name code.function
    (code.unfolded 𝓤 H 𝓜 𝓡 wired) (λ z are.
    let κs = z.0.0 in
    let parts = z.0.3.0 in
    let Post : Val → SProp 𝓤 = (walk_of 𝓛 own.ended stays clauses).post z in
    let Run : List Val → SProp 𝓤 = λ ws. WpFn 𝓤 H 𝓣.C 𝓣.Λ code.function ws Post in
    let held : Option the_row.Denot = Some parts.value in
    qed 𝓛 ((‵ ftrue ⊛ ‵ (owns (types_at own.ended.signature.params κs) z.0.3 z.0.4)) ∷ raw ((clauses κs z.0.3).requires z.1) ∷ []) ∵
    split ! $ drop ! $ fsplit ! $
    open_parts the_row Heap laws ghosts ! parts z.0.4.0 (λ b o h at are_words good. let w : Val = words (vptr b o) h in
    suffices ! (Run (w ∷ [])) (subst (λ (us : List Val). ent 𝓤 (Run (w ∷ [])) (Run us)) (sym (λ i. are_words i ++ [])) (id⊢ 𝓤 (Run (w ∷ [])))) $
    enter ! 𝓣.C 𝓣.Λ code.function (w ∷ []) Post $ alloc_all ! (λ l. pass_all ! refl (typed the_row Heap laws ghosts b o h good, tt) $
    sets ! (of_opd ! (get_in ! (fld ! refl (stop !)) (sub ! 0 refl (whole !)))) refl (tt, tt) $
    sets ! (of_opd ! (get ! refl)) refl (tt, tt) $
    sets ! (agg ! (and_then ! (get ! refl) (no_more !))) refl (tt, (tt, tt)) $
    close_block the_row ! b o parts.value $ use0 𝓛 (raw (fact 𝓤 (held ≡ held))) (fact_i 𝓤 (held ≡ held) (emp 𝓤) refl) $ nothing ! $ nothing ! $ fjoin ! $ nothing ! $
    returns ! (look_at ! 0 refl) $ free_all ! refl $ keep ! (0 ∷ 1 ∷ 3 ∷ 2 ∷ []) $
    by ! (leaves 𝓛 own.ended stays clauses z (word (vptr b o)) (record { at = block_ptr b o; held = held }) (tt, tt) (tt, tt)))))
