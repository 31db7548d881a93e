-- `into_box`: the two words of the parts are the arguments of `Box::from_raw`, and the returned box has their value.
use Rattle.std.proofs.Common.{◌≡◌, List, [], ◌∷◌, ◌++◌, refl, sym, ap, subst}
use mir.Syntax.{a_type, dcons, dnil}
use mir.Val.{Val, vptr}
use mir.MapTy.{inst_fn}
use base.Logic.{SProp, ent, id⊢}
use base.Fml.{ftrue, flft}
use prog.Wp.{WpFn}
use types.Kit.{‵, raw, ◌⊛◌, some, later, at_ret, ◌$◌, ◌∵◌, !, qed, by, move, keep, drop, split, split3, join, fsplit, fjoin, pick, suffices, use1, await, rewrite, feq_i}
use types.Run.{stop, fld, of_opd, no_more, and_then, first, blocks, exec, returns, enter}
use types.ByLocal.{alloc_all, pass_all, free_all, look_at, get, get_in, sets, lands_last, env}
use types.Part.{sub, whole}
use contract.Monad.{fact}
use contract.BorrowLft.{◌⊑◌}
use contract.Running.{tables}
use denote.Exit.{no}
use denote.RattleType.{RattleType, owns}
use denote.Signature.{types_at, plain}
use denote.RawPtr.{block_ptr}
use denote.Steps.{nothing, only}
use denote.Param.{param, layout, bounded}
use denote.Param.Laws.{param_laws}
use denote.Triple.Clauses.{Lasts, lasts}
use denote.Triple.Spec.{triple_of}
use denote.Triple.Call.{calls_at_last}
use denote.Triple.Walked.{Stays, stay_dropped, walk_of}
use Rattle.core.proofs.alloc.Calls.{Goes-blank}
use Rattle.core.proofs.alloc.Shapes.{after}
use Rattle.core.proofs.atomic.Steps.{fm}
use Rattle.core.proofs.cell.Inside.{Good}
use Rattle.std_alloc.proofs.BoxSteps.Form as box
use Rattle.std_alloc.proofs.BoxSteps.Steps.{box_out, box_in}
use Rattle.std.proofs.raw_atomic.Walks.{proved_at, leaves}
use Rattle.std_alloc.specs.contracts.boxed.Box.from_raw as from_raw
use Rattle.std_alloc.proofs.boxed.Box.from_raw.Met.{met}
use Rattle.tora_c.proofs.Parts.{words, Parts, typed, open_parts}
use Rattle.tora_c.specs.contracts.handle.RawBox.into_box as own
use Rattle.tora_c.proofs.handle.RawBox.into_box.Statement.{statement}
use Rattle.tora_c.proofs.handle.RawBox.into_box.Code as code

pub into_box_spec : {M : Type 1} → statement M
into_box_spec 𝓤 𝓛 𝓜 𝓡 wired T A L LA g d dx dd allocator glue glued =
    let H = 𝓛.H in
    let 𝓣 = tables 𝓤 H 𝓜 𝓡 𝓡.env in
    let Value : RattleType = param 0 T in
    let Heap : RattleType = param 1 A in
    let laws = param_laws 1 A LA in
    let types = bounded (a_type ∷ a_type ∷ []) (T, (A, tt)) (dcons d (dcons dx (dcons dd dnil))) in
    let body = inst_fn types code.function in
    let ended = own.ended T A g d dx dd in
    let clauses = own.clauses T A g d dx dd 𝓛 𝓜.mem 𝓡.returns in
    let E : box.Bx = record { row = T; laws = L; al = record { row = A; laws = LA; g = g; d = d; drops = dd } } in
    let Boxed : RattleType = box.B E in
    let call = triple_of 𝓛 (from_raw.signature T A g d dd) (from_raw.spec T A g d dd 𝓛 𝓜.mem 𝓡.returns) in
    let stays : Stays ended.signature.params ended.kept = (stay_dropped (plain (λ _. Parts Value Heap laws g)) no, tt) in
    proved_at 𝓛 ended stays clauses 𝓜 𝓡 (Goes-blank 𝓛 2 (plain (λ _. Parts Value Heap laws g)) no (λ κs x f. tt), tt) (own.Key.name types) body
    (code.unfolded 𝓤 H 𝓜 𝓡 wired (T, (A, tt)) d dx dd) (λ z are.
    let κs = z.0.0 in let qs = z.0.1 in
    let parts = z.0.3.0 in let a = parts.allocator in
    let Post : Val → SProp 𝓤 = (walk_of 𝓛 ended stays clauses).post z in
    let Run : List Val → SProp 𝓤 = λ ws. WpFn 𝓤 H 𝓣.C 𝓣.Λ body ws Post in
    let alive = ‵ (flft κs.0 qs.0) ⊛ ‵ (flft κs.1.0 qs.1.0) ⊛ ‵ ftrue in
    let outlive = raw (fact 𝓤 (κs.0 ⊑ T.lives)) ⊛ raw (fact 𝓤 (κs.1.0 ⊑ A.lives)) ⊛ ‵ ftrue in
    qed 𝓛 ((alive ⊛ ‵ (owns (types_at ended.signature.params κs) z.0.3 z.0.4)) ∷ raw ((clauses κs z.0.3).requires z.1) ∷ []) ∵
    split ! $ move ! (1 ∷ []) $ fsplit ! $
    open_parts Value Heap laws g ! parts z.0.4.0 (λ block offset h at are_words good.
    let w : Val = words (vptr block offset) h in
    let fits = typed Value Heap laws g block offset h good in
    let ghost : call.Ghost = ((κs, qs, tt, (a, (block_ptr block offset, tt)), (h ∷ [], (vptr block offset ∷ [], tt))), parts.value) in
    -- the arguments of the call: both types outlive, the pointer, the block with its value, and the allocator
    move ! (4 ∷ []) $ use1 𝓛 outlive (id⊢ 𝓤 _) $ split3 ! $ move ! (2 ∷ []) $ drop ! $ move ! (1 ∷ 2 ∷ []) $ join ! $ move ! (1 ∷ 0 ∷ []) $ join ! $
    move ! (2 ∷ []) $ feq_i ! (List Val) (vptr block offset ∷ []) (vptr block offset ∷ []) refl $ fjoin ! $ move ! (2 ∷ 0 ∷ []) $ fjoin ! $
    move ! (2 ∷ 0 ∷ []) $ join ! $ join ! $ use1 𝓛 (raw (call.pre ghost)) (id⊢ 𝓤 _) $
    suffices ! (Run (w ∷ [])) (subst (λ (us : List Val). ent 𝓤 (Run (w ∷ [])) (Run us)) (sym (λ i. are_words i ++ [])) (id⊢ 𝓤 (Run (w ∷ [])))) $
    enter ! 𝓣.C 𝓣.Λ body (w ∷ []) Post $ alloc_all ! (λ l. let locals = env body.locals l in
    pass_all ! refl (fits, tt) $
    sets ! (of_opd ! (get_in ! (fld ! refl (stop !)) (sub ! 0 refl (whole !)))) refl (tt, tt) $
    sets ! (of_opd ! (get_in ! (fld ! refl (stop !)) (sub ! 1 refl (whole !)))) refl good $
    first ! $ blocks ! $ sets ! (of_opd ! (get ! refl)) refl good $
    calls_at_last ! (fm 𝓛 𝓜 𝓡) call
    (met 𝓤 𝓛 𝓜 𝓡 (code.calls-std_alloc::boxed::Box::from_raw 𝓡.env wired) T A L LA g d dd allocator glued)
    ghost (and_then ! (get ! refl) (and_then ! (get ! refl) (no_more !))) (λ u.
    use1 𝓛 (later (some (λ (r : Boxed.Denot). (alive ⊛ ‵ (Boxed.own_val r (u ∷ []))) ⊛ some (λ (ls : Lasts (from_raw.ended T A g d dd) κs ghost.0.3).
    ‵ (lasts (from_raw.ended T A g d dd) κs ghost.0.3 ls) ⊛ (raw (fact 𝓤 (r.value ≡ parts.value)) ⊛ raw (fact 𝓤 (r.alloc ≡ a))))))) (id⊢ 𝓤 (call.post ghost u)) $
    await ! tt $ pick ! (λ r. split ! $ move ! (1 ∷ []) $ pick ! (λ _. split3 ! $ drop ! $ move ! (2 ∷ []) $ split ! $ move ! (1 ∷ []) $
    -- the returned box is passed on unchanged
    box_out E ! r (u ∷ []) (λ b' o' h' at' is' good'. box_in E ! r b' o' r.value at' refl $
    rewrite ! 0 (λ (xs : List Val). ‵ (Boxed.own_val r xs)) (sym is') refl $
    let fits' : Good (layout Boxed) u = subst (Good (layout Boxed)) (sym (ap only is')) (typed Value Heap laws g b' o' h' good') in
    lands_last ! refl fits' $ exec ! 𝓣.C 𝓣.Λ locals (after 3 body.body) (at_ret locals Post) $
    sets ! (of_opd ! (get ! refl)) refl fits' $ nothing ! $ nothing ! $ fjoin ! $
    returns ! (look_at ! 0 refl) $ free_all ! refl $ keep ! (2 ∷ 0 ∷ 1 ∷ 3 ∷ []) $
    by ! (leaves 𝓛 ended stays clauses z u r ((tt, (tt, tt)), tt) (tt, tt)))))))))
