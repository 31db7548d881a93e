-- `null`: the word is null, and the handle holds nothing.
use Rattle.std.proofs.Common.{◌≡◌, [], ◌∷◌, refl, lit<}
use mir.Val.{Val, vnull}
use base.Logic.{SProp, emp}
use base.Fml.{ftrue}
use types.Kit.{‵, raw, ◌⊛◌, ◌$◌, ◌∵◌, !, qed, by, keep, drop, split, use0}
use types.Run.{lit, no_more, and_then, returns, enter}
use types.ByLocal.{alloc_all, pass_all, free_all, look_at, sets}
use types.Part.{agg}
use contract.Monad.{fact, fact_i}
use contract.Running.{tables}
use denote.RattleType.{owns}
use denote.Signature.{types_at}
use denote.RawPtr.{null_ptr}
use denote.Steps.{nothing}
use denote.Param.{layout}
use denote.Triple.Walked.{Stays, walk_of}
use Rattle.core.specs.declared.option.Option.{Option}
use Rattle.core.specs.declared.option.Option.TheVariants.{None}
use Rattle.core.proofs.cell.Inside.{Good}
use Rattle.std.proofs.raw_atomic.Walks.{proved_at, leaves}
use Rattle.tora_c.proofs.Handles.{word, close_null}
use Rattle.tora_router.specs.contracts.router.Router.{the_row}
use Rattle.tora_c.specs.contracts.router_handle.RouterHandle as handle
use Rattle.tora_c.specs.contracts.router_handle.RouterHandle.null as own
use Rattle.tora_c.proofs.router_handle.RouterHandle.null.Statement.{statement}
use Rattle.tora_c.proofs.router_handle.RouterHandle.null.Code as code

pub null_spec : {M : Type 1} → statement M
null_spec 𝓤 𝓛 𝓜 𝓡 wired =
    let H = 𝓛.H in
    let 𝓣 = tables 𝓤 H 𝓜 𝓡 𝓡.env in
    let clauses = own.clauses 𝓛 𝓜.mem 𝓡.returns in
    let stays : Stays own.ended.signature.params own.ended.kept = tt in
    proved_at 𝓛 own.ended stays clauses 𝓜 𝓡 tt own.Key.name code.function (code.unfolded 𝓤 H 𝓜 𝓡 wired) (λ z are.
    let κs = z.0.0 in
    let Post : Val → SProp 𝓤 = (walk_of 𝓛 own.ended stays clauses).post z in
    let none : Option the_row.Denot = None in
    let good : Good (layout handle.the_row) (word vnull) = (tt, (record { fits = lit< tt }, tt)) in
    qed 𝓛 ((‵ ftrue ⊛ ‵ (owns (types_at own.ended.signature.params κs) z.0.3 z.0.4)) ∷ raw ((clauses κs z.0.3).requires z.1) ∷ []) ∵
    split ! $ drop ! $
    enter ! 𝓣.C 𝓣.Λ code.function [] Post $ alloc_all ! (λ l. pass_all ! refl tt $
    sets ! (agg ! (and_then ! (lit ! tt) (no_more !))) refl good $
    close_null the_row ! $ use0 𝓛 (raw (fact 𝓤 (none ≡ none))) (fact_i 𝓤 (none ≡ none) (emp 𝓤) refl) $ nothing ! $ nothing ! $
    returns ! (look_at ! 0 refl) $ free_all ! refl $ keep ! (0 ∷ 1 ∷ 3 ∷ 2 ∷ []) $
    by ! (leaves 𝓛 own.ended stays clauses z (word vnull) (record { at = null_ptr; held = none }) tt tt)))
