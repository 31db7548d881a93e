use Rattle.std.proofs.Common.{◌≡◌, ℕ, List, ◌++◌, map, ap, sym, subst, ◌∙◌, IfOk}
use Rattle.std.proofs.lemmas.List.{append-nil}
use Rattle.tora_sim.specs.Store.{SimState, state_of}
use Rattle.tora_sim.specs.Readers.{ends_at}
use Rattle.tora_sim.proofs.CoreEnds.{ends_there, no_ends}
use Rattle.tora_sim.proofs.sim.Sim.put_ends_of.Goals as goal

pub returns-in-Some : goal.returns-in-Some
returns-in-Some c =
    let s = c.self.inside in
    let state : SimState = state_of s.topology s.times s.clock s.nodes.items s.links.items s.datagrams.items in
    let same =
    ap (map (λ (k : ℕ). (c.args.n, k))) c.neighbours.ensures ∙ ends_there state c.self.invariant.0 c.args.n c.in-Some.at c.index.result.now c.in-Some.ensures.first c.index.ensures
    ∙ ap (λ (w : SimState). ends_at w.topology c.args.n) c.self.view_is in
    subst (λ (es : List (ℕ × ℕ)). IfOk c.put_ends.result (λ _. c.put_ends.new.ends.items ≡ c.args.ends.now.items ++ es)) same c.put_ends.ensures

pub returns-in-None : goal.returns-in-None
returns-in-None c =
    let s = c.self.inside in
    let state : SimState = state_of s.topology s.times s.clock s.nodes.items s.links.items s.datagrams.items in
    sym (ap (λ (es : List (ℕ × ℕ)). c.args.ends.now.items ++ es) (sym (ap (λ (w : SimState). ends_at w.topology c.args.n) c.self.view_is) ∙ no_ends state c.self.invariant.0 c.args.n c.in-None.ensures.none)
    ∙ append-nil c.args.ends.now.items)
