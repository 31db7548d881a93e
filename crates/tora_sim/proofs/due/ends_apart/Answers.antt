use Rattle.std.proofs.Common.{◌≡◌, ℕ, ap, ap₂, arith}
use Rattle.std.proofs.lemmas.Nat.{le_or_l, le_or_r}
use Rattle.tora_sim.proofs.due.ends_apart.Goals as goal

pub returns-clause-same : goal.returns-clause-same
returns-clause-same c same =
    let a = c.nodes_apart.ensures.same (ap (λ (p : ℕ × ℕ). p.0) same) in
    let b = c.nodes_apart-2.ensures.same (ap (λ (p : ℕ × ℕ). p.1) same) in
    rw (a, b)

pub returns-clause-apart : goal.returns-clause-apart
returns-clause-apart c none =
    let a : c.nodes_apart.result ≡ 0 = omega (arith, none, le_or_l c.nodes_apart.result c.nodes_apart-2.result) in
    let b : c.nodes_apart-2.result ≡ 0 = omega (arith, none, le_or_r c.nodes_apart.result c.nodes_apart-2.result) in
    ap₂ (λ (x y : ℕ). (x, y)) (c.nodes_apart.ensures.apart a) (c.nodes_apart-2.ensures.apart b)
