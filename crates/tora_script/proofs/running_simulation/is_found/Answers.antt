use Rattle.std.proofs.Common.{ℕ, ◌==◌, ◌&&◌, sym, ◌∙◌}
use Rattle.std.proofs.lemmas.List.Folds.{list_any_at}
use Rattle.tora_script.proofs.running_simulation.is_found.Goals as goal

pub returns-in-Ok : goal.returns-in-Ok
returns-in-Ok c e = list_any_at (λ (p : ℕ × ℕ). (p.0 == c.args.a) && (p.1 == c.args.b)) c.args.ends.now c.in-Ok.at (0, 0) c.in-Ok.ensures.bound (sym c.is_end.ensures ∙ e)
