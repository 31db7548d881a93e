-- The invariant of a world, after an event that does not change its link ends or its datagrams.
use Rattle.std.proofs.Common.{◌≡◌, ℕ, List, sym, subst}
use Rattle.tora_arq.specs.declared.times.Times.{Times}
use Rattle.tora_frame.specs.FrameParts.{FrameParts}
use Rattle.tora_world.specs.Topology.{Topology}
use Rattle.tora_sim.specs.Links.{LinkView}
use Rattle.tora_sim.specs.Nodes.{NodeView}
use Rattle.tora_sim.specs.Quiet.{AreDeadlines}
use Rattle.tora_sim.specs.Readers.{ends_in}
use Rattle.tora_sim.specs.Store.{IsStore, state_of}

-- the invariant of a simulated world
abbrev pub IsSim : Topology → Times → ℕ → List NodeView → List LinkView → List FrameParts → List (ℕ × ℕ) → List ℕ → Type 0
IsSim t times clock nodes links ds keys deadlines = IsStore (state_of t times clock nodes links ds) × AreDeadlines clock deadlines links × (keys ≡ ends_in t)

module _ (t : Topology) (times : Times) (clock : ℕ) (nodes : List NodeView) (links : List LinkView) (ds : List FrameParts) (keys : List (ℕ × ℕ)) (deadlines : List ℕ) (h : IsSim t times clock nodes links ds keys deadlines) where
  pub links_stay : (xs : List LinkView) → xs ≡ links → IsSim t times clock nodes xs ds keys deadlines
  links_stay xs same = subst (λ (ys : List LinkView). IsSim t times clock nodes ys ds keys deadlines) (sym same) h

  pub datagrams_stay : (gs : List FrameParts) → gs ≡ ds → IsSim t times clock nodes links gs keys deadlines
  datagrams_stay gs same = subst (λ (fs : List FrameParts). IsSim t times clock nodes links fs keys deadlines) (sym same) h
