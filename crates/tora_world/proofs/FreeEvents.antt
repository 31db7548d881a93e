-- Events that only threads make change at most ends, life files and queues into the cores, except a start, which is a
-- Restart with other life files.
use Rattle.std.proofs.Common.{ℕ, List, [], ◌∷◌, Option, Some, None, refl}
use Rattle.std.proofs.lemmas.Bool.{cond_both}
use Rattle.tora_arq.specs.declared.link_event.LinkEvent.{LinkEvent}
use Rattle.tora_arq.specs.LinkEnd.{EndState, first_event}
use Rattle.tora_life.specs.LifeRun.{LifeDisk}
use Rattle.tora_seat.specs.declared.item.Item.{Item}
use Rattle.tora_world.specs.declared.event.Event.{Event}
use Rattle.tora_world.specs.declared.event.Event.TheVariants.{Restart}
use Rattle.tora_world.specs.Topology.{is_link}
use Rattle.tora_world.specs.World.{World, Choice, after_pump, world_by}
use Rattle.tora_world.specs.FreeWorld.{FreeEvent, if_happens, free_by}
use Rattle.tora_world.specs.FreeWorld.FreeEvent.{Happens, TicksEnd, PumpsOver, Puts, CutsBound, ChangesFile, StartsAnew}
use Rattle.tora_world.specs.Frames.{AllElse}
use Rattle.tora_world.specs.Frames.Part.{Ends, Files, Items, Counts}

-- cores, queues out of cores, datagrams and all records are unchanged
abbrev pub LeavesCores : World → World → Type 0
LeavesCores w after = AllElse (Ends ∷ Files ∷ Items ∷ Counts ∷ []) w after

module _ (w : World) where
  leaves : (ends : ℕ → ℕ → EndState) (files : ℕ → ℕ → LifeDisk) (items : ℕ → List Item) (counts : ℕ → ℕ → ℕ) → LeavesCores w (record w { ends = ends; files = files; items = items; counts = counts })
  leaves ends files items counts = record { topology = refl; times = refl; clock = refl; seats = refl; ends = tt; files = tt; items = tt; counts = tt; cargoes = refl; arms = refl; datagrams = refl; put = refl; inputs = refl; steps = refl }

  pump_leaves : (c : Choice) (n k : ℕ) (o : Option LinkEvent) → LeavesCores w (after_pump w c n k o)
  pump_leaves c n k None = leaves w.ends w.files w.items w.counts
  pump_leaves c n k (Some event) = let after : World = after_pump w c n k (Some event) in leaves after.ends w.files after.items after.counts

  -- a property that holds after each event of the simulator, and in each world with the same cores and any life files,
  -- holds after each event of the free world. It may also be about values that only events of the simulator change
  pub free_cases : (Holds : ((A : Type 0) → (Event → A) → A → A) → World → Type 0) (c : Choice) → ((event : Event) → Holds (λ A f value. f event) (world_by c w event)) → ((after : World) → LeavesCores w after → Holds (λ A f value. value) after) →
      ((of : (A : Type 0) → (Event → A) → A → A) (after : World) → Holds of after → Holds of (record after { files = w.files })) →
      (event : FreeEvent) → Holds (λ A f value. if_happens f value event) (free_by c w event)
  free_cases Holds c happens others refiled (Happens event) = happens event
  free_cases Holds c happens others refiled (TicksEnd n k) = let after : World = free_by c w (TicksEnd n k) in others after (leaves after.ends w.files w.items w.counts)
  free_cases Holds c happens others refiled (PumpsOver n k) =
      others (free_by c w (PumpsOver n k)) (cond_both (is_link w.topology n k) _ _ (LeavesCores w) (λ _. pump_leaves c n k (first_event (w.ends n k))) (λ _. leaves w.ends w.files w.items w.counts))
  free_cases Holds c happens others refiled (Puts n seat what silent) = let after : World = free_by c w (Puts n seat what silent) in others after (leaves w.ends w.files after.items after.counts)
  free_cases Holds c happens others refiled (CutsBound n k) = let after : World = free_by c w (CutsBound n k) in others after (leaves after.ends w.files w.items w.counts)
  free_cases Holds c happens others refiled (ChangesFile n k change kept) = let after : World = free_by c w (ChangesFile n k change kept) in others after (leaves w.ends after.files w.items w.counts)
  free_cases Holds c happens others refiled (StartsAnew n) = refiled (λ A f value. f (Restart n None)) (world_by c w (Restart n None)) (happens (Restart n None))
