-- Events, one after another.
use Rattle.std.proofs.Common.{inl, inr, List, [], ◌∷◌, refl, subst}
use Rattle.tora_world.specs.declared.event.Event.{Event}
use Rattle.tora_world.specs.declared.sim_error.SimError.{SimError}
use Rattle.tora_world.specs.World.{World}
use Rattle.tora_sim.specs.Steps.{IsDone, IsRefused, AllAreDone, StopsWith}

-- the rest of the events leads to the same world as all of them
pub record GoesOn (start : World) (events : List Event) (w : World) (rest : List Event) : Type 0 where
  pub done : (after : World) → AllAreDone w rest after → AllAreDone start events after
  pub stops : (error : SimError) (after : World) → StopsWith w rest error after → StopsWith start events error after

pub begin : (w : World) (events : List Event) → GoesOn w events w events
begin w events = record { done = λ after h. h; stops = λ error after h. h }

pub goes_on : (start : World) (events : List Event) (w : World) (event : Event) (rest : List Event) (next : World) → GoesOn start events w (event ∷ rest) → IsDone w event next → GoesOn start events next rest
goes_on start events w event rest next h d = record {
  done = λ after q. h.done after (d.accepted, subst (λ v. AllAreDone v rest after) d.world q);
  stops = λ error after q. h.stops error after (inr (d.accepted, subst (λ v. StopsWith v rest error after) d.world q));
}

pub ends : (start : World) (events : List Event) (w : World) → GoesOn start events w [] → AllAreDone start events w
ends start events w h = h.done w refl

pub stopped : (start : World) (events : List Event) (w : World) (event : Event) (rest : List Event) (error : SimError) (after : World) → GoesOn start events w (event ∷ rest) → IsRefused w event error after → StopsWith start events error after
stopped start events w event rest error after h r = h.stops error after (inl r)
