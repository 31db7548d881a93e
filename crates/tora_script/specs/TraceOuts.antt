-- The calls of the writer of a trace, which is no longer used after it fails.
use Rattle.std.specs.Prelude.{◌≡◌, ℕ, Bool, true, false, not, is_some, List, [], Option, Some, None}
use Rattle.tora_world.specs.World.{World}
use Rattle.tora_script.specs.declared.simulation.Stage.{Stage}
use Rattle.tora_script.specs.declared.simulation.Stage.TheVariants.{First, Links, Runs}
use Rattle.tora_script.specs.declared.traced.trace_out.TraceOut.{TraceOut}
use Rattle.tora_script.specs.declared.traced.traced_simulator.Traced.{Traced}
use Rattle.tora_script.specs.SimulationLines.{simulation_line_of}
use Rattle.tora_script.specs.Tracing.{after_line}

-- Bytes were written by one write, whose result says whether the writer failed. If it had failed before, nothing was
-- done.
pub record IsPut {W : Type 0} (did_write : W → List ℕ → Bool → W
    → Type 0) (old : TraceOut W) (bytes : List ℕ) (new : TraceOut W) : Type 0 where
  pub stays : is_some old.failure ≡ true → new ≡ old
  pub call : is_some old.failure ≡ false → did_write old.writer bytes (not (is_some new.failure)) new.writer

-- The writer was flushed, and its result says whether it failed. If it had failed before, nothing was done.
pub record IsHandedOn {W : Type 0} (did_flush : W → Bool → W → Type 0) (old new : TraceOut W) : Type 0 where
  pub stays : is_some old.failure ≡ true → new ≡ old
  pub call : is_some old.failure ≡ false → did_flush old.writer (not (is_some new.failure)) new.writer

-- the records that were not written yet; None before the simulation runs
abbrev pub waiting : {S : Type 0} → Stage (Traced S) → Option (List ℕ)
waiting First = None
waiting (Links lines) = None
waiting (Runs s) = Some s.sim.trace.text

-- the records that are not written yet after a line, with those of the line itself; None before the simulation runs
abbrev pub waiting_behind : {S : Type 0} → (S → World) → List ℕ → Stage (Traced S) → Option (List ℕ)
waiting_behind world line First = None
waiting_behind world line (Links lines) = None
waiting_behind world line (Runs s) = Some (after_line (world s.sim.sim).clock (simulation_line_of line)
    s.sim.trace).text

-- the waiting records after they were written
abbrev pub emptied : Option (List ℕ) → Option (List ℕ)
emptied None = None
emptied (Some text) = Some []

-- The records were written, if there are any.
abbrev pub ArePut : {W : Type 0} → (W → List ℕ → Bool → W → Type 0) → TraceOut W → Option (List ℕ) → TraceOut W → Type 0
ArePut did_write old None new = new ≡ old
ArePut did_write old (Some text) new = IsPut did_write old text new
