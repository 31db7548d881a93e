-- The records of each event.
use Rattle.std.specs.Prelude.{◌≡◌, ℕ, ◌==◌, if◌then◌else◌, List, length, drop, slice_get, Option, Some, None}
use Rattle.tora_arq.specs.declared.life.Life.{Life}
use Rattle.tora_frame.specs.FrameParts.{FrameParts}
use Rattle.tora_seat.specs.declared.item.Item.{Item}
use Rattle.tora_seat.specs.declared.what.What.{What}
use Rattle.tora_seat.specs.declared.what.What.TheVariants as Tells
use Rattle.tora_world.specs.declared.event.Event.{Event}
use Rattle.tora_world.specs.declared.event.Event.TheVariants.{Need, Tick, Open, Pull, Transmit, Deliver, Pump, CoreTurn}
use Rattle.tora_world.specs.declared.event.Event.TheVariants.{Arm, Restart}
use Rattle.tora_world.specs.declared.sim_error.SimError.{SimError}
use Rattle.tora_world.specs.World.{World, datagram}
use Rattle.tora_script.specs.TraceRecords.{need_record, part_record, mend_record}
use Rattle.tora_script.specs.CoreCopies.{after_inputs}
use Rattle.tora_script.specs.Trace.{TraceState, Tells as TellsOf, with_text, with_frame, after_frames, after_restart}
use Rattle.tora_script.specs.Rounds.{is_parted}
use Rattle.tora_script.specs.SimulationText.{with_parted, without_parted}
use Rattle.tora_script.specs.declared.script_line.SimulationLine.{SimulationLine}
use Rattle.tora_script.specs.declared.script_line.SimulationLine.TheVariants.{Happens, Rounds, Part, Mend, Heights}
use Rattle.tora_script.specs.declared.script_line.SimulationLine.TheVariants.{Sent, Taken, Exact, Walk, Rest}
use Rattle.tora_script.specs.declared.traced.traced_simulator.Before.{Before}

-- the session that an item reports as up
abbrev pub life_of_what : What → Option Life
life_of_what (Tells.Up life) = Some life
life_of_what (Tells.Packet life packet) = None
life_of_what (Tells.Down life reason) = None
life_of_what Tells.Beat = None
life_of_what (Tells.Need d) = None
life_of_what (Tells.Cut k) = None
life_of_what Tells.Show = None
life_of_what (Tells.Status status) = None
life_of_what Tells.Quit = None

abbrev pub life_told : Option Item → Option Life
life_told None = None
life_told (Some item) = life_of_what item.what

-- the trace, in which one more datagram is counted, if there is one
abbrev pub with_sent : List (ℕ × ℕ) → TraceState → Option FrameParts → TraceState
with_sent parted trace None = trace
with_sent parted trace (Some f) = record trace {
  counts = with_frame
      (is_parted parted f.header.sender f.header.receiver) f.body trace.counts;
}

-- the trace, in which the last datagram is counted, unless there are still `count` datagrams
abbrev pub after_sent : List (ℕ × ℕ) → ℕ → World → TraceState → TraceState
after_sent parted count after trace =
    if length after.datagrams == count then trace else with_sent parted trace (datagram after (length after.datagrams))

-- ---- one event

abbrev pub inputs_before : World → Event → ℕ
inputs_before w (CoreTurn n) = length (w.inputs n)
inputs_before w (Need n d) = 0
inputs_before w Tick = 0
inputs_before w (Open n k) = 0
inputs_before w (Pull n k) = 0
inputs_before w (Transmit n k) = 0
inputs_before w (Deliver i) = 0
inputs_before w (Pump n k) = 0
inputs_before w (Arm n call) = 0
inputs_before w (Restart n torn) = 0

abbrev pub life_before : World → Event → Option Life
life_before w (CoreTurn n) = life_told (slice_get (w.items n) 0)
life_before w (Need n d) = None
life_before w Tick = None
life_before w (Open n k) = None
life_before w (Pull n k) = None
life_before w (Transmit n k) = None
life_before w (Deliver i) = None
life_before w (Pump n k) = None
life_before w (Arm n call) = None
life_before w (Restart n torn) = None

-- what the records of an event need of the world before it
abbrev pub before_of : World → Event → Before
before_of w event = record {
  clock = w.clock;
  datagrams = length w.datagrams;
  inputs = inputs_before w event;
  life = life_before w event;
}

-- An accepted event led to this world, and the trace has its records.
abbrev pub HasRecords : List (ℕ × ℕ) → Before → Event → World → TraceState → TraceState → Type 0
HasRecords parted b (Need n d) after old new = new ≡ with_text old (need_record b.clock n d)
HasRecords parted b Tick after old new = new ≡ after_frames old b.clock
HasRecords parted b (CoreTurn n) after old new = TellsOf n old (after_inputs b.life (drop b.inputs (after.inputs n)))
    new
HasRecords parted b (Restart n torn) after old new = TellsOf n old (after_restart b.clock) new
HasRecords parted b (Transmit n k) after old new = new ≡ after_sent parted b.datagrams after old
HasRecords parted b (Open n k) after old new = new ≡ old
HasRecords parted b (Pull n k) after old new = new ≡ old
HasRecords parted b (Deliver i) after old new = new ≡ old
HasRecords parted b (Pump n k) after old new = new ≡ old
HasRecords parted b (Arm n call) after old new = new ≡ old

-- The trace has the records of an event; a refused event has none.
abbrev pub Records : List (ℕ × ℕ) → World → Event → World → TraceState → TraceState → Option SimError → Type 0
Records parted w event after old new None = HasRecords parted (before_of w event) event after old new
Records parted w event after old new (Some error) = new ≡ old

-- ---- one line

-- the trace after an accepted line, apart from the records of its events
abbrev pub after_line : ℕ → Option SimulationLine → TraceState → TraceState
after_line t None trace = trace
after_line t (Some (Part a b)) trace = with_text trace (part_record t a b)
after_line t (Some (Mend a b)) trace = with_text trace (mend_record t a b)
after_line t (Some (Rounds r)) trace = after_frames trace t
after_line t (Some (Happens event)) trace = trace
after_line t (Some (Heights d)) trace = trace
after_line t (Some (Sent a b life)) trace = trace
after_line t (Some (Taken b a life)) trace = trace
after_line t (Some (Exact d)) trace = trace
after_line t (Some (Walk n d)) trace = trace
after_line t (Some Rest) trace = trace

-- the pairs of nodes whose link is parted after a line
abbrev pub parted_after : Option SimulationLine → List (ℕ × ℕ) → List (ℕ × ℕ)
parted_after None parted = parted
parted_after (Some (Part a b)) parted = with_parted a b parted
parted_after (Some (Mend a b)) parted = without_parted a b parted
parted_after (Some (Rounds r)) parted = parted
parted_after (Some (Happens event)) parted = parted
parted_after (Some (Heights d)) parted = parted
parted_after (Some (Sent a b life)) parted = parted
parted_after (Some (Taken b a life)) parted = parted
parted_after (Some (Exact d)) parted = parted
parted_after (Some (Walk n d)) parted = parted
parted_after (Some Rest) parted = parted
