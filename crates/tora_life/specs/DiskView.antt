-- What contracts see of a disk in memory.
use Rattle.std.specs.Prelude.{List}
use Rattle.tora_life.specs.declared.state.State.{State}

-- its state, and the states before each of its calls; they take no memory
pub record DiskView : Type 0 where
  pub state : State
  pub past : List State
