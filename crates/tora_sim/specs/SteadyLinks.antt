-- Link ends whose fields that HELLOs read are stored separately while the end is idle.
use Rattle.std.specs.Prelude.{◌≡◌, ◌==◌, Bool, false, Some, if◌then◌else◌}
use Rattle.tora_arq.specs.declared.steady.Steady.{Steady}
use Rattle.tora_arq.specs.LinkEnd.{EndState}
use Rattle.tora_arq.specs.Steady.{IsSteady}
use Rattle.tora_sim.specs.Links.{LinkView, with_state}
use Rattle.tora_sim.specs.Possible.{has_cargo}

-- there are no idle fields
abbrev pub is_none : Steady → Bool
is_none h = h.own == 0

-- the state of an end, with the idle fields in place of its own if there are any
abbrev pub shown_state : Steady → EndState → EndState
shown_state h e = record e {
  last_hello = if is_none h then e.last_hello else Some h.said;
  last_hearing = if is_none h then e.last_hearing else h.heard;
  owes_old_hello = if is_none h then e.owes_old_hello else h.owes_old_hello;
}

abbrev pub shown : Steady → LinkView → LinkView
shown h link = with_state link (shown_state h link.state)

-- these may be the idle fields of a link end: it is idle, and no cargo waits in its lane
pub record IsSteadyLink (h : Steady) (link : LinkView) : Type 0 where
  pub steady : IsSteady h link.settings link.state
  pub empty : has_cargo link ≡ false

-- the idle fields, if there are any, are those of this link end
abbrev pub IsKept : Steady → LinkView → Type 0
IsKept h link = is_none h ≡ false → IsSteadyLink h link
