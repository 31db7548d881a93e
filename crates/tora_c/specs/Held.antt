-- What a struct owns if its only field is a pointer to a value, which may be null.
use Rattle.std.specs.Prelude.{Option, None, Some}
use Rattle.std.specs.Coded.{Coded, coded_option}
use mir.Syntax.{Ty}
use base.Fml.{Fml, feq}
use denote.RattleType.{RattleType}
use denote.RawPtr.{Ptr, null_ptr}
use Rattle.std.specs.contracts.impls.GlobalAllocator.TheImpl.{ghosts}
use Rattle.std_alloc.specs.Box.Ownership.{box_owns}

-- the right to free a block of the C library's heap, for any `Global`
abbrev pub token : Ty → Ptr → Fml
token = ghosts.dealloc_token (record { memory = record { seal = tt } })

-- nothing if the pointer is null; otherwise the block that it points to, with the value there
abbrev pub owned : (Value : RattleType) → Ptr → Option Value.Denot → Fml
owned Value p None = feq Ptr p null_ptr
owned Value p (Some x) = box_owns token Value p x

abbrev pub coded_held : (Value : RattleType) → Coded (Option Value.Denot)
coded_held Value = coded_option Value.coded
