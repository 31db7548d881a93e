-- The cause of the last turn is the cause for which the thread ended.
use Rattle.std.proofs.Common.{◌≡◌, ℕ, Bool, sym, ◌∙◌, subst}
use Rattle.tora_life.specs.declared.numbers.Numbers.{Numbers}
use Rattle.tora_life.specs.declared.numbers.LifeError.TheVariants as Fault
use Rattle.tora_life.specs.Disk.{HasCause}
use Rattle.tora_neighbour.specs.declared.ending.Ending.{Ending}
use Rattle.tora_neighbour.specs.declared.ending.Ending.TheVariants.{NoNumber, Broken, Refused}
use Rattle.tora_neighbour.specs.Datagrams.{RoseBy}
use Rattle.tora_neighbour.specs.Causes.{IsCause, IsEndOf, fault_of}

pub end_cause : (ending : Ending) (given before after : Numbers) (disk_given disk disk_now row wire_given wire_now : ℕ) (gone : Bool)
    → before.failed ≡ given.failed
    → disk ≡ disk_given
    → RoseBy row wire_given wire_now
    → IsCause ending before after disk disk_now row gone
    → IsEndOf (fault_of ending) given after disk_given disk_now wire_given wire_now gone
end_cause (NoNumber Fault.Disk) given before after dg d dn row wg wn gone failed same rose cause = subst (λ (n : ℕ). HasCause n dn) same cause
end_cause (NoNumber Fault.Failed) given before after dg d dn row wg wn gone failed same rose cause = sym failed ∙ cause
end_cause (NoNumber Fault.Spent) given before after dg d dn row wg wn gone failed same rose cause = cause
end_cause (NoNumber Fault.Damaged) given before after dg d dn row wg wn gone failed same rose cause = cause
end_cause (NoNumber Fault.Foreign) given before after dg d dn row wg wn gone failed same rose cause = cause
end_cause (Broken at) given before after dg d dn row wg wn gone failed same rose cause = subst (λ (n : ℕ). RoseBy n wg wn) cause rose
end_cause Refused given before after dg d dn row wg wn gone failed same rose cause = cause
