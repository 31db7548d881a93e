-- What contracts see of an open life file.
use Rattle.tora_life.specs.declared.numbers.Numbers.{Numbers}
use Rattle.tora_life.specs.declared.tags.Owner.{Owner}

-- its disk, its owner, and its numbers
pub record FileView (D : Type 0) : Type 0 where
  pub disk : D
  pub owner : Owner
  pub numbers : Numbers
