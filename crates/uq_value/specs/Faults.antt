-- Why a call on values refuses. Want of memory may always be the answer.
use Rattle.std.specs.Prelude.{◌≡◌, ◌<◌, Err}
use Rattle.uq_value.specs.Data.{Bytes}
use Rattle.uq_value.specs.Size.{text_size, most_size}
use Rattle.uq_value.specs.Put.{Put}
use Rattle.uq_value.specs.declared.error.ValueFault.{ValueFault}
use Rattle.uq_value.specs.declared.error.ValueFault.TheVariants.{NotContainer, IndexRange, TooDeep, TooLarge, Memory}

-- why a text can't be made
abbrev pub TextFault : Bytes → ValueFault → Type 0
TextFault bs Memory = Unit {0}
TextFault bs TooLarge = most_size < text_size bs
TextFault bs NotContainer = ⊥
TextFault bs IndexRange = ⊥
TextFault bs TooDeep = ⊥

-- the fault is that of the defined outcome
abbrev pub Refuses : {A : Type 0} → Put A → ValueFault → Type 0
Refuses outcome Memory = Unit {0}
Refuses outcome TooLarge = outcome ≡ Err TooLarge
Refuses outcome NotContainer = outcome ≡ Err NotContainer
Refuses outcome IndexRange = outcome ≡ Err IndexRange
Refuses outcome TooDeep = outcome ≡ Err TooDeep
