-- What encoding leaves, and what decoding answers.
use Rattle.std.specs.Prelude.{◌≡◌, ℕ, ◌≤◌, ◌++◌, length, take, Result, Ok, Err}
use Rattle.uq_value.specs.Data.{Bytes}
use Rattle.uq_value.specs.declared.value.Value.{Value}
use Rattle.uq_codec.specs.Stored.{IsStored}
use Rattle.uq_codec.specs.declared.error.CodecFault.{CodecFault}
use Rattle.uq_codec.specs.declared.error.CodecFault.TheVariants.{NotCanonical, Memory}

-- the stored form stands behind what was there
abbrev pub Appends : Bytes → Bytes → Value → Type 0
Appends old new v = (word : Bytes) × (new ≡ old ++ word) × IsStored word v

-- The first bytes are the stored form of a value, or those of no length are. Want of memory may always be the answer.
abbrev pub CodecAnswers : Bytes → Result (Value × ℕ) CodecFault → Type 0
CodecAnswers bytes (Ok x) = (x.1 ≤ length bytes) × IsStored (take x.1 bytes) x.0
CodecAnswers bytes (Err NotCanonical) = (n : ℕ) (v : Value) → IsStored (take n bytes) v → ⊥
CodecAnswers bytes (Err Memory) = Unit {0}
