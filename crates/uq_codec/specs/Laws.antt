-- Laws of the stored form.
use Rattle.std.specs.Prelude.{◌≡◌, ◌≢◌, ℕ, ◌++◌, length, Result, Ok, Err}
use Rattle.uq_value.specs.Data.{Bytes}
use Rattle.uq_value.specs.Plain.{size}
use Rattle.uq_value.specs.declared.value.Value.{Value}
use Rattle.uq_codec.specs.Stored.{IsStored}
use Rattle.uq_codec.specs.Answer.{CodecAnswers}
use Rattle.uq_codec.specs.declared.error.CodecFault.{CodecFault}
use Rattle.uq_codec.specs.declared.error.CodecFault.TheVariants.{Memory}

-- a value has one stored form
abbrev pub OneForm : Type 0
OneForm = (a b : Bytes) (v : Value) → IsStored a v → IsStored b v → a ≡ b

-- the stored form of one value does not begin that of another, nor its own with more behind it
abbrev pub NoneBegins : Type 0
NoneBegins = (a b x y : Bytes) (u v : Value) → IsStored a u → IsStored b v → a ++ x ≡ b ++ y → (a ≡ b) × (u ≡ v)

-- its length is the value's size
abbrev pub LengthIsSize : Type 0
LengthIsSize = (word : Bytes) (v : Value) → IsStored word v → length word ≡ size v

-- whatever follows it, it is decoded to its value and its length
abbrev pub DecodesAgain : Type 0
DecodesAgain = (word rest : Bytes) (v : Value) (result : Result (Value × ℕ) CodecFault) →
    IsStored word v → CodecAnswers (word ++ rest) result → result ≢ Err Memory → result ≡ Ok (v, length word)
