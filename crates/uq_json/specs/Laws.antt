-- Laws of JSON texts and values, apart from any call.
use Rattle.std.specs.Prelude.{◌≡◌, ◌≢◌, ◌++◌, Result, Ok, Err}
use Rattle.uq_value.specs.Data.{Bytes}
use Rattle.uq_value.specs.IsValue.{IsValue}
use Rattle.uq_value.specs.Plain.{plain}
use Rattle.uq_value.specs.declared.value.Value.{Value}
use Rattle.uq_json.specs.Answer.{JsonAnswers}
use Rattle.uq_json.specs.Quote.{quoted}
use Rattle.uq_json.specs.Strings.{IsString}
use Rattle.uq_json.specs.Text.{json}
use Rattle.uq_json.specs.declared.error.JsonFault.{JsonFault}
use Rattle.uq_json.specs.declared.error.JsonFault.TheVariants.{Memory}

-- a text has one answer, but for want of memory
abbrev pub OneAnswer : Type 0
OneAnswer = (text : Bytes) (a b : Result Value JsonFault) → JsonAnswers text a → JsonAnswers text b → a ≢ Err Memory → b ≢ Err Memory → a ≡ b

-- a text is a string of one list of bytes at most
abbrev pub OneString : Type 0
OneString = (text a b : Bytes) → IsString text a → IsString text b → a ≡ b

-- the string of some bytes spells these, and no others
abbrev pub QuotesBack : Type 0
QuotesBack = (bytes : Bytes) → IsString (quoted bytes) bytes × ((others : Bytes) → IsString (quoted bytes) others → others ≡ bytes)

-- the text of a value is read as that value
abbrev pub PrintsBack : Type 0
PrintsBack = (v : Value) → IsValue (plain v) → JsonAnswers (json (plain v)) (Ok v) × ((a : Result Value JsonFault) → JsonAnswers (json (plain v)) a → a ≢ Err Memory → a ≡ Ok v)

-- no string begins another, nor itself with more behind it
abbrev pub NoneBegins : Type 0
NoneBegins = (a b x y u v : Bytes) → IsString a u → IsString b v → a ++ x ≡ b ++ y → (a ≡ b) × (u ≡ v)
