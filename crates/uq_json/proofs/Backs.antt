-- What is quoted or printed is read back, and where a string ends.
use Rattle.std.proofs.Common.{◌≡◌, ◌≢◌, [], ◌++◌, length, take, Result, Ok, Err, refl, sym, ap, ◌∙◌, length-append, arith}
use Rattle.std.proofs.lemmas.List.{take_at}
use Rattle.uq_value.specs.Data.{Bytes}
use Rattle.uq_value.specs.Depth.{most_depth}
use Rattle.uq_value.specs.IsValue.{IsValue}
use Rattle.uq_value.specs.Plain.{plain}
use Rattle.uq_value.specs.declared.value.Value.{Value}
use Rattle.uq_json.specs.Answer.{JsonAnswers, SpellsValue}
use Rattle.uq_json.specs.Internal.Reading.{Read, string_at}
use Rattle.uq_json.specs.Quote.{quoted}
use Rattle.uq_json.specs.Strings.{IsString}
use Rattle.uq_json.specs.Text.{json}
use Rattle.uq_json.specs.declared.error.JsonFault.{JsonFault}
use Rattle.uq_json.specs.declared.error.JsonFault.TheVariants.{Memory}
use Rattle.uq_json.proofs.Escapes.{quoted_spells}
use Rattle.uq_json.proofs.Pieces.{string_again}
use Rattle.uq_json.proofs.Printed.{printed_spells}
use Rattle.uq_json.proofs.Verdicts.{only_answer}
use Rattle.uq_json.proofs.Wholes.{one_spelled}

pub quotes_back : (bytes : Bytes) → IsString (quoted bytes) bytes × ((others : Bytes) → IsString (quoted bytes) others → others ≡ bytes)
quotes_back bytes = (quoted_spells bytes, λ others is. one_spelled (quoted bytes) others bytes is (quoted_spells bytes))

pub printed_answer : (v : Value) → IsValue (plain v) → SpellsValue (json (plain v)) (plain v)
printed_answer v is = record { spells = printed_spells most_depth (plain v) is.shallow is.sound; small = is.small }

no_memory : (v : Value) → ◌≡◌ {A = Result Value JsonFault} (Ok v) (Err Memory) → ⊥
no_memory v e = cc

pub prints_back : (v : Value) → IsValue (plain v) → JsonAnswers (json (plain v)) (Ok v) × ((a : Result Value JsonFault) → JsonAnswers (json (plain v)) a → a ≢ Err Memory → a ≡ Ok v)
prints_back v is = (printed_answer v is, λ a answers other. only_answer (json (plain v)) a (Ok v) answers (printed_answer v is) other (no_memory v))

abbrev spelled_of : Read Bytes → Bytes
spelled_of (Ok x) = x.0
spelled_of (Err w) = []

abbrev rest_of : Read Bytes → Bytes
rest_of (Ok x) = x.1
rest_of (Err w) = []

pub none_begins : (a b x y u v : Bytes) → IsString a u → IsString b v → a ++ x ≡ b ++ y → (a ≡ b) × (u ≡ v)
none_begins a b x y u v is also e =
    let same : ◌≡◌ {A = Read Bytes} (Ok (u, x)) (Ok (v, y)) = sym (string_again a u x is) ∙ ap string_at e ∙ string_again b v y also in
    let rests : x ≡ y = ap rest_of same in
    let long : length a ≡ length b = omega (arith, length-append a x, length-append b y, ap (λ (w : Bytes). length w) e, ap (λ (w : Bytes). length w) rests) in
    (sym (take_at a x (length a) refl) ∙ ap (λ (w : Bytes). take (length a) w) e ∙ take_at b y (length a) (sym long), ap spelled_of same)
