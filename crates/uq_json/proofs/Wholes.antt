-- A string that is the whole text.
use Rattle.std.proofs.Common.{◌≡◌, ℕ, ◌<◌, [], ◌∷◌, length, Ok, Err, sym, ap, subst, ◌∙◌, append-nil, arith}
use Rattle.uq_value.specs.Data.{Bytes}
use Rattle.uq_json.specs.Strings.{IsString}
use Rattle.uq_json.specs.Answer.{AnswersString}
use Rattle.uq_json.specs.Internal.Reading.{Read, Fails, string_at}
use Rattle.uq_json.specs.declared.error.JsonFault.{JsonFault}
use Rattle.uq_json.specs.declared.error.JsonFault.TheVariants as fault
use Rattle.uq_json.proofs.Faults.{string_shallow}
use Rattle.uq_json.proofs.Pieces.{string_takes, string_again}

pub string_whole : (ts bs rest : Bytes) → string_at ts ≡ Ok (bs, rest) → length rest ≡ 0 → IsString ts bs
string_whole ts bs [] e none =
    let taken = string_takes ts (bs, []) e in
    subst (λ (w : Bytes). IsString w bs) (sym (taken.split ∙ append-nil taken.used)) taken.reads
string_whole ts bs (c ∷ cs) e none = absurd (omega (arith, none))

string_again_whole : (ts bs : Bytes) → IsString ts bs → string_at ts ≡ Ok (bs, [])
string_again_whole ts bs is = ap string_at (sym (append-nil ts)) ∙ string_again ts bs [] is

abbrev rest_of : Read Bytes → Bytes
rest_of (Ok x) = x.1
rest_of (Err w) = []

pub string_with_rest : (ts bs rest : Bytes) → string_at ts ≡ Ok (bs, rest) → 0 < length rest → (others : Bytes) → IsString ts others → ⊥
string_with_rest ts bs rest e some others is =
    let same : ◌≡◌ {A = Read Bytes} (Ok (bs, rest)) (Ok (others, [])) = sym e ∙ string_again_whole ts others is in
    let none : rest ≡ [] = ap rest_of same in
    let count : length rest ≡ 0 = ap length none in omega (arith, count, some)

pub string_fails : {A : Type 0} (view : A → Bytes) (ts : Bytes) (why : JsonFault) → Fails why (string_at ts) → AnswersString view ts (Err why)
string_fails view ts fault.Memory fails = tt
string_fails view ts fault.TooLarge fails = fails
string_fails view ts fault.TooDeep fails = string_shallow ts fails
string_fails view ts fault.NotJson fails = λ bs is. let same : ◌≡◌ {A = Read Bytes} (Err fault.NotJson) (Ok (bs, [])) = sym fails ∙ string_again_whole ts bs is in absurd (cc)

pub not_none : (n : ℕ) → (n ≡ 0 → ⊥) → 0 < n
not_none n h = omega (arith, h)

abbrev first_of : Read Bytes → Bytes
first_of (Ok x) = x.0
first_of (Err w) = []

pub one_spelled : (ts a b : Bytes) → IsString ts a → IsString ts b → a ≡ b
one_spelled ts a b is also = ap first_of (sym (string_again_whole ts a is) ∙ string_again_whole ts b also)
