-- What decoding answers, by the stored form alone.
use Rattle.std.proofs.Common.{◌≡◌, ◌≢◌, ℕ, ◌≤◌, ◌-◌, ◌++◌, length, length-append, take, drop, Result, Ok, Err, refl, sym, ap, subst, ◌∙◌, arith}
use Rattle.std.proofs.lemmas.List.{take-append-drop, length-take-le}
use Rattle.std.proofs.Math.Seq.{take-append_seam}
use Rattle.uq_value.specs.Data.{Bytes}
use Rattle.uq_value.specs.Size.{most_size}
use Rattle.uq_value.specs.Depth.{data_depth, most_depth}
use Rattle.uq_value.specs.Plain.{plain, size}
use Rattle.uq_value.specs.declared.value.Value.{Value}
use Rattle.uq_codec.specs.Stored.{Encodes, IsStored}
use Rattle.uq_codec.specs.Internal.Reading.{Front, ReadsValue}
use Rattle.uq_codec.specs.Answer.{CodecAnswers}
use Rattle.uq_codec.specs.declared.error.CodecFault.{CodecFault}
use Rattle.uq_codec.specs.declared.error.CodecFault.TheVariants as fault
use Rattle.uq_codec.proofs.Determined.{spelling_same}
use Rattle.uq_value.specs.Laws.Levels.{plain_one}

pub decoded_again : (word rest : Bytes) (v : Value) (result : Result (Value × ℕ) CodecFault) → IsStored word v → CodecAnswers (word ++ rest) result → result ≢ Err fault.Memory → result ≡ Ok (v, length word)
decoded_again word rest v (Ok x) is answers ample =
    let same = spelling_same (plain x.0) (plain v) (take x.1 (word ++ rest)) word (drop x.1 (word ++ rest)) rest answers.1.spells is.spells (take-append-drop x.1 (word ++ rest)) in
    let long : x.1 ≡ length word = sym (length-take-le x.1 (word ++ rest) answers.0) ∙ ap length same.word in
    let values : x.0 ≡ v = plain_one x.0 v same.value in
    ap (λ (u : Value). let r : Result (Value × ℕ) CodecFault = Ok (u, x.1) in r) values ∙ ap (λ (n : ℕ). let r : Result (Value × ℕ) CodecFault = Ok (v, n) in r) long
decoded_again word rest v (Err fault.NotCanonical) is answers ample =
    absurd (answers (length word) v (subst (λ (w : Bytes). IsStored w v) (sym (take-append_seam word rest)) is))
decoded_again word rest v (Err fault.Memory) is answers ample = absurd (ample refl)

-- what was read is the stored form of the value
pub decoded : (bytes rest : Bytes) (v : Value) → Front (λ word. Encodes word (plain v)) bytes rest × (data_depth (plain v) ≤ most_depth) → size v ≤ most_size → CodecAnswers bytes (Ok (v, length bytes - length rest))
decoded bytes rest v (f, shallow) small =
    let long : length bytes ≡ length (f.word ++ rest) = ap length f.parts in
    let taken : length bytes - length rest ≡ length f.word = omega (arith, long, length-append f.word rest) in
    let word : take (length bytes - length rest) bytes ≡ f.word =
    ap (λ (n : ℕ). take n bytes) taken ∙ ap (λ (w : Bytes). take (length f.word) w) f.parts ∙ take-append_seam f.word rest in
    (omega arith, subst (λ (w : Bytes). IsStored w v) (sym word) (record { spells = f.is_word; small = small; shallow = shallow }))

pub not_decoded : (bytes : Bytes) (e : CodecFault) → ReadsValue most_depth bytes (Err e) → CodecAnswers bytes (Err e)
not_decoded bytes fault.Memory none = tt
not_decoded bytes fault.NotCanonical none = λ n v is.
    none (plain v) (record { shallow = is.shallow; small = is.small }) (drop n bytes) (record { word = take n bytes; parts = sym (take-append-drop n bytes); is_word = is.spells })
