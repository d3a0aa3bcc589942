-- The string at the front of a text.
use Rattle.std.proofs.Common.{◌≡◌, ◌↔◌, ◌<◌, ◌+◌, ◌∷◌, ◌++◌, length, length-append, arith, Some, Result, Ok, Err, ap, ◌∙◌}
use Rattle.std.specs.Prelude.{IfOk}
use Rattle.uq_value.specs.Data.{Bytes}
use Rattle.uq_json.specs.Front.{SplitsString, part_read, string_front}
use Rattle.uq_json.specs.Strings.{IsString}
use Rattle.uq_json.specs.Internal.Reading.{Fails, Gives, Read, string_at}
use Rattle.uq_json.specs.declared.error.JsonFault.{JsonFault}
use Rattle.uq_json.specs.declared.error.JsonFault.TheVariants as fault
use Rattle.uq_json.proofs.Faults.{string_shallow}
use Rattle.uq_json.proofs.Pieces.{string_again, string_takes}

-- ---- the answer

front_fails : {A : Type 0} (view : A → Bytes × Bytes) (text : Bytes) (why : JsonFault) → Fails why (string_at text) → SplitsString view text (Err why)
unfolding string_front
front_fails view text fault.Memory fails = tt
front_fails view text fault.TooLarge fails = fails
front_fails view text fault.TooDeep fails = string_shallow text fails
front_fails view text fault.NotJson fails = ap part_read fails

pub front_given : {A : Type 0} (view : A → Bytes × Bytes) (text : Bytes) (result : Result A JsonFault) → Gives view result (string_at text) → SplitsString view text result
unfolding string_front
front_given view text (Ok x) gives = ap part_read gives
front_given view text (Err why) gives = front_fails view text why gives

-- behind a string less is left
shorter_at : (text : Bytes) (x : Bytes × Bytes) → string_at text ≡ Ok x → length x.1 < length text
shorter_at text x is =
    let taken = string_takes text x is in
    let whole : length text ≡ length (taken.used ++ x.1) = ap length taken.split in
    let both : length (taken.used ++ x.1) ≡ length taken.used + length x.1 = length-append taken.used x.1 in
    let used : length taken.used ≡ length (0x22 ∷ taken.reads.body) = ap length taken.reads.opened in
    omega arith

pub shorter_given : {A : Type 0} (view : A → Bytes × Bytes) (text : Bytes) (result : Result A JsonFault) → Gives view result (string_at text) → IfOk result (λ x. length (view x).1 < length text)
shorter_given view text (Ok x) gives = shorter_at text (view x) gives
shorter_given view text (Err why) gives = tt

-- ---- the law

read_ok : (read : Read Bytes) (x : Bytes × Bytes) → part_read read ≡ Some x → read ≡ Ok x
read_ok (Ok y) x is = let same : y ≡ x = cc in ap Ok same
read_ok (Err why) x is = absurd (cc)

front_is : (text bs rest : Bytes) → string_front text ≡ Some (bs, rest) → (front : Bytes) × (text ≡ front ++ rest) × IsString front bs
unfolding string_front
front_is text bs rest is =
    let taken = string_takes text (bs, rest) (read_ok (string_at text) (bs, rest) is) in
    (taken.used, taken.split, taken.reads)

is_front : (text bs rest : Bytes) → (front : Bytes) × (text ≡ front ++ rest) × IsString front bs → string_front text ≡ Some (bs, rest)
unfolding string_front
is_front text bs rest (front, split, is) = ap (λ (t : Bytes). part_read (string_at t)) split ∙ ap part_read (string_again front bs rest is)

pub front_is_string : (text bs rest : Bytes) → (string_front text ≡ Some (bs, rest)) ↔ ((front : Bytes) × (text ≡ front ++ rest) × IsString front bs)
front_is_string text bs rest = (front_is text bs rest, is_front text bs rest)
