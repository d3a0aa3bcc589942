-- The lines of an input, and what each says.
use Rattle.std.specs.Prelude.{◌≡◌, ℕ, ◌^◌, Bool, true, false, ◌==◌, nat_lt, if◌then◌else◌, List, [], ◌∷◌, ◌++◌, ◌+◌, ◌<◌, length, take, Option, Some, None}
use Rattle.std.specs.List.{All, slice_split}
use Rattle.uq_value.specs.Data.{Bytes}
use Rattle.uq_words.specs.Words.{behind_blanks, words}

-- how many bytes a line has at most
abbrev pub longest : ℕ
longest = 2 ^ 26

abbrev pub is_feed : ℕ → Bool
is_feed c = c == 0x0a

-- the lines of an input, without their line feeds; no line feed stands behind the last one
abbrev pub lines : Bytes → List Bytes
lines input = slice_split is_feed input

-- one carriage return just before the end of a line is dropped
abbrev pub without_return : Bytes → Bytes
without_return [] = []
without_return (c ∷ []) = if c == 0x0d then [] else c ∷ []
without_return (c ∷ next ∷ cs) = c ∷ without_return (next ∷ cs)

-- nothing, or what begins with a number sign
abbrev pub is_comment : Bytes → Bool
is_comment [] = true
is_comment (c ∷ cs) = c == 0x23

-- the text of a line, where it has no more than so many bytes
abbrev pub kept_within : ℕ → Bytes → Option Bytes
kept_within limit raw = if nat_lt limit (length (without_return raw)) then None else Some (without_return raw)

-- the text of a line, where it is no longer than a line may be
abbrev pub kept : Bytes → Option Bytes
kept raw = kept_within longest raw

-- what a line says: nothing, or words; or why it says none
pub data Spoken : Type 0 where
  Silent : Spoken
  TooLong : Spoken
  NoWords : Spoken
  Says : List Bytes → Spoken

abbrev pub spoken_in : Option (List Bytes) → Spoken
spoken_in None = NoWords
spoken_in (Some them) = Says them

-- the length comes first, then whether it says anything, then its form
abbrev pub spoken_by : Option Bytes → Spoken
spoken_by None = TooLong
spoken_by (Some text) = if is_comment (behind_blanks text) then Silent else spoken_in (words text)

abbrev pub spoken : Bytes → Spoken
spoken raw = spoken_by (kept raw)

-- ---- a line at the front of an input of which only the first `most` bytes count

abbrev pub HasNoFeed : Bytes → Type 0
HasNoFeed = All (λ c. is_feed c ≡ false)

-- A line and its line feed stand before what is left. Of the line so many bytes are kept at most.
pub record IsLineWithin (limit most : ℕ) (input : Bytes) (text : Option Bytes) (most_behind : ℕ) (behind : Bytes) : Type 0 where
  pub raw : Bytes
  pub no_feed : HasNoFeed raw
  pub split : input ≡ raw ++ 0x0a ∷ behind
  pub count : most ≡ length raw + 1 + most_behind
  pub kept_text : text ≡ kept_within limit raw

-- All of the input is its last line.
pub record IsLastWithin (limit most : ℕ) (input : Bytes) (text : Option Bytes) : Type 0 where
  pub no_feed : HasNoFeed input
  pub few : length input < most
  pub kept_text : text ≡ kept_within limit input

-- the same, where a line is kept that is no longer than a line may be
abbrev pub IsLine : ℕ → Bytes → Option Bytes → ℕ → Bytes → Type 0
IsLine = IsLineWithin longest

abbrev pub IsLast : ℕ → Bytes → Option Bytes → Type 0
IsLast = IsLastWithin longest

-- The line is not at its end where the bytes that count are.
pub record IsTooMuch (most : ℕ) (input : Bytes) : Type 0 where
  pub part : Bytes
  pub rest : Bytes
  pub no_feed : HasNoFeed part
  pub split : input ≡ part ++ rest
  pub count : length part ≡ most

-- Part of a line was taken from an input of which this is left.
pub record IsPart (input behind : Bytes) : Type 0 where
  pub part : Bytes
  pub no_feed : HasNoFeed part
  pub split : input ≡ part ++ behind

-- ---- these are the lines of the bytes that count, one by one; whether the input ends among these is the same behind a line

abbrev pub LineIsFirst : Type 0
LineIsFirst = (most : ℕ) (input : Bytes) (text : Option Bytes) (most_behind : ℕ) (behind : Bytes) (is : IsLine most input text most_behind behind)
    → (lines (take most input) ≡ is.raw ∷ lines (take most_behind behind)) × (nat_lt (length input) most ≡ nat_lt (length behind) most_behind)

abbrev pub LastIsAlone : Type 0
LastIsAlone = (most : ℕ) (input : Bytes) (text : Option Bytes) → IsLast most input text
    → (lines (take most input) ≡ input ∷ []) × (nat_lt (length input) most ≡ true)

abbrev pub PartIsAlone : Type 0
PartIsAlone = (most : ℕ) (input : Bytes) (is : IsTooMuch most input) → (lines (take most input) ≡ is.part ∷ []) × (nat_lt (length input) most ≡ false)
