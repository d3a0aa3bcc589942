-- The blocks of an input: the text of a script, up to a line that is a dot.
use Rattle.std.specs.Prelude.{◌≡◌, ℕ, ◌+◌, ◌^◌, ◌<◌, ◌≤◌, Bool, true, false, bytes_eq, nat_lt, codes, if◌then◌else◌, List, [], ◌∷◌, ◌++◌, length, take, Option, Some, None}
use Rattle.std.specs.List.{All, flat_map}
use Rattle.uq_value.specs.Data.{Bytes}
use Rattle.uq_words.specs.Lines.{HasNoFeed, lines, without_return}

-- how many bytes a script has at most
abbrev pub longest_script : ℕ
longest_script = 2 ^ 24

-- whether a line closes a block: it is a dot, and at most one carriage return behind it
abbrev pub closes : Bytes → Bool
closes raw = bytes_eq (without_return raw) (codes ".")

-- a line as it stands, with its line feed
abbrev pub with_feed : Bytes → Bytes
with_feed raw = raw ++ 0x0a ∷ []

-- the text that these lines have
abbrev pub text_of_lines : List Bytes → Bytes
text_of_lines inner = flat_map with_feed inner

-- the text of a script, where it is no longer than a script may be
abbrev pub kept_script : Bytes → Option Bytes
kept_script text = if nat_lt longest_script (length text) then None else Some text

-- the text of a script that is known to be too long
abbrev pub no_text : Bytes → Option Bytes
no_text text = None

-- a line within a block: it does not close it
abbrev pub IsInner : Bytes → Type 0
IsInner raw = HasNoFeed raw × (closes raw ≡ false)

-- ---- a block at the front of an input of which only the first `most` bytes count

-- The lines of a block, the line that closes it and its line feed stand before what is left. The text is kept so.
pub record IsBlockBy (keep : Bytes → Option Bytes) (most : ℕ) (input : Bytes) (text : Option Bytes) (most_behind : ℕ) (behind : Bytes)
    : Type 0 where
  pub inner : List Bytes
  pub closing : Bytes
  pub all_inner : All IsInner inner
  pub no_feed : HasNoFeed closing
  pub closes_it : closes closing ≡ true
  pub split : input ≡ text_of_lines inner ++ (closing ++ 0x0a ∷ behind)
  pub count : most ≡ length (text_of_lines inner) + length closing + 1 + most_behind
  pub kept_text : text ≡ keep (text_of_lines inner)

-- The last line of the input closes the block.
pub record IsLastBlockBy (keep : Bytes → Option Bytes) (most : ℕ) (input : Bytes) (text : Option Bytes) : Type 0 where
  pub inner : List Bytes
  pub closing : Bytes
  pub all_inner : All IsInner inner
  pub no_feed : HasNoFeed closing
  pub closes_it : closes closing ≡ true
  pub split : input ≡ text_of_lines inner ++ closing
  pub few : length input < most
  pub kept_text : text ≡ keep (text_of_lines inner)

-- the same, where a text is kept that is no longer than a script may be
abbrev pub IsBlock : ℕ → Bytes → Option Bytes → ℕ → Bytes → Type 0
IsBlock = IsBlockBy kept_script

abbrev pub IsLastBlock : ℕ → Bytes → Option Bytes → Type 0
IsLastBlock = IsLastBlockBy kept_script

-- The input ends within the block: its last line does not close it.
pub record IsUnfinished (most : ℕ) (input : Bytes) : Type 0 where
  pub inner : List Bytes
  pub last : Bytes
  pub all_inner : All IsInner inner
  pub last_inner : IsInner last
  pub split : input ≡ text_of_lines inner ++ last
  pub few : length input < most

-- The block is not at its end where the bytes that count are.
pub record IsBlockTooMuch (most : ℕ) (input : Bytes) : Type 0 where
  pub inner : List Bytes
  pub part : Bytes
  pub rest : Bytes
  pub all_inner : All IsInner inner
  pub no_feed : HasNoFeed part
  pub split : input ≡ text_of_lines inner ++ (part ++ rest)
  pub count : length (text_of_lines inner) + length part ≡ most

-- Part of a block was taken from an input of which this is left.
pub record IsBlockPart (input behind : Bytes) : Type 0 where
  pub inner : List Bytes
  pub part : Bytes
  pub all_inner : All IsInner inner
  pub no_feed : HasNoFeed part
  pub split : input ≡ text_of_lines inner ++ (part ++ behind)

-- ---- these are lines of the bytes that count; whether the input ends among these is the same behind a block

abbrev pub BlockIsFirst : Type 0
BlockIsFirst = (most : ℕ) (input : Bytes) (text : Option Bytes) (most_behind : ℕ) (behind : Bytes) (is : IsBlock most input text most_behind behind)
    → (lines (take most input) ≡ is.inner ++ is.closing ∷ lines (take most_behind behind)) × (nat_lt (length input) most ≡ nat_lt (length behind) most_behind)

abbrev pub LastBlockIsAlone : Type 0
LastBlockIsAlone = (most : ℕ) (input : Bytes) (text : Option Bytes) (is : IsLastBlock most input text)
    → (lines (take most input) ≡ is.inner ++ is.closing ∷ []) × (nat_lt (length input) most ≡ true)

abbrev pub UnfinishedIsAlone : Type 0
UnfinishedIsAlone = (most : ℕ) (input : Bytes) (is : IsUnfinished most input)
    → (lines (take most input) ≡ is.inner ++ is.last ∷ []) × (nat_lt (length input) most ≡ true)

abbrev pub BlockPartIsAlone : Type 0
BlockPartIsAlone = (most : ℕ) (input : Bytes) (is : IsBlockTooMuch most input)
    → (lines (take most input) ≡ is.inner ++ is.part ∷ []) × (nat_lt (length input) most ≡ false)

-- ---- an input that is one script

-- what an input is as one script
pub data Whole : Type 0 where
  -- it is a script, which is this text
  Complete : Bytes → Whole
  -- it has more bytes than a script may have
  Overlong : Whole
  -- it is not at its end where the bytes that count are
  Unended : Whole

-- of an input the first `most` bytes count
abbrev pub whole : ℕ → Bytes → Whole
whole most input =
    if nat_lt longest_script (length (take most input)) then Overlong
    else if nat_lt (length input) most then Complete input
    else Unended

-- how many bytes were taken when this is known
abbrev pub taken_for : ℕ → Whole → ℕ
taken_for most (Complete text) = length text
taken_for most Overlong = longest_script + 1
taken_for most Unended = most

-- whether the end was told then
abbrev pub is_ended : Whole → Bool
is_ended (Complete text) = true
is_ended Overlong = false
is_ended Unended = false

-- So many bytes of the input were taken as show what it is; these are left.
pub record IsWhole (most : ℕ) (input : Bytes) (found : Whole) (behind : Bytes) : Type 0 where
  pub is : whole most input ≡ found
  pub taken : Bytes
  pub split : input ≡ taken ++ behind
  pub count : length taken ≡ taken_for most found

-- Part of a script was taken, and these are left: the end was not told, nor were more bytes taken than a script may have.
pub record IsScriptPart (most : ℕ) (input behind : Bytes) : Type 0 where
  pub taken : Bytes
  pub split : input ≡ taken ++ behind
  pub short : length taken ≤ longest_script
  pub few : length taken < most
