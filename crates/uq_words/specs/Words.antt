-- The words of a line: bare ones, and JSON strings.
use Rattle.std.specs.Prelude.{◌≡◌, ◌↔◌, ℕ, zero, suc, ◌+◌, Bool, true, false, not, ◌||◌, ◌==◌, if◌then◌else◌, List, [], ◌∷◌, ◌++◌, length, drop, Option, Some, None, IsTrue}
use Rattle.std.specs.List.{before_first, list_all, list_any, position_or_len}
use Rattle.uq_value.specs.Data.{Bytes}
use Rattle.uq_json.specs.Front.{string_front}
use Rattle.uq_json.specs.Strings.{IsString}

-- a space or a tab
abbrev pub is_blank : ℕ → Bool
is_blank c = c == 0x20 || c == 0x09

-- the text behind the blanks at its front
abbrev pub behind_blanks : Bytes → Bytes
behind_blanks [] = []
behind_blanks (c ∷ cs) = if is_blank c then behind_blanks cs else c ∷ cs

-- a byte stands there, and it is no blank
abbrev pub starts_word : Bytes → Bool
starts_word [] = false
starts_word (c ∷ cs) = not (is_blank c)

-- ---- one word

-- no blank and no quote stands in a bare word
abbrev pub ends_bare : ℕ → Bool
ends_bare c = is_blank c || c == 0x22

-- the bare word at the front of a text, and the text behind it
abbrev pub bare_front : Bytes → Bytes × Bytes
bare_front text = (before_first ends_bare text, drop (position_or_len ends_bare text) text)

abbrev pub begins_with_quote : Bytes → Bool
begins_with_quote [] = false
begins_with_quote (c ∷ cs) = c == 0x22

-- the word at the front of a text, and the text behind it: what begins with a quote is a JSON string
abbrev pub word_front : Bytes → Option (Bytes × Bytes)
word_front text = if begins_with_quote text then string_front text else Some (bare_front text)

-- a word ends at a blank or at the end of the line
abbrev pub may_follow : Bytes → Bool
may_follow [] = true
may_follow (c ∷ cs) = is_blank c

abbrev pub ended : Option (Bytes × Bytes) → Option (Bytes × Bytes)
ended None = None
ended (Some x) = if may_follow x.1 then Some x else None

-- ---- words

-- a word before others
abbrev pub onto : Bytes → Option (List Bytes) → Option (List Bytes)
onto word None = None
onto word (Some others) = Some (word ∷ others)

-- a word, and the others behind it
abbrev pub with_others : (Bytes → Option (List Bytes)) → Option (Bytes × Bytes) → Option (List Bytes)
with_others others None = None
with_others others (Some x) = onto x.0 (others (behind_blanks x.1))

-- the words of a text that begins with one, fewer than so many
abbrev pub words_within : ℕ → Bytes → Option (List Bytes)
words_within zero text = None
words_within (suc n) [] = Some []
words_within (suc n) (c ∷ cs) = with_others (words_within n) (ended (word_front (c ∷ cs)))

-- the words of a line, where it is made of words and blanks between them
unfoldable pub words : Bytes → Option (List Bytes)
words line = words_within (length line + 1) (behind_blanks line)

-- ---- the same, said of the parts of a line

-- bytes of which none ends a bare word
pub data IsWord (text word : Bytes) : Type 0 where
  bare : word ≡ text → list_any ends_bare text ≡ false → (text ≡ [] → ⊥) → IsWord text word
  quoted : IsString text word → IsWord text word

-- Blanks may stand before and behind each word, and at least one stands between two.
abbrev pub AreWords : Bytes → List Bytes → Type 0
AreWords line [] = list_all is_blank line ≡ true
AreWords line (word ∷ others) =
    (blanks : Bytes) × (text : Bytes) × (rest : Bytes) × (line ≡ blanks ++ (text ++ rest)) × (list_all is_blank blanks ≡ true)
    × IsWord text word × IsTrue (may_follow rest) × AreWords rest others

-- a line has these words exactly where it is made of them
abbrev pub WordsAreSpelled : Type 0
WordsAreSpelled = (line : Bytes) (them : List Bytes) → (words line ≡ Some them) ↔ AreWords line them
