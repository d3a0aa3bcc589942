-- Reading words from the left.
use Rattle.std.proofs.Common.{◌≡◌, ℕ, zero, suc, ◌+◌, ◌-◌, ◌<◌, ◌≤◌, Bool, true, false, not, ◌||◌, eqb, cond, List, [], ◌∷◌, ◌++◌, length, drop, Option, Some, None, Err, refl, sym, ap, ◌∙◌, append_assoc, append-nil, length-drop, arith}
use Rattle.std.specs.List.{position_or_len}
use Rattle.uq_value.specs.Data.{Bytes}
use Rattle.uq_json.specs.Front.{string_front}
use Rattle.uq_words.specs.Texts.{AnswersWords, NoWord}
use Rattle.uq_words.specs.Words.{bare_front, begins_with_quote, behind_blanks, ended, ends_bare, is_blank, may_follow, onto, starts_word, with_others, word_front, words, words_within}
use Rattle.uq_words.specs.declared.error.WordsFault.{WordsFault}
use Rattle.uq_words.specs.declared.error.WordsFault.TheVariants as fault

-- the words so far, and those of the text that is left
abbrev pub behind : List Bytes → Option (List Bytes) → Option (List Bytes)
behind before None = None
behind before (Some others) = Some (before ++ others)

-- ---- blanks

pub blanks_shorter : (text : Bytes) → length (behind_blanks text) ≤ length text
blanks_shorter [] = omega arith
blanks_shorter (c ∷ cs) = by (is_blank c) (blanks_shorter cs)
  where
    by : (b : Bool) → length (behind_blanks cs) ≤ length cs → length (cond b (behind_blanks cs) (c ∷ cs)) ≤ length (c ∷ cs)
    by true others = omega (arith, others)
    by false others = omega arith

-- ---- all words of a line

begun : (them : Option (List Bytes)) → behind [] them ≡ them
begun None = refl
begun (Some others) = refl

pub words_begin : (line rest : Bytes) (before : List Bytes) → before ≡ [] → rest ≡ behind_blanks line → (fuel : ℕ) × (length rest < fuel) × (behind before (words_within fuel rest) ≡ words line)
unfolding words
words_begin line rest before none is =
    let least = blanks_shorter line in
    let count : length rest ≡ length (behind_blanks line) = ap length is in (
      length line + 1,
      omega arith,
      ap (λ (w : List Bytes). behind w (words_within (length line + 1) rest)) none ∙ begun (words_within (length line + 1) rest) ∙ ap (words_within (length line + 1)) is,
    )

-- nothing is left
pub words_end : (line rest : Bytes) (before : List Bytes) → length rest ≡ 0 → (fuel : ℕ) × (length rest < fuel) × (behind before (words_within fuel rest) ≡ words line) → words line ≡ Some before
words_end line (c ∷ cs) before none so_far = absurd (omega (arith, none))
words_end line [] before none (zero, fits, so_far) = absurd (omega (arith, fits))
words_end line [] before none (suc n, fits, so_far) = sym so_far ∙ ap (λ (them : List Bytes). Some them) (append-nil before)

-- one more word
next : (before : List Bytes) (word : Bytes) (them : Option (List Bytes)) → behind (before ++ word ∷ []) them ≡ behind before (onto word them)
next before word None = refl
next before word (Some others) = ap (λ (all : List Bytes). Some all) (append_assoc before (word ∷ []) others)

pub words_go_on : (line rest after : Bytes) (before longer : List Bytes) (word back : Bytes) → 0 < length rest → length back < length rest → ended (word_front rest) ≡ Some (word, back)
    → longer ≡ before ++ word ∷ [] → after ≡ behind_blanks back → (fuel : ℕ) × (length rest < fuel) × (behind before (words_within fuel rest) ≡ words line)
    → (fuel : ℕ) × (length after < fuel) × (behind longer (words_within fuel after) ≡ words line)
words_go_on line [] after before longer word back some shorter front pushed is so_far = absurd (omega (arith, some))
words_go_on line (c ∷ cs) after before longer word back some shorter front pushed is (zero, fits, so_far) = absurd (omega (arith, fits))
words_go_on line (c ∷ cs) after before longer word back some shorter front pushed is (suc n, fits, so_far) =
    let least = blanks_shorter back in
    let count : length after ≡ length (behind_blanks back) = ap length is in (
      n,
      omega (arith, fits, shorter, least, count),
      ap (λ (w : List Bytes). behind w (words_within n after)) pushed
          ∙ next before word (words_within n after)
          ∙ ap (λ (t : Bytes). behind before (onto word (words_within n t))) is
          ∙ sym (ap (λ (x : Option (Bytes × Bytes)). behind before (with_others (words_within n) x)) front)
          ∙ so_far,
    )

-- no word stands there
pub words_fail : (line rest : Bytes) (before : List Bytes) → 0 < length rest → ended (word_front rest) ≡ None
    → (fuel : ℕ) × (length rest < fuel) × (behind before (words_within fuel rest) ≡ words line) → words line ≡ None
words_fail line [] before some front so_far = absurd (omega (arith, some))
words_fail line (c ∷ cs) before some front (zero, fits, so_far) = absurd (omega (arith, fits))
words_fail line (c ∷ cs) before some front (suc n, fits, so_far) =
    sym so_far ∙ ap (λ (x : Option (Bytes × Bytes)). behind before (with_others (words_within n) x)) front

-- ---- where a word begins

pub blanks_trimmed : (text : Bytes) → behind_blanks (behind_blanks text) ≡ behind_blanks text
blanks_trimmed [] = refl
blanks_trimmed (c ∷ cs) = by (is_blank c) refl (blanks_trimmed cs)
  where
    by : (b : Bool) → is_blank c ≡ b → behind_blanks (behind_blanks cs) ≡ behind_blanks cs → behind_blanks (cond b (behind_blanks cs) (c ∷ cs)) ≡ cond b (behind_blanks cs) (c ∷ cs)
    by true is others = others
    by false is others = ap (λ (b : Bool). cond b (behind_blanks cs) (c ∷ cs)) is

pub trimmed_by : (line text : Bytes) → text ≡ behind_blanks line → behind_blanks text ≡ text
trimmed_by line text is = ap behind_blanks is ∙ blanks_trimmed line ∙ sym is

pub starts_trimmed : (text : Bytes) → behind_blanks text ≡ text → 0 < length text → starts_word text ≡ true
starts_trimmed [] is some = absurd (omega (arith, some))
starts_trimmed (c ∷ cs) is some = by (is_blank c) refl
  where
    by : (b : Bool) → is_blank c ≡ b → not b ≡ true
    by false blank = refl
    by true blank =
        let same : behind_blanks cs ≡ c ∷ cs = sym (ap (λ (b : Bool). cond b (behind_blanks cs) (c ∷ cs)) blank) ∙ is in
        let count : length (behind_blanks cs) ≡ length (c ∷ cs) = ap length same in
        let least = blanks_shorter cs in
        absurd (omega (arith, count, least))

pub not_none : (n : ℕ) → (n ≡ 0 → ⊥) → 0 < n
not_none n h = omega (arith, h)

-- less is left behind a word and the blanks behind it
pub less_left : (rest back after : Bytes) → length back < length rest → after ≡ behind_blanks back → length after < length rest
less_left rest back after shorter is =
    let least = blanks_shorter back in
    let count : length after ≡ length (behind_blanks back) = ap length is in
    omega arith

-- ---- one word

pub front_quoted : (text : Bytes) → begins_with_quote text ≡ true → word_front text ≡ string_front text
front_quoted text is = ap (λ (b : Bool). cond b (string_front text) (Some (bare_front text))) is

pub front_bare : (text : Bytes) → begins_with_quote text ≡ false → word_front text ≡ Some (bare_front text)
front_bare text is = ap (λ (b : Bool). cond b (string_front text) (Some (bare_front text))) is

pub bare_shorter : (text : Bytes) → starts_word text ≡ true → begins_with_quote text ≡ false → length (bare_front text).1 < length text
bare_shorter [] starts quote = absurd (cc)
bare_shorter (c ∷ cs) starts quote = by (is_blank c) (eqb c 0x22) refl refl
  where
    one : ends_bare c ≡ false → position_or_len ends_bare (c ∷ cs) ≡ 1 + position_or_len ends_bare cs
    one is = ap (λ (b : Bool). cond (not b) (1 + position_or_len ends_bare cs) 0) is

    by : (b q : Bool) → is_blank c ≡ b → eqb c 0x22 ≡ q → length (drop (position_or_len ends_bare (c ∷ cs)) (c ∷ cs)) < length (c ∷ cs)
    by true q blank is = absurd (let none : not true ≡ true = sym (ap not blank) ∙ starts in cc)
    by false true blank is = absurd (let none : true ≡ false = sym is ∙ quote in cc)
    by false false blank is =
        let ends : ends_bare c ≡ false = ap (λ (b : Bool). b || eqb c 0x22) blank ∙ is in
        let more = one ends in
        let count : length (drop (position_or_len ends_bare (c ∷ cs)) (c ∷ cs)) ≡ length (c ∷ cs) - position_or_len ends_bare (c ∷ cs) = length-drop (position_or_len ends_bare (c ∷ cs)) (c ∷ cs) in
        omega (arith, more, count)

-- a fault of the word at the front
pub ended_fails : (front : Option (Bytes × Bytes)) (why : WordsFault) → NoWord front why → NoWord (ended front) why
ended_fails front fault.Bad none = ap ended none
ended_fails front fault.Memory none = tt

pub ended_whole : (front : Option (Bytes × Bytes)) (word back : Bytes) → front ≡ Some (word, back) → may_follow back ≡ true → ended front ≡ Some (word, back)
ended_whole front word back is follows = ap ended is ∙ ap (λ (b : Bool). cond b (Some (word, back)) None) follows

pub ended_none : (front : Option (Bytes × Bytes)) (word back : Bytes) → front ≡ Some (word, back) → may_follow back ≡ false → ended front ≡ None
ended_none front word back is follows = ap ended is ∙ ap (λ (b : Bool). cond b (Some (word, back)) None) follows

-- the answer of a line, by the fault at one of its words
pub line_fails : (line rest : Bytes) (before : List Bytes) (why : WordsFault) → 0 < length rest → NoWord (ended (word_front rest)) why
    → (fuel : ℕ) × (length rest < fuel) × (behind before (words_within fuel rest) ≡ words line) → AnswersWords line (Err why)
line_fails line rest before fault.Bad some none so_far = words_fail line rest before some none so_far
line_fails line rest before fault.Memory some none so_far = tt
