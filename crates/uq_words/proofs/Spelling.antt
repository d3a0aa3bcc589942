-- A line has the words of which it is made, and no others.
use Rattle.std.proofs.Common.{◌≡◌, ◌↔◌, ℕ, zero, suc, ◌+◌, ◌<◌, Bool, true, false, not, ◌&&◌, ◌||◌, eqb, cond, List, [], ◌∷◌, ◌++◌, length, take, drop, Option, Some, None, refl, sym, ap, subst, ◌∙◌, append-nil, length-append, arith}
use Rattle.std.proofs.lemmas.List.{drop_at, take-append-drop, take_at}
use Rattle.std.specs.List.{list_all, list_any, position_or_len}
use Rattle.uq_value.specs.Data.{Bytes}
use Rattle.uq_json.specs.Front.{FrontIsString, string_front}
use Rattle.uq_words.specs.Words.{AreWords, IsWord, bare, bare_front, begins_with_quote, behind_blanks, ended, ends_bare, is_blank, may_follow, onto, quoted, with_others, word_front, words, words_within}

-- ---- blanks

-- blanks, and what is behind them
blanks_before : (line : Bytes) → (blanks : Bytes) × (line ≡ blanks ++ behind_blanks line) × (list_all is_blank blanks ≡ true)
blanks_before [] = ([], refl, refl)
blanks_before (c ∷ cs) = by (is_blank c) refl (blanks_before cs)
  where
    by : (b : Bool) → is_blank c ≡ b → (blanks : Bytes) × (cs ≡ blanks ++ behind_blanks cs) × (list_all is_blank blanks ≡ true)
        → (blanks : Bytes) × (c ∷ cs ≡ blanks ++ cond b (behind_blanks cs) (c ∷ cs)) × (list_all is_blank blanks ≡ true)
    by true blank (blanks, split, all) = (c ∷ blanks, ap (λ (w : Bytes). c ∷ w) split, ap (λ (b : Bool). b && list_all is_blank blanks) blank ∙ all)
    by false blank others = ([], refl, refl)

-- a text that begins with no blank, or with none
abbrev starts_bare : Bytes → Bool
starts_bare [] = false
starts_bare (c ∷ cs) = is_blank c

behind_all : (blanks text : Bytes) → list_all is_blank blanks ≡ true → starts_bare text ≡ false → behind_blanks (blanks ++ text) ≡ text
behind_all [] [] all starts = refl
behind_all [] (c ∷ cs) all starts = ap (λ (b : Bool). cond b (behind_blanks cs) (c ∷ cs)) starts
behind_all (c ∷ cs) text all starts = by (is_blank c) refl (λ others. behind_all cs text others starts)
  where
    by : (b : Bool) → is_blank c ≡ b → (list_all is_blank cs ≡ true → behind_blanks (cs ++ text) ≡ text) → behind_blanks (c ∷ (cs ++ text)) ≡ text
    by true blank again = ap (λ (b : Bool). cond b (behind_blanks (cs ++ text)) (c ∷ (cs ++ text))) blank ∙ again (sym (ap (λ (b : Bool). b && list_all is_blank cs) blank) ∙ all)
    by false blank again = absurd (let none : false ≡ true = sym (ap (λ (b : Bool). b && list_all is_blank cs) blank) ∙ all in cc)

-- ---- bare words

-- no byte of these ends one, and what is behind them does
bare_place : (text rest : Bytes) → list_any ends_bare text ≡ false → may_follow rest ≡ true → position_or_len ends_bare (text ++ rest) ≡ length text
bare_place [] [] none follows = refl
bare_place [] (c ∷ cs) none follows = ap (λ (b : Bool). cond (not (b || eqb c 0x22)) (1 + position_or_len ends_bare cs) 0) follows
bare_place (c ∷ cs) rest none follows = by (ends_bare c) refl (λ others. bare_place cs rest others follows)
  where
    by : (b : Bool) → ends_bare c ≡ b → (list_any ends_bare cs ≡ false → position_or_len ends_bare (cs ++ rest) ≡ length cs) → position_or_len ends_bare (c ∷ (cs ++ rest)) ≡ length (c ∷ cs)
    by true is again = absurd (let some : true ≡ false = sym (ap (λ (b : Bool). b || list_any ends_bare cs) is) ∙ none in cc)
    by false is again =
        let others = again (sym (ap (λ (b : Bool). b || list_any ends_bare cs) is) ∙ none) in
        let one : position_or_len ends_bare (c ∷ (cs ++ rest)) ≡ 1 + position_or_len ends_bare (cs ++ rest) = ap (λ (b : Bool). cond (not b) (1 + position_or_len ends_bare (cs ++ rest)) 0) is in
        omega arith

-- none of a bare word does
bare_none : (text : Bytes) → list_any ends_bare (take (position_or_len ends_bare text) text) ≡ false
bare_none [] = refl
bare_none (c ∷ cs) = by (ends_bare c) refl (bare_none cs)
  where
    by : (b : Bool) → ends_bare c ≡ b → list_any ends_bare (take (position_or_len ends_bare cs) cs) ≡ false → list_any ends_bare (take (cond (not b) (1 + position_or_len ends_bare cs) 0) (c ∷ cs)) ≡ false
    by true is others = refl
    by false is others =
        let more : 1 + position_or_len ends_bare cs ≡ suc (position_or_len ends_bare cs) = omega arith in
        ap (λ (n : ℕ). list_any ends_bare (take n (c ∷ cs))) more
        ∙ ap (λ (b : Bool). b || list_any ends_bare (take (position_or_len ends_bare cs) cs)) is ∙ others

bare_some : (c : ℕ) (cs : Bytes) → is_blank c ≡ false → eqb c 0x22 ≡ false → take (position_or_len ends_bare (c ∷ cs)) (c ∷ cs) ≡ [] → ⊥
bare_some c cs blank quote none =
    let ends : ends_bare c ≡ false = ap (λ (b : Bool). b || eqb c 0x22) blank ∙ quote in
    let one : position_or_len ends_bare (c ∷ cs) ≡ 1 + position_or_len ends_bare cs = ap (λ (b : Bool). cond (not b) (1 + position_or_len ends_bare cs) 0) ends in
    let more : position_or_len ends_bare (c ∷ cs) ≡ suc (position_or_len ends_bare cs) = omega arith in
    let some : c ∷ take (position_or_len ends_bare cs) cs ≡ [] = sym (ap (λ (n : ℕ). take n (c ∷ cs)) more) ∙ none in
    cc

-- ---- one word

abbrev word_of : Option (Bytes × Bytes) → Bytes
word_of None = []
word_of (Some x) = x.0

abbrev back_of : Option (Bytes × Bytes) → Bytes
back_of None = []
back_of (Some x) = x.1

module _ (law : FrontIsString) where
  word_is : (c : ℕ) (cs word back : Bytes) → is_blank c ≡ false → word_front (c ∷ cs) ≡ Some (word, back) → (front : Bytes) × (c ∷ cs ≡ front ++ back) × IsWord front word
  word_is c cs word back blank is = by (eqb c 0x22) refl
    where
      by : (b : Bool) → eqb c 0x22 ≡ b → (front : Bytes) × (c ∷ cs ≡ front ++ back) × IsWord front word
      by true quote =
          let parts = (law (c ∷ cs) word back).0 (sym (ap (λ (b : Bool). cond b (string_front (c ∷ cs)) (Some (bare_front (c ∷ cs)))) quote) ∙ is) in
          (parts.0, parts.1, quoted parts.2)
      by false quote =
          let at : Some (bare_front (c ∷ cs)) ≡ Some (word, back) = sym (ap (λ (b : Bool). cond b (string_front (c ∷ cs)) (Some (bare_front (c ∷ cs)))) quote) ∙ is in
          let front : Bytes = take (position_or_len ends_bare (c ∷ cs)) (c ∷ cs) in (
            take (position_or_len ends_bare (c ∷ cs)) (c ∷ cs),
            sym (take-append-drop (position_or_len ends_bare (c ∷ cs)) (c ∷ cs)) ∙ ap (λ (w : Bytes). take (position_or_len ends_bare (c ∷ cs)) (c ∷ cs) ++ w) (ap back_of at),
            bare (sym (ap word_of at)) (bare_none (c ∷ cs)) (bare_some c cs blank quote),
          )

  -- ---- a line

  starts_behind : (line : Bytes) → starts_bare (behind_blanks line) ≡ false
  starts_behind [] = refl
  starts_behind (c ∷ cs) = by (is_blank c) refl (starts_behind cs)
    where
      by : (b : Bool) → is_blank c ≡ b → starts_bare (behind_blanks cs) ≡ false → starts_bare (cond b (behind_blanks cs) (c ∷ cs)) ≡ false
      by true blank others = others
      by false blank others = blank

  pub are_words : (n : ℕ) (line : Bytes) (them : List Bytes) → words_within n (behind_blanks line) ≡ Some them → AreWords line them
  are_words zero line them is = absurd (cc)
  are_words (suc n) line them is = at (are_words n) (behind_blanks line) (blanks_before line) (starts_behind line) is
    where
      at : ((rest : Bytes) (others : List Bytes) → words_within n (behind_blanks rest) ≡ Some others → AreWords rest others) → (text : Bytes) → (blanks : Bytes) × (line ≡ blanks ++ text) × (list_all is_blank blanks ≡ true) → starts_bare text ≡ false → words_within (suc n) text ≡ Some them → AreWords line them
      at again [] (blanks, split, all) starts is =
          let none : [] ≡ them = cc in
          subst (λ (w : List Bytes). AreWords line w) none (ap (list_all is_blank) (split ∙ append-nil blanks) ∙ all)
      at again (c ∷ cs) (blanks, split, all) starts is = front (word_front (c ∷ cs)) refl is
        where
          rest_of : (word back : Bytes) → word_front (c ∷ cs) ≡ Some (word, back) → may_follow back ≡ true → (rest : Option (List Bytes)) → words_within n (behind_blanks back) ≡ rest → onto word rest ≡ Some them → AreWords line them
          rest_of word back at_front follows None others whole = absurd (cc)
          rest_of word back at_front follows (Some ws) others whole =
              let same : word ∷ ws ≡ them = cc in
              let parts = word_is c cs word back starts at_front in
              subst (λ (w : List Bytes). AreWords line w) same
              (blanks, parts.0, back, split ∙ ap (λ (w : Bytes). blanks ++ w) parts.1, all, parts.2, follows, again back ws others)

          follow : (word back : Bytes) (b : Bool) → word_front (c ∷ cs) ≡ Some (word, back) → may_follow back ≡ b → with_others (words_within n) (cond b (Some (word, back)) None) ≡ Some them → AreWords line them
          follow word back true at_front follows whole = rest_of word back at_front follows (words_within n (behind_blanks back)) refl whole
          follow word back false at_front follows whole = absurd (cc)

          front : (found : Option (Bytes × Bytes)) → word_front (c ∷ cs) ≡ found → with_others (words_within n) (ended found) ≡ Some them → AreWords line them
          front None at_front whole = absurd (cc)
          front (Some x) at_front whole = follow x.0 x.1 (may_follow x.1) at_front refl whole

  -- the word at the front of what is made of it and a rest
  front_is : (text rest word : Bytes) → IsWord text word → may_follow rest ≡ true → (word_front (text ++ rest) ≡ Some (word, rest)) × (starts_bare (text ++ rest) ≡ false) × (0 < length (text ++ rest))
  front_is text rest word (quoted is) follows =
      let at = (law (text ++ rest) word rest).1 (text, refl, is) in
      let opened : text ++ rest ≡ 0x22 ∷ (is.body ++ rest) = ap (λ (w : Bytes). w ++ rest) is.opened in (
        ap (λ (w : Bytes). cond (begins_with_quote w) (string_front (text ++ rest)) (Some (bare_front (text ++ rest)))) opened ∙ at,
        ap starts_bare opened,
        subst (λ (w : Bytes). 0 < length w) (sym opened) (omega arith),
      )
  front_is [] rest word (bare is none some) follows = absurd (some refl)
  front_is (c ∷ cs) rest word (bare is none some) follows = by (is_blank c) (eqb c 0x22) refl refl
    where
      place : position_or_len ends_bare ((c ∷ cs) ++ rest) ≡ length (c ∷ cs)
      place = bare_place (c ∷ cs) rest none follows

      by : (b q : Bool) → is_blank c ≡ b → eqb c 0x22 ≡ q
          → (word_front ((c ∷ cs) ++ rest) ≡ Some (word, rest)) × (starts_bare ((c ∷ cs) ++ rest) ≡ false) × (0 < length ((c ∷ cs) ++ rest))
      by true q blank quote = absurd (let ends : true ≡ false = sym (ap (λ (b : Bool). (b || eqb c 0x22) || list_any ends_bare cs) blank) ∙ none in cc)
      by false true blank quote = absurd (let ends : true ≡ false = sym (ap (λ (b : Bool). (is_blank c || b) || list_any ends_bare cs) quote ∙ ap (λ (b : Bool). (b || true) || list_any ends_bare cs) blank) ∙ none in cc)
      by false false blank quote =
          let whole : bare_front ((c ∷ cs) ++ rest) ≡ (word, rest)
          = ap (λ (n : ℕ). (take n ((c ∷ cs) ++ rest), drop n ((c ∷ cs) ++ rest))) place
          ∙ ap (λ (w : Bytes). (w, drop (length (c ∷ cs)) ((c ∷ cs) ++ rest))) (take_at (c ∷ cs) rest (length (c ∷ cs)) refl ∙ sym is)
          ∙ ap (λ (w : Bytes). (word, w)) (drop_at (c ∷ cs) rest (length (c ∷ cs)) refl) in
          (ap (λ (b : Bool). cond b (string_front ((c ∷ cs) ++ rest)) (Some (bare_front ((c ∷ cs) ++ rest)))) quote ∙ ap (λ (x : Bytes × Bytes). Some x) whole, blank, omega arith)

  pub has_words : (them : List Bytes) (line : Bytes) (n : ℕ) → length line < n → AreWords line them → words_within n (behind_blanks line) ≡ Some them
  has_words them line zero fits are = absurd (omega (arith, fits))
  has_words [] line (suc n) fits are = ap (words_within (suc n)) (ap behind_blanks (sym (append-nil line)) ∙ behind_all line [] are refl)
  has_words (word ∷ others) line (suc n) fits (blanks, text, rest, split, all, is, follows, are) =
      let front = front_is text rest word is follows in
      let behind : behind_blanks line ≡ text ++ rest = ap behind_blanks split ∙ behind_all blanks (text ++ rest) all front.1 in
      let whole : length line ≡ length (blanks ++ (text ++ rest)) = ap length split in
      let outer : length (blanks ++ (text ++ rest)) ≡ length blanks + length (text ++ rest) = length-append blanks (text ++ rest) in
      let inner : length (text ++ rest) ≡ length text + length rest = length-append text rest in
      let some = front.2 in
      ap (words_within (suc n)) behind
      ∙ begins (text ++ rest) some
      ∙ ap (λ (f : Option (Bytes × Bytes)). with_others (words_within n) (ended f)) front.0
      ∙ ap (λ (b : Bool). with_others (words_within n) (cond b (Some (word, rest)) None)) follows
      ∙ ap (onto word) (has_words others rest n (omega (arith, shorter text is)) are)
    where
      begins : (t : Bytes) → 0 < length t → words_within (suc n) t ≡ with_others (words_within n) (ended (word_front t))
      begins [] some = absurd (omega (arith, some))
      begins (c ∷ cs) some = refl

      shorter : (t : Bytes) → IsWord t word → 0 < length t
      shorter t (quoted is) = let count : length t ≡ length (0x22 ∷ is.body) = ap length is.opened in omega arith
      shorter [] (bare is none some) = absurd (some refl)
      shorter (c ∷ cs) (bare is none some) = omega arith

pub words_are_spelled : FrontIsString → (line : Bytes) (them : List Bytes) → (words line ≡ Some them) ↔ AreWords line them
unfolding words
words_are_spelled law line them = (are_words law (length line + 1) line them, λ are. has_words law them line (length line + 1) (omega arith) are)
