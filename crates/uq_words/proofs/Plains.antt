-- The words of the program, by the bytes of each.
use Rattle.std.proofs.Common.{◌≡◌, ℕ, zero, suc, ◌+◌, ◌-◌, ◌<◌, min, get_or, arith, Bool, true, false, not, ◌||◌, cond, List, [], ◌∷◌, ◌++◌, length, map, take, drop, String, string_bytes, Global, Some, None, refl, sym, ap, ◌∙◌}
use Rattle.std.proofs.lemmas.List.{drop-map, take-map, take_rest}
use Rattle.std.proofs.lemmas.List.Sums.{position_or_len_is}
use Rattle.std.specs.List.{after_first, before_first, list_any, position_or_len, prefix_len}
use Rattle.uq_value.specs.Data.{Bytes}
use Rattle.uq_words.specs.Options.{begins_with_dash, is_dashes, plain}
use Rattle.uq_words.specs.Texts.{texts}

prefix_len-map : {X Y : Type 0} (p : Y → Bool) (f : X → Y) (xs : List X) → prefix_len p (map f xs) ≡ prefix_len (λ x. p (f x)) xs
prefix_len-map p f [] = refl
prefix_len-map p f (x ∷ xs) = ap (λ (n : ℕ). cond (p (f x)) (1 + n) 0) (prefix_len-map p f xs)

list_any-map : {X Y : Type 0} (p : Y → Bool) (f : X → Y) (xs : List X) → list_any p (map f xs) ≡ list_any (λ x. p (f x)) xs
list_any-map p f [] = refl
list_any-map p f (x ∷ xs) = ap (λ rest. p (f x) || rest) (list_any-map p f xs)

place : (words : List (String Global)) → position_or_len is_dashes (texts words) ≡ position_or_len (λ word. is_dashes (string_bytes word)) words
place words = prefix_len-map (λ x. not (is_dashes x)) string_bytes words

pub before_texts : (words before : List (String Global)) (at : ℕ) → at ≡ position_or_len (λ word. is_dashes (string_bytes word)) words → before ≡ take at words → texts before ≡ before_first is_dashes (texts words)
before_texts words before at first is =
    ap (map string_bytes) is ∙ sym (take-map string_bytes at words) ∙ ap (λ (n : ℕ). take n (texts words)) (first ∙ sym (place words))

drop_least : {X : Type 0} (n : ℕ) (xs : List X) → drop (min (length xs) n) xs ≡ drop n xs
drop_least zero xs = ap (λ (m : ℕ). drop m xs) (let none : min (length xs) 0 ≡ 0 = omega arith in none)
drop_least (suc n) [] = ap (λ (m : ℕ). drop m []) (let none : min 0 (suc n) ≡ 0 = omega arith in none)
drop_least (suc n) (x ∷ xs) = ap (λ (m : ℕ). drop m (x ∷ xs)) (let one : min (length (x ∷ xs)) (suc n) ≡ suc (min (length xs) n) = omega arith in one) ∙ drop_least n xs

pub behind_range : {X : Type 0} (words : List X) (at least : ℕ) → least ≡ min (length words) (at + 1) → take (length words - least) (drop least words) ≡ drop (at + 1) words
behind_range words at least is = take_rest words least ∙ ap (λ (n : ℕ). drop n words) is ∙ drop_least (at + 1) words

-- no word passes
pub no_dashes : (words : List (String Global)) → ((k : ℕ) (d : String Global) → k < length words → is_dashes (string_bytes (get_or words k d)) ≡ false)
    → length words ≡ position_or_len (λ word. is_dashes (string_bytes word)) words
no_dashes [] none = refl
no_dashes (word ∷ words) none =
    sym (position_or_len_is (λ w. is_dashes (string_bytes w)) (word ∷ words) (length (word ∷ words)) word (omega arith) (λ k less. none k word less) (λ less. absurd (omega (arith, less))))

-- this is the first that does
pub dashes_at : (words : List (String Global)) (at : ℕ) (word : String Global) → at < length words → ((k : ℕ) (d : String Global) → k < at → is_dashes (string_bytes (get_or words k d)) ≡ false)
    → word ≡ get_or words at word → is_dashes (string_bytes word) ≡ true → at ≡ position_or_len (λ w. is_dashes (string_bytes w)) words
dashes_at words at word within none is passes =
    sym (position_or_len_is (λ w. is_dashes (string_bytes w)) words at word (omega arith) (λ k less. none k word less) (λ less. ap (λ (w : String Global). is_dashes (string_bytes w)) (sym is) ∙ passes))

pub behind_texts : (words behind : List (String Global)) (at : ℕ) → at ≡ position_or_len (λ word. is_dashes (string_bytes word)) words → behind ≡ drop (at + 1) words → texts behind ≡ after_first is_dashes (texts words)
behind_texts words behind at first is =
    ap (map string_bytes) is ∙ sym (drop-map string_bytes (at + 1) words) ∙ ap (λ (n : ℕ). drop (n + 1) (texts words)) (first ∙ sym (place words))

module _ (words before behind : List (String Global)) (is_before : texts before ≡ before_first is_dashes (texts words)) (is_behind : texts behind ≡ after_first is_dashes (texts words)) where
  any_dash : (b : Bool) → b ≡ list_any (λ word. begins_with_dash (string_bytes word)) before → list_any begins_with_dash (before_first is_dashes (texts words)) ≡ b
  any_dash b is = ap (list_any begins_with_dash) (sym is_before) ∙ list_any-map begins_with_dash string_bytes before ∙ sym is

  pub plain_none : true ≡ list_any (λ word. begins_with_dash (string_bytes word)) before → plain (texts words) ≡ None
  plain_none is = ap (λ (b : Bool). cond b None (Some (before_first is_dashes (texts words) ++ after_first is_dashes (texts words)))) (any_dash true is)

  pub plain_some : (all : List Bytes) → false ≡ list_any (λ word. begins_with_dash (string_bytes word)) before → all ≡ texts before ++ texts behind → plain (texts words) ≡ Some all
  plain_some all is joined =
      ap (λ (b : Bool). cond b None (Some (before_first is_dashes (texts words) ++ after_first is_dashes (texts words)))) (any_dash false is)
      ∙ ap (λ (w : List Bytes). Some (w ++ after_first is_dashes (texts words))) (sym is_before)
      ∙ ap (λ (w : List Bytes). Some (texts before ++ w)) (sym is_behind)
      ∙ ap (λ (w : List Bytes). Some w) (sym joined)
