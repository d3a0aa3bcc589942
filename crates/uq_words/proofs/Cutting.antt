-- Line feeds in what was taken, and the carriage return before one.
use Rattle.std.proofs.Common.{◌≡◌, ℕ, zero, suc, ◌+◌, ◌-◌, ◌<◌, ◌≤◌, min, Bool, true, false, not, eqb, leb, ltb, cond, [], ◌∷◌, ◌++◌, length, take, drop, get_or, Some, None, refl, sym, ap, subst, ◌∙◌, arith}
use Rattle.std.proofs.lemmas.Bool.{eqb-true, ne_eqb}
use Rattle.std.proofs.lemmas.List.{length-take, take-take, take_all}
use Rattle.std.proofs.lemmas.List.Elements.{All-cons, All-drop}
use Rattle.std.proofs.lemmas.List.Sums.{passes_at_first, prefix_len-le-length, split_at_first}
use Rattle.std.specs.List.{after_first, before_first, position_or_len}
use Rattle.std.specs.Prelude.{slice_range}
use Rattle.uq_value.specs.Data.{Bytes}
use Rattle.uq_words.specs.Lines.{HasNoFeed, is_feed, kept_within, without_return}

-- ---- the first line feed

-- bytes without one in front of the others
pub place_behind : (bytes : Bytes) (searched : ℕ) → searched ≤ length bytes → HasNoFeed (take searched bytes) → position_or_len is_feed bytes ≡ searched + position_or_len is_feed (drop searched bytes)
place_behind bytes zero within none = omega arith
place_behind [] (suc n) within none = absurd (omega (arith, within))
place_behind (c ∷ cs) (suc n) within none =
    let first : is_feed c ≡ false = none 0 0 (omega arith) in
    let others = place_behind cs n (omega (arith, within)) (All-drop (λ x. is_feed x ≡ false) 1 (c ∷ take n cs) none) in
    let one : position_or_len is_feed (c ∷ cs) ≡ 1 + position_or_len is_feed cs = ap (λ (b : Bool). cond (not b) (1 + position_or_len is_feed cs) 0) first in
    one ∙ (omega (arith, others))

pub place_within : (bytes : Bytes) → position_or_len is_feed bytes ≤ length bytes
place_within bytes = prefix_len-le-length (λ x. not (is_feed x)) bytes

-- what is in front of it has none
pub none_before : (bytes : Bytes) → HasNoFeed (take (position_or_len is_feed bytes) bytes)
none_before [] = λ k d less. absurd (omega (arith, less))
none_before (c ∷ cs) = by (is_feed c) refl (none_before cs)
  where
    by : (b : Bool) → is_feed c ≡ b → HasNoFeed (take (position_or_len is_feed cs) cs) → HasNoFeed (take (cond (not b) (1 + position_or_len is_feed cs) 0) (c ∷ cs))
    by true is others = λ k d less. absurd (omega (arith, less))
    by false is others =
        let more : suc (position_or_len is_feed cs) ≡ 1 + position_or_len is_feed cs = omega arith in
        subst (λ (n : ℕ). HasNoFeed (take n (c ∷ cs))) more (All-cons (λ x. is_feed x ≡ false) c (take (position_or_len is_feed cs) cs) is others)

-- where there is none at all
pub none_within : (bytes : Bytes) → position_or_len is_feed bytes ≡ length bytes → HasNoFeed bytes
none_within bytes is = subst (λ (w : Bytes). HasNoFeed w) (ap (λ (n : ℕ). take n bytes) is ∙ take_all (length bytes) bytes (omega arith)) (none_before bytes)

-- the line in front of it, it, and what is behind it
pub split_at_feed : (bytes : Bytes) (at : ℕ) → at ≡ position_or_len is_feed bytes → at < length bytes → bytes ≡ take at bytes ++ 0x0a ∷ drop (at + 1) bytes
split_at_feed bytes at is less =
    let there : position_or_len is_feed bytes < length bytes = omega (arith, is, less) in
    let feed : get_or bytes (position_or_len is_feed bytes) 0 ≡ 0x0a = eqb-true (get_or bytes (position_or_len is_feed bytes) 0) 0x0a (passes_at_first is_feed bytes 0 there) in
    split_at_first is_feed bytes 0 there
    ∙ ap (λ (c : ℕ). before_first is_feed bytes ++ c ∷ after_first is_feed bytes) feed
    ∙ sym (ap (λ (n : ℕ). take n bytes ++ 0x0a ∷ drop (n + 1) bytes) is)

-- ---- a carriage return at the end

onto_both : (b : Bool) (c : ℕ) (xs ys : Bytes) → c ∷ cond b xs ys ≡ cond b (c ∷ xs) (c ∷ ys)
onto_both true c xs ys = refl
onto_both false c xs ys = refl

-- what is dropped of a line, by its last byte
ends_with : (front : Bytes) (last : ℕ) (b : Bool) → eqb last 0x0d ≡ b → without_return (front ++ last ∷ []) ≡ cond b front (front ++ last ∷ [])
ends_with [] last b is = ap (λ (q : Bool). cond q [] (last ∷ [])) is
ends_with (c ∷ []) last b is = ap (λ (w : Bytes). c ∷ w) (ends_with [] last b is) ∙ onto_both b c [] (last ∷ [])
ends_with (c ∷ next ∷ cs) last b is = ap (λ (w : Bytes). c ∷ w) (ends_with (next ∷ cs) last b is) ∙ onto_both b c (next ∷ cs) (next ∷ (cs ++ last ∷ []))

pub returned : (line front : Bytes) (last : ℕ) → line ≡ front ++ last ∷ [] → last ≡ 0x0d → front ≡ without_return line
returned line front last split is = sym (ap without_return split ∙ ends_with front last true (ap (λ (n : ℕ). eqb n 0x0d) is))

pub unreturned : (line front : Bytes) (last : ℕ) → line ≡ front ++ last ∷ [] → (last ≡ 0x0d → ⊥) → line ≡ without_return line
unreturned line front last split none = sym (ap without_return split ∙ ends_with front last false (ne_eqb last 0x0d none) ∙ sym split)

pub unreturned_empty : (line : Bytes) → length line ≡ 0 → line ≡ without_return line
unreturned_empty [] none = refl
unreturned_empty (c ∷ cs) none = absurd (omega (arith, none))

-- at most one byte is dropped
pub return_one : (line : Bytes) → length line ≤ length (without_return line) + 1
return_one [] = omega arith
return_one (c ∷ []) = by (eqb c 0x0d)
  where
    by : (b : Bool) → length (c ∷ []) ≤ length (cond b [] (c ∷ [])) + 1
    by true = omega arith
    by false = omega arith
return_one (c ∷ next ∷ cs) = let others = return_one (next ∷ cs) in omega (arith, others)

-- the text is a front of the line
pub text_front : (line : Bytes) → take (length (without_return line)) line ≡ without_return line
text_front [] = refl
text_front (c ∷ []) = by (eqb c 0x0d)
  where
    by : (b : Bool) → take (length (cond b [] (c ∷ []))) (c ∷ []) ≡ cond b [] (c ∷ [])
    by true = refl
    by false = refl
text_front (c ∷ next ∷ cs) = ap (λ (w : Bytes). c ∷ w) (text_front (next ∷ cs))

text_shorter : (line : Bytes) → length (without_return line) ≤ length line
text_shorter [] = omega arith
text_shorter (c ∷ []) = by (eqb c 0x0d)
  where
    by : (b : Bool) → length (cond b [] (c ∷ [])) ≤ length (c ∷ [])
    by true = omega arith
    by false = omega arith
text_shorter (c ∷ next ∷ cs) = let others = text_shorter (next ∷ cs) in omega (arith, others)

-- the text of a line that was cut from these bytes
module _ (bytes : Bytes) (limit next end n : ℕ) (is : n ≡ length (without_return (slice_range bytes next end))) where
  text_part : take n (drop next bytes) ≡ without_return (slice_range bytes next end)
  text_part =
      let shorter = text_shorter (slice_range bytes next end) in
      let count : length (slice_range bytes next end) ≡ min (end - next) (length (drop next bytes)) = length-take (end - next) (drop next bytes) in
      sym (take-take n (end - next) (drop next bytes) (omega arith))
      ∙ ap (λ (m : ℕ). take m (slice_range bytes next end)) is
      ∙ text_front (slice_range bytes next end)

  pub cut_text : (b : Bool) → leb n limit ≡ b → cond b (Some (take n (drop next bytes))) None ≡ kept_within limit (slice_range bytes next end)
  cut_text true short =
      let less : ltb limit (length (without_return (slice_range bytes next end))) ≡ false = grind arith in
      ap (λ (w : Bytes). Some w) text_part ∙ sym (ap (λ (b : Bool). cond b None (Some (without_return (slice_range bytes next end)))) less)
  cut_text false long =
      let more : ltb limit (length (without_return (slice_range bytes next end))) ≡ true = grind arith in
      sym (ap (λ (b : Bool). cond b None (Some (without_return (slice_range bytes next end)))) more)
