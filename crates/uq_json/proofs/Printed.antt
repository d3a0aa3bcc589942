-- What is printed spells the value.
use Rattle.std.proofs.Common.{◌≡◌, ℕ, zero, suc, ◌<◌, ◌≤◌, ◌+◌, ◌*◌, ◌^◌, Bool, true, false, not, ◌||◌, ◌&&◌, ltb, ◌⊎◌, inl, inr, List, [], ◌∷◌, ◌++◌, length, get_or, ℤ, pos, negsuc, Some, None, refl, sym, ap, ◌∙◌, append_assoc, append-nil, codes, decimal, arith}
use Rattle.std.specs.Char.{digit_value, is_ascii_digit}
use Rattle.std.specs.Fmt.{signed_decimal}
use Rattle.std.specs.List.{list_all}
use Rattle.std.specs.Str.{bytes_eq}
use Rattle.std.specs.Str.Parse.{AllDigits, digits_value_after}
use Rattle.std.proofs.lemmas.Bool.{ne_eqb, lt-ltb}
use Rattle.std.proofs.lemmas.Bool.Decides.{nat_tests}
use Rattle.std.proofs.lemmas.Fmt.{decimal_is_IsNumeral, decimal_digit, first_decimal}
use Rattle.std.proofs.lemmas.Slice.Eq.{bytes_eq-Decides}
use Rattle.std.proofs.lemmas.Str.Parse.{digit_from_value}
use Rattle.uq_value.specs.Data.{Bytes, Data, Datas, Pairs, Items, no_items, item, Members, no_members, member, null, bool, int, text, sequence, mapping, list_of, pairs_of, list, object, is_among, names_of, IsDistinct}
use Rattle.uq_value.specs.Depth.{data_depth, items_depth, members_depth}
use Rattle.uq_value.specs.Number.{digits_value, positive, negative}
use Rattle.uq_value.specs.Put.{with_member}
use Rattle.uq_json.specs.Grammar.{Language, Padded, Listed, Bracketed, none, some, IsJsonMember, merged, merged_behind, has_no_leading_zero, IsNatural, IsNumber, plain, minus, IsScalar, of_null, of_true, of_false, of_number, of_string, IsJsonValue, of_scalar, of_list, of_object, JsonSpells}
use Rattle.uq_value.specs.IsValue.{Fits64, IsSound, ItemsAreSound, MembersAreSound}
use Rattle.uq_json.specs.Quote.{quoted}
use Rattle.uq_json.specs.Strings.{IsString}
use Rattle.uq_json.specs.Text.{json, item_texts, member_texts, behind_others, comma_separated, bracketed}
use Rattle.uq_json.proofs.Escapes.{quoted_spells}
use Rattle.uq_value.specs.Laws.Levels.{items_of-list_of, members_of-pairs_of}
use Rattle.uq_json.proofs.Steps.{if_true, if_false}

-- ---- numbers

in_range_digit : (c : ℕ) → 48 ≤ c → c ≤ 57 → is_ascii_digit c ≡ true
in_range_digit c low high = grind (arith, nat_tests)

all_digits : (ds : Bytes) → AllDigits 10 ds → list_all is_ascii_digit ds ≡ true
all_digits [] is = refl
all_digits (c ∷ cs) is = let range = digit_from_value c is.0 in ap (λ (b : Bool). b && list_all is_ascii_digit cs) (in_range_digit c range.0 range.1) ∙ all_digits cs is.1

same_value : (n : ℕ) (ds : Bytes) → digits_value n ds ≡ digits_value_after 10 n ds
same_value n [] = refl
same_value n (c ∷ cs) = same_value (n * 10 + digit_value c) cs

leads_by_first : (ds : Bytes) → 0 < length ds → 48 < get_or ds 0 0 → has_no_leading_zero ds ≡ true
leads_by_first [] filled first = absurd (omega (arith, filled))
leads_by_first (c ∷ []) filled first = refl
leads_by_first (c ∷ d ∷ cs) filled first = ap not (ne_eqb c 48 (λ e. omega (arith, e, first)))

natural_printed : (n : ℕ) → n < 2 ^ 64 → IsNatural (decimal n)
natural_printed n h = let is = (decimal_is_IsNumeral n h).0 in record { digits = all_digits (decimal n) is.1; leads = leads n h is.0 }
  where
    leads : (n : ℕ) → n < 2 ^ 64 → 0 < length (decimal n) → has_no_leading_zero (decimal n) ≡ true
    leads zero h filled = ap has_no_leading_zero (decimal_digit 0 (omega arith))
    leads (suc n) h filled = leads_by_first (decimal (suc n)) filled (first_decimal (suc n) (omega arith) h)

value_printed : (n : ℕ) → n < 2 ^ 64 → digits_value 0 (decimal n) ≡ n
value_printed n h = same_value 0 (decimal n) ∙ (decimal_is_IsNumeral n h).1

number_printed : (z : ℤ) → Fits64 z → IsNumber (signed_decimal z) z
number_printed (pos n) h =
    plain (natural_printed n (omega arith)) (ap (λ (k : ℕ). positive (Some k)) (value_printed n (omega arith)) ∙ if_true (ltb n (2 ^ 63)) (Some (pos n)) None (lt-ltb n (2 ^ 63) h))
number_printed (negsuc n) h =
    minus (decimal (suc n)) refl (natural_printed (suc n) (omega arith)) (ap (λ (k : ℕ). negative (Some k)) (value_printed (suc n) (omega arith)) ∙ if_true (ltb n (2 ^ 63)) (Some (negsuc n)) None (lt-ltb n (2 ^ 63) h))

-- ---- distinct names are not merged

NotIn : Bytes → Pairs → Type 0
NotIn n [] = Unit {0}
NotIn n (b ∷ bs) = (bytes_eq b.0 n ≡ false) × NotIn n bs

added : (n : Bytes) (d : Data) (before : Pairs) → NotIn n before → with_member n d before ≡ before ++ (n, d) ∷ []
unfolding NotIn
added n d [] absent = refl
added n d (b ∷ bs) absent = if_false (bytes_eq b.0 n) ((b.0, d) ∷ bs) (b ∷ with_member n d bs) absent.0 ∙ ap (λ (ms : Pairs). b ∷ ms) (added n d bs absent.1)

AllNotIn : Pairs → Pairs → Type 0
AllNotIn before [] = Unit {0}
AllNotIn before (m ∷ ms) = NotIn m.0 before × AllNotIn before ms

not_in_more : (n : Bytes) (before : Pairs) (m : Bytes × Data) → NotIn n before → bytes_eq m.0 n ≡ false → NotIn n (before ++ m ∷ [])
unfolding NotIn
not_in_more n [] m absent apart = (apart, tt)
not_in_more n (b ∷ bs) m absent apart = (absent.0, not_in_more n bs m absent.1 apart)

or_false : (a b : Bool) → (a || b) ≡ false → (a ≡ false) × (b ≡ false)
or_false false b e = (refl, e)
or_false true b e = absurd (cc)

apart_both : (a b : Bytes) → bytes_eq a b ≡ false → bytes_eq b a ≡ false
apart_both a b e = by (bytes_eq b a) refl
  where
    by : (t : Bool) → bytes_eq b a ≡ t → t ≡ false
    by false is = refl
    by true is = let same : a ≡ b = sym ((bytes_eq-Decides b a).0 is) in let clash : true ≡ false = sym ((bytes_eq-Decides a b).1 same) ∙ e in absurd (cc)

all_not_in_more : (before ms : Pairs) (m : Bytes × Data) → AllNotIn before ms → is_among m.0 (names_of ms) ≡ false → AllNotIn (before ++ m ∷ []) ms
unfolding AllNotIn
all_not_in_more before [] m all absent = tt
all_not_in_more before (n ∷ ms) m all absent = let parts = or_false (bytes_eq n.0 m.0) (is_among m.0 (names_of ms)) absent in
    (not_in_more n.0 before m all.0 (apart_both n.0 m.0 parts.0), all_not_in_more before ms m all.1 parts.1)

merged_apart : (before ms : Pairs) → AllNotIn before ms → IsDistinct (names_of ms) → merged_behind before ms ≡ before ++ ms
unfolding AllNotIn
merged_apart before [] all distinct = sym (append-nil before)
merged_apart before (m ∷ ms) all distinct =
    ap (λ (bs : Pairs). merged_behind bs ms) (added m.0 m.1 before all.0)
    ∙ merged_apart (before ++ m ∷ []) ms (all_not_in_more before ms m all.1 distinct.0) distinct.1
    ∙ append_assoc before (m ∷ []) ms

none_in_none : (ms : Pairs) → AllNotIn [] ms
unfolding AllNotIn NotIn
none_in_none [] = tt
none_in_none (m ∷ ms) = (tt, none_in_none ms)

merged_distinct : (ms : Pairs) → IsDistinct (names_of ms) → merged ms ≡ ms
merged_distinct ms distinct = merged_apart [] ms (none_in_none ms) distinct

-- ---- values

-- a value without blanks
Bare : ℕ → Language Data
Bare zero w d = IsScalar w d
Bare (suc k) w d = IsJsonValue (JsonSpells k) w d

unpadded : {A : Type 0} (L : Language A) (w : Bytes) (a : A) → L w a → Padded L w a
unpadded L w a is = record { before = []; middle = w; after = []; parts = sym (append-nil w); blanks_before = refl; blanks_after = refl; inside = is }

bare_spells : (k : ℕ) (w : Bytes) (d : Data) → Bare k w d → JsonSpells k w d
unfolding Bare JsonSpells
bare_spells zero w d is = unpadded IsScalar w d is
bare_spells (suc k) w d is = unpadded (IsJsonValue (JsonSpells k)) w d is

scalar_bare : (k : ℕ) (w : Bytes) (d : Data) → IsScalar w d → Bare k w d
unfolding Bare
scalar_bare zero w d is = is
scalar_bare (suc k) w d is = of_scalar is

list_bare : (k : ℕ) (w : Bytes) (ds : Datas) (d : Data) → Bracketed (JsonSpells k) 0x5b 0x5d w ds → d ≡ list ds → Bare (suc k) w d
unfolding Bare
list_bare k w ds d is same = of_list ds is same

object_bare : (k : ℕ) (w : Bytes) (ms : Pairs) (d : Data) → Bracketed (IsJsonMember (JsonSpells k)) 0x7b 0x7d w ms → d ≡ object (merged ms) → Bare (suc k) w d
unfolding Bare
object_bare k w ms d is same = of_object ms is same

bracket_whole : {A : Type 0} (L : Language A) (opening close : ℕ) (ps : List Bytes) (xs : List A) → (ps ≡ [] × (xs ≡ [])) ⊎ Listed L close (comma_separated ps ++ close ∷ []) xs → Bracketed L opening close (bracketed opening ps close) xs
bracket_whole L opening close ps xs (inl both) = none [] (ap (λ (qs : List Bytes). bracketed opening qs close) both.0) refl both.1
bracket_whole L opening close ps xs (inr listed) = some (comma_separated ps ++ close ∷ []) refl listed

named : (L : Language Data) (name : Bytes) (w : Bytes) (d : Data) → L w d → IsJsonMember L (quoted name ++ 0x3a ∷ w) (name, d)
named L name w d is = record { name = quoted name; rest = w; parts = refl; is_name = unpadded IsString (quoted name) name (quoted_spells name); is_value = is }

one_listed : {A : Type 0} (L : Language A) (close : ℕ) (p : Bytes) (a : A) → L p a → Listed L close (comma_separated (p ∷ []) ++ close ∷ []) (a ∷ [])
one_listed L close p a is = (p, close ∷ [], ap (λ (w : Bytes). w ++ close ∷ []) (append-nil p), is, inl (refl, refl))

more_listed : {A : Type 0} (L : Language A) (close : ℕ) (p q : Bytes) (ps : List Bytes) (a b : A) (xs : List A) → L p a → Listed L close (comma_separated (q ∷ ps) ++ close ∷ []) (b ∷ xs) → Listed L close (comma_separated (p ∷ q ∷ ps) ++ close ∷ []) (a ∷ b ∷ xs)
more_listed L close p q ps a b xs is others =
    (p, 0x2c ∷ (comma_separated (q ∷ ps) ++ close ∷ []), append_assoc p (behind_others (q ∷ ps)) (close ∷ []), is, inr (comma_separated (q ∷ ps) ++ close ∷ [], refl, others))

mutual
  printed : (d : Data) (k : ℕ) → data_depth d ≤ k → IsSound d → Bare k (json d) d
  printed null k deep is = scalar_bare k (codes "null") null (of_null refl refl)
  printed (bool true) k deep is = scalar_bare k (codes "true") (bool true) (of_true refl refl)
  printed (bool false) k deep is = scalar_bare k (codes "false") (bool false) (of_false refl refl)
  printed (int z) k deep is = scalar_bare k (signed_decimal z) (int z) (of_number z (number_printed z is) refl)
  printed (text bs) k deep is = scalar_bare k (quoted bs) (text bs) (of_string bs (quoted_spells bs) refl)
  printed (sequence ds) zero deep is = absurd (omega (arith, deep))
  printed (sequence ds) (suc k) deep is =
      list_bare k (json (sequence ds)) (list_of ds) (sequence ds) (bracket_whole (JsonSpells k) 0x5b 0x5d (item_texts ds) (list_of ds) (printed_items ds k (omega (arith, deep)) is)) (ap sequence (sym (items_of-list_of ds)))
  printed (mapping ms) zero deep is = absurd (omega (arith, deep))
  printed (mapping ms) (suc k) deep is =
      object_bare k (json (mapping ms)) (pairs_of ms) (mapping ms) (bracket_whole (IsJsonMember (JsonSpells k)) 0x7b 0x7d (member_texts ms) (pairs_of ms) (printed_members ms k (omega (arith, deep)) is.1))
      (ap mapping (sym (members_of-pairs_of ms)) ∙ ap object (sym (merged_distinct (pairs_of ms) is.0)))

  printed_items : (ds : Items) (k : ℕ) → items_depth ds ≤ k → ItemsAreSound ds → ((item_texts ds ≡ []) × (list_of ds ≡ [])) ⊎ Listed (JsonSpells k) 0x5d (comma_separated (item_texts ds) ++ 0x5d ∷ []) (list_of ds)
  printed_items no_items k deep is = inl (refl, refl)
  printed_items (item d no_items) k deep is = inr (one_listed (JsonSpells k) 0x5d (json d) d (bare_spells k (json d) d (printed d k (omega (arith, deep)) is.0)))
  printed_items (item d (item e ds)) k deep is =
      elim (printed_items (item e ds) k (omega (arith, deep)) is.1) [
        | inl both ↦ absurd (some_items e ds both.0)
        | inr others ↦ inr (more_listed (JsonSpells k) 0x5d (json d) (json e) (item_texts ds) d e (list_of ds) (bare_spells k (json d) d (printed d k (omega (arith, deep)) is.0)) others)
      ]
    where
      some_items : (e : Data) (ds : Items) → item_texts (item e ds) ≡ [] → ⊥
      some_items e ds h = cc

  printed_members : (ms : Members) (k : ℕ) → members_depth ms ≤ k → MembersAreSound ms → ((member_texts ms ≡ []) × (pairs_of ms ≡ [])) ⊎ Listed (IsJsonMember (JsonSpells k)) 0x7d (comma_separated (member_texts ms) ++ 0x7d ∷ []) (pairs_of ms)
  printed_members no_members k deep is = inl (refl, refl)
  printed_members (member n d no_members) k deep is = inr (one_listed (IsJsonMember (JsonSpells k)) 0x7d (quoted n ++ 0x3a ∷ json d) (n, d) (named (JsonSpells k) n (json d) d (bare_spells k (json d) d (printed d k (omega (arith, deep)) is.0))))
  printed_members (member n d (member o e ms)) k deep is =
      elim (printed_members (member o e ms) k (omega (arith, deep)) is.1) [
        | inl both ↦ absurd (some_members o e ms both.0)
        | inr others ↦ inr (more_listed (IsJsonMember (JsonSpells k)) 0x7d (quoted n ++ 0x3a ∷ json d) (quoted o ++ 0x3a ∷ json e) (member_texts ms) (n, d) (o, e) (pairs_of ms) (named (JsonSpells k) n (json d) d (bare_spells k (json d) d (printed d k (omega (arith, deep)) is.0))) others)
      ]
    where
      some_members : (o : Bytes) (e : Data) (ms : Members) → member_texts (member o e ms) ≡ [] → ⊥
      some_members o e ms h = cc

pub printed_spells : (k : ℕ) (d : Data) → data_depth d ≤ k → IsSound d → JsonSpells k (json d) d
printed_spells k d deep is = bare_spells k (json d) d (printed d k deep is)
