-- Gathering the items of a list.
use Rattle.std.proofs.Common.{◌≡◌, ℕ, zero, suc, ◌<◌, ◌≤◌, ◌+◌, max, Bool, true, false, cond, eqb, ◌⊎◌, inl, inr, List, [], ◌∷◌, ◌++◌, length, take, drop, nat_eq, ◌-◌, Option, Some, None, Ok, Err, refl, sym, ap, subst, ◌∙◌, append_assoc, length-drop, ◌&&◌, arith}
use Rattle.std.proofs.lemmas.Bool.{eqb-true, eq-eqb}
use Rattle.uq_value.specs.Data.{Bytes, Data, Datas, Pairs, text, items_of, members_of, list, object}
use Rattle.uq_value.specs.Size.{data_size, most_size}
use Rattle.uq_value.specs.Depth.{data_depth, items_depth, members_depth, most_depth}
use Rattle.uq_value.specs.Plain.{plain, size, depth}
use Rattle.uq_value.specs.Put.{limited, with_member}
use Rattle.uq_value.specs.Faults.{Refuses, TextFault}
use Rattle.uq_value.specs.Laws.Growth.{list-grows, items-depth-push}
use Rattle.uq_value.specs.Laws.Limits.{limited-ok, limited-refuses}
use Rattle.uq_json.specs.Internal.LeftOut.{StandFor, Stands}
use Rattle.uq_json.specs.declared.members.Members.{Members}
use Rattle.uq_value.specs.declared.value.Value.{Value}
use Rattle.uq_value.specs.declared.error.ValueFault.{ValueFault}
use Rattle.uq_value.specs.declared.error.ValueFault.TheVariants as value
use Rattle.uq_json.specs.Grammar.{Language, Listed, none, some, IsJsonMember, merged, merged_behind, IsScalar, of_null, of_true, of_false, of_number, of_string, IsJsonValue, of_scalar, of_list, of_object, JsonSpells}
use Rattle.uq_json.specs.Internal.Found.{StandsFor, ListStandsFor, MembersStandFor}
use Rattle.std.specs.List.{starts_with}
use lib.Pointwise.{pointwise}
use Rattle.std.specs.Option.{IfSome}
use Rattle.std.proofs.Math.Seq.{take-length}
use Rattle.uq_json.proofs.Decoding.{tail_whole}
use Rattle.uq_json.specs.Internal.Reading.{Read, ◌>>=◌, Fails, is_next, skip_blanks, padded, inside_at, string_at, string_data_at, scalar_at, behind, bracketed_at, member_at, list_at, object_at, value_within, literal, separator_at, others_at, listed_within, element_at}
use Rattle.uq_json.specs.declared.error.JsonFault.{JsonFault}
use Rattle.uq_json.specs.declared.error.JsonFault.TheVariants as fault
use Rattle.uq_json.proofs.Steps.{if_true, if_false, Takes, no_longer}
use Rattle.uq_json.proofs.Elements.{with_value, member_take}
use Rattle.uq_json.proofs.Rooms.{known, object_takes, element_takes}

-- ---- levels of values

scalar_flat : (w : Bytes) (d : Data) → IsScalar w d → data_depth d ≡ 0
scalar_flat w d (of_null is value) = ap data_depth value
scalar_flat w d (of_true is value) = ap data_depth value
scalar_flat w d (of_false is value) = ap data_depth value
scalar_flat w d (of_number z is value) = ap data_depth value
scalar_flat w d (of_string bs is value) = ap data_depth value

listed_levels : (L : Language Data) (k close : ℕ) → ((w : Bytes) (d : Data) → L w d → data_depth d ≤ k) → (w : Bytes) (ds : Datas) → Listed L close w ds → items_depth (items_of ds) ≤ k
listed_levels L k close each w [] is = omega arith
listed_levels L k close each w (d ∷ ds) (front, back, parts, first, inl (closed, nothing)) =
    let here = each front d first in
    let others : items_depth (items_of ds) ≡ 0 = ap (λ (es : Datas). items_depth (items_of es)) nothing in omega (arith, here, others)
listed_levels L k close each w (d ∷ ds) (front, back, parts, first, inr (tail, comma, rest)) =
    let here = each front d first in
    let others = listed_levels L k close each tail ds rest in omega (arith, here, others)

pairs_depth : Pairs → ℕ
pairs_depth ms = members_depth (members_of ms)

with_member_depth : (n : Bytes) (d : Data) (ms : Pairs) → pairs_depth (with_member n d ms) ≤ max (data_depth d) (pairs_depth ms)
unfolding pairs_depth
with_member_depth n d [] = omega arith
with_member_depth n d (m ∷ ms) = by (Rattle.std.specs.Str.bytes_eq m.0 n) (with_member_depth n d ms)
  where
    by : (b : Bool) → pairs_depth (with_member n d ms) ≤ max (data_depth d) (pairs_depth ms) → pairs_depth (cond b ((m.0, d) ∷ ms) (m ∷ with_member n d ms)) ≤ max (data_depth d) (pairs_depth (m ∷ ms))
    by true others = omega arith
    by false others = omega (arith, others)

merged_depth : (k : ℕ) (before ms : Pairs) → pairs_depth before ≤ k → pairs_depth ms ≤ k → pairs_depth (merged_behind before ms) ≤ k
unfolding pairs_depth
merged_depth k before [] h g = h
merged_depth k before (m ∷ ms) h g =
    let one = with_member_depth m.0 m.1 before in
    merged_depth k (with_member m.0 m.1 before) ms (omega (arith, one, h, g)) (omega (arith, g))

member_levels : (L : Language Data) (k close : ℕ) → ((w : Bytes) (d : Data) → L w d → data_depth d ≤ k) → (w : Bytes) (ms : Pairs) → Listed (IsJsonMember L) close w ms → pairs_depth ms ≤ k
unfolding pairs_depth
member_levels L k close each w [] is = omega arith
member_levels L k close each w (m ∷ ms) (front, back, parts, first, inl (closed, nothing)) =
    let here = each first.rest m.1 first.is_value in
    let others : pairs_depth ms ≡ 0 = ap pairs_depth nothing in omega (arith, here, others)
member_levels L k close each w (m ∷ ms) (front, back, parts, first, inr (tail, comma, rest)) =
    let here = each first.rest m.1 first.is_value in
    let others = member_levels L k close each tail ms rest in omega (arith, here, others)

value_levels : (L : Language Data) (k : ℕ) → ((w : Bytes) (d : Data) → L w d → data_depth d ≤ k) → (w : Bytes) (d : Data) → IsJsonValue L w d → data_depth d ≤ suc k
unfolding pairs_depth
value_levels L k each w d (of_scalar is) = let flat = scalar_flat w d is in omega (arith, flat)
value_levels L k each w d (of_list ds (none blanks is are nothing) value') = let deep : data_depth d ≡ 1 = ap data_depth value' ∙ ap (λ (es : Datas). data_depth (list es)) nothing in omega (arith, deep)
value_levels L k each w d (of_list ds (some body is listed) value') =
    let deep : data_depth d ≡ 1 + items_depth (items_of ds) = ap data_depth value' in
    let within = listed_levels L k 0x5d each body ds listed in omega (arith, deep, within)
value_levels L k each w d (of_object ms (none blanks is are nothing) value') = let deep : data_depth d ≡ 1 = ap data_depth value' ∙ ap (λ (ns : Pairs). data_depth (object (merged ns))) nothing in omega (arith, deep)
value_levels L k each w d (of_object ms (some body is listed) value') =
    let deep : data_depth d ≡ 1 + members_depth (members_of (merged ms)) = ap data_depth value' in
    let within = merged_depth k [] ms (omega arith) (member_levels L k 0x7d each body ms listed) in omega (arith, deep, within)

pub levels_deep : (k : ℕ) (w : Bytes) (d : Data) → JsonSpells k w d → data_depth d ≤ k
unfolding JsonSpells
levels_deep zero w d is = let flat = scalar_flat is.middle d is.inside in omega (arith, flat)
levels_deep (suc k) w d is = value_levels (JsonSpells k) k (levels_deep k) is.middle d is.inside

pub read_deep : (k : ℕ) (ts rest : Bytes) (d : Data) → element_at k ts ≡ Ok (d, rest) → data_depth d ≤ k
read_deep k ts rest d e = let taken = element_takes k ts (d, rest) e in levels_deep k taken.used d taken.reads

-- ---- one item more

pub nothing_kept : (items : Option Datas) (one : Option Value) → (items ≡ None) ⊎ (one ≡ None) → (ds : Datas) (d : Data) → ListStandsFor items ds → StandsFor one d → ListStandsFor None (ds ++ d ∷ [])
nothing_kept items one (inl e) ds d here there = let large' : most_size < data_size (list ds) = subst (λ (o : Option Datas). ListStandsFor o ds) e here in omega (arith, large', list-grows ds d)
nothing_kept items one (inr e) ds d here there = let large' : most_size < data_size d = subst (λ (o : Option Value). StandsFor o d) e there in omega (arith, large', list-grows ds d)

pub item_kept : (kept now : Datas) (v : Value) → now ≡ kept ++ plain v ∷ [] → limited (Value.List (kept ++ plain v ∷ [])) ≡ Ok (Value.List now) → (ds : Datas) (d : Data) → ListStandsFor (Some kept) ds → StandsFor (Some v) d → ListStandsFor (Some now) (ds ++ d ∷ [])
item_kept kept now v is fits' ds d here there =
    let allowed = limited-ok (Value.List (kept ++ plain v ∷ [])) (Value.List now) fits' in
    (is ∙ ap (λ (es : Datas). es ++ plain v ∷ []) here.0 ∙ ap (λ (e : Data). ds ++ e ∷ []) there, subst (λ (es : Datas). data_depth (list es) ≤ most_depth) (sym is) allowed.shallow)

pub item_refused : (kept : Datas) (v : Value) (e : ValueFault) → Refuses (limited (Value.List (kept ++ plain v ∷ []))) e → (e ≡ value.Memory → ⊥) → depth v < most_depth → (ds : Datas) (d : Data) → ListStandsFor (Some kept) ds → StandsFor (Some v) d → ListStandsFor None (ds ++ d ∷ [])
item_refused kept v e refused other shallow ds d here there = by (limited-refuses (Value.List (kept ++ plain v ∷ [])) e refused)
  where
    by : (e ≡ value.Memory) ⊎ ((most_depth < depth (Value.List (kept ++ plain v ∷ []))) ⊎ (most_size < size (Value.List (kept ++ plain v ∷ [])))) → most_size < data_size (list (ds ++ d ∷ []))
    by (inl is) = absurd (other is)
    by (inr (inl above)) = let below = here.1 in absurd (omega (arith, above, below, shallow, items-depth-push kept (plain v)))
    by (inr (inr above)) =
        let same : kept ++ plain v ∷ [] ≡ ds ++ d ∷ [] = ap (λ (es : Datas). es ++ plain v ∷ []) here.0 ∙ ap (λ (e : Data). ds ++ e ∷ []) there in
        subst (λ (es : Datas). most_size < data_size (list es)) same above

-- ---- the loop over what stands between brackets

abbrev pub with_front : {A : Type 0} → List A → Read (List A) → Read (List A)
with_front front read = read >>= λ x. Ok (front ++ x.0, x.1)

pub fails_both : {B C : Type 0} (why : JsonFault) (read : Read B) (total : Read C) → ((w : JsonFault) → read ≡ Err w → total ≡ Err w) → Fails why read → Fails why total
fails_both fault.Memory read total same fails = tt
fails_both fault.TooLarge read total same fails = fails
fails_both fault.NotJson read total same fails = same fault.NotJson fails
fails_both fault.TooDeep read total same fails = same fault.TooDeep fails

abbrev rest_of : Read Bool → Bytes
rest_of (Ok x) = x.1
rest_of (Err w) = []

abbrev flag_of : Read Bool → Bool
flag_of (Ok x) = x.0
flag_of (Err w) = false

module _ {A : Type 0} where
  -- some are read, and the rest of the bytes gives the others
  abbrev pub SoFar : (Bytes → Read A) → ℕ → (List A → Type 0) → Bytes → Read (List A) → Type 0
  SoFar r close Holds rest total = (front : List A) × (fuel : ℕ) × (length rest < fuel) × (with_front front (listed_within r close fuel rest) ≡ total) × Holds front

  no_front : (read : Read (List A)) → with_front [] read ≡ read
  no_front (Ok x) = refl
  no_front (Err w) = refl

  pub begins : (r : Bytes → Read A) (close : ℕ) (Holds : List A → Type 0) (ts : Bytes) → Holds [] → SoFar r close Holds ts (listed_within r close (suc (length ts)) ts)
  begins r close Holds ts holds = ([], suc (length ts), omega arith, no_front (listed_within r close (suc (length ts)) ts), holds)

  module _ (r : Bytes → Read A) (close : ℕ) (Holds : List A → Type 0) (rest : Bytes) (total : Read (List A)) where
    pub item_fails : (why : JsonFault) → SoFar r close Holds rest total → Fails why (r rest) → Fails why total
    item_fails why (front, zero, fits', so_far, holds) fails = absurd (omega (arith, fits'))
    item_fails why (front, suc n, fits', so_far, holds) fails = fails_both why (r rest) total (λ w e. sym so_far ∙ ap (λ (q : Read A). with_front front (q >>= λ x. others_at close (listed_within r close n) x.0 x.1)) e) fails

    read_one : (n : ℕ) (front : List A) (a : A) (after : Bytes) → r rest ≡ Ok (a, after) → with_front front (listed_within r close (suc n) rest) ≡ total → with_front front (others_at close (listed_within r close n) a after) ≡ total
    read_one n front a after e so_far = sym (ap (λ (q : Read A). with_front front (q >>= λ x. others_at close (listed_within r close n) x.0 x.1)) e) ∙ so_far

    separated : (more : Bytes → Read (List A)) (a : A) (ts : Bytes) → others_at close more a ts ≡ (separator_at close ts >>= λ x. cond x.0 (more x.1 >>= λ y. Ok (a ∷ y.0, y.1)) (Ok (a ∷ [], x.1)))
    separated more a [] = refl
    separated more a (c ∷ cs) = by (eqb c 0x2c) (eqb c close)
      where
        by : (b d : Bool) → cond b (more cs >>= λ y. Ok (a ∷ y.0, y.1)) (cond d (Ok (a ∷ [], cs)) (Err fault.NotJson)) ≡ ((let q : Read Bool = cond b (Ok (true, cs)) (cond d (Ok (false, cs)) (Err fault.NotJson)) in q) >>= λ x. cond x.0 (more x.1 >>= λ y. Ok (a ∷ y.0, y.1)) (Ok (a ∷ [], x.1)))
        by true d = refl
        by false true = refl
        by false false = refl

    module _ (a : A) (after : Bytes) (is : r rest ≡ Ok (a, after)) where
      pub separator_fails : (why : JsonFault) → SoFar r close Holds rest total → Fails why (separator_at close after) → Fails why total
      separator_fails why (front, zero, fits', so_far, holds) fails = absurd (omega (arith, fits'))
      separator_fails why (front, suc n, fits', so_far, holds) fails = fails_both why (separator_at close after) total
          (λ w e. sym (read_one n front a after is so_far) ∙ ap (with_front front) (separated (listed_within r close n) a after ∙ ap (λ (q : Read Bool). q >>= λ x. cond x.0 (listed_within r close n x.1 >>= λ y. Ok (a ∷ y.0, y.1)) (Ok (a ∷ [], x.1))) e)) fails

      pub ends : (behind : Bytes) → separator_at close after ≡ Ok (false, behind) → (Now : List A → Type 0) → ((front : List A) → Holds front → Now (front ++ a ∷ [])) → SoFar r close Holds rest total → (all : List A) × (total ≡ Ok (all, behind)) × Now all
      ends behind e Now more (front, zero, fits', so_far, holds) = absurd (omega (arith, fits'))
      ends behind e Now more (front, suc n, fits', so_far, holds) =
          (front ++ a ∷ [], sym (read_one n front a after is so_far) ∙ ap (with_front front) (separated (listed_within r close n) a after ∙ ap (λ (q : Read Bool). q >>= λ x. cond x.0 (listed_within r close n x.1 >>= λ y. Ok (a ∷ y.0, y.1)) (Ok (a ∷ [], x.1))) e), more front holds)

      comma_shrinks : (ts behind : Bytes) → separator_at close ts ≡ Ok (true, behind) → length behind < length ts
      comma_shrinks [] behind e = absurd (cc)
      comma_shrinks (c ∷ cs) behind e = by (eqb c 0x2c) (eqb c close) e
        where
          by : (b d : Bool) → ◌≡◌ {A = Read Bool} (cond b (Ok (true, cs)) (cond d (Ok (false, cs)) (Err fault.NotJson))) (Ok (true, behind)) → length behind < length (c ∷ cs)
          by true d e = let same : cs ≡ behind = ap rest_of e in let count : length cs ≡ length behind = ap length same in omega (arith, count)
          by false true e = let clash : false ≡ true = ap flag_of e in absurd (cc)
          by false false e = absurd (cc)

      pub shrinks : (behind : Bytes) → separator_at close after ≡ Ok (true, behind) → length after ≤ length rest → length behind < length rest
      shrinks behind e less = let step = comma_shrinks after behind e in omega (arith, step, less)

      regroup : (front : List A) (read : Read (List A)) → with_front front (read >>= λ y. Ok (a ∷ y.0, y.1)) ≡ with_front (front ++ a ∷ []) read
      regroup front (Ok x) = ap (λ (xs : List A). Ok (xs, x.1)) (sym (append_assoc front (a ∷ []) x.0))
      regroup front (Err w) = refl

      pub goes_on : (behind : Bytes) → separator_at close after ≡ Ok (true, behind) → length after ≤ length rest → (Now : List A → Type 0) → ((front : List A) → Holds front → Now (front ++ a ∷ [])) → SoFar r close Holds rest total → SoFar r close Now behind total
      goes_on behind e less Now more (front, zero, fits', so_far, holds) = absurd (omega (arith, fits'))
      goes_on behind e less Now more (front, suc n, fits', so_far, holds) =
          let step = comma_shrinks after behind e in (
            front ++ a ∷ [],
            n,
            omega (arith, step, less, fits'),
            sym (regroup front (listed_within r close n behind)) ∙ sym (ap (with_front front) (separated (listed_within r close n) a after ∙ ap (λ (q : Read Bool). q >>= λ x. cond x.0 (listed_within r close n x.1 >>= λ y. Ok (a ∷ y.0, y.1)) (Ok (a ∷ [], x.1))) e)) ∙ read_one n front a after is so_far,
            more front holds,
          )

-- ---- one value

rest_whole : (n : ℕ) (ts : Bytes) → take (length ts - n) (drop n ts) ≡ drop n ts
rest_whole n ts = ap (λ (k : ℕ). take k (drop n ts)) (sym (length-drop n ts)) ∙ take-length (drop n ts)

both_true : (a b : Bool) → (a && b) ≡ true → (a ≡ true) × (b ≡ true)
both_true true b e = (refl, e)
both_true false b e = absurd (cc)

literal_there : (ws : Bytes) (d : Data) (ts : Bytes) → starts_with nat_eq ts ws ≡ true → literal ws d ts ≡ Ok (d, drop (length ws) ts)
literal_there [] d ts e = refl
literal_there (w ∷ ws) d [] e = absurd (cc)
literal_there (w ∷ ws) d (c ∷ cs) e = let both = both_true (eqb w c) (pointwise nat_eq ws (take (length ws) cs)) e in
    if_true (eqb c w) (literal ws d cs) (Err fault.NotJson) (eq-eqb c w (sym (eqb-true w c both.0))) ∙ literal_there ws d cs both.1

literal_not_there : (ws : Bytes) (d : Data) (ts : Bytes) → starts_with nat_eq ts ws ≡ false → literal ws d ts ≡ Err fault.NotJson
literal_not_there [] d ts e = absurd (cc)
literal_not_there (w ∷ ws) d [] e = refl
literal_not_there (w ∷ ws) d (c ∷ cs) e = by (eqb c w) refl (literal_not_there ws d cs)
  where
    by : (b : Bool) → eqb c w ≡ b → (starts_with nat_eq cs ws ≡ false → literal ws d cs ≡ Err fault.NotJson) → cond b (literal ws d cs) (Err fault.NotJson) ≡ Err fault.NotJson
    by false is again = refl
    by true is again = again (sym (ap (λ (b : Bool). b && pointwise nat_eq ws (take (length ws) cs)) (eq-eqb w c (sym (eqb-true c w is)))) ∙ e)

pub literal_read : (ws : Bytes) (d : Data) (ts : Bytes) → starts_with nat_eq ts ws ≡ true → literal ws d ts ≡ Ok (d, take (length ts - length ws) (drop (length ws) ts))
literal_read ws d ts e = literal_there ws d ts e ∙ ap (λ (v : Bytes). Ok (d, v)) (sym (rest_whole (length ws) ts))

pub literal_refused : (ws : Bytes) (d : Data) (ts : Bytes) → starts_with nat_eq ts ws ≡ false → literal ws d ts ≡ Err fault.NotJson
literal_refused = literal_not_there

pub text_kept : (ts rest bs : Bytes) (t : Bytes) → inside_at ts ≡ Ok (bs, rest) → t ≡ bs → (d : Data) × (string_data_at ts ≡ Ok (d, rest)) × (text t ≡ d)
text_kept ts rest bs t e same = (text bs, ap (λ (q : Read Bytes). q >>= λ x. Ok (text x.0, x.1)) e, ap text same)

pub text_left_out : (ts rest bs : Bytes) (e : ValueFault) → inside_at ts ≡ Ok (bs, rest) → TextFault bs e → (e ≡ value.Memory → ⊥) → (d : Data) × (string_data_at ts ≡ Ok (d, rest)) × (most_size < data_size d)
text_left_out ts rest bs value.Memory e fault other = absurd (other refl)
text_left_out ts rest bs value.TooLarge e fault other = (text bs, ap (λ (q : Read Bytes). q >>= λ x. Ok (text x.0, x.1)) e, fault)
text_left_out ts rest bs value.TooDeep e fault other = absurd fault
text_left_out ts rest bs value.NotContainer e fault other = absurd fault
text_left_out ts rest bs value.IndexRange e fault other = absurd fault

-- ---- a value with blanks, and a level more

element_is : (room : ℕ) (ts : Bytes) → element_at room ts ≡ padded (value_within room) ts
unfolding element_at
element_is zero ts = refl
element_is (suc k) ts = refl

pub element_found : (room : ℕ) (ts skipped rest behind : Bytes) (one : Option Value) → skipped ≡ skip_blanks ts → behind ≡ skip_blanks rest
    → (d : Data) × (value_within room skipped ≡ Ok (d, rest)) × StandsFor one d → (d : Data) × (element_at room ts ≡ Ok (d, behind)) × StandsFor one d
element_found room ts skipped rest behind one skips then_skips (d, e, stands) =
    (d, element_is room ts ∙ ap (λ (v : Bytes). value_within room v >>= λ x. Ok (x.0, skip_blanks x.1)) (sym skips) ∙ ap (λ (q : Read Data). q >>= λ x. Ok (x.0, skip_blanks x.1)) e ∙ ap (λ (v : Bytes). Ok (d, v)) (sym then_skips), stands)

pub element_fails : (room : ℕ) (ts skipped : Bytes) (why : JsonFault) → skipped ≡ skip_blanks ts → Fails why (value_within room skipped) → Fails why (element_at room ts)
element_fails room ts skipped why skips fails = fails_both why (value_within room skipped) (element_at room ts) (λ w e. element_is room ts ∙ ap (λ (v : Bytes). value_within room v >>= λ x. Ok (x.0, skip_blanks x.1)) (sym skips) ∙ ap (λ (q : Read Data). q >>= λ x. Ok (x.0, skip_blanks x.1)) e) fails

pub no_list_next : (room : ℕ) (ts : Bytes) → is_next 0x5b ts ≡ false → is_next 0x7b ts ≡ false → value_within room ts ≡ scalar_at ts
no_list_next zero [] e f = refl
no_list_next (suc k) [] e f = refl
no_list_next zero (c ∷ cs) e f = if_false (eqb c 0x5b) (Err fault.TooDeep) (cond (eqb c 0x7b) (Err fault.TooDeep) (scalar_at (c ∷ cs))) e ∙ if_false (eqb c 0x7b) (Err fault.TooDeep) (scalar_at (c ∷ cs)) f
no_list_next (suc k) (c ∷ cs) e f = if_false (eqb c 0x5b) (list_at (element_at k) cs) (cond (eqb c 0x7b) (object_at (element_at k) cs) (scalar_at (c ∷ cs))) e ∙ if_false (eqb c 0x7b) (object_at (element_at k) cs) (scalar_at (c ∷ cs)) f

pub no_room : (ts : Bytes) → (is_next 0x5b ts ≡ true) ⊎ (is_next 0x7b ts ≡ true) → value_within 0 ts ≡ Err fault.TooDeep
no_room [] (inl e) = absurd (cc)
no_room [] (inr e) = absurd (cc)
no_room (c ∷ cs) (inl e) = if_true (eqb c 0x5b) (Err fault.TooDeep) (cond (eqb c 0x7b) (Err fault.TooDeep) (scalar_at (c ∷ cs))) e
no_room (c ∷ cs) (inr e) = by (eqb c 0x5b) (eqb c 0x7b) e
  where
    by : (a b : Bool) → b ≡ true → cond a (Err fault.TooDeep) (cond b (Err fault.TooDeep) (scalar_at (c ∷ cs))) ≡ Err fault.TooDeep
    by true b e = refl
    by false b e = if_true b (Err fault.TooDeep) (scalar_at (c ∷ cs)) e

pub list_next : (room : ℕ) (ts : Bytes) → 0 < room → is_next 0x5b ts ≡ true → value_within room ts ≡ list_at (element_at (room - 1)) (take (length ts - 1) (drop 1 ts))
list_next zero ts h e = absurd (omega (arith, h))
list_next (suc k) [] h e = absurd (cc)
list_next (suc k) (c ∷ cs) h e =
    if_true (eqb c 0x5b) (list_at (element_at k) cs) (cond (eqb c 0x7b) (object_at (element_at k) cs) (scalar_at (c ∷ cs))) e
    ∙ ap (λ (n : ℕ). list_at (element_at n) cs) (less k) ∙ ap (list_at (element_at (suc k - 1))) (sym (tail_whole c cs))
  where
    less : (k : ℕ) → k ≡ suc k - 1
    less k = omega arith

pub object_next : (room : ℕ) (ts : Bytes) → 0 < room → is_next 0x5b ts ≡ false → is_next 0x7b ts ≡ true → value_within room ts ≡ object_at (element_at (room - 1)) (take (length ts - 1) (drop 1 ts))
object_next zero ts h f e = absurd (omega (arith, h))
object_next (suc k) [] h f e = absurd (cc)
object_next (suc k) (c ∷ cs) h f e =
    if_false (eqb c 0x5b) (list_at (element_at k) cs) (cond (eqb c 0x7b) (object_at (element_at k) cs) (scalar_at (c ∷ cs))) f
    ∙ if_true (eqb c 0x7b) (object_at (element_at k) cs) (scalar_at (c ∷ cs)) e
    ∙ ap (λ (n : ℕ). object_at (element_at n) cs) (less k) ∙ ap (object_at (element_at (suc k - 1))) (sym (tail_whole c cs))
  where
    less : (k : ℕ) → k ≡ suc k - 1
    less k = omega arith

pub element_no_longer : (room : ℕ) (ts rest : Bytes) (d : Data) → element_at room ts ≡ Ok (d, rest) → length rest ≤ length ts
element_no_longer room ts rest d e = no_longer (JsonSpells room) ts (d, rest) (element_takes room ts (d, rest) e)

pub shallow_found : (room : ℕ) (ts rest : Bytes) (one : Option Value) → room < most_depth → (d : Data) × (element_at room ts ≡ Ok (d, rest)) × StandsFor one d → IfSome one (λ v. depth v < most_depth)
shallow_found room ts rest None h found = tt
shallow_found room ts rest (Some v) h (d, e, stands) = let deep' = read_deep room ts rest d e in let same : data_depth (plain v) ≡ data_depth d = ap data_depth stands in omega (arith, deep', same, h)

-- ---- lists

bracketed_open : {A : Type 0} (r : Bytes → Read A) (close : ℕ) (ts : Bytes) → is_next close (skip_blanks ts) ≡ false → bracketed_at r close ts ≡ listed_within r close (suc (length ts)) ts
bracketed_open r close ts e = if_false (is_next close (skip_blanks ts)) (Ok ([], drop 1 (skip_blanks ts))) (listed_within r close (suc (length ts)) ts) e

pub list_found : (r : Bytes → Read Data) (ts inner rest : Bytes) (items : Option Datas) (one : Option Value) → inner ≡ skip_blanks ts → is_next 0x5d inner ≡ false → ((ds : Datas) → ListStandsFor items ds → StandsFor one (list ds))
    → (ds : Datas) × (listed_within r 0x5d (suc (length ts)) ts ≡ Ok (ds, rest)) × ListStandsFor items ds → (d : Data) × (list_at r ts ≡ Ok (d, rest)) × StandsFor one d
list_found r ts inner rest items one skips next whole (ds, e, stands) =
    (list ds, ap (λ (q : Read Datas). q >>= λ x. Ok (list x.0, x.1)) (bracketed_open r 0x5d ts (ap (is_next 0x5d) (sym skips) ∙ next) ∙ e), whole ds stands)

-- ---- members

member_is : (room : ℕ) (ts rest : Bytes) (m : Bytes × Data) → member_at (element_at room) ts ≡ Ok (m, rest) → Takes (IsJsonMember (JsonSpells room)) ts (m, rest)
member_is room ts rest m e = member_take (JsonSpells room) (element_at room) (known room).takes (known room).again ts (m, rest) e

pub member_no_longer : (room : ℕ) (ts rest : Bytes) (m : Bytes × Data) → member_at (element_at room) ts ≡ Ok (m, rest) → length rest ≤ length ts
member_no_longer room ts rest m e = no_longer (IsJsonMember (JsonSpells room)) ts (m, rest) (member_is room ts rest m e)

member_shallow : (room : ℕ) (ts rest : Bytes) (m : Bytes × Data) → room < most_depth → member_at (element_at room) ts ≡ Ok (m, rest) → data_depth m.1 < most_depth
member_shallow room ts rest m h e = let taken = (member_is room ts rest m e).reads in let deep' = levels_deep room taken.rest m.1 taken.is_value in omega (arith, deep', h)

pub member_found : (r : Bytes → Read Data) (ts skipped named colon rest : Bytes) (name : Bytes) (one : Option Value) → skipped ≡ skip_blanks ts → string_at skipped ≡ Ok (name, named) → colon ≡ skip_blanks named → is_next 0x3a colon ≡ true
    → (d : Data) × (r (take (length colon - 1) (drop 1 colon)) ≡ Ok (d, rest)) × StandsFor one d → (m : Bytes × Data) × (member_at r ts ≡ Ok (m, rest)) × (name ≡ m.0) × StandsFor one m.1
member_found r ts skipped named colon rest name one skips string then_skips next (d, e, stands) =
    ((name, d), named_is ∙ behind_colon colon next e, refl, stands)
  where
    named_is : member_at r ts ≡ (behind 0x3a colon >>= λ x. with_value r name x.1)
    named_is = ap (λ (v : Bytes). (string_at v >>= λ x. Ok (x.0, skip_blanks x.1)) >>= λ n. behind 0x3a n.1 >>= λ x. with_value r n.0 x.1) (sym skips)
        ∙ ap (λ (q : Read Bytes). (q >>= λ x. Ok (x.0, skip_blanks x.1)) >>= λ n. behind 0x3a n.1 >>= λ x. with_value r n.0 x.1) string
        ∙ ap (λ (u : Bytes). behind 0x3a u >>= λ x. with_value r name x.1) (sym then_skips)

    behind_colon : (u : Bytes) → is_next 0x3a u ≡ true → r (take (length u - 1) (drop 1 u)) ≡ Ok (d, rest) → (behind 0x3a u >>= λ x. with_value r name x.1) ≡ Ok ((name, d), rest)
    behind_colon [] next e = absurd (cc)
    behind_colon (c ∷ cs) next e = ap (λ (q : Read (Unit {0})). q >>= λ x. with_value r name x.1) (if_true (eqb c 0x3a) (Ok (tt, cs)) (Err fault.NotJson) next)
        ∙ ap (with_value r name) (sym (tail_whole c cs)) ∙ ap (λ (q : Read Data). q >>= λ v. Ok ((name, v.0), v.1)) e

merged_more : (before ms : Pairs) (m : Bytes × Data) → merged_behind before (ms ++ m ∷ []) ≡ with_member m.0 m.1 (merged_behind before ms)
merged_more before [] m = refl
merged_more before (n ∷ ms) m = merged_more (with_member n.0 n.1 before) ms m

pub no_members : (kept : Pairs) (marks : List Bool) → kept ≡ [] → marks ≡ [] → StandFor kept marks []
no_members kept marks e f = subst (λ (ks : Pairs). StandFor ks marks []) (sym e) (subst (λ (bs : List Bool). StandFor [] bs []) (sym f) tt)

pub member_set : (room : ℕ) (ts rest : Bytes) (m : Bytes × Data) (old new : Members) (name : Bytes) (one : Option Value) → room < most_depth → member_at (element_at room) ts ≡ Ok (m, rest) → name ≡ m.0 → StandsFor one m.1
    → ((ms : Pairs) (d : Data) → Stands old ms → StandsFor one d → data_depth d < most_depth → Stands new (with_member name d ms)) → (front : Pairs) → MembersStandFor old front → MembersStandFor new (front ++ m ∷ [])
member_set room ts rest m old new name one h e named stands sets front here =
    subst (Stands new) (ap (λ (n : Bytes). with_member n m.1 (merged front)) named ∙ sym (merged_more [] front m)) (sets (merged front) m.1 here stands (member_shallow room ts rest m h e))

-- ---- objects

object_shallow : (room : ℕ) (ts rest : Bytes) (d : Data) → room < most_depth → object_at (element_at room) ts ≡ Ok (d, rest) → data_depth d ≤ most_depth
object_shallow room ts rest d h e =
    let taken = object_takes (JsonSpells room) (element_at room) (known room) ts (d, rest) e in
    let deep' = value_levels (JsonSpells room) room (levels_deep room) taken.used d taken.reads in omega (arith, deep', h)

pub object_found : (room : ℕ) (ts inner rest : Bytes) (members : Members) (one : Option Value) → room < most_depth → inner ≡ skip_blanks ts → is_next 0x7d inner ≡ false
    → ((ms : Pairs) → Stands members ms → data_depth (object ms) ≤ most_depth → StandsFor one (object ms))
    → (ms : Pairs) × (listed_within (member_at (element_at room)) 0x7d (suc (length ts)) ts ≡ Ok (ms, rest)) × MembersStandFor members ms → (d : Data) × (object_at (element_at room) ts ≡ Ok (d, rest)) × StandsFor one d
object_found room ts inner rest members one h skips next whole (ms, e, stands) =
    let read : object_at (element_at room) ts ≡ Ok (object (merged ms), rest) = ap (λ (q : Read Pairs). q >>= λ x. Ok (object (merged x.0), x.1)) (bracketed_open (member_at (element_at room)) 0x7d ts (ap (is_next 0x7d) (sym skips) ∙ next) ∙ e) in
    (object (merged ms), read, whole (merged ms) stands (object_shallow room ts rest (object (merged ms)) h read))
