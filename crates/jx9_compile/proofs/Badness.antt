-- Which ops are bad, by the table of heights.
use Rattle.std.proofs.Common.{◌≡◌, ℕ, ◌+◌, ◌<◌, ◌≤◌, List, [], length, Option, Some, None, refl, sym, ap, subst, ◌∙◌, inl, inr, arith}
use Rattle.std.specs.Prelude.{MatchOption, ◌||◌, ◌&&◌, Bool, true, false, nat_eq, nat_lt, get_or, slice_get, ◌⊎◌}
use Rattle.std.proofs.lemmas.Bool.{false≢true, true≢false, both_ways, ltb-true, lt-ltb, leb-true, le-leb, eqb-true, eq-eqb, or_cases, or_parts, and_parts, and_from, cases_eq}
use Rattle.std.proofs.lemmas.Option.{MatchOption-at_some, MatchOption-at_none, none-some, same_Some, slice_get_cases, slice_get_read, slice_get_within}
use Rattle.jx9_compile.specs.Assembled.{IsBadOp, leaves_the_function, has_no_such_slot, calls_no_function, finds_too_few, is_met_at_two_heights, runs_off_the_end, IsBadAt, has_too_few_slots, has_no_ops, has_a_bad_op, IsGood, IsFirstBadAt, AreGoodBefore, IsFirstBad, bad_function}
use Rattle.jx9_compile.specs.Heights.{Covers, IsSound, AreHeights, seen_at, is_beyond, names_nothing, is_misplaced}
use Rattle.jx9_compile.specs.Shape.{goes_on, jump_of, callee_of, slot_of, takes}
use Rattle.jx9_compile.specs.declared.function.Function.{Function}
use Rattle.jx9_compile.specs.declared.heights.Seen.{Seen}
use Rattle.jx9_compile.specs.declared.heights.Seen.TheVariants.{Unseen, Once, Twice}
use Rattle.jx9_compile.specs.declared.op.Op.{Op}

beyond : (n : ℕ) (o : Option ℕ) → is_beyond n o ≡ true → (k : ℕ) × (o ≡ Some k) × (n ≤ k)
beyond n None e = absurd (false≢true e)
beyond n (Some k) e = (k, refl, leb-true n k e)

not_beyond : (n k : ℕ) (o : Option ℕ) → is_beyond n o ≡ false → o ≡ Some k → n ≤ k → ⊥
not_beyond n k None e is less = none-some k is
not_beyond n k (Some j) e is less = both_ways (is_beyond n (Some j)) e (le-leb n j (omega (arith, same_Some j k is)))

module _ (functions : ℕ) (f : Function) (at : ℕ) (op : Op) where
  named : names_nothing functions f op ≡ true → IsBadOp functions f at op
  named e = by_first (or_cases (is_beyond (length f.ops) (jump_of op)) _ e)
    where
      by_second : (is_beyond f.slots (slot_of op) ≡ true) ⊎ (is_beyond functions (callee_of op) ≡ true) → IsBadOp functions f at op
      by_second (inl e) = let k = beyond f.slots (slot_of op) e in has_no_such_slot k.0 k.1 k.2
      by_second (inr e) = let k = beyond functions (callee_of op) e in calls_no_function k.0 k.1 k.2

      by_first : (is_beyond (length f.ops) (jump_of op) ≡ true) ⊎ ((is_beyond f.slots (slot_of op) || is_beyond functions (callee_of op)) ≡ true)
          → IsBadOp functions f at op
      by_first (inl e) = let k = beyond (length f.ops) (jump_of op) e in leaves_the_function k.0 k.1 k.2
      by_first (inr e) = by_second (or_cases (is_beyond f.slots (slot_of op)) _ e)

  placed : (s : Seen) → IsSound f.ops at s → is_misplaced s op (nat_eq (at + 1) (length f.ops)) ≡ true → IsBadOp functions f at op
  placed Unseen sound e = absurd (false≢true e)
  placed (Once g) sound e = by_case (or_cases (nat_lt g.put (g.taken + takes op)) _ e)
    where
      by_case : (nat_lt g.put (g.taken + takes op) ≡ true) ⊎ ((goes_on op && nat_eq (at + 1) (length f.ops)) ≡ true) → IsBadOp functions f at op
      by_case (inl e) = finds_too_few g.put g.taken sound (ltb-true g.put (g.taken + takes op) e)
      by_case (inr e) =
          let both = and_parts (goes_on op) (nat_eq (at + 1) (length f.ops)) e in
          runs_off_the_end g.put g.taken sound both.0 (eqb-true (at + 1) (length f.ops) both.1)
  placed Twice sound e = is_met_at_two_heights sound

  -- at an entry that covers a way
  enough : (s : Seen) (put taken : ℕ) → Covers s put taken → is_misplaced s op (nat_eq (at + 1) (length f.ops)) ≡ false → put < taken + takes op → ⊥
  enough Unseen put taken c e few = c
  enough (Once g) put taken c e few =
      both_ways (nat_lt g.put (g.taken + takes op)) (or_parts (nat_lt g.put (g.taken + takes op)) _ e).0 (lt-ltb g.put (g.taken + takes op) (omega arith))
  enough Twice put taken c e few = true≢false e

  one_height : (s : Seen) (put taken put' taken' : ℕ) → Covers s put taken → Covers s put' taken'
      → is_misplaced s op (nat_eq (at + 1) (length f.ops)) ≡ false → put + taken' ≡ put' + taken
  one_height Unseen put taken put' taken' c d e = absurd c
  one_height (Once g) put taken put' taken' c d e = omega arith
  one_height Twice put taken put' taken' c d e = absurd (true≢false e)

  stays_within : (s : Seen) (put taken : ℕ) → Covers s put taken → is_misplaced s op (nat_eq (at + 1) (length f.ops)) ≡ false
      → goes_on op ≡ true → at + 1 ≡ length f.ops → ⊥
  stays_within Unseen put taken c e goes last = c
  stays_within (Once g) put taken c e goes last =
      both_ways (goes_on op && nat_eq (at + 1) (length f.ops)) (or_parts (nat_lt g.put (g.taken + takes op)) _ e).1
      (and_from (goes_on op) (nat_eq (at + 1) (length f.ops)) goes (eq-eqb (at + 1) (length f.ops) last))
  stays_within Twice put taken c e goes last = true≢false e

  module _ (table : List Seen) (h : AreHeights f.ops table) where
    pub bad : (names_nothing functions f op || is_misplaced (seen_at table at) op (nat_eq (at + 1) (length f.ops))) ≡ true → IsBadOp functions f at op
    bad e = by_case (or_cases (names_nothing functions f op) _ e)
      where
        by_case : (names_nothing functions f op ≡ true) ⊎ (is_misplaced (seen_at table at) op (nat_eq (at + 1) (length f.ops)) ≡ true)
            → IsBadOp functions f at op
        by_case (inl e) = named e
        by_case (inr e) = placed (seen_at table at) (h.sound at) e

    pub not_bad : (names_nothing functions f op || is_misplaced (seen_at table at) op (nat_eq (at + 1) (length f.ops))) ≡ false → IsBadOp functions f at op → ⊥
    not_bad e b = by_case (or_parts (names_nothing functions f op) (is_misplaced (seen_at table at) op (nat_eq (at + 1) (length f.ops))) e) b
      where
        by_case : (names_nothing functions f op ≡ false) × (is_misplaced (seen_at table at) op (nat_eq (at + 1) (length f.ops)) ≡ false)
            → IsBadOp functions f at op → ⊥
        by_case e (leaves_the_function to is less) =
            not_beyond (length f.ops) to (jump_of op) (or_parts (is_beyond (length f.ops) (jump_of op)) _ e.0).0 is less
        by_case e (has_no_such_slot slot is less) =
            let two = or_parts (is_beyond (length f.ops) (jump_of op)) (is_beyond f.slots (slot_of op) || is_beyond functions (callee_of op)) e.0 in
            not_beyond f.slots slot (slot_of op) (or_parts (is_beyond f.slots (slot_of op)) _ two.1).0 is less
        by_case e (calls_no_function function is less) =
            let two = or_parts (is_beyond (length f.ops) (jump_of op)) (is_beyond f.slots (slot_of op) || is_beyond functions (callee_of op)) e.0 in
            not_beyond functions function (callee_of op) (or_parts (is_beyond f.slots (slot_of op)) (is_beyond functions (callee_of op)) two.1).1 is less
        by_case e (finds_too_few put taken w few) = enough (seen_at table at) put taken (h.covered at put taken w) e.1 few
        by_case e (is_met_at_two_heights two) =
            two.apart (one_height (seen_at table at) two.put two.taken two.put' two.taken'
            (h.covered at two.put two.taken two.one) (h.covered at two.put' two.taken' two.other) e.1)
        by_case e (runs_off_the_end put taken w goes last) = stays_within (seen_at table at) put taken (h.covered at put taken w) e.1 goes last

-- ---- the first bad place

module _ (functions : ℕ) (f : Function) where
  abbrev pub AreGoodPlaces : ℕ → Type 0
  AreGoodPlaces at = (before : ℕ) → before < at → IsBadAt functions f before → ⊥

  -- what the test at a place says
  abbrev Tests : List Seen → ℕ → Bool → Type 0
  Tests table at b =
      (op : Op) → slice_get f.ops at ≡ Some op
      → b ≡ (names_nothing functions f op || is_misplaced (seen_at table at) op (nat_eq (at + 1) (length f.ops)))

  no_op : (at : ℕ) → ((x : Op) × (at < length f.ops) × (slice_get f.ops at ≡ Some x) × (get_or f.ops at x ≡ x))
      ⊎ ((length f.ops ≤ at) × (slice_get f.ops at ≡ None))
      → slice_get f.ops at ≡ None → at < length f.ops → ⊥
  no_op at (inl x) is within = none-some x.0 (sym is ∙ x.2)
  no_op at (inr l) is within = omega (arith, l.0, within)

  pub is_first : (table : List Seen) (at : ℕ) (b : Bool) → AreHeights f.ops table → at < length f.ops → Tests table at b → b ≡ true → AreGoodPlaces at
      → IsFirstBadAt functions f at
  is_first table at b h within tests e before = by_op (slice_get f.ops at) refl
    where
      by_op : (o : Option Op) → slice_get f.ops at ≡ o → IsFirstBadAt functions f at
      by_op None is = absurd (no_op at (slice_get_cases f.ops at).1 is within)
      by_op (Some op) is = record {
        bad = has_a_bad_op op is (bad functions f at op table h (sym (tests op is) ∙ e));
        first = before;
      }

  module _ (slots : f.params ≤ f.slots) (some : f.ops ≡ [] → ⊥) where
    good_at : (table : List Seen) (at : ℕ) (b : Bool) → AreHeights f.ops table → Tests table at b → b ≡ false → IsBadAt functions f at → ⊥
    good_at table at b h tests e (has_too_few_slots less) = omega arith
    good_at table at b h tests e (has_no_ops none) = some none
    good_at table at b h tests e (has_a_bad_op op is is_bad) = not_bad functions f at op table h (sym (tests op is) ∙ e) is_bad

    pub one_more : (table : List Seen) (at : ℕ) (b : Bool) → AreHeights f.ops table → Tests table at b → b ≡ false → AreGoodPlaces at → AreGoodPlaces (at + 1)
    one_more table at b h tests e before i less is_bad = by_place (cases_eq i at)
      where
        by_place : (i ≡ at) ⊎ (i ≡ at → ⊥) → ⊥
        by_place (inl same) = good_at table at b h tests e (subst (λ k. IsBadAt functions f k) same is_bad)
        by_place (inr apart) = before i (omega (arith, apart)) is_bad

    pub all_good : (at : ℕ) → length f.ops ≤ at → AreGoodPlaces at → IsGood functions f
    all_good at beyond before i (has_too_few_slots less) = omega arith
    all_good at beyond before i (has_no_ops none) = some none
    all_good at beyond before i (has_a_bad_op op is is_bad) = before i (omega (arith, slice_get_within f.ops i op is)) (has_a_bad_op op is is_bad)

-- ---- the first bad function

module _ (functions : List Function) (number : ℕ) (f : Function) where
  pub bad_here : (bad : Option ℕ) (at : ℕ) → number < length functions → f ≡ get_or functions number f
      → MatchOption bad (IsGood (length functions) f) (IsFirstBadAt (length functions) f) → bad ≡ Some at → AreGoodBefore functions number
      → IsFirstBad functions number at
  bad_here bad at within is found same before =
      bad_function f (slice_get_read functions (length functions) number f refl within is)
      (MatchOption-at_some (IsGood (length functions) f) (IsFirstBadAt (length functions) f) at same found) before

  pub one_more_good : (bad : Option ℕ) → number < length functions → f ≡ get_or functions number f
      → MatchOption bad (IsGood (length functions) f) (IsFirstBadAt (length functions) f) → bad ≡ None → AreGoodBefore functions number
      → AreGoodBefore functions (number + 1)
  one_more_good bad within is found none before i g less there = by_place (cases_eq i number)
    where
      same : i ≡ number → f ≡ g
      same e = same_Some f g (sym (slice_get_read functions (length functions) number f refl within is) ∙ sym (ap (λ k. slice_get functions k) e) ∙ there)

      by_place : (i ≡ number) ⊎ (i ≡ number → ⊥) → IsGood (length functions) g
      by_place (inl e) = subst (λ x. IsGood (length functions) x) (same e)
          (MatchOption-at_none (IsGood (length functions) f) (IsFirstBadAt (length functions) f) none found)
      by_place (inr apart) = before i g (omega (arith, apart)) there
