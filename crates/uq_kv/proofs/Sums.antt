-- The sums of what is stored, after a write.
use Rattle.std.proofs.Common.{◌≡◌, ◌⊎◌, inl, inr, ⊎_elim, ℕ, ◌+◌, ◌-◌, ◌≤◌, Bool, true, false, ◌&&◌, List, [], length, Option, Some, None, refl, sym, ap, ◌∙◌, arith}
use Rattle.std.specs.Prelude.{sum_by, nat_lt, ◌||◌}
use Rattle.std.specs.Option.{option_map}
use Rattle.std.specs.FinMap.{get, insert, len}
use Rattle.std.proofs.lemmas.Bool.{ltb-false}
use Rattle.std.proofs.lemmas.List.Sums.{sum_by-cons}
use Rattle.uq_hash.specs.Laws.{SumsOfInsert, entry_of}
use Rattle.uq_hash.specs.Map.{bytes_in, entry_len}
use Rattle.uq_model.specs.Full.{is_full, is_over}
use Rattle.uq_model.specs.declared.limits.Limits.{Limits}
use Rattle.uq_model.specs.declared.limits.TheConstants.{MOST_BYTES, MOST_ENTRIES}
use Rattle.uq_kv.specs.Stored.{IsWithinLimits, Stored, sums_of}
use Rattle.uq_kv.specs.Writing.{AreAfter, IsBefore, sums_in}
use Rattle.uq_kv.specs.declared.writing.Before.{Before}
use Rattle.uq_kv.specs.declared.writing.Totals.{Totals}

module _ (law : SumsOfInsert) where
  -- where the key was not there
  added : (m : Stored) (key value : List ℕ) → get m key ≡ None → (len (insert m key value) ≡ len m + 1) × (bytes_in (insert m key value) ≡ bytes_in m + (length key + length value))
  added m key value none =
      let no_entry : length (entry_of key (get m key)) ≡ 0 = ap (λ (o : Option (List ℕ)). length (entry_of key o)) none in
      let no_bytes : sum_by entry_len (entry_of key (get m key)) ≡ 0 = ap (λ (o : Option (List ℕ)). sum_by entry_len (entry_of key o)) none in
      let now = law m key value in
      (omega (arith, now.0), omega (arith, now.1))

  -- where it was
  replaced : (m : Stored) (key value old : List ℕ) → get m key ≡ Some old → (len (insert m key value) ≡ len m) × (bytes_in (insert m key value) + length old ≡ bytes_in m + length value)
  replaced m key value old some =
      let one_entry : length (entry_of key (get m key)) ≡ 1 = ap (λ (o : Option (List ℕ)). length (entry_of key o)) some in
      let its_bytes : sum_by entry_len (entry_of key (get m key)) ≡ (length key + length old) + 0 = ap (λ (o : Option (List ℕ)). sum_by entry_len (entry_of key o)) some ∙ sum_by-cons entry_len (key, old) [] in
      let now = law m key value in
      (omega (arith, now.0), omega (arith, now.1))

-- ---- what the code counts

none_found : (found : Option (List ℕ)) (n : Option ℕ) → n ≡ None → n ≡ option_map length found → found ≡ None
none_found None n none is = refl
none_found (Some old) n none is = absurd (cc)

some_found : (found : Option (List ℕ)) (n : Option ℕ) (len : ℕ) → n ≡ Some len → n ≡ option_map length found → (old : List ℕ) × (found ≡ Some old) × (length old ≡ len)
some_found None n len some is = absurd (cc)
some_found (Some old) n len some is = (old, refl, cc)

module _ (law : SumsOfInsert) (it : Stored) (key value : List ℕ) (before : Before) (is : IsBefore it key before) where
  pub after_added : (key_len value_len : ℕ) → before.old_len ≡ None → key_len ≡ length key → value_len ≡ length value
      → AreAfter it key value (record { entries = before.totals.entries + 1; bytes = before.totals.bytes + (key_len + value_len) })
  after_added key_len value_len none key_is value_is =
      let both = added law it key value (none_found (get it key) before.old_len none is.old) in
      record { entries = omega (arith, both.0, is.entries); bytes = omega (arith, both.1, is.bytes) }

  pub after_replaced : (old_len rest value_len : ℕ) → before.old_len ≡ Some old_len → old_len ≤ before.totals.bytes → rest ≡ before.totals.bytes - old_len → value_len ≡ length value
      → AreAfter it key value (record { entries = before.totals.entries; bytes = rest + value_len })
  after_replaced old_len rest value_len some le rest_is value_is =
      let found = some_found (get it key) before.old_len old_len some is.old in
      let both = replaced law it key value found.0 found.1 in
      record { entries = omega (arith, both.0, is.entries); bytes = omega (arith, both.1, is.bytes, found.2) }

-- the old data are among the bytes
pub enough : SumsOfInsert → (it : Stored) (key : List ℕ) (before : Before) → IsBefore it key before → (old_len : ℕ) → before.old_len ≡ Some old_len → old_len ≤ before.totals.bytes
enough law it key before is old_len some =
    let found = some_found (get it key) before.old_len old_len some is.old in
    let both = replaced law it key [] found.0 found.1 in
    omega (arith, both.1, is.bytes, found.2)

-- whether a write is too much, by what the code counts
pub full_is : (limits : Limits) (stored : Stored) (key value : List ℕ) (before : Before) (after : Totals) → IsBefore stored key before → AreAfter stored key value after
    → is_full limits (sums_of stored) (sums_of (insert stored key value)) ≡ is_full limits (sums_in before.totals) (sums_in after)
full_is limits stored key value before after is_before is_after =
    let old_sums : sums_of stored ≡ sums_in before.totals = λ i. record { entries = sym is_before.entries i; bytes = sym is_before.bytes i } in
    let new_sums : sums_of (insert stored key value) ≡ sums_in after = λ i. record { entries = sym is_after.entries i; bytes = sym is_after.bytes i } in
    λ i. is_full limits (old_sums i) (new_sums i)

-- ---- a write that is not too much leaves a store within the greatest limits

neither : (a b : Bool) → (a || b) ≡ false → (a ≡ false) × (b ≡ false)
neither true b is = absurd (cc)
neither false b is = (refl, is)

not_both : (a b : Bool) → (a && b) ≡ false → (a ≡ false) ⊎ (b ≡ false)
not_both true b is = inr is
not_both false b is = inl refl

-- a sum is not greater than before, or not greater than its limit
kept_below : (limit before after most : ℕ) → is_over limit before after ≡ false → limit ≤ most → before ≤ most → after ≤ most
kept_below limit before after most is limit_most before_most = ⊎_elim
    (λ (no_more : nat_lt before after ≡ false). let le = ltb-false before after no_more in omega arith)
    (λ (fits : nat_lt limit after ≡ false). let le = ltb-false limit after fits in omega arith)
    (not_both (nat_lt before after) (nat_lt limit after) is)

pub still_within : (limits : Limits) (stored : Stored) (key value : List ℕ) → limits.entries ≤ MOST_ENTRIES → limits.bytes ≤ MOST_BYTES → IsWithinLimits stored
    → is_full limits (sums_of stored) (sums_of (insert stored key value)) ≡ false → IsWithinLimits (insert stored key value)
still_within limits stored key value entries_most bytes_most within not_full =
    let each = neither (is_over limits.entries (len stored) (len (insert stored key value))) (is_over limits.bytes (bytes_in stored) (bytes_in (insert stored key value))) not_full in
    record {
      entries = kept_below limits.entries (len stored) (len (insert stored key value)) MOST_ENTRIES each.0 entries_most within.entries;
      bytes = kept_below limits.bytes (bytes_in stored) (bytes_in (insert stored key value)) MOST_BYTES each.1 bytes_most within.bytes;
    }
