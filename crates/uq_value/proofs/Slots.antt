-- Slots of a table, what a look at a row says, and what becomes of an index to which a name comes.
use Rattle.std.proofs.Common.{◌≡◌, ◌<◌, ◌≤◌, ◌+◌, ◌-◌, ◌/◌, ℕ, refl, ap, sym, ◌∙◌, arith, subst, Bool, true, false, List, [], ◌∷◌, ◌++◌, length, length-append, length-set, get_or, set, nat_lt, nat_eq, ◌⊎◌, inl, inr}
use Rattle.std.proofs.Math.ListN.{get_or-append}
use Rattle.std.proofs.Math.Seq.{get_or-append_seam}
use Rattle.std.proofs.lemmas.List.{get_or-set_other}
use Rattle.std.proofs.lemmas.Grind.{get_or-set_at}
use Rattle.std.proofs.lemmas.Nat.{and_le_r}
use Rattle.std.proofs.lemmas.Bool.Decides.{nat_tests}
use Rattle.uq_value.specs.Data.{Bytes, IsDistinct}
use Rattle.uq_value.specs.Places.{place_of}
use Rattle.uq_value.specs.Internal.NameOrder.{key}
use Rattle.uq_value.specs.Internal.Names.{IsFound}
use Rattle.uq_value.specs.Internal.Blocks.{Blocks, entries, HasKey, Enters, SameEntries}
use Rattle.uq_value.specs.Internal.Table.{no_place, free_slot, slot_at, mark_of, row, InRow, HasSlot, IsFree, IsFull, AreWithin, HasNone}
use Rattle.uq_value.specs.Internal.Index.{IsHeld, IsIndex}
use Rattle.uq_value.specs.declared.table.Slot.{Slot}
use Rattle.uq_value.proofs.Rows.{any-default}
use Rattle.uq_value.proofs.NamePlaces.{place-at, place-none}
use Rattle.uq_value.proofs.Edits.{has-same, sorted-more, kept, no-blocks}

-- what holds below a number, and of it
pub one-more : (P : ℕ → Type 0) (n i : ℕ) → (i < n → P i) → P n → i < n + 1 → P i
one-more P n i below here h = split (nat_lt i n) refl
  where
    split : (b : Bool) → nat_lt i n ≡ b → P i
    split true e = below (grind (arith, nat_tests))
    split false e = subst P (grind (arith, nat_tests)) here

pub slot-is : (slots : List Slot) (i : ℕ) (s : Slot) → s ≡ get_or slots i s → i < length slots → slot_at slots i ≡ s
slot-is slots i s e h = any-default slots i free_slot s h ∙ sym e

-- the place in a slot is that of a member, which is found there
pub place-within : (ns : List Bytes) (slots : List Slot) (i : ℕ) (s : Slot) → AreWithin (length ns) slots → slot_at slots i ≡ s → s.at < no_place → s.at < length ns
place-within ns slots i s w e h = subst (λ x. x.at < length ns) e (w i (subst (λ x. x.at < no_place) (sym e) h))

pub seen : (ns : List Bytes) (name : Bytes) (at : ℕ) → IsDistinct ns → at < length ns → get_or ns at [] ≡ name → IsFound ns name at
seen ns name at d h n = record { within = h; place = place-at ns name at d h n }

-- a row lies within the slots
pub row-inside : (n m : ℕ) → 8 ≤ n → row n m + 8 ≤ n
unfolding row
row-inside n m h = omega (arith, h, and_le_r m (n / 8 - 1))

pub free-inside : (slots : List Slot) (m i : ℕ) → 8 ≤ length slots → IsFree slots m i → i < length slots
free-inside slots m i h f = omega (arith, f.inside.most, row-inside (length slots) m h)

same-row : (slots others : List Slot) (m i : ℕ) → length others ≡ length slots → InRow slots m i → InRow others m i
same-row slots others m i e r = record {
  least = subst (λ n. row n m ≤ i) (sym e) r.least;
  most = subst (λ n. i < row n m + 8) (sym e) r.most;
}

-- ---- a place comes into a slot that was free

module _ (slots : List Slot) (m at i : ℕ) (free : (slot_at slots i).at ≡ no_place) (h : i < length slots) (small : at < no_place) where
  abbrev now : List Slot
  now = set slots i (record { mark = m; at = at })

  now-long : length now ≡ length slots
  now-long = length-set slots i (record { mark = m; at = at })

  now-here : slot_at now i ≡ record { mark = m; at = at }
  now-here = get_or-set_at slots i i (record { mark = m; at = at }) free_slot refl h

  now-other : (j : ℕ) → (i ≡ j → ⊥) → slot_at now j ≡ slot_at slots j
  now-other j n = get_or-set_other slots i j (record { mark = m; at = at }) free_slot (λ e. n (sym e))

  now-below : (n j : ℕ) → (nat_eq i j ≡ false → (slot_at slots j).at < n) → at < n → (slot_at now j).at < n
  now-below n j old new = split (nat_eq i j) refl
    where
      split : (b : Bool) → nat_eq i j ≡ b → (slot_at now j).at < n
      split true e = let same : i ≡ j = grind (arith, nat_tests) in subst (λ k. (slot_at now k).at < n) same (subst (λ x. x.at < n) (sym now-here) new)
      split false e = subst (λ x. x.at < n) (sym (now-other j (grind (arith, nat_tests)))) (old e)

  now-has : (k q : ℕ) → HasSlot slots k q → HasSlot now k q
  now-has k q s =
      let apart : i ≡ s.i → ⊥ = λ e. omega (arith, free, s.at_is, s.small, ap (λ j. (slot_at slots j).at) e) in
      record {
        i = s.i;
        inside = same-row slots now k s.i now-long s.inside;
        mark_is = ap (λ x. x.mark) (now-other s.i apart) ∙ s.mark_is;
        at_is = ap (λ x. x.at) (now-other s.i apart) ∙ s.at_is;
        small = s.small;
      }

  now-full : (k : ℕ) → IsFull slots k → IsFull now k
  now-full k f = λ j r. now-below no_place j (λ e. f j (same-row now slots k j (sym now-long) r)) small

  now-new : InRow slots m i → HasSlot now m at
  now-new r = record { i = i; inside = same-row slots now m i now-long r; mark_is = ap (λ x. x.mark) now-here; at_is = ap (λ x. x.at) now-here; small = small }

-- ---- an index to which a name comes

module _ (ns : List Bytes) (slots : List Slot) (bs : Blocks) (name : Bytes) (x : IsIndex ns slots bs) where
  -- of all names, from what becomes of those that were there and of the last
  all-held : (others : List Slot) (more : Blocks) → ((at : ℕ) → at < length ns → IsHeld (ns ++ name ∷ []) others more (get_or ns at []) at) → IsHeld (ns ++ name ∷ []) others more name (length ns)
      → (at : ℕ) → at < length (ns ++ name ∷ []) → IsHeld (ns ++ name ∷ []) others more (get_or (ns ++ name ∷ []) at []) at
  all-held others more old new at h =
      one-more (λ j. IsHeld (ns ++ name ∷ []) others more (get_or (ns ++ name ∷ []) j []) j) (length ns) at
      (λ k. subst (λ n. IsHeld (ns ++ name ∷ []) others more n at) (sym (get_or-append ns (name ∷ []) [] at k)) (old at k))
      (subst (λ n. IsHeld (ns ++ name ∷ []) others more n (length ns)) (sym (get_or-append_seam ns name [] [])) new)
      (omega (arith, h, length-append ns (name ∷ [])))

  more-within : AreWithin (length (ns ++ name ∷ [])) slots
  more-within = λ i h. omega (arith, x.within i h, length-append ns (name ∷ []))

  pub filled : (i : ℕ) → IsFree slots (mark_of name) i → i < length slots → length ns < no_place → IsIndex (ns ++ name ∷ []) (set slots i (record { mark = mark_of name; at = length ns })) bs
  filled i f h small = record {
    long = omega (arith, x.long, length-set slots i (record { mark = mark_of name; at = length ns }));
    within = λ j k. now-below slots (mark_of name) (length ns) i f.free h small (length (ns ++ name ∷ [])) j
        (λ e. more-within j (subst (λ s. s.at < no_place) (now-other slots (mark_of name) (length ns) i f.free h small j (grind (arith, nat_tests))) k)) (omega (arith, length-append ns (name ∷ [])));
    sorted = sorted-more ns name bs x.sorted;
    complete = all-held (now slots (mark_of name) (length ns) i f.free h small) bs
        (λ at k. elim (x.complete at k) as (λ y. IsHeld (ns ++ name ∷ []) (now slots (mark_of name) (length ns) i f.free h small) bs (get_or ns at []) at) [
          | inl s ↦ inl (now-has slots (mark_of name) (length ns) i f.free h small (mark_of (get_or ns at [])) at s)
          | inr b ↦ inr (now-full slots (mark_of name) (length ns) i f.free h small (mark_of (get_or ns at [])) b.0, has-same ns name (key (get_or ns at [])) (entries bs) x.sorted.within b.1)
        ])
        (inl (now-new slots (mark_of name) (length ns) i f.free h small f.inside));
  }

  pub entered : (more : Blocks) → IsFull slots (mark_of name) → Enters ns name bs more → IsIndex (ns ++ name ∷ []) slots more
  entered more f e = record {
    long = x.long;
    within = more-within;
    sorted = e.sorted;
    complete = all-held slots more
        (λ at k. elim (x.complete at k) as (λ y. IsHeld (ns ++ name ∷ []) slots more (get_or ns at []) at)
        [ inl s ↦ inl s | inr b ↦ inr (b.0, e.keeps (key (get_or ns at [])) b.1) ])
        (inr (f, e.has));
  }

  -- a name that neither the row nor the blocks have is not among them
  pub missing : HasNone ns slots (mark_of name) name → (IsFull slots (mark_of name) × HasKey ns (key name) (entries bs) → ⊥) → place_of name ns ≡ length ns
  missing none lacks = place-none ns name (λ at h e. elim (x.complete at h) as (λ y. ⊥) [
    | inl s ↦ none at (subst (λ n. HasSlot slots (mark_of n) at) e s) e
    | inr b ↦ lacks (subst (λ n. IsFull slots (mark_of n)) e b.0, subst (λ n. HasKey ns (key n) (entries bs)) e b.1)
  ])

-- ---- an index in other words

pub same-index : (ns : List Bytes) (slots others : List Slot) (bs more : Blocks) → IsIndex ns slots bs → others ≡ slots → SameEntries bs more → IsIndex ns others more
same-index ns slots others bs more x s e = rw s (record {
  long = x.long;
  within = x.within;
  sorted = kept ns bs more x.sorted e;
  complete = λ at h. elim (x.complete at h) as (λ y. IsHeld ns slots more (get_or ns at []) at)
      [ inl k ↦ inl k | inr b ↦ inr (b.0, subst (λ es. HasKey ns (key (get_or ns at [])) es) (sym e.same) b.1) ];
})

pub no-names : (slots : List Slot) (bs : Blocks) → 8 ≤ length slots → AreWithin 0 slots → bs ≡ [] → IsIndex [] slots bs
no-names slots bs h w e = record { long = h; within = w; sorted = no-blocks [] bs e; complete = λ at k. absurd (omega (arith, k)) }
