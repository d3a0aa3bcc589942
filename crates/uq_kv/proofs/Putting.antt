-- Changes of the map in the pages, and the header on page 0.
use Rattle.std.proofs.Common.{◌≡◌, ℕ, ◌≤◌, true, false, List, ◌++◌, length, Option, Some, None, inr, refl, sym, ap, subst, ◌∙◌, arith}
use Rattle.std.specs.Prelude.{IfNone, is_some, slice_set}
use Rattle.std.specs.Option.{ForSome, option_map}
use Rattle.std.specs.Ordering.{nat_cmp}
use Rattle.std.specs.Cmp.Lexicographic.{slice_cmp}
use Rattle.std.specs.FinMap.{contains_key, empty, get, get-empty, insert, remove}
use Rattle.uq_page.specs.declared.header.Header.{Header}
use Rattle.uq_hash.specs.Laws.{ApartFromHeader, SumsOfRemove}
use Rattle.uq_hash.specs.Looks.{len_or_none, value_or_none}
use Rattle.uq_hash.specs.Map.{HoldsMap, IsCreated, WhereHeld}
use Rattle.uq_pager.specs.Lists.{get_set_here}
use Rattle.uq_kv.specs.Database.{WhereKept}
use Rattle.uq_kv.specs.Stored.{IsWithinLimits, Stored}
use Rattle.uq_kv.specs.Writing.{AreDatabase, HasHead, HoldsNow, added}
use Rattle.uq_kv.proofs.Databases.{no_keys, of_held}

pub told_some : (o : Option (List (List ℕ))) → is_some o ≡ true → (pages : List (List ℕ)) × (o ≡ Some pages)
told_some None is = absurd (cc)
told_some (Some pages) is = (pages, refl)

-- the header stands on page 0, at which a map does not look
pub headed : ApartFromHeader → (after now : Option (List (List ℕ))) (new : Header) (m : Stored) (size : ℕ) → ForSome after (λ pages. size ≡ length pages) → 1 ≤ size
    → HoldsNow after new m → HasHead after now new → IsWithinLimits m → AreDatabase now new m
headed apart after now new m size size_is some holds head within =
    let long = size_is holds.pages holds.is_told in
    record {
      pages = slice_set holds.pages 0 head.head;
      is_told = head.is ∙ ap (option_map (λ ps. slice_set ps 0 head.head)) holds.is_told;
      database = inr (record {
        head = record { page = head.head; first = get_set_here holds.pages 0 head.head (omega arith); fields = head.fields };
        map = apart holds.pages new m head.head holds.map;
        limits = within;
      });
    }

module _ (told : Option (List (List ℕ))) (header : Header) (size : ℕ) (size_is : ForSome told (λ pages. size ≡ length pages)) where
  -- a change of the pages that there are
  pub changed_now : (F : Stored → Stored) (after : Option (List (List ℕ))) (new : Header) → 1 ≤ size → WhereHeld told header (λ m. ForSome after (λ pages. HoldsMap pages new (F m))) → is_some after ≡ is_some told
      → WhereKept told header (λ stored. HoldsNow after new (F stored))
  changed_now F after new some changes still =
      of_held told header size size_is (λ stored. HoldsNow after new (F stored)) some (λ pages on m map.
      let there = told_some after (still ∙ ap is_some on) in
      record { pages = there.0; is_told = there.1; map = changes pages on m map there.0 there.1 })

  -- and of the first ones
  pub made_now : (F G : Stored → Stored) (mid after : Option (List (List ℕ))) (first new : Header) → size ≡ 0 → F empty ≡ G empty → IsCreated told mid first
      → WhereHeld mid first (λ m. ForSome after (λ pages. HoldsMap pages new (F m))) → is_some after ≡ is_some mid → WhereKept told header (λ stored. HoldsNow after new (G stored))
  made_now F G mid after first new none same created changes still pages on stored keeps =
      let long = size_is pages on in
      let is = no_keys header stored pages (omega arith) keeps in
      let middle = created.pages ∙ ap (option_map _) on in
      let held = created.holds _ middle in
      let there = told_some after (still ∙ ap is_some middle) in
      record { pages = there.0; is_told = there.1; map = subst (λ (m : Stored). HoldsMap there.0 new m) (same ∙ ap G (sym is)) (changes _ middle empty held there.0 there.1) }

-- behind no data the bytes are the data
pub added_empty : (key more : List ℕ) → insert empty key more ≡ added empty key more
added_empty key more = ap (λ (old : Option (List ℕ)). insert empty key (value_or_none old ++ more)) (sym (get-empty (slice_cmp nat_cmp) key))

-- an entry less is within the limits where all were
pub less_within : SumsOfRemove → (m : Stored) (key : List ℕ) → contains_key m key ≡ true → IsWithinLimits m → IsWithinLimits (remove m key)
less_within law m key there within = by_old (get m key) refl there
  where
    by_old : (old : Option (List ℕ)) → get m key ≡ old → is_some old ≡ true → IsWithinLimits (remove m key)
    by_old None is there = absurd (cc)
    by_old (Some value) is there =
        let sums = law m key value is in
        let keys = sums.0 in
        let bytes = sums.1 in
        let entries_most = within.entries in
        let bytes_most = within.bytes in
        record { entries = omega arith; bytes = omega arith }

-- whether a key is there, by how long its data were found
pub found_none : (old : Option (List ℕ)) (len : Option ℕ) → len ≡ option_map length old → ((n : ℕ) → len ≡ Some n → ⊥) → is_some old ≡ false
found_none None len is none = refl
found_none (Some value) len is none = absurd (none (length value) is)

pub found_some : (old : Option (List ℕ)) (len : Option ℕ) (n : ℕ) → len ≡ option_map length old → len ≡ Some n → is_some old ≡ true
found_some None len n is some = let other : ◌≡◌ {A = Option ℕ} None (Some n) = sym is ∙ some in absurd (cc)
found_some (Some value) len n is some = refl

-- and how long they are
pub old_long : (old : Option (List ℕ)) (len : Option ℕ) → len ≡ option_map length old → len_or_none len ≡ length (value_or_none old)
old_long None len is = ap len_or_none is
old_long (Some value) len is = ap len_or_none is

pub too_long : {X : Type 0} {A : Type 0} (o : Option X) → IfNone o A → ((x : X) → o ≡ Some x → ⊥) → A
too_long None is none = is
too_long (Some x) is none = absurd (none x refl)

pub some_long : (old : Option (List ℕ)) → is_some (option_map length old) ≡ is_some old
some_long None = refl
some_long (Some value) = refl
