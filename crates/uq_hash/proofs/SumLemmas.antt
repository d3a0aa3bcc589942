-- The sums in the header after a change.
use Rattle.std.proofs.Common.{◌≡◌, ℕ, ◌+◌, ◌≤◌, Bool, true, false, cond, List, [], length, Option, None, Some, refl, sym, ap, ◌∙◌, arith}
use Rattle.std.specs.Prelude.{sum_by}
use Rattle.std.specs.Ordering.{eq_by_cmp, is_eq, nat_cmp}
use Rattle.std.specs.Cmp.{Equal-is, tied_itself}
use Rattle.std.specs.Cmp.Lexicographic.{nat_list_cmp_total, slice_cmp}
use Rattle.std.specs.FinMap.{get, get-insert, get-remove, insert, len, remove, same_map}
use Rattle.std.proofs.lemmas.List.Sums.{sum_by-cons}
use Rattle.uq_page.specs.declared.header.Header.{Header}
use Rattle.uq_hash.specs.declared.searching.Standing.{Standing}
use Rattle.uq_hash.specs.declared.searching.Standing.TheVariants.{Cell as AtCell, Nothing}
use Rattle.uq_hash.specs.Laws.{entry_of}
use Rattle.uq_hash.specs.Map.{HasSums, Map, bytes_in, entry_len}
use Rattle.uq_hash.specs.Recounted.{Discounts, Recounts, gone_bytes, gone_keys}
use Rattle.uq_hash.proofs.LawLemmas.{sums_by_insert}
use Rattle.uq_hash.proofs.WalkLemmas.{bytes_same}

-- what stood there is the cell of this value, or nothing where there is none
abbrev pub IsOldOf : Standing → Option (List ℕ) → Type 0
IsOldOf (AtCell seen) None = ⊥
IsOldOf (AtCell seen) (Some value) = seen.len ≡ length value
IsOldOf Nothing None = Unit {0}
IsOldOf Nothing (Some value) = ⊥

gone : (standing : Standing) (key : List ℕ) (old : Option (List ℕ)) → IsOldOf standing old → (length (entry_of key old) ≡ gone_keys standing) × (sum_by entry_len (entry_of key old) ≡ gone_bytes (length key) standing)
gone (AtCell seen) key None is = absurd is
gone (AtCell seen) key (Some value) is = (refl, let one = sum_by-cons entry_len (key, value) [] in omega arith)
gone Nothing key None is = (refl, refl)
gone Nothing key (Some value) is = absurd is

-- the sums of a map without a key
pub sums_by_remove : (m : Map) (key value : List ℕ) → get m key ≡ Some value → (len (remove m key) + 1 ≡ len m) × (bytes_in (remove m key) + (length key + length value) ≡ bytes_in m)
sums_by_remove m key value is =
    let less = remove m key in
    let none : get less key ≡ None = get-remove nat_list_cmp_total m key key ∙ ap (λ r. cond (is_eq r) None (get m key)) (tied_itself nat_list_cmp_total key) in
    let back : insert less key value ≡ m = same_map nat_list_cmp_total bytes_same (insert less key value) m (λ q. get-insert nat_list_cmp_total less key value q ∙ at q (eq_by_cmp (slice_cmp nat_cmp) q key) refl) in
    let laws = sums_by_insert less key value in
    let keys_law = laws.0 in
    let bytes_law = laws.1 in
    let no_key : length (entry_of key (get less key)) ≡ 0 = ap (λ (o : Option (List ℕ)). length (entry_of key o)) none in
    let no_bytes : sum_by entry_len (entry_of key (get less key)) ≡ 0 = ap (λ (o : Option (List ℕ)). sum_by entry_len (entry_of key o)) none in
    let keys_back = ap len back in
    let bytes_back = ap bytes_in back in
    (omega arith, omega arith)
  where
    at : (q : List ℕ) (b : Bool) → eq_by_cmp (slice_cmp nat_cmp) q key ≡ b → cond (eq_by_cmp (slice_cmp nat_cmp) q key) (Some value) (get (remove m key) q) ≡ get m q
    at q true tied =
        ap (λ b. cond b (Some value) (get (remove m key) q)) tied ∙ sym is ∙ ap (get m) (sym (bytes_same q key ((Equal-is (slice_cmp nat_cmp q key)).0 tied)))
    at q false apart =
        ap (λ b. cond b (Some value) (get (remove m key) q)) apart ∙ get-remove nat_list_cmp_total m key q ∙ ap (λ b. cond b None (get m q)) apart

-- a map without a key that it does not have is the same
pub remove_absent : (m : Map) (key : List ℕ) → get m key ≡ None → remove m key ≡ m
remove_absent m key is = same_map nat_list_cmp_total bytes_same (remove m key) m (λ q. get-remove nat_list_cmp_total m key q ∙ at q (eq_by_cmp (slice_cmp nat_cmp) q key) refl)
  where
    at : (q : List ℕ) (b : Bool) → eq_by_cmp (slice_cmp nat_cmp) q key ≡ b → cond (eq_by_cmp (slice_cmp nat_cmp) q key) None (get m q) ≡ get m q
    at q true tied = ap (λ b. cond b None (get m q)) tied ∙ sym is ∙ ap (get m) (sym (bytes_same q key ((Equal-is (slice_cmp nat_cmp q key)).0 tied)))
    at q false apart = ap (λ b. cond b None (get m q)) apart

-- the sums stay where the header's do
pub sums_on : (header now : Header) (m : Map) → now.entries ≡ header.entries → now.bytes ≡ header.bytes → HasSums header m → HasSums now m
sums_on header now m keys bytes sums = record { keys = keys ∙ sums.keys; bytes = bytes ∙ sums.bytes }

pub sums_after : (header new : Header) (m : Map) (key value : List ℕ) (standing : Standing) → IsOldOf standing (get m key) → HasSums header m → Recounts header new (length key) (length value) standing → HasSums new (insert m key value)
sums_after header new m key value standing is sums counts =
    let laws = sums_by_insert m key value in
    let keys_law = laws.0 in
    let bytes_law = laws.1 in
    let went = gone standing key (get m key) is in
    let keys_gone = went.0 in
    let bytes_gone = went.1 in
    let keys_were = sums.keys in
    let bytes_were = sums.bytes in
    let keys_now = counts.keys in
    let bytes_now = counts.bytes in
    record { keys = omega arith; bytes = omega arith }

-- what stood there is counted
pub counted : (header : Header) (m : Map) (key : List ℕ) (standing : Standing) → IsOldOf standing (get m key) → HasSums header m → (gone_keys standing ≤ header.entries) × (gone_bytes (length key) standing ≤ header.bytes)
counted header m key standing is sums = by_old (get m key) refl is
  where
    by_old : (old : Option (List ℕ)) → get m key ≡ old → IsOldOf standing old → (gone_keys standing ≤ header.entries) × (gone_bytes (length key) standing ≤ header.bytes)
    by_old None none is =
        let went = gone standing key None is in
        let keys_gone = went.0 in
        let bytes_gone = went.1 in
        (omega arith, omega arith)
    by_old (Some value) some is =
        let went = gone standing key (Some value) is in
        let keys_gone = went.0 in
        let bytes_gone = went.1 in
        let one = sum_by-cons entry_len (key, value) [] in
        let laws = sums_by_remove m key value some in
        let keys_law = laws.0 in
        let bytes_law = laws.1 in
        let keys_were = sums.keys in
        let bytes_were = sums.bytes in
        (omega arith, omega arith)

pub sums_without : (header new : Header) (m : Map) (key value : List ℕ) → get m key ≡ Some value → HasSums header m → Discounts header new (length key) (length value) → HasSums new (remove m key)
sums_without header new m key value is sums counts =
    let laws = sums_by_remove m key value is in
    let keys_law = laws.0 in
    let bytes_law = laws.1 in
    let keys_were = sums.keys in
    let bytes_were = sums.bytes in
    let keys_now = counts.keys in
    let bytes_now = counts.bytes in
    record { keys = omega arith; bytes = omega arith }
