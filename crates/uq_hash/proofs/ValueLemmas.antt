-- The value of a cell.
use Rattle.std.proofs.Common.{◌≡◌, ◌⊎◌, inl, inr, ℕ, ◌<◌, ◌≤◌, ◌^◌, true, false, cond, List, ◌++◌, length, Some, sym, ap, subst, ◌∙◌, arith}
use Rattle.std.specs.Prelude.{nat_le}
use Rattle.std.specs.Int.{w16, w32, to_be_bytes, from_be_bytes}
use Rattle.std.proofs.lemmas.Bool.{le-leb}
use Rattle.std.proofs.lemmas.Bool.Decides.{leb_tells}
use Rattle.std.proofs.lemmas.Nat.{from_be_bytes-to_be_bytes_4}
use Rattle.uq_page.specs.declared.layout.TheConstants.{MOST_INLINE}
use Rattle.uq_page.specs.Cell.{cell_lengths}
use Rattle.uq_chain.specs.Chain.{IsChain, pages_for}
use Rattle.uq_hash.specs.Looked.{IsEntry}
use Rattle.uq_hash.specs.Map.{Stored, cell, chain_pages, kept, first_of}

pub long_value : (n : ℕ) → MOST_INLINE < n → nat_le n MOST_INLINE ≡ false
long_value n more = by_test (leb_tells n MOST_INLINE)
  where
    by_test : ((nat_le n MOST_INLINE ≡ true) × (n ≤ MOST_INLINE)) ⊎ ((nat_le n MOST_INLINE ≡ false) × (MOST_INLINE < n)) → nat_le n MOST_INLINE ≡ false
    by_test (inl few) = let less = few.1 in absurd (omega arith)
    by_test (inr many) = many.0

pub same_four : (m n : ℕ) → m < 2 ^ 32 → n < 2 ^ 32 → to_be_bytes w32 m ≡ to_be_bytes w32 n → m ≡ n
same_four m n fits fits' same = sym (from_be_bytes-to_be_bytes_4 m fits) ∙ ap (from_be_bytes w32) same ∙ from_be_bytes-to_be_bytes_4 n fits'

pub kept_long : (it : Stored) → MOST_INLINE < length it.value → kept it ≡ to_be_bytes w32 (first_of it.row)
kept_long it more = ap (λ b. cond b it.value (to_be_bytes w32 (first_of it.row))) (long_value (length it.value) more)

pub kept_short : (it : Stored) → length it.value ≤ MOST_INLINE → kept it ≡ it.value
kept_short it few = ap (λ b. cond b it.value (to_be_bytes w32 (first_of it.row))) (le-leb (length it.value) MOST_INLINE few)

-- the first page of a chain is the one that the cell names
pub first_is : (pages : List (List ℕ)) (it : Stored) (len first : ℕ) → first < 2 ^ 32 → MOST_INLINE < len → IsEntry pages it len (to_be_bytes w32 first) → first ≡ first_of it.row
first_is pages it len first fits long is =
    let same = is.long in
    same_four first (first_of it.row) fits is.stored.first (is.bytes_are ∙ kept_long it (omega arith))

-- where the cell names a chain, the value stands there
pub chain_of : (pages : List (List ℕ)) (it : Stored) (len first : ℕ) → first < 2 ^ 32 → MOST_INLINE < len → IsEntry pages it len (to_be_bytes w32 first) → IsChain pages first it.row it.value
chain_of pages it len first fits long is =
    let same = is.long in
    subst (λ (n : ℕ). IsChain pages n it.row it.value) (sym (first_is pages it len first fits long is)) (is.has.chained (omega arith))

pub chain_pages_long : (value : List ℕ) → MOST_INLINE < length value → chain_pages (Some value) ≡ pages_for (length value)
chain_pages_long value more = ap (λ b. cond b 0 (pages_for (length value))) (long_value (length value) more)

-- the bytes of a cell with this in place of its value
pub cell_of : (it : Stored) (bytes : List ℕ) → kept it ≡ bytes → cell it ≡ ((to_be_bytes w16 (length it.key) ++ to_be_bytes w32 (length it.value)) ++ it.key) ++ bytes
unfolding cell cell_lengths
cell_of it bytes is = ap (λ xs. ((to_be_bytes w16 (length it.key) ++ to_be_bytes w32 (length it.value)) ++ it.key) ++ xs) is
