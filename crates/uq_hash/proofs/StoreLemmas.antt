-- Values put where they should stand, and given up.
use Rattle.std.proofs.Common.{◌≡◌, ℕ, ◌<◌, ◌≤◌, List, [], ◌∷◌, length, refl, sym, ap, subst, ◌∙◌, arith, append-nil}
use Rattle.std.proofs.Common.{Bor}
use Rattle.uq_page.specs.declared.layout.TheConstants.{MOST_INLINE}
use Rattle.uq_page.specs.Cell.{IsKept, kept_bytes}
use Rattle.uq_page.specs.declared.cell.CellValue.{CellValue}
use Rattle.uq_page.specs.declared.cell.CellValue.TheVariants.{Inline}
use Rattle.uq_chain.specs.Chain.{IsChain, IsWritten}
use Rattle.uq_chain.specs.FreeList.{IsFreeList, Turned}
use Rattle.uq_chain.specs.TurnLaws.{turned_none}
use Rattle.uq_hash.specs.Changed.{AreOld, StoresValue}
use Rattle.uq_hash.specs.Looked.{IsEntry}
use Rattle.uq_hash.specs.declared.searching.Standing.TheVariants.{Cell as AtCell, Nothing}
use Rattle.uq_page.specs.declared.cell.Cell.{Cell}
use Rattle.uq_hash.specs.Map.{HasValue, Stored, first_of, value_pages}

-- a short value stands in its cell
pub stores_short : (before after : List (List ℕ)) (head : ℕ) (free key value : List ℕ) → before ≡ after → length value ≤ MOST_INLINE → IsFreeList before head free → StoresValue before after head free 0 key value
stores_short before after head free key value same few list =
    subst (λ (pages : List (List ℕ)). StoresValue before pages head free 0 key value) same (record {
      row = [];
      first_is = refl;
      has = record { inline = λ less. refl; chained = λ more. absurd (omega arith) };
      turned = turned_none before head free list;
    })

pub chain_first : (pages : List (List ℕ)) (first : ℕ) (row bytes : List ℕ) → IsChain pages first row bytes → first ≡ first_of row
chain_first pages first [] bytes is = is.linked
chain_first pages first (n ∷ row) bytes is = is.linked.is

-- and a long one in its chain
pub stores_long : (before after : List (List ℕ)) (head : ℕ) (free : List ℕ) (first : ℕ) (key value : List ℕ) → MOST_INLINE < length value → IsWritten before after head free first value → StoresValue before after head free first key value
stores_long before after head free first key value more is =
    let first_is = chain_first after first is.row value is.chain in
    record {
      row = is.row;
      first_is = first_is;
      has = record { inline = λ less. absurd (omega arith); chained = λ long. subst (λ (n : ℕ). IsChain after n is.row value) first_is is.chain };
      turned = is.turned;
    }

-- a short value has no pages
pub dropped_short : (before after : List (List ℕ)) (head : ℕ) (free : List ℕ) (it : Stored) (len : ℕ) → before ≡ after → len ≤ MOST_INLINE → len ≡ length it.value → HasValue before it → IsFreeList before head free → Turned before after head free it.row []
dropped_short before after head free it len same few long has list =
    let none : it.row ≡ [] = has.inline (omega arith) in
    subst (λ (pages : List (List ℕ)). Turned before pages head free it.row []) same (subst (λ (row : List ℕ). Turned before before head free row []) (sym none) (turned_none before head free list))

-- a value in its cell is short
pub inline_few : (len : ℕ) (value : CellValue) {bytes : Bor (List ℕ)} → value ≡ Inline bytes → IsKept len value → len ≤ MOST_INLINE
inline_few len value is kept = (subst (IsKept len) is kept).0

-- the one entry whose cell stood there
pub record OldEntry (pages : List (List ℕ)) (olds : List Stored) (seen : Cell) : Type 0 where
  pub it : Stored
  pub olds_are : olds ≡ it ∷ []
  pub is : IsEntry pages it seen.len (kept_bytes seen.value)

pub old_entry : (pages : List (List ℕ)) (olds : List Stored) (seen : Cell) → AreOld pages olds (AtCell seen) → OldEntry pages olds seen
old_entry pages [] seen are = absurd are
old_entry pages (it ∷ []) seen are = record { it = it; olds_are = refl; is = are }
old_entry pages (it ∷ next ∷ more) seen are = absurd are

pub old_dropped : (before after : List (List ℕ)) (head : ℕ) (free : List ℕ) (olds : List Stored) (seen : Cell) (one : OldEntry before olds seen) → Turned before after head free one.it.row [] → Turned before after head free (value_pages olds) []
old_dropped before after head free olds seen one turned =
    subst (λ (row : List ℕ). Turned before after head free row []) (sym (ap value_pages one.olds_are ∙ append-nil one.it.row)) turned

pub old_none : (before after : List (List ℕ)) (head : ℕ) (free : List ℕ) (olds : List Stored) → AreOld before olds Nothing → before ≡ after → IsFreeList before head free → Turned before after head free (value_pages olds) []
old_none before after head free [] are same list = subst (λ (pages : List (List ℕ)). Turned before pages head free [] []) same (turned_none before head free list)
old_none before after head free (it ∷ []) are same list = absurd are
old_none before after head free (it ∷ next ∷ more) are same list = absurd are
