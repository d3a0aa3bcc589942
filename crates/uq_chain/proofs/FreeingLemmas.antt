-- The pages of a chain given up one after another.
use Rattle.std.proofs.Common.{◌≡◌, ℕ, ◌-◌, ◌≤◌, List, [], ◌∷◌, ◌++◌, length, drop, Some, refl, sym, ap, subst, ◌∙◌, arith, append_assoc, append-nil}
use Rattle.std.specs.Prelude.{slice_get, min}
use Rattle.std.proofs.lemmas.List.{length-drop, nil_from_length}
use Rattle.uq_page.specs.declared.layout.TheConstants.{VALUE_ROOM}
use Rattle.uq_page.specs.ValuePage.{value_page, IsValueHead}
use Rattle.uq_page.specs.NextLaws.{value_not_free}
use Rattle.uq_page.specs.declared.value_page.ValueHead.{ValueHead}
use Rattle.uq_page.specs.Numbers.{times}
use Rattle.uq_chain.specs.FreeList.{IsFreeList, Turned, free_at}
use Rattle.uq_chain.specs.Chain.{IsChain, pieces}
use Rattle.uq_page.specs.NumberLaws.{times-append, times_other}
use Rattle.uq_page.specs.RowLaws.{kind_apart, row_within, rows_apart}
use Rattle.uq_chain.specs.TurnLaws.{turned_none, turned_then}
use Rattle.uq_chain.specs.ChainLaws.{reads, keeps_chain, take-value_page}
use Rattle.uq_chain.proofs.PartLemmas.{part_drop, rest_len}

-- a page that reads as one of a chain is not free
pub part_not_free : (pages : List (List ℕ)) (at : ℕ) (page : List ℕ) (valued : ValueHead) (head : ℕ) (free : List ℕ) → slice_get pages at ≡ Some page → IsValueHead page valued → IsFreeList pages head free → times at free ≡ 0
part_not_free pages at page valued head free there is list = kind_apart free_at pages head free free at page there (λ a n same. value_not_free page valued n is.bytes same) list

pub chain_not_free : (pages : List (List ℕ)) (first : ℕ) (row bytes : List ℕ) (head : ℕ) (free : List ℕ) (k : ℕ) → IsChain pages first row bytes → IsFreeList pages head free → 1 ≤ times k row → times k free ≡ 0
chain_not_free pages first row bytes head free k is list some =
    rows_apart value_page free_at (λ a m b n same. value_not_free (value_page a m) (record { held = length a; next = m }) n (take-value_page a m) same) pages first row (pieces row bytes) head free free k is.linked list some

-- from `at` on the chain still stands, and what stood before is given up
pub record Freeing (before now : List (List ℕ)) (head : ℕ) (free row bytes : List ℕ) (at left : ℕ) : Type 0 where
  pub gone : List ℕ
  pub rest : List ℕ
  pub split : row ≡ gone ++ rest
  pub behind : IsChain now at rest (drop (length bytes - left) bytes)
  pub turned : Turned before now head free gone []

pub freeing_none : (pages : List (List ℕ)) (head : ℕ) (free row bytes : List ℕ) (at len : ℕ) → IsFreeList pages head free → IsChain pages at row bytes → length bytes ≡ len → Freeing pages pages head free row bytes at len
freeing_none pages head free row bytes at len list is long =
    let none : length bytes - len ≡ 0 = omega arith in
    let P : ℕ → Type 0 = λ n. IsChain pages at row (drop n bytes) in
    record { gone = []; rest = row; split = refl; behind = subst P (sym none) is; turned = turned_none pages head free list }

pub freeing_more : (before now after : List (List ℕ)) (head next : ℕ) (free row bytes page : List ℕ) (valued : ValueHead) (at left : ℕ) (so : Freeing before now head free row bytes at left)
    → left ≤ length bytes → 1 ≤ left → slice_get now at ≡ Some page → IsValueHead page valued → valued.held ≡ min left VALUE_ROOM → Turned now after next so.turned.left (at ∷ []) []
    → Freeing before after next free row bytes valued.next (left - valued.held)
freeing_more before now after head next free row bytes page valued at left so within some there is held given =
    let rest : List ℕ = drop (length bytes - left) bytes in
    let long = rest_len left bytes within in
    let held_is : valued.held ≡ min (length rest) VALUE_ROOM = held ∙ ap (λ n. min n VALUE_ROOM) (sym long) in
    let part = reads now at so.rest rest page valued so.behind (omega arith) there is.next is.bytes held_is in
    let gone : length bytes - (left - valued.held) ≡ length bytes - (left - min left VALUE_ROOM) = ap (λ n. length bytes - (left - n)) held in
    let stays : (k : ℕ) → 1 ≤ times k part.rest → slice_get after k ≡ slice_get now k = λ k among.
    let inside = row_within value_page now valued.next part.rest (pieces part.rest (drop VALUE_ROOM rest)) k part.behind.linked among in
    let apart = chain_not_free now valued.next part.rest (drop VALUE_ROOM rest) head so.turned.left k part.behind so.turned.free among in
    let other = times_other k at (λ same. let none : times k part.rest ≡ 0 = ap (λ m. times m part.rest) (sym same) ∙ part.apart in absurd (omega arith)) in
    let sum = times-append k so.turned.left (at ∷ []) in
    given.others k inside.1 (omega arith) in
    let P : List ℕ → Type 0 = λ xs. IsChain after valued.next part.rest xs in
    record {
      gone = so.gone ++ at ∷ [];
      rest = part.rest;
      split = so.split ∙ ap (λ xs. so.gone ++ xs) part.split ∙ sym (append_assoc so.gone (at ∷ []) part.rest);
      behind = subst P (sym (ap (λ n. drop n bytes) gone ∙ part_drop left bytes within)) (keeps_chain now after valued.next part.rest (drop VALUE_ROOM rest) stays part.behind);
      turned = turned_then before now after head next free so.gone [] (at ∷ []) [] so.turned given;
    }

pub freeing_all : (before now : List (List ℕ)) (head : ℕ) (free row bytes : List ℕ) (at left : ℕ) → left ≡ 0 → Freeing before now head free row bytes at left → Turned before now head free row []
freeing_all before now head free row bytes at left none so =
    let full = so.behind.full in
    let dropped = length-drop (length bytes - left) bytes in
    let nil : so.rest ≡ [] = nil_from_length so.rest (omega arith) in
    let P : List ℕ → Type 0 = λ xs. Turned before now head free xs [] in
    subst P (sym (so.split ∙ ap (λ xs. so.gone ++ xs) nil ∙ append-nil so.gone)) so.turned
