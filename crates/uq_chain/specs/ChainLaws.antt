-- Chains of pages that hold bytes.
use Rattle.std.proofs.Common.{◌≡◌, ℕ, ◌-◌, ◌<◌, ◌≤◌, ◌^◌, List, [], ◌∷◌, ◌++◌, length, take, drop, Some, refl, sym, ap, subst, ◌∙◌, arith}
use Rattle.std.specs.Prelude.{slice_get, min}
use Rattle.std.proofs.lemmas.List.{length-take, length-drop, nil_from_length, take_at}
use Rattle.std.proofs.lemmas.Option.{same_Some, slice_get_within}
use Rattle.uq_page.specs.declared.layout.TheConstants.{VALUE_AT, VALUE_ROOM}
use Rattle.uq_page.specs.Page.{zeros}
use Rattle.uq_page.specs.ValuePage.{value_page, value_fields, IsValueHead}
use Rattle.uq_page.specs.NextLaws.{same_value_next, same_fields_next}
use Rattle.uq_page.specs.declared.value_page.ValueHead.{ValueHead}
use Rattle.uq_page.specs.Numbers.{times}
use Rattle.uq_chain.specs.Chain.{IsChain, pieces}
use Rattle.uq_page.specs.RowLaws.{Tells, keeps_row, first_once}

pub value_tells : Tells value_page
value_tells a b m n fits fits' same = same_value_next a b m n fits fits' same

pub take-value_page : (bytes : List ℕ) (next : ℕ) → take VALUE_AT (value_page bytes next) ≡ value_fields (record { held = length bytes; next = next })
unfolding value_page
take-value_page bytes next = refl

pub drop-value_page : (bytes : List ℕ) (next : ℕ) → drop VALUE_AT (value_page bytes next) ≡ bytes ++ zeros (VALUE_ROOM - length bytes)
unfolding value_page
drop-value_page bytes next = refl

pub held-value_page : (bytes : List ℕ) (next : ℕ) → take (length bytes) (drop VALUE_AT (value_page bytes next)) ≡ bytes
held-value_page bytes next = ap (take (length bytes)) (drop-value_page bytes next) ∙ take_at bytes (zeros (VALUE_ROOM - length bytes)) (length bytes) refl

pub value_head : (bytes : List ℕ) (next : ℕ) → next < 2 ^ 32 → 1 ≤ length bytes → length bytes ≤ VALUE_ROOM → IsValueHead (value_page bytes next) (record { held = length bytes; next = next })
value_head bytes next fits some few = record { next = fits; low = some; high = few; bytes = take-value_page bytes next }

-- a chain whose pages stay is a chain
pub keeps_chain : (before after : List (List ℕ)) (first : ℕ) (row bytes : List ℕ) → ((n : ℕ) → 1 ≤ times n row → slice_get after n ≡ slice_get before n) → IsChain before first row bytes → IsChain after first row bytes
keeps_chain before after first row bytes same is = record { linked = keeps_row value_page before after first row (pieces row bytes) same is.linked; enough = is.enough; full = is.full }

-- the first page of a chain, and the chain behind it
pub record Begins (pages : List (List ℕ)) (first : ℕ) (row bytes : List ℕ) : Type 0 where
  pub rest : List ℕ
  pub next : ℕ
  pub split : row ≡ first ∷ rest
  pub fits : next < 2 ^ 32
  pub page : slice_get pages first ≡ Some (value_page (take VALUE_ROOM bytes) next)
  pub behind : IsChain pages next rest (drop VALUE_ROOM bytes)
  pub apart : times first rest ≡ 0
  pub some : 1 ≤ first
  pub within : first < length pages

pub begins : (pages : List (List ℕ)) (first : ℕ) (row bytes : List ℕ) → IsChain pages first row bytes → 1 ≤ length bytes → Begins pages first row bytes
begins pages first [] bytes is some = let enough = is.enough in absurd (omega arith)
begins pages first (n ∷ row) bytes is some =
    let link = is.linked in
    let enough = is.enough in
    let full = is.full in
    let dropped = length-drop VALUE_ROOM bytes in
    record {
      rest = row;
      next = link.next;
      split = ap (λ k. k ∷ row) (sym link.is);
      fits = link.fits;
      page = ap (slice_get pages) link.is ∙ link.page;
      behind = record { linked = link.rest; enough = omega arith; full = omega arith };
      apart = ap (λ k. times k row) link.is ∙ first_once value_page value_tells pages first n row (take VALUE_ROOM bytes) (pieces row (drop VALUE_ROOM bytes)) link;
      some = let here = link.is in let one = link.some in omega arith;
      within = let here = link.is in let below = slice_get_within pages n _ link.page in omega arith;
    }

-- where the chain's first page and what is read of it meet
pub record Reads (first : ℕ) (bytes page : List ℕ) (head : ValueHead) (pages : List (List ℕ)) (row : List ℕ) : Type 0 where
  pub rest : List ℕ
  pub split : row ≡ first ∷ rest
  pub apart : times first rest ≡ 0
  pub held : head.held ≡ min (length bytes) VALUE_ROOM
  pub bytes_are : take head.held (drop VALUE_AT page) ≡ take VALUE_ROOM bytes
  pub behind : IsChain pages head.next rest (drop VALUE_ROOM bytes)

length-front : (bytes : List ℕ) → length (take VALUE_ROOM bytes) ≡ min (length bytes) VALUE_ROOM
length-front bytes = length-take VALUE_ROOM bytes ∙ (omega arith)

pub reads : (pages : List (List ℕ)) (first : ℕ) (row bytes page : List ℕ) (head : ValueHead) → IsChain pages first row bytes → 1 ≤ length bytes → slice_get pages first ≡ Some page
    → head.next < 2 ^ 32 → take VALUE_AT page ≡ value_fields head → head.held ≡ min (length bytes) VALUE_ROOM → Reads first bytes page head pages row
reads pages first row bytes page head is some there fits fields held =
    let start = begins pages first row bytes is some in
    let page_is : page ≡ value_page (take VALUE_ROOM bytes) start.next = same_Some page (value_page (take VALUE_ROOM bytes) start.next) (sym there ∙ start.page) in
    let front = length-front bytes in
    let next : head.next ≡ start.next = same_fields_next head (record { held = length (take VALUE_ROOM bytes); next = start.next }) fits start.fits (sym fields ∙ ap (take VALUE_AT) page_is ∙ take-value_page (take VALUE_ROOM bytes) start.next) in
    let held_is : head.held ≡ length (take VALUE_ROOM bytes) = held ∙ sym front in
    let P : ℕ → Type 0 = λ n. IsChain pages n start.rest (drop VALUE_ROOM bytes) in
    record {
      rest = start.rest;
      split = start.split;
      apart = start.apart;
      held = held;
      bytes_are = ap (λ n. take n (drop VALUE_AT page)) held_is ∙ ap (λ xs. take (length (take VALUE_ROOM bytes)) (drop VALUE_AT xs)) page_is ∙ held-value_page (take VALUE_ROOM bytes) start.next;
      behind = subst P (sym next) start.behind;
    }

-- a page is put before a chain
pub chain_more : (pages : List (List ℕ)) (n next : ℕ) (row bytes piece : List ℕ) → 1 ≤ n → next < 2 ^ 32 → slice_get pages n ≡ Some (value_page piece next) → piece ≡ take VALUE_ROOM bytes
    → 1 ≤ length bytes → IsChain pages next row (drop VALUE_ROOM bytes) → IsChain pages n (n ∷ row) bytes
chain_more pages n next row bytes piece some fits page is few behind =
    let enough = behind.enough in
    let full = behind.full in
    let dropped = length-drop VALUE_ROOM bytes in
    record {
      linked = record { is = refl; some = some; next = next; fits = fits; page = page ∙ ap (λ xs. Some (value_page xs next)) is; rest = behind.linked };
      enough = omega arith;
      full = omega arith;
    }

-- the head of a chain's first page
pub first_head : (pages : List (List ℕ)) (first : ℕ) (row bytes page : List ℕ) → IsChain pages first row bytes → 1 ≤ length bytes → slice_get pages first ≡ Some page
    → (head : ValueHead) × IsValueHead page head × (head.held ≡ min (length bytes) VALUE_ROOM)
first_head pages first row bytes page is some there =
    let start = begins pages first row bytes is some in
    let front = length-front bytes in
    let same : value_page (take VALUE_ROOM bytes) start.next ≡ page = same_Some (value_page (take VALUE_ROOM bytes) start.next) page (sym start.page ∙ there) in
    let P : List ℕ → Type 0 = λ xs. IsValueHead xs (record { held = length (take VALUE_ROOM bytes); next = start.next }) in
    (record { held = length (take VALUE_ROOM bytes); next = start.next }, subst P same (value_head (take VALUE_ROOM bytes) start.next start.fits (omega arith) (omega arith)), front)

-- the last page of a chain names no next one
pub last_page : (pages : List (List ℕ)) (first : ℕ) (row bytes page : List ℕ) (head : ValueHead) → IsChain pages first row bytes → 1 ≤ length bytes → length bytes ≤ VALUE_ROOM
    → slice_get pages first ≡ Some page → IsValueHead page head → head.held ≡ min (length bytes) VALUE_ROOM → head.next ≡ 0
last_page pages first row bytes page head is some few there valued held =
    let part = reads pages first row bytes page head is some there valued.next valued.bytes held in
    let full = part.behind.full in
    let dropped = length-drop VALUE_ROOM bytes in
    let nil : part.rest ≡ [] = nil_from_length part.rest (omega arith) in
    let P : List ℕ → Type 0 = λ rest. IsChain pages head.next rest (drop VALUE_ROOM bytes) in
    (subst P nil part.behind).linked
