-- What the free list gives and takes.
use Rattle.std.proofs.Common.{◌≡◌, ◌⊎◌, inl, inr, ℕ, ◌+◌, ◌<◌, ◌≤◌, ◌^◌, List, [], ◌∷◌, ◌++◌, length, Some, refl, sym, ap, subst, ◌∙◌, arith, length-append}
use Rattle.std.specs.Prelude.{slice_get, slice_set}
use Rattle.std.proofs.lemmas.List.{length-set}
use Rattle.std.proofs.lemmas.Option.{same_Some}
use Rattle.uq_page.specs.declared.header.Header.{Header}
use Rattle.uq_page.specs.FreePage.{free_page, IsFreePage}
use Rattle.uq_page.specs.NextLaws.{same_free_next}
use Rattle.uq_page.specs.Numbers.{times, SameNumbers}
use Rattle.uq_chain.specs.Grown.{grown}
use Rattle.uq_chain.specs.FreeList.{IsFreeList, Turned, free_at, KeepsHeader}
use Rattle.uq_page.specs.NumberLaws.{times-append, times-cons, times_self, none_or_some}
use Rattle.uq_chain.specs.GrownLaws.{grown_none, grown_one, grown_below, grown_once, grown_twice}
use Rattle.uq_page.specs.RowLaws.{Tells, keeps_row, row_within, row_once, first_once, one_row, get_set_other, get_set_same, get_longer}

pub free_tells : Tells free_at
free_tells a b m n fits fits' same = same_free_next m n fits fits' same

-- nothing was done
pub turned_none : (pages : List (List ℕ)) (head : ℕ) (row : List ℕ) → IsFreeList pages head row → Turned pages pages head row [] []
turned_none pages head row is = record {
  left = row;
  free = is;
  once = λ n. let a = times-append n row [] in let b = times-append n (row ++ []) (grown (length pages) (length pages)) in let c = grown_none n (length pages) in omega arith;
  count = omega arith;
  longer = omega arith;
  others = λ n within apart. refl;
}

-- one thing after another
pub turned_then : (a b c : List (List ℕ)) (head last : ℕ) (row gone made more done : List ℕ) (first : Turned a b head row gone made)
    → Turned b c last first.left more done → Turned a c last row (gone ++ more) (made ++ done)
turned_then a b c head last row gone made more done first second =
    let up = first.longer in
    let up' = second.longer in
    let count = first.count in
    let count' = second.count in
    let gone_len = length-append gone more in
    let made_len = length-append made done in
    record {
      left = second.left;
      free = second.free;
      once = λ n.
          let p = first.once n in
          let q = second.once n in
          let r = grown_twice n (length a) (length b) (length c) up up' in
          let s1 = times-append n first.left made in
          let s2 = times-append n (row ++ gone) (grown (length a) (length b)) in
          let s3 = times-append n row gone in
          let t1 = times-append n second.left done in
          let t2 = times-append n (first.left ++ more) (grown (length b) (length c)) in
          let t3 = times-append n first.left more in
          let u1 = times-append n second.left (made ++ done) in
          let u2 = times-append n made done in
          let u3 = times-append n (row ++ (gone ++ more)) (grown (length a) (length c)) in
          let u4 = times-append n row (gone ++ more) in
          let u5 = times-append n gone more in
          omega arith;
      count = omega arith;
      longer = omega arith;
      others = λ n within apart.
          let p = first.once n in
          let s1 = times-append n first.left made in
          let s2 = times-append n (row ++ gone) (grown (length a) (length b)) in
          let s3 = times-append n row gone in
          let t3 = times-append n first.left more in
          let u4 = times-append n row (gone ++ more) in
          let u5 = times-append n gone more in
          let none = grown_below n (length a) (length b) within in
          second.others n (omega arith) (omega arith) ∙ first.others n within (omega arith);
    }

-- the same numbers, in another order or by other names
pub turned_as : (a b : List (List ℕ)) (head : ℕ) (row gone made gone' made' : List ℕ) → Turned a b head row gone made
    → SameNumbers gone gone' → length gone ≡ length gone' → SameNumbers made made' → length made ≡ length made' → Turned a b head row gone' made'
turned_as a b head row gone made gone' made' first same long same' long' =
    let count = first.count in
    record {
      left = first.left;
      free = first.free;
      once = λ n.
          let p = first.once n in
          let g = same n in
          let m = same' n in
          let s1 = times-append n first.left made in
          let s2 = times-append n (row ++ gone) (grown (length a) (length b)) in
          let s3 = times-append n row gone in
          let u1 = times-append n first.left made' in
          let u2 = times-append n (row ++ gone') (grown (length a) (length b)) in
          let u3 = times-append n row gone' in
          omega arith;
      count = omega arith;
      longer = first.longer;
      others = λ n within apart.
          let g = same n in
          let s3 = times-append n row gone in
          let u3 = times-append n row gone' in
          first.others n within (omega arith);
    }

-- a page in use is written anew
pub turned_write : (a b : List (List ℕ)) (head : ℕ) (row gone made : List ℕ) (k : ℕ) (page : List ℕ) (first : Turned a b head row gone made)
    → 1 ≤ times k made → times k first.left ≡ 0 → Turned a (slice_set b k page) head row gone made
turned_write a b head row gone made k page first among free =
    let long = length-set b k page in
    let up = first.longer in
    let count = first.count in
    record {
      left = first.left;
      free = keeps_row free_at b (slice_set b k page) head first.left first.left (λ n some. get_set_other b k n page (λ same. let other : times n first.left ≡ 0 = ap (λ m. times m first.left) same ∙ free in absurd (omega arith))) first.free;
      once = λ n. first.once n ∙ ap (λ m. times n (row ++ gone ++ grown (length a) m)) (sym long);
      count = omega arith;
      longer = omega arith;
      others = λ n within apart.
          let p = first.once n in
          let s1 = times-append n first.left made in
          let s2 = times-append n (row ++ gone) (grown (length a) (length b)) in
          let none = grown_below n (length a) (length b) within in
          get_set_other b k n page (λ same. let some : 1 ≤ times n made = subst (λ (m : ℕ). 1 ≤ times m made) (sym same) among in absurd (omega arith)) ∙ first.others n within apart;
    }

-- the first free page is taken into use
pub turned_reused : (pages : List (List ℕ)) (head next : ℕ) (page : List ℕ) (row : List ℕ) → (head ≡ 0 → ⊥) → slice_get pages head ≡ Some page → IsFreePage page next
    → IsFreeList pages head row → Turned pages pages next row [] (head ∷ [])
turned_reused pages head next page [] some there is free = absurd (some free)
turned_reused pages head next page (n ∷ row) some there is free =
    let same : next ≡ free.next = same_free_next next free.next is.fits free.fits (sym is.bytes ∙ same_Some page (free_page free.next) (sym there ∙ ap (slice_get pages) free.is ∙ free.page)) in
    let P : ℕ → Type 0 = λ h. IsFreeList pages h row in
    record {
      left = row;
      free = subst P (sym same) free.rest;
      once = λ k.
          let a = times-append k row (head ∷ []) in
          let b = times-append k ((n ∷ row) ++ []) (grown (length pages) (length pages)) in
          let c = times-append k (n ∷ row) [] in
          let d = times-cons k n row in
          let e : times k (head ∷ []) ≡ times k (n ∷ []) = ap (λ h. times k (h ∷ [])) free.is in
          let f = grown_none k (length pages) in
          omega arith;
      count = omega arith;
      longer = omega arith;
      others = λ k within apart. refl;
    }

-- a page is appended and taken into use
pub turned_grown : (pages : List (List ℕ)) (page : List ℕ) (row : List ℕ) → IsFreeList pages 0 row → Turned pages (pages ++ page ∷ []) 0 row [] (length pages ∷ [])
turned_grown pages page (n ∷ row) free = let is = free.is in let some = free.some in absurd (omega arith)
turned_grown pages page [] free =
    let long = length-append pages (page ∷ []) in
    record {
      left = [];
      free = refl;
      once = λ k. sym (ap (λ m. times k (grown (length pages) m)) (long) ∙ grown_one k (length pages));
      count = omega arith;
      longer = omega arith;
      others = λ k within apart. get_longer pages (page ∷ []) k within;
    }

-- a page is given up
pub turned_given : (pages : List (List ℕ)) (head n : ℕ) (row : List ℕ) → head < 2 ^ 32 → 1 ≤ n → n < length pages → times n row ≡ 0
    → IsFreeList pages head row → Turned pages (slice_set pages n (free_page head)) n row (n ∷ []) []
turned_given pages head n row fits some within apart free =
    let after = slice_set pages n (free_page head) in
    let long = length-set pages n (free_page head) in
    record {
      left = n ∷ row;
      free = record {
        is = refl;
        some = some;
        next = head;
        fits = fits;
        page = get_set_same pages n (free_page head) within;
        rest = keeps_row free_at pages after head row row (λ k among. get_set_other pages n k (free_page head) (λ same. let other : times k row ≡ 0 = ap (λ m. times m row) same ∙ apart in absurd (omega arith))) free;
      };
      once = λ k.
          let a = times-append k (n ∷ row) [] in
          let b = times-append k (row ++ n ∷ []) (grown (length pages) (length after)) in
          let c = times-append k row (n ∷ []) in
          let d = times-cons k n row in
          let f : times k (grown (length pages) (length after)) ≡ 0 = ap (λ m. times k (grown (length pages) m)) long ∙ grown_none k (length pages) in
          omega arith;
      count = omega arith;
      longer = omega arith;
      others = λ k inside other.
          let c = times-append k row (n ∷ []) in
          let one = times_self n in
          get_set_other pages n k (free_page head) (λ same. let here : times k (n ∷ []) ≡ 1 = ap (λ m. times m (n ∷ [])) same ∙ one in absurd (omega arith));
    }

-- the pages of the free list and those that are new stand apart
pub listed_once : (a : List (List ℕ)) (head : ℕ) (row : List ℕ) (size n : ℕ) → length a ≤ size → IsFreeList a head row → times n row + times n (grown (length a) size) ≤ 1
listed_once a head row size n up free =
    let once = row_once free_at free_tells a head row row n free in
    let new = grown_once n (length a) size up in
    by_cases (none_or_some (times n row)) once new
  where
    by_cases : (times n row ≡ 0) ⊎ (1 ≤ times n row) → times n row ≤ 1 → times n (grown (length a) size) ≤ 1 → times n row + times n (grown (length a) size) ≤ 1
    by_cases (inl none) once new = omega arith
    by_cases (inr some) once new = let within = row_within free_at a head row row n free some in let none = grown_below n (length a) size (within.1) in omega arith

-- what was taken into use with nothing given up is not free any more, and stands once
pub taken_apart : (a b : List (List ℕ)) (head last : ℕ) (row made : List ℕ) (n : ℕ) → IsFreeList a head row → (first : Turned a b last row [] made) → times n first.left + times n made ≤ 1
taken_apart a b head last row made n free first =
    let one = listed_once a head row (length b) n first.longer free in
    let once = first.once n in
    let s1 = times-append n first.left made in
    let s2 = times-append n (row ++ []) (grown (length a) (length b)) in
    let s3 = times-append n row [] in
    omega arith

-- the header's other fields stay along a row of calls
pub header_itself : (h : Header) → KeepsHeader h h
header_itself h = record { version = refl; buckets = refl; root = refl; entries = refl; bytes = refl }

pub header_on : (a b c : Header) → KeepsHeader a b → KeepsHeader b c → KeepsHeader a c
header_on a b c first second = record {
  version = second.version ∙ first.version;
  buckets = second.buckets ∙ first.buckets;
  root = second.root ∙ first.root;
  entries = second.entries ∙ first.entries;
  bytes = second.bytes ∙ first.bytes;
}

-- where a page that was given up begins a free list, the rest of it was one
pub given_back : (pages : List (List ℕ)) (head n : ℕ) (row : List ℕ) → head < 2 ^ 32 → 1 ≤ n → n < length pages → IsFreeList (slice_set pages n (free_page head)) n row → (rest : List ℕ) × IsFreeList pages head rest
given_back pages head n [] fits some within free = absurd (omega arith)
given_back pages head n (k ∷ row) fits some within free =
    let after = slice_set pages n (free_page head) in
    let here : slice_get after n ≡ Some (free_page free.next) = ap (slice_get after) free.is ∙ free.page in
    let next : free.next ≡ head = same_free_next free.next head free.fits fits (same_Some (free_page free.next) (free_page head) (sym here ∙ get_set_same pages n (free_page head) within)) in
    let apart : times n row ≡ 0 = ap (λ m. times m row) free.is ∙ first_once free_at free_tells after n k row k row free in
    let P : ℕ → Type 0 = λ h. IsFreeList pages h row in
    (row, subst P next (keeps_row free_at after pages free.next row row (λ m among. sym (get_set_other pages n m (free_page head) (λ same. let none : times m row ≡ 0 = ap (λ j. times j row) same ∙ apart in absurd (omega arith)))) free.rest))

-- the free list is one row
pub one_list : (pages : List (List ℕ)) (head : ℕ) (row other : List ℕ) → IsFreeList pages head row → IsFreeList pages head other → row ≡ other
one_list pages head row other is is' = one_row free_at free_tells pages head row row other other is is'

-- a page that was just taken into use is not in the list
pub taken_unlisted : (a b : List (List ℕ)) (head last n : ℕ) (row other : List ℕ) → IsFreeList a head row → Turned a b last row [] (n ∷ []) → IsFreeList b last other → times n other ≡ 0
taken_unlisted a b head last n row other free first is =
    let apart = taken_apart a b head last row (n ∷ []) n free first in
    let self = times_self n in
    let none : times n first.left ≡ 0 = omega arith in
    ap (λ xs. times n xs) (sym (one_list b last first.left other first.free is)) ∙ none
