-- Which pages stay where a bucket changes: a value is stored, cells are laid anew, and an old value is dropped.
use Rattle.std.proofs.Common.{◌≡◌, ◌⊎◌, inl, inr, ℕ, ◌+◌, ◌<◌, ◌≤◌, List, [], ◌++◌, length, ◌∙◌, arith}
use Rattle.std.specs.Prelude.{slice_get}
use Rattle.std.specs.List.{range_with_len}
use Rattle.std.proofs.lemmas.Bool.{cases_lt}
use Rattle.uq_page.specs.Numbers.{times}
use Rattle.uq_page.specs.NumberLaws.{range_above, range_within, times-append}
use Rattle.uq_chain.specs.FreeList.{Turned}
use Rattle.uq_chain.specs.Grown.{grown}
use Rattle.uq_chain.specs.GrownLaws.{grown_all}

-- The pages `fixed` are not touched; a bucket has the pages `passed` and `gone` and its values the pages `stay` and `old`. The pages
-- `stored` are taken for a new value, then `made` in place of `gone`, and then `old` are given up.
pub record Changes (before b1 b2 b3 : List (List ℕ)) (f1 f2 f3 : ℕ) (free fixed passed gone stay old stored made : List ℕ) : Type 0 where
  pub first : Turned before b1 f1 free [] stored
  pub second : Turned b1 b2 f2 first.left gone made
  pub third : Turned b2 b3 f3 second.left old []
  pub used : (n : ℕ) → times n fixed + times n free + times n passed + times n gone + times n stay + times n old ≡ times n (range_with_len 0 (length before))

pub range_once : (n k : ℕ) → times n (range_with_len 0 k) ≤ 1
range_once n k = by_cases (cases_lt n k)
  where
    by_cases : (n < k) ⊎ (k ≤ n) → times n (range_with_len 0 k) ≤ 1
    by_cases (inl less) = let one = range_within n 0 k (omega arith) (omega arith) in omega arith
    by_cases (inr more) = let none = range_above n 0 k (omega arith) in omega arith

-- how often a page number stands in each list
record Count (before b1 b2 b3 : List (List ℕ)) (f1 f2 f3 : ℕ) (free fixed passed gone stay old stored made : List ℕ) (so : Changes before b1 b2 b3 f1 f2 f3 free fixed passed gone stay old stored made) (n : ℕ) : Type 0 where
  pub all : times n fixed + times n free + times n passed + times n gone + times n stay + times n old
      + times n (grown (length before) (length b1)) + times n (grown (length b1) (length b2)) + times n (grown (length b2) (length b3)) ≡ times n (range_with_len 0 (length b3))
  pub once : times n (range_with_len 0 (length b3)) ≤ 1
  pub one : times n so.first.left + times n stored ≡ times n free + times n (grown (length before) (length b1))
  pub two : times n so.second.left + times n made ≡ times n so.first.left + times n gone + times n (grown (length b1) (length b2))
  pub three : times n so.third.left ≡ times n so.second.left + times n old + times n (grown (length b2) (length b3))

count : (before b1 b2 b3 : List (List ℕ)) (f1 f2 f3 : ℕ) (free fixed passed gone stay old stored made : List ℕ) (so : Changes before b1 b2 b3 f1 f2 f3 free fixed passed gone stay old stored made) (n : ℕ)
    → Count before b1 b2 b3 f1 f2 f3 free fixed passed gone stay old stored made so n
count before b1 b2 b3 f1 f2 f3 free fixed passed gone stay old stored made so n =
    let used = so.used n in
    let up1 = grown_all n (length before) (length b1) so.first.longer in
    let up2 = grown_all n (length b1) (length b2) so.second.longer in
    let up3 = grown_all n (length b2) (length b3) so.third.longer in
    let o1 = so.first.once n in
    let a1 = times-append n so.first.left stored in
    let a2 = times-append n (free ++ []) (grown (length before) (length b1)) in
    let a3 = times-append n free [] in
    let o2 = so.second.once n in
    let c1 = times-append n so.second.left made in
    let c2 = times-append n (so.first.left ++ gone) (grown (length b1) (length b2)) in
    let c3 = times-append n so.first.left gone in
    let o3 = so.third.once n in
    let d1 = times-append n so.third.left [] in
    let d2 = times-append n (so.second.left ++ old) (grown (length b2) (length b3)) in
    let d3 = times-append n so.second.left old in
    record { all = omega arith; once = range_once n (length b3); one = omega arith; two = omega arith; three = omega arith }

pub within_before : (n k : ℕ) → 1 ≤ times n (range_with_len 0 k) → n < k
within_before n k some = by_cases (cases_lt n k)
  where
    by_cases : (n < k) ⊎ (k ≤ n) → n < k
    by_cases (inl less) = less
    by_cases (inr more) = let none = range_above n 0 k (omega arith) in absurd (omega arith)

-- the pages before the place stay, and so do those of the values that stay
pub page_stays : (before b1 b2 b3 : List (List ℕ)) (f1 f2 f3 : ℕ) (free fixed passed gone stay old stored made : List ℕ) (so : Changes before b1 b2 b3 f1 f2 f3 free fixed passed gone stay old stored made) (n : ℕ)
    → 1 ≤ times n passed + times n stay → slice_get b3 n ≡ slice_get before n
page_stays before b1 b2 b3 f1 f2 f3 free fixed passed gone stay old stored made so n some =
    let c = count before b1 b2 b3 f1 f2 f3 free fixed passed gone stay old stored made so n in
    let all = c.all in
    let once = c.once in
    let one = c.one in
    let two = c.two in
    let used = so.used n in
    let within = within_before n (length before) (omega arith) in
    let up1 = so.first.longer in
    let up2 = so.second.longer in
    let a = times-append n free [] in
    let b = times-append n so.first.left gone in
    let d = times-append n so.second.left old in
    so.third.others n (omega arith) (omega arith) ∙ so.second.others n (omega arith) (omega arith) ∙ so.first.others n within (omega arith)

-- the pages of the new value stay when they are written
pub stored_stays : (before b1 b2 b3 : List (List ℕ)) (f1 f2 f3 : ℕ) (free fixed passed gone stay old stored made : List ℕ) (so : Changes before b1 b2 b3 f1 f2 f3 free fixed passed gone stay old stored made) (n : ℕ)
    → 1 ≤ times n stored → n < length b1 → slice_get b3 n ≡ slice_get b1 n
stored_stays before b1 b2 b3 f1 f2 f3 free fixed passed gone stay old stored made so n some within =
    let c = count before b1 b2 b3 f1 f2 f3 free fixed passed gone stay old stored made so n in
    let all = c.all in
    let once = c.once in
    let one = c.one in
    let two = c.two in
    let up2 = so.second.longer in
    let b = times-append n so.first.left gone in
    let d = times-append n so.second.left old in
    so.third.others n (omega arith) (omega arith) ∙ so.second.others n within (omega arith)

-- and so do the pages that are laid anew
pub made_stays : (before b1 b2 b3 : List (List ℕ)) (f1 f2 f3 : ℕ) (free fixed passed gone stay old stored made : List ℕ) (so : Changes before b1 b2 b3 f1 f2 f3 free fixed passed gone stay old stored made) (n : ℕ)
    → 1 ≤ times n made → n < length b2 → slice_get b3 n ≡ slice_get b2 n
made_stays before b1 b2 b3 f1 f2 f3 free fixed passed gone stay old stored made so n some within =
    let c = count before b1 b2 b3 f1 f2 f3 free fixed passed gone stay old stored made so n in
    let all = c.all in
    let once = c.once in
    let one = c.one in
    let two = c.two in
    let d = times-append n so.second.left old in
    so.third.others n within (omega arith)

-- each page is used once after the change
pub used_after : (before b1 b2 b3 : List (List ℕ)) (f1 f2 f3 : ℕ) (free fixed passed gone stay old stored made : List ℕ) (so : Changes before b1 b2 b3 f1 f2 f3 free fixed passed gone stay old stored made) (n : ℕ)
    → times n fixed + times n so.third.left + times n passed + times n made + times n stay + times n stored ≡ times n (range_with_len 0 (length b3))
used_after before b1 b2 b3 f1 f2 f3 free fixed passed gone stay old stored made so n =
    let c = count before b1 b2 b3 f1 f2 f3 free fixed passed gone stay old stored made so n in
    let all = c.all in
    let one = c.one in
    let two = c.two in
    let three = c.three in
    omega arith

-- the row that is laid anew is owned, after the new value is stored
pub gone_owned : (before b1 : List (List ℕ)) (f1 : ℕ) (free fixed passed gone stay old stored : List ℕ) (first : Turned before b1 f1 free [] stored)
    → ((n : ℕ) → times n fixed + times n free + times n passed + times n gone + times n stay + times n old ≡ times n (range_with_len 0 (length before)))
    → (n : ℕ) → (1 ≤ times n gone → n < length b1) × (times n gone + times n first.left ≤ 1)
gone_owned before b1 f1 free fixed passed gone stay old stored first used n =
    let all = used n in
    let up = grown_all n (length before) (length b1) first.longer in
    let o1 = first.once n in
    let a1 = times-append n first.left stored in
    let a2 = times-append n (free ++ []) (grown (length before) (length b1)) in
    let a3 = times-append n free [] in
    let once = range_once n (length b1) in
    let longer = first.longer in
    (λ some. let within = within_before n (length before) (omega arith) in omega arith, omega arith)

-- and its pages stay while the new value is stored
pub gone_stays : (before b1 : List (List ℕ)) (f1 : ℕ) (free fixed passed gone stay old stored : List ℕ) (first : Turned before b1 f1 free [] stored)
    → ((n : ℕ) → times n fixed + times n free + times n passed + times n gone + times n stay + times n old ≡ times n (range_with_len 0 (length before)))
    → (n : ℕ) → 1 ≤ times n gone → slice_get b1 n ≡ slice_get before n
gone_stays before b1 f1 free fixed passed gone stay old stored first used n some =
    let all = used n in
    let once = range_once n (length before) in
    let a3 = times-append n free [] in
    first.others n (within_before n (length before) (omega arith)) (omega arith)

-- the pages of the old value stay until they are given up
pub old_stays : (before b1 b2 : List (List ℕ)) (f1 f2 : ℕ) (free fixed passed gone stay old stored made : List ℕ) (first : Turned before b1 f1 free [] stored) (second : Turned b1 b2 f2 first.left gone made)
    → ((n : ℕ) → times n fixed + times n free + times n passed + times n gone + times n stay + times n old ≡ times n (range_with_len 0 (length before)))
    → (n : ℕ) → 1 ≤ times n old → slice_get b2 n ≡ slice_get before n
old_stays before b1 b2 f1 f2 free fixed passed gone stay old stored made first second used n some =
    let all = used n in
    let within = within_before n (length before) (omega arith) in
    let once = range_once n (length b1) in
    let up = grown_all n (length before) (length b1) first.longer in
    let o1 = first.once n in
    let a1 = times-append n first.left stored in
    let a2 = times-append n (free ++ []) (grown (length before) (length b1)) in
    let a3 = times-append n free [] in
    let b = times-append n first.left gone in
    let longer = first.longer in
    second.others n (omega arith) (omega arith) ∙ first.others n within (omega arith)
