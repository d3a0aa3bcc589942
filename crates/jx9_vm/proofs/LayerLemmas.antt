-- Upper values of a layer, seen from below and from the top.
use Rattle.std.proofs.Common.{◌≡◌, ℕ, min, ◌+◌, ◌-◌, ◌<◌, ◌≤◌, Bool, true, false, List, [], ◌∷◌, ◌++◌, refl, sym, ap, ◌∙◌, append_assoc, arith, get_or, length, drop, take, replicate, reverse}
use Rattle.std.specs.Prelude.{nat_le, slice_set}
use Rattle.std.proofs.Math.ListN.{drop_of_length-le}
use Rattle.std.proofs.Math.Seq.{drop-append_seam, set-append_seam, take-append-add, take-append_seam}
use Rattle.std.proofs.lemmas.Bool.{leb-false, leb-true}
use Rattle.std.proofs.lemmas.List.{append-nil, drop-append-le, drop-drop, drop-set-lt, drop-take, get_or-drop, length-drop, length-reverse, length-take, take-append-le, take-replicate, take-take, take_more, reverse-append, reverse-reverse, take-append-drop, take_all}
use Rattle.uq_value.specs.declared.value.Value.{Value}
use Rattle.jx9_compile.specs.Machine.{below}

drop_at : {A : Type 0} (n : ℕ) (xs ys : List A) → length xs ≡ n → drop n (xs ++ ys) ≡ ys
drop_at n xs ys is = ap (λ k. drop k (xs ++ ys)) (sym is) ∙ drop-append_seam xs ys

take_at : {A : Type 0} (n : ℕ) (xs ys : List A) → length xs ≡ n → take n (xs ++ ys) ≡ xs
take_at n xs ys is = ap (λ k. take k (xs ++ ys)) (sym is) ∙ take-append_seam xs ys

module _ {A : Type 0} (xs : List A) (n m : ℕ) (is : n + m ≡ length xs) where
  halves : reverse xs ≡ reverse (drop m xs) ++ reverse (take m xs)
  halves = ap reverse (sym (take-append-drop m xs)) ∙ reverse-append (take m xs) (drop m xs)

  upper : length (reverse (drop m xs)) ≡ n
  upper = length-reverse (drop m xs) ∙ length-drop m xs ∙ (let e : length xs - m ≡ n = omega (arith, is) in e)

  pub drop_reverse : drop n (reverse xs) ≡ reverse (take m xs)
  drop_reverse = ap (drop n) halves ∙ drop_at n (reverse (drop m xs)) (reverse (take m xs)) upper

  pub take_reverse : take n (reverse xs) ≡ reverse (drop m xs)
  take_reverse = ap (take n) halves ∙ take_at n (reverse (drop m xs)) (reverse (take m xs)) upper

all_dropped : {A : Type 0} (n : ℕ) (xs : List A) → length xs ≤ n → drop n (reverse xs) ≡ []
all_dropped n xs h = drop_of_length-le (reverse xs) (let e = length-reverse xs in omega (arith, e, h))

nothing_taken : {A : Type 0} (k : ℕ) (xs : List A) → k ≡ 0 → take k xs ≡ []
nothing_taken k xs is = ap (λ n. take n xs) is

-- what is under so many upper values
pub rest_under : {A : Type 0} (n : ℕ) (xs : List A) → reverse (take (length xs - n) xs) ≡ drop n (reverse xs)
rest_under {A} n xs = by (nat_le n (length xs)) refl
  where
    by : (b : Bool) → nat_le n (length xs) ≡ b → reverse (take (length xs - n) xs) ≡ drop n (reverse xs)
    by true h = let le : n ≤ length xs = leb-true n (length xs) h in sym (drop_reverse xs n (length xs - n) (omega (arith, le)))
    by false h =
        let lt : length xs < n = leb-false n (length xs) h in
        ap reverse (nothing_taken (length xs - n) xs (omega (arith, lt))) ∙ sym (all_dropped n xs (omega (arith, lt)))

-- so many upper values, the lowest first
pub values_above : {A : Type 0} (n : ℕ) (xs : List A) → drop (length xs - n) xs ≡ reverse (take n (reverse xs))
values_above {A} n xs = by (nat_le n (length xs)) refl
  where
    by : (b : Bool) → nat_le n (length xs) ≡ b → drop (length xs - n) xs ≡ reverse (take n (reverse xs))
    by true h =
        let le : n ≤ length xs = leb-true n (length xs) h in
        sym (ap reverse (take_reverse xs n (length xs - n) (omega (arith, le))) ∙ reverse-reverse (drop (length xs - n) xs))
    by false h =
        let lt : length xs < n = leb-false n (length xs) h in
        let none : length xs - n ≡ 0 = omega (arith, lt) in
        ap (λ k. drop k xs) none
        ∙ sym (ap reverse (take_all n (reverse xs) (let e = length-reverse xs in omega (arith, e, lt))) ∙ reverse-reverse xs)

-- ---- layers

pub drop_front : {A : Type 0} (n m : ℕ) (xs : List A) → n ≤ m → drop n (take m xs) ≡ take (m - n) (drop n xs)
drop_front n m xs h = let e : m ≡ n + (m - n) = omega arith in ap (λ k. drop n (take k xs)) e ∙ drop-take n (m - n) xs

-- what is left of the upper layer under so many values
pub left_under : {A : Type 0} (floor count from : ℕ) (xs : List A) → floor ≤ length xs → from ≡ length xs - min count (length xs - floor)
    → drop floor (take from xs) ≡ take (length (drop floor xs) - count) (drop floor xs)
left_under floor count from xs h is =
    let l = length-drop floor xs in
    drop_front floor from xs (omega (arith, h, is))
    ∙ ap (λ k. take k (drop floor xs)) (let e : from - floor ≡ length (drop floor xs) - count = omega (arith, h, is, l) in e)

-- one value more that moved
pub one_moved : {A : Type 0} (from at : ℕ) (xs ys before moved : List A) (v d : A) → from ≤ at → at < length xs → drop at ys ≡ drop at xs
    → v ≡ get_or ys at d → moved ≡ before ++ take (at - from) (drop from xs) → moved ++ v ∷ [] ≡ before ++ take (at + 1 - from) (drop from xs)
one_moved {A} from at xs ys before moved v d order within same is was =
    let l = length-drop from xs in
    let here : (zs : List A) → get_or (drop at zs) 0 d ≡ get_or zs at d = λ zs. get_or-drop at zs 0 d ∙ ap (λ k. get_or zs k d) (let e : at + 0 ≡ at = omega arith in e) in
    let there : get_or (drop from xs) (at - from) d ≡ get_or xs at d = get_or-drop from xs (at - from) d ∙ ap (λ k. get_or xs k d) (let e : from + (at - from) ≡ at = omega (arith, order) in e) in
    let v_is : v ≡ get_or (drop from xs) (at - from) d = is ∙ sym (here ys) ∙ ap (λ zs. get_or zs 0 d) same ∙ here xs ∙ sym there in
    ap (λ zs. zs ++ v ∷ []) was
    ∙ append_assoc before (take (at - from) (drop from xs)) (v ∷ [])
    ∙ ap (λ x. before ++ (take (at - from) (drop from xs) ++ x ∷ [])) v_is
    ∙ ap (λ zs. before ++ zs) (sym (take_more (drop from xs) (at - from) d (omega (arith, l, order, within))))
    ∙ ap (λ k. before ++ take k (drop from xs)) (let e : at - from + 1 ≡ at + 1 - from = omega (arith, order) in e)

-- the values behind it are as they were
pub behind_it : {A : Type 0} (at : ℕ) (xs ys : List A) (v : A) → drop at ys ≡ drop at xs → drop (at + 1) (slice_set ys at v) ≡ drop (at + 1) xs
behind_it at xs ys v same =
    drop-set-lt (at + 1) ys at v (omega arith) ∙ sym (drop-drop 1 at ys) ∙ ap (drop 1) same ∙ drop-drop 1 at xs

-- null on top until there are so many values
pub nulls_on_top : {A : Type 0} (floor count missing : ℕ) (xs ys : List A) (x : A) → floor ≤ length xs → missing ≡ count - (length xs - floor)
    → ys ≡ xs ++ replicate missing x → drop floor ys ≡ drop floor xs ++ replicate (count - length (drop floor xs)) x
nulls_on_top floor count missing xs ys x h is grown =
    let l = length-drop floor xs in
    ap (drop floor) grown
    ∙ drop-append-le floor xs (replicate missing x) h
    ∙ ap (λ k. drop floor xs ++ replicate k x) (let e : missing ≡ count - length (drop floor xs) = omega (arith, is, l) in e)

-- ---- the first slots of a call

no_copies : {A : Type 0} (n : ℕ) (x : A) → n ≡ 0 → replicate n x ≡ []
no_copies n x is = ap (λ k. replicate k x) is

-- more than there are is all
same_front : {A : Type 0} (slots params : ℕ) (xs : List A) (b : Bool) → nat_le params slots ≡ b → length (take params xs) < slots
    → take (min params slots) xs ≡ take params xs
same_front slots params xs true h few =
    let le = leb-true params slots h in
    ap (λ k. take k xs) (let e : min params slots ≡ params = omega (arith, le) in e)
same_front slots params xs false h few =
    let lt = leb-false params slots h in
    let given = length-take params xs in
    take_all (min params slots) xs (omega (arith, lt, few, given)) ∙ sym (take_all params xs (omega (arith, lt, few, given)))

-- so many slots, the first of which hold so many values at most
pub filled : {A : Type 0} (slots params : ℕ) (xs : List A) (x : A)
    → take slots (take params xs ++ replicate slots x) ≡ take (min params slots) xs ++ replicate (slots - length (take (min params slots) xs)) x
filled {A} slots params xs x = by (nat_le slots (length (take params xs))) refl
  where
    given : length (take params xs) ≡ min params (length xs)
    given = length-take params xs

    kept : length (take (min params slots) xs) ≡ min (min params slots) (length xs)
    kept = length-take (min params slots) xs

    by : (b : Bool) → nat_le slots (length (take params xs)) ≡ b
        → take slots (take params xs ++ replicate slots x) ≡ take (min params slots) xs ++ replicate (slots - length (take (min params slots) xs)) x
    by true h =
        let le = leb-true slots (length (take params xs)) h in
        let m : min params slots ≡ slots = omega (arith, le, given) in
        take-append-le slots (take params xs) (replicate slots x) le
        ∙ take-take slots params xs (omega (arith, le, given))
        ∙ ap (λ k. take k xs) (sym m)
        ∙ sym (append-nil (take (min params slots) xs))
        ∙ ap (λ ys. take (min params slots) xs ++ ys) (sym (no_copies (slots - length (take (min params slots) xs)) x (omega (arith, le, given, kept, m))))
    by false h =
        let lt = leb-false slots (length (take params xs)) h in
        let e : slots ≡ length (take params xs) + (slots - length (take params xs)) = omega (arith, lt) in
        ap (λ k. take k (take params xs ++ replicate slots x)) e
        ∙ take-append-add (take params xs) (replicate slots x) (slots - length (take params xs))
        ∙ ap (λ ys. take params xs ++ ys) (take-replicate (slots - length (take params xs)) slots x (omega arith))
        ∙ ap (λ ys. ys ++ replicate (slots - length ys) x) (sym (same_front slots params xs (nat_le params slots) refl lt))

-- a value in the place of the two upper ones
pub over_two : {A : Type 0} (floor place : ℕ) (xs : List A) (v : A) → place + 2 ≡ length xs → floor ≤ place
    → reverse (drop floor (slice_set (take (place + 1) xs) place v)) ≡ v ∷ drop 2 (reverse (drop floor xs))
over_two floor place xs v two h =
    let l = length-drop floor xs in
    let t = length-take place xs in
    let shorter : length (take place xs) ≡ place = omega (arith, two, t) in
    let written : slice_set (take (place + 1) xs) place v ≡ take place xs ++ v ∷ [] =
    ap (λ ys. slice_set ys place v) (take_more xs place v (omega (arith, two)))
    ∙ ap (λ k. slice_set (take place xs ++ get_or xs place v ∷ []) k v) (sym shorter)
    ∙ set-append_seam (take place xs) (get_or xs place v) [] v in
    ap (λ ys. reverse (drop floor ys)) written
    ∙ ap reverse (drop-append-le floor (take place xs) (v ∷ []) (omega (arith, shorter, h)))
    ∙ reverse-append (drop floor (take place xs)) (v ∷ [])
    ∙ ap (λ ys. v ∷ reverse ys) (drop_front floor place xs h
    ∙ ap (λ k. take k (drop floor xs)) (let e : place - floor ≡ length (drop floor xs) - 2 = omega (arith, two, h, l) in e))
    ∙ ap (λ ys. v ∷ ys) (rest_under 2 (drop floor xs))

pub below_one : (vs : List Value) → drop 1 vs ≡ below vs
below_one [] = refl
below_one (v ∷ vs) = refl

pub below_two : (vs : List Value) → drop 2 vs ≡ below (below vs)
below_two [] = refl
below_two (v ∷ []) = refl
below_two (v ∷ w ∷ vs) = refl
