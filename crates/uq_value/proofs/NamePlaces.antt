-- Names of members, by their places.
use Rattle.std.proofs.Common.{◌≡◌, ◌<◌, ◌+◌, ℕ, zero, suc, refl, ap, sym, ◌∙◌, arith, List, [], ◌∷◌, length, get_or, take, Bool, true, false, ◌||◌, if◌then◌else◌, bytes_eq, MatchBool}
use Rattle.std.proofs.lemmas.List.{length-map, get_or-map}
use Rattle.std.proofs.lemmas.Slice.Eq.{bytes_eq-Decides}
use Rattle.uq_value.specs.Data.{Bytes, is_among, IsDistinct}
use Rattle.uq_value.specs.Places.{place_of}
use Rattle.uq_value.specs.Internal.Names.{name_of, names}
use Rattle.uq_value.specs.declared.object.Member.{Member}

pub name-at : (ms : List Member) (i : ℕ) (m : Member) → m ≡ get_or ms i m → i < length ms → get_or (names ms) i [] ≡ name_of m
name-at ms i m e h = get_or-map name_of ms i m [] h ∙ ap name_of (sym e)

pub length-names : (ms : List Member) → length (names ms) ≡ length ms
length-names ms = length-map ms name_of

among-at : (ns : List Bytes) (i : ℕ) → i < length ns → is_among (get_or ns i []) ns ≡ true
among-at [] i h = absurd (omega arith)
among-at (n ∷ ns) zero h = ap (λ b. b || is_among n ns) ((bytes_eq-Decides n n).1 refl)
among-at (n ∷ ns) (suc i) h = or-true (bytes_eq n (get_or ns i [])) _ (among-at ns i (omega arith))
  where
    or-true : (a b : Bool) → b ≡ true → (a || b) ≡ true
    or-true true b h = refl
    or-true false b h = h

pub place-at : (ns : List Bytes) (name : Bytes) (i : ℕ) → IsDistinct ns → i < length ns → get_or ns i [] ≡ name → place_of name ns ≡ i
place-at [] name i d h e = absurd (omega arith)
place-at (n ∷ ns) name zero d h e = ap (λ b. if b then 0 else 1 + place_of name ns) ((bytes_eq-Decides n name).1 e)
place-at (n ∷ ns) name (suc i) d h e = split (place-at ns name i d.1 (omega (arith, h)) e) (bytes_eq n name) refl
  where
    split : place_of name ns ≡ i → (b : Bool) → bytes_eq n name ≡ b → (if bytes_eq n name then 0 else 1 + place_of name ns) ≡ suc i
    split o true t = absurd (
        let x : n ≡ get_or ns i [] = (bytes_eq-Decides n name).0 t ∙ sym e in
        let y : is_among n ns ≡ true = ap (λ m. is_among m ns) x ∙ among-at ns i (omega (arith, h)) in
        let z : is_among n ns ≡ false = d.0 in cc)
    split o false t = ap (λ b. if b then 0 else 1 + place_of name ns) t ∙ omega (arith, o)

pub place-missing : (ns : List Bytes) (name : Bytes) → is_among name ns ≡ false → place_of name ns ≡ length ns
place-missing [] name h = refl
place-missing (n ∷ ns) name h = split (place-missing ns name) (bytes_eq n name) refl
  where
    split : (is_among name ns ≡ false → place_of name ns ≡ length ns) → (b : Bool) → bytes_eq n name ≡ b → (if bytes_eq n name then 0 else 1 + place_of name ns) ≡ length (n ∷ ns)
    split o true t = absurd (let x : (bytes_eq n name || is_among name ns) ≡ true = ap (λ b. b || is_among name ns) t in cc)
    split o false t = ap (λ b. if b then 0 else 1 + place_of name ns) t ∙ omega (arith, o (sym (ap (λ b. b || is_among name ns) t) ∙ h))

-- a name that is at no place is nowhere
pub place-none : (ns : List Bytes) (name : Bytes) → ((at : ℕ) → at < length ns → get_or ns at [] ≡ name → ⊥) → place_of name ns ≡ length ns
place-none [] name h = refl
place-none (n ∷ ns) name h = split (place-none ns name (λ at i e. h (suc at) (omega (arith, i)) e)) (bytes_eq n name) refl
  where
    split : place_of name ns ≡ length ns → (b : Bool) → bytes_eq n name ≡ b → (if bytes_eq n name then 0 else 1 + place_of name ns) ≡ length (n ∷ ns)
    split o true t = absurd (h 0 (omega arith) ((bytes_eq-Decides n name).0 t))
    split o false t = ap (λ b. if b then 0 else 1 + place_of name ns) t ∙ omega (arith, o)

-- whether two keys are the same, where their first numbers are
pub key-decided : (m n : ℕ) (xs ys : Bytes) (b : Bool) → m ≡ n → b ≡ bytes_eq xs ys → MatchBool b (m ∷ xs ≡ n ∷ ys) (m ∷ xs ≡ n ∷ ys → ⊥)
key-decided m n xs ys true e h = let x : xs ≡ ys = (bytes_eq-Decides xs ys).0 (sym h) in cc
key-decided m n xs ys false e h = λ k. let x : xs ≡ ys = cc in let y : bytes_eq xs ys ≡ true = (bytes_eq-Decides xs ys).1 x in absurd (cc)

pub names-take : (ms : List Member) (i : ℕ) → names (take i ms) ≡ take i (names ms)
names-take ms zero = refl
names-take [] (suc i) = refl
names-take (m ∷ ms) (suc i) = ap (λ ns. name_of m ∷ ns) (names-take ms i)

-- ---- the first of some distinct names

or-false : (a b : Bool) → (a || b) ≡ false → (a ≡ false) × (b ≡ false)
or-false true b h = absurd (cc)
or-false false b h = (refl, h)

among-take : (n : Bytes) (ns : List Bytes) (i : ℕ) → is_among n ns ≡ false → is_among n (take i ns) ≡ false
among-take n ns zero h = refl
among-take n [] (suc i) h = refl
among-take n (m ∷ ns) (suc i) h =
    let o : (bytes_eq m n ≡ false) × (is_among n ns ≡ false) = or-false (bytes_eq m n) (is_among n ns) h
    in ap (λ b. b || is_among n (take i ns)) o.0 ∙ among-take n ns i o.1

pub distinct-take : (ns : List Bytes) (i : ℕ) → IsDistinct ns → IsDistinct (take i ns)
distinct-take ns zero d = tt
distinct-take [] (suc i) d = tt
distinct-take (n ∷ ns) (suc i) d = (among-take n ns i d.0, distinct-take ns i d.1)

pub apart : (ns : List Bytes) (i : ℕ) → IsDistinct ns → i < length ns → is_among (get_or ns i []) (take i ns) ≡ false
apart ns zero d h = refl
apart [] (suc i) d h = absurd (omega arith)
apart (n ∷ ns) (suc i) d h = split (bytes_eq n (get_or ns i [])) refl ∙ apart ns i d.1 (omega (arith, h))
  where
    split : (b : Bool) → bytes_eq n (get_or ns i []) ≡ b → (bytes_eq n (get_or ns i []) || is_among (get_or ns i []) (take i ns)) ≡ is_among (get_or ns i []) (take i ns)
    split true t = absurd (
        let x : n ≡ get_or ns i [] = (bytes_eq-Decides n (get_or ns i [])).0 t in
        let y : is_among n ns ≡ true = ap (λ m. is_among m ns) x ∙ among-at ns i (omega (arith, h)) in
        let z : is_among n ns ≡ false = d.0 in cc)
    split false t = ap (λ b. b || is_among (get_or ns i []) (take i ns)) t
