-- What a list has at a place.
use Rattle.std.proofs.Common.{◌≡◌, ◌≢◌, ℕ, zero, suc, ◌<◌, List, [], ◌∷◌, ◌++◌, length, get_or, Some, refl, sym, ap, arith}
use Rattle.std.specs.Prelude.{slice_get, slice_set}

pub get_read : {X : Type 0} (xs : List X) (i : ℕ) (x : X) → i < length xs → x ≡ get_or xs i x → slice_get xs i ≡ Some x
get_read [] i x lt is = absurd (omega arith)
get_read (y ∷ xs) zero x lt is = ap (λ z. Some z) (sym is)
get_read (y ∷ xs) (suc i) x lt is = get_read xs i x (omega arith) is

pub get_push : {X : Type 0} (xs : List X) (x : X) (j : ℕ) → j < length xs → slice_get (xs ++ x ∷ []) j ≡ slice_get xs j
get_push [] x j lt = absurd (omega arith)
get_push (y ∷ xs) x zero lt = refl
get_push (y ∷ xs) x (suc j) lt = get_push xs x j (omega arith)

pub get_pushed : {X : Type 0} (xs : List X) (x : X) (k : ℕ) → k ≡ length xs → slice_get (xs ++ x ∷ []) k ≡ Some x
get_pushed [] x zero is = refl
get_pushed [] x (suc k) is = absurd (omega arith)
get_pushed (y ∷ xs) x zero is = absurd (omega arith)
get_pushed (y ∷ xs) x (suc k) is = get_pushed xs x k (omega arith)

pub get_set_here : {X : Type 0} (xs : List X) (k : ℕ) (x : X) → k < length xs → slice_get (slice_set xs k x) k ≡ Some x
get_set_here [] k x lt = absurd (omega arith)
get_set_here (y ∷ xs) zero x lt = refl
get_set_here (y ∷ xs) (suc k) x lt = get_set_here xs k x (omega arith)

pub get_set_other : {X : Type 0} (xs : List X) (k j : ℕ) (x : X) → j ≢ k → slice_get (slice_set xs k x) j ≡ slice_get xs j
get_set_other [] k j x apart = refl
get_set_other (y ∷ xs) zero zero x apart = absurd (apart refl)
get_set_other (y ∷ xs) zero (suc j) x apart = refl
get_set_other (y ∷ xs) (suc k) zero x apart = refl
get_set_other (y ∷ xs) (suc k) (suc j) x apart = get_set_other xs k j x (λ same. apart (ap (λ (n : ℕ). suc n) same))

pub get_at : {X : Type 0} (xs : List X) (i : ℕ) (d : X) → i < length xs → slice_get xs i ≡ Some (get_or xs i d)
get_at [] i d lt = absurd (omega arith)
get_at (y ∷ xs) zero d lt = refl
get_at (y ∷ xs) (suc i) d lt = get_at xs i d (omega arith)

-- there is one at each place
pub there : {X : Type 0} (xs : List X) (i : ℕ) → i < length xs → (x : X) × (slice_get xs i ≡ Some x)
there [] i lt = absurd (omega arith)
there (y ∷ xs) zero lt = (y, refl)
there (y ∷ xs) (suc i) lt = there xs i (omega arith)
