-- Lines that are put in pieces.
use Rattle.std.proofs.Common.{◌≡◌, ℕ, zero, suc, ◌+◌, List, [], ◌∷◌, ◌++◌, length, take, Option, Some, None, Result, Ok, Err, refl, sym, ap, subst, ◌∙◌, append_assoc}
use Rattle.std.proofs.lemmas.List.{append-nil}
use Rattle.std.proofs.Math.Seq.{take-append-add}
use Rattle.uq_outside.specs.Streams.{Grows, PutAppends}
use Rattle.uq_shell.specs.Line.{last_byte, line_after, owed_feed}

pub grows_on : (a b : List ℕ) (x y z : Option (List ℕ)) → Grows a x y → Grows b y z → Grows (a ++ b) x z
grows_on a b None None None first second = tt
grows_on a b (Some x) (Some y) (Some z) first second = second ∙ ap (λ l. l ++ b) first ∙ append_assoc x a b
grows_on a b None None (Some z) first second = absurd second
grows_on a b None (Some y) z first second = absurd first
grows_on a b (Some x) None z first second = absurd first
grows_on a b (Some x) (Some y) None first second = absurd second

pub grows_nothing : (x : Option (List ℕ)) → Grows [] x x
grows_nothing None = tt
grows_nothing (Some x) = sym (append-nil x)

-- a front of some bytes is one of the bytes with others behind them
front : (n : ℕ) (a b : List ℕ) → (m : ℕ) × (take m (a ++ b) ≡ take n a)
front zero a b = (0, refl)
front (suc n) [] b = (0, refl)
front (suc n) (x ∷ a) b = (suc (front n a b).0, ap (λ l. x ∷ l) (front n a b).1)

-- bytes, and then a front of others
pub grows_part : (a b : List ℕ) (x y z : Option (List ℕ)) → Grows a x y → (n : ℕ) × Grows (take n b) y z → (n : ℕ) × Grows (take n (a ++ b)) x z
grows_part a b x y z first second =
    (length a + second.0, subst (λ l. Grows l x z) (sym (take-append-add a b second.0)) (grows_on a (take second.0 b) x y z first second.1))

-- the bytes of one put, and then those of another
pub puts_on : {T E : Type 0} (a b : List ℕ) (x y z : Option (List ℕ)) (result : Result T E) → Grows a x y → PutAppends y z result b → PutAppends x z result (a ++ b)
puts_on a b x y z (Ok done) first second = grows_on a b x y z first second
puts_on a b x y z (Err fault) first second = grows_part a b x y z first second

-- a front of the first of two pieces
pub grows_within : (a b : List ℕ) (x z : Option (List ℕ)) → (n : ℕ) × Grows (take n a) x z → (n : ℕ) × Grows (take n (a ++ b)) x z
grows_within a b x z part = ((front part.0 a b).0, subst (λ l. Grows l x z) (sym (front part.0 a b).1) part.1)

-- a line ends with its line feed
pub last_byte-append : (bytes : List ℕ) (byte : ℕ) → last_byte (bytes ++ byte ∷ []) ≡ Some byte
last_byte-append [] byte = refl
last_byte-append (x ∷ []) byte = refl
last_byte-append (x ∷ y ∷ bytes) byte = last_byte-append (y ∷ bytes) byte

-- whatever it stands behind
pub line_ends : (before : List ℕ) (last : Option ℕ) (text : List ℕ) → last_byte (before ++ line_after last text) ≡ Some 0x0a
line_ends before last text =
    ap last_byte (sym (append_assoc before (owed_feed last ++ text) (0x0a ∷ []))) ∙ last_byte-append (before ++ (owed_feed last ++ text)) 0x0a
