-- Members that are set by their names.
use Rattle.std.proofs.Common.{◌≡◌, ◌<◌, ◌+◌, refl, ap, ◌∙◌, arith, List, [], ◌∷◌, ◌++◌, length, Bool, true, false, ◌||◌, if◌then◌else◌, bytes_eq}
use Rattle.uq_value.specs.Data.{Bytes, is_among, names_of}
use Rattle.uq_value.specs.Put.{with_member}
use Rattle.uq_value.specs.Places.{place_of}

pub length-names_of : {D : Type 0} (ms : List (Bytes × D)) → length (names_of ms) ≡ length ms
length-names_of [] = refl
length-names_of (m ∷ ms) = omega (arith, length-names_of ms)

-- a place is that of a name which is there, or none is
pub data Place (name : Bytes) (ns : List Bytes) : Type 0 where
  there : place_of name ns < length ns → is_among name ns ≡ true → Place name ns
  nowhere : place_of name ns ≡ length ns → is_among name ns ≡ false → Place name ns

pub place : (name : Bytes) (ns : List Bytes) → Place name ns
place name [] = nowhere refl refl
place name (n ∷ ns) = split (bytes_eq n name) refl (place name ns)
  where
    split : (b : Bool) → bytes_eq n name ≡ b → Place name ns → Place name (n ∷ ns)
    split true e p = there (omega (arith, ap (λ b. if b then 0 else 1 + place_of name ns) e)) (ap (λ b. b || is_among name ns) e)
    split false e (there h m) = there (omega (arith, h, ap (λ b. if b then 0 else 1 + place_of name ns) e)) (ap (λ b. b || is_among name ns) e ∙ m)
    split false e (nowhere h m) = nowhere (omega (arith, h, ap (λ b. if b then 0 else 1 + place_of name ns) e)) (ap (λ b. b || is_among name ns) e ∙ m)

-- a new one comes last
pub with_member-last : {D : Type 0} (name : Bytes) (d : D) (ms : List (Bytes × D)) → is_among name (names_of ms) ≡ false → with_member name d ms ≡ ms ++ (name, d) ∷ []
with_member-last name d [] h = refl
with_member-last name d (m ∷ ms) h = split (bytes_eq m.0 name) refl h (λ k. with_member-last name d ms k)
  where
    split : (b : Bool) → bytes_eq m.0 name ≡ b → (b || is_among name (names_of ms)) ≡ false → (is_among name (names_of ms) ≡ false → with_member name d ms ≡ ms ++ (name, d) ∷ [])
        → with_member name d (m ∷ ms) ≡ (m ∷ ms) ++ (name, d) ∷ []
    split true e k others = cc
    split false e k others = ap (λ b. if b then (m.0, d) ∷ ms else m ∷ with_member name d ms) e ∙ ap (λ ns. m ∷ ns) (others k)
