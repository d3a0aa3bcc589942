-- Members by name and by place.
use Rattle.std.proofs.Common.{◌≡◌, ◌≤◌, ◌<◌, ◌+◌, ℕ, zero, suc, refl, sym, ap, ◌∙◌, arith, List, [], ◌∷◌, ◌++◌, length, set, get_or, Bool, true, false, ◌||◌, if◌then◌else◌, Some, None, bytes_eq}
use Rattle.std.proofs.lemmas.Slice.Eq.{bytes_eq-Decides}
use Rattle.uq_value.specs.Data.{Bytes, Data, Pairs, is_among, IsDistinct, names_of}
use Rattle.uq_value.specs.Reading.{find}
use Rattle.uq_value.specs.Put.{with_member}
use Rattle.uq_value.specs.Places.{place_of}

pub place_of-le : (name : Bytes) (ns : List Bytes) → place_of name ns ≤ length ns
place_of-le name [] = omega arith
place_of-le name (n ∷ ns) =
    elim (bytes_eq n name) as (λ b. (if b then 0 else 1 + place_of name ns) ≤ length (n ∷ ns))
    [ true ↦ omega arith | false ↦ omega (arith, place_of-le name ns) ]

-- what is known of a member that is there
pub record Found (name : Bytes) (ms : Pairs) (at : ℕ) (m : Bytes × Data) : Type 0 where
  pub within : at < length ms
  pub is_named : m.0 ≡ name
  pub found : find name ms ≡ Some m.1
  pub written : (d : Data) → with_member name d ms ≡ set ms at (m.0, d)

pub found_at : (name : Bytes) (ms : Pairs) (d : Bytes × Data) (at : ℕ) → at ≡ place_of name (names_of ms) → at < length ms → Found name ms at (get_or ms at d)
found_at name [] d at e h = absurd (omega (arith, h))
found_at name (m ∷ ms) d at e h = split (λ k. found_at name ms d (place_of name (names_of ms)) refl k) (bytes_eq m.0 name) refl
  where
    split : (place_of name (names_of ms) < length ms → Found name ms (place_of name (names_of ms)) (get_or ms (place_of name (names_of ms)) d)) → (b : Bool) → bytes_eq m.0 name ≡ b → Found name (m ∷ ms) at (get_or (m ∷ ms) at d)
    split later true t =
        let at-is : at ≡ 0 = e ∙ ap (λ b. if b then 0 else 1 + place_of name (names_of ms)) t in
        rw at-is (record {
          within = omega arith;
          is_named = (bytes_eq-Decides m.0 name).0 t;
          found = ap (λ b. if b then Some m.1 else find name ms) t;
          written = λ x. ap (λ b. if b then (m.0, x) ∷ ms else m ∷ with_member name x ms) t;
        })
    split later false t =
        let at-is : at ≡ 1 + place_of name (names_of ms) = e ∙ ap (λ b. if b then 0 else 1 + place_of name (names_of ms)) t in
        let next : at ≡ suc (place_of name (names_of ms)) = omega (arith, at-is) in
        let o : Found name ms (place_of name (names_of ms)) (get_or ms (place_of name (names_of ms)) d) = later (omega (arith, h, next)) in
        rw next (record {
          within = omega (arith, o.within);
          is_named = o.is_named;
          found = ap (λ b. if b then Some m.1 else find name ms) t ∙ o.found;
          written = λ x. ap (λ b. if b then (m.0, x) ∷ ms else m ∷ with_member name x ms) t ∙ ap (λ ns. m ∷ ns) (o.written x);
        })

-- what is known of a member that is not there
pub record Absent (name : Bytes) (ms : Pairs) : Type 0 where
  pub nowhere : find name ms ≡ None
  pub added : (d : Data) → with_member name d ms ≡ ms ++ (name, d) ∷ []
  pub not_among : is_among name (names_of ms) ≡ false

pub absent : (name : Bytes) (ms : Pairs) → place_of name (names_of ms) ≡ length ms → Absent name ms
absent name [] e = record { nowhere = refl; added = λ d. refl; not_among = refl }
absent name (m ∷ ms) e = split (λ k. absent name ms k) (bytes_eq m.0 name) refl
  where
    split : (place_of name (names_of ms) ≡ length ms → Absent name ms) → (b : Bool) → bytes_eq m.0 name ≡ b → Absent name (m ∷ ms)
    split others true t = absurd (omega (arith, e, ap (λ b. if b then 0 else 1 + place_of name (names_of ms)) t))
    split others false t =
        let later : place_of name (names_of ms) ≡ length ms = omega (arith, e, ap (λ b. if b then 0 else 1 + place_of name (names_of ms)) t) in
        let o : Absent name ms = others later in
        record {
          nowhere = ap (λ b. if b then Some m.1 else find name ms) t ∙ o.nowhere;
          added = λ d. ap (λ b. if b then (m.0, d) ∷ ms else m ∷ with_member name d ms) t ∙ ap (λ ns. m ∷ ns) (o.added d);
          not_among = ap (λ b. b || is_among name (names_of ms)) t ∙ o.not_among;
        }

-- ---- distinct names

pub or-false : (a b : Bool) → (a || b) ≡ false → (a ≡ false) × (b ≡ false)
or-false true b h = cc
or-false false b h = (refl, h)

pub differ : (n name : Bytes) → bytes_eq n name ≡ false → bytes_eq name n ≡ false
differ n name h = split (bytes_eq name n) refl
  where
    split : (b : Bool) → bytes_eq name n ≡ b → bytes_eq name n ≡ false
    split true t = absurd (let e : bytes_eq n name ≡ true = (bytes_eq-Decides n name).1 (sym ((bytes_eq-Decides name n).0 t)) in cc)
    split false t = t

among-push : (n name : Bytes) (ns : List Bytes) → is_among n ns ≡ false → bytes_eq name n ≡ false → is_among n (ns ++ name ∷ []) ≡ false
among-push n name [] h e = ap (λ b. b || false) e
among-push n name (o ∷ ns) h e =
    let parts : (bytes_eq o n ≡ false) × (is_among n ns ≡ false) = or-false (bytes_eq o n) (is_among n ns) h
    in ap (λ b. b || is_among n (ns ++ name ∷ [])) parts.0 ∙ among-push n name ns parts.1 e

distinct-push : (ns : List Bytes) (name : Bytes) → IsDistinct ns → is_among name ns ≡ false → IsDistinct (ns ++ name ∷ [])
distinct-push [] name h e = (refl, tt)
distinct-push (n ∷ ns) name h e =
    let parts : (bytes_eq n name ≡ false) × (is_among name ns ≡ false) = or-false (bytes_eq n name) (is_among name ns) e
    in (among-push n name ns h.0 (differ n name parts.0), distinct-push ns name h.1 parts.1)

pub names-push : (ms : Pairs) (name : Bytes) (d : Data) → names_of (ms ++ (name, d) ∷ []) ≡ names_of ms ++ name ∷ []
names-push [] name d = refl
names-push (m ∷ ms) name d = ap (λ ns. m.0 ∷ ns) (names-push ms name d)

pub names-added : (ms : Pairs) (name : Bytes) (d : Data) → IsDistinct (names_of ms) → is_among name (names_of ms) ≡ false → IsDistinct (names_of (ms ++ (name, d) ∷ []))
names-added ms name d h e = rw (names-push ms name d) (distinct-push (names_of ms) name h e)

pub names-set : (ms : Pairs) (at : ℕ) (x : Bytes × Data) (d : Data) → at < length ms → names_of (set ms at ((get_or ms at x).0, d)) ≡ names_of ms
names-set [] at x d h = absurd (omega (arith, h))
names-set (m ∷ ms) zero x d h = refl
names-set (m ∷ ms) (suc at) x d h = ap (λ ns. m.0 ∷ ns) (names-set ms at x d (omega (arith, h)))
