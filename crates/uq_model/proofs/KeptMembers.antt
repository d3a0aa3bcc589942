-- The members that a record keeps of an object: all but `__id`.
use Rattle.std.proofs.Common.{◌≡◌, ℕ, ◌<◌, ◌+◌, Bool, true, false, not, cond, if◌then◌else◌, [], ◌∷◌, ◌++◌, length, take, get_or, refl, sym, ap, subst, ◌∙◌, bytes_eq, Option, Some, zero, suc, arith}
use Rattle.std.specs.Prelude.{slice_get}
use Rattle.std.specs.Bool.{one_answer}
use Rattle.std.proofs.lemmas.Bool.{or_parts, or_from}
use Rattle.std.proofs.lemmas.List.{append-nil, take_more}
use Rattle.std.proofs.lemmas.List.Elements.{filter-append}
use Rattle.std.proofs.lemmas.Slice.Eq.{bytes_eq-Decides}
use Rattle.uq_value.specs.Data.{Bytes, Data, Pairs, null, is_among, names_of, IsDistinct}
use Rattle.uq_value.specs.Plain.{plain, members}
use Rattle.uq_value.specs.Put.{with_member}
use Rattle.uq_value.specs.Laws.Named.{with_member-last}
use Rattle.uq_value.specs.Laws.Parts.{member_there}
use Rattle.uq_value.specs.declared.value.Value.{Value}
use Rattle.uq_model.specs.Collections.{id_name, without_id}

-- what setting one more member comes to
abbrev pub keeps_member : Bytes → Data → Pairs → Pairs
keeps_member name d ms = if bytes_eq name id_name then ms else with_member name d ms

same_either_way : (a b : Bytes) → bytes_eq a b ≡ bytes_eq b a
same_either_way a b = one_answer {P = a ≡ b} (bytes_eq a b) (bytes_eq b a) (bytes_eq-Decides a b)
    ((λ h. sym ((bytes_eq-Decides b a).0 h)), (λ e. (bytes_eq-Decides b a).1 (sym e)))

-- a name that is not among some is not among those that are kept of them
still_not : (n : Bytes) (xs : Pairs) → is_among n (names_of xs) ≡ false → is_among n (names_of (without_id xs)) ≡ false
still_not n [] h = refl
still_not n (m ∷ xs) h =
    let parts = or_parts (bytes_eq m.0 n) (is_among n (names_of xs)) h in
    let rest = still_not n xs parts.1 in
    elim (not (bytes_eq m.0 id_name)) as (λ b. is_among n
    (names_of (cond b (m ∷ without_id xs) (without_id xs))) ≡ false) [
      | true ↦ or_from (bytes_eq m.0 n) (is_among n (names_of (without_id xs))) parts.0 rest
      | false ↦ rest
    ]

-- the names before one are others
not_before : (xs : Pairs) (m : Bytes × Data) (ys : Pairs) → IsDistinct (names_of (xs ++ m ∷ ys))
    → is_among m.0 (names_of xs) ≡ false
not_before [] m ys h = refl
not_before (x ∷ xs) m ys h =
    or_from (bytes_eq x.0 m.0) (is_among m.0 (names_of xs))
    (same_either_way x.0 m.0 ∙ among_all x.0 xs m ys h.0) (not_before xs m ys h.1)
  where
    among_all : (n : Bytes) (zs : Pairs) (e : Bytes × Data) (rest : Pairs)
        → is_among n (names_of (zs ++ e ∷ rest)) ≡ false → bytes_eq e.0 n ≡ false
    among_all n [] e rest k = (or_parts (bytes_eq e.0 n) (is_among n (names_of rest)) k).0
    among_all n (z ∷ zs) e rest k = among_all n zs e rest (or_parts (bytes_eq z.0 n)
        (is_among n (names_of (zs ++ e ∷ rest))) k).1

-- none of them is `__id`
id_is_gone : (xs : Pairs) → is_among id_name (names_of (without_id xs)) ≡ false
id_is_gone [] = refl
id_is_gone (m ∷ xs) = by_name (bytes_eq m.0 id_name) refl (id_is_gone xs)
  where
    by_name : (b : Bool) → bytes_eq m.0 id_name ≡ b → is_among id_name (names_of (without_id xs)) ≡ false
        → is_among id_name (names_of (cond (not b) (m ∷ without_id xs) (without_id xs))) ≡ false
    by_name true at rest = rest
    by_name false at rest = or_from (bytes_eq m.0 id_name) (is_among id_name (names_of (without_id xs))) at rest

pub id_last : (ms : Pairs) (d : Data) → with_member id_name d (without_id ms) ≡ without_id ms ++ (id_name, d) ∷ []
id_last ms d = with_member-last id_name d (without_id ms) (id_is_gone ms)

one_more : (xs : Pairs) (m : Bytes × Data) (ys : Pairs) → IsDistinct (names_of (xs ++ m ∷ ys))
    → keeps_member m.0 m.1 (without_id xs) ≡ without_id (xs ++ m ∷ [])
one_more xs m ys h =
    by_name (bytes_eq m.0 id_name)
    ∙ sym (filter-append (λ (n : Bytes × Data). not (bytes_eq n.0 id_name)) xs (m ∷ []))
  where
    by_name : (b : Bool) → (if b then without_id xs else with_member m.0 m.1 (without_id xs)) ≡ without_id xs ++ cond
        (not b) (m ∷ []) []
    by_name true = sym (append-nil (without_id xs))
    by_name false = with_member-last m.0 m.1 (without_id xs) (still_not m.0 xs (not_before xs m ys h))

-- the members before the next place, and that one
split_at : (ms : Pairs) (at : ℕ) → at < length ms → (ys : Pairs) × (ms ≡ take at ms ++ get_or ms at ([], null) ∷ ys)
split_at [] at h = absurd (omega arith)
split_at (m ∷ ms) zero h = (ms, refl)
split_at (m ∷ ms) (suc at) h = let rest = split_at ms at (omega arith) in (rest.0, ap (λ ns. m ∷ ns) rest.1)

pub next_kept : (ms : Pairs) (at : ℕ) (name : Bytes) (v : Value) → at < length ms → IsDistinct (names_of ms)
    → ◌≡◌ {A = Option (Bytes × Value)} (Some (name, v)) (slice_get (members ms) at)
    → keeps_member name (plain v) (without_id (take at ms)) ≡ without_id (take (at + 1) ms)
next_kept ms at name v inside distinct there =
    let rest = split_at ms at inside in
    let is = (member_there ms at name v there).is in
    ap (λ (m : Bytes × Data). keeps_member m.0 m.1 (without_id (take at ms))) (sym is)
    ∙ one_more (take at ms) (get_or ms at ([], null)) rest.0 (subst (λ ns. IsDistinct (names_of ns)) rest.1 distinct)
    ∙ ap without_id (sym (take_more ms at ([], null) inside))
