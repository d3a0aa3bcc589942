-- What is made of the members of an object and an id.
use Rattle.std.proofs.Common.{◌≡◌, ℕ, ◌≤◌, Bool, true, false, cond, not, max, ℤ, pos, [], ◌∷◌, ◌++◌, Ok, Err, sym, ap, ◌∙◌, bytes_eq, arith}
use Rattle.uq_value.specs.Data.{Bytes, Pairs, int, object, members_of}
use Rattle.uq_value.specs.Depth.{data_depth, members_depth}
use Rattle.uq_value.specs.Size.{most_size}
use Rattle.uq_value.specs.IsValue.{IsValue}
use Rattle.uq_value.specs.Plain.{size, depth}
use Rattle.uq_value.specs.Put.{Put, limited, with_member}
use Rattle.uq_value.specs.Laws.Growth.{members-depth-push}
use Rattle.uq_value.specs.Laws.Limits.{Case, case_of, allowed, too_deep, too_large, limited-ok}
use Rattle.uq_value.specs.declared.value.Value.{Value}
use Rattle.uq_value.specs.declared.error.ValueFault.TheVariants.{NotContainer, IndexRange, TooDeep, TooLarge}
use Rattle.uq_model.specs.declared.done.Refusal.TheVariants.{RecordTooLarge}
use Rattle.uq_model.specs.Collections.{Checked, id_name, without_id, record_of, is_small, record_within}
use Rattle.uq_model.specs.IsStore.{IsWithin}
use Rattle.uq_model.proofs.KeptMembers.{id_last}

abbrev pub members_made : ℕ → Pairs → Pairs
members_made id ms = without_id ms ++ (id_name, int (pos id)) ∷ []

-- the members that a builder has in the end
pub built : (id : ℕ) (ms kept done : Pairs) (name : Bytes) (z : ℤ) → kept ≡ without_id ms → name ≡ id_name → z ≡ pos id
    → done ≡ with_member name (int z) kept → done ≡ members_made id ms
built id ms kept done name z k n i is =
    is ∙ (λ j. with_member (n j) (int (i j)) (k j)) ∙ id_last ms (int (pos id))

less_deep : (ms : Pairs) → members_depth (members_of (without_id ms)) ≤ members_depth (members_of ms)
less_deep [] = omega arith
less_deep (m ∷ ms) =
    let rest = less_deep ms in
    elim (not (bytes_eq m.0 id_name)) as (λ b. members_depth
    (members_of (cond b (m ∷ without_id ms) (without_id ms))) ≤ max (data_depth m.1)
    (members_depth (members_of ms))) [
      | true ↦ omega (arith, rest)
      | false ↦ omega (arith, rest)
    ]

pub never_deep : (id : ℕ) (ms done : Pairs) → IsValue (object ms) → done ≡ members_made id ms
    → limited (Value.Object done) ≡ Err TooDeep → ⊥
never_deep id ms done is made e = by (case_of (Value.Object done))
  where
    by : Case (Value.Object done) → ⊥
    by (allowed d s q) = let both : ◌≡◌ {A = Put Value} (Ok (Value.Object done)) (Err TooDeep) = sym q ∙ e in cc
    by (too_large d s q) = let both : ◌≡◌ {A = Put Value} (Err TooLarge) (Err TooDeep) = sym q ∙ e in cc
    by (too_deep d q) =
        let same = ap (λ (ks : Pairs). data_depth (object ks)) made in
        omega (arith, d, same, members-depth-push (without_id ms) id_name (int (pos id)), less_deep ms, is.shallow)

pub never_no_container : (v : Value) → limited v ≡ Err NotContainer → ⊥
never_no_container v e = by (case_of v)
  where
    by : Case v → ⊥
    by (allowed d s q) = let both : ◌≡◌ {A = Put Value} (Ok v) (Err NotContainer) = sym q ∙ e in cc
    by (too_large d s q) = let both : ◌≡◌ {A = Put Value} (Err TooLarge) (Err NotContainer) = sym q ∙ e in cc
    by (too_deep d q) = let both : ◌≡◌ {A = Put Value} (Err TooDeep) (Err NotContainer) = sym q ∙ e in cc

pub never_out_of_range : (v : Value) → limited v ≡ Err IndexRange → ⊥
never_out_of_range v e = by (case_of v)
  where
    by : Case v → ⊥
    by (allowed d s q) = let both : ◌≡◌ {A = Put Value} (Ok v) (Err IndexRange) = sym q ∙ e in cc
    by (too_large d s q) = let both : ◌≡◌ {A = Put Value} (Err TooLarge) (Err IndexRange) = sym q ∙ e in cc
    by (too_deep d q) = let both : ◌≡◌ {A = Put Value} (Err TooDeep) (Err IndexRange) = sym q ∙ e in cc

abbrev if_small : Bool → Value → Checked Value
if_small b v = cond b (Ok v) (Err RecordTooLarge)

pub made_within : (id : ℕ) (ms done made : Pairs) → done ≡ members_made id ms
    → limited (Value.Object done) ≡ Ok (Value.Object made)
    → (record_within id ms ≡ Ok (Value.Object made)) × IsWithin (Value.Object made)
made_within id ms done made is e =
    let ok = limited-ok (Value.Object done) (Value.Object made) e in
    let same : record_of id ms ≡ Value.Object made = ap Value.Object (sym is) ∙ ok.same in
    let less : size (Value.Object made) ≤ most_size = omega (arith, ok.small, ap size ok.same) in
    let small : is_small (Value.Object made) ≡ true = grind (arith, less) in (
      ap (λ v. if_small (is_small v) v) same ∙ ap (λ b. if_small b (Value.Object made)) small,
      record { small = less; shallow = omega (arith, ok.shallow, ap depth ok.same) },
    )

pub made_too_large : (id : ℕ) (ms done : Pairs) → done ≡ members_made id ms
    → limited (Value.Object done) ≡ Err TooLarge → record_within id ms ≡ Err RecordTooLarge
made_too_large id ms done is e = by (case_of (Value.Object done))
  where
    by : Case (Value.Object done) → record_within id ms ≡ Err RecordTooLarge
    by (allowed d s q) = absurd (let both : ◌≡◌ {A = Put Value} (Ok (Value.Object done)) (Err TooLarge) = sym q ∙ e in
        let f : ⊥ = cc in f)
    by (too_deep d q) = absurd (let both : ◌≡◌ {A = Put Value} (Err TooDeep) (Err TooLarge) = sym q ∙ e in
        let f : ⊥ = cc in f)
    by (too_large d s q) =
        let large : is_small (Value.Object done) ≡ false = grind (arith, s) in
        ap (λ ks. if_small (is_small (Value.Object ks)) (Value.Object ks)) (sym is)
        ∙ ap (λ b. if_small b (Value.Object done)) large
