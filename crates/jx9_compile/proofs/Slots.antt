-- Variables in slots.
use Rattle.std.proofs.Common.{◌≡◌, ℕ, zero, suc, List, [], ◌∷◌, Some, refl, sym, ap, ◌∙◌, subst}
use Rattle.std.specs.Prelude.{false, if◌then◌else◌, map, slice_get, slice_set, unwrap_or, option_map}
use Rattle.std.specs.Str.{bytes_eq}
use Rattle.std.proofs.lemmas.Option.{none-some, same_Some, slice_get-map}
use Rattle.uq_value.specs.Data.{Bytes}
use Rattle.uq_value.specs.declared.value.Value.{Value}
use Rattle.jx9_meaning.specs.World.{Named, changed}
use Rattle.jx9_compile.specs.Slots.{IsAbsent, AreDistinct}

pub slot_value : (names : List Bytes) (own : Named Value) (slot : ℕ) (name : Bytes) → slice_get names slot ≡ Some name
    → unwrap_or (slice_get (map own names) slot) Value.Null ≡ own name
slot_value names own slot name h = ap (λ o. unwrap_or o Value.Null) (slice_get-map own names slot ∙ ap (λ o. option_map own o) h)

-- a name that is absent keeps its slots
kept : (names : List Bytes) (own : Named Value) (name : Bytes) (v : Value) → IsAbsent name names → map own names ≡ map (changed own name v) names
kept [] own name v h = refl
kept (n ∷ ns) own name v h =
    ap (λ b. (if b then v else own n) ∷ map own ns) (sym h.0) ∙ ap (λ vs. changed own name v n ∷ vs) (kept ns own name v h.2)

absent_at : (names : List Bytes) (n name : Bytes) (slot : ℕ) → IsAbsent n names → slice_get names slot ≡ Some name → bytes_eq n name ≡ false
absent_at [] n name slot a h = absurd (none-some name h)
absent_at (m ∷ ms) n name zero a h = subst (λ x. bytes_eq n x ≡ false) (same_Some m name h) a.1
absent_at (m ∷ ms) n name (suc slot) a h = absent_at ms n name slot a.2 h

pub slots_written : (names : List Bytes) (own : Named Value) (slot : ℕ) (name : Bytes) (v : Value) → AreDistinct names → slice_get names slot ≡ Some name
    → slice_set (map own names) slot v ≡ map (changed own name v) names
slots_written [] own slot name v d h = absurd (none-some name h)
slots_written (n ∷ ns) own zero name v d h =
    subst (λ m. v ∷ map own ns ≡ map (changed own m v) (n ∷ ns)) (same_Some n name h)
    (ap (λ b. (if b then v else own n) ∷ map own ns) (sym d.0) ∙ ap (λ vs. changed own n v n ∷ vs) (kept ns own n v d.1))
slots_written (n ∷ ns) own (suc slot) name v d h =
    ap (λ vs. own n ∷ vs) (slots_written ns own slot name v d.2 h)
    ∙ ap (λ b. (if b then v else own n) ∷ map (changed own name v) ns) (sym (absent_at ns n name slot d.1 h))
