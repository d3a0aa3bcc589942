-- The parts of a list or object by their places. Each is a value, and less deep than the whole.
use Rattle.std.proofs.Common.{◌≡◌, ℕ, zero, suc, ◌<◌, ◌≤◌, ◌+◌, [], ◌∷◌, length, get_or, slice_get, Option, Some, None, sym, ap, ◌∙◌, arith, subst}
use Rattle.uq_value.specs.Data.{Bytes, Data, Datas, Pairs, null, text, items_of, members_of, list, object, names_of, IsDistinct}
use Rattle.uq_value.specs.Size.{data_size, items_size, members_size, name_size}
use Rattle.uq_value.specs.Depth.{data_depth, items_depth, members_depth}
use Rattle.uq_value.specs.IsValue.{IsValue, ItemsAreSound, MembersAreSound, IsSound}
use Rattle.uq_value.specs.Plain.{plain, value_of, items, members}
use Rattle.uq_value.specs.declared.value.Value.{Value}
use Rattle.uq_value.specs.Laws.Levels.{plain-value_of, pairs_of-members_of}

pub record ItemAt (ds : Datas) (at : ℕ) (v : Value) : Type 0 where
  pub is : get_or ds at null ≡ plain v
  pub less_deep : data_depth (plain v) ≤ items_depth (items_of ds)

value_one : (v w : Value) → Some v ≡ Some w → v ≡ w
value_one v w e = cc

pub item_there : (ds : Datas) (at : ℕ) (v : Value) → Some v ≡ slice_get (items ds) at → ItemAt ds at v
item_there [] at v e = absurd (cc)
item_there (d ∷ ds) zero v e =
    let same : d ≡ plain v = sym (plain-value_of d) ∙ ap plain (sym (value_one v (value_of d) e)) in
    record { is = same; less_deep = omega (arith, ap data_depth same) }
item_there (d ∷ ds) (suc at) v e = let there = item_there ds at v e in record { is = there.is; less_deep = omega (arith, there.less_deep) }

pub item_not_there : (ds : Datas) (at : ℕ) → at < length ds → ◌≡◌ {A = Option Value} None (slice_get (items ds) at) → ⊥
item_not_there [] at h e = omega (arith, h)
item_not_there (d ∷ ds) zero h e = cc
item_not_there (d ∷ ds) (suc at) h e = item_not_there ds at (omega (arith, h)) e

pub record MemberAt (ms : Pairs) (at : ℕ) (name : Bytes) (v : Value) : Type 0 where
  pub is : get_or ms at ([], null) ≡ (name, plain v)
  pub less_deep : data_depth (plain v) ≤ members_depth (members_of ms)

abbrev pair_in : Bytes × Data → Option (Bytes × Value) → Bytes × Data
pair_in d None = d
pair_in d (Some x) = (x.0, plain x.1)

pub member_there : (ms : Pairs) (at : ℕ) (name : Bytes) (v : Value) → ◌≡◌ {A = Option (Bytes × Value)} (Some (name, v)) (slice_get (members ms) at) → MemberAt ms at name v
member_there [] at name v e = absurd (cc)
member_there (m ∷ ms) zero name v e =
    let same : m ≡ (name, plain v) = sym (ap (λ d. (m.0, d)) (plain-value_of m.1)) ∙ sym (ap (pair_in m) e) in
    record { is = same; less_deep = omega (arith, ap (λ (n : Bytes × Data). data_depth n.1) same) }
member_there (m ∷ ms) (suc at) name v e = let there = member_there ms at name v e in record { is = there.is; less_deep = omega (arith, there.less_deep) }

pub member_not_there : (ms : Pairs) (at : ℕ) → at < length ms → ◌≡◌ {A = Option (Bytes × Value)} None (slice_get (members ms) at) → ⊥
member_not_there [] at h e = omega (arith, h)
member_not_there (m ∷ ms) zero h e = cc
member_not_there (m ∷ ms) (suc at) h e = member_not_there ms at (omega (arith, h)) e

-- ---- parts of values are values

item_sound : (ds : Datas) (at : ℕ) → at < length ds → ItemsAreSound (items_of ds) → IsSound (get_or ds at null)
item_sound [] at h s = absurd (omega (arith, h))
item_sound (d ∷ ds) zero h s = s.0
item_sound (d ∷ ds) (suc at) h s = item_sound ds at (omega (arith, h)) s.1

item_small : (ds : Datas) (at : ℕ) → at < length ds → data_size (get_or ds at null) ≤ items_size (items_of ds)
item_small [] at h = absurd (omega (arith, h))
item_small (d ∷ ds) zero h = omega arith
item_small (d ∷ ds) (suc at) h = omega (arith, item_small ds at (omega (arith, h)))

item_shallow : (ds : Datas) (at : ℕ) → at < length ds → data_depth (get_or ds at null) ≤ items_depth (items_of ds)
item_shallow [] at h = absurd (omega (arith, h))
item_shallow (d ∷ ds) zero h = omega arith
item_shallow (d ∷ ds) (suc at) h = omega (arith, item_shallow ds at (omega (arith, h)))

pub item_is_value : (ds : Datas) (at : ℕ) → at < length ds → IsValue (list ds) → IsValue (get_or ds at null)
item_is_value ds at h v = record {
  sound = item_sound ds at h v.sound;
  small = omega (arith, item_small ds at h, v.small);
  shallow = omega (arith, item_shallow ds at h, v.shallow);
}

member_sound : (ms : Pairs) (at : ℕ) → at < length ms → MembersAreSound (members_of ms) → IsSound (get_or ms at ([], null)).1
member_sound [] at h s = absurd (omega (arith, h))
member_sound (m ∷ ms) zero h s = s.0
member_sound (m ∷ ms) (suc at) h s = member_sound ms at (omega (arith, h)) s.1

member_small : (ms : Pairs) (at : ℕ) → at < length ms → name_size (get_or ms at ([], null)).0 + data_size (get_or ms at ([], null)).1 ≤ members_size (members_of ms)
member_small [] at h = absurd (omega (arith, h))
member_small (m ∷ ms) zero h = omega arith
member_small (m ∷ ms) (suc at) h = omega (arith, member_small ms at (omega (arith, h)))

member_shallow : (ms : Pairs) (at : ℕ) → at < length ms → data_depth (get_or ms at ([], null)).1 ≤ members_depth (members_of ms)
member_shallow [] at h = absurd (omega (arith, h))
member_shallow (m ∷ ms) zero h = omega arith
member_shallow (m ∷ ms) (suc at) h = omega (arith, member_shallow ms at (omega (arith, h)))

pub member_is_value : (ms : Pairs) (at : ℕ) → at < length ms → IsValue (object ms) → IsValue (get_or ms at ([], null)).1
member_is_value ms at h v = record {
  sound = member_sound ms at h v.sound.1;
  small = omega (arith, member_small ms at h, v.small);
  shallow = omega (arith, member_shallow ms at h, v.shallow);
}

-- and each name fits a text
pub name_fits : (ms : Pairs) (at : ℕ) → at < length ms → IsValue (object ms) → IsValue (text (get_or ms at ([], null)).0)
name_fits ms at h v = record { sound = tt; small = omega (arith, member_small ms at h, v.small); shallow = omega arith }

pub names_distinct : (ms : Pairs) → IsValue (object ms) → IsDistinct (names_of ms)
names_distinct ms v = subst (λ ns. IsDistinct (names_of ns)) (pairs_of-members_of ms) v.sound.0
