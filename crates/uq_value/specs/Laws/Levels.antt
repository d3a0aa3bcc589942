-- One level of some data as a value, and back.
use Rattle.std.proofs.Common.{◌≡◌, refl, ap, sym, ◌∙◌, List, [], ◌∷◌, map}
use Rattle.uq_value.specs.Data.{Data, Datas, Pairs, Items, no_items, item, Members, no_members, member, items_of, list_of, members_of, pairs_of, null, bool, int, text, sequence, mapping}
use Rattle.uq_value.specs.Plain.{plain, value_of, items}
use Rattle.uq_value.specs.declared.value.Value.{Value}

pub list_of-items_of : (ds : Datas) → list_of (items_of ds) ≡ ds
list_of-items_of [] = refl
list_of-items_of (d ∷ ds) = ap (λ es. d ∷ es) (list_of-items_of ds)

pub items_of-list_of : (ds : Items) → items_of (list_of ds) ≡ ds
items_of-list_of no_items = refl
items_of-list_of (item d ds) = ap (item d) (items_of-list_of ds)

pub pairs_of-members_of : (ms : Pairs) → pairs_of (members_of ms) ≡ ms
pairs_of-members_of [] = refl
pairs_of-members_of (m ∷ ms) = ap (λ ns. m ∷ ns) (pairs_of-members_of ms)

pub members_of-pairs_of : (ms : Members) → members_of (pairs_of ms) ≡ ms
members_of-pairs_of no_members = refl
members_of-pairs_of (member n d ms) = ap (member n d) (members_of-pairs_of ms)

pub value_of-plain : (v : Value) → value_of (plain v) ≡ v
value_of-plain Value.Null = refl
value_of-plain (Value.Bool b) = refl
value_of-plain (Value.Int z) = refl
value_of-plain (Value.Text bs) = refl
value_of-plain (Value.List ds) = ap Value.List (list_of-items_of ds)
value_of-plain (Value.Object ms) = ap Value.Object (pairs_of-members_of ms)

pub plain-value_of : (d : Data) → plain (value_of d) ≡ d
plain-value_of null = refl
plain-value_of (bool b) = refl
plain-value_of (int z) = refl
plain-value_of (text bs) = refl
plain-value_of (sequence ds) = ap sequence (items_of-list_of ds)
plain-value_of (mapping ms) = ap mapping (members_of-pairs_of ms)

-- a value is known by its data
pub plain_one : (u v : Value) → plain u ≡ plain v → u ≡ v
plain_one u v e = sym (value_of-plain u) ∙ ap value_of e ∙ value_of-plain v

-- the values in a list of values
pub items-plain : (vs : List Value) → items (map plain vs) ≡ vs
items-plain [] = refl
items-plain (v ∷ vs) = λ i. value_of-plain v i ∷ items-plain vs i
