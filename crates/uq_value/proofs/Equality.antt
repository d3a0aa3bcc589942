-- Two lists or objects compared part by part.
use Rattle.std.proofs.Common.{◌≡◌, ℕ, refl, sym, ap, ◌∙◌, List, [], ◌∷◌, map, length, drop, Bool, true, false, ◌&&◌, arith}
use Rattle.std.proofs.lemmas.Bool.Decides.{Decides-int_eq}
use Rattle.std.proofs.lemmas.Slice.Eq.{bytes_eq-Decides}
use Rattle.std.specs.Bool.{Decides}
use Rattle.std.specs.Str.{bytes_eq}
use Rattle.uq_value.proofs.Levels.{value_of-plain}
use Rattle.uq_value.specs.Data.{Data, null, bool, int, text, sequence, mapping, Items, no_items, item, Members, no_members, member, items_of, members_of}
use Rattle.uq_value.specs.Plain.{plain, value_of}
use Rattle.uq_value.specs.Internal.Kept.{plain_member}
use Rattle.uq_value.specs.Same.{same, alike, data_same, items_same, members_same}
use Rattle.uq_value.specs.declared.value.Value.{Value}
use Rattle.uq_value.specs.Internal.Names.{name_of}
use Rattle.uq_value.specs.declared.object.Member.{Member}

-- the values from a place on are the same in both
abbrev pub values_same : List Value → List Value → Bool
values_same vs ws = items_same (items_of (map plain vs)) (items_of (map plain ws))

abbrev pub fields_same : List Member → List Member → Bool
fields_same ms ns = members_same (members_of (map plain_member ms)) (members_of (map plain_member ns))

abbrev pub SameFrom : {A : Type 0} → (List A → List A → Bool) → ℕ → List A → List A → Type 0
SameFrom test i xs ys = test (drop i xs) (drop i ys) ≡ test xs ys

pub values-apart : (vs ws : List Value) → (length vs ≡ length ws → ⊥) → values_same vs ws ≡ false
values-apart [] [] h = absurd (h refl)
values-apart [] (w ∷ ws) h = refl
values-apart (v ∷ vs) [] h = refl
values-apart (v ∷ vs) (w ∷ ws) h = ap (λ b. same v w && b) (values-apart vs ws (λ e. h (omega (arith, e)))) ∙ never (same v w)
  where
    never : (b : Bool) → (b && false) ≡ false
    never true = refl
    never false = refl

pub fields-apart : (ms ns : List Member) → (length ms ≡ length ns → ⊥) → fields_same ms ns ≡ false
fields-apart [] [] h = absurd (h refl)
fields-apart [] (n ∷ ns) h = refl
fields-apart (m ∷ ms) [] h = refl
fields-apart (m ∷ ms) (n ∷ ns) h = ap (λ b. bytes_eq (name_of m) (name_of n) && same m.value n.value && b) (fields-apart ms ns (λ e. h (omega (arith, e)))) ∙ never (bytes_eq (name_of m) (name_of n) && same m.value n.value)
  where
    never : (b : Bool) → (b && false) ≡ false
    never true = refl
    never false = refl

-- ---- `===` is equality

alike-Decides : (a b : Bool) → Decides (alike a b) (a ≡ b)
alike-Decides true true = (λ e. refl, λ e. refl)
alike-Decides true false = (λ e. cc, λ e. cc)
alike-Decides false true = (λ e. cc, λ e. cc)
alike-Decides false false = (λ e. refl, λ e. refl)

left-true : (a b : Bool) → (a && b) ≡ true → a ≡ true
left-true true b h = refl
left-true false b h = cc

right-true : (a b : Bool) → (a && b) ≡ true → b ≡ true
right-true true b h = h
right-true false b h = cc

mutual
  data-sound : (d e : Data) → data_same d e ≡ true → d ≡ e
  data-sound null null h = refl
  data-sound (bool a) (bool b) h = ap bool ((alike-Decides a b).0 h)
  data-sound (int a) (int b) h = ap int ((Decides-int_eq a b).0 h)
  data-sound (text a) (text b) h = ap text ((bytes_eq-Decides a b).0 h)
  data-sound (sequence ds) (sequence es) h = ap sequence (items-sound ds es h)
  data-sound (mapping ms) (mapping ns) h = ap mapping (members-sound ms ns h)
  data-sound _ _ h = cc

  items-sound : (ds es : Items) → items_same ds es ≡ true → ds ≡ es
  items-sound no_items no_items h = refl
  items-sound (item d ds) (item e es) h =
      let first : d ≡ e = data-sound d e (left-true (data_same d e) (items_same ds es) h) in
      let others : ds ≡ es = items-sound ds es (right-true (data_same d e) (items_same ds es) h) in
      λ i. item (first i) (others i)
  items-sound _ _ h = cc

  members-sound : (ms ns : Members) → members_same ms ns ≡ true → ms ≡ ns
  members-sound no_members no_members h = refl
  members-sound (member n d ms) (member o e ns) h =
      let both : (bytes_eq n o && data_same d e) ≡ true = left-true (bytes_eq n o && data_same d e) (members_same ms ns) h in
      let name : n ≡ o = (bytes_eq-Decides n o).0 (left-true (bytes_eq n o) (data_same d e) both) in
      let first : d ≡ e = data-sound d e (right-true (bytes_eq n o) (data_same d e) both) in
      let others : ms ≡ ns = members-sound ms ns (right-true (bytes_eq n o && data_same d e) (members_same ms ns) h) in
      λ i. member (name i) (first i) (others i)
  members-sound _ _ h = cc

both-true : (a b : Bool) → a ≡ true → b ≡ true → (a && b) ≡ true
both-true a b p q = ap (λ x. x && b) p ∙ q

mutual
  data-same : (d : Data) → data_same d d ≡ true
  data-same null = refl
  data-same (bool a) = (alike-Decides a a).1 refl
  data-same (int a) = (Decides-int_eq a a).1 refl
  data-same (text a) = (bytes_eq-Decides a a).1 refl
  data-same (sequence ds) = items-same ds
  data-same (mapping ms) = members-same ms

  items-same : (ds : Items) → items_same ds ds ≡ true
  items-same no_items = refl
  items-same (item d ds) = both-true (data_same d d) (items_same ds ds) (data-same d) (items-same ds)

  members-same : (ms : Members) → members_same ms ms ≡ true
  members-same no_members = refl
  members-same (member n d ms) = both-true (bytes_eq n n && data_same d d) (members_same ms ms) (both-true (bytes_eq n n) (data_same d d) ((bytes_eq-Decides n n).1 refl) (data-same d)) (members-same ms)

pub same-Decides : (a b : Value) → Decides (same a b) (a ≡ b)
same-Decides a b = (
  λ h. sym (value_of-plain a) ∙ ap value_of (data-sound (plain a) (plain b) h) ∙ value_of-plain b,
  λ e. ap (λ c. same a c) (sym e) ∙ data-same (plain a),
)
