-- Members of an object, found by their names.
use Rattle.std.proofs.Common.{◌≡◌, ◌<◌, ℕ, zero, suc, ap, sym, ◌∙◌, arith, subst, List, [], ◌∷◌, ◌++◌, map, length, get_or, set, option_map, Some, None}
use Rattle.std.proofs.lemmas.List.{length-map, get_or-map, map-set}
use Rattle.uq_value.specs.Data.{Bytes, Data, null, Pairs, names_of, IsDistinct}
use Rattle.uq_value.specs.Places.{place_of}
use Rattle.uq_value.specs.Plain.{value_of}
use Rattle.uq_value.specs.Put.{with_member}
use Rattle.uq_value.specs.Reading.{find_member}
use Rattle.uq_value.specs.Internal.Writing.{name_at}
use Rattle.uq_value.specs.Internal.Kept.{plain_member}
use Rattle.uq_value.specs.Internal.Names.{name_of, names, IsFound}
use Rattle.uq_value.specs.declared.object.Member.{Member}
use Rattle.uq_value.proofs.Levels.{value_of-plain}
use Rattle.uq_value.proofs.Named.{Found, found_at, Absent, absent, names-added}
use Rattle.uq_value.proofs.NamePlaces.{length-names}
use Rattle.uq_value.proofs.Fields.{names-view}

module _ (ms : List Member) (name : Bytes) where
  pub place-view : place_of name (names_of (map plain_member ms)) ≡ place_of name (names ms)
  place-view = ap (λ ns. place_of name ns) (names-view ms)

  module _ (at : ℕ) (m : Member) (f : IsFound (names ms) name at) (m-is : m ≡ get_or ms at m) where
    inside : at < length ms
    inside = omega (arith, f.within, length-names ms)

    part-is : get_or (map plain_member ms) at (plain_member m) ≡ plain_member m
    part-is = get_or-map plain_member ms at m (plain_member m) inside ∙ ap (λ n. plain_member n) (sym m-is)

    pub there : Found name (map plain_member ms) at (plain_member m)
    there = subst (λ p. Found name (map plain_member ms) at p) part-is (found_at name (map plain_member ms) (plain_member m) at (sym (place-view ∙ f.place)) (omega (arith, inside, length-map ms plain_member)))

    pub member-found : find_member name (map plain_member ms) ≡ Some m.value
    member-found = ap (λ o. option_map value_of o) there.found ∙ ap (λ v. Some v) (value_of-plain m.value)

    -- the member with another value
    pub member-set : (n : Member) (d : Data) → plain_member n ≡ (name_of m, d) → map plain_member (set ms at n) ≡ with_member name d (map plain_member ms)
    member-set n d e = map-set plain_member ms at n ∙ ap (λ p. set (map plain_member ms) at p) e ∙ sym (there.written d)

    pub names-set : (n : Member) → name_of n ≡ name_of m → names (set ms at n) ≡ names ms
    names-set n e = names-same ms at inside m-is
      where
        names-same : (ks : List Member) (k : ℕ) → k < length ks → m ≡ get_or ks k m → names (set ks k n) ≡ names ks
        names-same [] k h p = absurd (omega (arith, h))
        names-same (x ∷ ks) zero h p = ap (λ y. y ∷ names ks) (e ∙ ap (λ y. name_of y) p)
        names-same (x ∷ ks) (suc k) h p = ap (λ ys. name_of x ∷ ys) (names-same ks k (omega (arith, h)) p)

  module _ (l : place_of name (names ms) ≡ length (names ms)) where
    nowhere : Absent name (map plain_member ms)
    nowhere = absent name (map plain_member ms) (place-view ∙ l ∙ length-names ms ∙ sym (length-map ms plain_member))

    pub member-missing : find_member name (map plain_member ms) ≡ None
    member-missing = ap (λ o. option_map value_of o) nowhere.nowhere

    pub member-added : (d : Data) → with_member name d (map plain_member ms) ≡ map plain_member ms ++ (name, d) ∷ []
    member-added d = nowhere.added d

    -- the names with that one behind them
    pub names-more : (after : List Member) (d : Data) → map plain_member after ≡ map plain_member ms ++ (name, d) ∷ [] → IsDistinct (names ms) → IsDistinct (names after)
    names-more after d e h =
        subst (λ ns. IsDistinct ns) (sym (ap (λ ns. names_of ns) e) ∙ names-view after)
        (names-added (map plain_member ms) name d (subst (λ ns. IsDistinct ns) (sym (names-view ms)) h) nowhere.not_among)

-- ---- as contracts see it

module _ (ms : List Member) (ps : Pairs) (view_is : map plain_member ms ≡ ps) (name : Bytes) where
  pub missing : place_of name (names ms) ≡ length (names ms) → place_of name (names_of ps) ≡ length ps
  missing l = ap (λ ns. place_of name (names_of ns)) (sym view_is) ∙ place-view ms name ∙ l ∙ length-names ms ∙ sym (length-map ms plain_member) ∙ ap (λ ns. length ns) view_is

  module _ (at : ℕ) (f : IsFound (names ms) name at) where
    pub place-there : at < length ps
    place-there = omega (arith, f.within, length-names ms, length-map ms plain_member, ap (λ ns. length ns) view_is)

    pub name-there : name_at ps at ≡ name
    name-there = (found_at name ps ([], null) at (sym (ap (λ ns. place_of name (names_of ns)) (sym view_is) ∙ place-view ms name ∙ f.place)) place-there).is_named
