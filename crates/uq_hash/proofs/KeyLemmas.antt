-- What stands behind the place of a key.
use Rattle.std.proofs.Common.{◌≡◌, ℕ, Bor, List, [], ◌∷◌, ◌++◌, length, Option, None, Some, refl, sym, ap, subst, ◌∙◌, arith, is_some}
use Rattle.std.specs.Prelude.{All, IsSomeAnd}
use Rattle.std.specs.FinMap.{contains_key, get}
use Rattle.std.proofs.lemmas.List.Elements.{All-cons, All-head, All-nil}
use Rattle.uq_page.specs.declared.header.Header.{Header}
use Rattle.uq_hash.specs.declared.opening.Open.{Open}
use Rattle.uq_hash.specs.declared.seeking.Bound.TheVariants.{Before}
use Rattle.uq_hash.specs.declared.searching.Standing.{Standing}
use Rattle.uq_hash.specs.declared.searching.Standing.TheVariants.{Cell as AtCell, Nothing}
use Rattle.uq_hash.specs.Changed.{AreOld}
use Rattle.uq_hash.specs.Laid.{replaced}
use Rattle.uq_hash.specs.Map.{HasValue, HoldsMap, IsStored, Map, Stored}
use Rattle.uq_hash.specs.Open.{OpensAt}
use Rattle.uq_hash.specs.Standing.{IsKeyed, front_of, has_cell, rest_of}
use Rattle.uq_hash.specs.WalkOrder.{hash_start}
use Rattle.uq_hash.proofs.FindLemmas.{key_entry, key_missed}
use Rattle.uq_hash.proofs.HeldLemmas.{in_bucket}
use Rattle.uq_hash.proofs.OpenLemmas.{all_right}
use Rattle.uq_hash.proofs.SplitLemmas.{split_at, split_unique}
use Rattle.uq_hash.proofs.SumLemmas.{IsOldOf}

-- What stood behind the place of a key, and what goes on there.
pub record Olds (pages : List (List ℕ)) (rest : List Stored) (key : List ℕ) (standing : Standing) : Type 0 where
  pub olds : List Stored
  pub others : List Stored
  pub is : rest ≡ olds ++ others
  pub gone : length olds ≡ replaced (has_cell standing)
  pub old : AreOld pages olds standing
  pub has : All (HasValue pages) olds
  pub same : (it : Stored) → olds ≡ it ∷ [] → it.key ≡ key
  pub other : olds ≡ [] → (it : Stored) (more : List Stored) → others ≡ it ∷ more → it.key ≡ key → ⊥

pub olds_of : (pages : List (List ℕ)) (rest : List Stored) (key : List ℕ) (standing : Standing) → All IsStored rest → All (HasValue pages) rest → IsKeyed rest key standing → Olds pages rest key standing
olds_of pages [] key (AtCell seen) sizes values keyed = absurd keyed
olds_of pages [] key Nothing sizes values keyed = record {
  olds = [];
  others = [];
  is = refl;
  gone = refl;
  old = tt;
  has = All-nil (HasValue pages);
  same = λ it is. let long = ap length is in absurd (omega arith);
  other = λ none it more is same. let long = ap length is in absurd (omega arith);
}
olds_of pages (it ∷ rest) key (AtCell seen) sizes values keyed = record {
  olds = it ∷ [];
  others = rest;
  is = refl;
  gone = refl;
  old = record { stored = All-head IsStored it rest sizes; has = All-head (HasValue pages) it rest values; long = keyed.0.long; bytes_are = keyed.0.bytes };
  has = All-cons (HasValue pages) it [] (All-head (HasValue pages) it rest values) (All-nil (HasValue pages));
  same = λ x is. ap (λ (xs : List Stored). (first_or it xs).key) (sym is) ∙ keyed.1;
  other = λ none. let long = ap length none in absurd (omega arith);
}
  where
    first_or : Stored → List Stored → Stored
    first_or d [] = d
    first_or d (x ∷ xs) = x
olds_of pages (it ∷ rest) key Nothing sizes values keyed = record {
  olds = [];
  others = it ∷ rest;
  is = refl;
  gone = refl;
  old = tt;
  has = All-nil (HasValue pages);
  same = λ x is. let long = ap length is in absurd (omega arith);
  other = λ none x more is same. keyed (ap (λ (xs : List Stored). (first_or it xs).key) is ∙ same);
}
  where
    first_or : Stored → List Stored → Stored
    first_or d [] = d
    first_or d (x ∷ xs) = x

-- what stood there is the same where its value stays
pub old_there : (before after : List (List ℕ)) (olds : List Stored) (standing : Standing) → AreOld before olds standing → All (HasValue after) olds → AreOld after olds standing
old_there before after [] (AtCell seen) old has = absurd old
old_there before after [] Nothing old has = tt
old_there before after (it ∷ []) (AtCell seen) old has = record { stored = old.stored; has = All-head (HasValue after) it [] has; long = old.long; bytes_are = old.bytes_are }
old_there before after (it ∷ []) Nothing old has = absurd old
old_there before after (it ∷ next ∷ more) standing old has = absurd old

-- A key's place in the map's bucket, with what stands behind it.
pub record AtKey (before : List (List ℕ)) (header : Header) (m : Map) (held : HoldsMap before header m) (key : Bor (List ℕ)) (it : Open) (standing : Standing) : Type 0 where
  pub at : OpensAt before header held.buckets key it
  pub keyed : IsKeyed (rest_of at.here.found.stands) key.now standing

pub at_key : (before : List (List ℕ)) (header : Header) (m : Map) (held : HoldsMap before header m) (key : Bor (List ℕ)) (it : Open) (standing : Standing) (found : Option Standing) → found ≡ Some standing
    → (at : OpensAt before header held.buckets key it) → IsSomeAnd found (IsKeyed (rest_of at.here.found.stands) key.now) → AtKey before header m held key it standing
at_key before header m held key it standing found is at keyed = record { at = at; keyed = subst (λ (o : Option Standing). IsSomeAnd o (IsKeyed (rest_of at.here.found.stands) key.now)) is keyed }

-- the entries behind the place, on whichever page that was found
pub near_olds : (before : List (List ℕ)) (header : Header) (m : Map) (held : HoldsMap before header m) (key : Bor (List ℕ)) (it : Open) (standing : Standing) (so : AtKey before header m held key it standing)
    → Olds before (rest_of so.at.near.found.stands) key.now standing
near_olds before header m held key it standing so =
    let at = so.at in
    let chained = (in_bucket before header m key.now held at.bucket at.for).chained in
    let here = split_at (hash_start header) before at.bucket.row at.bucket.cells (Before key) it.place.no it.place.spot at.here.found.stands in
    let near = split_at (hash_start header) before at.bucket.row at.bucket.cells (Before key) it.near.no it.near.spot at.near.found.stands in
    let same = (split_unique (hash_start header) (Before key) _ _ _ _ (sym here.is ∙ near.is) here.before near.before here.stops near.stops).1 in
    let front = front_of at.near.found.stands in
    let rest = rest_of at.near.found.stands in
    olds_of before rest key.now standing (all_right IsStored front rest (subst (All IsStored) near.is chained.sizes)) (all_right (HasValue before) front rest (subst (All (HasValue before)) near.is chained.values))
    (subst (λ (xs : List Stored). IsKeyed xs key.now standing) same so.keyed)

-- what stands there is the cell of the key's value, or nothing where it has none
pub old_of : (before : List (List ℕ)) (header : Header) (m : Map) (held : HoldsMap before header m) (key : Bor (List ℕ)) (it : Open) (standing : Standing) → AtKey before header m held key it standing → IsOldOf standing (get m key.now)
old_of before header m held key it standing so = by_standing standing so.keyed
  where
    by_standing : (seen : Standing) → IsKeyed (rest_of so.at.here.found.stands) key.now seen → IsOldOf seen (get m key.now)
    by_standing (AtCell seen) keyed =
        let within = in_bucket before header m key.now held so.at.bucket so.at.for in
        let entry = key_entry (hash_start header) before so.at.bucket.row so.at.bucket.cells key it.place so.at.here.found.stands seen within.chained keyed in
        subst (λ (old : Option (List ℕ)). IsOldOf (AtCell seen) old) (sym entry.found ∙ within.found) entry.is.long
    by_standing Nothing keyed =
        let within = in_bucket before header m key.now held so.at.bucket so.at.for in
        let missed = key_missed (hash_start header) before so.at.bucket.row so.at.bucket.cells key it.place so.at.here.found.stands within.chained keyed in
        subst (λ (old : Option (List ℕ)). IsOldOf Nothing old) (sym missed ∙ within.found) tt

-- and tells whether the map has the key
pub there_is : (m : Map) (key : List ℕ) (standing : Standing) → IsOldOf standing (get m key) → has_cell standing ≡ contains_key m key
there_is m key standing is = by_old standing (get m key) is
  where
    by_old : (standing : Standing) (old : Option (List ℕ)) → IsOldOf standing old → has_cell standing ≡ is_some old
    by_old (AtCell seen) None is = absurd is
    by_old (AtCell seen) (Some value) is = refl
    by_old Nothing None is = refl
    by_old Nothing (Some value) is = absurd is
