-- The search for a place in one page, one cell after another.
use Rattle.std.proofs.Common.{◌≡◌, ℕ, ◌+◌, ◌-◌, ◌<◌, ◌≤◌, true, false, List, [], ◌∷◌, length, take, refl, sym, ap, subst, ◌∙◌, arith}
use Rattle.std.specs.Prelude.{All}
use Rattle.std.proofs.lemmas.List.{take_more}
use Rattle.std.proofs.lemmas.List.Elements.{All-append, All-cons, All-nil}
use Rattle.uq_page.specs.declared.layout.TheConstants.{CELLS_AT}
use Rattle.uq_hash.specs.declared.seeking.Bound.{Bound}
use Rattle.uq_hash.specs.declared.seeking.Spot.{Spot}
use Rattle.uq_hash.specs.Map.{Stored, cell}
use Rattle.uq_hash.specs.Place.{IsBefore, IsSpot, at, cells_bytes, nothing, passes}
use Rattle.uq_hash.proofs.CellLemmas.{bytes_more}

-- The first i cells are passed: the next begins at `here`, and the last of them at `last`.
pub record Passed (start : ℕ) (group : List Stored) (bound : Bound) (here last i : ℕ) : Type 0 where
  pub begins : here ≡ CELLS_AT + length (cells_bytes (take i group))
  pub last_is : 1 ≤ i → last ≡ CELLS_AT + length (cells_bytes (take (i - 1) group))
  pub before : All (IsBefore start bound) (take i group)

pub passed_none : (start : ℕ) (group : List Stored) (bound : Bound) (last : ℕ) → Passed start group bound CELLS_AT last 0
passed_none start group bound last = record { begins = refl; last_is = λ some. absurd (omega arith); before = All-nil (IsBefore start bound) }

pub passed_more : (start : ℕ) (group : List Stored) (bound : Bound) (here last i size : ℕ) (key : List ℕ) → Passed start group bound here last i → i < length group
    → key ≡ (at group i).key → passes start bound key ≡ true → size ≡ length (cell (at group i)) → Passed start group bound (here + size) here (i + 1)
passed_more start group bound here last i size key so within key_is passed size_is =
    let begins = so.begins in
    let more = bytes_more group i within in
    let back : i + 1 - 1 ≡ i = omega arith in
    record {
      begins = omega arith;
      last_is = λ some. begins ∙ ap (λ n. CELLS_AT + length (cells_bytes (take n group))) (sym back);
      before = subst (All (IsBefore start bound)) (sym (take_more group i nothing within))
          (All-append (IsBefore start bound) (take i group) (at group i ∷ []) so.before (All-cons (IsBefore start bound) (at group i) [] (ap (passes start bound) (sym key_is) ∙ passed) (All-nil (IsBefore start bound))));
    }

pub spot_here : (start : ℕ) (group : List Stored) (bound : Bound) (spot : Spot) (key : List ℕ) → Passed start group bound spot.at spot.last spot.index → spot.index < length group
    → key ≡ (at group spot.index).key → passes start bound key ≡ false → IsSpot start group bound spot
spot_here start group bound spot key so within key_is stops = record {
  within = omega arith;
  begins = so.begins;
  last = so.last_is;
  before = so.before;
  stops = λ inside. ap (passes start bound) (sym key_is) ∙ stops;
}

pub spot_end : (start : ℕ) (group : List Stored) (bound : Bound) (spot : Spot) → Passed start group bound spot.at spot.last spot.index → spot.index ≡ length group → IsSpot start group bound spot
spot_end start group bound spot so all = record {
  within = omega arith;
  begins = so.begins;
  last = so.last_is;
  before = so.before;
  stops = λ inside. absurd (omega arith);
}
