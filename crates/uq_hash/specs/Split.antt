-- Entries in walk order, cut at a bound.
use Rattle.std.specs.Prelude.{◌≡◌, ℕ, List, [], ◌∷◌, ◌++◌, All, Option, None, Some}
use Rattle.uq_hash.specs.declared.seeking.Bound.{Bound}
use Rattle.uq_hash.specs.Bucket.{WhereChained}
use Rattle.uq_hash.specs.Map.{Stored}
use Rattle.uq_hash.specs.Place.{IsBefore, StopsAt}

-- the entries are those before the bound, and then others, of which the first does not lie before it
pub record Split (start : ℕ) (cells : List Stored) (bound : Bound) (front rest : List Stored) : Type 0 where
  pub is : cells ≡ front ++ rest
  pub before : All (IsBefore start bound) front
  pub stops : StopsAt start bound rest

-- the key of the first of these entries, and that of the last
abbrev pub first_key : List Stored → Option (List ℕ)
first_key [] = None
first_key (it ∷ rest) = Some it.key

abbrev pub last_key : List Stored → Option (List ℕ)
last_key [] = None
last_key (it ∷ []) = Some it.key
last_key (it ∷ next ∷ rest) = last_key (next ∷ rest)

-- the entries of a bucket cut at a bound, and a key of theirs
pub record Cut (start : ℕ) (cells : List Stored) (bound : Bound) (key_of : List Stored → List Stored → Option (List ℕ)) (found : Option (List ℕ)) : Type 0 where
  pub front : List Stored
  pub rest : List Stored
  pub split : Split start cells bound front rest
  pub is : found ≡ key_of front rest

-- where the pages are told and a bucket begins there, this is its first key behind the bound, or its last before it
abbrev pub GivesBehind : ℕ → Option (List (List ℕ)) → ℕ → Bound → Option (List ℕ) → Type 0
GivesBehind start told first bound found = WhereChained start told first (λ pages row cells. Cut start cells bound (λ front rest. first_key rest) found)

abbrev pub GivesBefore : ℕ → Option (List (List ℕ)) → ℕ → Bound → Option (List ℕ) → Type 0
GivesBefore start told first bound found = WhereChained start told first (λ pages row cells. Cut start cells bound (λ front rest. last_key front) found)
