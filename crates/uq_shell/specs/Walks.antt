-- The user's stored keys in walk order, as functions of what is stored.
use Rattle.std.specs.Prelude.{ℕ, Bool, true, false, not, ◌&&◌, if◌then◌else◌, List, [], ◌∷◌, Option, Some, None, filter}
use Rattle.std.specs.FinMap.{keys}
use Rattle.std.specs.List.{list_all}
use Rattle.std.specs.declared.cmp.Ordering.{Ordering}
use Rattle.std.specs.declared.cmp.Ordering.TheVariants.{Less, Equal, Greater}
use Rattle.uq_hash.specs.WalkOrder.{walk_cmp}
use Rattle.uq_kv.specs.Stored.{Stored}
use Rattle.uq_kv.specs.Users.{is_of_keys, walk_start}

abbrev pub is_less : Ordering → Bool
is_less Less = true
is_less Equal = false
is_less Greater = false

abbrev pub is_before : List ℕ → List ℕ → Bool
is_before a b = is_less (walk_cmp walk_start a b)

-- the first in this list for which it holds
abbrev pub first_with : (List ℕ → Bool) → List (List ℕ) → Option (List ℕ)
first_with test [] = None
first_with test (key ∷ others) = if test key then Some key else first_with test others

-- the key before which none of these is, and the one behind which none is
abbrev pub least : List (List ℕ) → Option (List ℕ)
least them = first_with (λ key. list_all (λ other. not (is_before other key)) them) them

abbrev pub greatest : List (List ℕ) → Option (List ℕ)
greatest them = first_with (λ key. list_all (λ other. not (is_before key other)) them) them

-- the user's stored keys for which it holds
abbrev pub users : (List ℕ → Bool) → Stored → List (List ℕ)
users test stored = filter (λ key. test key && is_of_keys key) (keys stored)

-- from where the cursor stands; first and last ask nothing of that
abbrev pub first_key : Option (List ℕ) → Stored → Option (List ℕ)
first_key at stored = least (users (λ _. true) stored)

abbrev pub last_key : Option (List ℕ) → Stored → Option (List ℕ)
last_key at stored = greatest (users (λ _. true) stored)

abbrev pub next_key : Option (List ℕ) → Stored → Option (List ℕ)
next_key None stored = None
next_key (Some at) stored = least (users (λ other. is_before at other) stored)

abbrev pub prev_key : Option (List ℕ) → Stored → Option (List ℕ)
prev_key None stored = None
prev_key (Some at) stored = greatest (users (λ other. is_before other at) stored)
