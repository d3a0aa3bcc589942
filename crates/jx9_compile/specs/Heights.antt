-- The table of heights that tells which ops are bad.
use Rattle.std.specs.Prelude.{◌≡◌, ℕ, ◌+◌, ◌*◌, ◌^◌, ◌<◌, ◌≤◌, ◌||◌, ◌&&◌, Bool, true, false, if◌then◌else◌, nat_eq, nat_le, nat_lt, List, [], ◌∷◌, ◌++◌, length, Option, Some, None, MatchOption, ◌⊎◌, slice_get, slice_set, slice_index_or}
use Rattle.std.specs.List.{sum_by, Contains}
use Rattle.jx9_compile.specs.Assembled.{LeadsTo, Way, HasTwoHeights}
use Rattle.jx9_compile.specs.Shape.{goes_on, jump_of, callee_of, puts, slot_of, takes}
use Rattle.jx9_compile.specs.declared.function.Function.{Function}
use Rattle.jx9_compile.specs.declared.heights.Height.{Height}
use Rattle.jx9_compile.specs.declared.heights.Seen.{Seen}
use Rattle.jx9_compile.specs.declared.heights.Seen.TheVariants.{Unseen, Once, Twice}
use Rattle.jx9_compile.specs.declared.op.Op.{Op}

-- ---- an entry

-- behind an op
abbrev pub seen_after : Seen → Op → Seen
seen_after Unseen op = Unseen
seen_after (Once h) op = Once (record { put = h.put + puts op; taken = h.taken + takes op })
seen_after Twice op = Twice

-- the stack is as high
abbrev pub as_high : Height → Height → Bool
as_high g h = nat_eq (g.put + h.taken) (h.put + g.taken)

-- what is known with these heights besides, where that is more
abbrev pub seen_with : Seen → Seen → Option Seen
seen_with known Unseen = None
seen_with Unseen (Once h) = Some (Once h)
seen_with (Once g) (Once h) = if as_high g h then None else Some Twice
seen_with Twice (Once h) = None
seen_with Unseen Twice = Some Twice
seen_with (Once g) Twice = Some Twice
seen_with Twice Twice = None

-- this height is among those that are known
abbrev pub Covers : Seen → ℕ → ℕ → Type 0
Covers Unseen put taken = ⊥
Covers (Once h) put taken = h.put + taken ≡ put + h.taken
Covers Twice put taken = Unit {0}

-- what is known is so
abbrev pub IsSound : List Op → ℕ → Seen → Type 0
IsSound ops at Unseen = Unit {0}
IsSound ops at (Once h) = Way ops at h.put h.taken
IsSound ops at Twice = HasTwoHeights ops at

-- how often more may still become known
abbrev pub spare : Seen → ℕ
spare Unseen = 2
spare (Once h) = 1
spare Twice = 0

-- The numbers stay small: an op is followed at most twice. So much is still to do, of n ops.
abbrev pub IsBounded : ℕ → ℕ → Seen → Type 0
IsBounded n still Unseen = Unit {0}
IsBounded n still (Once h) = h.put + h.taken + 2 ^ 33 * still ≤ 2 ^ 34 * n
IsBounded n still Twice = Unit {0}

-- so that they and their sums fit in 128 bits
abbrev pub IsSmall : Seen → Type 0
IsSmall Unseen = Unit {0}
IsSmall (Once h) = h.put + h.taken < 2 ^ 80
IsSmall Twice = Unit {0}

-- ---- the table

-- nothing is known beyond its end
abbrev pub seen_at : List Seen → ℕ → Seen
seen_at table at = slice_index_or table at Unseen

-- the table and the ops that are still to be followed, after more is known of one op, if that is one and there is more
abbrev pub IsReached : List Seen → List ℕ → List Seen → List ℕ → Option ℕ → Seen → Type 0
IsReached table work table' work' None seen = (table' ≡ table) × (work' ≡ work)
IsReached table work table' work' (Some to) seen =
    MatchOption (if nat_lt to (length table) then seen_with (seen_at table to) seen else None)
    ((table' ≡ table) × (work' ≡ work)) (λ more. (table' ≡ slice_set table to more) × (work' ≡ work ++ to ∷ []))

-- the heights behind an op are known at each op to which it leads
abbrev pub IsFollowed : List Op → List Seen → ℕ → Type 0
IsFollowed ops table at =
    (op : Op) (to put taken : ℕ) → slice_get ops at ≡ Some op → LeadsTo op at to → to < length ops
    → Covers (seen_at table at) put taken → Covers (seen_at table to) (put + puts op) (taken + takes op)

-- so much is still to do
abbrev pub still_of : List Seen → List ℕ → ℕ
still_of table work = sum_by spare table + length work

-- The table while ops are still to be followed: these, and those of which `Open` holds.
pub record IsTable (ops : List Op) (Open : ℕ → Type 0) (table : List Seen) (work : List ℕ) : Type 0 where
  pub long : length table ≡ length ops
  pub begun : Covers (seen_at table 0) 0 0
  pub listed : (at : ℕ) → Contains work at → at < length ops
  pub sound : (at : ℕ) → IsSound ops at (seen_at table at)
  pub bounded : (at : ℕ) → IsBounded (length ops) (still_of table work) (seen_at table at)
  pub followed : (at : ℕ) → Open at ⊎ (Contains work at ⊎ IsFollowed ops table at)

-- of no other op
abbrev pub Never : ℕ → Type 0
Never at = ⊥

-- the table knows of each op exactly whether there are no ways, ways of one height, or of two
pub record AreHeights (ops : List Op) (table : List Seen) : Type 0 where
  pub long : length table ≡ length ops
  pub sound : (at : ℕ) → IsSound ops at (seen_at table at)
  pub covered : (at put taken : ℕ) → Way ops at put taken → Covers (seen_at table at) put taken
  pub small : (at : ℕ) → IsSmall (seen_at table at)

-- ---- which ops are bad

abbrev pub is_beyond : ℕ → Option ℕ → Bool
is_beyond n None = false
is_beyond n (Some k) = nat_le n k

-- its jump, its slot or its function is not there
abbrev pub names_nothing : ℕ → Function → Op → Bool
names_nothing functions f op =
    is_beyond (length f.ops) (jump_of op) || (is_beyond f.slots (slot_of op) || is_beyond functions (callee_of op))

-- its heights are two, or too low, or it goes on behind the last op
abbrev pub is_misplaced : Seen → Op → Bool → Bool
is_misplaced Unseen op last = false
is_misplaced (Once h) op last = nat_lt h.put (h.taken + takes op) || (goes_on op && last)
is_misplaced Twice op last = true
