-- A batch of pages over the pages that were there.
use Rattle.std.specs.Prelude.{ℕ, ◌+◌, max, List, [], ◌∷◌}
use Rattle.std.specs.Coded.{Unit-prop, le_prop}
use Rattle.uq_journal.specs.Recovered.{Ascends}

-- how many pages there are once these numbers are in place
abbrev pub after : ℕ → List ℕ → ℕ
after pages [] = pages
after pages (k ∷ later) = after (max pages (k + 1)) later

-- that numbers ascend can be so in one way only
pub Ascends-prop : (least pages : ℕ) (numbers : List ℕ) → IsProp (Ascends least pages numbers)
Ascends-prop least pages [] = Unit-prop
Ascends-prop least pages (k ∷ later) = let rest = Ascends-prop (k + 1) (max pages (k + 1)) later in hlevel (le_prop, rest)
