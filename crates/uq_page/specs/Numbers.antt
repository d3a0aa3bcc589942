-- Numbers of pages, and how often each stands in a list.
use Rattle.std.specs.Prelude.{◌≡◌, ℕ, ◌==◌, List}
use Rattle.std.specs.List.{count_by}

-- how often a number stands in a list
abbrev pub times : ℕ → List ℕ → ℕ
times n xs = count_by (λ x. x == n) xs

-- one list has the numbers of the other, each as often: it is a permutation of it
abbrev pub SameNumbers : List ℕ → List ℕ → Type 0
SameNumbers xs ys = (n : ℕ) → times n xs ≡ times n ys
