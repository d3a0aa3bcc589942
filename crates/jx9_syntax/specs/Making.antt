-- What a word makes, wherever it stands: a tree, by the number of its first token and that of the next lambda.
use Rattle.std.specs.Prelude.{ℕ, suc, ◌+◌, List, [], ◌∷◌, ◌++◌, length}
use Rattle.jx9_syntax.specs.declared.program.Function.{Function}

-- what is made, the number of the token behind it, and the lambdas in it by their numbers
pub record Made (A : Type 0) : Type 0 where
  pub made : A
  pub next : ℕ
  pub lambdas : List Function

abbrev pub Making : Type 0 → Type 0
Making A = ℕ → ℕ → Made A

-- of no token
abbrev pub nothing : {A : Type 0} → A → Making A
nothing a = λ token lambda. record { made = a; next = token; lambdas = [] }

-- of one token, by its number
abbrev pub of_token : {A : Type 0} → (ℕ → A) → Making A
of_token f = λ token lambda. record { made = f token; next = suc token; lambdas = [] }

abbrev pub mapped : {A B : Type 0} → (A → B) → Making A → Making B
mapped f m = λ token lambda. let x = m token lambda in record { made = f x.made; next = x.next; lambdas = x.lambdas }

-- one behind the other
abbrev pub then_made : {A B C : Type 0} → (A → B → C) → Making A → Making B → Making C
then_made f m n = λ token lambda.
    let x = m token lambda in
    let y = n x.next (lambda + length x.lambdas) in
    record { made = f x.made y.made; next = y.next; lambdas = x.lambdas ++ y.lambdas }

abbrev pub all_made : {A : Type 0} → List (Making A) → Making (List A)
all_made [] = nothing []
all_made (m ∷ ms) = then_made ◌∷◌ m (all_made ms)

-- A lambda has the next number, and those in it the numbers behind it.
abbrev pub lambda_made : {A B : Type 0} → (A → ℕ → B) → (A → Function) → Making A → Making B
lambda_made f g m = λ token lambda.
    let x = m token (suc lambda) in record { made = f x.made lambda; next = x.next; lambdas = g x.made ∷ x.lambdas }
