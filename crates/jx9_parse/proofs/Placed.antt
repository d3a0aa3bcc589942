-- Reading at a place: what a word makes there, and where reading then stands.
use Rattle.std.proofs.Common.{◌≡◌, ℕ, suc, ◌+◌, List, [], ◌∷◌, ◌++◌, length, set, Ok, Err, refl, sym, ap, ◌∙◌, append_assoc, append-nil, arith}
use Rattle.std.proofs.lemmas.List.{length-append}
use Rattle.std.proofs.Math.Seq.{set-append_seam}
use Rattle.jx9_syntax.specs.Making.{Making, nothing, mapped, then_made, lambda_made}
use Rattle.jx9_syntax.specs.declared.program.Function.{Function}
use Rattle.jx9_parse.specs.Reading.{Tokens, State, Read, Reader, ◌>>=◌, empty_function, reserved, filled}
use Rattle.jx9_parse.proofs.Unplaced.{Found}

-- the tree, and where reading stands behind it
abbrev pub made_at : {A : Type 0} → State → Making A → Tokens → A × State
made_at s m ts = let x = m s.number (suc (length s.lambdas)) in (x.made, record { tokens = ts; number = x.next; lambdas = s.lambdas ++ x.lambdas })

abbrev pub at_state : {A : Type 0} → State → Found (Making A) → Read A
at_state s (Ok x) = Ok (made_at s x.0 x.1)
at_state s (Err ts) = Err ts

pub then_at : {A B C : Type 0} (f : A → B → C) (s : State) (x : Making A) (y : Making B) (ts us : Tokens)
    → ◌≡◌ {A = C × State} (f (made_at s x ts).0 (made_at (made_at s x ts).1 y us).0, (made_at (made_at s x ts).1 y us).1) (made_at s (then_made f x y) us)
then_at {A} {B} {C} f s x y ts us =
    let m = x s.number (suc (length s.lambdas)) in
    let e : suc (length (s.lambdas ++ m.lambdas)) ≡ suc (length s.lambdas) + length m.lambdas = omega (arith, length-append s.lambdas m.lambdas) in
    ap (λ (j : ℕ). let z = y m.next j in (f m.made z.made, record { tokens = us; number = z.next; lambdas = (s.lambdas ++ m.lambdas) ++ z.lambdas })) e
    ∙ ap (λ (ls : List Function). let z = y m.next (suc (length s.lambdas) + length m.lambdas) in (f m.made z.made, record { tokens = us; number = z.next; lambdas = ls }))
    (append_assoc s.lambdas m.lambdas (y m.next (suc (length s.lambdas) + length m.lambdas)).lambdas)

-- what is read behind something, and makes a tree with it
pub behind_runs : {A B C : Type 0} (f : A → B → C) (s : State) (x : Making A) (ts : Tokens) (z : Found (Making B))
    → (at_state (made_at s x ts).1 z >>= λ y. Ok (f (made_at s x ts).0 y.0, y.1)) ≡ at_state s (z >>= λ y. Ok (then_made f x y.0, y.1))
behind_runs f s x ts (Ok y) = ap Ok (then_at f s x y.0 ts y.1)
behind_runs f s x ts (Err us) = refl

-- one reader behind the other
pub then_runs : {A B C : Type 0} (f : A → B → C) (s : State) (r : Read A) (o : Found (Making A)) → r ≡ at_state s o
    → (q : Reader B) (p : Tokens → Found (Making B)) → ((s : State) → q s ≡ at_state s (p s.tokens))
    → (r >>= λ x. q x.1 >>= λ y. Ok (f x.0 y.0, y.1)) ≡ at_state s (o >>= λ x. p x.1 >>= λ y. Ok (then_made f x.0 y.0, y.1))
then_runs {A} {B} {C} f s r o e q p same = ap (λ (z : Read A). z >>= λ x. q x.1 >>= λ y. Ok (f x.0 y.0, y.1)) e ∙ by o
  where
    by : (o : Found (Making A)) → (at_state s o >>= λ x. q x.1 >>= λ y. Ok (f x.0 y.0, y.1)) ≡ at_state s (o >>= λ x. p x.1 >>= λ y. Ok (then_made f x.0 y.0, y.1))
    by (Ok x) = ap (λ (z : Read B). z >>= λ y. Ok (f (made_at s x.0 x.1).0 y.0, y.1)) (same (made_at s x.0 x.1).1) ∙ behind_runs f s x.0 x.1 (p x.1)
    by (Err ts) = refl

pub map_runs : {A B : Type 0} (f : A → B) (s : State) (r : Read A) (o : Found (Making A)) → r ≡ at_state s o → (r >>= λ x. Ok (f x.0, x.1)) ≡ at_state s (o >>= λ x. Ok (mapped f x.0, x.1))
map_runs {A} f s r o e = ap (λ (z : Read A). z >>= λ x. Ok (f x.0, x.1)) e ∙ by o
  where
    by : (o : Found (Making A)) → (at_state s o >>= λ x. Ok (f x.0, x.1)) ≡ at_state s (o >>= λ x. Ok (mapped f x.0, x.1))
    by (Ok x) = refl
    by (Err ts) = refl

pub nothing_runs : {A : Type 0} (a : A) (s : State) → ◌≡◌ {A = Read A} (Ok (a, s)) (at_state s (Ok (nothing a, s.tokens)))
nothing_runs a s = ap (λ (ls : List Function). Ok (a, record { tokens = s.tokens; number = s.number; lambdas = ls })) (sym (append-nil s.lambdas))

-- a lambda's place in the list is kept until it is read
pub lambda_runs : {A B : Type 0} (f : A → ℕ → B) (g : A → Function) (s : State) (r : Read A) (o : Found (Making A)) → r ≡ at_state (reserved s) o
    → (r >>= λ x. Ok (f x.0 (suc (length s.lambdas)), filled (length s.lambdas) (g x.0) x.1)) ≡ at_state s (o >>= λ x. Ok (lambda_made f g x.0, x.1))
lambda_runs {A} f g s r o e = ap (λ (z : Read A). z >>= λ x. Ok (f x.0 (suc (length s.lambdas)), filled (length s.lambdas) (g x.0) x.1)) e ∙ by o
  where
    by : (o : Found (Making A)) → (at_state (reserved s) o >>= λ x. Ok (f x.0 (suc (length s.lambdas)), filled (length s.lambdas) (g x.0) x.1)) ≡ at_state s (o >>= λ x. Ok (lambda_made f g x.0, x.1))
    by (Err ts) = refl
    by (Ok (x, ts)) =
        let n = length s.lambdas in
        let one_more : length (reserved s).lambdas ≡ suc n = omega (arith, length-append s.lambdas (empty_function ∷ [])) in
        ap (λ (j : ℕ). let y = x s.number (suc j) in Ok (f y.made (suc n), record { tokens = ts; number = y.next; lambdas = set ((reserved s).lambdas ++ y.lambdas) n (g y.made) })) one_more
        ∙ (let y = x s.number (suc (suc n)) in ap (λ (ls : List Function). Ok (f y.made (suc n), record { tokens = ts; number = y.next; lambdas = ls }))
        (ap (λ (ls : List Function). set ls n (g y.made)) (append_assoc s.lambdas (empty_function ∷ []) y.lambdas) ∙ set-append_seam s.lambdas empty_function y.lambdas (g y.made)))
