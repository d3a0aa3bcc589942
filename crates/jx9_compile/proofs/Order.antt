-- The order of problems is total.
use Rattle.std.proofs.Common.{◌≡◌, ℕ, Bool, true, false, refl, ap, ◌∙◌, arith}
use Rattle.std.specs.Prelude.{◌==◌, if◌then◌else◌, nat_lt}
use Rattle.jx9_compile.specs.Problems.{problem, rank, precedes}
use Rattle.jx9_compile.specs.declared.error.CompileKind.{CompileKind}
use Rattle.jx9_compile.specs.declared.error.CompileKind.TheVariants.{UnknownFunction, DefinedTwice, BreakOutside, NotBuilt}
use Rattle.jx9_compile.specs.declared.problems.Problem.{Problem}

abbrev less : (a b c x y z : ℕ) → Bool
less a b c x y z = if a == x then (if b == y then nat_lt c z else nat_lt b y) else nat_lt a x

not_less : (a b c : ℕ) → less a b c a b c ≡ false
not_less a b c = grind arith

-- what holds of the numbers behind holds with one more before them
step_true : (a x u : ℕ) (p q r : Bool) → (p ≡ true → q ≡ false → r ≡ false) → (if a == x then p else nat_lt a x) ≡ true → (if u == x then q else nat_lt u x) ≡ false
    → (if u == a then r else nat_lt u a) ≡ false
step_true a x u true false r f h g = let e = f refl refl in grind (arith, e, h, g)
step_true a x u true true r f h g = grind (arith, h, g)
step_true a x u false q r f h g = grind (arith, h, g)

step_false : (a x u : ℕ) (p q r : Bool) → (p ≡ false → q ≡ false → r ≡ false) → (if x == a then p else nat_lt x a) ≡ false → (if u == x then q else nat_lt u x) ≡ false
    → (if u == a then r else nat_lt u a) ≡ false
step_false a x u false false r f h g = let e = f refl refl in grind (arith, e, h, g)
step_false a x u false true r f h g = grind (arith, h, g)
step_false a x u true q r f h g = grind (arith, h, g)

last_true : (c z w : ℕ) → nat_lt c z ≡ true → nat_lt w z ≡ false → nat_lt w c ≡ false
last_true c z w h g = grind (arith, h, g)

last_false : (c z w : ℕ) → nat_lt z c ≡ false → nat_lt w z ≡ false → nat_lt w c ≡ false
last_false c z w h g = grind (arith, h, g)

less_through : (a b c x y z u v w : ℕ) → less a b c x y z ≡ true → less u v w x y z ≡ false → less u v w a b c ≡ false
less_through a b c x y z u v w = step_true a x u _ _ _ (step_true b y v _ _ _ (last_true c z w))

not_less_through : (a b c x y z u v w : ℕ) → less x y z a b c ≡ false → less u v w x y z ≡ false → less u v w a b c ≡ false
not_less_through a b c x y z u v w = step_false a x u _ _ _ (step_false b y v _ _ _ (last_false c z w))

same_tokens : (a b c x y z : ℕ) → less a b c x y z ≡ false → less x y z a b c ≡ false → a ≡ x
same_tokens a b c x y z h g = grind (arith, h, g)

same_ranks : (a b c x y z : ℕ) → less a b c x y z ≡ false → less x y z a b c ≡ false → b ≡ y
same_ranks a b c x y z h g = grind (arith, h, g)

same_lines : (a b c x y z : ℕ) → less a b c x y z ≡ false → less x y z a b c ≡ false → c ≡ z
same_lines a b c x y z h g = grind (arith, h, g)

same_kind : (k l : CompileKind) → rank k ≡ rank l → k ≡ l
same_kind UnknownFunction UnknownFunction e = refl
same_kind UnknownFunction DefinedTwice e = absurd (omega (arith, e))
same_kind UnknownFunction BreakOutside e = absurd (omega (arith, e))
same_kind UnknownFunction NotBuilt e = absurd (omega (arith, e))
same_kind DefinedTwice UnknownFunction e = absurd (omega (arith, e))
same_kind DefinedTwice DefinedTwice e = refl
same_kind DefinedTwice BreakOutside e = absurd (omega (arith, e))
same_kind DefinedTwice NotBuilt e = absurd (omega (arith, e))
same_kind BreakOutside UnknownFunction e = absurd (omega (arith, e))
same_kind BreakOutside DefinedTwice e = absurd (omega (arith, e))
same_kind BreakOutside BreakOutside e = refl
same_kind BreakOutside NotBuilt e = absurd (omega (arith, e))
same_kind NotBuilt UnknownFunction e = absurd (omega (arith, e))
same_kind NotBuilt DefinedTwice e = absurd (omega (arith, e))
same_kind NotBuilt BreakOutside e = absurd (omega (arith, e))
same_kind NotBuilt NotBuilt e = refl

pub never_before_itself : (q : Problem) → precedes q q ≡ false
never_before_itself q = not_less q.token (rank q.kind) q.line

pub still_not_before : (q r x : Problem) → precedes x r ≡ true → precedes q r ≡ false → precedes q x ≡ false
still_not_before q r x h g = less_through x.token (rank x.kind) x.line r.token (rank r.kind) r.line q.token (rank q.kind) q.line h g

pub not_before_either : (q r x : Problem) → precedes r x ≡ false → precedes q r ≡ false → precedes q x ≡ false
not_before_either q r x h g = not_less_through x.token (rank x.kind) x.line r.token (rank r.kind) r.line q.token (rank q.kind) q.line h g

pub same_problem : (q r : Problem) → precedes q r ≡ false → precedes r q ≡ false → q ≡ r
same_problem q r h g =
    let token = same_tokens q.token (rank q.kind) q.line r.token (rank r.kind) r.line h g in
    let kind = same_kind q.kind r.kind (same_ranks q.token (rank q.kind) q.line r.token (rank r.kind) r.line h g) in
    let line = same_lines q.token (rank q.kind) q.line r.token (rank r.kind) r.line h g in
    ap (λ n. problem n q.kind q.line) token ∙ ap (λ k. problem r.token k q.line) kind ∙ ap (λ n. problem r.token r.kind n) line
