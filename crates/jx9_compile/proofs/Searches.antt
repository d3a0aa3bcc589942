-- What a search adds.
use Rattle.std.proofs.Common.{◌≡◌, ℕ, zero, suc, ◌+◌, ◌<◌, List, [], ◌∷◌, ◌++◌, length, get_or, take, Option, Some, None, refl, sym, ap, ◌∙◌, subst, arith, inl, inr, ⊎_elim, true≢false}
use Rattle.std.specs.Prelude.{Bool, true, false, ◌||◌, ◌⊎◌, MatchOption, slice_get}
use Rattle.std.proofs.lemmas.Option.{none-some, same_Some, slice_get_within}
use Rattle.uq_value.specs.Data.{Bytes}
use Rattle.jx9_syntax.specs.Trees.{ExprLayer, StatementLayer, node_of, kind_of}
use Rattle.jx9_syntax.specs.declared.expression.Access.{Access}
use Rattle.jx9_syntax.specs.declared.expression.Access.TheOpen.{Node-F}
use Rattle.jx9_syntax.specs.declared.expression.Access.TheViews.{rolls-Literal, rolls-Mixed, rolls-Group, rolls-Negate, rolls-Not, rolls-Step, rolls-Or, rolls-And, rolls-Join, rolls-Chain, rolls-Cond, rolls-Var, rolls-Assign, rolls-Change}
use Rattle.jx9_syntax.specs.declared.expression.Change.{Change as How}
use Rattle.jx9_syntax.specs.declared.expression.Expr.{Expr}
use Rattle.jx9_syntax.specs.declared.expression.Link.{Link}
use Rattle.jx9_syntax.specs.declared.expression.Literal.{Literal}
use Rattle.jx9_syntax.specs.declared.expression.Node as node
use Rattle.jx9_syntax.specs.declared.expression.Place.{Place}
use Rattle.jx9_syntax.specs.declared.expression.Step.{Step}
use Rattle.jx9_syntax.specs.declared.parts.Part.{Part}
use Rattle.jx9_syntax.specs.declared.program.Named.{Named}
use Rattle.jx9_syntax.specs.declared.program.Program.{Program}
use Rattle.jx9_syntax.specs.declared.statement.Branch.{Branch}
use Rattle.jx9_syntax.specs.declared.statement.Kind as kind
use Rattle.jx9_syntax.specs.declared.statement.Kind.TheOpen.{Kind-F}
use Rattle.jx9_syntax.specs.declared.statement.Kind.TheViews.{rolls-Block, rolls-Print, rolls-Expr, rolls-If, rolls-While, rolls-For, rolls-Return, rolls-Break, rolls-Continue}
use Rattle.jx9_syntax.specs.declared.statement.Statement.{Statement}
use Rattle.jx9_compile.specs.Problems.{problem, are_none, is_built, exprs_within, ExprProblem, itself, within, IsIn, operands_of, IsInLinks, exprs_of, IsInOption, is_built_statement, leaves_turn, is_loop, exprs_in, statements_in, statements_of, tests_of, bodies_of, StatementProblem, unbuilt, outside, in_expr, in_statement, IsInStatements, IsInBranches, IsDefinition, IsProblem, IsProblemOf, IsClean, IsFirst, IsBy, precedes, is_before, Adds}
use Rattle.jx9_compile.specs.declared.error.CompileKind.{CompileKind}
use Rattle.jx9_compile.specs.declared.error.CompileKind.TheVariants.{NotBuilt, BreakOutside}
use Rattle.jx9_compile.specs.declared.problems.Problem.{Problem}
use Rattle.jx9_compile.proofs.EmitLemmas.{one_more}
use Rattle.jx9_compile.proofs.EmitNodes.{open_node}
use Rattle.jx9_compile.proofs.EmitStatements.{open_kind}
use Rattle.jx9_compile.proofs.Clean.{slice_get-into, operands_append, tests_append, bodies_append}
use Rattle.jx9_compile.proofs.Order.{never_before_itself, still_not_before}
use Rattle.jx9_compile.proofs.Places.{slice_get-front, slice_get-seam}

-- ---- one search after another

pub adds_nothing : (P : Problem → Type 0) (o : Option Problem) → ((q : Problem) → P q → ⊥) → Adds P o o
adds_nothing P o fails = record { found = λ q e. inl e; kept = λ q h. h; least = λ q p. absurd (fails q p) }

pub adds_then : (P Q : Problem → Type 0) (a b c : Option Problem) → Adds P a b → Adds Q b c → Adds (λ q. P q ⊎ Q q) a c
adds_then P Q a b c p q = record {
  found = λ r e. ⊎_elim (λ f. ⊎_elim (λ g. inl g) (λ g. inr (inl g)) (p.found r f)) (λ f. inr (inr f)) (q.found r e);
  kept = λ r h. q.kept r (p.kept r h);
  least = λ r h. ⊎_elim (λ f. q.kept r (p.least r f)) (λ f. q.least r f) h;
}

pub adds_as : (P Q : Problem → Type 0) (a b : Option Problem) → ((q : Problem) → P q → Q q) → ((q : Problem) → Q q → P q) → Adds P a b → Adds Q a b
adds_as P Q a b to from p = record {
  found = λ q e. ⊎_elim (λ f. inl f) (λ f. inr (to q f)) (p.found q e);
  kept = p.kept;
  least = λ q h. p.least q (from q h);
}

-- a problem before all that was found
pub noted : (old : Option Problem) (token line : ℕ) (what : CompileKind) (b : Bool) → b ≡ is_before (problem token what line) old → b ≡ true
    → Adds (λ q. q ≡ problem token what line) old (Some (problem token what line))
noted old token line what b is holds = record {
  found = λ r e. inr (sym (same_Some (problem token what line) r e));
  kept = λ q h. earlier old q (sym is ∙ holds) h;
  least = λ r e. subst (λ q. precedes q (problem token what line) ≡ false) (sym e) (never_before_itself (problem token what line));
}
  where
    earlier : (old : Option Problem) (q : Problem) → is_before (problem token what line) old ≡ true → IsBy old q → precedes q (problem token what line) ≡ false
    earlier None q before h = absurd h
    earlier (Some r) q before h = still_not_before q r (problem token what line) before h

-- or behind it
pub passed : (old : Option Problem) (token line : ℕ) (what : CompileKind) (b : Bool) → b ≡ is_before (problem token what line) old → b ≡ false
    → Adds (λ q. q ≡ problem token what line) old old
passed old token line what b is fails = record {
  found = λ r e. inl e;
  kept = λ q h. h;
  least = λ r e. subst (λ q. IsBy old q) (sym e) (later old (sym is ∙ fails));
}
  where
    later : (old : Option Problem) → is_before (problem token what line) old ≡ false → IsBy old (problem token what line)
    later None before = absurd (true≢false before)
    later (Some r) before = before

-- a problem that is one where a test fails
pub unless_kept : (b : Bool) (x : Problem) (a : Option Problem) → b ≡ true → Adds (λ q. (b ≡ false) × (q ≡ x)) a a
unless_kept b x a holds = adds_nothing (λ q. (b ≡ false) × (q ≡ x)) a (λ q p. true≢false (sym holds ∙ p.0))

pub unless_noted : (b : Bool) (x : Problem) (a c : Option Problem) → b ≡ false → Adds (λ q. q ≡ x) a c → Adds (λ q. (b ≡ false) × (q ≡ x)) a c
unless_noted b x a c fails p = adds_as (λ q. q ≡ x) (λ q. (b ≡ false) × (q ≡ x)) a c (λ q e. (fails, e)) (λ q h. h.1) p

-- ---- lists of expressions

pub in_none : (q : Problem) → IsIn [] q → ⊥
in_none q p = absurd (omega (arith, slice_get_within [] p.0 p.1 p.2))

in_statements_none : (looped : Bool) (q : Problem) → IsInStatements looped [] q → ⊥
in_statements_none looped q p = absurd (omega (arith, slice_get_within [] p.0 p.1 p.2))

in_append : (xs ys : List Expr) (q : Problem) → IsIn xs q ⊎ IsIn ys q → IsIn (xs ++ ys) q
in_append xs ys q (inl p) = (p.0, p.1, slice_get-front xs ys p.0 (slice_get_within xs p.0 p.1 p.2) ∙ p.2, p.3)
in_append xs ys q (inr p) = let there = slice_get-into xs ys p.0 p.1 p.2 in (there.0, p.1, there.1, p.3)

of_append : (xs ys : List Expr) (q : Problem) → IsIn (xs ++ ys) q → IsIn xs q ⊎ IsIn ys q
of_append [] ys q p = inr p
of_append (x ∷ xs) ys q (zero, e, h, p) = inl (zero, e, h, p)
of_append (x ∷ xs) ys q (suc i, e, h, p) = ⊎_elim (λ f. inl (suc f.0, f.1, f.2, f.3)) (λ f. inr f) (of_append xs ys q (i, e, h, p))

in_one : (e : Expr) (q : Problem) → ExprProblem e q → IsIn (e ∷ []) q
in_one e q p = (0, e, refl, p)

of_one : (e : Expr) (q : Problem) → IsIn (e ∷ []) q → ExprProblem e q
of_one e q (zero, f, h, p) = subst (λ x. ExprProblem x q) (sym (same_Some e f h)) p
of_one e q (suc i, f, h, p) = absurd (omega (arith, slice_get_within [] i f h))

in_statements_append : (looped : Bool) (xs ys : List Statement) (q : Problem) → IsInStatements looped xs q ⊎ IsInStatements looped ys q → IsInStatements looped (xs ++ ys) q
in_statements_append looped xs ys q (inl p) = (p.0, p.1, slice_get-front xs ys p.0 (slice_get_within xs p.0 p.1 p.2) ∙ p.2, p.3)
in_statements_append looped xs ys q (inr p) = let there = slice_get-into xs ys p.0 p.1 p.2 in (there.0, p.1, there.1, p.3)

of_statements_append : (looped : Bool) (xs ys : List Statement) (q : Problem) → IsInStatements looped (xs ++ ys) q → IsInStatements looped xs q ⊎ IsInStatements looped ys q
of_statements_append looped [] ys q p = inr p
of_statements_append looped (x ∷ xs) ys q (zero, e, h, p) = inl (zero, e, h, p)
of_statements_append looped (x ∷ xs) ys q (suc i, e, h, p) = ⊎_elim (λ f. inl (suc f.0, f.1, f.2, f.3)) (λ f. inr f) (of_statements_append looped xs ys q (i, e, h, p))

in_statements_one : (looped : Bool) (t : Statement) (q : Problem) → StatementProblem looped t q → IsInStatements looped (t ∷ []) q
in_statements_one looped t q p = (0, t, refl, p)

of_statements_one : (looped : Bool) (t : Statement) (q : Problem) → IsInStatements looped (t ∷ []) q → StatementProblem looped t q
of_statements_one looped t q (zero, f, h, p) = subst (λ x. StatementProblem looped x q) (sym (same_Some t f h)) p
of_statements_one looped t q (suc i, f, h, p) = absurd (omega (arith, slice_get_within [] i f h))

-- some expressions, and then others
pub both_in : (xs ys : List Expr) (a b c : Option Problem) → Adds (IsIn xs) a b → Adds (IsIn ys) b c → Adds (IsIn (xs ++ ys)) a c
both_in xs ys a b c p q = adds_as (λ r. IsIn xs r ⊎ IsIn ys r) (IsIn (xs ++ ys)) a c (in_append xs ys) (of_append xs ys) (adds_then (IsIn xs) (IsIn ys) a b c p q)

pub one_in : (e : Expr) (a b : Option Problem) → Adds (ExprProblem e) a b → Adds (IsIn (e ∷ [])) a b
one_in e a b p = adds_as (ExprProblem e) (IsIn (e ∷ [])) a b (in_one e) (of_one e) p

pub both_in_statements : (looped : Bool) (xs ys : List Statement) (a b c : Option Problem) → Adds (IsInStatements looped xs) a b → Adds (IsInStatements looped ys) b c
    → Adds (IsInStatements looped (xs ++ ys)) a c
both_in_statements looped xs ys a b c p q =
    adds_as (λ r. IsInStatements looped xs r ⊎ IsInStatements looped ys r) (IsInStatements looped (xs ++ ys)) a c (in_statements_append looped xs ys) (of_statements_append looped xs ys)
    (adds_then (IsInStatements looped xs) (IsInStatements looped ys) a b c p q)

pub one_in_statements : (looped : Bool) (t : Statement) (a b : Option Problem) → Adds (StatementProblem looped t) a b → Adds (IsInStatements looped (t ∷ [])) a b
one_in_statements looped t a b p = adds_as (StatementProblem looped t) (IsInStatements looped (t ∷ [])) a b (in_statements_one looped t) (of_statements_one looped t) p

-- ---- loops

pub no_exprs : (a : Option Problem) → Adds (IsIn []) a a
no_exprs a = adds_nothing (IsIn []) a in_none

pub exprs_go_on : (a b c : Option Problem) (all : List Expr) (i : ℕ) (e : Expr) → i < length all → e ≡ get_or all i e → Adds (IsIn (take i all)) a b → Adds (ExprProblem e) b c
    → Adds (IsIn (take (i + 1) all)) a c
exprs_go_on a b c all i e less is p q = one_more (λ es. Adds (IsIn es) a c) all i e less is (both_in (take i all) (e ∷ []) a b c p (one_in e b c q))

pub links_go_on : (a b c : Option Problem) (all : List Link) (i : ℕ) (l : Link) → i < length all → l ≡ get_or all i l → Adds (IsInLinks (take i all)) a b → Adds (ExprProblem l.operand) b c
    → Adds (IsInLinks (take (i + 1) all)) a c
links_go_on a b c all i l less is p q =
    one_more (λ ls. Adds (IsInLinks ls) a c) all i l less is
    (subst (λ es. Adds (IsIn es) a c) (sym (operands_append (take i all) l)) (both_in (operands_of (take i all)) (l.operand ∷ []) a b c p (one_in l.operand b c q)))

pub no_statements : (looped : Bool) (a : Option Problem) → Adds (IsInStatements looped []) a a
no_statements looped a = adds_nothing (IsInStatements looped []) a (in_statements_none looped)

pub statements_go_on : (looped : Bool) (a b c : Option Problem) (all : List Statement) (i : ℕ) (t : Statement) → i < length all → t ≡ get_or all i t
    → Adds (IsInStatements looped (take i all)) a b → Adds (StatementProblem looped t) b c → Adds (IsInStatements looped (take (i + 1) all)) a c
statements_go_on looped a b c all i t less is p q =
    one_more (λ ts. Adds (IsInStatements looped ts) a c) all i t less is (both_in_statements looped (take i all) (t ∷ []) a b c p (one_in_statements looped t b c q))

pub no_branches : (looped : Bool) (a : Option Problem) → Adds (IsInBranches looped []) a a
no_branches looped a = adds_nothing (IsInBranches looped []) a (λ q p. ⊎_elim (in_none q) (in_statements_none looped q) p)

pub branches_go_on : (looped : Bool) (a b c d : Option Problem) (all : List Branch) (i : ℕ) (x : Branch) → i < length all → x ≡ get_or all i x
    → Adds (IsInBranches looped (take i all)) a b → Adds (ExprProblem x.test) b c → Adds (StatementProblem looped x.body) c d → Adds (IsInBranches looped (take (i + 1) all)) a d
branches_go_on looped a b c d all i x less is p q r =
    one_more (λ bs. Adds (IsInBranches looped bs) a d) all i x less is
    (subst (λ es. Adds (λ s. IsIn es s ⊎ IsInStatements looped (bodies_of (take i all ++ x ∷ [])) s) a d) (sym (tests_append (take i all) x))
    (subst (λ ts. Adds (λ s. IsIn (tests_of (take i all) ++ x.test ∷ []) s ⊎ IsInStatements looped ts s) a d) (sym (bodies_append (take i all) x))
    (adds_as
    (λ s. (IsIn (tests_of (take i all)) s ⊎ IsInStatements looped (bodies_of (take i all)) s) ⊎ (IsIn (x.test ∷ []) s ⊎ IsInStatements looped (x.body ∷ []) s))
    (λ s. IsIn (tests_of (take i all) ++ x.test ∷ []) s ⊎ IsInStatements looped (bodies_of (take i all) ++ x.body ∷ []) s) a d
    (λ s h. ⊎_elim
    (⊎_elim (λ f. inl (in_append (tests_of (take i all)) (x.test ∷ []) s (inl f))) (λ f. inr (in_statements_append looped (bodies_of (take i all)) (x.body ∷ []) s (inl f))))
    (⊎_elim (λ f. inl (in_append (tests_of (take i all)) (x.test ∷ []) s (inr f))) (λ f. inr (in_statements_append looped (bodies_of (take i all)) (x.body ∷ []) s (inr f)))) h)
    (λ s h. ⊎_elim
    (λ f. ⊎_elim (λ g. inl (inl g)) (λ g. inr (inl g)) (of_append (tests_of (take i all)) (x.test ∷ []) s f))
    (λ f. ⊎_elim (λ g. inl (inr g)) (λ g. inr (inr g)) (of_statements_append looped (bodies_of (take i all)) (x.body ∷ []) s f)) h)
    (adds_then (λ s. IsIn (tests_of (take i all)) s ⊎ IsInStatements looped (bodies_of (take i all)) s) (λ s. IsIn (x.test ∷ []) s ⊎ IsInStatements looped (x.body ∷ []) s) a b d p
    (adds_then (IsIn (x.test ∷ [])) (IsInStatements looped (x.body ∷ [])) b c d (one_in x.test b c q) (one_in_statements looped x.body c d r))))))

-- ---- nodes

-- the node itself
abbrev pub Itself : Bool → ℕ → ℕ → Problem → Type 0
Itself built token line q = (built ≡ false) × (q ≡ problem token NotBuilt line)

pub built_already : (token line : ℕ) (a : Option Problem) → Adds (Itself true token line) a a
built_already token line a = adds_nothing (Itself true token line) a (λ q p. true≢false p.0)

of_node : (e : Expr) (layer : ExprLayer) → node_of e ≡ layer → (r : Problem) → ExprProblem e r → Itself (is_built layer) e.token e.line r ⊎ IsIn (exprs_within layer) r
of_node e layer is r (itself fails same) = inl (sym (ap is_built is) ∙ fails, same)
of_node e layer is r (within i inner h p) = inr (i, inner, sym (ap (λ l. slice_get (exprs_within l) i) is) ∙ h, p)

pub node_adds : (e : Expr) (layer : ExprLayer) (a b c : Option Problem) → node_of e ≡ layer → Adds (Itself (is_built layer) e.token e.line) a b → Adds (IsIn (exprs_within layer)) b c
    → Adds (ExprProblem e) a c
node_adds e layer a b c is p q =
    adds_as (λ r. Itself (is_built layer) e.token e.line r ⊎ IsIn (exprs_within layer) r) (ExprProblem e) a c
    (λ r h. ⊎_elim (λ f. itself (ap is_built is ∙ f.0) f.1) (λ f. within f.0 f.1 (ap (λ l. slice_get (exprs_within l) f.0) is ∙ f.2) f.3) h)
    (of_node e layer is) (adds_then (Itself (is_built layer) e.token e.line) (IsIn (exprs_within layer)) a b c p q)

-- a node with nothing in it
pub leaf_adds : (e : Expr) (layer : ExprLayer) (a b : Option Problem) → node_of e ≡ layer → exprs_within layer ≡ [] → Adds (Itself (is_built layer) e.token e.line) a b
    → Adds (ExprProblem e) a b
leaf_adds e layer a b is none p = node_adds e layer a b b is p (subst (λ es. Adds (IsIn es) b b) (sym none) (no_exprs b))

-- a node that is built
pub whole_adds : (e : Expr) (layer : ExprLayer) (a b : Option Problem) → node_of e ≡ layer → is_built layer ≡ true → Adds (IsIn (exprs_within layer)) a b → Adds (ExprProblem e) a b
whole_adds e layer a b is built p = node_adds e layer a a b is (subst (λ x. Adds (Itself x e.token e.line) a a) (sym built) (built_already e.token e.line a)) p

-- ---- statements

abbrev pub Outside : Bool → Bool → ℕ → ℕ → Problem → Type 0
Outside leaves looped token line q = (leaves ≡ true) × (looped ≡ false) × (q ≡ problem token BreakOutside line)

abbrev Within : Bool → StatementLayer → Problem → Type 0
Within looped layer x = IsIn (exprs_in layer) x ⊎ IsInStatements (is_loop layer || looped) (statements_in layer) x

abbrev Rest : Bool → ℕ → ℕ → StatementLayer → Problem → Type 0
Rest looped token line layer x = Outside (leaves_turn layer) looped token line x ⊎ Within looped layer x

abbrev All : Bool → ℕ → ℕ → StatementLayer → Problem → Type 0
All looped token line layer x = Itself (is_built_statement layer) token line x ⊎ Rest looped token line layer x

to_statement : (looped : Bool) (t : Statement) (layer : StatementLayer) → kind_of t ≡ layer → (x : Problem) → All looped t.token t.line layer x → StatementProblem looped t x
to_statement looped t layer is x (inl f) = unbuilt (ap is_built_statement is ∙ f.0) f.1
to_statement looped t layer is x (inr (inl f)) = outside (ap leaves_turn is ∙ f.0) f.1 f.2
to_statement looped t layer is x (inr (inr (inl f))) = in_expr f.0 f.1 (ap (λ l. slice_get (exprs_in l) f.0) is ∙ f.2) f.3
to_statement looped t layer is x (inr (inr (inr f))) =
    in_statement f.0 f.1 (ap (λ l. slice_get (statements_in l) f.0) is ∙ f.2) (subst (λ l. StatementProblem (is_loop l || looped) f.1 x) (sym is) f.3)

of_statement : (looped : Bool) (t : Statement) (layer : StatementLayer) → kind_of t ≡ layer → (x : Problem) → StatementProblem looped t x → All looped t.token t.line layer x
of_statement looped t layer is x (unbuilt fails same) = inl (sym (ap is_built_statement is) ∙ fails, same)
of_statement looped t layer is x (outside leaves fails same) = inr (inl (sym (ap leaves_turn is) ∙ leaves, fails, same))
of_statement looped t layer is x (in_expr i f h g) = inr (inr (inl (i, f, sym (ap (λ l. slice_get (exprs_in l) i) is) ∙ h, g)))
of_statement looped t layer is x (in_statement i f h g) =
    inr (inr (inr (i, f, sym (ap (λ l. slice_get (statements_in l) i) is) ∙ h, subst (λ l. StatementProblem (is_loop l || looped) f x) is g)))

pub statement_adds : (looped : Bool) (t : Statement) (layer : StatementLayer) (a b c d e : Option Problem) → kind_of t ≡ layer
    → Adds (Itself (is_built_statement layer) t.token t.line) a b → Adds (Outside (leaves_turn layer) looped t.token t.line) b c → Adds (IsIn (exprs_in layer)) c d
    → Adds (IsInStatements (is_loop layer || looped) (statements_in layer)) d e → Adds (StatementProblem looped t) a e
statement_adds looped t layer a b c d e is p q r s =
    adds_as (All looped t.token t.line layer) (StatementProblem looped t) a e (to_statement looped t layer is) (of_statement looped t layer is)
    (adds_then (Itself (is_built_statement layer) t.token t.line) (Rest looped t.token t.line layer) a b e p
    (adds_then (Outside (leaves_turn layer) looped t.token t.line) (Within looped layer) b c e q (adds_then (IsIn (exprs_in layer)) (IsInStatements (is_loop layer || looped) (statements_in layer)) c d e r s)))

pub outside_no_loop : (looped : Bool) (token line : ℕ) (a : Option Problem) → Adds (Outside false looped token line) a a
outside_no_loop looped token line a = adds_nothing (Outside false looped token line) a (λ q p. true≢false (sym p.0))

-- a statement that may stand anywhere
pub plain_adds : (looped : Bool) (t : Statement) (layer : StatementLayer) (a b c : Option Problem) → kind_of t ≡ layer → is_built_statement layer ≡ true → leaves_turn layer ≡ false
    → Adds (IsIn (exprs_in layer)) a b → Adds (IsInStatements (is_loop layer || looped) (statements_in layer)) b c → Adds (StatementProblem looped t) a c
plain_adds looped t layer a b c is built plain p q =
    statement_adds looped t layer a a a b c is (subst (λ x. Adds (Itself x t.token t.line) a a) (sym built) (built_already t.token t.line a))
    (subst (λ x. Adds (Outside x looped t.token t.line) a a) (sym plain) (outside_no_loop looped t.token t.line a)) p q

-- ---- programs

pub no_definitions : (a : Option Problem) → Adds (IsDefinition []) a a
no_definitions a = adds_nothing (IsDefinition []) a (λ q p. absurd (omega (arith, slice_get_within [] p.0 p.1 p.2)))

pub definitions_go_on : (a b c : Option Problem) (all : List Named) (i : ℕ) (f : Named) → i < length all → f ≡ get_or all i f → Adds (IsDefinition (take i all)) a b
    → Adds (λ q. q ≡ problem f.token NotBuilt f.line) b c → Adds (IsDefinition (take (i + 1) all)) a c
definitions_go_on a b c all i f less is p q =
    one_more (λ fs. Adds (IsDefinition fs) a c) all i f less is
    (adds_as (λ r. IsDefinition (take i all) r ⊎ (r ≡ problem f.token NotBuilt f.line)) (IsDefinition (take i all ++ f ∷ [])) a c
    (λ r h. ⊎_elim (λ g. (g.0, g.1, slice_get-front (take i all) (f ∷ []) g.0 (slice_get_within (take i all) g.0 g.1 g.2) ∙ g.2, g.3)) (λ g. (length (take i all), f, slice_get-seam (take i all) f [], g)) h)
    (λ r h. of_more (take i all) r h) (adds_then (IsDefinition (take i all)) (λ r. r ≡ problem f.token NotBuilt f.line) a b c p q))
  where
    of_more : (fs : List Named) (r : Problem) → IsDefinition (fs ++ f ∷ []) r → IsDefinition fs r ⊎ (r ≡ problem f.token NotBuilt f.line)
    of_more [] r (zero, g, h, s) = inr (s ∙ ap (λ (x : Named). problem x.token NotBuilt x.line) (sym (same_Some f g h)))
    of_more [] r (suc j, g, h, s) = absurd (omega (arith, slice_get_within [] j g h))
    of_more (x ∷ fs) r (zero, g, h, s) = inl (zero, g, h, s)
    of_more (x ∷ fs) r (suc j, g, h, s) = ⊎_elim (λ k. inl (suc k.0, k.1, k.2, k.3)) (λ k. inr k) (of_more fs r (j, g, h, s))

pub option_none : (o : Option Expr) (a : Option Problem) → o ≡ None → Adds (IsInOption o) a a
option_none o a none = subst (λ x. Adds (IsInOption x) a a) (sym none) (no_exprs a)

pub option_some : (o : Option Expr) (e got : Expr) (a b : Option Problem) → o ≡ Some e → got ≡ e → Adds (ExprProblem got) a b → Adds (IsInOption o) a b
option_some o e got a b some same p = subst (λ x. Adds (IsInOption x) a b) (sym some) (one_in e a b (subst (λ x. Adds (ExprProblem x) a b) same p))

-- all of a program, from nothing found
pub first_found : (p : Program) (new : Option Problem) → Adds (IsProblem p) None new → MatchOption new (IsClean p) (IsFirst p)
first_found p None h = record { none = λ q f. h.least q f }
first_found p (Some q) h = record { found = ⊎_elim (λ e. absurd (none-some q e)) (λ f. f) (h.found q refl); first = λ other f. h.least other f }

-- ---- what a match tells

steps_built : (steps : List Access) (b : Bool) → (b ≡ true → steps ≡ []) → (steps ≡ [] → b ≡ true) → b ≡ are_none steps
steps_built [] b to from = from refl
steps_built (a ∷ more) true to from = absurd (no_more a more (to refl))
  where
    no_more : (a : Access) (more : List Access) → a ∷ more ≡ [] → ⊥
    no_more a more e = cc
steps_built (a ∷ more) false to from = refl

-- a place whose steps were looked at
pub looked : (steps : List Access) (b : Bool) (token line : ℕ) (o n : Option Problem) → (b ≡ true → steps ≡ []) → (steps ≡ [] → b ≡ true)
    → Adds (λ q. (b ≡ false) × (q ≡ problem token NotBuilt line)) o n → Adds (Itself (are_none steps) token line) o n
looked steps b token line o n to from p = subst (λ x. Adds (Itself x token line) o n) (steps_built steps b to from) p

-- what is not built
pub surely : (b : Bool) (token line : ℕ) (o n : Option Problem) → b ≡ false → Adds (λ q. (false ≡ false) × (q ≡ problem token NotBuilt line)) o n → Adds (Itself b token line) o n
surely b token line o n fails p = subst (λ x. Adds (Itself x token line) o n) (sym fails) p

pub outside_loop : (looped : Bool) (token line : ℕ) (o n : Option Problem) → Adds (λ q. (looped ≡ false) × (q ≡ problem token BreakOutside line)) o n → Adds (Outside true looped token line) o n
outside_loop looped token line o n p =
    adds_as (λ q. (looped ≡ false) × (q ≡ problem token BreakOutside line)) (Outside true looped token line) o n (λ q h. (refl, h.0, h.1)) (λ q h. (h.1, h.2)) p

found_in : (e got : Expr) (a b : Option Problem) → got ≡ e → Adds (ExprProblem got) a b → Adds (ExprProblem e) a b
found_in e got a b same p = subst (λ x. Adds (ExprProblem x) a b) same p

-- ---- what an expression adds, by what its match tells

module _ (e : Expr) where
  pub literal_adds : (a : Option Problem) (l : Literal) → e.node ≡ node.Literal l → Adds (ExprProblem e) a a
  literal_adds a l is = leaf_adds e (Node-F.Literal l) a a (open_node _ is (rolls-Literal l)) refl (built_already e.token e.line a)

  pub mixed_adds : (a : Option Problem) (ps : List Part) → e.node ≡ node.Mixed ps → Adds (ExprProblem e) a a
  mixed_adds a ps is = leaf_adds e (Node-F.Mixed ps) a a (open_node _ is (rolls-Mixed ps)) refl (built_already e.token e.line a)

  pub variable_adds : (a b : Option Problem) (name : Bytes) (steps : List Access) (empty : Bool) → e.node ≡ node.Var name steps → (empty ≡ true → steps ≡ []) → (steps ≡ [] → empty ≡ true)
      → Adds (λ q. (empty ≡ false) × (q ≡ problem e.token NotBuilt e.line)) a b → Adds (ExprProblem e) a b
  variable_adds a b name steps empty is to from p =
      leaf_adds e (Node-F.Var name steps) a b (open_node _ is (rolls-Var name steps)) refl (looked steps empty e.token e.line a b to from p)

  pub step_adds : (a b : Option Problem) (st : Step) (place : Place) (empty : Bool) → e.node ≡ node.Step st place → (empty ≡ true → place.steps ≡ []) → (place.steps ≡ [] → empty ≡ true)
      → Adds (λ q. (empty ≡ false) × (q ≡ problem e.token NotBuilt e.line)) a b → Adds (ExprProblem e) a b
  step_adds a b st place empty is to from p =
      leaf_adds e (Node-F.Step st place) a b (open_node _ is (rolls-Step st place)) refl (looked place.steps empty e.token e.line a b to from p)

  pub group_adds : (a b : Option Problem) (inner got : Expr) → e.node ≡ node.Group inner → got ≡ inner → Adds (ExprProblem got) a b → Adds (ExprProblem e) a b
  group_adds a b inner got is same p =
      whole_adds e (Node-F.Group inner) a b (open_node _ is (rolls-Group inner)) refl (one_in inner a b (found_in inner got a b same p))

  pub negate_adds : (a b : Option Problem) (inner got : Expr) → e.node ≡ node.Negate inner → got ≡ inner → Adds (ExprProblem got) a b → Adds (ExprProblem e) a b
  negate_adds a b inner got is same p =
      whole_adds e (Node-F.Negate inner) a b (open_node _ is (rolls-Negate inner)) refl (one_in inner a b (found_in inner got a b same p))

  pub not_adds : (a b : Option Problem) (inner got : Expr) → e.node ≡ node.Not inner → got ≡ inner → Adds (ExprProblem got) a b → Adds (ExprProblem e) a b
  not_adds a b inner got is same p =
      whole_adds e (Node-F.Not inner) a b (open_node _ is (rolls-Not inner)) refl (one_in inner a b (found_in inner got a b same p))

  pub or_adds : (a b c : Option Problem) (first got : Expr) (more these : List Expr) → e.node ≡ node.Or first more → got ≡ first → these ≡ more
      → Adds (ExprProblem got) a b → Adds (IsIn these) b c → Adds (ExprProblem e) a c
  or_adds a b c first got more these is same all p q =
      whole_adds e (Node-F.Or first more) a c (open_node _ is (rolls-Or first more)) refl
      (both_in (first ∷ []) more a b c (one_in first a b (found_in first got a b same p)) (subst (λ x. Adds (IsIn x) b c) all q))

  pub and_adds : (a b c : Option Problem) (first got : Expr) (more these : List Expr) → e.node ≡ node.And first more → got ≡ first → these ≡ more
      → Adds (ExprProblem got) a b → Adds (IsIn these) b c → Adds (ExprProblem e) a c
  and_adds a b c first got more these is same all p q =
      whole_adds e (Node-F.And first more) a c (open_node _ is (rolls-And first more)) refl
      (both_in (first ∷ []) more a b c (one_in first a b (found_in first got a b same p)) (subst (λ x. Adds (IsIn x) b c) all q))

  pub join_adds : (a b : Option Problem) (es these : List Expr) → e.node ≡ node.Join es → these ≡ es → Adds (IsIn these) a b → Adds (ExprProblem e) a b
  join_adds a b es these is all p = whole_adds e (Node-F.Join es) a b (open_node _ is (rolls-Join es)) refl (subst (λ x. Adds (IsIn x) a b) all p)

  pub chain_adds : (a b c : Option Problem) (first got : Expr) (links these : List Link) → e.node ≡ node.Chain first links → got ≡ first → these ≡ links
      → Adds (ExprProblem got) a b → Adds (IsInLinks these) b c → Adds (ExprProblem e) a c
  chain_adds a b c first got links these is same all p q =
      whole_adds e (Node-F.Chain first links) a c (open_node _ is (rolls-Chain first links)) refl
      (both_in (first ∷ []) (operands_of links) a b c (one_in first a b (found_in first got a b same p)) (subst (λ x. Adds (IsInLinks x) b c) all q))

  pub choice_adds : (a b c d : Option Problem) (test first second got_test got_first got_second : Expr) → e.node ≡ node.Cond test first second → got_test ≡ test → got_first ≡ first
      → got_second ≡ second → Adds (ExprProblem got_test) a b → Adds (ExprProblem got_first) b c → Adds (ExprProblem got_second) c d → Adds (ExprProblem e) a d
  choice_adds a b c d test first second got_test got_first got_second is same_test same_first same_second p q r =
      whole_adds e (Node-F.Cond test first second) a d (open_node _ is (rolls-Cond test first second)) refl
      (both_in (test ∷ []) (first ∷ second ∷ []) a b d (one_in test a b (found_in test got_test a b same_test p))
      (both_in (first ∷ []) (second ∷ []) b c d (one_in first b c (found_in first got_first b c same_first q)) (one_in second c d (found_in second got_second c d same_second r))))

  pub assign_adds : (a b c : Option Problem) (place : Place) (right got : Expr) (empty : Bool) → e.node ≡ node.Assign place right → got ≡ right → (empty ≡ true → place.steps ≡ [])
      → (place.steps ≡ [] → empty ≡ true) → Adds (λ q. (empty ≡ false) × (q ≡ problem e.token NotBuilt e.line)) a b → Adds (ExprProblem got) b c → Adds (ExprProblem e) a c
  assign_adds a b c place right got empty is same to from p q =
      node_adds e (Node-F.Assign place right) a b c (open_node _ is (rolls-Assign place right)) (looked place.steps empty e.token e.line a b to from p)
      (one_in right b c (found_in right got b c same q))

  pub change_adds : (a b c : Option Problem) (how : How) (place : Place) (right got : Expr) (empty : Bool) → e.node ≡ node.Change place how right → got ≡ right
      → (empty ≡ true → place.steps ≡ []) → (place.steps ≡ [] → empty ≡ true) → Adds (λ q. (empty ≡ false) × (q ≡ problem e.token NotBuilt e.line)) a b
      → Adds (ExprProblem got) b c → Adds (ExprProblem e) a c
  change_adds a b c how place right got empty is same to from p q =
      node_adds e (Node-F.Change place how right) a b c (open_node _ is (rolls-Change place how right)) (looked place.steps empty e.token e.line a b to from p)
      (one_in right b c (found_in right got b c same q))

  pub unbuilt_adds : (a b : Option Problem) → (is_built (node_of e) ≡ false) × (exprs_within (node_of e) ≡ []) → Adds (λ q. (false ≡ false) × (q ≡ problem e.token NotBuilt e.line)) a b
      → Adds (ExprProblem e) a b
  unbuilt_adds a b left p = leaf_adds e (node_of e) a b refl left.1 (surely (is_built (node_of e)) e.token e.line a b left.0 p)

-- ---- and a statement

module _ (looped : Bool) (t : Statement) where
  pub block_adds : (a b : Option Problem) (ts these : List Statement) → t.kind ≡ kind.Block ts → these ≡ ts → Adds (IsInStatements looped these) a b → Adds (StatementProblem looped t) a b
  block_adds a b ts these is all p =
      plain_adds looped t (Kind-F.Block ts) a a b (open_kind _ is (rolls-Block ts)) refl refl (no_exprs a) (subst (λ x. Adds (IsInStatements looped x) a b) all p)

  pub print_adds : (a b : Option Problem) (es these : List Expr) → t.kind ≡ kind.Print es → these ≡ es → Adds (IsIn these) a b → Adds (StatementProblem looped t) a b
  print_adds a b es these is all p =
      plain_adds looped t (Kind-F.Print es) a b b (open_kind _ is (rolls-Print es)) refl refl (subst (λ x. Adds (IsIn x) a b) all p) (no_statements looped b)

  pub expr_adds : (a b : Option Problem) (e : Expr) → t.kind ≡ kind.Expr e → Adds (ExprProblem e) a b → Adds (StatementProblem looped t) a b
  expr_adds a b e is p = plain_adds looped t (Kind-F.Expr e) a b b (open_kind _ is (rolls-Expr e)) refl refl (one_in e a b p) (no_statements looped b)

  branches_to : (bs : List Branch) (other : Option Statement) → kind_of t ≡ Kind-F.If bs other → (x : Problem) → IsInBranches looped bs x ⊎ IsInStatements looped (statements_of other) x
      → StatementProblem looped t x
  branches_to bs other is x (inl (inl f)) = to_statement looped t (Kind-F.If bs other) is x (inr (inr (inl f)))
  branches_to bs other is x (inl (inr f)) = to_statement looped t (Kind-F.If bs other) is x (inr (inr (inr (in_statements_append looped (bodies_of bs) (statements_of other) x (inl f)))))
  branches_to bs other is x (inr f) = to_statement looped t (Kind-F.If bs other) is x (inr (inr (inr (in_statements_append looped (bodies_of bs) (statements_of other) x (inr f)))))

  branches_from : (bs : List Branch) (other : Option Statement) (x : Problem) → All looped t.token t.line (Kind-F.If bs other) x → IsInBranches looped bs x ⊎ IsInStatements looped (statements_of other) x
  branches_from bs other x (inl f) = absurd (true≢false f.0)
  branches_from bs other x (inr (inl f)) = absurd (true≢false (sym f.0))
  branches_from bs other x (inr (inr (inl f))) = inl (inl f)
  branches_from bs other x (inr (inr (inr f))) = ⊎_elim (λ g. inl (inr g)) (λ g. inr g) (of_statements_append looped (bodies_of bs) (statements_of other) x f)

  if_adds : (a b c : Option Problem) (bs : List Branch) (other : Option Statement) → t.kind ≡ kind.If bs other → Adds (IsInBranches looped bs) a b
      → Adds (IsInStatements looped (statements_of other)) b c → Adds (StatementProblem looped t) a c
  if_adds a b c bs other is p q =
      let layer = open_kind (Kind-F.If bs other) is (rolls-If bs other) in
      adds_as (λ x. IsInBranches looped bs x ⊎ IsInStatements looped (statements_of other) x) (StatementProblem looped t) a c (branches_to bs other layer)
      (λ x h. branches_from bs other x (of_statement looped t (Kind-F.If bs other) layer x h)) (adds_then (IsInBranches looped bs) (IsInStatements looped (statements_of other)) a b c p q)

  pub if_none_adds : (a b : Option Problem) (bs these : List Branch) (o : Option Statement) → t.kind ≡ kind.If bs o → o ≡ None → these ≡ bs → Adds (IsInBranches looped these) a b
      → Adds (StatementProblem looped t) a b
  if_none_adds a b bs these o is none all p =
      if_adds a b b bs None (is ∙ ap (λ x. kind.If bs x) none) (subst (λ x. Adds (IsInBranches looped x) a b) all p) (no_statements looped b)

  pub if_some_adds : (a b c : Option Problem) (bs these : List Branch) (o : Option Statement) (other got : Statement) → t.kind ≡ kind.If bs o → o ≡ Some other → these ≡ bs → got ≡ other
      → Adds (IsInBranches looped these) a b → Adds (StatementProblem looped got) b c → Adds (StatementProblem looped t) a c
  if_some_adds a b c bs these o other got is some all same p q =
      if_adds a b c bs (Some other) (is ∙ ap (λ x. kind.If bs x) some) (subst (λ x. Adds (IsInBranches looped x) a b) all p)
      (one_in_statements looped other b c (subst (λ x. Adds (StatementProblem looped x) b c) same q))

  pub while_adds : (a b c : Option Problem) (e : Expr) (body got : Statement) → t.kind ≡ kind.While e body → got ≡ body → Adds (ExprProblem e) a b → Adds (StatementProblem true got) b c
      → Adds (StatementProblem looped t) a c
  while_adds a b c e body got is same p q =
      plain_adds looped t (Kind-F.While e body) a b c (open_kind _ is (rolls-While e body)) refl refl (one_in e a b p)
      (one_in_statements true body b c (subst (λ x. Adds (StatementProblem true x) b c) same q))

  pub for_adds : (a b c d f : Option Problem) (first last first' last' : List Expr) (e : Option Expr) (body got : Statement) → t.kind ≡ kind.For first e last body → first' ≡ first → last' ≡ last
      → got ≡ body → Adds (IsIn first') a b → Adds (IsInOption e) b c → Adds (IsIn last') c d → Adds (StatementProblem true got) d f → Adds (StatementProblem looped t) a f
  for_adds a b c d f first last first' last' e body got is same_first same_last same p q r s =
      plain_adds looped t (Kind-F.For first e last body) a d f (open_kind _ is (rolls-For first e last body)) refl refl
      (both_in first (exprs_of e ++ last) a b d (subst (λ x. Adds (IsIn x) a b) same_first p) (both_in (exprs_of e) last b c d q (subst (λ x. Adds (IsIn x) c d) same_last r)))
      (one_in_statements true body d f (subst (λ x. Adds (StatementProblem true x) d f) same s))

  pub return_adds : (a b : Option Problem) (o : Option Expr) → t.kind ≡ kind.Return o → Adds (IsInOption o) a b → Adds (StatementProblem looped t) a b
  return_adds a b o is p = plain_adds looped t (Kind-F.Return o) a b b (open_kind _ is (rolls-Return o)) refl refl p (no_statements looped b)

  leaving_adds : (layer : StatementLayer) (a b : Option Problem) → kind_of t ≡ layer → is_built_statement layer ≡ true → leaves_turn layer ≡ true → exprs_in layer ≡ [] → statements_in layer ≡ []
      → Adds (λ q. (looped ≡ false) × (q ≡ problem t.token BreakOutside t.line)) a b → Adds (StatementProblem looped t) a b
  leaving_adds layer a b is built leaves none nothing p =
      statement_adds looped t layer a a b b b is (subst (λ x. Adds (Itself x t.token t.line) a a) (sym built) (built_already t.token t.line a))
      (subst (λ x. Adds (Outside x looped t.token t.line) a b) (sym leaves) (outside_loop looped t.token t.line a b p)) (subst (λ x. Adds (IsIn x) b b) (sym none) (no_exprs b))
      (subst (λ x. Adds (IsInStatements (is_loop layer || looped) x) b b) (sym nothing) (no_statements (is_loop layer || looped) b))

  pub break_adds : (a b : Option Problem) → t.kind ≡ kind.Break → Adds (λ q. (looped ≡ false) × (q ≡ problem t.token BreakOutside t.line)) a b → Adds (StatementProblem looped t) a b
  break_adds a b is p = leaving_adds Kind-F.Break a b (open_kind _ is rolls-Break) refl refl refl refl p

  pub continue_adds : (a b : Option Problem) → t.kind ≡ kind.Continue → Adds (λ q. (looped ≡ false) × (q ≡ problem t.token BreakOutside t.line)) a b → Adds (StatementProblem looped t) a b
  continue_adds a b is p = leaving_adds Kind-F.Continue a b (open_kind _ is rolls-Continue) refl refl refl refl p

  pub unbuilt_statement_adds : (a b : Option Problem)
      → (is_built_statement (kind_of t) ≡ false) × (leaves_turn (kind_of t) ≡ false) × (exprs_in (kind_of t) ≡ []) × (statements_in (kind_of t) ≡ [])
      → Adds (λ q. (false ≡ false) × (q ≡ problem t.token NotBuilt t.line)) a b → Adds (StatementProblem looped t) a b
  unbuilt_statement_adds a b left p =
      statement_adds looped t (kind_of t) a b b b b refl (surely (is_built_statement (kind_of t)) t.token t.line a b left.0 p)
      (subst (λ x. Adds (Outside x looped t.token t.line) b b) (sym left.1) (outside_no_loop looped t.token t.line b)) (subst (λ x. Adds (IsIn x) b b) (sym left.2) (no_exprs b))
      (subst (λ x. Adds (IsInStatements (is_loop (kind_of t) || looped) x) b b) (sym left.3) (no_statements (is_loop (kind_of t) || looped) b))

pub first_of : (p : Program) (definitions : List Named) (ts : List Statement) (new : Option Problem) → definitions ≡ p.functions → ts ≡ p.statements → Adds (IsProblemOf definitions ts) None new
    → MatchOption new (IsClean p) (IsFirst p)
first_of p definitions ts new same all h =
    first_found p new (subst (λ x. Adds (IsProblemOf p.functions x) None new) all (subst (λ x. Adds (IsProblemOf x ts) None new) same h))
