-- What a level of nesting gives, from what its constructs give.
use Rattle.std.proofs.Common.{◌≡◌, ℕ, ◌-◌, Result, Ok, Err, IsErrAnd, sym, subst, ◌∙◌}
use Rattle.jx9_syntax.specs.declared.expression.Expr.{Expr}
use Rattle.jx9_syntax.specs.declared.statement.Statement.{Statement}
use Rattle.jx9_parse.specs.Answers.{state, Stops}
use Rattle.jx9_parse.specs.Deeper.{TreeGives}
use Rattle.jx9_parse.specs.Levels as levels
use Rattle.jx9_parse.specs.Reading.{State, Read}
use Rattle.jx9_parse.specs.declared.construct.Construct.{Construct}
use Rattle.jx9_parse.specs.declared.construct.Construct.TheVariants as construct
use Rattle.jx9_parse.specs.declared.construct.OneOf.TheVariants as one_of
use Rattle.jx9_parse.specs.declared.parser.Parser.{Parser}
use Rattle.jx9_parse.specs.declared.stop.Stop.{Stop}
use Rattle.jx9_parse.specs.declared.stop.Stop.TheVariants as stop
use Rattle.jx9_parse.proofs.RoomSteps.{no_room, one_less}

-- with no room
pub no_tree : (c : Construct) (p : Parser) (k : ℕ) → k ≡ 0 → TreeGives c (Err stop.Dead) p k (state p)
no_tree construct.Unary p k e = (no_room k (state p) e).0
no_tree construct.Expr p k e = (no_room k (state p) e).1
no_tree construct.Block p k e = (no_room k (state p) e).2
no_tree construct.Statement p k e = (no_room k (state p) e).3

-- what `?` gives back is the fault
pub as_err : {T E : Type 0} (Q : Result T E → Type 0) (r : Result T E) (x : E) → IsErrAnd r (λ e. e ≡ x) → Q (Err x) → Q r
as_err {T} {E} Q (Err e) x h q = subst (λ (y : E). Q (Err y)) (sym h) q
as_err Q (Ok y) x h q = absurd h

pub unary_read : (c : Construct) (e : Expr) (p : Parser) (k : ℕ) (s : State) → c ≡ construct.Unary → (k ≡ 0 → ⊥) → levels.unary (k - 1) s ≡ Ok (e, state p) → TreeGives c (Ok (one_of.First e)) p k s
unary_read c e p k s is h g = subst (λ (d : Construct). TreeGives d (Ok (one_of.First e)) p k s) (sym is) (sym (one_less k s h).0 ∙ g)

pub unary_stops : (c : Construct) (e : Stop) (p : Parser) (k : ℕ) (s : State) → c ≡ construct.Unary → (k ≡ 0 → ⊥) → Stops e p (levels.unary (k - 1) s) → TreeGives c (Err e) p k s
unary_stops c e p k s is h g = subst (λ (d : Construct). TreeGives d (Err e) p k s) (sym is) (subst (λ (q : Read Expr). Stops e p q) (one_less k s h).0 g)

pub expression_read : (c : Construct) (e : Expr) (p : Parser) (k : ℕ) (s : State) → c ≡ construct.Expr → (k ≡ 0 → ⊥) → levels.expression (k - 1) s ≡ Ok (e, state p) → TreeGives c (Ok (one_of.First e)) p k s
expression_read c e p k s is h g = subst (λ (d : Construct). TreeGives d (Ok (one_of.First e)) p k s) (sym is) (sym (one_less k s h).1 ∙ g)

pub expression_stops : (c : Construct) (e : Stop) (p : Parser) (k : ℕ) (s : State) → c ≡ construct.Expr → (k ≡ 0 → ⊥) → Stops e p (levels.expression (k - 1) s) → TreeGives c (Err e) p k s
expression_stops c e p k s is h g = subst (λ (d : Construct). TreeGives d (Err e) p k s) (sym is) (subst (λ (q : Read Expr). Stops e p q) (one_less k s h).1 g)

pub block_read : (c : Construct) (e : Statement) (p : Parser) (k : ℕ) (s : State) → c ≡ construct.Block → (k ≡ 0 → ⊥) → levels.block (k - 1) s ≡ Ok (e, state p) → TreeGives c (Ok (one_of.Second e)) p k s
block_read c e p k s is h g = subst (λ (d : Construct). TreeGives d (Ok (one_of.Second e)) p k s) (sym is) (sym (one_less k s h).2 ∙ g)

pub block_stops : (c : Construct) (e : Stop) (p : Parser) (k : ℕ) (s : State) → c ≡ construct.Block → (k ≡ 0 → ⊥) → Stops e p (levels.block (k - 1) s) → TreeGives c (Err e) p k s
block_stops c e p k s is h g = subst (λ (d : Construct). TreeGives d (Err e) p k s) (sym is) (subst (λ (q : Read Statement). Stops e p q) (one_less k s h).2 g)

pub statement_read : (c : Construct) (e : Statement) (p : Parser) (k : ℕ) (s : State) → c ≡ construct.Statement → (k ≡ 0 → ⊥) → levels.one_statement (k - 1) s ≡ Ok (e, state p) → TreeGives c (Ok (one_of.Second e)) p k s
statement_read c e p k s is h g = subst (λ (d : Construct). TreeGives d (Ok (one_of.Second e)) p k s) (sym is) (sym (one_less k s h).3 ∙ g)

pub statement_stops : (c : Construct) (e : Stop) (p : Parser) (k : ℕ) (s : State) → c ≡ construct.Statement → (k ≡ 0 → ⊥) → Stops e p (levels.one_statement (k - 1) s) → TreeGives c (Err e) p k s
statement_stops c e p k s is h g = subst (λ (d : Construct). TreeGives d (Err e) p k s) (sym is) (subst (λ (q : Read Statement). Stops e p q) (one_less k s h).3 g)
