-- Words of statements of nesting at most a number make trees of that nesting, and so do programs.
use Rattle.std.proofs.Common.{◌≡◌, ℕ, zero, suc, List, [], ◌∷◌, Bool, Option, Some, None, codes, refl, sym, ap, subst, ◌∙◌, append-nil}
use Rattle.uq_value.specs.Data.{Bytes}
use Rattle.jx9_syntax.specs.Grammar
use Rattle.jx9_syntax.specs.Grammar.{Rule, Seq, Before, Spot, is_sign, is_word, first, second, pair, stands, expr_statement, branch_of, with_branch, no_branch, otherwise, key_and_value, VarName, Perhaps, Statements, AnyOf, InParens, IsBranch, ForHead, ForeachHead, IsSimple, IsStatement, IsBranches, BehindBranch, a_branch, no_else, with_else, with_elseif, IsBlock, Params, name, named_of, Item, Define, Run, ItemWithin, UnaryWithin, ExprWithin, BlockWithin, StatementWithin}
use Rattle.jx9_syntax.specs.Making.{Making, nothing, then_made, all_made}
use Rattle.jx9_syntax.specs.Nesting
use Rattle.jx9_syntax.specs.Nesting.{StatementFits, StatementsFit, BranchesFit, ExprFits, ExprsFit, FunctionsFit, ProgramFits, most_nesting}
use Rattle.jx9_syntax.specs.Program.{trees_of, definitions, statements_of}
use Rattle.jx9_syntax.specs.Trees.{StatementLayer}
use Rattle.jx9_syntax.specs.Words.{One, Many}
use Rattle.jx9_syntax.specs.declared.expression.Expr.{Expr}
use Rattle.jx9_syntax.specs.declared.sign.Sign.TheVariants as sign
use Rattle.jx9_syntax.specs.declared.statement.Branch.{Branch}
use Rattle.jx9_syntax.specs.declared.statement.Kind
use Rattle.jx9_syntax.specs.declared.statement.Kind.{Kind as KindTree, out-Kind, roll-Kind}
use Rattle.jx9_syntax.specs.declared.statement.Kind.TheViews.{out-roll-Kind, rolls-Empty, rolls-Block, rolls-Print, rolls-Expr, rolls-If, rolls-While, rolls-For, rolls-Foreach, rolls-Return, rolls-Break, rolls-Continue}
use Rattle.jx9_syntax.specs.declared.statement.Statement.{Statement}
use Rattle.jx9_parse.specs.Reading.{Tokens}
use Rattle.jx9_parse.proofs.Kept.{Table, Fit, Kept, Keeps, Any, ListFit, OptionFit, kept_same, kept_then, kept_nothing, keeps_seq, keeps_map, keeps_any, keeps_before, keeps_ending, keeps_repeat, keeps_commas, keeps_perhaps, keeps_perhaps_commas}
use Rattle.jx9_parse.proofs.ExprFits.{OfExprs, ListOf, expr_list, Blocks, keeps_unary, keeps_expr}

opened : {n : KindTree} (layer : StatementLayer) → roll-Kind layer ≡ n → out-Kind n ≡ layer
opened layer h = ap out-Kind (sym h) ∙ out-roll-Kind layer

abbrev ListOfStatements : ℕ → Fit (List Statement)
ListOfStatements k table ss = StatementsFit table k ss

statement_list : (k : ℕ) → ListFit (Blocks k) (ListOfStatements k)
statement_list k = record { none = λ table. Nesting.no_statements; more = λ table s ss p q. Nesting.statement p q }

keeps_block : {k : ℕ} {S : Statements} → ((is_open : Bool) → Keeps (S is_open) (Blocks k)) → Keeps (IsBlock S) (Blocks (suc k))
keeps_block {k} {S} s = keeps_seq Any (ListOfStatements k) (Blocks (suc k)) (λ p ss. stands p (Kind.Block ss)) (λ table p ss h q. Nesting.block ss (opened _ (rolls-Block ss)) q) (keeps_any (One (is_sign sign.OpenBrace)))
    (keeps_ending (ListOfStatements k) (keeps_repeat (Blocks k) (ListOfStatements k) (statement_list k) any))
  where
    any : Keeps (AnyOf S) (Blocks k)
    any w m is = s is.0 w m is.1

-- ---- `if`

abbrev OneBranch : ℕ → Fit Branch
OneBranch k table b = ExprFits table k b.test × StatementFits table k b.body

abbrev Branched : ℕ → Fit (List Branch × Option Statement)
Branched k table x = BranchesFit table k x.0 × OptionFit (Blocks k) table x.1

with_one : (k : ℕ) (table : Table) (b : Branch) (x : List Branch × Option Statement) → OneBranch k table b → Branched k table x → Branched k table (with_branch b x)
with_one k table b x p q = (Nesting.branch p.0 p.1 q.0, q.1)

module _ {k : ℕ} {P : Bool → Rule Branch} {S : Statements} (p : (is_open : Bool) → Keeps (P is_open) (OneBranch k)) (s : (is_open : Bool) → Keeps (S is_open) (Blocks k)) where
  mutual
    keeps_branches : (is_open : Bool) (w : Tokens) (m : Making (List Branch × Option Statement)) → IsBranches P S is_open w m → Kept (Branched k) m
    keeps_branches is_open w m (a_branch first_open front back b others parts is_left is_right is_value) =
        kept_same (Branched k) m (then_made with_branch b others) is_value (kept_then (OneBranch k) (Branched k) (Branched k) with_branch (with_one k) b others (p first_open front b is_left) (keeps_behind is_open first_open back others is_right))

    keeps_behind : (is_open first_open : Bool) (w : Tokens) (m : Making (List Branch × Option Statement)) → BehindBranch P S is_open first_open w m → Kept (Branched k) m
    keeps_behind is_open first_open w m (no_else e is) = kept_same (Branched k) m (nothing no_branch) is.is_value (kept_nothing (Branched k) no_branch (λ table. (Nesting.no_branches, tt)))
    keeps_behind is_open first_open w m (with_else e is) = keeps_map (Blocks k) (Branched k) otherwise (λ table t h. (Nesting.no_branches, h)) (keeps_before (Blocks k) (s is_open)) w m is
    keeps_behind is_open first_open w m (with_elseif front back q others e parts is_left is_right is_value) =
        kept_same (Branched k) m (then_made second q others) is_value (kept_then Any (Branched k) (Branched k) second (λ table a x h g. g) q others (keeps_any (One (is_word (codes "elseif"))) front q is_left) (keeps_branches is_open back others is_right))

if_fits : (k : ℕ) (table : Table) (p : Spot) (x : List Branch × Option Statement) → Branched k table x → StatementFits table (suc k) (stands p (Kind.If x.0 x.1))
if_fits k table p (bs, None) h = Nesting.if_alone bs (opened _ (rolls-If bs None)) h.0
if_fits k table p (bs, Some s) h = Nesting.if_else bs s (opened _ (rolls-If bs (Some s))) h.0 h.1

-- ---- `for`

abbrev ForFit : ℕ → Fit (List Expr × (Option Expr × List Expr))
ForFit k table x = ExprsFit table k x.0 × (OptionFit (OfExprs k) table x.1.0 × ExprsFit table k x.1.1)

for_fits : (k : ℕ) (table : Table) (p : Spot) (first last : List Expr) (e : Option Expr) (s : Statement) → ForFit k table (first, (e, last)) → StatementFits table k s → StatementFits table (suc k) (stands p (Kind.For first e last s))
for_fits k table p first last None s h g = Nesting.for_ever first last s (opened _ (rolls-For first None last s)) h.0 h.1.1 g
for_fits k table p first last (Some e) s h g = Nesting.for_test first last e s (opened _ (rolls-For first (Some e) last s)) h.0 h.1.0 h.1.1 g

return_fits : (k : ℕ) (table : Table) (p : Spot) (e : Option Expr) → OptionFit (OfExprs (suc k)) table e → StatementFits table (suc k) (stands p (Kind.Return e))
return_fits k table p None h = Nesting.return (opened _ (rolls-Return None))
return_fits k table p (Some e) h = Nesting.return_of e (opened _ (rolls-Return (Some e))) h

-- ---- statements

module _ {k : ℕ} {X E : Rule Expr} {S : Statements} {B : Rule Statement} (x : Keeps X (OfExprs (suc k))) (e : Keeps E (OfExprs k)) (s : (is_open : Bool) → Keeps (S is_open) (Blocks k)) (b : Keeps B (Blocks (suc k))) where
  keeps_parens : Keeps (InParens X E S B) (OfExprs k)
  keeps_parens = keeps_ending (OfExprs k) (keeps_before (OfExprs k) e)

  keeps_branch : (is_open : Bool) → Keeps (IsBranch X E S B is_open) (OneBranch k)
  keeps_branch is_open = keeps_seq (OfExprs k) (Blocks k) (OneBranch k) branch_of (λ table a t p q. (p, q)) keeps_parens (s is_open)

  keeps_for : Keeps (ForHead X E S B) (ForFit k)
  keeps_for = keeps_seq (ListOf k) (λ table y. OptionFit (OfExprs k) table y.0 × ExprsFit table k y.1) (ForFit k) pair (λ table a y p q. (p, q)) (keeps_ending (ListOf k) (keeps_before (ListOf k) (keeps_perhaps_commas (OfExprs k) (ListOf k) (expr_list k) e)))
      (keeps_seq (OptionFit (OfExprs k)) (ListOf k) (λ table y. OptionFit (OfExprs k) table y.0 × ExprsFit table k y.1) pair (λ table o y p q. (p, q)) (keeps_ending (OptionFit (OfExprs k)) (keeps_perhaps (OfExprs k) e))
      (keeps_ending (ListOf k) (keeps_perhaps_commas (OfExprs k) (ListOf k) (expr_list k) e)))

  abbrev ForeachFit : Fit (Expr × (Option Bytes × Bytes))
  ForeachFit table y = ExprFits table k y.0

  keeps_foreach : Keeps (ForeachHead X E S B) ForeachFit
  keeps_foreach = keeps_seq (OfExprs k) Any ForeachFit pair (λ table a y p q. p) (keeps_ending (OfExprs k) (keeps_before (OfExprs k) e)) (keeps_ending Any (keeps_any (Seq key_and_value VarName (Perhaps (Before (is_sign sign.Comma) VarName)))))

  keeps_simple : Keeps (IsSimple X E S B) (Blocks (suc k))
  keeps_simple w m (Grammar.empty is) = keeps_map Any (Blocks (suc k)) (λ p. stands p Kind.Empty) (λ table p h. Nesting.empty (opened _ rolls-Empty)) (keeps_any (One (is_sign sign.Semicolon))) w m is
  keeps_simple w m (Grammar.of_block is) = b w m is
  keeps_simple w m (Grammar.printing is) = keeps_seq Any (ListOf (suc k)) (Blocks (suc k)) (λ p es. stands p (Kind.Print es)) (λ table p es h q. Nesting.print es (opened _ (rolls-Print es)) q) (keeps_any (One (is_word (codes "print"))))
      (keeps_ending (ListOf (suc k)) (keeps_commas (OfExprs (suc k)) (ListOf (suc k)) (expr_list (suc k)) x)) w m is
  keeps_simple w m (Grammar.of_expr bars is) = keeps_map (OfExprs (suc k)) (Blocks (suc k)) expr_statement (λ table a h. Nesting.of_expr a (opened _ (rolls-Expr a)) h) (keeps_ending (OfExprs (suc k)) x) w m is
  keeps_simple w m (Grammar.returning is) = keeps_seq Any (OptionFit (OfExprs (suc k))) (Blocks (suc k)) (λ p o. stands p (Kind.Return o)) (λ table p o h q. return_fits k table p o q) (keeps_any (One (is_word (codes "return"))))
      (keeps_ending (OptionFit (OfExprs (suc k))) (keeps_perhaps (OfExprs (suc k)) x)) w m is
  keeps_simple w m (Grammar.breaking is) = keeps_map Any (Blocks (suc k)) (λ p. stands p Kind.Break) (λ table p h. Nesting.break (opened _ rolls-Break)) (keeps_ending Any (keeps_any (One (is_word (codes "break"))))) w m is
  keeps_simple w m (Grammar.continuing is) = keeps_map Any (Blocks (suc k)) (λ p. stands p Kind.Continue) (λ table p h. Nesting.continue (opened _ rolls-Continue)) (keeps_ending Any (keeps_any (One (is_word (codes "continue"))))) w m is

  keeps_statement : (is_open : Bool) → Keeps (IsStatement X E S B is_open) (Blocks (suc k))
  keeps_statement is_open w m (Grammar.simple h is) = keeps_simple w m is
  keeps_statement is_open w m (Grammar.of_if is) = keeps_seq Any (Branched k) (Blocks (suc k)) (λ p y. stands p (Kind.If y.0 y.1)) (λ table p y h q. if_fits k table p y q) (keeps_any (One (is_word (codes "if")))) (keeps_branches keeps_branch s is_open) w m is
  keeps_statement is_open w m (Grammar.of_while is) = keeps_seq Any (λ table y. ExprFits table k y.0 × StatementFits table k y.1) (Blocks (suc k)) (λ p y. stands p (Kind.While y.0 y.1)) (λ table p y h q. Nesting.while y.0 y.1 (opened _ (rolls-While y.0 y.1)) q.0 q.1)
      (keeps_any (One (is_word (codes "while")))) (keeps_seq (OfExprs k) (Blocks k) (λ table y. ExprFits table k y.0 × StatementFits table k y.1) pair (λ table a t p q. (p, q)) keeps_parens (s is_open)) w m is
  keeps_statement is_open w m (Grammar.of_for is) = keeps_seq Any (λ table y. ForFit k table y.0 × StatementFits table k y.1) (Blocks (suc k)) (λ p y. stands p (Kind.For y.0.0 y.0.1.0 y.0.1.1 y.1)) (λ table p y h q. for_fits k table p y.0.0 y.0.1.1 y.0.1.0 y.1 q.0 q.1)
      (keeps_any (One (is_word (codes "for")))) (keeps_seq (ForFit k) (Blocks k) (λ table y. ForFit k table y.0 × StatementFits table k y.1) pair (λ table a t p q. (p, q)) keeps_for (s is_open)) w m is
  keeps_statement is_open w m (Grammar.of_foreach is) = keeps_seq Any (λ table y. ExprFits table k y.0.0 × StatementFits table k y.1) (Blocks (suc k)) (λ p y. stands p (Kind.Foreach y.0.0 y.0.1.0 y.0.1.1 y.1))
      (λ table p y h q. Nesting.foreach y.0.0 y.0.1.0 y.0.1.1 y.1 (opened _ (rolls-Foreach y.0.0 y.0.1.0 y.0.1.1 y.1)) q.0 q.1)
      (keeps_any (One (is_word (codes "foreach")))) (keeps_seq ForeachFit (Blocks k) (λ table y. ExprFits table k y.0.0 × StatementFits table k y.1) pair (λ table a t p q. (p, q)) keeps_foreach (s is_open)) w m is

-- ---- by induction on the nesting

record AllFit (k : ℕ) : Type 0 where
  unaries : Keeps (UnaryWithin k) (OfExprs k)
  exprs : Keeps (ExprWithin k) (OfExprs k)
  blocks : Keeps (BlockWithin k) (Blocks k)
  statements : (is_open : Bool) → Keeps (StatementWithin k is_open) (Blocks k)

all_fit : (k : ℕ) → AllFit k
unfolding UnaryWithin ExprWithin BlockWithin StatementWithin
all_fit zero = record { unaries = λ w m is. absurd is; exprs = λ w m is. absurd is; blocks = λ w m is. absurd is; statements = λ is_open w m is. absurd is }
all_fit (suc k) = let f = all_fit k in record {
  unaries = keeps_unary f.unaries f.exprs f.blocks;
  exprs = keeps_expr f.unaries f.exprs f.blocks;
  blocks = keeps_block f.statements;
  statements = keeps_statement (keeps_expr f.unaries f.exprs f.blocks) f.exprs f.statements (keeps_block f.statements);
}

-- ---- programs

abbrev OneItem : ℕ → Fit Item
OneItem k table (Define f) = StatementFits table k f.function.body
OneItem k table (Run s) = StatementFits table (suc k) s

keeps_item : (k : ℕ) → Keeps (ItemWithin (suc k)) (OneItem k)
keeps_item k w m (Grammar.definition is) = keeps_map (λ table f. StatementFits table k f.function.body) (OneItem k) Define (λ table f h. h)
    (keeps_seq Any (λ table y. StatementFits table k y.1.1) (λ table f. StatementFits table k f.function.body) named_of (λ table s y h q. q) (keeps_any (One (is_word (codes "function"))))
    (keeps_seq Any (λ table y. StatementFits table k y.1) (λ table y. StatementFits table k y.1.1) pair (λ table n y h q. q) (keeps_any (One name))
    (keeps_seq Any (Blocks k) (λ table y. StatementFits table k y.1) pair (λ table ps s h q. q) (keeps_any Params) (all_fit k).blocks))) w m is
keeps_item k w m (Grammar.statement is) = keeps_map (Blocks (suc k)) (OneItem k) Run (λ table s h. h) any w m is
  where
    any : Keeps (AnyOf (StatementWithin (suc k))) (Blocks (suc k))
    any w m is = (all_fit (suc k)).statements is.0 w m is.1

abbrev Fitting : ℕ → Fit (List Item)
Fitting k table is = FunctionsFit table (suc k) (definitions is) × StatementsFit table (suc k) (statements_of is)

item_list : (k : ℕ) → ListFit (OneItem k) (Fitting k)
item_list k = record { none = λ table. (tt, Nesting.no_statements); more = more }
  where
    more : (table : Table) (i : Item) (others : List Item) → OneItem k table i → Fitting k table others → Fitting k table (i ∷ others)
    more table (Define f) others p q = ((p, q.0), q.1)
    more table (Run s) others p q = (q.0, Nesting.statement p q.1)

-- a program's trees are of its nesting
pub program_fits : (items : List (Making Item)) (w : Tokens) → Many (ItemWithin most_nesting) w items → let t = trees_of (all_made items 0 1) in ProgramFits most_nesting t.functions t.lambdas t.statements
program_fits items w is =
    let m = all_made items 0 1 in
    let h = keeps_repeat (OneItem 199) (Fitting 199) (item_list 199) (keeps_item 199) w (all_made items) (record { value = items; is_word = is; is_value = refl }) [] [] 0 in
    let g : Fitting 199 m.lambdas m.made = subst (λ (t : Table). Fitting 199 t m.made) (append-nil m.lambdas) h in
    record { functions_fit = g.0; statements_fit = g.1 }
