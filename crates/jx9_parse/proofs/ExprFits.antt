-- Words of expressions of nesting at most a number make trees of that nesting.
use Rattle.std.proofs.Common.{◌≡◌, ℕ, zero, suc, List, [], ◌∷◌, Bool, true, false, cond, eqb, Option, Some, None, codes, sym, ap, ◌∙◌}
use Rattle.uq_value.specs.Data.{Bytes}
use Rattle.jx9_syntax.specs.Grammar
use Rattle.jx9_syntax.specs.Grammar.{code, Rule, Repeat, Before, Spot, spot, is_sign, is_word, var, any_name, name, member_name, literal_or_mixed, literal_in, literal_at, word_literal, step_sign, operator, change_sign, at, like, pair, place_of, variable, with_steps, function_of, Params, IsAccess, IsPlace, Arguments, IsEntry, IsPrimary, IsUnary, Level, IsExpr, Operator, Of, Joining, Both, Either, operands, link_of, links, chain_node, chain}
use Rattle.jx9_syntax.specs.Making.{Making, mapped}
use Rattle.jx9_syntax.specs.Nesting
use Rattle.jx9_syntax.specs.Nesting.{ExprFits, ExprsFit, StepsFit, EntriesFit, LinksFit, StatementFits, no_exprs, no_steps, no_entries, no_links}
use Rattle.jx9_syntax.specs.Trees.{ExprLayer, AccessLayer}
use Rattle.jx9_syntax.specs.Words.{One}
use Rattle.jx9_syntax.specs.declared.expression.Access
use Rattle.jx9_syntax.specs.declared.expression.Access.{Access as AccessTree, out-Access, roll-Access}
use Rattle.jx9_syntax.specs.declared.expression.Access.TheViews.{out-roll-Node, out-roll-Access, rolls-Member, rolls-Index, rolls-And, rolls-Append, rolls-Assign, rolls-Call, rolls-Chain, rolls-Change, rolls-Cond, rolls-Group, rolls-Join, rolls-Lambda, rolls-List, rolls-Literal, rolls-Mixed, rolls-Negate, rolls-Not, rolls-Object, rolls-Or, rolls-Path, rolls-Step, rolls-Var, rolls-VarCall}
use Rattle.jx9_syntax.specs.declared.expression.Change.{Change as Operation}
use Rattle.jx9_syntax.specs.declared.expression.Entry.{Entry}
use Rattle.jx9_syntax.specs.declared.expression.Expr.{Expr}
use Rattle.jx9_syntax.specs.declared.expression.Literal.{Literal}
use Rattle.jx9_syntax.specs.declared.expression.Literal.TheVariants as literal
use Rattle.jx9_syntax.specs.declared.expression.Node
use Rattle.jx9_syntax.specs.declared.expression.Node.{Node as NodeTree, out-Node, roll-Node}
use Rattle.jx9_syntax.specs.declared.expression.Place.{Place}
use Rattle.jx9_syntax.specs.declared.expression.Step.{Step}
use Rattle.jx9_syntax.specs.declared.expression.Step.TheVariants as step
use Rattle.jx9_syntax.specs.declared.sign.Sign.TheVariants as sign
use Rattle.jx9_syntax.specs.declared.statement.Statement.{Statement}
use Rattle.jx9_syntax.specs.declared.token.Token.{Token}
use Rattle.jx9_syntax.specs.declared.token.TokenKind.{TokenKind}
use Rattle.jx9_syntax.specs.declared.token.TokenKind.TheVariants as kind
use Rattle.jx9_parse.proofs.Kept.{Table, Fit, Kept, Keeps, Any, ListFit, kept_same, keeps_seq, keeps_map, keeps_lambda, keeps_any, keeps_before, keeps_ending, keeps_repeat, keeps_listed, keeps_perhaps_commas}

-- a node, and a step, by what it was made of
opened : {n : NodeTree} (layer : ExprLayer) → roll-Node layer ≡ n → out-Node n ≡ layer
opened layer h = ap out-Node (sym h) ∙ out-roll-Node layer

opened_access : {a : AccessTree} (layer : AccessLayer) → roll-Access layer ≡ a → out-Access a ≡ layer
opened_access layer h = ap out-Access (sym h) ∙ out-roll-Access layer

abbrev pub OfExprs : ℕ → Fit Expr
OfExprs k table e = ExprFits table k e

abbrev pub ListOf : ℕ → Fit (List Expr)
ListOf k table es = ExprsFit table k es

pub expr_list : (k : ℕ) → ListFit (OfExprs k) (ListOf k)
expr_list k = record { none = λ table. no_exprs; more = λ table e es p q. Nesting.expr p q }

abbrev Steps : ℕ → Fit (List AccessTree)
Steps k table steps = StepsFit table k steps

abbrev OneStep : ℕ → Fit AccessTree
OneStep k table a = StepsFit table k (a ∷ [])

step_list : (k : ℕ) → ListFit (OneStep (suc k)) (Steps (suc k))
step_list k = record { none = λ table. no_steps; more = λ table a steps p q. more table a steps p q }
  where
    more : (table : Table) (a : AccessTree) (steps : List AccessTree) → StepsFit table (suc k) (a ∷ []) → StepsFit table (suc k) steps → StepsFit table (suc k) (a ∷ steps)
    more table a steps (Nesting.member name e rest) q = Nesting.member name e q
    more table a steps (Nesting.index x e p rest) q = Nesting.index x e p q

abbrev Placed : ℕ → Fit (Place × Spot)
Placed k table p = StepsFit table k p.0.steps

-- ---- one token

literal_fits : (k : ℕ) (t : Token) (l : Literal) → Kept (OfExprs (suc k)) (literal_at t l)
literal_fits k t l before after n = Nesting.literal l (opened _ (rolls-Literal l))

some_is : {A : Type 0} (a b : A) → ◌≡◌ {A = Option A} (Some a) (Some b) → a ≡ b
some_is a b e = cc

none_some : {A : Type 0} {B : Type 0} (a : A) → ◌≡◌ {A = Option A} None (Some a) → B
none_some a e = absurd cc

word_fits : (k : ℕ) (t : Token) (m : Making Expr) → word_literal t ≡ Some m → Kept (OfExprs (suc k)) m
word_fits k t m e = null (eqb (code t) 4) e
  where
    is : (l : Literal) → ◌≡◌ {A = Option (Making Expr)} (Some (literal_at t l)) (Some m) → Kept (OfExprs (suc k)) m
    is l e = kept_same (OfExprs (suc k)) m (literal_at t l) (sym (some_is (literal_at t l) m e)) (literal_fits k t l)

    line : (b : Bool) → cond b (Some (literal_at t (literal.Text (0x0a ∷ [])))) None ≡ Some m → Kept (OfExprs (suc k)) m
    line true e = is (literal.Text (0x0a ∷ [])) e
    line false e = none_some m e

    other : (b : Bool) → cond b (Some (literal_at t (literal.Bool false))) (cond (eqb (code t) 7) (Some (literal_at t (literal.Text (0x0a ∷ [])))) None) ≡ Some m → Kept (OfExprs (suc k)) m
    other true e = is (literal.Bool false) e
    other false e = line (eqb (code t) 7) e

    truth : (b : Bool) → cond b (Some (literal_at t (literal.Bool true))) (cond (eqb (code t) 6) (Some (literal_at t (literal.Bool false))) (cond (eqb (code t) 7) (Some (literal_at t (literal.Text (0x0a ∷ [])))) None)) ≡ Some m → Kept (OfExprs (suc k)) m
    truth true e = is (literal.Bool true) e
    truth false e = other (eqb (code t) 6) e

    null : (b : Bool) → cond b (Some (literal_at t literal.Null)) (cond (eqb (code t) 5) (Some (literal_at t (literal.Bool true))) (cond (eqb (code t) 6) (Some (literal_at t (literal.Bool false))) (cond (eqb (code t) 7) (Some (literal_at t (literal.Text (0x0a ∷ [])))) None))) ≡ Some m
        → Kept (OfExprs (suc k)) m
    null true e = is literal.Null e
    null false e = truth (eqb (code t) 5) e

token_fits : (k : ℕ) (t : Token) (x : TokenKind) (m : Making Expr) → literal_in t x ≡ Some m → Kept (OfExprs (suc k)) m
token_fits k t (kind.Int z) m e = kept_same (OfExprs (suc k)) m (literal_at t (literal.Int z)) (sym (some_is (literal_at t (literal.Int z)) m e)) (literal_fits k t (literal.Int z))
token_fits k t (kind.Text bs) m e = kept_same (OfExprs (suc k)) m (literal_at t (literal.Text bs)) (sym (some_is (literal_at t (literal.Text bs)) m e)) (literal_fits k t (literal.Text bs))
token_fits k t (kind.Mixed ps) m e = let n = mapped (λ s. at s (Node.Mixed ps)) (spot t) in kept_same (OfExprs (suc k)) m n (sym (some_is n m e)) (λ before after i. Nesting.mixed ps (opened _ (rolls-Mixed ps)))
token_fits k t (kind.Name x) m e = word_fits k t m e
token_fits k t (kind.Var x) m e = word_fits k t m e
token_fits k t (kind.Sign s) m e = word_fits k t m e
token_fits k t kind.End m e = word_fits k t m e

keeps_literal : (k : ℕ) → Keeps (One literal_or_mixed) (OfExprs (suc k))
keeps_literal k w m is = token_fits k is.token is.token.kind m is.tells

-- ---- chains

abbrev LinkFit : ℕ → Fit (Operator × Expr)
LinkFit k table l = ExprFits table k l.1

abbrev pub AllLinks : ℕ → Fit (List (Operator × Expr))
AllLinks k table [] = Unit {0}
AllLinks k table (l ∷ ls) = ExprFits table k l.1 × AllLinks k table ls

operands_fit : (k : ℕ) (table : Table) (ls : List (Operator × Expr)) → AllLinks k table ls → ExprsFit table k (operands ls)
operands_fit k table [] h = no_exprs
operands_fit k table (l ∷ ls) h = Nesting.expr h.0 (operands_fit k table ls h.1)

links_fit : (k : ℕ) (table : Table) (ls : List (Operator × Expr)) → AllLinks k table ls → LinksFit table k (links ls)
links_fit k table [] h = no_links
links_fit k table (l ∷ ls) h = by l.0 (links_fit k table ls h.1)
  where
    by : (o : Operator) → LinksFit table k (links ls) → LinksFit table k (link_of o l.1 (links ls))
    by (Of op) r = Nesting.link h.0 r
    by Joining r = r
    by Both r = r
    by Either r = r

chain_fits : (k : ℕ) (table : Table) (e : Expr) (ls : List (Operator × Expr)) → ExprFits table (suc k) e → AllLinks (suc k) table ls → ExprFits table (suc k) (chain e ls)
chain_fits k table e [] p h = p
chain_fits k table e (l ∷ ls) p h = by l.0
  where
    by : (o : Operator) → ExprFits table (suc k) (like e (chain_node o e (l ∷ ls)))
    by (Of op) = Nesting.chain e (links (l ∷ ls)) (opened _ (rolls-Chain e (links (l ∷ ls)))) p (links_fit (suc k) table (l ∷ ls) h)
    by Joining = Nesting.joined (e ∷ operands (l ∷ ls)) (opened _ (rolls-Join (e ∷ operands (l ∷ ls)))) (Nesting.expr p (operands_fit (suc k) table (l ∷ ls) h))
    by Both = Nesting.both e (operands (l ∷ ls)) (opened _ (rolls-And e (operands (l ∷ ls)))) p (operands_fit (suc k) table (l ∷ ls) h)
    by Either = Nesting.either e (operands (l ∷ ls)) (opened _ (rolls-Or e (operands (l ∷ ls)))) p (operands_fit (suc k) table (l ∷ ls) h)

link_list : (k : ℕ) → ListFit (LinkFit k) (AllLinks k)
link_list k = record { none = λ table. tt; more = λ table l ls p q. (p, q) }

path_fits : (k : ℕ) (table : Table) (e : Expr) (steps : List AccessTree) → ExprFits table (suc k) e → StepsFit table (suc k) steps → ExprFits table (suc k) (with_steps e steps)
path_fits k table e [] p q = p
path_fits k table e (a ∷ steps) p q = Nesting.path e (a ∷ steps) (opened _ (rolls-Path e (a ∷ steps))) p q

-- ---- expressions

abbrev pub Blocks : ℕ → Fit Statement
Blocks k table s = StatementFits table k s

module _ {k : ℕ} {U E : Rule Expr} {B : Rule Statement} (u : Keeps U (OfExprs k)) (e : Keeps E (OfExprs k)) (b : Keeps B (Blocks k)) where
  keeps_access : Keeps (IsAccess U E B) (OneStep (suc k))
  keeps_access w m (Grammar.member is) = keeps_map Any (OneStep (suc k)) (λ (n : Bytes × Spot). Access.Member n.0) (λ (table : Table) (n : Bytes × Spot) p. Nesting.member n.0 (opened_access _ (rolls-Member n.0)) no_steps) (keeps_any (Before (is_sign sign.Dot) (One any_name))) w m is
  keeps_access w m (Grammar.index is) = keeps_map (OfExprs k) (OneStep (suc k)) (λ x. Access.Index x) (λ table x p. Nesting.index x (opened_access _ (rolls-Index x)) p no_steps) (keeps_ending (OfExprs k) (keeps_before (OfExprs k) e)) w m is

  keeps_steps : Keeps (Repeat (IsAccess U E B)) (Steps (suc k))
  keeps_steps = keeps_repeat (OneStep (suc k)) (Steps (suc k)) (step_list k) keeps_access

  keeps_place : Keeps (IsPlace U E B) (Placed (suc k))
  keeps_place = keeps_seq Any (Steps (suc k)) (Placed (suc k)) place_of (λ table v steps p q. q) (keeps_any (One var)) keeps_steps

  keeps_arguments : Keeps (Arguments U E B) (ListOf k)
  keeps_arguments = keeps_ending (ListOf k) (keeps_before (ListOf k) (keeps_perhaps_commas (OfExprs k) (ListOf k) (expr_list k) e))

  abbrev Entries : Fit (List Entry)
  Entries table ms = EntriesFit table k ms

  abbrev OneEntry : Fit Entry
  OneEntry table m = ExprFits table k m.value

  keeps_entry : Keeps (IsEntry U E B) OneEntry
  keeps_entry = keeps_seq Any (OfExprs k) OneEntry (λ n x. record { name = n.0; value = x }) (λ table n x p q. q) (keeps_any (One member_name)) (keeps_before (OfExprs k) e)

  entry_list : ListFit OneEntry Entries
  entry_list = record { none = λ table. no_entries; more = λ table m ms p q. Nesting.entry p q }

  abbrev Bodied : Fit (Spot × (List Bytes × Statement))
  Bodied table x = StatementFits table k x.1.1

  keeps_primary : Keeps (IsPrimary U E B) (OfExprs (suc k))
  keeps_primary w m (Grammar.of_literal is) = keeps_literal k w m is
  keeps_primary w m (Grammar.in_group is) = keeps_seq Any (OfExprs k) (OfExprs (suc k)) (λ s x. at s (Node.Group x)) (λ table s x p q. Nesting.group x (opened _ (rolls-Group x)) q) (keeps_any (One (is_sign sign.OpenParen))) (keeps_ending (OfExprs k) e) w m is
  keeps_primary w m (Grammar.in_list is) = keeps_seq Any (ListOf k) (OfExprs (suc k)) (λ s es. at s (Node.List es)) (λ table s es p q. Nesting.list es (opened _ (rolls-List es)) q) (keeps_any (One (is_sign sign.OpenBracket))) (keeps_listed (OfExprs k) (ListOf k) (expr_list k) e sign.CloseBracket) w m is
  keeps_primary w m (Grammar.in_object is) = keeps_seq Any Entries (OfExprs (suc k)) (λ s ms. at s (Node.Object ms)) (λ table s ms p q. Nesting.object ms (opened _ (rolls-Object ms)) q) (keeps_any (One (is_sign sign.OpenBrace))) (keeps_listed OneEntry Entries entry_list keeps_entry sign.CloseBrace) w m is
  keeps_primary w m (Grammar.call is) = keeps_seq Any (ListOf k) (OfExprs (suc k)) (λ n es. at n.1 (Node.Call n.0 es)) (λ table n es p q. Nesting.call n.0 es (opened _ (rolls-Call n.0 es)) q) (keeps_any (One name)) keeps_arguments w m is
  keeps_primary w m (Grammar.var_call is) = keeps_seq Any (ListOf k) (OfExprs (suc k)) (λ v es. at v.1 (Node.VarCall v.0 es)) (λ table v es p q. Nesting.var_call v.0 es (opened _ (rolls-VarCall v.0 es)) q) (keeps_any (One var)) keeps_arguments w m is
  keeps_primary w m (Grammar.lambda is) = keeps_lambda Bodied (OfExprs (suc k)) (λ x n. at x.0 (Node.Lambda n)) (λ x. function_of x.1) (λ table x i stands p. Nesting.lambda i (function_of x.1) (opened _ (rolls-Lambda (suc i))) stands p)
      (keeps_seq Any (λ table x. StatementFits table k x.1) Bodied pair (λ table s x p q. q) (keeps_any (One (is_word (codes "function")))) (keeps_seq Any (Blocks k) (λ table x. StatementFits table k x.1) pair (λ table ps s p q. q) (keeps_any Params) b)) w m is

  pub keeps_unary : Keeps (IsUnary U E B) (OfExprs (suc k))
  keeps_unary w m (Grammar.negated is) = keeps_seq Any (OfExprs k) (OfExprs (suc k)) (λ s x. at s (Node.Negate x)) (λ table s x p q. Nesting.negate x (opened _ (rolls-Negate x)) q) (keeps_any (One (is_sign sign.Minus))) u w m is
  keeps_unary w m (Grammar.not_of is) = keeps_seq Any (OfExprs k) (OfExprs (suc k)) (λ s x. at s (Node.Not x)) (λ table s x p q. Nesting.not_of x (opened _ (rolls-Not x)) q) (keeps_any (One (is_sign sign.Not))) u w m is
  keeps_unary w m (Grammar.step_before is) = keeps_seq Any (Placed (suc k)) (OfExprs (suc k)) (λ s p. at s.1 (Node.Step s.0 p.0)) (λ table s p h q. Nesting.step s.0 p.0 (opened _ (rolls-Step s.0 p.0)) q) (keeps_any (One (step_sign step.IncrementFirst step.DecrementFirst))) keeps_place w m is
  keeps_unary w m (Grammar.step_after is) = keeps_seq (Placed (suc k)) Any (OfExprs (suc k)) (λ p s. at p.1 (Node.Step s.0 p.0)) (λ table p s h q. Nesting.step s.0 p.0 (opened _ (rolls-Step s.0 p.0)) h) keeps_place (keeps_any (One (step_sign step.IncrementAfter step.DecrementAfter))) w m is
  keeps_unary w m (Grammar.of_variable is) = keeps_map (Placed (suc k)) (OfExprs (suc k)) variable (λ table p h. Nesting.var p.0.name p.0.steps (opened _ (rolls-Var p.0.name p.0.steps)) h) keeps_place w m is
  keeps_unary w m (Grammar.of_primary is) = keeps_seq (OfExprs (suc k)) (Steps (suc k)) (OfExprs (suc k)) with_steps (λ table x steps p q. path_fits k table x steps p q) keeps_primary keeps_steps w m is

  keeps_level : (n : ℕ) → Keeps (Level (IsUnary U E B) n) (OfExprs (suc k))
  keeps_level zero w m is = keeps_unary w m is
  keeps_level (suc n) w m is = keeps_seq (OfExprs (suc k)) (AllLinks (suc k)) (OfExprs (suc k)) chain (λ table x ls p q. chain_fits k table x ls p q) (keeps_level n)
      (keeps_repeat (LinkFit (suc k)) (AllLinks (suc k)) (link_list (suc k)) (keeps_seq Any (OfExprs (suc k)) (LinkFit (suc k)) pair (λ table o x p q. q) (keeps_any (One (operator (suc n)))) (keeps_level n))) w m is

  abbrev Branches : Fit (Expr × Expr)
  Branches table x = ExprFits table k x.0 × ExprFits table k x.1

  abbrev Changing : Fit (Operation × Expr)
  Changing table x = ExprFits table k x.1

  pub keeps_expr : Keeps (IsExpr U E B) (OfExprs (suc k))
  keeps_expr w m (Grammar.assigned is) = keeps_seq (Placed (suc k)) (OfExprs k) (OfExprs (suc k)) (λ p v. at p.1 (Node.Assign p.0 v)) (λ table p v h q. Nesting.assign p.0 v (opened _ (rolls-Assign p.0 v)) h q) keeps_place (keeps_before (OfExprs k) e) w m is
  keeps_expr w m (Grammar.changed is) = keeps_seq (Placed (suc k)) Changing (OfExprs (suc k)) (λ p v. at p.1 (Node.Change p.0 v.0 v.1)) (λ table p v h q. Nesting.change p.0 v.0 v.1 (opened _ (rolls-Change p.0 v.0 v.1)) h q) keeps_place
      (keeps_seq Any (OfExprs k) Changing pair (λ table o x p q. q) (keeps_any (One change_sign)) e) w m is
  keeps_expr w m (Grammar.appended is) = keeps_seq (Placed (suc k)) (OfExprs k) (OfExprs (suc k)) (λ p v. at p.1 (Node.Append p.0 v)) (λ table p v h q. Nesting.append p.0 v (opened _ (rolls-Append p.0 v)) h q)
      (keeps_ending (Placed (suc k)) (keeps_ending (Placed (suc k)) keeps_place)) (keeps_before (OfExprs k) e) w m is
  keeps_expr w m (Grammar.of_or is) = keeps_level 7 w m is
  keeps_expr w m (Grammar.chosen is) = keeps_seq (OfExprs (suc k)) Branches (OfExprs (suc k)) (λ test bs. like test (Node.Cond test bs.0 bs.1)) (λ table test bs p q. Nesting.cond test bs.0 bs.1 (opened _ (rolls-Cond test bs.0 bs.1)) p q.0 q.1) (keeps_level 7)
      (keeps_seq (OfExprs k) (OfExprs k) Branches pair (λ table x y p q. (p, q)) (keeps_before (OfExprs k) e) (keeps_before (OfExprs k) e)) w m is
