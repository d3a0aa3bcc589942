-- No word holds the end.
use Rattle.std.proofs.Common.{◌≡◌, ℕ, zero, suc, ◌≤◌, ◌<◌, Bool, true, false, cond, List, [], ◌∷◌, ◌++◌, Option, codes, refl, sym, ap, subst, ◌∙◌, arith}
use Rattle.std.proofs.lemmas.Bool.{eq-eqb}
use Rattle.jx9_syntax.specs.Grammar
use Rattle.jx9_syntax.specs.Grammar.{code, Rule, Seq, Repeat, Commas, Perhaps, without, with_one, PerhapsCommas, Before, Ending, Listed, BehindItem, no_item, an_item, last_item, comma_behind, sign_code, is_sign, is_word, var, second, first, pair, place_of, Params, IsAccess, IsPlace, Arguments, IsEntry, IsPrimary, IsUnary, Level, IsExpr, UnaryWithin, ExprWithin, BlockWithin, StatementWithin, Statements, AnyOf, InParens, IsBranch, ForHead, ForeachHead, VarName, IsSimple, IsStatement, IsBranches, BehindBranch, a_branch, no_else, with_else, with_elseif, IsBlock, ItemWithin}
use Rattle.jx9_syntax.specs.Making.{Making}
use Rattle.jx9_syntax.specs.Program.{NoEnd}
use Rattle.jx9_syntax.specs.Words.{One, Map, Many}
use Rattle.jx9_syntax.specs.declared.expression.Expr.{Expr}
use Rattle.jx9_syntax.specs.declared.expression.Step.TheVariants as step
use Rattle.jx9_syntax.specs.declared.sign.Sign.{Sign}
use Rattle.jx9_syntax.specs.declared.sign.Sign.TheVariants as sign
use Rattle.jx9_syntax.specs.declared.statement.Branch.{Branch}
use Rattle.jx9_syntax.specs.declared.statement.Statement.{Statement}
use Rattle.jx9_syntax.specs.declared.token.Token.{Token}
use Rattle.jx9_parse.specs.Chains.{operators}
use Rattle.jx9_parse.specs.Reading.{Tokens, Reader, member}
use Rattle.jx9_parse.proofs.Sets.{apart, apart_no}
use Rattle.jx9_parse.proofs.Parts.{Part}
use Rattle.jx9_parse.proofs.Singles.{part_sign, part_word, part_var, part_any_name, part_name, part_member_name, part_literal, part_step, part_operator, part_change}

abbrev pub Clean : {A : Type 0} → Rule A → Type 0
Clean {A} L = (w : Tokens) (m : Making A) → L w m → NoEnd w

pub clean_append : (u v : Tokens) → NoEnd u → NoEnd v → NoEnd (u ++ v)
clean_append [] v h g = g
clean_append (t ∷ u) v h g = (h.0, clean_append u v h.1 g)

clean_both : (w u v : Tokens) → w ≡ u ++ v → NoEnd u → NoEnd v → NoEnd w
clean_both w u v e h g = subst NoEnd (sym e) (clean_append u v h g)

clean_one : {A : Type 0} {test : Token → Option (Making A)} {bs : List ℕ} {r : Reader A} → Part (One test) [] bs r → apart bs (0 ∷ []) ≡ true → Clean (One test)
clean_one {bs = bs} l h w m is =
    let s = l.starts (is.token ∷ []) m (record { token = is.token; is_word = refl; tells = is.tells }) in
    subst NoEnd (sym is.is_word) (λ z. apart_no bs (0 ∷ []) h (code s.0) s.3 (zero_in (code s.0) (ap code (same is.token s.0 s.1 s.2) ∙ z)), tt)
  where
    same : (t u : Token) (more : Tokens) → t ∷ [] ≡ u ∷ more → u ≡ t
    same t u more e = cc

    zero_in : (c : ℕ) → c ≡ 0 → member c (0 ∷ []) ≡ true
    zero_in c e = ap (λ (b : Bool). cond b true false) (eq-eqb c 0 e)

module _ {A B C : Type 0} {L : Rule A} {M : Rule B} where
  clean_seq : (f : A → B → C) → Clean L → Clean M → Clean (Seq f L M)
  clean_seq f l m w c is = clean_both w is.front is.back is.parts (l is.front is.left is.is_left) (m is.back is.right is.is_right)

clean_map : {A B : Type 0} {L : Rule A} {f : Making A → Making B} → Clean L → Clean (Map L f)
clean_map l w c is = l w is.value is.is_word

clean_empty : (w : Tokens) → w ≡ [] → NoEnd w
clean_empty w e = subst NoEnd (sym e) tt

pub clean_many : {A : Type 0} {L : Rule A} → Clean L → (w : Tokens) (items : List (Making A)) → Many L w items → NoEnd w
clean_many l w [] is = clean_empty w is
clean_many l w (a ∷ items) is = clean_both w is.0 is.1 is.2 (l is.0 a is.3) (clean_many l is.1 items is.4)

clean_repeat : {A : Type 0} {L : Rule A} → Clean L → Clean (Repeat L)
clean_repeat l w m is = clean_many l w is.value is.is_word

clean_perhaps : {A : Type 0} {L : Rule A} → Clean L → Clean (Perhaps L)
clean_perhaps l w m (without is) = clean_empty w is.is_word
clean_perhaps l w m (with_one is) = l w is.value is.is_word

clean_sign : (s : Sign) → apart (sign_code s ∷ []) (0 ∷ []) ≡ true → Clean (One (is_sign s))
clean_sign s h = clean_one (part_sign s) h

clean_before : {A : Type 0} {L : Rule A} (s : Sign) → apart (sign_code s ∷ []) (0 ∷ []) ≡ true → Clean L → Clean (Before (is_sign s) L)
clean_before s h l = clean_seq second (clean_sign s h) l

clean_ending : {A : Type 0} {L : Rule A} (s : Sign) → apart (sign_code s ∷ []) (0 ∷ []) ≡ true → Clean L → Clean (Ending L (is_sign s))
clean_ending s h l = clean_seq first l (clean_sign s h)

clean_commas : {A : Type 0} {L : Rule A} → Clean L → Clean (Commas L)
clean_commas l = clean_seq ◌∷◌ l (clean_repeat (clean_before sign.Comma refl l))

clean_perhaps_commas : {A : Type 0} {L : Rule A} → Clean L → Clean (PerhapsCommas L)
clean_perhaps_commas l = clean_map (clean_perhaps (clean_commas l))

module _ {A : Type 0} {L : Rule A} (close : Sign) (h : apart (sign_code close ∷ []) (0 ∷ []) ≡ true) (l : Clean L) where
  mutual
    clean_listed : (w : Tokens) (m : Making (List A)) → Listed close L w m → NoEnd w
    clean_listed w m (no_item is) = clean_sign close h w is.value is.is_word
    clean_listed w m (an_item front back a others parts is_left is_right is_value) = clean_both w front back parts (l front a is_left) (clean_behind back others is_right)

    clean_behind : (w : Tokens) (m : Making (List A)) → BehindItem close L w m → NoEnd w
    clean_behind w m (last_item is) = clean_sign close h w is.value is.is_word
    clean_behind w m (comma_behind front back s others parts is_left is_right is_value) = clean_both w front back parts (clean_sign sign.Comma refl front s is_left) (clean_listed back others is_right)

-- ---- expressions

clean_var : Clean (One var)
clean_var = clean_one part_var refl

clean_params : Clean Params
clean_params = clean_ending sign.CloseParen refl (clean_before sign.OpenParen refl (clean_perhaps_commas (clean_map clean_var)))

module _ {U E : Rule Expr} {B : Rule Statement} (u : Clean U) (e : Clean E) (b : Clean B) where
  clean_access : Clean (IsAccess U E B)
  clean_access w m (Grammar.member is) = clean_before sign.Dot refl (clean_one part_any_name refl) w is.value is.is_word
  clean_access w m (Grammar.index is) = clean_ending sign.CloseBracket refl (clean_before sign.OpenBracket refl e) w is.value is.is_word

  clean_place : Clean (IsPlace U E B)
  clean_place = clean_seq place_of clean_var (clean_repeat clean_access)

  clean_arguments : Clean (Arguments U E B)
  clean_arguments = clean_ending sign.CloseParen refl (clean_before sign.OpenParen refl (clean_perhaps_commas e))

  clean_entry : Clean (IsEntry U E B)
  clean_entry w m is = clean_both w is.front is.back is.parts (clean_one part_member_name refl is.front is.left is.is_left) (clean_before sign.Colon refl e is.back is.right is.is_right)

  clean_primary : Clean (IsPrimary U E B)
  clean_primary w m (Grammar.of_literal is) = clean_one part_literal refl w m is
  clean_primary w m (Grammar.in_group is) = clean_both w is.front is.back is.parts (clean_sign sign.OpenParen refl is.front is.left is.is_left) (clean_ending sign.CloseParen refl e is.back is.right is.is_right)
  clean_primary w m (Grammar.in_list is) = clean_both w is.front is.back is.parts (clean_sign sign.OpenBracket refl is.front is.left is.is_left) (clean_listed sign.CloseBracket refl e is.back is.right is.is_right)
  clean_primary w m (Grammar.in_object is) = clean_both w is.front is.back is.parts (clean_sign sign.OpenBrace refl is.front is.left is.is_left) (clean_listed sign.CloseBrace refl clean_entry is.back is.right is.is_right)
  clean_primary w m (Grammar.call is) = clean_both w is.front is.back is.parts (clean_one part_name refl is.front is.left is.is_left) (clean_arguments is.back is.right is.is_right)
  clean_primary w m (Grammar.var_call is) = clean_both w is.front is.back is.parts (clean_var is.front is.left is.is_left) (clean_arguments is.back is.right is.is_right)
  clean_primary w m (Grammar.lambda is) = clean_seq pair (clean_one (part_word 9 (codes "function") refl) refl) (clean_seq pair clean_params b) w is.value is.is_word

  clean_unary : Clean (IsUnary U E B)
  clean_unary w m (Grammar.negated is) = clean_both w is.front is.back is.parts (clean_sign sign.Minus refl is.front is.left is.is_left) (u is.back is.right is.is_right)
  clean_unary w m (Grammar.not_of is) = clean_both w is.front is.back is.parts (clean_sign sign.Not refl is.front is.left is.is_left) (u is.back is.right is.is_right)
  clean_unary w m (Grammar.step_before is) = clean_both w is.front is.back is.parts (clean_one (part_step step.IncrementFirst step.DecrementFirst) refl is.front is.left is.is_left) (clean_place is.back is.right is.is_right)
  clean_unary w m (Grammar.step_after is) = clean_both w is.front is.back is.parts (clean_place is.front is.left is.is_left) (clean_one (part_step step.IncrementAfter step.DecrementAfter) refl is.back is.right is.is_right)
  clean_unary w m (Grammar.of_variable is) = clean_place w is.value is.is_word
  clean_unary w m (Grammar.of_primary is) = clean_both w is.front is.back is.parts (clean_primary is.front is.left is.is_left) (clean_repeat clean_access is.back is.right is.is_right)

  no_zero : (n : ℕ) → n < 7 → apart (operators (suc n)) (0 ∷ []) ≡ true
  no_zero zero h = refl
  no_zero (suc zero) h = refl
  no_zero (suc (suc zero)) h = refl
  no_zero (suc (suc (suc zero))) h = refl
  no_zero (suc (suc (suc (suc zero)))) h = refl
  no_zero (suc (suc (suc (suc (suc zero))))) h = refl
  no_zero (suc (suc (suc (suc (suc (suc zero)))))) h = refl
  no_zero (suc (suc (suc (suc (suc (suc (suc n))))))) h = absurd (omega (arith, h))

  clean_level : (n : ℕ) → n ≤ 7 → Clean (Level (IsUnary U E B) n)
  clean_level zero h w m is = clean_unary w m is
  clean_level (suc n) h w m is =
      let l = clean_level n (omega (arith, h)) in
      clean_both w is.front is.back is.parts (l is.front is.left is.is_left) (clean_repeat (clean_seq pair (clean_one (part_operator n (omega (arith, h))) (no_zero n (omega (arith, h)))) l) is.back is.right is.is_right)

  clean_expr : Clean (IsExpr U E B)
  clean_expr w m (Grammar.assigned is) = clean_both w is.front is.back is.parts (clean_place is.front is.left is.is_left) (clean_before sign.Assign refl e is.back is.right is.is_right)
  clean_expr w m (Grammar.changed is) = clean_both w is.front is.back is.parts (clean_place is.front is.left is.is_left) (clean_seq pair (clean_one part_change refl) e is.back is.right is.is_right)
  clean_expr w m (Grammar.appended is) =
      clean_both w is.front is.back is.parts (clean_ending sign.CloseBracket refl (clean_ending sign.OpenBracket refl clean_place) is.front is.left is.is_left) (clean_before sign.Assign refl e is.back is.right is.is_right)
  clean_expr w m (Grammar.of_or is) = clean_level 7 (omega arith) w m is
  clean_expr w m (Grammar.chosen is) =
      clean_both w is.front is.back is.parts (clean_level 7 (omega arith) is.front is.left is.is_left) (clean_seq pair (clean_before sign.Question refl e) (clean_before sign.Colon refl e) is.back is.right is.is_right)

-- ---- statements

clean_any : {S : Statements} → ((is_open : Bool) → Clean (S is_open)) → Clean (AnyOf S)
clean_any s w m is = s is.0 w m is.1

module _ {P : Bool → Rule Branch} {S : Statements} (p : (is_open : Bool) → Clean (P is_open)) (s : (is_open : Bool) → Clean (S is_open)) where
  mutual
    clean_branches : (is_open : Bool) (w : Tokens) (m : Making (List Branch × Option Statement)) → IsBranches P S is_open w m → NoEnd w
    clean_branches is_open w m (a_branch first_open front back b others parts is_left is_right is_value) = clean_both w front back parts (p first_open front b is_left) (clean_rest is_open first_open back others is_right)

    clean_rest : (is_open first_open : Bool) (w : Tokens) (m : Making (List Branch × Option Statement)) → BehindBranch P S is_open first_open w m → NoEnd w
    clean_rest is_open first_open w m (no_else e is) = clean_empty w is.is_word
    clean_rest is_open first_open w m (with_else e is) = clean_seq second (clean_one (part_word 38 (codes "else") refl) refl) (s is_open) w is.value is.is_word
    clean_rest is_open first_open w m (with_elseif front back q others e parts is_left is_right is_value) =
        clean_both w front back parts (clean_one (part_word 39 (codes "elseif") refl) refl front q is_left) (clean_branches is_open back others is_right)

module _ {X E : Rule Expr} {S : Statements} {B : Rule Statement} (x : Clean X) (e : Clean E) (s : (is_open : Bool) → Clean (S is_open)) (b : Clean B) where
  clean_parens : Clean (InParens X E S B)
  clean_parens = clean_ending sign.CloseParen refl (clean_before sign.OpenParen refl e)

  clean_branch : (is_open : Bool) → Clean (IsBranch X E S B is_open)
  clean_branch is_open w m is = clean_both w is.front is.back is.parts (clean_parens is.front is.left is.is_left) (s is_open is.back is.right is.is_right)

  clean_for : Clean (ForHead X E S B)
  clean_for = clean_seq pair (clean_ending sign.Semicolon refl (clean_before sign.OpenParen refl (clean_perhaps_commas e)))
      (clean_seq pair (clean_ending sign.Semicolon refl (clean_perhaps e)) (clean_ending sign.CloseParen refl (clean_perhaps_commas e)))

  clean_name : Clean VarName
  clean_name = clean_map clean_var

  clean_foreach : Clean (ForeachHead X E S B)
  clean_foreach = clean_seq pair (clean_seq first (clean_before sign.OpenParen refl e) (clean_one (part_word 37 (codes "as") refl) refl))
      (clean_ending sign.CloseParen refl (clean_seq Grammar.key_and_value clean_name (clean_perhaps (clean_before sign.Comma refl clean_name))))

  clean_simple : Clean (IsSimple X E S B)
  clean_simple w m (Grammar.empty is) = clean_sign sign.Semicolon refl w is.value is.is_word
  clean_simple w m (Grammar.of_block is) = b w m is
  clean_simple w m (Grammar.printing is) = clean_both w is.front is.back is.parts (clean_one (part_word 21 (codes "print") refl) refl is.front is.left is.is_left) (clean_ending sign.Semicolon refl (clean_commas x) is.back is.right is.is_right)
  clean_simple w m (Grammar.of_expr bars is) = clean_ending sign.Semicolon refl x w is.value is.is_word
  clean_simple w m (Grammar.returning is) = clean_both w is.front is.back is.parts (clean_one (part_word 26 (codes "return") refl) refl is.front is.left is.is_left) (clean_ending sign.Semicolon refl (clean_perhaps x) is.back is.right is.is_right)
  clean_simple w m (Grammar.breaking is) = clean_ending sign.Semicolon refl (clean_one (part_word 27 (codes "break") refl) refl) w is.value is.is_word
  clean_simple w m (Grammar.continuing is) = clean_ending sign.Semicolon refl (clean_one (part_word 28 (codes "continue") refl) refl) w is.value is.is_word

  clean_statement : (is_open : Bool) → Clean (IsStatement X E S B is_open)
  clean_statement is_open w m (Grammar.simple h is) = clean_simple w m is
  clean_statement is_open w m (Grammar.of_if is) = clean_both w is.front is.back is.parts (clean_one (part_word 22 (codes "if") refl) refl is.front is.left is.is_left) (clean_branches clean_branch s is_open is.back is.right is.is_right)
  clean_statement is_open w m (Grammar.of_while is) =
      clean_both w is.front is.back is.parts (clean_one (part_word 23 (codes "while") refl) refl is.front is.left is.is_left) (clean_seq pair clean_parens (s is_open) is.back is.right is.is_right)
  clean_statement is_open w m (Grammar.of_for is) =
      clean_both w is.front is.back is.parts (clean_one (part_word 24 (codes "for") refl) refl is.front is.left is.is_left) (clean_seq pair clean_for (s is_open) is.back is.right is.is_right)
  clean_statement is_open w m (Grammar.of_foreach is) =
      clean_both w is.front is.back is.parts (clean_one (part_word 25 (codes "foreach") refl) refl is.front is.left is.is_left) (clean_seq pair clean_foreach (s is_open) is.back is.right is.is_right)

clean_block : {S : Statements} → ((is_open : Bool) → Clean (S is_open)) → Clean (IsBlock S)
clean_block s w m is = clean_both w is.front is.back is.parts (clean_sign sign.OpenBrace refl is.front is.left is.is_left) (clean_ending sign.CloseBrace refl (clean_repeat (clean_any s)) is.back is.right is.is_right)

-- ---- by induction on the nesting

record AllClean (k : ℕ) : Type 0 where
  unaries : Clean (UnaryWithin k)
  exprs : Clean (ExprWithin k)
  blocks : Clean (BlockWithin k)
  statements : (is_open : Bool) → Clean (StatementWithin k is_open)

all_clean : (k : ℕ) → AllClean k
unfolding UnaryWithin ExprWithin BlockWithin StatementWithin
all_clean zero = record { unaries = λ w m is. absurd is; exprs = λ w m is. absurd is; blocks = λ w m is. absurd is; statements = λ is_open w m is. absurd is }
all_clean (suc k) = let c = all_clean k in record {
  unaries = clean_unary c.unaries c.exprs c.blocks;
  exprs = clean_expr c.unaries c.exprs c.blocks;
  blocks = clean_block c.statements;
  statements = clean_statement (clean_expr c.unaries c.exprs c.blocks) c.exprs c.statements (clean_block c.statements);
}

pub clean_item : (k : ℕ) → Clean (ItemWithin (suc k))
clean_item k w m (Grammar.definition is) =
    clean_seq Grammar.named_of (clean_one (part_word 9 (codes "function") refl) refl) (clean_seq pair (clean_one part_name refl) (clean_seq pair clean_params (all_clean k).blocks)) w is.value is.is_word
clean_item k w m (Grammar.statement is) = clean_any (all_clean (suc k)).statements w is.value is.is_word
