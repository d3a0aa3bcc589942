-- What is read of steps, places, arguments, members and primaries, from what is read of the expressions within.
use Rattle.std.proofs.Common.{◌≡◌, ℕ, Bool, true, false, inl, inr, List, [], ◌∷◌, ◌++◌, refl}
use Rattle.jx9_syntax.specs.Grammar.{Rule, Commas, PerhapsCommas, Perhaps, Repeat, Before, Ending, is_sign, any_name, first, second, place_of, or_none, IsAccess, member, index, IsPlace, Arguments, IsEntry}
use Rattle.jx9_syntax.specs.Making.{Making, mapped}
use Rattle.jx9_syntax.specs.Words.{One, Map}
use Rattle.jx9_syntax.specs.declared.expression.Access
use Rattle.jx9_syntax.specs.declared.expression.Access.{Access as AccessTree}
use Rattle.jx9_syntax.specs.declared.expression.Expr.{Expr}
use Rattle.jx9_syntax.specs.declared.sign.Sign.TheVariants as sign
use Rattle.jx9_syntax.specs.declared.statement.Statement.{Statement}
use Rattle.jx9_parse.specs.Reading.{Tokens, Reader, commas, perhaps, perhaps_commas, guarded}
use Rattle.jx9_parse.specs.Expressions.{expr_begins}
use Rattle.jx9_parse.specs.Expressions as reading
use Rattle.jx9_parse.proofs.Parts.{Part, Tail, Guard, Or, part_then, part_tail, part_map, tail_map, part_as, guard_map, guard_left, guard_right, part_or}
use Rattle.jx9_parse.proofs.Sets.{apart}
use Rattle.jx9_parse.proofs.Repeats.{tail_many, tail_perhaps}
use Rattle.jx9_parse.proofs.Singles.{part_sign, part_var, part_any_name, part_member_name, names}

-- with what an expression may go on: steps, arguments, `++` and `--`, assignments, operators, `?`
abbrev pub expr_more : List ℕ
expr_more = 10 ∷ 11 ∷ 13 ∷ 15 ∷ 16 ∷ 35 ∷ 36 ∷ 40 ∷ 41 ∷ 42 ∷ 43 ∷ 44 ∷ 45 ∷ 46 ∷ 50 ∷ 51 ∷ 52 ∷ 53 ∷ 54 ∷ 55 ∷ 56 ∷ 57 ∷ 58 ∷ 59 ∷ 60 ∷ 61 ∷ 62 ∷ 63 ∷ 64 ∷ []

-- what a unary expression may go on with
abbrev pub unary_more : List ℕ
unary_more = 10 ∷ 11 ∷ 15 ∷ 16 ∷ 36 ∷ []

-- what stands within
pub record Inner (inside : Bool) (U E : Rule Expr) (B : Rule Statement) (un expr : Reader Expr) (block : Reader Statement) : Type 0 where
  pub a_unary : Guard inside U unary_more expr_begins un
  pub an_expr : Guard inside E expr_more expr_begins expr
  pub a_block : Guard inside B [] (12 ∷ []) block

-- commas in words that take room
pub guard_commas : {A : Type 0} {room : Bool} {L : Rule A} {ms bs : List ℕ} {r : Reader A} → Guard room L ms bs r → apart ms (33 ∷ []) ≡ true → Guard room (Commas L) (ms ++ (ms ++ (33 ∷ []))) bs (commas r)
guard_commas l h = record {
  part = λ g. let p = l.part g in part_tail ◌∷◌ p (tail_many (part_then second (part_sign sign.Comma) p refl) h) h;
  empty = λ g w m is. l.empty g is.front is.left is.is_left;
}

-- in the reader the guard stands before each word; with room it is the reader itself, with none nothing is read
pub tail_perhaps_commas : {A : Type 0} {L : Rule A} {ms bs : List ℕ} {r : Reader A} (room : Bool) → Guard room L ms bs r → apart ms (33 ∷ []) ≡ true
    → Tail (Perhaps (Commas L)) ((ms ++ (ms ++ (33 ∷ []))) ++ bs) bs (perhaps bs (commas (guarded room r)))
tail_perhaps_commas true l h = tail_perhaps true (guard_commas l h)
tail_perhaps_commas {ms = ms} {bs = bs} {r = r} false l h = let t = tail_perhaps false (guard_commas l h) in record {
  reads = t.reads;
  told = t.told;
  runs = t.runs;
  starts = t.starts;
  some = t.some;
}

module _ {inside : Bool} {U E : Rule Expr} {B : Rule Statement} {un expr : Reader Expr} {block : Reader Statement} (i : Inner inside U E B un expr block) where
  -- ---- steps

  an_index : Guard inside (Map (Ending (Before (is_sign sign.OpenBracket) E) (is_sign sign.CloseBracket)) (mapped (λ e. Access.Index e))) [] (11 ∷ []) (reading.index inside un expr block)
  an_index = guard_map (λ e. Access.Index e) (guard_left first (guard_right second (part_sign sign.OpenBracket) i.an_expr refl) (part_sign sign.CloseBracket) refl)

  pub a_member : Part (Map (Before (is_sign sign.Dot) (One any_name)) (mapped (λ n. Access.Member n.0))) [] (36 ∷ []) (reading.member_access inside un expr block)
  a_member = part_map (λ n. Access.Member n.0) (part_then second (part_sign sign.Dot) part_any_name refl)

  pub an_access : Part (IsAccess U E B) [] (11 ∷ 36 ∷ []) (reading.access inside un expr block)
  an_access = part_as [] (11 ∷ 36 ∷ []) refl refl into back (part_or inside an_index a_member refl)
    where
      into : (w : Tokens) (m : Making AccessTree) → Or (Map (Ending (Before (is_sign sign.OpenBracket) E) (is_sign sign.CloseBracket)) (mapped (λ e. Access.Index e)))
          (Map (Before (is_sign sign.Dot) (One any_name)) (mapped (λ n. Access.Member n.0))) w m → IsAccess U E B w m
      into w m (inl is) = index is
      into w m (inr is) = member is

      back : (w : Tokens) (m : Making AccessTree) → IsAccess U E B w m → Or (Map (Ending (Before (is_sign sign.OpenBracket) E) (is_sign sign.CloseBracket)) (mapped (λ e. Access.Index e)))
          (Map (Before (is_sign sign.Dot) (One any_name)) (mapped (λ n. Access.Member n.0))) w m
      back w m (index is) = inl is
      back w m (member is) = inr is

  pub the_steps : Tail (Repeat (IsAccess U E B)) (11 ∷ 36 ∷ []) (11 ∷ 36 ∷ []) (reading.steps inside un expr block)
  the_steps = tail_many an_access refl

  pub a_place : Part (IsPlace U E B) (11 ∷ 36 ∷ []) (17 ∷ []) (reading.place inside un expr block)
  a_place = part_tail place_of part_var the_steps refl

  -- ---- arguments

  some_exprs : Tail (PerhapsCommas E) ((expr_more ++ (expr_more ++ (33 ∷ []))) ++ expr_begins) expr_begins (perhaps_commas expr_begins (guarded inside expr))
  some_exprs = tail_map or_none (tail_perhaps_commas inside i.an_expr refl)

  pub the_arguments : Part (Arguments U E B) [] (10 ∷ []) (reading.arguments inside un expr block)
  the_arguments = part_then first (part_tail second (part_sign sign.OpenParen) some_exprs refl) (part_sign sign.CloseParen) refl

  -- ---- members of objects

  pub an_entry : Guard inside (IsEntry U E B) expr_more (2 ∷ names) (reading.entry inside un expr block)
  an_entry = guard_right (λ n e. record { name = n.0; value = e }) part_member_name (guard_right second (part_sign sign.Colon) i.an_expr refl) refl
