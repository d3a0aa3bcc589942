-- The grammar, one case for each rule. What stands within a construct has one level of nesting less.
use Rattle.std.specs.Prelude.{◌≡◌, ℕ, zero, suc, ◌==◌, Bool, true, false, if◌then◌else◌, List, [], ◌∷◌, ◌++◌, Option, Some, None, ◌⊎◌, codes}
use Rattle.std.specs.Str.{bytes_eq}
use Rattle.uq_value.specs.Data.{Bytes}
use Rattle.jx9_syntax.specs.Words.{Language, One, Nothing, Map, Then, Many}
use Rattle.jx9_syntax.specs.Making.{Making, nothing, of_token, mapped, then_made, all_made, lambda_made}
use Rattle.jx9_syntax.specs.declared.expression.Access
use Rattle.jx9_syntax.specs.declared.expression.Access.{Access as AccessTree}
use Rattle.jx9_syntax.specs.declared.expression.Binary.{Binary}
use Rattle.jx9_syntax.specs.declared.expression.Binary.TheVariants as binary
use Rattle.jx9_syntax.specs.declared.expression.Change.{Change as Operation}
use Rattle.jx9_syntax.specs.declared.expression.Change.TheVariants as change
use Rattle.jx9_syntax.specs.declared.expression.Entry.{Entry}
use Rattle.jx9_syntax.specs.declared.expression.Expr.{Expr}
use Rattle.jx9_syntax.specs.declared.expression.Link.{Link}
use Rattle.jx9_syntax.specs.declared.expression.Literal.{Literal}
use Rattle.jx9_syntax.specs.declared.expression.Literal.TheVariants as literal
use Rattle.jx9_syntax.specs.declared.expression.Node
use Rattle.jx9_syntax.specs.declared.expression.Place.{Place}
use Rattle.jx9_syntax.specs.declared.expression.Step.{Step}
use Rattle.jx9_syntax.specs.declared.expression.Step.TheVariants as step
use Rattle.jx9_syntax.specs.declared.program.Function.{Function}
use Rattle.jx9_syntax.specs.declared.program.Named.{Named}
use Rattle.jx9_syntax.specs.declared.sign.Sign.{Sign}
use Rattle.jx9_syntax.specs.declared.sign.Sign.TheVariants as sign
use Rattle.jx9_syntax.specs.declared.statement.Branch.{Branch}
use Rattle.jx9_syntax.specs.declared.statement.Kind
use Rattle.jx9_syntax.specs.declared.statement.Statement.{Statement}
use Rattle.jx9_syntax.specs.declared.token.Token.{Token}
use Rattle.jx9_syntax.specs.declared.token.TokenKind.{TokenKind}
use Rattle.jx9_syntax.specs.declared.token.TokenKind.TheVariants as kind

-- ---- tokens, by numbers: what begins an expression is 1 to 17, what else begins a statement 20 to 28

abbrev pub sign_code : Sign → ℕ
sign_code sign.OpenParen = 10
sign_code sign.OpenBracket = 11
sign_code sign.OpenBrace = 12
sign_code sign.Minus = 13
sign_code sign.Not = 14
sign_code sign.Increment = 15
sign_code sign.Decrement = 16
sign_code sign.Semicolon = 20
sign_code sign.CloseParen = 30
sign_code sign.CloseBracket = 31
sign_code sign.CloseBrace = 32
sign_code sign.Comma = 33
sign_code sign.Colon = 34
sign_code sign.Question = 35
sign_code sign.Dot = 36
sign_code sign.Assign = 40
sign_code sign.PlusAssign = 41
sign_code sign.MinusAssign = 42
sign_code sign.TimesAssign = 43
sign_code sign.DivideAssign = 44
sign_code sign.RemainderAssign = 45
sign_code sign.JoinAssign = 46
sign_code sign.Times = 50
sign_code sign.Divide = 51
sign_code sign.Remainder = 52
sign_code sign.Plus = 53
sign_code sign.Join = 54
sign_code sign.Less = 55
sign_code sign.LessOrEqual = 56
sign_code sign.Greater = 57
sign_code sign.GreaterOrEqual = 58
sign_code sign.Equal = 59
sign_code sign.NotEqual = 60
sign_code sign.Same = 61
sign_code sign.NotSame = 62
sign_code sign.And = 63
sign_code sign.Or = 64

-- a name that is not reserved is 8
abbrev pub word_code : Bytes → ℕ
word_code name =
    if bytes_eq name (codes "null") then 4 else
    if bytes_eq name (codes "NULL") then 4 else
    if bytes_eq name (codes "true") then 5 else
    if bytes_eq name (codes "TRUE") then 5 else
    if bytes_eq name (codes "false") then 6 else
    if bytes_eq name (codes "FALSE") then 6 else
    if bytes_eq name (codes "JX9_EOL") then 7 else
    if bytes_eq name (codes "function") then 9 else
    if bytes_eq name (codes "print") then 21 else
    if bytes_eq name (codes "if") then 22 else
    if bytes_eq name (codes "while") then 23 else
    if bytes_eq name (codes "for") then 24 else
    if bytes_eq name (codes "foreach") then 25 else
    if bytes_eq name (codes "return") then 26 else
    if bytes_eq name (codes "break") then 27 else
    if bytes_eq name (codes "continue") then 28 else
    if bytes_eq name (codes "as") then 37 else
    if bytes_eq name (codes "else") then 38 else
    if bytes_eq name (codes "elseif") then 39 else
    if bytes_eq name (codes "switch") then 70 else
    if bytes_eq name (codes "case") then 71 else
    if bytes_eq name (codes "default") then 72 else
    if bytes_eq name (codes "uplink") then 73 else
    8

abbrev pub kind_code : TokenKind → ℕ
kind_code kind.End = 0
kind_code (kind.Int z) = 1
kind_code (kind.Text bs) = 2
kind_code (kind.Mixed ps) = 3
kind_code (kind.Name name) = word_code name
kind_code (kind.Sign s) = sign_code s
kind_code (kind.Var name) = 17

-- it does not unfold by itself: the numbers of names are long to compute
unfoldable pub code : Token → ℕ
code t = kind_code t.kind

-- what a token tells: its line, and its number among the tokens
pub record Spot : Type 0 where
  pub line : ℕ
  pub token : ℕ

abbrev pub spot : Token → Making Spot
spot t = of_token (λ n. record { line = t.line; token = n })

-- a token of this number tells its spot
abbrev pub coded : ℕ → Token → Option (Making Spot)
coded n t = if code t == n then Some (spot t) else None

abbrev pub is_sign : Sign → Token → Option (Making Spot)
is_sign s = coded (sign_code s)

abbrev pub is_word : Bytes → Token → Option (Making Spot)
is_word w = coded (word_code w)

-- a variable's name, with its spot
abbrev pub at_spot : {A : Type 0} → A → Token → Making (A × Spot)
at_spot a t = mapped (λ s. (a, s)) (spot t)

abbrev pub var_in : Token → TokenKind → Option (Making (Bytes × Spot))
var_in t (kind.Var name) = Some (at_spot name t)
var_in t k = None

abbrev pub var : Token → Option (Making (Bytes × Spot))
var t = var_in t t.kind

-- any name, also a reserved one
abbrev pub any_name_in : Token → TokenKind → Option (Making (Bytes × Spot))
any_name_in t (kind.Name name) = Some (at_spot name t)
any_name_in t k = None

abbrev pub any_name : Token → Option (Making (Bytes × Spot))
any_name t = any_name_in t t.kind

-- a name that is not reserved
abbrev pub name : Token → Option (Making (Bytes × Spot))
name t = if code t == 8 then any_name t else None

-- the name of a member: any name, or a text that names no variable
abbrev pub member_name_in : Token → TokenKind → Option (Making (Bytes × Spot))
member_name_in t (kind.Name name) = Some (at_spot name t)
member_name_in t (kind.Text bs) = Some (at_spot bs t)
member_name_in t k = None

abbrev pub member_name : Token → Option (Making (Bytes × Spot))
member_name t = member_name_in t t.kind

-- ---- trees

abbrev pub at : Spot → Node.Node → Expr
at s node = record { line = s.line; token = s.token; node = node }

abbrev pub like : Expr → Node.Node → Expr
like e node = record { line = e.line; token = e.token; node = node }

abbrev pub literal_at : Token → Literal → Making Expr
literal_at t l = mapped (λ s. at s (Node.Literal l)) (spot t)

abbrev pub word_literal : Token → Option (Making Expr)
word_literal t =
    if code t == 4 then Some (literal_at t literal.Null) else
    if code t == 5 then Some (literal_at t (literal.Bool true)) else
    if code t == 6 then Some (literal_at t (literal.Bool false)) else
    if code t == 7 then Some (literal_at t (literal.Text (0x0a ∷ []))) else
    None

-- Int, Text, Mixed, and the words of literals
abbrev pub literal_in : Token → TokenKind → Option (Making Expr)
literal_in t (kind.Int z) = Some (literal_at t (literal.Int z))
literal_in t (kind.Text bs) = Some (literal_at t (literal.Text bs))
literal_in t (kind.Mixed ps) = Some (mapped (λ s. at s (Node.Mixed ps)) (spot t))
literal_in t k = word_literal t

abbrev pub literal_or_mixed : Token → Option (Making Expr)
literal_or_mixed t = literal_in t t.kind

abbrev pub first : {A B : Type 0} → A → B → A
first a b = a

abbrev pub second : {A B : Type 0} → A → B → B
second a b = b

-- ---- rules put together

-- a rule makes trees
abbrev pub Rule : Type 0 → Type 1
Rule A = Language (Making A)

abbrev pub Seq : {A B C : Type 0} → (A → B → C) → Rule A → Rule B → Rule C
Seq f L M = Then L (λ _. M) (then_made f)

-- a rule between signs
abbrev pub Before : {A : Type 0} → (Token → Option (Making Spot)) → Rule A → Rule A
Before test L = Seq second (One test) L

abbrev pub Ending : {A : Type 0} → Rule A → (Token → Option (Making Spot)) → Rule A
Ending L test = Seq first L (One test)

-- none or more
abbrev pub Repeat : {A : Type 0} → Rule A → Rule (List A)
Repeat L = Map (Many L) all_made

-- one or more with commas between them
abbrev pub Commas : {A : Type 0} → Rule A → Rule (List A)
Commas L = Seq ◌∷◌ L (Repeat (Before (is_sign sign.Comma) L))

-- none or one
pub data Perhaps {A : Type 0} (L : Rule A) (word : List Token) (o : Making (Option A)) : Type 0 where
  without : Nothing (nothing None) word o → Perhaps L word o
  with_one : Map L (mapped Some) word o → Perhaps L word o

abbrev pub or_none : {A : Type 0} → Option (List A) → List A
or_none None = []
or_none (Some as') = as'

-- `[exprs]`
abbrev pub PerhapsCommas : {A : Type 0} → Rule A → Rule (List A)
PerhapsCommas L = Map (Perhaps (Commas L)) (mapped or_none)

-- items and the closing sign: a comma behind each item, which the last may lack
mutual
  pub data Listed {A : Type 0} (close : Sign) (L : Rule A) : List Token → Making (List A) → Type 0 where
    no_item : {word : List Token} {m : Making (List A)} → Map (One (is_sign close)) (mapped (λ s. [])) word m → Listed close L word m
    an_item : {word : List Token} {m : Making (List A)} (front back : List Token) (a : Making A) (others : Making (List A)) → word ≡ front ++ back → L front a → BehindItem close L back others
        → m ≡ then_made ◌∷◌ a others → Listed close L word m

  -- what is behind an item: the closing sign, or a comma and what is listed behind it
  pub data BehindItem {A : Type 0} (close : Sign) (L : Rule A) : List Token → Making (List A) → Type 0 where
    last_item : {word : List Token} {m : Making (List A)} → Map (One (is_sign close)) (mapped (λ s. [])) word m → BehindItem close L word m
    comma_behind : {word : List Token} {m : Making (List A)} (front back : List Token) (s : Making Spot) (others : Making (List A)) → word ≡ front ++ back → One (is_sign sign.Comma) front s → Listed close L back others
        → m ≡ then_made second s others → BehindItem close L word m

-- ---- expressions; un, expr and block are what stands within

abbrev pub pair : {A B : Type 0} → A → B → A × B
pair a b = (a, b)

-- a place with the spot of its variable
abbrev pub place_of : Bytes × Spot → List AccessTree → Place × Spot
place_of v steps = (record { name = v.0; steps = steps }, v.1)

abbrev pub variable : Place × Spot → Expr
variable p = at p.1 (Node.Var p.0.name p.0.steps)

abbrev pub with_steps : Expr → List AccessTree → Expr
with_steps e [] = e
with_steps e (a ∷ steps) = like e (Node.Path e (a ∷ steps))

-- `++` or `--`
abbrev pub step_sign : Step → Step → Token → Option (Making (Step × Spot))
step_sign increment decrement t =
    if code t == 15 then Some (at_spot increment t) else if code t == 16 then Some (at_spot decrement t) else None

abbrev pub function_of : List Bytes × Statement → Function
function_of f = record { params = f.0; body = f.1 }

-- ( VAR , .. )
abbrev pub Params : Rule (List Bytes)
Params = Ending (Before (is_sign sign.OpenParen) (PerhapsCommas (Map (One var) (mapped (λ v. v.0))))) (is_sign sign.CloseParen)

module _ (un expr : Rule Expr) (block : Rule Statement) where
  -- step : . NAME | [ expr ]
  pub data IsAccess (word : List Token) (a : Making AccessTree) : Type 0 where
    member : Map (Before (is_sign sign.Dot) (One any_name)) (mapped (λ n. Access.Member n.0)) word a → IsAccess word a
    index : Map (Ending (Before (is_sign sign.OpenBracket) expr) (is_sign sign.CloseBracket)) (mapped (λ e. Access.Index e)) word a → IsAccess word a

  -- place : VAR {step}
  abbrev pub IsPlace : Rule (Place × Spot)
  IsPlace = Seq place_of (One var) (Repeat IsAccess)

  -- ( [exprs] )
  abbrev pub Arguments : Rule (List Expr)
  Arguments = Ending (Before (is_sign sign.OpenParen) (PerhapsCommas expr)) (is_sign sign.CloseParen)

  -- mem : (NAME | Text) : expr
  abbrev pub IsEntry : Rule Entry
  IsEntry = Seq (λ n e. record { name = n.0; value = e }) (One member_name) (Before (is_sign sign.Colon) expr)

  -- prim, but for a variable
  pub data IsPrimary (word : List Token) (e : Making Expr) : Type 0 where
    of_literal : One literal_or_mixed word e → IsPrimary word e
    in_group : Seq (λ s x. at s (Node.Group x)) (One (is_sign sign.OpenParen)) (Ending expr (is_sign sign.CloseParen)) word e → IsPrimary word e
    in_list : Seq (λ s es. at s (Node.List es)) (One (is_sign sign.OpenBracket)) (Listed sign.CloseBracket expr) word e → IsPrimary word e
    in_object : Seq (λ s ms. at s (Node.Object ms)) (One (is_sign sign.OpenBrace)) (Listed sign.CloseBrace IsEntry) word e → IsPrimary word e
    call : Seq (λ n es. at n.1 (Node.Call n.0 es)) (One name) Arguments word e → IsPrimary word e
    var_call : Seq (λ v es. at v.1 (Node.VarCall v.0 es)) (One var) Arguments word e → IsPrimary word e
    lambda : Map (Seq pair (One (is_word (codes "function"))) (Seq pair Params block)) (lambda_made (λ x n. at x.0 (Node.Lambda n)) (λ x. function_of x.1)) word e → IsPrimary word e

  -- un : (- !) un | (++ --) place | place (++ --) | prim {step}
  pub data IsUnary (word : List Token) (e : Making Expr) : Type 0 where
    negated : Seq (λ s x. at s (Node.Negate x)) (One (is_sign sign.Minus)) un word e → IsUnary word e
    not_of : Seq (λ s x. at s (Node.Not x)) (One (is_sign sign.Not)) un word e → IsUnary word e
    step_before : Seq (λ s p. at s.1 (Node.Step s.0 p.0)) (One (step_sign step.IncrementFirst step.DecrementFirst)) IsPlace word e → IsUnary word e
    step_after : Seq (λ p s. at p.1 (Node.Step s.0 p.0)) IsPlace (One (step_sign step.IncrementAfter step.DecrementAfter)) word e → IsUnary word e
    of_variable : Map IsPlace (mapped variable) word e → IsUnary word e
    of_primary : Seq with_steps IsPrimary (Repeat IsAccess) word e → IsUnary word e

-- ---- chains

pub data Operator : Type 0 where
  Of : Binary → Operator
  Joining : Operator
  Both : Operator
  Either : Operator

-- The operators of a level, by their numbers. Level 1 is `* / %`, then `+ -`, `..`, `< <= > >=`, `== != === !==`, `&&`, `||`.
abbrev pub operator_of : ℕ → ℕ → Option Operator
operator_of n c =
    if n == 1 then (if c == 50 then Some (Of binary.Multiply) else if c == 51 then Some (Of binary.Divide) else if c == 52 then Some (Of binary.Remainder) else None) else
    if n == 2 then (if c == 53 then Some (Of binary.Add) else if c == 13 then Some (Of binary.Subtract) else None) else
    if n == 3 then (if c == 54 then Some Joining else None) else
    if n == 4 then (if c == 55 then Some (Of binary.Less) else if c == 56 then Some (Of binary.LessOrEqual) else if c == 57 then Some (Of binary.Greater) else if c == 58 then Some (Of binary.GreaterOrEqual) else None) else
    if n == 5 then (if c == 59 then Some (Of binary.Equal) else if c == 60 then Some (Of binary.NotEqual) else if c == 61 then Some (Of binary.Same) else if c == 62 then Some (Of binary.NotSame) else None) else
    if n == 6 then (if c == 63 then Some Both else None) else
    if n == 7 then (if c == 64 then Some Either else None) else
    None

abbrev pub told_operator : Option Operator → Token → Option (Making Operator)
told_operator None t = None
told_operator (Some o) t = Some (mapped (λ s. o) (spot t))

abbrev pub operator : ℕ → Token → Option (Making Operator)
operator n t = told_operator (operator_of n (code t)) t

abbrev pub operands : List (Operator × Expr) → List Expr
operands [] = []
operands (l ∷ ls) = l.1 ∷ operands ls

abbrev pub link_of : Operator → Expr → List Link → List Link
link_of (Of op) e ls = record { op = op; operand = e } ∷ ls
link_of Joining e ls = ls
link_of Both e ls = ls
link_of Either e ls = ls

abbrev pub links : List (Operator × Expr) → List Link
links [] = []
links (l ∷ ls) = link_of l.0 l.1 (links ls)

abbrev pub chain_node : Operator → Expr → List (Operator × Expr) → Node.Node
chain_node (Of op) e ls = Node.Chain e (links ls)
chain_node Joining e ls = Node.Join (e ∷ operands ls)
chain_node Both e ls = Node.And e (operands ls)
chain_node Either e ls = Node.Or e (operands ls)

-- one operand is itself
abbrev pub chain : Expr → List (Operator × Expr) → Expr
chain e [] = e
chain e (l ∷ ls) = like e (chain_node l.0 e (l ∷ ls))

-- operands of level n with operators of level n + 1 between them
abbrev pub Level : Rule Expr → ℕ → Rule Expr
Level un zero = un
Level un (suc n) = Seq chain (Level un n) (Repeat (Seq pair (One (operator (suc n))) (Level un n)))

-- ---- assignments and conditions

-- an operator that stands before the `=` of an assignment
abbrev pub change_of : ℕ → Option Operation
change_of c =
    if c == 41 then Some (change.By binary.Add) else if c == 42 then Some (change.By binary.Subtract) else if c == 43 then Some (change.By binary.Multiply) else
    if c == 44 then Some (change.By binary.Divide) else if c == 45 then Some (change.By binary.Remainder) else if c == 46 then Some change.Join else None

abbrev pub told_change : Option Operation → Token → Option (Making Operation)
told_change None t = None
told_change (Some o) t = Some (mapped (λ s. o) (spot t))

abbrev pub change_sign : Token → Option (Making Operation)
change_sign t = told_change (change_of (code t)) t

module _ (un expr : Rule Expr) (block : Rule Statement) where
  -- or
  abbrev pub IsOr : Rule Expr
  IsOr = Level (IsUnary un expr block) 7

  -- expr : place (= += -= *= /= %= ..=) expr | appending = expr | cond     cond : or [ ? expr : expr ]     appending : place [ ]
  pub data IsExpr (word : List Token) (e : Making Expr) : Type 0 where
    assigned : Seq (λ p v. at p.1 (Node.Assign p.0 v)) (IsPlace un expr block) (Before (is_sign sign.Assign) expr) word e → IsExpr word e
    changed : Seq (λ p v. at p.1 (Node.Change p.0 v.0 v.1)) (IsPlace un expr block) (Seq pair (One change_sign) expr) word e → IsExpr word e
    appended : Seq (λ p v. at p.1 (Node.Append p.0 v)) (Ending (Ending (IsPlace un expr block) (is_sign sign.OpenBracket)) (is_sign sign.CloseBracket)) (Before (is_sign sign.Assign) expr) word e → IsExpr word e
    of_or : IsOr word e → IsExpr word e
    chosen : Seq (λ test bs. like test (Node.Cond test bs.0 bs.1)) IsOr (Seq pair (Before (is_sign sign.Question) expr) (Before (is_sign sign.Colon) expr)) word e → IsExpr word e

-- ---- statements; inner and stmt are what stands within, expr is an expression of the same nesting

abbrev pub stands : Spot → Kind.Kind → Statement
stands s kind = record { line = s.line; token = s.token; kind = kind }

abbrev pub expr_statement : Expr → Statement
expr_statement e = record { line = e.line; token = e.token; kind = Kind.Expr e }

-- the word begins with no `{`
abbrev pub BeginsNoBlock : List Token → Type 0
BeginsNoBlock [] = Unit {0}
BeginsNoBlock (t ∷ ts) = code t ≡ 12 → ⊥

abbrev pub branch_of : Expr → Statement → Branch
branch_of e s = record { test = e; body = s }

-- a branch before the others, and before what is behind `else`
abbrev pub with_branch : Branch → List Branch × Option Statement → List Branch × Option Statement
with_branch b others = (b ∷ others.0, others.1)

abbrev pub no_branch : List Branch × Option Statement
no_branch = ([], None)

abbrev pub otherwise : Statement → List Branch × Option Statement
otherwise s = ([], Some s)

-- Statements that are open, which end with an `if` that has no `else`, and those that are not.
abbrev pub Statements : Type 1
Statements = Bool → Rule Statement

-- open or not
abbrev pub AnyOf : Statements → Rule Statement
AnyOf stmt word s = (is_open : Bool) × stmt is_open word s

-- VAR [ , VAR ]: the value's variable, or those of the key and the value
abbrev pub key_and_value : Bytes → Option Bytes → Option Bytes × Bytes
key_and_value v None = (None, v)
key_and_value v (Some w) = (Some v, w)

abbrev pub VarName : Rule Bytes
VarName = Map (One var) (mapped (λ v. v.0))

mutual
  -- a branch and what is behind it
  pub data IsBranches (branch : Bool → Rule Branch) (stmt : Statements) (is_open : Bool) : List Token → Making (List Branch × Option Statement) → Type 0 where
    a_branch : {word : List Token} {m : Making (List Branch × Option Statement)} (first_open : Bool) (front back : List Token) (b : Making Branch) (others : Making (List Branch × Option Statement)) → word ≡ front ++ back
        → branch first_open front b → BehindBranch branch stmt is_open first_open back others → m ≡ then_made with_branch b others → IsBranches branch stmt is_open word m

  -- An `else` or `elseif` belongs to the nearest `if` that can have it, so none stands behind a branch whose statement is open.
  pub data BehindBranch (branch : Bool → Rule Branch) (stmt : Statements) (is_open : Bool) : Bool → List Token → Making (List Branch × Option Statement) → Type 0 where
    no_else : {first_open : Bool} {word : List Token} {m : Making (List Branch × Option Statement)} → is_open ≡ true → Nothing (nothing no_branch) word m → BehindBranch branch stmt is_open first_open word m
    with_else : {first_open : Bool} {word : List Token} {m : Making (List Branch × Option Statement)} → first_open ≡ false → Map (Before (is_word (codes "else")) (stmt is_open)) (mapped otherwise) word m
        → BehindBranch branch stmt is_open first_open word m
    with_elseif : {first_open : Bool} {word : List Token} {m : Making (List Branch × Option Statement)} (front back : List Token) (s : Making Spot) (others : Making (List Branch × Option Statement)) → first_open ≡ false
        → word ≡ front ++ back → One (is_word (codes "elseif")) front s → IsBranches branch stmt is_open back others → m ≡ then_made second s others → BehindBranch branch stmt is_open first_open word m

module _ (expr inner : Rule Expr) (stmt : Statements) (block : Rule Statement) where
  -- ( expr )
  abbrev pub InParens : Rule Expr
  InParens = Ending (Before (is_sign sign.OpenParen) inner) (is_sign sign.CloseParen)

  -- ( expr ) stmt
  abbrev pub IsBranch : Bool → Rule Branch
  IsBranch is_open = Seq branch_of InParens (stmt is_open)

  -- ( [exprs] ; [expr] ; [exprs] )
  abbrev pub ForHead : Rule (List Expr × (Option Expr × List Expr))
  ForHead = Seq pair (Ending (Before (is_sign sign.OpenParen) (PerhapsCommas inner)) (is_sign sign.Semicolon))
      (Seq pair (Ending (Perhaps inner) (is_sign sign.Semicolon)) (Ending (PerhapsCommas inner) (is_sign sign.CloseParen)))

  -- ( expr as VAR [ , VAR ] )
  abbrev pub ForeachHead : Rule (Expr × (Option Bytes × Bytes))
  ForeachHead = Seq pair (Ending (Before (is_sign sign.OpenParen) inner) (is_word (codes "as")))
      (Ending (Seq key_and_value VarName (Perhaps (Before (is_sign sign.Comma) VarName))) (is_sign sign.CloseParen))

  -- statements that end with a sign
  pub data IsSimple (word : List Token) (s : Making Statement) : Type 0 where
    empty : Map (One (is_sign sign.Semicolon)) (mapped (λ p. stands p Kind.Empty)) word s → IsSimple word s
    of_block : block word s → IsSimple word s
    printing : Seq (λ p es. stands p (Kind.Print es)) (One (is_word (codes "print"))) (Ending (Commas expr) (is_sign sign.Semicolon)) word s → IsSimple word s
    of_expr : BeginsNoBlock word → Map (Ending expr (is_sign sign.Semicolon)) (mapped expr_statement) word s → IsSimple word s
    returning : Seq (λ p e. stands p (Kind.Return e)) (One (is_word (codes "return"))) (Ending (Perhaps expr) (is_sign sign.Semicolon)) word s → IsSimple word s
    breaking : Map (Ending (One (is_word (codes "break"))) (is_sign sign.Semicolon)) (mapped (λ p. stands p Kind.Break)) word s → IsSimple word s
    continuing : Map (Ending (One (is_word (codes "continue"))) (is_sign sign.Semicolon)) (mapped (λ p. stands p Kind.Continue)) word s → IsSimple word s

  -- a loop is open where its body is
  pub data IsStatement (is_open : Bool) (word : List Token) (s : Making Statement) : Type 0 where
    simple : is_open ≡ false → IsSimple word s → IsStatement is_open word s
    of_if : Seq (λ p x. stands p (Kind.If x.0 x.1)) (One (is_word (codes "if"))) (IsBranches IsBranch stmt is_open) word s → IsStatement is_open word s
    of_while : Seq (λ p x. stands p (Kind.While x.0 x.1)) (One (is_word (codes "while"))) (Seq pair InParens (stmt is_open)) word s → IsStatement is_open word s
    of_for : Seq (λ p x. stands p (Kind.For x.0.0 x.0.1.0 x.0.1.1 x.1)) (One (is_word (codes "for"))) (Seq pair ForHead (stmt is_open)) word s → IsStatement is_open word s
    of_foreach : Seq (λ p x. stands p (Kind.Foreach x.0.0 x.0.1.0 x.0.1.1 x.1)) (One (is_word (codes "foreach"))) (Seq pair ForeachHead (stmt is_open)) word s → IsStatement is_open word s

-- block : { {stmt} }
abbrev pub IsBlock : Statements → Rule Statement
IsBlock stmt = Seq (λ p ss. stands p (Kind.Block ss)) (One (is_sign sign.OpenBrace)) (Ending (Repeat (AnyOf stmt)) (is_sign sign.CloseBrace))

-- ---- nesting at most the number

unfoldable mutual
  pub UnaryWithin : ℕ → List Token → Making Expr → Type 0
  UnaryWithin zero word e = ⊥
  UnaryWithin (suc k) word e = IsUnary (UnaryWithin k) (ExprWithin k) (BlockWithin k) word e

  pub ExprWithin : ℕ → List Token → Making Expr → Type 0
  ExprWithin zero word e = ⊥
  ExprWithin (suc k) word e = IsExpr (UnaryWithin k) (ExprWithin k) (BlockWithin k) word e

  pub BlockWithin : ℕ → List Token → Making Statement → Type 0
  BlockWithin zero word s = ⊥
  BlockWithin (suc k) word s = IsBlock (StatementWithin k) word s

  pub StatementWithin : ℕ → Bool → List Token → Making Statement → Type 0
  StatementWithin zero is_open word s = ⊥
  StatementWithin (suc k) is_open word s =
      IsStatement (IsExpr (UnaryWithin k) (ExprWithin k) (BlockWithin k)) (ExprWithin k) (StatementWithin k) (IsBlock (StatementWithin k)) is_open word s

-- ---- programs

pub data Item : Type 0 where
  Define : Named → Item
  Run : Statement → Item

abbrev pub named_of : Spot → (Bytes × Spot) × (List Bytes × Statement) → Named
named_of s x = record { line = s.line; token = s.token; name = x.0.0; function = function_of x.1 }

-- fundef : function NAME ( [params] ) block
abbrev pub IsDefinition : Rule Statement → Rule Named
IsDefinition block = Seq named_of (One (is_word (codes "function"))) (Seq pair (One name) (Seq pair Params block))

pub data IsItem (block stmt : Rule Statement) (word : List Token) (i : Making Item) : Type 0 where
  definition : Map (IsDefinition block) (mapped Define) word i → IsItem block stmt word i
  statement : Map stmt (mapped Run) word i → IsItem block stmt word i

-- a definition has one level more than its block
abbrev pub ItemWithin : ℕ → Rule Item
ItemWithin zero = IsItem (BlockWithin zero) (AnyOf (StatementWithin zero))
ItemWithin (suc k) = IsItem (BlockWithin k) (AnyOf (StatementWithin (suc k)))
