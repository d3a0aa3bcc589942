-- Each test of one token tells of tokens with certain numbers.
use Rattle.std.proofs.Common.{◌≡◌, ℕ, zero, suc, ◌<◌, Bool, true, false, cond, eqb, List, [], ◌∷◌, Option, Some, None, pos, codes, refl, sym, ap, subst, ◌∙◌, arith}
use Rattle.std.proofs.lemmas.Bool.{eq-eqb}
use Rattle.std.specs.Str.{bytes_eq}
use Rattle.uq_value.specs.Data.{Bytes}
use Rattle.jx9_syntax.specs.Grammar.{code, kind_code, word_code, sign_code, Spot, spot, at, coded, is_sign, at_spot, var, var_in, any_name, any_name_in, name, member_name, member_name_in, literal_at, word_literal, literal_in, literal_or_mixed, step_sign, change_of, told_change, change_sign, Operator, Of, Joining, Both, Either, operator_of, told_operator, operator}
use Rattle.jx9_syntax.specs.Making.{Making, mapped}
use Rattle.jx9_syntax.specs.Words.{One}
use Rattle.jx9_syntax.specs.declared.expression.Expr.{Expr}
use Rattle.jx9_syntax.specs.declared.expression.Binary.TheVariants as binary
use Rattle.jx9_syntax.specs.declared.expression.Change.{Change as Operation}
use Rattle.jx9_syntax.specs.declared.expression.Change.TheVariants as change
use Rattle.jx9_syntax.specs.declared.expression.Literal.TheVariants as literal
use Rattle.jx9_syntax.specs.declared.expression.Node
use Rattle.jx9_syntax.specs.declared.expression.Step.{Step}
use Rattle.jx9_syntax.specs.declared.sign.Sign.{Sign}
use Rattle.jx9_syntax.specs.declared.sign.Sign.TheVariants as sign
use Rattle.jx9_syntax.specs.declared.token.Token.{Token}
use Rattle.jx9_syntax.specs.declared.token.TokenKind.{TokenKind}
use Rattle.jx9_syntax.specs.declared.token.TokenKind.TheVariants as kind
use Rattle.jx9_parse.specs.Chains.{operators}
use Rattle.jx9_parse.specs.Reading.{member, one}
use Rattle.jx9_parse.proofs.Sets.{In, in_right}
use Rattle.jx9_parse.proofs.Parts.{Part, Tells, part_one}

abbrev pub IsSingle : {A : Type 0} → Making A → Type 0
IsSingle m = (n l : ℕ) → m n l ≡ record { made = (m n l).made; next = suc n; lambdas = [] }

some_same : {A : Type 0} (a b : A) → ◌≡◌ {A = Option A} (Some a) (Some b) → a ≡ b
some_same a b e = cc

no_some : {A : Type 0} (a : A) → ◌≡◌ {A = Option A} None (Some a) → ⊥
no_some a e = cc

pub tells_none : {A : Type 0} → Tells {A = A} (λ t. None) []
tells_none = record { numbers = λ t m e. absurd (no_some m e); single = λ t m e. absurd (no_some m e) }

pub tells_if : {A : Type 0} (d : ℕ) (x : Token → Making A) (rest : Token → Option (Making A)) (bs : List ℕ) → ((t : Token) → IsSingle (x t)) → Tells rest bs
    → Tells (λ t. cond (eqb (code t) d) (Some (x t)) (rest t)) (d ∷ bs)
tells_if {A} d x rest bs one_ others = record { numbers = λ t m e. number t m (eqb (code t) d) e; single = λ t m e. single_by t m (eqb (code t) d) e }
  where
    number : (t : Token) (m : Making A) (b : Bool) → cond b (Some (x t)) (rest t) ≡ Some m → cond b true (member (code t) bs) ≡ true
    number t m true e = refl
    number t m false e = others.numbers t m e

    single_by : (t : Token) (m : Making A) (b : Bool) → cond b (Some (x t)) (rest t) ≡ Some m → IsSingle m
    single_by t m true e = subst IsSingle (some_same (x t) m e) (one_ t)
    single_by t m false e = others.single t m e

-- ---- signs and words

pub tells_coded : (d : ℕ) → Tells (coded d) (d ∷ [])
tells_coded d = tells_if d spot (λ t. None) [] (λ t n l. refl) tells_none

coded_some : (d : ℕ) (z : Token) → code z ≡ d → coded d z ≡ Some (spot z)
coded_some d z e = ap (λ (b : Bool). cond b (Some (spot z)) None) (eq-eqb (code z) d e)

pub part_coded : (d : ℕ) (z : Token) → code z ≡ d → Part (One (coded d)) [] (d ∷ []) (one (coded d))
part_coded d z e = part_one (coded d) (d ∷ []) (tells_coded d) z (spot z) (coded_some d z e)

pub part_sign : (s : Sign) → Part (One (is_sign s)) [] (sign_code s ∷ []) (one (is_sign s))
unfolding code
part_sign s = part_coded (sign_code s) (record { kind = kind.Sign s; line = 1 }) refl

-- a word, by its number
pub part_word : (d : ℕ) (w : Bytes) → kind_code (kind.Name w) ≡ d → Part (One (coded d)) [] (d ∷ []) (one (coded d))
unfolding code
part_word d w e = part_coded d (record { kind = kind.Name w; line = 1 }) e

-- ---- variables

var_tells : (t : Token) (k : TokenKind) → t.kind ≡ k → (m : Making (Bytes × Spot)) → var_in t k ≡ Some m → (code t ≡ 17) × IsSingle m
unfolding code
var_tells t (kind.Var x) e m h = (ap kind_code e, subst IsSingle (some_same (at_spot x t) m h) (λ n l. refl))
var_tells t (kind.Name x) e m h = absurd (no_some m h)
var_tells t (kind.Int z) e m h = absurd (no_some m h)
var_tells t (kind.Text x) e m h = absurd (no_some m h)
var_tells t (kind.Mixed ps) e m h = absurd (no_some m h)
var_tells t (kind.Sign s) e m h = absurd (no_some m h)
var_tells t kind.End e m h = absurd (no_some m h)

in_one : (c d : ℕ) → c ≡ d → member c (d ∷ []) ≡ true
in_one c d e = ap (λ (b : Bool). cond b true false) (eq-eqb c d e)

pub part_var : Part (One var) [] (17 ∷ []) (one var)
unfolding code
part_var = part_one var (17 ∷ [])
    (record { numbers = λ t m e. in_one (code t) 17 (var_tells t t.kind refl m e).0; single = λ t m e. (var_tells t t.kind refl m e).1 })
    (record { kind = kind.Var []; line = 1 }) (at_spot [] (record { kind = kind.Var []; line = 1 })) refl

-- ---- names

name_tells : (t : Token) (k : TokenKind) → t.kind ≡ k → (m : Making (Bytes × Spot)) → any_name_in t k ≡ Some m → IsSingle m
name_tells t (kind.Name x) e m h = subst IsSingle (some_same (at_spot x t) m h) (λ n l. refl)
name_tells t (kind.Var x) e m h = absurd (no_some m h)
name_tells t (kind.Int z) e m h = absurd (no_some m h)
name_tells t (kind.Text x) e m h = absurd (no_some m h)
name_tells t (kind.Mixed ps) e m h = absurd (no_some m h)
name_tells t (kind.Sign s) e m h = absurd (no_some m h)
name_tells t kind.End e m h = absurd (no_some m h)

-- a name that is not reserved
tells_name : Tells name (8 ∷ [])
tells_name = record { numbers = λ t m e. number t m (eqb (code t) 8) e; single = λ t m e. single_by t m (eqb (code t) 8) e }
  where
    number : (t : Token) (m : Making (Bytes × Spot)) (b : Bool) → cond b (any_name t) None ≡ Some m → cond b true false ≡ true
    number t m true e = refl
    number t m false e = absurd (no_some m e)

    single_by : (t : Token) (m : Making (Bytes × Spot)) (b : Bool) → cond b (any_name t) None ≡ Some m → IsSingle m
    single_by t m true e = name_tells t t.kind refl m e
    single_by t m false e = absurd (no_some m e)

pub part_name : Part (One name) [] (8 ∷ []) (one name)
unfolding code
part_name = part_one name (8 ∷ []) tells_name (record { kind = kind.Name []; line = 1 }) (at_spot [] (record { kind = kind.Name []; line = 1 })) refl

-- ---- `++` and `--`

pub part_step : (increment decrement : Step) → Part (One (step_sign increment decrement)) [] (15 ∷ 16 ∷ []) (one (step_sign increment decrement))
unfolding code
part_step increment decrement = part_one (step_sign increment decrement) (15 ∷ 16 ∷ [])
    (tells_if 15 (at_spot increment) (λ t. cond (eqb (code t) 16) (Some (at_spot decrement t)) None) (16 ∷ []) (λ t n l. refl) (tells_if 16 (at_spot decrement) (λ t. None) [] (λ t n l. refl) tells_none))
    (record { kind = kind.Sign sign.Increment; line = 1 }) (at_spot increment (record { kind = kind.Sign sign.Increment; line = 1 })) refl

-- ---- literals

tells_word_literal : Tells word_literal (4 ∷ 5 ∷ 6 ∷ 7 ∷ [])
tells_word_literal =
    tells_if 4 (λ t. literal_at t literal.Null) _ (5 ∷ 6 ∷ 7 ∷ []) (λ t n l. refl)
    (tells_if 5 (λ t. literal_at t (literal.Bool true)) _ (6 ∷ 7 ∷ []) (λ t n l. refl)
    (tells_if 6 (λ t. literal_at t (literal.Bool false)) _ (7 ∷ []) (λ t n l. refl)
    (tells_if 7 (λ t. literal_at t (literal.Text (0x0a ∷ []))) (λ t. None) [] (λ t n l. refl) tells_none)))

abbrev pub literals : List ℕ
literals = 1 ∷ 2 ∷ 3 ∷ 4 ∷ 5 ∷ 6 ∷ 7 ∷ []

of_word : (t : Token) (m : Making Expr) → word_literal t ≡ Some m → In literals t × IsSingle m
of_word t m e = (in_right (1 ∷ 2 ∷ 3 ∷ []) (4 ∷ 5 ∷ 6 ∷ 7 ∷ []) (code t) (tells_word_literal.numbers t m e), tells_word_literal.single t m e)

literal_tells : (t : Token) (k : TokenKind) → t.kind ≡ k → (m : Making Expr) → literal_in t k ≡ Some m → In literals t × IsSingle m
unfolding code
literal_tells t (kind.Int z) e m h = (subst (λ (c : ℕ). member c literals ≡ true) (sym (ap kind_code e)) refl, subst IsSingle (some_same (literal_at t (literal.Int z)) m h) (λ n l. refl))
literal_tells t (kind.Text x) e m h = (subst (λ (c : ℕ). member c literals ≡ true) (sym (ap kind_code e)) refl, subst IsSingle (some_same (literal_at t (literal.Text x)) m h) (λ n l. refl))
literal_tells t (kind.Mixed ps) e m h = (subst (λ (c : ℕ). member c literals ≡ true) (sym (ap kind_code e)) refl, subst IsSingle (some_same (mapped (λ s. at s (Node.Mixed ps)) (spot t)) m h) (λ n l. refl))
literal_tells t (kind.Name x) e m h = of_word t m h
literal_tells t (kind.Var x) e m h = of_word t m h
literal_tells t (kind.Sign s) e m h = of_word t m h
literal_tells t kind.End e m h = of_word t m h

pub part_literal : Part (One literal_or_mixed) [] literals (one literal_or_mixed)
unfolding code
part_literal = part_one literal_or_mixed literals
    (record { numbers = λ t m e. (literal_tells t t.kind refl m e).0; single = λ t m e. (literal_tells t t.kind refl m e).1 })
    (record { kind = kind.Int (pos 0); line = 1 }) (literal_at (record { kind = kind.Int (pos 0); line = 1 }) (literal.Int (pos 0))) refl

-- ---- any name, and the name of a member

abbrev pub names : List ℕ
names = 4 ∷ 5 ∷ 6 ∷ 7 ∷ 8 ∷ 9 ∷ 21 ∷ 22 ∷ 23 ∷ 24 ∷ 25 ∷ 26 ∷ 27 ∷ 28 ∷ 37 ∷ 38 ∷ 39 ∷ 70 ∷ 71 ∷ 72 ∷ 73 ∷ []

record IsName (c : ℕ) : Type 0 where
  is : member c names ≡ true

if_name : (b : Bool) (c rest : ℕ) → IsName c → IsName rest → IsName (cond b c rest)
if_name true c rest h g = h
if_name false c rest h g = g

word_name : (x : Bytes) → IsName (word_code x)
word_name x =
    (if_name (bytes_eq x (codes "null")) 4 _ (record { is = refl })
    (if_name (bytes_eq x (codes "NULL")) 4 _ (record { is = refl })
    (if_name (bytes_eq x (codes "true")) 5 _ (record { is = refl })
    (if_name (bytes_eq x (codes "TRUE")) 5 _ (record { is = refl })
    (if_name (bytes_eq x (codes "false")) 6 _ (record { is = refl })
    (if_name (bytes_eq x (codes "FALSE")) 6 _ (record { is = refl })
    (if_name (bytes_eq x (codes "JX9_EOL")) 7 _ (record { is = refl })
    (if_name (bytes_eq x (codes "function")) 9 _ (record { is = refl })
    (if_name (bytes_eq x (codes "print")) 21 _ (record { is = refl })
    (if_name (bytes_eq x (codes "if")) 22 _ (record { is = refl })
    (if_name (bytes_eq x (codes "while")) 23 _ (record { is = refl })
    (if_name (bytes_eq x (codes "for")) 24 _ (record { is = refl })
    (if_name (bytes_eq x (codes "foreach")) 25 _ (record { is = refl })
    (if_name (bytes_eq x (codes "return")) 26 _ (record { is = refl })
    (if_name (bytes_eq x (codes "break")) 27 _ (record { is = refl })
    (if_name (bytes_eq x (codes "continue")) 28 _ (record { is = refl })
    (if_name (bytes_eq x (codes "as")) 37 _ (record { is = refl })
    (if_name (bytes_eq x (codes "else")) 38 _ (record { is = refl })
    (if_name (bytes_eq x (codes "elseif")) 39 _ (record { is = refl })
    (if_name (bytes_eq x (codes "switch")) 70 _ (record { is = refl })
    (if_name (bytes_eq x (codes "case")) 71 _ (record { is = refl })
    (if_name (bytes_eq x (codes "default")) 72 _ (record { is = refl })
    (if_name (bytes_eq x (codes "uplink")) 73 8 (record { is = refl }) (record { is = refl }))))))))))))))))))))))))

word_is_name : (x : Bytes) → member (word_code x) names ≡ true
word_is_name x = (word_name x).is

any_name_number : (t : Token) (k : TokenKind) → t.kind ≡ k → (m : Making (Bytes × Spot)) → any_name_in t k ≡ Some m → In names t
unfolding code
any_name_number t (kind.Name x) e m h = subst (λ (c : ℕ). member c names ≡ true) (sym (ap kind_code e)) (word_is_name x)
any_name_number t (kind.Var x) e m h = absurd (no_some m h)
any_name_number t (kind.Int z) e m h = absurd (no_some m h)
any_name_number t (kind.Text x) e m h = absurd (no_some m h)
any_name_number t (kind.Mixed ps) e m h = absurd (no_some m h)
any_name_number t (kind.Sign s) e m h = absurd (no_some m h)
any_name_number t kind.End e m h = absurd (no_some m h)

pub part_any_name : Part (One any_name) [] names (one any_name)
unfolding code
part_any_name = part_one any_name names
    (record { numbers = λ t m e. any_name_number t t.kind refl m e; single = λ t m e. name_tells t t.kind refl m e })
    (record { kind = kind.Name []; line = 1 }) (at_spot [] (record { kind = kind.Name []; line = 1 })) refl

member_name_tells : (t : Token) (k : TokenKind) → t.kind ≡ k → (m : Making (Bytes × Spot)) → member_name_in t k ≡ Some m → In (2 ∷ names) t × IsSingle m
unfolding code
member_name_tells t (kind.Name x) e m h =
    (subst (λ (c : ℕ). member c (2 ∷ names) ≡ true) (sym (ap kind_code e)) (in_right (2 ∷ []) names (word_code x) (word_is_name x)), subst IsSingle (some_same (at_spot x t) m h) (λ n l. refl))
member_name_tells t (kind.Text x) e m h = (subst (λ (c : ℕ). member c (2 ∷ names) ≡ true) (sym (ap kind_code e)) refl, subst IsSingle (some_same (at_spot x t) m h) (λ n l. refl))
member_name_tells t (kind.Var x) e m h = absurd (no_some m h)
member_name_tells t (kind.Int z) e m h = absurd (no_some m h)
member_name_tells t (kind.Mixed ps) e m h = absurd (no_some m h)
member_name_tells t (kind.Sign s) e m h = absurd (no_some m h)
member_name_tells t kind.End e m h = absurd (no_some m h)

pub part_member_name : Part (One member_name) [] (2 ∷ names) (one member_name)
unfolding code
part_member_name = part_one member_name (2 ∷ names)
    (record { numbers = λ t m e. (member_name_tells t t.kind refl m e).0; single = λ t m e. (member_name_tells t t.kind refl m e).1 })
    (record { kind = kind.Name []; line = 1 }) (at_spot [] (record { kind = kind.Name []; line = 1 })) refl

-- ---- operators

-- what a table has for a number
abbrev pub found_in : {X : Type 0} → List (ℕ × X) → ℕ → Option X
found_in [] c = None
found_in (d ∷ ds) c = cond (eqb c d.0) (Some d.1) (found_in ds c)

abbrev pub keys : {X : Type 0} → List (ℕ × X) → List ℕ
keys [] = []
keys (d ∷ ds) = d.0 ∷ keys ds

found_key : {X : Type 0} (table : List (ℕ × X)) (c : ℕ) (x : X) → found_in table c ≡ Some x → member c (keys table) ≡ true
found_key [] c x e = absurd (no_some x e)
found_key {X} (d ∷ ds) c x e = by (eqb c d.0) e (λ h. found_key ds c x h)
  where
    by : (b : Bool) → cond b (Some d.1) (found_in ds c) ≡ Some x → (found_in ds c ≡ Some x → member c (keys ds) ≡ true) → cond b true (member c (keys ds)) ≡ true
    by true h others = refl
    by false h others = others h

operator_single : (t : Token) (m : Making Operator) (o : Option Operator) → told_operator o t ≡ Some m → ((x : Operator) × (o ≡ Some x)) × IsSingle m
operator_single t m None e = absurd (no_some m e)
operator_single t m (Some x) e = ((x, refl), subst IsSingle (some_same (mapped (λ s. x) (spot t)) m e) (λ n l. refl))

-- an operator of level n, where the rule of the level is a table
tells_operator : (n : ℕ) (table : List (ℕ × Operator)) → ((c : ℕ) → operator_of n c ≡ found_in table c) → Tells (operator n) (keys table)
tells_operator n table same = record {
  numbers = λ t m e. let o = (operator_single t m (operator_of n (code t)) e).0 in found_key table (code t) o.0 (sym (same (code t)) ∙ o.1);
  single = λ t m e. (operator_single t m (operator_of n (code t)) e).1;
}

abbrev told_of : Sign → Operator → Making Operator
told_of s o = mapped (λ p. o) (spot (record { kind = kind.Sign s; line = 1 }))

pub part_operator : (n : ℕ) → n < 7 → Part (One (operator (suc n))) [] (operators (suc n)) (one (operator (suc n)))
unfolding code
part_operator zero h = part_one (operator 1) (operators 1)
    (tells_operator 1 ((50, Of binary.Multiply) ∷ (51, Of binary.Divide) ∷ (52, Of binary.Remainder) ∷ []) (λ c. refl)) (record { kind = kind.Sign sign.Times; line = 1 }) (told_of sign.Times (Of binary.Multiply)) refl
part_operator (suc zero) h = part_one (operator 2) (operators 2)
    (tells_operator 2 ((53, Of binary.Add) ∷ (13, Of binary.Subtract) ∷ []) (λ c. refl)) (record { kind = kind.Sign sign.Plus; line = 1 }) (told_of sign.Plus (Of binary.Add)) refl
part_operator (suc (suc zero)) h = part_one (operator 3) (operators 3)
    (tells_operator 3 ((54, Joining) ∷ []) (λ c. refl)) (record { kind = kind.Sign sign.Join; line = 1 }) (told_of sign.Join Joining) refl
part_operator (suc (suc (suc zero))) h = part_one (operator 4) (operators 4)
    (tells_operator 4 ((55, Of binary.Less) ∷ (56, Of binary.LessOrEqual) ∷ (57, Of binary.Greater) ∷ (58, Of binary.GreaterOrEqual) ∷ []) (λ c. refl))
    (record { kind = kind.Sign sign.Less; line = 1 }) (told_of sign.Less (Of binary.Less)) refl
part_operator (suc (suc (suc (suc zero)))) h = part_one (operator 5) (operators 5)
    (tells_operator 5 ((59, Of binary.Equal) ∷ (60, Of binary.NotEqual) ∷ (61, Of binary.Same) ∷ (62, Of binary.NotSame) ∷ []) (λ c. refl))
    (record { kind = kind.Sign sign.Equal; line = 1 }) (told_of sign.Equal (Of binary.Equal)) refl
part_operator (suc (suc (suc (suc (suc zero))))) h = part_one (operator 6) (operators 6)
    (tells_operator 6 ((63, Both) ∷ []) (λ c. refl)) (record { kind = kind.Sign sign.And; line = 1 }) (told_of sign.And Both) refl
part_operator (suc (suc (suc (suc (suc (suc zero)))))) h = part_one (operator 7) (operators 7)
    (tells_operator 7 ((64, Either) ∷ []) (λ c. refl)) (record { kind = kind.Sign sign.Or; line = 1 }) (told_of sign.Or Either) refl
part_operator (suc (suc (suc (suc (suc (suc (suc n))))))) h = absurd (omega (arith, h))

-- ---- the operator before the `=` of an assignment

change_single : (t : Token) (m : Making Operation) (o : Option Operation) → told_change o t ≡ Some m → ((x : Operation) × (o ≡ Some x)) × IsSingle m
change_single t m None e = absurd (no_some m e)
change_single t m (Some x) e = ((x, refl), subst IsSingle (some_same (mapped (λ s. x) (spot t)) m e) (λ n l. refl))

abbrev changes : List (ℕ × Operation)
changes = (41, change.By binary.Add) ∷ (42, change.By binary.Subtract) ∷ (43, change.By binary.Multiply) ∷ (44, change.By binary.Divide) ∷ (45, change.By binary.Remainder) ∷ (46, change.Join) ∷ []

pub part_change : Part (One change_sign) [] (41 ∷ 42 ∷ 43 ∷ 44 ∷ 45 ∷ 46 ∷ []) (one change_sign)
unfolding code
part_change = part_one change_sign (41 ∷ 42 ∷ 43 ∷ 44 ∷ 45 ∷ 46 ∷ [])
    (record {
      numbers = λ t m e. let o = (change_single t m (change_of (code t)) e).0 in found_key changes (code t) o.0 o.1;
      single = λ t m e. (change_single t m (change_of (code t)) e).1;
    })
    (record { kind = kind.Sign sign.PlusAssign; line = 1 }) (mapped (λ s. change.By binary.Add) (spot (record { kind = kind.Sign sign.PlusAssign; line = 1 }))) refl
