-- Reading from left to right: what is read and where reading then stands, or the tokens from the one on where it stops.
use Rattle.std.specs.Prelude.{ℕ, zero, suc, Bool, true, false, cond, eqb, List, [], ◌∷◌, ◌++◌, length, set, Option, Some, None, Result, Ok, Err}
use Rattle.jx9_syntax.specs.Grammar.{code, sign_code, Spot, is_sign, first, second, or_none}
use Rattle.jx9_syntax.specs.Making.{Making}
use Rattle.jx9_syntax.specs.declared.program.Function.{Function}
use Rattle.jx9_syntax.specs.declared.sign.Sign.{Sign}
use Rattle.jx9_syntax.specs.declared.sign.Sign.TheVariants as sign
use Rattle.jx9_syntax.specs.declared.statement.Kind
use Rattle.jx9_syntax.specs.declared.token.Token.{Token}

abbrev pub Tokens : Type 0
Tokens = List Token

-- where reading stands: the tokens from the next one on, the number of that one, and the lambdas so far
pub record State : Type 0 where
  pub tokens : Tokens
  pub number : ℕ
  pub lambdas : List Function

abbrev pub Read : Type 0 → Type 0
Read A = Result (A × State) Tokens

abbrev pub Reader : Type 0 → Type 0
Reader A = State → Read A

infixl 10 ◌>>=◌
abbrev pub ◌>>=◌ : {X Y E : Type 0} → Result X E → (X → Result Y E) → Result Y E
(Ok x) >>= f = f x
(Err e) >>= f = Err e

-- ---- sets of tokens, by their numbers

abbrev pub member : ℕ → List ℕ → Bool
member c [] = false
member c (d ∷ ds) = cond (eqb c d) true (member c ds)

-- the next token passes the test; the end never does
abbrev pub is_next : (Token → Bool) → Tokens → Bool
is_next test [] = false
is_next test (t ∷ ts) = test t

abbrev pub next_in : List ℕ → Tokens → Bool
next_in cs = is_next (λ t. member (code t) cs)

-- ---- readers put together

-- the next token, where it tells something
abbrev pub one_told : {A : Type 0} → Option (Making A) → State → Token → Tokens → Read A
one_told (Some m) s t ts = Ok ((m s.number (suc (length s.lambdas))).made, record { tokens = ts; number = suc s.number; lambdas = s.lambdas })
one_told None s t ts = Err (t ∷ ts)

abbrev pub one_of : {A : Type 0} → (Token → Option (Making A)) → State → Tokens → Read A
one_of test s [] = Err []
one_of test s (t ∷ ts) = one_told (test t) s t ts

abbrev pub one : {A : Type 0} → (Token → Option (Making A)) → Reader A
one test s = one_of test s s.tokens

-- one behind the other
abbrev pub then_read : {A B C : Type 0} → (A → B → C) → Reader A → Reader B → Reader C
then_read f r q s = r s >>= λ x. q x.1 >>= λ y. Ok (f x.0 y.0, y.1)

abbrev pub map_read : {A B : Type 0} → (A → B) → Reader A → Reader B
map_read f r s = r s >>= λ x. Ok (f x.0, x.1)

-- a reader that stands behind a sign, and one before it
abbrev pub before : {A : Type 0} → (Token → Option (Making Spot)) → Reader A → Reader A
before test r = then_read second (one test) r

abbrev pub ending : {A : Type 0} → Reader A → (Token → Option (Making Spot)) → Reader A
ending r test = then_read first r (one test)

-- as long as the next token is one of these, at most n times
abbrev pub many_within : {A : Type 0} → List ℕ → Reader A → ℕ → Reader (List A)
many_within cs r zero s = Ok ([], s)
many_within cs r (suc n) s = cond (next_in cs s.tokens) (r s >>= λ x. many_within cs r n x.1 >>= λ y. Ok (x.0 ∷ y.0, y.1)) (Ok ([], s))

abbrev pub many : {A : Type 0} → List ℕ → Reader A → Reader (List A)
many cs r s = many_within cs r (length s.tokens) s

-- a reader that takes one level of nesting: with no room it stops before the first token
abbrev pub guarded : {A : Type 0} → Bool → Reader A → Reader A
guarded room r s = cond room (r s) (Err s.tokens)

-- the first reader where the next token is one of these, else the second
abbrev pub choose : {A : Type 0} → List ℕ → Reader A → Reader A → Reader A
choose cs r q s = cond (next_in cs s.tokens) (r s) (q s)

abbrev pub perhaps : {A : Type 0} → List ℕ → Reader A → Reader (Option A)
perhaps cs r = choose cs (map_read Some r) (λ s. Ok (None, s))

-- one or more with commas between them
abbrev pub commas : {A : Type 0} → Reader A → Reader (List A)
commas r = then_read ◌∷◌ r (many (33 ∷ []) (before (is_sign sign.Comma) r))

abbrev pub perhaps_commas : {A : Type 0} → List ℕ → Reader A → Reader (List A)
perhaps_commas cs r = map_read or_none (perhaps cs (commas r))

-- ---- readers that go on with what was read

-- what is read makes a tree with what was read before
abbrev pub given : {A B C : Type 0} → (A → B → C) → Reader B → A → Reader C
given f k a s = k s >>= λ y. Ok (f a y.0, y.1)

abbrev pub bind : {A B : Type 0} → Reader A → (A → Reader B) → Reader B
bind r k s = r s >>= λ y. k y.0 y.1

abbrev pub bind_on : {A B C : Type 0} → (A → Reader B) → (B → Reader C) → A → Reader C
bind_on q k a s = q a s >>= λ y. k y.0 y.1

abbrev pub choose_on : {A B : Type 0} → List ℕ → (A → Reader B) → (A → Reader B) → A → Reader B
choose_on cs q k a s = cond (next_in cs s.tokens) (q a s) (k a s)

abbrev pub guarded_on : {A B : Type 0} → Bool → (A → Reader B) → A → Reader B
guarded_on room q a s = cond room (q a s) (Err s.tokens)

-- nothing more
abbrev pub done : {A B : Type 0} → (A → B) → A → Reader B
done f a s = Ok (f a, s)

-- items to the closing sign, at most n
abbrev pub behind_item : {A : Type 0} → Sign → Reader (List A) → Reader (List A)
behind_item close q = choose (33 ∷ []) (before (is_sign sign.Comma) q) (map_read (λ s. []) (one (is_sign close)))

abbrev pub listed_within : {A : Type 0} → Sign → Reader A → ℕ → Reader (List A)
listed_within close r zero s = Err s.tokens
listed_within close r (suc n) s = choose (sign_code close ∷ []) (map_read (λ s. []) (one (is_sign close))) (then_read ◌∷◌ r (behind_item close (listed_within close r n))) s

abbrev pub listed : {A : Type 0} → Sign → Reader A → Reader (List A)
listed close r s = listed_within close r (suc (length s.tokens)) s

-- a lambda has the next number, and its place in the list is kept until it is read
abbrev pub empty_function : Function
empty_function = record { params = []; body = record { line = 0; token = 0; kind = Kind.Empty } }

abbrev pub reserved : State → State
reserved s = record { tokens = s.tokens; number = s.number; lambdas = s.lambdas ++ empty_function ∷ [] }

abbrev pub filled : ℕ → Function → State → State
filled n f s = record { tokens = s.tokens; number = s.number; lambdas = set s.lambdas n f }

abbrev pub lambda_read : {A B : Type 0} → (A → ℕ → B) → (A → Function) → Reader A → Reader B
lambda_read f g r s = r (reserved s) >>= λ x. Ok (f x.0 (suc (length s.lambdas)), filled (length s.lambdas) (g x.0) x.1)
