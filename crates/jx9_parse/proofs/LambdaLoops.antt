-- Reading a lambda, whose place in the list is kept until it is read.
use Rattle.std.proofs.Common.{◌≡◌, ℕ, suc, ◌==◌, ◌≤◌, ltb, Bool, true, false, cond, if◌then◌else◌, List, [], ◌∷◌, ◌++◌, length, Option, Some, None, codes, Ok, Err, refl, sym, ap, subst, ◌∙◌, arith}
use Rattle.std.specs.Prelude.{set}
use Rattle.std.proofs.lemmas.List.{length-append}
use Rattle.jx9_syntax.specs.Grammar.{Rule, code, Spot, coded, spot, is_word, pair, function_of, at}
use Rattle.jx9_syntax.specs.Making.{Making}
use Rattle.jx9_syntax.specs.declared.expression.Expr.{Expr}
use Rattle.jx9_syntax.specs.declared.expression.Node
use Rattle.jx9_syntax.specs.declared.program.Function.{Function}
use Rattle.jx9_syntax.specs.declared.statement.Statement.{Statement}
use Rattle.jx9_syntax.specs.declared.token.Token.{Token}
use Rattle.uq_value.specs.Data.{Bytes}
use Rattle.jx9_parse.specs.Answers.{Stops}
use Rattle.jx9_parse.specs.Expressions.{parameters}
use Rattle.jx9_parse.specs.Levels as levels
use Rattle.jx9_parse.specs.Reading.{Tokens, State, Read, Reader, ◌>>=◌, one, one_of, one_told, empty_function, reserved, filled}
use Rattle.jx9_parse.specs.Rooms.{block_within}
use Rattle.jx9_parse.specs.declared.parser.Parser.{Parser}
use Rattle.jx9_parse.specs.declared.stop.Stop.{Stop}
use Rattle.jx9_parse.specs.declared.stop.Stop.TheVariants as stop
use Rattle.jx9_parse.proofs.Unplaced.{Found}
use Rattle.jx9_parse.proofs.Placed.{made_at, at_state}
use Rattle.jx9_parse.proofs.Parts.{Part}
use Rattle.jx9_parse.proofs.RoomLaws.{room}
use Rattle.jx9_parse.proofs.RoomSteps.{no_room, none_left}
use Rattle.jx9_parse.proofs.Unaries.{the_parameters}

-- ---- one token

pub record Next {A : Type 0} (s : State) (x : A × State) : Type 0 where
  pub number : x.1.number ≡ suc s.number
  pub lambdas : x.1.lambdas ≡ s.lambdas

pub one_next : {A : Type 0} (test : Token → Option (Making A)) (s : State) (x : A × State) → one test s ≡ Ok x → Next s x
one_next {A} test s x e = by s.tokens e
  where
    not_ok : {ts : Tokens} → ◌≡◌ {A = Read A} (Err ts) (Ok x) → ⊥
    not_ok e = cc

    rest_is : (y : A × State) → ◌≡◌ {A = Read A} (Ok y) (Ok x) → y ≡ x
    rest_is y e = cc

    told : (o : Option (Making A)) (t : Token) (ts : Tokens) → one_told o s t ts ≡ Ok x → Next s x
    told None t ts h = absurd (not_ok h)
    told (Some m) t ts h =
        let q = rest_is _ h in record { number = sym (ap (λ (z : A × State). z.1.number) q); lambdas = sym (ap (λ (z : A × State). z.1.lambdas) q) }

    by : (ts : Tokens) → one_of test s ts ≡ Ok x → Next s x
    by [] h = absurd (not_ok h)
    by (t ∷ ts) h = told (test t) t ts h

abbrev reserve : Read Spot → Read Spot
reserve o = o >>= λ x. Ok (x.0, reserved x.1)

-- a place in the list changes nothing for a single token
one_reserved : (c : ℕ) (s : State) → one (coded c) (reserved s) ≡ reserve (one (coded c) s)
one_reserved c s = by s.tokens
  where
    told : (b : Bool) (t : Token) (ts : Tokens) → one_told (if b then Some (spot t) else None) (reserved s) t ts ≡ reserve (one_told (if b then Some (spot t) else None) s t ts)
    told true t ts = refl
    told false t ts = refl

    by : (ts : Tokens) → one_of (coded c) (reserved s) ts ≡ reserve (one_of (coded c) s ts)
    by [] = refl
    by (t ∷ ts) = told (code t == c) t ts

-- ---- lambdas are only added

abbrev Grows : {A : Type 0} → Reader A → Type 0
Grows {A} r = (s : State) (x : A × State) → r s ≡ Ok x → length s.lambdas ≤ length x.1.lambdas

part_grows : {A : Type 0} {L : Rule A} {ms bs : List ℕ} {r : Reader A} → Part L ms bs r → Grows r
part_grows {A} {L} {ms} {bs} {r} l s x e = by (l.reads s.tokens) (sym (l.runs s) ∙ e)
  where
    not_ok : {ts : Tokens} → ◌≡◌ {A = Read A} (Err ts) (Ok x) → ⊥
    not_ok e = cc

    rest_is : (y : A × State) → ◌≡◌ {A = Read A} (Ok y) (Ok x) → y ≡ x
    rest_is y e = cc

    by : (o : Found (Making A)) → at_state s o ≡ Ok x → length s.lambdas ≤ length x.1.lambdas
    by (Err ts) h = absurd (not_ok h)
    by (Ok y) h =
        let more : List Function = (y.0 s.number (suc (length s.lambdas))).lambdas in
        let l : length (s.lambdas ++ more) ≡ length x.1.lambdas = ap (λ (z : A × State). length z.1.lambdas) (rest_is (made_at s y.0 y.1) h) in
        omega (arith, l, length-append s.lambdas more)

block_grows : (k : ℕ) → Grows (block_within k)
block_grows k s x e = by (ltb 0 k) refl
  where
    not_ok : {ts : Tokens} → ◌≡◌ {A = Read Statement} (Err ts) (Ok x) → ⊥
    not_ok e = cc

    by : (b : Bool) → ltb 0 k ≡ b → length s.lambdas ≤ length x.1.lambdas
    by true h = part_grows ((room k).inner.a_block.part h) s x e
    by false h = absurd (not_ok (sym (no_room k s (none_left k h)).2 ∙ e))

pub function_grows : (k : ℕ) → Grows (levels.function k)
function_grows k s x e = by (parameters s) refl e
  where
    not_ok : {ts : Tokens} → ◌≡◌ {A = Read Function} (Err ts) (Ok x) → ⊥
    not_ok e = cc

    rest_is : (y : Function × State) → ◌≡◌ {A = Read Function} (Ok y) (Ok x) → y ≡ x
    rest_is y e = cc

    behind : (p : List Bytes × State) → parameters s ≡ Ok p → (z : Read Statement) → block_within k p.1 ≡ z → (z >>= λ y. Ok (function_of (p.0, y.0), y.1)) ≡ Ok x → length s.lambdas ≤ length x.1.lambdas
    behind p is (Err ts) has h = absurd (not_ok h)
    behind p is (Ok y) has h =
        let a : length s.lambdas ≤ length p.1.lambdas = part_grows (the_parameters (room k).inner) s p is in
        let b : length p.1.lambdas ≤ length y.1.lambdas = block_grows k p.1 y has in
        let l : length y.1.lambdas ≡ length x.1.lambdas = ap (λ (z : Function × State). length z.1.lambdas) (rest_is (function_of (p.0, y.0), y.1) h) in omega (arith, a, b, l)

    by : (z : Read (List Bytes)) → parameters s ≡ z → (z >>= λ p. block_within k p.1 >>= λ y. Ok (function_of (p.0, y.0), y.1)) ≡ Ok x → length s.lambdas ≤ length x.1.lambdas
    by (Err ts) is h = absurd (not_ok h)
    by (Ok p) is h = behind p is (block_within k p.1) refl h

-- ---- the whole

module _ (k : ℕ) where
  abbrev word : Token → Option (Making Spot)
  word = is_word (codes "function")

  abbrev made : State → Spot → Read Function → Read Expr
  made s w o = o >>= λ f. Ok (at w (Node.Lambda (suc (length s.lambdas))), filled (length s.lambdas) f.0 f.1)

  abbrev by_word : State → Read Spot → Read Expr
  by_word s o = o >>= λ w. made s w.0 (levels.function k (reserved w.1))

  abbrev with_params : List Bytes → Read Statement → Read (List Bytes × Statement)
  with_params p o = o >>= λ y. Ok (pair p y.0, y.1)

  abbrev as_function : List Bytes → Read Statement → Read Function
  as_function p o = o >>= λ y. Ok (function_of (p, y.0), y.1)

  abbrev by_params : Read (List Bytes) → Read (List Bytes × Statement)
  by_params o = o >>= λ p. with_params p.0 (block_within k p.1)

  abbrev by_function : Read (List Bytes) → Read Function
  by_function o = o >>= λ p. as_function p.0 (block_within k p.1)

  abbrev with_word : Spot → Read (List Bytes × Statement) → Read (Spot × (List Bytes × Statement))
  with_word w o = o >>= λ f. Ok (pair w f.0, f.1)

  abbrev finished : State → Read (Spot × (List Bytes × Statement)) → Read Expr
  finished s o = o >>= λ x. Ok (at x.0.0 (Node.Lambda (suc (length s.lambdas))), filled (length s.lambdas) (function_of x.0.1) x.1)

  abbrev whole : State → Read Spot → Read Expr
  whole s o = finished s (o >>= λ w. with_word w.0 (by_params (parameters w.1)))

  lambda_is : (s : State) → ltb 0 k ≡ true → levels.lambda k s ≡ by_word s (one word s)
  lambda_is s h = ap (λ (b : Bool). cond b (whole s (one word (reserved s))) (Err s.tokens)) h ∙ ap (whole s) (one_reserved 9 s) ∙ by (one word s)
    where
      block_is : (w : Spot) (p : List Bytes) (o : Read Statement) → finished s (with_word w (with_params p o)) ≡ made s w (as_function p o)
      block_is w p (Ok y) = refl
      block_is w p (Err ts) = refl

      params_is : (w : Spot) (o : Read (List Bytes)) → finished s (with_word w (by_params o)) ≡ made s w (by_function o)
      params_is w (Ok p) = block_is w p.0 (block_within k p.1)
      params_is w (Err ts) = refl

      by : (o : Read Spot) → whole s (reserve o) ≡ by_word s o
      by (Ok w) = params_is w.0 (parameters (reserved w.1))
      by (Err ts) = refl

  pub word_stops : (s : State) (e : Stop) (p : Parser) → ltb 0 k ≡ true → Stops e p (one word s) → Stops e p (levels.lambda k s)
  word_stops s stop.Memory p h is = tt
  word_stops s stop.Dead p h is = lambda_is s h ∙ ap (by_word s) is

  pub function_stops : (s : State) (w : Spot × State) (e : Stop) (p : Parser) → ltb 0 k ≡ true → one word s ≡ Ok w → Stops e p (levels.function k (reserved w.1)) → Stops e p (levels.lambda k s)
  function_stops s w stop.Memory p h is f = tt
  function_stops s w stop.Dead p h is f = lambda_is s h ∙ ap (by_word s) is ∙ ap (made s w.0) f

  pub lambda_ends : (s : State) (w : Spot × State) (f : Function × State) → ltb 0 k ≡ true → one word s ≡ Ok w → levels.function k (reserved w.1) ≡ Ok f
      → levels.lambda k s ≡ Ok (at w.0 (Node.Lambda (suc (length s.lambdas))), filled (length s.lambdas) f.0 f.1)
  lambda_ends s w f h is e = lambda_is s h ∙ ap (by_word s) is ∙ ap (made s w.0) e

  abbrev finished_at : Spot → Function × State → ℕ → List Function → Read Expr
  finished_at w f n ls = Ok (at w (Node.Lambda (suc n)), record { tokens = f.1.tokens; number = f.1.number; lambdas = ls })

  -- the whole, by the lists of lambdas before the function is read and after it
  pub lambda_reads : (s : State) (w : Spot × State) (placed : List Function) (f : Function × State) (n : ℕ) (after : List Function) → ltb 0 k ≡ true → one word s ≡ Ok w → placed ≡ w.1.lambdas ++ empty_function ∷ []
      → levels.function k (record { tokens = w.1.tokens; number = w.1.number; lambdas = placed }) ≡ Ok f → n ≡ length w.1.lambdas → after ≡ set f.1.lambdas n f.0
      → levels.lambda k s ≡ finished_at w.0 f n after
  lambda_reads s w placed f n after h is p e n_is after_is =
      let next : Next s w = one_next word s w is in
      let count : length s.lambdas ≡ n = sym (n_is ∙ ap length next.lambdas) in
      lambda_ends s w f h is (subst (λ (ls : List Function). levels.function k (record { tokens = w.1.tokens; number = w.1.number; lambdas = ls }) ≡ Ok f) p e)
      ∙ ap (λ (m : ℕ). finished_at w.0 f m (set f.1.lambdas m f.0)) count ∙ ap (finished_at w.0 f n) (sym after_is)

  -- reading stops within the function
  pub lambda_stops : (s : State) (w : Spot × State) (placed : List Function) (e : Stop) (p : Parser) → ltb 0 k ≡ true → one word s ≡ Ok w → placed ≡ w.1.lambdas ++ empty_function ∷ []
      → Stops e p (levels.function k (record { tokens = w.1.tokens; number = w.1.number; lambdas = placed })) → Stops e p (levels.lambda k s)
  lambda_stops s w placed e p h is same f =
      function_stops s w e p h is (subst (λ (ls : List Function). Stops e p (levels.function k (record { tokens = w.1.tokens; number = w.1.number; lambdas = ls }))) same f)
