-- Reading by loops: each turn takes a token at least, and what is still to be read does not depend on the bound.
use Rattle.std.proofs.Common.{◌≡◌, ℕ, zero, suc, ◌≤◌, ◌<◌, Bool, true, false, cond, List, [], ◌∷◌, ◌++◌, length, Option, Some, None, Result, Ok, Err, refl, sym, ap, subst, ◌∙◌, append_assoc, append-nil, arith}
use Rattle.jx9_syntax.specs.Grammar.{Rule, Spot, sign_code, is_sign, second}
use Rattle.jx9_syntax.specs.Making.{Making}
use Rattle.jx9_syntax.specs.declared.sign.Sign.{Sign}
use Rattle.jx9_syntax.specs.declared.sign.Sign.TheVariants as sign
use Rattle.jx9_syntax.specs.declared.token.Token.{Token}
use Rattle.jx9_parse.specs.Reading.{Tokens, State, Read, Reader, ◌>>=◌, next_in, one, one_of, one_told, before, map_read, then_read, many_within, many, guarded, behind_item, listed_within, listed}
use Rattle.jx9_parse.specs.Answers.{Stops}
use Rattle.jx9_parse.specs.declared.parser.Parser.{Parser}
use Rattle.jx9_parse.specs.declared.stop.Stop.{Stop}
use Rattle.jx9_parse.specs.declared.stop.Stop.TheVariants as stop
use Rattle.jx9_parse.proofs.Unplaced.{Found}
use Rattle.jx9_parse.proofs.Placed.{at_state}
use Rattle.jx9_parse.proofs.Parts.{Part, Guard}
use Rattle.jx9_parse.proofs.Lists.{part_shorter}
use Rattle.jx9_parse.proofs.Singles.{part_sign}

abbrev pub Shrinks : {A : Type 0} → Reader A → Type 0
Shrinks {A} r = (s : State) (x : A × State) → r s ≡ Ok x → length x.1.tokens < length s.tokens

ok_is : {A E : Type 0} (x y : A) → ◌≡◌ {A = Result A E} (Ok x) (Ok y) → x ≡ y
ok_is x y e = cc

not_ok : {A E : Type 0} (e : E) (y : A) → ◌≡◌ {A = Result A E} (Err e) (Ok y) → ⊥
not_ok e y h = cc

-- a part takes a token at least
pub part_shrinks : {A : Type 0} {L : Rule A} {ms bs : List ℕ} {r : Reader A} → Part L ms bs r → Shrinks r
part_shrinks {A} {L} {ms} {bs} {r} l s x e = by (l.reads s.tokens) refl (sym (l.runs s) ∙ e)
  where
    by : (o : Found (Making A)) → l.reads s.tokens ≡ o → at_state s o ≡ Ok x → length x.1.tokens < length s.tokens
    by (Ok y) is h = subst (λ (z : A × State). length z.1.tokens < length s.tokens) (ok_is _ x h) (part_shorter l s.tokens y is)
    by (Err ts) is h = absurd (not_ok ts x h)

pub guard_shrinks : {A : Type 0} {L : Rule A} {ms bs : List ℕ} {r : Reader A} (room : Bool) → Guard room L ms bs r → Shrinks (guarded room r)
guard_shrinks true l = part_shrinks (l.part refl)
guard_shrinks {A} false l = λ s x e. absurd (not_ok s.tokens x e)

-- ---- what takes a token at least

pub one_shrinks : {A : Type 0} (test : Token → Option (Making A)) → Shrinks (one test)
one_shrinks {A} test s x e = by s.tokens refl e
  where
    not_ok : {ts : Tokens} → ◌≡◌ {A = Read A} (Err ts) (Ok x) → ⊥
    not_ok e = cc

    rest_is : (y : A × State) → ◌≡◌ {A = Read A} (Ok y) (Ok x) → y ≡ x
    rest_is y e = cc

    told : (o : Option (Making A)) (t : Token) (ts : Tokens) → s.tokens ≡ t ∷ ts → one_told o s t ts ≡ Ok x → length x.1.tokens < length s.tokens
    told None t ts is h = absurd (not_ok h)
    told (Some m) t ts is h =
        let y : A × State = ((m s.number (suc (length s.lambdas))).made, record { tokens = ts; number = suc s.number; lambdas = s.lambdas }) in
        let l : length s.tokens ≡ suc (length ts) = ap length is in
        let d : length ts ≡ length x.1.tokens = ap (λ (z : A × State). length z.1.tokens) (rest_is y h) in omega (arith, l, d)

    by : (ts : Tokens) → s.tokens ≡ ts → one_of test s ts ≡ Ok x → length x.1.tokens < length s.tokens
    by [] is h = absurd (not_ok h)
    by (t ∷ ts) is h = told (test t) t ts is h

pub then_shrinks : {A B C : Type 0} (f : A → B → C) (r : Reader A) (q : Reader B) → Shrinks r → Shrinks q → Shrinks (then_read f r q)
then_shrinks {A} {B} {C} f r q p o s x e = by (r s) refl e
  where
    not_ok : {ts : Tokens} → ◌≡◌ {A = Read C} (Err ts) (Ok x) → ⊥
    not_ok e = cc

    rest_is : (y : C × State) → ◌≡◌ {A = Read C} (Ok y) (Ok x) → y ≡ x
    rest_is y e = cc

    behind : (a : A × State) → r s ≡ Ok a → (z : Read B) → q a.1 ≡ z → (z >>= λ y. Ok (f a.0 y.0, y.1)) ≡ Ok x → length x.1.tokens < length s.tokens
    behind a is (Err ts) has h = absurd (not_ok h)
    behind a is (Ok y) has h =
        let d : length a.1.tokens < length s.tokens = p s a is in
        let g : length y.1.tokens < length a.1.tokens = o a.1 y has in
        let l : length y.1.tokens ≡ length x.1.tokens = ap (λ (z : C × State). length z.1.tokens) (rest_is (f a.0 y.0, y.1) h) in omega (arith, d, g, l)

    by : (z : Read A) → r s ≡ z → (z >>= λ a. q a.1 >>= λ y. Ok (f a.0 y.0, y.1)) ≡ Ok x → length x.1.tokens < length s.tokens
    by (Err ts) is h = absurd (not_ok h)
    by (Ok a) is h = behind a is (q a.1) refl h

pub map_shrinks : {A B : Type 0} (f : A → B) (r : Reader A) → Shrinks r → Shrinks (map_read f r)
map_shrinks {A} {B} f r p s x e = by (r s) refl e
  where
    not_ok : {ts : Tokens} → ◌≡◌ {A = Read B} (Err ts) (Ok x) → ⊥
    not_ok e = cc

    rest_is : (y : B × State) → ◌≡◌ {A = Read B} (Ok y) (Ok x) → y ≡ x
    rest_is y e = cc

    by : (z : Read A) → r s ≡ z → (z >>= λ a. Ok (f a.0, a.1)) ≡ Ok x → length x.1.tokens < length s.tokens
    by (Err ts) is h = absurd (not_ok h)
    by (Ok a) is h =
        let d : length a.1.tokens < length s.tokens = p s a is in
        let l : length a.1.tokens ≡ length x.1.tokens = ap (λ (z : B × State). length z.1.tokens) (rest_is (f a.0, a.1) h) in omega (arith, d, l)

pub guarded_shrinks : {A : Type 0} (room : Bool) (r : Reader A) → Shrinks r → Shrinks (guarded room r)
guarded_shrinks true r p = p
guarded_shrinks {A} false r p = λ s x e. absurd (not_ok s.tokens x e)

-- ---- what was read before, and what is still read

abbrev pub with_front : {A : Type 0} → List A → Read (List A) → Read (List A)
with_front front read = read >>= λ x. Ok (front ++ x.0, x.1)

abbrev behind_one : {A : Type 0} → A → Read (List A) → Read (List A)
behind_one a read = read >>= λ y. Ok (a ∷ y.0, y.1)

abbrev chained : {A B : Type 0} → (A → List B → List B) → Read A → (State → Read (List B)) → Read (List B)
chained f o rest = o >>= λ x. rest x.1 >>= λ y. Ok (f x.0 y.0, y.1)

regroup : {A : Type 0} (front : List A) (a : A) (read : Read (List A)) → with_front front (behind_one a read) ≡ with_front (front ++ a ∷ []) read
regroup front a (Ok x) = ap (λ (w : List _). Ok (w, x.1)) (sym (append_assoc front (a ∷ []) x.0))
regroup front a (Err ts) = refl

pub front_none : {A : Type 0} (read : Read (List A)) → with_front [] read ≡ read
front_none (Ok x) = refl
front_none (Err ts) = refl

module _ {A : Type 0} (cs : List ℕ) (r : Reader A) (shrinks : Shrinks r) where
  abbrev turn : (State → Read (List A)) → State → Read (List A)
  turn rest s = r s >>= λ x. rest x.1 >>= λ y. Ok (x.0 ∷ y.0, y.1)

  same_turn : (p q : State → Read (List A)) (s : State) → ((x : A × State) → r s ≡ Ok x → p x.1 ≡ q x.1) → turn p s ≡ turn q s
  same_turn p q s same = by (r s) refl
    where
      by : (o : Read A) → r s ≡ o → chained ◌∷◌ o p ≡ chained ◌∷◌ o q
      by (Ok x) e = ap (λ (z : Read (List A)). behind_one x.0 z) (same x e)
      by (Err ts) e = refl

  many_fuel : (n m : ℕ) (s : State) → length s.tokens ≤ n → length s.tokens ≤ m → many_within cs r n s ≡ many_within cs r m s
  many_fuel zero zero s h g = refl
  many_fuel zero (suc m) s h g = at_end s.tokens refl h
    where
      at_end : (ts : Tokens) → s.tokens ≡ ts → length s.tokens ≤ 0 → many_within cs r zero s ≡ many_within cs r (suc m) s
      at_end [] e h = ap (λ (b : Bool). cond b (turn (many_within cs r m) s) (Ok ([], s))) (sym (ap (λ (ts : Tokens). next_in cs ts) e))
      at_end (t ∷ ts) e h = let l : length s.tokens ≡ length (t ∷ ts) = ap length e in absurd (omega (arith, l, h))
  many_fuel (suc n) zero s h g = sym (at_end s.tokens refl g)
    where
      at_end : (ts : Tokens) → s.tokens ≡ ts → length s.tokens ≤ 0 → many_within cs r zero s ≡ many_within cs r (suc n) s
      at_end [] e h = ap (λ (b : Bool). cond b (turn (many_within cs r n) s) (Ok ([], s))) (sym (ap (λ (ts : Tokens). next_in cs ts) e))
      at_end (t ∷ ts) e h = let l : length s.tokens ≡ length (t ∷ ts) = ap length e in absurd (omega (arith, l, h))
  many_fuel (suc n) (suc m) s h g = ap (λ (z : Read (List A)). cond (next_in cs s.tokens) z (Ok ([], s)))
      (same_turn (many_within cs r n) (many_within cs r m) s (λ x e. let d : length x.1.tokens < length s.tokens = shrinks s x e in many_fuel n m x.1 (omega (arith, d, h)) (omega (arith, d, g))))

  -- the loop ends
  pub many_done : (s : State) → next_in cs s.tokens ≡ false → many cs r s ≡ Ok ([], s)
  many_done s e = by (length s.tokens)
    where
      by : (n : ℕ) → many_within cs r n s ≡ Ok ([], s)
      by zero = refl
      by (suc n) = ap (λ (b : Bool). cond b (turn (many_within cs r n) s) (Ok ([], s))) e

  many_turn : (s : State) (x : A × State) → next_in cs s.tokens ≡ true → r s ≡ Ok x → many cs r s ≡ behind_one x.0 (many cs r x.1)
  many_turn s x e is =
      let d : length x.1.tokens < length s.tokens = shrinks s x is in
      many_fuel (length s.tokens) (suc (length s.tokens)) s (omega arith) (omega arith)
      ∙ ap (λ (b : Bool). cond b (turn (many_within cs r (length s.tokens)) s) (Ok ([], s))) e
      ∙ ap (λ (o : Read A). chained ◌∷◌ o (many_within cs r (length s.tokens))) is
      ∙ ap (behind_one x.0) (many_fuel (length s.tokens) (length x.1.tokens) x.1 (omega (arith, d)) (omega arith))

  pub many_is : (s : State) → next_in cs s.tokens ≡ true → many cs r s ≡ turn (many cs r) s
  many_is s e = many_fuel (length s.tokens) (suc (length s.tokens)) s (omega arith) (omega arith)
      ∙ ap (λ (b : Bool). cond b (turn (many_within cs r (length s.tokens)) s) (Ok ([], s))) e
      ∙ same_turn (many_within cs r (length s.tokens)) (many cs r) s (λ x is. let d : length x.1.tokens < length s.tokens = shrinks s x is in many_fuel (length s.tokens) (length x.1.tokens) x.1 (omega (arith, d)) (omega arith))

  -- the loop stops within a turn
  pub many_stops : (front : List A) (s : State) (total : Read (List A)) (e : Stop) (p : Parser) → next_in cs s.tokens ≡ true → Stops e p (r s) → with_front front (many cs r s) ≡ total → Stops e p total
  many_stops front s total stop.Memory p next h so_far = tt
  many_stops front s total stop.Dead p next h so_far = sym so_far ∙ ap (with_front front) (many_is s next ∙ ap (λ (o : Read A). chained ◌∷◌ o (many cs r)) h)

  -- the loop ends
  pub many_ends : (front : List A) (s : State) (total : Read (List A)) → next_in cs s.tokens ≡ false → with_front front (many cs r s) ≡ total → total ≡ Ok (front, s)
  many_ends front s total e so_far = sym so_far ∙ ap (with_front front) (many_done s e) ∙ ap (λ (w : List A). Ok (w, s)) (append-nil front)

  -- the loop goes on
  pub many_goes_on : (front : List A) (s : State) (x : A × State) (total : Read (List A)) → next_in cs s.tokens ≡ true → r s ≡ Ok x → with_front front (many cs r s) ≡ total → with_front (front ++ x.0 ∷ []) (many cs r x.1) ≡ total
  many_goes_on front s x total e is so_far = sym (regroup front x.0 (many cs r x.1)) ∙ sym (ap (with_front front) (many_turn s x e is)) ∙ so_far

-- ---- items to a closing sign

module _ {A : Type 0} (close : Sign) (r : Reader A) (shrinks : Shrinks r) where
  abbrev comma_then : (State → Read (List A)) → State → Read (List A)
  comma_then q s = behind_item close q s

  comma_shrinks : Shrinks (one (is_sign sign.Comma))
  comma_shrinks = part_shrinks (part_sign sign.Comma)

  same_behind : (p q : State → Read (List A)) (s : State) → ((u : State) → length u.tokens < length s.tokens → p u ≡ q u) → comma_then p s ≡ comma_then q s
  same_behind p q s same = ap (λ (z : Read (List A)). cond (next_in (33 ∷ []) s.tokens) z (map_read (λ s. []) (one (is_sign close)) s)) (by (one (is_sign sign.Comma) s) refl)
    where
      by : (o : Read Spot) → one (is_sign sign.Comma) s ≡ o → chained second o p ≡ chained second o q
      by (Ok x) e = ap (λ (z : Read (List A)). z >>= λ y. Ok (second x.0 y.0, y.1)) (same x.1 (comma_shrinks s x e))
      by (Err ts) e = refl

  abbrev items_turn : (State → Read (List A)) → State → Read (List A)
  items_turn q s = r s >>= λ x. comma_then q x.1 >>= λ y. Ok (x.0 ∷ y.0, y.1)

  same_items : (p q : State → Read (List A)) (s : State) → ((u : State) → length u.tokens < length s.tokens → p u ≡ q u) → items_turn p s ≡ items_turn q s
  same_items p q s same = by (r s) refl
    where
      by : (o : Read A) → r s ≡ o → chained ◌∷◌ o (comma_then p) ≡ chained ◌∷◌ o (comma_then q)
      by (Ok x) e = let d : length x.1.tokens < length s.tokens = shrinks s x e in ap (λ (z : Read (List A)). behind_one x.0 z) (same_behind p q x.1 (λ u lt. same u (omega (arith, lt, d))))
      by (Err ts) e = refl

  listed_fuel : (n m : ℕ) (s : State) → length s.tokens < n → length s.tokens < m → listed_within close r n s ≡ listed_within close r m s
  listed_fuel zero m s h g = absurd (omega (arith, h))
  listed_fuel (suc n) zero s h g = absurd (omega (arith, g))
  listed_fuel (suc n) (suc m) s h g = ap (λ (z : Read (List A)). cond (next_in (sign_code close ∷ []) s.tokens) (map_read (λ s. []) (one (is_sign close)) s) z)
      (same_items (listed_within close r n) (listed_within close r m) s (λ u lt. listed_fuel n m u (omega (arith, lt, h)) (omega (arith, lt, g))))

  -- the closing sign is next
  pub listed_done : (s : State) → next_in (sign_code close ∷ []) s.tokens ≡ true → listed close r s ≡ map_read (λ s. []) (one (is_sign close)) s
  listed_done s e = ap (λ (b : Bool). cond b (map_read (λ s. []) (one (is_sign close)) s) (items_turn (listed_within close r (length s.tokens)) s)) e

  -- an item is read, and no comma is behind it
  pub listed_last : (s : State) (x : A × State) → next_in (sign_code close ∷ []) s.tokens ≡ false → r s ≡ Ok x → next_in (33 ∷ []) x.1.tokens ≡ false → listed close r s ≡ behind_one x.0 (map_read (λ s. []) (one (is_sign close)) x.1)
  listed_last s x e is no_comma = ap (λ (b : Bool). cond b (map_read (λ s. []) (one (is_sign close)) s) (items_turn (listed_within close r (length s.tokens)) s)) e
      ∙ ap (λ (o : Read A). chained ◌∷◌ o (comma_then (listed_within close r (length s.tokens)))) is
      ∙ ap (λ (b : Bool). behind_one x.0 (cond b (before (is_sign sign.Comma) (listed_within close r (length s.tokens)) x.1) (map_read (λ s. []) (one (is_sign close)) x.1))) no_comma

  -- an item and a comma are read
  pub listed_turn : (s : State) (x : A × State) (y : Spot × State) → next_in (sign_code close ∷ []) s.tokens ≡ false → r s ≡ Ok x → next_in (33 ∷ []) x.1.tokens ≡ true → one (is_sign sign.Comma) x.1 ≡ Ok y → listed close r s ≡ behind_one x.0 (listed close r y.1)
  listed_turn s x y e is comma sign_is =
      let d : length x.1.tokens < length s.tokens = shrinks s x is in
      let f : length y.1.tokens < length x.1.tokens = comma_shrinks x.1 y sign_is in
      ap (λ (b : Bool). cond b (map_read (λ s. []) (one (is_sign close)) s) (items_turn (listed_within close r (length s.tokens)) s)) e
      ∙ ap (λ (o : Read A). chained ◌∷◌ o (comma_then (listed_within close r (length s.tokens)))) is
      ∙ ap (λ (b : Bool). behind_one x.0 (cond b (before (is_sign sign.Comma) (listed_within close r (length s.tokens)) x.1) (map_read (λ s. []) (one (is_sign close)) x.1))) comma
      ∙ ap (λ (o : Read Spot). behind_one x.0 (chained second o (listed_within close r (length s.tokens)))) sign_is
      ∙ ap (behind_one x.0) (same_id (listed_within close r (length s.tokens) y.1) ∙ listed_fuel (length s.tokens) (suc (length y.1.tokens)) y.1 (omega (arith, d, f)) (omega arith))
    where
      same_id : (o : Read (List A)) → (o >>= λ w. Ok (second y.0 w.0, w.1)) ≡ o
      same_id (Ok w) = refl
      same_id (Err ts) = refl

  pub listed_goes_on : (front : List A) (s : State) (x : A × State) (y : Spot × State) (total : Read (List A)) → next_in (sign_code close ∷ []) s.tokens ≡ false → r s ≡ Ok x → next_in (33 ∷ []) x.1.tokens ≡ true
      → one (is_sign sign.Comma) x.1 ≡ Ok y → with_front front (listed close r s) ≡ total → with_front (front ++ x.0 ∷ []) (listed close r y.1) ≡ total
  listed_goes_on front s x y total e is comma sign_is so_far = sym (regroup front x.0 (listed close r y.1)) ∙ sym (ap (with_front front) (listed_turn s x y e is comma sign_is)) ∙ so_far

  listed_is : (s : State) → next_in (sign_code close ∷ []) s.tokens ≡ false → listed close r s ≡ items_turn (listed close r) s
  listed_is s e = ap (λ (b : Bool). cond b (map_read (λ s. []) (one (is_sign close)) s) (items_turn (listed_within close r (length s.tokens)) s)) e
      ∙ same_items (listed_within close r (length s.tokens)) (listed close r) s (λ u lt. listed_fuel (length s.tokens) (suc (length u.tokens)) u (omega (arith, lt)) (omega arith))

  abbrev closed : Read Spot → Read (List A)
  closed o = o >>= λ c. Ok ([], c.1)

  -- reading stops within an item
  pub item_stops : (front : List A) (s : State) (total : Read (List A)) (e : Stop) (p : Parser) → next_in (sign_code close ∷ []) s.tokens ≡ false → Stops e p (r s) → with_front front (listed close r s) ≡ total → Stops e p total
  item_stops front s total stop.Memory p next h so_far = tt
  item_stops front s total stop.Dead p next h so_far = sym so_far ∙ ap (with_front front) (listed_is s next ∙ ap (λ (o : Read A). chained ◌∷◌ o (comma_then (listed close r))) h)

  last_is : (s : State) (x : A × State) → next_in (sign_code close ∷ []) s.tokens ≡ false → r s ≡ Ok x → next_in (33 ∷ []) x.1.tokens ≡ false → listed close r s ≡ behind_one x.0 (closed (one (is_sign close) x.1))
  last_is = listed_last

  -- at the closing sign behind an item that has no comma
  pub last_stops : (front : List A) (s : State) (x : A × State) (total : Read (List A)) (e : Stop) (p : Parser) → next_in (sign_code close ∷ []) s.tokens ≡ false → r s ≡ Ok x → next_in (33 ∷ []) x.1.tokens ≡ false
      → Stops e p (one (is_sign close) x.1) → with_front front (listed close r s) ≡ total → Stops e p total
  last_stops front s x total stop.Memory p next is no_comma h so_far = tt
  last_stops front s x total stop.Dead p next is no_comma h so_far = sym so_far ∙ ap (with_front front) (last_is s x next is no_comma ∙ ap (λ (o : Read Spot). behind_one x.0 (closed o)) h)

  pub last_ends : (front : List A) (s : State) (x : A × State) (y : Spot × State) (total : Read (List A)) → next_in (sign_code close ∷ []) s.tokens ≡ false → r s ≡ Ok x → next_in (33 ∷ []) x.1.tokens ≡ false
      → one (is_sign close) x.1 ≡ Ok y → with_front front (listed close r s) ≡ total → total ≡ Ok (front ++ x.0 ∷ [], y.1)
  last_ends front s x y total next is no_comma h so_far = sym so_far ∙ ap (with_front front) (last_is s x next is no_comma ∙ ap (λ (o : Read Spot). behind_one x.0 (closed o)) h)

  -- within a comma
  pub comma_stops : (front : List A) (s : State) (x : A × State) (total : Read (List A)) (e : Stop) (p : Parser) → next_in (sign_code close ∷ []) s.tokens ≡ false → r s ≡ Ok x → next_in (33 ∷ []) x.1.tokens ≡ true
      → Stops e p (one (is_sign sign.Comma) x.1) → with_front front (listed close r s) ≡ total → Stops e p total
  comma_stops front s x total stop.Memory p next is comma h so_far = tt
  comma_stops front s x total stop.Dead p next is comma h so_far = sym so_far ∙ ap (with_front front) (listed_is s next ∙ ap (λ (o : Read A). chained ◌∷◌ o (comma_then (listed close r))) is
      ∙ ap (λ (b : Bool). behind_one x.0 (cond b (before (is_sign sign.Comma) (listed close r) x.1) (map_read (λ s. []) (one (is_sign close)) x.1))) comma
      ∙ ap (λ (o : Read Spot). behind_one x.0 (chained second o (listed close r))) h)

  -- at the closing sign, with no item before it
  pub close_stops : (front : List A) (s : State) (total : Read (List A)) (e : Stop) (p : Parser) → next_in (sign_code close ∷ []) s.tokens ≡ true → Stops e p (one (is_sign close) s) → with_front front (listed close r s) ≡ total → Stops e p total
  close_stops front s total stop.Memory p next h so_far = tt
  close_stops front s total stop.Dead p next h so_far = sym so_far ∙ ap (with_front front) (listed_done s next ∙ ap closed h)

  pub close_ends : (front : List A) (s : State) (y : Spot × State) (total : Read (List A)) → next_in (sign_code close ∷ []) s.tokens ≡ true → one (is_sign close) s ≡ Ok y → with_front front (listed close r s) ≡ total → total ≡ Ok (front, y.1)
  close_ends front s y total next h so_far = sym so_far ∙ ap (with_front front) (listed_done s next ∙ ap closed h) ∙ ap (λ (w : List A). Ok (w, y.1)) (append-nil front)
