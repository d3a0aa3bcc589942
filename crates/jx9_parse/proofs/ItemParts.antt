-- Definitions and statements, of which both may begin with the word `function`.
use Rattle.std.proofs.Common.{◌≡◌, ℕ, suc, Bool, true, false, cond, eqb, ltb, ◌⊎◌, inl, inr, List, [], ◌∷◌, ◌++◌, codes, Ok, Err, refl, sym, ap, subst, ◌∙◌, append-nil, arith}
use Rattle.std.proofs.lemmas.Bool.{eqb-true, eq-eqb}
use Rattle.jx9_syntax.specs.Grammar.{code, Rule, Repeat, spot, is_sign, is_word, first, pair, expr_statement, named_of, Statements, IsDefinition, IsItem, definition, statement, Item, Define, Run, AnyOf, ExprWithin, BlockWithin, StatementWithin, simple, of_expr}
use Rattle.jx9_syntax.specs.Making.{Making, mapped, then_made}
use Rattle.jx9_syntax.specs.Words.{One, Map}
use Rattle.jx9_syntax.specs.declared.expression.Expr.{Expr}
use Rattle.jx9_syntax.specs.declared.sign.Sign.TheVariants as sign
use Rattle.jx9_syntax.specs.declared.statement.Statement.{Statement}
use Rattle.jx9_syntax.specs.declared.token.Token.{Token}
use Rattle.jx9_parse.specs.Reading.{Tokens, Reader, member, next_in, one, map_read}
use Rattle.jx9_parse.specs.Expressions.{expr_begins}
use Rattle.jx9_parse.specs.Statements.{statement_begins}
use Rattle.jx9_parse.specs.Rooms.{expr_within, statement_within}
use Rattle.jx9_parse.specs.Items.{defines}
use Rattle.jx9_parse.specs.Items as reading
use Rattle.jx9_parse.proofs.Unplaced.{Found}
use Rattle.jx9_parse.proofs.Laws.{SameNext, Off, Told, told_chosen}
use Rattle.jx9_parse.proofs.Sets.{In, Begin, NotIn, within, apart_no, begin_as, within_in, off, begins_as, false_true}
use Rattle.jx9_parse.proofs.Parts.{Part, Tail, Or, cond_runs, part_then, part_map, part_as}
use Rattle.jx9_parse.proofs.Singles.{part_sign, part_word, part_name}
use Rattle.jx9_parse.proofs.Opens.{else_words, part_any}
use Rattle.jx9_parse.proofs.StatementLaws.{Within, SimpleCases, StatementCases, OfStatement, from_statement, from_simple, the_statement}
use Rattle.jx9_parse.proofs.ItemLaws.{Second, second_front, one_begin, front_begin, not_function, expr_second, some_lambda, one_function}
use Rattle.jx9_parse.proofs.Repeats.{tail_many}
use Rattle.jx9_parse.proofs.RoomLaws.{Room, ExprOver, expr_over, within_of}
use Rattle.jx9_parse.proofs.Unaries.{the_parameters}

module _ {inside : Bool} {X E : Rule Expr} {S : Statements} {expression inner : Reader Expr} {statement_reader : Reader Statement} (i : Within inside X E S expression inner statement_reader)
    (second : (w : Tokens) (m : Making Expr) → X w m → Begin (9 ∷ []) w → Second (10 ∷ []) w) where
  simple_second : (w : Tokens) (m : Making Statement) → SimpleCases i w m → Begin (9 ∷ []) w → Second (10 ∷ []) w
  simple_second w m (inl is) f = absurd (one_begin (20 ∷ []) (9 ∷ []) refl w ((part_sign sign.Semicolon).starts w is.value is.is_word) f)
  simple_second w m (inr (inl is)) f = not_function (21 ∷ []) refl w is.front is.back is.parts ((part_word 21 (codes "print") refl).starts is.front is.left is.is_left) f
  simple_second w m (inr (inr (inl is))) f = not_function (26 ∷ []) refl w is.front is.back is.parts ((part_word 26 (codes "return") refl).starts is.front is.left is.is_left) f
  simple_second w m (inr (inr (inr (inl is)))) f = let l = is.is_word in not_function (27 ∷ []) refl w l.front l.back l.parts ((part_word 27 (codes "break") refl).starts l.front l.left l.is_left) f
  simple_second w m (inr (inr (inr (inr (inl is))))) f = let l = is.is_word in not_function (28 ∷ []) refl w l.front l.back l.parts ((part_word 28 (codes "continue") refl).starts l.front l.left l.is_left) f
  simple_second w m (inr (inr (inr (inr (inr (inl is)))))) f = not_function (12 ∷ []) refl w is.front is.back is.parts ((part_sign sign.OpenBrace).starts is.front is.left is.is_left) f
  simple_second w m (inr (inr (inr (inr (inr (inr is)))))) f = let l = is.1.is_word in
      second_front (10 ∷ []) w l.front l.back l.parts (second l.front l.left l.is_left (front_begin expr_begins (9 ∷ []) w l.front l.back l.parts (i.an_expr.starts l.front l.left l.is_left) f))

  cases_second : (is_open : Bool) (w : Tokens) (m : Making Statement) → StatementCases i is_open w m → Begin (9 ∷ []) w → Second (10 ∷ []) w
  cases_second is_open w m (inl is) f = not_function (22 ∷ []) refl w is.front is.back is.parts ((part_word 22 (codes "if") refl).starts is.front is.left is.is_left) f
  cases_second is_open w m (inr (inl is)) f = not_function (23 ∷ []) refl w is.front is.back is.parts ((part_word 23 (codes "while") refl).starts is.front is.left is.is_left) f
  cases_second is_open w m (inr (inr (inl is))) f = not_function (24 ∷ []) refl w is.front is.back is.parts ((part_word 24 (codes "for") refl).starts is.front is.left is.is_left) f
  cases_second is_open w m (inr (inr (inr (inl is)))) f = not_function (25 ∷ []) refl w is.front is.back is.parts ((part_word 25 (codes "foreach") refl).starts is.front is.left is.is_left) f
  cases_second is_open w m (inr (inr (inr (inr is)))) f = simple_second w m (from_simple i w m is.1) f

  -- a statement that begins with `function` has `(` behind it
  pub statement_second : (is_open : Bool) (w : Tokens) (m : Making Statement) → OfStatement i is_open w m → Begin (9 ∷ []) w → Second (10 ∷ []) w
  statement_second is_open w m is f = cases_second is_open w m (from_statement i is_open w m is) f

  -- with one such expression there is one such statement
  pub some_statement : (t : Token) → code t ≡ 9 → (w : Tokens) × (m : Making Expr) × X (t ∷ w) m → (w : Tokens) × (m : Making Statement) × OfStatement i false (t ∷ w) m
  some_statement t e x = let s = semicolon.some in (
    x.0 ++ s.0,
    mapped expr_statement (then_made first x.1 s.1),
    simple refl (of_expr (λ c. twelve (sym e ∙ c))
        (record { value = then_made first x.1 s.1; is_word = record { front = t ∷ x.0; back = s.0; left = x.1; right = s.1; parts = refl; is_left = x.2; is_right = s.2; is_value = refl }; is_value = refl })),
  )
    where
      semicolon : Part (One (is_sign sign.Semicolon)) [] (20 ∷ []) (one (is_sign sign.Semicolon))
      semicolon = part_sign sign.Semicolon

      twelve : ◌≡◌ {A = ℕ} 9 12 → ⊥
      twelve e = omega (arith, e)

-- ---- a choice by two tokens

name_next : (ts : Tokens) → next_in (8 ∷ []) ts ≡ true → (u : Token) × (more : Tokens) × (ts ≡ u ∷ more) × In (8 ∷ []) u
name_next [] e = absurd (false_true e)
name_next (u ∷ ts) e = (u, ts, refl, e)

true_of : (b : Bool) → cond b true false ≡ true → b ≡ true
true_of true h = refl
true_of false h = h

within_more : (c : ℕ) (cs ds : List ℕ) → within cs ds ≡ true → within cs (c ∷ ds) ≡ true
within_more c [] ds h = refl
within_more c (d ∷ cs) ds h = by (eqb d c) (member d ds) h (λ g. within_more c cs ds g)
  where
    by : (a b : Bool) → cond b (within cs ds) false ≡ true → (within cs ds ≡ true → within cs (c ∷ ds) ≡ true) → cond (cond a true b) (within cs (c ∷ ds)) false ≡ true
    by true true h g = g h
    by true false h g = absurd (false_true h)
    by false true h g = g h
    by false false h g = absurd (false_true h)

within_self : (cs : List ℕ) → within cs cs ≡ true
within_self [] = refl
within_self (c ∷ cs) = by (eqb c c) (eq-eqb c c refl) (within_more c cs cs (within_self cs))
  where
    by : (a : Bool) → a ≡ true → within cs (c ∷ cs) ≡ true → cond (cond a true (member c cs)) (within cs (c ∷ cs)) false ≡ true
    by true e g = g
    by false e g = absurd (false_true e)

-- with two tokens next and both seen, any word that goes on so begins with both
same_two : (t u : Token) (more seen rest x w v : Tokens) → t ∷ (u ∷ more) ≡ seen ++ rest → (seen ≡ [] → ⊥) → SameNext rest x → seen ++ x ≡ w ++ v → (a b : Token) (others : Tokens) → w ≡ a ∷ (b ∷ others) → (a ≡ t) × (b ≡ u)
same_two t u more [] rest x w v split some same eq a b others e = absurd (some refl)
same_two t u more (s ∷ []) [] x w v split some same eq a b others e = absurd (by split)
  where
    by : t ∷ (u ∷ more) ≡ s ∷ [] → ⊥
    by e = cc
same_two t u more (s ∷ []) (r ∷ rest) [] w v split some same eq a b others e = absurd same
same_two t u more (s ∷ []) (r ∷ rest) (y ∷ x) w v split some same eq a b others e = by split (eq ∙ ap (λ (z : Tokens). z ++ v) e) same
  where
    by : t ∷ (u ∷ more) ≡ s ∷ (r ∷ rest) → s ∷ (y ∷ x) ≡ a ∷ (b ∷ (others ++ v)) → r ≡ y → (a ≡ t) × (b ≡ u)
    by e f g = (cc, cc)
same_two t u more (s ∷ (r ∷ seen)) rest x w v split some same eq a b others e = by split (eq ∙ ap (λ (z : Tokens). z ++ v) e)
  where
    by : t ∷ (u ∷ more) ≡ s ∷ (r ∷ (seen ++ rest)) → s ∷ (r ∷ (seen ++ x)) ≡ a ∷ (b ∷ (others ++ v)) → (a ≡ t) × (b ≡ u)
    by e f = (cc, cc)

-- where one is next alone
same_one : (t : Token) (ts seen rest x w v : Tokens) → t ∷ ts ≡ seen ++ rest → SameNext rest x → seen ++ x ≡ w ++ v → (a : Token) (others : Tokens) → w ≡ a ∷ others → a ≡ t
same_one t ts [] [] x w v split same eq a others e = absurd (by split)
  where
    by : t ∷ ts ≡ [] → ⊥
    by e = cc
same_one t ts [] (r ∷ rest) [] w v split same eq a others e = absurd same
same_one t ts [] (r ∷ rest) (y ∷ x) w v split same eq a others e = by split (eq ∙ ap (λ (z : Tokens). z ++ v) e) same
  where
    by : t ∷ ts ≡ r ∷ rest → y ∷ x ≡ a ∷ (others ++ v) → r ≡ y → a ≡ t
    by e f g = cc
same_one t ts (s ∷ seen) rest x w v split same eq a others e = by split (eq ∙ ap (λ (z : Tokens). z ++ v) e)
  where
    by : t ∷ ts ≡ s ∷ (seen ++ rest) → s ∷ (seen ++ x) ≡ a ∷ (others ++ v) → a ≡ t
    by e f = cc

-- what reading tells of a rule K, where all words of K that can stand here are of L
told_alone : {A : Type 0} (L K : Rule A) (ns ms : List ℕ) (ts : Tokens) (o : Found (Making A)) → ((w : Tokens) (m : Making A) → L w m → K w m) → within ns ms ≡ true → ((m : Making A) → L [] m → ⊥) → (w : Tokens) × (m : Making A) × SameNext ts w × L w m
    → ((seen rest x u v : Tokens) (m : Making A) → ts ≡ seen ++ rest → (seen ≡ [] → ⊥) → SameNext rest x → seen ++ x ≡ u ++ v → K u m → L u m) → Told L (λ _. In ns) ts o → Told K (λ _. In ms) ts o
told_alone {A} L K ns ms ts (Ok y) into wider full some one_of told = record {
  used = told.used;
  split = told.split;
  reads = into told.used y.0 told.reads;
  only = λ x u v b same eq word. elim (told.only x u v b same eq (one_of told.used y.1 x u v b told.split (λ e. full y.0 (subst (λ (w : Tokens). L w y.0) e told.reads)) same eq word)) [
    | inl far ↦ inl (begins_as ns ms (within_in ns ms wider) v far)
    | inr all ↦ inr all
  ];
}
told_alone {A} L K ns ms ts (Err rest) into wider full some one_of told = record {
  seen = told.seen;
  split = told.split;
  open_end = let o = told.open_end in (o.0, o.1, into (told.seen ++ o.0) o.1 o.2);
  dead = λ x u v b same eq word. begins_as ns ms (within_in ns ms wider) v (told.dead x u v b same eq (one_of told.seen rest x u v b told.split seen_some same eq word));
}
  where
    seen_some : told.seen ≡ [] → ⊥
    seen_some e =
        let r : ts ≡ rest = told.split ∙ ap (λ (w : Tokens). w ++ rest) e in
        told.dead some.0 some.0 [] some.1 (subst (λ (w : Tokens). SameNext w some.0) r some.2) (ap (λ (w : Tokens). w ++ some.0) e ∙ sym (append-nil some.0)) some.3

no_two : (t : Token) (seen rest x w v : Tokens) → t ∷ [] ≡ seen ++ rest → (seen ≡ [] → ⊥) → SameNext rest x → seen ++ x ≡ w ++ v → (a b : Token) (others : Tokens) → w ≡ a ∷ (b ∷ others) → ⊥
no_two t [] rest x w v split some same eq a b others e = some refl
no_two t (s ∷ []) [] [] w v split some same eq a b others e = by (eq ∙ ap (λ (z : Tokens). z ++ v) e)
  where
    by : s ∷ [] ≡ a ∷ (b ∷ (others ++ v)) → ⊥
    by f = cc
no_two t (s ∷ []) [] (y ∷ x) w v split some same eq a b others e = same
no_two t (s ∷ []) (r ∷ rest) x w v split some same eq a b others e = by split
  where
    by : t ∷ [] ≡ s ∷ (r ∷ rest) → ⊥
    by f = cc
no_two t (s ∷ (r ∷ seen)) rest x w v split some same eq a b others e = by split
  where
    by : t ∷ [] ≡ s ∷ (r ∷ (seen ++ rest)) → ⊥
    by f = cc

module _ {A : Type 0} (D S : Rule A) (ms begins : List ℕ) (d_begins : (w : Tokens) (m : Making A) → D w m → Begin (9 ∷ []) w) (d_second : (w : Tokens) (m : Making A) → D w m → Second (8 ∷ []) w)
    (s_begins : (w : Tokens) (m : Making A) → S w m → Begin begins w) (s_second : (w : Tokens) (m : Making A) → S w m → Begin (9 ∷ []) w → Second (10 ∷ []) w)
    (some_d : (t : Token) → code t ≡ 9 → (w : Tokens) × (m : Making A) × D (t ∷ w) m) (some_s : (t : Token) → code t ≡ 9 → (w : Tokens) × (m : Making A) × S (t ∷ w) m) where
  not_empty : (t : Token) (ts : Tokens) → [] ≡ t ∷ ts → ⊥
  not_empty t ts e = cc

  eight_ten : (u : Token) → In (8 ∷ []) u → In (10 ∷ []) u → ⊥
  eight_ten u i j = apart_no (8 ∷ []) (10 ∷ []) refl (code u) i j

  -- `function NAME` is next
  told_definition : (t u : Token) (more : Tokens) → code t ≡ 9 → In (8 ∷ []) u → (o : Found (Making A)) → Told D (λ _. In []) (t ∷ (u ∷ more)) o → Told (Or D S) (λ _. In ms) (t ∷ (u ∷ more)) o
  told_definition t u more e f o told = told_alone D (Or D S) [] ms (t ∷ (u ∷ more)) o (λ w m is. inl is) refl (λ m is. let b = d_begins [] m is in not_empty b.0 b.1 b.2)
      (let z = some_d t e in (t ∷ z.0, z.1, refl, z.2)) one_of told
    where
      no_s : (seen rest x w v : Tokens) (m : Making A) → t ∷ (u ∷ more) ≡ seen ++ rest → (seen ≡ [] → ⊥) → SameNext rest x → seen ++ x ≡ w ++ v → S w m → ⊥
      no_s seen rest x w v m split some same eq is =
          let b = s_begins w m is in
          let first_is = same_one t (u ∷ more) seen rest x w v split same eq b.0 b.1 b.2 in
          let s = s_second w m is (b.0, b.1, b.2, nine b.0 (ap code first_is ∙ e)) in
          let two = same_two t u more seen rest x w v split some same eq s.0 s.1 s.2 s.3 in
          eight_ten u f (subst (In (10 ∷ [])) two.1 s.4)
        where
          nine : (a : Token) → code a ≡ 9 → In (9 ∷ []) a
          nine a h = ap (λ (c : Bool). cond c true false) (eq-eqb (code a) 9 h)

      one_of : (seen rest x w v : Tokens) (m : Making A) → t ∷ (u ∷ more) ≡ seen ++ rest → (seen ≡ [] → ⊥) → SameNext rest x → seen ++ x ≡ w ++ v → Or D S w m → D w m
      one_of seen rest x w v m split some same eq (inl is) = is
      one_of seen rest x w v m split some same eq (inr is) = absurd (no_s seen rest x w v m split some same eq is)

  -- `function` is next, and no name behind it
  told_lambda : (t : Token) (ts : Tokens) → code t ≡ 9 → next_in (8 ∷ []) ts ≡ false → (o : Found (Making A)) → Told S (λ _. In ms) (t ∷ ts) o → Told (Or D S) (λ _. In ms) (t ∷ ts) o
  told_lambda t ts e f o told = told_alone S (Or D S) ms ms (t ∷ ts) o (λ w m is. inr is) (within_self ms) (λ m is. let b = s_begins [] m is in not_empty b.0 b.1 b.2)
      (let z = some_s t e in (t ∷ z.0, z.1, refl, z.2)) one_of told
    where
      no_d : (ts : Tokens) → next_in (8 ∷ []) ts ≡ false → (seen rest x w v : Tokens) (m : Making A) → t ∷ ts ≡ seen ++ rest → (seen ≡ [] → ⊥) → SameNext rest x → seen ++ x ≡ w ++ v → D w m → ⊥
      no_d [] f seen rest x w v m split some same eq is = let s = d_second w m is in no_two t seen rest x w v split some same eq s.0 s.1 s.2 s.3
      no_d (u ∷ more) f seen rest x w v m split some same eq is =
          let s = d_second w m is in
          let two = same_two t u more seen rest x w v split some same eq s.0 s.1 s.2 s.3 in
          false_true (sym f ∙ subst (In (8 ∷ [])) two.1 s.4)

      one_of : (seen rest x w v : Tokens) (m : Making A) → t ∷ ts ≡ seen ++ rest → (seen ≡ [] → ⊥) → SameNext rest x → seen ++ x ≡ w ++ v → Or D S w m → S w m
      one_of seen rest x w v m split some same eq (inl is) = absurd (no_d ts f seen rest x w v m split some same eq is)
      one_of seen rest x w v m split some same eq (inr is) = is

  -- another token is next
  told_other : (ts : Tokens) → NotIn (9 ∷ []) ts → (o : Found (Making A)) → Told S (λ _. In ms) ts o → Told (Or D S) (λ _. In ms) ts o
  told_other ts f o told = told_chosen S (Or D S) (λ _. In ms) (λ _. In ms) ts o (λ w m is. inr is) as_s (λ _ t i. i) told
    where
      as_s : (w : Tokens) (m : Making A) → Or D S w m → S w m ⊎ Off (In ms) ts w
      as_s w m (inl is) = inr (off (9 ∷ []) (In ms) ts w f (d_begins w m is))
      as_s w m (inr is) = inl is

  told_items : (ts : Tokens) (o p : Found (Making A)) → Told D (λ _. In []) ts o → Told S (λ _. In ms) ts p → Told (Or D S) (λ _. In ms) ts (cond (defines ts) o p)
  told_items [] o p told_d told_s = told_other [] tt p told_s
  told_items (t ∷ ts) o p told_d told_s = by (eqb (code t) 9) refl
    where
      at_function : code t ≡ 9 → (b : Bool) → next_in (8 ∷ []) ts ≡ b → Told (Or D S) (λ _. In ms) (t ∷ ts) (cond b o p)
      at_function e true f = let n = name_next ts f in
          subst (λ (us : Tokens). Told (Or D S) (λ _. In ms) (t ∷ us) o) (sym n.2) (told_definition t n.0 n.1 e n.3 o (subst (λ (us : Tokens). Told D (λ _. In []) (t ∷ us) o) n.2 told_d))
      at_function e false f = told_lambda t ts e f p told_s

      by : (b : Bool) → eqb (code t) 9 ≡ b → Told (Or D S) (λ _. In ms) (t ∷ ts) (cond (cond b (next_in (8 ∷ []) ts) false) o p)
      by true e = at_function (eqb-true (code t) 9 e) (next_in (8 ∷ []) ts) refl
      by false e = told_other (t ∷ ts) (λ i. false_true (sym e ∙ true_of (eqb (code t) 9) i)) p told_s

-- ---- the items of a program

module _ (k : ℕ) (r : Room k) (has_room : ltb 0 k ≡ true) where
  abbrev Defining : Rule Item
  Defining = Map (IsDefinition (BlockWithin k)) (mapped Define)

  abbrev Running : Rule Item
  Running = Map (AnyOf (StatementWithin (suc k))) (mapped Run)

  defining : Part Defining [] (9 ∷ []) (map_read Define (reading.definition k))
  defining = part_map Define (part_then named_of (part_word 9 (codes "function") refl) (part_then pair part_name (part_then pair (the_parameters r.inner) (r.inner.a_block.part has_room) refl) refl) refl)

  over : Within (ltb 0 k) (ExprOver k) (ExprWithin k) (StatementWithin k) (expr_over k) (expr_within k) (statement_within k)
  over = within_of k r

  running : Part Running else_words statement_begins (map_read Run (statement_within (suc k)))
  unfolding StatementWithin statement_within
  running = part_map Run (part_any (the_statement over))

  defining_second : (w : Tokens) (m : Making Item) → Defining w m → Second (8 ∷ []) w
  defining_second w m is =
      let l = is.is_word in let f = l.is_left in let n = l.is_right in
      let s = part_name.starts n.front n.left n.is_left in
      (f.token, s.0, s.1 ++ n.back, l.parts ∙ ap (λ (u : Tokens). u ++ l.back) f.is_word ∙ ap (λ (u : Tokens). f.token ∷ u) (n.parts ∙ ap (λ (u : Tokens). u ++ n.back) s.2), s.3)

  running_second : (w : Tokens) (m : Making Item) → Running w m → Begin (9 ∷ []) w → Second (10 ∷ []) w
  unfolding StatementWithin
  running_second w m is f = statement_second over (expr_second r.inner) is.is_word.0 w is.value is.is_word.1 f

  some_defining : (t : Token) → code t ≡ 9 → (w : Tokens) × (m : Making Item) × Defining (t ∷ w) m
  some_defining t e =
      let n = part_name.some in let p = (the_parameters r.inner).some in let b = (r.inner.a_block.part has_room).some in
      let x = then_made pair n.1 (then_made pair p.1 b.1) in (
        n.0 ++ (p.0 ++ b.0),
        mapped Define (then_made named_of (spot t) x),
        record {
          value = then_made named_of (spot t) x;
          is_value = refl;
          is_word = record {
            front = t ∷ [];
            back = n.0 ++ (p.0 ++ b.0);
            left = spot t;
            right = x;
            parts = refl;
            is_left = one_function t e;
            is_value = refl;
            is_right = record {
              front = n.0;
              back = p.0 ++ b.0;
              left = n.1;
              right = then_made pair p.1 b.1;
              parts = refl;
              is_left = n.2;
              is_value = refl;
              is_right = record { front = p.0; back = b.0; left = p.1; right = b.1; parts = refl; is_left = p.2; is_right = b.2; is_value = refl };
            };
          };
        },
      )

  some_running : (t : Token) → code t ≡ 9 → (w : Tokens) × (m : Making Item) × Running (t ∷ w) m
  unfolding StatementWithin
  some_running t e = let s = some_statement over (expr_second r.inner) t e (some_lambda r.inner t e has_room) in (s.0, mapped Run s.1, record { value = s.1; is_word = (false, s.2); is_value = refl })

  abbrev Items : Rule Item
  Items = IsItem (BlockWithin k) (AnyOf (StatementWithin (suc k)))

  into_item : (w : Tokens) (m : Making Item) → Or Defining Running w m → Items w m
  into_item w m (inl is) = definition is
  into_item w m (inr is) = statement is

  from_item : (w : Tokens) (m : Making Item) → Items w m → Or Defining Running w m
  from_item w m (definition is) = inl is
  from_item w m (statement is) = inr is

  pub an_item : Part Items else_words statement_begins (reading.item k)
  an_item = part_as {ms = else_words} {bs = statement_begins} else_words statement_begins refl refl into_item from_item (record {
    reads = λ ts. cond (defines ts) (defining.reads ts) (running.reads ts);
    told = λ ts. told_items Defining Running else_words statement_begins defining.starts defining_second running.starts running_second some_defining some_running ts (defining.reads ts) (running.reads ts) (defining.told ts) (running.told ts);
    runs = λ s. cond_runs s (defines s.tokens) (map_read Define (reading.definition k) s) (map_read Run (statement_within (suc k)) s) (defining.reads s.tokens) (running.reads s.tokens) (defining.runs s) (running.runs s);
    starts = begin;
    some = let a = running.some in (a.0, a.1, inr a.2);
  })
    where
      begin : (w : Tokens) (m : Making Item) → Or Defining Running w m → Begin statement_begins w
      begin w m (inl is) = begin_as (9 ∷ []) statement_begins (within_in (9 ∷ []) statement_begins refl) w (defining.starts w m is)
      begin w m (inr is) = running.starts w m is

  pub the_items : Tail (Repeat Items) (else_words ++ statement_begins) statement_begins (reading.items k)
  the_items = tail_many an_item refl
