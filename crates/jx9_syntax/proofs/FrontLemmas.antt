-- What the function takes stands there, and no longer word does.
use Rattle.std.proofs.Common.{◌≡◌, ℕ, suc, ◌<◌, ◌≤◌, ◌≢◌, Bool, true, false, cond, eqb, leb, ◌&&◌, inl, inr, pos, List, [], ◌∷◌, ◌++◌, length, Option, Some, None, refl, sym, ap, subst, ◌∙◌, append-nil, arith}
use Rattle.std.specs.Char.{is_ascii_digit, is_ascii_hexdigit}
use Rattle.std.proofs.lemmas.Bool.{eqb-true, eqb-false, ne_eqb, leb-true}
use Rattle.uq_value.specs.Data.{Bytes}
use Rattle.jx9_syntax.specs.Bytes.{Class, is_blank, is_letter, is_name_byte, is_in_line, AllOf, run, behind, value_in}
use Rattle.jx9_syntax.specs.Quoted.{Piece, Inside, parts_of}
use Rattle.jx9_syntax.specs.Signs.{spelling, sign_at}
use Rattle.jx9_syntax.specs.Tokens.{Lexeme, Of, Gap, Unclosed, IsQuote, quoted_kind, behind_comment, Begins, Longest}
use Rattle.jx9_syntax.specs.Tokens as at
use Rattle.jx9_syntax.specs.Front.{Taken, ◌>>=◌, hexadecimal_at, zero_at, number_at, variable_at, inside_at, quoted_at, of_sign, of_comment, slash_at, other_at, front, IsFront}
use Rattle.jx9_syntax.specs.declared.sign.Sign.{Sign}
use Rattle.jx9_syntax.specs.declared.sign.Sign.TheVariants as signs
use Rattle.jx9_syntax.specs.declared.token.TokenKind.TheVariants as kind
use Rattle.jx9_syntax.proofs.Runs.{if_true, if_false, both, same_cut, Suffix, further, no_longer, run_splits, behind_suffix, run_all, run_longest, run_same}
use Rattle.jx9_syntax.proofs.SignLemmas.{SpellsFront, sign_spells, FindsSign, finds_sign}
use Rattle.jx9_syntax.proofs.InsideLemmas.{inside_suffix, inside_again, ReadsInside, inside_reads}

-- ---- classes are apart

no_letter : (b : ℕ) → is_ascii_digit b ≡ true → is_letter b ≡ false
no_letter b e =
    let h = both (leb 48 b) (leb b 57) e in
    let low : 48 ≤ b = leb-true 48 b h.0 in
    let high : b ≤ 57 = leb-true b 57 h.1 in
    grind (arith, low, high)

blank_below : (b : ℕ) → is_blank b ≡ true → b ≤ 0x20
blank_below b e = grind arith

blank_no_letter : (b : ℕ) → is_blank b ≡ true → is_letter b ≡ false
blank_no_letter b e = let h = blank_below b e in grind (arith, h)

blank_no_digit : (b : ℕ) → is_blank b ≡ true → is_ascii_digit b ≡ false
blank_no_digit b e = let h = blank_below b e in grind (arith, h)

-- ---- the function, by the first byte

front_letter : (b : ℕ) (bs : Bytes) → is_letter b ≡ true → front (b ∷ bs) ≡ Some (Of (kind.Name (b ∷ run is_name_byte bs)), behind is_name_byte bs)
unfolding front
front_letter b bs e = if_true (is_letter b) _ _ e

front_digit : (b : ℕ) (bs : Bytes) → is_ascii_digit b ≡ true → front (b ∷ bs) ≡ number_at b bs
unfolding front
front_digit b bs e = if_false (is_letter b) _ _ (no_letter b e) ∙ if_true (is_ascii_digit b) _ _ e

front_blank : (b : ℕ) (bs : Bytes) → is_blank b ≡ true → front (b ∷ bs) ≡ Some (Gap, behind is_blank bs)
unfolding front
front_blank b bs e =
    if_false (is_letter b) _ _ (blank_no_letter b e) ∙ if_false (is_ascii_digit b) _ _ (blank_no_digit b e) ∙ if_true (is_blank b) _ _ e

-- ---- whatever stands at the front is taken, or more

pub record Found (text after : Bytes) (y : Lexeme) : Type 0 where
  pub lexeme : Lexeme
  pub rest : Bytes
  pub is : front text ≡ Some (lexeme, rest)
  pub shorter : length rest ≤ length after
  pub same : length rest ≡ length after → y ≡ lexeme

found_as : (text after u : Bytes) (y x : Lexeme) → text ≡ u → y ≡ x → Found u after x → Found text after y
found_as text after u y x e f found = record {
  lexeme = found.lexeme;
  rest = found.rest;
  is = ap front e ∙ found.is;
  shorter = found.shorter;
  same = λ n. f ∙ found.same n;
}

found_itself : (text after : Bytes) (x : Lexeme) → front text ≡ Some (x, after) → Found text after x
found_itself text after x e = record { lexeme = x; rest = after; is = e; shorter = omega arith; same = λ n. refl }

found_run : (p : Class) (make : Bytes → Lexeme) (text word after : Bytes) → front text ≡ Some (make (run p (word ++ after)), behind p (word ++ after)) → AllOf p word → Found text after (make word)
found_run p make text word after e all = record {
  lexeme = make (run p (word ++ after));
  rest = behind p (word ++ after);
  is = e;
  shorter = run_longest p word after all;
  same = λ n. ap make (run_same p word after n);
}

found_name : (c : ℕ) (cs after : Bytes) → is_letter c ≡ true → AllOf is_name_byte cs → Found (c ∷ (cs ++ after)) after (Of (kind.Name (c ∷ cs)))
found_name c cs after e all = found_run is_name_byte (λ w. Of (kind.Name (c ∷ w))) (c ∷ (cs ++ after)) cs after (front_letter c (cs ++ after) e) all

found_variable : (c : ℕ) (cs after : Bytes) → is_letter c ≡ true → AllOf is_name_byte cs → Found (0x24 ∷ c ∷ (cs ++ after)) after (Of (kind.Var (c ∷ cs)))
unfolding front
found_variable c cs after e all = found_run is_name_byte (λ w. Of (kind.Var (c ∷ w))) (0x24 ∷ c ∷ (cs ++ after)) cs after (if_true (is_letter c) _ _ e) all

found_zero : (after : Bytes) → Found (0x30 ∷ after) after (Of (kind.Int (pos 0)))
unfolding front
found_zero [] = found_itself (0x30 ∷ []) [] (Of (kind.Int (pos 0))) refl
found_zero (c ∷ cs) = by (eqb c 0x78) refl (run is_ascii_hexdigit cs) refl
  where
    by : (t : Bool) → eqb c 0x78 ≡ t → (w : Bytes) → run is_ascii_hexdigit cs ≡ w → Found (0x30 ∷ c ∷ cs) (c ∷ cs) (Of (kind.Int (pos 0)))
    by false e w f = found_itself (0x30 ∷ c ∷ cs) (c ∷ cs) (Of (kind.Int (pos 0))) (if_false (eqb c 0x78) _ _ e)
    by true e [] f = found_itself (0x30 ∷ c ∷ cs) (c ∷ cs) (Of (kind.Int (pos 0)))
        (if_true (eqb c 0x78) _ _ e ∙ ap (λ (w : Bytes). hexadecimal_at w (behind is_ascii_hexdigit cs) (c ∷ cs)) f)
    by true e (d ∷ ds) f =
        let left = no_longer (behind is_ascii_hexdigit cs) cs (behind_suffix is_ascii_hexdigit cs) in
        record {
          lexeme = Of (kind.Int (pos (value_in 16 0 (d ∷ ds))));
          rest = behind is_ascii_hexdigit cs;
          is = if_true (eqb c 0x78) _ _ e ∙ ap (λ (w : Bytes). hexadecimal_at w (behind is_ascii_hexdigit cs) (c ∷ cs)) f;
          shorter = omega (arith, left);
          same = λ n. absurd (omega (arith, n, left));
        }

found_decimal : (c : ℕ) (cs after : Bytes) → is_ascii_digit c ≡ true → c ≢ 0x30 → AllOf is_ascii_digit cs → Found (c ∷ (cs ++ after)) after (Of (kind.Int (pos (value_in 10 0 (c ∷ cs)))))
found_decimal c cs after e n all =
    found_run is_ascii_digit (λ w. Of (kind.Int (pos (value_in 10 0 (c ∷ w))))) (c ∷ (cs ++ after)) cs after (front_digit c (cs ++ after) e ∙ if_false (eqb c 0x30) _ _ (ne_eqb c 0x30 n)) all

found_hexadecimal : (c : ℕ) (cs after : Bytes) → is_ascii_hexdigit c ≡ true → AllOf is_ascii_hexdigit cs → Found (0x30 ∷ 0x78 ∷ c ∷ (cs ++ after)) after (Of (kind.Int (pos (value_in 16 0 (c ∷ cs)))))
unfolding front
found_hexadecimal c cs after e all =
    found_run is_ascii_hexdigit (λ w. Of (kind.Int (pos (value_in 16 0 (c ∷ w))))) (0x30 ∷ 0x78 ∷ c ∷ (cs ++ after)) cs after
    (ap (λ (w : Bytes). hexadecimal_at w (behind is_ascii_hexdigit (c ∷ (cs ++ after))) (0x78 ∷ c ∷ (cs ++ after))) (if_true (is_ascii_hexdigit c) (c ∷ run is_ascii_hexdigit (cs ++ after)) [] e)
    ∙ ap (λ (r : Bytes). Some (Of (kind.Int (pos (value_in 16 0 (c ∷ run is_ascii_hexdigit (cs ++ after))))), r)) (if_true (is_ascii_hexdigit c) (behind is_ascii_hexdigit (cs ++ after)) (c ∷ (cs ++ after)) e)) all

found_quoted : (q : ℕ) (inner after : Bytes) (ps : List Piece) → IsQuote q → Inside q inner ps after → Found (q ∷ inner) after (Of (quoted_kind (parts_of ps)))
unfolding front
found_quoted q inner after ps is_quote is =
    found_itself (q ∷ inner) after (Of (quoted_kind (parts_of ps))) (opened is_quote ∙ ap (λ (r : Option (List Piece × Bytes)). r >>= λ x. Some (Of (quoted_kind (parts_of x.0)), x.1)) (inside_again q (length inner) ps inner after (omega arith) is))
  where
    opened : IsQuote q → front (q ∷ inner) ≡ quoted_at q inner
    opened (inl e) = subst (λ (k : ℕ). front (k ∷ inner) ≡ quoted_at k inner) (sym e) refl
    opened (inr e) = subst (λ (k : ℕ). front (k ∷ inner) ≡ quoted_at k inner) (sym e) refl

found_blanks : (c : ℕ) (cs after : Bytes) → is_blank c ≡ true → AllOf is_blank cs → Found (c ∷ (cs ++ after)) after Gap
found_blanks c cs after e all = found_run is_blank (λ w. Gap) (c ∷ (cs ++ after)) cs after (front_blank c (cs ++ after) e) all

found_comment : (inner after : Bytes) → behind_comment inner ≡ Some after → Found (0x2f ∷ 0x2a ∷ inner) after Gap
unfolding front
found_comment inner after e = found_itself (0x2f ∷ 0x2a ∷ inner) after Gap (ap of_comment e)

found_unclosed : (inner : Bytes) → behind_comment inner ≡ None → Found (0x2f ∷ 0x2a ∷ inner) [] Unclosed
unfolding front
found_unclosed inner e = found_itself (0x2f ∷ 0x2a ∷ inner) [] Unclosed (ap of_comment e)

found_hash : (word after : Bytes) → AllOf is_in_line word → Found (0x23 ∷ (word ++ after)) after Gap
unfolding front
found_hash word after all = found_run is_in_line (λ w. Gap) (0x23 ∷ (word ++ after)) word after refl all

found_line : (word after : Bytes) → AllOf is_in_line word → Found (0x2f ∷ 0x2f ∷ (word ++ after)) after Gap
unfolding front
found_line word after all = found_run is_in_line (λ w. Gap) (0x2f ∷ 0x2f ∷ (word ++ after)) word after refl all

-- ---- signs

of_found : (text after : Bytes) (s : Sign) → front text ≡ of_sign (sign_at text) → FindsSign text after s → Found text after (Of (kind.Sign s))
of_found text after s e sign = record {
  lexeme = Of (kind.Sign sign.found);
  rest = sign.rest;
  is = e ∙ ap of_sign sign.is;
  shorter = sign.shorter;
  same = λ n. ap (λ (t : Sign). Of (kind.Sign t)) (sign.same n);
}

comment_suffix : (text rest : Bytes) → behind_comment text ≡ Some rest → Suffix rest text
comment_suffix [] rest e = absurd cc
comment_suffix (b ∷ []) rest e = absurd cc
comment_suffix (b ∷ c ∷ cs) rest e = by (eqb b 0x2a && eqb c 0x2f) refl (λ f. comment_suffix (c ∷ cs) rest f)
  where
    some_is : ◌≡◌ {A = Option Bytes} (Some cs) (Some rest) → rest ≡ cs
    some_is f = cc

    by : (t : Bool) → (eqb b 0x2a && eqb c 0x2f) ≡ t → (behind_comment (c ∷ cs) ≡ Some rest → Suffix rest (c ∷ cs)) → Suffix rest (b ∷ c ∷ cs)
    by true h others = (b ∷ c ∷ [], ap (λ (w : Bytes). b ∷ c ∷ w) (sym (some_is (sym (if_true (eqb b 0x2a && eqb c 0x2f) _ _ h) ∙ e))))
    by false h others = further b rest (c ∷ cs) (others (sym (if_false (eqb b 0x2a && eqb c 0x2f) _ _ h) ∙ e))

found_slash : (after : Bytes) → Found (0x2f ∷ after) after (Of (kind.Sign signs.Divide))
unfolding front
found_slash [] = of_found (0x2f ∷ []) [] signs.Divide refl (finds_sign signs.Divide [])
found_slash (c ∷ cs) = by (eqb c 0x2f) refl (eqb c 0x2a) refl (behind_comment cs) refl
  where
    by : (t : Bool) → eqb c 0x2f ≡ t → (u : Bool) → eqb c 0x2a ≡ u → (o : Option Bytes) → behind_comment cs ≡ o → Found (0x2f ∷ c ∷ cs) (c ∷ cs) (Of (kind.Sign signs.Divide))
    by true e u f o g = let left = no_longer (behind is_in_line cs) cs (behind_suffix is_in_line cs) in record {
      lexeme = Gap;
      rest = behind is_in_line cs;
      is = if_true (eqb c 0x2f) _ _ e;
      shorter = omega (arith, left);
      same = λ n. absurd (omega (arith, n, left));
    }
    by false e true f None g = record {
      lexeme = Unclosed;
      rest = [];
      is = if_false (eqb c 0x2f) _ _ e ∙ if_true (eqb c 0x2a) _ _ f ∙ ap of_comment g;
      shorter = omega arith;
      same = λ n. absurd (omega (arith, n));
    }
    by false e true f (Some rest) g = let left = no_longer rest cs (comment_suffix cs rest g) in record {
      lexeme = Gap;
      rest = rest;
      is = if_false (eqb c 0x2f) _ _ e ∙ if_true (eqb c 0x2a) _ _ f ∙ ap of_comment g;
      shorter = omega (arith, left);
      same = λ n. absurd (omega (arith, n, left));
    }
    by false e false f o g =
        of_found (0x2f ∷ c ∷ cs) (c ∷ cs) signs.Divide (if_false (eqb c 0x2f) _ _ e ∙ if_false (eqb c 0x2a) _ _ f) (finds_sign signs.Divide (c ∷ cs))

-- a sign that no comment begins like
found_sign : (s : Sign) (after : Bytes) → Found (spelling s ++ after) after (Of (kind.Sign s))
unfolding front
found_sign signs.Divide after = found_slash after
found_sign s after = of_found (spelling s ++ after) after s refl (finds_sign s after)

pub found : (text after : Bytes) (y : Lexeme) → Begins text after y → Found text after y
found text after y (at.name [] e is f) = absurd is
found text after y (at.name (c ∷ cs) e is f) = found_as text after (c ∷ (cs ++ after)) y (Of (kind.Name (c ∷ cs))) e f (found_name c cs after is.0 is.1)
found text after y (at.variable [] e is f) = absurd is
found text after y (at.variable (c ∷ cs) e is f) = found_as text after (0x24 ∷ c ∷ (cs ++ after)) y (Of (kind.Var (c ∷ cs))) e f (found_variable c cs after is.0 is.1)
found text after y (at.zero_int e f) = found_as text after (0x30 ∷ after) y (Of (kind.Int (pos 0))) e f (found_zero after)
found text after y (at.decimal [] e is f) = absurd is
found text after y (at.decimal (c ∷ cs) e is f) =
    found_as text after (c ∷ (cs ++ after)) y (Of (kind.Int (pos (value_in 10 0 (c ∷ cs))))) e f (found_decimal c cs after is.0 is.1 is.2)
found text after y (at.hexadecimal [] e is f) = absurd is
found text after y (at.hexadecimal (c ∷ cs) e is f) =
    found_as text after (0x30 ∷ 0x78 ∷ c ∷ (cs ++ after)) y (Of (kind.Int (pos (value_in 16 0 (c ∷ cs))))) e f (found_hexadecimal c cs after is.0 is.1)
found text after y (at.quoted q inner ps e is_quote is f) = found_as text after (q ∷ inner) y (Of (quoted_kind (parts_of ps))) e f (found_quoted q inner after ps is_quote is)
found text after y (at.sign s e f) = found_as text after (spelling s ++ after) y (Of (kind.Sign s)) e f (found_sign s after)
found text after y (at.blanks [] e is f) = absurd is
found text after y (at.blanks (c ∷ cs) e is f) = found_as text after (c ∷ (cs ++ after)) y Gap e f (found_blanks c cs after is.0 is.1)
found text after y (at.hash_comment word e is f) = found_as text after (0x23 ∷ (word ++ after)) y Gap e f (found_hash word after is)
found text after y (at.line_comment word e is f) = found_as text after (0x2f ∷ 0x2f ∷ (word ++ after)) y Gap e f (found_line word after is)
found text after y (at.comment inner e is f) = found_as text after (0x2f ∷ 0x2a ∷ inner) y Gap e f (found_comment inner after is)
found text after y (at.unclosed inner e is g f) =
    subst (λ (r : Bytes). Found text r y) (sym g) (found_as text [] (0x2f ∷ 0x2a ∷ inner) y Unclosed e f (found_unclosed inner is))

-- ---- what is taken stands at the front

abbrev pub IsTaken : Bytes → Taken → Type 0
IsTaken text None = Unit {0}
IsTaken text (Some x) = Begins text x.1 x.0

taken_if : (text : Bytes) (t u : Bool) (x y : Taken) → t ≡ u → (t ≡ true → IsTaken text x) → (t ≡ false → IsTaken text y) → IsTaken text (cond t x y)
taken_if text t true x y e here others = subst (λ (v : Bool). IsTaken text (cond v x y)) (sym e) (here e)
taken_if text t false x y e here others = subst (λ (v : Bool). IsTaken text (cond v x y)) (sym e) (others e)

taken_name : (b : ℕ) (bs : Bytes) → is_letter b ≡ true → Begins (b ∷ bs) (behind is_name_byte bs) (Of (kind.Name (b ∷ run is_name_byte bs)))
taken_name b bs e = at.name (b ∷ run is_name_byte bs) (ap (λ (w : Bytes). b ∷ w) (run_splits is_name_byte bs)) (e, run_all is_name_byte bs) refl

taken_variable : (bs : Bytes) → IsTaken (0x24 ∷ bs) (variable_at bs)
taken_variable [] = tt
taken_variable (c ∷ cs) = taken_if (0x24 ∷ c ∷ cs) (is_letter c) (is_letter c) (Some (Of (kind.Var (c ∷ run is_name_byte cs)), behind is_name_byte cs)) None refl
    (λ e. at.variable (c ∷ run is_name_byte cs) (ap (λ (w : Bytes). 0x24 ∷ c ∷ w) (run_splits is_name_byte cs)) (e, run_all is_name_byte cs) refl) (λ e. tt)

taken_zero_alone : (bs : Bytes) → Begins (0x30 ∷ bs) bs (Of (kind.Int (pos 0)))
taken_zero_alone bs = at.zero_int refl refl

taken_hexadecimal : (cs w r : Bytes) → run is_ascii_hexdigit cs ≡ w → behind is_ascii_hexdigit cs ≡ r → IsTaken (0x30 ∷ 0x78 ∷ cs) (hexadecimal_at w r (0x78 ∷ cs))
taken_hexadecimal cs [] r e f = taken_zero_alone (0x78 ∷ cs)
taken_hexadecimal cs (d ∷ ds) r e f =
    let all : AllOf is_ascii_hexdigit (d ∷ ds) = subst (AllOf is_ascii_hexdigit) e (run_all is_ascii_hexdigit cs) in
    let split : cs ≡ (d ∷ ds) ++ r = run_splits is_ascii_hexdigit cs ∙ ap (λ (v : Bytes). v ++ behind is_ascii_hexdigit cs) e ∙ ap (λ (v : Bytes). (d ∷ ds) ++ v) f in
    at.hexadecimal (d ∷ ds) (ap (λ (v : Bytes). 0x30 ∷ 0x78 ∷ v) split) (both (is_ascii_hexdigit d) _ all) refl

taken_zero : (bs : Bytes) → IsTaken (0x30 ∷ bs) (zero_at bs)
taken_zero [] = taken_zero_alone []
taken_zero (c ∷ cs) = taken_if (0x30 ∷ c ∷ cs) (eqb c 0x78) (eqb c 0x78) (hexadecimal_at (run is_ascii_hexdigit cs) (behind is_ascii_hexdigit cs) (c ∷ cs)) (Some (Of (kind.Int (pos 0)), c ∷ cs)) refl
    (λ e. subst (λ (k : ℕ). IsTaken (0x30 ∷ k ∷ cs) (hexadecimal_at (run is_ascii_hexdigit cs) (behind is_ascii_hexdigit cs) (k ∷ cs))) (sym (eqb-true c 0x78 e))
    (taken_hexadecimal cs (run is_ascii_hexdigit cs) (behind is_ascii_hexdigit cs) refl refl))
    (λ e. taken_zero_alone (c ∷ cs))

taken_number : (b : ℕ) (bs : Bytes) → is_ascii_digit b ≡ true → IsTaken (b ∷ bs) (number_at b bs)
taken_number b bs is = taken_if (b ∷ bs) (eqb b 0x30) (eqb b 0x30) (zero_at bs) (Some (Of (kind.Int (pos (value_in 10 0 (b ∷ run is_ascii_digit bs)))), behind is_ascii_digit bs)) refl
    (λ e. subst (λ (k : ℕ). IsTaken (k ∷ bs) (zero_at bs)) (sym (eqb-true b 0x30 e)) (taken_zero bs))
    (λ e. at.decimal (b ∷ run is_ascii_digit bs) (ap (λ (w : Bytes). b ∷ w) (run_splits is_ascii_digit bs)) (is, eqb-false b 0x30 e, run_all is_ascii_digit bs) refl)

taken_quoted : (q : ℕ) (bs : Bytes) → IsQuote q → IsTaken (q ∷ bs) (quoted_at q bs)
taken_quoted q bs is_quote = by (inside_at q bs) (inside_reads q (length bs) bs)
  where
    by : (r : Option (List Piece × Bytes)) → ReadsInside q bs r → IsTaken (q ∷ bs) (r >>= λ x. Some (Of (quoted_kind (parts_of x.0)), x.1))
    by None is = tt
    by (Some x) is = at.quoted q bs x.0 refl is_quote is refl

taken_sign : (text : Bytes) → IsTaken text (of_sign (sign_at text))
taken_sign text = by (sign_at text) (sign_spells text)
  where
    by : (r : Option (Sign × Bytes)) → SpellsFront text r → IsTaken text (of_sign r)
    by None is = tt
    by (Some x) is = at.sign x.0 is refl

taken_comment : (inner : Bytes) (o : Option Bytes) → behind_comment inner ≡ o → IsTaken (0x2f ∷ 0x2a ∷ inner) (of_comment o)
taken_comment inner None e = at.unclosed inner refl e refl refl
taken_comment inner (Some rest) e = at.comment inner refl e refl

taken_line : (cs : Bytes) → Begins (0x2f ∷ 0x2f ∷ cs) (behind is_in_line cs) Gap
taken_line cs = at.line_comment (run is_in_line cs) (ap (λ (w : Bytes). 0x2f ∷ 0x2f ∷ w) (run_splits is_in_line cs)) (run_all is_in_line cs) refl

taken_slash : (bs : Bytes) → IsTaken (0x2f ∷ bs) (slash_at bs)
taken_slash [] = taken_sign (0x2f ∷ [])
taken_slash (c ∷ cs) =
    taken_if (0x2f ∷ c ∷ cs) (eqb c 0x2f) (eqb c 0x2f) (Some (Gap, behind is_in_line cs)) (cond (eqb c 0x2a) (of_comment (behind_comment cs)) (of_sign (sign_at (0x2f ∷ c ∷ cs)))) refl
    (λ e. subst (λ (k : ℕ). Begins (0x2f ∷ k ∷ cs) (behind is_in_line cs) Gap) (sym (eqb-true c 0x2f e)) (taken_line cs))
    (λ e. taken_if (0x2f ∷ c ∷ cs) (eqb c 0x2a) (eqb c 0x2a) (of_comment (behind_comment cs)) (of_sign (sign_at (0x2f ∷ c ∷ cs))) refl
    (λ f. subst (λ (k : ℕ). IsTaken (0x2f ∷ k ∷ cs) (of_comment (behind_comment cs))) (sym (eqb-true c 0x2a f)) (taken_comment cs (behind_comment cs) refl))
    (λ f. taken_sign (0x2f ∷ c ∷ cs)))

taken_blanks : (b : ℕ) (bs : Bytes) → is_blank b ≡ true → Begins (b ∷ bs) (behind is_blank bs) Gap
taken_blanks b bs e = at.blanks (b ∷ run is_blank bs) (ap (λ (w : Bytes). b ∷ w) (run_splits is_blank bs)) (e, run_all is_blank bs) refl

taken_hash : (bs : Bytes) → Begins (0x23 ∷ bs) (behind is_in_line bs) Gap
taken_hash bs = at.hash_comment (run is_in_line bs) (ap (λ (w : Bytes). 0x23 ∷ w) (run_splits is_in_line bs)) (run_all is_in_line bs) refl

-- where one byte decides
at_byte : (b k : ℕ) (bs : Bytes) (x y : Taken) → IsTaken (k ∷ bs) x → IsTaken (b ∷ bs) y → IsTaken (b ∷ bs) (cond (eqb b k) x y)
at_byte b k bs x y here others = taken_if (b ∷ bs) (eqb b k) (eqb b k) x y refl (λ e. subst (λ (c : ℕ). IsTaken (c ∷ bs) x) (sym (eqb-true b k e)) here) (λ e. others)

-- a quote is the byte at the front
at_quote : (b k : ℕ) (bs : Bytes) (y : Taken) → IsQuote k → IsTaken (b ∷ bs) y → IsTaken (b ∷ bs) (cond (eqb b k) (quoted_at b bs) y)
at_quote b k bs y is_quote others = taken_if (b ∷ bs) (eqb b k) (eqb b k) (quoted_at b bs) y refl (λ e. taken_quoted b bs (subst IsQuote (sym (eqb-true b k e)) is_quote)) (λ e. others)

taken_other : (b : ℕ) (bs : Bytes) → IsTaken (b ∷ bs) (other_at b bs)
taken_other b bs =
    taken_if (b ∷ bs) (is_blank b) (is_blank b) (Some (Gap, behind is_blank bs)) _ refl (λ e. taken_blanks b bs e)
    (λ e. at_byte b 0x24 bs (variable_at bs) _ (taken_variable bs)
    (at_quote b 0x22 bs _ (inr refl) (at_quote b 0x27 bs _ (inl refl)
    (at_byte b 0x23 bs (Some (Gap, behind is_in_line bs)) _ (taken_hash bs)
    (at_byte b 0x2f bs (slash_at bs) (of_sign (sign_at (b ∷ bs))) (taken_slash bs) (taken_sign (b ∷ bs)))))))

pub taken : (text : Bytes) → IsTaken text (front text)
unfolding front
taken [] = tt
taken (b ∷ bs) =
    taken_if (b ∷ bs) (is_letter b) (is_letter b) (Some (Of (kind.Name (b ∷ run is_name_byte bs)), behind is_name_byte bs)) (cond (is_ascii_digit b) (number_at b bs) (other_at b bs)) refl
    (λ e. taken_name b bs e)
    (λ e. taken_if (b ∷ bs) (is_ascii_digit b) (is_ascii_digit b) (number_at b bs) (other_at b bs) refl (λ f. taken_number b bs f) (λ f. taken_other b bs))

-- ---- the law

-- a byte at least is taken
abbrev pub Takes : Bytes → Bytes → Type 0
Takes text rest = (b : ℕ) × (bs : Bytes) × (text ≡ b ∷ bs) × Suffix rest bs

takes_word : (b : ℕ) (word text rest : Bytes) → text ≡ b ∷ (word ++ rest) → Takes text rest
takes_word b word text rest e = (b, word ++ rest, e, (word, refl))

abbrev first_of : Bytes → ℕ
first_of [] = 0
first_of (b ∷ bs) = b

abbrev others_of : Bytes → Bytes
others_of [] = []
others_of (b ∷ bs) = bs

takes_sign : (s : Sign) (rest : Bytes) → Takes (spelling s ++ rest) rest
takes_sign signs.Plus rest = takes_word 0x2b [] (0x2b ∷ rest) rest refl
takes_sign s rest = takes_word (first_of (spelling s)) (others_of (spelling s)) (spelling s ++ rest) rest refl

pub begins_takes : (text rest : Bytes) (x : Lexeme) → Begins text rest x → Takes text rest
begins_takes text rest x (at.name [] e is f) = absurd is
begins_takes text rest x (at.name (c ∷ cs) e is f) = takes_word c cs text rest e
begins_takes text rest x (at.variable word e is f) = takes_word 0x24 word text rest e
begins_takes text rest x (at.zero_int e f) = takes_word 0x30 [] text rest e
begins_takes text rest x (at.decimal [] e is f) = absurd is
begins_takes text rest x (at.decimal (c ∷ cs) e is f) = takes_word c cs text rest e
begins_takes text rest x (at.hexadecimal word e is f) = takes_word 0x30 (0x78 ∷ word) text rest e
begins_takes text rest x (at.quoted q inner ps e is_quote is f) = (q, inner, e, inside_suffix q inner ps rest is)
begins_takes text rest x (at.sign s e f) = subst (λ (w : Bytes). Takes w rest) (sym e) (takes_sign s rest)
begins_takes text rest x (at.blanks [] e is f) = absurd is
begins_takes text rest x (at.blanks (c ∷ cs) e is f) = takes_word c cs text rest e
begins_takes text rest x (at.hash_comment word e is f) = takes_word 0x23 word text rest e
begins_takes text rest x (at.line_comment word e is f) = takes_word 0x2f (0x2f ∷ word) text rest e
begins_takes text rest x (at.comment inner e is f) = (0x2f, 0x2a ∷ inner, e, further 0x2a rest inner (comment_suffix inner rest is))
begins_takes text rest x (at.unclosed inner e is g f) =
    takes_word 0x2f (0x2a ∷ inner) text rest (e ∙ sym (ap (λ (r : Bytes). 0x2f ∷ 0x2a ∷ (inner ++ r)) g ∙ ap (λ (w : Bytes). 0x2f ∷ 0x2a ∷ w) (append-nil inner)))

pub begins_suffix : (text rest : Bytes) (x : Lexeme) → Begins text rest x → Suffix rest text
begins_suffix text rest x begins =
    let t = begins_takes text rest x begins in subst (λ (w : Bytes). Suffix rest w) (sym t.2) (further t.0 rest t.1 t.3)

pub takes_byte : (text rest : Bytes) (x : Lexeme) → Begins text rest x → length rest < length text
takes_byte text rest x begins =
    let t = begins_takes text rest x begins in
    let n : length text ≡ suc (length t.1) = ap length t.2 in
    omega (arith, n, no_longer rest t.1 t.3)

pub some_pair : (x y : Lexeme) (r s : Bytes) → ◌≡◌ {A = Taken} (Some (x, r)) (Some (y, s)) → (x ≡ y) × (r ≡ s)
some_pair x y r s e =
    let f : ◌≡◌ {A = Lexeme × Bytes} (x, r) (y, s) = cc in (ap (λ (p : Lexeme × Bytes). p.0) f, ap (λ (p : Lexeme × Bytes). p.1) f)

-- the longest is what the function takes
pub front_of : (text rest : Bytes) (x : Lexeme) → Longest text rest x → front text ≡ Some (x, rest)
front_of text rest x long =
    let it = found text rest x long.begins in
    let stands : Begins text it.rest it.lexeme = subst (IsTaken text) it.is (taken text) in
    let n : length it.rest ≡ length rest = omega (arith, it.shorter, long.longest it.rest it.lexeme stands) in
    let s = begins_suffix text it.rest it.lexeme stands in
    let t = begins_suffix text rest x long.begins in
    let r : it.rest ≡ rest = (same_cut s.0 t.0 it.rest rest (sym s.1 ∙ t.1) n).1 in
    it.is ∙ ap (λ (y : Lexeme). Some (y, it.rest)) (sym (it.same n)) ∙ ap (λ (w : Bytes). Some (x, w)) r

pub front_right : (text : Bytes) → IsFront text (front text)
front_right text = by (front text) refl (taken text)
  where
    by : (r : Taken) → front text ≡ r → IsTaken text r → IsFront text r
    by None e is = λ rest x begins. let it = found text rest x begins in let f : ◌≡◌ {A = Taken} None (Some (it.lexeme, it.rest)) = sym e ∙ it.is in absurd cc
    by (Some x) e is = let s = begins_suffix text x.1 x.0 is in record {
      word = s.0;
      split = s.1;
      shorter = takes_byte text x.1 x.0 is;
      longest = record {
        begins = is;
        longest = λ after y begins.
            let it = found text after y begins in
            let f = some_pair x.0 it.lexeme x.1 it.rest (sym e ∙ it.is) in
            let n : length x.1 ≡ length it.rest = ap length f.1 in
            omega (arith, n, it.shorter);
      };
    }
