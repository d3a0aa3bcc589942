-- The sign that is found is spelled so, and no longer one stands there.
use Rattle.std.proofs.Common.{◌≡◌, ℕ, ◌≤◌, Bool, true, false, cond, eqb, [], ◌∷◌, ◌++◌, length, Option, Some, None, refl, sym, ap, subst, ◌∙◌, arith}
use Rattle.std.proofs.lemmas.Bool.{eqb-true}
use Rattle.uq_value.specs.Data.{Bytes}
use Rattle.jx9_syntax.specs.declared.sign.Sign.{Sign}
use Rattle.jx9_syntax.specs.declared.sign.Sign.TheVariants.{Plus, Minus, Times, Divide, Remainder, Join, Dot, Assign, PlusAssign, MinusAssign, TimesAssign, DivideAssign, RemainderAssign, JoinAssign, Equal, NotEqual, Same, NotSame, Less, LessOrEqual, Greater, GreaterOrEqual, And, Or, Not, Increment, Decrement, Question, Colon, OpenParen, CloseParen, OpenBracket, CloseBracket, OpenBrace, CloseBrace, Comma, Semicolon}
use Rattle.jx9_syntax.specs.Signs.{spelling, single, with_equals, doubled, pair, lengthened, lengthened_by, or_else, before, sign_of_one, sign_of_two, sign_of_three, sign_at}

-- ---- what is found is spelled so

abbrev pub SpellsFront : Bytes → Option (Sign × Bytes) → Type 0
SpellsFront text None = Unit {0}
SpellsFront text (Some x) = text ≡ spelling x.0 ++ x.1

abbrev Spelled : Bytes → Option Sign → Type 0
Spelled word None = Unit {0}
Spelled word (Some s) = word ≡ spelling s

spelled_if : (b k : ℕ) (word : Bytes) (s : Sign) (other : Option Sign) → (b ≡ k → word ≡ spelling s) → Spelled word other → Spelled word (cond (eqb b k) (Some s) other)
spelled_if b k word s other here others = by (eqb b k) refl
  where
    by : (t : Bool) → eqb b k ≡ t → Spelled word (cond t (Some s) other)
    by true e = here (eqb-true b k e)
    by false e = others

one_byte : (b k : ℕ) → b ≡ k → b ∷ [] ≡ k ∷ []
one_byte b k e = ap (λ (c : ℕ). c ∷ []) e

two_bytes : (b k c l : ℕ) → c ≡ l → b ≡ k → b ∷ c ∷ [] ≡ k ∷ l ∷ []
two_bytes b k c l f e = ap (λ (d : ℕ). d ∷ c ∷ []) e ∙ ap (λ (d : ℕ). k ∷ d ∷ []) f

twice : (b k c : ℕ) → c ≡ b → b ≡ k → b ∷ c ∷ [] ≡ k ∷ k ∷ []
twice b k c f e = two_bytes b k c k (f ∙ e) e

single_spelled : (b : ℕ) → Spelled (b ∷ []) (single b)
single_spelled b =
    (spelled_if b 0x2b _ Plus _ (one_byte b 0x2b)
    (spelled_if b 0x2d _ Minus _ (one_byte b 0x2d)
    (spelled_if b 0x2a _ Times _ (one_byte b 0x2a)
    (spelled_if b 0x2f _ Divide _ (one_byte b 0x2f)
    (spelled_if b 0x25 _ Remainder _ (one_byte b 0x25)
    (spelled_if b 0x2e _ Dot _ (one_byte b 0x2e)
    (spelled_if b 0x3d _ Assign _ (one_byte b 0x3d)
    (spelled_if b 0x3c _ Less _ (one_byte b 0x3c)
    (spelled_if b 0x3e _ Greater _ (one_byte b 0x3e)
    (spelled_if b 0x21 _ Not _ (one_byte b 0x21)
    (spelled_if b 0x3f _ Question _ (one_byte b 0x3f)
    (spelled_if b 0x3a _ Colon _ (one_byte b 0x3a)
    (spelled_if b 0x28 _ OpenParen _ (one_byte b 0x28)
    (spelled_if b 0x29 _ CloseParen _ (one_byte b 0x29)
    (spelled_if b 0x5b _ OpenBracket _ (one_byte b 0x5b)
    (spelled_if b 0x5d _ CloseBracket _ (one_byte b 0x5d)
    (spelled_if b 0x7b _ OpenBrace _ (one_byte b 0x7b)
    (spelled_if b 0x7d _ CloseBrace _ (one_byte b 0x7d)
    (spelled_if b 0x2c _ Comma _ (one_byte b 0x2c)
    (spelled_if b 0x3b _ Semicolon _ (one_byte b 0x3b) tt))))))))))))))))))))

with_equals_spelled : (b c : ℕ) → c ≡ 0x3d → Spelled (b ∷ c ∷ []) (with_equals b)
with_equals_spelled b c f =
    (spelled_if b 0x2b _ PlusAssign _ (two_bytes b 0x2b c 0x3d f)
    (spelled_if b 0x2d _ MinusAssign _ (two_bytes b 0x2d c 0x3d f)
    (spelled_if b 0x2a _ TimesAssign _ (two_bytes b 0x2a c 0x3d f)
    (spelled_if b 0x2f _ DivideAssign _ (two_bytes b 0x2f c 0x3d f)
    (spelled_if b 0x25 _ RemainderAssign _ (two_bytes b 0x25 c 0x3d f)
    (spelled_if b 0x3d _ Equal _ (two_bytes b 0x3d c 0x3d f)
    (spelled_if b 0x21 _ NotEqual _ (two_bytes b 0x21 c 0x3d f)
    (spelled_if b 0x3c _ LessOrEqual _ (two_bytes b 0x3c c 0x3d f)
    (spelled_if b 0x3e _ GreaterOrEqual _ (two_bytes b 0x3e c 0x3d f) tt)))))))))

doubled_spelled : (b c : ℕ) → c ≡ b → Spelled (b ∷ c ∷ []) (doubled b)
doubled_spelled b c f =
    (spelled_if b 0x2e _ Join _ (twice b 0x2e c f)
    (spelled_if b 0x26 _ And _ (twice b 0x26 c f)
    (spelled_if b 0x7c _ Or _ (twice b 0x7c c f)
    (spelled_if b 0x2b _ Increment _ (twice b 0x2b c f)
    (spelled_if b 0x2d _ Decrement _ (twice b 0x2d c f) tt)))))

pair_spelled : (b c : ℕ) → Spelled (b ∷ c ∷ []) (pair b c)
pair_spelled b c = by (eqb c 0x3d) refl (eqb c b) refl
  where
    by : (t : Bool) → eqb c 0x3d ≡ t → (u : Bool) → eqb c b ≡ u → Spelled (b ∷ c ∷ []) (cond t (with_equals b) (cond u (doubled b) None))
    by true e u f = with_equals_spelled b c (eqb-true c 0x3d e)
    by false e true f = doubled_spelled b c (eqb-true c b f)
    by false e false f = tt

-- `=` behind a sign makes the longer one
longer_spelled : (s : Sign) (word : Bytes) → word ≡ spelling s → Spelled (word ++ 0x3d ∷ []) (lengthened s)
longer_spelled Join word e = ap (λ (w : Bytes). w ++ 0x3d ∷ []) e
longer_spelled Equal word e = ap (λ (w : Bytes). w ++ 0x3d ∷ []) e
longer_spelled NotEqual word e = ap (λ (w : Bytes). w ++ 0x3d ∷ []) e
longer_spelled _ word e = tt

three_spelled : (b c d : ℕ) (o : Option Sign) → Spelled (b ∷ c ∷ []) o → Spelled (b ∷ c ∷ d ∷ []) (lengthened_by o d)
three_spelled b c d None is = tt
three_spelled b c d (Some s) is = by (eqb d 0x3d) refl
  where
    by : (t : Bool) → eqb d 0x3d ≡ t → Spelled (b ∷ c ∷ d ∷ []) (cond t (lengthened s) None)
    by true e = subst (λ (k : ℕ). Spelled (b ∷ c ∷ k ∷ []) (lengthened s)) (sym (eqb-true d 0x3d e)) (longer_spelled s (b ∷ c ∷ []) is)
    by false e = tt

before_spells : (o : Option Sign) (word rest : Bytes) → Spelled word o → SpellsFront (word ++ rest) (before o rest)
before_spells None word rest is = tt
before_spells (Some s) word rest is = ap (λ (w : Bytes). w ++ rest) is

either_spells : (text : Bytes) (x y : Option (Sign × Bytes)) → SpellsFront text x → SpellsFront text y → SpellsFront text (or_else x y)
either_spells text None y p q = q
either_spells text (Some x) y p q = p

pub sign_spells : (text : Bytes) → SpellsFront text (sign_at text)
sign_spells text = either_spells text (sign_of_three text) _ (three text) (either_spells text (sign_of_two text) (sign_of_one text) (two text) (one text))
  where
    one : (text : Bytes) → SpellsFront text (sign_of_one text)
    one [] = tt
    one (b ∷ bs) = before_spells (single b) (b ∷ []) bs (single_spelled b)

    two : (text : Bytes) → SpellsFront text (sign_of_two text)
    two [] = tt
    two (b ∷ []) = tt
    two (b ∷ c ∷ cs) = before_spells (pair b c) (b ∷ c ∷ []) cs (pair_spelled b c)

    three : (text : Bytes) → SpellsFront text (sign_of_three text)
    three [] = tt
    three (b ∷ []) = tt
    three (b ∷ c ∷ []) = tt
    three (b ∷ c ∷ d ∷ ds) = before_spells (lengthened_by (pair b c) d) (b ∷ c ∷ d ∷ []) ds (three_spelled b c d (pair b c) (pair_spelled b c))

-- ---- a sign that stands at the front is found, or a longer one

pub record FindsSign (text after : Bytes) (s : Sign) : Type 0 where
  pub found : Sign
  pub rest : Bytes
  pub is : sign_at text ≡ Some (found, rest)
  pub shorter : length rest ≤ length after
  pub same : length rest ≡ length after → s ≡ found

finds_three : (b c d : ℕ) (after : Bytes) (s : Sign) → lengthened_by (pair b c) d ≡ Some s → FindsSign (b ∷ c ∷ d ∷ after) after s
finds_three b c d after s e = record {
  found = s;
  rest = after;
  is = ap (λ (o : Option Sign). or_else (before o after) (or_else (before (pair b c) (d ∷ after)) (before (single b) (c ∷ d ∷ after)))) e;
  shorter = omega arith;
  same = λ n. refl;
}

finds_two : (b c : ℕ) (after : Bytes) (s : Sign) → pair b c ≡ Some s → FindsSign (b ∷ c ∷ after) after s
finds_two b c [] s e = record {
  found = s;
  rest = [];
  is = ap (λ (o : Option Sign). or_else (before o []) (before (single b) (c ∷ []))) e;
  shorter = omega arith;
  same = λ n. refl;
}
finds_two b c (d ∷ ds) s e = by (lengthened_by (pair b c) d) refl
  where
    by : (o : Option Sign) → lengthened_by (pair b c) d ≡ o → FindsSign (b ∷ c ∷ d ∷ ds) (d ∷ ds) s
    by (Some t) f = let longer = finds_three b c d ds t f in record {
      found = longer.found;
      rest = longer.rest;
      is = longer.is;
      shorter = omega (arith, longer.shorter);
      same = λ n. absurd (omega (arith, n, longer.shorter));
    }
    by None f = record {
      found = s;
      rest = d ∷ ds;
      is = ap (λ (o : Option Sign). or_else (before o ds) (or_else (before (pair b c) (d ∷ ds)) (before (single b) (c ∷ d ∷ ds)))) f
          ∙ ap (λ (o : Option Sign). or_else (before o (d ∷ ds)) (before (single b) (c ∷ d ∷ ds))) e;
      shorter = omega arith;
      same = λ n. refl;
    }

finds_longer : (b c : ℕ) (cs : Bytes) (s t : Sign) → FindsSign (b ∷ c ∷ cs) cs t → FindsSign (b ∷ c ∷ cs) (c ∷ cs) s
finds_longer b c cs s t longer = record {
  found = longer.found;
  rest = longer.rest;
  is = longer.is;
  shorter = omega (arith, longer.shorter);
  same = λ n. absurd (omega (arith, n, longer.shorter));
}

finds_one : (b : ℕ) (after : Bytes) (s : Sign) → single b ≡ Some s → FindsSign (b ∷ after) after s
finds_one b [] s e = record {
  found = s;
  rest = [];
  is = ap (λ (o : Option Sign). before o []) e;
  shorter = omega arith;
  same = λ n. refl;
}
finds_one b (c ∷ cs) s e = by (pair b c) refl
  where
    alone : (cs : Bytes) → pair b c ≡ None → sign_at (b ∷ c ∷ cs) ≡ before (single b) (c ∷ cs)
    alone [] f = ap (λ (o : Option Sign). or_else (before o []) (before (single b) (c ∷ []))) f
    alone (d ∷ ds) f = ap (λ (o : Option Sign). or_else (before (lengthened_by o d) ds) (or_else (before o (d ∷ ds)) (before (single b) (c ∷ d ∷ ds)))) f

    by : (o : Option Sign) → pair b c ≡ o → FindsSign (b ∷ c ∷ cs) (c ∷ cs) s
    by (Some t) f = finds_longer b c cs s t (finds_two b c cs t f)
    by None f = record {
      found = s;
      rest = c ∷ cs;
      is = alone cs f ∙ ap (λ (o : Option Sign). before o (c ∷ cs)) e;
      shorter = omega arith;
      same = λ n. refl;
    }

pub finds_sign : (s : Sign) (after : Bytes) → FindsSign (spelling s ++ after) after s
finds_sign Plus after = finds_one 0x2b after Plus refl
finds_sign Minus after = finds_one 0x2d after Minus refl
finds_sign Times after = finds_one 0x2a after Times refl
finds_sign Divide after = finds_one 0x2f after Divide refl
finds_sign Remainder after = finds_one 0x25 after Remainder refl
finds_sign Join after = finds_two 0x2e 0x2e after Join refl
finds_sign Dot after = finds_one 0x2e after Dot refl
finds_sign Assign after = finds_one 0x3d after Assign refl
finds_sign PlusAssign after = finds_two 0x2b 0x3d after PlusAssign refl
finds_sign MinusAssign after = finds_two 0x2d 0x3d after MinusAssign refl
finds_sign TimesAssign after = finds_two 0x2a 0x3d after TimesAssign refl
finds_sign DivideAssign after = finds_two 0x2f 0x3d after DivideAssign refl
finds_sign RemainderAssign after = finds_two 0x25 0x3d after RemainderAssign refl
finds_sign JoinAssign after = finds_three 0x2e 0x2e 0x3d after JoinAssign refl
finds_sign Equal after = finds_two 0x3d 0x3d after Equal refl
finds_sign NotEqual after = finds_two 0x21 0x3d after NotEqual refl
finds_sign Same after = finds_three 0x3d 0x3d 0x3d after Same refl
finds_sign NotSame after = finds_three 0x21 0x3d 0x3d after NotSame refl
finds_sign Less after = finds_one 0x3c after Less refl
finds_sign LessOrEqual after = finds_two 0x3c 0x3d after LessOrEqual refl
finds_sign Greater after = finds_one 0x3e after Greater refl
finds_sign GreaterOrEqual after = finds_two 0x3e 0x3d after GreaterOrEqual refl
finds_sign And after = finds_two 0x26 0x26 after And refl
finds_sign Or after = finds_two 0x7c 0x7c after Or refl
finds_sign Not after = finds_one 0x21 after Not refl
finds_sign Increment after = finds_two 0x2b 0x2b after Increment refl
finds_sign Decrement after = finds_two 0x2d 0x2d after Decrement refl
finds_sign Question after = finds_one 0x3f after Question refl
finds_sign Colon after = finds_one 0x3a after Colon refl
finds_sign OpenParen after = finds_one 0x28 after OpenParen refl
finds_sign CloseParen after = finds_one 0x29 after CloseParen refl
finds_sign OpenBracket after = finds_one 0x5b after OpenBracket refl
finds_sign CloseBracket after = finds_one 0x5d after CloseBracket refl
finds_sign OpenBrace after = finds_one 0x7b after OpenBrace refl
finds_sign CloseBrace after = finds_one 0x7d after CloseBrace refl
finds_sign Comma after = finds_one 0x2c after Comma refl
finds_sign Semicolon after = finds_one 0x3b after Semicolon refl
