-- Reading numbers, literals and all values without parts.
use Rattle.std.proofs.Common.{◌≡◌, ◌≢◌, ℕ, ◌<◌, ◌≤◌, Bool, true, false, cond, eqb, ◌&&◌, ◌⊎◌, inl, inr, [], ◌∷◌, ◌++◌, Option, Some, None, Ok, Err, refl, sym, ap, subst, ◌∙◌, ℤ, codes, arith}
use Rattle.std.specs.Char.{is_ascii_digit}
use Rattle.std.specs.List.{list_all}
use Rattle.std.proofs.lemmas.Bool.{eqb-true, eq-eqb, ne_eqb}
use Rattle.std.proofs.lemmas.Bool.Decides.{nat_tests}
use Rattle.uq_value.specs.Data.{Bytes, Data, null, bool, int, text}
use Rattle.uq_value.specs.Number.{digits_value, positive, negative}
use Rattle.uq_json.specs.Grammar.{has_no_leading_zero, IsNatural, IsNumber, plain, minus, IsScalar, of_null, of_true, of_false, of_number, of_string}
use Rattle.uq_json.specs.Internal.Reading.{Read, ◌>>=◌, literal, digits_of, behind_digits, natural, number_or_fault, number_at, inside_at, string_at, scalar_at}
use Rattle.uq_json.specs.declared.error.JsonFault.TheVariants.{NotJson}
use Rattle.uq_json.proofs.Steps.{bind_ok, chosen, if_true, if_false, Takes, no_ok}
use Rattle.uq_json.proofs.Pieces.{inside_takes, string_again}

-- ---- digits

abbrev pub NoDigit : Bytes → Type 0
NoDigit [] = Unit {0}
NoDigit (c ∷ cs) = is_ascii_digit c ≡ false

digits_split : (ts : Bytes) → ts ≡ digits_of ts ++ behind_digits ts
digits_split [] = refl
digits_split (c ∷ cs) = elim (is_ascii_digit c) as (λ b. c ∷ cs ≡ cond b (c ∷ digits_of cs) [] ++ cond b (behind_digits cs) (c ∷ cs)) [ true ↦ ap (λ (w : Bytes). c ∷ w) (digits_split cs) | false ↦ refl ]

pub are_digits : (ts : Bytes) → list_all is_ascii_digit (digits_of ts) ≡ true
are_digits [] = refl
are_digits (c ∷ cs) = by (is_ascii_digit c) refl (are_digits cs)
  where
    by : (b : Bool) → is_ascii_digit c ≡ b → list_all is_ascii_digit (digits_of cs) ≡ true → list_all is_ascii_digit (cond b (c ∷ digits_of cs) []) ≡ true
    by true e others = ap (λ (b : Bool). b && list_all is_ascii_digit (digits_of cs)) e ∙ others
    by false e others = refl

both_true : (a b : Bool) → (a && b) ≡ true → (a ≡ true) × (b ≡ true)
both_true true b e = (refl, e)
both_true false b e = absurd (cc)

digits_front : (w rest : Bytes) → list_all is_ascii_digit w ≡ true → NoDigit rest → (digits_of (w ++ rest) ≡ w) × (behind_digits (w ++ rest) ≡ rest)
digits_front [] [] all end = (refl, refl)
digits_front [] (c ∷ cs) all end = (if_false (is_ascii_digit c) (c ∷ digits_of cs) [] end, if_false (is_ascii_digit c) (behind_digits cs) (c ∷ cs) end)
digits_front (c ∷ cs) rest all end =
    let parts = both_true (is_ascii_digit c) (list_all is_ascii_digit cs) all in
    let others = digits_front cs rest parts.1 end in
    (if_true (is_ascii_digit c) (c ∷ digits_of (cs ++ rest)) [] parts.0 ∙ ap (λ (w : Bytes). c ∷ w) others.0, if_true (is_ascii_digit c) (behind_digits (cs ++ rest)) (c ∷ (cs ++ rest)) parts.0 ∙ others.1)

pub digit_range : (c : ℕ) → is_ascii_digit c ≡ true → (48 ≤ c) × (c < 58)
digit_range c e = grind (arith, nat_tests)

pub digit_no : (c : ℕ) → (c < 48) ⊎ (57 < c) → is_ascii_digit c ≡ false
digit_no c h = grind (arith, nat_tests)

-- ---- numbers

natural_some : (ds : Bytes) (b : Bool) (f : Option ℕ → Option ℤ) (z : ℤ) → f None ≡ None → has_no_leading_zero ds ≡ b → f (cond b (Some (digits_value 0 ds)) None) ≡ Some z → (has_no_leading_zero ds ≡ true) × (f (Some (digits_value 0 ds)) ≡ Some z)
natural_some ds true f z none is e = (is, e)
natural_some ds false f z none is e = let clash : None ≡ Some z = sym none ∙ e in absurd (cc)

number_some : (o : Option ℤ) (rest : Bytes) (x : ℤ × Bytes) → number_or_fault o rest ≡ Ok x → (o ≡ Some x.0) × (rest ≡ x.1)
number_some (Some z) rest x e = (let same : z ≡ x.0 = cc in ap (λ (y : ℤ). Some y) same, cc)
number_some None rest x e = absurd (no_ok NotJson x e)

pub number_takes : (ts : Bytes) (x : ℤ × Bytes) → number_at ts ≡ Ok x → Takes IsNumber ts x
number_takes [] x e = absurd (no_ok NotJson x e)
number_takes (c ∷ cs) x e =
    elim (chosen (eqb c 0x2d) (number_or_fault (negative (natural (digits_of cs))) (behind_digits cs)) (number_or_fault (positive (natural (digits_of (c ∷ cs)))) (behind_digits (c ∷ cs))) (Ok x) e) [
      | inl both ↦
          let found = number_some (negative (natural (digits_of cs))) (behind_digits cs) x both.1 in
          let some = natural_some (digits_of cs) (has_no_leading_zero (digits_of cs)) negative x.0 refl refl found.0 in
          record {
            used = 0x2d ∷ digits_of cs;
            split = ap (λ (n : ℕ). n ∷ cs) (eqb-true c 0x2d both.0) ∙ ap (λ (w : Bytes). 0x2d ∷ w) (digits_split cs ∙ ap (λ (w : Bytes). digits_of cs ++ w) found.1);
            reads = minus (digits_of cs) refl (record { digits = are_digits cs; leads = some.0 }) some.1;
          }
      | inr both ↦
          let found = number_some (positive (natural (digits_of (c ∷ cs)))) (behind_digits (c ∷ cs)) x both.1 in
          let some = natural_some (digits_of (c ∷ cs)) (has_no_leading_zero (digits_of (c ∷ cs))) positive x.0 refl refl found.0 in
          record {
            used = digits_of (c ∷ cs);
            split = digits_split (c ∷ cs) ∙ ap (λ (w : Bytes). digits_of (c ∷ cs) ++ w) found.1;
            reads = plain (record { digits = are_digits (c ∷ cs); leads = some.0 }) some.1;
          }
    ]

-- a digit or a minus
pub record NumberBegins (w : Bytes) : Type 0 where
  pub first : ℕ
  pub others : Bytes
  pub is : w ≡ first ∷ others
  pub low : 0x2d ≤ first
  pub high : first < 0x3a

natural_begins : (w : Bytes) → IsNatural w → (c : ℕ) × (cs : Bytes) × (w ≡ c ∷ cs) × (48 ≤ c) × (c < 58)
natural_begins [] is = let e = is.leads in absurd (cc)
natural_begins (c ∷ cs) is = let range = digit_range c (both_true (is_ascii_digit c) (list_all is_ascii_digit cs) is.digits).0 in (c, cs, refl, range.0, range.1)

pub number_begins : (w : Bytes) (z : ℤ) → IsNumber w z → NumberBegins w
number_begins w z (plain is value) = let b = natural_begins w is in record { first = b.0; others = b.1; is = b.2; low = omega (arith, b.3); high = omega (arith, b.4) }
number_begins w z (minus ds sign is value) = record { first = 0x2d; others = ds; is = sign; low = omega arith; high = omega arith }

natural_is : (ds : Bytes) → IsNatural ds → natural ds ≡ Some (digits_value 0 ds)
natural_is ds is = if_true (has_no_leading_zero ds) (Some (digits_value 0 ds)) None is.leads

pub number_again : (w : Bytes) (z : ℤ) (rest : Bytes) → IsNumber w z → NoDigit rest → number_at (w ++ rest) ≡ Ok (z, rest)
number_again w z rest (plain is value) end =
    let b = natural_begins w is in
    let front = digits_front w rest is.digits end in
    let shown : w ++ rest ≡ b.0 ∷ (b.1 ++ rest) = ap (λ (v : Bytes). v ++ rest) b.2 in
    ap number_at shown
    ∙ if_false (eqb b.0 0x2d) (number_or_fault (negative (natural (digits_of (b.1 ++ rest)))) (behind_digits (b.1 ++ rest))) (number_or_fault (positive (natural (digits_of (b.0 ∷ (b.1 ++ rest))))) (behind_digits (b.0 ∷ (b.1 ++ rest)))) (ne_eqb b.0 0x2d (λ same. omega (arith, same, b.3)))
    ∙ ap (λ (v : Bytes). number_or_fault (positive (natural (digits_of v))) (behind_digits v)) (sym shown)
    ∙ ap (λ (v : Bytes). number_or_fault (positive (natural v)) (behind_digits (w ++ rest))) front.0
    ∙ ap (λ (v : Bytes). number_or_fault (positive (natural w)) v) front.1
    ∙ ap (λ (o : Option ℕ). number_or_fault (positive o) rest) (natural_is w is)
    ∙ ap (λ (o : Option ℤ). number_or_fault o rest) value
number_again w z rest (minus ds sign is value) end =
    let front = digits_front ds rest is.digits end in
    ap (λ (v : Bytes). number_at (v ++ rest)) sign
    ∙ ap (λ (v : Bytes). number_or_fault (negative (natural v)) (behind_digits (ds ++ rest))) front.0
    ∙ ap (λ (v : Bytes). number_or_fault (negative (natural ds)) v) front.1
    ∙ ap (λ (o : Option ℕ). number_or_fault (negative o) rest) (natural_is ds is)
    ∙ ap (λ (o : Option ℤ). number_or_fault o rest) value

-- ---- literals

literal_takes : (ws : Bytes) (d : Data) (ts : Bytes) (x : Data × Bytes) → literal ws d ts ≡ Ok x → (ts ≡ ws ++ x.1) × (d ≡ x.0)
literal_takes [] d ts x e = (cc, cc)
literal_takes (w ∷ ws) d [] x e = absurd (no_ok NotJson x e)
literal_takes (w ∷ ws) d (c ∷ cs) x e = by (chosen (eqb c w) (literal ws d cs) (Err NotJson) (Ok x) e) (literal_takes ws d cs x)
  where
    by : ((eqb c w ≡ true) × (literal ws d cs ≡ Ok x)) ⊎ ((eqb c w ≡ false) × (◌≡◌ {A = Read Data} (Err NotJson) (Ok x))) → (literal ws d cs ≡ Ok x → (cs ≡ ws ++ x.1) × (d ≡ x.0)) → (c ∷ cs ≡ (w ∷ ws) ++ x.1) × (d ≡ x.0)
    by (inl both) again = let others = again both.1 in (ap (λ (n : ℕ). n ∷ cs) (eqb-true c w both.0) ∙ ap (λ (v : Bytes). w ∷ v) others.0, others.1)
    by (inr both) again = absurd (no_ok NotJson x both.1)

literal_again : (ws : Bytes) (d : Data) (rest : Bytes) → literal ws d (ws ++ rest) ≡ Ok (d, rest)
literal_again [] d rest = refl
literal_again (w ∷ ws) d rest = if_true (eqb w w) (literal ws d (ws ++ rest)) (Err NotJson) (eq-eqb w w refl) ∙ literal_again ws d rest

-- ---- values without parts

literal_scalar : (word : Bytes) (d : Data) (ts : Bytes) (x : Data × Bytes) → ((e : Data) → e ≡ d → IsScalar word e) → literal word d ts ≡ Ok x → Takes IsScalar ts x
literal_scalar word d ts x is e = let found = literal_takes word d ts x e in record { used = word; split = found.0; reads = is x.0 (sym found.1) }

string_scalar : (cs : Bytes) (x : Data × Bytes) → (inside_at cs >>= λ y. Ok (text y.0, y.1)) ≡ Ok x → Takes IsScalar (0x22 ∷ cs) x
string_scalar cs x e =
    let found = bind_ok (inside_at cs) (λ y. Ok (text y.0, y.1)) x e in
    let y = found.0 in
    let e2 : ◌≡◌ {A = Read Data} (Ok (text y.0, y.1)) (Ok x) = found.2 in
    let same : text y.0 ≡ x.0 = cc in
    let rest : y.1 ≡ x.1 = cc in
    let taken = inside_takes cs y found.1 in
    record { used = taken.used; split = taken.split ∙ ap (λ (w : Bytes). taken.used ++ w) rest; reads = of_string y.0 taken.reads (sym same) }

number_scalar : (ts : Bytes) (x : Data × Bytes) → (number_at ts >>= λ y. Ok (int y.0, y.1)) ≡ Ok x → Takes IsScalar ts x
number_scalar ts x e =
    let found = bind_ok (number_at ts) (λ y. Ok (int y.0, y.1)) x e in
    let y = found.0 in
    let e2 : ◌≡◌ {A = Read Data} (Ok (int y.0, y.1)) (Ok x) = found.2 in
    let same : int y.0 ≡ x.0 = cc in
    let rest : y.1 ≡ x.1 = cc in
    let taken = number_takes ts y found.1 in
    record { used = taken.used; split = taken.split ∙ ap (λ (w : Bytes). taken.used ++ w) rest; reads = of_number y.0 taken.reads (sym same) }

by_test : {A : Type 0} (P : Type 0) (b : Bool) (x y z : A) → cond b x y ≡ z → (b ≡ true → x ≡ z → P) → (b ≡ false → y ≡ z → P) → P
by_test P true x y z e f g = f refl e
by_test P false x y z e f g = g refl e

pub scalar_takes : (ts : Bytes) (x : Data × Bytes) → scalar_at ts ≡ Ok x → Takes IsScalar ts x
scalar_takes [] x e = absurd (no_ok NotJson x e)
scalar_takes (c ∷ cs) x e =
    let P : Type 0 = Takes IsScalar (c ∷ cs) x in
    by_test P (eqb c 0x22) (inside_at cs >>= λ y. Ok (text y.0, y.1)) _ (Ok x) e (λ is f. subst (λ (n : ℕ). Takes IsScalar (n ∷ cs) x) (sym (eqb-true c 0x22 is)) (string_scalar cs x f)) (λ n1 e1.
    by_test P (eqb c 0x6e) (literal (codes "null") null (c ∷ cs)) _ (Ok x) e1 (λ is f. literal_scalar (codes "null") null (c ∷ cs) x (λ d s. of_null refl s) f) (λ n2 e2.
    by_test P (eqb c 0x74) (literal (codes "true") (bool true) (c ∷ cs)) _ (Ok x) e2 (λ is f. literal_scalar (codes "true") (bool true) (c ∷ cs) x (λ d s. of_true refl s) f) (λ n3 e3.
    by_test P (eqb c 0x66) (literal (codes "false") (bool false) (c ∷ cs)) (number_at (c ∷ cs) >>= λ y. Ok (int y.0, y.1)) (Ok x) e3 (λ is f. literal_scalar (codes "false") (bool false) (c ∷ cs) x (λ d s. of_false refl s) f) (λ n4 e4. number_scalar (c ∷ cs) x e4))))

-- ---- what they begin with

pub record ScalarBegins (w : Bytes) : Type 0 where
  pub first : ℕ
  pub others : Bytes
  pub is : w ≡ first ∷ others
  pub printed : 0x20 < first
  pub no_list : first ≢ 0x5b
  pub no_object : first ≢ 0x7b
  pub no_list_end : first ≢ 0x5d
  pub no_object_end : first ≢ 0x7d

pub scalar_begins : (w : Bytes) (d : Data) → IsScalar w d → ScalarBegins w
scalar_begins w d (of_null is value) = record { first = 0x6e; others = codes "ull"; is = is; printed = omega arith; no_list = omega arith; no_object = omega arith; no_list_end = omega arith; no_object_end = omega arith }
scalar_begins w d (of_true is value) = record { first = 0x74; others = codes "rue"; is = is; printed = omega arith; no_list = omega arith; no_object = omega arith; no_list_end = omega arith; no_object_end = omega arith }
scalar_begins w d (of_false is value) = record { first = 0x66; others = codes "alse"; is = is; printed = omega arith; no_list = omega arith; no_object = omega arith; no_list_end = omega arith; no_object_end = omega arith }
scalar_begins w d (of_number z is value) = let b = number_begins w z is in let low = b.low in let high = b.high in record { first = b.first; others = b.others; is = b.is; printed = omega arith; no_list = omega arith; no_object = omega arith; no_list_end = omega arith; no_object_end = omega arith }
scalar_begins w d (of_string bs is value) = record { first = 0x22; others = is.body; is = is.opened; printed = omega arith; no_list = omega arith; no_object = omega arith; no_list_end = omega arith; no_object_end = omega arith }

number_last : (c : ℕ) (cs : Bytes) → 0x2d ≤ c → c < 0x3a → scalar_at (c ∷ cs) ≡ (number_at (c ∷ cs) >>= λ y. Ok (int y.0, y.1))
number_last c cs low high =
    if_false (eqb c 0x22) (inside_at cs >>= λ y. Ok (text y.0, y.1)) _ (ne_eqb c 0x22 (λ e. omega (arith, e)))
    ∙ if_false (eqb c 0x6e) (literal (codes "null") null (c ∷ cs)) _ (ne_eqb c 0x6e (λ e. omega (arith, e)))
    ∙ if_false (eqb c 0x74) (literal (codes "true") (bool true) (c ∷ cs)) _ (ne_eqb c 0x74 (λ e. omega (arith, e)))
    ∙ if_false (eqb c 0x66) (literal (codes "false") (bool false) (c ∷ cs)) (number_at (c ∷ cs) >>= λ y. Ok (int y.0, y.1)) (ne_eqb c 0x66 (λ e. omega (arith, e)))

pub scalar_again : (w : Bytes) (d : Data) (rest : Bytes) → IsScalar w d → NoDigit rest → scalar_at (w ++ rest) ≡ Ok (d, rest)
scalar_again w d rest (of_null is value) end = ap (λ (v : Bytes). scalar_at (v ++ rest)) is ∙ literal_again (codes "null") null rest ∙ ap (λ (e : Data). Ok (e, rest)) (sym value)
scalar_again w d rest (of_true is value) end = ap (λ (v : Bytes). scalar_at (v ++ rest)) is ∙ literal_again (codes "true") (bool true) rest ∙ ap (λ (e : Data). Ok (e, rest)) (sym value)
scalar_again w d rest (of_false is value) end = ap (λ (v : Bytes). scalar_at (v ++ rest)) is ∙ literal_again (codes "false") (bool false) rest ∙ ap (λ (e : Data). Ok (e, rest)) (sym value)
scalar_again w d rest (of_number z is value) end =
    let b = number_begins w z is in
    let shown : w ++ rest ≡ b.first ∷ (b.others ++ rest) = ap (λ (v : Bytes). v ++ rest) b.is in
    ap scalar_at shown ∙ number_last b.first (b.others ++ rest) b.low b.high ∙ ap (λ (v : Bytes). number_at v >>= λ y. Ok (int y.0, y.1)) (sym shown)
    ∙ ap (λ (r : Read ℤ). r >>= λ y. Ok (int y.0, y.1)) (number_again w z rest is end) ∙ ap (λ (e : Data). Ok (e, rest)) (sym value)
scalar_again w d rest (of_string bs is value) end =
    ap (λ (v : Bytes). scalar_at (v ++ rest)) is.opened
    ∙ ap (λ (r : Read Bytes). r >>= λ y. Ok (text y.0, y.1)) (ap (λ (v : Bytes). string_at (v ++ rest)) (sym is.opened) ∙ string_again w bs rest is)
    ∙ ap (λ (e : Data). Ok (e, rest)) (sym value)
