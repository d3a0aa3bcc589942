-- What is told where reading comes to a bracket too many.
use Rattle.std.proofs.Common.{◌≡◌, ℕ, Bool, true, false, cond, ◌&&◌, ◌⊎◌, inl, inr, [], ◌∷◌, ◌++◌, refl, sym, ap, ◌∙◌, ◌<◌, arith}
use Rattle.std.specs.Char.{is_ascii_digit}
use Rattle.std.specs.List.{list_all}
use Rattle.std.proofs.lemmas.Bool.Decides.{nat_tests}
use Rattle.uq_value.specs.Data.{Bytes}
use Rattle.uq_json.specs.Grammar.{Language, is_blank, AreBlanks}
use Rattle.uq_json.specs.Internal.Reading.{is_next, skip_blanks}
use Rattle.uq_json.proofs.Steps.{if_true, if_false}
use Rattle.uq_json.proofs.Scalars.{NoDigit, digit_no}

abbrev pub IsOpening : ℕ → Type 0
IsOpening c = (c ≡ 0x5b) ⊎ (c ≡ 0x7b)

-- the bytes seen, with a bracket behind them: reading stops there whatever follows, the bytes without the bracket begin
-- a word, and with it they begin a word of one level more
pub record Deep {A : Type 0} (L more : Language A) (Stops : Bytes → ℕ → Type 0) (ts : Bytes) : Type 0 where
  pub seen : Bytes
  pub opening : ℕ
  pub after : Bytes
  pub split : ts ≡ seen ++ opening ∷ after
  pub is_opening : IsOpening opening
  pub stops : Stops seen opening
  pub within : (w : Bytes) × (a : A) × L (seen ++ w) a
  pub beyond : (w : Bytes) × (a : A) × more (seen ++ opening ∷ w) a

-- ---- blanks

-- what may stand behind a word with blanks: no blank, and no digit
abbrev pub Ends : Bytes → Type 0
Ends [] = Unit {0}
Ends (c ∷ cs) = (is_blank c ≡ false) × (is_ascii_digit c ≡ false)

abbrev pub blanks_of : Bytes → Bytes
blanks_of [] = []
blanks_of (c ∷ cs) = cond (is_blank c) (c ∷ blanks_of cs) []

pub blanks_split : (ts : Bytes) → ts ≡ blanks_of ts ++ skip_blanks ts
blanks_split [] = refl
blanks_split (c ∷ cs) = elim (is_blank c) as (λ b. c ∷ cs ≡ cond b (c ∷ blanks_of cs) [] ++ cond b (skip_blanks cs) (c ∷ cs)) [ true ↦ ap (λ (w : Bytes). c ∷ w) (blanks_split cs) | false ↦ refl ]

pub are_blanks : (ts : Bytes) → AreBlanks (blanks_of ts)
are_blanks [] = refl
are_blanks (c ∷ cs) = by (is_blank c) refl (are_blanks cs)
  where
    by : (b : Bool) → is_blank c ≡ b → AreBlanks (blanks_of cs) → AreBlanks (cond b (c ∷ blanks_of cs) [])
    by true e others = ap (λ (b : Bool). b && list_all is_blank (blanks_of cs)) e ∙ others
    by false e others = refl

both_true : (a b : Bool) → (a && b) ≡ true → (a ≡ true) × (b ≡ true)
both_true true b e = (refl, e)
both_true false b e = absurd (cc)

pub skip_past : (blanks rest : Bytes) → AreBlanks blanks → skip_blanks (blanks ++ rest) ≡ skip_blanks rest
skip_past [] rest are = refl
skip_past (c ∷ cs) rest are = let parts = both_true (is_blank c) (list_all is_blank cs) are in if_true (is_blank c) (skip_blanks (cs ++ rest)) (c ∷ (cs ++ rest)) parts.0 ∙ skip_past cs rest parts.1

pub skip_none : (c : ℕ) (cs : Bytes) → is_blank c ≡ false → skip_blanks (c ∷ cs) ≡ c ∷ cs
skip_none c cs e = if_false (is_blank c) (skip_blanks cs) (c ∷ cs) e

pub skip_ends : (ts : Bytes) → Ends ts → skip_blanks ts ≡ ts
skip_ends [] end = refl
skip_ends (c ∷ cs) end = skip_none c cs end.0

pub skip_head : (ts : Bytes) (c : ℕ) (cs : Bytes) → skip_blanks ts ≡ c ∷ cs → is_blank c ≡ false
skip_head [] c cs e = absurd (cc)
skip_head (d ∷ ds) c cs e = by (is_blank d) refl e (skip_head ds c cs)
  where
    by : (b : Bool) → is_blank d ≡ b → cond b (skip_blanks ds) (d ∷ ds) ≡ c ∷ cs → (skip_blanks ds ≡ c ∷ cs → is_blank c ≡ false) → is_blank c ≡ false
    by true is f again = again f
    by false is f again = let same : d ≡ c = cc in ap is_blank (sym same) ∙ is

pub not_blank : (c : ℕ) → 0x20 < c → is_blank c ≡ false
not_blank c h = grind (arith, nat_tests)

pub opening_not_blank : (c : ℕ) → IsOpening c → is_blank c ≡ false
opening_not_blank c (inl e) = not_blank c (omega (arith, e))
opening_not_blank c (inr e) = not_blank c (omega (arith, e))

-- the next byte behind blanks doesn't depend on what follows it
pub same_next : (close : ℕ) (seen : Bytes) (opening : ℕ) (x y : Bytes) → is_blank opening ≡ false → is_next close (skip_blanks (seen ++ opening ∷ x)) ≡ is_next close (skip_blanks (seen ++ opening ∷ y))
same_next close [] opening x y e = ap (is_next close) (skip_none opening x e) ∙ sym (ap (is_next close) (skip_none opening y e))
same_next close (c ∷ cs) opening x y e = elim (is_blank c) as (λ b. is_next close (cond b (skip_blanks (cs ++ opening ∷ x)) (c ∷ (cs ++ opening ∷ x))) ≡ is_next close (cond b (skip_blanks (cs ++ opening ∷ y)) (c ∷ (cs ++ opening ∷ y))))
    [ true ↦ same_next close cs opening x y e | false ↦ refl ]

pub skip_again : (ts seen : Bytes) (opening : ℕ) (after x : Bytes) → is_blank opening ≡ false → skip_blanks ts ≡ seen ++ opening ∷ after → skip_blanks (blanks_of ts ++ (seen ++ opening ∷ x)) ≡ seen ++ opening ∷ x
skip_again ts [] opening after x blank e = skip_past (blanks_of ts) (opening ∷ x) (are_blanks ts) ∙ skip_none opening x blank
skip_again ts (c ∷ cs) opening after x blank e = skip_past (blanks_of ts) ((c ∷ cs) ++ opening ∷ x) (are_blanks ts) ∙ skip_none c (cs ++ opening ∷ x) (skip_head ts c (cs ++ opening ∷ after) e)

pub ends_no_digit : (blanks rest : Bytes) → AreBlanks blanks → Ends rest → NoDigit (blanks ++ rest)
ends_no_digit [] [] are end = tt
ends_no_digit [] (c ∷ cs) are end = end.1
ends_no_digit (c ∷ cs) rest are end = digit_no c (blank_low c (both_true (is_blank c) (list_all is_blank cs) are).0)
  where
    blank_low : (c : ℕ) → is_blank c ≡ true → (c < 48) ⊎ (57 < c)
    blank_low c e = inl (low c e)
      where
        low : (c : ℕ) → is_blank c ≡ true → c < 48
        low c e = grind (arith, nat_tests)
