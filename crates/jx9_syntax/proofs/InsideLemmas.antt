-- Texts in quotes: what is read of them is what stands there.
use Rattle.std.specs.Char.{is_ascii_hexdigit, digit_value}
use Rattle.std.proofs.Common.{◌≡◌, ℕ, zero, suc, ◌+◌, ◌*◌, ◌≤◌, Bool, true, false, cond, eqb, ◌||◌, ◌&&◌, List, [], ◌∷◌, length, Option, Some, None, refl, sym, ap, subst, ◌∙◌, arith}
use Rattle.std.proofs.lemmas.Bool.{eqb-true, eq-eqb}
use Rattle.uq_value.specs.Data.{Bytes}
use Rattle.jx9_syntax.specs.Bytes.{is_name_byte, is_letter, run, behind}
use Rattle.jx9_syntax.specs.Quoted.{Piece, byte, variable, Cut, backslash, single_escape_at, letter, number_escape_at, letter_escape_at, double_escape_at, escape_at, variable_at, dollar_at, piece_at, Inside}
use Rattle.jx9_syntax.specs.Front.{◌>>=◌, pieces_within}
use Rattle.jx9_syntax.proofs.Runs.{if_true, if_false, Suffix, whole, further, through, no_longer, behind_suffix}

-- what a cut leaves is left of these bytes
abbrev Leaves : Bytes → Cut → Type 0
Leaves text None = Unit {0}
Leaves text (Some x) = Suffix x.1 text

leaves_if : (text : Bytes) (t : Bool) (x y : Cut) → Leaves text x → Leaves text y → Leaves text (cond t x y)
leaves_if text true x y p q = p
leaves_if text false x y p q = q

leaves_letter : (o : Option ℕ) (c : ℕ) (rest : Bytes) → Leaves (c ∷ rest) (letter_escape_at o c rest)
leaves_letter (Some b) c rest = further c rest rest (whole rest)
leaves_letter None c rest = whole (c ∷ rest)

leaves_number : (rest : Bytes) → Leaves (0x78 ∷ rest) (number_escape_at rest)
leaves_number [] = whole (0x78 ∷ [])
leaves_number (h ∷ []) = whole (0x78 ∷ h ∷ [])
leaves_number (h ∷ l ∷ rest) =
    leaves_if (0x78 ∷ h ∷ l ∷ rest) (is_ascii_hexdigit h && is_ascii_hexdigit l) (Some (byte (digit_value h * 16 + digit_value l), rest)) (backslash (0x78 ∷ h ∷ l ∷ rest)) (further 0x78 rest (h ∷ l ∷ rest) (further h rest (l ∷ rest) (further l rest rest (whole rest)))) (whole (0x78 ∷ h ∷ l ∷ rest))

leaves_double : (rest : Bytes) → Leaves rest (double_escape_at rest)
leaves_double [] = whole []
leaves_double (c ∷ cs) = by (eqb c 0x78) refl
  where
    by : (t : Bool) → eqb c 0x78 ≡ t → Leaves (c ∷ cs) (cond t (number_escape_at cs) (letter_escape_at (letter c) c cs))
    by true e = subst (λ (k : ℕ). Leaves (k ∷ cs) (number_escape_at cs)) (sym (eqb-true c 0x78 e)) (leaves_number cs)
    by false e = leaves_letter (letter c) c cs

leaves_single : (rest : Bytes) → Leaves rest (single_escape_at rest)
leaves_single [] = whole []
leaves_single (c ∷ cs) = leaves_if (c ∷ cs) (eqb c 0x27 || eqb c 0x5c) (Some (byte c, cs)) (backslash (c ∷ cs)) (further c cs cs (whole cs)) (whole (c ∷ cs))

leaves_variable : (rest : Bytes) → Leaves rest (variable_at rest)
leaves_variable [] = whole []
leaves_variable (c ∷ cs) = leaves_if (c ∷ cs) (is_letter c) (Some (variable (c ∷ run is_name_byte cs), behind is_name_byte cs)) (Some (byte 0x24, c ∷ cs)) (further c (behind is_name_byte cs) cs (behind_suffix is_name_byte cs)) (whole (c ∷ cs))

leaves_piece : (q b : ℕ) (bs : Bytes) → Leaves bs (piece_at q (b ∷ bs))
leaves_piece q b bs =
    leaves_if bs (eqb b q) None _ tt (leaves_if bs (eqb b 0x5c) (escape_at q bs) _ (leaves_if bs (eqb q 0x22) (double_escape_at bs) (single_escape_at bs) (leaves_double bs) (leaves_single bs))
    (leaves_if bs (eqb b 0x24) (dollar_at q bs) (Some (byte b, bs)) (leaves_if bs (eqb q 0x22) (variable_at bs) (Some (byte 0x24, bs)) (leaves_variable bs) (whole bs)) (whole bs)))

-- a piece takes a byte at least
pub piece_takes : (q b : ℕ) (bs : Bytes) (p : Piece) (middle : Bytes) → piece_at q (b ∷ bs) ≡ Some (p, middle) → Suffix middle bs
piece_takes q b bs p middle e = subst (Leaves bs) e (leaves_piece q b bs)

-- no piece begins with the quote
pub no_quote : (q b : ℕ) (bs : Bytes) (p : Piece) (middle : Bytes) → piece_at q (b ∷ bs) ≡ Some (p, middle) → eqb b q ≡ false
no_quote q b bs p middle e = by (eqb b q) refl
  where
    by : (t : Bool) → eqb b q ≡ t → t ≡ false
    by true f = let g : ◌≡◌ {A = Cut} None (Some (p, middle)) = sym (if_true (eqb b q) None _ f) ∙ e in absurd cc
    by false f = refl

pub inside_suffix : (q : ℕ) (text : Bytes) (ps : List Piece) (rest : Bytes) → Inside q text ps rest → Suffix rest text
inside_suffix q text [] rest is = (q ∷ [], is)
inside_suffix q [] (p ∷ ps) rest is = let e : ◌≡◌ {A = Cut} None (Some (p, is.0)) = is.1 in absurd cc
inside_suffix q (b ∷ bs) (p ∷ ps) rest is =
    through rest is.0 (b ∷ bs) (inside_suffix q is.0 ps rest is.2) (further b is.0 bs (piece_takes q b bs p is.0 is.1))

pub inside_again : (q n : ℕ) (ps : List Piece) (text rest : Bytes) → length text ≤ n → Inside q text ps rest → pieces_within q n text ≡ Some (ps, rest)
inside_again q zero [] text rest fits is = let n : length text ≡ suc (length rest) = ap length is in absurd (omega (arith, n, fits))
inside_again q (suc n) [] text rest fits is =
    ap (pieces_within q (suc n)) is ∙ if_true (eqb q q) _ _ (eq-eqb q q refl)
inside_again q n (p ∷ ps) [] rest fits is = let e : ◌≡◌ {A = Cut} None (Some (p, is.0)) = is.1 in absurd cc
inside_again q zero (p ∷ ps) (b ∷ bs) rest fits is = absurd (omega (arith, fits))
inside_again q (suc n) (p ∷ ps) (b ∷ bs) rest fits is =
    let left = no_longer is.0 bs (piece_takes q b bs p is.0 is.1) in
    if_false (eqb b q) _ _ (no_quote q b bs p is.0 is.1)
    ∙ ap (λ (c : Cut). c >>= λ x. pieces_within q n x.1 >>= λ y. Some (x.0 ∷ y.0, y.1)) is.1
    ∙ ap (λ (r : Option (List Piece × Bytes)). r >>= λ y. Some (p ∷ y.0, y.1)) (inside_again q n ps is.0 rest (omega (arith, fits, left)) is.2)

-- what is read stands there
abbrev pub ReadsInside : ℕ → Bytes → Option (List Piece × Bytes) → Type 0
ReadsInside q text None = Unit {0}
ReadsInside q text (Some x) = Inside q text x.0 x.1

pub inside_reads : (q n : ℕ) (text : Bytes) → ReadsInside q text (pieces_within q n text)
inside_reads q zero text = tt
inside_reads q (suc n) [] = tt
inside_reads q (suc n) (b ∷ bs) = by (eqb b q) refl (piece_at q (b ∷ bs)) refl (λ middle. inside_reads q n middle)
  where
    then' : (p : Piece) (middle : Bytes) → piece_at q (b ∷ bs) ≡ Some (p, middle) → (r : Option (List Piece × Bytes)) → ReadsInside q middle r
        → ReadsInside q (b ∷ bs) (r >>= λ y. Some (p ∷ y.0, y.1))
    then' p middle e None is = tt
    then' p middle e (Some y) is = (middle, e, is)

    by : (t : Bool) → eqb b q ≡ t → (c : Cut) → piece_at q (b ∷ bs) ≡ c → ((middle : Bytes) → ReadsInside q middle (pieces_within q n middle))
        → ReadsInside q (b ∷ bs) (cond t (Some ([], bs)) (c >>= λ x. pieces_within q n x.1 >>= λ y. Some (x.0 ∷ y.0, y.1)))
    by true e c f others = ap (λ (k : ℕ). k ∷ bs) (eqb-true b q e)
    by false e None f others = tt
    by false e (Some x) f others = then' x.0 x.1 f (pieces_within q n x.1) (others x.1)
