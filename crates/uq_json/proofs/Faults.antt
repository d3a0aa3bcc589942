-- Numbers, strings and literals open no level.
use Rattle.std.proofs.Common.{◌≡◌, ℕ, zero, suc, Bool, true, false, cond, eqb, leb, [], ◌∷◌, Option, Some, None, Ok, Err, ℤ, codes}
use Rattle.uq_value.specs.Data.{Bytes, Data, null, bool, int, text}
use Rattle.uq_json.specs.Strings.{byte, code, letter, are_hex, hex_number, bytes_of}
use Rattle.uq_json.specs.Internal.Reading.{Read, ◌>>=◌, literal, number_or_fault, number_at, natural, digits_of, behind_digits, letter_or_fault, unicode_at, escape_at, piece_at, pieces_within, inside_at, string_at, behind, scalar_at}
use Rattle.uq_value.specs.Number.{positive, negative}
use Rattle.uq_json.specs.declared.error.JsonFault.TheVariants.{NotJson, TooDeep}

abbrev pub IsShallow : {A : Type 0} → Read A → Type 0
IsShallow r = r ≡ Err TooDeep → ⊥

pub no_json_shallow : {A : Type 0} → IsShallow {A = A} (Err NotJson)
no_json_shallow = λ e. cc

pub ok_shallow : {A : Type 0} (x : A × Bytes) → IsShallow (Ok x)
ok_shallow x = λ e. cc

pub then_shallow : {A B : Type 0} (r : Read A) (f : A × Bytes → Read B) → IsShallow r → ((x : A × Bytes) → IsShallow (f x)) → IsShallow (r >>= f)
then_shallow (Ok x) f here there = there x
then_shallow {A = A} {B = B} (Err NotJson) f here there = λ e. cc
then_shallow {A = A} {B = B} (Err w) f here there = λ e. here (faults w e)
  where
    faults : (w : _) → ◌≡◌ {A = Read B} (Err w) (Err TooDeep) → ◌≡◌ {A = Read A} (Err w) (Err TooDeep)
    faults w e = cc

pub cond_shallow : {A : Type 0} (b : Bool) (r s : Read A) → IsShallow r → IsShallow s → IsShallow (cond b r s)
cond_shallow true r s left right = left
cond_shallow false r s left right = right

letter_shallow : (o : Option ℕ) (cs : Bytes) → IsShallow (letter_or_fault o cs)
letter_shallow (Some b) cs = ok_shallow (byte b, cs)
letter_shallow None cs = no_json_shallow

unicode_shallow : (ts : Bytes) → IsShallow (unicode_at ts)
unicode_shallow (p ∷ q ∷ r ∷ s ∷ rest) = cond_shallow (are_hex p q r s) (Ok (code (hex_number p q r s), rest)) (Err NotJson) (ok_shallow (code (hex_number p q r s), rest)) no_json_shallow
unicode_shallow [] = no_json_shallow
unicode_shallow (p ∷ []) = no_json_shallow
unicode_shallow (p ∷ q ∷ []) = no_json_shallow
unicode_shallow (p ∷ q ∷ r ∷ []) = no_json_shallow

escape_shallow : (ts : Bytes) → IsShallow (escape_at ts)
escape_shallow [] = no_json_shallow
escape_shallow (c ∷ cs) = cond_shallow (eqb c 0x75) (unicode_at cs) (letter_or_fault (letter c) cs) (unicode_shallow cs) (letter_shallow (letter c) cs)

piece_shallow : (ts : Bytes) → IsShallow (piece_at ts)
piece_shallow [] = no_json_shallow
piece_shallow (c ∷ cs) = cond_shallow (eqb c 0x5c) (escape_at cs) (cond (leb 0x20 c) (Ok (byte c, cs)) (Err NotJson)) (escape_shallow cs)
    (cond_shallow (leb 0x20 c) (Ok (byte c, cs)) (Err NotJson) (ok_shallow (byte c, cs)) no_json_shallow)

pieces_shallow : (n : ℕ) (ts : Bytes) → IsShallow (pieces_within n ts)
pieces_shallow zero ts = no_json_shallow
pieces_shallow (suc n) [] = no_json_shallow
pieces_shallow (suc n) (c ∷ cs) = cond_shallow (eqb c 0x22) (Ok ([], cs)) (piece_at (c ∷ cs) >>= λ x. pieces_within n x.1 >>= λ y. Ok (x.0 ∷ y.0, y.1)) (ok_shallow ([], cs))
    (then_shallow (piece_at (c ∷ cs)) (λ x. pieces_within n x.1 >>= λ y. Ok (x.0 ∷ y.0, y.1)) (piece_shallow (c ∷ cs))
    (λ x. then_shallow (pieces_within n x.1) (λ y. Ok (x.0 ∷ y.0, y.1)) (pieces_shallow n x.1) (λ y. ok_shallow (x.0 ∷ y.0, y.1))))

pub inside_shallow : (ts : Bytes) → IsShallow (inside_at ts)
inside_shallow ts = then_shallow (pieces_within _ ts) (λ x. Ok (bytes_of x.0, x.1)) (pieces_shallow _ ts) (λ x. ok_shallow (bytes_of x.0, x.1))

pub behind_shallow : (c : ℕ) (ts : Bytes) → IsShallow (behind c ts)
behind_shallow c [] = no_json_shallow
behind_shallow c (d ∷ ds) = cond_shallow (eqb d c) (Ok (tt, ds)) (Err NotJson) (ok_shallow (tt, ds)) no_json_shallow

pub string_shallow : (ts : Bytes) → IsShallow (string_at ts)
string_shallow ts = then_shallow (behind 0x22 ts) (λ x. inside_at x.1) (behind_shallow 0x22 ts) (λ x. inside_shallow x.1)

literal_shallow : (ws : Bytes) (d : Data) (ts : Bytes) → IsShallow (literal ws d ts)
literal_shallow [] d ts = ok_shallow (d, ts)
literal_shallow (w ∷ ws) d [] = no_json_shallow
literal_shallow (w ∷ ws) d (c ∷ cs) = cond_shallow (eqb c w) (literal ws d cs) (Err NotJson) (literal_shallow ws d cs) no_json_shallow

number_or_shallow : (o : Option ℤ) (rest : Bytes) → IsShallow (number_or_fault o rest)
number_or_shallow (Some z) rest = ok_shallow (z, rest)
number_or_shallow None rest = no_json_shallow

number_shallow : (ts : Bytes) → IsShallow (number_at ts)
number_shallow [] = no_json_shallow
number_shallow (c ∷ cs) = cond_shallow (eqb c 0x2d) (number_or_fault (negative (natural (digits_of cs))) (behind_digits cs)) (number_or_fault (positive (natural (digits_of (c ∷ cs)))) (behind_digits (c ∷ cs)))
    (number_or_shallow (negative (natural (digits_of cs))) (behind_digits cs)) (number_or_shallow (positive (natural (digits_of (c ∷ cs)))) (behind_digits (c ∷ cs)))

pub scalar_shallow : (ts : Bytes) → IsShallow (scalar_at ts)
scalar_shallow [] = no_json_shallow
scalar_shallow (c ∷ cs) =
    let strings : Read Data = inside_at cs >>= λ x. Ok (text x.0, x.1) in
    let numbers : Read Data = number_at (c ∷ cs) >>= λ x. Ok (int x.0, x.1) in
    cond_shallow (eqb c 0x22) strings _ (then_shallow (inside_at cs) (λ x. Ok (text x.0, x.1)) (inside_shallow cs) (λ x. ok_shallow (text x.0, x.1)))
    (cond_shallow (eqb c 0x6e) (literal (codes "null") null (c ∷ cs)) _ (literal_shallow (codes "null") null (c ∷ cs))
    (cond_shallow (eqb c 0x74) (literal (codes "true") (bool true) (c ∷ cs)) _ (literal_shallow (codes "true") (bool true) (c ∷ cs))
    (cond_shallow (eqb c 0x66) (literal (codes "false") (bool false) (c ∷ cs)) numbers (literal_shallow (codes "false") (bool false) (c ∷ cs))
    (then_shallow (number_at (c ∷ cs)) (λ x. Ok (int x.0, x.1)) (number_shallow (c ∷ cs)) (λ x. ok_shallow (int x.0, x.1))))))
