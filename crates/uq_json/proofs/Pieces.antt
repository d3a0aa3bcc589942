-- Reading strings: what is read is spelled so, and what is spelled so is read.
use Rattle.std.proofs.Common.{◌≡◌, ◌≢◌, ℕ, zero, suc, ◌≤◌, Bool, true, false, cond, eqb, leb, ◌⊎◌, inl, inr, List, [], ◌∷◌, ◌++◌, length, Option, Some, None, Ok, Err, refl, sym, ap, subst, ◌∙◌, append_assoc, length-append, arith}
use Rattle.std.proofs.lemmas.Bool.{eqb-true, eqb-false, ne_eqb, leb-true, le-leb}
use Rattle.uq_value.specs.Data.{Bytes}
use Rattle.uq_json.specs.Strings.{Piece, byte, code, letter, are_hex, hex_number, IsPiece, itself, by_letter, by_number, Inside, bytes_of, IsString}
use Rattle.uq_json.specs.Internal.Reading.{Read, ◌>>=◌, letter_or_fault, unicode_at, escape_at, piece_at, pieces_within, inside_at, string_at}
use Rattle.uq_json.specs.declared.error.JsonFault.TheVariants.{NotJson}
use Rattle.uq_json.proofs.Steps.{bind_ok, chosen, if_true, if_false, Takes, no_ok}

-- ---- one piece

letter_takes : (o : Option ℕ) (c : ℕ) (cs : Bytes) (x : Piece × Bytes) → letter c ≡ o → letter_or_fault o cs ≡ Ok x → Takes IsPiece (0x5c ∷ c ∷ cs) x
letter_takes (Some b) c cs x is e =
    let piece : byte b ≡ x.0 = cc in
    let rest : cs ≡ x.1 = cc in
    record {
      used = 0x5c ∷ c ∷ [];
      split = ap (λ (w : Bytes). 0x5c ∷ c ∷ w) rest;
      reads = by_letter c b refl is (sym piece);
    }
letter_takes None c cs x is e = absurd (cc)

unicode_takes : (ts : Bytes) (x : Piece × Bytes) → unicode_at ts ≡ Ok x → Takes IsPiece (0x5c ∷ 0x75 ∷ ts) x
unicode_takes (p ∷ q ∷ r ∷ s ∷ rest) x e = elim (chosen (are_hex p q r s) (Ok (code (hex_number p q r s), rest)) (Err NotJson) (Ok x) e) [
  | inl both ↦
      let piece : code (hex_number p q r s) ≡ x.0 = cc in
      let tail : rest ≡ x.1 = cc in
      record {
        used = 0x5c ∷ 0x75 ∷ p ∷ q ∷ r ∷ s ∷ [];
        split = ap (λ (w : Bytes). 0x5c ∷ 0x75 ∷ p ∷ q ∷ r ∷ s ∷ w) tail;
        reads = by_number p q r s refl both.0 (sym piece);
      }
  | inr both ↦ absurd (no_ok NotJson x both.1)
]
unicode_takes [] x e = absurd (cc)
unicode_takes (p ∷ []) x e = absurd (cc)
unicode_takes (p ∷ q ∷ []) x e = absurd (cc)
unicode_takes (p ∷ q ∷ r ∷ []) x e = absurd (cc)

escape_takes : (ts : Bytes) (x : Piece × Bytes) → escape_at ts ≡ Ok x → Takes IsPiece (0x5c ∷ ts) x
escape_takes [] x e = absurd (cc)
escape_takes (c ∷ cs) x e = elim (chosen (eqb c 0x75) (unicode_at cs) (letter_or_fault (letter c) cs) (Ok x) e) [
  | inl both ↦ subst (λ (n : ℕ). Takes IsPiece (0x5c ∷ n ∷ cs) x) (sym (eqb-true c 0x75 both.0)) (unicode_takes cs x both.1)
  | inr both ↦ letter_takes (letter c) c cs x refl both.1
]

pub piece_takes : (c : ℕ) (cs : Bytes) (x : Piece × Bytes) → c ≢ 0x22 → piece_at (c ∷ cs) ≡ Ok x → Takes IsPiece (c ∷ cs) x
piece_takes c cs x no_quote e = elim (chosen (eqb c 0x5c) (escape_at cs) (cond (leb 0x20 c) (Ok (byte c, cs)) (Err NotJson)) (Ok x) e) [
  | inl both ↦ subst (λ (n : ℕ). Takes IsPiece (n ∷ cs) x) (sym (eqb-true c 0x5c both.0)) (escape_takes cs x both.1)
  | inr both ↦ elim (chosen (leb 0x20 c) (Ok (byte c, cs)) (Err NotJson) (Ok x) both.1) [
    | inl printed ↦
        let e2 : ◌≡◌ {A = Read Piece} (Ok (byte c, cs)) (Ok x) = printed.1 in
        let piece : byte c ≡ x.0 = cc in
        let tail : cs ≡ x.1 = cc in
        record {
          used = c ∷ [];
          split = ap (λ (w : Bytes). c ∷ w) tail;
          reads = itself c refl (record { printed = leb-true 0x20 c printed.0; no_quote = no_quote; no_backslash = eqb-false c 0x5c both.0 }) (sym piece);
        }
    | inr others ↦ absurd (no_ok NotJson x others.1)
  ]
]

letter_no_u : (c b : ℕ) → letter c ≡ Some b → eqb c 0x75 ≡ false
letter_no_u c b e = ne_eqb c 0x75 (λ (is : c ≡ 0x75). let none : letter 0x75 ≡ Some b = subst (λ (n : ℕ). letter n ≡ Some b) is e in absurd (cc))

pub piece_again : (w : Bytes) (p : Piece) (rest : Bytes) → IsPiece w p → piece_at (w ++ rest) ≡ Ok (p, rest)
piece_again w p rest (itself c is plain piece) =
    ap (λ (v : Bytes). piece_at (v ++ rest)) is
    ∙ if_false (eqb c 0x5c) (escape_at rest) (cond (leb 0x20 c) (Ok (byte c, rest)) (Err NotJson)) (ne_eqb c 0x5c plain.no_backslash)
    ∙ if_true (leb 0x20 c) (Ok (byte c, rest)) (Err NotJson) (le-leb 0x20 c plain.printed)
    ∙ ap (λ (q : Piece). Ok (q, rest)) (sym piece)
piece_again w p rest (by_letter c b is stands piece) =
    ap (λ (v : Bytes). piece_at (v ++ rest)) is
    ∙ if_false (eqb c 0x75) (unicode_at rest) (letter_or_fault (letter c) rest) (letter_no_u c b stands)
    ∙ ap (λ (o : Option ℕ). letter_or_fault o rest) stands
    ∙ ap (λ (q : Piece). Ok (q, rest)) (sym piece)
piece_again w p rest (by_number q r s t is hex piece) =
    ap (λ (v : Bytes). piece_at (v ++ rest)) is
    ∙ if_true (are_hex q r s t) (Ok (code (hex_number q r s t), rest)) (Err NotJson) hex
    ∙ ap (λ (q : Piece). Ok (q, rest)) (sym piece)

-- no piece begins with the quote
pub piece_begins : (w : Bytes) (p : Piece) → IsPiece w p → (c : ℕ) × (cs : Bytes) × (w ≡ c ∷ cs) × (c ≢ 0x22)
piece_begins w p (itself c is plain piece) = (c, [], is, plain.no_quote)
piece_begins w p (by_letter c b is stands piece) = (0x5c, c ∷ [], is, omega arith)
piece_begins w p (by_number q r s t is hex piece) = (0x5c, 0x75 ∷ q ∷ r ∷ s ∷ t ∷ [], is, omega arith)

-- ---- pieces up to the quote

pieces_by : (n c : ℕ) (cs : Bytes) (x : List Piece × Bytes) → ((ts : Bytes) (y : List Piece × Bytes) → pieces_within n ts ≡ Ok y → Takes Inside ts y)
    → ((eqb c 0x22 ≡ true) × (◌≡◌ {A = Read (List Piece)} (Ok ([], cs)) (Ok x))) ⊎ ((eqb c 0x22 ≡ false) × ((piece_at (c ∷ cs) >>= λ y. pieces_within n y.1 >>= λ z. Ok (y.0 ∷ z.0, z.1)) ≡ Ok x)) → Takes Inside (c ∷ cs) x
pieces_by n c cs x again (inl both) =
    let e2 : ◌≡◌ {A = Read (List Piece)} (Ok ([], cs)) (Ok x) = both.1 in
    let none : [] ≡ x.0 = cc in
    let tail : cs ≡ x.1 = cc in
    record {
      used = 0x22 ∷ [];
      split = ap (λ (k : ℕ). k ∷ cs) (eqb-true c 0x22 both.0) ∙ ap (λ (w : Bytes). 0x22 ∷ w) tail;
      reads = subst (λ (ps : List Piece). Inside (0x22 ∷ []) ps) none refl;
    }
pieces_by n c cs x again (inr both) =
    let first = bind_ok (piece_at (c ∷ cs)) (λ y. pieces_within n y.1 >>= λ z. Ok (y.0 ∷ z.0, z.1)) x both.1 in
    let p = first.0 in
    let others = bind_ok (pieces_within n p.1) (λ z. Ok (p.0 ∷ z.0, z.1)) x first.2 in
    let q = others.0 in
    let one = piece_takes c cs p (eqb-false c 0x22 both.0) first.1 in
    let more = again p.1 q others.1 in
    let e2 : ◌≡◌ {A = Read (List Piece)} (Ok (p.0 ∷ q.0, q.1)) (Ok x) = others.2 in
    let all : p.0 ∷ q.0 ≡ x.0 = cc in
    let tail : q.1 ≡ x.1 = cc in
    record {
      used = one.used ++ more.used;
      split = one.split ∙ ap (λ (w : Bytes). one.used ++ w) more.split ∙ sym (append_assoc one.used more.used q.1) ∙ ap (λ (w : Bytes). (one.used ++ more.used) ++ w) tail;
      reads = subst (λ (ps : List Piece). Inside (one.used ++ more.used) ps) all (one.used, more.used, refl, one.reads, more.reads);
    }

pub pieces_take : (n : ℕ) (ts : Bytes) (x : List Piece × Bytes) → pieces_within n ts ≡ Ok x → Takes Inside ts x
pieces_take zero ts x e = absurd (no_ok NotJson x e)
pieces_take (suc n) [] x e = absurd (no_ok NotJson x e)
pieces_take (suc n) (c ∷ cs) x e =
    pieces_by n c cs x (pieces_take n) (chosen (eqb c 0x22) (Ok ([], cs)) (piece_at (c ∷ cs) >>= λ y. pieces_within n y.1 >>= λ z. Ok (y.0 ∷ z.0, z.1)) (Ok x) e)

pub pieces_again : (n : ℕ) (w : Bytes) (ps : List Piece) (rest : Bytes) → Inside w ps → length w ≤ n → pieces_within n (w ++ rest) ≡ Ok (ps, rest)
pieces_again zero w [] rest is fits = let count : length w ≡ 1 = ap length is in absurd (omega arith)
pieces_again (suc n) w [] rest is fits = ap (λ (v : Bytes). pieces_within (suc n) (v ++ rest)) is
pieces_again zero w (p ∷ ps) rest is fits =
    let first = piece_begins is.0 p is.3 in
    let count : length w ≡ length (is.0 ++ is.1) = ap length is.2 in
    let more : length is.0 ≡ length (first.0 ∷ first.1) = ap length first.2 in
    absurd (omega (arith, count, more, length-append is.0 is.1))
pieces_again (suc n) w (p ∷ ps) rest is fits =
    let first = piece_begins is.0 p is.3 in
    let count : length w ≡ length (is.0 ++ is.1) = ap length is.2 in
    let more : length is.0 ≡ length (first.0 ∷ first.1) = ap length first.2 in
    let room : length is.1 ≤ n = omega (arith, count, more, length-append is.0 is.1) in
    let split : w ++ rest ≡ is.0 ++ (is.1 ++ rest) = ap (λ (v : Bytes). v ++ rest) is.2 ∙ append_assoc is.0 is.1 rest in
    let shown : w ++ rest ≡ first.0 ∷ (first.1 ++ (is.1 ++ rest)) = split ∙ ap (λ (v : Bytes). v ++ (is.1 ++ rest)) first.2 in
    let read : piece_at (first.0 ∷ (first.1 ++ (is.1 ++ rest))) ≡ Ok (p, is.1 ++ rest) = ap (λ (v : Bytes). piece_at (v ++ (is.1 ++ rest))) (sym first.2) ∙ piece_again is.0 p (is.1 ++ rest) is.3 in
    ap (λ (v : Bytes). pieces_within (suc n) v) shown
    ∙ if_false (eqb first.0 0x22) (Ok ([], first.1 ++ (is.1 ++ rest))) (piece_at (first.0 ∷ (first.1 ++ (is.1 ++ rest))) >>= λ y. pieces_within n y.1 >>= λ z. Ok (y.0 ∷ z.0, z.1)) (ne_eqb first.0 0x22 first.3)
    ∙ ap (λ (r : Read Piece). r >>= λ y. pieces_within n y.1 >>= λ z. Ok (y.0 ∷ z.0, z.1)) read
    ∙ ap (λ (r : Read (List Piece)). r >>= λ z. Ok (p ∷ z.0, z.1)) (pieces_again n is.1 ps rest is.4 room)

-- ---- a whole string

pub inside_takes : (ts : Bytes) (x : Bytes × Bytes) → inside_at ts ≡ Ok x → Takes IsString (0x22 ∷ ts) x
inside_takes ts x e =
    let found = bind_ok (pieces_within (length ts) ts) (λ z. Ok (bytes_of z.0, z.1)) x e in
    let ps = found.0 in
    let taken = pieces_take (length ts) ts ps found.1 in
    let e2 : ◌≡◌ {A = Read Bytes} (Ok (bytes_of ps.0, ps.1)) (Ok x) = found.2 in
    let all : bytes_of ps.0 ≡ x.0 = cc in
    let tail : ps.1 ≡ x.1 = cc in
    record {
      used = 0x22 ∷ taken.used;
      split = ap (λ (w : Bytes). 0x22 ∷ w) (taken.split ∙ ap (λ (w : Bytes). taken.used ++ w) tail);
      reads = record { body = taken.used; pieces = ps.0; opened = refl; inside = taken.reads; spelled = all };
    }

pub string_takes : (ts : Bytes) (x : Bytes × Bytes) → string_at ts ≡ Ok x → Takes IsString ts x
string_takes [] x e = absurd (no_ok NotJson x e)
string_takes (c ∷ cs) x e = elim (chosen (eqb c 0x22) (inside_at cs) (Err NotJson) (Ok x) (flat c cs ∙ e)) [
  | inl both ↦ subst (λ (k : ℕ). Takes IsString (k ∷ cs) x) (sym (eqb-true c 0x22 both.0)) (inside_takes cs x both.1)
  | inr both ↦ absurd (no_ok NotJson x both.1)
]
  where
    flat : (c : ℕ) (cs : Bytes) → cond (eqb c 0x22) (inside_at cs) (Err NotJson) ≡ string_at (c ∷ cs)
    flat c cs = by (eqb c 0x22)
      where
        by : (b : Bool) → cond b (inside_at cs) (Err NotJson) ≡ ((let r : Read (Unit {0}) = cond b (Ok (tt, cs)) (Err NotJson) in r) >>= λ y. inside_at y.1)
        by true = refl
        by false = refl

pub string_again : (w bs rest : Bytes) → IsString w bs → string_at (w ++ rest) ≡ Ok (bs, rest)
string_again w bs rest is =
    ap (λ (v : Bytes). string_at (v ++ rest)) is.opened
    ∙ ap (λ (r : Read (List Piece)). r >>= λ z. Ok (bytes_of z.0, z.1)) (pieces_again (length (is.body ++ rest)) is.body is.pieces rest is.inside (omega (arith, length-append is.body rest)))
    ∙ ap (λ (b : Bytes). Ok (b, rest)) is.spelled
