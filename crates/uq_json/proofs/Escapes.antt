-- Quoted bytes are a string that spells them.
use Rattle.std.proofs.Common.{◌≡◌, ℕ, ◌<◌, ◌≤◌, ◌/◌, ◌%◌, Bool, true, false, cond, eqb, ltb, leb, ◌&&◌, List, [], ◌∷◌, ◌++◌, Some, refl, ap, ◌∙◌, append_assoc, arith}
use Rattle.std.specs.List.{flat_map}
use Rattle.std.specs.Char.{digit_value, digit_char}
use Rattle.std.proofs.lemmas.Bool.{eqb-true, eqb-false, ltb-true, lt-ltb}
use Rattle.std.proofs.lemmas.Str.{digit_value-digit_char}
use Rattle.std.proofs.lemmas.List.Concat.{flat_map-cons}
use Rattle.uq_value.specs.Data.{Bytes}
use Rattle.uq_json.specs.Quote.{hex_digit, escaped, escaped_control, quoted}
use Rattle.uq_json.specs.Strings.{Piece, byte, code, IsPiece, itself, by_letter, by_number, letter, is_hex, hex_number, Inside, is_high, is_low, pairs_with, pair, number_of, utf8, bytes_of, IsString}
use Rattle.uq_json.proofs.Steps.{if_true, if_false}

-- one piece, which means this byte whatever stands behind it
record Escapes (word : Bytes) (b : ℕ) : Type 0 where
  piece : Piece
  spells : IsPiece word piece
  alone : (ps : List Piece) → bytes_of (piece ∷ ps) ≡ b ∷ bytes_of ps

either : (P : Bytes → Type 0) (t : Bool) (x y : Bytes) → (t ≡ true → P x) → (t ≡ false → P y) → P (cond t x y)
either P true x y yes' no' = yes' refl
either P false x y yes' no' = no' refl

lettered : (c b n : ℕ) → letter c ≡ Some n → b ≡ n → Escapes (0x5c ∷ c ∷ []) b
lettered c b n stands is = record { piece = byte b; spells = by_letter c n refl stands (ap byte is); alone = λ ps. refl }

not_high : (n : ℕ) → n < 0x20 → is_high n ≡ false
not_high n h = ap (λ (b : Bool). b && ltb n 0xdc00) (below n h)
  where
    below : (n : ℕ) → n < 0x20 → leb 0xd800 n ≡ false
    below n h = ge-leb n (omega arith)
      where
        ge-leb : (n : ℕ) → n < 0xd800 → leb 0xd800 n ≡ false
        ge-leb n h = grind arith

control_alone : (n : ℕ) (ps : List Piece) → n < 0x20 → bytes_of (code n ∷ ps) ≡ n ∷ bytes_of ps
control_alone n [] h = if_true (ltb n 0x80) (n ∷ []) _ (lt-ltb n 0x80 (omega arith))
control_alone n (p ∷ ps) h =
    if_false (pairs_with n p) (utf8 (pair n (number_of p)) ++ bytes_of ps) (utf8 n ++ bytes_of (p ∷ ps)) (no_pair p)
    ∙ ap (λ (w : Bytes). w ++ bytes_of (p ∷ ps)) (if_true (ltb n 0x80) (n ∷ []) _ (lt-ltb n 0x80 (omega arith)))
  where
    no_pair : (p : Piece) → pairs_with n p ≡ false
    no_pair (byte b) = refl
    no_pair (code m) = ap (λ (b : Bool). b && is_low m) (not_high n h)

hex_back : (d : ℕ) → d < 16 → digit_value (hex_digit d) ≡ d
hex_back d h = same d ∙ digit_value-digit_char d (omega arith)
  where
    same : (d : ℕ) → digit_value (hex_digit d) ≡ digit_value (digit_char d)
    same d = refl

control : (b : ℕ) → b < 0x20 → Escapes (escaped_control b) b
control b h =
    let high : digit_value (hex_digit (b / 16)) ≡ b / 16 = hex_back (b / 16) (omega arith) in
    let low : digit_value (hex_digit (b % 16)) ≡ b % 16 = hex_back (b % 16) (omega arith) in
    let value : hex_number 0x30 0x30 (hex_digit (b / 16)) (hex_digit (b % 16)) ≡ b = omega (arith, high, low) in
    let small : hex_number 0x30 0x30 (hex_digit (b / 16)) (hex_digit (b % 16)) < 0x20 = omega (arith, value, h) in
    record {
      piece = code (hex_number 0x30 0x30 (hex_digit (b / 16)) (hex_digit (b % 16)));
      spells = by_number 0x30 0x30 (hex_digit (b / 16)) (hex_digit (b % 16)) refl
          (both (is_hex (hex_digit (b / 16))) (is_hex (hex_digit (b % 16))) (lt-ltb (digit_value (hex_digit (b / 16))) 16 (omega (arith, high))) (lt-ltb (digit_value (hex_digit (b % 16))) 16 (omega (arith, low)))) refl;
      alone = λ ps. control_alone (hex_number 0x30 0x30 (hex_digit (b / 16)) (hex_digit (b % 16))) ps small ∙ ap (λ (n : ℕ). n ∷ bytes_of ps) value;
    }
  where
    both : (p q : Bool) → p ≡ true → q ≡ true → (p && q) ≡ true
    both p q e f = ap (λ (x : Bool). x && q) e ∙ f

not_below : (n m : ℕ) → ltb n m ≡ false → m ≤ n
not_below n m e = grind arith

escapes : (b : ℕ) → Escapes (escaped b) b
escapes b =
    let P : Bytes → Type 0 = λ w. Escapes w b in
    either P (eqb b 0x22) _ _ (λ e. lettered 0x22 b 0x22 refl (eqb-true b 0x22 e)) (λ no_quote.
    either P (eqb b 0x5c) _ _ (λ e. lettered 0x5c b 0x5c refl (eqb-true b 0x5c e)) (λ no_backslash.
    either P (eqb b 0x08) _ _ (λ e. lettered 0x62 b 0x08 refl (eqb-true b 0x08 e)) (λ n1.
    either P (eqb b 0x09) _ _ (λ e. lettered 0x74 b 0x09 refl (eqb-true b 0x09 e)) (λ n2.
    either P (eqb b 0x0a) _ _ (λ e. lettered 0x6e b 0x0a refl (eqb-true b 0x0a e)) (λ n3.
    either P (eqb b 0x0c) _ _ (λ e. lettered 0x66 b 0x0c refl (eqb-true b 0x0c e)) (λ n4.
    either P (eqb b 0x0d) _ _ (λ e. lettered 0x72 b 0x0d refl (eqb-true b 0x0d e)) (λ n5.
    either P (ltb b 0x20) (escaped_control b) (b ∷ []) (λ e. control b (ltb-true b 0x20 e)) (λ printed.
    record {
      piece = byte b;
      spells = itself b refl (record { printed = not_below b 0x20 printed; no_quote = eqb-false b 0x22 no_quote; no_backslash = eqb-false b 0x5c no_backslash }) refl;
      alone = λ ps. refl;
    }))))))))

inside_quoted : (bs : Bytes) → (ps : List Piece) × Inside (flat_map escaped bs ++ 0x22 ∷ []) ps × (bytes_of ps ≡ bs)
inside_quoted [] = ([], refl, refl)
inside_quoted (b ∷ bs) =
    let one = escapes b in
    let others = inside_quoted bs in (
      one.piece ∷ others.0,
      (escaped b, flat_map escaped bs ++ 0x22 ∷ [], ap (λ (w : Bytes). w ++ 0x22 ∷ []) (flat_map-cons escaped b bs) ∙ append_assoc (escaped b) (flat_map escaped bs) (0x22 ∷ []), one.spells, others.1),
      one.alone others.0 ∙ ap (λ (w : Bytes). b ∷ w) others.2,
    )

pub quoted_spells : (bs : Bytes) → IsString (quoted bs) bs
quoted_spells bs = let inside = inside_quoted bs in record { body = flat_map escaped bs ++ 0x22 ∷ []; pieces = inside.0; opened = refl; inside = inside.1; spelled = inside.2 }
