-- Decoding piece by piece.
use Rattle.std.proofs.Common.{◌≡◌, ℕ, zero, suc, ◌<◌, ◌≤◌, ◌-◌, Bool, true, false, cond, eqb, List, [], ◌∷◌, ◌++◌, length, take, drop, get_or, Option, Some, None, Ok, Err, refl, sym, ap, ◌∙◌, length-append, arith}
use Rattle.std.proofs.lemmas.Bool.{eqb-false}
use Rattle.uq_value.specs.Data.{Bytes}
use Rattle.uq_json.specs.Strings.{Piece, code, are_hex, hex_number}
use Rattle.uq_json.specs.Internal.Decoding.{bytes_behind, waiting_bytes, decoded}
use Rattle.uq_json.specs.Internal.Reading.{Read, ◌>>=◌, Fails, is_next, unicode_at, piece_at, pieces_within}
use Rattle.uq_json.specs.declared.error.JsonFault.{JsonFault}
use Rattle.uq_json.specs.declared.error.JsonFault.TheVariants as fault
use Rattle.uq_json.proofs.Steps.{if_true, if_false, no_ok}
use Rattle.uq_json.proofs.Pieces.{piece_takes, piece_begins}

pub four_first : (ts : Bytes) → 4 ≤ length ts → ts ≡ get_or ts 0 0 ∷ get_or ts 1 0 ∷ get_or ts 2 0 ∷ get_or ts 3 0 ∷ take (length ts - 4) (drop 4 ts)
four_first (p ∷ q ∷ r ∷ s ∷ rest) h = ap (λ (w : Bytes). p ∷ q ∷ r ∷ s ∷ w) (sym (whole rest))
  where
    whole : (rest : Bytes) → take (length (p ∷ q ∷ r ∷ s ∷ rest) - 4) rest ≡ rest
    whole rest = let n : length (p ∷ q ∷ r ∷ s ∷ rest) - 4 ≡ length rest = omega arith in ap (λ k. take k rest) n ∙ all rest
      where
        all : (w : Bytes) → take (length w) w ≡ w
        all [] = refl
        all (x ∷ w) = ap (λ (v : Bytes). x ∷ v) (all w)
four_first [] h = absurd (omega arith)
four_first (p ∷ []) h = absurd (omega arith)
four_first (p ∷ q ∷ []) h = absurd (omega arith)
four_first (p ∷ q ∷ r ∷ []) h = absurd (omega arith)

some_only : (b : Bool) (n m : ℕ) → cond b (Some n) None ≡ Some m → (b ≡ true) × (n ≡ m)
some_only true n m e = (refl, cc)
some_only false n m e = absurd (cc)

pub unicode_reads : (ts : Bytes) (n : ℕ) → 4 ≤ length ts → cond (are_hex (get_or ts 0 0) (get_or ts 1 0) (get_or ts 2 0) (get_or ts 3 0)) (Some (hex_number (get_or ts 0 0) (get_or ts 1 0) (get_or ts 2 0) (get_or ts 3 0))) None ≡ Some n
    → unicode_at ts ≡ Ok (code n, take (length ts - 4) (drop 4 ts))
unicode_reads ts n h e =
    let p = get_or ts 0 0 in let q = get_or ts 1 0 in let r = get_or ts 2 0 in let s = get_or ts 3 0 in
    let both = some_only (are_hex p q r s) (hex_number p q r s) n e in
    ap unicode_at (four_first ts h)
    ∙ if_true (are_hex p q r s) (Ok (code (hex_number p q r s), take (length ts - 4) (drop 4 ts))) (Err fault.NotJson) both.0
    ∙ ap (λ (k : ℕ). Ok (code k, take (length ts - 4) (drop 4 ts))) both.1

-- ---- one turn of the loop

pub piece_shrinks : (ts after : Bytes) (p : Piece) → is_next 0x22 ts ≡ false → piece_at ts ≡ Ok (p, after) → length after < length ts
piece_shrinks [] after p next e = absurd (no_ok fault.NotJson (p, after) e)
piece_shrinks (c ∷ cs) after p next e =
    let taken = piece_takes c cs (p, after) (eqb-false c 0x22 next) e in
    let first = piece_begins taken.used p taken.reads in
    let count : length (c ∷ cs) ≡ length (taken.used ++ after) = ap length taken.split in
    let more : length taken.used ≡ length (first.0 ∷ first.1) = ap length first.2 in
    omega (arith, count, more, length-append taken.used after)

step_open : (n : ℕ) (ts : Bytes) → is_next 0x22 ts ≡ false → pieces_within (suc n) ts ≡ (piece_at ts >>= λ x. pieces_within n x.1 >>= λ y. Ok (x.0 ∷ y.0, y.1))
step_open n [] next = refl
step_open n (c ∷ cs) next = if_false (eqb c 0x22) (Ok ([], cs)) (piece_at (c ∷ cs) >>= λ x. pieces_within n x.1 >>= λ y. Ok (x.0 ∷ y.0, y.1)) next

pub pieces_go_on : (bs later : Bytes) (waiting then_waiting : Option ℕ) (fuel : ℕ) (ts after : Bytes) (p : Piece) (total : Read Bytes) → is_next 0x22 ts ≡ false → piece_at ts ≡ Ok (p, after)
    → ((others : List Piece) → later ++ bytes_behind then_waiting others ≡ bs ++ bytes_behind waiting (p ∷ others))
    → (n : ℕ) × (length ts ≤ n) × (decoded bs waiting (pieces_within n ts) ≡ total)
    → (n : ℕ) × (length after ≤ n) × (decoded later then_waiting (pieces_within n after) ≡ total)
pieces_go_on bs later waiting then_waiting fuel ts after p total next e pushed (zero, fits, so_far) =
    let shrinks = piece_shrinks ts after p next e in absurd (omega (arith, fits, shrinks))
pieces_go_on bs later waiting then_waiting fuel ts after p total next e pushed (suc n, fits, so_far) =
    let shrinks = piece_shrinks ts after p next e in
    (n, omega (arith, fits, shrinks), sym (regroup (pieces_within n after)) ∙ sym (ap (decoded bs waiting) (step_open n ts next ∙ ap (λ (r : Read Piece). r >>= λ x. pieces_within n x.1 >>= λ y. Ok (x.0 ∷ y.0, y.1)) e)) ∙ so_far)
  where
    regroup : (read : Read (List Piece)) → decoded bs waiting (read >>= λ y. Ok (p ∷ y.0, y.1)) ≡ decoded later then_waiting read
    regroup (Ok y) = ap (λ (w : Bytes). Ok (w, y.1)) (sym (pushed y.0))
    regroup (Err w) = refl

pub pieces_fail : (bs : Bytes) (waiting : Option ℕ) (ts : Bytes) (why : JsonFault) (total : Read Bytes) → is_next 0x22 ts ≡ false → Fails why (piece_at ts)
    → (n : ℕ) × (length ts ≤ n) × (decoded bs waiting (pieces_within n ts) ≡ total) → Fails why total
pieces_fail bs waiting ts fault.Memory total next fails so_far = tt
pieces_fail bs waiting ts fault.TooLarge total next fails so_far = fails
pieces_fail bs waiting ts fault.NotJson total next fails (zero, fits, so_far) = sym so_far
pieces_fail bs waiting ts fault.NotJson total next fails (suc n, fits, so_far) =
    sym so_far ∙ ap (decoded bs waiting) (step_open n ts next ∙ ap (λ (r : Read Piece). r >>= λ x. pieces_within n x.1 >>= λ y. Ok (x.0 ∷ y.0, y.1)) fails)
pieces_fail bs waiting ts fault.TooDeep total next fails (zero, fits, so_far) = absurd (empty ts fits fails)
  where
    empty : (ts : Bytes) → length ts ≤ 0 → piece_at ts ≡ Err fault.TooDeep → ⊥
    empty [] h e = cc
    empty (c ∷ cs) h e = omega arith
pieces_fail bs waiting ts fault.TooDeep total next fails (suc n, fits, so_far) =
    sym so_far ∙ ap (decoded bs waiting) (step_open n ts next ∙ ap (λ (r : Read Piece). r >>= λ x. pieces_within n x.1 >>= λ y. Ok (x.0 ∷ y.0, y.1)) fails)

pub take_whole : (w : Bytes) → take (length w) w ≡ w
take_whole [] = refl
take_whole (x ∷ w) = ap (λ (v : Bytes). x ∷ v) (take_whole w)

pub tail_whole : (c : ℕ) (cs : Bytes) → take (length (c ∷ cs) - 1) cs ≡ cs
tail_whole c cs = let n : length (c ∷ cs) - 1 ≡ length cs = omega arith in ap (λ k. take k cs) n ∙ take_whole cs

nothing_behind : (waiting : Option ℕ) → bytes_behind waiting [] ≡ waiting_bytes waiting
nothing_behind None = refl
nothing_behind (Some n) = refl

pub pieces_end : (bs later : Bytes) (waiting : Option ℕ) (ts : Bytes) (total : Read Bytes) → is_next 0x22 ts ≡ true → later ≡ bs ++ waiting_bytes waiting
    → (n : ℕ) × (length ts ≤ n) × (decoded bs waiting (pieces_within n ts) ≡ total) → total ≡ Ok (later, take (length ts - 1) (drop 1 ts))
pieces_end bs later waiting [] total next flushed so_far = absurd (cc)
pieces_end bs later waiting (c ∷ cs) total next flushed (zero, fits, so_far) = absurd (omega (arith, fits))
pieces_end bs later waiting (c ∷ cs) total next flushed (suc n, fits, so_far) =
    sym so_far ∙ ap (decoded bs waiting) (if_true (eqb c 0x22) (Ok ([], cs)) (piece_at (c ∷ cs) >>= λ x. pieces_within n x.1 >>= λ y. Ok (x.0 ∷ y.0, y.1)) next)
    ∙ ap (λ (w : Bytes). Ok (bs ++ w, cs)) (nothing_behind waiting) ∙ ap (λ (w : Bytes). Ok (w, cs)) (sym flushed) ∙ ap (λ (w : Bytes). Ok (later, w)) (sym (tail_whole c cs))
