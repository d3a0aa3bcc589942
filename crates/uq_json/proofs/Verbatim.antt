-- The bytes that stand for themselves in a string.
use Rattle.std.proofs.Common.{◌≡◌, ◌≢◌, ℕ, ◌≤◌, ◌<◌, Bool, true, false, take, drop, get_or, ◌-◌, cond, not, eqb, leb, ltb, ◌&&◌, List, [], ◌∷◌, ◌++◌, length, map, zero, suc, Option, Some, None, Ok, Err, subst, refl, sym, ap, ◌∙◌, append_assoc, append-nil, arith}
use Rattle.std.specs.List.{flat_map}
use Rattle.std.proofs.lemmas.Bool.{eqb-false, ne_eqb, leb-true}
use Rattle.std.proofs.lemmas.List.Concat.{flat_map-cons}
use Rattle.uq_value.specs.Data.{Bytes}
use Rattle.uq_json.specs.Quote.{escaped}
use Rattle.uq_json.specs.Strings.{Piece, byte, IsPlain, itself, bytes_of, utf8}
use Rattle.uq_json.specs.Internal.Decoding.{bytes_behind, waiting_bytes, decoded}
use Rattle.uq_json.proofs.Steps.{if_false}
use Rattle.uq_json.proofs.Decoding.{tail_whole}
use Rattle.uq_json.proofs.Pieces.{piece_again}
use Rattle.uq_json.specs.Internal.Reading.{Read, ◌>>=◌, piece_at, pieces_within, is_verbatim, verbatim_of, behind_verbatim}

pub behind_no_longer : (ts : Bytes) → length (behind_verbatim ts) ≤ length ts
behind_no_longer [] = omega arith
behind_no_longer (c ∷ cs) = by (is_verbatim c) (behind_no_longer cs)
  where
    by : (b : Bool) → length (behind_verbatim cs) ≤ length cs → length (cond b (behind_verbatim cs) (c ∷ cs)) ≤ length (c ∷ cs)
    by true others = omega (arith, others)
    by false others = omega arith

pub rest_shorter : (ts behind : Bytes) → behind ≡ behind_verbatim ts → 1 ≤ length behind → length (take (length behind - 1) (drop 1 behind)) < length ts
rest_shorter ts [] is long = absurd (omega (arith, long))
rest_shorter ts (c ∷ cs) is long =
    let whole : length (take (length (c ∷ cs) - 1) cs) ≡ length cs = ap length (tail_whole c cs) in
    let count : length (c ∷ cs) ≡ length (behind_verbatim ts) = ap length is in
    omega (arith, whole, count, behind_no_longer ts)

pub shorter_behind : (ts behind after : Bytes) → behind ≡ behind_verbatim ts → length after < length behind → length after < length ts
shorter_behind ts behind after is shorter = let count : length behind ≡ length (behind_verbatim ts) = ap length is in omega (arith, count, shorter, behind_no_longer ts)

-- a byte that stands for itself
plain_byte : (c : ℕ) → is_verbatim c ≡ true → IsPlain c
plain_byte c e =
    let all = parts (leb 0x20 c) (eqb c 0x22) (eqb c 0x5c) e in
    record { printed = leb-true 0x20 c all.0; no_quote = eqb-false c 0x22 all.1; no_backslash = eqb-false c 0x5c all.2 }
  where
    parts : (printed quote backslash : Bool) → (printed && not quote && not backslash) ≡ true → (printed ≡ true) × (quote ≡ false) × (backslash ≡ false)
    parts true false false e = (refl, refl, refl)
    parts true true backslash e = absurd (cc)
    parts true false true e = absurd (cc)
    parts false quote backslash e = absurd (cc)

not_below : (n m : ℕ) → m ≤ n → ltb n m ≡ false
not_below n m h = grind arith

-- ---- written

escaped_itself : (c : ℕ) → is_verbatim c ≡ true → escaped c ≡ c ∷ []
escaped_itself c e =
    let is = plain_byte c e in
    let printed = is.printed in
    if_false (eqb c 0x22) _ _ (ne_eqb c 0x22 is.no_quote) ∙ if_false (eqb c 0x5c) _ _ (ne_eqb c 0x5c is.no_backslash)
    ∙ if_false (eqb c 0x08) _ _ (ne_eqb c 0x08 (λ (n : c ≡ 0x08). omega (arith, n, printed))) ∙ if_false (eqb c 0x09) _ _ (ne_eqb c 0x09 (λ (n : c ≡ 0x09). omega (arith, n, printed)))
    ∙ if_false (eqb c 0x0a) _ _ (ne_eqb c 0x0a (λ (n : c ≡ 0x0a). omega (arith, n, printed))) ∙ if_false (eqb c 0x0c) _ _ (ne_eqb c 0x0c (λ (n : c ≡ 0x0c). omega (arith, n, printed)))
    ∙ if_false (eqb c 0x0d) _ _ (ne_eqb c 0x0d (λ (n : c ≡ 0x0d). omega (arith, n, printed))) ∙ if_false (ltb c 0x20) _ _ (not_below c 0x20 printed)

pub escaped_parts : (ts : Bytes) → flat_map escaped ts ≡ verbatim_of ts ++ flat_map escaped (behind_verbatim ts)
escaped_parts [] = refl
escaped_parts (c ∷ cs) = by (is_verbatim c) refl (escaped_parts cs)
  where
    by : (b : Bool) → is_verbatim c ≡ b → flat_map escaped cs ≡ verbatim_of cs ++ flat_map escaped (behind_verbatim cs)
        → flat_map escaped (c ∷ cs) ≡ cond b (c ∷ verbatim_of cs) [] ++ flat_map escaped (cond b (behind_verbatim cs) (c ∷ cs))
    by true is others = flat_map-cons escaped c cs ∙ ap (λ (w : Bytes). w ++ flat_map escaped cs) (escaped_itself c is) ∙ ap (λ (w : Bytes). c ∷ w) others
    by false is others = refl

pub escapes_go_on : (before longer after total rest behind : Bytes) → before ++ flat_map escaped rest ≡ total → longer ≡ before ++ verbatim_of rest → behind ≡ behind_verbatim rest → 1 ≤ length behind
    → after ≡ longer ++ escaped (get_or behind 0 0) → after ++ flat_map escaped (take (length behind - 1) (drop 1 behind)) ≡ total
escapes_go_on before longer after total rest [] so_far run is long one = absurd (omega (arith, long))
escapes_go_on before longer after total rest (b ∷ others) so_far run is long one =
    ap (λ (w : Bytes). after ++ flat_map escaped w) (tail_whole b others)
    ∙ ap (λ (w : Bytes). w ++ flat_map escaped others) (one ∙ ap (λ (w : Bytes). w ++ escaped b) run)
    ∙ append_assoc (before ++ verbatim_of rest) (escaped b) (flat_map escaped others)
    ∙ ap (λ (w : Bytes). (before ++ verbatim_of rest) ++ w) (sym (flat_map-cons escaped b others) ∙ ap (flat_map escaped) is)
    ∙ append_assoc before (verbatim_of rest) (flat_map escaped (behind_verbatim rest))
    ∙ ap (λ (w : Bytes). before ++ w) (sym (escaped_parts rest)) ∙ so_far

pub escapes_end : (before longer total rest behind : Bytes) → before ++ flat_map escaped rest ≡ total → longer ≡ before ++ verbatim_of rest → behind ≡ behind_verbatim rest → length behind < 1 → longer ≡ total
escapes_end before longer total rest behind so_far run is short =
    run ∙ ap (λ (w : Bytes). before ++ w) (sym (append-nil (verbatim_of rest)) ∙ ap (λ (w : Bytes). verbatim_of rest ++ flat_map escaped w) (sym (empty behind short) ∙ is) ∙ sym (escaped_parts rest)) ∙ so_far
  where
    empty : (w : Bytes) → length w < 1 → w ≡ []
    empty [] h = refl
    empty (c ∷ cs) h = absurd (omega (arith, h))

-- ---- read

bytes_first : (bs : Bytes) (others : List Piece) → bytes_of (map byte bs ++ others) ≡ bs ++ bytes_of others
bytes_first [] others = refl
bytes_first (b ∷ bs) others = ap (λ (w : Bytes). b ∷ w) (bytes_first bs others)

waiting_first : (waiting : Option ℕ) (bs : Bytes) (others : List Piece) → length bs ≢ 0 → bytes_behind waiting (map byte bs ++ others) ≡ waiting_bytes waiting ++ (bs ++ bytes_of others)
waiting_first waiting [] others some' = absurd (some' refl)
waiting_first None (b ∷ bs) others some' = bytes_first (b ∷ bs) others
waiting_first (Some n) (b ∷ bs) others some' = ap (λ (w : Bytes). utf8 n ++ w) (bytes_first (b ∷ bs) others)

pub bytes_pushed : (old flushed new bs : Bytes) (waiting then_waiting : Option ℕ) → length bs ≢ 0 → (flushed ≡ old ++ waiting_bytes waiting) × (then_waiting ≡ None) → new ≡ flushed ++ bs
    → (others : List Piece) → new ++ bytes_behind then_waiting others ≡ old ++ bytes_behind waiting (map byte bs ++ others)
bytes_pushed old flushed new bs waiting then_waiting some' first second others =
    ap (λ (o : Option ℕ). new ++ bytes_behind o others) first.1
    ∙ ap (λ (w : Bytes). w ++ bytes_of others) (second ∙ ap (λ (w : Bytes). w ++ bs) first.0)
    ∙ append_assoc (old ++ waiting_bytes waiting) bs (bytes_of others) ∙ append_assoc old (waiting_bytes waiting) (bs ++ bytes_of others)
    ∙ ap (λ (w : Bytes). old ++ w) (sym (waiting_first waiting bs others some'))

abbrev behind_bytes : Bytes → Read (List Piece) → Read (List Piece)
behind_bytes bs read = read >>= λ y. Ok (map byte bs ++ y.0, y.1)

behind_none : (read : Read (List Piece)) → read ≡ behind_bytes [] read
behind_none (Ok x) = refl
behind_none (Err w) = refl

-- the pieces of bytes that stand for themselves are these bytes, and then those behind them
verbatim_pieces : (n : ℕ) (ts : Bytes) → length ts ≤ n → (m : ℕ) × (length (behind_verbatim ts) ≤ m) × (pieces_within n ts ≡ behind_bytes (verbatim_of ts) (pieces_within m (behind_verbatim ts)))
verbatim_pieces n [] fits' = (n, fits', behind_none (pieces_within n []))
verbatim_pieces zero (c ∷ cs) fits' = absurd (omega (arith, fits'))
verbatim_pieces (suc n) (c ∷ cs) fits' = by (is_verbatim c) refl (verbatim_pieces n cs (omega (arith, fits')))
  where
    one_more : (read : Read (List Piece)) → (behind_bytes (verbatim_of cs) read >>= λ y. Ok (byte c ∷ y.0, y.1)) ≡ behind_bytes (c ∷ verbatim_of cs) read
    one_more (Ok x) = refl
    one_more (Err w) = refl

    first : is_verbatim c ≡ true → pieces_within (suc n) (c ∷ cs) ≡ (pieces_within n cs >>= λ y. Ok (byte c ∷ y.0, y.1))
    first is = let stands = plain_byte c is in
        if_false (eqb c 0x22) (Ok ([], cs)) (piece_at (c ∷ cs) >>= λ x. pieces_within n x.1 >>= λ y. Ok (x.0 ∷ y.0, y.1)) (ne_eqb c 0x22 stands.no_quote)
        ∙ ap (λ (r : Read Piece). r >>= λ x. pieces_within n x.1 >>= λ y. Ok (x.0 ∷ y.0, y.1)) (piece_again (c ∷ []) (byte c) cs (itself c refl stands refl))

    by : (b : Bool) → is_verbatim c ≡ b → (m : ℕ) × (length (behind_verbatim cs) ≤ m) × (pieces_within n cs ≡ behind_bytes (verbatim_of cs) (pieces_within m (behind_verbatim cs)))
        → (m : ℕ) × (length (cond b (behind_verbatim cs) (c ∷ cs)) ≤ m) × (pieces_within (suc n) (c ∷ cs) ≡ behind_bytes (cond b (c ∷ verbatim_of cs) []) (pieces_within m (cond b (behind_verbatim cs) (c ∷ cs))))
    by true is (m, room, e) = (m, room, first is ∙ ap (λ (r : Read (List Piece)). r >>= λ y. Ok (byte c ∷ y.0, y.1)) e ∙ one_more (pieces_within m (behind_verbatim cs)))
    by false is others = (suc n, fits', behind_none (pieces_within (suc n) (c ∷ cs)))

pub verbatim_goes_on : (bs later : Bytes) (waiting then_waiting : Option ℕ) (ts run behind : Bytes) (total : Read Bytes) → run ≡ verbatim_of ts → behind ≡ behind_verbatim ts
    → ((others : List Piece) → later ++ bytes_behind then_waiting others ≡ bs ++ bytes_behind waiting (map byte run ++ others))
    → (n : ℕ) × (length ts ≤ n) × (decoded bs waiting (pieces_within n ts) ≡ total)
    → (n : ℕ) × (length behind ≤ n) × (decoded later then_waiting (pieces_within n behind) ≡ total)
verbatim_goes_on bs later waiting then_waiting ts run behind total is_run is_behind pushed (n, fits', so_far) =
    let parts' = verbatim_pieces n ts fits' in
    subst (λ (u : Bytes). (k : ℕ) × (length u ≤ k) × (decoded later then_waiting (pieces_within k u) ≡ total)) (sym is_behind)
    (parts'.0, parts'.1, sym (regroup (pieces_within parts'.0 (behind_verbatim ts))) ∙ sym (ap (decoded bs waiting) parts'.2) ∙ so_far)
  where
    regroup : (read : Read (List Piece)) → decoded bs waiting (behind_bytes (verbatim_of ts) read) ≡ decoded later then_waiting read
    regroup (Ok y) = ap (λ (w : Bytes). Ok (w, y.1)) (ap (λ (r : Bytes). bs ++ bytes_behind waiting (map byte r ++ y.0)) (sym is_run) ∙ sym (pushed y.0))
    regroup (Err w) = refl
