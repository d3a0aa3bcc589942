-- Reading a text in quotes, piece by piece.
use Rattle.std.proofs.Common.{◌≡◌, ◌<◌, ◌≤◌, ℕ, zero, suc, ◌+◌, ◌*◌, Bool, true, false, cond, not, eqb, ◌&&◌, ◌||◌, inl, inr, List, [], ◌∷◌, ◌++◌, map, length, Option, Some, None, refl, sym, ap, subst, ◌∙◌, append_assoc, arith}
use Rattle.std.proofs.lemmas.Bool.{eqb-true}
use Rattle.std.proofs.lemmas.List.{map-append}
use Rattle.uq_value.specs.Data.{Bytes}
use Rattle.jx9_syntax.specs.Bytes.{Class, run, behind}
use Rattle.jx9_syntax.specs.Quoted.{Piece, byte, Cut, backslash, letter, letter_escape_at, number_escape_at, double_escape_at, single_escape_at, escape_at, variable_at, dollar_at, piece_at, parts_of}
use Rattle.jx9_syntax.specs.Quoted as quoted
use Rattle.std.specs.Char.{is_ascii_hexdigit, digit_value}
use Rattle.jx9_syntax.specs.Bytes.{is_letter, is_name_byte}
use Rattle.jx9_syntax.specs.Tokens.{Of, IsQuote, quoted_kind}
use Rattle.jx9_syntax.specs.Front.{Taken, ◌>>=◌, pieces_within, quoted_at}
use Rattle.jx9_syntax.specs.declared.parts.Part.{Part}
use Rattle.jx9_lex.specs.Classes.{test, verbatim_class}
use Rattle.jx9_lex.specs.Cuts.{IsBad, Fails}
use Rattle.jx9_lex.specs.Built.{all_parts, taken_behind, closed_at, AddsPiece, CannotAdd}
use Rattle.jx9_lex.specs.declared.stop.Stop.{Stop}
use Rattle.jx9_lex.specs.declared.stop.Stop.TheVariants.{Bad, Memory}

pub if_true : {A : Type 0} (t : Bool) (a b : A) → t ≡ true → cond t a b ≡ a
if_true t a b e = ap (λ (u : Bool). cond u a b) e

pub if_false : {A : Type 0} (t : Bool) (a b : A) → t ≡ false → cond t a b ≡ b
if_false t a b e = ap (λ (u : Bool). cond u a b) e

-- what reading goes on with gives the whole
pub record Reads (q : ℕ) (parts : List Part) (pending rest : Bytes) (total : Taken) : Type 0 where
  pub most : ℕ
  pub enough : length rest ≤ most
  pub gives : taken_behind parts pending (pieces_within q most rest) ≡ total

pub reads_all : (q : ℕ) (text : Bytes) (parts : List Part) (pending : Bytes) → parts ≡ [] → pending ≡ [] → Reads q parts pending text (quoted_at q text)
reads_all q text parts pending e f = record {
  most = length text;
  enough = omega arith;
  gives = ap (λ (qs : List Part). taken_behind qs pending (pieces_within q (length text) text)) e ∙ ap (λ (bs : Bytes). taken_behind [] bs (pieces_within q (length text) text)) f;
}

-- ---- bytes that stand for themselves

record IsVerbatim (q b : ℕ) : Type 0 where
  pub no_quote : eqb b q ≡ false
  pub is_itself : (bs : Bytes) → piece_at q (b ∷ bs) ≡ Some (byte b, bs)

single_verbatim : (b : ℕ) → (not (eqb b 0x27) && not (eqb b 0x5c)) ≡ true → IsVerbatim 0x27 b
single_verbatim b e = by (eqb b 0x27) refl (eqb b 0x5c) refl (eqb b 0x24) refl e
  where
    by : (t : Bool) → eqb b 0x27 ≡ t → (u : Bool) → eqb b 0x5c ≡ u → (v : Bool) → eqb b 0x24 ≡ v → (not t && not u) ≡ true → IsVerbatim 0x27 b
    by true h u i v j e = absurd (cc)
    by false h true i v j e = absurd (cc)
    by false h false i true j e = record {
      no_quote = h;
      is_itself = λ bs. if_false (eqb b 0x27) None (cond (eqb b 0x5c) (single_escape_at bs) (cond (eqb b 0x24) (Some (byte 0x24, bs)) (Some (byte b, bs)))) h
          ∙ if_false (eqb b 0x5c) (single_escape_at bs) (cond (eqb b 0x24) (Some (byte 0x24, bs)) (Some (byte b, bs))) i
          ∙ if_true (eqb b 0x24) (Some (byte 0x24, bs)) (Some (byte b, bs)) j ∙ ap (λ (k : ℕ). Some (byte k, bs)) (sym (eqb-true b 0x24 j));
    }
    by false h false i false j e = record {
      no_quote = h;
      is_itself = λ bs. if_false (eqb b 0x27) None (cond (eqb b 0x5c) (single_escape_at bs) (cond (eqb b 0x24) (Some (byte 0x24, bs)) (Some (byte b, bs)))) h
          ∙ if_false (eqb b 0x5c) (single_escape_at bs) (cond (eqb b 0x24) (Some (byte 0x24, bs)) (Some (byte b, bs))) i
          ∙ if_false (eqb b 0x24) (Some (byte 0x24, bs)) (Some (byte b, bs)) j;
    }

double_verbatim : (b : ℕ) → (not (eqb b 0x22) && not (eqb b 0x5c) && not (eqb b 0x24)) ≡ true → IsVerbatim 0x22 b
double_verbatim b e = by (eqb b 0x22) refl (eqb b 0x5c) refl (eqb b 0x24) refl e
  where
    by : (t : Bool) → eqb b 0x22 ≡ t → (u : Bool) → eqb b 0x5c ≡ u → (v : Bool) → eqb b 0x24 ≡ v → (not t && not u && not v) ≡ true → IsVerbatim 0x22 b
    by true h u i v j e = absurd (cc)
    by false h true i v j e = absurd (cc)
    by false h false i true j e = absurd (cc)
    by false h false i false j e = record {
      no_quote = h;
      is_itself = λ bs. if_false (eqb b 0x22) None (cond (eqb b 0x5c) (double_escape_at bs) (cond (eqb b 0x24) (variable_at bs) (Some (byte b, bs)))) h
          ∙ if_false (eqb b 0x5c) (double_escape_at bs) (cond (eqb b 0x24) (variable_at bs) (Some (byte b, bs))) i
          ∙ if_false (eqb b 0x24) (variable_at bs) (Some (byte b, bs)) j;
    }

is_verbatim : (q b : ℕ) → IsQuote q → test (verbatim_class q) b ≡ true → IsVerbatim q b
is_verbatim q b (inl e) h = subst (λ (k : ℕ). IsVerbatim k b) (sym e) (single_verbatim b (sym (ap (λ (k : ℕ). test (verbatim_class k) b) e) ∙ h))
is_verbatim q b (inr e) h = subst (λ (k : ℕ). IsVerbatim k b) (sym e) (double_verbatim b (sym (ap (λ (k : ℕ). test (verbatim_class k) b) e) ∙ h))

abbrev Read : Type 0
Read = Option (List Piece × Bytes)

abbrev behind_bytes : Bytes → Read → Read
behind_bytes bs read = read >>= λ y. Some (map byte bs ++ y.0, y.1)

behind_none : (read : Read) → read ≡ behind_bytes [] read
behind_none (Some x) = refl
behind_none None = refl

one_before : (b : ℕ) (bs : Bytes) (read : Read) → (behind_bytes bs read >>= λ y. Some (byte b ∷ y.0, y.1)) ≡ behind_bytes (b ∷ bs) read
one_before b bs (Some x) = refl
one_before b bs None = refl

record ReadsBehind (q n : ℕ) (p : Class) (ts : Bytes) : Type 0 where
  pub most : ℕ
  pub enough : length (behind p ts) ≤ most
  pub same : pieces_within q n ts ≡ behind_bytes (run p ts) (pieces_within q most (behind p ts))

read_behind : (q n : ℕ) (p : Class) → ((b : ℕ) → p b ≡ true → IsVerbatim q b) → (ts : Bytes) → length ts ≤ n → ReadsBehind q n p ts
read_behind q n p plain [] fits = record { most = n; enough = fits; same = behind_none (pieces_within q n []) }
read_behind q zero p plain (b ∷ bs) fits = absurd (omega (arith, fits))
read_behind q (suc n) p plain (b ∷ bs) fits = by (p b) refl (read_behind q n p plain bs (omega (arith, fits)))
  where
    first : IsVerbatim q b → pieces_within q (suc n) (b ∷ bs) ≡ (pieces_within q n bs >>= λ y. Some (byte b ∷ y.0, y.1))
    first is =
        if_false (eqb b q) (Some ([], bs)) (piece_at q (b ∷ bs) >>= λ x. pieces_within q n x.1 >>= λ y. Some (x.0 ∷ y.0, y.1)) is.no_quote
        ∙ ap (λ (c : Cut). c >>= λ x. pieces_within q n x.1 >>= λ y. Some (x.0 ∷ y.0, y.1)) (is.is_itself bs)

    by : (t : Bool) → p b ≡ t → ReadsBehind q n p bs → ReadsBehind q (suc n) p (b ∷ bs)
    by true e others = record {
      most = others.most;
      enough = subst (λ (w : Bytes). length w ≤ others.most) (sym (if_true (p b) (behind p bs) (b ∷ bs) e)) others.enough;
      same = first (plain b e) ∙ ap (λ (r : Read). r >>= λ y. Some (byte b ∷ y.0, y.1)) others.same ∙ one_before b (run p bs) (pieces_within q others.most (behind p bs))
          ∙ sym (ap (λ (w : Bytes). behind_bytes w (pieces_within q others.most (behind p (b ∷ bs)))) (if_true (p b) (b ∷ run p bs) [] e)
          ∙ ap (λ (w : Bytes). behind_bytes (b ∷ run p bs) (pieces_within q others.most w)) (if_true (p b) (behind p bs) (b ∷ bs) e));
    }
    by false e others = record {
      most = suc n;
      enough = subst (λ (w : Bytes). length w ≤ suc n) (sym (if_false (p b) (behind p bs) (b ∷ bs) e)) fits;
      same = behind_none (pieces_within q (suc n) (b ∷ bs))
          ∙ sym (ap (λ (w : Bytes). behind_bytes w (pieces_within q (suc n) (behind p (b ∷ bs)))) (if_false (p b) (b ∷ run p bs) [] e)
          ∙ ap (λ (w : Bytes). behind_bytes [] (pieces_within q (suc n) w)) (if_false (p b) (behind p bs) (b ∷ bs) e));
    }

pending_more : (parts : List Part) (pending word : Bytes) (read : Read) → taken_behind parts pending (behind_bytes word read) ≡ taken_behind parts (pending ++ word) read
pending_more parts pending word None = refl
pending_more parts pending word (Some y) =
    ap (λ (ps : List Piece). Some (Of (quoted_kind (parts ++ parts_of ps)), y.1))
    (sym (append_assoc (map byte pending) (map byte word) y.0) ∙ ap (λ (ps : List Piece). ps ++ y.0) (sym (map-append byte pending word)))

-- after the bytes that are taken at once
pub reads_run : (q : ℕ) (parts : List Part) (pending longer ts word after : Bytes) (total : Taken) → IsQuote q → longer ≡ pending ++ word → word ≡ run (test (verbatim_class q)) ts
    → after ≡ behind (test (verbatim_class q)) ts → Reads q parts pending ts total → Reads q parts longer after total
reads_run q parts pending longer ts word after total is_quote e f g so_far =
    let p : Class = test (verbatim_class q) in
    let r = read_behind q so_far.most p (λ b h. is_verbatim q b is_quote h) ts so_far.enough in
    record {
      most = r.most;
      enough = subst (λ (w : Bytes). length w ≤ r.most) (sym g) r.enough;
      gives = ap (λ (w : Bytes). taken_behind parts w (pieces_within q r.most after)) (e ∙ ap (λ (w : Bytes). pending ++ w) f)
          ∙ ap (λ (w : Bytes). taken_behind parts (pending ++ run p ts) (pieces_within q r.most w)) g
          ∙ sym (pending_more parts pending (run p ts) (pieces_within q r.most (behind p ts))) ∙ sym (ap (taken_behind parts pending) r.same) ∙ so_far.gives;
    }

-- ---- a piece

no_quote_first : (q b : ℕ) (bs : Bytes) (p : Piece) (after : Bytes) → piece_at q (b ∷ bs) ≡ Some (p, after) → eqb b q ≡ false
no_quote_first q b bs p after e = by (eqb b q) refl
  where
    by : (t : Bool) → eqb b q ≡ t → t ≡ false
    by true f = let g : ◌≡◌ {A = Cut} None (Some (p, after)) = sym (if_true (eqb b q) None (cond (eqb b 0x5c) (escape_at q bs) (cond (eqb b 0x24) (dollar_at q bs) (Some (byte b, bs)))) f) ∙ e in absurd cc
    by false f = refl

-- what is read where this piece is next
pub piece_first : (q : ℕ) (parts : List Part) (pending ts : Bytes) (p : Piece) (after : Bytes) (total : Taken) → piece_at q ts ≡ Some (p, after) → length after < length ts → Reads q parts pending ts total
    → (n : ℕ) × (length after ≤ n) × (taken_behind parts pending (pieces_within q n after >>= λ y. Some (p ∷ y.0, y.1)) ≡ total)
piece_first q parts pending [] p after total e shorter so_far = let f : ◌≡◌ {A = Cut} None (Some (p, after)) = e in absurd cc
piece_first q parts pending (b ∷ bs) p after total e shorter so_far = by so_far.most so_far.enough so_far.gives
  where
    by : (n : ℕ) → length (b ∷ bs) ≤ n → taken_behind parts pending (pieces_within q n (b ∷ bs)) ≡ total
        → (n : ℕ) × (length after ≤ n) × (taken_behind parts pending (pieces_within q n after >>= λ y. Some (p ∷ y.0, y.1)) ≡ total)
    by zero enough gives = absurd (omega (arith, enough))
    by (suc n) enough gives = (
      n,
      omega (arith, enough, shorter),
      sym (ap (taken_behind parts pending)
          (if_false (eqb b q) (Some ([], bs)) (piece_at q (b ∷ bs) >>= λ x. pieces_within q n x.1 >>= λ y. Some (x.0 ∷ y.0, y.1)) (no_quote_first q b bs p after e)
          ∙ ap (λ (c : Cut). c >>= λ x. pieces_within q n x.1 >>= λ y. Some (x.0 ∷ y.0, y.1)) e))
          ∙ gives,
    )

piece_more : (old new : List Part) (old_bytes new_bytes : Bytes) (p : Piece) (read : Read) → ((ps : List Piece) → all_parts new new_bytes ps ≡ all_parts old old_bytes (p ∷ ps))
    → taken_behind old old_bytes (read >>= λ y. Some (p ∷ y.0, y.1)) ≡ taken_behind new new_bytes read
piece_more old new old_bytes new_bytes p None shows = refl
piece_more old new old_bytes new_bytes p (Some y) shows = ap (λ (qs : List Part). Some (Of (quoted_kind qs), y.1)) (sym (shows y.0))

pub reads_piece : (q : ℕ) (old new : List Part) (old_bytes new_bytes ts : Bytes) (p : Piece) (after : Bytes) (total : Taken) → piece_at q ts ≡ Some (p, after) → length after < length ts
    → AddsPiece p old old_bytes new new_bytes → Reads q old old_bytes ts total → Reads q new new_bytes after total
reads_piece q old new old_bytes new_bytes ts p after total e shorter adds so_far =
    let next = piece_first q old old_bytes ts p after total e shorter so_far in
    record {
      most = next.0;
      enough = next.1;
      gives = sym (piece_more old new old_bytes new_bytes p (pieces_within q next.0 after) adds.shows) ∙ next.2;
    }

pub piece_fails : (q : ℕ) (old : List Part) (old_bytes ts : Bytes) (p : Piece) (after : Bytes) (total : Taken) (s : Stop) → piece_at q ts ≡ Some (p, after) → length after < length ts
    → CannotAdd p old old_bytes s → Reads q old old_bytes ts total → Fails s total
piece_fails q old old_bytes ts p after total Memory e shorter cannot so_far = tt
piece_fails q old old_bytes ts p after total Bad e shorter cannot so_far =
    let next = piece_first q old old_bytes ts p after total e shorter so_far in
    subst IsBad next.2 (by (pieces_within q next.0 after))
  where
    by : (read : Read) → IsBad (taken_behind old old_bytes (read >>= λ y. Some (p ∷ y.0, y.1)))
    by None = tt
    by (Some y) = cannot y.0

-- ---- no piece is next

abbrev IsSome' : Cut → Type 0
IsSome' None = ⊥
IsSome' (Some x) = Unit {0}

some_if : (t : Bool) (x y : Cut) → IsSome' x → IsSome' y → IsSome' (cond t x y)
some_if true x y a b = a
some_if false x y a b = b

some_letter : (o : Option ℕ) (c : ℕ) (rest : Bytes) → IsSome' (letter_escape_at o c rest)
some_letter (Some b) c rest = tt
some_letter None c rest = tt

some_number : (rest : Bytes) → IsSome' (number_escape_at rest)
some_number [] = tt
some_number (h ∷ []) = tt
some_number (h ∷ l ∷ rest) = some_if (is_ascii_hexdigit h && is_ascii_hexdigit l) (Some (byte (digit_value h * 16 + digit_value l), rest)) (backslash (0x78 ∷ h ∷ l ∷ rest)) tt tt

some_double : (rest : Bytes) → IsSome' (double_escape_at rest)
some_double [] = tt
some_double (c ∷ cs) = some_if (eqb c 0x78) (number_escape_at cs) (letter_escape_at (letter c) c cs) (some_number cs) (some_letter (letter c) c cs)

some_single : (rest : Bytes) → IsSome' (single_escape_at rest)
some_single [] = tt
some_single (c ∷ cs) = some_if (eqb c 0x27 || eqb c 0x5c) (Some (byte c, cs)) (backslash (c ∷ cs)) tt tt

some_variable : (rest : Bytes) → IsSome' (variable_at rest)
some_variable [] = tt
some_variable (c ∷ cs) = some_if (is_letter c) (Some (quoted.variable (c ∷ run is_name_byte cs), behind is_name_byte cs)) (Some (byte 0x24, c ∷ cs)) tt tt

some_other : (q b : ℕ) (bs : Bytes) → IsSome' (cond (eqb b 0x5c) (escape_at q bs) (cond (eqb b 0x24) (dollar_at q bs) (Some (byte b, bs))))
some_other q b bs =
    some_if (eqb b 0x5c) (escape_at q bs) (cond (eqb b 0x24) (dollar_at q bs) (Some (byte b, bs))) (some_if (eqb q 0x22) (double_escape_at bs) (single_escape_at bs) (some_double bs) (some_single bs))
    (some_if (eqb b 0x24) (dollar_at q bs) (Some (byte b, bs)) (some_if (eqb q 0x22) (variable_at bs) (Some (byte 0x24, bs)) (some_variable bs) tt) tt)

quote_next : (q b : ℕ) (bs : Bytes) → piece_at q (b ∷ bs) ≡ None → eqb b q ≡ true
quote_next q b bs e = by (eqb b q) refl
  where
    by : (t : Bool) → eqb b q ≡ t → t ≡ true
    by true f = refl
    by false f = absurd (subst IsSome' (sym (if_false (eqb b q) None (cond (eqb b 0x5c) (escape_at q bs) (cond (eqb b 0x24) (dollar_at q bs) (Some (byte b, bs)))) f) ∙ e) (some_other q b bs))

pub reads_end : (q : ℕ) (parts : List Part) (pending ts : Bytes) (total : Taken) → piece_at q ts ≡ None → Reads q parts pending ts total → closed_at parts pending ts ≡ total
reads_end q parts pending [] total e so_far = by so_far.most so_far.gives
  where
    by : (n : ℕ) → taken_behind parts pending (pieces_within q n []) ≡ total → closed_at parts pending [] ≡ total
    by zero gives = gives
    by (suc n) gives = gives
reads_end q parts pending (b ∷ bs) total e so_far = by so_far.most so_far.enough so_far.gives
  where
    by : (n : ℕ) → length (b ∷ bs) ≤ n → taken_behind parts pending (pieces_within q n (b ∷ bs)) ≡ total → closed_at parts pending (b ∷ bs) ≡ total
    by zero enough gives = absurd (omega (arith, enough))
    by (suc n) enough gives =
        sym (ap (taken_behind parts pending) (if_true (eqb b q) (Some ([], bs)) (piece_at q (b ∷ bs) >>= λ x. pieces_within q n x.1 >>= λ y. Some (x.0 ∷ y.0, y.1)) (quote_next q b bs e))) ∙ gives
