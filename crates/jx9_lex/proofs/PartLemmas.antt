-- Parts of a text in quotes, put together.
use Rattle.std.proofs.Common.{◌≡◌, ◌≢◌, ◌<◌, ℕ, true, false, eqb, Err, inl, inr, List, [], ◌∷◌, ◌++◌, map, length, refl, sym, ap, subst, ◌∙◌, append_assoc, append-nil, arith}
use Rattle.std.proofs.lemmas.Bool.{eqb-true, eqb-false}
use Rattle.std.proofs.lemmas.List.{map-append}
use Rattle.uq_value.specs.Data.{Bytes}
use Rattle.uq_value.specs.Size.{text_size, most_size}
use Rattle.jx9_syntax.specs.Quoted.{Piece, byte, variable, with_byte, parts_of}
use Rattle.jx9_syntax.specs.Tokens.{FitsText, PartsFit, InLimit, quoted_kind}
use Rattle.jx9_syntax.specs.declared.parts.Part.{Part}
use Rattle.jx9_syntax.specs.declared.parts.Part.TheVariants as part
use Rattle.jx9_syntax.specs.declared.token.TokenKind.TheVariants as kind
use Rattle.jx9_lex.specs.declared.stop.Stop.{Stop}
use Rattle.jx9_lex.specs.declared.stop.Stop.TheVariants.{Bad, Memory}
use Rattle.jx9_lex.specs.Cuts.{GivesText}
use Rattle.jx9_lex.specs.Built.{text_parts, all_parts, IsOpen, AddsPiece, CannotAdd, GivesKind, GivesParts}

-- ---- the text of bytes

pub text_is_one : (b : ℕ) (bs : Bytes) → text_parts (b ∷ bs) ≡ part.Text (b ∷ bs) ∷ []
text_is_one b [] = refl
text_is_one b (c ∷ cs) = ap (with_byte b) (text_is_one c cs)

-- bytes before a variable are a text of their own
pub before_variable : (bs : Bytes) (name : Bytes) (ps : List Piece) → parts_of (map byte bs ++ variable name ∷ ps) ≡ text_parts bs ++ part.Var name ∷ parts_of ps
before_variable [] name ps = refl
before_variable (b ∷ []) name ps = refl
before_variable (b ∷ c ∷ cs) name ps =
    ap (with_byte b) (before_variable (c ∷ cs) name ps ∙ ap (λ (qs : List Part). qs ++ part.Var name ∷ parts_of ps) (text_is_one c cs))
    ∙ sym (ap (λ (qs : List Part). qs ++ part.Var name ∷ parts_of ps) (text_is_one b (c ∷ cs)))

-- ---- limits

pub fit_both : (ps qs : List Part) → PartsFit ps → PartsFit qs → PartsFit (ps ++ qs)
fit_both [] qs a b = b
fit_both (part.Text bs ∷ ps) qs a b = (a.0, fit_both ps qs a.1 b)
fit_both (part.Var bs ∷ ps) qs a b = (a.0, fit_both ps qs a.1 b)

pub fit_first : (ps qs : List Part) → PartsFit (ps ++ qs) → PartsFit ps
fit_first [] qs a = tt
fit_first (part.Text bs ∷ ps) qs a = (a.0, fit_first ps qs a.1)
fit_first (part.Var bs ∷ ps) qs a = (a.0, fit_first ps qs a.1)

pub fit_second : (ps qs : List Part) → PartsFit (ps ++ qs) → PartsFit qs
fit_second [] qs a = a
fit_second (part.Text bs ∷ ps) qs a = fit_second ps qs a.1
fit_second (part.Var bs ∷ ps) qs a = fit_second ps qs a.1

pub kind_fits : (ps : List Part) → InLimit (quoted_kind ps) → PartsFit ps
kind_fits [] a = tt
kind_fits (part.Text bs ∷ []) a = (a, tt)
kind_fits (part.Text bs ∷ p ∷ ps) a = a
kind_fits (part.Var bs ∷ ps) a = a

-- ---- one piece more

pub adds_byte : (b : ℕ) (parts : List Part) (old new : Bytes) → new ≡ old ++ b ∷ [] → AddsPiece (byte b) parts old parts new
adds_byte b parts old new e = record {
  shows = λ ps. ap (λ (qs : List Piece). parts ++ parts_of qs)
      (ap (λ (bs : Bytes). map byte bs ++ ps) e ∙ ap (λ (qs : List Piece). qs ++ ps) (map-append byte old (b ∷ [])) ∙ append_assoc (map byte old) (byte b ∷ []) ps);
  fits = λ h. h;
  is_open = λ h. h;
}

mixed_behind : (ys : List Part) (name : Bytes) (others : List Part) → quoted_kind (ys ++ part.Var name ∷ others) ≡ kind.Mixed (ys ++ part.Var name ∷ others)
mixed_behind [] name others = refl
mixed_behind (part.Var bs ∷ ys) name others = refl
mixed_behind (part.Text bs ∷ []) name others = refl
mixed_behind (part.Text bs ∷ y ∷ ys) name others = refl

pub adds_variable : (name : Bytes) (old with_text new : List Part) (pending : Bytes) → with_text ≡ old ++ text_parts pending → new ≡ with_text ++ part.Var name ∷ []
    → PartsFit (text_parts pending) → FitsText name → AddsPiece (variable name) old pending new []
adds_variable name old with_text new pending e f fit fits_name = record {
  shows = λ ps. ap (λ (qs : List Part). qs ++ parts_of ps) all ∙ append_assoc (old ++ text_parts pending) (part.Var name ∷ []) (parts_of ps)
      ∙ append_assoc old (text_parts pending) (part.Var name ∷ parts_of ps) ∙ sym (ap (λ (qs : List Part). old ++ qs) (before_variable pending name ps));
  fits = λ h. subst PartsFit (sym all) (fit_both (old ++ text_parts pending) (part.Var name ∷ []) (fit_both old (text_parts pending) h fit) (fits_name, tt));
  is_open = λ h. inr (λ others. subst (λ (qs : List Part). quoted_kind (qs ++ others) ≡ kind.Mixed (qs ++ others)) (sym all)
      (subst (λ (qs : List Part). quoted_kind qs ≡ kind.Mixed qs) (sym (append_assoc (old ++ text_parts pending) (part.Var name ∷ []) others)) (mixed_behind (old ++ text_parts pending) name others)));
}
  where
    all : new ≡ (old ++ text_parts pending) ++ part.Var name ∷ []
    all = f ∙ ap (λ (qs : List Part). qs ++ part.Var name ∷ []) e

-- the bytes before a variable, or its name, are too many
pub text_too_large : (name : Bytes) (old : List Part) (pending : Bytes) → (PartsFit (text_parts pending) → ⊥) → (ps : List Piece) → InLimit (quoted_kind (all_parts old pending (variable name ∷ ps))) → ⊥
text_too_large name old pending large ps small =
    let all = kind_fits (all_parts old pending (variable name ∷ ps)) small in
    let behind = fit_second old (parts_of (map byte pending ++ variable name ∷ ps)) all in
    large (fit_first (text_parts pending) (part.Var name ∷ parts_of ps) (subst PartsFit (before_variable pending name ps) behind))

pub name_too_large : (name : Bytes) (old : List Part) (pending : Bytes) → most_size < text_size name → (ps : List Piece) → InLimit (quoted_kind (all_parts old pending (variable name ∷ ps))) → ⊥
name_too_large name old pending large ps small =
    let all = kind_fits (all_parts old pending (variable name ∷ ps)) small in
    let behind = fit_second old (parts_of (map byte pending ++ variable name ∷ ps)) all in
    let name_fits = (fit_second (text_parts pending) (part.Var name ∷ parts_of ps) (subst PartsFit (before_variable pending name ps) behind)).0 in
    omega (arith, large, name_fits)

-- ---- the whole

pub text_alone : (parts : List Part) (bs : Bytes) → parts ≡ [] → quoted_kind (all_parts parts bs []) ≡ kind.Text bs
text_alone parts bs e = ap (λ (qs : List Part). quoted_kind (qs ++ parts_of (map byte bs ++ []))) e ∙ ap (λ (ps : List Piece). quoted_kind (parts_of ps)) (append-nil (map byte bs)) ∙ by bs
  where
    by : (bs : Bytes) → quoted_kind (text_parts bs) ≡ kind.Text bs
    by [] = refl
    by (b ∷ bs) = ap quoted_kind (text_is_one b bs)

pub mixed_whole : (parts all : List Part) (bs : Bytes) → IsOpen parts → (parts ≡ [] → ⊥) → all ≡ parts ++ text_parts bs → kind.Mixed all ≡ quoted_kind (all_parts parts bs [])
mixed_whole parts all bs (inl e) some' f = absurd (some' e)
mixed_whole parts all bs (inr h) some' f =
    ap (λ (qs : List Part). kind.Mixed qs) f ∙ sym (h (text_parts bs)) ∙ sym (ap (λ (ps : List Piece). quoted_kind (parts ++ parts_of ps)) (append-nil (map byte bs)))

-- ---- answers of the builder

pub empty_by : {A : Type 0} (n : ℕ) (xs : List A) → n ≡ length xs → eqb n 0 ≡ true → xs ≡ []
empty_by n [] e h = refl
empty_by n (x ∷ xs) e h = let z : n ≡ 0 = eqb-true n 0 h in absurd (omega (arith, e, z))

pub not_empty_by : {A : Type 0} (n : ℕ) (xs : List A) → n ≡ length xs → eqb n 0 ≡ false → xs ≡ [] → ⊥
not_empty_by n xs e h f = let z : n ≢ 0 = eqb-false n 0 h in let l : length xs ≡ 0 = ap length f in omega (arith, e, z, l)

pub text_is : (bs : Bytes) → (bs ≡ [] → ⊥) → text_parts bs ≡ part.Text bs ∷ []
text_is [] some' = absurd (some' refl)
text_is (b ∷ bs) some' = text_is_one b bs

pub text_parts_fail : (bs : Bytes) (e : Stop) → (bs ≡ [] → ⊥) → GivesText bs (Err e) → GivesParts (text_parts bs) (Err e)
text_parts_fail bs Bad some' large = λ small. let fits = (subst PartsFit (text_is bs some') small).0 in omega (arith, large, fits)
text_parts_fail bs Memory some' large = tt

pub text_kind_fails : (parts : List Part) (bs : Bytes) (e : Stop) → parts ≡ [] → GivesText bs (Err e) → GivesKind (quoted_kind (all_parts parts bs [])) (Err e)
text_kind_fails parts bs Bad is large = λ small. let fits : FitsText bs = subst InLimit (text_alone parts bs is) small in omega (arith, large, fits)
text_kind_fails parts bs Memory is large = tt

pub text_kind : (parts : List Part) (bs t : Bytes) → parts ≡ [] → (t ≡ bs) × FitsText bs → (kind.Text t ≡ quoted_kind (all_parts parts bs [])) × InLimit (quoted_kind (all_parts parts bs []))
text_kind parts bs t is fits = (ap (λ (w : Bytes). kind.Text w) fits.0 ∙ sym (text_alone parts bs is), subst InLimit (sym (text_alone parts bs is)) fits.1)

pub mixed_kind_fails : (parts : List Part) (bs : Bytes) (e : Stop) → GivesParts (text_parts bs) (Err e) → GivesKind (quoted_kind (all_parts parts bs [])) (Err e)
mixed_kind_fails parts bs Bad large = λ small.
    let all = kind_fits (all_parts parts bs []) small in
    large (subst (λ (ps : List Piece). PartsFit (parts_of ps)) (append-nil (map byte bs)) (fit_second parts (parts_of (map byte bs ++ [])) all))
mixed_kind_fails parts bs Memory large = tt

pub mixed_kind : (parts all : List Part) (bs : Bytes) → PartsFit parts → IsOpen parts → (parts ≡ [] → ⊥) → all ≡ parts ++ text_parts bs → PartsFit (text_parts bs)
    → (kind.Mixed all ≡ quoted_kind (all_parts parts bs [])) × InLimit (quoted_kind (all_parts parts bs []))
mixed_kind parts all bs fits is_open some' e more =
    let same = mixed_whole parts all bs is_open some' e in
    (same, subst InLimit same (subst PartsFit (sym e) (fit_both parts (text_parts bs) fits more)))

pub variable_text_fails : (name : Bytes) (old : List Part) (pending : Bytes) (e : Stop) → GivesParts (text_parts pending) (Err e) → CannotAdd (variable name) old pending e
variable_text_fails name old pending Bad large = text_too_large name old pending large
variable_text_fails name old pending Memory large = tt

pub variable_name_fails : (name : Bytes) (old : List Part) (pending : Bytes) (e : Stop) → GivesText name (Err e) → CannotAdd (variable name) old pending e
variable_name_fails name old pending Bad large = name_too_large name old pending large
variable_name_fails name old pending Memory large = tt
