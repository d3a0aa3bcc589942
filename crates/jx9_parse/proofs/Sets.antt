-- Sets of tokens by their numbers, and what a word begins with.
use Rattle.std.proofs.Common.{◌≡◌, ℕ, Bool, true, false, IsTrue, cond, eqb, List, [], ◌∷◌, ◌++◌, refl, sym, ap, subst, ◌∙◌}
use Rattle.std.proofs.lemmas.Bool.{eqb-true}
use Rattle.jx9_syntax.specs.Grammar.{code}
use Rattle.jx9_syntax.specs.Words.{Language, Then}
use Rattle.jx9_syntax.specs.declared.token.Token.{Token}
use Rattle.jx9_parse.specs.Reading.{Tokens, member, next_in}
use Rattle.jx9_parse.proofs.Laws.{Set, Begins, SameNext, Off}

abbrev pub In : List ℕ → Set
In cs t = IsTrue (member (code t) cs)

-- the word begins with one of these
abbrev pub Begin : List ℕ → Tokens → Type 0
Begin cs w = (t : Token) × (more : Tokens) × (w ≡ t ∷ more) × IsTrue (member (code t) cs)

-- the next token is none of these
abbrev pub NotIn : List ℕ → Tokens → Type 0
NotIn cs [] = Unit {0}
NotIn cs (t ∷ ts) = In cs t → ⊥

-- ---- tests that are computed

abbrev pub apart : List ℕ → List ℕ → Bool
apart [] ds = true
apart (c ∷ cs) ds = cond (member c ds) false (apart cs ds)

abbrev pub within : List ℕ → List ℕ → Bool
within [] ds = true
within (c ∷ cs) ds = cond (member c ds) (within cs ds) false

pub false_true : false ≡ true → ⊥
false_true e = cc

neither : (b r : Bool) → cond b false r ≡ true → (b ≡ false) × (r ≡ true)
neither true r h = absurd (false_true h)
neither false r h = (refl, h)

each : (b r : Bool) → cond b r false ≡ true → (b ≡ true) × (r ≡ true)
each true r h = (refl, h)
each false r h = absurd (false_true h)

pub apart_no : (cs ds : List ℕ) → apart cs ds ≡ true → (c : ℕ) → member c cs ≡ true → member c ds ≡ true → ⊥
apart_no [] ds h c i j = absurd (false_true i)
apart_no (d ∷ cs) ds h c i j = by (eqb c d) refl i (λ k. apart_no cs ds (neither (member d ds) (apart cs ds) h).1 c k j)
  where
    by : (b : Bool) → eqb c d ≡ b → cond b true (member c cs) ≡ true → (member c cs ≡ true → ⊥) → ⊥
    by true e k others = false_true (sym (neither (member d ds) (apart cs ds) h).0 ∙ subst (λ (x : ℕ). member x ds ≡ true) (eqb-true c d e) j)
    by false e k others = others k

pub within_in : (cs ds : List ℕ) → within cs ds ≡ true → (c : ℕ) → member c cs ≡ true → member c ds ≡ true
within_in [] ds h c i = absurd (false_true i)
within_in (d ∷ cs) ds h c i = by (eqb c d) refl i (λ k. within_in cs ds (each (member d ds) (within cs ds) h).1 c k)
  where
    by : (b : Bool) → eqb c d ≡ b → cond b true (member c cs) ≡ true → (member c cs ≡ true → member c ds ≡ true) → member c ds ≡ true
    by true e k others = subst (λ (x : ℕ). member x ds ≡ true) (sym (eqb-true c d e)) (each (member d ds) (within cs ds) h).0
    by false e k others = others k

pub in_left : (cs ds : List ℕ) (c : ℕ) → member c cs ≡ true → member c (cs ++ ds) ≡ true
in_left [] ds c i = absurd (false_true i)
in_left (d ∷ cs) ds c i = by (eqb c d) i (λ k. in_left cs ds c k)
  where
    by : (b : Bool) → cond b true (member c cs) ≡ true → (member c cs ≡ true → member c (cs ++ ds) ≡ true) → cond b true (member c (cs ++ ds)) ≡ true
    by true k others = refl
    by false k others = others k

pub in_right : (cs ds : List ℕ) (c : ℕ) → member c ds ≡ true → member c (cs ++ ds) ≡ true
in_right [] ds c i = i
in_right (d ∷ cs) ds c i = by (eqb c d) (in_right cs ds c i)
  where
    by : (b : Bool) → member c (cs ++ ds) ≡ true → cond b true (member c (cs ++ ds)) ≡ true
    by true others = refl
    by false others = others

-- ---- what words begin with

pub begin_as : (cs ds : List ℕ) → ((c : ℕ) → member c cs ≡ true → member c ds ≡ true) → (w : Tokens) → Begin cs w → Begin ds w
begin_as cs ds h w s = (s.0, s.1, s.2, h (code s.0) s.3)

pub begin_then : {A B C : Type 0} (L : Language A) (M : A → Language B) (f : A → B → C) (cs : List ℕ) → ((w : Tokens) (a : A) → L w a → Begin cs w) → (w : Tokens) (c : C) → Then L M f w c → Begin cs w
begin_then L M f cs h w c is =
    let s = h is.front is.left is.is_left in
    (s.0, s.1 ++ is.back, is.parts ∙ ap (λ (u : Tokens). u ++ is.back) s.2, s.3)

pub off : (cs : List ℕ) (more : Set) (ts w : Tokens) → NotIn cs ts → Begin cs w → Off more ts w
off cs more ts w not s = subst (λ (u : Tokens). Off more ts u) (sym s.2) (by ts not)
  where
    by : (ts : Tokens) → NotIn cs ts → SameNext ts (s.0 ∷ s.1) → ⊥
    by [] not same = same
    by (t ∷ ts) not same = not (subst (λ (y : Token). In cs y) (sym same) s.3)

-- a part that begins so does not go on with what came before
pub parted_by : (cs ms : List ℕ) (after : Set) → apart ms cs ≡ true → (w v : Tokens) → Begin cs w → Begins (In ms) (w ++ v) → Begins after v
parted_by cs ms after h w v s far =
    absurd (apart_no ms cs h (code s.0) (subst (λ (u : Tokens). Begins (In ms) u) (ap (λ (u : Tokens). u ++ v) s.2) far) s.3)

pub begins_in : (cs : List ℕ) (ts : Tokens) → next_in cs ts ≡ true → Begins (In cs) ts
begins_in cs [] h = absurd (false_true h)
begins_in cs (t ∷ ts) h = h

pub begins_as : (cs ds : List ℕ) → ((c : ℕ) → member c cs ≡ true → member c ds ≡ true) → (ts : Tokens) → Begins (In cs) ts → Begins (In ds) ts
begins_as cs ds h [] b = b
begins_as cs ds h (t ∷ ts) b = h (code t) b

pub next_no : (cs ds : List ℕ) → apart cs ds ≡ true → (ts : Tokens) → next_in cs ts ≡ true → NotIn ds ts
next_no cs ds h [] e = tt
next_no cs ds h (t ∷ ts) e = apart_no cs ds h (code t) e

pub next_not : (cs : List ℕ) (ts : Tokens) → next_in cs ts ≡ false → NotIn cs ts
next_not cs [] e = tt
next_not cs (t ∷ ts) e = λ h. false_true (sym e ∙ h)
