-- A choice where words of the second that begin with `{` are barred.
use Rattle.std.proofs.Common.{◌≡◌, ℕ, Bool, true, false, cond, eqb, ◌⊎◌, inl, inr, List, [], ◌∷◌, ◌++◌, Ok, Err, refl, sym, ap, subst, ◌∙◌}
use Rattle.std.proofs.lemmas.Bool.{eq-eqb, eqb-true}
use Rattle.jx9_syntax.specs.Grammar.{code, Rule, BeginsNoBlock}
use Rattle.jx9_syntax.specs.Making.{Making}
use Rattle.jx9_syntax.specs.declared.token.Token.{Token}
use Rattle.jx9_parse.specs.Reading.{Tokens, Reader, next_in, choose}
use Rattle.jx9_parse.proofs.Unplaced.{Found}
use Rattle.jx9_parse.proofs.Laws.{Off, Told, told_chosen}
use Rattle.jx9_parse.proofs.Sets.{In, Begin, NotIn, apart, apart_no, in_left, in_right, begin_as, off, next_not, false_true}
use Rattle.jx9_parse.proofs.Parts.{Part, Or, told_cond, cond_runs}

abbrev pub NoBrace : {A : Type 0} → Rule A → Rule A
NoBrace M w m = BeginsNoBlock w × M w m

is_brace : (t : Token) → code t ≡ 12 → In (12 ∷ []) t
is_brace t e = ap (λ (b : Bool). cond b true false) (eq-eqb (code t) 12 e)

true_of : (b : Bool) → cond b true false ≡ true → b ≡ true
true_of true h = refl
true_of false h = h

brace_is : (t : Token) → In (12 ∷ []) t → code t ≡ 12
brace_is t i = eqb-true (code t) 12 (true_of (eqb (code t) 12) i)

-- what begins otherwise begins with no `{`
pub no_block : (cs : List ℕ) → apart cs (12 ∷ []) ≡ true → (w : Tokens) → Begin cs w → BeginsNoBlock w
no_block cs h w s = subst BeginsNoBlock (sym s.2) (λ e. apart_no cs (12 ∷ []) h (code s.0) s.3 (is_brace s.0 e))

module _ {A : Type 0} {M : Rule A} {bs : List ℕ} {q : Reader A} (m : Part M [] bs q) (some : (w : Tokens) × (a : Making A) × NoBrace M w a) where
  first_is : (ts : Tokens) → NotIn (12 ∷ []) ts → (t : Token) (more : Tokens) → ts ≡ t ∷ more → code t ≡ 12 → ⊥
  first_is ts not t more e c = by (subst (NotIn (12 ∷ [])) e not)
    where
      by : (In (12 ∷ []) t → ⊥) → ⊥
      by bars = bars (is_brace t c)

  told_barred : (ts : Tokens) (o : Found (Making A)) → NotIn (12 ∷ []) ts → Told M (λ _. In []) ts o → Told (NoBrace M) (λ _. In []) ts o
  told_barred ts (Ok x) not told = record {
    used = told.used;
    split = told.split;
    reads = (barred, told.reads);
    only = λ y u v b same eq word. told.only y u v b same eq word.1;
  }
    where
      barred : BeginsNoBlock told.used
      barred = let s = m.starts told.used x.0 told.reads in
          subst BeginsNoBlock (sym s.2) (first_is ts not s.0 (s.1 ++ x.1) (told.split ∙ ap (λ (w : Tokens). w ++ x.1) s.2))
  told_barred ts (Err rest) not told = record {
    seen = told.seen;
    split = told.split;
    open_end = by told.seen told.split told.open_end;
    dead = λ y u v b same eq word. told.dead y u v b same eq word.1;
  }
    where
      by : (seen : Tokens) → ts ≡ seen ++ rest → (w : Tokens) × (a : Making A) × M (seen ++ w) a → (w : Tokens) × (a : Making A) × NoBrace M (seen ++ w) a
      by [] split o = some
      by (t ∷ seen) split o = (o.0, o.1, (first_is ts not t (seen ++ rest) split, o.2))

  module _ {L : Rule A} {r : Reader A} (l : Part L [] (12 ∷ []) r) where
    as_first : (ts : Tokens) → next_in (12 ∷ []) ts ≡ true → (w : Tokens) (a : Making A) → Or L (NoBrace M) w a → L w a ⊎ Off (In []) ts w
    as_first ts e w a (inl is) = inl is
    as_first ts e w a (inr is) = inr (by ts e w (m.starts w a is.1) is.0)
      where
        by : (ts : Tokens) → next_in (12 ∷ []) ts ≡ true → (w : Tokens) → Begin bs w → BeginsNoBlock w → Off (In []) ts w
        by [] e w s bars = absurd (false_true e)
        by (t ∷ ts) e [] s bars = absurd (empty_begins s.2)
          where
            empty_begins : [] ≡ s.0 ∷ s.1 → ⊥
            empty_begins e = cc
        by (t ∷ ts) e (u ∷ w) s bars = λ same. bars (ap code (sym same) ∙ brace_is t e)

    as_second : (ts : Tokens) → next_in (12 ∷ []) ts ≡ false → (w : Tokens) (a : Making A) → Or L (NoBrace M) w a → NoBrace M w a ⊎ Off (In []) ts w
    as_second ts e w a (inl is) = inr (off (12 ∷ []) (In []) ts w (next_not (12 ∷ []) ts e) (l.starts w a is))
    as_second ts e w a (inr is) = inl is

    begin : (w : Tokens) (a : Making A) → Or L (NoBrace M) w a → Begin (12 ∷ bs) w
    begin w a (inl is) = begin_as (12 ∷ []) (12 ∷ bs) (λ c i. in_left (12 ∷ []) bs c i) w (l.starts w a is)
    begin w a (inr is) = begin_as bs (12 ∷ bs) (λ c i. in_right (12 ∷ []) bs c i) w (m.starts w a is.1)

    pub part_barred : Part (Or L (NoBrace M)) [] (12 ∷ bs) (choose (12 ∷ []) r q)
    part_barred = record {
      reads = λ ts. cond (next_in (12 ∷ []) ts) (l.reads ts) (m.reads ts);
      told = λ ts. told_cond (Or L (NoBrace M)) (λ _. In []) ts (next_in (12 ∷ []) ts) (l.reads ts) (m.reads ts)
          (λ e. told_chosen L (Or L (NoBrace M)) (λ _. In []) (λ _. In []) ts (l.reads ts) (λ w a is. inl is) (as_first ts e) (λ _ t i. i) (l.told ts))
          (λ e. told_chosen (NoBrace M) (Or L (NoBrace M)) (λ _. In []) (λ _. In []) ts (m.reads ts) (λ w a is. inr is) (as_second ts e) (λ _ t i. i) (told_barred ts (m.reads ts) (next_not (12 ∷ []) ts e) (m.told ts)));
      runs = λ s. cond_runs s (next_in (12 ∷ []) s.tokens) (r s) (q s) (l.reads s.tokens) (m.reads s.tokens) (l.runs s) (m.runs s);
      starts = begin;
      some = let a = l.some in (a.0, a.1, inl a.2);
    }
