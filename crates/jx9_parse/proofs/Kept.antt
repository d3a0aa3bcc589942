-- What holds of a tree with the table of lambdas in which those of the tree stand, wherever the tree stands.
use Rattle.std.proofs.Common.{◌≡◌, ℕ, suc, ◌+◌, List, [], ◌∷◌, ◌++◌, length, slice_get, Option, Some, None, refl, sym, ap, subst, ◌∙◌, append_assoc, arith}
use Rattle.std.proofs.lemmas.List.{length-append}
use Rattle.jx9_syntax.specs.Grammar.{Rule, Seq, Repeat, Commas, Perhaps, without, with_one, PerhapsCommas, Before, Ending, Spot, is_sign, Listed, BehindItem, no_item, an_item, last_item, comma_behind, second, first, or_none}
use Rattle.jx9_syntax.specs.Making.{Making, nothing, mapped, then_made, all_made, lambda_made}
use Rattle.jx9_syntax.specs.Words.{One, Map, Many}
use Rattle.jx9_syntax.specs.declared.program.Function.{Function}
use Rattle.jx9_syntax.specs.declared.sign.Sign.{Sign}
use Rattle.jx9_syntax.specs.declared.sign.Sign.TheVariants as sign
use Rattle.jx9_syntax.specs.declared.token.Token.{Token}
use Rattle.jx9_parse.specs.Reading.{Tokens}

abbrev pub Table : Type 0
Table = List Function

-- a property of trees with a table of lambdas
abbrev pub Fit : Type 0 → Type 1
Fit A = Table → A → Type 0

abbrev pub Kept : {A : Type 0} → Fit A → Making A → Type 0
Kept P m = (before after : Table) (n : ℕ) → P (before ++ ((m n (suc (length before))).lambdas ++ after)) (m n (suc (length before))).made

abbrev pub Keeps : {A : Type 0} → Rule A → Fit A → Type 0
Keeps {A} L P = (w : Tokens) (m : Making A) → L w m → Kept P m

abbrev pub Any : {A : Type 0} → Fit A
Any table a = Unit {0}

-- ---- makings

pub kept_same : {A : Type 0} (P : Fit A) (a b : Making A) → a ≡ b → Kept P b → Kept P a
kept_same P a b e h = subst (λ (m : Making _). Kept P m) (sym e) h

pub kept_map : {A B : Type 0} (P : Fit A) (Q : Fit B) (f : A → B) → ((table : Table) (a : A) → P table a → Q table (f a)) → (m : Making A) → Kept P m → Kept Q (mapped f m)
kept_map P Q f h m k before after n = h (before ++ ((m n (suc (length before))).lambdas ++ after)) (m n (suc (length before))).made (k before after n)

pub kept_then : {A B C : Type 0} (P : Fit A) (Q : Fit B) (R : Fit C) (f : A → B → C) → ((table : Table) (a : A) (b : B) → P table a → Q table b → R table (f a b)) → (a : Making A) (b : Making B) → Kept P a → Kept Q b → Kept R (then_made f a b)
kept_then {A} {B} {C} P Q R f h a b k l before after n =
    let x = a n (suc (length before)) in
    let e : suc (length (before ++ x.lambdas)) ≡ suc (length before) + length x.lambdas = omega (arith, length-append before x.lambdas) in
    let y = b x.next (suc (length before) + length x.lambdas) in
    let table = before ++ ((x.lambdas ++ y.lambdas) ++ after) in
    let p : P table x.made = subst (λ (t : Table). P (before ++ t) x.made) (sym (append_assoc x.lambdas y.lambdas after)) (k before (y.lambdas ++ after) n) in
    let q' : Q ((before ++ x.lambdas) ++ (y.lambdas ++ after)) y.made = subst (λ (j : ℕ). Q ((before ++ x.lambdas) ++ ((b x.next j).lambdas ++ after)) (b x.next j).made) e (l (before ++ x.lambdas) after x.next) in
    let q : Q table y.made = subst (λ (t : Table). Q t y.made) (append_assoc before x.lambdas (y.lambdas ++ after) ∙ sym (ap (λ (t : Table). before ++ t) (append_assoc x.lambdas y.lambdas after))) q' in
    h table x.made y.made p q

pub kept_nothing : {A : Type 0} (P : Fit A) (a : A) → ((table : Table) → P table a) → Kept P (nothing a)
kept_nothing P a h before after n = h (before ++ ([] ++ after))

get_at : (before : Table) (f : Function) (after : Table) → slice_get (before ++ (f ∷ after)) (length before) ≡ Some f
get_at [] f after = refl
get_at (g ∷ before) f after = get_at before f after

-- a lambda stands in the table before those within
pub kept_lambda : {A B : Type 0} (P : Fit A) (R : Fit B) (f : A → ℕ → B) (g : A → Function) → ((table : Table) (a : A) (i : ℕ) → slice_get table i ≡ Some (g a) → P table a → R table (f a (suc i))) → (m : Making A) → Kept P m → Kept R (lambda_made f g m)
kept_lambda {A} P R f g h m k before after n =
    let x = m n (suc (suc (length before))) in
    let e : suc (length (before ++ (g x.made ∷ []))) ≡ suc (suc (length before)) = omega (arith, length-append before (g x.made ∷ [])) in
    let table = before ++ ((g x.made ∷ x.lambdas) ++ after) in
    let p' : P ((before ++ (g x.made ∷ [])) ++ (x.lambdas ++ after)) x.made = subst (λ (j : ℕ). P ((before ++ (g x.made ∷ [])) ++ ((m n j).lambdas ++ after)) (m n j).made) e (k (before ++ (g x.made ∷ [])) after n) in
    h table x.made (length before) (get_at before (g x.made) (x.lambdas ++ after)) (subst (λ (t : Table). P t x.made) (append_assoc before (g x.made ∷ []) (x.lambdas ++ after)) p')

-- ---- rules

module _ {A B C : Type 0} {L : Rule A} {M : Rule B} where
  pub keeps_seq : (P : Fit A) (Q : Fit B) (R : Fit C) (f : A → B → C) → ((table : Table) (a : A) (b : B) → P table a → Q table b → R table (f a b)) → Keeps L P → Keeps M Q → Keeps (Seq f L M) R
  keeps_seq P Q R f h l m w c is = kept_same R c (then_made f is.left is.right) is.is_value (kept_then P Q R f h is.left is.right (l is.front is.left is.is_left) (m is.back is.right is.is_right))

pub keeps_map : {A B : Type 0} {L : Rule A} (P : Fit A) (Q : Fit B) (f : A → B) → ((table : Table) (a : A) → P table a → Q table (f a)) → Keeps L P → Keeps (Map L (mapped f)) Q
keeps_map P Q f h l w c is = kept_same Q c (mapped f is.value) is.is_value (kept_map P Q f h is.value (l w is.value is.is_word))

pub keeps_lambda : {A B : Type 0} {L : Rule A} (P : Fit A) (R : Fit B) (f : A → ℕ → B) (g : A → Function) → ((table : Table) (a : A) (i : ℕ) → slice_get table i ≡ Some (g a) → P table a → R table (f a (suc i))) → Keeps L P → Keeps (Map L (lambda_made f g)) R
keeps_lambda P R f g h l w c is = kept_same R c (lambda_made f g is.value) is.is_value (kept_lambda P R f g h is.value (l w is.value is.is_word))

pub keeps_any : {A : Type 0} (L : Rule A) → Keeps L Any
keeps_any L w m is before after n = tt

pub keeps_before : {A : Type 0} {L : Rule A} (P : Fit A) {test : Token → Option (Making Spot)} → Keeps L P → Keeps (Before test L) P
keeps_before P {test = test} l = keeps_seq Any P P second (λ table s a p q. q) (keeps_any (One test)) l

pub keeps_ending : {A : Type 0} {L : Rule A} (P : Fit A) {test : Token → Option (Making Spot)} → Keeps L P → Keeps (Ending L test) P
keeps_ending P {test = test} l = keeps_seq P Any P first (λ table a s p q. p) l (keeps_any (One test))

-- a property of lists by one of their items
pub record ListFit {A : Type 0} (P : Fit A) (Q : Fit (List A)) : Type 0 where
  pub none : (table : Table) → Q table []
  pub more : (table : Table) (a : A) (others : List A) → P table a → Q table others → Q table (a ∷ others)

module _ {A : Type 0} {L : Rule A} (P : Fit A) (Q : Fit (List A)) (f : ListFit P Q) (l : Keeps L P) where
  kept_all : (w : Tokens) (items : List (Making A)) → Many L w items → Kept Q (all_made items)
  kept_all w [] is = kept_nothing Q [] f.none
  kept_all w (a ∷ items) is = kept_then P Q Q ◌∷◌ f.more a (all_made items) (l is.0 a is.3) (kept_all is.1 items is.4)

  pub keeps_repeat : Keeps (Repeat L) Q
  keeps_repeat w m is = kept_same Q m (all_made is.value) is.is_value (kept_all w is.value is.is_word)

module _ {A : Type 0} {L : Rule A} (P : Fit A) (Q : Fit (List A)) (f : ListFit P Q) (l : Keeps L P) where
  pub keeps_commas : Keeps (Commas L) Q
  keeps_commas = keeps_seq P Q Q ◌∷◌ f.more l (keeps_repeat P Q f (keeps_before P l))

  mutual
    pub keeps_listed : (close : Sign) (w : Tokens) (m : Making (List A)) → Listed close L w m → Kept Q m
    keeps_listed close w m (no_item is) = keeps_map Any Q (λ s. []) (λ table s p. f.none table) (keeps_any (One (is_sign close))) w m is
    keeps_listed close w m (an_item front back a others parts is_left is_right is_value) = kept_same Q m (then_made ◌∷◌ a others) is_value (kept_then P Q Q ◌∷◌ f.more a others (l front a is_left) (keeps_behind close back others is_right))

    keeps_behind : (close : Sign) (w : Tokens) (m : Making (List A)) → BehindItem close L w m → Kept Q m
    keeps_behind close w m (last_item is) = keeps_map Any Q (λ s. []) (λ table s p. f.none table) (keeps_any (One (is_sign close))) w m is
    keeps_behind close w m (comma_behind front back s others parts is_left is_right is_value) =
        kept_same Q m (then_made second s others) is_value (kept_then Any Q Q second (λ table s a p q. q) s others (keeps_any (One (is_sign sign.Comma)) front s is_left) (keeps_listed close back others is_right))

abbrev pub OptionFit : {A : Type 0} → Fit A → Fit (Option A)
OptionFit P table None = Unit {0}
OptionFit P table (Some a) = P table a

pub keeps_perhaps : {A : Type 0} {L : Rule A} (P : Fit A) → Keeps L P → Keeps (Perhaps L) (OptionFit P)
keeps_perhaps P l w m (without is) = kept_same (OptionFit P) m (nothing None) is.is_value (kept_nothing (OptionFit P) None (λ table. tt))
keeps_perhaps P l w m (with_one is) = keeps_map P (OptionFit P) Some (λ table a p. p) l w m is

pub keeps_perhaps_commas : {A : Type 0} {L : Rule A} (P : Fit A) (Q : Fit (List A)) → ListFit P Q → Keeps L P → Keeps (PerhapsCommas L) Q
keeps_perhaps_commas {A} P Q f l = keeps_map (OptionFit Q) Q or_none some (keeps_perhaps Q (keeps_commas P Q f l))
  where
    some : (table : Table) (o : Option (List A)) → OptionFit Q table o → Q table (or_none o)
    some table None h = f.none table
    some table (Some as') h = h
