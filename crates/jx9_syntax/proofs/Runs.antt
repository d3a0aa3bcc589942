-- Runs of a class, and parts of a text.
use Rattle.std.proofs.Common.{◌≡◌, ℕ, ◌≤◌, Bool, true, false, cond, ◌&&◌, [], ◌∷◌, ◌++◌, length, refl, sym, ap, ◌∙◌, append_assoc, arith}
use Rattle.std.specs.List.{list_all}
use Rattle.std.proofs.lemmas.List.{length-append}
use Rattle.uq_value.specs.Data.{Bytes}
use Rattle.jx9_syntax.specs.Bytes.{Class, AllOf, run, behind}

pub if_true : {A : Type 0} (t : Bool) (a b : A) → t ≡ true → cond t a b ≡ a
if_true t a b e = ap (λ (u : Bool). cond u a b) e

pub if_false : {A : Type 0} (t : Bool) (a b : A) → t ≡ false → cond t a b ≡ b
if_false t a b e = ap (λ (u : Bool). cond u a b) e

pub both : (a b : Bool) → (a && b) ≡ true → (a ≡ true) × (b ≡ true)
both true b e = (refl, e)
both false b e = absurd (cc)

-- ---- cutting a text in two

pub same_front : (w x r s : Bytes) → length w ≡ length x → w ++ r ≡ x ++ s → (w ≡ x) × (r ≡ s)
same_front [] [] r s n e = (refl, e)
same_front [] (b ∷ x) r s n e = absurd (omega (arith, n))
same_front (a ∷ w) [] r s n e = absurd (omega (arith, n))
same_front (a ∷ w) (b ∷ x) r s n e =
    let f : a ≡ b = cc in
    let g : w ++ r ≡ x ++ s = cc in
    let h = same_front w x r s (omega (arith, n)) g in
    (ap (λ (c : ℕ). c ∷ w) f ∙ ap (λ (v : Bytes). b ∷ v) h.0, h.1)

-- two cuts that leave as much are the same
pub same_cut : (w x r s : Bytes) → w ++ r ≡ x ++ s → length r ≡ length s → (w ≡ x) × (r ≡ s)
same_cut w x r s e n =
    let both_lengths : length (w ++ r) ≡ length (x ++ s) = ap length e in
    same_front w x r s (omega (arith, n, both_lengths, length-append w r, length-append x s)) e

-- what is left of a text
abbrev pub Suffix : Bytes → Bytes → Type 0
Suffix rest text = (word : Bytes) × (text ≡ word ++ rest)

pub whole : (text : Bytes) → Suffix text text
whole text = ([], refl)

pub further : (b : ℕ) (rest text : Bytes) → Suffix rest text → Suffix rest (b ∷ text)
further b rest text s = (b ∷ s.0, ap (λ (w : Bytes). b ∷ w) s.1)

pub through : (a b c : Bytes) → Suffix a b → Suffix b c → Suffix a c
through a b c s t = (t.0 ++ s.0, t.1 ∙ ap (λ (w : Bytes). t.0 ++ w) s.1 ∙ sym (append_assoc t.0 s.0 a))

pub no_longer : (rest text : Bytes) → Suffix rest text → length rest ≤ length text
no_longer rest text s = let n : length text ≡ length (s.0 ++ rest) = ap length s.1 in omega (arith, n, length-append s.0 rest)

-- ---- runs

pub run_splits : (p : Class) (text : Bytes) → text ≡ run p text ++ behind p text
run_splits p [] = refl
run_splits p (b ∷ bs) = by (p b) (run_splits p bs)
  where
    by : (t : Bool) → bs ≡ run p bs ++ behind p bs → b ∷ bs ≡ cond t (b ∷ run p bs) [] ++ cond t (behind p bs) (b ∷ bs)
    by true others = ap (λ (w : Bytes). b ∷ w) others
    by false others = refl

pub behind_suffix : (p : Class) (text : Bytes) → Suffix (behind p text) text
behind_suffix p text = (run p text, run_splits p text)

pub run_all : (p : Class) (text : Bytes) → AllOf p (run p text)
run_all p [] = refl
run_all p (b ∷ bs) = by (p b) refl (run_all p bs)
  where
    by : (t : Bool) → p b ≡ t → AllOf p (run p bs) → AllOf p (cond t (b ∷ run p bs) [])
    by true e others = ap (λ (u : Bool). u && list_all p (run p bs)) e ∙ others
    by false e others = refl

run_no_shorter : (p : Class) (word after : Bytes) → AllOf p word → length (behind p (word ++ after)) ≤ length after
run_no_shorter p [] after all = no_longer (behind p after) after (behind_suffix p after)
run_no_shorter p (b ∷ word) after all =
    let parts = both (p b) _ all in
    let e : behind p (b ∷ (word ++ after)) ≡ behind p (word ++ after) = if_true (p b) _ _ parts.0 in
    let n : length (behind p (b ∷ (word ++ after))) ≡ length (behind p (word ++ after)) = ap length e in
    omega (arith, n, run_no_shorter p word after parts.1)

-- the run is the longest word of its class
pub run_longest : (p : Class) (word after : Bytes) → AllOf p word → length (behind p (word ++ after)) ≤ length after
run_longest p word after all = run_no_shorter p word after all

pub run_same : (p : Class) (word after : Bytes) → length (behind p (word ++ after)) ≡ length after → word ≡ run p (word ++ after)
run_same p word after n = (same_cut word (run p (word ++ after)) after (behind p (word ++ after)) (run_splits p (word ++ after)) (sym n)).0
