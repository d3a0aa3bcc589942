-- Ops written over.
use Rattle.std.proofs.Common.{◌≡◌, ℕ, zero, suc, ◌+◌, ◌<◌, ◌≤◌, List, [], ◌∷◌, ◌++◌, length, Some, refl, sym, ap, ◌∙◌, subst, arith, inl, inr, ⊎_elim, length-set, get_or, take}
use Rattle.std.specs.Prelude.{◌⊎◌, slice_get, slice_set, unwrap_or}
use Rattle.std.proofs.lemmas.List.{take_more}
use Rattle.std.proofs.lemmas.Option.{slice_get_within, slice_get_past}
use Rattle.jx9_compile.specs.Holes.{hole, IsKnown, IsFilled, Misses, AreSet}
use Rattle.jx9_compile.specs.declared.op.Op.{Op}
use Rattle.jx9_compile.specs.declared.op.Op.TheVariants.{Jump}

pub slice_get-front : {A : Type 0} (xs ys : List A) (i : ℕ) → i < length xs → slice_get (xs ++ ys) i ≡ slice_get xs i
slice_get-front [] ys i h = absurd (omega arith)
slice_get-front (x ∷ xs) ys zero h = refl
slice_get-front (x ∷ xs) ys (suc i) h = slice_get-front xs ys i (omega (arith, h))

pub slice_get-seam : {A : Type 0} (xs : List A) (x : A) (ys : List A) → slice_get (xs ++ x ∷ ys) (length xs) ≡ Some x
slice_get-seam [] x ys = refl
slice_get-seam (y ∷ xs) x ys = slice_get-seam xs x ys

pub slice_get-set_other : {A : Type 0} (xs : List A) (i j : ℕ) (x : A) → (i ≡ j → ⊥) → slice_get (slice_set xs i x) j ≡ slice_get xs j
slice_get-set_other [] i j x h = refl
slice_get-set_other (y ∷ ys) zero zero x h = absurd (h refl)
slice_get-set_other (y ∷ ys) zero (suc j) x h = refl
slice_get-set_other (y ∷ ys) (suc i) zero x h = refl
slice_get-set_other (y ∷ ys) (suc i) (suc j) x h = slice_get-set_other ys i j x (λ e. h (ap suc e))

pub slice_get-set_same : {A : Type 0} (xs : List A) (i : ℕ) (x : A) → i < length xs → slice_get (slice_set xs i x) i ≡ Some x
slice_get-set_same [] i x h = absurd (omega (arith, h))
slice_get-set_same (y ∷ ys) zero x h = refl
slice_get-set_same (y ∷ ys) (suc i) x h = slice_get-set_same ys i x (omega (arith, h))

pub slice_set-past : {A : Type 0} (xs : List A) (i : ℕ) (x : A) → length xs ≤ i → slice_set xs i x ≡ xs
slice_set-past [] i x h = refl
slice_set-past (y ∷ ys) zero x h = absurd (omega (arith, h))
slice_set-past (y ∷ ys) (suc i) x h = ap (λ l. y ∷ l) (slice_set-past ys i x (omega (arith, h)))

pub same_or_not : (i j : ℕ) → (i ≡ j) ⊎ (i ≡ j → ⊥)
same_or_not zero zero = inl refl
same_or_not zero (suc j) = inr (λ e. absurd (omega (arith, e)))
same_or_not (suc i) zero = inr (λ e. absurd (omega (arith, e)))
same_or_not (suc i) (suc j) = ⊎_elim (λ e. inl (ap suc e)) (λ n. inr (λ e. n (omega (arith, e)))) (same_or_not i j)

-- ---- holes filled one after another

-- the hole is no known place
unknown : (op : Op) → Some (Jump hole) ≡ Some op → IsKnown op → ⊥
unknown op e k =
    let same : Jump hole ≡ op = ap (λ o. unwrap_or o (Jump hole)) e in
    let below : hole < hole = subst IsKnown (sym same) k in
    absurd (omega (arith, below))

pub nothing_filled : (after from : ℕ) (ops : List Op) → IsFilled after from from ops ops
nothing_filled after from ops = record {
  long = refl;
  before = λ i x. refl;
  behind = λ i x. refl;
  kept = λ i op h k. h;
  filled = λ i x y h. absurd (omega (arith, x, y));
}

pub fill_more : (after from at : ℕ) (old mid new : List Op) → IsFilled after from at old mid → from ≤ at → slice_get mid at ≡ Some (Jump hole)
    → new ≡ slice_set mid at (Jump after) → IsFilled after from (at + 1) old new
fill_more after from at old mid new p low h is =
    subst (λ l. IsFilled after from (at + 1) old l) (sym is) (record {
      long = length-set mid at (Jump after) ∙ p.long;
      before = λ i x. slice_get-set_other mid at i (Jump after) (λ e. absurd (omega (arith, e, x, low))) ∙ p.before i x;
      behind = λ i x. slice_get-set_other mid at i (Jump after) (λ e. absurd (omega (arith, e, x))) ∙ p.behind i (omega (arith, x));
      kept = λ i op g k. ⊎_elim
          (λ e. absurd (unknown op (sym h ∙ p.behind at (omega arith) ∙ ap (λ j. slice_get old j) e ∙ g) k))
          (λ n. slice_get-set_other mid at i (Jump after) n ∙ p.kept i op g k)
          (same_or_not at i);
      filled = λ i x y g. ⊎_elim
          (λ e. ap (λ j. slice_get (slice_set mid at (Jump after)) j) (sym e) ∙ slice_get-set_same mid at (Jump after) (slice_get_within mid at (Jump hole) h))
          (λ n. slice_get-set_other mid at i (Jump after) n ∙ p.filled i x (omega (arith, y, n)) g)
          (same_or_not at i);
    })

pub fill_none : (after from at : ℕ) (old mid new : List Op) → IsFilled after from at old mid → (slice_get mid at ≡ Some (Jump hole) → ⊥) → new ≡ mid
    → IsFilled after from (at + 1) old new
fill_none after from at old mid new p other is = subst (λ l. IsFilled after from (at + 1) old l) (sym is) (record {
  long = p.long;
  before = p.before;
  behind = λ i x. p.behind i (omega (arith, x));
  kept = p.kept;
  filled = λ i x y g. ⊎_elim
      (λ e. absurd (other (p.behind at (omega arith) ∙ ap (λ j. slice_get old j) e ∙ g)))
      (λ n. p.filled i x (omega (arith, y, n)) g)
      (same_or_not at i);
})

pub fill_all : (after from at end : ℕ) (old new : List Op) → IsFilled after from at old new → end ≡ length old → end ≤ at → IsFilled after from (length old) old new
fill_all after from at end old new p e h = record {
  long = p.long;
  before = p.before;
  behind = λ i x. slice_get_past new i (omega (arith, p.long, x)) ∙ sym (slice_get_past old i x);
  kept = p.kept;
  filled = λ i x y g. p.filled i x (omega (arith, y, e, h)) g;
}

-- ---- places that are set one after another

missed_more : (i : ℕ) (ps : List ℕ) (p : ℕ) → Misses i (ps ++ p ∷ []) → Misses i ps × (i ≡ p → ⊥)
missed_more i [] p h = (tt, h.0)
missed_more i (q ∷ ps) p h = let more = missed_more i ps p h.1 in ((h.0, more.0), more.1)

pub missed_above : (ps : List ℕ) (n : ℕ) → ((j p : ℕ) → slice_get ps j ≡ Some p → p < n) → (i : ℕ) → n ≤ i → Misses i ps
missed_above [] n h i low = tt
missed_above (p ∷ ps) n h i low = ((λ e. absurd (omega (arith, h 0 p refl))), missed_above ps n (λ j q g. h (suc j) q g) i low)

pub found_or_missed : (i : ℕ) (ps : List ℕ) → ((j : ℕ) × (slice_get ps j ≡ Some i)) ⊎ Misses i ps
found_or_missed i [] = inr tt
found_or_missed i (p ∷ ps) = ⊎_elim
    (λ e. inl (0, ap Some (sym e)))
    (λ n. ⊎_elim (λ there. inl (suc there.0, there.1)) (λ miss. inr (n, miss)) (found_or_missed i ps))
    (same_or_not i p)

pub nothing_set : (op : Op) (ops : List Op) → AreSet [] op ops ops
nothing_set op ops = record { long = refl; kept = λ i m. refl; set = λ j p h less. absurd (omega (arith, slice_get_within [] j p h)) }

in_front_or_last : (ps : List ℕ) (q j p : ℕ) → slice_get (ps ++ q ∷ []) j ≡ Some p → (slice_get ps j ≡ Some p) ⊎ (q ≡ p)
in_front_or_last [] q zero p h = inr (ap (λ o. unwrap_or o q) h)
in_front_or_last [] q (suc j) p h = absurd (omega (arith, slice_get_within [] j p h))
in_front_or_last (r ∷ ps) q zero p h = inl h
in_front_or_last (r ∷ ps) q (suc j) p h = in_front_or_last ps q j p h

pub set_more : (ps : List ℕ) (p : ℕ) (op : Op) (old mid new : List Op) → AreSet ps op old mid → new ≡ slice_set mid p op → AreSet (ps ++ p ∷ []) op old new
set_more ps p op old mid new s is =
    subst (λ l. AreSet (ps ++ p ∷ []) op old l) (sym is) (record {
      long = length-set mid p op ∙ s.long;
      kept = λ i m. let both = missed_more i ps p m in slice_get-set_other mid p i op (λ e. both.1 (sym e)) ∙ s.kept i both.0;
      set = λ j q h less. ⊎_elim
          (λ e. ap (λ k. slice_get (slice_set mid p op) k) (sym e) ∙ slice_get-set_same mid p op (omega (arith, e, less, s.long)))
          (λ n. slice_get-set_other mid p q op n ∙ ⊎_elim (λ g. s.set j q g less) (λ e. absurd (n e)) (in_front_or_last ps p j q h))
          (same_or_not p q);
    })

-- the next of some places
pub set_next : (ps : List ℕ) (i : ℕ) (op : Op) (old mid new : List Op) → i < length ps → AreSet (take i ps) op old mid → new ≡ slice_set mid (get_or ps i 0) op → AreSet (take (i + 1) ps) op old new
set_next ps i op old mid new within s is =
    subst (λ qs. AreSet qs op old new) (sym (take_more ps i 0 within)) (set_more (take i ps) (get_or ps i 0) op old mid new s is)
