-- How counts of depths change.
use Rattle.std.proofs.Common.{◌≡◌, ◌<◌, ◌≤◌, ◌+◌, ◌-◌, ◌^◌, max, min, nat_eq, if◌then◌else◌, ℕ, zero, suc, refl, ap, sym, ◌∙◌, arith, Bool, true, false, List, [], ◌∷◌, ◌++◌, length, get_or, set, length-set, replicate, ◌≢◌, subst}
use Rattle.std.proofs.lemmas.List.{get_or-set_other, get_or-replicate}
use Rattle.std.proofs.lemmas.Grind.{get_or-set_at}
use Rattle.std.proofs.lemmas.Bool.Decides.{nat_tests}
use Rattle.uq_value.specs.Internal.Tally.{one_if, occurrences, deepest_of, IsTally}

pub is-one : (e d : ℕ) → nat_eq e d ≡ true → one_if e d ≡ 1
is-one e d t = ap (λ b. if b then 1 else 0) t

pub is-none : (e d : ℕ) → nat_eq e d ≡ false → one_if e d ≡ 0
is-none e d t = ap (λ b. if b then 1 else 0) t

eq-is : (m n : ℕ) → nat_eq m n ≡ true → m ≡ n
eq-is m n e = grind (arith, nat_tests)

eq-not : (m n : ℕ) → nat_eq m n ≡ false → m ≡ n → ⊥
eq-not m n e p = let x : nat_eq m n ≡ true = grind (arith, nat_tests) in absurd (cc)

same-one : (d : ℕ) → one_if d d ≡ 1
same-one d = is-one d d (grind (arith, nat_tests))

pub occurrences-push : (d : ℕ) (ds : List ℕ) (e : ℕ) → occurrences d (ds ++ e ∷ []) ≡ occurrences d ds + one_if e d
occurrences-push d [] e = omega arith
occurrences-push d (x ∷ ds) e = omega (arith, occurrences-push d ds e)

pub occurrences-set : (d : ℕ) (ds : List ℕ) (at e : ℕ) → at < length ds → occurrences d (set ds at e) + one_if (get_or ds at 0) d ≡ occurrences d ds + one_if e d
occurrences-set d [] at e h = absurd (omega arith)
occurrences-set d (x ∷ ds) zero e h = omega arith
occurrences-set d (x ∷ ds) (suc at) e h = omega (arith, occurrences-set d ds at e (omega (arith, h)))

one-most : (e d : ℕ) → one_if e d ≤ 1
one-most e d = split (nat_eq e d)
  where
    split : (b : Bool) → (if b then 1 else 0) ≤ 1
    split true = omega arith
    split false = omega arith

pub occurrences-few : (d : ℕ) (ds : List ℕ) → occurrences d ds ≤ length ds
occurrences-few d [] = omega arith
occurrences-few d (e ∷ ds) = omega (arith, occurrences-few d ds, one-most e d)

pub occurs : (ds : List ℕ) (at : ℕ) → at < length ds → 1 ≤ occurrences (get_or ds at 0) ds
occurs [] at h = absurd (omega arith)
occurs (e ∷ ds) zero h = omega (arith, same-one e)
occurs (e ∷ ds) (suc at) h = omega (arith, occurs ds at (omega (arith, h)))

pub no-deeper : (d : ℕ) (ds : List ℕ) → 0 < d → deepest_of ds ≤ d → occurrences d ds ≡ 0 → deepest_of ds ≤ d - 1
no-deeper d [] p h o = omega arith
no-deeper d (e ∷ ds) p h o = split (nat_eq e d) refl (no-deeper d ds p (omega (arith, h)))
  where
    split : (b : Bool) → nat_eq e d ≡ b → (occurrences d ds ≡ 0 → deepest_of ds ≤ d - 1) → deepest_of (e ∷ ds) ≤ d - 1
    split true t r = absurd (omega (arith, o, is-one e d t))
    split false t r = let n : e ≢ d = eq-not e d t in omega (arith, h, r (omega (arith, o)), n)

pub as-deep : (d : ℕ) (ds : List ℕ) → 1 ≤ occurrences d ds → d ≤ deepest_of ds
as-deep d [] h = absurd (omega (arith, h))
as-deep d (e ∷ ds) h = split (nat_eq e d) refl (as-deep d ds)
  where
    split : (b : Bool) → nat_eq e d ≡ b → (1 ≤ occurrences d ds → d ≤ deepest_of ds) → d ≤ deepest_of (e ∷ ds)
    split true t r = omega (arith, eq-is e d t)
    split false t r = omega (arith, r (omega (arith, h, is-none e d t)))

-- ---- counts

read-set : (cs : List ℕ) (i x d : ℕ) → i < length cs → get_or (set cs i x) d 0 ≡ (if nat_eq i d then x else get_or cs d 0)
read-set cs i x d h = split (nat_eq i d) refl
  where
    split : (b : Bool) → nat_eq i d ≡ b → get_or (set cs i x) d 0 ≡ (if b then x else get_or cs d 0)
    split true t = get_or-set_at cs i d x 0 (sym (eq-is i d t)) h
    split false t = get_or-set_other cs i d x 0 (λ e. eq-not i d t (sym e))

pub tally-none : (cs : List ℕ) → cs ≡ replicate 128 0 → IsTally cs []
tally-none cs e = record { long = ap (λ xs. length xs) e; right = λ d h. ap (λ xs. get_or xs d 0) e ∙ get_or-replicate 128 d 0 0 h }

pub tally-push : (cs ds : List ℕ) (e x : ℕ) → e < 128 → length ds + 1 < 2 ^ 32 → x ≡ min (get_or cs e 0 + 1) (2 ^ 32 - 1) → IsTally cs ds → IsTally (set cs e x) (ds ++ e ∷ [])
tally-push cs ds e x h few x-is t =
    record {
      long = length-set cs e x ∙ t.long;
      right = λ d k. read-set cs e x d (omega (arith, h, t.long)) ∙ split d (nat_eq e d) refl (t.right d k) ∙ sym (occurrences-push d ds e);
    }
  where
    split : (d : ℕ) (b : Bool) → nat_eq e d ≡ b → get_or cs d 0 ≡ occurrences d ds → (if b then x else get_or cs d 0) ≡ occurrences d ds + one_if e d
    split d true u r = let o : get_or cs e 0 ≡ get_or cs d 0 = ap (λ n. get_or cs n 0) (eq-is e d u) in omega (arith, r, o, x-is, is-one e d u, occurrences-few d ds, few)
    split d false u r = omega (arith, r, is-none e d u)

module _ (cs ds : List ℕ) (at old new x y : ℕ) (o : old < 128) (n : new < 128) (few : length ds + 1 < 2 ^ 32) (h : at < length ds) (old-is : get_or ds at 0 ≡ old) (x-is : x ≡ get_or cs old 0 - 1) (y-is : y ≡ min (get_or (set cs old x) new 0 + 1) (2 ^ 32 - 1)) (t : IsTally cs ds) where
  taken : (d : ℕ) → d < 128 → get_or (set cs old x) d 0 + one_if old d ≡ occurrences d ds
  taken d k = split (nat_eq old d) refl (read-set cs old x d (omega (arith, o, t.long)))
    where
      split : (b : Bool) → nat_eq old d ≡ b → get_or (set cs old x) d 0 ≡ (if nat_eq old d then x else get_or cs d 0) → get_or (set cs old x) d 0 + one_if old d ≡ occurrences d ds
      split true u r =
          let s : get_or (set cs old x) d 0 ≡ x = r ∙ ap (λ b. if b then x else get_or cs d 0) u in
          let c : get_or cs old 0 ≡ get_or cs d 0 = ap (λ i. get_or cs i 0) (eq-is old d u) in
          let one : 1 ≤ occurrences d ds = subst (λ i. 1 ≤ occurrences i ds) (old-is ∙ eq-is old d u) (occurs ds at h) in
          omega (arith, s, c, x-is, one, t.right d k, is-one old d u)
      split false u r =
          let s : get_or (set cs old x) d 0 ≡ get_or cs d 0 = r ∙ ap (λ b. if b then x else get_or cs d 0) u in
          omega (arith, s, t.right d k, is-none old d u)

  given : (d : ℕ) → d < 128 → get_or (set (set cs old x) new y) d 0 + one_if old d ≡ occurrences d ds + one_if new d
  given d k = split (nat_eq new d) refl (read-set (set cs old x) new y d (omega (arith, n, t.long, length-set cs old x)))
    where
      split : (b : Bool) → nat_eq new d ≡ b → get_or (set (set cs old x) new y) d 0 ≡ (if nat_eq new d then y else get_or (set cs old x) d 0) → get_or (set (set cs old x) new y) d 0 + one_if old d ≡ occurrences d ds + one_if new d
      split true u r =
          let s : get_or (set (set cs old x) new y) d 0 ≡ y = r ∙ ap (λ b. if b then y else get_or (set cs old x) d 0) u in
          let c : get_or (set cs old x) new 0 ≡ get_or (set cs old x) d 0 = ap (λ i. get_or (set cs old x) i 0) (eq-is new d u) in
          omega (arith, s, c, y-is, taken d k, is-one new d u, occurrences-few d ds, few)
      split false u r =
          let s : get_or (set (set cs old x) new y) d 0 ≡ get_or (set cs old x) d 0 = r ∙ ap (λ b. if b then y else get_or (set cs old x) d 0) u in
          omega (arith, s, taken d k, is-none new d u)

  pub tally-set : IsTally (set (set cs old x) new y) (set ds at new)
  tally-set = record {
    long = length-set (set cs old x) new y ∙ length-set cs old x ∙ t.long;
    right = λ d k. let w : one_if (get_or ds at 0) d ≡ one_if old d = ap (λ i. one_if i d) old-is in omega (arith, given d k, occurrences-set d ds at new h, w);
  }

-- ---- the depth of a whole of which one part changes

-- how deep all parts but one are at most
pub record Others (ds : List ℕ) (at new : ℕ) : Type 0 where
  pub most : ℕ
  pub before : deepest_of ds ≡ max most (get_or ds at 0)
  pub now : deepest_of (set ds at new) ≡ max most new

pub others : (ds : List ℕ) (at new : ℕ) → at < length ds → Others ds at new
others [] at new h = absurd (omega arith)
others (d ∷ ds) zero new h = record { most = deepest_of ds; before = omega arith; now = omega arith }
others (d ∷ ds) (suc at) new h =
    let o : Others ds at new = others ds at new (omega (arith, h))
    in record { most = max d o.most; before = omega (arith, o.before); now = omega (arith, o.now) }
