-- With more levels the same is read, unless a bracket too many comes.
use Rattle.std.proofs.Common.{◌≡◌, ℕ, zero, suc, ◌+◌, ◌≤◌, ◌-◌, Bool, true, false, cond, eqb, ◌⊎◌, inl, inr, List, [], ◌∷◌, length, drop, Ok, Err, refl, ap, ◌∙◌, arith}
use Rattle.uq_value.specs.Data.{Bytes, Data, list, object}
use Rattle.uq_json.specs.Grammar.{merged}
use Rattle.uq_json.specs.Internal.Reading.{Read, ◌>>=◌, is_next, skip_blanks, padded, behind, string_at, scalar_at, others_at, listed_within, bracketed_at, member_at, list_at, object_at, value_at, too_deep, element_at}
use Rattle.uq_json.specs.declared.error.JsonFault.TheVariants.{NotJson, TooDeep}

abbrev pub Agree : {A : Type 0} → Read A → Read A → Type 0
Agree q p = (q ≡ p) ⊎ (q ≡ Err TooDeep)

same : {A : Type 0} (q : Read A) → Agree q q
same q = inl refl

then_agrees : {A B : Type 0} (q p : Read A) (f g : A × Bytes → Read B) → Agree q p → ((x : A × Bytes) → Agree (f x) (g x)) → Agree (q >>= f) (p >>= g)
then_agrees {A = A} {B = B} q p f g (inl e) each = by q e
  where
    by : (q : Read A) → q ≡ p → Agree (q >>= f) (p >>= g)
    by (Ok x) is = by_each x is (each x)
      where
        by_each : (x : A × Bytes) → ◌≡◌ {A = Read A} (Ok x) p → Agree (f x) (g x) → Agree (f x) (p >>= g)
        by_each x is (inl e) = inl (e ∙ ap (λ (s : Read A). s >>= g) is)
        by_each x is (inr e) = inr e
    by (Err w) is = inl (ap (λ (s : Read A). s >>= g) is)
then_agrees {A = A} q p f g (inr e) each = inr (ap (λ (s : Read A). s >>= f) e)

cond_agrees : {A : Type 0} (b : Bool) (q p q' p' : Read A) → Agree q p → Agree q' p' → Agree (cond b q q') (cond b p p')
cond_agrees true q p q' p' left right = left
cond_agrees false q p q' p' left right = right

module _ {A : Type 0} (r s : Bytes → Read A) (close : ℕ) (agree : (ts : Bytes) → Agree (r ts) (s ts)) where
  others_agree : (more more' : Bytes → Read (List A)) → ((ts : Bytes) → Agree (more ts) (more' ts)) → (a : A) (ts : Bytes) → Agree (others_at close more a ts) (others_at close more' a ts)
  others_agree more more' each a [] = inl refl
  others_agree more more' each a (c ∷ cs) =
      cond_agrees (eqb c 0x2c) (more cs >>= λ y. Ok (a ∷ y.0, y.1)) (more' cs >>= λ y. Ok (a ∷ y.0, y.1)) (cond (eqb c close) (Ok (a ∷ [], cs)) (Err NotJson)) (cond (eqb c close) (Ok (a ∷ [], cs)) (Err NotJson))
      (then_agrees (more cs) (more' cs) (λ y. Ok (a ∷ y.0, y.1)) (λ y. Ok (a ∷ y.0, y.1)) (each cs) (λ y. inl refl)) (inl refl)

  listed_agree : (n : ℕ) (ts : Bytes) → Agree (listed_within r close n ts) (listed_within s close n ts)
  listed_agree zero ts = inl refl
  listed_agree (suc n) ts = then_agrees (r ts) (s ts) (λ x. others_at close (listed_within r close n) x.0 x.1) (λ x. others_at close (listed_within s close n) x.0 x.1) (agree ts)
      (λ x. others_agree (listed_within r close n) (listed_within s close n) (listed_agree n) x.0 x.1)

  bracketed_agree : (ts : Bytes) → Agree (bracketed_at r close ts) (bracketed_at s close ts)
  bracketed_agree ts = cond_agrees (is_next close (skip_blanks ts)) (Ok ([], drop 1 (skip_blanks ts))) (Ok ([], drop 1 (skip_blanks ts))) (listed_within r close (suc (length ts)) ts) (listed_within s close (suc (length ts)) ts) (inl refl) (listed_agree (suc (length ts)) ts)

padded_agree : {A : Type 0} (r s : Bytes → Read A) → ((ts : Bytes) → Agree (r ts) (s ts)) → (ts : Bytes) → Agree (padded r ts) (padded s ts)
padded_agree r s agree ts = then_agrees (r (skip_blanks ts)) (s (skip_blanks ts)) (λ x. Ok (x.0, skip_blanks x.1)) (λ x. Ok (x.0, skip_blanks x.1)) (agree (skip_blanks ts)) (λ x. inl refl)

module _ (r s : Bytes → Read Data) (agree : (ts : Bytes) → Agree (r ts) (s ts)) where
  member_agree : (ts : Bytes) → Agree (member_at r ts) (member_at s ts)
  member_agree ts = then_agrees (padded string_at ts) (padded string_at ts) (λ name. behind 0x3a name.1 >>= λ x. r x.1 >>= λ d. Ok ((name.0, d.0), d.1)) (λ name. behind 0x3a name.1 >>= λ x. s x.1 >>= λ d. Ok ((name.0, d.0), d.1)) (same (padded string_at ts))
      (λ name. then_agrees (behind 0x3a name.1) (behind 0x3a name.1) (λ x. r x.1 >>= λ d. Ok ((name.0, d.0), d.1)) (λ x. s x.1 >>= λ d. Ok ((name.0, d.0), d.1)) (same (behind 0x3a name.1))
      (λ x. then_agrees (r x.1) (s x.1) (λ d. Ok ((name.0, d.0), d.1)) (λ d. Ok ((name.0, d.0), d.1)) (agree x.1) (λ d. inl refl)))

  list_agree : (ts : Bytes) → Agree (list_at r ts) (list_at s ts)
  list_agree ts = then_agrees (bracketed_at r 0x5d ts) (bracketed_at s 0x5d ts) (λ x. Ok (list x.0, x.1)) (λ x. Ok (list x.0, x.1)) (bracketed_agree r s 0x5d agree ts) (λ x. inl refl)

  object_agree : (ts : Bytes) → Agree (object_at r ts) (object_at s ts)
  object_agree ts = then_agrees (bracketed_at (member_at r) 0x7d ts) (bracketed_at (member_at s) 0x7d ts) (λ x. Ok (object (merged x.0), x.1)) (λ x. Ok (object (merged x.0), x.1)) (bracketed_agree (member_at r) (member_at s) 0x7d member_agree ts) (λ x. inl refl)

value_agree : (l l' o o' : Bytes → Read Data) → ((ts : Bytes) → Agree (l ts) (l' ts)) → ((ts : Bytes) → Agree (o ts) (o' ts)) → (ts : Bytes) → Agree (value_at l o ts) (value_at l' o' ts)
value_agree l l' o o' lists objects [] = inl refl
value_agree l l' o o' lists objects (c ∷ cs) =
    cond_agrees (eqb c 0x5b) (l cs) (l' cs) (cond (eqb c 0x7b) (o cs) (scalar_at (c ∷ cs))) (cond (eqb c 0x7b) (o' cs) (scalar_at (c ∷ cs))) (lists cs)
    (cond_agrees (eqb c 0x7b) (o cs) (o' cs) (scalar_at (c ∷ cs)) (scalar_at (c ∷ cs)) (objects cs) (inl refl))

element_agrees : (k : ℕ) (ts : Bytes) → Agree (element_at k ts) (element_at (suc k) ts)
unfolding element_at
element_agrees zero ts = padded_agree (value_at too_deep too_deep) (value_at (list_at (element_at zero)) (object_at (element_at zero)))
    (value_agree too_deep (list_at (element_at zero)) too_deep (object_at (element_at zero)) (λ us. inr refl) (λ us. inr refl)) ts
element_agrees (suc k) ts = padded_agree (value_at (list_at (element_at k)) (object_at (element_at k))) (value_at (list_at (element_at (suc k))) (object_at (element_at (suc k))))
    (value_agree (list_at (element_at k)) (list_at (element_at (suc k))) (object_at (element_at k)) (object_at (element_at (suc k))) (list_agree (element_at k) (element_at (suc k)) (element_agrees k)) (object_agree (element_at k) (element_at (suc k)) (element_agrees k))) ts

more_agrees : (k j : ℕ) (ts : Bytes) → Agree (element_at k ts) (element_at (j + k) ts)
more_agrees k zero ts = inl (ap (λ n. element_at n ts) (zero_first k))
  where
    zero_first : (k : ℕ) → k ≡ 0 + k
    zero_first k = omega arith
more_agrees k (suc j) ts = by (more_agrees k j ts) (element_agrees (j + k) ts)
  where
    next : (j k : ℕ) → suc (j + k) ≡ suc j + k
    next j k = omega arith

    by : Agree (element_at k ts) (element_at (j + k) ts) → Agree (element_at (j + k) ts) (element_at (suc (j + k)) ts) → Agree (element_at k ts) (element_at (suc j + k) ts)
    by (inr e) more = inr e
    by (inl e) (inl f) = inl (e ∙ f ∙ ap (λ n. element_at n ts) (next j k))
    by (inl e) (inr f) = inr (e ∙ f)

pub levels_agree : (k n : ℕ) (ts : Bytes) → k ≤ n → Agree (element_at k ts) (element_at n ts)
levels_agree k n ts h = let e : n - k + k ≡ n = omega arith in by e (more_agrees k (n - k) ts)
  where
    by : n - k + k ≡ n → Agree (element_at k ts) (element_at (n - k + k) ts) → Agree (element_at k ts) (element_at n ts)
    by e (inl f) = inl (f ∙ ap (λ m. element_at m ts) e)
    by e (inr f) = inr f
