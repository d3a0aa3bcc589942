-- What the limits of a value decide, in words of bounds.
use Rattle.std.proofs.Common.{◌≡◌, ◌≤◌, ◌<◌, ◌⊎◌, inl, inr, refl, sym, ap, ◌∙◌, arith, Bool, true, false, nat_lt, if◌then◌else◌, Ok, Err}
use Rattle.uq_value.specs.Size.{most_size}
use Rattle.uq_value.specs.Depth.{most_depth}
use Rattle.uq_value.specs.Plain.{size, depth}
use Rattle.uq_value.specs.Put.{Put, limited}
use Rattle.uq_value.specs.Faults.{Refuses}
use Rattle.uq_value.specs.declared.value.Value.{Value}
use Rattle.uq_value.specs.declared.error.ValueFault.{ValueFault}
use Rattle.uq_value.specs.declared.error.ValueFault.TheVariants.{NotContainer, IndexRange, TooDeep, TooLarge, Memory}

abbrev pub bounded : Bool → Bool → Value → Put Value
bounded deep large v = if deep then Err TooDeep else (if large then Err TooLarge else Ok v)

-- the three cases, each with its bounds
pub data Case (v : Value) : Type 0 where
  allowed : depth v ≤ most_depth → size v ≤ most_size → limited v ≡ Ok v → Case v
  too_deep : most_depth < depth v → limited v ≡ Err TooDeep → Case v
  too_large : depth v ≤ most_depth → most_size < size v → limited v ≡ Err TooLarge → Case v

pub case_of : (v : Value) → Case v
case_of v = split (nat_lt most_depth (depth v)) (nat_lt most_size (size v)) refl refl
  where
    split : (a b : Bool) → nat_lt most_depth (depth v) ≡ a → nat_lt most_size (size v) ≡ b → Case v
    split true b p q = too_deep (grind arith) (ap (λ x. bounded x (nat_lt most_size (size v)) v) p)
    split false true p q = too_large (grind arith) (grind arith) (ap (λ x. bounded x (nat_lt most_size (size v)) v) p ∙ ap (λ x. bounded false x v) q)
    split false false p q = allowed (grind arith) (grind arith) (ap (λ x. bounded x (nat_lt most_size (size v)) v) p ∙ ap (λ x. bounded false x v) q)

value_or : Value → Put Value → Value
value_or v (Ok w) = w
value_or v (Err e) = v

pub ok_one : (v w : Value) → ◌≡◌ {A = Put Value} (Ok v) (Ok w) → v ≡ w
unfolding value_or
ok_one v w p = ap (λ r. value_or v r) p

-- what is allowed is the value itself
pub record Allowed (v w : Value) : Type 0 where
  pub same : v ≡ w
  pub shallow : depth v ≤ most_depth
  pub small : size v ≤ most_size

pub limited-ok : (v w : Value) → limited v ≡ Ok w → Allowed v w
limited-ok v w p = by (case_of v)
  where
    by : Case v → Allowed v w
    by (allowed d s e) = record { same = ok_one v w (sym e ∙ p); shallow = d; small = s }
    by (too_deep d e) = absurd (let both : ◌≡◌ {A = Put Value} (Err TooDeep) (Ok w) = sym e ∙ p in cc)
    by (too_large d s e) = absurd (let both : ◌≡◌ {A = Put Value} (Err TooLarge) (Ok w) = sym e ∙ p in cc)

-- a refusal is want of memory, or tells of a limit that is passed
limit-passed : (v : Value) (e : ValueFault) → limited v ≡ Err e → (most_depth < depth v) ⊎ (most_size < size v)
limit-passed v e r = by (case_of v)
  where
    by : Case v → (most_depth < depth v) ⊎ (most_size < size v)
    by (allowed d s q) = absurd (let both : ◌≡◌ {A = Put Value} (Ok v) (Err e) = sym q ∙ r in cc)
    by (too_deep d q) = inl d
    by (too_large d s q) = inr s

pub limited-refuses : (v : Value) (e : ValueFault) → Refuses (limited v) e → (e ≡ Memory) ⊎ ((most_depth < depth v) ⊎ (most_size < size v))
limited-refuses v Memory r = inl refl
limited-refuses v TooLarge r = inr (limit-passed v TooLarge r)
limited-refuses v TooDeep r = inr (limit-passed v TooDeep r)
limited-refuses v NotContainer r = inr (limit-passed v NotContainer r)
limited-refuses v IndexRange r = inr (limit-passed v IndexRange r)

-- what is within the limits is refused for want of memory alone
pub fits-refused : (v : Value) (e : ValueFault) → size v ≤ most_size → depth v ≤ most_depth → Refuses (limited v) e → e ≡ Memory
fits-refused v e small shallow r = by (limited-refuses v e r)
  where
    by : (e ≡ Memory) ⊎ ((most_depth < depth v) ⊎ (most_size < size v)) → e ≡ Memory
    by (inl m) = m
    by (inr (inl deep)) = absurd (omega (arith, deep, shallow))
    by (inr (inr large)) = absurd (omega (arith, large, small))
