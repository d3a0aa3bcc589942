-- Operators on numbers.
use Rattle.std.proofs.Common.{◌≡◌, ℕ, ◌^◌, ◌<◌, ℤ, pos, negsuc, w64, Bool, true, false, Option, Some, None, Result, Ok, Err, IfOk, refl, sym, ap, ◌∙◌}
use Rattle.std.specs.Prelude.{FitsSigned, IfErr, SomeIff, if◌then◌else◌, nat_lt, ◌+ℤ◌, ◌-ℤ◌}
use Rattle.std.proofs.lemmas.Bool.{lt-ltb, ltb-true}
use Rattle.uq_value.specs.declared.value.Value.{Value}
use Rattle.jx9_syntax.specs.declared.expression.Binary.{Binary}
use Rattle.jx9_syntax.specs.declared.expression.Binary.TheVariants.{Add, Subtract}
use Rattle.jx9_meaning.specs.Operators.{Checked, arithmetic, checked, in_range, operate}
use Rattle.jx9_meaning.specs.declared.fault.FaultKind.{FaultKind}
use Rattle.jx9_meaning.specs.declared.fault.FaultKind.TheVariants.{NotNumber, Overflow}
use Rattle.jx9_vm.specs.Operating.{both_numbers, whole_or_overflow}

-- over the numbers of both
pub with_numbers : (f : ℤ → ℤ → Checked) (a b : Option ℤ) (x y : ℤ) → both_numbers a b ≡ Ok (x, y) → arithmetic f a b ≡ f x y
with_numbers f None b x y h = absurd (let e : ⊥ = cc in e)
with_numbers f (Some x') None x y h = absurd (let e : ⊥ = cc in e)
with_numbers f (Some x') (Some y') x y h =
    let e : x' ≡ x = ap (λ (r : Result (ℤ × ℤ) FaultKind). first_of_ok r x) h in
    let g : y' ≡ y = ap (λ (r : Result (ℤ × ℤ) FaultKind). second_of_ok r y) h in
    ap (λ z. f z y') e ∙ ap (f x) g
  where
    first_of_ok : Result (ℤ × ℤ) FaultKind → ℤ → ℤ
    first_of_ok (Ok p) d = p.0
    first_of_ok (Err e) d = d

    second_of_ok : Result (ℤ × ℤ) FaultKind → ℤ → ℤ
    second_of_ok (Ok p) d = p.1
    second_of_ok (Err e) d = d

pub without_numbers : (f : ℤ → ℤ → Checked) (a b : Option ℤ) (kind : FaultKind) → both_numbers a b ≡ Err kind → arithmetic f a b ≡ Err kind
without_numbers f None b kind h = ap (λ k. Err k) (fault_is kind h)
  where
    fault_is : (kind : FaultKind) → ◌≡◌ {A = Result (ℤ × ℤ) FaultKind} (Err NotNumber) (Err kind) → NotNumber ≡ kind
    fault_is kind h = cc
without_numbers f (Some x) None kind h = ap (λ k. Err k) (let e : NotNumber ≡ kind = cc in e)
without_numbers f (Some x) (Some y) kind h = absurd (let e : ⊥ = cc in e)

-- the test of a range, and a number of 64 bits
in_bits : (z : ℤ) → FitsSigned w64 z → in_range z ≡ true
in_bits (pos n) h = lt-ltb n (2 ^ 63) h.sfits
in_bits (negsuc n) h = lt-ltb n (2 ^ 63) h.sfits

by_test : (n : ℕ) (b : Bool) → nat_lt n (2 ^ 63) ≡ b → (n < 2 ^ 63 → ⊥) → b ≡ false
by_test n true is h = absurd (h (ltb-true n (2 ^ 63) is))
by_test n false is h = refl

not_in_bits : (z : ℤ) → (FitsSigned w64 z → ⊥) → in_range z ≡ false
not_in_bits (pos n) h = by_test n (nat_lt n (2 ^ 63)) refl (λ fits. h (record { sfits = fits }))
not_in_bits (negsuc n) h = by_test n (nat_lt n (2 ^ 63)) refl (λ fits. h (record { sfits = fits }))

pub whole_is : (o : Option ℤ) (z : ℤ) → SomeIff o (FitsSigned w64 z) z → whole_or_overflow o ≡ checked z
whole_is (Some x) z h = ap (λ y. Ok (Value.Int y)) h.1 ∙ sym (ap (λ b. if b then Ok (Value.Int z) else Err Overflow) (in_bits z h.0))
whole_is None z h = sym (ap (λ b. if b then Ok (Value.Int z) else Err Overflow) (not_in_bits z h))

-- ---- a number and 1

pub one_more : (operator : Binary) (old : ℤ) (o : Option ℤ) → operator ≡ Add → SomeIff o (FitsSigned w64 (old +ℤ pos 1)) (old +ℤ pos 1)
    → whole_or_overflow o ≡ operate operator (Value.Int old) (Value.Int (pos 1))
unfolding operate
one_more operator old o is sum =
    whole_is o (old +ℤ pos 1) sum ∙ ap (λ f. operate f (Value.Int old) (Value.Int (pos 1))) (sym is)

pub one_less : (operator : Binary) (old : ℤ) (o : Option ℤ) → operator ≡ Subtract → SomeIff o (FitsSigned w64 (old -ℤ pos 1)) (old -ℤ pos 1)
    → whole_or_overflow o ≡ operate operator (Value.Int old) (Value.Int (pos 1))
unfolding operate
one_less operator old o is difference =
    whole_is o (old -ℤ pos 1) difference ∙ ap (λ f. operate f (Value.Int old) (Value.Int (pos 1))) (sym is)

pub step_ok : (operator : Binary) (old : ℤ) (o : Option ℤ) (r : Result ℤ FaultKind) → IfOk r (λ z. whole_or_overflow o ≡ Ok (Value.Int z))
    → whole_or_overflow o ≡ operate operator (Value.Int old) (Value.Int (pos 1))
    → IfOk r (λ z. operate operator (Value.Int old) (Value.Int (pos 1)) ≡ Ok (Value.Int z))
step_ok operator old o (Ok z) h is = sym is ∙ h
step_ok operator old o (Err kind) h is = h

pub step_fault : (operator : Binary) (old : ℤ) (o : Option ℤ) (r : Result ℤ FaultKind) → IfErr r (λ kind. whole_or_overflow o ≡ Err kind)
    → whole_or_overflow o ≡ operate operator (Value.Int old) (Value.Int (pos 1))
    → IfErr r (λ kind. operate operator (Value.Int old) (Value.Int (pos 1)) ≡ Err kind)
step_fault operator old o (Ok z) h is = h
step_fault operator old o (Err kind) h is = sym is ∙ h
