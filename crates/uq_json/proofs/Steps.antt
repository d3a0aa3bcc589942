-- Reading step by step: what an answer tells of the steps before it.
use Rattle.std.proofs.Common.{◌≡◌, ◌≤◌, Bool, true, false, cond, ◌⊎◌, inl, inr, ◌++◌, length, Result, Ok, Err, refl, ap, length-append, arith}
use Rattle.std.specs.Result.{IfOk}
use Rattle.uq_value.specs.Data.{Bytes}
use Rattle.uq_json.specs.Grammar.{Language}
use Rattle.uq_json.specs.Internal.Reading.{Read, ◌>>=◌}
use Rattle.uq_json.specs.declared.error.JsonFault.{JsonFault}

pub bind_ok : {A B : Type 0} (r : Read A) (f : A × Bytes → Read B) (y : B × Bytes) → (r >>= f) ≡ Ok y → (x : A × Bytes) × (r ≡ Ok x) × (f x ≡ Ok y)
bind_ok (Ok x) f y e = (x, refl, e)
bind_ok (Err w) f y e = absurd (cc)

pub bind_err : {A B : Type 0} (r : Read A) (f : A × Bytes → Read B) (w : JsonFault) → (r >>= f) ≡ Err w → (r ≡ Err w) ⊎ ((x : A × Bytes) × (r ≡ Ok x) × (f x ≡ Err w))
bind_err (Ok x) f w e = inr (x, refl, e)
bind_err {A = A} (Err v) f w e = let h : v ≡ w = cc in inl (ap (λ (u : JsonFault). let r : Read A = Err u in r) h)

pub then_ok : {A B : Type 0} (r : Read A) (f : A × Bytes → Read B) (x : A × Bytes) → r ≡ Ok x → (r >>= f) ≡ f x
then_ok r f x e = ap (λ (s : Read _). s >>= f) e

pub chosen : {A : Type 0} (b : Bool) (x y z : A) → cond b x y ≡ z → ((b ≡ true) × (x ≡ z)) ⊎ ((b ≡ false) × (y ≡ z))
chosen true x y z e = inl (refl, e)
chosen false x y z e = inr (refl, e)

pub if_true : {A : Type 0} (b : Bool) (x y : A) → b ≡ true → cond b x y ≡ x
if_true true x y e = refl
if_true false x y e = absurd (cc)

pub if_false : {A : Type 0} (b : Bool) (x y : A) → b ≡ false → cond b x y ≡ y
if_false false x y e = refl
if_false true x y e = absurd (cc)

-- what is read is a front of the bytes, and in the language
pub record Takes {A : Type 0} (L : Language A) (ts : Bytes) (x : A × Bytes) : Type 0 where
  pub used : Bytes
  pub split : ts ≡ used ++ x.1
  pub reads : L used x.0

pub no_longer : {A : Type 0} (L : Language A) (ts : Bytes) (x : A × Bytes) → Takes L ts x → length x.1 ≤ length ts
no_longer L ts x taken = let count : length ts ≡ length (taken.used ++ x.1) = ap length taken.split in omega (arith, count, length-append taken.used x.1)

pub no_ok : {A : Type 0} (w : JsonFault) (x : A × Bytes) → ◌≡◌ {A = Read A} (Err w) (Ok x) → ⊥
no_ok w x e = cc

pub if_ok_weaker : {T E : Type 0} (r : Result T E) (P Q : T → Type 0) → ((x : T) → P x → Q x) → IfOk r P → IfOk r Q
if_ok_weaker (Ok x) P Q weaker h = weaker x h
if_ok_weaker (Err e) P Q weaker h = tt
