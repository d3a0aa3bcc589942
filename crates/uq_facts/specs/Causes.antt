-- When an answer may come: a count of faults that never falls, and the answers that come only where it rose.
use Rattle.std.specs.Prelude.{◌≡◌, ℕ, ◌+◌, ◌-◌, ◌^◌, ◌≤◌, min, Result, Err, OnErr, OnOk}

-- the count rose, or stands where a counter of 64 bits stops
abbrev pub Rose : ℕ → ℕ → Type 0
Rose before now = min (before + 1) (2 ^ 64 - 1) ≤ now

-- the count does not fall, an error comes only where it rose, and at Ok it is as before
pub record HasCause {T E : Type 0} (before now : ℕ) (result : Result T E) : Type 0 where
  pub later : before ≤ now
  pub failed : OnErr result (Rose before now)
  pub quiet : OnOk result (now ≡ before)

-- P, where this is the error
abbrev pub AtErr : {T E : Type 0} → E → Result T E → Type 0 → Type 0
AtErr error result P = result ≡ Err error → P

-- P, unless this is the error
abbrev pub UnlessErr : {T E : Type 0} → E → Result T E → Type 0 → Type 0
UnlessErr error result P = (result ≡ Err error → ⊥) → P

-- the count does not fall, this error comes only where it rose, and at every other answer it is as before
pub record HasCauseAt {T E : Type 0} (error : E) (before now : ℕ) (result : Result T E) : Type 0 where
  pub later : before ≤ now
  pub failed : AtErr error result (Rose before now)
  pub quiet : UnlessErr error result (now ≡ before)
