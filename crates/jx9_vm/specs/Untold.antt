-- A base that tells nothing, for tests.
use Rattle.std.specs.Prelude.{ℕ, [], Option}
use Rattle.uq_model.specs.declared.cause.Cause.{Cause}
use Rattle.uq_model.specs.Base.{Shown}
use Rattle.uq_model.specs.IsStore.{AreLimits}
use Rattle.std.proofs.Common.{arith}

-- closed by this cause, after so many faults
abbrev pub untold : Option Cause → ℕ → Shown
untold closed faults = record {
  limits = record { entries = 0; bytes = 0 };
  tells = λ s. ⊥;
  may_leave = λ store. ⊥;
  left_since = λ t store. ⊥;
  moment = 0;
  closed = closed;
  faults = faults;
  standing = [];
}

pub small_limits : AreLimits (record { entries = 0; bytes = 0 })
small_limits = record { entries = omega arith; bytes = omega arith }
