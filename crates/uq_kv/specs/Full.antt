-- Which writes are too much.
use Rattle.std.specs.Prelude.{ℕ, Bool, List}
use Rattle.std.specs.FinMap.{insert}
use Rattle.uq_model.specs.Full.{is_full}
use Rattle.uq_model.specs.declared.limits.Limits.{Limits}
use Rattle.uq_kv.specs.declared.space.Space.{Space}
use Rattle.uq_kv.specs.Stored.{Stored, stored_key, sums_of}

-- a write is too much where it makes entries or bytes greater than before and greater than their limit
abbrev pub is_too_much : Limits → Space → List ℕ → List ℕ → Stored → Bool
is_too_much limits space key value before = is_full limits (sums_of before) (sums_of (insert before (stored_key space key) value))
