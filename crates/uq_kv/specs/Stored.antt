-- What is stored: data by stored key, in both spaces.
use Rattle.std.specs.Prelude.{ℕ, ◌≤◌, List, ◌∷◌}
use Rattle.std.specs.FinMap.{len}
use Rattle.uq_hash.specs.Map.{Map, bytes_in}
use Rattle.uq_model.specs.Full.{Sums}
use Rattle.uq_model.specs.declared.limits.TheConstants.{MOST_BYTES, MOST_ENTRIES}
use Rattle.uq_kv.specs.declared.space.Space.{Space}
use Rattle.uq_kv.specs.declared.space.Space.TheVariants.{Keys, Docs}

-- the stored keys of both spaces, with their data
abbrev pub Stored : Type 0
Stored = Map

abbrev pub space_byte : Space → ℕ
space_byte Keys = 0x4b
space_byte Docs = 0x44

-- a key as it is stored, behind the byte of its space
abbrev pub stored_key : Space → List ℕ → List ℕ
stored_key space key = space_byte space ∷ key

-- how many entries there are, and the bytes of their stored keys and data
abbrev pub sums_of : Stored → Sums
sums_of stored = record { entries = len stored; bytes = bytes_in stored }

-- within the greatest limits of a store
pub record IsWithinLimits (stored : Stored) : Type 0 where
  pub entries : len stored ≤ MOST_ENTRIES
  pub bytes : bytes_in stored ≤ MOST_BYTES
