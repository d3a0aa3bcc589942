-- What a move of the cursor answers and leaves.
use Rattle.std.specs.Prelude.{◌≡◌, ℕ, List, drop, Option, Some, None, Result, Ok, Err, IsTrue}
use Rattle.std.proofs.Common.{Vec, Global}
use Rattle.uq_outside.specs.declared.disk.Disk.{Ghosts}
use Rattle.uq_model.specs.Session.{Session}
use Rattle.uq_kv.specs.Calls.{is_answered, seen_by}
use Rattle.uq_kv.specs.Cursor.{Goes, NextFrom, PrevFrom}
use Rattle.uq_kv.specs.Kv.{HasCauses, KeepsKv, LeavesSaved, Reads, Tells}
use Rattle.uq_kv.specs.Stored.{Stored}
use Rattle.uq_kv.specs.Users.{FirstOf, LastOf}
use Rattle.uq_kv.specs.declared.error.KvFault.{KvFault}
use Rattle.uq_kv.specs.declared.error.KvFault.TheVariants.{NoEntry}
use Rattle.uq_kv.specs.declared.kv.Kv.{Kv}
use Rattle.uq_shell.specs.Walks.{first_key, last_key, next_key, prev_key}
use Rattle.uq_shell.specs.declared.cursor.Move.{Move}
use Rattle.uq_shell.specs.declared.cursor.Move.TheVariants.{First, Last, Next, Prev}

-- where it goes, from where it stands
abbrev pub place_by : Move → Option (List ℕ) → Stored → Option (List ℕ)
place_by First at stored = first_key at stored
place_by Last at stored = last_key at stored
place_by Next at stored = next_key at stored
place_by Prev at stored = prev_key at stored

-- and what the store has to find for it
abbrev pub FoundBy : Move → Option (List ℕ) → Stored → Option (List ℕ) → Type 0
FoundBy First at stored found_key = FirstOf stored found_key
FoundBy Last at stored found_key = LastOf stored found_key
FoundBy Next at stored found_key = NextFrom at stored found_key
FoundBy Prev at stored found_key = PrevFrom at stored found_key

-- the user's key of this stored key, which has one byte before it
abbrev pub key_shown : Option (List ℕ) → Result (List ℕ) KvFault
key_shown None = Err NoEntry
key_shown (Some stored) = Ok (drop 1 stored)

module _ {D : Type 0} (g : Ghosts D) where
  -- a move, as the store answers it
  pub record Moves (Found : Stored → Option (List ℕ) → Type 0) (old new : Kv D g) (now : Option (List ℕ)) (result : Result (Unit {0}) KvFault) : Type 0 where
    pub goes : Goes g Found old new now result
    pub reads : Reads g old new
    pub stop : LeavesSaved g old new
    pub keeps : KeepsKv g old new
    pub cause : HasCauses g old new result

  -- A move, with the key at which the cursor is then: where the session is told it is the one at that place, and the session stays.
  pub record Shows (place : Stored → Option (List ℕ)) (old new : Kv D g) (now : Option (List ℕ)) (result : Result (Vec ℕ Global) KvFault) : Type 0 where
    pub shows : (s : Session Stored) → Tells g old s → IsTrue (is_answered result)
        → (now ≡ place s.present) × (seen_by (λ (key : Vec ℕ Global). key.items) result ≡ key_shown (place s.present)) × Tells g new s
    pub reads : Reads g old new
    pub stop : LeavesSaved g old new
    pub keeps : KeepsKv g old new
    pub cause : HasCauses g old new result
