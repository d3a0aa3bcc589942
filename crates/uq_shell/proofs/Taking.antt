-- What is said of an answer of the store.
use Rattle.std.proofs.Common.{◌≡◌, None, Result, Ok, Err, refl}
use Rattle.std.specs.Prelude.{IsTrue}
use Rattle.uq_model.specs.declared.cause.Cause.{Cause}
use Rattle.uq_kv.specs.Calls.{closed_by, is_answered, seen_by}
use Rattle.uq_kv.specs.declared.error.KvFault.{KvFault}
use Rattle.uq_kv.specs.declared.error.KvFault.TheVariants.{EmptyKey, KeyTooLong, ValueTooLong, Full, NotFound, NoEntry, Disk, Corrupt, Closed, Memory}
use Rattle.uq_shell.specs.Answers.{said_by}
use Rattle.uq_shell.specs.Commands.{said_at}
use Rattle.uq_shell.specs.Replies.{Said}
use Rattle.uq_shell.specs.declared.status.Status.{Status}
use Rattle.uq_shell.specs.declared.status.Status.TheVariants as status

-- what is said is what the definitions say, and the store gave an answer
pub said_is : {T U : Type 0} (view : T → U) (say : U → Said) (outcome : Result T KvFault) (said : Said)
    → said_by (λ (value : T). say (view value)) outcome ≡ Ok said → (said ≡ said_at say (seen_by view outcome)) × IsTrue (is_answered outcome)
said_is view say (Ok value) said is = (cc, refl)
said_is view say (Err EmptyKey) said is = (cc, refl)
said_is view say (Err KeyTooLong) said is = (cc, refl)
said_is view say (Err ValueTooLong) said is = (cc, refl)
said_is view say (Err Full) said is = (cc, refl)
said_is view say (Err NotFound) said is = (cc, refl)
said_is view say (Err NoEntry) said is = (cc, refl)
said_is view say (Err Disk) said is = cc
said_is view say (Err Corrupt) said is = cc
said_is view say (Err (Closed first)) said is = cc
said_is view say (Err Memory) said is = cc

-- it is open still
pub said_open : {T : Type 0} (say : T → Said) (outcome : Result T KvFault) (said : Said) → said_by say outcome ≡ Ok said → closed_by outcome None ≡ None
said_open say (Ok value) said is = refl
said_open say (Err EmptyKey) said is = refl
said_open say (Err KeyTooLong) said is = refl
said_open say (Err ValueTooLong) said is = refl
said_open say (Err Full) said is = refl
said_open say (Err NotFound) said is = refl
said_open say (Err NoEntry) said is = refl
said_open say (Err Disk) said is = cc
said_open say (Err Corrupt) said is = cc
said_open say (Err (Closed first)) said is = cc
said_open say (Err Memory) said is = cc

-- a fault that ends the run, of a store that was open
pub data EndsBy {T : Type 0} (outcome : Result T KvFault) (ends : Status) : Type 0 where
  ByDisk : outcome ≡ Err Disk → ends ≡ status.Disk → EndsBy outcome ends
  ByPages : outcome ≡ Err Corrupt → ends ≡ status.NotDatabase → EndsBy outcome ends
  ForMemory : outcome ≡ Err Memory → ends ≡ status.Memory → EndsBy outcome ends
  ByClosing : (first : Cause) → outcome ≡ Err (Closed first) → EndsBy outcome ends

pub ends_by : {T : Type 0} (say : T → Said) (outcome : Result T KvFault) (ends : Status) → said_by say outcome ≡ Err ends → EndsBy outcome ends
ends_by say (Ok value) ends is = cc
ends_by say (Err EmptyKey) ends is = cc
ends_by say (Err KeyTooLong) ends is = cc
ends_by say (Err ValueTooLong) ends is = cc
ends_by say (Err Full) ends is = cc
ends_by say (Err NotFound) ends is = cc
ends_by say (Err NoEntry) ends is = cc
ends_by say (Err Disk) ends is = ByDisk refl (cc)
ends_by say (Err Corrupt) ends is = ByPages refl (cc)
ends_by say (Err (Closed first)) ends is = ByClosing first refl
ends_by say (Err Memory) ends is = ForMemory refl (cc)
