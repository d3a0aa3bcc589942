-- What a call on the pages does to what is stored in them.
use Rattle.std.specs.Prelude.{◌≡◌, ℕ, ◌≤◌, Bool, true, false, List, ◌++◌, length, slice_set, Option, None, Some, Result, Ok, Err}
use Rattle.std.specs.Option.{option_map}
use Rattle.std.specs.FinMap.{contains_key, get, insert, len, remove}
use Rattle.uq_facts.specs.Causes.{AtErr}
use Rattle.uq_page.specs.Header.{IsHeader}
use Rattle.uq_page.specs.Pages.{HasPagesCause}
use Rattle.uq_page.specs.declared.error.ChainFault.{ChainFault}
use Rattle.uq_page.specs.declared.error.ChainFault.TheVariants.{Failed, Corrupt, NoPage}
use Rattle.uq_page.specs.declared.header.Header.{Header}
use Rattle.uq_hash.specs.declared.looking.Look.{Look}
use Rattle.uq_hash.specs.Looks.{IsLook, len_or_none, value_or_none}
use Rattle.uq_hash.specs.Map.{HoldsMap, bytes_in}
use Rattle.uq_model.specs.Full.{Sums}
use Rattle.uq_model.specs.declared.limits.Limits.{Limits}
use Rattle.uq_kv.specs.declared.error.KvFault.TheVariants.{ValueTooLong}
use Rattle.uq_kv.specs.declared.space.Space.{Space}
use Rattle.uq_kv.specs.declared.writing.Added.{Added}
use Rattle.uq_kv.specs.declared.writing.Added.TheVariants as add
use Rattle.uq_kv.specs.declared.writing.Before.{Before}
use Rattle.uq_kv.specs.declared.writing.Put.{Put}
use Rattle.uq_kv.specs.declared.writing.Put.TheVariants.{Done, Full}
use Rattle.uq_kv.specs.declared.writing.Seen.{Seen}
use Rattle.uq_kv.specs.declared.writing.Totals.{Totals}
use Rattle.uq_kv.specs.Database.{IsDatabase, WhereStored}
use Rattle.uq_kv.specs.Full.{is_too_much}
use Rattle.uq_kv.specs.Lengths.{value_checked}
use Rattle.uq_kv.specs.Stored.{Stored, stored_key}

-- Each fault comes only for its cause, and `Memory` is free: `Failed` where the pages failed; `Corrupt` only where the pages are not
-- told or are no database; `NoPage` never.
pub record HasStoreCause {T : Type 0} (told : Option (List (List ℕ))) (header : Header) (before now : ℕ) (is_sound : Bool) (result : Result T ChainFault) : Type 0 where
  pub pages : HasPagesCause Failed before now is_sound result
  pub corrupt : AtErr Corrupt result (WhereStored told header (λ _. ⊥))
  pub no_page : AtErr NoPage result ⊥

-- the totals as a definition has them
abbrev pub sums_in : Totals → Sums
sums_in totals = record { entries = totals.entries; bytes = totals.bytes }

-- what there is before a write of this stored key
pub record IsBefore (stored : Stored) (key : List ℕ) (before : Before) : Type 0 where
  pub entries : before.totals.entries ≡ len stored
  pub bytes : before.totals.bytes ≡ bytes_in stored
  pub old : before.old_len ≡ option_map length (get stored key)

-- and after it
pub record AreAfter (stored : Stored) (key value : List ℕ) (after : Totals) : Type 0 where
  pub entries : after.entries ≡ len (insert stored key value)
  pub bytes : after.bytes ≡ bytes_in (insert stored key value)

-- the pages hold the entries with this header, whatever page 0 is
pub record HoldsNow (told : Option (List (List ℕ))) (header : Header) (stored : Stored) : Type 0 where
  pub pages : List (List ℕ)
  pub is_told : told ≡ Some pages
  pub map : HoldsMap pages header stored

-- the pages are a database of this
pub record AreDatabase (told : Option (List (List ℕ))) (header : Header) (stored : Stored) : Type 0 where
  pub pages : List (List ℕ)
  pub is_told : told ≡ Some pages
  pub database : IsDatabase header stored pages

-- The entry is there, where it is not too much.
abbrev pub Puts : Limits → Space → List ℕ → List ℕ → Stored → Option (List (List ℕ)) → Header → Put → Type 0
Puts limits space key value stored told header Done =
    (is_too_much limits space key value stored ≡ false) × AreDatabase told header (insert stored (stored_key space key) value)
Puts limits space key value stored told header Full = is_too_much limits space key value stored ≡ true

-- ---- a key that is about to be written

-- its place in the pages, where it was looked for and its data were found so long
pub record IsPlacedAt (told : Option (List (List ℕ))) (size : ℕ) (header : Header) (key : List ℕ) (old_len : Option ℕ) (at : Look) : Type 0 where
  pub some : 1 ≤ size
  pub looks : IsLook told size header at
  pub same : at.key.now ≡ key
  pub long : at.len ≡ old_len

-- or there is no page
abbrev pub IsPlaced : Option (List (List ℕ)) → ℕ → Header → List ℕ → Option ℕ → Option Look → Type 0
IsPlaced told size header key old_len None = (size ≡ 0) × (old_len ≡ None)
IsPlaced told size header key old_len (Some at) = IsPlacedAt told size header key old_len at

abbrev pub IsSeen : Option (List (List ℕ)) → ℕ → Header → List ℕ → Seen → Type 0
IsSeen told size header key seen = IsPlaced told size header key seen.before.old_len seen.at

-- how long the data are that were found
abbrev pub len_seen : Seen → ℕ
len_seen seen = len_or_none seen.before.old_len

-- ---- what is left

-- the header stands on page 0, and the other pages are as they were
pub record HasHead (old new : Option (List (List ℕ))) (header : Header) : Type 0 where
  pub head : List ℕ
  pub fields : IsHeader head header
  pub is : new ≡ option_map (λ pages. slice_set pages 0 head) old

-- these bytes stand behind the data of a stored key
abbrev pub longer : Stored → List ℕ → List ℕ → List ℕ
longer stored key more = value_or_none (get stored key) ++ more

abbrev pub added : Stored → List ℕ → List ℕ → Stored
added stored key more = insert stored key (longer stored key more)

-- The bytes are there, where the data are not too long then and it is not too much.
abbrev pub Adds : Limits → Space → List ℕ → List ℕ → Stored → Option (List (List ℕ)) → Header → Added → Type 0
Adds limits space key more stored told header add.Done =
    (value_checked (longer stored (stored_key space key) more) ≡ Ok tt) × (is_too_much limits space key (longer stored (stored_key space key) more) stored ≡ false)
    × AreDatabase told header (added stored (stored_key space key) more)
Adds limits space key more stored told header add.TooLong = value_checked (longer stored (stored_key space key) more) ≡ Err ValueTooLong
Adds limits space key more stored told header add.Full =
    (value_checked (longer stored (stored_key space key) more) ≡ Ok tt) × (is_too_much limits space key (longer stored (stored_key space key) more) stored ≡ true)

-- The entry of a stored key was there, and is not there any more.
abbrev pub Removes : List ℕ → Stored → Option (List (List ℕ)) → Header → Bool → Type 0
Removes key stored told header true = (contains_key stored key ≡ true) × AreDatabase told header (remove stored key)
Removes key stored told header false = contains_key stored key ≡ false
