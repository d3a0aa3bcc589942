-- What pages are a database of.
use Rattle.std.proofs.Common.{◌≡◌, ℕ, ◌≤◌, Bool, true, false, List, [], ◌∷◌, length, Option, Some, None, Vec, Global, inl, inr, ⊎_elim, refl, sym, ap, subst, ◌∙◌, arith}
use Rattle.std.specs.Prelude.{sum_by, Result, Ok, Err, IfOk, IsSome, slice_get}
use Rattle.std.specs.Option.{ForSome, option_map}
use Rattle.std.specs.FinMap.{empty, entries, len, len-empty, len-entries}
use Rattle.std.specs.Ordering.{nat_cmp}
use Rattle.std.specs.Cmp.Lexicographic.{slice_cmp}
use Rattle.uq_page.specs.declared.error.ChainFault.{ChainFault}
use Rattle.uq_page.specs.declared.error.ChainFault.TheVariants.{Failed, Corrupt, NoPage}
use Rattle.uq_page.specs.declared.header.Header.{Header}
use Rattle.uq_hash.specs.Causes.{HasMapCause}
use Rattle.uq_page.specs.Pages.{HasPagesCause}
use Rattle.uq_hash.specs.Map.{HoldsMap, WhereHeld, bytes_in, Entry, entry_len}
use Rattle.uq_kv.specs.Database.{HoldAll, HoldEntries, IsDatabase, IsEmpty, IsKept, WhereKept, WhereStored}
use Rattle.uq_kv.specs.Stored.{IsWithinLimits, Stored}
use Rattle.uq_kv.specs.Users.{key_where}
use Rattle.uq_kv.specs.Writing.{HasStoreCause}

no_entries : (es : List Entry) → length es ≡ 0 → es ≡ []
no_entries [] is = refl
no_entries (e ∷ es) is = absurd (omega arith)

pub bytes_empty : bytes_in empty ≡ 0
bytes_empty = ap (sum_by entry_len) (no_entries (entries empty) (sym (len-entries (empty {K = List ℕ} {X = List ℕ} {R = slice_cmp nat_cmp})) ∙ len-empty (slice_cmp nat_cmp) (List ℕ)))

first_some : (pages : List (List ℕ)) (page : List ℕ) → slice_get pages 0 ≡ Some page → 1 ≤ length pages
first_some [] page is = absurd (cc)
first_some (p ∷ pages) page is = omega arith

-- with a page, a database has a header on page 0
pub with_header : (header : Header) (stored : Stored) (pages : List (List ℕ)) → 1 ≤ length pages → IsDatabase header stored pages → HoldEntries header stored pages
with_header header stored pages some database = ⊎_elim
    (λ (is : IsEmpty stored pages). let none = ap length is.no_pages in absurd (omega arith))
    (λ (held : HoldEntries header stored pages). held)
    database

-- pages that are a database keep what is stored
pub kept : (header : Header) (stored : Stored) (pages : List (List ℕ)) → IsDatabase header stored pages → IsKept header stored pages
kept header stored pages database = ⊎_elim
    (λ (is : IsEmpty stored pages). inl is)
    (λ (held : HoldEntries header stored pages). inr (record { some = first_some pages held.head.page held.head.first; map = held.map }))
    database

-- what holds of all that is kept holds of all that is stored
pub where_stored : (told : Option (List (List ℕ))) (header : Header) (P : Stored → Type 0) → WhereKept told header P → WhereStored told header P
where_stored told header P holds pages on stored database = holds pages on stored (kept header stored pages database)

-- what is stored is within the limits
pub within : (header : Header) (stored : Stored) (pages : List (List ℕ)) → IsDatabase header stored pages → IsWithinLimits stored
within header stored pages database = ⊎_elim
    (λ (is : IsEmpty stored pages).
    let no_entries : len stored ≡ 0 = ap len is.no_keys ∙ len-empty (slice_cmp nat_cmp) (List ℕ) in
    let no_bytes : bytes_in stored ≡ 0 = ap bytes_in is.no_keys ∙ bytes_empty in
    record { entries = omega (arith, no_entries); bytes = omega (arith, no_bytes) })
    (λ (held : HoldEntries header stored pages). held.limits)
    database

-- with a page the pages hold a map
pub holds_map : (header : Header) (stored : Stored) (pages : List (List ℕ)) → 1 ≤ length pages → IsKept header stored pages → HoldsMap pages header stored
holds_map header stored pages some keeps = ⊎_elim
    (λ (is : IsEmpty stored pages). let none = ap length is.no_pages in absurd (omega arith))
    (λ (held : HoldAll header stored pages). held.map)
    keeps

-- and without one nothing
pub no_keys : (header : Header) (stored : Stored) (pages : List (List ℕ)) → length pages ≡ 0 → IsKept header stored pages → stored ≡ empty
no_keys header stored pages none keeps = ⊎_elim
    (λ (is : IsEmpty stored pages). is.no_keys)
    (λ (held : HoldAll header stored pages). let some = held.some in absurd (omega arith))
    keeps

module _ (told : Option (List (List ℕ))) (header : Header) (size : ℕ) (size_is : ForSome told (λ pages. size ≡ length pages)) where
  -- what holds of a map without a key holds where there is no page
  pub of_empty : (P : Stored → Type 0) → size ≡ 0 → P empty → WhereKept told header P
  of_empty P none holds pages on stored keeps =
      let long = size_is pages on in
      subst P (sym (no_keys header stored pages (omega arith) keeps)) holds

  -- and what holds of the map holds where there is one
  pub of_held : (P : Stored → Type 0) → 1 ≤ size → WhereHeld told header P → WhereKept told header P
  of_held P some holds pages on stored keeps =
      let long = size_is pages on in
      holds pages on stored (holds_map header stored pages (omega arith) keeps)

  pub map_cause : {T : Type 0} (before now : ℕ) (is_sound : Bool) (result : Result T ChainFault) → 1 ≤ size → HasMapCause told header before now is_sound result → HasStoreCause told header before now is_sound result
  map_cause before now is_sound result some cause = record {
    pages = cause.pages;
    corrupt = λ is. where_stored told header (λ _. ⊥) (of_held (λ _. ⊥) some (cause.corrupt is));
    no_page = cause.no_page;
  }

-- a fault that is handed on has the same cause
module _ {T U : Type 0} (result : Result T ChainFault) (answer : Result U ChainFault) (fault : ChainFault) (failed : result ≡ Err fault) (answered : answer ≡ Err fault) where
  same_fault : (other : ChainFault) → answer ≡ Err other → result ≡ Err other
  same_fault other is = let same : fault ≡ other = cc in failed ∙ ap Err same

  fault_same : (other : ChainFault) → result ≡ Err other → answer ≡ Err other
  fault_same other is = let same : fault ≡ other = cc in answered ∙ ap Err same

  pub handed_pages : (before now : ℕ) (is_sound : Bool) → HasPagesCause Failed before now is_sound result → HasPagesCause Failed before now is_sound answer
  handed_pages before now is_sound cause = record {
    later = cause.later;
    failed = λ is. cause.failed (same_fault Failed is);
    quiet = λ other. cause.quiet (λ is. other (fault_same Failed is));
    ended = λ is. cause.ended (same_fault Failed is);
    sound = λ other. cause.sound (λ is. other (fault_same Failed is));
  }

  pub handed_on : (told : Option (List (List ℕ))) (header : Header) (before now : ℕ) (is_sound : Bool) → HasStoreCause told header before now is_sound result → HasStoreCause told header before now is_sound answer
  handed_on told header before now is_sound cause = record {
    pages = handed_pages before now is_sound cause.pages;
    corrupt = λ is. cause.corrupt (same_fault Corrupt is);
    no_page = λ is. cause.no_page (same_fault NoPage is);
  }

-- and one that is found where no call of the pages has failed
pub found_corrupt : {T : Type 0} (result : Result T ChainFault) (told : Option (List (List ℕ))) (header : Header) (before now : ℕ) (is_sound : Bool)
    → result ≡ Err Corrupt → now ≡ before → is_sound ≡ true → WhereStored told header (λ _. ⊥) → HasStoreCause told header before now is_sound result
found_corrupt {T} result told header before now is_sound corrupt count sound wrong = record {
  pages = record {
    later = omega (arith, count);
    failed = λ is. let both : ◌≡◌ {A = Result T ChainFault} (Err Corrupt) (Err Failed) = sym corrupt ∙ is in absurd (cc);
    quiet = λ other. count;
    ended = λ is. let both : ◌≡◌ {A = Result T ChainFault} (Err Corrupt) (Err Failed) = sym corrupt ∙ is in absurd (cc);
    sound = λ other. sound;
  };
  corrupt = λ is. wrong;
  no_page = λ is. let both : ◌≡◌ {A = Result T ChainFault} (Err Corrupt) (Err NoPage) = sym corrupt ∙ is in absurd (cc);
}

-- behind calls that changed nothing
pub cause_behind : {T : Type 0} (result : Result T ChainFault) (old mid : Option (List (List ℕ))) (header : Header) (before between now : ℕ) (is_sound : Bool)
    → mid ≡ old → between ≡ before → HasStoreCause mid header between now is_sound result → HasStoreCause old header before now is_sound result
cause_behind result old mid header before between now is_sound pages count cause =
    subst (λ (told : Option (List (List ℕ))). HasStoreCause told header before now is_sound result) pages
    (subst (λ (n : ℕ). HasStoreCause mid header n now is_sound result) count cause)

pub if_ok : {T E : Type 0} (result : Result T E) (P Q : T → Type 0) → ((value : T) → P value → Q value) → IfOk result P → IfOk result Q
if_ok (Ok value) P Q wider p = wider value p
if_ok (Err fault) P Q wider p = tt

-- how long the data that were found are
pub some_len : (found : Option (Vec ℕ Global)) (data_found : Vec ℕ Global) (n : ℕ) (got : Option (List ℕ)) → found ≡ Some data_found → option_map (λ (v : Vec ℕ Global). v.items) found ≡ got → n ≡ length data_found.items
    → Some n ≡ option_map length got
some_len found data_found n got is same size =
    ap (λ (m : ℕ). Some m) size ∙ ap (λ (o : Option (Vec ℕ Global)). option_map length (option_map (λ (v : Vec ℕ Global). v.items) o)) (sym is) ∙ ap (option_map length) same

pub none_len : (found : Option (Vec ℕ Global)) (got : Option (List ℕ)) → found ≡ None → option_map (λ (v : Vec ℕ Global). v.items) found ≡ got → None ≡ option_map length got
none_len found got is same = ap (λ (o : Option (Vec ℕ Global)). option_map length (option_map (λ (v : Vec ℕ Global). v.items) o)) (sym is) ∙ ap (option_map length) same

pub no_some : {X : Type 0} (o : Option X) → IsSome o → ((x : X) → o ≡ Some x → ⊥) → ⊥
no_some None is none = cc
no_some (Some x) is none = none x refl

-- a key that is there or not
pub where_true : (there : Bool) (key found_key : List ℕ) → found_key ≡ key → true ≡ there → ◌≡◌ {A = Option (List ℕ)} (Some found_key) (key_where there key)
where_true true key found_key same is = ap (λ (k : List ℕ). Some k) same
where_true false key found_key same is = absurd (cc)

pub where_false : (there : Bool) (key : List ℕ) → false ≡ there → ◌≡◌ {A = Option (List ℕ)} None (key_where there key)
where_false true key is = absurd (cc)
where_false false key is = refl
