-- Cursors, by what was looked for.
use Rattle.std.proofs.Common.{◌≡◌, ℕ, Bool, true, false, List, [], ◌∷◌, Option, Some, None, Vec, Global, Ok, Err, refl, sym, ap, subst, ◌∙◌}
use Rattle.std.specs.Prelude.{Result, IfOk, OnOk, IsTrue, if◌then◌else◌, drop, not}
use Rattle.std.specs.Option.{ForSome, option_map}
use Rattle.std.specs.FinMap.{contains_key}
use Rattle.std.proofs.lemmas.Bool.{eqb-true, false≢true}
use Rattle.uq_outside.specs.declared.disk.Disk.{Ghosts}
use Rattle.uq_page.specs.declared.error.ChainFault.{ChainFault}
use Rattle.uq_page.specs.declared.error.ChainFault.TheVariants as chain
use Rattle.uq_model.specs.Session.{Session}
use Rattle.uq_model.specs.declared.cause.Cause.{Cause}
use Rattle.uq_kv.specs.declared.cursor.Cursor.{Cursor}
use Rattle.uq_kv.specs.declared.error.KvFault.{KvFault}
use Rattle.uq_kv.specs.declared.error.KvFault.TheVariants.{EmptyKey, KeyTooLong, ValueTooLong, Full, NotFound, NoEntry, Disk, Corrupt, Closed, Memory}
use Rattle.uq_kv.specs.declared.kv.Kv.{Kv}
use Rattle.uq_kv.specs.Calls.{FailsBy, behind, closed_by, is_answered, is_stop, seen_by, stop_of}
use Rattle.uq_kv.specs.Cursor.{IsLeft, IsMoved, MovesTo, entry_of, found_at, moved_to, place_of, seeks, sought, stored_of}
use Rattle.uq_kv.specs.Kv.{HasCauses, closed_of}
use Rattle.uq_kv.specs.Lengths.{RefusesLengths, key_checked}
use Rattle.uq_kv.specs.Stored.{Stored, stored_key}
use Rattle.uq_kv.specs.Users.{IsOfKeys, is_of_keys, key_where}
use Rattle.uq_kv.specs.declared.space.Space.TheVariants.{Keys}

-- a cursor that is unset
pub unset : (it : Cursor) → ((key : Vec ℕ Global) → it.stored ≡ Some key → ⊥) → stored_of it ≡ None
unset it none = by_stored it.stored none
  where
    by_stored : (o : Option (Vec ℕ Global)) → ((key : Vec ℕ Global) → o ≡ Some key → ⊥) → option_map (λ (key : Vec ℕ Global). key.items) o ≡ None
    by_stored None none = refl
    by_stored (Some key) none = absurd (none key refl)

-- one that is at a stored key
pub set_at : (it : Cursor) (stored : Vec ℕ Global) (key : List ℕ) → it.stored ≡ Some stored → key ≡ stored.items → stored_of it ≡ Some key
set_at it stored key is same = ap (option_map (λ (v : Vec ℕ Global). v.items)) is ∙ ap (λ (k : List ℕ). Some k) (sym same)

-- a stored key of the user is its key behind the byte of the space
behind_byte : (stored : List ℕ) → IsOfKeys stored → stored_key Keys (drop 1 stored) ≡ stored
behind_byte [] is = absurd (cc)
behind_byte (space ∷ key) is = ap (λ (byte : ℕ). byte ∷ key) (sym (eqb-true space 0x4b is))

-- so the place of a cursor is its stored key
pub place_is : (it : Cursor) → place_of it ≡ stored_of it
place_is it = by_stored it.stored it.users
  where
    by_stored : (o : Option (Vec ℕ Global)) → ForSome o (λ (key : Vec ℕ Global). IsOfKeys key.items)
        → option_map (stored_key Keys) (option_map (drop 1) (option_map (λ (key : Vec ℕ Global). key.items) o)) ≡ option_map (λ (key : Vec ℕ Global). key.items) o
    by_stored None users = refl
    by_stored (Some key) users = ap (λ (xs : List ℕ). Some xs) (behind_byte key.items (users key refl))

pub no_place : (it : Cursor) → ((key : Vec ℕ Global) → it.stored ≡ Some key → ⊥) → place_of it ≡ None
no_place it none = place_is it ∙ unset it none

pub placed_at : (it : Cursor) (stored : Vec ℕ Global) (key : List ℕ) → it.stored ≡ Some stored → key ≡ stored.items → place_of it ≡ Some key
placed_at it stored key is same = place_is it ∙ set_at it stored key is same

-- where a move is answered, so was the search for its key
pub answered_back : (found : Result (Vec ℕ Global) KvFault) (result : Result (Unit {0}) KvFault) (now : Option (List ℕ)) → MovesTo found result now → IsTrue (is_answered result) → IsTrue (is_answered found)
answered_back (Ok key) result now to answered = subst (λ (r : Result (Unit {0}) KvFault). IsTrue (is_answered r)) to.0 answered
answered_back (Err fault) result now to answered = subst (λ (r : Result (Unit {0}) KvFault). IsTrue (is_answered r)) to answered

-- and the cursor is then where the search says
pub goes_to : (found : Result (Vec ℕ Global) KvFault) (result : Result (Unit {0}) KvFault) (was now found_key : Option (List ℕ)) → MovesTo found result now → IsMoved was now result
    → seen_by (λ (key : Vec ℕ Global). key.items) found ≡ entry_of found_key → (found_key ≡ now) × (result ≡ moved_to now)
goes_to (Ok key) result was now None to moved is = absurd (cc)
goes_to (Ok key) result was now (Some other) to moved is =
    let same : other ≡ key.items = cc in
    (ap Some same ∙ sym to.1, to.0 ∙ ap moved_to (sym to.1))
goes_to (Err fault) result was now (Some other) to moved is = absurd (cc)
goes_to (Err fault) result was now None to moved is =
    let no_entry : fault ≡ NoEntry = cc in
    let none : now ≡ None = subst (λ (r : Result (Unit {0}) KvFault). IsMoved was now r) (to ∙ ap Err no_entry) moved in
    (sym none, to ∙ ap Err no_entry ∙ ap moved_to (sym none))

-- so is its place
pub goes_by : (Found : Option (List ℕ) → Type 0) (result : Result (Unit {0}) KvFault) (found_key : Option (List ℕ)) (it : Cursor) → Found found_key → (found_key ≡ stored_of it) × (result ≡ moved_to (stored_of it))
    → Found (place_of it) × (result ≡ moved_to (place_of it))
goes_by Found result found_key it found at = (subst Found (at.0 ∙ sym (place_is it)) found, at.1 ∙ ap moved_to (sym (place_is it)))

-- the same by the user's keys
pub moved_keys : (was now : Option (List ℕ)) (result : Result (Unit {0}) KvFault) → IsMoved was now result → IsMoved (option_map (drop 1) was) (option_map (drop 1) now) result
moved_keys was None (Ok done) moved = absurd (false≢true moved)
moved_keys was (Some key) (Ok done) moved = refl
moved_keys was now (Err fault) moved = by_stop (is_stop fault) moved
  where
    by_stop : (b : Bool) → IsLeft b was now → IsLeft b (option_map (drop 1) was) (option_map (drop 1) now)
    by_stop true is = ap (option_map (drop 1)) is
    by_stop false is = ap (option_map (drop 1)) is

-- a move fails as its search
pub fails_on : (faults : List KvFault) (found : Result (Vec ℕ Global) KvFault) (result : Result (Unit {0}) KvFault) (now : Option (List ℕ)) → MovesTo found result now → FailsBy faults found → FailsBy faults result
fails_on faults (Ok key) result now to fails = subst (λ (r : Result (Unit {0}) KvFault). FailsBy faults r) (sym to.0) tt
fails_on faults (Err fault) result now to fails = subst (λ (r : Result (Unit {0}) KvFault). FailsBy faults r) (sym to) fails

closed_alike : (T U : Type 0) (fault : KvFault) (before : Option Cause) → closed_by {T = T} (Err fault) before ≡ closed_by {T = U} (Err fault) before
closed_alike T U fault (Some first) = refl
closed_alike T U EmptyKey None = refl
closed_alike T U KeyTooLong None = refl
closed_alike T U ValueTooLong None = refl
closed_alike T U Full None = refl
closed_alike T U NotFound None = refl
closed_alike T U NoEntry None = refl
closed_alike T U Disk None = refl
closed_alike T U Corrupt None = refl
closed_alike T U (Closed first) None = refl
closed_alike T U Memory None = refl

closed_ok : (before : Option Cause) (key : Vec ℕ Global) → closed_by (Ok key) before ≡ closed_by {T = Unit {0}} (Ok tt) before
closed_ok (Some first) key = refl
closed_ok None key = refl

-- the same refusals, for the same causes
same_err : {T U : Type 0} (r : Result T KvFault) (s : Result U KvFault) (fault other : KvFault) → r ≡ Err fault → s ≡ Err fault → s ≡ Err other → r ≡ Err other
same_err r s fault other is is' now = let same : fault ≡ other = cc in is ∙ ap Err same

pub causes_on : {D : Type 0} (g : Ghosts D) (old new : Kv D g) (found : Result (Vec ℕ Global) KvFault) (result : Result (Unit {0}) KvFault) (now : Option (List ℕ)) → MovesTo found result now → HasCauses g old new found → HasCauses g old new result
causes_on g old new (Ok key) result now to cause = record {
  later = cause.later;
  disk = λ is. absurd (no_fault Disk is);
  quiet = λ _. cause.quiet (λ is. cc);
  corrupt = λ is. absurd (no_fault Corrupt is);
  closed = λ first. ((λ is. absurd (no_fault (Closed first) is)), (λ is. let never = (cause.closed first).1 is in absurd (cc)));
  closes = cause.closes ∙ closed_ok (closed_of g old) key ∙ ap (λ (r : Result (Unit {0}) KvFault). closed_by r (closed_of g old)) (sym to.0);
}
  where
    no_fault : (other : KvFault) → result ≡ Err other → ⊥
    no_fault other is = let never : ◌≡◌ {A = Result (Unit {0}) KvFault} (Ok tt) (Err other) = sym to.0 ∙ is in cc
causes_on g old new (Err fault) result now to cause = record {
  later = cause.later;
  disk = λ is. cause.disk (same_err (Err fault) result fault Disk refl to is);
  quiet = λ unless. cause.quiet (λ is. unless (same_err result (Err fault) fault Disk to refl is));
  corrupt = λ is. cause.corrupt (same_err (Err fault) result fault Corrupt refl to is);
  closed = λ first. ((λ is. (cause.closed first).0 (same_err (Err fault) result fault (Closed first) refl to is)), (λ is. same_err result (Err fault) fault (Closed first) to refl ((cause.closed first).1 is)));
  closes = cause.closes ∙ closed_alike (Vec ℕ Global) (Unit {0}) fault (closed_of g old) ∙ ap (λ (r : Result (Unit {0}) KvFault). closed_by r (closed_of g old)) (sym to);
}

-- a stop is no answer
pub no_answer : {T : Type 0} (result : Result T KvFault) (fault : ChainFault) → result ≡ Err (stop_of fault) → IsTrue (is_answered result) → ⊥
no_answer {T} result fault is answered = by_fault fault (subst (λ (r : Result T KvFault). IsTrue (is_answered r)) is answered)
  where
    by_fault : (fault : ChainFault) → IsTrue (not (is_stop (stop_of fault))) → ⊥
    by_fault chain.Failed stopped = cc
    by_fault chain.Corrupt stopped = cc
    by_fault chain.NoPage stopped = cc
    by_fault chain.Memory stopped = cc

-- a key that is there or not, as an answer
pub found_where : (there : Bool) (key : List ℕ) → found_at (key_where there key) ≡ (if there then Ok key else Err NoEntry)
found_where true key = refl
found_where false key = refl

-- ---- a key that is sought

pub where_ok : (there : Bool) (key found_key : List ℕ) → ◌≡◌ {A = Option (List ℕ)} (Some found_key) (key_where there key) → ◌≡◌ {A = Result (List ℕ) KvFault} (Ok found_key) (if there then Ok key else Err NotFound)
where_ok true key found_key is = let same : found_key ≡ key = cc in ap Ok same
where_ok false key found_key is = absurd (cc)

pub where_none : (there : Bool) (key : List ℕ) → ◌≡◌ {A = Option (List ℕ)} None (key_where there key) → ◌≡◌ {A = Result (List ℕ) KvFault} (Err NotFound) (if there then Ok key else Err NotFound)
where_none true key is = absurd (cc)
where_none false key is = refl

pub seeks_is : (key : List ℕ) (s : Session Stored) → key_checked key ≡ Ok tt → seeks key s ≡ ((if contains_key s.present (stored_key Keys key) then Ok (stored_key Keys key) else Err NotFound), s)
seeks_is key s checked = ap (λ (r : Result (Unit {0}) KvFault). behind r (λ (t : Session Stored). ((if contains_key t.present (stored_key Keys key) then Ok (stored_key Keys key) else Err NotFound), t)) s) checked

-- the answer of a cursor that seeks a key
sought_by : (checked : Result (Unit {0}) KvFault) (there : Bool) (key : List ℕ) (s : Session Stored) (found : Result (Vec ℕ Global) KvFault) (result : Result (Unit {0}) KvFault) (now : Option (List ℕ)) → MovesTo found result now
    → seen_by (λ (k : Vec ℕ Global). k.items) found ≡ (behind {T = List ℕ} checked (λ (t : Session Stored). ((if there then Ok key else Err NotFound), t)) s).0
    → (result ≡ (behind {T = Unit {0}} checked (λ (t : Session Stored). ((if there then Ok tt else Err NotFound), t)) s).0)
sought_by (Err fault) there key s (Ok k) result now to is = absurd (cc)
sought_by (Err fault) there key s (Err other) result now to is = let same : other ≡ fault = cc in to ∙ ap Err same
sought_by (Ok done) true key s (Ok k) result now to is = to.0
sought_by (Ok done) true key s (Err other) result now to is = absurd (cc)
sought_by (Ok done) false key s (Ok k) result now to is = absurd (cc)
sought_by (Ok done) false key s (Err other) result now to is = let same : other ≡ NotFound = cc in to ∙ ap Err same

same_answer : {T : Type 0} (checked : Result (Unit {0}) KvFault) (f g : Session Stored → Result T KvFault) (s : Session Stored) → f s ≡ g s → (behind {T = T} checked (λ (t : Session Stored). (f t, t)) s).0 ≡ (behind {T = T} checked (λ (t : Session Stored). (g t, t)) s).0
same_answer (Err fault) f g s is = refl
same_answer (Ok done) f g s is = is

pub sought_is : (key : List ℕ) (s : Session Stored) (found : Result (Vec ℕ Global) KvFault) (result : Result (Unit {0}) KvFault) (now : Option (List ℕ)) → MovesTo found result now
    → seen_by (λ (k : Vec ℕ Global). k.items) found ≡ (seeks key s).0 → result ≡ (sought key s).0
sought_is key s found result now to is =
    let there = contains_key s.present (stored_key Keys key) in
    sought_by (key_checked key) there (stored_key Keys key) s found result now to
    (is ∙ same_answer (key_checked key) (λ (t : Session Stored). if contains_key t.present (stored_key Keys key) then Ok (stored_key Keys key) else Err NotFound) (λ (t : Session Stored). if there then Ok (stored_key Keys key) else Err NotFound) s refl)
    ∙ same_answer (key_checked key) (λ (t : Session Stored). if there then Ok tt else Err NotFound) (λ (t : Session Stored). if contains_key t.present (stored_key Keys key) then Ok tt else Err NotFound) s refl

pub sought_session : (key : List ℕ) (s : Session Stored) → (seeks key s).1 ≡ (sought key s).1
sought_session key s = by_checked (key_checked key)
  where
    by_checked : (checked : Result (Unit {0}) KvFault) → (behind {T = List ℕ} checked (λ (t : Session Stored). ((if contains_key t.present (stored_key Keys key) then Ok (stored_key Keys key) else Err NotFound), t)) s).1
        ≡ (behind {T = Unit {0}} checked (λ (t : Session Stored). ((if contains_key t.present (stored_key Keys key) then Ok tt else Err NotFound), t)) s).1
    by_checked (Err fault) = refl
    by_checked (Ok done) = refl

-- and it is the user's
pub sought_users : (key : List ℕ) (found : Result (Vec ℕ Global) KvFault) → IfOk found (λ (k : Vec ℕ Global). k.items ≡ stored_key Keys key) → IfOk found (λ (k : Vec ℕ Global). IsOfKeys k.items)
sought_users key (Ok k) is = ap is_of_keys is
sought_users key (Err fault) is = tt

-- and then the cursor is at it
pub at_sought : (key : List ℕ) (found : Result (Vec ℕ Global) KvFault) (result : Result (Unit {0}) KvFault) (now : Option (List ℕ)) → MovesTo found result now → IfOk found (λ (k : Vec ℕ Global). k.items ≡ stored_key Keys key)
    → OnOk result (option_map (drop 1) now ≡ Some key)
at_sought key (Ok k) result now to is = subst (λ (r : Result (Unit {0}) KvFault). OnOk r (option_map (drop 1) now ≡ Some key)) (sym to.0) (ap (option_map (drop 1)) (to.1 ∙ ap (λ (xs : List ℕ). Some xs) is))
at_sought key (Err fault) result now to is = subst (λ (r : Result (Unit {0}) KvFault). OnOk r (option_map (drop 1) now ≡ Some key)) (sym to) tt

-- lengths are refused as by the search
pub lengths_on : (checked : Result (Unit {0}) KvFault) (found : Result (Vec ℕ Global) KvFault) (result : Result (Unit {0}) KvFault) (now : Option (List ℕ)) → MovesTo found result now → RefusesLengths checked found → RefusesLengths checked result
lengths_on checked (Ok k) result now to refused fault of_length = (
  (λ (is : result ≡ Err fault). let other = sym to.0 ∙ is in absurd (cc)),
  (λ (is : checked ≡ Err fault). let other = (refused fault of_length).1 is in absurd (cc)),
)
lengths_on checked (Err other) result now to refused fault of_length = (
  (λ (is : result ≡ Err fault). (refused fault of_length).0 (same_err (Err other) result other fault refl to is)),
  (λ (is : checked ≡ Err fault). same_err result (Err other) other fault to refl ((refused fault of_length).1 is)),
)

pub by_seen : (result answer : Result (Unit {0}) KvFault) → result ≡ answer → seen_by (λ (done : Unit {0}). done) result ≡ answer
by_seen (Ok done) answer is = is
by_seen (Err fault) answer is = is
