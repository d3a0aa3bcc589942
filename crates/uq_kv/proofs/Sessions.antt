-- Sessions at the end of a transaction.
use Rattle.std.proofs.Common.{◌≡◌, ℕ, Bool, true, false, List, Option, Some, None, Vec, Global, Ok, Err, refl, sym, ap, ◌∙◌}
use Rattle.std.specs.Prelude.{Result, if◌then◌else◌}
use Rattle.std.specs.Option.{option_map}
use Rattle.std.specs.FinMap.{contains_key, get, insert, remove}
use Rattle.uq_model.specs.Session.{Call, Session, committed, opened, rolled_back, with_present}
use Rattle.uq_model.specs.declared.limits.Limits.{Limits}
use Rattle.uq_kv.specs.declared.error.KvFault.{KvFault}
use Rattle.uq_kv.specs.declared.error.KvFault.TheVariants.{Full, NotFound, ValueTooLong}
use Rattle.uq_kv.specs.declared.space.Space.{Space}
use Rattle.uq_kv.specs.Calls.{appends, behind, deletes, fetches, found, puts, stores, takes}
use Rattle.uq_kv.specs.Full.{is_too_much}
use Rattle.uq_kv.specs.Lengths.{entry_checked, key_checked, value_checked}
use Rattle.uq_kv.specs.Stored.{Stored, stored_key}
use Rattle.uq_kv.specs.Writing.{added, longer}

module _ {S : Type 0} (s : Session S) (idle : s.begun ≡ false → s.present ≡ s.saved) where
  back_by : (b : Bool) → s.begun ≡ b → (if b then opened s.saved else s) ≡ opened s.saved
  back_by true is = refl
  back_by false is = λ i. record { saved = s.saved; present = idle is i; begun = is i }

  -- both leave nothing begun, over what is saved
  pub rolled_back_is : rolled_back s ≡ opened s.saved
  rolled_back_is = back_by s.begun refl

  done_by : (b : Bool) → s.begun ≡ b → (if b then opened s.present else s) ≡ opened s.present
  done_by true is = refl
  done_by false is = λ i. record { saved = sym (idle is) i; present = s.present; begun = is i }

  -- or over what is there
  pub committed_is : committed s ≡ opened s.present
  committed_is = done_by s.begun refl

-- ---- calls whose lengths are checked first

pub passed : {T : Type 0} (checked : Result (Unit {0}) KvFault) (call : Call Stored (Result T KvFault)) (s : Session Stored) → checked ≡ Ok tt → behind checked call s ≡ call s
passed checked call s is = ap (λ (r : Result (Unit {0}) KvFault). behind r call s) is

module _ (space : Space) (s : Session Stored) (key : List ℕ) where
  module _ (checked : key_checked key ≡ Ok tt) (got : Option (Vec ℕ Global)) (same : option_map (λ (v : Vec ℕ Global). v.items) got ≡ get s.present (stored_key space key)) where
    whole_fetch : (answer : Option (List ℕ)) → answer ≡ get s.present (stored_key space key) → fetches space key s ≡ (found answer, s)
    whole_fetch answer is = passed (key_checked key) (λ (t : Session Stored). (found (get t.present (stored_key space key)), t)) s checked ∙ ap (λ (o : Option (List ℕ)). (found o, s)) (sym is)

    pub found_some : (data_found : Vec ℕ Global) → got ≡ Some data_found → (Ok data_found.items, s) ≡ fetches space key s
    found_some data_found is = sym (whole_fetch (Some data_found.items) (ap (option_map (λ (v : Vec ℕ Global). v.items)) (sym is) ∙ same))

    pub found_none : got ≡ None → (Err NotFound, s) ≡ fetches space key s
    found_none is = sym (whole_fetch None (ap (option_map (λ (v : Vec ℕ Global). v.items)) (sym is) ∙ same))

  module _ (limits : Limits) (value : List ℕ) (checked : entry_checked key value ≡ Ok tt) where
    put_by : (too_much : Bool) → is_too_much limits space key value s.present ≡ too_much
        → stores limits space key value s ≡ (if too_much then (Err Full, s) else (Ok tt, with_present (insert s.present (stored_key space key) value) s))
    put_by too_much is = passed (entry_checked key value) (puts limits space key value) s checked
        ∙ ap (λ (b : Bool). if b then (Err Full, s) else (Ok tt, with_present (insert s.present (stored_key space key) value) s)) is

    pub stores_done : is_too_much limits space key value s.present ≡ false → stores limits space key value s ≡ (Ok tt, with_present (insert s.present (stored_key space key) value) s)
    stores_done fits = put_by false fits

    pub stores_full : is_too_much limits space key value s.present ≡ true → stores limits space key value s ≡ (Err Full, s)
    stores_full full = put_by true full

  module _ (limits : Limits) (more : List ℕ) (checked : key_checked key ≡ Ok tt) where
    whole_append : appends limits space key more s ≡ behind (value_checked (longer s.present (stored_key space key) more)) (puts limits space key (longer s.present (stored_key space key) more)) s
    whole_append = passed (key_checked key) (λ (t : Session Stored). behind (value_checked (longer t.present (stored_key space key) more)) (puts limits space key (longer t.present (stored_key space key) more)) t) s checked

    pub appends_long : value_checked (longer s.present (stored_key space key) more) ≡ Err ValueTooLong → appends limits space key more s ≡ (Err ValueTooLong, s)
    appends_long is = whole_append ∙ ap (λ (r : Result (Unit {0}) KvFault). behind r (puts limits space key (longer s.present (stored_key space key) more)) s) is

    add_by : (too_much : Bool) → value_checked (longer s.present (stored_key space key) more) ≡ Ok tt → is_too_much limits space key (longer s.present (stored_key space key) more) s.present ≡ too_much
        → appends limits space key more s ≡ (if too_much then (Err Full, s) else (Ok tt, with_present (added s.present (stored_key space key) more) s))
    add_by too_much fits is = whole_append ∙ passed (value_checked (longer s.present (stored_key space key) more)) (puts limits space key (longer s.present (stored_key space key) more)) s fits
        ∙ ap (λ (b : Bool). if b then (Err Full, s) else (Ok tt, with_present (added s.present (stored_key space key) more) s)) is

    pub appends_done : value_checked (longer s.present (stored_key space key) more) ≡ Ok tt → is_too_much limits space key (longer s.present (stored_key space key) more) s.present ≡ false
        → appends limits space key more s ≡ (Ok tt, with_present (added s.present (stored_key space key) more) s)
    appends_done fits is = add_by false fits is

    pub appends_full : value_checked (longer s.present (stored_key space key) more) ≡ Ok tt → is_too_much limits space key (longer s.present (stored_key space key) more) s.present ≡ true → appends limits space key more s ≡ (Err Full, s)
    appends_full fits is = add_by true fits is

  module _ (checked : key_checked key ≡ Ok tt) where
    delete_by : (there : Bool) → contains_key s.present (stored_key space key) ≡ there → deletes space key s ≡ (if there then (Ok tt, with_present (remove s.present (stored_key space key)) s) else (Err NotFound, s))
    delete_by there is = passed (key_checked key) (takes NotFound (stored_key space key)) s checked ∙ ap (λ (b : Bool). if b then (Ok tt, with_present (remove s.present (stored_key space key)) s) else (Err NotFound, s)) is

    pub deletes_done : contains_key s.present (stored_key space key) ≡ true → deletes space key s ≡ (Ok tt, with_present (remove s.present (stored_key space key)) s)
    deletes_done is = delete_by true is

    pub deletes_none : contains_key s.present (stored_key space key) ≡ false → deletes space key s ≡ (Err NotFound, s)
    deletes_none is = delete_by false is

-- ---- an entry taken out, by whether it was there

takes_by : (fault : KvFault) (key : List ℕ) (s : Session Stored) (there : Bool) → contains_key s.present key ≡ there → takes fault key s ≡ (if there then (Ok tt, with_present (remove s.present key) s) else (Err fault, s))
takes_by fault key s there is = ap (λ (b : Bool). if b then (Ok tt, with_present (remove s.present key) s) else (Err fault, s)) is

pub takes_there : (fault : KvFault) (key : List ℕ) (s : Session Stored) → contains_key s.present key ≡ true → takes fault key s ≡ (Ok tt, with_present (remove s.present key) s)
takes_there fault key s is = takes_by fault key s true is

pub takes_none : (fault : KvFault) (key : List ℕ) (s : Session Stored) → contains_key s.present key ≡ false → takes fault key s ≡ (Err fault, s)
takes_none fault key s is = takes_by fault key s false is
