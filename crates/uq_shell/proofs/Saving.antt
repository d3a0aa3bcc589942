-- What a command saves.
use Rattle.std.proofs.Common.{◌≡◌, ℕ, Bool, true, false, if◌then◌else◌, List, ◌++◌, Option, Some, None, Result, Ok, Err, refl, sym, ap, ◌∙◌}
use Rattle.std.specs.FinMap.{contains_key, get, insert, remove}
use Rattle.uq_hash.specs.Looks.{value_or_none}
use Rattle.uq_model.specs.Session.{Call, Session, opened, rolled_back, with_present}
use Rattle.uq_model.specs.declared.limits.Limits.{Limits}
use Rattle.uq_kv.specs.Calls.{appends, behind, deletes, fetches, puts, stores, takes}
use Rattle.uq_kv.specs.Cursor.{data_at, deletes_at, is_valid, key_at, sought}
use Rattle.uq_kv.specs.Full.{is_too_much}
use Rattle.uq_kv.specs.Lengths.{entry_checked, key_checked, value_checked}
use Rattle.uq_kv.specs.Stored.{Stored, stored_key}
use Rattle.uq_kv.specs.declared.error.KvFault.{KvFault}
use Rattle.uq_kv.specs.declared.error.KvFault.TheVariants.{Full, NoEntry, NotFound}
use Rattle.uq_kv.specs.declared.space.Space.TheVariants.{Keys}
use Rattle.uq_json.specs.Quote.{quoted}
use Rattle.uq_shell.specs.Answers.{request_of}
use Rattle.uq_shell.specs.Failures.{aborts}
use Rattle.uq_shell.specs.Commands.{Desk, refused_by, said_at, saying, says_key, says_truth}
use Rattle.uq_shell.specs.Replies.{Said, says, says_ok, taken_as}
use Rattle.uq_shell.specs.declared.command.Command.{Command}
use Rattle.uq_shell.specs.declared.command.Command.TheVariants as command
use Rattle.uq_shell.specs.declared.reply.Refusal.{Refusal}
use Rattle.uq_shell.specs.declared.status.Status.{Status}
use Rattle.uq_shell.specs.Moves.{place_by}
use Rattle.uq_shell.proofs.Moving.{SavesBy}

-- ---- no commit stands before the reply

refused_none : (refused : Result Refusal Status) → (refused_by refused).commits ≡ false
refused_none (Ok refusal) = refl
refused_none (Err status) = refl

said_none : {T : Type 0} (say : T → Said) → ((value : T) → (say value).commits ≡ false) → (answer : Result T KvFault) → (said_at say answer).commits ≡ false
said_none say none (Ok value) = none value
said_none say none (Err fault) = refused_none (taken_as fault)

-- a call that saves nothing, with what is said of it
kept_by : {T : Type 0} (say : T → Said) (call : Call Stored (Result T KvFault)) (s : Session Stored) → ((value : T) → (say value).commits ≡ false) → (call s).1.saved ≡ s.saved
    → SavesBy (saying say call s).0.commits s (saying say call s).1
kept_by say call s none kept = kept ∙ sym (ap (λ (b : Bool). if b then s.present else s.saved) (said_none say none (call s).0))

-- ---- the calls that save nothing

behind_saved : {T : Type 0} (checked : Result (Unit {0}) KvFault) (call : Call Stored (Result T KvFault)) (s : Session Stored) → (call s).1.saved ≡ s.saved → (behind checked call s).1.saved ≡ s.saved
behind_saved (Err fault) call s kept = refl
behind_saved (Ok done) call s kept = kept

put_if : (too_much : Bool) (s : Session Stored) (store : Stored)
    → (if◌then◌else◌ {A = Result (Unit {0}) KvFault × Session Stored} too_much (Err Full, s) (Ok tt, with_present store s)).1.saved ≡ s.saved
put_if true s store = refl
put_if false s store = refl

put_saved : (limits : Limits) (key value : List ℕ) (s : Session Stored) → (puts limits Keys key value s).1.saved ≡ s.saved
put_saved limits key value s = put_if (is_too_much limits Keys key value s.present) s (insert s.present (stored_key Keys key) value)

take_if : (fault : KvFault) (there : Bool) (s : Session Stored) (store : Stored)
    → (if◌then◌else◌ {A = Result (Unit {0}) KvFault × Session Stored} there (Ok tt, with_present store s) (Err fault, s)).1.saved ≡ s.saved
take_if fault true s store = refl
take_if fault false s store = refl

take_saved : (fault : KvFault) (key : List ℕ) (s : Session Stored) → (takes fault key s).1.saved ≡ s.saved
take_saved fault key s = take_if fault (contains_key s.present key) s (remove s.present key)

append_saved : (limits : Limits) (key more : List ℕ) (s : Session Stored) → (appends limits Keys key more s).1.saved ≡ s.saved
append_saved limits key more s =
    let data_after : List ℕ = value_or_none (get s.present (stored_key Keys key)) ++ more in
    behind_saved (key_checked key) (λ (it : Session Stored).
    behind (value_checked (value_or_none (get it.present (stored_key Keys key)) ++ more)) (puts limits Keys key (value_or_none (get it.present (stored_key Keys key)) ++ more)) it) s
    (behind_saved (value_checked data_after) (puts limits Keys key data_after) s (put_saved limits key data_after s))

-- ---- commit and rollback

committed_saved : (b : Bool) (s : Session Stored) → (if b then opened s.present else s).saved ≡ (if b then s.present else s.saved)
committed_saved true s = refl
committed_saved false s = refl

rolled_back_saved : (b : Bool) (s : Session Stored) → (if b then opened s.saved else s).saved ≡ s.saved
rolled_back_saved true s = refl
rolled_back_saved false s = refl

failed_saved : (b : Bool) (s : Session Stored) → (if b then rolled_back s else s).saved ≡ s.saved
failed_saved true s = rolled_back_saved s.begun s
failed_saved false s = refl

-- ---- the cursor's

key_saved : (found : Option (List ℕ)) (s : Session Stored) → s.saved ≡ (if (says_key found).commits then s.present else s.saved)
key_saved None s = refl
key_saved (Some key) s = refl

key_kept : (at : Option (List ℕ)) (s : Session Stored) → (key_at at s).1.saved ≡ s.saved
key_kept None s = refl
key_kept (Some key) s = refl

data_kept : (at : Option (List ℕ)) (s : Session Stored) → (data_at at s).1.saved ≡ s.saved
data_kept None s = refl
data_kept (Some key) s = refl

drop_kept : (at : Option (List ℕ)) (s : Session Stored) → (deletes_at at s).1.saved ≡ s.saved
drop_kept None s = refl
drop_kept (Some key) s = take_saved NoEntry key s

truth_none : (b : Bool) → (says_truth b).commits ≡ false
truth_none true = refl
truth_none false = refl

-- what is there is saved where a commit stands before the reply, and nothing where none does
pub saves_by : (it : Command) (limits : Limits) (desk : Desk) → SavesBy ((request_of it).does limits desk).0.commits desk.session ((request_of it).does limits desk).1.session
saves_by (command.Store key value) limits desk =
    kept_by (λ _. says_ok) (stores limits Keys key.now value.now) desk.session (λ _. refl) (behind_saved (entry_checked key.now value.now) (puts limits Keys key.now value.now) desk.session (put_saved limits key.now value.now desk.session))
saves_by (command.Append key more) limits desk = kept_by (λ _. says_ok) (appends limits Keys key.now more.now) desk.session (λ _. refl) (append_saved limits key.now more.now desk.session)
saves_by (command.Fetch key) limits desk =
    kept_by (λ found. says (quoted found)) (fetches Keys key.now) desk.session (λ _. refl) (behind_saved (key_checked key.now) _ desk.session refl)
saves_by (command.Delete key) limits desk =
    kept_by (λ _. says_ok) (deletes Keys key.now) desk.session (λ _. refl) (behind_saved (key_checked key.now) (takes NotFound (stored_key Keys key.now)) desk.session (take_saved NotFound (stored_key Keys key.now) desk.session))
saves_by command.Begin limits desk = refl
saves_by command.Commit limits desk = committed_saved desk.session.begun desk.session
saves_by command.Rollback limits desk = rolled_back_saved desk.session.begun desk.session
saves_by (command.Seek key) limits desk = sym (ap (λ (b : Bool). if b then desk.session.present else desk.session.saved) (said_none (λ _. says (quoted key.now)) (λ _. refl) (sought key.now desk.session).0))
saves_by (command.Go to) limits desk = key_saved (place_by to desk.cursor desk.session.present) desk.session
saves_by command.Key limits desk = kept_by (λ key. says (quoted key)) (key_at desk.cursor) desk.session (λ _. refl) (key_kept desk.cursor desk.session)
saves_by command.Data limits desk = kept_by (λ found. says (quoted found)) (data_at desk.cursor) desk.session (λ _. refl) (data_kept desk.cursor desk.session)
saves_by command.Drop limits desk = kept_by (λ _. says_ok) (deletes_at desk.cursor) desk.session (λ _. refl) (drop_kept desk.cursor desk.session)
saves_by command.Valid limits desk = kept_by says_truth (is_valid desk.cursor) desk.session truth_none refl
saves_by command.Reset limits desk = refl
saves_by (command.Refused refusal) limits desk = refl
saves_by (command.Failed failure) limits desk = failed_saved (aborts failure) desk.session
