-- A move of the cursor, and then the key at which it is.
use Rattle.std.proofs.Common.{Vec, Global, ◌≡◌, ◌≤◌, ℕ, true, List, Option, Some, None, Result, Ok, Err, if◌then◌else◌, refl, sym, ap, subst, ◌∙◌}
use Rattle.std.specs.Prelude.{◌↔◌, drop}
use Rattle.std.specs.FinMap.{contains_key}
use Rattle.uq_facts.specs.Causes.{AtErr, Rose, UnlessErr}
use Rattle.uq_outside.specs.declared.disk.Disk.{Ghosts}
use Rattle.uq_outside.specs.Since.{Laws}
use Rattle.uq_outside.specs.SinceLaws.{goes_on}
use Rattle.uq_model.specs.Session.{Session}
use Rattle.uq_model.specs.declared.cause.Cause.{Cause}
use Rattle.uq_kv.specs.Calls.{closed_by}
use Rattle.uq_kv.specs.Cursor.{key_at, moved_to}
use Rattle.uq_kv.specs.Holds.{RecoversTo}
use Rattle.uq_kv.specs.Kv.{Does, HasCauses, KeepsKv, LeavesSaved, Reads, Tells, closed_of, disk_of}
use Rattle.uq_kv.specs.Stored.{Stored}
use Rattle.uq_kv.specs.declared.error.KvFault.{KvFault}
use Rattle.uq_kv.specs.declared.error.KvFault.TheVariants.{EmptyKey, KeyTooLong, ValueTooLong, Full, NotFound, NoEntry, Disk, Corrupt, Closed, Memory}
use Rattle.uq_kv.specs.declared.kv.Kv.{Kv}
use Rattle.uq_shell.specs.Moves.{FoundBy, Moves, Shows, key_shown, place_by}
use Rattle.uq_shell.specs.declared.cursor.Move.{Move}
use Rattle.uq_shell.proofs.Alike.{still_on}
use Rattle.uq_shell.proofs.Walking.{found_is, found_there}

-- the key that is told at a place, which is there
key_at_place : (now : Option (List ℕ)) (s : Session Stored) → ((key : List ℕ) → now ≡ Some key → contains_key s.present key ≡ true) → Ok tt ≡ moved_to now → (key_at now s).0 ≡ key_shown now
key_at_place None s there is = absurd (cc)
key_at_place (Some key) s there is = ap (λ b. if b then Ok (drop 1 key) else Err NoEntry) (there key refl)

stays_at : (now : Option (List ℕ)) (s : Session Stored) → (key_at now s).1 ≡ s
stays_at None s = refl
stays_at (Some key) s = refl

-- where there is no such key, none is told
refused_place : (now : Option (List ℕ)) (fault : KvFault) → ◌≡◌ {A = Result (Unit {0}) KvFault} (Err fault) (moved_to now) → ◌≡◌ {A = Result (List ℕ) KvFault} (Err fault) (key_shown now)
refused_place None fault is = cc
refused_place (Some key) fault is = absurd (cc)

-- ---- the causes of a fault, as an answer of another kind

err_is : (T : Type 0) (a b : KvFault) → ◌≡◌ {A = Result T KvFault} (Err a) (Err b) → a ≡ b
err_is T a b is = cc

closed_same : (T U : Type 0) (fault : KvFault) (was : Option Cause) → closed_by {T = T} (Err fault) was ≡ closed_by {T = U} (Err fault) was
closed_same T U fault (Some first) = refl
closed_same T U EmptyKey None = refl
closed_same T U KeyTooLong None = refl
closed_same T U ValueTooLong None = refl
closed_same T U Full None = refl
closed_same T U NotFound None = refl
closed_same T U NoEntry None = refl
closed_same T U Disk None = refl
closed_same T U Corrupt None = refl
closed_same T U (Closed first) None = refl
closed_same T U Memory None = refl

causes_by : {D T U : Type 0} (g : Ghosts D) (old new : Kv D g) (fault : KvFault) → HasCauses g {T = T} old new (Err fault) → HasCauses g {T = U} old new (Err fault)
causes_by {T = T} {U = U} g old new fault causes = record {
  later = causes.later;
  disk = λ is. causes.disk (ap Err (err_is U fault Disk is));
  quiet = λ other. causes.quiet (λ is. other (ap Err (err_is T fault Disk is)));
  corrupt = λ is. causes.corrupt (ap Err (err_is U fault Corrupt is));
  closed = λ first. (λ is. (causes.closed first).0 (ap Err (err_is U fault (Closed first) is)), λ was. ap Err (err_is T fault (Closed first) ((causes.closed first).1 was)));
  closes = causes.closes ∙ closed_same T U fault (closed_of g old);
}

module _ {D : Type 0} (g : Ghosts D) (to : Move) (was : Option (List ℕ)) where
  -- it was refused
  pub shown_none : (old new : Kv D g) (now : Option (List ℕ)) (fault : KvFault) → Moves g (FoundBy to was) old new now (Err fault) → Shows g (place_by to was) old new now (Err fault)
  shown_none old new now fault moves = record {
    shows = λ s tells answered.
        let went = moves.goes s tells answered in
        let there = found_is to was s.present now went.1 in
        (there, refused_place now fault went.2 ∙ ap key_shown there, went.0);
    reads = moves.reads;
    stop = moves.stop;
    keeps = moves.keeps;
    cause = causes_by {T = Unit {0}} {U = Vec ℕ Global} g old new fault moves.cause;
  }

  -- it went there, and its key is told
  pub shown_key : Laws g → (old mid new : Kv D g) (now : Option (List ℕ)) (key : Result (Vec ℕ Global) KvFault) → closed_of g old ≡ None → Moves g (FoundBy to was) old mid now (Ok tt)
      → Does g (λ (key : Vec ℕ Global). key.items) (key_at now) mid new key → Reads g mid new → LeavesSaved g mid new → KeepsKv g mid new → HasCauses g mid new key
      → Shows g (place_by to was) old new now key
  shown_key laws old mid new now key unclosed moves does reads stop keeps cause = record {
    shows = λ s tells answered.
        let went = moves.goes s tells refl in
        let told = does s went.0 answered in
        let there = found_is to was s.present now went.1 in
        let at = key_at_place now s (λ key is. found_there to was s.present key (subst (λ (it : Option (List ℕ)). FoundBy to was s.present it) is went.1)) went.2 in
        (there, told.0 ∙ at ∙ ap key_shown there, subst (Tells g new) (stays_at now s) told.1);
    reads = record {
      still = still_on g laws (disk_of g old).now (disk_of g mid).now (disk_of g new).now moves.reads.still reads.still;
      begun = reads.begun ∙ moves.reads.begun;
    };
    stop = λ s tells.
        let went = moves.goes s tells refl in
        goes_on g (RecoversTo s.saved) (disk_of g old).now (disk_of g mid).now (disk_of g new).now (moves.stop s tells) (stop s went.0);
    keeps = record {
      same_reference = keeps.same_reference ∙ moves.keeps.same_reference;
      limits = keeps.limits ∙ moves.keeps.limits;
      closed = λ first is. absurd (let no : None ≡ Some first = sym unclosed ∙ is in cc);
    };
    cause =
        let same : g.faults (disk_of g mid).now ≡ g.faults (disk_of g old).now = moves.cause.quiet (λ is. cc) in
        let unclosed_still : closed_of g mid ≡ closed_of g old = mid_open in
        record {
          later = subst (λ n. n ≤ g.faults (disk_of g new).now) same cause.later;
          disk = subst (λ n. AtErr Disk key (Rose n (g.faults (disk_of g new).now))) same cause.disk;
          quiet = subst (λ n. UnlessErr Disk key (g.faults (disk_of g new).now ≡ n)) same cause.quiet;
          corrupt = λ is s tells. cause.corrupt is s (moves.goes s tells refl).0;
          closed = subst (λ (c : Option Cause). (first : Cause) → (key ≡ Err (Closed first)) ↔ (c ≡ Some first)) unclosed_still cause.closed;
          closes = subst (λ (c : Option Cause). closed_of g new ≡ closed_by key c) unclosed_still cause.closes;
        };
  }
    where
      mid_open : closed_of g mid ≡ closed_of g old
      mid_open = moves.cause.closes ∙ ap (closed_by {T = Unit {0}} (Ok tt)) unclosed ∙ sym unclosed
