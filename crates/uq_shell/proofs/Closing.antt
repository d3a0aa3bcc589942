-- The end of the input, by what the commit answers.
use Rattle.std.proofs.Common.{◌≡◌, ◌≤◌, ℕ, ◌+◌, Bool, true, false, ◌∷◌, [], Some, None, Ok, Err, inl, inr, refl, sym, ap, subst, ◌∙◌, arith}
use Rattle.uq_facts.specs.Causes.{Rose}
use Rattle.uq_outside.specs.declared.disk.Disk as disk
use Rattle.uq_outside.specs.declared.sink.Sink as sink
use Rattle.uq_outside.specs.Since.{Laws}
use Rattle.std.specs.Borrow.{MutBor}
use Rattle.uq_model.specs.Session.{Session, commits}
use Rattle.uq_kv.specs.Calls.{IsAmong, succeeds}
use Rattle.uq_kv.specs.Holds.{LeavesNow}
use Rattle.uq_kv.specs.Kv.{Does, HasCauses, KeepsKv, LeavesSavedOrPresent, Tells, closed_of, disk_of, is_begun_of}
use Rattle.uq_kv.specs.Stored.{Stored}
use Rattle.uq_kv.specs.declared.error.KvFault.{KvFault}
use Rattle.uq_kv.specs.declared.error.KvFault.TheVariants as kv
use Rattle.uq_kv.specs.declared.kv.Kv.{Kv}
use Rattle.uq_shell.specs.Answers.{LeavesAlike}
use Rattle.uq_shell.specs.Ends.{Ends, Settles, Writes}
use Rattle.uq_shell.specs.Followed.{some_line}
use Rattle.uq_shell.specs.Headline.{HasCauses as ComesForCauses}
use Rattle.uq_shell.specs.Obeys.{commits_before}
use Rattle.uq_shell.specs.Reached.{Stands, Stops}
use Rattle.uq_shell.specs.Statuses.{row, status_of}
use Rattle.uq_shell.specs.Stream.{at_end}
use Rattle.uq_shell.specs.declared.progress.Progress.{Progress}
use Rattle.uq_shell.specs.declared.progress.Stop.TheVariants.{At}
use Rattle.uq_shell.specs.declared.status.Status.{Status}
use Rattle.uq_shell.specs.declared.status.Status.TheVariants.{Usage, Disk}
use Rattle.uq_shell.proofs.Finishing.{anywhere_at, ends_at}
use Rattle.uq_shell.proofs.Meeting.{ends_whole}
use Rattle.uq_shell.proofs.Settled.{settled, settled_cut}
use Rattle.uq_shell.proofs.Standing.{rose_later}

-- ---- a run that was not cut short

whole_causes : (is_refusal : Bool) (disk stream none : Type 0) → ComesForCauses disk stream none (status_of is_refusal)
whole_causes true disk stream none = record { disk = λ is. absurd (cc); stream = λ is. absurd (cc); not_database = λ is. absurd (cc) }
whole_causes false disk stream none = record { disk = λ is. absurd (cc); stream = λ is. absurd (cc); not_database = λ is. absurd (cc) }

whole_usage : (is_refusal : Bool) → status_of is_refusal ≡ Usage → ⊥
whole_usage true is = cc
whole_usage false is = cc

module _ {D O : Type 0} (g : disk.Ghosts D) (o : sink.Ghosts O) (at : Progress) (old new : Kv D g) (x : O) (keeps : KeepsKv g old new) (stop : LeavesSavedOrPresent g old (disk_of g new))
    (idle : is_begun_of g old ≡ false → disk_of g new ≡ disk_of g old) where
  -- with nothing done, the disk is as it was
  kept_idle : (disk_first : D) (x0 : O) → Stands g o at disk_first old x0 x → at.done ≡ 0 → LeavesAlike g disk_first (disk_of g new).now
  kept_idle disk_first x0 stands nothing =
      subst (λ (d : MutBor D). LeavesAlike g disk_first d.now) (sym (idle (stands.idle nothing))) (stands.kept nothing)

  module _ (begun : Bool) (done : Bool) (does : Does g {T = Bool} {U = Bool} (λ done. done) (succeeds commits) old new (Ok done)) (later : g.faults (disk_of g old).now ≤ g.faults (disk_of g new).now)
      (durable : (s : Session Stored) → Tells g old s → LeavesNow g (disk_of g new).now s.present) where
    -- it is committed, or there is nothing to commit
    pub settles_whole : (status : Status) (n : ℕ) → is_begun_of g old ≡ begun → status ≡ status_of at.is_refused → n ≡ at.done + commits_before begun
        → Settles g o at old new x x (record { status = status; done = n; meter = at.meter })
    settles_whole status n begun_is status_is count =
        subst (λ (st : Status). Settles g o at old new x x (record { status = st; done = n; meter = at.meter })) (sym status_is) (record {
          same_reference = keeps.same_reference;
          status = inl refl;
          anywhere = λ disk_first x0 stands.
              let before = stands.later in
              let quiet = stands.quiet in
              record {
                causes = whole_causes at.is_refused _ _ _;
                not_usage = whole_usage at.is_refused;
                counts = record { disk = omega arith; sink = omega arith };
                line = ends_whole o x0 x ⊥ stands.replies at.is_refused stands.written;
                kept = λ nothing. kept_idle disk_first x0 stands (omega (arith, count, nothing));
              };
          ends = λ entry state place disk_first x0 reached before.
              let done_is : n ≡ at.done + commits_before state.desk.session.begun
              = count ∙ ap (λ (b : Bool). at.done + commits_before b) (sym (reached.tells.begun ∙ begun_is)) in
              subst (λ (b : Bool). Ends g o entry (at_end state) ⊥ disk_first (disk_of g new).now x0 x (record { status = status_of b; done = n; meter = at.meter })) reached.refused
              (settled g o entry state at place disk_first old new x0 x reached (stop state.desk.session reached.tells) ⊥ n done_is (does state.desk.session reached.tells refl).1 (durable state.desk.session reached.tells));
          idle = idle;
        })

  -- ---- the commit failed: the disk did, since the store was open

  rose_by : (fault : KvFault) → closed_of g old ≡ None → HasCauses g {T = Bool} old new (Err fault) → IsAmong (kv.Disk ∷ []) fault
      → Rose (g.faults (disk_of g old).now) (g.faults (disk_of g new).now)
  rose_by fault unclosed causes (inl is) = causes.disk (ap Err is)
  rose_by fault unclosed causes (inr by) = let was : closed_of g old ≡ Some by.0 = (causes.closed by.0).0 (ap Err by.1) in absurd (cc)

  pub settles_cut : Laws g → (fault : KvFault) (z : O) → closed_of g old ≡ None → HasCauses g {T = Bool} old new (Err fault) → IsAmong (kv.Disk ∷ []) fault
      → Writes o (some_line at.last (row Disk).text) x z → o.faults x ≤ o.faults z → Settles g o at old new x z (record { status = Disk; done = at.done; meter = at.meter })
  settles_cut laws fault z unclosed causes among line later =
      let rose = rose_by fault unclosed causes among in
      let disk_later = causes.later in
      record {
        same_reference = keeps.same_reference;
        status = inr refl;
        anywhere = λ disk_first x0 stands.
            let before = stands.later in
            let quiet = stands.quiet in
            let stops : Stops g o (At Disk) at disk_first (disk_of g new).now x0 x = record {
              later = omega arith;
              sink_later = omega arith;
              replies = stands.replies;
              written = stands.written;
              quiet = λ _ _. stands.quiet;
              ends = λ _ _. stands.ends;
              rose = λ is. absurd (cc);
              disk = λ _. rose_later _ _ _ before rose;
              kept = kept_idle disk_first x0 stands;
            } in
            anywhere_at g o ⊥ ⊥ at disk_first (disk_of g new).now x0 Disk x z stops line later refl (λ is. absurd (cc)) (λ is. cc);
        ends = λ entry state place disk_first x0 reached before.
            ends_at g o entry (at_end state) ⊥ at disk_first new x0 Disk x z
            (settled_cut g o entry state at place disk_first old new x0 x reached (stop state.desk.session reached.tells) laws) line refl (λ is. absurd (cc)) (λ _. rose_later _ _ _ before rose) (λ is. cc) (λ is. absurd (cc));
        idle = idle;
      }
