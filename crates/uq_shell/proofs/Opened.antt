-- What the opening of the files leaves, and what comes behind it.
use Rattle.std.proofs.Common.{◌≡◌, ℕ, ◌+◌, [], ◌∷◌, take, refl, ap, ◌∙◌}
use Rattle.std.specs.Option.{ForSome, option_and_then}
use Rattle.uq_outside.specs.declared.disk.Disk.{Ghosts}
use Rattle.uq_outside.specs.Files.{Files}
use Rattle.uq_outside.specs.Since.{After, Laws, LeavesOnly, Steps}
use Rattle.uq_outside.specs.SinceLaws.{at_end, goes_on, started, still_steps, weaker}
use Rattle.uq_outside.specs.Stops.{Elapses, Only}
use Rattle.uq_journal.specs.Calls.{IsStill, KeepsRecovered, RecoversAs, Stays}
use Rattle.uq_journal.specs.Pages.{pages_of}
use Rattle.uq_journal.specs.Recovered.{recovered}
use Rattle.uq_kv.specs.Holds.{Holds, RecoversTo}
use Rattle.uq_kv.specs.Stored.{Stored}
use Rattle.uq_shell.specs.Followed.{FollowedBefore, Last}
use Rattle.uq_shell.specs.Answers.{LeavesAlike}
use Rattle.uq_shell.specs.Headline.{KeepsFilesAtGate, Recovers}
use Rattle.uq_shell.specs.Run.{Outcome}
use Rattle.uq_shell.proofs.Doing.{saved_entry}

-- files that recover to the same recover to a database of the same
same_store : (stored : Stored) (start files : Files) → RecoversAs start files → RecoversTo stored start → RecoversTo stored files
same_store stored start files alike recovers = record {
  pages = recovers.pages;
  recovers = ap (option_and_then pages_of) alike ∙ recovers.recovers;
  header = recovers.header;
  database = recovers.database;
}

module _ {D : Type 0} (g : Ghosts D) (laws : Laws g) (old mid new : D) where
  -- a call that changes nothing, and then a run that keeps what the files recover to
  pub kept_behind : g.content mid ≡ g.content old → Only (g.may_leave old) (g.may_leave mid)
      → Elapses (g.moment old) (g.moment mid) (g.left_since old) (g.left_since mid) (g.may_leave mid)
      → KeepsRecovered g mid new → KeepsRecovered g old new
  kept_behind same only time keeps = λ start told settled.
      let first : LeavesOnly g old mid (RecoversAs start) = weaker g (After g old Stays) (RecoversAs start) old mid
      (λ files after. ap recovered (after.2 ∙ settled after.0 after.1)) (still_steps g Stays (λ files. refl) laws.only_now old mid same only time).stop in
      let second : LeavesOnly g mid new (RecoversAs start) = keeps start (same ∙ told) (λ left may. settled left (only left may)) in
      goes_on g (RecoversAs start) old mid new first second

  -- a run that keeps it, and then one that changes nothing
  pub kept_still : KeepsRecovered g old mid → IsStill g mid new → KeepsRecovered g old new
  kept_still keeps still = λ start told settled.
      let first : LeavesOnly g old mid (RecoversAs start) = keeps start told settled in
      let second : LeavesOnly g mid new (RecoversAs start) = weaker g (After g mid Stays) (RecoversAs start) mid new
      (λ files after. ap recovered after.2 ∙ at_end g (RecoversAs start) laws.counts_now old mid first after.0 after.1) still.steps.stop in
      goes_on g (RecoversAs start) old mid new first second

  -- a run over what was found, behind the opening
  pub recovers_behind : (entry : Stored) (run : Outcome) (n : ℕ) → Holds g old entry → KeepsRecovered g old mid → Recovers g entry run n mid new → Recovers g entry run n old new
  recovers_behind entry run n holds keeps behind =
      let opened : LeavesOnly g old mid (RecoversAs holds.files) = keeps holds.files holds.told holds.settled in
      record {
        any_moment = goes_on g (FollowedBefore entry run.events n) old mid new
            (weaker g (RecoversAs holds.files) (FollowedBefore entry run.events n) old mid (λ files alike. record {
              stored = entry;
              saved = saved_entry entry (take (n + 1) run.events);
              recovers = same_store entry holds.files files alike holds.recovers;
            }) opened) behind.any_moment;
        at_exit = behind.at_exit;
      }

-- where the opening is refused
pub recovers_refused : {D : Type 0} (g : Ghosts D) (laws : Laws g) (old new : D) (entry : Stored) (run : Outcome) → Holds g old entry → KeepsRecovered g old new → Recovers g entry run 0 old new
recovers_refused g laws old new entry run holds keeps =
    let opened : LeavesOnly g old new (RecoversAs holds.files) = keeps holds.files holds.told holds.settled in
    record {
      any_moment = weaker g (RecoversAs holds.files) (FollowedBefore entry run.events 0) old new (λ files alike. record {
        stored = entry;
        saved = saved_entry entry (take (0 + 1) run.events);
        recovers = same_store entry holds.files files alike holds.recovers;
      }) opened;
      at_exit = λ files left. record {
        stored = entry;
        acknowledged = Last refl;
        recovers = same_store entry holds.files files (at_end g (RecoversAs holds.files) laws.counts_now old new opened files left) holds.recovers;
      };
    }

-- where nothing is pending and the journal is one closed gate, the files stay as they are, and behind calls that change nothing too
pub files_still : {D : Type 0} (g : Ghosts D) (laws : Laws g) (old mid new : D) → KeepsFilesAtGate g old mid → IsStill g mid new → KeepsFilesAtGate g old new
files_still g laws old mid new keeps still = λ start told gate settled.
    let first : LeavesOnly g old mid (λ files. files ≡ start) = keeps start told gate settled in
    let second : LeavesOnly g mid new (λ files. files ≡ start) = weaker g (After g mid Stays) (λ files. files ≡ start) mid new
    (λ files after. after.2 ∙ at_end g (λ files. files ≡ start) laws.counts_now old mid first after.0 after.1) still.steps.stop in
    goes_on g (λ files. files ≡ start) old mid new first second

-- A call that changes nothing, as an attach.
module _ {D : Type 0} (g : Ghosts D) (laws : Laws g) (old mid : D) (same : g.content mid ≡ g.content old) (only : Only (g.may_leave old) (g.may_leave mid))
    (time : Elapses (g.moment old) (g.moment mid) (g.left_since old) (g.left_since mid) (g.may_leave mid)) where
  stays : LeavesOnly g old mid (After g old Stays)
  stays = (still_steps g Stays (λ files. refl) laws.only_now old mid same only time).stop

  pub kept_here : KeepsRecovered g old mid
  kept_here = λ start told settled. weaker g (After g old Stays) (RecoversAs start) old mid (λ files after. ap recovered (after.2 ∙ settled after.0 after.1)) stays

  pub files_here : KeepsFilesAtGate g old mid
  files_here = λ start told gate settled. weaker g (After g old Stays) (λ files. files ≡ start) old mid (λ files after. after.2 ∙ settled after.0 after.1) stays

  -- and behind it calls that change nothing where the journal is one closed gate
  pub files_behind : (new : D) → ForSome (g.content mid) (λ start. start.journal ≡ 0 ∷ [] → Steps g Stays mid new) → KeepsFilesAtGate g old new
  files_behind new keeps = λ start told gate settled.
      let first : LeavesOnly g old mid (λ files. files ≡ start) = files_here start told gate settled in
      let second : LeavesOnly g mid new (λ files. files ≡ start) = weaker g (After g mid Stays) (λ files. files ≡ start) mid new
      (λ files after. after.2 ∙ at_end g (λ files. files ≡ start) laws.counts_now old mid first after.0 after.1) (keeps start (same ∙ told) gate).stop in
      goes_on g (λ files. files ≡ start) old mid new first second

module _ {D : Type 0} (g : Ghosts D) (laws : Laws g) where
  -- no call at all
  pub kept_none : (disk : D) → KeepsRecovered g disk disk
  kept_none disk = λ start told settled. started g (RecoversAs start) laws.only_now disk (λ files may. ap recovered (settled files may))

  pub files_none : (disk : D) → KeepsFilesAtGate g disk disk
  files_none disk = λ start told gate settled. started g (λ files. files ≡ start) laws.only_now disk settled

  -- a run that keeps what the files recover to, and then one that does so whatever is told
  pub kept_alike : (old mid new : D) → KeepsRecovered g old mid → LeavesAlike g mid new → KeepsRecovered g old new
  kept_alike old mid new keeps alike = λ start told settled.
      let first : LeavesOnly g old mid (RecoversAs start) = keeps start told settled in
      let second : LeavesOnly g mid new (RecoversAs start) = weaker g (After g mid RecoversAs) (RecoversAs start) mid new
      (λ files after. after.2 ∙ at_end g (RecoversAs start) laws.counts_now old mid first after.0 after.1) alike in
      goes_on g (RecoversAs start) old mid new first second
