-- A command behind others, over every disk and sink.
use Rattle.std.proofs.Common.{◌≡◌, ◌≤◌, ℕ, ◌+◌, List, ◌++◌, Some, sym, ◌∙◌, arith}
use Rattle.std.specs.Prelude.{false}
use Rattle.uq_facts.specs.Causes.{Rose}
use Rattle.uq_outside.specs.declared.disk.Disk as disk
use Rattle.uq_outside.specs.declared.sink.Sink as sink
use Rattle.uq_outside.specs.Since.{After, Laws}
use Rattle.uq_outside.specs.SinceLaws.{at_end, goes_on, weaker}
use Rattle.uq_outside.specs.Streams.{Grows}
use Rattle.uq_journal.specs.Calls.{RecoversAs}
use Rattle.uq_kv.specs.Kv.{disk_of, is_begun_of}
use Rattle.uq_kv.specs.declared.kv.Kv.{Kv}
use Rattle.uq_shell.specs.Answers.{LeavesAlike}
use Rattle.uq_shell.specs.Headline.{SinkRose}
use Rattle.uq_shell.specs.Line.{line_after}
use Rattle.uq_shell.specs.Reached.{Stands, Stops}
use Rattle.uq_shell.specs.declared.progress.Progress.{Progress}
use Rattle.uq_shell.specs.declared.progress.Stop.TheVariants.{At, Sink}
use Rattle.uq_shell.specs.declared.status.Status.{Status}
use Rattle.uq_shell.specs.declared.status.Status.TheVariants.{Disk}
use Rattle.uq_shell.proofs.Lines.{grows_on, line_ends}

-- the count rose earlier too
pub rose_later : (old mid new : ℕ) → old ≤ mid → Rose mid new → Rose old new
rose_later old mid new later rose = omega (arith, later, rose)

-- what stops leave recovers as before, and then as before again
pub alike_on : {D : Type 0} (g : disk.Ghosts D) (laws : Laws g) (old mid new : D) → LeavesAlike g old mid → LeavesAlike g mid new → LeavesAlike g old new
alike_on g laws old mid new first second =
    goes_on g (After g old RecoversAs) old mid new first
    (weaker g (After g mid RecoversAs) (After g old RecoversAs) mid new (λ files after.
    let was = at_end g (After g old RecoversAs) laws.counts_now old mid first after.0 after.1 in
    (was.0, was.1, after.2 ∙ was.2)) second)

module _ {D O : Type 0} (g : disk.Ghosts D) (o : sink.Ghosts O) (was : Progress) (disk_first : D) (old new : Kv D g) (x0 x : O)
    (stands : Stands g o was disk_first old x0 x) (later : g.faults (disk_of g old).now ≤ g.faults (disk_of g new).now) where
  -- the reply is put out
  pub stands_on : (text : List ℕ) (now : Progress) (z : O) → 1 ≤ now.done → now.last ≡ Some 0x0a → Grows (line_after was.last text) (o.written x) (o.written z) → o.faults z ≡ o.faults x → Stands g o now disk_first new x0 z
  stands_on text now z some last written quiet =
      let before = stands.later in
      record {
        later = omega arith;
        quiet = quiet ∙ stands.quiet;
        replies = stands.replies ++ line_after was.last text;
        written = grows_on stands.replies (line_after was.last text) (o.written x0) (o.written x) (o.written z) stands.written written;
        ends = line_ends stands.replies was.last text ∙ sym last;
        idle = λ none. absurd (omega (arith, some, none));
        kept = λ none. absurd (omega (arith, some, none));
      }

  -- the store failed, and nothing was put out
  pub stops_by_store : Laws g → (status : Status) → (status ≡ Disk → Rose (g.faults (disk_of g old).now) (g.faults (disk_of g new).now))
      → (is_begun_of g old ≡ false → LeavesAlike g (disk_of g old).now (disk_of g new).now)
      → Stops g o (At status) was disk_first (disk_of g new).now x0 x
  stops_by_store laws status rose kept =
      let before = stands.later in
      let quiet = stands.quiet in
      record {
        later = omega arith;
        sink_later = omega arith;
        replies = stands.replies;
        written = stands.written;
        quiet = λ _ _. stands.quiet;
        ends = λ _ _. stands.ends;
        rose = λ is. absurd (cc);
        disk = λ is. rose_later _ _ _ before (rose (cc));
        kept = λ nothing. alike_on g laws disk_first (disk_of g old).now (disk_of g new).now (stands.kept nothing) (kept (stands.idle nothing));
      }

  -- the sink failed within the reply
  pub stops_by_sink : Laws g → (bytes : List ℕ) (now : Progress) (z : O) → was.done ≤ now.done → Grows bytes (o.written x) (o.written z) → SinkRose o x z → o.faults x ≤ o.faults z
      → (is_begun_of g old ≡ false → LeavesAlike g (disk_of g old).now (disk_of g new).now) → Stops g o Sink now disk_first (disk_of g new).now x0 z
  stops_by_sink laws bytes now z more written rose sink_later kept =
      let before = stands.later in
      let quiet = stands.quiet in
      record {
        later = omega arith;
        sink_later = omega arith;
        replies = stands.replies ++ bytes;
        written = grows_on stands.replies bytes (o.written x0) (o.written x) (o.written z) stands.written written;
        quiet = λ _ is. absurd (cc);
        ends = λ _ is. absurd (cc);
        rose = λ _. rw (← quiet) rose;
        disk = λ is. absurd (cc);
        kept = λ nothing.
            let none : was.done ≡ 0 = omega (arith, more, nothing) in
            alike_on g laws disk_first (disk_of g old).now (disk_of g new).now (stands.kept none) (kept (stands.idle none));
      }

-- no further, where neither the disk nor its content is the cause
pub stands_cut : {D O : Type 0} (g : disk.Ghosts D) (o : sink.Ghosts O) (at : Progress) (disk_first : D) (kv : Kv D g) (x0 x : O) (status : Status)
    → Stands g o at disk_first kv x0 x → (status ≡ Disk → ⊥) → Stops g o (At status) at disk_first (disk_of g kv).now x0 x
stands_cut g o at disk_first kv x0 x status stands other =
    let quiet = stands.quiet in
    record {
      later = stands.later;
      sink_later = omega arith;
      replies = stands.replies;
      written = stands.written;
      quiet = λ _ _. stands.quiet;
      ends = λ _ _. stands.ends;
      rose = λ is. absurd (cc);
      disk = λ is. absurd (other (cc));
      kept = stands.kept;
    }
