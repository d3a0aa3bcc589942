use Rattle.std.proofs.Common.{◌≡◌, ◌≤◌, ◌+◌, ◌*◌, ℕ, List, Some, None}
use Rattle.uq_model.specs.Session.{opened}
use Rattle.uq_kv.specs.Cursor.{place_of}
use Rattle.uq_kv.specs.Kv.{Tells, closed_of, disk_of, limits_of}
use Rattle.uq_kv.specs.Stored.{Stored}
use Rattle.uq_words.specs.Taking.{Going, left_of, most_of}
use Rattle.uq_shell.specs.Obeys.{most_at_once}
use Rattle.uq_shell.specs.Reached.{IsTold, Stands}
use Rattle.uq_shell.specs.Verdicts.{IsRight, Judge}
use Rattle.uq_shell.proofs.Inputs.{Passed}
use Rattle.uq_shell.proofs.listening.listen.Given as goal

abbrev pub decreases-lines : goal.decreases-lines
decreases-lines g l = most_of l.lines

-- Each line or block takes one byte at least, and has so many events and units at most. Those behind have led to where the run stands.
abbrev pub invariant-lines : goal.invariant-lines
invariant-lines g l = record {
  few : l.progress.done + most_at_once * most_of l.lines ≤ most_at_once * l.most;
  few_units : l.progress.meter + most_at_once * most_of l.lines ≤ most_at_once * l.most;
  unclosed : closed_of g.D.Disk l.kv ≡ None;
  same_reference : (disk_of g.D.Disk l.kv).ghost_name ≡ (disk_of g.D.Disk l.fn.kv).ghost_name;
  limits : limits_of g.D.Disk l.kv ≡ limits_of g.D.Disk l.fn.kv;
  stands : Stands g.D.Disk g.O.Sink l.progress (disk_of g.D.Disk l.fn.kv).now l.kv l.fn.out l.out;
  tells : IsTold g.D.Disk g.O.Sink l.fn.kv → IsTold g.D.Disk g.O.Sink l.kv;
  going : Going g.I.Source l.initial.lines l.fn.input l.lines l.input;
  left : (bytes : List ℕ) → g.I.Source.left l.fn.input ≡ Some bytes → (rest : List ℕ) × (left_of g.I.Source l.lines l.input ≡ Some rest);
  told : (judge : Judge) → IsRight judge → (entry : Stored) (bytes : List ℕ) → Tells g.D.Disk l.fn.kv (opened entry) → g.I.Source.left l.fn.input ≡ Some bytes
      → Passed g.D.Disk g.I.Source g.O.Sink judge l.terms entry l.most bytes l.progress (place_of l.cursor) (disk_of g.D.Disk l.fn.kv).now l.kv l.fn.out l.out l.lines l.input;
}
