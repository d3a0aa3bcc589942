-- What ends a run before its input ends.
use Rattle.std.proofs.Common.{◌≡◌, true, Result, Ok, Err, refl, subst}
use Rattle.std.specs.Prelude.{IfErr, IsTrue}
use Rattle.uq_words.specs.declared.error.InputFault.{InputFault}
use Rattle.uq_words.specs.declared.error.InputFault.TheVariants as input
use Rattle.uq_shell.specs.Reached.{is_of_command, is_of_run}
use Rattle.uq_shell.specs.Replies.{stop_by_input}
use Rattle.uq_shell.specs.Statuses.{is_early, is_of_store}
use Rattle.uq_shell.specs.declared.progress.Stop.{Stop}
use Rattle.uq_shell.specs.declared.progress.Stop.TheVariants.{At, Sink}
use Rattle.uq_shell.specs.declared.status.Status.{Status}
use Rattle.uq_shell.specs.declared.status.Status.TheVariants.{Done, Refused, Usage, Memory, Disk, Stream, NotDatabase, TooMuchInput}

pub store_early : (status : Status) → IsTrue (is_of_store status) → IsTrue (is_early status)
store_early Done of_store = absurd (cc)
store_early Refused of_store = absurd (cc)
store_early Usage of_store = absurd (cc)
store_early Memory of_store = refl
store_early Disk of_store = refl
store_early Stream of_store = absurd (cc)
store_early NotDatabase of_store = refl
store_early TooMuchInput of_store = absurd (cc)

pub command_run : (stop : Stop) → IsTrue (is_of_command stop) → IsTrue (is_of_run stop)
command_run (At status) of_command = store_early status of_command
command_run Sink of_command = refl

pub no_stream : (stop : Stop) → IsTrue (is_of_command stop) → stop ≡ At Stream → ⊥
no_stream stop of_command is = let never : IsTrue (is_of_command (At Stream)) = subst (λ (s : Stop). IsTrue (is_of_command s)) is of_command in cc

pub no_more_input : (stop : Stop) → IsTrue (is_of_command stop) → stop ≡ At TooMuchInput → ⊥
no_more_input stop of_command is = let never : IsTrue (is_of_command (At TooMuchInput)) = subst (λ (s : Stop). IsTrue (is_of_command s)) is of_command in cc

pub within_run : (result : Result (Unit {0}) Stop) → IfErr result (λ stop. IsTrue (is_of_command stop)) → IfErr result (λ stop. IsTrue (is_of_run stop))
within_run (Ok done) within = tt
within_run (Err stop) within = command_run stop within

-- a command stops a run for its own causes alone
pub never : (result : Result (Unit {0}) Stop) (stop : Stop) → IfErr result (λ stop. IsTrue (is_of_command stop)) → result ≡ Err stop → is_of_command stop ≡ true
never (Ok done) stop within is = absurd (cc)
never (Err other) stop within is = let same : other ≡ stop = cc in subst (λ (s : Stop). is_of_command s ≡ true) same within

-- ---- a fault of the input

-- the status with which it ends a run
abbrev pub status_by : InputFault → Status
status_by input.Source = Stream
status_by input.Memory = Memory

pub stop_is : (fault : InputFault) → stop_by_input fault ≡ At (status_by fault)
stop_is input.Source = refl
stop_is input.Memory = refl

pub input_early : (fault : InputFault) → IsTrue (is_early (status_by fault))
input_early input.Source = refl
input_early input.Memory = refl

pub input_disk : (fault : InputFault) → status_by fault ≡ Disk → ⊥
input_disk input.Source is = cc
input_disk input.Memory is = cc

pub input_none : (fault : InputFault) → status_by fault ≡ NotDatabase → ⊥
input_none input.Source is = cc
input_none input.Memory is = cc

pub input_much : (fault : InputFault) → status_by fault ≡ TooMuchInput → ⊥
input_much input.Source is = cc
input_much input.Memory is = cc
