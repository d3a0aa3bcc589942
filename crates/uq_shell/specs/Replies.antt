-- Replies: their texts, and what a fault of the store is to a run.
use Rattle.std.specs.Prelude.{ℕ, Bool, true, false, List, Result, Ok, Err, codes}
use Rattle.uq_model.specs.declared.cause.Cause.{Cause}
use Rattle.uq_model.specs.declared.cause.Cause.TheVariants as cause
use Rattle.uq_kv.specs.declared.error.KvFault.{KvFault}
use Rattle.uq_kv.specs.declared.error.KvFault.TheVariants as kv
use Rattle.uq_kv.specs.declared.error.OpenFault.{OpenFault}
use Rattle.uq_kv.specs.declared.error.OpenFault.TheVariants as opening
use Rattle.uq_words.specs.declared.error.OptionsFault.{OptionsFault}
use Rattle.uq_words.specs.declared.error.OptionsFault.TheVariants as options
use Rattle.uq_words.specs.declared.error.InputFault.{InputFault}
use Rattle.uq_words.specs.declared.error.InputFault.TheVariants as input
use Rattle.uq_shell.specs.declared.reply.Refusal.{Refusal}
use Rattle.uq_shell.specs.declared.reply.Refusal.TheVariants.{LineTooLong, BadCommand, UnknownCommand, UnfinishedScript, ScriptTooLong}
use Rattle.uq_shell.specs.declared.reply.Refusal.TheVariants.{EmptyKey, KeyTooLong, ValueTooLong, Full, NotFound, NoEntry}
use Rattle.uq_shell.specs.declared.reply.Reply.{Reply}
use Rattle.uq_shell.specs.declared.reply.Reply.TheVariants as reply
use Rattle.uq_shell.specs.declared.answering.Answer.{Answer}
use Rattle.uq_shell.specs.declared.progress.Stop.{Stop}
use Rattle.uq_shell.specs.declared.progress.Stop.TheVariants.{At}
use Rattle.uq_shell.specs.declared.status.Status.{Status}
use Rattle.uq_shell.specs.declared.status.Status.TheVariants as status

abbrev pub refusal_text : Refusal → List ℕ
refusal_text LineTooLong = codes "line too long"
refusal_text BadCommand = codes "bad command"
refusal_text UnknownCommand = codes "unknown command"
refusal_text EmptyKey = codes "empty key"
refusal_text KeyTooLong = codes "key too long"
refusal_text ValueTooLong = codes "value too long"
refusal_text Full = codes "full"
refusal_text NotFound = codes "not found"
refusal_text NoEntry = codes "no entry"
refusal_text UnfinishedScript = codes "unfinished script"
refusal_text ScriptTooLong = codes "script too long"

-- how a run ends by a cause
abbrev pub status_by : Cause → Status
status_by cause.Disk = status.Disk
status_by cause.Corrupt = status.NotDatabase
status_by cause.Memory = status.Memory

-- and by a fault at opening
abbrev pub status_at_opening : OpenFault → Status
status_at_opening opening.Disk = status.Disk
status_at_opening opening.NotDatabase = status.NotDatabase
status_at_opening opening.Memory = status.Memory

-- and by words that ask for nothing
abbrev pub status_of_words : OptionsFault → Status
status_of_words options.Usage = status.Usage
status_of_words options.Memory = status.Memory

-- what ends it, by a fault of the input
abbrev pub stop_by_input : InputFault → Stop
stop_by_input input.Source = At status.Stream
stop_by_input input.Memory = At status.Memory

-- what a fault of the store is to a run: a refusal, which is replied, or the end
abbrev pub taken_as : KvFault → Result Refusal Status
taken_as kv.EmptyKey = Ok EmptyKey
taken_as kv.KeyTooLong = Ok KeyTooLong
taken_as kv.ValueTooLong = Ok ValueTooLong
taken_as kv.Full = Ok Full
taken_as kv.NotFound = Ok NotFound
taken_as kv.NoEntry = Ok NoEntry
taken_as kv.Disk = Err status.Disk
taken_as kv.Corrupt = Err status.NotDatabase
taken_as (kv.Closed first) = Err (status_by first)
taken_as kv.Memory = Err status.Memory

-- what a command says: whether a commit stands before its reply, the text of that, and whether it is a refusal
pub record Said : Type 0 where
  pub commits : Bool
  pub text : List ℕ
  pub is_refusal : Bool

abbrev pub says : List ℕ → Said
says text = record { commits = false; text = text; is_refusal = false }

abbrev pub refuses : Refusal → Said
refuses refusal = record { commits = false; text = refusal_text refusal; is_refusal = true }

abbrev pub says_ok : Said
says_ok = says (codes "ok")

-- ---- replies of the code, as what they say

abbrev pub text_of : Reply → List ℕ
text_of reply.Ok = codes "ok"
text_of (reply.Data text) = text.items
text_of reply.Yes = codes "yes"
text_of reply.No = codes "no"
text_of (reply.Failed text) = text.items
text_of (reply.Refused refusal) = refusal_text refusal

abbrev pub is_refused : Reply → Bool
is_refused reply.Ok = false
is_refused (reply.Data text) = false
is_refused reply.Yes = false
is_refused reply.No = false
is_refused (reply.Failed text) = true
is_refused (reply.Refused refusal) = true

abbrev pub said_in : Answer → Said
said_in answer = record { commits = answer.commits; text = text_of answer.reply; is_refusal = is_refused answer.reply }
