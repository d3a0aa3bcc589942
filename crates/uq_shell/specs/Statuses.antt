-- The statuses: a table of their numbers, of the texts that end a run, and of what may stand before them.
use Rattle.std.specs.Prelude.{ℕ, Bool, true, false, List, [], codes}
use Rattle.uq_shell.specs.declared.status.Status.{Status}
use Rattle.uq_shell.specs.declared.status.Status.TheVariants.{Done, Refused, Usage, Memory, Disk, Stream, NotDatabase, TooMuchInput}

pub record Row : Type 0 where
  -- the exit status of the program
  pub number : ℕ
  -- the text that ends a run, where there is one
  pub text : List ℕ
  -- the run was not cut short
  pub is_whole : Bool
  -- a reply may stand before it
  pub follows_replies : Bool
  -- it comes behind the opening of a database, and closes no store
  pub is_answered : Bool

abbrev pub usage_line : List ℕ
usage_line = codes "usage: unqlite [--budget N] [--max-entries N] [--max-bytes N] DB [COMMAND [WORD ...]]"

-- The line of `Stream` is that of the source. Where the sink failed, nothing more is written.
abbrev pub row : Status → Row
row Done = record { number = 0; text = []; is_whole = true; follows_replies = true; is_answered = true }
row Refused = record { number = 1; text = []; is_whole = true; follows_replies = true; is_answered = true }
row Usage = record { number = 2; text = usage_line; is_whole = true; follows_replies = false; is_answered = false }
row Memory = record { number = 3; text = codes "out of memory"; is_whole = false; follows_replies = true; is_answered = false }
row Disk = record { number = 4; text = codes "disk failed"; is_whole = false; follows_replies = true; is_answered = false }
row Stream = record { number = 5; text = codes "input failed"; is_whole = false; follows_replies = true; is_answered = true }
row NotDatabase = record { number = 6; text = codes "not a database"; is_whole = false; follows_replies = true; is_answered = false }
row TooMuchInput = record { number = 7; text = codes "too much input"; is_whole = true; follows_replies = true; is_answered = true }

-- how a run ends whose input has ended, with a refusal among its replies or none
abbrev pub status_of : Bool → Status
status_of true = Refused
status_of false = Done

-- a fault of the store ends a run with these
abbrev pub is_of_store : Status → Bool
is_of_store Done = false
is_of_store Refused = false
is_of_store Usage = false
is_of_store Memory = true
is_of_store Disk = true
is_of_store Stream = false
is_of_store NotDatabase = true
is_of_store TooMuchInput = false

-- and these end one before its input ends
abbrev pub is_early : Status → Bool
is_early Done = false
is_early Refused = false
is_early Usage = false
is_early Memory = true
is_early Disk = true
is_early Stream = true
is_early NotDatabase = true
is_early TooMuchInput = true
