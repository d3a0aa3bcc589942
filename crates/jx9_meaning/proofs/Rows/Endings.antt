-- Scripts with host functions, commits, and what an ending leaves.
use Rattle.std.proofs.Common.{refl, ap}
use Rattle.std.specs.Prelude.{ℕ, nat_lt, true, if◌then◌else◌}
use Rattle.uq_value.specs.declared.value.Value.{Value}
use Rattle.uq_model.specs.Session.{opened}
use Rattle.jx9_meaning.specs.Compute.{trees, values, meaning}
use Rattle.jx9_meaning.specs.Meaning.{Outcome, Goes, Ends, Spent, most_events, put_or}
use Rattle.jx9_meaning.specs.Rows.Endings.{EndingRows, having}
use Rattle.jx9_meaning.specs.World.{State, Event}
use Rattle.jx9_meaning.proofs.Steps.{made}

-- what comes of an event, and of a commit of nothing, with so many events before it
abbrev event_after : Event → State → ℕ → Outcome (Unit {0})
event_after e s count = made e s (nat_lt count most_events)

abbrev commit_after : State → ℕ → Outcome Value
commit_after s count = if nat_lt count most_events then Goes (Value.Bool true) s else Ends Spent s

pub ending_rows : EndingRows
unfolding trees values meaning
ending_rows = record {
  two_answers = refl;
  long_answer = refl;
  host_failed = refl;
  no_answer = refl;
  no_memory = refl;
  not_in_the_table = refl;
  fault_rolls_back = λ saved present. refl;
  spent_rolls_back = λ saved present. refl;
  failure_rolls_back = λ saved present. refl;
  unanswered_leaves_it = λ saved present. refl;
  done_leaves_it = λ saved present. refl;
  commit_is_an_event = λ saved present. refl;
  commit_of_nothing = λ store. refl;
  commit_takes_nothing = λ saved present. refl;
  last_event = λ s e is. ap (event_after e s) is;
  one_more = λ s e is. ap (event_after e s) is;
  join_too_large = λ old v s is. ap (λ r. put_or 7 r s) is;
  too_large = λ v s is. ap (λ r. put_or 7 r s) is;
  no_commit_at_the_end = λ store events is. ap (commit_after (having (opened store) events)) is;
}
