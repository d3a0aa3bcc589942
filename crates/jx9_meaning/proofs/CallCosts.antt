-- What calls may cost, whether they are of functions, built-in, of the database or of the host.
use Rattle.std.proofs.Common.{◌≡◌, ℕ, ◌<◌, List, [], ◌∷◌, length, Option, Some, None, refl, sym, arith, append-nil}
use Rattle.std.specs.Prelude.{Bool, true, false, if◌then◌else◌, nat_lt, Result, Ok, Err}
use Rattle.std.specs.List.{list_any}
use Rattle.std.specs.Str.{bytes_eq}
use Rattle.uq_value.specs.Data.{Bytes}
use Rattle.uq_value.specs.declared.value.Value.{Value}
use Rattle.uq_model.specs.Session.{Session, opened, committed}
use Rattle.uq_model.specs.Store.{Store}
use Rattle.uq_model.specs.declared.limits.Limits.{Limits}
use Rattle.jx9_syntax.specs.declared.program.Function.{Function}
use Rattle.jx9_syntax.specs.declared.statement.Statement.{Statement}
use Rattle.jx9_meaning.specs.Builtins.{row_named, builtins}
use Rattle.jx9_meaning.specs.Database.{Shelf, shelf_in, DatabaseFunction, Serves, Commits, database, stored, with_session, commit, commits_with, serve}
use Rattle.jx9_meaning.specs.Laws.{SavedUnlessBegun}
use Rattle.jx9_meaning.specs.Meaning.{Spent, HostFailed, Unanswered, Meaning, Outcome, Goes, Ends, Unfinished, after, ◌>>=◌, fault, ok_or, tell, most_events, units_of}
use Rattle.jx9_meaning.specs.Script.{Source, Callee, Written, BuiltIn, OfDatabase, OfHost, Nobody, or_else, as_callee, callee, function_named, lambda_named, answer_of, enters, leaves, most_active, call_written, has_size, charged, result, with_answers, answered, call_host, call_of, call}
use Rattle.jx9_meaning.specs.Statement.{Signal}
use Rattle.jx9_meaning.specs.World.{with_world, State, Commit, Host, Answer, Given, Failed, NoMemory, with_event}
use Rattle.jx9_meaning.specs.declared.fault.FaultKind.{FaultKind}
use Rattle.jx9_meaning.specs.declared.fault.FaultKind.TheVariants.{CallDepth}
use Rattle.jx9_meaning.proofs.Moves.{Moves, moves_then, moves_still, moves_nowhere, moves_less}
use Rattle.jx9_meaning.proofs.Steps.{Kept, Frugal, Owes, frugal_then, owes_then, owes, frugal_pure, frugal_ends, frugal_ok, frugal_take, frugal_fits, owes_tell, made, length_with}

-- ---- what a row of the table must keep

-- what it leaves has the saved store of before, and no other one where nothing is begun
abbrev pub LeavesSaved : Shelf → Result (Value × Shelf) FaultKind → Type 0
LeavesSaved before (Ok done) = (done.1.session.saved ≡ before.session.saved) × (SavedUnlessBegun before.session → SavedUnlessBegun done.1.session)
LeavesSaved before (Err kind) = Unit {0}

pub record KeepsSaved (f : List Value → Limits → Shelf → Result (Value × Shelf) FaultKind) : Type 0 where
  pub by : (vs : List Value) (limits : Limits) (before : Shelf) → LeavesSaved before (f vs limits before)

abbrev pub IsSafe : DatabaseFunction → Type 0
IsSafe (Serves f) = KeepsSaved f
IsSafe Commits = Unit {0}

abbrev AreSafe : List (Bytes × DatabaseFunction) → Type 0
AreSafe [] = Unit {0}
AreSafe (row ∷ rows) = IsSafe row.1 × AreSafe rows

-- one for each row
rows_are_safe : AreSafe database
rows_are_safe = tt

abbrev MaySafely : Callee → Type 0
MaySafely (Written f) = Unit {0}
MaySafely (BuiltIn f) = Unit {0}
MaySafely (OfDatabase f) = IsSafe f
MaySafely (OfHost name) = Unit {0}
MaySafely Nobody = Unit {0}

abbrev MaybeSafely : Option Callee → Type 0
MaybeSafely (Some c) = MaySafely c
MaybeSafely None = Unit {0}

either_safe : (o : Option Callee) (c : Callee) → MaybeSafely o → MaySafely c → MaySafely (or_else o c)
either_safe (Some d) c h g = h
either_safe None c h g = g

as_written : (o : Option Function) → MaybeSafely (as_callee Written o)
as_written (Some f) = tt
as_written None = tt

as_built_in : (o : Option (List Value → Result Value FaultKind)) → MaybeSafely (as_callee BuiltIn o)
as_built_in (Some f) = tt
as_built_in None = tt

one_is_safe : (f : DatabaseFunction) (o : Option DatabaseFunction) (b : Bool) → IsSafe f → MaybeSafely (as_callee OfDatabase o) → MaybeSafely (as_callee OfDatabase (if b then Some f else o))
one_is_safe f o true h g = h
one_is_safe f o false h g = g

row_is_safe : (rows : List (Bytes × DatabaseFunction)) → AreSafe rows → (name : Bytes) → MaybeSafely (as_callee OfDatabase (row_named rows name))
row_is_safe [] h name = tt
row_is_safe (row ∷ rows) h name = one_is_safe row.1 (row_named rows name) (bytes_eq row.0 name) h.0 (row_is_safe rows h.1 name)

host_is_safe : (b : Bool) (name : Bytes) → MaySafely (if b then OfHost name else Nobody)
host_is_safe true name = tt
host_is_safe false name = tt

callee_is_safe : (p : Source) (hosts : List Bytes) (f : Value) → MaySafely (callee p hosts f)
callee_is_safe p hosts Value.Null = tt
callee_is_safe p hosts (Value.Bool b) = tt
callee_is_safe p hosts (Value.Int z) = tt
callee_is_safe p hosts (Value.Text name) =
    either_safe (as_callee Written (function_named p.functions name)) _ (as_written (function_named p.functions name)) (
    either_safe (as_callee Written (lambda_named 1 p.lambdas name)) _ (as_written (lambda_named 1 p.lambdas name)) (
    either_safe (as_callee BuiltIn (row_named builtins name)) (or_else (as_callee OfDatabase (row_named database name)) (if list_any (bytes_eq name) hosts then OfHost name else Nobody)) (as_built_in (row_named builtins name)) (
    either_safe (as_callee OfDatabase (row_named database name)) (if list_any (bytes_eq name) hosts then OfHost name else Nobody) (row_is_safe database rows_are_safe name) (
    host_is_safe (list_any (bytes_eq name) hosts) name))))
callee_is_safe p hosts (Value.List ds) = tt
callee_is_safe p hosts (Value.Object ms) = tt

-- ---- commits

saved_by_commit : (x : Session Store) (b : Bool) → b ≡ true → (if b then opened x.present else x).saved ≡ x.present
saved_by_commit x true e = refl
saved_by_commit x false e = absurd (let f : ⊥ = cc in f)

settled_by_commit : (x : Session Store) (b : Bool) → b ≡ true → SavedUnlessBegun (if b then opened x.present else x)
settled_by_commit x true e = λ _. refl
settled_by_commit x false e = absurd (let f : ⊥ = cc in f)

-- ---- calls

module _ (n : ℕ) where
  frugal_charged : (v : Value) → Frugal n (charged v)
  unfolding charged
  frugal_charged v = frugal_then n _ _ (frugal_take n (if has_size v then units_of v else 0)) (λ _. frugal_pure n v)

  frugal_result : (line : ℕ) (v : Value) → Frugal n (result line v)
  unfolding result
  frugal_result line v = frugal_then n _ _ (frugal_fits n line v) (λ _. frugal_charged v)

  -- ---- host functions

  frugal_answers : (rest : List Answer) → Frugal n (with_answers rest)
  frugal_answers rest = record { by = λ s l. (moves_still 0 s (with_world (record s.world { answers = rest }) s) (omega arith) refl refl refl refl, refl) }

  frugal_answered : (name : Bytes) (answers : List Answer) → Frugal n (answered name answers)
  frugal_answered name [] = frugal_ends n _
  frugal_answered name (Given v ∷ rest) = frugal_then n _ _ (frugal_answers rest) (λ _. frugal_charged v)
  frugal_answered name (Failed ∷ rest) = frugal_then n _ _ (frugal_answers rest) (λ _. frugal_ends n (HostFailed name))
  frugal_answered name (NoMemory ∷ rest) = frugal_then n _ _ (frugal_answers rest) (λ _. frugal_ends n Unanswered)

  owes_host : (name : Bytes) (vs : List Value) → Owes n (call_host name vs)
  unfolding call_host
  owes_host name vs = owes_then n _ _ (owes_tell n (Host name vs) tt) (λ _. record { by = λ s l. (frugal_answered name s.world.answers).by s l })

  -- ---- functions of the database

  owes_commit : Owes n commit
  unfolding tell with_event
  owes_commit = record { by = λ s l. by_begun s s.world.session.begun refl (nat_lt (length s.events) most_events) }
    where
      committing : State → Bool → Bool → Outcome Value
      committing s begun room =
          if begun then after (made (Commit s.world.session.present) s room) (λ _. with_session (committed s.world.session))
          else (if room then Goes (Value.Bool true) s else Ends Spent s)

      by_begun : (s : State) (begun : Bool) → s.world.session.begun ≡ begun → (room : Bool) → Kept 0 1 s (committing s begun room)
      by_begun s true e true = (
        record {
          units = omega arith;
          less = omega (arith, length_with s (Commit s.world.session.present));
          limits = refl;
          hosts = refl;
          more = Commit s.world.session.present ∷ [];
          told = refl;
          saved = saved_by_commit s.world.session s.world.session.begun e;
          settled = λ _. settled_by_commit s.world.session s.world.session.begun e;
        },
        refl,
      )
      by_begun s true e false = moves_less 0 0 0 1 s s (omega arith) (omega arith) (moves_nowhere s)
      by_begun s false e true = (moves_less 0 0 0 1 s s (omega arith) (omega arith) (moves_nowhere s), refl)
      by_begun s false e false = moves_less 0 0 0 1 s s (omega arith) (omega arith) (moves_nowhere s)

  owes_commits : (line : ℕ) (vs : List Value) → Owes n (commits_with line vs)
  owes_commits line [] = owes_commit
  owes_commits line (v ∷ vs) = owes n _ (frugal_ends n _)

  owes_serve : (line : ℕ) (f : DatabaseFunction) (vs : List Value) → IsSafe f → Owes n (serve line f vs)
  unfolding serve
  owes_serve line (Serves f) vs h = owes n _ (record {
    by = λ s l. served s (f vs s.world.limits (shelf_in s.world)) (h.by vs s.world.limits (shelf_in s.world));
  })
    where
      served : (s : State) (r : Result (Value × Shelf) FaultKind) → LeavesSaved (shelf_in s.world) r → Kept 0 0 s ((ok_or line r >>= stored) s)
      served s (Ok done) kept = (
        record {
          units = omega arith;
          less = omega arith;
          limits = refl;
          hosts = refl;
          more = [];
          told = sym (append-nil s.events);
          saved = kept.0;
          settled = kept.1;
        },
        refl,
      )
      served s (Err kind) kept = moves_nowhere s
  owes_serve line Commits vs h = owes_commits line vs

module _ (n : ℕ) (run : Statement → Meaning Signal) (fr : (t : Statement) → Frugal n (run t)) where
  frugal_written : (line : ℕ) (f : Function) (vs : List Value) → Frugal n (call_written run line f vs)
  unfolding call_written enters leaves
  frugal_written line f vs = record { by = λ s l. by_depth s l (nat_lt s.world.active most_active) }
    where
      entered : State → Outcome Value
      entered s = after (run f.body (enters f vs s)) (λ signal t. Goes (answer_of signal) (leaves s t))

      through_call : (s t u : State) → Moves 0 0 (enters f vs s) t → Moves 0 0 t u → Moves 0 0 s u
      through_call s t u x y =
          moves_then 0 0 0 0 0 0 s (enters f vs s) u (omega arith) (omega arith) (moves_still 0 s (enters f vs s) (omega arith) refl refl refl refl)
          (moves_then 0 0 0 0 0 0 (enters f vs s) t u (omega arith) (omega arith) x y)

      left : (s : State) (r : Outcome Signal) → Kept 0 0 (enters f vs s) r → Kept 0 0 s (after r (λ signal t. Goes (answer_of signal) (leaves s t)))
      left s (Goes signal t) x = (through_call s t (leaves s t) x.0 (moves_still 0 t (leaves s t) (omega arith) refl refl refl refl), omega (arith, x.1))
      left s (Ends e t) x = through_call s t t x (moves_nowhere t)
      left s Unfinished x = x

      by_depth : (s : State) → s.world.units < n → (b : Bool) → Kept 0 0 s (if b then entered s else fault line CallDepth s)
      by_depth s l true = left s (run f.body (enters f vs s)) ((fr f.body).by (enters f vs s) l)
      by_depth s l false = moves_nowhere s

  owes_call_of : (line : ℕ) (c : Callee) (vs : List Value) → MaySafely c → Owes n (call_of run line c vs)
  owes_call_of line (Written f) vs h = owes n _ (frugal_written line f vs)
  owes_call_of line (BuiltIn f) vs h = owes n _ (frugal_then n _ _ (frugal_ok n line (f vs)) (λ v. frugal_result n line v))
  owes_call_of line (OfDatabase f) vs h = owes_then n _ _ (owes_serve n line f vs h) (λ v. frugal_result n line v)
  owes_call_of line (OfHost name) vs h = owes_host n name vs
  owes_call_of line Nobody vs h = owes n _ (frugal_ends n _)

  pub owes_call : (p : Source) (line : ℕ) (f : Value) (vs : List Value) → Owes n (call p run line f vs)
  unfolding call
  owes_call p line f vs = record { by = λ s l. (owes_call_of line (callee p s.world.hosts f) vs (callee_is_safe p s.world.hosts f)).by s l }
