use Rattle.std.proofs.Common.{◌∷◌}
use Rattle.uq_kv.specs.declared.error.KvFault.TheVariants.{NoEntry}
use Rattle.uq_kv.specs.Calls.{stops}
use Rattle.uq_kv.specs.Cursor.{stored_of}
use Rattle.uq_kv.specs.Users.{FirstOf}
use Rattle.uq_kv.proofs.Cursors.{answered_back, causes_on, fails_on, goes_by, goes_to, moved_keys}
use Rattle.uq_kv.proofs.kv.Kv.cursor_first.Goals as goal

pub returns-clause-goes : goal.returns-clause-goes
returns-clause-goes g c = λ s tells answered.
    let found = c.first_entry-found.ensures.finds s tells (answered_back c.first_entry-found.result c.go.result (stored_of c.go.new.self) c.go.ensures.to answered) in
    let at = goes_to c.first_entry-found.result c.go.result (stored_of c.args.c.now) (stored_of c.go.new.self) found.1.0 c.go.ensures.to c.go.ensures.moved found.1.2 in
    let ends = goes_by (FirstOf s.present) c.go.result found.1.0 c.go.new.self found.1.1 at in (found.0, ends.0, ends.1)

pub returns-clause-moved : goal.returns-clause-moved
returns-clause-moved g c = moved_keys (stored_of c.args.c.now) (stored_of c.go.new.self) c.go.result c.go.ensures.moved

pub returns-clause-faults : goal.returns-clause-faults
returns-clause-faults g c = fails_on (NoEntry ∷ stops) c.first_entry-found.result c.go.result (stored_of c.go.new.self) c.go.ensures.to c.first_entry-found.ensures.faults

pub returns-clause-cause : goal.returns-clause-cause
returns-clause-cause g c = causes_on g.D.Disk c.args.self.now c.first_entry-found.new.self c.first_entry-found.result c.go.result (stored_of c.go.new.self) c.go.ensures.to c.first_entry-found.ensures.cause
