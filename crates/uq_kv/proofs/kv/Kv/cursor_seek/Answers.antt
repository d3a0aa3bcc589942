use Rattle.std.proofs.Common.{◌∷◌, subst}
use Rattle.uq_kv.specs.declared.error.KvFault.TheVariants.{EmptyKey, KeyTooLong, NotFound}
use Rattle.uq_kv.specs.Calls.{stops}
use Rattle.uq_kv.specs.Cursor.{stored_of}
use Rattle.uq_kv.specs.Kv.{Tells}
use Rattle.uq_kv.specs.Lengths.{key_checked}
use Rattle.uq_kv.proofs.Cursors.{answered_back, at_sought, by_seen, causes_on, fails_on, lengths_on, moved_keys, sought_is, sought_session, sought_users}
use Rattle.uq_kv.proofs.kv.Kv.cursor_seek.Goals as goal

pub returns-clause-does : goal.returns-clause-does
returns-clause-does g c = λ s tells answered.
    let was = c.seek_key-found.ensures.does s tells (answered_back c.seek_key-found.result c.go.result (stored_of c.go.new.self) c.go.ensures.to answered) in
    (by_seen c.go.result _ (sought_is c.args.key.now s c.seek_key-found.result c.go.result (stored_of c.go.new.self) c.go.ensures.to was.0), subst (Tells g.D.Disk _) (sought_session c.args.key.now s) was.1)

pub returns-clause-at : goal.returns-clause-at
returns-clause-at g c = at_sought c.args.key.now c.seek_key-found.result c.go.result (stored_of c.go.new.self) c.go.ensures.to c.seek_key-found.ensures.key

pub returns-clause-moved : goal.returns-clause-moved
returns-clause-moved g c = moved_keys (stored_of c.args.c.now) (stored_of c.go.new.self) c.go.result c.go.ensures.moved

pub returns-clause-lengths : goal.returns-clause-lengths
returns-clause-lengths g c = λ unclosed. lengths_on (key_checked c.args.key.now) c.seek_key-found.result c.go.result (stored_of c.go.new.self) c.go.ensures.to (c.seek_key-found.ensures.lengths unclosed)

pub returns-clause-faults : goal.returns-clause-faults
returns-clause-faults g c = fails_on (EmptyKey ∷ KeyTooLong ∷ NotFound ∷ stops) c.seek_key-found.result c.go.result (stored_of c.go.new.self) c.go.ensures.to c.seek_key-found.ensures.faults

pub returns-clause-cause : goal.returns-clause-cause
returns-clause-cause g c = causes_on g.D.Disk c.args.self.now c.seek_key-found.new.self c.seek_key-found.result c.go.result (stored_of c.go.new.self) c.go.ensures.to c.seek_key-found.ensures.cause

pub go-requires : goal.go-requires
go-requires g c = sought_users c.args.key.now c.seek_key-found.result c.seek_key-found.ensures.key
