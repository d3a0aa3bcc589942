use Rattle.std.proofs.Common.{true, false, Ok, refl, sym, subst, ap, ◌∙◌}
use Rattle.std.specs.Option.{option_map}
use Rattle.std.specs.Prelude.{IfOk}
use Rattle.uq_json.specs.Quote.{quoted}
use Rattle.uq_outside.specs.Since.{Laws}
use Rattle.uq_kv.specs.Calls.{appends, deletes, fetches, stores}
use Rattle.uq_kv.specs.Cursor.{data_at, deletes_at, is_valid, key_at, key_of, place_of}
use Rattle.uq_kv.specs.Kv.{Tells, limits_of}
use Rattle.uq_kv.specs.Stored.{stored_key}
use Rattle.uq_kv.specs.declared.space.Space.TheVariants.{Keys}
use Rattle.uq_shell.specs.Answers.{DoesAsAsked, Leaves, request_of}
use Rattle.uq_shell.specs.Commands.{appends_key, deletes_key, drops_entry, fetches_key, says_truth, stores_key, tells_data, tells_key, tells_valid}
use Rattle.uq_shell.specs.Failures.{fails_as}
use Rattle.uq_shell.specs.Moves.{place_by}
use Rattle.uq_shell.specs.Replies.{said_in, says, says_ok}
use Rattle.uq_shell.specs.declared.command.Command.{Command}
use Rattle.uq_shell.specs.declared.command.Command.TheVariants as command
use Rattle.uq_shell.proofs.Alike.{alike_same, alike_still, still_same}
use Rattle.uq_shell.proofs.Stepping.{beside_does, leaves, leaves_here, leaves_unrun, none_refused, step_does, step_goes, step_seeks, stop_commit, stop_saved}
use Rattle.uq_shell.proofs.answering.answer_command.Goals as goal

pub returns-in-Store-clause-does : goal.returns-in-Store-clause-does
returns-in-Store-clause-does g c =
    subst (λ (it : Command). IfOk c.done.result (DoesAsAsked g.D.Disk (request_of it) c.args.kv.now c.store.new.self (place_of c.args.cursor.now) (place_of c.args.cursor.now))) (sym c.in-Store.is)
    (beside_does g.D.Disk c.args.kv.now c.store.new.self (stores_key c.in-Store.key.now c.in-Store.value.now) true (place_of c.args.cursor.now) (place_of c.args.cursor.now) c.done.result refl
    (step_does g.D.Disk c.args.kv.now c.store.new.self (λ done. done) (λ _. says_ok) (stores (limits_of g.D.Disk c.args.kv.now) Keys c.in-Store.key.now c.in-Store.value.now) c.store.result c.done.result c.done.ensures c.store.ensures.does))

pub returns-in-Store-clause-leaves : goal.returns-in-Store-clause-leaves
returns-in-Store-clause-leaves g c =
    subst (λ (it : Command). Leaves g.D.Disk (request_of it) c.args.kv.now c.store.new.self (place_of c.args.cursor.now) c.done.result) (sym c.in-Store.is)
    (leaves g.D.Disk c.args.kv.now c.store.new.self (request_of (command.Store c.in-Store.key c.in-Store.value)) (place_of c.args.cursor.now) _ c.store.result c.done.result c.done.ensures
    c.requires c.store.ensures.keeps c.store.ensures.cause
    (stop_saved g.D.Disk c.args.kv.now c.store.new.self (request_of (command.Store c.in-Store.key c.in-Store.value)) (place_of c.args.cursor.now) c.store.ensures.stop)
    (λ reads. absurd (cc)) (λ reads. absurd (cc)) (λ _. c.store.ensures.kept.stop))

pub returns-in-Append-clause-does : goal.returns-in-Append-clause-does
returns-in-Append-clause-does g c =
    subst (λ (it : Command). IfOk c.done-in-Append.result (DoesAsAsked g.D.Disk (request_of it) c.args.kv.now c.append.new.self (place_of c.args.cursor.now) (place_of c.args.cursor.now))) (sym c.in-Append.is)
    (beside_does g.D.Disk c.args.kv.now c.append.new.self (appends_key c.in-Append.key.now c.in-Append.more.now) true (place_of c.args.cursor.now) (place_of c.args.cursor.now) c.done-in-Append.result refl
    (step_does g.D.Disk c.args.kv.now c.append.new.self (λ done. done) (λ _. says_ok) (appends (limits_of g.D.Disk c.args.kv.now) Keys c.in-Append.key.now c.in-Append.more.now) c.append.result c.done-in-Append.result c.done-in-Append.ensures c.append.ensures.does))

pub returns-in-Append-clause-leaves : goal.returns-in-Append-clause-leaves
returns-in-Append-clause-leaves g c =
    subst (λ (it : Command). Leaves g.D.Disk (request_of it) c.args.kv.now c.append.new.self (place_of c.args.cursor.now) c.done-in-Append.result) (sym c.in-Append.is)
    (leaves g.D.Disk c.args.kv.now c.append.new.self (request_of (command.Append c.in-Append.key c.in-Append.more)) (place_of c.args.cursor.now) _ c.append.result c.done-in-Append.result c.done-in-Append.ensures
    c.requires c.append.ensures.keeps c.append.ensures.cause
    (stop_saved g.D.Disk c.args.kv.now c.append.new.self (request_of (command.Append c.in-Append.key c.in-Append.more)) (place_of c.args.cursor.now) c.append.ensures.stop)
    (λ reads. absurd (cc)) (λ reads. absurd (cc)) (λ _. c.append.ensures.kept.stop))

pub returns-in-Delete-clause-does : goal.returns-in-Delete-clause-does
returns-in-Delete-clause-does g c =
    subst (λ (it : Command). IfOk c.done-in-Delete.result (DoesAsAsked g.D.Disk (request_of it) c.args.kv.now c.delete.new.self (place_of c.args.cursor.now) (place_of c.args.cursor.now))) (sym c.in-Delete.is)
    (beside_does g.D.Disk c.args.kv.now c.delete.new.self (deletes_key c.in-Delete.key.now) true (place_of c.args.cursor.now) (place_of c.args.cursor.now) c.done-in-Delete.result refl
    (step_does g.D.Disk c.args.kv.now c.delete.new.self (λ done. done) (λ _. says_ok) (deletes Keys c.in-Delete.key.now) c.delete.result c.done-in-Delete.result c.done-in-Delete.ensures c.delete.ensures.does))

pub returns-in-Delete-clause-leaves : goal.returns-in-Delete-clause-leaves
returns-in-Delete-clause-leaves g c =
    subst (λ (it : Command). Leaves g.D.Disk (request_of it) c.args.kv.now c.delete.new.self (place_of c.args.cursor.now) c.done-in-Delete.result) (sym c.in-Delete.is)
    (leaves g.D.Disk c.args.kv.now c.delete.new.self (request_of (command.Delete c.in-Delete.key)) (place_of c.args.cursor.now) _ c.delete.result c.done-in-Delete.result c.done-in-Delete.ensures
    c.requires c.delete.ensures.keeps c.delete.ensures.cause
    (stop_saved g.D.Disk c.args.kv.now c.delete.new.self (request_of (command.Delete c.in-Delete.key)) (place_of c.args.cursor.now) c.delete.ensures.stop)
    (λ reads. absurd (cc)) (λ reads. absurd (cc)) (λ _. c.delete.ensures.kept.stop))

pub returns-in-Fetch-clause-does : goal.returns-in-Fetch-clause-does
returns-in-Fetch-clause-does g c =
    subst (λ (it : Command). IfOk c.found.result (DoesAsAsked g.D.Disk (request_of it) c.args.kv.now c.fetch.new.self (place_of c.args.cursor.now) (place_of c.args.cursor.now))) (sym c.in-Fetch.is)
    (beside_does g.D.Disk c.args.kv.now c.fetch.new.self (fetches_key c.in-Fetch.key.now) false (place_of c.args.cursor.now) (place_of c.args.cursor.now) c.found.result refl
    (step_does g.D.Disk c.args.kv.now c.fetch.new.self (λ value. value.items) (λ found. says (quoted found)) (fetches Keys c.in-Fetch.key.now) c.fetch.result c.found.result c.found.ensures c.fetch.ensures.does))

pub returns-in-Fetch-clause-leaves : goal.returns-in-Fetch-clause-leaves
returns-in-Fetch-clause-leaves g c =
    subst (λ (it : Command). Leaves g.D.Disk (request_of it) c.args.kv.now c.fetch.new.self (place_of c.args.cursor.now) c.found.result) (sym c.in-Fetch.is)
    (leaves g.D.Disk c.args.kv.now c.fetch.new.self (request_of (command.Fetch c.in-Fetch.key)) (place_of c.args.cursor.now) _ c.fetch.result c.found.result c.found.ensures
    c.requires c.fetch.ensures.keeps c.fetch.ensures.cause
    (stop_saved g.D.Disk c.args.kv.now c.fetch.new.self (request_of (command.Fetch c.in-Fetch.key)) (place_of c.args.cursor.now) c.fetch.ensures.stop)
    (λ _. c.fetch.ensures.reads.still) (λ _ none. c.fetch.ensures.reads.begun ∙ none) (λ _. alike_still g.D.Disk _ _ c.fetch.ensures.reads.still))

pub returns-in-Begin-clause-leaves : goal.returns-in-Begin-clause-leaves
returns-in-Begin-clause-leaves g c =
    let laws : Laws g.D.Disk = record { only_now = g.met.D.Disk.only_now; counts_now = g.met.D.Disk.counts_now } in
    subst (λ (it : Command). Leaves g.D.Disk (request_of it) c.args.kv.now c.begin.new.self (place_of c.args.cursor.now) c.done-in-Begin.result) (sym c.in-Begin.is)
    (leaves g.D.Disk c.args.kv.now c.begin.new.self (request_of command.Begin) (place_of c.args.cursor.now) _ c.begin.result c.done-in-Begin.result c.done-in-Begin.ensures
    c.requires c.begin.ensures.keeps c.begin.ensures.cause
    (stop_saved g.D.Disk c.args.kv.now c.begin.new.self (request_of command.Begin) (place_of c.args.cursor.now) c.begin.ensures.stop)
    (λ reads. absurd (cc)) (λ reads. absurd (cc)) (λ _. alike_same g.D.Disk laws _ _ c.begin.ensures.disk))

pub returns-in-Commit-clause-leaves : goal.returns-in-Commit-clause-leaves
returns-in-Commit-clause-leaves g c =
    let laws : Laws g.D.Disk = record { only_now = g.met.D.Disk.only_now; counts_now = g.met.D.Disk.counts_now } in
    subst (λ (it : Command). Leaves g.D.Disk (request_of it) c.args.kv.now c.commit.new.self (place_of c.args.cursor.now) c.committed.result) (sym c.in-Commit.is)
    (leaves g.D.Disk c.args.kv.now c.commit.new.self (request_of command.Commit) (place_of c.args.cursor.now) _ c.commit.result c.committed.result c.committed.ensures
    c.requires c.commit.ensures.keeps c.commit.ensures.cause
    (stop_commit g.D.Disk c.args.kv.now c.commit.new.self (place_of c.args.cursor.now) c.commit.ensures.stop)
    (λ reads. absurd (cc)) (λ reads. absurd (cc)) (λ none. alike_same g.D.Disk laws _ _ (c.commit.ensures.idle none)))

pub returns-in-Rollback-clause-leaves : goal.returns-in-Rollback-clause-leaves
returns-in-Rollback-clause-leaves g c =
    let laws : Laws g.D.Disk = record { only_now = g.met.D.Disk.only_now; counts_now = g.met.D.Disk.counts_now } in
    subst (λ (it : Command). Leaves g.D.Disk (request_of it) c.args.kv.now c.rollback.new.self (place_of c.args.cursor.now) c.done-in-Rollback.result) (sym c.in-Rollback.is)
    (leaves g.D.Disk c.args.kv.now c.rollback.new.self (request_of command.Rollback) (place_of c.args.cursor.now) _ c.rollback.result c.done-in-Rollback.result c.done-in-Rollback.ensures
    c.requires c.rollback.ensures.keeps c.rollback.ensures.cause
    (stop_saved g.D.Disk c.args.kv.now c.rollback.new.self (request_of command.Rollback) (place_of c.args.cursor.now) c.rollback.ensures.stop)
    (λ _. still_same g.D.Disk laws _ _ c.rollback.ensures.disk)
    (λ _ none. none_refused g.D.Disk c.args.kv.now c.rollback.new.self c.rollback.result c.rollback.ensures.faults c.requires c.rollback.ensures.cause c.rollback.ensures.begun)
    (λ _. alike_same g.D.Disk laws _ _ c.rollback.ensures.disk))

pub returns-in-Seek-clause-does : goal.returns-in-Seek-clause-does
returns-in-Seek-clause-does g c =
    subst (λ (it : Command). IfOk c.sought.result (DoesAsAsked g.D.Disk (request_of it) c.args.kv.now c.cursor_seek.new.self (place_of c.args.cursor.now) (place_of c.cursor_seek.new.c))) (sym c.in-Seek.is)
    (step_seeks g.D.Disk c.args.kv.now c.cursor_seek.new.self c.in-Seek.key.now (key_of c.args.cursor.now) (key_of c.cursor_seek.new.c) c.cursor_seek.result c.sought.result c.sought.ensures
    c.cursor_seek.ensures.does c.cursor_seek.ensures.at c.cursor_seek.ensures.moved (place_of c.args.cursor.now))

pub returns-in-Seek-clause-leaves : goal.returns-in-Seek-clause-leaves
returns-in-Seek-clause-leaves g c =
    subst (λ (it : Command). Leaves g.D.Disk (request_of it) c.args.kv.now c.cursor_seek.new.self (place_of c.args.cursor.now) c.sought.result) (sym c.in-Seek.is)
    (leaves g.D.Disk c.args.kv.now c.cursor_seek.new.self (request_of (command.Seek c.in-Seek.key)) (place_of c.args.cursor.now) _ c.cursor_seek.result c.sought.result c.sought.ensures
    c.requires c.cursor_seek.ensures.keeps c.cursor_seek.ensures.cause
    (stop_saved g.D.Disk c.args.kv.now c.cursor_seek.new.self (request_of (command.Seek c.in-Seek.key)) (place_of c.args.cursor.now) c.cursor_seek.ensures.stop)
    (λ _. c.cursor_seek.ensures.reads.still) (λ _ none. c.cursor_seek.ensures.reads.begun ∙ none) (λ _. alike_still g.D.Disk _ _ c.cursor_seek.ensures.reads.still))

pub returns-in-Go-clause-does : goal.returns-in-Go-clause-does
returns-in-Go-clause-does g c =
    subst (λ (it : Command). IfOk c.found-in-Go.result (DoesAsAsked g.D.Disk (request_of it) c.args.kv.now c.go.new.kv (place_of c.args.cursor.now) (place_of c.go.new.cursor))) (sym c.in-Go.is)
    (step_goes g.D.Disk c.args.kv.now c.go.new.kv (place_by c.in-Go.to) (place_of c.args.cursor.now) (place_of c.go.new.cursor) c.go.result c.found-in-Go.result c.found-in-Go.ensures c.go.ensures)

pub returns-in-Go-clause-leaves : goal.returns-in-Go-clause-leaves
returns-in-Go-clause-leaves g c =
    subst (λ (it : Command). Leaves g.D.Disk (request_of it) c.args.kv.now c.go.new.kv (place_of c.args.cursor.now) c.found-in-Go.result) (sym c.in-Go.is)
    (leaves g.D.Disk c.args.kv.now c.go.new.kv (request_of (command.Go c.in-Go.to)) (place_of c.args.cursor.now) _ c.go.result c.found-in-Go.result c.found-in-Go.ensures
    c.requires c.go.ensures.keeps c.go.ensures.cause
    (stop_saved g.D.Disk c.args.kv.now c.go.new.kv (request_of (command.Go c.in-Go.to)) (place_of c.args.cursor.now) c.go.ensures.stop)
    (λ _. c.go.ensures.reads.still) (λ _ none. c.go.ensures.reads.begun ∙ none) (λ _. alike_still g.D.Disk _ _ c.go.ensures.reads.still))

pub returns-in-Key-clause-does : goal.returns-in-Key-clause-does
returns-in-Key-clause-does g c =
    subst (λ (it : Command). IfOk c.found-in-Key.result (DoesAsAsked g.D.Disk (request_of it) c.args.kv.now c.cursor_key.new.self (place_of c.args.cursor.now) (place_of c.args.cursor.now))) (sym c.in-Key.is)
    (beside_does g.D.Disk c.args.kv.now c.cursor_key.new.self (λ _. tells_key (place_of c.args.cursor.now)) false (place_of c.args.cursor.now) (place_of c.args.cursor.now) c.found-in-Key.result refl
    (step_does g.D.Disk c.args.kv.now c.cursor_key.new.self (λ value. value.items) (λ found. says (quoted found)) (key_at (place_of c.args.cursor.now)) c.cursor_key.result c.found-in-Key.result c.found-in-Key.ensures c.cursor_key.ensures.does))

pub returns-in-Key-clause-leaves : goal.returns-in-Key-clause-leaves
returns-in-Key-clause-leaves g c =
    subst (λ (it : Command). Leaves g.D.Disk (request_of it) c.args.kv.now c.cursor_key.new.self (place_of c.args.cursor.now) c.found-in-Key.result) (sym c.in-Key.is)
    (leaves g.D.Disk c.args.kv.now c.cursor_key.new.self (request_of command.Key) (place_of c.args.cursor.now) _ c.cursor_key.result c.found-in-Key.result c.found-in-Key.ensures
    c.requires c.cursor_key.ensures.keeps c.cursor_key.ensures.cause
    (stop_saved g.D.Disk c.args.kv.now c.cursor_key.new.self (request_of command.Key) (place_of c.args.cursor.now) c.cursor_key.ensures.stop)
    (λ _. c.cursor_key.ensures.reads.still) (λ _ none. c.cursor_key.ensures.reads.begun ∙ none) (λ _. alike_still g.D.Disk _ _ c.cursor_key.ensures.reads.still))

pub returns-in-Data-clause-does : goal.returns-in-Data-clause-does
returns-in-Data-clause-does g c =
    subst (λ (it : Command). IfOk c.found-in-Data.result (DoesAsAsked g.D.Disk (request_of it) c.args.kv.now c.cursor_data.new.self (place_of c.args.cursor.now) (place_of c.args.cursor.now))) (sym c.in-Data.is)
    (beside_does g.D.Disk c.args.kv.now c.cursor_data.new.self (λ _. tells_data (place_of c.args.cursor.now)) false (place_of c.args.cursor.now) (place_of c.args.cursor.now) c.found-in-Data.result refl
    (step_does g.D.Disk c.args.kv.now c.cursor_data.new.self (λ value. value.items) (λ found. says (quoted found)) (data_at (place_of c.args.cursor.now)) c.cursor_data.result c.found-in-Data.result c.found-in-Data.ensures c.cursor_data.ensures.does))

pub returns-in-Data-clause-leaves : goal.returns-in-Data-clause-leaves
returns-in-Data-clause-leaves g c =
    subst (λ (it : Command). Leaves g.D.Disk (request_of it) c.args.kv.now c.cursor_data.new.self (place_of c.args.cursor.now) c.found-in-Data.result) (sym c.in-Data.is)
    (leaves g.D.Disk c.args.kv.now c.cursor_data.new.self (request_of command.Data) (place_of c.args.cursor.now) _ c.cursor_data.result c.found-in-Data.result c.found-in-Data.ensures
    c.requires c.cursor_data.ensures.keeps c.cursor_data.ensures.cause
    (stop_saved g.D.Disk c.args.kv.now c.cursor_data.new.self (request_of command.Data) (place_of c.args.cursor.now) c.cursor_data.ensures.stop)
    (λ _. c.cursor_data.ensures.reads.still) (λ _ none. c.cursor_data.ensures.reads.begun ∙ none) (λ _. alike_still g.D.Disk _ _ c.cursor_data.ensures.reads.still))

pub returns-in-Drop-clause-does : goal.returns-in-Drop-clause-does
returns-in-Drop-clause-does g c =
    subst (λ (it : Command). IfOk c.done-in-Drop.result (DoesAsAsked g.D.Disk (request_of it) c.args.kv.now c.cursor_delete.new.self (place_of c.args.cursor.now) (place_of c.args.cursor.now))) (sym c.in-Drop.is)
    (beside_does g.D.Disk c.args.kv.now c.cursor_delete.new.self (λ _. drops_entry (place_of c.args.cursor.now)) true (place_of c.args.cursor.now) (place_of c.args.cursor.now) c.done-in-Drop.result refl
    (step_does g.D.Disk c.args.kv.now c.cursor_delete.new.self (λ done. done) (λ _. says_ok) (deletes_at (place_of c.args.cursor.now)) c.cursor_delete.result c.done-in-Drop.result c.done-in-Drop.ensures c.cursor_delete.ensures.does))

pub returns-in-Drop-clause-leaves : goal.returns-in-Drop-clause-leaves
returns-in-Drop-clause-leaves g c =
    subst (λ (it : Command). Leaves g.D.Disk (request_of it) c.args.kv.now c.cursor_delete.new.self (place_of c.args.cursor.now) c.done-in-Drop.result) (sym c.in-Drop.is)
    (leaves g.D.Disk c.args.kv.now c.cursor_delete.new.self (request_of command.Drop) (place_of c.args.cursor.now) _ c.cursor_delete.result c.done-in-Drop.result c.done-in-Drop.ensures
    c.requires c.cursor_delete.ensures.keeps c.cursor_delete.ensures.cause
    (stop_saved g.D.Disk c.args.kv.now c.cursor_delete.new.self (request_of command.Drop) (place_of c.args.cursor.now) c.cursor_delete.ensures.stop)
    (λ reads. absurd (cc)) (λ reads. absurd (cc)) (λ _. c.cursor_delete.ensures.kept.stop))

pub returns-in-Valid-clause-does : goal.returns-in-Valid-clause-does
returns-in-Valid-clause-does g c =
    subst (λ (it : Command). IfOk c.told.result (DoesAsAsked g.D.Disk (request_of it) c.args.kv.now c.cursor_valid.new.self (place_of c.args.cursor.now) (place_of c.args.cursor.now))) (sym c.in-Valid.is)
    (beside_does g.D.Disk c.args.kv.now c.cursor_valid.new.self (λ _. tells_valid (place_of c.args.cursor.now)) false (place_of c.args.cursor.now) (place_of c.args.cursor.now) c.told.result refl
    (step_does g.D.Disk c.args.kv.now c.cursor_valid.new.self (λ there. there) says_truth (is_valid (place_of c.args.cursor.now)) c.cursor_valid.result c.told.result c.told.ensures c.cursor_valid.ensures.does))

pub returns-in-Valid-clause-leaves : goal.returns-in-Valid-clause-leaves
returns-in-Valid-clause-leaves g c =
    subst (λ (it : Command). Leaves g.D.Disk (request_of it) c.args.kv.now c.cursor_valid.new.self (place_of c.args.cursor.now) c.told.result) (sym c.in-Valid.is)
    (leaves g.D.Disk c.args.kv.now c.cursor_valid.new.self (request_of command.Valid) (place_of c.args.cursor.now) _ c.cursor_valid.result c.told.result c.told.ensures
    c.requires c.cursor_valid.ensures.keeps c.cursor_valid.ensures.cause
    (stop_saved g.D.Disk c.args.kv.now c.cursor_valid.new.self (request_of command.Valid) (place_of c.args.cursor.now) c.cursor_valid.ensures.stop)
    (λ _. c.cursor_valid.ensures.reads.still) (λ _ none. c.cursor_valid.ensures.reads.begun ∙ none) (λ _. alike_still g.D.Disk _ _ c.cursor_valid.ensures.reads.still))

pub returns-in-Reset-clause-does : goal.returns-in-Reset-clause-does
returns-in-Reset-clause-does g c =
    subst (λ (it : Command). DoesAsAsked g.D.Disk (request_of it) c.args.kv.now c.cursor_reset.new.self (place_of c.args.cursor.now) (place_of c.cursor_reset.new.c) c.replying.result) (sym c.in-Reset.is)
    (λ s tells. (ap said_in c.replying.ensures, subst (λ it. Tells g.D.Disk it s) (sym c.cursor_reset.ensures.same) tells, ap (option_map (stored_key Keys)) c.cursor_reset.ensures.unset))

pub returns-in-Reset-clause-leaves : goal.returns-in-Reset-clause-leaves
returns-in-Reset-clause-leaves g c =
    let laws : Laws g.D.Disk = record { only_now = g.met.D.Disk.only_now; counts_now = g.met.D.Disk.counts_now } in
    subst (λ (it : Command). Leaves g.D.Disk (request_of it) c.args.kv.now c.cursor_reset.new.self (place_of c.args.cursor.now) (Ok c.replying.result)) (sym c.in-Reset.is)
    (subst (λ it. Leaves g.D.Disk (request_of command.Reset) c.args.kv.now it (place_of c.args.cursor.now) (Ok c.replying.result)) (sym c.cursor_reset.ensures.same)
    (leaves_here g.D.Disk laws c.args.kv.now (request_of command.Reset) (place_of c.args.cursor.now) c.replying.result))

pub returns-in-Refused-clause-leaves : goal.returns-in-Refused-clause-leaves
returns-in-Refused-clause-leaves g c =
    let laws : Laws g.D.Disk = record { only_now = g.met.D.Disk.only_now; counts_now = g.met.D.Disk.counts_now } in
    subst (λ (it : Command). Leaves g.D.Disk (request_of it) c.args.kv.now c.args.kv.now (place_of c.args.cursor.now) (Ok c.replying-in-Refused.result)) (sym c.in-Refused.is)
    (leaves_here g.D.Disk laws c.args.kv.now (request_of (command.Refused c.in-Refused.refusal)) (place_of c.args.cursor.now) c.replying-in-Refused.result)

pub returns-then-aborts-clause-leaves : goal.returns-then-aborts-clause-leaves
returns-then-aborts-clause-leaves g c =
    let laws : Laws g.D.Disk = record { only_now = g.met.D.Disk.only_now; counts_now = g.met.D.Disk.counts_now } in
    let asked = request_of (command.Failed c.in-Failed.failure) in
    subst (λ (it : Command). Leaves g.D.Disk (request_of it) c.args.kv.now c.rollback-then-aborts.new.self (place_of c.args.cursor.now) c.failed.result) (sym c.in-Failed.is)
    (leaves g.D.Disk c.args.kv.now c.rollback-then-aborts.new.self asked (place_of c.args.cursor.now) (λ _. fails_as c.in-Failed.failure) c.rollback-then-aborts.result c.failed.result c.failed.ensures
    c.requires c.rollback-then-aborts.ensures.keeps c.rollback-then-aborts.ensures.cause
    (stop_saved g.D.Disk c.args.kv.now c.rollback-then-aborts.new.self asked (place_of c.args.cursor.now) c.rollback-then-aborts.ensures.stop)
    (λ _. still_same g.D.Disk laws _ _ c.rollback-then-aborts.ensures.disk)
    (λ _ none. none_refused g.D.Disk c.args.kv.now c.rollback-then-aborts.new.self c.rollback-then-aborts.result c.rollback-then-aborts.ensures.faults c.requires c.rollback-then-aborts.ensures.cause c.rollback-then-aborts.ensures.begun)
    (λ _. alike_same g.D.Disk laws _ _ c.rollback-then-aborts.ensures.disk))

pub returns-else-aborts-clause-leaves : goal.returns-else-aborts-clause-leaves
returns-else-aborts-clause-leaves g c =
    let laws : Laws g.D.Disk = record { only_now = g.met.D.Disk.only_now; counts_now = g.met.D.Disk.counts_now } in
    subst (λ (it : Command). Leaves g.D.Disk (request_of it) c.args.kv.now c.args.kv.now (place_of c.args.cursor.now) c.failed-else-aborts.result) (sym c.in-Failed.is)
    (leaves_unrun g.D.Disk laws c.args.kv.now (request_of (command.Failed c.in-Failed.failure)) (place_of c.args.cursor.now) (fails_as c.in-Failed.failure) c.failed-else-aborts.result c.failed-else-aborts.ensures)
