use Rattle.std.proofs.Common.{◌++◌, ◌∷◌, [], ℕ, List, take, sym, subst}
use Rattle.std.proofs.lemmas.Result.{err_from_is_err_and}
use Rattle.uq_outside.specs.Streams.{Grows, PutAppends}
use Rattle.uq_shell.specs.Line.{line_after}
use Rattle.uq_shell.proofs.Lines.{grows_on, grows_part, grows_within, puts_on}
use Rattle.uq_shell.proofs.output.put_pieces.Goals as goal

-- src/output.rt:51:5
pub returns-in_err-put-clause-bytes : goal.returns-in_err-put-clause-bytes
returns-in_err-put-clause-bytes g c =
    let failed = err_from_is_err_and c.from_residual.result c.from_residual.ensures.1 in
    let x = g.O.Sink.written c.args.out.now in
    let z = g.O.Sink.written c.put.new.self in
    let feed = c.feed_behind.result.now in
    let text = c.args.text.now in
    subst (λ r. PutAppends x z r (line_after c.args.last text)) (sym failed.1)
    (subst (λ (l : List ℕ). (n : ℕ) × Grows (take n (l ++ text ++ 10 ∷ [])) x z) c.feed_behind.ensures
    (grows_within (feed ++ text) (10 ∷ []) x z (grows_within feed text x z c.in_err-put.ensures.bytes)))

-- src/output.rt:52:5
pub returns-in_err-put-2-clause-bytes : goal.returns-in_err-put-2-clause-bytes
returns-in_err-put-2-clause-bytes g c =
    let failed = err_from_is_err_and c.from_residual-in_err-put-2.result c.from_residual-in_err-put-2.ensures.1 in
    let x = g.O.Sink.written c.args.out.now in
    let y = g.O.Sink.written c.put.new.self in
    let z = g.O.Sink.written c.put-2.new.self in
    let feed = c.feed_behind.result.now in
    let text = c.args.text.now in
    subst (λ r. PutAppends x z r (line_after c.args.last text)) (sym failed.1)
    (subst (λ (l : List ℕ). (n : ℕ) × Grows (take n (l ++ text ++ 10 ∷ [])) x z) c.feed_behind.ensures
    (grows_within (feed ++ text) (10 ∷ []) x z (grows_part feed text x y z c.in_ok-put.ensures.bytes c.in_err-put-2.ensures.bytes)))

-- src/output.rt:47:1
pub returns-clause-bytes : goal.returns-clause-bytes
returns-clause-bytes g c =
    let x = g.O.Sink.written c.args.out.now in
    let y = g.O.Sink.written c.put.new.self in
    let t = g.O.Sink.written c.put-2.new.self in
    let z = g.O.Sink.written c.put-3.new.self in
    let feed = c.feed_behind.result.now in
    let text = c.args.text.now in
    subst (λ (l : List ℕ). PutAppends x z c.put-3.result (l ++ text ++ 10 ∷ [])) c.feed_behind.ensures
    (puts_on (feed ++ text) (10 ∷ []) x t z c.put-3.result
    (grows_on feed text x y t c.in_ok-put.ensures.bytes c.in_ok-put-2.ensures.bytes) c.put-3.ensures.bytes)
