use Rattle.std.proofs.Common.{sym, subst}
use Rattle.uq_kv.specs.Cursor.{place_of}
use Rattle.uq_shell.specs.Moves.{FoundBy, Moves}
use Rattle.uq_shell.specs.declared.cursor.Move.{Move}
use Rattle.uq_shell.proofs.cursor.step.Goals as goal

pub returns-in-First : goal.returns-in-First
returns-in-First g c =
    subst (λ (it : Move). Moves g.D.Disk (FoundBy it (place_of c.args.cursor.now)) c.args.kv.now c.cursor_first.new.self (place_of c.cursor_first.new.c) c.cursor_first.result) (sym c.in-First.is) (record {
      goes = c.cursor_first.ensures.goes;
      reads = c.cursor_first.ensures.reads;
      stop = c.cursor_first.ensures.stop;
      keeps = c.cursor_first.ensures.keeps;
      cause = c.cursor_first.ensures.cause;
    })

pub returns-in-Last : goal.returns-in-Last
returns-in-Last g c =
    subst (λ (it : Move). Moves g.D.Disk (FoundBy it (place_of c.args.cursor.now)) c.args.kv.now c.cursor_last.new.self (place_of c.cursor_last.new.c) c.cursor_last.result) (sym c.in-Last.is) (record {
      goes = c.cursor_last.ensures.goes;
      reads = c.cursor_last.ensures.reads;
      stop = c.cursor_last.ensures.stop;
      keeps = c.cursor_last.ensures.keeps;
      cause = c.cursor_last.ensures.cause;
    })

pub returns-in-Next : goal.returns-in-Next
returns-in-Next g c =
    subst (λ (it : Move). Moves g.D.Disk (FoundBy it (place_of c.args.cursor.now)) c.args.kv.now c.cursor_next.new.self (place_of c.cursor_next.new.c) c.cursor_next.result) (sym c.in-Next.is) (record {
      goes = c.cursor_next.ensures.goes;
      reads = c.cursor_next.ensures.reads;
      stop = c.cursor_next.ensures.stop;
      keeps = c.cursor_next.ensures.keeps;
      cause = c.cursor_next.ensures.cause;
    })

pub returns-in-Prev : goal.returns-in-Prev
returns-in-Prev g c =
    subst (λ (it : Move). Moves g.D.Disk (FoundBy it (place_of c.args.cursor.now)) c.args.kv.now c.cursor_prev.new.self (place_of c.cursor_prev.new.c) c.cursor_prev.result) (sym c.in-Prev.is) (record {
      goes = c.cursor_prev.ensures.goes;
      reads = c.cursor_prev.ensures.reads;
      stop = c.cursor_prev.ensures.stop;
      keeps = c.cursor_prev.ensures.keeps;
      cause = c.cursor_prev.ensures.cause;
    })
