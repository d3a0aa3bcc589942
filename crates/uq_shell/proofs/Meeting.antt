-- What a run has written by its end.
use Rattle.std.proofs.Common.{◌≡◌, ℕ, Bool, true, false, List, [], ◌++◌, length, take, Option, inl, inr, refl, sym, ap, subst, ◌∙◌, append-nil}
use Rattle.std.proofs.Math.Seq.{take-length}
use Rattle.std.specs.Prelude.{IsTrue}
use Rattle.uq_outside.specs.declared.sink.Sink.{Ghosts}
use Rattle.uq_outside.specs.Streams.{Grows}
use Rattle.uq_shell.specs.Ends.{Writes}
use Rattle.uq_shell.specs.Events.{output}
use Rattle.uq_shell.specs.Followed.{ending_line, some_line}
use Rattle.uq_shell.specs.Headline.{EndsInLine, Meets, SinkRose}
use Rattle.uq_shell.specs.Line.{last_byte}
use Rattle.uq_shell.specs.Reached.{IsPartOf}
use Rattle.uq_shell.specs.Run.{Outcome}
use Rattle.uq_shell.specs.Statuses.{row, status_of}
use Rattle.uq_shell.specs.declared.status.Status.{Status}
use Rattle.uq_shell.specs.declared.status.Status.TheVariants.{NotDatabase, Stream}
use Rattle.uq_shell.proofs.Lines.{grows_on}

module _ {O : Type 0} (o : Ghosts O) (x0 x z : O) (quiet : o.faults x ≡ o.faults x0) where
  -- a sink that failed now has failed since the start
  pub rose_since : SinkRose o x z → SinkRose o x0 z
  rose_since rose = rw (← quiet) rose

  module _ (run : Outcome) (source_rose : Type 0) (n units : ℕ) (status : Status) (put : Grows (output n run.events) (o.written x0) (o.written x))
      (source : status ≡ Stream → source_rose) (exact : IsTrue (row status).is_whole → (status ≡ run.status) × (n ≡ length run.events) × (units ≡ run.units)) (none : status ≡ NotDatabase → ⊥) where
    -- the line of the status stands behind the events that are done
    meets_line : Writes o (ending_line (output n run.events) status) x z → Meets o run source_rose (record { status = status; done = n; meter = units }) x0 z
    meets_line (inl all) =
        let line : List ℕ = ending_line (output n run.events) status in
        record {
          bytes = output n run.events ++ line;
          grows = grows_on (output n run.events) line (o.written x0) (o.written x) (o.written z) put all;
          followed = record {
            whole = λ _. refl;
            cut = λ _. inr (record { count = length line; prefix = ap (λ (l : List ℕ). output n run.events ++ l) (sym (take-length line)); source = source });
          };
          exact = exact;
          is_database = none;
        }
    meets_line (inr part) =
        let line : List ℕ = ending_line (output n run.events) status in
        record {
          bytes = output n run.events ++ take part.1 line;
          grows = grows_on (output n run.events) (take part.1 line) (o.written x0) (o.written x) (o.written z) put part.2;
          followed = record { whole = λ no. absurd (no (rose_since part.0)); cut = λ _. inr (record { count = part.1; prefix = refl; source = source }) };
          exact = exact;
          is_database = none;
        }

    pub meets_at : (last : Option ℕ) → last_byte (output n run.events) ≡ last → Writes o (some_line last (row status).text) x z
        → Meets o run source_rose (record { status = status; done = n; meter = units }) x0 z
    meets_at last is line = meets_line (subst (λ (it : Option ℕ). Writes o (some_line it (row status).text) x z) (sym is) line)

  -- the same of replies, whatever they mean
  ends_line : (replies : List ℕ) (source_rose : Type 0) (status : Status) → Grows replies (o.written x0) (o.written x) → (status ≡ Stream → source_rose)
      → ((IsTrue (row status).follows_replies → ⊥) → replies ≡ []) → Writes o (ending_line replies status) x z → EndsInLine o source_rose x0 z status
  ends_line replies source_rose status put source none (inl all) =
      let line : List ℕ = ending_line replies status in
      record {
        replies = replies;
        count = length line;
        grows = grows_on replies (take (length line) line) (o.written x0) (o.written x) (o.written z) put (subst (λ (l : List ℕ). Grows l (o.written x) (o.written z)) (sym (take-length line)) all);
        whole = λ _. take-length line;
        no_reply = none;
        source = λ is. inl (source is);
      }
  ends_line replies source_rose status put source none (inr part) =
      let line : List ℕ = ending_line replies status in
      record {
        replies = replies;
        count = part.1;
        grows = grows_on replies (take part.1 line) (o.written x0) (o.written x) (o.written z) put part.2;
        whole = λ no. absurd (no (rose_since part.0));
        no_reply = none;
        source = λ is. inl (source is);
      }

  pub ends_in_line : (replies : List ℕ) (source_rose : Type 0) (status : Status) (last : Option ℕ) → last_byte replies ≡ last → Grows replies (o.written x0) (o.written x)
      → (status ≡ Stream → source_rose) → ((IsTrue (row status).follows_replies → ⊥) → replies ≡ []) → Writes o (some_line last (row status).text) x z → EndsInLine o source_rose x0 z status
  ends_in_line replies source_rose status last is put source none line =
      ends_line replies source_rose status put source none (subst (λ (it : Option ℕ). Writes o (some_line it (row status).text) x z) (sym is) line)

-- ---- the sink failed within an event

module _ {O : Type 0} (o : Ghosts O) (x0 z : O) where
  pub meets_within : (run : Outcome) (source_rose : Type 0) (n units : ℕ) → IsPartOf o run.events n x0 z → Meets o run source_rose (record { status = Stream; done = n; meter = units }) x0 z
  meets_within run source_rose n units part = record {
    bytes = output n run.events ++ take part.count part.event;
    grows = part.written;
    followed = record {
      whole = λ no. absurd (no part.rose);
      cut = λ _. inl (record { stream = refl; event = part.event; under_way = part.under_way; count = part.count; prefix = refl });
    };
    exact = λ whole. cc;
    is_database = λ is. cc;
  }

  pub ends_within : (source_rose : Type 0) (replies : List ℕ) → SinkRose o x0 z → Grows replies (o.written x0) (o.written z) → EndsInLine o source_rose x0 z Stream
  ends_within source_rose replies rose put = record {
    replies = replies;
    count = 0;
    grows = subst (λ (l : List ℕ). Grows l (o.written x0) (o.written z)) (sym (append-nil replies)) put;
    whole = λ no. absurd (no rose);
    no_reply = λ no. absurd (no refl);
    source = λ _. inr refl;
  }

-- ---- all is done

no_line : (written : List ℕ) (is_refusal : Bool) → ending_line written (status_of is_refusal) ≡ []
no_line written true = refl
no_line written false = refl

module _ {O : Type 0} (o : Ghosts O) (x0 z : O) where
  pub meets_whole : (run : Outcome) (source_rose : Type 0) (n units : ℕ) (is_refusal : Bool) → Grows (output n run.events) (o.written x0) (o.written z) → run.status ≡ status_of is_refusal → n ≡ length run.events → units ≡ run.units
      → Meets o run source_rose (record { status = status_of is_refusal; done = n; meter = units }) x0 z
  meets_whole run source_rose n units is_refusal put status all taken =
      let line : output n run.events ≡ output n run.events ++ ending_line (output n run.events) (status_of is_refusal)
      = sym (append-nil (output n run.events)) ∙ ap (λ (l : List ℕ). output n run.events ++ l) (sym (no_line (output n run.events) is_refusal)) in
      record {
        bytes = output n run.events;
        grows = put;
        followed = record {
          whole = λ _. line;
          cut = λ _. inr (record { count = 0; prefix = sym (append-nil (output n run.events)); source = λ is. absurd (not_stream is_refusal is) });
        };
        exact = λ _. (sym status, all, taken);
        is_database = λ is. not_none is_refusal is;
      }
    where
      not_stream : (b : Bool) → status_of b ≡ Stream → ⊥
      not_stream true is = cc
      not_stream false is = cc

      not_none : (b : Bool) → status_of b ≡ NotDatabase → ⊥
      not_none true is = cc
      not_none false is = cc

  pub ends_whole : (source_rose : Type 0) (replies : List ℕ) (is_refusal : Bool) → Grows replies (o.written x0) (o.written z) → EndsInLine o source_rose x0 z (status_of is_refusal)
  ends_whole source_rose replies true put = record {
    replies = replies;
    count = 0;
    grows = subst (λ (l : List ℕ). Grows l (o.written x0) (o.written z)) (sym (append-nil replies)) put;
    whole = λ _. refl;
    no_reply = λ no. absurd (no refl);
    source = λ _. inr refl;
  }
  ends_whole source_rose replies false put = record {
    replies = replies;
    count = 0;
    grows = subst (λ (l : List ℕ). Grows l (o.written x0) (o.written z)) (sym (append-nil replies)) put;
    whole = λ _. refl;
    no_reply = λ no. absurd (no refl);
    source = λ _. inr refl;
  }
