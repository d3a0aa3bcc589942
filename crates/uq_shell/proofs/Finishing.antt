-- The end of a run that was cut short.
use Rattle.std.proofs.Common.{◌≡◌, ◌⊎◌, ◌≤◌, length, inl, inr, refl, sym, ap, subst, ◌∙◌, arith}
use Rattle.std.specs.Prelude.{IsTrue}
use Rattle.uq_facts.specs.Causes.{Rose}
use Rattle.uq_outside.specs.declared.disk.Disk as disk
use Rattle.uq_outside.specs.declared.sink.Sink as sink
use Rattle.uq_kv.specs.Holds.{Holds}
use Rattle.uq_kv.specs.Kv.{disk_of}
use Rattle.uq_kv.specs.KvLaws.{holds_saved}
use Rattle.uq_kv.specs.Stored.{Stored}
use Rattle.uq_kv.specs.declared.kv.Kv.{Kv}
use Rattle.uq_shell.specs.Ends.{Ends, EndsAnywhere, Writes}
use Rattle.uq_shell.specs.Followed.{IsCutBehind, IsCutWithin, some_line}
use Rattle.uq_shell.specs.Headline.{IsComplete}
use Rattle.uq_shell.specs.Reached.{CutShort, Stops}
use Rattle.uq_shell.specs.Run.{Outcome}
use Rattle.uq_shell.specs.Statuses.{is_early, row}
use Rattle.uq_shell.specs.declared.ended.Ended.{Ended}
use Rattle.uq_shell.specs.declared.progress.Progress.{Progress}
use Rattle.uq_shell.specs.declared.progress.Stop.TheVariants.{At, Sink}
use Rattle.uq_shell.specs.declared.status.Status.{Status}
use Rattle.uq_shell.specs.declared.status.Status.TheVariants.{Done, Refused, Usage, Memory, Disk, Stream, NotDatabase, TooMuchInput}
use Rattle.uq_shell.proofs.Meeting.{ends_in_line, ends_within, meets_at, meets_within}

-- ---- statuses that end a run before its input ends

pub early_whole : (status : Status) → IsTrue (is_early status) → IsTrue (row status).is_whole → status ≡ TooMuchInput
early_whole Done early whole = absurd (cc)
early_whole Refused early whole = absurd (cc)
early_whole Usage early whole = absurd (cc)
early_whole Memory early whole = absurd (cc)
early_whole Disk early whole = absurd (cc)
early_whole Stream early whole = absurd (cc)
early_whole NotDatabase early whole = absurd (cc)
early_whole TooMuchInput early whole = refl

pub early_usage : (status : Status) → IsTrue (is_early status) → status ≡ Usage → ⊥
early_usage Usage early is = absurd (cc)
early_usage Done early is = cc
early_usage Refused early is = cc
early_usage Memory early is = cc
early_usage Disk early is = cc
early_usage Stream early is = cc
early_usage NotDatabase early is = cc
early_usage TooMuchInput early is = cc

pub early_follows : (status : Status) → IsTrue (is_early status) → IsTrue (row status).follows_replies
early_follows Done early = refl
early_follows Refused early = refl
early_follows Usage early = absurd (cc)
early_follows Memory early = refl
early_follows Disk early = refl
early_follows Stream early = refl
early_follows NotDatabase early = refl
early_follows TooMuchInput early = refl

complete_by : (run : Outcome) (status : Status) → IsTrue (is_early status) → (status ≡ Disk → ⊥) → (status ≡ Stream → ⊥) → (status ≡ NotDatabase → ⊥) → (status ≡ TooMuchInput → status ≡ run.status)
    → IsComplete run status
complete_by run Done early disk stream none much = absurd (cc)
complete_by run Refused early disk stream none much = absurd (cc)
complete_by run Usage early disk stream none much = absurd (cc)
complete_by run Memory early disk stream none much = inr refl
complete_by run Disk early disk stream none much = absurd (disk refl)
complete_by run Stream early disk stream none much = absurd (stream refl)
complete_by run NotDatabase early disk stream none much = absurd (none refl)
complete_by run TooMuchInput early disk stream none much = inl (much refl)

-- ---- over a store that tells its session

module _ {D O : Type 0} (g : disk.Ghosts D) (o : sink.Ghosts O) (entry : Stored) (run : Outcome) (source_rose : Type 0) (at : Progress) (disk_first : D) (kv : Kv D g) (x0 : O) where
  pub ends_at : (status : Status) (x z : O) → CutShort g o entry run.events (At status) at disk_first kv x0 x → Writes o (some_line at.last (row status).text) x z
      → IsTrue (is_early status) → (status ≡ Stream → source_rose) → (status ≡ Disk → Rose (g.faults disk_first) (g.faults (disk_of g kv).now)) → (status ≡ NotDatabase → ⊥)
      → (status ≡ TooMuchInput → (run.status ≡ TooMuchInput) × (at.done ≡ length run.events) × (at.meter ≡ run.units))
      → Ends g o entry run source_rose disk_first (disk_of g kv).now x0 z (record { status = status; done = at.done; meter = at.meter })
  ends_at status x z cut line early source rose none much = record {
    meets = meets_at o x0 x z (cut.quiet status refl) run source_rose at.done at.meter status (cut.written status refl) source
        (λ whole. let is : status ≡ TooMuchInput = early_whole status early whole in (is ∙ sym (much is).0, (much is).1, (much is).2)) none at.last (cut.last status refl) line;
    recovers = record { any_moment = cut.any_moment; at_exit = cut.at_exit };
    holds = λ answered. let told = cut.tells answered in subst (λ (saved : Stored). Holds g (disk_of g kv).now saved) told.2 (holds_saved g kv told.0 told.1);
    complete = λ still quiet.
        complete_by run status early (λ is. quiet.disk (rose is)) (λ is. still (source is)) none (λ is. is ∙ sym (much is).0);
  }

  pub ends_sink : (z : O) → CutShort g o entry run.events Sink at disk_first kv x0 z
      → Ends g o entry run source_rose disk_first (disk_of g kv).now x0 z (record { status = Stream; done = at.done; meter = at.meter })
  ends_sink z cut =
      let part = cut.part refl in
      record {
        meets = meets_within o x0 z run source_rose at.done at.meter part;
        recovers = record { any_moment = cut.any_moment; at_exit = cut.at_exit };
        holds = λ answered. let told = cut.tells answered in subst (λ (saved : Stored). Holds g (disk_of g kv).now saved) told.2 (holds_saved g kv told.0 told.1);
        complete = λ still quiet. absurd (quiet.sink part.rose);
      }

-- ---- over every disk and sink

module _ {D O : Type 0} (g : disk.Ghosts D) (o : sink.Ghosts O) (none source_rose : Type 0) (at : Progress) (disk_first disk_now : D) (x0 : O) where
  pub anywhere_at : (status : Status) (x z : O) → Stops g o (At status) at disk_first disk_now x0 x → Writes o (some_line at.last (row status).text) x z → o.faults x ≤ o.faults z
      → IsTrue (is_early status) → (status ≡ Stream → source_rose) → (status ≡ NotDatabase → none) → EndsAnywhere g o none source_rose disk_first disk_now x0 z (record { status = status; done = at.done; meter = at.meter })
  anywhere_at status x z stops line later early source cause =
      let before = stops.sink_later in
      record {
        causes = record { disk = λ is. stops.disk (ap At is); stream = λ is. inl (source is); not_database = cause };
        not_usage = early_usage status early;
        counts = record { disk = stops.later; sink = omega arith };
        line = ends_in_line o x0 x z (stops.quiet status refl) stops.replies source_rose status at.last (stops.ends status refl) stops.written source
            (λ no. absurd (no (early_follows status early))) line;
        kept = stops.kept;
      }

  pub anywhere_sink : (z : O) → Stops g o Sink at disk_first disk_now x0 z → EndsAnywhere g o none source_rose disk_first disk_now x0 z (record { status = Stream; done = at.done; meter = at.meter })
  anywhere_sink z stops = record {
    causes = record { disk = λ is. absurd (cc); stream = λ _. inr (stops.rose refl); not_database = λ is. absurd (cc) };
    not_usage = λ is. cc;
    counts = record { disk = stops.later; sink = stops.sink_later };
    line = ends_within o x0 z source_rose stops.replies (stops.rose refl) stops.written;
    kept = stops.kept;
  }

-- ---- with weaker causes

pub anywhere_else : {D O : Type 0} (g : disk.Ghosts D) (o : sink.Ghosts O) (none source_rose : Type 0) (old new : D) (x z : O) (ended : Ended)
    → EndsAnywhere g o ⊥ ⊥ old new x z ended → EndsAnywhere g o none source_rose old new x z ended
anywhere_else g o none source_rose old new x z ended anywhere = record {
  causes = record {
    disk = anywhere.causes.disk;
    stream = λ is. elim (anywhere.causes.stream is) [ inl never ↦ absurd never | inr rose ↦ inr rose ];
    not_database = λ is. absurd (anywhere.causes.not_database is);
  };
  not_usage = anywhere.not_usage;
  counts = anywhere.counts;
  line = record {
    replies = anywhere.line.replies;
    count = anywhere.line.count;
    grows = anywhere.line.grows;
    whole = anywhere.line.whole;
    no_reply = anywhere.line.no_reply;
    source = λ is. elim (anywhere.line.source is) [ inl never ↦ absurd never | inr none ↦ inr none ];
  };
  kept = anywhere.kept;
}

pub ends_else : {D O : Type 0} (g : disk.Ghosts D) (o : sink.Ghosts O) (entry : Stored) (run : Outcome) (source_rose : Type 0) (old new : D) (x z : O) (ended : Ended)
    → Ends g o entry run ⊥ old new x z ended → Ends g o entry run source_rose old new x z ended
ends_else g o entry run source_rose old new x z ended ends = record {
  meets = record {
    bytes = ends.meets.bytes;
    grows = ends.meets.grows;
    followed = record { whole = ends.meets.followed.whole; cut = λ rose. else_cut (ends.meets.followed.cut rose) };
    exact = ends.meets.exact;
    is_database = ends.meets.is_database;
  };
  recovers = ends.recovers;
  holds = ends.holds;
  complete = λ still quiet. ends.complete (λ never. never) quiet;
}
  where
    else_cut : IsCutWithin run.events ended.done ended.status ends.meets.bytes ⊎ IsCutBehind run.events ended.done ended.status ⊥ ends.meets.bytes
        → IsCutWithin run.events ended.done ended.status ends.meets.bytes ⊎ IsCutBehind run.events ended.done ended.status source_rose ends.meets.bytes
    else_cut (inl within) = inl within
    else_cut (inr behind) = inr (record { count = behind.count; prefix = behind.prefix; source = λ is. absurd (behind.source is) })
