use Rattle.std.proofs.Common.{◌≡◌, ℕ, ◌≤◌, length, true, Some, refl, sym, ap, ◌∙◌, ⊎_elim, inl, inr, arith}
use Rattle.std.specs.Prelude.{◌||◌, is_some, slice_get}
use Rattle.std.specs.Option.{ForSome, option_map}
use Rattle.lru.specs.LruCache.{LruCache}
use Rattle.uq_outside.specs.SinceLaws.{still_steps}
use Rattle.uq_page.specs.Page.{bytes_of}
use Rattle.uq_page.specs.declared.page.Page.{Page}
use Rattle.uq_journal.specs.Calls.{RecoversAs, Stays}
use Rattle.uq_journal.specs.Pages.{with_batch}
use Rattle.uq_pager.specs.Changes.{batch_of}
use Rattle.uq_pager.specs.Clean.{clean_of}
use Rattle.uq_pager.specs.Paged.{pages_on, paged_by, told_while}
use Rattle.uq_pager.specs.Pager.{held_numbers}
use Rattle.uq_pager.specs.Places.{entry_of}
use Rattle.uq_pager.proofs.Fetching.{either_held, held_length, pages_still, put_found, put_holds, put_keeps, rest_still}
use Rattle.uq_pager.proofs.Reading.{away_clean, away_entry, lies_within, or_true, other_page, read_bytes, was_saved}
use Rattle.uq_pager.proofs.pager.Pager.fetch.Goals as goal

pub read-requires : goal.read-requires
read-requires g c =
    let it = c.args.self.now in
    let saved = was_saved g.D.Disk it c.args.no c.requires.there (away_entry g.D.Disk it c.args.no c.requires.away) in
    record { within = lies_within g.D.Disk it c.args.no 4096 refl c.requires.sound saved }

pub invariant_of-self-2 : goal.invariant_of-self-2
invariant_of-self-2 g c =
    let it = c.args.self.now in
    let none = away_entry g.D.Disk it c.args.no c.requires.away in
    let saved = was_saved g.D.Disk it c.args.no c.requires.there none in
    let read : ForSome (pages_on g.D.Disk it.disk.now) (λ pages. slice_get pages c.args.no ≡ Some (bytes_of c.from_bytes-page.result)) =
    read_bytes g.D.Disk it c.args.no (bytes_of c.from_bytes-page.result) 4096 refl c.requires.sound saved (λ files told. c.from_bytes-page.ensures ∙ c.in-Ok.ensures.told files told) in
    let holds = put_holds g.D.Disk it c.args.no c.from_bytes-page.result c.put.new.self c.put.result c.put.ensures.entries c.put.ensures.err none (away_clean g.D.Disk it c.args.no c.requires.away) saved (λ _. read) in
    record {
      none = it.none;
      ascending = it.ascending;
      counted = it.counted;
      idle = it.idle;
      apart = holds.apart;
      below = holds.below;
      rest = λ sound. rest_still g.D.Disk it.disk.now c.read.new.self c.in-Ok.ensures.same c.in-Ok.ensures.stop (it.rest sound);
      pages = λ sound files told. it.pages sound files (sym c.in-Ok.ensures.same ∙ told);
      right = λ sound pages on. holds.right sound pages (sym (pages_still g.D.Disk it.disk.now c.read.new.self c.in-Ok.ensures.same) ∙ on);
    }

pub returns-in-Ok-put : goal.returns-in-Ok-put
returns-in-Ok-put g c =
    let it = c.args.self.now in
    let none = away_entry g.D.Disk it c.args.no c.requires.away in
    let saved = was_saved g.D.Disk it c.args.no c.requires.there none in
    let away = away_clean g.D.Disk it c.args.no c.requires.away in
    let read : ForSome (pages_on g.D.Disk it.disk.now) (λ pages. slice_get pages c.args.no ≡ Some (bytes_of c.from_bytes-page.result)) =
    read_bytes g.D.Disk it c.args.no (bytes_of c.from_bytes-page.result) 4096 refl c.requires.sound saved (λ files told. c.from_bytes-page.ensures ∙ c.in-Ok.ensures.told files told) in
    let same : pages_on g.D.Disk c.read.new.self ≡ pages_on g.D.Disk it.disk.now = pages_still g.D.Disk it.disk.now c.read.new.self c.in-Ok.ensures.same in
    let put = c.in-Ok-put.ensures.entries in
    record {
      page = other_page g.D.Disk it c.args.no (bytes_of c.from_bytes-page.result) none saved read;
      untouched = λ _. tt;
      same = λ _. ap (λ o. told_while it.is_sound (option_map (with_batch (batch_of it.changes)) o)) same;
      count = refl;
      asked = refl;
      reads = record {
        keeps = record {
          disk = record {
            same_reference = refl;
            stop = (still_steps g.D.Disk RecoversAs (λ files. refl) g.met.D.Disk.only_now it.disk.now c.read.new.self c.in-Ok.ensures.same c.in-Ok.ensures.stop c.in-Ok.ensures.time).stop;
          };
          sound = λ s. s;
          committed = λ _. ap (told_while it.is_sound) same;
          begun = λ b. b;
          cache = ap (λ (clean : LruCache ℕ Page). clean.cap) put;
        };
        still = record { same = c.in-Ok.ensures.same; steps = still_steps g.D.Disk Stays (λ files. refl) g.met.D.Disk.only_now it.disk.now c.read.new.self c.in-Ok.ensures.same c.in-Ok.ensures.stop c.in-Ok.ensures.time };
        paged = λ _. ap (λ o. told_while it.is_sound (option_map (paged_by (batch_of it.changes) it.is_begun) o)) same;
        begun = refl;
        changes = refl;
      };
      held = ap (λ o. is_some (entry_of c.args.no (batch_of it.changes)) || is_some o) (put_found it.clean c.put.new.self c.args.no c.from_bytes-page.result away put) ∙ or_true (is_some (entry_of c.args.no (batch_of it.changes)));
      kept = λ q held. either_held (is_some (entry_of q (batch_of it.changes))) (is_some (clean_of q it.clean.entries)) (is_some (clean_of q c.put.new.self.entries)) (it.clean.cap ≤ length (held_numbers g.D.Disk it)) held
          (λ clean. ⊎_elim
          (λ (full : it.clean.cap ≤ length it.clean.entries). inl (omega (arith, held_length g.D.Disk it)))
          (λ (on : is_some (clean_of q c.put.new.self.entries) ≡ true). inr on)
          (put_keeps it.clean c.put.new.self c.args.no q c.from_bytes-page.result away put clean));
      cost = c.in-Ok.ensures.reads;
      cause = record {
        later = c.in-Ok.ensures.cause.later;
        failed = λ never. absurd (cc);
        quiet = λ _. c.in-Ok.ensures.cause.quiet;
        ended = λ never. absurd (cc);
        sound = λ _. c.requires.sound;
      };
    }
