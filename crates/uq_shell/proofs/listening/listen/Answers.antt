use Rattle.std.proofs.Common.{◌≡◌, ◌+◌, ◌++◌, ℕ, List, Option, Some, Result, Ok, Err, length, refl, sym, ap, subst, ◌∙◌, arith}
use Rattle.std.proofs.lemmas.Result.{err_from_is_err_and}
use Rattle.std.specs.Option.{option_map}
use Rattle.uq_outside.specs.Since.{Laws}
use Rattle.uq_kv.specs.Cursor.{place_of}
use Rattle.uq_kv.specs.Kv.{disk_of}
use Rattle.uq_kv.specs.Stored.{stored_key}
use Rattle.uq_kv.specs.declared.space.Space.TheVariants.{Keys}
use Rattle.uq_words.specs.Taking.{Takes, left_of, most_of, pending}
use Rattle.uq_shell.specs.Asks.{FindsNext, step_of}
use Rattle.uq_shell.specs.Carries.{Carries, DrawsBy}
use Rattle.uq_shell.specs.Performs.{AreWithin}
use Rattle.uq_shell.specs.Stream.{listening, run_from, start}
use Rattle.uq_shell.specs.declared.asking.Next.{Next}
use Rattle.uq_shell.specs.declared.progress.Progress.{Progress}
use Rattle.uq_shell.specs.declared.progress.Stop.{Stop}
use Rattle.uq_shell.specs.declared.progress.Stop.TheVariants.{At}
use Rattle.uq_shell.specs.declared.status.Status.TheVariants.{Stream, TooMuchInput}
use Rattle.uq_shell.proofs.Inputs.{behind_here, carries_cut, carries_here, carries_last, draws_cut, draws_last, draws_much, draws_stop, going_line, going_start, left_on, much_here, passed_start, reached_start, stands_start, told_more}
use Rattle.uq_shell.proofs.Stopping.{input_disk, input_early, input_much, input_none, status_by, stop_is}
use Rattle.uq_shell.proofs.listening.listen.Goals as goal

pub lines-init : goal.lines-init
lines-init g c =
    let laws : Laws g.D.Disk = record { only_now = g.met.D.Disk.only_now; counts_now = g.met.D.Disk.counts_now } in
    let none = c.new-lines.ensures.nothing in
    let empty : length (pending c.new-lines.result) ≡ 0 = ap length none in
    let room = c.new-lines.ensures.room in
    let done : c.args.progress.now.done ≡ 0 = ap (λ (p : Progress). p.done) c.requires.begins in
    let meter : c.args.progress.now.meter ≡ 0 = ap (λ (p : Progress). p.meter) c.requires.begins in
    record {
      few = omega arith;
      few_units = omega arith;
      unclosed = c.requires.open;
      same_reference = refl;
      limits = refl;
      stands = stands_start g.D.Disk g.O.Sink laws c.args.progress.now c.args.kv.now c.args.out.now c.requires.begins c.requires.idle;
      tells = λ told. told;
      going = going_start g.I.Source c.new-lines.result c.args.input.now;
      left = λ bytes there. (_, ap (λ (l : Option (List ℕ)). option_map (λ rest. pending c.new-lines.result ++ rest) l) there);
      told = λ judge right entry bytes tells there.
          passed_start g.D.Disk g.I.Source g.O.Sink judge c.args.terms.now entry c.args.most bytes c.args.progress.now (place_of c.args.cursor.now) (disk_of g.D.Disk c.args.kv.now).now c.args.kv.now c.args.out.now c.args.out.now
          c.new-lines.result c.args.input.now (reached_start g.D.Disk g.O.Sink laws entry c.args.progress.now (place_of c.args.cursor.now) c.args.kv.now c.args.out.now c.requires.begins (ap (option_map (stored_key Keys)) c.requires.unset) tells) none room there;
    }

pub lines-preserved : goal.lines-preserved
lines-preserved g c =
    let inv = c.lines.invariant in
    let moves = c.in_ok-grant-in-More.ensures in
    let found = subst (λ (n : Next). FindsNext g.I.Source (Ok n) (left_of g.I.Source c.lines.lines c.lines.input) (most_of c.lines.lines) c.take_next.new.lines c.take_next.new.input) c.in-More.is c.in_ok-ask.ensures.finds in
    let takes = subst (λ (n : Next). Takes g.I.Source (step_of (Ok n)) c.lines.lines c.lines.input c.take_next.new.lines c.take_next.new.input) c.in-More.is c.in_ok-ask.ensures.takes in
    let fewer = c.in_ok-ask.ensures.shorter (ap (λ (n : Next). step_of (Ok n)) c.in-More.is) in
    let more = moves.few in
    let more_units = moves.few_units in
    let few = inv.few in
    let few_units = inv.few_units in
    record {
      few = omega arith;
      few_units = omega arith;
      unclosed = moves.unclosed;
      same_reference = moves.same_reference ∙ inv.same_reference;
      limits = moves.limits ∙ inv.limits;
      stands = moves.stands (disk_of g.D.Disk c.args.kv.now).now c.args.out.now inv.stands;
      tells = λ told. moves.tells (inv.tells told);
      going = going_line g.I.Source c.new-lines.result c.lines.lines c.take_next.new.lines c.args.input.now c.lines.input c.take_next.new.input inv.going takes;
      left = left_on g.I.Source c.new-lines.result c.lines.lines c.take_next.new.lines c.args.input.now c.lines.input c.take_next.new.input inv.going inv.left c.in-More.ask found;
      told = told_more g.D.Disk g.I.Source g.O.Sink c.args.terms.now c.args.most c.args.kv.now c.args.input.now c.args.out.now c.lines.progress (place_of c.lines.cursor) c.lines.kv c.lines.out c.lines.lines c.lines.input
          inv.same_reference inv.stands inv.tells inv.told c.grant.new.progress (place_of c.grant.new.cursor) c.grant.new.kv c.grant.new.out c.take_next.new.lines c.take_next.new.input
          c.in-More.ask (option_map (λ t. t.now) c.text.result) c.text.ensures found c.in_ok-grant-in-More.field-0 moves;
    }

pub lines-preserved-in_ok-grant-in-More : goal.lines-preserved-in_ok-grant-in-More
lines-preserved-in_ok-grant-in-More g c =
    let inv = c.lines.invariant in
    let moves = c.in_ok-grant-in-More.ensures in
    let found = subst (λ (n : Next). FindsNext g.I.Source (Ok n) (left_of g.I.Source c.lines.lines c.lines.input) (most_of c.lines.lines) c.take_next.new.lines c.take_next.new.input) c.in-More.is c.in_ok-ask.ensures.finds in
    let takes = subst (λ (n : Next). Takes g.I.Source (step_of (Ok n)) c.lines.lines c.lines.input c.take_next.new.lines c.take_next.new.input) c.in-More.is c.in_ok-ask.ensures.takes in
    let fewer = c.in_ok-ask.ensures.shorter (ap (λ (n : Next). step_of (Ok n)) c.in-More.is) in
    let more = moves.few in
    let more_units = moves.few_units in
    let few = inv.few in
    let few_units = inv.few_units in
    record {
      few = omega arith;
      few_units = omega arith;
      unclosed = moves.unclosed;
      same_reference = moves.same_reference ∙ inv.same_reference;
      limits = moves.limits ∙ inv.limits;
      stands = moves.stands (disk_of g.D.Disk c.args.kv.now).now c.args.out.now inv.stands;
      tells = λ told. moves.tells (inv.tells told);
      going = going_line g.I.Source c.new-lines.result c.lines.lines c.take_next.new.lines c.args.input.now c.lines.input c.take_next.new.input inv.going takes;
      left = left_on g.I.Source c.new-lines.result c.lines.lines c.take_next.new.lines c.args.input.now c.lines.input c.take_next.new.input inv.going inv.left c.in-More.ask found;
      told = told_more g.D.Disk g.I.Source g.O.Sink c.args.terms.now c.args.most c.args.kv.now c.args.input.now c.args.out.now c.lines.progress (place_of c.lines.cursor) c.lines.kv c.lines.out c.lines.lines c.lines.input
          inv.same_reference inv.stands inv.tells inv.told c.grant.new.progress (place_of c.grant.new.cursor) c.grant.new.kv c.grant.new.out c.take_next.new.lines c.take_next.new.input
          c.in-More.ask (option_map (λ t. t.now) c.text.result) c.text.ensures found c.in_ok-grant-in-More.field-0 moves;
    }

pub lines-preserved-in_ok-grant-in-More-2 : goal.lines-preserved-in_ok-grant-in-More-2
lines-preserved-in_ok-grant-in-More-2 g c =
    let inv = c.lines.invariant in
    let moves = c.in_ok-grant-in-More.ensures in
    let found = subst (λ (n : Next). FindsNext g.I.Source (Ok n) (left_of g.I.Source c.lines.lines c.lines.input) (most_of c.lines.lines) c.take_next.new.lines c.take_next.new.input) c.in-More.is c.in_ok-ask.ensures.finds in
    let takes = subst (λ (n : Next). Takes g.I.Source (step_of (Ok n)) c.lines.lines c.lines.input c.take_next.new.lines c.take_next.new.input) c.in-More.is c.in_ok-ask.ensures.takes in
    let fewer = c.in_ok-ask.ensures.shorter (ap (λ (n : Next). step_of (Ok n)) c.in-More.is) in
    let more = moves.few in
    let more_units = moves.few_units in
    let few = inv.few in
    let few_units = inv.few_units in
    record {
      few = omega arith;
      few_units = omega arith;
      unclosed = moves.unclosed;
      same_reference = moves.same_reference ∙ inv.same_reference;
      limits = moves.limits ∙ inv.limits;
      stands = moves.stands (disk_of g.D.Disk c.args.kv.now).now c.args.out.now inv.stands;
      tells = λ told. moves.tells (inv.tells told);
      going = going_line g.I.Source c.new-lines.result c.lines.lines c.take_next.new.lines c.args.input.now c.lines.input c.take_next.new.input inv.going takes;
      left = left_on g.I.Source c.new-lines.result c.lines.lines c.take_next.new.lines c.args.input.now c.lines.input c.take_next.new.input inv.going inv.left c.in-More.ask found;
      told = told_more g.D.Disk g.I.Source g.O.Sink c.args.terms.now c.args.most c.args.kv.now c.args.input.now c.args.out.now c.lines.progress (place_of c.lines.cursor) c.lines.kv c.lines.out c.lines.lines c.lines.input
          inv.same_reference inv.stands inv.tells inv.told c.grant.new.progress (place_of c.grant.new.cursor) c.grant.new.kv c.grant.new.out c.take_next.new.lines c.take_next.new.input
          c.in-More.ask (option_map (λ t. t.now) c.text.result) c.text.ensures found c.in_ok-grant-in-More.field-0 moves;
    }

-- ---- what `grant` asks

pub grant-requires-clause-few : goal.grant-requires-clause-few
grant-requires-clause-few g c =
    let few = c.lines.invariant.few in
    let fits = c.ranges.most.fits in
    omega arith

pub grant-requires-clause-few_units : goal.grant-requires-clause-few_units
grant-requires-clause-few_units g c =
    let few = c.lines.invariant.few_units in
    let fits = c.ranges.most.fits in
    omega arith

pub grant-requires-clause-terms : goal.grant-requires-clause-terms
grant-requires-clause-terms g c = subst (AreWithin c.args.terms.now) (sym c.lines.invariant.limits) c.requires.terms

pub grant-requires-in-Last-clause-few : goal.grant-requires-in-Last-clause-few
grant-requires-in-Last-clause-few g c =
    let few = c.lines.invariant.few in
    let fits = c.ranges.most.fits in
    omega arith

pub grant-requires-in-Last-clause-few_units : goal.grant-requires-in-Last-clause-few_units
grant-requires-in-Last-clause-few_units g c =
    let few = c.lines.invariant.few_units in
    let fits = c.ranges.most.fits in
    omega arith

pub grant-requires-in-Last-clause-terms : goal.grant-requires-in-Last-clause-terms
grant-requires-in-Last-clause-terms g c = subst (AreWithin c.args.terms.now) (sym c.lines.invariant.limits) c.requires.terms

-- ---- the input cannot be read

pub returns-in_err-ask-clause-carries : goal.returns-in_err-ask-clause-carries
returns-in_err-ask-clause-carries g c =
    let inv = c.lines.invariant in
    let p = err_from_is_err_and c.from_residual.result c.from_residual.ensures.1 in
    let fault = c.in_err-ask.ensures.stops.0 in
    let is : c.from_residual.result ≡ Err (At (status_by fault)) = p.1 ∙ ap (λ (s : Stop). Err s) (p.2 ∙ c.in_err-ask.ensures.stops.1 ∙ stop_is fault) in
    subst (λ (r : Result (Unit {0}) Stop). Carries g.D.Disk g.O.Sink (λ bytes. g.I.Source.left c.args.input.now ≡ Some bytes)
    (λ judge entry bytes. run_from judge c.args.terms.now (listening (start entry)) c.args.most bytes) c.lines.progress c.args.kv.now c.lines.kv c.args.out.now c.lines.out r) (sym is)
    (carries_here g.D.Disk g.I.Source g.O.Sink c.args.terms.now c.args.most c.args.kv.now c.args.input.now c.args.out.now c.lines.progress (place_of c.lines.cursor) c.lines.kv c.lines.out c.lines.lines c.lines.input
    inv.same_reference inv.stands inv.tells inv.told (status_by fault) (input_early fault) (input_disk fault) (input_none fault) (λ _ _ _ _ _ _ much. absurd (input_much fault much)))

pub returns-in_err-ask-clause-behind : goal.returns-in_err-ask-clause-behind
returns-in_err-ask-clause-behind g c = λ failed.
    let inv = c.lines.invariant in
    let p = err_from_is_err_and c.from_residual.result c.from_residual.ensures.1 in
    let here : Result (Unit {0}) Stop = Err c.in_err-ask.field-0.0 in
    let both : here ≡ Err (At Stream) = sym (p.1 ∙ ap (λ (s : Stop). Err s) p.2) ∙ failed in
    let same : c.in_err-ask.field-0.0 ≡ At Stream = cc in
    behind_here g.D.Disk g.I.Source g.O.Sink c.args.terms.now c.args.most c.args.kv.now c.args.input.now c.args.out.now c.lines.progress (place_of c.lines.cursor) c.lines.kv c.lines.out c.lines.lines c.lines.input
    inv.same_reference inv.stands inv.tells inv.told c.take_next.new.input (c.in_err-ask.ensures.finds same)

pub returns-in_err-ask-clause-draws : goal.returns-in_err-ask-clause-draws
returns-in_err-ask-clause-draws g c =
    let inv = c.lines.invariant in
    let p = err_from_is_err_and c.from_residual.result c.from_residual.ensures.1 in
    let is : c.from_residual.result ≡ Err c.in_err-ask.field-0.0 = p.1 ∙ ap (λ (s : Stop). Err s) p.2 in
    subst (λ (r : Result (Unit {0}) Stop). DrawsBy g.I.Source c.args.most c.args.input.now c.take_next.new.input r) (sym is)
    (draws_stop g.I.Source c.new-lines.result c.lines.lines c.take_next.new.lines c.args.input.now c.lines.input c.take_next.new.input inv.going c.args.most c.in_err-ask.ensures.stops.0
    c.in_err-ask.field-0.0 c.in_err-ask.ensures.stops.1 c.in_err-ask.ensures.takes)

-- ---- the run is cut short

pub returns-in_err-grant-in-More-clause-carries : goal.returns-in_err-grant-in-More-clause-carries
returns-in_err-grant-in-More-clause-carries g c =
    let inv = c.lines.invariant in
    let p = err_from_is_err_and c.from_residual-in_err-grant-in-More.result c.from_residual-in_err-grant-in-More.ensures.1 in
    let found = subst (λ (n : Next). FindsNext g.I.Source (Ok n) (left_of g.I.Source c.lines.lines c.lines.input) (most_of c.lines.lines) c.take_next.new.lines c.take_next.new.input) c.in-More.is c.in_ok-ask.ensures.finds in
    let is : c.from_residual-in_err-grant-in-More.result ≡ Err c.in_err-grant-in-More.field-0.0 = p.1 ∙ ap (λ (s : Stop). Err s) p.2 in
    subst (λ (r : Result (Unit {0}) Stop). Carries g.D.Disk g.O.Sink (λ bytes. g.I.Source.left c.args.input.now ≡ Some bytes)
    (λ judge entry bytes. run_from judge c.args.terms.now (listening (start entry)) c.args.most bytes) c.grant.new.progress c.args.kv.now c.grant.new.kv c.args.out.now c.grant.new.out r) (sym is)
    (carries_cut g.D.Disk g.I.Source g.O.Sink c.args.terms.now c.args.most c.args.kv.now c.args.input.now c.args.out.now c.lines.progress (place_of c.lines.cursor) c.lines.kv c.lines.out c.lines.lines c.lines.input
    inv.same_reference inv.stands inv.tells inv.told c.grant.new.progress (place_of c.grant.new.cursor) c.grant.new.kv c.grant.new.out c.take_next.new.lines c.take_next.new.input
    c.in-More.ask (option_map (λ t. t.now) c.text.result) c.text.ensures found c.in_err-grant-in-More.field-0.0 c.in_err-grant-in-More.ensures)

pub returns-in_err-grant-in-More-clause-draws : goal.returns-in_err-grant-in-More-clause-draws
returns-in_err-grant-in-More-clause-draws g c =
    let inv = c.lines.invariant in
    let p = err_from_is_err_and c.from_residual-in_err-grant-in-More.result c.from_residual-in_err-grant-in-More.ensures.1 in
    let takes = subst (λ (n : Next). Takes g.I.Source (step_of (Ok n)) c.lines.lines c.lines.input c.take_next.new.lines c.take_next.new.input) c.in-More.is c.in_ok-ask.ensures.takes in
    let is : c.from_residual-in_err-grant-in-More.result ≡ Err c.in_err-grant-in-More.field-0.0 = p.1 ∙ ap (λ (s : Stop). Err s) p.2 in
    subst (λ (r : Result (Unit {0}) Stop). DrawsBy g.I.Source c.args.most c.args.input.now c.take_next.new.input r) (sym is)
    (draws_cut g.I.Source c.new-lines.result c.lines.lines c.take_next.new.lines c.args.input.now c.lines.input c.take_next.new.input inv.going c.args.most c.in_err-grant-in-More.field-0.0 c.in_err-grant-in-More.ensures.within takes)

-- ---- the input ends

pub returns-in-Last-clause-carries : goal.returns-in-Last-clause-carries
returns-in-Last-clause-carries g c =
    let inv = c.lines.invariant in
    let found = subst (λ (n : Next). FindsNext g.I.Source (Ok n) (left_of g.I.Source c.lines.lines c.lines.input) (most_of c.lines.lines) c.take_next.new.lines c.take_next.new.input) c.in-Last.is c.in_ok-ask.ensures.finds in
    let few = inv.few in
    let fits = c.ranges.most.fits in
    carries_last g.D.Disk g.I.Source g.O.Sink c.args.terms.now c.args.most c.args.kv.now c.args.input.now c.args.out.now c.lines.progress (place_of c.lines.cursor) c.lines.kv c.lines.out c.lines.lines c.lines.input
    inv.same_reference inv.stands inv.tells inv.told c.grant-in-Last.new.progress (place_of c.grant-in-Last.new.cursor) c.grant-in-Last.new.kv c.grant-in-Last.new.out c.take_next.new.lines c.take_next.new.input
    c.in-Last.ask (option_map (λ t. t.now) c.text-in-Last.result) c.text-in-Last.ensures found c.grant-in-Last.result (omega arith) c.grant-in-Last.ensures

pub returns-in-Last-clause-draws : goal.returns-in-Last-clause-draws
returns-in-Last-clause-draws g c =
    let inv = c.lines.invariant in
    let found = subst (λ (n : Next). FindsNext g.I.Source (Ok n) (left_of g.I.Source c.lines.lines c.lines.input) (most_of c.lines.lines) c.take_next.new.lines c.take_next.new.input) c.in-Last.is c.in_ok-ask.ensures.finds in
    let takes = subst (λ (n : Next). Takes g.I.Source (step_of (Ok n)) c.lines.lines c.lines.input c.take_next.new.lines c.take_next.new.input) c.in-Last.is c.in_ok-ask.ensures.takes in
    draws_last g.I.Source c.new-lines.result c.lines.lines c.take_next.new.lines c.args.input.now c.lines.input c.take_next.new.input inv.going inv.left c.in-Last.ask c.args.most c.grant-in-Last.result
    c.grant-in-Last.ensures.within found takes

-- ---- more is left than is read

pub returns-in-TooMuch-clause-carries : goal.returns-in-TooMuch-clause-carries
returns-in-TooMuch-clause-carries g c =
    let inv = c.lines.invariant in
    let found = subst (λ (n : Next). FindsNext g.I.Source (Ok n) (left_of g.I.Source c.lines.lines c.lines.input) (most_of c.lines.lines) c.take_next.new.lines c.take_next.new.input) c.in-TooMuch.is c.in_ok-ask.ensures.finds in
    carries_here g.D.Disk g.I.Source g.O.Sink c.args.terms.now c.args.most c.args.kv.now c.args.input.now c.args.out.now c.lines.progress (place_of c.lines.cursor) c.lines.kv c.lines.out c.lines.lines c.lines.input
    inv.same_reference inv.stands inv.tells inv.told TooMuchInput refl (λ is. cc) (λ is. cc) (λ judge right entry bytes tells there _.
    let passed = inv.told judge right entry bytes tells there in
    much_here g.D.Disk g.I.Source g.O.Sink judge c.args.terms.now entry c.args.most bytes c.lines.progress (place_of c.lines.cursor) (disk_of g.D.Disk c.args.kv.now).now c.lines.kv c.args.out.now c.lines.out c.lines.lines c.lines.input
    passed (found passed.left passed.there))

pub returns-in-TooMuch-clause-draws : goal.returns-in-TooMuch-clause-draws
returns-in-TooMuch-clause-draws g c =
    let inv = c.lines.invariant in
    let takes = subst (λ (n : Next). Takes g.I.Source (step_of (Ok n)) c.lines.lines c.lines.input c.take_next.new.lines c.take_next.new.input) c.in-TooMuch.is c.in_ok-ask.ensures.takes in
    draws_much g.I.Source c.new-lines.result c.lines.lines c.take_next.new.lines c.args.input.now c.lines.input c.take_next.new.input inv.going c.args.most c.new-lines.ensures.nothing c.new-lines.ensures.room c.requires.most takes
