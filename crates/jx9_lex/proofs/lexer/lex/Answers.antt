use Rattle.std.proofs.Common.{◌≡◌, ◌+◌, ◌-◌, ◌++◌, length, take, sym, ap, subst, ◌∙◌, arith}
use Rattle.std.proofs.lemmas.List.{length-append}
use Rattle.jx9_syntax.specs.Bytes.{breaks}
use Rattle.std.proofs.lemmas.Bool.{eqb-true, eqb-false}
use Rattle.jx9_lex.proofs.LexLemmas.{LeadsOn, word_of, leads_further, leads_end, stops_here, taken_is, taken_short, one_more_counted}
use Rattle.jx9_lex.proofs.Ended.{one_end}
use Rattle.jx9_lex.proofs.lexer.lex.Goals as goal

pub returns-in-Err-clause-fault : goal.returns-in-Err-clause-fault
returns-in-Err-clause-fault c =
    stops_here c.args.text.now c.loop-rest.tokens.items c.loop-rest.line c.loop-rest.rest.now c.in-Err.stop c.fault_at.result c.front_is_longest.ensures (eqb-false (length c.loop-rest.rest.now) 0 (sym c.loop-rest-test.ensures)) c.in-Err.ensures
    c.fault_at.ensures c.loop-rest.invariant.leads

pub line_feeds-line-requires : goal.line_feeds-line-requires
line_feeds-line-requires c =
    omega (arith, c.requires, c.loop-rest.invariant.within, taken_short (length c.loop-rest.rest.now - length c.in-Ok.found.1.now) c.loop-rest.rest.now)

pub loop-rest-preserved : goal.loop-rest-preserved
loop-rest-preserved c =
    let rest = c.loop-rest.rest.now in
    let after = c.in-Ok.found.1.now in
    let w = word_of rest after c.in-Ok.found.0 c.front_is_longest.ensures c.in-Ok.ensures in
    let taken = taken_is rest w.0 after w.1 in
    let feeds = c.line_feeds-line.ensures.count ∙ ap breaks taken in
    let long : length (take (length rest - length after) rest) ≡ length w.0 = ap length taken in
    let both : length rest ≡ length (w.0 ++ after) = ap length w.1 in
    record {
      leads = subst (λ n. LeadsOn c.args.text.now c.push.new.tokens.items (c.loop-rest.line + n) after) (sym feeds)
          (leads_further c.args.text.now c.loop-rest.tokens.items c.push.new.tokens.items c.loop-rest.line rest after c.in-Ok.found.0 c.front_is_longest.ensures c.in-Ok.ensures w.0 w.1 c.in_ok-push.ensures.ok c.loop-rest.invariant.leads);
      lines = omega (arith, c.loop-rest.invariant.lines, c.line_feeds-line.ensures.within, long, both, length-append w.0 after);
      within = omega (arith, c.loop-rest.invariant.within, w.2);
      counted = one_more_counted c.loop-rest.tokens.items c.push.new.tokens.items c.loop-rest.line rest after c.in-Ok.found.0 (length c.args.text.now) c.in_ok-push.ensures.ok w.2 c.loop-rest.invariant.counted;
    }

pub returns-clause-tokens : goal.returns-clause-tokens
returns-clause-tokens c =
    leads_end c.args.text.now c.loop-rest.tokens.items c.push-2.new.tokens.items c.loop-rest.line c.loop-rest.rest.now (eqb-true (length c.loop-rest.rest.now) 0 (sym c.loop-rest-test.ensures)) c.in_ok-push-2.ensures.ok c.loop-rest.invariant.leads

pub returns-clause-ended : goal.returns-clause-ended
returns-clause-ended c =
    one_end (leads_end c.args.text.now c.loop-rest.tokens.items c.push-2.new.tokens.items c.loop-rest.line c.loop-rest.rest.now (eqb-true (length c.loop-rest.rest.now) 0 (sym c.loop-rest-test.ensures)) c.in_ok-push-2.ensures.ok c.loop-rest.invariant.leads)
