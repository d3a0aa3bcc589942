use Rattle.std.proofs.Common.{ℕ, Vec, Global, length, map, sym, ap}
use Rattle.std.proofs.lemmas.Bool.{eqb-false, eqb-true}
use Rattle.std.proofs.lemmas.Result.{err_from_is_err_and}
use Rattle.uq_words.proofs.Splitting.{less_left, line_fails, not_none, starts_trimmed, trimmed_by, words_begin, words_end, words_go_on}
use Rattle.uq_words.proofs.reading.read_words.Goals as goal

pub words-init : goal.words-init
words-init c = record {
  trimmed = trimmed_by c.args.line.now c.skip_blanks-rest.result.now c.skip_blanks-rest.ensures;
  so_far = words_begin c.args.line.now c.skip_blanks-rest.result.now (map (λ (word : Vec ℕ Global). word.items) c.new-list.result.items)
      (ap (map (λ (word : Vec ℕ Global). word.items)) c.new-list.ensures.items) c.skip_blanks-rest.ensures;
}

pub split_word-requires : goal.split_word-requires
split_word-requires c = starts_trimmed c.words.rest.now c.words.invariant.trimmed (not_none (length c.words.rest.now) (eqb-false (length c.words.rest.now) 0 (sym c.words-test.ensures)))

pub words-smaller : goal.words-smaller
words-smaller c = less_left c.words.rest.now c.in_ok-word.behind.now c.skip_blanks-rest-in-words.result.now c.in_ok-word.ensures.shorter c.skip_blanks-rest-in-words.ensures

pub words-preserved : goal.words-preserved
words-preserved c = record {
  trimmed = trimmed_by c.in_ok-word.behind.now c.skip_blanks-rest-in-words.result.now c.skip_blanks-rest-in-words.ensures;
  so_far = words_go_on c.args.line.now c.words.rest.now c.skip_blanks-rest-in-words.result.now (map (λ (word : Vec ℕ Global). word.items) c.words.list.items)
      (map (λ (word : Vec ℕ Global). word.items) c.push.new.list.items) c.in_ok-word.word.items c.in_ok-word.behind.now
      (not_none (length c.words.rest.now) (eqb-false (length c.words.rest.now) 0 (sym c.words-test.ensures)))
      c.in_ok-word.ensures.shorter c.in_ok-word.ensures.splits c.in_ok-push.ensures.ok c.skip_blanks-rest-in-words.ensures c.words.invariant.so_far;
}

pub returns-in_err-word : goal.returns-in_err-word
returns-in_err-word c =
    let p = err_from_is_err_and c.from_residual.result c.from_residual.ensures.1 in
    rw (p.1, p.2) (line_fails c.args.line.now c.words.rest.now (map (λ (word : Vec ℕ Global). word.items) c.words.list.items) c.in_err-word.field-0.0
    (not_none (length c.words.rest.now) (eqb-false (length c.words.rest.now) 0 (sym c.words-test.ensures))) c.in_err-word.ensures.splits c.words.invariant.so_far)

pub returns : goal.returns
returns c =
    words_end c.args.line.now c.words.rest.now (map (λ (word : Vec ℕ Global). word.items) c.words.list.items)
    (eqb-true (length c.words.rest.now) 0 (sym c.words-test.ensures)) c.words.invariant.so_far
