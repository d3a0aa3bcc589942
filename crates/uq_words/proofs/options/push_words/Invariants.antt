use Rattle.std.proofs.Common.{◌≡◌, ◌++◌, map, take}
use Rattle.uq_words.specs.Texts.{texts}
use Rattle.uq_words.proofs.options.push_words.Given as goal

abbrev pub invariant-loop-word : goal.invariant-loop-word
invariant-loop-word l = map (λ word. word.now) l.plain.items ≡ map (λ word. word.now) l.initial.plain.items ++ texts (take l.word-index l.words)
