-- An input is heard line by line and block by block.
use Rattle.std.proofs.Common.{◌≡◌, ℕ, ◌<◌, Bool, true, false, if◌then◌else◌, ltb, List, [], ◌∷◌, ◌++◌, length, take, Option, Some, None, refl, sym, ap, ◌∙◌, arith, append-nil, append_assoc}
use Rattle.std.proofs.lemmas.List.Splits.{length-slice_split}
use Rattle.std.proofs.lemmas.List.Elements.{recursion_from_All}
use Rattle.std.specs.List.{All, AllByRecursion}
use Rattle.uq_value.specs.Data.{Bytes}
use Rattle.uq_words.specs.Blocks.{IsBlock, IsBlockTooMuch, IsInner, IsLastBlock, IsUnfinished, closes, kept_script, text_of_lines, with_feed}
use Rattle.uq_words.specs.BlocksLaws.{block_ends, block_first, block_part_alone, block_part_goes_on, last_block_alone, last_block_ends, unfinished_alone, unfinished_ends}
use Rattle.uq_words.specs.Lines.{IsLast, IsLine, IsTooMuch, is_feed, lines}
use Rattle.uq_words.specs.LinesLaws.{last_alone, last_ends, line_ends, line_first, part_alone, part_goes_on}
use Rattle.uq_shell.specs.Commands.{refuses_words}
use Rattle.uq_shell.specs.Run.{Outcome}
use Rattle.uq_shell.specs.Stream.{Hearing, State, at_end, but_last, cut_off, finished, heard, heard_all, listening, obeyed_in, run_from, script_in, within}
use Rattle.uq_shell.specs.Verdicts.{Judge}
use Rattle.uq_shell.specs.declared.reply.Refusal.TheVariants.{UnfinishedScript}
use Rattle.uq_shell.specs.declared.terms.Terms.{Terms}

-- there is a last line in any input
some_line : (input : Bytes) → 0 < length (lines input)
some_line input = let count = length-slice_split is_feed input in omega arith

but_last-cons : (line : Bytes) (others : List Bytes) → 0 < length others → but_last (line ∷ others) ≡ line ∷ but_last others
but_last-cons line [] some = absurd (omega (arith, some))
but_last-cons line (next ∷ others) some = refl

-- lines before others, of which there is one at least
but_last-append : (inner others : List Bytes) → 0 < length others → but_last (inner ++ others) ≡ inner ++ but_last others
but_last-append [] others some = refl
but_last-append (line ∷ inner) others some =
    but_last-cons line (inner ++ others) (longer inner others some) ∙ ap (λ (l : List Bytes). line ∷ l) (but_last-append inner others some)
  where
    longer : (inner others : List Bytes) → 0 < length others → 0 < length (inner ++ others)
    longer [] others some = some
    longer (line ∷ inner) others some = omega arith

module _ (judge : Judge) (terms : Terms) where
  -- the run of these lines, of which the last is at its end or not
  abbrev pub run_over : Hearing → Bool → List Bytes → Outcome
  run_over hearing ends read =
      if ends then at_end (finished terms.limits (heard_all judge terms hearing read)) else cut_off (heard_all judge terms hearing (but_last read)).state

  first_heard : (hearing : Hearing) (raw : Bytes) (others : List Bytes) (ends : Bool) → 0 < length others
      → run_over hearing ends (raw ∷ others) ≡ run_over (heard judge terms hearing raw) ends others
  first_heard hearing raw others true some = refl
  first_heard hearing raw others false some = ap (λ (read : List Bytes). cut_off (heard_all judge terms hearing read).state) (but_last-cons raw others some)

  -- a line, and what is behind it
  pub line_heard : (hearing : Hearing) (most : ℕ) (input : Bytes) (text : Option Bytes) (most_behind : ℕ) (behind : Bytes) (is : IsLine most input text most_behind behind)
      → run_from judge terms hearing most input ≡ run_from judge terms (heard judge terms hearing is.raw) most_behind behind
  line_heard hearing most input text most_behind behind is =
      ap (run_over hearing (ltb (length input) most)) (line_first most input text most_behind behind is)
      ∙ ap (λ (b : Bool). run_over hearing b (is.raw ∷ lines (take most_behind behind))) (line_ends most input text most_behind behind is)
      ∙ first_heard hearing is.raw (lines (take most_behind behind)) (ltb (length behind) most_behind) (some_line (take most_behind behind))

  -- the last line
  pub last_heard : (hearing : Hearing) (most : ℕ) (input : Bytes) (text : Option Bytes) → IsLast most input text
      → run_from judge terms hearing most input ≡ at_end (finished terms.limits (heard judge terms hearing input))
  last_heard hearing most input text is =
      ap (run_over hearing (ltb (length input) most)) (last_alone most input text is)
      ∙ ap (λ (b : Bool). run_over hearing b (input ∷ [])) (last_ends most input text is)

  -- a line that is not at its end
  pub part_heard : (hearing : Hearing) (most : ℕ) (input : Bytes) → IsTooMuch most input → run_from judge terms hearing most input ≡ cut_off hearing.state
  part_heard hearing most input is =
      ap (run_over hearing (ltb (length input) most)) (part_alone most input is)
      ∙ ap (λ (b : Bool). run_over hearing b (is.part ∷ [])) (part_goes_on most input is)

  -- ---- lines of a block

  heard_all-append : (hearing : Hearing) (inner others : List Bytes) → heard_all judge terms hearing (inner ++ others) ≡ heard_all judge terms (heard_all judge terms hearing inner) others
  heard_all-append hearing [] others = refl
  heard_all-append hearing (raw ∷ inner) others = heard_all-append (heard judge terms hearing raw) inner others

  -- a line that closes it, and one that does not
  closing_heard : (state : State) (text raw : Bytes) → closes raw ≡ true → heard judge terms (within state text) raw ≡ listening (script_in judge terms state (kept_script text))
  closing_heard state text raw is = ap (λ (b : Bool). if b then listening (script_in judge terms state (kept_script text)) else within state (text ++ with_feed raw)) is

  inner_line : (state : State) (text raw : Bytes) → closes raw ≡ false → heard judge terms (within state text) raw ≡ within state (text ++ with_feed raw)
  inner_line state text raw is = ap (λ (b : Bool). if b then listening (script_in judge terms state (kept_script text)) else within state (text ++ with_feed raw)) is

  inner_lines : (state : State) (text : Bytes) (inner : List Bytes) → AllByRecursion IsInner inner → heard_all judge terms (within state text) inner ≡ within state (text ++ text_of_lines inner)
  inner_lines state text [] all = ap (within state) (sym (append-nil text))
  inner_lines state text (raw ∷ inner) all =
      ap (λ (h : Hearing). heard_all judge terms h inner) (inner_line state text raw all.0.1)
      ∙ inner_lines state (text ++ with_feed raw) inner all.1
      ∙ ap (within state) (append_assoc text (with_feed raw) (text_of_lines inner))

  inner_heard : (state : State) (inner : List Bytes) → All IsInner inner → heard_all judge terms (within state []) inner ≡ within state (text_of_lines inner)
  inner_heard state inner all = inner_lines state [] inner (recursion_from_All IsInner inner all)

  block_over : (state : State) (inner : List Bytes) (closing : Bytes) (others : List Bytes) (ends : Bool) → All IsInner inner → closes closing ≡ true → 0 < length others
      → run_over (within state []) ends (inner ++ closing ∷ others) ≡ run_over (listening (script_in judge terms state (kept_script (text_of_lines inner)))) ends others
  block_over state inner closing others ends all closed some = by ends
    where
      led : (rest : List Bytes) → heard_all judge terms (within state []) (inner ++ closing ∷ rest) ≡ heard_all judge terms (listening (script_in judge terms state (kept_script (text_of_lines inner)))) rest
      led rest =
          heard_all-append (within state []) inner (closing ∷ rest) ∙ ap (λ (h : Hearing). heard_all judge terms h (closing ∷ rest)) (inner_heard state inner all)
          ∙ ap (λ (h : Hearing). heard_all judge terms h rest) (closing_heard state (text_of_lines inner) closing closed)

      by : (ends : Bool) → run_over (within state []) ends (inner ++ closing ∷ others) ≡ run_over (listening (script_in judge terms state (kept_script (text_of_lines inner)))) ends others
      by true = ap (λ (h : Hearing). at_end (finished terms.limits h)) (led others)
      by false =
          ap (λ (read : List Bytes). cut_off (heard_all judge terms (within state []) read).state)
          (but_last-append inner (closing ∷ others) (omega arith) ∙ ap (λ (l : List Bytes). inner ++ l) (but_last-cons closing others some))
          ∙ ap (λ (h : Hearing). cut_off h.state) (led (but_last others))

  -- a block, and what is behind it
  pub block_heard : (state : State) (most : ℕ) (input : Bytes) (text : Option Bytes) (most_behind : ℕ) (behind : Bytes) → IsBlock most input text most_behind behind
      → run_from judge terms (within state []) most input ≡ run_from judge terms (listening (script_in judge terms state text)) most_behind behind
  block_heard state most input text most_behind behind is =
      ap (run_over (within state []) (ltb (length input) most)) (block_first most input text most_behind behind is)
      ∙ ap (λ (b : Bool). run_over (within state []) b (is.inner ++ is.closing ∷ lines (take most_behind behind))) (block_ends most input text most_behind behind is)
      ∙ block_over state is.inner is.closing (lines (take most_behind behind)) (ltb (length behind) most_behind) is.all_inner is.closes_it (some_line (take most_behind behind))
      ∙ ap (λ (t : Option Bytes). run_from judge terms (listening (script_in judge terms state t)) most_behind behind) (sym is.kept_text)

  -- one that the last line closes
  pub last_block_heard : (state : State) (most : ℕ) (input : Bytes) (text : Option Bytes) → IsLastBlock most input text
      → run_from judge terms (within state []) most input ≡ at_end (script_in judge terms state text)
  last_block_heard state most input text is =
      ap (run_over (within state []) (ltb (length input) most)) (last_block_alone most input text is)
      ∙ ap (λ (b : Bool). run_over (within state []) b (is.inner ++ is.closing ∷ [])) (last_block_ends most input text is)
      ∙ ap (λ (h : Hearing). at_end (finished terms.limits h))
      (heard_all-append (within state []) is.inner (is.closing ∷ []) ∙ ap (λ (h : Hearing). heard judge terms h is.closing) (inner_heard state is.inner is.all_inner)
      ∙ closing_heard state (text_of_lines is.inner) is.closing is.closes_it)
      ∙ ap (λ (t : Option Bytes). at_end (script_in judge terms state t)) (sym is.kept_text)

  -- one that no line closes
  pub unfinished_heard : (state : State) (most : ℕ) (input : Bytes) → IsUnfinished most input
      → run_from judge terms (within state []) most input ≡ at_end (obeyed_in terms.limits state (refuses_words UnfinishedScript))
  unfinished_heard state most input is =
      ap (run_over (within state []) (ltb (length input) most)) (unfinished_alone most input is)
      ∙ ap (λ (b : Bool). run_over (within state []) b (is.inner ++ is.last ∷ [])) (unfinished_ends most input is)
      ∙ ap (λ (h : Hearing). at_end (finished terms.limits h))
      (heard_all-append (within state []) is.inner (is.last ∷ []) ∙ ap (λ (h : Hearing). heard judge terms h is.last) (inner_heard state is.inner is.all_inner)
      ∙ inner_line state (text_of_lines is.inner) is.last is.last_inner.1)

  -- one that is not at its end
  pub block_part_heard : (state : State) (most : ℕ) (input : Bytes) → IsBlockTooMuch most input → run_from judge terms (within state []) most input ≡ cut_off state
  block_part_heard state most input is =
      ap (run_over (within state []) (ltb (length input) most)) (block_part_alone most input is)
      ∙ ap (λ (b : Bool). run_over (within state []) b (is.inner ++ is.part ∷ [])) (block_part_goes_on most input is)
      ∙ ap (λ (read : List Bytes). cut_off (heard_all judge terms (within state []) read).state)
      (but_last-append is.inner (is.part ∷ []) (omega arith) ∙ append-nil is.inner)
      ∙ ap (λ (h : Hearing). cut_off h.state) (inner_heard state is.inner is.all_inner)
