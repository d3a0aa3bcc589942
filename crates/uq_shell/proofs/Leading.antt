-- What is taken of an input is what it asks for next.
use Rattle.std.proofs.Common.{◌≡◌, ◌⊎◌, ◌≤◌, ◌<◌, ℕ, ◌+◌, ◌-◌, Bool, true, false, if◌then◌else◌, List, [], ◌∷◌, ◌++◌, length, Option, Some, None, Result, Ok, Err, inl, inr, refl, sym, ap, subst, ◌∙◌, arith, append-nil, append_assoc, length-append}
use Rattle.std.specs.Option.{ForSome}
use Rattle.uq_facts.specs.Causes.{Rose}
use Rattle.uq_outside.specs.Stops.{Told}
use Rattle.uq_outside.specs.declared.source.Source.{Ghosts}
use Rattle.uq_value.specs.Data.{Bytes}
use Rattle.uq_words.specs.Blocks.{IsBlock, IsBlockPart, IsBlockTooMuch, IsLastBlock, IsUnfinished, text_of_lines}
use Rattle.uq_words.specs.Lines.{IsLast, IsLine, IsTooMuch, Spoken, spoken, spoken_by}
use Rattle.uq_words.specs.Lines as words
use Rattle.uq_words.specs.Taking.{Finds, Shortens, Takes, left_of, most_of, room_of, text_of}
use Rattle.uq_words.specs.TakingBlocks.{FindsBlock, line_step}
use Rattle.uq_words.specs.Texts.{spoken_as}
use Rattle.uq_words.specs.declared.blocks.BlockStep.{BlockStep}
use Rattle.uq_words.specs.declared.blocks.BlockStep.TheVariants as block
use Rattle.uq_words.specs.declared.error.InputFault.{InputFault}
use Rattle.uq_words.specs.declared.error.InputFault.TheVariants as input
use Rattle.uq_words.specs.declared.line.Line.{Line}
use Rattle.uq_words.specs.declared.lines.Lines.{Lines}
use Rattle.uq_words.specs.declared.lines.Step.{Step}
use Rattle.uq_words.specs.declared.lines.Step.TheVariants as step
use Rattle.uq_shell.specs.Asks.{Closes, FindsAt, FindsInBlock, FindsNext, IsCut, IsPart, IsPlain, Leads, OfBlock, OfLine, Asking, asked_in, asking_of, at_block, fault_of, step_of}
use Rattle.uq_shell.specs.Commands.{refuses_words}
use Rattle.uq_shell.specs.Replies.{stop_by_input}
use Rattle.uq_shell.specs.Run.{Outcome}
use Rattle.uq_shell.specs.Stream.{Hearing, State, after, asked_by, at_end, begins_block, cut_off, finished, heard, listening, run_from, within}
use Rattle.uq_shell.specs.Verdicts.{Judge}
use Rattle.uq_shell.specs.declared.asking.Ask.{Ask}
use Rattle.uq_shell.specs.declared.asking.Ask.TheVariants as ask
use Rattle.uq_shell.specs.declared.asking.Next.{Next}
use Rattle.uq_shell.specs.declared.asking.Next.TheVariants.{More, Last, TooMuch}
use Rattle.uq_shell.specs.declared.progress.Stop.{Stop}
use Rattle.uq_shell.specs.declared.progress.Stop.TheVariants.{At}
use Rattle.uq_shell.specs.declared.reply.Refusal.TheVariants.{UnfinishedScript}
use Rattle.uq_shell.specs.declared.status.Status.TheVariants.{Stream, Memory}
use Rattle.uq_shell.specs.declared.terms.Terms.{Terms}
use Rattle.uq_shell.proofs.Hearing.{block_heard, block_part_heard, last_block_heard, last_heard, line_heard, part_heard, unfinished_heard}
use Rattle.uq_shell.proofs.Inputs.{going_line, going_start, fresh_on, taken_on}

-- ---- what is told, one step behind the other

told_then : {X : Type 0} (P Q R : X → X → Type 0) → ((a b c : X) → P a b → Q b c → R a c) → (x y z : Option X) → Told P x y → Told Q y z → Told R x z
told_then P Q R on None None None first second = tt
told_then P Q R on (Some a) (Some b) (Some c) first second = on a b c first second
told_then P Q R on None (Some b) z first second = absurd first
told_then P Q R on (Some a) None z first second = absurd first
told_then P Q R on None None (Some c) first second = absurd second
told_then P Q R on (Some a) (Some b) None first second = absurd second

told_as : {X : Type 0} (P R : X → X → Type 0) → ((a b : X) → P a b → R a b) → (x y : Option X) → Told P x y → Told R x y
told_as P R on None None first = tt
told_as P R on (Some a) (Some b) first = on a b first
told_as P R on None (Some b) first = absurd first
told_as P R on (Some a) None first = absurd first

told_for : {X : Type 0} (P : X → X → Type 0) (Q R : X → Type 0) → ((a b : X) → P a b → Q b → R a) → (x y : Option X) → Told P x y → ForSome y Q → ForSome x R
told_for P Q R on None y first second = λ a is. absurd (cc)
told_for P Q R on (Some a) (Some b) first second = λ c is. subst R (let same : a ≡ c = cc in same) (on a b first (second b refl))
told_for P Q R on (Some a) None first second = absurd first

-- ---- one line

-- what a line asks for is what it says
line_asks : (said : Line) (says : Spoken) (text : Option Bytes) (raw : Bytes) → spoken_as said ≡ says → says ≡ spoken raw → asking_of (ask.Line said) text ≡ OfLine (asked_by (spoken raw))
line_asks said says text raw is same = ap (λ (s : Spoken). OfLine (asked_by s)) (is ∙ same)

module _ (judge : Judge) (terms : Terms) (state : State) (raw : Bytes) where
  -- a line that begins no block, and one that does
  plain_heard : begins_block (spoken raw) ≡ false → heard judge terms (listening state) raw ≡ listening (after terms.limits state (asked_by (spoken raw)))
  plain_heard none = ap (λ (b : Bool). if b then within state [] else listening (after terms.limits state (asked_by (spoken raw)))) none

  block_begins : begins_block (spoken raw) ≡ true → heard judge terms (listening state) raw ≡ within state []
  block_begins is = ap (λ (b : Bool). if b then within state [] else listening (after terms.limits state (asked_by (spoken raw)))) is

module _ (most : ℕ) (input : Bytes) (text : Option Bytes) (most_behind : ℕ) (behind : Bytes) (is : IsLine most input text most_behind behind) where
  abbrev feed : Bytes
  feed = is.raw ++ 0x0a ∷ []

  -- the same line before any bytes
  abbrev is_line : (m : ℕ) (tail : Bytes) → IsLine (length is.raw + 1 + m) (is.raw ++ 0x0a ∷ tail) text m tail
  is_line m tail = record { raw = is.raw; no_feed = is.no_feed; split = refl; count = refl; kept_text = is.kept_text }

  feed_tail : (tail : Bytes) → feed ++ tail ≡ is.raw ++ 0x0a ∷ tail
  feed_tail tail = append_assoc is.raw (0x0a ∷ []) tail

  line_run : (judge : Judge) (terms : Terms) (state : State) (m : ℕ) (tail : Bytes)
      → run_from judge terms (listening state) (length feed + m) (feed ++ tail) ≡ run_from judge terms (heard judge terms (listening state) is.raw) m tail
  line_run judge terms state m tail =
      let long : length feed ≡ length is.raw + 1 = length-append is.raw (0x0a ∷ []) in
      ap (λ (n : ℕ). run_from judge terms (listening state) n (feed ++ tail)) (let e : length feed + m ≡ length is.raw + 1 + m = omega arith in e)
      ∙ ap (λ (w : Bytes). run_from judge terms (listening state) (length is.raw + 1 + m) w) (feed_tail tail)
      ∙ line_heard judge terms (listening state) (length is.raw + 1 + m) (is.raw ++ 0x0a ∷ tail) text m tail (is_line m tail)

  said_is : (says : Spoken) → says ≡ spoken_by text → says ≡ spoken is.raw
  said_is says same = same ∙ ap spoken_by is.kept_text

  -- a line that begins no block
  pub line_leads : (said : Line) (other : Option Bytes) → spoken_as said ≡ spoken_by text → begins_block (spoken_by text) ≡ false
      → Leads listening (asking_of (ask.Line said) other) most input most_behind behind
  line_leads said other says none =
      let says_raw : spoken_by text ≡ spoken is.raw = ap spoken_by is.kept_text in
      let asks : asking_of (ask.Line said) other ≡ OfLine (asked_by (spoken is.raw)) = line_asks said (spoken_by text) other is.raw says says_raw in
      let long : length feed ≡ length is.raw + 1 = length-append is.raw (0x0a ∷ []) in
      let counted = is.count in
      subst (λ (a : Asking). Leads listening a most input most_behind behind) (sym asks) (record {
        consumed = feed;
        split = is.split ∙ sym (feed_tail behind);
        count = omega arith;
        leads = λ judge terms state m tail.
            line_run judge terms state m tail
            ∙ ap (λ (h : Hearing). run_from judge terms h m tail) (plain_heard judge terms state is.raw (ap begins_block (sym says_raw) ∙ none));
      })

  module _ (begins : begins_block (spoken_by text) ≡ true) where
    begins_raw : begins_block (spoken is.raw) ≡ true
    begins_raw = ap (λ (t : Option Bytes). begins_block (spoken_by t)) (sym is.kept_text) ∙ begins

    within_run : (judge : Judge) (terms : Terms) (state : State) (m : ℕ) (tail : Bytes)
        → run_from judge terms (listening state) (length feed + m) (feed ++ tail) ≡ run_from judge terms (within state []) m tail
    within_run judge terms state m tail =
        line_run judge terms state m tail ∙ ap (λ (h : Hearing). run_from judge terms h m tail) (block_begins judge terms state is.raw begins_raw)

    split_is : input ≡ feed ++ behind
    split_is = is.split ∙ sym (feed_tail behind)

    count_is : most ≡ length feed + most_behind
    count_is =
        let long : length feed ≡ length is.raw + 1 = length-append is.raw (0x0a ∷ []) in
        let counted = is.count in
        omega arith

    -- the whole input, as it goes on behind the line
    whole_run : (judge : Judge) (terms : Terms) (state : State) → run_from judge terms (listening state) most input ≡ run_from judge terms (within state []) most_behind behind
    whole_run judge terms state =
        ap (λ (n : ℕ). run_from judge terms (listening state) n input) count_is ∙ ap (λ (w : Bytes). run_from judge terms (listening state) (length feed + most_behind) w) split_is
        ∙ within_run judge terms state most_behind behind

    -- a line that begins a block, and that block
    pub block_leads : (asking : Asking) (most_last : ℕ) (last : Bytes) → Leads at_block asking most_behind behind most_last last → Leads listening asking most input most_last last
    block_leads asking most_last last leads =
        let both : length (feed ++ leads.consumed) ≡ length feed + length leads.consumed = length-append feed leads.consumed in
        let one = count_is in
        let two = leads.count in
        record {
          consumed = feed ++ leads.consumed;
          split = split_is ∙ ap (λ (w : Bytes). feed ++ w) leads.split ∙ sym (append_assoc feed leads.consumed last);
          count = omega arith;
          leads = λ judge terms state m tail.
              ap (λ (n : ℕ). run_from judge terms (listening state) n ((feed ++ leads.consumed) ++ tail))
              (let e : length (feed ++ leads.consumed) + m ≡ length feed + (length leads.consumed + m) = omega arith in e)
              ∙ ap (λ (w : Bytes). run_from judge terms (listening state) (length feed + (length leads.consumed + m)) w) (append_assoc feed leads.consumed tail)
              ∙ within_run judge terms state (length leads.consumed + m) (leads.consumed ++ tail)
              ∙ leads.leads judge terms state m tail;
        }

    pub block_closes : (asking : Asking) → Closes at_block asking most_behind behind → Closes listening asking most input
    block_closes asking closes = λ judge terms state. whole_run judge terms state ∙ closes judge terms state

    pub block_cut : IsCut at_block most_behind behind → IsCut listening most input
    block_cut cut = λ judge terms state. whole_run judge terms state ∙ cut judge terms state

    pub block_part : (last : Bytes) → IsPart at_block behind last → IsPart listening input last
    block_part last part =
        let both : length (feed ++ part.part) ≡ length feed + length part.part = length-append feed part.part in
        record {
          part = feed ++ part.part;
          split = split_is ∙ ap (λ (w : Bytes). feed ++ w) part.split ∙ sym (append_assoc feed part.part last);
          cut = λ judge terms state.
              ap (λ (n : ℕ). run_from judge terms (listening state) n (feed ++ part.part)) both
              ∙ within_run judge terms state (length part.part) part.part ∙ part.cut judge terms state;
        }

-- ---- the last line

module _ (most : ℕ) (line : Bytes) (text : Option Bytes) (is : IsLast most line text) where
  last_run : (judge : Judge) (terms : Terms) (state : State) → run_from judge terms (listening state) most line ≡ at_end (finished terms.limits (heard judge terms (listening state) line))
  last_run judge terms state = last_heard judge terms (listening state) most line text is

  pub last_closes : (said : Line) (other : Option Bytes) → spoken_as said ≡ spoken_by text → begins_block (spoken_by text) ≡ false → Closes listening (asking_of (ask.Line said) other) most line
  last_closes said other says none =
      let says_raw : spoken_by text ≡ spoken line = ap spoken_by is.kept_text in
      let asks : asking_of (ask.Line said) other ≡ OfLine (asked_by (spoken line)) = line_asks said (spoken_by text) other line says says_raw in
      subst (λ (a : Asking). Closes listening a most line) (sym asks)
      (λ judge terms state. last_run judge terms state
      ∙ ap (λ (h : Hearing). at_end (finished terms.limits h)) (plain_heard judge terms state line (ap begins_block (sym says_raw) ∙ none)))

  pub last_unfinished : (other : Option Bytes) → begins_block (spoken_by text) ≡ true → Closes listening (asking_of ask.Unfinished other) most line
  last_unfinished other begins = λ judge terms state.
      last_run judge terms state
      ∙ ap (λ (h : Hearing). at_end (finished terms.limits h)) (block_begins judge terms state line (ap (λ (t : Option Bytes). begins_block (spoken_by t)) (sym is.kept_text) ∙ begins))

-- ---- part of a line, and part of a block

pub cut_line : (most : ℕ) (line : Bytes) → IsTooMuch most line → IsCut listening most line
cut_line most line is = λ judge terms state. part_heard judge terms (listening state) most line is

pub part_line : (line behind : Bytes) → words.IsPart line behind → IsPart listening line behind
part_line line behind is = record {
  part = is.part;
  split = is.split;
  cut = cut_line (length is.part) is.part (record { part = is.part; rest = []; no_feed = is.no_feed; split = sym (append-nil is.part); count = refl });
}

pub part_block : (line behind : Bytes) → IsBlockPart line behind → IsPart at_block line behind
part_block line behind is =
    let taken : Bytes = text_of_lines is.inner ++ is.part in
    record {
      part = taken;
      split = is.split ∙ sym (append_assoc (text_of_lines is.inner) is.part behind);
      cut = λ judge terms state. block_part_heard judge terms state (length taken) taken (record {
        inner = is.inner;
        part = is.part;
        rest = [];
        all_inner = is.all_inner;
        no_feed = is.no_feed;
        split = ap (λ (w : Bytes). text_of_lines is.inner ++ w) (sym (append-nil is.part));
        count = sym (length-append (text_of_lines is.inner) is.part);
      });
    }

-- a block at the front
pub leads_block : (most : ℕ) (line : Bytes) (text : Option Bytes) (most_behind : ℕ) (behind : Bytes) → IsBlock most line text most_behind behind → Leads at_block (OfBlock text) most line most_behind behind
leads_block most line text most_behind behind is =
    let consumed : Bytes = text_of_lines is.inner ++ (is.closing ++ 0x0a ∷ []) in
    let before : (tail : Bytes) → consumed ++ tail ≡ text_of_lines is.inner ++ (is.closing ++ 0x0a ∷ tail)
    = λ tail. append_assoc (text_of_lines is.inner) (is.closing ++ 0x0a ∷ []) tail ∙ ap (λ (w : Bytes). text_of_lines is.inner ++ w) (append_assoc is.closing (0x0a ∷ []) tail) in
    let one : length consumed ≡ length (text_of_lines is.inner) + length (is.closing ++ 0x0a ∷ []) = length-append (text_of_lines is.inner) (is.closing ++ 0x0a ∷ []) in
    let two : length (is.closing ++ 0x0a ∷ []) ≡ length is.closing + 1 = length-append is.closing (0x0a ∷ []) in
    let counted = is.count in
    record {
      consumed = consumed;
      split = is.split ∙ sym (before behind);
      count = omega arith;
      leads = λ judge terms state m tail.
          ap (λ (w : Bytes). run_from judge terms (within state []) (length consumed + m) w) (before tail)
          ∙ block_heard judge terms state (length consumed + m) (text_of_lines is.inner ++ (is.closing ++ 0x0a ∷ tail)) text m tail (record {
            inner = is.inner;
            closing = is.closing;
            all_inner = is.all_inner;
            no_feed = is.no_feed;
            closes_it = is.closes_it;
            split = refl;
            count = let e : length consumed + m ≡ length (text_of_lines is.inner) + length is.closing + 1 + m = omega arith in e;
            kept_text = is.kept_text;
          });
    }

-- ---- steps

module _ {I : Type 0} (i : Ghosts I) where
  -- a block that was taken
  pub closed_finds : (left : Option Bytes) (most : ℕ) (new : Lines) (in_new : I) → FindsBlock i (Ok block.Closed) left most new in_new → FindsInBlock i (Ok (More ask.Script)) left most new in_new
  closed_finds left most new in_new finds =
      told_as (λ line behind. IsBlock most line (text_of new) (most_of new) behind) (λ line behind. Leads at_block (OfBlock (text_of new)) most line (most_of new) behind)
      (λ line behind is. leads_block most line (text_of new) (most_of new) behind is) left (left_of i new in_new) finds

  pub closed_last_finds : (left : Option Bytes) (most : ℕ) (new : Lines) (in_new : I) → FindsBlock i (Ok block.ClosedLast) left most new in_new → FindsInBlock i (Ok (Last ask.Script)) left most new in_new
  closed_last_finds left most new in_new finds =
      told_as (λ line behind. IsLastBlock most line (text_of new) × (behind ≡ [])) (λ line behind. Closes at_block (OfBlock (text_of new)) most line × (behind ≡ []))
      (λ line behind is. (λ judge terms state. last_block_heard judge terms state most line (text_of new) is.0, is.1)) left (left_of i new in_new) finds

  pub unfinished_finds : (left : Option Bytes) (most : ℕ) (new : Lines) (in_new : I) → FindsBlock i (Ok block.Unfinished) left most new in_new → FindsInBlock i (Ok (Last ask.Unfinished)) left most new in_new
  unfinished_finds left most new in_new finds =
      told_as (λ line behind. IsUnfinished most line × (behind ≡ [])) (λ line behind. Closes at_block (OfLine (Some (refuses_words UnfinishedScript))) most line × (behind ≡ []))
      (λ line behind is. (λ judge terms state. unfinished_heard judge terms state most line is.0, is.1)) left (left_of i new in_new) finds

  pub too_much_finds : (left : Option Bytes) (most : ℕ) (new : Lines) (in_new : I) → FindsBlock i (Ok block.TooMuch) left most new in_new → FindsInBlock i (Ok TooMuch) left most new in_new
  too_much_finds left most new in_new finds = λ line there judge terms state. block_part_heard judge terms state most line (finds line there)

  pub fault_finds : (fault : InputFault) (left : Option Bytes) (most : ℕ) (new : Lines) (in_new : I) → FindsBlock i (Err fault) left most new in_new → Told (IsPart at_block) left (i.left in_new)
  fault_finds fault left most new in_new finds = told_as IsBlockPart (IsPart at_block) part_block left (i.left in_new) finds

  -- a line that was taken
  module _ (left : Option Bytes) (most : ℕ) (mid : Lines) (in_mid : I) (found : Finds i (Ok step.Line) left most mid in_mid) where
    abbrev Line_at : Bytes → Bytes → Type 0
    Line_at line behind = IsLine most line (text_of mid) (most_of mid) behind

    pub line_finds : (said : Line) → spoken_as said ≡ spoken_by (text_of mid) → begins_block (spoken_by (text_of mid)) ≡ false → FindsNext i (Ok (More (ask.Line said))) left most mid in_mid
    line_finds said says none =
        told_as Line_at (λ line behind. Leads listening (asking_of (ask.Line said) (text_of mid)) most line (most_of mid) behind)
        (λ line behind is. line_leads most line (text_of mid) (most_of mid) behind is said (text_of mid) says none) left (left_of i mid in_mid) found

    -- a block behind the line that begins it
    pub behind_line : begins_block (spoken_by (text_of mid)) ≡ true → (result : Result Next Stop) (new : Lines) (in_new : I) → FindsInBlock i result (left_of i mid in_mid) (most_of mid) new in_new → FindsNext i result left most new in_new
    behind_line begins (Ok (More asked)) new in_new finds =
        told_then Line_at (λ line behind. Leads at_block (asking_of asked (text_of new)) (most_of mid) line (most_of new) behind) (λ line behind. Leads listening (asking_of asked (text_of new)) most line (most_of new) behind)
        (λ line rest behind is leads. block_leads most line (text_of mid) (most_of mid) rest is begins (asking_of asked (text_of new)) (most_of new) behind leads)
        left (left_of i mid in_mid) (left_of i new in_new) found finds
    behind_line begins (Ok (Last asked)) new in_new finds =
        told_then Line_at (λ line behind. Closes at_block (asking_of asked (text_of new)) (most_of mid) line × (behind ≡ [])) (λ line behind. Closes listening (asking_of asked (text_of new)) most line × (behind ≡ []))
        (λ line rest behind is closes. (block_closes most line (text_of mid) (most_of mid) rest is begins (asking_of asked (text_of new)) closes.0, closes.1))
        left (left_of i mid in_mid) (left_of i new in_new) found finds
    behind_line begins (Ok TooMuch) new in_new finds =
        told_for Line_at (IsCut at_block (most_of mid)) (IsCut listening most) (λ line rest is cut. block_cut most line (text_of mid) (most_of mid) rest is begins cut) left (left_of i mid in_mid) found finds
    behind_line begins (Err stop) new in_new finds = λ is.
        told_then Line_at (IsPart at_block) (IsPart listening) (λ line rest behind is part. block_part most line (text_of mid) (most_of mid) rest is begins behind part)
        left (left_of i mid in_mid) (i.left in_new) found (finds is)

  module _ (left : Option Bytes) (most : ℕ) (mid : Lines) (in_mid : I) (found : Finds i (Ok step.Last) left most mid in_mid) where
    abbrev Last_at : Bytes → Bytes → Type 0
    Last_at line behind = IsLast most line (text_of mid) × (behind ≡ [])

    pub last_finds : (said : Line) → spoken_as said ≡ spoken_by (text_of mid) → begins_block (spoken_by (text_of mid)) ≡ false → FindsNext i (Ok (Last (ask.Line said))) left most mid in_mid
    last_finds said says none =
        told_as Last_at (λ line behind. Closes listening (asking_of (ask.Line said) (text_of mid)) most line × (behind ≡ []))
        (λ line behind is. (last_closes most line (text_of mid) is.0 said (text_of mid) says none, is.1)) left (left_of i mid in_mid) found

    pub last_block_finds : begins_block (spoken_by (text_of mid)) ≡ true → FindsNext i (Ok (Last ask.Unfinished)) left most mid in_mid
    last_block_finds begins =
        told_as Last_at (λ line behind. Closes listening (asking_of ask.Unfinished (text_of mid)) most line × (behind ≡ []))
        (λ line behind is. (last_unfinished most line (text_of mid) is.0 (text_of mid) begins, is.1)) left (left_of i mid in_mid) found

  pub much_finds : (left : Option Bytes) (most : ℕ) (mid : Lines) (in_mid : I) → Finds i (Ok step.TooMuch) left most mid in_mid → FindsNext i (Ok TooMuch) left most mid in_mid
  much_finds left most mid in_mid found = λ line there. cut_line most line (found line there)

  pub broken_finds : (fault : InputFault) (left : Option Bytes) (most : ℕ) (mid : Lines) (in_mid : I) → Finds i (Err fault) left most mid in_mid → Told (IsPart listening) left (i.left in_mid)
  broken_finds fault left most mid in_mid found = told_as words.IsPart (IsPart listening) part_line left (i.left in_mid) found

  -- ---- how much was taken

  -- two steps, of which the first took a line
  pub takes_on : (result : Result Step InputFault) (old mid new : Lines) (in_old in_mid in_new : I) → Takes i (Ok step.Line) old in_old mid in_mid → Takes i result mid in_mid new in_new → Takes i result old in_old new in_new
  takes_on result old mid new in_old in_mid in_new first second =
      let going = going_line i old old mid in_old in_old in_mid (going_start i old in_old) first in
      let same : i.faults in_mid ≡ i.faults in_old = going.faults in
      let one = first.room in
      let two = second.room in
      record {
        cause = record {
          later = subst (λ (n : ℕ). n ≤ i.faults in_new) same second.cause.later;
          failed = λ is. subst (λ (n : ℕ). Rose n (i.faults in_new)) same (second.cause.failed is);
          quiet = λ other. second.cause.quiet other ∙ same;
        };
        room = omega arith;
        taken = taken_on i old mid new in_old in_mid in_new going result second;
        too_much = second.too_much;
        last = second.last;
        not_last = λ is. fresh_on i old mid new in_old in_mid in_new going going.fresh (second.not_last is);
      }

  -- there was no memory to read what was taken
  pub takes_memory : (taken : Step) (old new : Lines) (in_old in_new : I) → Takes i (Ok taken) old in_old new in_new → Takes i (Err input.Memory) old in_old new in_new
  takes_memory taken old new in_old in_new takes = record {
    cause = record { later = takes.cause.later; failed = λ is. absurd (cc); quiet = λ _. takes.cause.quiet (λ is. cc) };
    room = takes.room;
    taken = takes.taken;
    too_much = λ is. absurd (cc);
    last = λ is. absurd (cc);
    not_last = λ is. elim is [ inl it ↦ absurd (cc) | inr it ↦ absurd (cc) ];
  }

  -- the fault of the input, as the end of the run
  pub fault_same : (fault : InputFault) → fault_of (stop_by_input fault) ≡ fault
  fault_same input.Source = refl
  fault_same input.Memory = refl

  pub takes_fault : (fault : InputFault) (stop : Stop) (old new : Lines) (in_old in_new : I) → stop ≡ stop_by_input fault → Takes i (Err fault) old in_old new in_new → Takes i (step_of (Err stop)) old in_old new in_new
  takes_fault fault stop old new in_old in_new is takes =
      subst (λ (f : InputFault). Takes i (Err f) old in_old new in_new) (sym (ap fault_of is ∙ fault_same fault)) takes

-- behind two steps fewer bytes count
pub shortens_on : (result : Result Step InputFault) (old mid new : Lines) → Shortens (Ok step.Line) old mid → Shortens result mid new → Shortens result old new
shortens_on result old mid new first second = λ is.
    let one = first refl in
    let two = second is in
    omega arith
