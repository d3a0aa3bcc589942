-- The steps of taking a block from a source.
use Rattle.std.proofs.Common.{◌≡◌, ℕ, inl, true, false, [], length, Option, Some, None, Ok, refl, sym, ap, subst, ◌∙◌, arith}
use Rattle.std.specs.Option.{ForSome}
use Rattle.uq_outside.specs.Stops.{Told}
use Rattle.uq_outside.specs.declared.source.Source.{Ghosts}
use Rattle.uq_value.specs.Data.{Bytes}
use Rattle.uq_words.specs.Blocks.{IsBlockBy, IsBlockPart, IsBlockTooMuch, IsLastBlockBy, IsUnfinished, no_text}
use Rattle.uq_words.specs.Lines.{IsLineWithin, IsPart, IsTooMuch}
use Rattle.uq_words.specs.Taking.{FindsWithin, Going, Takes, left_of, most_of, pending, text_of}
use Rattle.uq_words.specs.TakingBlocks.{ArePassed, Drops, FindsBlockBy, FindsInner, is_dot}
use Rattle.uq_words.specs.declared.blocks.BlockStep.{BlockStep}
use Rattle.uq_words.specs.declared.blocks.BlockStep.TheVariants as block
use Rattle.uq_words.specs.declared.lines.Lines.{Lines}
use Rattle.uq_words.specs.declared.lines.Step.{Step}
use Rattle.uq_words.specs.declared.lines.Step.TheVariants.{Line, TooMuch}
use Rattle.uq_words.proofs.Advancing.{unkept}
use Rattle.uq_words.proofs.InnerLines.{block_behind, dot_closes, last_behind, line_closes, line_passes, part_behind, part_line, passed_both, passed_none, too_much_behind, too_much_line, unfinished_behind}
use Rattle.uq_words.proofs.Pieces.{before}

-- ---- told

told_map : (R S : Bytes → Bytes → Type 0) → ((x y : Bytes) → R x y → S x y) → (a b : Option Bytes) → Told R a b → Told S a b
told_map R S step None None told = tt
told_map R S step None (Some y) told = absurd told
told_map R S step (Some x) None told = absurd told
told_map R S step (Some x) (Some y) told = step x y told

told_both : (R S T : Bytes → Bytes → Type 0) → ((x y z : Bytes) → R x y → S y z → T x z) → (a b c : Option Bytes) → Told R a b → Told S b c → Told T a c
told_both R S T step None None None first second = tt
told_both R S T step None None (Some z) first second = absurd second
told_both R S T step None (Some y) c first second = absurd first
told_both R S T step (Some x) None c first second = absurd first
told_both R S T step (Some x) (Some y) None first second = absurd second
told_both R S T step (Some x) (Some y) (Some z) first second = step x y z first second

told_some : (R : Bytes → Bytes → Type 0) (P Q : Bytes → Type 0) → ((x y : Bytes) → R x y → P y → Q x) → (a b : Option Bytes) → Told R a b → ForSome b P → ForSome a Q
told_some R P Q step None b first all = λ x is. absurd (cc)
told_some R P Q step (Some x) None first all = absurd first
told_some R P Q step (Some x) (Some y) first all = λ z is. subst Q (let same : x ≡ z = cc in same) (step x y first (all y refl))

some_map : (P Q : Bytes → Type 0) → ((x : Bytes) → P x → Q x) → (a : Option Bytes) → ForSome a P → ForSome a Q
some_map P Q step a all = λ x is. step x (all x is)

module _ {I : Type 0} (i : Ghosts I) where
  -- ---- a line that is not kept

  module _ (it new : Lines) (input : I) (drops : Drops it new) where
    drops_left : left_of i it input ≡ left_of i new input
    drops_left = ap (λ (w : Bytes). before w (i.left input)) (sym drops.pending)

    drops_most : most_of it ≡ most_of new
    drops_most =
        let same : length (pending new) ≡ length (pending it) = ap length drops.pending in
        let room = drops.room in
        omega arith

    pub dot_found : (step : Step) (left : Option Bytes) (most : ℕ) → step ≡ Line → FindsWithin i 1 (Ok step) left most it input → true ≡ is_dot (text_of it)
        → FindsBlockBy i no_text (Ok block.Closed) left most new input
    dot_found step left most is finds dot =
        subst (λ (l : Option Bytes). Told (λ x y. IsBlockBy no_text most x (text_of new) (most_of new) y) left l) drops_left
        (subst (λ (n : ℕ). Told (λ x y. IsBlockBy no_text most x (text_of new) n y) left (left_of i it input)) drops_most
        (subst (λ (t : Option Bytes). Told (λ x y. IsBlockBy no_text most x t (most_of it) y) left (left_of i it input)) (sym (unkept new drops.text))
        (told_map (λ x y. IsLineWithin 1 most x (text_of it) (most_of it) y) (λ x y. IsBlockBy no_text most x None (most_of it) y)
        (λ x y line. line_closes 1 most x (text_of it) (most_of it) y line (sym (dot ∙ dot_closes line.raw (text_of it) line.kept_text)))
        left (left_of i it input) (subst (λ (s : Step). FindsWithin i 1 (Ok s) left most it input) is finds))))

    pub inner_found : (step : Step) (left : Option Bytes) (most : ℕ) → step ≡ Line → FindsWithin i 1 (Ok step) left most it input → false ≡ is_dot (text_of it)
        → FindsInner i (Ok None) left most new input
    inner_found step left most is finds dot =
        subst (λ (l : Option Bytes). Told (λ x y. ArePassed most x (most_of new) y) left l) drops_left
        (subst (λ (n : ℕ). Told (λ x y. ArePassed most x n y) left (left_of i it input)) drops_most
        (told_map (λ x y. IsLineWithin 1 most x (text_of it) (most_of it) y) (λ x y. ArePassed most x (most_of it) y)
        (λ x y line. line_passes 1 most x (text_of it) (most_of it) y line (sym (dot ∙ dot_closes line.raw (text_of it) line.kept_text)))
        left (left_of i it input) (subst (λ (s : Step). FindsWithin i 1 (Ok s) left most it input) is finds)))

  pub too_much_found : (step : Step) (left : Option Bytes) (most : ℕ) (it : Lines) (input : I) → step ≡ TooMuch → FindsWithin i 1 (Ok step) left most it input → ForSome left (λ x. IsBlockTooMuch most x)
  too_much_found step left most it input is finds =
      some_map (λ x. IsTooMuch most x) (λ x. IsBlockTooMuch most x) (too_much_line most) left (subst (λ (s : Step). FindsWithin i 1 (Ok s) left most it input) is finds)

  pub part_found : (left behind : Option Bytes) → Told IsPart left behind → Told IsBlockPart left behind
  part_found left behind finds = told_map IsPart IsBlockPart part_line left behind finds

  -- ---- a block goes on behind lines that were passed

  pub passed_here : (most : ℕ) (left : Option Bytes) → Told (λ x y. ArePassed most x most y) left left
  passed_here most None = tt
  passed_here most (Some x) = passed_none most x

  pub passed_on : (most most_mid most_new : ℕ) (left mid behind : Option Bytes) → Told (λ x y. ArePassed most x most_mid y) left mid → Told (λ x y. ArePassed most_mid x most_new y) mid behind
      → Told (λ x y. ArePassed most x most_new y) left behind
  passed_on most most_mid most_new left mid behind =
      told_both (λ x y. ArePassed most x most_mid y) (λ x y. ArePassed most_mid x most_new y) (λ x y. ArePassed most x most_new y)
      (λ x y z first second. passed_both most x most_mid y most_new z first second) left mid behind

  -- what is found behind them is found from the start
  pub found_behind : (ends : BlockStep) (left mid : Option Bytes) (most most_mid : ℕ) (new : Lines) (in_new : I) → Told (λ x y. ArePassed most x most_mid y) left mid
      → FindsBlockBy i no_text (Ok ends) mid most_mid new in_new → FindsBlockBy i no_text (Ok ends) left most new in_new
  found_behind block.Closed left mid most most_mid new in_new passed found =
      told_both (λ x y. ArePassed most x most_mid y) (λ x y. IsBlockBy no_text most_mid x (text_of new) (most_of new) y) (λ x y. IsBlockBy no_text most x (text_of new) (most_of new) y)
      (λ x y z first second. block_behind most x most_mid y first no_text (text_of new) (text_of new) (most_of new) z second second.kept_text) left mid (left_of i new in_new) passed found
  found_behind block.ClosedLast left mid most most_mid new in_new passed found =
      told_both (λ x y. ArePassed most x most_mid y) (λ x y. IsLastBlockBy no_text most_mid x (text_of new) × (y ≡ [])) (λ x y. IsLastBlockBy no_text most x (text_of new) × (y ≡ []))
      (λ x y z first second. (last_behind most x most_mid y first no_text (text_of new) (text_of new) second.0 second.0.kept_text, second.1)) left mid (left_of i new in_new) passed found
  found_behind block.Unfinished left mid most most_mid new in_new passed found =
      told_both (λ x y. ArePassed most x most_mid y) (λ x y. IsUnfinished most_mid x × (y ≡ [])) (λ x y. IsUnfinished most x × (y ≡ []))
      (λ x y z first second. (unfinished_behind most x most_mid y first second.0, second.1)) left mid (left_of i new in_new) passed found
  found_behind block.TooMuch left mid most most_mid new in_new passed found =
      told_some (λ x y. ArePassed most x most_mid y) (IsBlockTooMuch most_mid) (IsBlockTooMuch most)
      (λ x y first is. too_much_behind most x most_mid y first is) left mid passed found

  pub fault_behind : (left mid behind : Option Bytes) (most most_mid : ℕ) → Told (λ x y. ArePassed most x most_mid y) left mid → Told IsBlockPart mid behind → Told IsBlockPart left behind
  fault_behind left mid behind most most_mid =
      told_both (λ x y. ArePassed most x most_mid y) IsBlockPart IsBlockPart (λ x y z first is. part_behind most x most_mid y first z is) left mid behind

  -- ---- a line of the block takes so many bytes

  pub going_line : (it new : Lines) (in_old in_new : I) → Takes i (Ok Line) it in_old new in_new → Going i it in_old new in_new
  going_line it new in_old in_new takes = record {
    faults = takes.cause.quiet (λ is. absurd (cc));
    room = takes.room;
    taken = takes.taken;
    fresh = takes.not_last (inl refl);
  }
