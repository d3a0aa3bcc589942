-- Reading the definitions and statements of a program by a loop, and what is then known of all its tokens.
use Rattle.std.proofs.Common.{◌≡◌, ℕ, ◌-◌, ◌<◌, ltb, lt-ltb, ◌==◌, true, false, List, [], ◌∷◌, ◌++◌, length, take, slice_get, Ok, Err, refl, sym, ap, subst, ◌∙◌, append_assoc, append-nil, arith}
use Rattle.std.proofs.lemmas.Bool.{ne_eqb}
use Rattle.std.proofs.lemmas.List.{length-append}
use Rattle.jx9_syntax.specs.Grammar.{Item, Define, Run}
use Rattle.jx9_syntax.specs.Making.{Making}
use Rattle.jx9_syntax.specs.Nesting.{ProgramFits, most_nesting}
use Rattle.jx9_syntax.specs.Program.{definitions, statements_of, Trees, trees_of, IsProgramOf, IsTokens}
use Rattle.jx9_syntax.specs.declared.program.Function.{Function}
use Rattle.jx9_syntax.specs.declared.program.Named.{Named}
use Rattle.jx9_syntax.specs.declared.statement.Statement.{Statement}
use Rattle.jx9_parse.specs.Answers.{Stops}
use Rattle.jx9_parse.specs.Blames.{Blames, IsDeadIn, IsFaultAt}
use Rattle.jx9_parse.specs.Items.{item, items, parts, program_parts}
use Rattle.jx9_parse.specs.Pieces.{Parts, plus_item}
use Rattle.jx9_parse.specs.Reading.{Tokens, State, Read, ◌>>=◌, next_in}
use Rattle.jx9_parse.specs.Statements.{statement_begins}
use Rattle.jx9_parse.specs.declared.error.SyntaxFault.{SyntaxFault}
use Rattle.jx9_parse.specs.declared.error.SyntaxFault.TheVariants as fault
use Rattle.jx9_parse.specs.declared.parser.Parser.{Parser}
use Rattle.jx9_parse.specs.declared.stop.Stop.{Stop}
use Rattle.jx9_parse.specs.declared.stop.Stop.TheVariants as stop
use Rattle.jx9_parse.proofs.Unplaced.{Found}
use Rattle.jx9_parse.proofs.Placed.{at_state}
use Rattle.jx9_parse.proofs.ItemParts.{an_item}
use Rattle.jx9_parse.proofs.Loops.{Shrinks, part_shrinks, many_is, many_done}
use Rattle.jx9_parse.proofs.Programs.{the_body, is_read, is_only, is_dead, is_dead_behind, stops_in, stops_behind, body_is}
use Rattle.jx9_parse.proofs.RoomLaws.{room}
use Rattle.jx9_parse.proofs.StatementFits.{program_fits}

pub item_shrinks : Shrinks (item 199)
item_shrinks = part_shrinks (an_item 199 (room 199) (lt-ltb 0 199 (omega arith)))

-- what was read before, and what is still read
abbrev pub with_parts : Parts → Read Parts → Read Parts
with_parts front o = o >>= λ x. Ok ((front.0 ++ x.0.0, front.1 ++ x.0.1), x.1)

abbrev seen : Read (List Item) → Read Parts
seen o = o >>= λ x. Ok (parts x.0, x.1)

abbrev behind : Item → Read (List Item) → Read (List Item)
behind i o = o >>= λ y. Ok (i ∷ y.0, y.1)

regroup : (front : Parts) (i : Item) (o : Read (List Item)) → with_parts front (seen (behind i o)) ≡ with_parts (plus_item front i) (seen o)
regroup front (Define f) (Ok x) = ap (λ (w : List Named). Ok ((w, front.1 ++ statements_of x.0), x.1)) (sym (append_assoc front.0 (f ∷ []) (definitions x.0)))
regroup front (Run s) (Ok x) = ap (λ (w : List Statement). Ok ((front.0 ++ definitions x.0, w), x.1)) (sym (append_assoc front.1 (s ∷ []) (statements_of x.0)))
regroup front i (Err ts) = refl

abbrev turn : Read Item → Read (List Item)
turn o = o >>= λ x. items 199 x.1 >>= λ y. Ok (x.0 ∷ y.0, y.1)

items_are : (s : State) → next_in statement_begins s.tokens ≡ true → items 199 s ≡ turn (item 199 s)
items_are s e = many_is statement_begins (item 199) item_shrinks s e

pub parts_go_on : (front : Parts) (s : State) (x : Item × State) (total : Read Parts) → next_in statement_begins s.tokens ≡ true → item 199 s ≡ Ok x → with_parts front (program_parts s) ≡ total
    → with_parts (plus_item front x.0) (program_parts x.1) ≡ total
parts_go_on front s x total next is so_far = sym (regroup front x.0 (items 199 x.1)) ∙ sym (ap (λ (o : Read (List Item)). with_parts front (seen o)) (items_are s next ∙ ap turn is)) ∙ so_far

pub parts_stop : (front : Parts) (s : State) (total : Read Parts) (e : Stop) (p : Parser) → next_in statement_begins s.tokens ≡ true → Stops e p (item 199 s) → with_parts front (program_parts s) ≡ total → Stops e p total
parts_stop front s total stop.Memory p next h so_far = tt
parts_stop front s total stop.Dead p next h so_far = sym so_far ∙ ap (λ (o : Read (List Item)). with_parts front (seen o)) (items_are s next ∙ ap turn h)

pub parts_end : (front : Parts) (s : State) (total : Read Parts) → next_in statement_begins s.tokens ≡ false → with_parts front (program_parts s) ≡ total → total ≡ Ok (front, s)
parts_end front s total next so_far = sym so_far ∙ ap (λ (o : Read (List Item)). with_parts front (seen o)) (many_done statement_begins (item 199) item_shrinks s next)
    ∙ ap (λ (w : List Named). Ok ((w, front.1 ++ []), s)) (append-nil front.0) ∙ ap (λ (w : List Statement). Ok ((front.0, w), s)) (append-nil front.1)

pub parts_begin : (o : Read Parts) → with_parts ([], []) o ≡ o
parts_begin (Ok x) = refl
parts_begin (Err ts) = refl

-- ---- whether tokens are left

pub some_left : (ts : Tokens) → false ≡ (length ts == 0) → ts ≡ [] → ⊥
some_left [] e h = absurd (different e)
  where
    different : false ≡ true → ⊥
    different e = cc
some_left (t ∷ ts) e h = not_nil h
  where
    not_nil : t ∷ ts ≡ [] → ⊥
    not_nil e = cc

pub none_left : (ts : Tokens) → true ≡ (length ts == 0) → ts ≡ []
none_left [] e = refl
none_left (t ∷ ts) e = absurd (different (e ∙ ne_eqb (length (t ∷ ts)) 0 some))
  where
    different : true ≡ false → ⊥
    different e = cc

    some : length (t ∷ ts) ≡ 0 → ⊥
    some h = omega (arith, h)

-- where reading stops, by the answer
pub dead_read : (e : Stop) (p : Parser) (o : Read Parts) → e ≡ stop.Dead → Stops e p o → o ≡ Err p.tokens.now
dead_read e p o is g = subst (λ (f : Stop). Stops f p o) is g

-- ---- all tokens

abbrev pub start : Tokens → State
start ts = record { tokens = ts; number = 0; lambdas = [] }

abbrev pub all_of : Parts → State → Trees
all_of ps s = record { functions = ps.0; lambdas = s.lambdas; statements = ps.1 }

-- what was read, by what it makes
record IsRead (body : Tokens) (ps : Parts) (s : State) : Type 0 where
  m : Making (List Item)
  reads : the_body.reads body ≡ Ok (m, s.tokens)
  makes : trees_of (m 0 1) ≡ all_of ps s

read_by : (body : Tokens) (ps : Parts) (s : State) → program_parts (start body) ≡ Ok (ps, s) → IsRead body ps s
read_by body ps s e = by (the_body.reads body) refl (sym (ap seen (the_body.runs (start body))) ∙ e)
  where
    not_ok : {ts : Tokens} → ◌≡◌ {A = Read Parts} (Err ts) (Ok (ps, s)) → ⊥
    not_ok e = cc

    pair_is : (y : Parts × State) → ◌≡◌ {A = Read Parts} (Ok y) (Ok (ps, s)) → y ≡ (ps, s)
    pair_is y e = cc

    by : (o : Found (Making (List Item))) → the_body.reads body ≡ o → seen (at_state (start body) o) ≡ Ok (ps, s) → IsRead body ps s
    by (Err ts) is h = absurd (not_ok h)
    by (Ok x) is h =
        let q = pair_is _ h in
        record {
          m = x.0;
          reads = is ∙ ap (λ (z : Parts × State). Ok (x.0, z.1.tokens)) q;
          makes = ap (λ (z : Parts × State). all_of z.0 z.1) q;
        }

stopped_by : (body rest : Tokens) → program_parts (start body) ≡ Err rest → the_body.reads body ≡ Err rest
stopped_by body rest e = by (the_body.reads body) refl (sym (ap seen (the_body.runs (start body))) ∙ e)
  where
    not_err : {y : Parts × State} → ◌≡◌ {A = Read Parts} (Ok y) (Err rest) → ⊥
    not_err e = cc

    rest_is : (us : Tokens) → ◌≡◌ {A = Read Parts} (Err us) (Err rest) → us ≡ rest
    rest_is us e = cc

    by : (o : Found (Making (List Item))) → the_body.reads body ≡ o → seen (at_state (start body) o) ≡ Err rest → the_body.reads body ≡ Err rest
    by (Err ts) is h = is ∙ ap Err (rest_is ts h)
    by (Ok x) is h = absurd (not_err h)

module _ (tokens : Tokens) (is : IsTokens tokens) where
  abbrev body : Tokens
  body = take (length tokens - 1) tokens

  at_body : (o : Read Parts) → program_parts (start body) ≡ o → program_parts (start is.body) ≡ o
  at_body o e = ap (λ (ts : Tokens). program_parts (start ts)) (sym (body_is tokens is)) ∙ e

  reads_all : (ps : Parts) (s : State) → program_parts (start body) ≡ Ok (ps, s) → s.tokens ≡ [] → (r : IsRead is.body ps s) × (the_body.reads is.body ≡ Ok (r.m, []))
  reads_all ps s e none = let r = read_by is.body ps s (at_body (Ok (ps, s)) e) in (r, r.reads ∙ ap (λ (ts : Tokens). Ok (r.m, ts)) none)

  pub found_is : (ps : Parts) (s : State) → program_parts (start body) ≡ Ok (ps, s) → s.tokens ≡ [] → IsProgramOf tokens (all_of ps s)
  found_is ps s e none = let r = reads_all ps s e none in subst (λ (t : Trees). IsProgramOf tokens t) r.0.makes (is_read tokens is r.0.m r.1)

  pub only_is : (ps : Parts) (s : State) → program_parts (start body) ≡ Ok (ps, s) → s.tokens ≡ [] → (others : Trees) → IsProgramOf tokens others → others ≡ all_of ps s
  only_is ps s e none others p = let r = reads_all ps s e none in is_only tokens is r.0.m others r.1 p ∙ r.0.makes

  pub fits_is : (ps : Parts) (s : State) → program_parts (start body) ≡ Ok (ps, s) → s.tokens ≡ [] → ProgramFits most_nesting ps.0 s.lambdas ps.1
  fits_is ps s e none =
      let p = found_is ps s e none in
      subst (λ (t : Trees). ProgramFits most_nesting t.functions t.lambdas t.statements) (sym p.makes) (program_fits p.items p.body p.reads)

  -- the parser begins with no lambdas
  pub from_start : (ls : List Function) (o : Read Parts) → ls ≡ [] → program_parts (record { tokens = body; number = 0; lambdas = ls }) ≡ o → program_parts (start body) ≡ o
  from_start ls o none e = subst (λ (fs : List Function). program_parts (record { tokens = body; number = 0; lambdas = fs }) ≡ o) none e

  used_up : (used rest : Tokens) → is.body ≡ used ++ rest → length rest < length tokens
  used_up used rest e =
      let count : length tokens ≡ length (is.body ++ is.last ∷ []) = ap length is.split in
      let some : length is.body ≡ length (used ++ rest) = ap length e in
      omega (arith, count, some, length-append is.body (is.last ∷ []), length-append used rest)

  -- what is left where reading stops, and behind what was read
  pub left_dead : (rest : Tokens) → program_parts (start body) ≡ Err rest → length rest < length tokens
  left_dead rest e = let s = stops_in is.body rest (stopped_by is.body rest (at_body (Err rest) e)) in used_up s.seen rest s.split

  pub left_behind : (ps : Parts) (s : State) → program_parts (start body) ≡ Ok (ps, s) → (s.tokens ≡ [] → ⊥) → length s.tokens < length tokens
  left_behind ps s e some = by s.tokens refl
    where
      by : (ts : Tokens) → s.tokens ≡ ts → length s.tokens < length tokens
      by [] is_ts = absurd (some is_ts)
      by (t ∷ ts) is_ts =
          let r = read_by is.body ps s (at_body (Ok (ps, s)) e) in
          let b = stops_behind is.body t ts r.m (r.reads ∙ ap (λ (us : Tokens). Ok (r.m, us)) is_ts) in
          subst (λ (us : Tokens). length us < length tokens) (sym is_ts) (used_up b.seen (t ∷ ts) b.split)

  pub dead_is : (rest : Tokens) (f : SyntaxFault) → program_parts (start body) ≡ Err rest → IsFaultAt tokens (length tokens - 1 - length rest) f → Blames tokens f
  dead_is rest (fault.Dead n line) e at = subst (λ (j : ℕ). IsDeadIn tokens j line) (sym at.0) (is_dead tokens is rest line (stopped_by is.body rest (at_body (Err rest) e)) at.1)
  dead_is rest fault.Memory e at = tt

  pub dead_behind : (ps : Parts) (s : State) (f : SyntaxFault) → program_parts (start body) ≡ Ok (ps, s) → (s.tokens ≡ [] → ⊥) → IsFaultAt tokens (length tokens - 1 - length s.tokens) f → Blames tokens f
  dead_behind ps s f e some at = by s.tokens refl f at
    where
      by : (ts : Tokens) → s.tokens ≡ ts → (f : SyntaxFault) → IsFaultAt tokens (length tokens - 1 - length s.tokens) f → Blames tokens f
      by ts is_ts fault.Memory at = tt
      by [] is_ts (fault.Dead n line) at = absurd (some is_ts)
      by (t ∷ ts) is_ts (fault.Dead n line) at =
          let r = read_by is.body ps s (at_body (Ok (ps, s)) e) in
          let here : length tokens - 1 - length s.tokens ≡ length tokens - 1 - length (t ∷ ts) = ap (λ (us : Tokens). length tokens - 1 - length us) is_ts in
          subst (λ (j : ℕ). IsDeadIn tokens j line) (sym (at.0 ∙ here))
          (is_dead_behind tokens is t ts r.m line (r.reads ∙ ap (λ (us : Tokens). Ok (r.m, us)) is_ts) (λ u h. at.1 u (ap (λ (j : ℕ). slice_get tokens j) here ∙ h)))
