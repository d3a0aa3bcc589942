-- What is read is the one program, and where reading stops the token is dead.
use Rattle.std.proofs.Common.{◌≡◌, ℕ, suc, ◌-◌, ◌+◌, ltb, lt-ltb, ◌⊎◌, inl, inr, List, [], ◌∷◌, ◌++◌, length, take, slice_get, Some, Ok, Err, refl, sym, ap, subst, ◌∙◌, append_assoc, append-nil, arith}
use Rattle.std.proofs.lemmas.List.{length-append}
use Rattle.jx9_syntax.specs.Grammar.{code, Rule, Repeat, Item, ItemWithin}
use Rattle.jx9_syntax.specs.Making.{Making, all_made}
use Rattle.jx9_syntax.specs.Nesting.{most_nesting}
use Rattle.jx9_syntax.specs.Program.{Trees, trees_of, IsProgramOf, NoEnd, IsTokens, IsDead}
use Rattle.jx9_syntax.specs.Words.{Many}
use Rattle.jx9_syntax.specs.declared.token.Token.{Token}
use Rattle.jx9_parse.specs.Blames.{IsDeadIn}
use Rattle.jx9_parse.specs.Items as reading
use Rattle.jx9_parse.specs.Reading.{Tokens}
use Rattle.jx9_parse.specs.Statements.{statement_begins}
use Rattle.jx9_parse.proofs.Unplaced.{Found}
use Rattle.jx9_parse.proofs.Laws.{Begins, SameNext, Finds, Stops, Told}
use Rattle.jx9_parse.proofs.Sets.{In}
use Rattle.jx9_parse.proofs.Parts.{Tail}
use Rattle.jx9_parse.proofs.Opens.{else_words}
use Rattle.jx9_parse.proofs.RoomLaws.{room}
use Rattle.jx9_parse.proofs.ItemParts.{the_items}
use Rattle.jx9_parse.proofs.Clean.{clean_item, clean_many}

abbrev pub Body : Rule (List Item)
Body = Repeat (ItemWithin most_nesting)

abbrev body_more : List ℕ
body_more = else_words ++ statement_begins

pub the_body : Tail Body (else_words ++ statement_begins) statement_begins (reading.items 199)
the_body = the_items 199 (room 199) (lt-ltb 0 199 (omega arith))

pub clean_body : (w : Tokens) (m : Making (List Item)) → Body w m → NoEnd w
clean_body w m is = clean_many (clean_item 199) w is.value is.is_word

-- ---- lists

-- where one list ends with a token and another goes on with one
cut : (front : Tokens) (t : Token) (more body : Tokens) (l : Token) → front ++ t ∷ more ≡ body ++ l ∷ [] → ((front ≡ body) × (t ≡ l)) ⊎ ((rest : Tokens) × (body ≡ front ++ t ∷ rest))
cut [] t more [] l e = inl (refl, cc)
cut [] t more (b ∷ body) l e = let f : b ≡ t = cc in inr (body, ap (λ (x : Token). x ∷ body) f)
cut (a ∷ front) t more [] l e = absurd (too_long front (tail_is e))
  where
    tail_is : a ∷ (front ++ t ∷ more) ≡ l ∷ [] → front ++ t ∷ more ≡ []
    tail_is e = cc

    too_long : (front : Tokens) → front ++ t ∷ more ≡ [] → ⊥
    too_long [] e = cc
    too_long (x ∷ front) e = cc
cut (a ∷ front) t more (b ∷ body) l e =
    let f : a ≡ b = cc in
    let g : front ++ t ∷ more ≡ body ++ l ∷ [] = cc in
    elim (cut front t more body l g) [
      | inl h ↦ inl (ap (λ (x : Token). x ∷ front) f ∙ ap (λ (w : Tokens). b ∷ w) h.0, h.1)
      | inr (rest, h) ↦ inr (rest, ap (λ (x : Token). x ∷ body) (sym f) ∙ ap (λ (w : Tokens). a ∷ w) h)
    ]

clean_at : (front rest : Tokens) (t : Token) → NoEnd (front ++ t ∷ rest) → code t ≡ 0 → ⊥
clean_at [] rest t h = h.0
clean_at (a ∷ front) rest t h = clean_at front rest t h.1

clean_back : (front rest : Tokens) → NoEnd (front ++ rest) → NoEnd rest
clean_back [] rest h = h
clean_back (a ∷ front) rest h = clean_back front rest h.1

take_front : (front : Tokens) (t : Token) (rest : Tokens) → (take (length front) (front ++ t ∷ rest) ≡ front) × (take (suc (length front)) (front ++ t ∷ rest) ≡ front ++ t ∷ [])
take_front [] t rest = (refl, refl)
take_front (a ∷ front) t rest = let h = take_front front t rest in (ap (λ (w : Tokens). a ∷ w) h.0, ap (λ (w : Tokens). a ∷ w) h.1)

get_behind : (front : Tokens) (t : Token) (rest : Tokens) → slice_get (front ++ t ∷ rest) (length front) ≡ Some t
get_behind [] t rest = refl
get_behind (a ∷ front) t rest = get_behind front t rest

-- ---- what is read

pub is_read : (tokens : Tokens) (is : IsTokens tokens) (m : Making (List Item)) → the_body.reads is.body ≡ Ok (m, []) → IsProgramOf tokens (trees_of (m 0 1))
is_read tokens is m e =
    let f : Finds Body (λ _. In body_more) is.body [] m = subst (λ (q : Found (Making (List Item))). Told Body (λ _. In body_more) is.body q) e (the_body.told is.body) in
    let r = f.reads in
    record {
      body = is.body;
      last = is.last;
      items = r.value;
      split = is.split;
      is_end = is.is_end;
      reads = subst (λ (w : Tokens). Many (ItemWithin most_nesting) w r.value) (sym (f.split ∙ append-nil f.used)) r.is_word;
      makes = ap (λ (x : Making (List Item)). trees_of (x 0 1)) r.is_value;
    }

pub is_only : (tokens : Tokens) (is : IsTokens tokens) (m : Making (List Item)) (others : Trees) → the_body.reads is.body ≡ Ok (m, []) → IsProgramOf tokens others → others ≡ trees_of (m 0 1)
is_only tokens is m others e p =
    let f : Finds Body (λ _. In body_more) is.body [] m = subst (λ (q : Found (Making (List Item))). Told Body (λ _. In body_more) is.body q) e (the_body.told is.body) in
    let word : Body p.body (all_made p.items) = record { value = p.items; is_word = p.reads; is_value = refl } in
    elim (cut is.body is.last [] p.body p.last (sym is.split ∙ p.split)) [
      | inl h ↦ elim (f.only [] p.body [] (all_made p.items) tt (sym f.split ∙ h.0 ∙ sym (append-nil p.body)) word) [
        | inl far ↦ absurd far
        | inr s ↦ p.makes ∙ ap (λ (x : Making (List Item)). trees_of (x 0 1)) s.1
      ]
      | inr (rest, h) ↦ absurd (clean_at is.body rest is.last (subst NoEnd h (clean_body p.body (all_made p.items) word)) is.is_end)
    ]

-- ---- where reading stops

-- some word begins with what was seen, and none goes on with the next token and is all there is
pub record Stopped (ts rest : Tokens) : Type 0 where
  pub seen : Tokens
  pub split : ts ≡ seen ++ rest
  pub open_end : (w : Tokens) × (m : Making (List Item)) × Body (seen ++ w) m
  pub dead : (x u : Tokens) (m : Making (List Item)) → SameNext rest x → seen ++ x ≡ u → Body u m → ⊥

pub stops_in : (ts rest : Tokens) → the_body.reads ts ≡ Err rest → Stopped ts rest
stops_in ts rest e =
    let s : Stops Body (λ _. In body_more) ts rest = subst (λ (q : Found (Making (List Item))). Told Body (λ _. In body_more) ts q) e (the_body.told ts) in
    record { seen = s.seen; split = s.split; open_end = s.open_end; dead = λ x u m same eq word. s.dead x u [] m same (eq ∙ sym (append-nil u)) word }

pub stops_behind : (ts : Tokens) (t : Token) (rest : Tokens) (m : Making (List Item)) → the_body.reads ts ≡ Ok (m, t ∷ rest) → Stopped ts (t ∷ rest)
stops_behind ts t rest m e =
    let f : Finds Body (λ _. In body_more) ts (t ∷ rest) m = subst (λ (q : Found (Making (List Item))). Told Body (λ _. In body_more) ts q) e (the_body.told ts) in
    record { seen = f.used; split = f.split; open_end = ([], m, subst (λ (w : Tokens). Body w m) (sym (append-nil f.used)) f.reads); dead = λ x u n same eq word. by x same (f.only x u [] n same (eq ∙ sym (append-nil u)) word) }
  where
    by : (x : Tokens) → SameNext (t ∷ rest) x → {n : Making (List Item)} → Begins (In body_more) [] ⊎ (([] ≡ x) × (n ≡ m)) → ⊥
    by x same (inl far) = far
    by [] same (inr b) = same
    by (y ∷ x) same (inr b) = not_nil b.0
      where
        not_nil : [] ≡ y ∷ x → ⊥
        not_nil e = cc

stopped_dead : (tokens : Tokens) (is : IsTokens tokens) (rest : Tokens) → Stopped is.body rest → (line : ℕ) → ((t : Token) → slice_get tokens (length tokens - 1 - length rest) ≡ Some t → line ≡ t.line) → IsDeadIn tokens (length tokens - 1 - length rest) line
stopped_dead tokens is rest s line told = by rest s told
  where
    at : (rest : Tokens) (s : Stopped is.body rest) (t : Token) (more : Tokens) → tokens ≡ s.seen ++ t ∷ more → length tokens - 1 - length rest ≡ length s.seen
        → ((us : Tokens) (found : Trees) → IsProgramOf (s.seen ++ t ∷ us) found → ⊥) → ((t : Token) → slice_get tokens (length tokens - 1 - length rest) ≡ Some t → line ≡ t.line) → IsDeadIn tokens (length tokens - 1 - length rest) line
    at rest s t more split n refused told =
        let p = take_front s.seen t more in
        let count : length tokens ≡ length (s.seen ++ t ∷ more) = ap length split in
        let o = s.open_end in
        let r = o.2 in
        let here : slice_get tokens (length tokens - 1 - length rest) ≡ Some t = ap (λ (m : ℕ). slice_get tokens m) n ∙ ap (λ (w : Tokens). slice_get w (length s.seen)) split ∙ get_behind s.seen t more in
        record {
          is_dead = subst (λ (m : ℕ). IsDead tokens m) (sym n) (record {
            within = omega (arith, count, length-append s.seen (t ∷ more));
            dead = λ us found program. refused us found (subst (λ (w : Tokens). IsProgramOf w found)
                (ap (λ (w : Tokens). w ++ us) (ap (take (suc (length s.seen))) split ∙ p.1) ∙ append_assoc s.seen (t ∷ []) us) program);
            alive = (
              o.0 ++ is.last ∷ [],
              trees_of (all_made r.value 0 1),
              subst (λ (w : Tokens). IsProgramOf w (trees_of (all_made r.value 0 1))) (ap (λ (w : Tokens). w ++ (o.0 ++ is.last ∷ [])) (sym (ap (take (length s.seen)) split ∙ p.0)))
                  (record { body = s.seen ++ o.0; last = is.last; items = r.value; split = sym (append_assoc s.seen o.0 (is.last ∷ [])); is_end = is.is_end; reads = r.is_word; makes = refl }),
            );
          });
          token = t;
          stands = here;
          is_line = told t here;
        }

    word_of : (w : Tokens) (found : Trees) (p : IsProgramOf w found) → Body p.body (all_made p.items)
    word_of w found p = record { value = p.items; is_word = p.reads; is_value = refl }

    by : (rest : Tokens) → Stopped is.body rest → ((t : Token) → slice_get tokens (length tokens - 1 - length rest) ≡ Some t → line ≡ t.line) → IsDeadIn tokens (length tokens - 1 - length rest) line
    by [] s told =
        let body : is.body ≡ s.seen = s.split ∙ append-nil s.seen in
        let split : tokens ≡ s.seen ++ is.last ∷ [] = is.split ∙ ap (λ (w : Tokens). w ++ is.last ∷ []) body in
        let count : length tokens ≡ length (s.seen ++ is.last ∷ []) = ap length split in
        at [] s is.last [] split (omega (arith, count, length-append s.seen (is.last ∷ []))) (λ us found p.
        elim (cut s.seen is.last us p.body p.last p.split) [
          | inl h ↦ s.dead [] p.body (all_made p.items) tt (append-nil s.seen ∙ h.0) (word_of (s.seen ++ is.last ∷ us) found p)
          | inr (r, h) ↦ clean_at s.seen r is.last (subst NoEnd h (clean_body p.body (all_made p.items) (word_of (s.seen ++ is.last ∷ us) found p))) is.is_end
        ]) told
    by (t ∷ rest) s told =
        let split : tokens ≡ s.seen ++ t ∷ (rest ++ is.last ∷ []) = is.split ∙ ap (λ (w : Tokens). w ++ is.last ∷ []) s.split ∙ append_assoc s.seen (t ∷ rest) (is.last ∷ []) in
        let count : length tokens ≡ length (s.seen ++ t ∷ (rest ++ is.last ∷ [])) = ap length split in
        at (t ∷ rest) s t (rest ++ is.last ∷ []) split (omega (arith, count, length-append s.seen (t ∷ (rest ++ is.last ∷ [])), length-append rest (is.last ∷ []))) (λ us found p.
        elim (cut s.seen t us p.body p.last p.split) [
          | inl h ↦ (clean_back s.seen (t ∷ rest) (subst NoEnd s.split is.others)).0 (ap code h.1 ∙ p.is_end)
          | inr (r, h) ↦ s.dead (t ∷ r) p.body (all_made p.items) refl (sym h) (word_of (s.seen ++ t ∷ us) found p)
        ]) told

pub is_dead : (tokens : Tokens) (is : IsTokens tokens) (rest : Tokens) (line : ℕ) → the_body.reads is.body ≡ Err rest → ((t : Token) → slice_get tokens (length tokens - 1 - length rest) ≡ Some t → line ≡ t.line)
    → IsDeadIn tokens (length tokens - 1 - length rest) line
is_dead tokens is rest line e told = stopped_dead tokens is rest (stops_in is.body rest e) line told

pub is_dead_behind : (tokens : Tokens) (is : IsTokens tokens) (t : Token) (rest : Tokens) (m : Making (List Item)) (line : ℕ) → the_body.reads is.body ≡ Ok (m, t ∷ rest)
    → ((u : Token) → slice_get tokens (length tokens - 1 - length (t ∷ rest)) ≡ Some u → line ≡ u.line) → IsDeadIn tokens (length tokens - 1 - length (t ∷ rest)) line
is_dead_behind tokens is t rest m line e told = stopped_dead tokens is (t ∷ rest) (stops_behind is.body t rest m e) line told

-- ---- the tokens before the end

pub body_is : (tokens : Tokens) (is : IsTokens tokens) → take (length tokens - 1) tokens ≡ is.body
body_is tokens is =
    let count : length tokens ≡ length (is.body ++ is.last ∷ []) = ap length is.split in
    let n : length tokens - 1 ≡ length is.body = omega (arith, count, length-append is.body (is.last ∷ [])) in
    ap (λ (m : ℕ). take m tokens) n ∙ ap (take (length is.body)) is.split ∙ (take_front is.body is.last []).0
