-- Reading values with blanks around them, members, and values of one level.
use Rattle.std.proofs.Common.{◌≡◌, ◌≢◌, ℕ, false, eqb, ◌⊎◌, inl, inr, [], ◌∷◌, ◌++◌, Ok, Err, refl, sym, ap, subst, ◌∙◌, append_assoc, arith}
use Rattle.std.proofs.lemmas.Bool.{eqb-true, ne_eqb}
use Rattle.uq_value.specs.Data.{Bytes, Data, null}
use Rattle.uq_json.specs.Grammar.{Language, is_blank, Padded, IsJsonMember}
use Rattle.uq_json.specs.Strings.{IsString}
use Rattle.uq_json.specs.Internal.Reading.{Read, ◌>>=◌, is_next, skip_blanks, padded, behind, string_at, member_at}
use Rattle.uq_json.specs.declared.error.JsonFault.TheVariants.{NotJson, TooDeep}
use Rattle.uq_json.proofs.Steps.{bind_ok, bind_err, chosen, Takes, no_ok}
use Rattle.uq_json.proofs.Faults.{IsShallow, string_shallow, behind_shallow, then_shallow, ok_shallow}
use Rattle.uq_json.proofs.Pieces.{string_takes, string_again}
use Rattle.uq_json.proofs.Scalars.{NoDigit}
use Rattle.uq_json.proofs.Deep.{Deep, Ends, blanks_of, blanks_split, are_blanks, skip_past, skip_none, skip_ends, skip_again, opening_not_blank, ends_no_digit}

-- ---- blanks on both sides

pub padded_take : {A : Type 0} (L : Language A) (r : Bytes → Read A) → ((ts : Bytes) (x : A × Bytes) → r ts ≡ Ok x → Takes L ts x) → (ts : Bytes) (x : A × Bytes) → padded r ts ≡ Ok x → Takes (Padded L) ts x
padded_take {A = A} L r takes ts x e =
    let found = bind_ok (r (skip_blanks ts)) (λ y. Ok (y.0, skip_blanks y.1)) x e in
    let y = found.0 in
    let e2 : ◌≡◌ {A = Read A} (Ok (y.0, skip_blanks y.1)) (Ok x) = found.2 in
    let same : y.0 ≡ x.0 = cc in
    let rest : skip_blanks y.1 ≡ x.1 = cc in
    let taken = takes (skip_blanks ts) y found.1 in
    record {
      used = blanks_of ts ++ (taken.used ++ blanks_of y.1);
      split = blanks_split ts ∙ ap (λ (w : Bytes). blanks_of ts ++ w) (taken.split ∙ ap (λ (w : Bytes). taken.used ++ w) (blanks_split y.1 ∙ ap (λ (w : Bytes). blanks_of y.1 ++ w) rest) ∙ sym (append_assoc taken.used (blanks_of y.1) x.1))
          ∙ sym (append_assoc (blanks_of ts) (taken.used ++ blanks_of y.1) x.1);
      reads = record { before = blanks_of ts; middle = taken.used; after = blanks_of y.1; parts = refl; blanks_before = are_blanks ts; blanks_after = are_blanks y.1; inside = subst (λ (a : A). L taken.used a) same taken.reads };
    }

-- the first byte of a word
pub record First (P : ℕ → Type 0) (w : Bytes) : Type 0 where
  pub first : ℕ
  pub others : Bytes
  pub is : w ≡ first ∷ others
  pub no_blank : is_blank first ≡ false
  pub allowed : P first

pub padded_shown : {A : Type 0} (L : Language A) (P : ℕ → Type 0) → ((w : Bytes) (a : A) → L w a → First P w) → (w : Bytes) (a : A) (rest : Bytes) (is : Padded L w a) → skip_blanks (w ++ rest) ≡ is.middle ++ (is.after ++ rest)
padded_shown L P begins w a rest is =
    let b = begins is.middle a is.inside in
    ap (λ (v : Bytes). skip_blanks (v ++ rest)) is.parts
    ∙ ap skip_blanks (append_assoc is.before (is.middle ++ is.after) rest ∙ ap (λ (v : Bytes). is.before ++ v) (append_assoc is.middle is.after rest))
    ∙ skip_past is.before (is.middle ++ (is.after ++ rest)) is.blanks_before
    ∙ ap (λ (v : Bytes). skip_blanks (v ++ (is.after ++ rest))) b.is
    ∙ skip_none b.first (b.others ++ (is.after ++ rest)) b.no_blank
    ∙ ap (λ (v : Bytes). v ++ (is.after ++ rest)) (sym b.is)

pub padded_again : {A : Type 0} (L : Language A) (r : Bytes → Read A) (P : ℕ → Type 0) → ((w : Bytes) (a : A) → L w a → First P w) → ((w : Bytes) (a : A) (rest : Bytes) → L w a → NoDigit rest → r (w ++ rest) ≡ Ok (a, rest))
    → (w : Bytes) (a : A) (rest : Bytes) → Padded L w a → Ends rest → padded r (w ++ rest) ≡ Ok (a, rest)
padded_again {A = A} L r P begins again w a rest is end =
    ap (λ (v : Bytes). r v >>= λ y. Ok (y.0, skip_blanks y.1)) (padded_shown L P begins w a rest is)
    ∙ ap (λ (q : Read A). q >>= λ y. Ok (y.0, skip_blanks y.1)) (again is.middle a (is.after ++ rest) is.inside (ends_no_digit is.after rest is.blanks_after end))
    ∙ ap (λ (v : Bytes). Ok (a, v)) (skip_past is.after rest is.blanks_after ∙ skip_ends rest end)

-- the next byte behind blanks is none that no word begins with
pub padded_apart : {A : Type 0} (L : Language A) (P : ℕ → Type 0) → ((w : Bytes) (a : A) → L w a → First P w) → (c : ℕ) → ((d : ℕ) → P d → d ≢ c) → (w : Bytes) (a : A) (rest : Bytes) → Padded L w a → is_next c (skip_blanks (w ++ rest)) ≡ false
padded_apart L P begins c apart w a rest is =
    let b = begins is.middle a is.inside in
    ap (is_next c) (padded_shown L P begins w a rest is ∙ ap (λ (v : Bytes). v ++ (is.after ++ rest)) b.is) ∙ ne_eqb b.first c (apart b.first b.allowed)

padded_deep_is : {A : Type 0} (q : Read A) → (q >>= λ y. Ok (y.0, skip_blanks y.1)) ≡ Err TooDeep → q ≡ Err TooDeep
padded_deep_is {A = A} q e = elim (bind_err q (λ y. Ok (y.0, skip_blanks y.1)) TooDeep e) [
  | inl is ↦ is
  | inr (x, is, no') ↦ absurd (ok_shallow {A = A} (x.0, skip_blanks x.1) no')
]

pub padded_deep : {A : Type 0} (L more : Language A) (r : Bytes → Read A)
    → ((ts : Bytes) → r ts ≡ Err TooDeep → Deep L more (λ seen opening. (x : Bytes) → r (seen ++ opening ∷ x) ≡ Err TooDeep) ts)
    → (ts : Bytes) → padded r ts ≡ Err TooDeep → Deep (Padded L) (Padded more) (λ seen opening. (x : Bytes) → padded r (seen ++ opening ∷ x) ≡ Err TooDeep) ts
padded_deep {A = A} L more r deep ts e =
    let d = deep (skip_blanks ts) (padded_deep_is (r (skip_blanks ts)) e) in
    let w = d.within in
    let b = d.beyond in
    let blanks = blanks_of ts in
    record {
      seen = blanks ++ d.seen;
      opening = d.opening;
      after = d.after;
      split = blanks_split ts ∙ ap (λ (v : Bytes). blanks ++ v) d.split ∙ sym (append_assoc blanks d.seen (d.opening ∷ d.after));
      is_opening = d.is_opening;
      stops = λ x. ap (λ (v : Bytes). r v >>= λ y. Ok (y.0, skip_blanks y.1)) (ap skip_blanks (append_assoc blanks d.seen (d.opening ∷ x)) ∙ skip_again ts d.seen d.opening d.after x (opening_not_blank d.opening d.is_opening) d.split)
          ∙ ap (λ (q : Read A). q >>= λ y. Ok (y.0, skip_blanks y.1)) (d.stops x);
      within = (w.0, w.1, record { before = blanks; middle = d.seen ++ w.0; after = []; parts = append_assoc blanks d.seen w.0 ∙ ap (λ (v : Bytes). blanks ++ v) (sym (no_after (d.seen ++ w.0))); blanks_before = are_blanks ts; blanks_after = refl; inside = w.2 });
      beyond = (b.0, b.1, record { before = blanks; middle = d.seen ++ d.opening ∷ b.0; after = []; parts = append_assoc blanks d.seen (d.opening ∷ b.0) ∙ ap (λ (v : Bytes). blanks ++ v) (sym (no_after (d.seen ++ d.opening ∷ b.0))); blanks_before = are_blanks ts; blanks_after = refl; inside = b.2 });
    }
  where
    no_after : (v : Bytes) → v ++ [] ≡ v
    no_after [] = refl
    no_after (c ∷ cs) = ap (λ (u : Bytes). c ∷ u) (no_after cs)

pub padded_wider : {A : Type 0} (L more : Language A) → ((w : Bytes) (a : A) → L w a → more w a) → (w : Bytes) (a : A) → Padded L w a → Padded more w a
padded_wider L more wider w a is = record { before = is.before; middle = is.middle; after = is.after; parts = is.parts; blanks_before = is.blanks_before; blanks_after = is.blanks_after; inside = wider is.middle a is.inside }

-- ---- members

abbrev IsQuote : ℕ → Type 0
IsQuote c = c ≡ 0x22

string_begins : (w : Bytes) (bs : Bytes) → IsString w bs → First IsQuote w
string_begins w bs is = record { first = 0x22; others = is.body; is = is.opened; no_blank = refl; allowed = refl }

behind_is : (c : ℕ) (ts : Bytes) (x : Unit {0} × Bytes) → behind c ts ≡ Ok x → ts ≡ c ∷ x.1
behind_is c [] x e = absurd (no_ok NotJson x e)
behind_is c (d ∷ ds) x e = elim (chosen (eqb d c) (Ok (tt, ds)) (Err NotJson) (Ok x) e) [
  | inl both ↦
      let e2 : ◌≡◌ {A = Read (Unit {0})} (Ok (tt, ds)) (Ok x) = both.1 in
      let rest : ds ≡ x.1 = cc in ap (λ (n : ℕ). n ∷ ds) (eqb-true d c both.0) ∙ ap (λ (w : Bytes). c ∷ w) rest
  | inr both ↦ absurd (no_ok NotJson x both.1)
]

name_again : (w bs rest : Bytes) → Padded IsString w bs → padded string_at (w ++ 0x3a ∷ rest) ≡ Ok (bs, 0x3a ∷ rest)
name_again w bs rest is = padded_again IsString string_at IsQuote string_begins (λ v b tail s end. string_again v b tail s) w bs (0x3a ∷ rest) is (refl, refl)

name_shallow : (ts : Bytes) → IsShallow (padded string_at ts)
name_shallow ts = then_shallow (string_at (skip_blanks ts)) (λ x. Ok (x.0, skip_blanks x.1)) (string_shallow (skip_blanks ts)) (λ x. ok_shallow (x.0, skip_blanks x.1))

pub member_apart : (L : Language Data) (w : Bytes) (m : Bytes × Data) (rest : Bytes) → IsJsonMember L w m → is_next 0x7d (skip_blanks (w ++ rest)) ≡ false
member_apart L w m rest is =
    ap (λ (v : Bytes). is_next 0x7d (skip_blanks v)) (ap (λ (v : Bytes). v ++ rest) is.parts ∙ append_assoc is.name (0x3a ∷ is.rest) rest)
    ∙ padded_apart IsString IsQuote string_begins 0x7d (λ d e. omega (arith, e)) is.name m.0 (0x3a ∷ (is.rest ++ rest)) is.is_name

abbrev pub with_value : (Bytes → Read Data) → Bytes → Bytes → Read (Bytes × Data)
with_value r name ts = r ts >>= λ d. Ok ((name, d.0), d.1)

module _ (L : Language Data) (r : Bytes → Read Data)
    (takes : (ts : Bytes) (x : Data × Bytes) → r ts ≡ Ok x → Takes L ts x)
    (again : (w : Bytes) (d : Data) (rest : Bytes) → L w d → Ends rest → r (w ++ rest) ≡ Ok (d, rest)) where
  pub member_take : (ts : Bytes) (x : (Bytes × Data) × Bytes) → member_at r ts ≡ Ok x → Takes (IsJsonMember L) ts x
  member_take ts x e =
      let first = bind_ok (padded string_at ts) (λ name. behind 0x3a name.1 >>= λ y. r y.1 >>= λ d. Ok ((name.0, d.0), d.1)) x e in
      let name = first.0 in
      let second = bind_ok (behind 0x3a name.1) (λ y. r y.1 >>= λ d. Ok ((name.0, d.0), d.1)) x first.2 in
      let y = second.0 in
      let third = bind_ok (r y.1) (λ d. Ok ((name.0, d.0), d.1)) x second.2 in
      let d = third.0 in
      let e2 : ◌≡◌ {A = Read (Bytes × Data)} (Ok ((name.0, d.0), d.1)) (Ok x) = third.2 in
      let m : Bytes × Data = (name.0, d.0) in
      let same : m ≡ x.0 = ap member_of e2 in
      let rest : d.1 ≡ x.1 = ap rest_of e2 in
      let named = padded_take IsString string_at string_takes ts name first.1 in
      let value = takes y.1 d third.1 in
      record {
        used = named.used ++ 0x3a ∷ value.used;
        split = named.split ∙ ap (λ (w : Bytes). named.used ++ w) (behind_is 0x3a name.1 y second.1 ∙ ap (λ (w : Bytes). 0x3a ∷ w) (value.split ∙ ap (λ (w : Bytes). value.used ++ w) rest)) ∙ sym (append_assoc named.used (0x3a ∷ value.used) x.1);
        reads = subst (λ (n : Bytes × Data). IsJsonMember L (named.used ++ 0x3a ∷ value.used) n) same (record { name = named.used; rest = value.used; parts = refl; is_name = named.reads; is_value = value.reads });
      }
    where
      member_of : Read (Bytes × Data) → Bytes × Data
      member_of (Ok z) = z.0
      member_of (Err w) = ([], null)

      rest_of : Read (Bytes × Data) → Bytes
      rest_of (Ok z) = z.1
      rest_of (Err w) = []

  pub member_again : (w : Bytes) (m : Bytes × Data) (rest : Bytes) → IsJsonMember L w m → Ends rest → member_at r (w ++ rest) ≡ Ok (m, rest)
  member_again w m rest is end =
      ap (member_at r) (ap (λ (v : Bytes). v ++ rest) is.parts ∙ append_assoc is.name (0x3a ∷ is.rest) rest)
      ∙ ap (λ (q : Read Bytes). q >>= λ name. behind 0x3a name.1 >>= λ y. r y.1 >>= λ d. Ok ((name.0, d.0), d.1)) (name_again is.name m.0 (is.rest ++ rest) is.is_name)
      ∙ ap (λ (q : Read Data). q >>= λ d. Ok ((m.0, d.0), d.1)) (again is.rest m.1 rest is.is_value end)

  module _ (more : Language Data) (wider : (w : Bytes) (d : Data) → L w d → more w d)
      (deep : (ts : Bytes) → r ts ≡ Err TooDeep → Deep L more (λ seen opening. (x : Bytes) → r (seen ++ opening ∷ x) ≡ Err TooDeep) ts) where
    pub member_deep : (ts : Bytes) → member_at r ts ≡ Err TooDeep → Deep (IsJsonMember L) (IsJsonMember more) (λ seen opening. (x : Bytes) → member_at r (seen ++ opening ∷ x) ≡ Err TooDeep) ts
    member_deep ts e = by_name (bind_err (padded string_at ts) (λ name. behind 0x3a name.1 >>= λ y. r y.1 >>= λ d. Ok ((name.0, d.0), d.1)) TooDeep e)
      where
        found : (name : Bytes × Bytes) (y : Unit {0} × Bytes) → padded string_at ts ≡ Ok name → behind 0x3a name.1 ≡ Ok y → r y.1 ≡ Err TooDeep → Deep (IsJsonMember L) (IsJsonMember more) (λ seen opening. (x : Bytes) → member_at r (seen ++ opening ∷ x) ≡ Err TooDeep) ts
        found name y is colon stops =
            let named = padded_take IsString string_at string_takes ts name is in
            let d = deep y.1 stops in
            let w = d.within in
            let b = d.beyond in
            record {
              seen = named.used ++ 0x3a ∷ d.seen;
              opening = d.opening;
              after = d.after;
              split = named.split ∙ ap (λ (v : Bytes). named.used ++ v) (behind_is 0x3a name.1 y colon ∙ ap (λ (v : Bytes). 0x3a ∷ v) d.split) ∙ sym (append_assoc named.used (0x3a ∷ d.seen) (d.opening ∷ d.after));
              is_opening = d.is_opening;
              stops = λ x. ap (member_at r) (append_assoc named.used (0x3a ∷ d.seen) (d.opening ∷ x))
                  ∙ ap (λ (q : Read Bytes). q >>= λ name. behind 0x3a name.1 >>= λ y. r y.1 >>= λ d. Ok ((name.0, d.0), d.1)) (name_again named.used name.0 (d.seen ++ d.opening ∷ x) named.reads)
                  ∙ ap (λ (q : Read Data). q >>= λ d. Ok ((name.0, d.0), d.1)) (d.stops x);
              within = (w.0, (name.0, w.1), record { name = named.used; rest = d.seen ++ w.0; parts = append_assoc named.used (0x3a ∷ d.seen) w.0; is_name = named.reads; is_value = w.2 });
              beyond = (b.0, (name.0, b.1), record { name = named.used; rest = d.seen ++ d.opening ∷ b.0; parts = append_assoc named.used (0x3a ∷ d.seen) (d.opening ∷ b.0); is_name = named.reads; is_value = b.2 });
            }

        by_value : (name : Bytes × Bytes) (y : Unit {0} × Bytes) → padded string_at ts ≡ Ok name → behind 0x3a name.1 ≡ Ok y → (r y.1 ≡ Err TooDeep) ⊎ ((d : Data × Bytes) × (r y.1 ≡ Ok d) × (◌≡◌ {A = Read (Bytes × Data)} (Ok ((name.0, d.0), d.1)) (Err TooDeep)))
            → Deep (IsJsonMember L) (IsJsonMember more) (λ seen opening. (x : Bytes) → member_at r (seen ++ opening ∷ x) ≡ Err TooDeep) ts
        by_value name y is colon (inl stops) = found name y is colon stops
        by_value name y is colon (inr (d, reads, no')) = absurd (ok_shallow {A = Bytes × Data} ((name.0, d.0), d.1) no')

        by_colon : (name : Bytes × Bytes) → padded string_at ts ≡ Ok name → (behind 0x3a name.1 ≡ Err TooDeep) ⊎ ((y : Unit {0} × Bytes) × (behind 0x3a name.1 ≡ Ok y) × (with_value r name.0 y.1 ≡ Err TooDeep))
            → Deep (IsJsonMember L) (IsJsonMember more) (λ seen opening. (x : Bytes) → member_at r (seen ++ opening ∷ x) ≡ Err TooDeep) ts
        by_colon name is (inl no') = absurd (behind_shallow 0x3a name.1 no')
        by_colon name is (inr (y, colon, rest)) = by_value name y is colon (bind_err (r y.1) (λ d. Ok ((name.0, d.0), d.1)) TooDeep rest)

        by_name : (padded string_at ts ≡ Err TooDeep) ⊎ ((name : Bytes × Bytes) × (padded string_at ts ≡ Ok name) × ((behind 0x3a name.1 >>= λ y. with_value r name.0 y.1) ≡ Err TooDeep))
            → Deep (IsJsonMember L) (IsJsonMember more) (λ seen opening. (x : Bytes) → member_at r (seen ++ opening ∷ x) ≡ Err TooDeep) ts
        by_name (inl no') = absurd (name_shallow ts no')
        by_name (inr (name, is, rest)) = by_colon name is (bind_err (behind 0x3a name.1) (λ y. with_value r name.0 y.1) TooDeep rest)

pub member_wider : (L more : Language Data) → ((w : Bytes) (d : Data) → L w d → more w d) → (w : Bytes) (m : Bytes × Data) → IsJsonMember L w m → IsJsonMember more w m
member_wider L more wider w m is = record { name = is.name; rest = is.rest; parts = is.parts; is_name = is.is_name; is_value = wider is.rest m.1 is.is_value }
