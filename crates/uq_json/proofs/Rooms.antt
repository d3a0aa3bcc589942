-- Reading values of at most so many levels, by induction on the levels.
use Rattle.std.proofs.Common.{◌≡◌, ◌≢◌, ℕ, zero, suc, false, cond, eqb, ◌⊎◌, inl, inr, List, [], ◌∷◌, ◌++◌, Ok, Err, refl, sym, ap, subst, ◌∙◌, codes, arith}
use Rattle.std.proofs.lemmas.Bool.{eqb-true, ne_eqb}
use Rattle.uq_value.specs.Data.{Bytes, Data, Datas, Pairs, null, list, object}
use Rattle.uq_json.specs.Grammar.{Language, is_blank, Listed, Bracketed, none, some, IsJsonMember, merged, IsScalar, of_null, IsJsonValue, of_scalar, of_list, of_object, JsonSpells}
use Rattle.uq_json.specs.Internal.Reading.{Read, ◌>>=◌, is_next, skip_blanks, scalar_at, bracketed_at, member_at, list_at, object_at, value_at, too_deep, element_at}
use Rattle.uq_json.specs.declared.error.JsonFault.TheVariants.{NotJson, TooDeep}
use Rattle.uq_json.proofs.Steps.{bind_ok, bind_err, chosen, if_false, Takes, no_ok}
use Rattle.uq_json.proofs.Faults.{scalar_shallow, ok_shallow, no_json_shallow}
use Rattle.uq_json.proofs.Scalars.{NoDigit, scalar_takes, scalar_begins, scalar_again}
use Rattle.uq_json.proofs.Deep.{Deep, Ends, not_blank}
use Rattle.uq_json.proofs.Listing.{IsClose, bracketed_take, bracketed_again, deep_bracketed}
use Rattle.uq_json.proofs.Elements.{First, padded_take, padded_again, padded_apart, padded_deep, padded_wider, member_take, member_again, member_apart, member_deep, member_wider}

list_close : IsClose 0x5d
list_close = record { no_comma = omega arith; ends = λ cs. (refl, refl); no_blank = refl; no_list = omega arith; no_object = omega arith }

object_close : IsClose 0x7d
object_close = record { no_comma = omega arith; ends = λ cs. (refl, refl); no_blank = refl; no_list = omega arith; no_object = omega arith }

abbrev pub IsNoClose : ℕ → Type 0
IsNoClose c = (c ≢ 0x5d) × (c ≢ 0x7d)

scalar_first : (w : Bytes) (d : Data) → IsScalar w d → First IsNoClose w
scalar_first w d is = let b = scalar_begins w d is in record { first = b.first; others = b.others; is = b.is; no_blank = not_blank b.first b.printed; allowed = (b.no_list_end, b.no_object_end) }

bracket_first : {A : Type 0} (L : Language A) (opening close : ℕ) → is_blank opening ≡ false → IsNoClose opening → (w : Bytes) (xs : List A) → Bracketed L opening close w xs → First IsNoClose w
bracket_first L opening close blank allowed w xs (none blanks is are nothing) = record { first = opening; others = blanks ++ close ∷ []; is = is; no_blank = blank; allowed = allowed }
bracket_first L opening close blank allowed w xs (some body is listed) = record { first = opening; others = body; is = is; no_blank = blank; allowed = allowed }

value_first : (L : Language Data) (w : Bytes) (d : Data) → IsJsonValue L w d → First IsNoClose w
value_first L w d (of_scalar is) = scalar_first w d is
value_first L w d (of_list ds is value) = bracket_first L 0x5b 0x5d refl (omega arith, omega arith) w ds is
value_first L w d (of_object ms is value) = bracket_first (IsJsonMember L) 0x7b 0x7d refl (omega arith, omega arith) w ms is

-- ---- a value without levels

flat_takes : (ts : Bytes) (x : Data × Bytes) → value_at too_deep too_deep ts ≡ Ok x → Takes IsScalar ts x
flat_takes [] x e = absurd (no_ok NotJson x e)
flat_takes (c ∷ cs) x e = elim (chosen (eqb c 0x5b) (Err TooDeep) (cond (eqb c 0x7b) (Err TooDeep) (scalar_at (c ∷ cs))) (Ok x) e) [
  | inl both ↦ absurd (no_ok TooDeep x both.1)
  | inr both ↦ elim (chosen (eqb c 0x7b) (Err TooDeep) (scalar_at (c ∷ cs)) (Ok x) both.1) [
    | inl object' ↦ absurd (no_ok TooDeep x object'.1)
    | inr scalar ↦ scalar_takes (c ∷ cs) x scalar.1
  ]
]

scalar_value : (in_list in_object : Bytes → Read Data) (w : Bytes) (d : Data) (rest : Bytes) → IsScalar w d → NoDigit rest → value_at in_list in_object (w ++ rest) ≡ Ok (d, rest)
scalar_value in_list in_object w d rest is end =
    let b = scalar_begins w d is in
    let shown : w ++ rest ≡ b.first ∷ (b.others ++ rest) = ap (λ (v : Bytes). v ++ rest) b.is in
    ap (value_at in_list in_object) shown
    ∙ if_false (eqb b.first 0x5b) (in_list (b.others ++ rest)) (cond (eqb b.first 0x7b) (in_object (b.others ++ rest)) (scalar_at (b.first ∷ (b.others ++ rest)))) (ne_eqb b.first 0x5b b.no_list)
    ∙ if_false (eqb b.first 0x7b) (in_object (b.others ++ rest)) (scalar_at (b.first ∷ (b.others ++ rest))) (ne_eqb b.first 0x7b b.no_object)
    ∙ ap scalar_at (sym shown) ∙ scalar_again w d rest is end

abbrev Stopping : (Bytes → Read Data) → Bytes → ℕ → Type 0
Stopping r seen opening = (x : Bytes) → r (seen ++ opening ∷ x) ≡ Err TooDeep

opens_list : (L : Language Data) (cs : Bytes) → Deep IsScalar (IsJsonValue L) (Stopping (value_at too_deep too_deep)) (0x5b ∷ cs)
opens_list L cs = record {
  seen = [];
  opening = 0x5b;
  after = cs;
  split = refl;
  is_opening = inl refl;
  stops = λ x. refl;
  within = (codes "null", null, of_null refl refl);
  beyond = (0x5d ∷ [], list [], of_list [] (none [] refl refl refl) refl);
}

opens_object : (L : Language Data) (cs : Bytes) → Deep IsScalar (IsJsonValue L) (Stopping (value_at too_deep too_deep)) (0x7b ∷ cs)
opens_object L cs = record {
  seen = [];
  opening = 0x7b;
  after = cs;
  split = refl;
  is_opening = inr refl;
  stops = λ x. refl;
  within = (codes "null", null, of_null refl refl);
  beyond = (0x7d ∷ [], object (merged []), of_object [] (none [] refl refl refl) refl);
}

flat_deep : (L : Language Data) (ts : Bytes) → value_at too_deep too_deep ts ≡ Err TooDeep → Deep IsScalar (IsJsonValue L) (Stopping (value_at too_deep too_deep)) ts
flat_deep L [] e = absurd (no_json_shallow {A = Data} e)
flat_deep L (c ∷ cs) e = elim (chosen (eqb c 0x5b) (Err TooDeep) (cond (eqb c 0x7b) (Err TooDeep) (scalar_at (c ∷ cs))) (Err TooDeep) e) [
  | inl both ↦ subst (λ (n : ℕ). Deep IsScalar (IsJsonValue L) (Stopping (value_at too_deep too_deep)) (n ∷ cs)) (sym (eqb-true c 0x5b both.0)) (opens_list L cs)
  | inr both ↦ elim (chosen (eqb c 0x7b) (Err TooDeep) (scalar_at (c ∷ cs)) (Err TooDeep) both.1) [
    | inl object' ↦ subst (λ (n : ℕ). Deep IsScalar (IsJsonValue L) (Stopping (value_at too_deep too_deep)) (n ∷ cs)) (sym (eqb-true c 0x7b object'.0)) (opens_object L cs)
    | inr scalar ↦ absurd (scalar_shallow (c ∷ cs) scalar.1)
  ]
]

-- ---- a value of one level more

bracket_wider : {A : Type 0} (L more : Language A) (opening close : ℕ) → ((w : Bytes) (a : A) → L w a → more w a) → (w : Bytes) (xs : List A) → Bracketed L opening close w xs → Bracketed more opening close w xs
bracket_wider L more opening close wider w xs (none blanks is are nothing) = none blanks is are nothing
bracket_wider {A = A} L more opening close wider w xs (some body is listed) = some body is (each body xs listed)
  where
    each : (w : Bytes) (xs : List A) → Listed L close w xs → Listed more close w xs
    each w [] is = is
    each w (a ∷ others) (front, back, parts, first, inl end) = (front, back, parts, wider front a first, inl end)
    each w (a ∷ others) (front, back, parts, first, inr (tail, comma, rest)) = (front, back, parts, wider front a first, inr (tail, comma, each tail others rest))

value_wider : (L more : Language Data) → ((w : Bytes) (d : Data) → L w d → more w d) → (w : Bytes) (d : Data) → IsJsonValue L w d → IsJsonValue more w d
value_wider L more wider w d (of_scalar is) = of_scalar is
value_wider L more wider w d (of_list ds is value) = of_list ds (bracket_wider L more 0x5b 0x5d wider w ds is) value
value_wider L more wider w d (of_object ms is value) = of_object ms (bracket_wider (IsJsonMember L) (IsJsonMember more) 0x7b 0x7d (member_wider L more wider) w ms is) value

-- what is known of reading what stands within
pub record Known (L : Language Data) (r : Bytes → Read Data) : Type 0 where
  pub takes : (ts : Bytes) (x : Data × Bytes) → r ts ≡ Ok x → Takes L ts x
  pub again : (w : Bytes) (d : Data) (rest : Bytes) → L w d → Ends rest → r (w ++ rest) ≡ Ok (d, rest)
  pub apart : (w : Bytes) (d : Data) (rest : Bytes) → L w d → is_next 0x5d (skip_blanks (w ++ rest)) ≡ false

module _ (L : Language Data) (r : Bytes → Read Data) (known : Known L r) where
  abbrev value : Bytes → Read Data
  value = value_at (list_at r) (object_at r)

  list_takes : (cs : Bytes) (x : Data × Bytes) → list_at r cs ≡ Ok x → Takes (IsJsonValue L) (0x5b ∷ cs) x
  list_takes cs x e =
      let found = bind_ok (bracketed_at r 0x5d cs) (λ y. Ok (list y.0, y.1)) x e in
      let y = found.0 in
      let e2 : ◌≡◌ {A = Read Data} (Ok (list y.0, y.1)) (Ok x) = found.2 in
      let same : list y.0 ≡ x.0 = ap (data_of x.0) e2 in
      let rest : y.1 ≡ x.1 = ap rest_of e2 in
      let taken = bracketed_take L r 0x5d list_close known.takes known.again 0x5b cs y found.1 in
      record { used = taken.used; split = taken.split ∙ ap (λ (w : Bytes). taken.used ++ w) rest; reads = of_list y.0 taken.reads (sym same) }
    where
      data_of : Data → Read Data → Data
      data_of d (Ok z) = z.0
      data_of d (Err w) = d

      rest_of : Read Data → Bytes
      rest_of (Ok z) = z.1
      rest_of (Err w) = []

  pub object_takes : (cs : Bytes) (x : Data × Bytes) → object_at r cs ≡ Ok x → Takes (IsJsonValue L) (0x7b ∷ cs) x
  object_takes cs x e =
      let found = bind_ok (bracketed_at (member_at r) 0x7d cs) (λ y. Ok (object (merged y.0), y.1)) x e in
      let y = found.0 in
      let e2 : ◌≡◌ {A = Read Data} (Ok (object (merged y.0), y.1)) (Ok x) = found.2 in
      let same : object (merged y.0) ≡ x.0 = ap (data_of x.0) e2 in
      let rest : y.1 ≡ x.1 = ap rest_of e2 in
      let taken = bracketed_take (IsJsonMember L) (member_at r) 0x7d object_close (member_take L r known.takes known.again) (member_again L r known.takes known.again) 0x7b cs y found.1 in
      record { used = taken.used; split = taken.split ∙ ap (λ (w : Bytes). taken.used ++ w) rest; reads = of_object y.0 taken.reads (sym same) }
    where
      data_of : Data → Read Data → Data
      data_of d (Ok z) = z.0
      data_of d (Err w) = d

      rest_of : Read Data → Bytes
      rest_of (Ok z) = z.1
      rest_of (Err w) = []

  value_takes : (ts : Bytes) (x : Data × Bytes) → value ts ≡ Ok x → Takes (IsJsonValue L) ts x
  value_takes [] x e = absurd (no_ok NotJson x e)
  value_takes (c ∷ cs) x e = elim (chosen (eqb c 0x5b) (list_at r cs) (cond (eqb c 0x7b) (object_at r cs) (scalar_at (c ∷ cs))) (Ok x) e) [
    | inl both ↦ subst (λ (n : ℕ). Takes (IsJsonValue L) (n ∷ cs) x) (sym (eqb-true c 0x5b both.0)) (list_takes cs x both.1)
    | inr both ↦ elim (chosen (eqb c 0x7b) (object_at r cs) (scalar_at (c ∷ cs)) (Ok x) both.1) [
      | inl object' ↦ subst (λ (n : ℕ). Takes (IsJsonValue L) (n ∷ cs) x) (sym (eqb-true c 0x7b object'.0)) (object_takes cs x object'.1)
      | inr scalar ↦ let taken = scalar_takes (c ∷ cs) x scalar.1 in record { used = taken.used; split = taken.split; reads = of_scalar taken.reads }
    ]
  ]

  bracket_shown : {A : Type 0} (K : Language A) (opening close : ℕ) (w : Bytes) (xs : List A) → Bracketed K opening close w xs → (cs : Bytes) × (w ≡ opening ∷ cs)
  bracket_shown K opening close w xs (none blanks is are nothing) = (blanks ++ close ∷ [], is)
  bracket_shown K opening close w xs (some body is listed) = (body, is)

  value_again : (w : Bytes) (d : Data) (rest : Bytes) → IsJsonValue L w d → NoDigit rest → value (w ++ rest) ≡ Ok (d, rest)
  value_again w d rest (of_scalar is) end = scalar_value (list_at r) (object_at r) w d rest is end
  value_again w d rest (of_list ds is same) end =
      let shown = bracket_shown L 0x5b 0x5d w ds is in
      ap (λ (v : Bytes). value (v ++ rest)) shown.1
      ∙ ap (λ (q : Read Datas). q >>= λ y. Ok (list y.0, y.1)) (bracketed_again L r 0x5d list_close known.takes known.again 0x5b shown.0 ds rest known.apart (subst (λ (v : Bytes). Bracketed L 0x5b 0x5d v ds) shown.1 is))
      ∙ ap (λ (e : Data). Ok (e, rest)) (sym same)
  value_again w d rest (of_object ms is same) end =
      let shown = bracket_shown (IsJsonMember L) 0x7b 0x7d w ms is in
      ap (λ (v : Bytes). value (v ++ rest)) shown.1
      ∙ ap (λ (q : Read Pairs). q >>= λ y. Ok (object (merged y.0), y.1)) (bracketed_again (IsJsonMember L) (member_at r) 0x7d object_close (member_take L r known.takes known.again) (member_again L r known.takes known.again) 0x7b shown.0 ms rest (member_apart L) (subst (λ (v : Bytes). Bracketed (IsJsonMember L) 0x7b 0x7d v ms) shown.1 is))
      ∙ ap (λ (e : Data). Ok (e, rest)) (sym same)

  module _ (more : Language Data) (wider : (w : Bytes) (d : Data) → L w d → more w d) (deep : (ts : Bytes) → r ts ≡ Err TooDeep → Deep L more (Stopping r) ts) where
    list_deep : (cs : Bytes) → list_at r cs ≡ Err TooDeep → Deep (IsJsonValue L) (IsJsonValue more) (Stopping value) (0x5b ∷ cs)
    list_deep cs e = by (bind_err (bracketed_at r 0x5d cs) (λ y. Ok (list y.0, y.1)) TooDeep e)
      where
        by : (bracketed_at r 0x5d cs ≡ Err TooDeep) ⊎ ((y : Datas × Bytes) × (bracketed_at r 0x5d cs ≡ Ok y) × (◌≡◌ {A = Read Data} (Ok (list y.0, y.1)) (Err TooDeep))) → Deep (IsJsonValue L) (IsJsonValue more) (Stopping value) (0x5b ∷ cs)
        by (inr (y, is, no')) = absurd (ok_shallow {A = Data} (list y.0, y.1) no')
        by (inl is) =
            let d = deep_bracketed L r 0x5d list_close known.takes known.again more wider deep 0x5b cs is in
            let w = d.within in
            let b = d.beyond in
            record {
              seen = 0x5b ∷ d.seen;
              opening = d.opening;
              after = d.after;
              split = ap (λ (v : Bytes). 0x5b ∷ v) d.split;
              is_opening = d.is_opening;
              stops = λ x. ap (λ (q : Read Datas). q >>= λ y. Ok (list y.0, y.1)) (d.stops x);
              within = (w.0, list w.1, of_list w.1 w.2 refl);
              beyond = (b.0, list b.1, of_list b.1 b.2 refl);
            }

    object_deep : (cs : Bytes) → object_at r cs ≡ Err TooDeep → Deep (IsJsonValue L) (IsJsonValue more) (Stopping value) (0x7b ∷ cs)
    object_deep cs e = by (bind_err (bracketed_at (member_at r) 0x7d cs) (λ y. Ok (object (merged y.0), y.1)) TooDeep e)
      where
        by : (bracketed_at (member_at r) 0x7d cs ≡ Err TooDeep) ⊎ ((y : Pairs × Bytes) × (bracketed_at (member_at r) 0x7d cs ≡ Ok y) × (◌≡◌ {A = Read Data} (Ok (object (merged y.0), y.1)) (Err TooDeep))) → Deep (IsJsonValue L) (IsJsonValue more) (Stopping value) (0x7b ∷ cs)
        by (inr (y, is, no')) = absurd (ok_shallow {A = Data} (object (merged y.0), y.1) no')
        by (inl is) =
            let d = deep_bracketed (IsJsonMember L) (member_at r) 0x7d object_close (member_take L r known.takes known.again) (member_again L r known.takes known.again) (IsJsonMember more) (member_wider L more wider) (member_deep L r known.takes known.again more wider deep) 0x7b cs is in
            let w = d.within in
            let b = d.beyond in
            record {
              seen = 0x7b ∷ d.seen;
              opening = d.opening;
              after = d.after;
              split = ap (λ (v : Bytes). 0x7b ∷ v) d.split;
              is_opening = d.is_opening;
              stops = λ x. ap (λ (q : Read Pairs). q >>= λ y. Ok (object (merged y.0), y.1)) (d.stops x);
              within = (w.0, object (merged w.1), of_object w.1 w.2 refl);
              beyond = (b.0, object (merged b.1), of_object b.1 b.2 refl);
            }

    value_deep : (ts : Bytes) → value ts ≡ Err TooDeep → Deep (IsJsonValue L) (IsJsonValue more) (Stopping value) ts
    value_deep [] e = absurd (no_json_shallow {A = Data} e)
    value_deep (c ∷ cs) e = elim (chosen (eqb c 0x5b) (list_at r cs) (cond (eqb c 0x7b) (object_at r cs) (scalar_at (c ∷ cs))) (Err TooDeep) e) [
      | inl both ↦ subst (λ (n : ℕ). Deep (IsJsonValue L) (IsJsonValue more) (Stopping value) (n ∷ cs)) (sym (eqb-true c 0x5b both.0)) (list_deep cs both.1)
      | inr both ↦ elim (chosen (eqb c 0x7b) (object_at r cs) (scalar_at (c ∷ cs)) (Err TooDeep) both.1) [
        | inl object' ↦ subst (λ (n : ℕ). Deep (IsJsonValue L) (IsJsonValue more) (Stopping value) (n ∷ cs)) (sym (eqb-true c 0x7b object'.0)) (object_deep cs object'.1)
        | inr scalar ↦ absurd (scalar_shallow (c ∷ cs) scalar.1)
      ]
    ]

-- ---- any number of levels

pub levels_wider : (k : ℕ) (w : Bytes) (d : Data) → JsonSpells k w d → JsonSpells (suc k) w d
unfolding JsonSpells
levels_wider zero w d is = padded_wider IsScalar (IsJsonValue (JsonSpells zero)) (λ v e s. of_scalar s) w d is
levels_wider (suc k) w d is = padded_wider (IsJsonValue (JsonSpells k)) (IsJsonValue (JsonSpells (suc k))) (value_wider (JsonSpells k) (JsonSpells (suc k)) (levels_wider k)) w d is

pub known : (k : ℕ) → Known (JsonSpells k) (element_at k)
unfolding JsonSpells element_at
known zero = record {
  takes = λ ts x e. padded_take IsScalar (value_at too_deep too_deep) flat_takes ts x e;
  again = λ w d rest is end. padded_again IsScalar (value_at too_deep too_deep) IsNoClose scalar_first (scalar_value too_deep too_deep) w d rest is end;
  apart = λ w d rest is. padded_apart IsScalar IsNoClose scalar_first 0x5d (λ c allowed. allowed.0) w d rest is;
}
known (suc k) =
    let below = known k in
    record {
      takes = λ ts x e. padded_take (IsJsonValue (JsonSpells k)) (value_at (list_at (element_at k)) (object_at (element_at k))) (value_takes (JsonSpells k) (element_at k) below) ts x e;
      again = λ w d rest is end. padded_again (IsJsonValue (JsonSpells k)) (value_at (list_at (element_at k)) (object_at (element_at k))) IsNoClose (value_first (JsonSpells k)) (value_again (JsonSpells k) (element_at k) below) w d rest is end;
      apart = λ w d rest is. padded_apart (IsJsonValue (JsonSpells k)) IsNoClose (value_first (JsonSpells k)) 0x5d (λ c allowed. allowed.0) w d rest is;
    }

pub element_takes : (k : ℕ) (ts : Bytes) (x : Data × Bytes) → element_at k ts ≡ Ok x → Takes (JsonSpells k) ts x
element_takes k = (known k).takes

pub element_again : (k : ℕ) (w : Bytes) (d : Data) (rest : Bytes) → JsonSpells k w d → Ends rest → element_at k (w ++ rest) ≡ Ok (d, rest)
element_again k = (known k).again

pub element_deep : (k : ℕ) (ts : Bytes) → element_at k ts ≡ Err TooDeep → Deep (JsonSpells k) (JsonSpells (suc k)) (λ seen opening. (x : Bytes) → element_at k (seen ++ opening ∷ x) ≡ Err TooDeep) ts
unfolding JsonSpells element_at
element_deep zero ts e = padded_deep IsScalar (IsJsonValue (JsonSpells zero)) (value_at too_deep too_deep) (flat_deep (JsonSpells zero)) ts e
element_deep (suc k) ts e = padded_deep (IsJsonValue (JsonSpells k)) (IsJsonValue (JsonSpells (suc k))) (value_at (list_at (element_at k)) (object_at (element_at k)))
    (value_deep (JsonSpells k) (element_at k) (known k) (JsonSpells (suc k)) (levels_wider k) (element_deep k)) ts e
