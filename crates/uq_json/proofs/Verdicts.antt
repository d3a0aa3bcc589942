-- What the answer of reading is, by the grammar alone.
use Rattle.std.proofs.Common.{◌≡◌, ℕ, zero, suc, ◌+◌, ◌<◌, ◌≤◌, ◌⊎◌, inl, inr, [], ◌∷◌, ◌++◌, length, Option, Some, None, Result, Ok, Err, refl, sym, ap, subst, ◌∙◌, append_assoc, append-nil, arith}
use Rattle.uq_value.specs.Data.{Bytes, Data}
use Rattle.uq_value.specs.Size.{data_size, most_size}
use Rattle.uq_value.specs.Depth.{most_depth}
use Rattle.uq_value.specs.Plain.{plain, value_of, size}
use Rattle.uq_value.specs.declared.value.Value.{Value}
use Rattle.uq_value.specs.Laws.Levels.{list_of-items_of, pairs_of-members_of}
use Rattle.uq_json.specs.Grammar.{JsonSpells}
use Rattle.uq_json.specs.Answer.{Begins, OpensTooDeep, IsNoJson, SpellsValue, SpellsTooLarge, JsonAnswers}
use Rattle.uq_json.specs.Internal.Found.{StandsFor}
use Rattle.uq_json.specs.Internal.Reading.{Read, Fails, element_at}
use Rattle.uq_json.specs.declared.error.JsonFault.{JsonFault}
use Rattle.uq_json.specs.declared.error.JsonFault.TheVariants as fault
use Rattle.uq_json.proofs.Agreement.{levels_agree}
use Rattle.uq_json.proofs.Deep.{Deep}
use Rattle.uq_json.proofs.Rooms.{levels_wider, element_takes, element_again, element_deep}

ok_apart : (d : Data) (rest : Bytes) (w : JsonFault) → ◌≡◌ {A = Read Data} (Ok (d, rest)) (Err w) → ⊥
ok_apart d rest w e = cc

abbrev rest_of : Read Data → Bytes
rest_of (Ok x) = x.1
rest_of (Err w) = []

abbrev data_of : Data → Read Data → Data
data_of d (Ok x) = x.0
data_of d (Err w) = d

whole : (k : ℕ) (ts : Bytes) (d : Data) → JsonSpells k ts d → element_at k ts ≡ Ok (d, [])
whole k ts d is = ap (element_at k) (sym (append-nil ts)) ∙ element_again k ts d [] is tt

-- ---- what is read

pub spelled_so : (k : ℕ) (ts rest : Bytes) (d : Data) → element_at k ts ≡ Ok (d, rest) → length rest ≡ 0 → JsonSpells k ts d
spelled_so k ts [] d e none = let taken = element_takes k ts (d, []) e in subst (λ (w : Bytes). JsonSpells k w d) (sym (taken.split ∙ append-nil taken.used)) taken.reads
spelled_so k ts (c ∷ cs) d e none = absurd (omega (arith, none))

pub one_value : (k : ℕ) (ts : Bytes) (d e : Data) → JsonSpells k ts d → JsonSpells k ts e → d ≡ e
one_value k ts d e is also = ap (data_of d) (sym (whole k ts d is) ∙ whole k ts e also)

-- ---- a bracket too many

pub deep_word : (ts : Bytes) → element_at most_depth ts ≡ Err fault.TooDeep → OpensTooDeep ts
deep_word ts e =
    let d = element_deep most_depth ts e in
    let w = d.within in
    let b = d.beyond in
    record {
      front = d.seen;
      opening = d.opening;
      after = d.after;
      parts = d.split;
      is_opening = d.is_opening;
      shallow_before = w;
      more = suc most_depth;
      deeper = (b.0, b.1, subst (λ (v : Bytes). JsonSpells (suc most_depth) v b.1) (sym (append_assoc d.seen (d.opening ∷ []) b.0)) b.2);
      too_deep = λ begins. refused d begins.0 begins.1 (subst (λ (v : Bytes). JsonSpells most_depth v begins.1) (append_assoc d.seen (d.opening ∷ []) begins.0) begins.2);
    }
  where
    refused : (d : Deep (JsonSpells most_depth) (JsonSpells (suc most_depth)) (λ seen opening. (x : Bytes) → element_at most_depth (seen ++ opening ∷ x) ≡ Err fault.TooDeep) ts) (rest : Bytes) (v : Data) → JsonSpells most_depth (d.seen ++ d.opening ∷ rest) v → ⊥
    refused d rest v is = ok_apart v [] fault.TooDeep (sym (whole most_depth (d.seen ++ d.opening ∷ rest) v is) ∙ d.stops rest)

-- ---- no value, and no bracket too many

-- of two fronts of one text one is a front of the other
fronts : (a x b y : Bytes) → a ++ x ≡ b ++ y → ((c : Bytes) × (a ++ c ≡ b) × (x ≡ c ++ y)) ⊎ ((c : ℕ) × (cs : Bytes) × (b ++ c ∷ cs ≡ a) × (y ≡ c ∷ (cs ++ x)))
fronts [] x b y e = inl (b, refl, e)
fronts (c ∷ cs) x [] y e = inr (c, cs, refl, sym e)
fronts (c ∷ cs) x (d ∷ ds) y e =
    let head : c ≡ d = cc in
    let tail : cs ++ x ≡ ds ++ y = cc in
    by head (fronts cs x ds y tail)
  where
    by : c ≡ d → ((f : Bytes) × (cs ++ f ≡ ds) × (x ≡ f ++ y)) ⊎ ((f : ℕ) × (fs : Bytes) × (ds ++ f ∷ fs ≡ cs) × (y ≡ f ∷ (fs ++ x))) → ((f : Bytes) × ((c ∷ cs) ++ f ≡ d ∷ ds) × (x ≡ f ++ y)) ⊎ ((f : ℕ) × (fs : Bytes) × ((d ∷ ds) ++ f ∷ fs ≡ c ∷ cs) × (y ≡ f ∷ (fs ++ x)))
    by head (inl (f, p, q)) = inl (f, ap (λ (w : Bytes). c ∷ w) p ∙ ap (λ (n : ℕ). n ∷ ds) head, q)
    by head (inr (f, fs, p, q)) = inr (f, fs, ap (λ (w : Bytes). d ∷ w) p ∙ ap (λ (n : ℕ). n ∷ cs) (sym head), q)

pub wider_by : (j k : ℕ) (w : Bytes) (d : Data) → JsonSpells k w d → JsonSpells (j + k) w d
wider_by zero k w d is = subst (λ (n : ℕ). JsonSpells n w d) (zero_first k) is
  where
    zero_first : (k : ℕ) → k ≡ 0 + k
    zero_first k = omega arith
wider_by (suc j) k w d is = subst (λ (n : ℕ). JsonSpells n w d) (next j k) (levels_wider (j + k) w d (wider_by j k w d is))
  where
    next : (j k : ℕ) → suc (j + k) ≡ suc j + k
    next j k = omega arith

-- what is spelled at any number of levels is read, unless a bracket too many comes
spelled_read : (k : ℕ) (ts : Bytes) (d : Data) → JsonSpells k ts d → (element_at most_depth ts ≡ Ok (d, [])) ⊎ (element_at most_depth ts ≡ Err fault.TooDeep)
spelled_read k ts d is =
    let wide : JsonSpells (most_depth + k) ts d = wider_by most_depth k ts d is in
    by (levels_agree most_depth (most_depth + k) ts (omega arith)) (whole (most_depth + k) ts d wide)
  where
    by : (element_at most_depth ts ≡ element_at (most_depth + k) ts) ⊎ (element_at most_depth ts ≡ Err fault.TooDeep) → element_at (most_depth + k) ts ≡ Ok (d, []) → (element_at most_depth ts ≡ Ok (d, [])) ⊎ (element_at most_depth ts ≡ Err fault.TooDeep)
    by (inl same) e = inl (same ∙ e)
    by (inr deep) e = inr deep

not_deep : (ts : Bytes) → (element_at most_depth ts ≡ Err fault.TooDeep → ⊥) → OpensTooDeep ts → ⊥
not_deep ts shallow opens =
    let front = opens.front ++ opens.opening ∷ [] in
    let b = opens.deeper in
    let split : ts ≡ front ++ opens.after = opens.parts ∙ sym (append_assoc opens.front (opens.opening ∷ []) opens.after) in
    by front b.0 b.1 split opens.too_deep (spelled_read opens.more (front ++ b.0) b.1 b.2)
  where
    met : (front rest after : Bytes) → ts ≡ front ++ after → (Begins most_depth front → ⊥)
        → (d : Deep (JsonSpells most_depth) (JsonSpells (suc most_depth)) (λ seen opening. (x : Bytes) → element_at most_depth (seen ++ opening ∷ x) ≡ Err fault.TooDeep) (front ++ rest))
        → ((c : Bytes) × (front ++ c ≡ d.seen) × (rest ≡ c ++ d.opening ∷ d.after)) ⊎ ((c : ℕ) × (cs : Bytes) × (d.seen ++ c ∷ cs ≡ front) × (d.opening ∷ d.after ≡ c ∷ (cs ++ rest))) → ⊥
    met front rest after split none d (inl (c, p, q)) =
        let w = d.within in
        none (c ++ w.0, w.1, subst (λ (v : Bytes). JsonSpells most_depth v w.1) (ap (λ (v : Bytes). v ++ w.0) (sym p) ∙ append_assoc front c w.0) w.2)
    met front rest after split none d (inr (c, cs, p, q)) =
        let same : c ≡ d.opening = cc in
        let shown : ts ≡ d.seen ++ d.opening ∷ (cs ++ after) = split ∙ ap (λ (v : Bytes). v ++ after) (sym p) ∙ append_assoc d.seen (c ∷ cs) after ∙ ap (λ (n : ℕ). d.seen ++ n ∷ (cs ++ after)) same in
        shallow (ap (element_at most_depth) shown ∙ d.stops (cs ++ after))

    by : (front rest : Bytes) (v : Data) → ts ≡ front ++ opens.after → (Begins most_depth front → ⊥)
        → (element_at most_depth (front ++ rest) ≡ Ok (v, [])) ⊎ (element_at most_depth (front ++ rest) ≡ Err fault.TooDeep) → ⊥
    by front rest v split none (inl e) = none (rest, v, spelled_so most_depth (front ++ rest) [] v e refl)
    by front rest v split none (inr e) = let d = element_deep most_depth (front ++ rest) e in met front rest opens.after split none d (fronts front rest d.seen (d.opening ∷ d.after) d.split)

no_value : (ts : Bytes) → ((d : Data) → element_at most_depth ts ≡ Ok (d, []) → ⊥) → (element_at most_depth ts ≡ Err fault.TooDeep → ⊥) → IsNoJson ts
no_value ts none shallow = record {
  spells_none = λ k d is. elim (spelled_read k ts d is) [ inl e ↦ none d e | inr e ↦ shallow e ];
  not_too_deep = not_deep ts shallow;
}

pub stuck_word : (ts : Bytes) → element_at most_depth ts ≡ Err fault.NotJson → IsNoJson ts
stuck_word ts e = no_value ts (λ d is. ok_apart d [] fault.NotJson (sym is ∙ e)) (λ is. absurd_faults (sym e ∙ is))
  where
    absurd_faults : ◌≡◌ {A = Read Data} (Err fault.NotJson) (Err fault.TooDeep) → ⊥
    absurd_faults e = cc

pub rest_left : (ts rest : Bytes) (d : Data) → element_at most_depth ts ≡ Ok (d, rest) → 0 < length rest → IsNoJson ts
rest_left ts rest d e some = no_value ts (λ v is. let none : rest ≡ [] = ap rest_of (sym e ∙ is) in let count : length rest ≡ 0 = ap length none in omega (arith, count, some)) (λ is. ok_apart d rest fault.TooDeep (sym e ∙ is))

-- ---- one answer

pub exclusive : (ts : Bytes) (d : Data) → JsonSpells most_depth ts d → (IsNoJson ts → ⊥) × (OpensTooDeep ts → ⊥)
exclusive ts d is = (λ none. none.spells_none most_depth d is, λ opens. not_deep ts (λ e. ok_apart d [] fault.TooDeep (sym (whole most_depth ts d is) ∙ e)) opens)

-- a fault of reading is the answer
pub fault_answer : (ts : Bytes) (why : JsonFault) → Fails why (element_at most_depth ts) → JsonAnswers ts (Err why)
fault_answer ts fault.Memory fails = tt
fault_answer ts fault.NotJson fails = stuck_word ts fails
fault_answer ts fault.TooDeep fails = deep_word ts fails
fault_answer ts fault.TooLarge fails = absurd fails

pub value_answer : (ts rest : Bytes) (one : Option Value) (v : Value) → (d : Data) × (element_at most_depth ts ≡ Ok (d, rest)) × StandsFor one d → length rest ≡ 0 → one ≡ Some v → size v ≤ most_size → JsonAnswers ts (Ok v)
value_answer ts rest one v (d, e, stands) none is small' =
    let same : plain v ≡ d = subst (λ (o : Option Value). StandsFor o d) is stands in
    record { spells = subst (JsonSpells most_depth ts) (sym same) (spelled_so most_depth ts rest d e none); small = small' }

pub large_answer : (ts rest : Bytes) (one : Option Value) → (d : Data) × (element_at most_depth ts ≡ Ok (d, rest)) × StandsFor one d → length rest ≡ 0 → one ≡ None → SpellsTooLarge ts
large_answer ts rest one (d, e, stands) none is = record { spelled = d; spells = spelled_so most_depth ts rest d e none; large = subst (λ (o : Option Value). StandsFor o d) is stands }

pub rest_answer : (ts rest : Bytes) (one : Option Value) → (d : Data) × (element_at most_depth ts ≡ Ok (d, rest)) × StandsFor one d → 0 < length rest → IsNoJson ts
rest_answer ts rest one (d, e, stands) some = rest_left ts rest d e some

value_and_back : (v : Value) → value_of (plain v) ≡ v
value_and_back Value.Null = refl
value_and_back (Value.Bool b) = refl
value_and_back (Value.Int z) = refl
value_and_back (Value.Text bs) = refl
value_and_back (Value.List ds) = ap Value.List (list_of-items_of ds)
value_and_back (Value.Object ms) = ap Value.Object (pairs_of-members_of ms)

abbrev Answer : Type 0
Answer = Result Value JsonFault

memory_apart : {P : Type 0} → (◌≡◌ {A = Answer} (Err fault.Memory) (Err fault.Memory) → ⊥) → P
memory_apart h = absurd (h refl)

same_value : (ts : Bytes) (v w : Value) → SpellsValue ts (plain v) → SpellsValue ts (plain w) → v ≡ w
same_value ts v w is also = sym (value_and_back v) ∙ ap value_of (one_value most_depth ts (plain v) (plain w) is.spells also.spells) ∙ value_and_back w

not_both : (ts : Bytes) (v : Value) → SpellsValue ts (plain v) → SpellsTooLarge ts → ⊥
not_both ts v is large = let same : plain v ≡ large.spelled = one_value most_depth ts (plain v) large.spelled is.spells large.spells in let sizes : data_size (plain v) ≡ data_size large.spelled = ap data_size same in let a = is.small in let b = large.large in omega (arith, a, b, sizes)

pub only_answer : (ts : Bytes) (a b : Answer) → JsonAnswers ts a → JsonAnswers ts b → (a ≡ Err fault.Memory → ⊥) → (b ≡ Err fault.Memory → ⊥) → a ≡ b
only_answer ts (Err fault.Memory) b is also here there = memory_apart here
only_answer ts (Ok v) (Err fault.Memory) is also here there = memory_apart there
only_answer ts (Ok v) (Ok w) is also here there = ap (λ (u : Value). let r : Answer = Ok u in r) (same_value ts v w is also)
only_answer ts (Ok v) (Err fault.NotJson) is also here there = absurd ((exclusive ts (plain v) is.spells).0 also)
only_answer ts (Ok v) (Err fault.TooDeep) is also here there = absurd ((exclusive ts (plain v) is.spells).1 also)
only_answer ts (Ok v) (Err fault.TooLarge) is also here there = absurd (not_both ts v is also)
only_answer ts (Err fault.NotJson) (Err fault.Memory) is also here there = memory_apart there
only_answer ts (Err fault.NotJson) (Ok w) is also here there = absurd ((exclusive ts (plain w) also.spells).0 is)
only_answer ts (Err fault.NotJson) (Err fault.NotJson) is also here there = refl
only_answer ts (Err fault.NotJson) (Err fault.TooDeep) is also here there = absurd (is.not_too_deep also)
only_answer ts (Err fault.NotJson) (Err fault.TooLarge) is also here there = absurd ((exclusive ts also.spelled also.spells).0 is)
only_answer ts (Err fault.TooDeep) (Err fault.Memory) is also here there = memory_apart there
only_answer ts (Err fault.TooDeep) (Ok w) is also here there = absurd ((exclusive ts (plain w) also.spells).1 is)
only_answer ts (Err fault.TooDeep) (Err fault.NotJson) is also here there = absurd (also.not_too_deep is)
only_answer ts (Err fault.TooDeep) (Err fault.TooDeep) is also here there = refl
only_answer ts (Err fault.TooDeep) (Err fault.TooLarge) is also here there = absurd ((exclusive ts also.spelled also.spells).1 is)
only_answer ts (Err fault.TooLarge) (Err fault.Memory) is also here there = memory_apart there
only_answer ts (Err fault.TooLarge) (Ok w) is also here there = absurd (not_both ts w also is)
only_answer ts (Err fault.TooLarge) (Err fault.NotJson) is also here there = absurd ((exclusive ts is.spelled is.spells).0 also)
only_answer ts (Err fault.TooLarge) (Err fault.TooDeep) is also here there = absurd ((exclusive ts is.spelled is.spells).1 also)
only_answer ts (Err fault.TooLarge) (Err fault.TooLarge) is also here there = refl
