-- Lists of objects, made records one after another.
use Rattle.std.proofs.Common.{◌≡◌, ℕ, ◌+◌, ◌-◌, ◌<◌, ◌≤◌, ◌^◌, suc, Bool, true, false, not, ◌&&◌, nat_lt, if◌then◌else◌, List, [], ◌∷◌, ◌++◌, length, map, take, get_or, refl, sym, ap, ◌∙◌, pos, Ok, Err, arith}
use Rattle.std.specs.List.{list_all}
use Rattle.std.proofs.lemmas.List.{length-map, length-take-le, take_more, map-append}
use Rattle.std.proofs.lemmas.List.Folds.{list_all_at, list_all_more}
use Rattle.uq_value.specs.Data.{Pairs, int, members_of, pairs_of}
use Rattle.uq_value.specs.Size.{most_size, leb_size, data_size, members_size, name_size}
use Rattle.uq_value.specs.declared.value.Value.{Value}
use Rattle.uq_model.specs.declared.change.WriteStop.{WriteStop}
use Rattle.uq_model.specs.declared.change.WriteStop.TheVariants.{Refused, Memory}
use Rattle.uq_model.specs.declared.done.Refusal.{Refusal}
use Rattle.uq_model.specs.declared.done.Refusal.TheVariants.{NotObject, RecordTooLarge, IdsUsedUp}
use Rattle.uq_model.specs.Batch.{is_object, members_or_none, are_small, records_from, small_from, sizes_checked}
use Rattle.uq_model.specs.Change.{Decides}
use Rattle.uq_model.specs.Collections.{Checked, and_then, id_name, without_id, record_of, is_small, record_made, members_in_all, numbered, has_ids, batch_of, batch}

-- ---- the size of a record is that with any other id

as_many : (ks : Pairs) (a b : ℕ) → length (pairs_of (members_of (ks ++ (id_name, int (pos a)) ∷ []))) ≡ length
    (pairs_of (members_of (ks ++ (id_name, int (pos b)) ∷ [])))
as_many [] a b = refl
as_many (k ∷ ks) a b = ap suc (as_many ks a b)

as_large : (ks : Pairs) (a b : ℕ) → members_size (members_of (ks ++ (id_name, int (pos a)) ∷ [])) ≡ members_size
    (members_of (ks ++ (id_name, int (pos b)) ∷ []))
as_large [] a b = refl
as_large (k ∷ ks) a b = ap (λ n. name_size k.0 + data_size k.1 + n) (as_large ks a b)

small_any : (id : ℕ) (ms : Pairs) → is_small (record_of id ms) ≡ is_small (record_of 0 ms)
small_any id ms = λ i. not (nat_lt most_size (1 + leb_size (as_many (without_id ms) id 0 i) + as_large
    (without_id ms) id 0 i))

all_small : (n : ℕ) (vs : List Value) → list_all (λ (r : ℕ × Value). is_small r.1) (records_from n vs) ≡ are_small vs
all_small n [] = refl
all_small n (v ∷ vs) = λ i. small_any n (members_or_none v) i && all_small (n + 1) vs i

-- ---- objects alone, or something else among them

all_members : (vs : List Value) → list_all is_object vs ≡ true → members_in_all vs ≡ Ok (map members_or_none vs)
all_members [] h = refl
all_members (Value.Object ms ∷ vs) h = ap (λ (r : Checked (List Pairs)). and_then r (λ more. Ok (ms ∷ more)))
    (all_members vs h)
all_members (Value.Null ∷ vs) h = absurd (let f : ⊥ = cc in f)
all_members (Value.Bool b ∷ vs) h = absurd (let f : ⊥ = cc in f)
all_members (Value.Int z ∷ vs) h = absurd (let f : ⊥ = cc in f)
all_members (Value.Text bs ∷ vs) h = absurd (let f : ⊥ = cc in f)
all_members (Value.List ds ∷ vs) h = absurd (let f : ⊥ = cc in f)

not_all_members : (vs : List Value) → list_all is_object vs ≡ false → members_in_all vs ≡ Err NotObject
not_all_members [] h = absurd (let f : ⊥ = cc in f)
not_all_members (Value.Object ms ∷ vs) h =
    ap (λ (r : Checked (List Pairs)). and_then r (λ more. Ok (ms ∷ more))) (not_all_members vs h)
not_all_members (Value.Null ∷ vs) h = refl
not_all_members (Value.Bool b ∷ vs) h = refl
not_all_members (Value.Int z ∷ vs) h = refl
not_all_members (Value.Text bs ∷ vs) h = refl
not_all_members (Value.List ds ∷ vs) h = refl

pub not_objects : (next : ℕ) (vs : List Value) → list_all is_object vs ≡ false → batch next vs ≡ Err NotObject
not_objects next vs h = ap (λ (r : Checked (List Pairs)). and_then r (batch_of next)) (not_all_members vs h)

-- ---- what a list of objects comes to

abbrev chosen : Bool → Bool → List (ℕ × Value) → Checked (List (ℕ × Value))
chosen small ids records = if not small then Err RecordTooLarge else (if ids then Ok records else Err IdsUsedUp)

of_objects : (next : ℕ) (vs : List Value) → list_all is_object vs ≡ true
    → batch next vs ≡ chosen (are_small vs) (has_ids next (length vs)) (records_from next vs)
of_objects next vs h =
    ap (λ (r : Checked (List Pairs)). and_then r (batch_of next)) (all_members vs h)
    ∙ ap (λ b. chosen b (has_ids next (length (map members_or_none vs))) (records_from next vs)) (all_small next vs)
    ∙ ap (λ n. chosen (are_small vs) (has_ids next n) (records_from next vs)) (length-map vs members_or_none)

with_ids : (b : Bool) (records : List (ℕ × Value))
    → chosen b true records ≡ (if b then Ok records else Err RecordTooLarge)
with_ids true records = refl
with_ids false records = refl

-- where there are ids enough
pub ids_left : (next : ℕ) (vs : List Value) → list_all is_object vs ≡ true → length vs ≤ 2 ^ 63 - 1 - next
    → next < 2 ^ 63 → batch next vs ≡ small_from next vs
ids_left next vs h few below =
    let enough : has_ids next (length vs) ≡ true = grind arith in
    of_objects next vs h ∙ ap (λ b. chosen (are_small vs) b (records_from next vs)) enough
    ∙ with_ids (are_small vs) (records_from next vs)

-- where there are not
abbrev unless_large : Bool → Checked (Unit {0})
unless_large b = if b then Ok tt else Err RecordTooLarge

pub none_large : (next : ℕ) (vs : List Value) → list_all is_object vs ≡ true → 2 ^ 63 - 1 - next < length vs
    → next < 2 ^ 63 → sizes_checked vs ≡ Ok tt → batch next vs ≡ Err IdsUsedUp
none_large next vs h many below small =
    let ended : has_ids next (length vs) ≡ false = grind arith in
    of_objects next vs h ∙ ap (λ b. chosen (are_small vs) b (records_from next vs)) ended ∙ by (are_small vs) small
  where
    by : (b : Bool) → unless_large b ≡ Ok tt → chosen b false (records_from next vs) ≡ Err IdsUsedUp
    by true e = refl
    by false e = absurd (let f : ⊥ = cc in f)

pub some_large : (next : ℕ) (vs : List Value) → list_all is_object vs ≡ true → (refusal : Refusal)
    → sizes_checked vs ≡ Err refusal → batch next vs ≡ Err refusal
some_large next vs h refusal large = of_objects next vs h ∙ by (are_small vs) large
  where
    by : (b : Bool) → unless_large b ≡ Err refusal
        → chosen b (has_ids next (length vs)) (records_from next vs) ≡ Err refusal
    by true e = absurd (let f : ⊥ = cc in f)
    by false e = cc

-- ---- one object more

numbered-push : (n k : ℕ) (xs : List Pairs) (x : Pairs) → k ≡ n + length xs
    → numbered n (xs ++ x ∷ []) ≡ numbered n xs ++ (k, record_of k x) ∷ []
numbered-push n k [] x e = let same : n ≡ k = omega arith in ap (λ (j : ℕ). (j, record_of j x) ∷ []) same
numbered-push n k (y ∷ ys) x e = ap (λ rs. (n, record_of n y) ∷ rs) (numbered-push (n + 1) k ys x (omega arith))

pub records_more : (first : ℕ) (vs : List Value) (at : ℕ) (d : Value) → at < length vs
    → records_from first (take (at + 1) vs) ≡ records_from first (take at vs) ++
    (first + at, record_of (first + at) (members_or_none (get_or vs at d))) ∷ []
records_more first vs at d h =
    ap (λ us. records_from first us) (take_more vs at d h)
    ∙ ap (λ all. numbered first all) (map-append members_or_none (take at vs) (get_or vs at d ∷ []))
    ∙ numbered-push first (first + at) (map members_or_none (take at vs)) (members_or_none (get_or vs at d))
    (ap (λ n. first + n) (sym (length-map (take at vs) members_or_none ∙ length-take-le at vs (omega arith))))

pub small_more : (vs : List Value) (at : ℕ) (d : Value) → at < length vs → are_small (take at vs) ≡ true
    → is_small (record_of 0 (members_or_none (get_or vs at d))) ≡ true → are_small (take (at + 1) vs) ≡ true
small_more vs at d h before here =
    list_all_more (λ v. is_small (record_of 0 (members_or_none v))) vs at d h ∙ (λ i. before i && here i)

-- what is made of one value
pub record Made (id : ℕ) (v made : Value) : Type 0 where
  pub is : made ≡ record_of id (members_or_none v)
  pub small : is_small (record_of 0 (members_or_none v)) ≡ true

pub was_made : (id : ℕ) (v made : Value) → record_made id v ≡ Ok made → Made id v made
was_made id (Value.Object ms) made e = by (is_small (record_of id ms)) (sym (small_any id ms)) e
  where
    by : (b : Bool) → is_small (record_of 0 ms) ≡ b
        → ◌≡◌ {A = Checked Value} (if b then Ok (record_of id ms) else Err RecordTooLarge) (Ok made)
        → Made id (Value.Object ms) made
    by true s h = record { is = cc; small = s }
    by false s h = absurd (let f : ⊥ = cc in f)
was_made id Value.Null made e = absurd (let f : ⊥ = cc in f)
was_made id (Value.Bool b) made e = absurd (let f : ⊥ = cc in f)
was_made id (Value.Int z) made e = absurd (let f : ⊥ = cc in f)
was_made id (Value.Text bs) made e = absurd (let f : ⊥ = cc in f)
was_made id (Value.List ds) made e = absurd (let f : ⊥ = cc in f)

-- why one was not
pub record NotMade (v : Value) (refusal : Refusal) : Type 0 where
  pub is : refusal ≡ RecordTooLarge
  pub large : is_small (record_of 0 (members_or_none v)) ≡ false

pub was_not_made : (id : ℕ) (v : Value) (refusal : Refusal) → is_object v ≡ true → record_made id v ≡ Err refusal
    → NotMade v refusal
was_not_made id (Value.Object ms) refusal o e = by (is_small (record_of id ms)) (sym (small_any id ms)) e
  where
    by : (b : Bool) → is_small (record_of 0 ms) ≡ b
        → ◌≡◌ {A = Checked Value} (if b then Ok (record_of id ms) else Err RecordTooLarge) (Err refusal)
        → NotMade (Value.Object ms) refusal
    by true s h = absurd (let f : ⊥ = cc in f)
    by false s h = record { is = cc; large = s }
was_not_made id Value.Null refusal o e = absurd (let f : ⊥ = cc in f)
was_not_made id (Value.Bool b) refusal o e = absurd (let f : ⊥ = cc in f)
was_not_made id (Value.Int z) refusal o e = absurd (let f : ⊥ = cc in f)
was_not_made id (Value.Text bs) refusal o e = absurd (let f : ⊥ = cc in f)
was_not_made id (Value.List ds) refusal o e = absurd (let f : ⊥ = cc in f)

object_at : (vs : List Value) (at : ℕ) (d : Value) → at < length vs → list_all is_object vs ≡ true
    → is_object (get_or vs at d) ≡ true
object_at vs at d h all = by (is_object (get_or vs at d)) refl
  where
    by : (b : Bool) → is_object (get_or vs at d) ≡ b → is_object (get_or vs at d) ≡ true
    by true e = e
    by false e = absurd (let g : list_all is_object vs ≡ false = list_all_at is_object vs at d h e in
        let f : ⊥ = cc in f)

-- one object that is too large makes the whole list too large
pub one_large : (id : ℕ) (vs : List Value) (at : ℕ) (v : Value) (refusal : Refusal) → at < length vs
    → v ≡ get_or vs at v → list_all is_object vs ≡ true
    → record_made id v ≡ Err refusal → (are_small vs ≡ false) × (refusal ≡ RecordTooLarge)
one_large id vs at v refusal h there all e =
    let why = was_not_made id v refusal (ap is_object there ∙ object_at vs at v h all) e in (
      list_all_at (λ u. is_small (record_of 0 (members_or_none u))) vs at v h
          (ap (λ u. is_small (record_of 0 (members_or_none u))) (sym there) ∙ why.large),
      why.is,
    )

-- ---- refusals, handed on

abbrev chosen_from : {A : Type 0} → Bool → A → Checked A
chosen_from b x = if b then Ok x else Err RecordTooLarge

abbrev refusal_of : {A : Type 0} → A → Refusal → Checked A
refusal_of x r = Err r

pub one_refuses : {A B : Type 0} (x : A) (view : B → A) (id : ℕ) (vs : List Value) (at : ℕ) (v : Value)
    (stop : WriteStop) → at < length vs → v ≡ get_or vs at v
    → list_all is_object vs ≡ true → Decides {B = Value} (record_made id v) (Err stop) (λ w. w)
    → Decides (if are_small vs then Ok x else Err RecordTooLarge) (Err stop) view
one_refuses x view id vs at v Memory h there all e = tt
one_refuses x view id vs at v (Refused refusal) h there all e =
    let why = one_large id vs at v refusal h there all e in
    ap (λ b. chosen_from b x) why.0 ∙ ap (λ (r : Refusal). refusal_of x r) (sym why.1)

pub sizes_refuse : {B : Type 0} (view : B → List (ℕ × Value)) (next : ℕ) (vs : List Value) (stop : WriteStop)
    → list_all is_object vs ≡ true
    → Decides {B = Unit {0}} (sizes_checked vs) (Err stop) (λ u. u) → Decides (batch next vs) (Err stop) view
sizes_refuse view next vs Memory all e = tt
sizes_refuse view next vs (Refused refusal) all e = some_large next vs all refusal e
