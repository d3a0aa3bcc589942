-- What is kept for the members of a text stands for them, whatever is set.
use Rattle.std.proofs.Common.{◌≡◌, ◌≤◌, ◌<◌, ◌+◌, ◌-◌, ℕ, zero, suc, refl, sym, ap, ◌∙◌, subst, arith, Bool, true, false, ◌||◌, if◌then◌else◌, ◌⊎◌, inl, inr, List, [], ◌∷◌, ◌++◌, length, take, set, replicate, bytes_eq, Option, Some, None, Ok, unwrap_or, is_some, is_none, not}
use Rattle.std.specs.List.{list_any}
use Rattle.uq_value.specs.Data.{Bytes, Data, Pairs, object, members_of, names_of}
use Rattle.uq_value.specs.Size.{data_size, members_size, most_size}
use Rattle.uq_value.specs.Depth.{data_depth, most_depth}
use Rattle.uq_value.specs.Faults.{Refuses}
use Rattle.uq_value.specs.Places.{place_of}
use Rattle.uq_value.specs.Plain.{plain, size, depth}
use Rattle.uq_value.specs.Put.{with_member, limited}
use Rattle.uq_value.specs.Laws.Limits.{limited-ok, limited-refuses}
use Rattle.uq_value.specs.declared.value.Value.{Value}
use Rattle.uq_value.specs.declared.error.ValueFault.{ValueFault}
use Rattle.uq_value.specs.declared.error.ValueFault.TheVariants as value
use Rattle.uq_json.specs.Internal.LeftOut.{KeptAs, StandFor, marked}
use Rattle.uq_json.specs.Internal.Found.{StandsFor}

-- ---- a member is set

pub told : {A : Type 0} (o : Option A) (b : Bool) → is_some o ≡ not b → b ≡ is_none o
told o true e = sym (ap (λ x. not x) e)
told o false e = sym (ap (λ x. not x) e)

pub kept_as : (one : Option Value) (kept : Value) (mark : Bool) (d : Data) → kept ≡ unwrap_or one Value.Null → mark ≡ is_none one → StandsFor one d → data_depth d < most_depth → KeptAs mark (plain kept) d
kept_as (Some v) kept mark d is marks stands shallow = subst (λ (b : Bool). KeptAs b (plain kept) d) (sym marks) (ap plain is ∙ stands)
kept_as None kept mark d is marks stands shallow = subst (λ (b : Bool). KeptAs b (plain kept) d) (sym marks) (stands, shallow)

module _ (name : Bytes) (kept d : Data) (mark : Bool) (fits : KeptAs mark kept d) where
  abbrev with_kept : Bool → Bytes × Data → Pairs → Pairs
  with_kept b k ks = if b then (k.0, kept) ∷ ks else k ∷ with_member name kept ks

  abbrev with_data : Bool → Bytes × Data → Pairs → Pairs
  with_data b m ms = if b then (m.0, d) ∷ ms else m ∷ with_member name d ms

  -- the same name stands at the same place
  turned : (k m : Bytes × Data) (ks ms : Pairs) (bs : List Bool) → k.0 ≡ m.0 → StandFor (with_kept (bytes_eq k.0 name) k ks) bs (with_data (bytes_eq k.0 name) m ms)
      → StandFor (with_member name kept (k ∷ ks)) bs (with_member name d (m ∷ ms))
  turned k m ks ms bs e h = subst (λ (b : Bool). StandFor (with_kept (bytes_eq k.0 name) k ks) bs (with_data b m ms)) (ap (λ (n : Bytes). bytes_eq n name) e) h

  pub set_marked : (ks : Pairs) (bs : List Bool) (ms : Pairs) (at : ℕ) → StandFor ks bs ms → at ≡ place_of name (names_of ks) → StandFor (with_member name kept ks) (marked at mark bs) (with_member name d ms)
  set_marked [] [] [] zero h e = (refl, fits, tt)
  set_marked [] [] [] (suc at) h e = absurd (omega (arith, e))
  set_marked [] [] (m ∷ ms) at h e = absurd h
  set_marked [] (b ∷ bs) ms at h e = absurd h
  set_marked (k ∷ ks) [] [] at h e = absurd h
  set_marked (k ∷ ks) (b ∷ bs) [] at h e = absurd h
  set_marked (k ∷ ks) [] (m ∷ ms) zero h e = turned k m ks ms (mark ∷ []) h.0 (split (bytes_eq k.0 name) refl)
    where
      split : (c : Bool) → bytes_eq k.0 name ≡ c → StandFor (with_kept c k ks) (mark ∷ []) (with_data c m ms)
      split true q = (h.0, fits, h.2)
      split false q = absurd (omega (arith, e, ap (λ c. if c then 0 else 1 + place_of name (names_of ks)) q))
  set_marked (k ∷ ks) (b ∷ bs) (m ∷ ms) zero h e = turned k m ks ms (mark ∷ bs) h.0 (split (bytes_eq k.0 name) refl)
    where
      split : (c : Bool) → bytes_eq k.0 name ≡ c → StandFor (with_kept c k ks) (mark ∷ bs) (with_data c m ms)
      split true q = (h.0, fits, h.2)
      split false q = absurd (omega (arith, e, ap (λ c. if c then 0 else 1 + place_of name (names_of ks)) q))
  set_marked (k ∷ ks) [] (m ∷ ms) (suc at) h e = turned k m ks ms (false ∷ marked at mark []) h.0 (split (bytes_eq k.0 name) refl (λ p. set_marked ks [] ms at h.2 p))
    where
      split : (c : Bool) → bytes_eq k.0 name ≡ c → (at ≡ place_of name (names_of ks) → StandFor (with_member name kept ks) (marked at mark []) (with_member name d ms))
          → StandFor (with_kept c k ks) (false ∷ marked at mark []) (with_data c m ms)
      split true q others = absurd (omega (arith, e, ap (λ c. if c then 0 else 1 + place_of name (names_of ks)) q))
      split false q others = (h.0, h.1, others (omega (arith, e, ap (λ c. if c then 0 else 1 + place_of name (names_of ks)) q)))
  set_marked (k ∷ ks) (b ∷ bs) (m ∷ ms) (suc at) h e = turned k m ks ms (b ∷ marked at mark bs) h.0 (split (bytes_eq k.0 name) refl (λ p. set_marked ks bs ms at h.2 p))
    where
      split : (c : Bool) → bytes_eq k.0 name ≡ c → (at ≡ place_of name (names_of ks) → StandFor (with_member name kept ks) (marked at mark bs) (with_member name d ms))
          → StandFor (with_kept c k ks) (b ∷ marked at mark bs) (with_data c m ms)
      split true q others = absurd (omega (arith, e, ap (λ c. if c then 0 else 1 + place_of name (names_of ks)) q))
      split false q others = (h.0, h.1, others (omega (arith, e, ap (λ c. if c then 0 else 1 + place_of name (names_of ks)) q)))

-- behind the marks none is needed
module _ (name : Bytes) (kept d : Data) (fits : kept ≡ d) where
  pub set_behind : (ks : Pairs) (bs : List Bool) (ms : Pairs) (at : ℕ) → StandFor ks bs ms → at ≡ place_of name (names_of ks) → length bs ≤ at → StandFor (with_member name kept ks) bs (with_member name d ms)
  set_behind [] [] [] at h e far = (refl, fits, tt)
  set_behind [] [] (m ∷ ms) at h e far = absurd h
  set_behind [] (b ∷ bs) ms at h e far = absurd h
  set_behind (k ∷ ks) [] [] at h e far = absurd h
  set_behind (k ∷ ks) (b ∷ bs) [] at h e far = absurd h
  set_behind (k ∷ ks) [] (m ∷ ms) at h e far = turned name kept d false fits k m ks ms [] h.0 (split (bytes_eq k.0 name) (set_behind ks [] ms (place_of name (names_of ks)) h.2 refl (omega arith)))
    where
      split : (c : Bool) → StandFor (with_member name kept ks) [] (with_member name d ms) → StandFor (if c then (k.0, kept) ∷ ks else k ∷ with_member name kept ks) [] (if c then (m.0, d) ∷ ms else m ∷ with_member name d ms)
      split true others = (h.0, fits, h.2)
      split false others = (h.0, h.1, others)
  set_behind (k ∷ ks) (b ∷ bs) (m ∷ ms) at h e far = turned name kept d false fits k m ks ms (b ∷ bs) h.0 (split (bytes_eq k.0 name) refl (λ p. set_behind ks bs ms (place_of name (names_of ks)) h.2 refl p))
    where
      split : (c : Bool) → bytes_eq k.0 name ≡ c → (length bs ≤ place_of name (names_of ks) → StandFor (with_member name kept ks) bs (with_member name d ms))
          → StandFor (if c then (k.0, kept) ∷ ks else k ∷ with_member name kept ks) (b ∷ bs) (if c then (m.0, d) ∷ ms else m ∷ with_member name d ms)
      split true q others = absurd (omega (arith, far, e, ap (λ c. if c then 0 else 1 + place_of name (names_of ks)) q))
      split false q others = (h.0, h.1, others (omega (arith, far, e, ap (λ c. if c then 0 else 1 + place_of name (names_of ks)) q)))

-- either way
pub set_either : (name : Bytes) (kept d : Data) (mark : Bool) (ks now ms : Pairs) (bs marks : List Bool) (at : ℕ) → KeptAs mark kept d → StandFor ks bs ms → at ≡ place_of name (names_of ks) → now ≡ with_member name kept ks
    → (marks ≡ marked at mark bs) ⊎ ((mark ≡ false) × (length bs ≤ at) × (marks ≡ bs)) → StandFor now marks (with_member name d ms)
set_either name kept d mark ks now ms bs marks at fits h e set (inl m) =
    subst (λ (ns : Pairs). StandFor ns marks (with_member name d ms)) (sym set) (subst (λ (cs : List Bool). StandFor (with_member name kept ks) cs (with_member name d ms)) (sym m) (set_marked name kept d mark fits ks bs ms at h e))
set_either name kept d mark ks now ms bs marks at fits h e set (inr (none, far, m)) =
    let same : kept ≡ d = subst (λ (c : Bool). KeptAs c kept d) none fits in
    subst (λ (ns : Pairs). StandFor ns marks (with_member name d ms)) (sym set) (subst (λ (cs : List Bool). StandFor (with_member name kept ks) cs (with_member name d ms)) (sym m) (set_behind name kept d same ks bs ms at h e far))

-- ---- marks

pub marked_within : (at : ℕ) (mark : Bool) (bs : List Bool) → at < length bs → set bs at mark ≡ marked at mark bs
marked_within at mark [] h = absurd (omega (arith, h))
marked_within zero mark (b ∷ bs) h = refl
marked_within (suc at) mark (b ∷ bs) h = ap (λ cs. b ∷ cs) (marked_within at mark bs (omega (arith, h)))

marked_none : (at : ℕ) → replicate at false ++ true ∷ [] ≡ marked at true []
marked_none zero = refl
marked_none (suc at) = ap (λ cs. false ∷ cs) (marked_none at)

pub marked_behind : (at : ℕ) (bs : List Bool) → length bs ≤ at → (take at bs ++ replicate (at - length bs) false) ++ true ∷ [] ≡ marked at true bs
marked_behind zero [] h = refl
marked_behind (suc at) [] h =
    let count : suc at - length {A = Bool} [] ≡ suc at = omega arith in
    ap (λ k. replicate k false ++ true ∷ []) count ∙ marked_none (suc at)
marked_behind zero (b ∷ bs) h = absurd (omega (arith, h))
marked_behind (suc at) (b ∷ bs) h =
    let count : suc at - length (b ∷ bs) ≡ at - length bs = omega arith in
    ap (λ k. b ∷ ((take at bs ++ replicate k false) ++ true ∷ [])) count ∙ ap (λ cs. b ∷ cs) (marked_behind at bs (omega (arith, h)))

-- ---- all members

module _ (eq : Bool → Bool) (yes-is : eq true ≡ true) (no-is : eq false ≡ false) where
  pub some_left_out : (ks : Pairs) (bs : List Bool) (ms : Pairs) → StandFor ks bs ms → list_any eq bs ≡ true → most_size < members_size (members_of ms)
  some_left_out [] [] ms h any = absurd (cc)
  some_left_out (k ∷ ks) [] ms h any = absurd (cc)
  some_left_out [] (b ∷ bs) ms h any = absurd h
  some_left_out (k ∷ ks) (b ∷ bs) [] h any = absurd h
  some_left_out (k ∷ ks) (true ∷ bs) (m ∷ ms) h any = let large = h.1.0 in omega (arith, large)
  some_left_out (k ∷ ks) (false ∷ bs) (m ∷ ms) h any = let others = some_left_out ks bs ms h.2 (sym (ap (λ b. b || list_any eq bs) no-is) ∙ any) in omega (arith, others)

  pub none_left_out : (ks : Pairs) (bs : List Bool) (ms : Pairs) → StandFor ks bs ms → list_any eq bs ≡ false → ks ≡ ms
  none_left_out [] [] [] h none = refl
  none_left_out [] [] (m ∷ ms) h none = absurd h
  none_left_out [] (b ∷ bs) ms h none = absurd h
  none_left_out (k ∷ ks) [] [] h none = absurd h
  none_left_out (k ∷ ks) (b ∷ bs) [] h none = absurd h
  none_left_out (k ∷ ks) [] (m ∷ ms) h none = let others = none_left_out ks [] ms h.2 none in λ i. (h.0 i, h.1 i) ∷ others i
  none_left_out (k ∷ ks) (true ∷ bs) (m ∷ ms) h none = let clash : true ≡ false = sym (ap (λ b. b || list_any eq bs) yes-is) ∙ none in absurd (cc)
  none_left_out (k ∷ ks) (false ∷ bs) (m ∷ ms) h none =
      let same : k.1 ≡ m.1 = h.1 in
      let others = none_left_out ks bs ms h.2 (sym (ap (λ b. b || list_any eq bs) no-is) ∙ none) in λ i. (h.0 i, same i) ∷ others i

pub object_kept : (ks o ms : Pairs) → ks ≡ ms → limited (Value.Object ks) ≡ Ok (Value.Object o) → StandsFor (Some (Value.Object o)) (object ms)
object_kept ks o ms same finished =
    let allowed = limited-ok (Value.Object ks) (Value.Object o) finished in
    sym (ap plain allowed.same) ∙ ap object same

pub object_left_out : (ks ms : Pairs) (e : ValueFault) → ks ≡ ms → Refuses (limited (Value.Object ks)) e → (e ≡ value.Memory → ⊥) → data_depth (object ms) ≤ most_depth → most_size < data_size (object ms)
object_left_out ks ms e same refused other shallow = by (limited-refuses (Value.Object ks) e refused)
  where
    by : (e ≡ value.Memory) ⊎ ((most_depth < depth (Value.Object ks)) ⊎ (most_size < size (Value.Object ks))) → most_size < data_size (object ms)
    by (inl memory) = absurd (other memory)
    by (inr (inl deep)) = absurd (omega (arith, deep, shallow, ap (λ ns. data_depth (object ns)) same))
    by (inr (inr large)) = omega (arith, large, ap (λ ns. data_size (object ns)) same)
