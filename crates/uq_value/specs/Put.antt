-- Writing a value at the end of some steps.
use Rattle.std.specs.Prelude.{ℕ, if◌then◌else◌, nat_lt, ℤ, pos, negsuc, List, Option, None, [], ◌∷◌, ◌++◌, length, Result, Ok, Err, slice_set, unwrap_or}
use Rattle.std.specs.Str.{bytes_eq}
use Rattle.std.specs.Fmt.{signed_decimal}
use Rattle.uq_value.specs.Data.{Bytes, Data, Datas}
use Rattle.uq_value.specs.Size.{most_size}
use Rattle.uq_value.specs.Depth.{most_depth}
use Rattle.uq_value.specs.Plain.{plain, size, depth}
use Rattle.uq_value.specs.Reading.{item_at, find_member}
use Rattle.uq_value.specs.declared.value.Value.{Value}
use Rattle.uq_value.specs.declared.step.Step.{Step}
use Rattle.uq_value.specs.declared.step.Step.TheVariants.{Member, Index, Append}
use Rattle.uq_value.specs.declared.error.ValueFault.{ValueFault}
use Rattle.uq_value.specs.declared.error.ValueFault.TheVariants.{NotContainer, IndexRange, TooDeep, TooLarge}

abbrev pub Put : Type 0 → Type 0
Put A = Result A ValueFault

abbrev pub then_put : {A B : Type 0} → Put A → (A → Put B) → Put B
then_put (Ok x) f = f x
then_put (Err e) f = Err e

-- where a step leads in a list or an object
pub data Key : Type 0 where
  nth : ℕ → Key
  named : Bytes → Key

-- a list takes a whole number from 0 to its length
abbrev pub in_list : ℕ → ℤ → Put Key
in_list n (pos k) = if nat_lt n k then Err IndexRange else Ok (nth k)
in_list n (negsuc k) = Err IndexRange

-- where a step leads from a value: null is what the step asks for, an empty list or an empty object
abbrev pub key : Step → Value → Put Key
key (Member name) Value.Null = Ok (named name)
key (Member name) (Value.Object ms) = Ok (named name)
key (Member name) _ = Err NotContainer
key (Index (Value.Int z)) Value.Null = in_list 0 z
key (Index (Value.Text name)) Value.Null = Ok (named name)
key (Index (Value.Int z)) (Value.List ds) = in_list (length ds) z
key (Index _) (Value.List ds) = Err IndexRange
key (Index (Value.Text name)) (Value.Object ms) = Ok (named name)
key (Index (Value.Int z)) (Value.Object ms) = Ok (named (signed_decimal z))
key (Index _) _ = Err NotContainer
key Append Value.Null = Ok (nth 0)
key Append (Value.List ds) = Ok (nth (length ds))
key Append _ = Err NotContainer

-- what stands there
abbrev pub there : Key → Value → Option Value
there (nth k) (Value.List ds) = item_at ds (pos k)
there (named name) (Value.Object ms) = find_member name ms
there _ _ = None

-- null where nothing does
abbrev pub child : Key → Value → Value
child k v = unwrap_or (there k v) Value.Null

-- an item set, or appended at the length
abbrev pub with_item : ℕ → Data → Datas → Datas
with_item k d ds = if nat_lt k (length ds) then slice_set ds k d else ds ++ d ∷ []

-- a member set in its place, or appended
abbrev pub with_member : {D : Type 0} → Bytes → D → List (Bytes × D) → List (Bytes × D)
with_member name d [] = (name, d) ∷ []
with_member name d (m ∷ ms) = if bytes_eq m.0 name then (m.0, d) ∷ ms else m ∷ with_member name d ms

-- the value with another one there: null becomes a list or an object
abbrev pub with_child : Key → Value → Value → Value
with_child (nth k) w (Value.List ds) = Value.List (with_item k (plain w) ds)
with_child (nth k) w _ = Value.List (plain w ∷ [])
with_child (named name) w (Value.Object ms) = Value.Object (with_member name (plain w) ms)
with_child (named name) w _ = Value.Object ((name, plain w) ∷ [])

-- the value with what `write` makes of its child
abbrev pub at_child : Key → (Value → Put Value) → Value → Put Value
at_child k write v = then_put (write (child k v)) (λ w. Ok (with_child k w v))

-- the value with a new one at the end of these steps, its limits aside
abbrev pub put_within : List Step → Value → Value → Put Value
put_within [] new v = Ok new
put_within (s ∷ ss) new v = then_put (key s v) (λ k. at_child k (put_within ss new) v)

-- the limits of the whole value, depth before size
abbrev pub limited : Value → Put Value
limited v = if nat_lt most_depth (depth v) then Err TooDeep else (if nat_lt most_size (size v) then Err TooLarge else Ok v)

-- `put(root, steps, new)`: the first fault of the steps, then of the limits, else the new root
abbrev pub put : Value → List Step → Value → Put Value
put v steps new = then_put (put_within steps new v) limited
