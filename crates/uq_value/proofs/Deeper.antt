-- How deep a value is after a write.
use Rattle.std.proofs.Common.{◌≡◌, ◌≤◌, ◌<◌, ◌+◌, max, ℕ, zero, suc, refl, ap, arith, Bool, true, false, nat_lt, if◌then◌else◌, List, [], ◌∷◌, ◌++◌, length, set, slice_set, slice_get, bytes_eq, Some, option_map, unwrap_or, Ok, Err}
use Rattle.uq_value.specs.Data.{Bytes, Data, Datas, Pairs, items_of, members_of}
use Rattle.uq_value.specs.Depth.{data_depth, items_depth, members_depth}
use Rattle.uq_value.specs.Plain.{plain, value_of, depth}
use Rattle.uq_value.specs.Reading.{find, find_member}
use Rattle.uq_value.specs.Put.{Put, Key, nth, named, then_put, key, child, with_child, with_member, at_child, put_within}
use Rattle.uq_value.specs.declared.value.Value.{Value}
use Rattle.uq_value.specs.declared.step.Step.{Step}
use Rattle.uq_value.proofs.Levels.{plain-value_of}
use Rattle.uq_value.specs.Laws.Limits.{ok_one}

-- the depth of a whole once a part of it is d deep
pub record Between (before d after : ℕ) : Type 0 where
  pub least : d ≤ after
  pub most : after ≤ max before d

items-set : (ds : Datas) (k : ℕ) (d : Data) → k < length ds → Between (items_depth (items_of ds)) (data_depth d) (items_depth (items_of (set ds k d)))
items-set [] k d h = absurd (omega (arith, h))
items-set (e ∷ ds) zero d h = record { least = omega arith; most = omega arith }
items-set (e ∷ ds) (suc k) d h =
    let o : Between (items_depth (items_of ds)) (data_depth d) (items_depth (items_of (set ds k d))) = items-set ds k d (omega (arith, h))
    in record { least = omega (arith, o.least); most = omega (arith, o.most) }

items-push : (ds : Datas) (d : Data) → Between (items_depth (items_of ds)) (data_depth d) (items_depth (items_of (ds ++ d ∷ [])))
items-push [] d = record { least = omega arith; most = omega arith }
items-push (e ∷ ds) d =
    let o : Between (items_depth (items_of ds)) (data_depth d) (items_depth (items_of (ds ++ d ∷ []))) = items-push ds d
    in record { least = omega (arith, o.least); most = omega (arith, o.most) }

items-with : (b : Bool) (k : ℕ) (d : Data) (ds : Datas) → nat_lt k (length ds) ≡ b → Between (items_depth (items_of ds)) (data_depth d) (items_depth (items_of (if b then slice_set ds k d else ds ++ d ∷ [])))
items-with true k d ds e = items-set ds k d (grind arith)
items-with false k d ds e = items-push ds d

members-with : (name : Bytes) (d : Data) (ms : Pairs) → Between (members_depth (members_of ms)) (data_depth d) (members_depth (members_of (with_member name d ms)))
members-with name d [] = record { least = omega arith; most = omega arith }
members-with name d (m ∷ ms) = split (members-with name d ms) (bytes_eq m.0 name)
  where
    split : Between (members_depth (members_of ms)) (data_depth d) (members_depth (members_of (with_member name d ms))) → (b : Bool)
        → Between (members_depth (members_of (m ∷ ms))) (data_depth d) (members_depth (members_of (if b then (m.0, d) ∷ ms else m ∷ with_member name d ms)))
    split o true = record { least = omega arith; most = omega arith }
    split o false = record { least = omega (arith, o.least); most = omega (arith, o.most) }

above : {a b c : ℕ} → Between a b c → Between (1 + a) (1 + b) (1 + c)
above o = record { least = omega (arith, o.least); most = omega (arith, o.most) }

pub child-deepens : (k : Key) (w v : Value) → Between (depth v) (1 + depth w) (depth (with_child k w v))
child-deepens (nth k) w (Value.List ds) = above (items-with (nat_lt k (length ds)) k (plain w) ds refl)
child-deepens (nth k) w Value.Null = record { least = omega arith; most = omega arith }
child-deepens (nth k) w (Value.Bool b) = record { least = omega arith; most = omega arith }
child-deepens (nth k) w (Value.Int z) = record { least = omega arith; most = omega arith }
child-deepens (nth k) w (Value.Text bs) = record { least = omega arith; most = omega arith }
child-deepens (nth k) w (Value.Object ms) = record { least = omega arith; most = omega arith }
child-deepens (named name) w (Value.Object ms) = above (members-with name (plain w) ms)
child-deepens (named name) w Value.Null = record { least = omega arith; most = omega arith }
child-deepens (named name) w (Value.Bool b) = record { least = omega arith; most = omega arith }
child-deepens (named name) w (Value.Int z) = record { least = omega arith; most = omega arith }
child-deepens (named name) w (Value.Text bs) = record { least = omega arith; most = omega arith }
child-deepens (named name) w (Value.List ds) = record { least = omega arith; most = omega arith }

-- ---- what stands there is less deep

one-level : (d : Data) → depth (value_of d) ≡ data_depth d
one-level d = ap (λ e. data_depth e) (plain-value_of d)

item-depth : (ds : Datas) (k : ℕ) → depth (unwrap_or (option_map value_of (slice_get ds k)) Value.Null) ≤ items_depth (items_of ds)
item-depth [] k = omega arith
item-depth (d ∷ ds) zero = omega (arith, one-level d)
item-depth (d ∷ ds) (suc k) = omega (arith, item-depth ds k)

member-depth : (name : Bytes) (ms : Pairs) → depth (unwrap_or (find_member name ms) Value.Null) ≤ members_depth (members_of ms)
member-depth name [] = omega arith
member-depth name (m ∷ ms) = split (member-depth name ms) (bytes_eq m.0 name)
  where
    split : depth (unwrap_or (find_member name ms) Value.Null) ≤ members_depth (members_of ms) → (b : Bool) → depth (unwrap_or (option_map value_of (if b then Some m.1 else find name ms)) Value.Null) ≤ members_depth (members_of (m ∷ ms))
    split o true = omega (arith, one-level m.1)
    split o false = omega (arith, o)

pub child-depth : (k : Key) (v : Value) → 1 + depth (child k v) ≤ max (depth v) 1
child-depth (nth k) (Value.List ds) = omega (arith, item-depth ds k)
child-depth (nth k) Value.Null = omega arith
child-depth (nth k) (Value.Bool b) = omega arith
child-depth (nth k) (Value.Int z) = omega arith
child-depth (nth k) (Value.Text bs) = omega arith
child-depth (nth k) (Value.Object ms) = omega arith
child-depth (named name) (Value.Object ms) = omega (arith, member-depth name ms)
child-depth (named name) Value.Null = omega arith
child-depth (named name) (Value.Bool b) = omega arith
child-depth (named name) (Value.Int z) = omega arith
child-depth (named name) (Value.Text bs) = omega arith
child-depth (named name) (Value.List ds) = omega arith

-- ---- a whole write

then_gives : (r : Put Value) (f : Value → Value) (v : Value) → ◌≡◌ {A = Put Value} (then_put r (λ w. Ok (f w))) (Ok v) → (w : Value) × (◌≡◌ {A = Put Value} r (Ok w)) × (f w ≡ v)
then_gives (Ok w) f v p = (w, refl, ok_one (f w) v p)
then_gives (Err e) f v p = absurd (cc)

key_gives : (r : Put Key) (f : Key → Put Value) (v : Value) → ◌≡◌ {A = Put Value} (then_put r f) (Ok v) → (k : Key) × (f k ≡ Ok v)
key_gives (Ok k) f v p = (k, p)
key_gives (Err e) f v p = absurd (cc)

pub put_within-depth : (steps : List Step) (new v w : Value) → put_within steps new v ≡ Ok w → Between (depth v) (length steps + depth new) (depth w)
put_within-depth [] new v w p = let e : new ≡ w = ok_one new w p in record { least = omega (arith, ap (λ x. depth x) e); most = omega (arith, ap (λ x. depth x) e) }
put_within-depth (s ∷ ss) new v w p =
    let a : (k : Key) × (at_child k (put_within ss new) v ≡ Ok w) = key_gives (key s v) (λ k. at_child k (put_within ss new) v) w p in
    let b : (u : Value) × (put_within ss new (child a.0 v) ≡ Ok u) × (with_child a.0 u v ≡ w) = then_gives (put_within ss new (child a.0 v)) (λ u. with_child a.0 u v) w a.1 in
    let o : Between (depth (child a.0 v)) (length ss + depth new) (depth b.0) = put_within-depth ss new (child a.0 v) b.0 b.1 in
    let q : Between (depth v) (1 + depth b.0) (depth (with_child a.0 b.0 v)) = child-deepens a.0 b.0 v in
    record {
      least = omega (arith, o.least, q.least, ap (λ x. depth x) b.2);
      most = omega (arith, o.most, q.most, ap (λ x. depth x) b.2, child-depth a.0 v);
    }
