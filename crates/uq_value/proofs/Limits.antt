-- What the limits of a value decide.
use Rattle.std.proofs.Common.{◌≡◌, ◌≤◌, ◌<◌, ◌+◌, ap, ◌∙◌, arith, Bool, true, false, nat_lt, if◌then◌else◌, ℕ, Ok, Err, ◌∷◌, ◌++◌, [], sym}
use Rattle.uq_value.specs.Size.{most_size}
use Rattle.uq_value.specs.Depth.{most_depth, data_depth}
use Rattle.uq_value.specs.Data.{Datas, list}
use Rattle.uq_value.specs.Plain.{plain, size, depth}
use Rattle.uq_value.specs.Put.{Put, limited}
use Rattle.uq_value.specs.Internal.Writing.{PushFits, size_beside_next}
use Rattle.uq_value.specs.declared.value.Value.{Value}
use Rattle.uq_value.specs.declared.error.ValueFault.TheVariants.{TooDeep, TooLarge}
use Rattle.uq_value.specs.Laws.Limits.{bounded}
use Rattle.uq_value.proofs.Wholes.{list-size-push, list-depth-push}

abbrev pub ok : Value → Put Value
ok v = Ok v

pub above : (a b : ℕ) → a < b → nat_lt a b ≡ true
above a b h = grind arith

pub not_above : (a b : ℕ) → b ≤ a → nat_lt a b ≡ false
not_above a b h = grind arith

pub too_deep : (w : Value) → most_depth < depth w → limited w ≡ Err TooDeep
too_deep w h = ap (λ b. bounded b (nat_lt most_size (size w)) w) (above most_depth (depth w) h)

pub too_large : (w : Value) → depth w ≤ most_depth → most_size < size w → limited w ≡ Err TooLarge
too_large w d h = ap (λ b. bounded b (nat_lt most_size (size w)) w) (not_above most_depth (depth w) d) ∙ ap (λ b. bounded false b w) (above most_size (size w) h)

pub allowed : (w : Value) → depth w ≤ most_depth → size w ≤ most_size → ◌≡◌ {A = Put Value} (limited w) (Ok w)
allowed w d h = ap (λ b. bounded b (nat_lt most_size (size w)) w) (not_above most_depth (depth w) d) ∙ ap (λ b. bounded false b w) (not_above most_size (size w) h)

-- ---- a list with one value more

module _ (ds : Datas) (v : Value) where
  pub push-too_deep : most_depth ≤ depth v → limited (Value.List (ds ++ plain v ∷ [])) ≡ Err TooDeep
  push-too_deep h = too_deep (Value.List (ds ++ plain v ∷ [])) (omega (arith, list-depth-push ds (plain v)))

  pub push-too_large : data_depth (list ds) ≤ most_depth → depth v < most_depth → most_size < size_beside_next ds + size v → limited (Value.List (ds ++ plain v ∷ [])) ≡ Err TooLarge
  push-too_large k d h = too_large (Value.List (ds ++ plain v ∷ [])) (omega (arith, list-depth-push ds (plain v))) (omega (arith, list-size-push ds (plain v)))

  pub push-allowed : data_depth (list ds) ≤ most_depth → PushFits v ds → ◌≡◌ {A = Put Value} (limited (Value.List (ds ++ plain v ∷ []))) (Ok (Value.List (ds ++ plain v ∷ [])))
  push-allowed k r = allowed (Value.List (ds ++ plain v ∷ [])) (omega (arith, list-depth-push ds (plain v), r.shallow)) (omega (arith, list-size-push ds (plain v), r.small))

  pub push-gives : (after : Datas) → data_depth (list ds) ≤ most_depth → PushFits v ds → after ≡ ds ++ plain v ∷ [] → ◌≡◌ {A = Put Value} (limited (Value.List (ds ++ plain v ∷ []))) (Ok (Value.List after))
  push-gives after k r e = push-allowed k r ∙ ap (λ es. ok (Value.List es)) (sym e)
