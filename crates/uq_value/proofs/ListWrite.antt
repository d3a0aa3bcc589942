-- A list of which an item is written, or to which one is appended.
use Rattle.std.proofs.Common.{◌≡◌, ◌≤◌, ◌<◌, ◌+◌, ◌-◌, ◌^◌, ℕ, zero, suc, sym, ap, ◌∙◌, arith, subst, List, [], ◌∷◌, ◌++◌, map, length, length-set, set, slice_set, slice_get, get_or, if◌then◌else◌, option_map, unwrap_or, Ok}
use Rattle.std.proofs.lemmas.List.{length-map, map-set, get_or-map}
use Rattle.std.proofs.lemmas.Option.{slice_get_past}
use Rattle.uq_value.specs.Data.{Data, Datas, list, items_of}
use Rattle.uq_value.specs.Size.{data_size, leb_size, most_size}
use Rattle.uq_value.specs.Depth.{data_depth, most_depth}
use Rattle.std.specs.List.{All}
use Rattle.uq_value.specs.Internal.Tally.{deepest_of}
use Rattle.uq_value.specs.Internal.Beside.{size_of, depth_of, CountsAre, Mends}
use Rattle.uq_value.specs.Plain.{plain, value_of, size, depth}
use Rattle.uq_value.specs.IsValue.{IsSound, ItemsAreSound}
use Rattle.uq_value.specs.Internal.Kept.{list_view, IsList}
use Rattle.uq_value.specs.Put.{nth, child, with_child, with_item, put_within}
use Rattle.uq_value.specs.Internal.Writing.{put_in, put_at, size_beside_next, PushFits}
use Rattle.uq_value.specs.Faults.{Refuses}
use Rattle.uq_value.specs.declared.value.Value.{Value}
use Rattle.uq_value.specs.declared.step.Step.{Step}
use Rattle.uq_value.specs.declared.error.ValueFault.{ValueFault}
use Rattle.uq_value.specs.declared.list.List.TheInside.{Inside as InList}
use Rattle.uq_value.proofs.Levels.{value_of-plain}
use Rattle.uq_value.proofs.Sound.{items-set}
use Rattle.uq_value.proofs.Limits.{above, not_above, ok}
use Rattle.uq_value.proofs.Totals.{total, total-set, total-get_or}
use Rattle.uq_value.proofs.Wholes.{list-size, list-size-push, some-size}
use Rattle.uq_value.proofs.Counted.{items-deepest, all-below, part-within, mended}
use Rattle.uq_value.proofs.Fields.{few-items, list-deepest}
use Rattle.uq_value.proofs.Level.{level-ok, level-refused, Within, within_room}
use Rattle.uq_value.proofs.Deeper.{Between, child-deepens, child-depth, put_within-depth}

child-at : (vs : List Value) (at : ℕ) (d : Value) → at < length vs → unwrap_or (option_map value_of (slice_get (map plain vs) at)) Value.Null ≡ get_or vs at d
child-at [] at d h = absurd (omega arith)
child-at (v ∷ vs) zero d h = value_of-plain v
child-at (v ∷ vs) (suc at) d h = child-at vs at d (omega arith)

with_item-within : (at : ℕ) (d : Data) (ds : Datas) → at < length ds → with_item at d ds ≡ set ds at d
with_item-within at d ds h = ap (λ b. if b then slice_set ds at d else ds ++ d ∷ []) (above at (length ds) h)

with_item-end : (d : Data) (ds : Datas) → with_item (length ds) d ds ≡ ds ++ d ∷ []
with_item-end d ds = ap (λ b. if b then slice_set ds (length ds) d else ds ++ d ∷ []) (not_above (length ds) (length ds) (omega arith))

-- ---- an item is written

module _ (l : InList) (h : IsList l) (ds : Datas) (view_is : list_view l ≡ ds) (at : ℕ) (x : Value) (within : at < length ds) (x-is : x ≡ get_or l.items.items at x) where
  inside : at < length l.items.items
  inside = omega (arith, within, ap (λ es. length es) view_is, length-map l.items.items plain)

  child-is : child (nth at) (Value.List ds) ≡ x
  child-is = subst (λ es. child (nth at) (Value.List es) ≡ x) view_is (child-at l.items.items at x inside ∙ sym x-is)

  view-set : (w : Value) → map plain (set l.items.items at w) ≡ set ds at (plain w)
  view-set w = map-set plain l.items.items at w ∙ ap (λ es. set es at (plain w)) view_is

  after-is : (w : Value) → with_child (nth at) w (Value.List ds) ≡ Value.List (map plain (set l.items.items at w))
  after-is w = ap Value.List (with_item-within at (plain w) ds within ∙ sym (view-set w))

  part-is : get_or ds at (plain x) ≡ plain x
  part-is = ap (λ es. get_or es at (plain x)) (sym view_is) ∙ get_or-map plain l.items.items at x (plain x) inside ∙ ap (λ y. plain y) (sym x-is)

  size-is : size_of l.kept ≡ 1 + leb_size (length ds) + total data_size ds
  size-is = h.size_is ∙ ap (λ es. data_size (list es)) view_is ∙ list-size ds

  pub no-less : size x ≤ size_of l.kept
  no-less = omega (arith, size-is, total-get_or data_size ds at (plain x) within, ap (λ d. data_size d) part-is)

  pub sized : (w : Value) → size (with_child (nth at) w (Value.List ds)) ≡ (size_of l.kept - size x) + size w
  sized w =
      ap (λ v. size v) (ap Value.List (with_item-within at (plain w) ds within)) ∙ list-size (set ds at (plain w))
      ∙ ap (λ n. 1 + leb_size n + total data_size (set ds at (plain w))) (length-set ds at (plain w))
      ∙ omega (arith, size-is, total-set data_size ds at (plain w) (plain x) within, total-get_or data_size ds at (plain x) within, ap (λ d. data_size d) part-is)

  module _ (room left : ℕ) (left-is : left ≡ room - (size_of l.kept - size x)) (rest : List Step) (new : Value) where
    pub refused : (e : ValueFault) → Refuses (put_in left rest new x) e → Refuses (put_at room (nth at) rest new (Value.List ds)) e
    refused e o = level-refused room (size_of l.kept - size x) (nth at) (Value.List ds) sized rest new x child-is left left-is e o

    module _ (w : Value) (o : put_in left rest new x ≡ Ok w) where
      pub done : (after : Datas) → after ≡ map plain (set l.items.items at w) → put_at room (nth at) rest new (Value.List ds) ≡ Ok (Value.List after)
      done after a = level-ok room (size_of l.kept - size x) (nth at) (Value.List ds) sized rest new x child-is left left-is w o ∙ ap (λ v. ok v) (after-is w ∙ ap Value.List (sym a))

      -- what is asked of the numbers before they are mended
      module _ (small : room ≤ most_size) (shallow : length rest + depth new < most_depth) where
        r : Within left (put_within rest new x) w
        r = within_room left (put_within rest new x) w o

        deep : Between (depth x) (length rest + depth new) (depth w)
        deep = put_within-depth rest new x w r.gives

        old-depth : depth_of l.kept ≡ 1 + deepest_of (map depth l.items.items)
        old-depth = list-deepest l h

        pub part-kept : depth x + 1 ≤ depth_of l.kept
        part-kept = omega (arith, old-depth, part-within depth l.items.items at x inside, ap (λ y. depth y) (sym x-is))

        pub part-now : depth w < most_depth
        part-now = omega (arith, deep.most, shallow, part-kept, h.depth_within)

        pub size-now : size_of l.kept - size x + size w ≤ most_size
        size-now = omega (arith, left-is, r.small, some-size (plain w), small)

        whole : Between (data_depth (list ds)) (1 + depth w) (depth (with_child (nth at) w (Value.List ds)))
        whole = child-deepens (nth at) w (Value.List ds)

        now : depth (with_child (nth at) w (Value.List ds)) ≡ 1 + deepest_of (map depth (set l.items.items at w))
        now = ap (λ v. depth v) (after-is w) ∙ ap (λ n. 1 + n) (items-deepest (set l.items.items at w))

        depth-now : 1 + deepest_of (map depth (set l.items.items at w)) ≤ most_depth
        depth-now = omega (arith, now, whole.most, deep.most, ap (λ es. data_depth (list es)) view_is, h.depth_is, h.depth_within, shallow, child-depth (nth at) (Value.List ds), ap (λ v. depth v) child-is)

        pub shallow-now : All (λ v. depth v < most_depth) (set l.items.items at w)
        shallow-now = all-below depth (set l.items.items at w) most_depth (omega (arith, depth-now))

        pub few-now : length (set l.items.items at w) + 1 < 2 ^ 32
        few-now = omega (arith, length-set l.items.items at w, few-items l h, length-map l.items.items depth)

        pub is_list : IsSound (plain w) → (q : InList) → q.items.items ≡ set l.items.items at w → size_of q.kept ≡ size_of l.kept - size x + size w → Mends l.kept q.kept (depth x) (depth w) (map depth (set l.items.items at w)) → IsList q
        is_list sound q i s m =
            let view : list_view q ≡ map plain (set l.items.items at w) = ap (λ vs. map plain vs) i in
            let n : (depth_of q.kept ≡ 1 + deepest_of (map depth (set l.items.items at w))) × CountsAre q.kept (map depth (set l.items.items at w)) = mended depth l.kept q.kept l.items.items at x w inside x-is m h.counts old-depth in
            record {
              size_is = s ∙ sym (ap (λ es. data_size (list es)) view ∙ ap (λ v. size v) (sym (after-is w)) ∙ sized w);
              depth_is = n.0 ∙ ap (λ k. 1 + k) (sym (items-deepest (set l.items.items at w))) ∙ ap (λ es. data_depth (list es)) (sym view);
              size_within = omega (arith, s, size-now);
              depth_within = omega (arith, n.0, depth-now);
              counts = subst (λ vs. CountsAre q.kept (map depth vs)) (sym i) n.1;
              sound = subst (λ es. ItemsAreSound (items_of es)) (sym (view ∙ view-set w)) (items-set ds at (plain w) (subst (λ es. ItemsAreSound (items_of es)) view_is h.sound) sound);
            }

-- ---- an item is appended

module _ (ds : Datas) where
  pub no-child : child (nth (length ds)) (Value.List ds) ≡ Value.Null
  no-child = ap (λ o. unwrap_or (option_map value_of o) Value.Null) (slice_get_past ds (length ds) (omega arith))

  with-end : (w : Value) → with_child (nth (length ds)) w (Value.List ds) ≡ Value.List (ds ++ plain w ∷ [])
  with-end w = ap Value.List (with_item-end (plain w) ds)

  end-sized : (w : Value) → size (with_child (nth (length ds)) w (Value.List ds)) ≡ size_beside_next ds + size w
  end-sized w = ap (λ v. size v) (with-end w) ∙ list-size-push ds (plain w)

  module _ (room left : ℕ) (left-is : left ≡ room - size_beside_next ds) (rest : List Step) (new : Value) where
    pub append-refused : (e : ValueFault) → Refuses (put_in left rest new Value.Null) e → Refuses (put_at room (nth (length ds)) rest new (Value.List ds)) e
    append-refused e o = level-refused room (size_beside_next ds) (nth (length ds)) (Value.List ds) end-sized rest new Value.Null no-child left left-is e o

    module _ (w : Value) (o : put_in left rest new Value.Null ≡ Ok w) where
      pub appended : (after : Datas) → after ≡ ds ++ plain w ∷ [] → put_at room (nth (length ds)) rest new (Value.List ds) ≡ Ok (Value.List after)
      appended after a = level-ok room (size_beside_next ds) (nth (length ds)) (Value.List ds) end-sized rest new Value.Null no-child left left-is w o ∙ ap (λ v. ok v) (with-end w ∙ ap Value.List (sym a))

      pub append-fits : room ≤ most_size → length rest + depth new < most_depth → PushFits w ds
      append-fits small shallow =
          let r : Within left (put_within rest new Value.Null) w = within_room left (put_within rest new Value.Null) w o in
          let deep : Between 0 (length rest + depth new) (depth w) = put_within-depth rest new Value.Null w r.gives in
          record { small = omega (arith, left-is, r.small, some-size (plain w), small); shallow = omega (arith, deep.most, shallow) }
