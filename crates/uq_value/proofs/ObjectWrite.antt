-- An object of which a member is written, or to which one is added.
use Rattle.std.proofs.Common.{◌≡◌, ◌≤◌, ◌<◌, ◌+◌, ◌-◌, ◌^◌, ℕ, zero, suc, sym, ap, ◌∙◌, arith, subst, List, [], ◌∷◌, ◌++◌, map, length, length-set, set, get_or, option_map, unwrap_or, Ok}
use Rattle.std.proofs.lemmas.List.{length-map, map-set, get_or-map}
use Rattle.uq_value.specs.Data.{Bytes, null, Pairs, object, members_of, names_of, IsDistinct}
use Rattle.uq_value.specs.Size.{data_size, leb_size, name_size, most_size}
use Rattle.uq_value.specs.Depth.{data_depth, most_depth}
use Rattle.std.specs.List.{All}
use Rattle.uq_value.specs.Internal.Names.{name_of, names, member_depth}
use Rattle.uq_value.specs.Internal.Tally.{deepest_of}
use Rattle.uq_value.specs.Internal.Beside.{size_of, depth_of, CountsAre, NamesAre, Mends}
use Rattle.uq_value.specs.Plain.{plain, value_of, size, depth}
use Rattle.uq_value.specs.IsValue.{IsSound, MembersAreSound}
use Rattle.uq_value.specs.Internal.Kept.{plain_member, object_view, IsObject}
use Rattle.uq_value.specs.Places.{place_of}
use Rattle.uq_value.specs.Put.{named, child, with_child, put_within}
use Rattle.uq_value.specs.Internal.Writing.{put_in, put_at, name_at, object_beside_next}
use Rattle.uq_value.specs.Faults.{Refuses}
use Rattle.uq_value.specs.declared.value.Value.{Value}
use Rattle.uq_value.specs.declared.step.Step.{Step}
use Rattle.uq_value.specs.declared.error.ValueFault.{ValueFault}
use Rattle.uq_value.specs.declared.object.Member.{Member}
use Rattle.uq_value.specs.declared.object.Object.TheInside.{Inside as InObject}
use Rattle.uq_value.proofs.Levels.{value_of-plain}
use Rattle.uq_value.proofs.Sound.{members-set}
use Rattle.uq_value.proofs.Limits.{ok}
use Rattle.uq_value.proofs.Named.{Found, found_at, Absent, absent}
use Rattle.uq_value.proofs.Totals.{total, total-set, total-get_or}
use Rattle.uq_value.proofs.Wholes.{pair_size, object-size, object-size-push, some-size}
use Rattle.uq_value.proofs.Counted.{members-deepest, all-below, part-within, mended}
use Rattle.uq_value.proofs.Fields.{names-view, few-members, object-deepest}
use Rattle.uq_value.proofs.Rows.{any-default}
use Rattle.uq_value.proofs.NamePlaces.{place-at, name-at, length-names}
use Rattle.uq_value.proofs.Level.{level-ok, level-refused, Within, within_room}
use Rattle.uq_value.proofs.Deeper.{Between, child-deepens, child-depth, put_within-depth}

-- ---- a member is written

names-kept : (ms : List Member) (at : ℕ) (m : Member) (w : Value) → at < length ms → m ≡ get_or ms at m → names (set ms at (record { name = m.name; value = w })) ≡ names ms
names-kept [] at m w h e = absurd (omega (arith, h))
names-kept (n ∷ ms) zero m w h e = ap (λ x. name_of x ∷ names ms) e
names-kept (n ∷ ms) (suc at) m w h e = ap (λ ns. name_of n ∷ ns) (names-kept ms at m w (omega (arith, h)) e)

abbrev with_value : Member → Value → Member
with_value m w = record { name = m.name; value = w }

module _ (o : InObject) (h : IsObject o) (ms : Pairs) (view_is : object_view o ≡ ms) (at : ℕ) (within : at < length ms) (m : Member) (m-is : m ≡ get_or o.members.items at m) where
  name : Bytes
  name = name_at ms at

  inside : at < length o.members.items
  inside = omega (arith, within, ap (λ ns. length ns) (sym view_is), length-map o.members.items plain_member)

  part-is : get_or ms at (plain_member m) ≡ plain_member m
  part-is = ap (λ ns. get_or ns at (plain_member m)) (sym view_is) ∙ get_or-map plain_member o.members.items at m (plain_member m) inside ∙ ap (λ n. plain_member n) (sym m-is)

  name-is : name_at ms at ≡ name_of m
  name-is = ap (λ p. p.0) (any-default ms at ([], null) (plain_member m) within ∙ part-is)

  place-here : at ≡ place_of (name_at ms at) (names_of ms)
  place-here = sym (
      subst (λ ns. place_of (name_at ms at) ns ≡ at) (sym (names-view o.members.items) ∙ ap (λ ns. names_of ns) view_is)
      (place-at (names o.members.items) (name_at ms at) at h.distinct (omega (arith, inside, length-names o.members.items)) (name-at o.members.items at m m-is inside ∙ sym name-is)))

  found : Found (name_at ms at) ms at (plain_member m)
  found = subst (λ p. Found (name_at ms at) ms at p) part-is (found_at (name_at ms at) ms (plain_member m) at place-here within)

  child-is : child (named (name_at ms at)) (Value.Object ms) ≡ m.value
  child-is = ap (λ d. unwrap_or (option_map value_of d) Value.Null) found.found ∙ value_of-plain m.value

  view-set : (w : Value) → map plain_member (set o.members.items at (with_value m w)) ≡ set ms at (name_of m, plain w)
  view-set w = map-set plain_member o.members.items at (with_value m w) ∙ ap (λ ns. set ns at (name_of m, plain w)) view_is

  written-is : (w : Value) → with_child (named (name_at ms at)) w (Value.Object ms) ≡ Value.Object (set ms at (name_of m, plain w))
  written-is w = ap Value.Object (found.written (plain w))

  after-is : (w : Value) → with_child (named (name_at ms at)) w (Value.Object ms) ≡ Value.Object (map plain_member (set o.members.items at (with_value m w)))
  after-is w = written-is w ∙ ap Value.Object (sym (view-set w))

  size-is : size_of o.kept ≡ 1 + leb_size (length ms) + total pair_size ms
  size-is = h.size_is ∙ ap (λ ns. data_size (object ns)) view_is ∙ object-size ms

  part-size : pair_size (get_or ms at (plain_member m)) ≡ name_size (name_of m) + size m.value
  part-size = ap (λ p. pair_size p) part-is

  pub no-less : size m.value ≤ size_of o.kept
  no-less = omega (arith, size-is, total-get_or pair_size ms at (plain_member m) within, part-size)

  pub sized : (w : Value) → size (with_child (named (name_at ms at)) w (Value.Object ms)) ≡ (size_of o.kept - size m.value) + size w
  sized w =
      ap (λ v. size v) (written-is w) ∙ object-size (set ms at (name_of m, plain w))
      ∙ ap (λ n. 1 + leb_size n + total pair_size (set ms at (name_of m, plain w))) (length-set ms at (name_of m, plain w))
      ∙ omega (arith, size-is, total-set pair_size ms at (name_of m, plain w) (plain_member m) within, total-get_or pair_size ms at (plain_member m) within, part-size)

  module _ (room left : ℕ) (left-is : left ≡ room - (size_of o.kept - size m.value)) (rest : List Step) (new : Value) where
    pub refused : (e : ValueFault) → Refuses (put_in left rest new m.value) e → Refuses (put_at room (named (name_at ms at)) rest new (Value.Object ms)) e
    refused e r = level-refused room (size_of o.kept - size m.value) (named (name_at ms at)) (Value.Object ms) sized rest new m.value child-is left left-is e r

    module _ (w : Value) (r : put_in left rest new m.value ≡ Ok w) where
      pub done : (after : Pairs) → after ≡ map plain_member (set o.members.items at (with_value m w)) → put_at room (named (name_at ms at)) rest new (Value.Object ms) ≡ Ok (Value.Object after)
      done after a = level-ok room (size_of o.kept - size m.value) (named (name_at ms at)) (Value.Object ms) sized rest new m.value child-is left left-is w r ∙ ap (λ v. ok v) (after-is w ∙ ap Value.Object (sym a))

      -- what is asked of the numbers before they are mended
      module _ (small : room ≤ most_size) (shallow : length rest + depth new < most_depth) where
        fit : Within left (put_within rest new m.value) w
        fit = within_room left (put_within rest new m.value) w r

        deep : Between (depth m.value) (length rest + depth new) (depth w)
        deep = put_within-depth rest new m.value w fit.gives

        old-depth : depth_of o.kept ≡ 1 + deepest_of (map member_depth o.members.items)
        old-depth = object-deepest o h

        pub part-kept : depth m.value + 1 ≤ depth_of o.kept
        part-kept = omega (arith, old-depth, part-within member_depth o.members.items at m inside, ap (λ n. member_depth n) (sym m-is))

        pub part-now : depth w < most_depth
        part-now = omega (arith, deep.most, shallow, part-kept, h.depth_within)

        pub size-now : size_of o.kept - size m.value + size w ≤ most_size
        size-now = omega (arith, left-is, fit.small, some-size (plain w), small)

        whole : Between (data_depth (object ms)) (1 + depth w) (depth (with_child (named (name_at ms at)) w (Value.Object ms)))
        whole = child-deepens (named (name_at ms at)) w (Value.Object ms)

        now : depth (with_child (named (name_at ms at)) w (Value.Object ms)) ≡ 1 + deepest_of (map member_depth (set o.members.items at (with_value m w)))
        now = ap (λ v. depth v) (after-is w) ∙ ap (λ n. 1 + n) (members-deepest (set o.members.items at (with_value m w)))

        depth-now : 1 + deepest_of (map member_depth (set o.members.items at (with_value m w))) ≤ most_depth
        depth-now = omega (arith, now, whole.most, deep.most, ap (λ ns. data_depth (object ns)) view_is, h.depth_is, h.depth_within, shallow, child-depth (named (name_at ms at)) (Value.Object ms), ap (λ v. depth v) child-is)

        pub shallow-now : All (λ n. member_depth n < most_depth) (set o.members.items at (with_value m w))
        shallow-now = all-below member_depth (set o.members.items at (with_value m w)) most_depth (omega (arith, depth-now))

        pub few-now : length (set o.members.items at (with_value m w)) + 1 < 2 ^ 32
        few-now = omega (arith, length-set o.members.items at (with_value m w), few-members o h, length-map o.members.items member_depth)

        pub is_object : IsSound (plain w) → (q : InObject) → q.members.items ≡ set o.members.items at (with_value m w) → size_of q.kept ≡ size_of o.kept - size m.value + size w
            → Mends o.kept q.kept (depth m.value) (depth w) (map member_depth (set o.members.items at (with_value m w))) → NamesAre q.kept (names o.members.items) → IsObject q
        is_object sound q i s d x =
            let view : object_view q ≡ map plain_member (set o.members.items at (with_value m w)) = ap (λ ns. map plain_member ns) i in
            let same : names q.members.items ≡ names o.members.items = ap (λ ns. names ns) i ∙ names-kept o.members.items at m w inside m-is in
            let n : (depth_of q.kept ≡ 1 + deepest_of (map member_depth (set o.members.items at (with_value m w)))) × CountsAre q.kept (map member_depth (set o.members.items at (with_value m w))) = mended member_depth o.kept q.kept o.members.items at m (with_value m w) inside m-is d h.counts old-depth in
            record {
              size_is = s ∙ sym (ap (λ ns. data_size (object ns)) view ∙ ap (λ v. size v) (sym (after-is w)) ∙ sized w);
              depth_is = n.0 ∙ ap (λ k. 1 + k) (sym (members-deepest (set o.members.items at (with_value m w)))) ∙ ap (λ ns. data_depth (object ns)) (sym view);
              size_within = omega (arith, s, size-now);
              depth_within = omega (arith, n.0, depth-now);
              counts = subst (λ ns. CountsAre q.kept (map member_depth ns)) (sym i) n.1;
              index = subst (λ ns. NamesAre q.kept ns) (sym same) x;
              distinct = subst (λ ns. IsDistinct ns) (sym same) h.distinct;
              sound = subst (λ ns. MembersAreSound (members_of ns)) (sym (view ∙ view-set w)) (members-set ms at (name_of m) (plain w) (subst (λ ns. MembersAreSound (members_of ns)) view_is h.sound) sound);
            }

-- ---- a member is added

module _ (ms : Pairs) (name : Bytes) (place-is : place_of name (names_of ms) ≡ length ms) where
  nothing : Absent name ms
  nothing = absent name ms place-is

  no-child : child (named name) (Value.Object ms) ≡ Value.Null
  no-child = ap (λ d. unwrap_or (option_map value_of d) Value.Null) nothing.nowhere

  with-end : (w : Value) → with_child (named name) w (Value.Object ms) ≡ Value.Object (ms ++ (name, plain w) ∷ [])
  with-end w = ap Value.Object (nothing.added (plain w))

  end-sized : (w : Value) → size (with_child (named name) w (Value.Object ms)) ≡ (object_beside_next ms + name_size name) + size w
  end-sized w = ap (λ v. size v) (with-end w) ∙ object-size-push ms name (plain w)

  module _ (room left : ℕ) (left-is : left ≡ room - (object_beside_next ms + name_size name)) (rest : List Step) (new : Value) where
    pub add-refused : (e : ValueFault) → Refuses (put_in left rest new Value.Null) e → Refuses (put_at room (named name) rest new (Value.Object ms)) e
    add-refused e r = level-refused room (object_beside_next ms + name_size name) (named name) (Value.Object ms) end-sized rest new Value.Null no-child left left-is e r

    module _ (w : Value) (r : put_in left rest new Value.Null ≡ Ok w) where
      pub added : (after : Pairs) → after ≡ ms ++ (name, plain w) ∷ [] → put_at room (named name) rest new (Value.Object ms) ≡ Ok (Value.Object after)
      added after a = level-ok room (object_beside_next ms + name_size name) (named name) (Value.Object ms) end-sized rest new Value.Null no-child left left-is w r ∙ ap (λ v. ok v) (with-end w ∙ ap Value.Object (sym a))

      pub add-small : room ≤ most_size → object_beside_next ms + name_size name + size w ≤ most_size
      add-small small = let fit : Within left (put_within rest new Value.Null) w = within_room left (put_within rest new Value.Null) w r in omega (arith, left-is, fit.small, some-size (plain w), small)

      pub add-shallow : length rest + depth new < most_depth → depth w < most_depth
      add-shallow shallow =
          let fit : Within left (put_within rest new Value.Null) w = within_room left (put_within rest new Value.Null) w r in
          let deep : Between 0 (length rest + depth new) (depth w) = put_within-depth rest new Value.Null w fit.gives in
          omega (arith, deep.most, shallow)
