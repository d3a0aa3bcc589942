-- The table of heights, from its beginning to its end.
use Rattle.std.proofs.Common.{◌≡◌, ℕ, zero, suc, ◌+◌, ◌*◌, ◌^◌, ◌<◌, ◌≤◌, List, [], ◌∷◌, ◌++◌, length, get_or, set, replicate, Option, Some, None, refl, sym, ap, ◌∙◌, subst, inl, inr, arith}
use Rattle.std.specs.Prelude.{Bool, true, false, if◌then◌else◌, nat_lt, slice_get, MatchOption, ◌⊎◌}
use Rattle.std.specs.List.{sum_by, Contains}
use Rattle.std.proofs.lemmas.Bool.{ltb-true, ltb-false, cases_eq}
use Rattle.std.proofs.lemmas.List.{length-set, length-replicate, length_push, get_or-set_same, get_or-set_other, get_or-replicate, get_or_read}
use Rattle.std.proofs.lemmas.List.Elements.{Contains-append_left, Contains-push, Contains-push_cases}
use Rattle.std.proofs.lemmas.List.Folds.{sum_by-replicate}
use Rattle.std.proofs.lemmas.List.Sums.{sum_by-set}
use Rattle.std.proofs.lemmas.Option.{none-some, same_Some, slice_get_read}
use Rattle.jx9_compile.specs.Assembled.{LeadsTo, Way, begins, follows}
use Rattle.jx9_compile.specs.Heights.{seen_after, seen_with, Covers, IsSound, spare, IsBounded, IsSmall, seen_at, IsReached, IsFollowed, still_of, IsTable, Never, AreHeights}
use Rattle.jx9_compile.specs.Shape.{next_of, jump_of, puts, takes}
use Rattle.jx9_compile.specs.declared.heights.Seen.{Seen}
use Rattle.jx9_compile.specs.declared.heights.Seen.TheVariants.{Unseen, Once, Twice}
use Rattle.jx9_compile.specs.declared.op.Op.{Op}
use Rattle.jx9_compile.proofs.Entries.{covers_after, small_from, bounded_less, nothing_more, IsMore, is_more}

-- ---- what is known of one op rises

module _ (ops : List Op) where
  -- the heights that are known stay known
  abbrev Keeps : List Seen → List Seen → Type 0
  Keeps table table' = (i put taken : ℕ) → Covers (seen_at table i) put taken → Covers (seen_at table' i) put taken

  -- an op whose entry has changed is to be followed
  abbrev Lists : List Seen → List Seen → List ℕ → Type 0
  Lists table table' work' = (i : ℕ) → (seen_at table' i ≡ seen_at table i) ⊎ Contains work' i

  record Reaches (at : ℕ) (table : List Seen) (work : List ℕ) (table' : List Seen) (work' : List ℕ) (to : Option ℕ) (seen : Seen) : Type 0 where
    still : still_of table' work' ≤ still_of table work
    keeps : Keeps table table'
    lists : Lists table table' work'
    listed : (i : ℕ) → Contains work i → Contains work' i
    takes_in : (j put taken : ℕ) → to ≡ Some j → j < length ops → Covers seen put taken → Covers (seen_at table' j) put taken
    is_table : IsTable ops (λ left. left ≡ at) table' work'

  -- the table is as it was
  stays : (at : ℕ) (table table' : List Seen) (work work' : List ℕ) (to : Option ℕ) (seen : Seen)
      → IsTable ops (λ left. left ≡ at) table work → (table' ≡ table) × (work' ≡ work)
      → ((j put taken : ℕ) → to ≡ Some j → j < length ops → Covers seen put taken → Covers (seen_at table j) put taken)
      → Reaches at table work table' work' to seen
  stays at table table' work work' to seen t same known =
      subst (λ w. Reaches at table work table' w to seen) (sym same.1)
      (subst (λ x. Reaches at table work x work to seen) (sym same.0) (record {
        still = omega arith;
        keeps = λ i put taken h. h;
        lists = λ i. inl refl;
        listed = λ i h. h;
        takes_in = known;
        is_table = t;
      }))

  module _ (at : ℕ) (table : List Seen) (work : List ℕ) (t : IsTable ops (λ left. left ≡ at) table work)
      (to : ℕ) (within : to < length table) (seen more : Seen) (is : IsMore (seen_at table to) seen more)
      (sound : IsSound ops to seen) (bounded : IsBounded (length ops) (still_of table work) seen) where
    there : seen_at (set table to more) to ≡ more
    there = get_or-set_same table to more Unseen within

    elsewhere : (i : ℕ) → (i ≡ to → ⊥) → seen_at (set table to more) i ≡ seen_at table i
    elsewhere i apart = get_or-set_other table to i more Unseen apart

    still_less : still_of (set table to more) (work ++ to ∷ []) ≤ still_of table work
    still_less = omega (arith, sum_by-set spare table to more Unseen within, length_push work to, is.less)

    -- a fact on each entry
    at_each : (P : ℕ → Seen → Type 0) → P to more → ((i : ℕ) → P i (seen_at table i)) → (i : ℕ) → P i (seen_at (set table to more) i)
    at_each P here all i = by_place (cases_eq i to)
      where
        by_place : (i ≡ to) ⊎ (i ≡ to → ⊥) → P i (seen_at (set table to more) i)
        by_place (inl e) = subst (λ j. P j (seen_at (set table to more) j)) (sym e) (subst (P to) (sym there) here)
        by_place (inr apart) = subst (P i) (sym (elsewhere i apart)) (all i)

    keeps : Keeps table (set table to more)
    keeps i put taken h = by_place (cases_eq i to)
      where
        by_place : (i ≡ to) ⊎ (i ≡ to → ⊥) → Covers (seen_at (set table to more) i) put taken
        by_place (inl e) =
            subst (λ j. Covers (seen_at (set table to more) j) put taken) (sym e)
            (subst (λ s. Covers s put taken) (sym there) (is.keeps put taken (subst (λ j. Covers (seen_at table j) put taken) e h)))
        by_place (inr apart) = subst (λ s. Covers s put taken) (sym (elsewhere i apart)) h

    lists : Lists table (set table to more) (work ++ to ∷ [])
    lists i = by_place (cases_eq i to)
      where
        by_place : (i ≡ to) ⊎ (i ≡ to → ⊥) → (seen_at (set table to more) i ≡ seen_at table i) ⊎ Contains (work ++ to ∷ []) i
        by_place (inl e) = inr (subst (λ j. Contains (work ++ to ∷ []) j) (sym e) (Contains-push work to))
        by_place (inr apart) = inl (elsewhere i apart)

    followed : (i : ℕ) → (i ≡ at) ⊎ (Contains (work ++ to ∷ []) i ⊎ IsFollowed ops (set table to more) i)
    followed i = by_case (t.followed i) (lists i)
      where
        by_case : (i ≡ at) ⊎ (Contains work i ⊎ IsFollowed ops table i)
            → (seen_at (set table to more) i ≡ seen_at table i) ⊎ Contains (work ++ to ∷ []) i
            → (i ≡ at) ⊎ (Contains (work ++ to ∷ []) i ⊎ IsFollowed ops (set table to more) i)
        by_case (inl e) l = inl e
        by_case (inr (inl c)) l = inr (inl (Contains-append_left work (to ∷ []) i c))
        by_case (inr (inr f)) (inr c) = inr (inl c)
        by_case (inr (inr f)) (inl same) =
            inr (inr (λ op j put taken o leads less h. keeps j (put + puts op) (taken + takes op)
            (f op j put taken o leads less (subst (λ s. Covers s put taken) same h))))

    rises : Reaches at table work (set table to more) (work ++ to ∷ []) (Some to) seen
    rises = record {
      still = still_less;
      keeps = keeps;
      lists = lists;
      listed = λ i c. Contains-append_left work (to ∷ []) i c;
      takes_in = λ j put taken e less h.
          subst (λ i. Covers (seen_at (set table to more) i) put taken) (same_place e)
          (subst (λ s. Covers s put taken) (sym there) (is.takes_in put taken h));
      is_table = record {
        long = length-set table to more ∙ t.long;
        begun = keeps 0 0 0 t.begun;
        listed = λ i c. by_end i (Contains-push_cases work to i c);
        sound = at_each (λ i s. IsSound ops i s) (is.sound ops to (t.sound to) sound) t.sound;
        bounded = at_each (λ i s. IsBounded (length ops) (still_of (set table to more) (work ++ to ∷ [])) s)
            (bounded_less (length ops) (still_of table work) _ more still_less (is.bounded (length ops) (still_of table work) (t.bounded to) bounded))
            (λ i. bounded_less (length ops) (still_of table work) _ (seen_at table i) still_less (t.bounded i));
        followed = followed;
      };
    }
      where
        same_place : {j : ℕ} → Some to ≡ Some j → to ≡ j
        same_place e = cc

        by_end : (i : ℕ) → Contains work i ⊎ (to ≡ i) → i < length ops
        by_end i (inl c) = t.listed i c
        by_end i (inr e) = omega (arith, t.long)

  -- ---- an op is reached

  reaches : (at : ℕ) (table table' : List Seen) (work work' : List ℕ) (to : Option ℕ) (seen : Seen)
      → IsTable ops (λ left. left ≡ at) table work
      → ((j : ℕ) → to ≡ Some j → j < length ops → IsSound ops j seen) → IsBounded (length ops) (still_of table work) seen
      → IsReached table work table' work' to seen → Reaches at table work table' work' to seen
  reaches at table table' work work' None seen t sound bounded h = stays at table table' work work' None seen t h
      (λ j put taken e less c. absurd (none-some j e))
  reaches at table table' work work' (Some to) seen t sound bounded h = by_place (nat_lt to (length table)) refl h
    where
      by_more : (o : Option Seen) → to < length table → seen_with (seen_at table to) seen ≡ o
          → MatchOption o ((table' ≡ table) × (work' ≡ work)) (λ more. (table' ≡ set table to more) × (work' ≡ work ++ to ∷ []))
          → Reaches at table work table' work' (Some to) seen
      by_more None within e same =
          stays at table table' work work' (Some to) seen t same
          (λ j put taken i less c. subst (λ k. Covers (seen_at table k) put taken) (same_Some to j i) (nothing_more (seen_at table to) seen e put taken c))
      by_more (Some more) within e same =
          subst (λ w. Reaches at table work table' w (Some to) seen) (sym same.1)
          (subst (λ x. Reaches at table work x (work ++ to ∷ []) (Some to) seen) (sym same.0)
          (rises at table work t to within seen more (is_more (seen_at table to) seen more e) (sound to refl (omega (arith, t.long))) bounded))

      by_place : (b : Bool) → nat_lt to (length table) ≡ b
          → MatchOption (if b then seen_with (seen_at table to) seen else None) ((table' ≡ table) × (work' ≡ work))
          (λ more. (table' ≡ set table to more) × (work' ≡ work ++ to ∷ []))
          → Reaches at table work table' work' (Some to) seen
      by_place true e m = by_more (seen_with (seen_at table to) seen) (ltb-true to (length table) e) refl m
      by_place false e same =
          stays at table table' work work' (Some to) seen t same
          (λ j put taken i less c. absurd (omega (arith, ltb-false to (length table) e, t.long, same_Some to j i)))

  -- ---- an op is followed

  -- the ways on from a place whose entry is sound
  sound_after : (at to : ℕ) (op : Op) (s : Seen) → slice_get ops at ≡ Some op → LeadsTo op at to → to < length ops → IsSound ops at s
      → IsSound ops to (seen_after s op)
  sound_after at to op Unseen o leads less h = tt
  sound_after at to op (Once g) o leads less h = follows op to h o leads less
  sound_after at to op Twice o leads less h = record {
    put = h.put + puts op;
    taken = h.taken + takes op;
    put' = h.put' + puts op;
    taken' = h.taken' + takes op;
    one = follows op to h.one o leads less;
    other = follows op to h.other o leads less;
    apart = λ e. h.apart (omega arith);
  }

  -- after the first of two ways on
  pub still_small : (at : ℕ) (op : Op) (t0 t1 : List Seen) (w0 w1 : List ℕ) → length ops < 2 ^ 32 → slice_get ops at ≡ Some op
      → IsTable ops (λ left. left ≡ at) t0 w0 → IsBounded (length ops) (still_of t0 w0) (seen_after (seen_at t0 at) op)
      → IsReached t0 w0 t1 w1 (next_of op at) (seen_after (seen_at t0 at) op) → (i : ℕ) → IsSmall (seen_at t1 i)
  still_small at op t0 t1 w0 w1 few o t bounded one i =
      small_from (length ops) (still_of t1 w1) (seen_at t1 i) few
      ((reaches at t0 t1 w0 w1 (next_of op at) _ t (λ j e less. sound_after at j op (seen_at t0 at) o (inl e) less (t.sound at))
      bounded one).is_table.bounded i)

  pub follow : (at : ℕ) (op : Op) (t0 t1 t2 : List Seen) (w0 w1 w2 : List ℕ) → slice_get ops at ≡ Some op
      → IsTable ops (λ left. left ≡ at) t0 w0
      → IsBounded (length ops) (still_of t0 w0) (seen_after (seen_at t0 at) op)
      → IsReached t0 w0 t1 w1 (next_of op at) (seen_after (seen_at t0 at) op)
      → IsReached t1 w1 t2 w2 (jump_of op) (seen_after (seen_at t0 at) op)
      → IsTable ops Never t2 w2 × (still_of t2 w2 ≤ still_of t0 w0)
  follow at op t0 t1 t2 w0 w1 w2 o t bounded one two = (
    record {
      long = r2.is_table.long;
      begun = r2.is_table.begun;
      listed = r2.is_table.listed;
      sound = r2.is_table.sound;
      bounded = r2.is_table.bounded;
      followed = λ i. inr (closed i (r2.is_table.followed i));
    },
    omega (arith, r1.still, r2.still),
  )
    where
      seen : Seen
      seen = seen_after (seen_at t0 at) op

      r1 : Reaches at t0 w0 t1 w1 (next_of op at) (seen_after (seen_at t0 at) op)
      r1 = reaches at t0 t1 w0 w1 (next_of op at) _ t (λ j e less. sound_after at j op (seen_at t0 at) o (inl e) less (t.sound at)) bounded one

      r2 : Reaches at t1 w1 t2 w2 (jump_of op) (seen_after (seen_at t0 at) op)
      r2 = reaches at t1 t2 w1 w2 (jump_of op) _ r1.is_table (λ j e less. sound_after at j op (seen_at t0 at) o (inr e) less (t.sound at))
          (bounded_less (length ops) (still_of t0 w0) (still_of t1 w1) _ r1.still bounded) two

      -- the op's own entry is as it was, or it is to be followed again
      own : (seen_at t1 at ≡ seen_at t0 at) ⊎ Contains w1 at → (seen_at t2 at ≡ seen_at t1 at) ⊎ Contains w2 at
          → (seen_at t2 at ≡ seen_at t0 at) ⊎ Contains w2 at
      own x (inr c) = inr c
      own (inl e) (inl f) = inl (f ∙ e)
      own (inr c) (inl f) = inr (r2.listed at c)

      reached : (j put taken : ℕ) → LeadsTo op at j → j < length ops → Covers (seen_after (seen_at t0 at) op) put taken → Covers (seen_at t2 j) put taken
      reached j put taken (inl e) less h = r2.keeps j put taken (r1.takes_in j put taken e less h)
      reached j put taken (inr e) less h = r2.takes_in j put taken e less h

      is_followed : (seen_at t2 at ≡ seen_at t0 at) ⊎ Contains w2 at → Contains w2 at ⊎ IsFollowed ops t2 at
      is_followed (inr c) = inl c
      is_followed (inl same) =
          inr (λ op' j put taken o' leads less h.
          let e : op ≡ op' = same_Some op op' (sym o ∙ o') in
          subst (λ x. Covers (seen_at t2 j) (put + puts x) (taken + takes x)) e
          (reached j (put + puts op) (taken + takes op) (subst (λ x. LeadsTo x at j) (sym e) leads) less
          (covers_after (seen_at t0 at) op put taken (subst (λ s. Covers s put taken) same h))))

      closed : (i : ℕ) → (i ≡ at) ⊎ (Contains w2 i ⊎ IsFollowed ops t2 i) → Contains w2 i ⊎ IsFollowed ops t2 i
      closed i (inr x) = x
      closed i (inl e) = subst (λ k. Contains w2 k ⊎ IsFollowed ops t2 k) (sym e) (is_followed (own (r1.lists at) (r2.lists at)))

  -- what the code knows of an op that it follows: the entry that it read, and what that is behind the op
  module _ (at : ℕ) (op : Op) (table : List Seen) (work : List ℕ) (read seen : Seen) (few : length ops < 2 ^ 32) (within : at < length ops)
      (is_op : op ≡ get_or ops at op) (t : IsTable ops (λ left. left ≡ at) table work) (is_read : read ≡ get_or table at read)
      (is_seen : seen ≡ seen_after read op) (grows : (n still : ℕ) → IsBounded n (still + 1) read → IsBounded n still seen)
      (bounded : IsBounded (length ops) (still_of table work + 1) (seen_at table at)) where
    there_is : slice_get ops at ≡ Some op
    there_is = slice_get_read ops (length ops) at op refl within is_op

    entry_is : read ≡ seen_at table at
    entry_is = get_or_read table at read (omega (arith, t.long)) is_read Unseen

    behind_is : seen ≡ seen_after (seen_at table at) op
    behind_is = is_seen ∙ ap (λ s. seen_after s op) entry_is

    bounded_behind : IsBounded (length ops) (still_of table work) seen
    bounded_behind = grows (length ops) (still_of table work) (subst (λ s. IsBounded (length ops) (still_of table work + 1) s) (sym entry_is) bounded)

    bounded_after : IsBounded (length ops) (still_of table work) (seen_after (seen_at table at) op)
    bounded_after = subst (λ s. IsBounded (length ops) (still_of table work) s) behind_is bounded_behind

    pub small_behind : IsSmall seen
    small_behind = small_from (length ops) (still_of table work) seen few bounded_behind

    module _ (t1 : List Seen) (w1 : List ℕ) (next : Option ℕ) (is_next : next ≡ next_of op at) (one : IsReached table work t1 w1 next seen) where
      first : IsReached table work t1 w1 (next_of op at) (seen_after (seen_at table at) op)
      first = subst (λ o. IsReached table work t1 w1 o (seen_after (seen_at table at) op))
          is_next (subst (λ s. IsReached table work t1 w1 next s) behind_is one)

      pub small_between : (i : ℕ) → IsSmall (seen_at t1 i)
      small_between = still_small at op table t1 work w1 few there_is t bounded_after first

      pub followed_on : (t2 : List Seen) (w2 : List ℕ) (jump : Option ℕ) → jump ≡ jump_of op → IsReached t1 w1 t2 w2 jump seen
          → IsTable ops Never t2 w2 × (still_of t2 w2 ≤ still_of table work)
      followed_on t2 w2 jump is_jump two =
          follow at op table t1 t2 work w1 w2 there_is t bounded_after first
          (subst (λ o. IsReached t1 w1 t2 w2 o (seen_after (seen_at table at) op)) is_jump (subst (λ s. IsReached t1 w1 t2 w2 jump s) behind_is two))

  -- ---- its beginning and its end

  entry : (n i : ℕ) → 0 < n → (i ≡ 0 → ⊥) → seen_at (set (replicate n Unseen) 0 (Once (record { put = 0; taken = 0 }))) i ≡ Unseen
  entry n i some apart = get_or-set_other (replicate n Unseen) 0 i _ Unseen apart ∙ unseen n i
    where
      unseen : (n i : ℕ) → seen_at (replicate n Unseen) i ≡ Unseen
      unseen zero i = refl
      unseen (suc n) zero = refl
      unseen (suc n) (suc i) = unseen n i

  pub begin : (n : ℕ) → 0 < n → n ≡ length ops
      → (table : List Seen) (work : List ℕ) → table ≡ set (replicate n Unseen) 0 (Once (record { put = 0; taken = 0 })) → work ≡ 0 ∷ []
      → IsTable ops Never table work
  begin n some same table work is_table is_work =
      subst (λ w. IsTable ops Never table w) (sym is_work) (subst (λ x. IsTable ops Never x (0 ∷ [])) (sym is_table) (record {
        long = length-set (replicate n Unseen) 0 _ ∙ length-replicate n Unseen ∙ same;
        begun = subst (λ s. Covers s 0 0) (sym first) refl;
        listed = λ i c. by_only i (c.0) c.1 c.2;
        sound = λ i. by_place (λ i s. IsSound ops i s) begins (λ i. tt) i (cases_eq i 0);
        bounded = λ i. by_place (λ i s. IsBounded (length ops) (still_of start (0 ∷ [])) s) (omega (arith, few)) (λ i. tt) i (cases_eq i 0);
        followed = λ i. inr (by_entry i (cases_eq i 0));
      }))
    where
      start : List Seen
      start = set (replicate n Unseen) 0 (Once (record { put = 0; taken = 0 }))

      long : 0 < length (replicate n Unseen)
      long = omega (arith, length-replicate n Unseen)

      first : seen_at (set (replicate n Unseen) 0 (Once (record { put = 0; taken = 0 }))) 0 ≡ Once (record { put = 0; taken = 0 })
      first = get_or-set_same (replicate n Unseen) 0 _ Unseen long

      few : sum_by spare (set (replicate n Unseen) 0 (Once (record { put = 0; taken = 0 }))) + 1 ≡ 2 * length ops
      few = omega (
        arith,
        sum_by-set spare (replicate n Unseen) 0 (Once (record { put = 0; taken = 0 })) Unseen long,
        sum_by-replicate spare n Unseen,
        ap spare (get_or-replicate n 0 Unseen Unseen some),
      )

      by_place : (P : ℕ → Seen → Type 0) → P 0 (Once (record { put = 0; taken = 0 })) → ((i : ℕ) → P i Unseen) → (i : ℕ) → (i ≡ 0) ⊎ (i ≡ 0 → ⊥)
          → P i (seen_at (set (replicate n Unseen) 0 (Once (record { put = 0; taken = 0 }))) i)
      by_place P here all i (inl e) = subst (λ j. P j (seen_at (set (replicate n Unseen) 0 (Once (record { put = 0; taken = 0 }))) j))
          (sym e) (subst (P 0) (sym first) here)
      by_place P here all i (inr apart) = subst (P i) (sym (entry n i some apart)) (all i)

      by_entry : (i : ℕ) → (i ≡ 0) ⊎ (i ≡ 0 → ⊥) → Contains (0 ∷ []) i ⊎ IsFollowed ops (set (replicate n Unseen) 0 (Once (record { put = 0; taken = 0 }))) i
      by_entry i (inl e) = inl (subst (λ j. Contains (0 ∷ []) j) (sym e) (0, omega arith, refl))
      by_entry i (inr apart) = inr (λ op j put taken o leads less h. absurd (subst (λ s. Covers s put taken) (entry n i some apart) h))

      by_only : (i k : ℕ) → k < 1 → get_or (0 ∷ []) k i ≡ i → i < length ops
      by_only i zero l e = omega arith
      by_only i (suc k) l e = absurd (omega arith)

  -- the op that is taken off the list is open
  pub popped : (table : List Seen) (work work' : List ℕ) (at : ℕ) → IsTable ops Never table work → work ≡ work' ++ at ∷ []
      → IsTable ops (λ left. left ≡ at) table work'
      × (at < length ops) × (still_of table work ≡ still_of table work' + 1)
  popped table work work' at t e =
      let more : still_of table work ≡ still_of table work' + 1 = omega (arith, ap length e, length_push work' at) in (
        record {
          long = t.long;
          begun = t.begun;
          listed = λ i c. t.listed i (subst (λ w. Contains w i) (sym e) (Contains-append_left work' (at ∷ []) i c));
          sound = t.sound;
          bounded = λ i. bounded_less (length ops) (still_of table work) (still_of table work') (seen_at table i) (omega arith) (t.bounded i);
          followed = λ i. by_case i (t.followed i);
        },
        t.listed at (subst (λ w. Contains w at) (sym e) (Contains-push work' at)),
        more,
      )
    where
      by_last : (i : ℕ) → Contains work' i ⊎ (at ≡ i) → (i ≡ at) ⊎ (Contains work' i ⊎ IsFollowed ops table i)
      by_last i (inl c) = inr (inl c)
      by_last i (inr e) = inl (sym e)

      by_case : (i : ℕ) → ⊥ ⊎ (Contains work i ⊎ IsFollowed ops table i) → (i ≡ at) ⊎ (Contains work' i ⊎ IsFollowed ops table i)
      by_case i (inl h) = absurd h
      by_case i (inr (inr f)) = inr (inr f)
      by_case i (inr (inl c)) = by_last i (Contains-push_cases work' at i (subst (λ w. Contains w i) e c))

  finished : (table : List Seen) → length ops < 2 ^ 32 → IsTable ops Never table [] → AreHeights ops table
  finished table few t = record {
    long = t.long;
    sound = t.sound;
    covered = λ at put taken w. covered w;
    small = λ at. small_from (length ops) (still_of table []) (seen_at table at) few (t.bounded at);
  }
    where
      by_case : (at put taken : ℕ) (op : Op) (to : ℕ) → ⊥ ⊎ (Contains [] at ⊎ IsFollowed ops table at)
          → slice_get ops at ≡ Some op → LeadsTo op at to → to < length ops → Covers (seen_at table at) put taken
          → Covers (seen_at table to) (put + puts op) (taken + takes op)
      by_case at put taken op to (inl h) o leads less c = absurd h
      by_case at put taken op to (inr (inl h)) o leads less c = absurd (omega (arith, h.1))
      by_case at put taken op to (inr (inr f)) o leads less c = f op to put taken o leads less c

      covered : {at put taken : ℕ} → Way ops at put taken → Covers (seen_at table at) put taken
      covered begins = t.begun
      covered (follows {at = at} {put = put} {taken = taken} op to w o leads less) = by_case at put taken op to (t.followed at) o leads less (covered w)

  pub finish : (table : List Seen) (work : List ℕ) → length ops < 2 ^ 32 → work ≡ [] → IsTable ops Never table work → AreHeights ops table
  finish table work few none t = finished table few (subst (λ w. IsTable ops Never table w) none t)
