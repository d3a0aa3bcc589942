-- The one stored form of a value, and its length.
use Rattle.std.proofs.Common.{◌≡◌, ℕ, zero, suc, ◌<◌, ◌≤◌, ◌+◌, ◌/◌, ◌^◌, Bool, true, false, cond, ltb, ℤ, pos, negsuc, [], ◌∷◌, ◌++◌, length, length-append, refl, sym, ap, subst, ◌∙◌, arith}
use Rattle.std.proofs.lemmas.Bool.{ltb-true, ltb-false}
use Rattle.std.proofs.Math.Nat.{pow-suc}
use Rattle.uq_value.specs.Data.{Bytes, Data, null, bool, int, text, sequence, mapping, Items, no_items, item, Members, no_members, member, list_of, pairs_of}
use Rattle.uq_value.specs.Size.{leb_within, leb_size, name_size, data_size, items_size, members_size, most_size}
use Rattle.uq_codec.specs.Varint.{IsVarint}
use Rattle.uq_codec.specs.Stored.{IsWhole, IsName, Encodes, EncodesItems, EncodesMembers}
use Rattle.uq_value.specs.Laws.Growth.{items_count, members_count}
use Rattle.uq_codec.proofs.Determined.{whole_long, both}

-- ---- one form

varint_one : (a b : Bytes) (n : ℕ) → IsVarint a n → IsVarint b n → a ≡ b
varint_one [] b n p q = absurd p
varint_one (g ∷ a) [] n p q = absurd q
varint_one (g ∷ []) (h ∷ []) n p q = ap (λ (k : ℕ). k ∷ []) (sym p.1 ∙ q.1)
varint_one (g ∷ []) (h ∷ k ∷ b) n p (low, high, small, is, filled, number, others) = absurd (omega (arith, p.0, p.1, number, filled))
varint_one (g ∷ k ∷ a) (h ∷ []) n (low, high, small, is, filled, number, others) q = absurd (omega (arith, q.0, q.1, number, filled))
varint_one (g ∷ k ∷ a) (h ∷ l ∷ b) n (low, high, small, is, filled, number, others) (low', high', small', is', filled', number', others') =
    let same : high ≡ high' = omega (arith, small, small', number, number') in
    let group : g ≡ h = omega (arith, same, is, is', number, number') in
    let more = varint_one (k ∷ a) (l ∷ b) high' (subst (λ (m : ℕ). IsVarint (k ∷ a) m) same others) others' in
    ap (λ (j : ℕ). j ∷ k ∷ a) group ∙ ap (λ (c : Bytes). h ∷ c) more

name_one : (a b bs : Bytes) → IsName a bs → IsName b bs → a ≡ b
name_one a b bs p q = p.parts ∙ ap (λ (w : Bytes). w ++ bs) (varint_one p.count q.count (length bs) p.is_count q.is_count) ∙ sym q.parts

number_one : (a b : Bytes) (z : ℤ) → IsWhole a z → IsWhole b z → a ≡ b
number_one a b (pos n) p q = p.1 ∙ sym q.1
number_one a b (negsuc n) p q = p.1 ∙ sym q.1

behind_kind : (k : ℕ) (a b tail tail' : Bytes) → a ≡ k ∷ tail → b ≡ k ∷ tail' → tail ≡ tail' → a ≡ b
behind_kind k a b tail tail' p q e = p ∙ ap (λ (w : Bytes). k ∷ w) e ∙ sym q

mutual
  pub spelling_one : (d : Data) (a b : Bytes) → Encodes a d → Encodes b d → a ≡ b
  spelling_one null a b p q = p ∙ sym q
  spelling_one (bool c) a b p q = p ∙ sym q
  spelling_one (int z) a b (word, parts, is) (word', parts', is') = behind_kind 3 a b word word' parts parts' (number_one word word' z is is')
  spelling_one (text bs) a b (word, parts, is) (word', parts', is') = behind_kind 4 a b word word' parts parts' (name_one word word' bs is is')
  spelling_one (sequence ds) a b (count, body, parts, is, are) (count', body', parts', is', are') =
      behind_kind 5 a b (count ++ body) (count' ++ body') parts parts' (both count body count' body' (varint_one count count' (length (list_of ds)) is is') (items_one ds body body' are are'))
  spelling_one (mapping ms) a b (count, body, parts, is, are, distinct) (count', body', parts', is', are', distinct') =
      behind_kind 6 a b (count ++ body) (count' ++ body') parts parts' (both count body count' body' (varint_one count count' (length (pairs_of ms)) is is') (members_one ms body body' are are'))

  items_one : (ds : Items) (a b : Bytes) → EncodesItems a ds → EncodesItems b ds → a ≡ b
  items_one no_items a b p q = p ∙ sym q
  items_one (item d ds) a b (front, back, parts, is, are) (front', back', parts', is', are') =
      parts ∙ both front back front' back' (spelling_one d front front' is is') (items_one ds back back' are are') ∙ sym parts'

  members_one : (ms : Members) (a b : Bytes) → EncodesMembers a ms → EncodesMembers b ms → a ≡ b
  members_one no_members a b p q = p ∙ sym q
  members_one (member n d ms) a b (label, front, back, parts, named, is, are) (label', front', back', parts', named', is', are') =
      parts ∙ both label (front ++ back) label' (front' ++ back') (name_one label label' n named named') (both front back front' back' (spelling_one d front front' is is') (members_one ms back back' are are')) ∙ sym parts'

-- ---- its length

varint_long : (k : ℕ) (a : Bytes) (n : ℕ) → n < 128 ^ suc k → IsVarint a n → length a ≡ leb_within k n
varint_long k [] n h p = absurd p
varint_long zero (g ∷ []) n h p = refl
varint_long (suc k) (g ∷ []) n h p = by (ltb n 128) refl
  where
    by : (b : Bool) → ltb n 128 ≡ b → 1 ≡ cond b 1 (1 + leb_within k (n / 128))
    by true e = refl
    by false e = absurd (omega (arith, ltb-false n 128 e, p.0, p.1))
varint_long zero (g ∷ j ∷ a) n h (low, high, small, is, filled, number, others) = absurd (omega (arith, h, number, filled))
varint_long (suc k) (g ∷ j ∷ a) n h (low, high, small, is, filled, number, others) = by (ltb n 128) refl (varint_long k (j ∷ a) high bound others)
  where
    quotient : n / 128 ≡ high
    quotient = omega (arith, number, small)

    bound : high < 128 ^ suc k
    bound = omega (arith, h, pow-suc 128 (suc k), number)

    by : (b : Bool) → ltb n 128 ≡ b → length (j ∷ a) ≡ leb_within k high → length (g ∷ j ∷ a) ≡ cond b 1 (1 + leb_within k (n / 128))
    by true e more = absurd (omega (arith, ltb-true n 128 e, number, filled))
    by false e more = let moved : leb_within k high ≡ leb_within k (n / 128) = ap (leb_within k) (sym quotient) in omega (arith, more, moved)

count_long : (a : Bytes) (n : ℕ) → n ≤ most_size → IsVarint a n → length a ≡ leb_size n
unfolding leb_size
count_long a n h p = varint_long 9 a n (omega (arith, h)) p

name_long : (a bs : Bytes) → length bs ≤ most_size → IsName a bs → length a ≡ name_size bs
name_long a bs h p =
    let count = count_long p.count (length bs) h p.is_count in
    let parts : length a ≡ length (p.count ++ bs) = ap length p.parts in
    omega (arith, count, parts, length-append p.count bs)

kind_long : (k : ℕ) (a tail : Bytes) → a ≡ k ∷ tail → length a ≡ 1 + length tail
kind_long k a tail p = let long : length a ≡ length (k ∷ tail) = ap length p in omega (arith, long)

mutual
  pub spelling_long : (d : Data) (a : Bytes) → data_size d ≤ most_size → Encodes a d → length a ≡ data_size d
  spelling_long null a h p = ap length p
  spelling_long (bool b) a h p = ap length p
  spelling_long (int z) a h (word, parts, is) = let eight = whole_long word z is in omega (arith, kind_long 3 a word parts, eight)
  spelling_long (text bs) a h (word, parts, is) = let long = name_long word bs (omega (arith, h)) is in omega (arith, kind_long 4 a word parts, long)
  spelling_long (sequence ds) a h (count, body, parts, is, are) =
      let counted = count_long count (length (list_of ds)) (omega (arith, h, items_count ds)) is in
      let within = items_long ds body (omega (arith, h)) are in
      omega (arith, kind_long 5 a (count ++ body) parts, length-append count body, counted, within)
  spelling_long (mapping ms) a h (count, body, parts, is, are, distinct) =
      let counted = count_long count (length (pairs_of ms)) (omega (arith, h, members_count ms)) is in
      let within = members_long ms body (omega (arith, h)) are in
      omega (arith, kind_long 6 a (count ++ body) parts, length-append count body, counted, within)

  items_long : (ds : Items) (a : Bytes) → items_size ds ≤ most_size → EncodesItems a ds → length a ≡ items_size ds
  items_long no_items a h p = ap length p
  items_long (item d ds) a h (front, back, parts, is, are) =
      let one = spelling_long d front (omega (arith, h)) is in
      let others = items_long ds back (omega (arith, h)) are in
      let whole : length a ≡ length (front ++ back) = ap length parts in
      omega (arith, whole, length-append front back, one, others)

  members_long : (ms : Members) (a : Bytes) → members_size ms ≤ most_size → EncodesMembers a ms → length a ≡ members_size ms
  members_long no_members a h p = ap length p
  members_long (member n d ms) a h (label, front, back, parts, named, is, are) =
      let name = name_long label n (omega (arith, h)) named in
      let one = spelling_long d front (omega (arith, h)) is in
      let others = members_long ms back (omega (arith, h)) are in
      let whole : length a ≡ length (label ++ (front ++ back)) = ap length parts in
      omega (arith, whole, length-append label (front ++ back), length-append front back, name, one, others)
