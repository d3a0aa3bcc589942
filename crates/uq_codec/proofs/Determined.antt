-- No spelling begins another, and none spells two values.
use Rattle.std.proofs.Common.{◌≡◌, ℕ, ◌<◌, ◌-◌, ◌^◌, true, false, ℤ, pos, negsuc, [], ◌∷◌, ◌++◌, length, refl, sym, ap, subst, ◌∙◌, append_assoc, arith}
use Rattle.std.proofs.lemmas.Nat.{from_be_bytes-to_be_bytes_8}
use Rattle.std.specs.Int.{w64, to_be_bytes, from_be_bytes}
use Rattle.uq_value.specs.Data.{Bytes, Data, null, bool, int, text, sequence, mapping, Items, no_items, item, Members, no_members, member, list_of, pairs_of}
use Rattle.uq_codec.specs.Varint.{IsVarint}
use Rattle.uq_codec.specs.Stored.{IsWhole, IsName, Encodes, EncodesItems, EncodesMembers}

-- two spellings, each with more behind it, are of the same thing
pub record Same {A : Type 0} (c d : A) (a b x y : Bytes) : Type 0 where
  pub value : c ≡ d
  pub word : a ≡ b
  pub rest : x ≡ y

-- lists of the same length, with more behind them
pub split_same : (a b x y : Bytes) → length a ≡ length b → a ++ x ≡ b ++ y → (a ≡ b) × (x ≡ y)
split_same [] [] x y n e = (refl, e)
split_same [] (h ∷ b) x y n e = absurd (omega (arith, n))
split_same (g ∷ a) [] x y n e = absurd (omega (arith, n))
split_same (g ∷ a) (h ∷ b) x y n e =
    let same : g ≡ h = cc in
    let tails : a ++ x ≡ b ++ y = cc in
    let others = split_same a b x y (omega (arith, n)) tails in
    (ap (λ (k : ℕ). k ∷ a) same ∙ ap (λ (c : Bytes). h ∷ c) others.0, others.1)

pub varint_same : (a b x y : Bytes) (m n : ℕ) → IsVarint a m → IsVarint b n → a ++ x ≡ b ++ y → Same m n a b x y
varint_same [] b x y m n p q e = absurd p
varint_same (g ∷ a) [] x y m n p q e = absurd q
varint_same (g ∷ []) (h ∷ []) x y m n p q e =
    let same : g ≡ h = cc in
    record { value = p.1 ∙ same ∙ sym q.1; word = ap (λ (k : ℕ). k ∷ []) same; rest = cc }
varint_same (g ∷ []) (h ∷ k ∷ b) x y m n p (low, high, small, is, filled, number, others) e =
    let same : g ≡ h = cc in absurd (omega (arith, same, is, p.0))
varint_same (g ∷ k ∷ a) (h ∷ []) x y m n (low, high, small, is, filled, number, others) q e =
    let same : g ≡ h = cc in absurd (omega (arith, same, is, q.0))
varint_same (g ∷ k ∷ a) (h ∷ l ∷ b) x y m n (low, high, small, is, filled, number, others) (low', high', small', is', filled', number', others') e =
    let same : g ≡ h = cc in
    let tails : (k ∷ a) ++ x ≡ (l ∷ b) ++ y = cc in
    let more = varint_same (k ∷ a) (l ∷ b) x y high high' others others' tails in
    record {
      value = omega (arith, same, is, is', number, number', more.value);
      word = ap (λ (j : ℕ). j ∷ k ∷ a) same ∙ ap (λ (c : Bytes). h ∷ c) more.word;
      rest = more.rest;
    }

pub name_same : (a b x y : Bytes) (m n : Bytes) → IsName a m → IsName b n → a ++ x ≡ b ++ y → Same m n a b x y
name_same a b x y m n p q e =
    let regrouped : p.count ++ (m ++ x) ≡ q.count ++ (n ++ y) =
    sym (append_assoc p.count m x) ∙ ap (λ (w : Bytes). w ++ x) (sym p.parts) ∙ e ∙ ap (λ (w : Bytes). w ++ y) q.parts ∙ append_assoc q.count n y in
    let counts = varint_same p.count q.count (m ++ x) (n ++ y) (length m) (length n) p.is_count q.is_count regrouped in
    let names = split_same m n x y counts.value counts.rest in
    record {
      value = names.0;
      word = p.parts ∙ ap (λ (w : Bytes). w ++ m) counts.word ∙ ap (λ (w : Bytes). q.count ++ w) names.0 ∙ sym q.parts;
      rest = names.1;
    }

-- ---- whole numbers

eight : (n : ℕ) → length (to_be_bytes w64 n) ≡ 8
eight n = refl

number_same : (m n : ℕ) → m < 2 ^ 64 → n < 2 ^ 64 → to_be_bytes w64 m ≡ to_be_bytes w64 n → m ≡ n
number_same m n p q e = sym (from_be_bytes-to_be_bytes_8 m p) ∙ ap (from_be_bytes w64) e ∙ from_be_bytes-to_be_bytes_8 n q

pub whole_long : (a : Bytes) (z : ℤ) → IsWhole a z → length a ≡ 8
whole_long a (pos n) p = ap length p.1 ∙ eight n
whole_long a (negsuc n) p = ap length p.1 ∙ eight (2 ^ 64 - 1 - n)

whole_one : (a : Bytes) (y z : ℤ) → IsWhole a y → IsWhole a z → y ≡ z
whole_one a (pos m) (pos n) p q = ap pos (number_same m n (omega (arith, p.0)) (omega (arith, q.0)) (sym p.1 ∙ q.1))
whole_one a (pos m) (negsuc n) p q =
    let same = number_same m (2 ^ 64 - 1 - n) (omega (arith, p.0)) (omega (arith, q.0)) (sym p.1 ∙ q.1) in absurd (omega (arith, same, p.0, q.0))
whole_one a (negsuc m) (pos n) p q =
    let same = number_same (2 ^ 64 - 1 - m) n (omega (arith, p.0)) (omega (arith, q.0)) (sym p.1 ∙ q.1) in absurd (omega (arith, same, p.0, q.0))
whole_one a (negsuc m) (negsuc n) p q =
    let same = number_same (2 ^ 64 - 1 - m) (2 ^ 64 - 1 - n) (omega (arith, p.0)) (omega (arith, q.0)) (sym p.1 ∙ q.1) in ap negsuc (omega (arith, same, p.0, q.0))

pub whole_same : (a b x y : Bytes) (m n : ℤ) → IsWhole a m → IsWhole b n → a ++ x ≡ b ++ y → Same m n a b x y
whole_same a b x y m n p q e =
    let words = split_same a b x y (whole_long a m p ∙ sym (whole_long b n q)) e in
    record { value = whole_one b m n (subst (λ (w : Bytes). IsWhole w m) words.0 p) q; word = words.0; rest = words.1 }

-- ---- kinds

-- the byte with which a spelling begins
abbrev pub kind : Data → ℕ
kind null = 0
kind (bool false) = 1
kind (bool true) = 2
kind (int z) = 3
kind (text bs) = 4
kind (sequence ds) = 5
kind (mapping ms) = 6

pub record Begins (a : Bytes) (k : ℕ) : Type 0 where
  pub tail : Bytes
  pub parts : a ≡ k ∷ tail

pub begins : (d : Data) (a : Bytes) → Encodes a d → Begins a (kind d)
begins null a p = record { tail = []; parts = p }
begins (bool false) a p = record { tail = []; parts = p }
begins (bool true) a p = record { tail = []; parts = p }
begins (int z) a (number, parts, is) = record { tail = number; parts = parts }
begins (text bs) a (name, parts, is) = record { tail = name; parts = parts }
begins (sequence ds) a (count, body, parts, is, are) = record { tail = count ++ body; parts = parts }
begins (mapping ms) a (count, body, parts, is, are, distinct) = record { tail = count ++ body; parts = parts }

same_kind : (c d : Data) (a b x y : Bytes) → Encodes a c → Encodes b d → a ++ x ≡ b ++ y → kind c ≡ kind d
same_kind c d a b x y p q e = by (begins c a p) (begins d b q)
  where
    by : Begins a (kind c) → Begins b (kind d) → kind c ≡ kind d
    by one other =
        let heads : kind c ∷ (one.tail ++ x) ≡ kind d ∷ (other.tail ++ y) =
        ap (λ (w : Bytes). w ++ x) (sym one.parts) ∙ e ∙ ap (λ (w : Bytes). w ++ y) other.parts in cc

-- what stands behind the byte of the kind
behind : (k : ℕ) (a b tail tail' x y : Bytes) → a ≡ k ∷ tail → b ≡ k ∷ tail' → a ++ x ≡ b ++ y → tail ++ x ≡ tail' ++ y
behind k a b tail tail' x y p q e =
    let heads : k ∷ (tail ++ x) ≡ k ∷ (tail' ++ y) = ap (λ (w : Bytes). w ++ x) (sym p) ∙ e ∙ ap (λ (w : Bytes). w ++ y) q in cc

-- a whole spelling, from what stands behind its byte
with_kind : {A : Type 0} (k : ℕ) (c d : A) (a b tail tail' x y : Bytes) → a ≡ k ∷ tail → b ≡ k ∷ tail' → Same c d tail tail' x y → Same c d a b x y
with_kind k c d a b tail tail' x y p q same =
    record { value = same.value; word = p ∙ ap (λ (w : Bytes). k ∷ w) same.word ∙ sym q; rest = same.rest }

mapped : {A B : Type 0} (f : A → B) (c d : A) (a b x y : Bytes) → Same c d a b x y → Same (f c) (f d) a b x y
mapped f c d a b x y same = record { value = ap f same.value; word = same.word; rest = same.rest }

-- two words in a row
pub in_a_row : (a b a' b' x y : Bytes) → (a ++ b) ++ x ≡ (a' ++ b') ++ y → a ++ (b ++ x) ≡ a' ++ (b' ++ y)
in_a_row a b a' b' x y e = sym (append_assoc a b x) ∙ e ∙ append_assoc a' b' y

pub both : (a b a' b' : Bytes) → a ≡ a' → b ≡ b' → a ++ b ≡ a' ++ b'
both a b a' b' p q = ap (λ (w : Bytes). w ++ b) p ∙ ap (λ (w : Bytes). a' ++ w) q

-- ---- values

mutual
  pub spelling_same : (c d : Data) (a b x y : Bytes) → Encodes a c → Encodes b d → a ++ x ≡ b ++ y → Same c d a b x y
  spelling_same null null a b x y p q e = with_kind 0 null null a b [] [] x y p q (record { value = refl; word = refl; rest = behind 0 a b [] [] x y p q e })
  spelling_same null (bool false) a b x y p q e = absurd (omega (arith, same_kind null (bool false) a b x y p q e))
  spelling_same null (bool true) a b x y p q e = absurd (omega (arith, same_kind null (bool true) a b x y p q e))
  spelling_same null (int z) a b x y p q e = absurd (omega (arith, same_kind null (int z) a b x y p q e))
  spelling_same null (text bs) a b x y p q e = absurd (omega (arith, same_kind null (text bs) a b x y p q e))
  spelling_same null (sequence ds) a b x y p q e = absurd (omega (arith, same_kind null (sequence ds) a b x y p q e))
  spelling_same null (mapping ms) a b x y p q e = absurd (omega (arith, same_kind null (mapping ms) a b x y p q e))
  spelling_same (bool false) null a b x y p q e = absurd (omega (arith, same_kind (bool false) null a b x y p q e))
  spelling_same (bool false) (bool false) a b x y p q e = with_kind 1 (bool false) (bool false) a b [] [] x y p q (record { value = refl; word = refl; rest = behind 1 a b [] [] x y p q e })
  spelling_same (bool false) (bool true) a b x y p q e = absurd (omega (arith, same_kind (bool false) (bool true) a b x y p q e))
  spelling_same (bool false) (int z) a b x y p q e = absurd (omega (arith, same_kind (bool false) (int z) a b x y p q e))
  spelling_same (bool false) (text bs) a b x y p q e = absurd (omega (arith, same_kind (bool false) (text bs) a b x y p q e))
  spelling_same (bool false) (sequence ds) a b x y p q e = absurd (omega (arith, same_kind (bool false) (sequence ds) a b x y p q e))
  spelling_same (bool false) (mapping ms) a b x y p q e = absurd (omega (arith, same_kind (bool false) (mapping ms) a b x y p q e))
  spelling_same (bool true) null a b x y p q e = absurd (omega (arith, same_kind (bool true) null a b x y p q e))
  spelling_same (bool true) (bool false) a b x y p q e = absurd (omega (arith, same_kind (bool true) (bool false) a b x y p q e))
  spelling_same (bool true) (bool true) a b x y p q e = with_kind 2 (bool true) (bool true) a b [] [] x y p q (record { value = refl; word = refl; rest = behind 2 a b [] [] x y p q e })
  spelling_same (bool true) (int z) a b x y p q e = absurd (omega (arith, same_kind (bool true) (int z) a b x y p q e))
  spelling_same (bool true) (text bs) a b x y p q e = absurd (omega (arith, same_kind (bool true) (text bs) a b x y p q e))
  spelling_same (bool true) (sequence ds) a b x y p q e = absurd (omega (arith, same_kind (bool true) (sequence ds) a b x y p q e))
  spelling_same (bool true) (mapping ms) a b x y p q e = absurd (omega (arith, same_kind (bool true) (mapping ms) a b x y p q e))
  spelling_same (int z) null a b x y p q e = absurd (omega (arith, same_kind (int z) null a b x y p q e))
  spelling_same (int z) (bool false) a b x y p q e = absurd (omega (arith, same_kind (int z) (bool false) a b x y p q e))
  spelling_same (int z) (bool true) a b x y p q e = absurd (omega (arith, same_kind (int z) (bool true) a b x y p q e))
  spelling_same (int y') (int z) a b x y (word, parts, is) (word', parts', is') e =
      with_kind 3 (int y') (int z) a b word word' x y parts parts' (mapped int y' z word word' x y (whole_same word word' x y y' z is is' (behind 3 a b word word' x y parts parts' e)))
  spelling_same (int z) (text bs) a b x y p q e = absurd (omega (arith, same_kind (int z) (text bs) a b x y p q e))
  spelling_same (int z) (sequence ds) a b x y p q e = absurd (omega (arith, same_kind (int z) (sequence ds) a b x y p q e))
  spelling_same (int z) (mapping ms) a b x y p q e = absurd (omega (arith, same_kind (int z) (mapping ms) a b x y p q e))
  spelling_same (text bs) null a b x y p q e = absurd (omega (arith, same_kind (text bs) null a b x y p q e))
  spelling_same (text bs) (bool false) a b x y p q e = absurd (omega (arith, same_kind (text bs) (bool false) a b x y p q e))
  spelling_same (text bs) (bool true) a b x y p q e = absurd (omega (arith, same_kind (text bs) (bool true) a b x y p q e))
  spelling_same (text bs) (int z) a b x y p q e = absurd (omega (arith, same_kind (text bs) (int z) a b x y p q e))
  spelling_same (text bs) (text cs) a b x y (word, parts, is) (word', parts', is') e =
      with_kind 4 (text bs) (text cs) a b word word' x y parts parts' (mapped text bs cs word word' x y (name_same word word' x y bs cs is is' (behind 4 a b word word' x y parts parts' e)))
  spelling_same (text bs) (sequence ds) a b x y p q e = absurd (omega (arith, same_kind (text bs) (sequence ds) a b x y p q e))
  spelling_same (text bs) (mapping ms) a b x y p q e = absurd (omega (arith, same_kind (text bs) (mapping ms) a b x y p q e))
  spelling_same (sequence ds) null a b x y p q e = absurd (omega (arith, same_kind (sequence ds) null a b x y p q e))
  spelling_same (sequence ds) (bool false) a b x y p q e = absurd (omega (arith, same_kind (sequence ds) (bool false) a b x y p q e))
  spelling_same (sequence ds) (bool true) a b x y p q e = absurd (omega (arith, same_kind (sequence ds) (bool true) a b x y p q e))
  spelling_same (sequence ds) (int z) a b x y p q e = absurd (omega (arith, same_kind (sequence ds) (int z) a b x y p q e))
  spelling_same (sequence ds) (text bs) a b x y p q e = absurd (omega (arith, same_kind (sequence ds) (text bs) a b x y p q e))
  spelling_same (sequence cs) (sequence ds) a b x y (count, body, parts, is, are) (count', body', parts', is', are') e =
      let tails = in_a_row count body count' body' x y (behind 5 a b (count ++ body) (count' ++ body') x y parts parts' e) in
      let counts = varint_same count count' (body ++ x) (body' ++ y) (length (list_of cs)) (length (list_of ds)) is is' tails in
      let bodies = items_same cs ds body body' x y counts.value are are' counts.rest in
      with_kind 5 (sequence cs) (sequence ds) a b (count ++ body) (count' ++ body') x y parts parts' (record { value = ap sequence bodies.value; word = both count body count' body' counts.word bodies.word; rest = bodies.rest })
  spelling_same (sequence ds) (mapping ms) a b x y p q e = absurd (omega (arith, same_kind (sequence ds) (mapping ms) a b x y p q e))
  spelling_same (mapping ms) null a b x y p q e = absurd (omega (arith, same_kind (mapping ms) null a b x y p q e))
  spelling_same (mapping ms) (bool false) a b x y p q e = absurd (omega (arith, same_kind (mapping ms) (bool false) a b x y p q e))
  spelling_same (mapping ms) (bool true) a b x y p q e = absurd (omega (arith, same_kind (mapping ms) (bool true) a b x y p q e))
  spelling_same (mapping ms) (int z) a b x y p q e = absurd (omega (arith, same_kind (mapping ms) (int z) a b x y p q e))
  spelling_same (mapping ms) (text bs) a b x y p q e = absurd (omega (arith, same_kind (mapping ms) (text bs) a b x y p q e))
  spelling_same (mapping ms) (sequence ds) a b x y p q e = absurd (omega (arith, same_kind (mapping ms) (sequence ds) a b x y p q e))
  spelling_same (mapping ms) (mapping ns) a b x y (count, body, parts, is, are, distinct) (count', body', parts', is', are', distinct') e =
      let tails = in_a_row count body count' body' x y (behind 6 a b (count ++ body) (count' ++ body') x y parts parts' e) in
      let counts = varint_same count count' (body ++ x) (body' ++ y) (length (pairs_of ms)) (length (pairs_of ns)) is is' tails in
      let bodies = members_same ms ns body body' x y counts.value are are' counts.rest in
      with_kind 6 (mapping ms) (mapping ns) a b (count ++ body) (count' ++ body') x y parts parts' (record { value = ap mapping bodies.value; word = both count body count' body' counts.word bodies.word; rest = bodies.rest })

  pub items_same : (cs ds : Items) (a b x y : Bytes) → length (list_of cs) ≡ length (list_of ds) → EncodesItems a cs → EncodesItems b ds → a ++ x ≡ b ++ y → Same cs ds a b x y
  items_same no_items no_items a b x y n p q e = record { value = refl; word = p ∙ sym q; rest = ap (λ (w : Bytes). w ++ x) (sym p) ∙ e ∙ ap (λ (w : Bytes). w ++ y) q }
  items_same no_items (item d ds) a b x y n p q e = absurd (omega (arith, n))
  items_same (item c cs) no_items a b x y n p q e = absurd (omega (arith, n))
  items_same (item c cs) (item d ds) a b x y n (front, back, parts, is, are) (front', back', parts', is', are') e =
      let tails = in_a_row front back front' back' x y (ap (λ (w : Bytes). w ++ x) (sym parts) ∙ e ∙ ap (λ (w : Bytes). w ++ y) parts') in
      let one = spelling_same c d front front' (back ++ x) (back' ++ y) is is' tails in
      let others = items_same cs ds back back' x y (omega (arith, n)) are are' one.rest in
      record {
        value = ap (λ (f : Data). item f cs) one.value ∙ ap (item d) others.value;
        word = parts ∙ both front back front' back' one.word others.word ∙ sym parts';
        rest = others.rest;
      }

  pub members_same : (ms ns : Members) (a b x y : Bytes) → length (pairs_of ms) ≡ length (pairs_of ns) → EncodesMembers a ms → EncodesMembers b ns → a ++ x ≡ b ++ y → Same ms ns a b x y
  members_same no_members no_members a b x y n p q e = record { value = refl; word = p ∙ sym q; rest = ap (λ (w : Bytes). w ++ x) (sym p) ∙ e ∙ ap (λ (w : Bytes). w ++ y) q }
  members_same no_members (member m d ns) a b x y n p q e = absurd (omega (arith, n))
  members_same (member m c ms) no_members a b x y n p q e = absurd (omega (arith, n))
  members_same (member m c ms) (member m' d ns) a b x y n (label, front, back, parts, named, is, are) (label', front', back', parts', named', is', are') e =
      let tails = in_a_row label (front ++ back) label' (front' ++ back') x y (ap (λ (w : Bytes). w ++ x) (sym parts) ∙ e ∙ ap (λ (w : Bytes). w ++ y) parts') in
      let names = name_same label label' ((front ++ back) ++ x) ((front' ++ back') ++ y) m m' named named' tails in
      let one = spelling_same c d front front' (back ++ x) (back' ++ y) is is' (in_a_row front back front' back' x y names.rest) in
      let others = members_same ms ns back back' x y (omega (arith, n)) are are' one.rest in
      record {
        value = ap (λ (k : Bytes). member k c ms) names.value ∙ ap (λ (f : Data). member m' f ms) one.value ∙ ap (member m' d) others.value;
        word = parts ∙ both label (front ++ back) label' (front' ++ back') names.word (both front back front' back' one.word others.word) ∙ sym parts';
        rest = others.rest;
      }
