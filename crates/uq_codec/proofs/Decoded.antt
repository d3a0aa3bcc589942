-- What the reader finds at the front of some bytes, and why nothing else is there.
use Rattle.std.proofs.Common.{◌≡◌, ℕ, suc, get_or, take, drop, ◌-◌, ◌<◌, ◌≤◌, ◌+◌, true, false, ℤ, [], ◌∷◌, ◌++◌, length, Result, refl, sym, ap, subst, ◌∙◌, append_assoc, append-nil, length-append, arith}
use Rattle.std.proofs.Math.Seq.{take-length}
use Rattle.uq_value.specs.Data.{Bytes, Data, Datas, Pairs, Items, no_items, item, Members, no_members, member, null, bool, int, text, sequence, mapping, items_of, list_of, members_of, pairs_of, list, object}
use Rattle.uq_value.specs.Size.{data_size, items_size, most_size}
use Rattle.uq_value.specs.Depth.{data_depth, items_depth}
use Rattle.uq_codec.specs.Varint.{IsVarint}
use Rattle.uq_codec.specs.Stored.{IsWhole, IsName, Encodes, EncodesItems, EncodesMembers}
use Rattle.std.specs.Borrow.{Bor}
use Rattle.uq_value.specs.declared.value.Value.{Value}
use Rattle.uq_codec.specs.Internal.Reading.{Front, NoFront, Fits, ReadsValue}
use Rattle.uq_codec.specs.declared.error.CodecFault.{CodecFault}
use Rattle.uq_codec.proofs.Determined.{kind, Begins, begins, varint_same, whole_long, spelling_same}
use Rattle.uq_value.specs.Laws.Levels.{list_of-items_of}
use Rattle.uq_value.specs.Laws.Growth.{items_count, members_count, leb_size-mono}

-- two fronts, each with what stands behind it
pub two_fronts : {P Q : Bytes → Type 0} (bytes rest rest' : Bytes) (f : Front P bytes rest) (g : Front Q bytes rest') → f.word ++ rest ≡ g.word ++ rest'
two_fronts bytes rest rest' f g = sym f.parts ∙ g.parts

-- ---- kinds

pub front_kind : (k : ℕ) (bytes rest : Bytes) (d : Data) → Front (λ word. Encodes word d) (k ∷ bytes) rest → kind d ≡ k
front_kind k bytes rest d f = by (begins d f.word f.is_word)
  where
    by : Begins f.word (kind d) → kind d ≡ k
    by b = let same : k ∷ bytes ≡ kind d ∷ (b.tail ++ rest) = f.parts ∙ ap (λ (w : Bytes). w ++ rest) b.parts in cc

kind_small : (d : Data) → kind d ≤ 6
kind_small null = omega arith
kind_small (bool false) = omega arith
kind_small (bool true) = omega arith
kind_small (int z) = omega arith
kind_small (text bs) = omega arith
kind_small (sequence ds) = omega arith
kind_small (mapping ms) = omega arith

no_kind : (byte : ℕ) (bytes : Bytes) → 6 < byte → (d : Data) → NoFront (λ word. Encodes word d) (byte ∷ bytes)
no_kind byte bytes h d rest f = omega (arith, h, front_kind byte bytes rest d f, kind_small d)

no_bytes : (d : Data) → NoFront (λ word. Encodes word d) []
no_bytes d rest f = by (begins d f.word f.is_word)
  where
    by : Begins f.word (kind d) → ⊥
    by b = let same : [] ≡ kind d ∷ (b.tail ++ rest) = f.parts ∙ ap (λ (w : Bytes). w ++ rest) b.parts in cc

pub no_bytes_at : (bytes : Bytes) → length bytes < 1 → (d : Data) → NoFront (λ word. Encodes word d) bytes
no_bytes_at [] h d = no_bytes d
no_bytes_at (byte ∷ bytes) h d = absurd (omega (arith, h))

pub no_kind_at : (bytes : Bytes) → 1 ≤ length bytes → 6 < get_or bytes 0 0 → (d : Data) → NoFront (λ word. Encodes word d) bytes
no_kind_at [] h k d = absurd (omega (arith, h))
no_kind_at (byte ∷ bytes) h k d = no_kind byte bytes k d

pub at_kind : (room kind : ℕ) (bytes : Bytes) (result : Result (Value × Bor Bytes) CodecFault) → 1 ≤ length bytes → get_or bytes 0 0 ≡ kind → ReadsValue room (kind ∷ take (length bytes - 1) (drop 1 bytes)) result
    → ReadsValue room bytes result
at_kind room kind [] result h is reads = absurd (omega (arith, h))
at_kind room kind (byte ∷ bytes) result h is reads =
    let less : length (byte ∷ bytes) - 1 ≡ length bytes = omega arith in
    let rest : take (length (byte ∷ bytes) - 1) bytes ≡ bytes = ap (λ (n : ℕ). take n bytes) less ∙ take-length bytes in
    subst (λ (w : Bytes). ReadsValue room w result) (ap (λ (k : ℕ). k ∷ take (length (byte ∷ bytes) - 1) bytes) (sym is) ∙ ap (λ (w : Bytes). byte ∷ w) rest) reads

-- what a spelling of this kind has behind its byte
behind_kind : (k : ℕ) (bytes word tail rest : Bytes) → k ∷ bytes ≡ word ++ rest → word ≡ k ∷ tail → bytes ≡ tail ++ rest
behind_kind k bytes word tail rest p q = let same : k ∷ bytes ≡ k ∷ (tail ++ rest) = p ∙ ap (λ (w : Bytes). w ++ rest) q in cc

pub record WholeFront (bytes rest : Bytes) (d : Data) : Type 0 where
  pub number : ℤ
  pub is : d ≡ int number
  pub front : Front (λ word. IsWhole word number) bytes rest

pub as_whole : (bytes rest : Bytes) (d : Data) → Front (λ word. Encodes word d) (3 ∷ bytes) rest → WholeFront bytes rest d
as_whole bytes rest null f = absurd (omega (arith, front_kind 3 bytes rest null f))
as_whole bytes rest (bool false) f = absurd (omega (arith, front_kind 3 bytes rest (bool false) f))
as_whole bytes rest (bool true) f = absurd (omega (arith, front_kind 3 bytes rest (bool true) f))
as_whole bytes rest (text bs) f = absurd (omega (arith, front_kind 3 bytes rest (text bs) f))
as_whole bytes rest (sequence ds) f = absurd (omega (arith, front_kind 3 bytes rest (sequence ds) f))
as_whole bytes rest (mapping ms) f = absurd (omega (arith, front_kind 3 bytes rest (mapping ms) f))
as_whole bytes rest (int z) f = by f.is_word
  where
    by : Encodes f.word (int z) → WholeFront bytes rest (int z)
    by (number, parts, is) = record { number = z; is = refl; front = record { word = number; parts = behind_kind 3 bytes f.word number rest f.parts parts; is_word = is } }

pub record TextFront (bytes rest : Bytes) (d : Data) : Type 0 where
  pub text_bytes : Bytes
  pub is : d ≡ text text_bytes
  pub front : Front (λ word. IsName word text_bytes) bytes rest

pub as_text : (bytes rest : Bytes) (d : Data) → Front (λ word. Encodes word d) (4 ∷ bytes) rest → TextFront bytes rest d
as_text bytes rest null f = absurd (omega (arith, front_kind 4 bytes rest null f))
as_text bytes rest (bool false) f = absurd (omega (arith, front_kind 4 bytes rest (bool false) f))
as_text bytes rest (bool true) f = absurd (omega (arith, front_kind 4 bytes rest (bool true) f))
as_text bytes rest (int z) f = absurd (omega (arith, front_kind 4 bytes rest (int z) f))
as_text bytes rest (sequence ds) f = absurd (omega (arith, front_kind 4 bytes rest (sequence ds) f))
as_text bytes rest (mapping ms) f = absurd (omega (arith, front_kind 4 bytes rest (mapping ms) f))
as_text bytes rest (text bs) f = by f.is_word
  where
    by : Encodes f.word (text bs) → TextFront bytes rest (text bs)
    by (name, parts, is) = record { text_bytes = bs; is = refl; front = record { word = name; parts = behind_kind 4 bytes f.word name rest f.parts parts; is_word = is } }

-- a count and what it counts
pub record CountedFront (Body : Bytes → Type 0) (n : ℕ) (bytes rest : Bytes) : Type 0 where
  pub body : Bytes
  pub count : Front (λ word. IsVarint word n) bytes (body ++ rest)
  pub is_body : Body body

counted_front : (Body : Bytes → Type 0) (n k : ℕ) (bytes word count body rest : Bytes) → k ∷ bytes ≡ word ++ rest → word ≡ k ∷ (count ++ body) → IsVarint count n → Body body → CountedFront Body n bytes rest
counted_front Body n k bytes word count body rest p q is are =
    record { body = body; count = record { word = count; parts = behind_kind k bytes word (count ++ body) rest p q ∙ append_assoc count body rest; is_word = is }; is_body = are }

-- what stands behind a count that is known
pub behind_count : {Body : Bytes → Type 0} (n m : ℕ) (bytes after rest : Bytes) → Front (λ word. IsVarint word m) bytes after → (c : CountedFront Body n bytes rest) → (m ≡ n) × Front Body after rest
behind_count n m bytes after rest f c =
    let same = varint_same f.word c.count.word after (c.body ++ rest) m n f.is_word c.count.is_word (two_fronts bytes after (c.body ++ rest) f c.count) in
    (same.value, record { word = c.body; parts = same.rest; is_word = c.is_body })

pub record ListFront (bytes rest : Bytes) (d : Data) : Type 0 where
  pub items : Items
  pub is : d ≡ sequence items
  pub counted : CountedFront (λ body. EncodesItems body items) (length (list_of items)) bytes rest

pub as_list : (bytes rest : Bytes) (d : Data) → Front (λ word. Encodes word d) (5 ∷ bytes) rest → ListFront bytes rest d
as_list bytes rest null f = absurd (omega (arith, front_kind 5 bytes rest null f))
as_list bytes rest (bool false) f = absurd (omega (arith, front_kind 5 bytes rest (bool false) f))
as_list bytes rest (bool true) f = absurd (omega (arith, front_kind 5 bytes rest (bool true) f))
as_list bytes rest (int z) f = absurd (omega (arith, front_kind 5 bytes rest (int z) f))
as_list bytes rest (text bs) f = absurd (omega (arith, front_kind 5 bytes rest (text bs) f))
as_list bytes rest (mapping ms) f = absurd (omega (arith, front_kind 5 bytes rest (mapping ms) f))
as_list bytes rest (sequence ds) f = by f.is_word
  where
    by : Encodes f.word (sequence ds) → ListFront bytes rest (sequence ds)
    by (count, body, parts, is, are) =
        record { items = ds; is = refl; counted = counted_front (λ w. EncodesItems w ds) (length (list_of ds)) 5 bytes f.word count body rest f.parts parts is are }

pub record ObjectFront (bytes rest : Bytes) (d : Data) : Type 0 where
  pub members : Members
  pub is : d ≡ mapping members
  pub counted : CountedFront (λ body. EncodesMembers body members) (length (pairs_of members)) bytes rest
  pub distinct : Rattle.uq_value.specs.Data.IsDistinct (Rattle.uq_value.specs.Data.names_of (pairs_of members))

pub as_object : (bytes rest : Bytes) (d : Data) → Front (λ word. Encodes word d) (6 ∷ bytes) rest → ObjectFront bytes rest d
as_object bytes rest null f = absurd (omega (arith, front_kind 6 bytes rest null f))
as_object bytes rest (bool false) f = absurd (omega (arith, front_kind 6 bytes rest (bool false) f))
as_object bytes rest (bool true) f = absurd (omega (arith, front_kind 6 bytes rest (bool true) f))
as_object bytes rest (int z) f = absurd (omega (arith, front_kind 6 bytes rest (int z) f))
as_object bytes rest (text bs) f = absurd (omega (arith, front_kind 6 bytes rest (text bs) f))
as_object bytes rest (sequence ds) f = absurd (omega (arith, front_kind 6 bytes rest (sequence ds) f))
as_object bytes rest (mapping ms) f = by f.is_word
  where
    by : Encodes f.word (mapping ms) → ObjectFront bytes rest (mapping ms)
    by (count, body, parts, is, are, distinct) =
        record { members = ms; is = refl; counted = counted_front (λ w. EncodesMembers w ms) (length (pairs_of ms)) 6 bytes f.word count body rest f.parts parts is are; distinct = distinct }

-- ---- scalars

pub single : (d : Data) (k : ℕ) (bytes rest : Bytes) → Encodes (k ∷ []) d → bytes ≡ k ∷ rest → Front (λ word. Encodes word d) bytes rest
single d k bytes rest is e = record { word = k ∷ []; parts = e; is_word = is }

pub behind_byte : {P Q : Bytes → Type 0} (k : ℕ) (bytes rest : Bytes) → ((word : Bytes) → P word → Q (k ∷ word)) → Front P bytes rest → Front Q (k ∷ bytes) rest
behind_byte k bytes rest with_byte f = record { word = k ∷ f.word; parts = ap (λ (w : Bytes). k ∷ w) f.parts; is_word = with_byte f.word f.is_word }

-- ---- lists

pub list_bytes : (n : ℕ) (ds : Items) (bytes after rest : Bytes) → n ≡ length (list_of ds) → Front (λ word. IsVarint word n) bytes after → Front (λ word. EncodesItems word ds) after rest → Front (λ word. Encodes word (sequence ds)) (5 ∷ bytes) rest
list_bytes n ds bytes after rest e count body =
    record {
      word = 5 ∷ (count.word ++ body.word);
      parts = ap (λ (w : Bytes). 5 ∷ w) (count.parts ∙ ap (λ (w : Bytes). count.word ++ w) body.parts ∙ sym (append_assoc count.word body.word rest));
      is_word = (count.word, body.word, refl, subst (λ (m : ℕ). IsVarint count.word m) e count.is_word, body.is_word);
    }

-- the first items of a list are read
pub record ItemsSoFar (room n : ℕ) (found : Datas) (bytes rest : Bytes) : Type 0 where
  pub front : Front (λ word. EncodesItems word (items_of found)) bytes rest
  pub count : length found ≡ n
  pub shallow : data_depth (list found) ≤ room

pub no_items_yet : (room : ℕ) (bytes : Bytes) → ItemsSoFar (suc room) 0 [] bytes bytes
no_items_yet room bytes = record { front = record { word = []; parts = refl; is_word = refl }; count = refl; shallow = omega arith }

spells_more : (ds : Datas) (d : Data) (a b : Bytes) → EncodesItems a (items_of ds) → Encodes b d → EncodesItems (a ++ b) (items_of (ds ++ d ∷ []))
spells_more [] d a b p q = (b, [], ap (λ (w : Bytes). w ++ b) p ∙ sym (append-nil b), q, refl)
spells_more (e ∷ ds) d a b (front, back, parts, is, are) q = (front, back ++ b, ap (λ (w : Bytes). w ++ b) parts ∙ append_assoc front back b, is, spells_more ds d back b are q)

deeper : (ds : Datas) (d : Data) (k : ℕ) → items_depth (items_of ds) ≤ k → data_depth d ≤ k → items_depth (items_of (ds ++ d ∷ [])) ≤ k
deeper [] d k p q = omega (arith, q)
deeper (e ∷ ds) d k p q = let others = deeper ds d k (omega (arith, p)) q in omega (arith, others, p)

pub one_item_more : (room n : ℕ) (found : Datas) (d : Data) (bytes rest behind : Bytes) → ItemsSoFar (suc room) n found bytes rest → Front (λ word. Encodes word d) rest behind → data_depth d ≤ room → ItemsSoFar (suc room) (suc n) (found ++ d ∷ []) bytes behind
one_item_more room n found d bytes rest behind so_far f h =
    record {
      front = record {
        word = so_far.front.word ++ f.word;
        parts = so_far.front.parts ∙ ap (λ (w : Bytes). so_far.front.word ++ w) f.parts ∙ sym (append_assoc so_far.front.word f.word behind);
        is_word = spells_more found d so_far.front.word f.word so_far.front.is_word f.is_word;
      };
      count = omega (arith, so_far.count, length-append found (d ∷ []));
      shallow = let deep = deeper found d room (omega (arith, so_far.shallow)) h in omega (arith, deep);
    }

-- the next item of a list that begins so
pub record NextItem (found : Datas) (ds : Items) (rest : Bytes) : Type 0 where
  pub one : Data
  pub behind : Bytes
  pub here : Front (λ word. Encodes word one) rest behind
  pub shallow : data_depth one ≤ items_depth ds
  pub small : items_size (items_of found) + data_size one ≤ items_size ds

next_item : (found : Datas) (ds : Items) (a b rest rest' : Bytes) → EncodesItems a (items_of found) → EncodesItems b ds → a ++ rest ≡ b ++ rest' → length found < length (list_of ds) → NextItem found ds rest
next_item found no_items a b rest rest' p q e h = absurd (omega (arith, h))
next_item [] (item d ds) a b rest rest' p (front, back, parts, is, are) e h =
    record {
      one = d;
      behind = back ++ rest';
      here = record { word = front; parts = ap (λ (w : Bytes). w ++ rest) (sym p) ∙ e ∙ ap (λ (w : Bytes). w ++ rest') parts ∙ append_assoc front back rest'; is_word = is };
      shallow = omega arith;
      small = omega arith;
    }
next_item (c ∷ cs) (item d ds) a b rest rest' (front, back, parts, is, are) (front', back', parts', is', are') e h =
    let words : front ++ (back ++ rest) ≡ front' ++ (back' ++ rest') = sym (append_assoc front back rest) ∙ ap (λ (w : Bytes). w ++ rest) (sym parts) ∙ e ∙ ap (λ (w : Bytes). w ++ rest') parts' ∙ append_assoc front' back' rest' in
    let same = spelling_same c d front front' (back ++ rest) (back' ++ rest') is is' words in
    let more = next_item cs ds back back' rest rest' are are' same.rest (omega (arith, h)) in
    let size : data_size c ≡ data_size d = ap data_size same.value in
    record { one = more.one; behind = more.behind; here = more.here; shallow = omega (arith, more.shallow); small = omega (arith, more.small, size) }

pub the_next_item : (room n : ℕ) (found : Datas) (ds : Items) (bytes rest rest' : Bytes) → ItemsSoFar room n found bytes rest → Front (λ word. EncodesItems word ds) bytes rest' → n < length (list_of ds) → NextItem found ds rest
the_next_item room n found ds bytes rest rest' so_far f h =
    next_item found ds so_far.front.word f.word rest rest' so_far.front.is_word f.is_word (two_fronts bytes rest rest' so_far.front f) (omega (arith, h, so_far.count))

-- where no item is, there are not so many
pub no_item : (room n count : ℕ) (found : Datas) (bytes rest : Bytes) → ItemsSoFar (suc room) n found bytes rest → n < count → ((d : Data) → Fits room d → NoFront (λ word. Encodes word d) rest)
    → (ds : Items) → length (list_of ds) ≡ count → Fits (suc room) (sequence ds) → NoFront (λ word. EncodesItems word ds) bytes
no_item room n count found bytes rest so_far h none ds long fits rest' f =
    let next = the_next_item (suc room) n found ds bytes rest rest' so_far f (omega (arith, h, long)) in
    none next.one (record { shallow = omega (arith, next.shallow, fits.shallow); small = omega (arith, next.small, fits.small) }) next.behind next.here

items_more : (ds : Datas) (d : Data) → items_size (items_of (ds ++ d ∷ [])) ≡ items_size (items_of ds) + data_size d
items_more [] d = omega arith
items_more (e ∷ ds) d = let others = items_more ds d in omega (arith, others)

counted : (ds : Datas) → length (list_of (items_of ds)) ≡ length ds
counted ds = ap length (list_of-items_of ds)

-- where an item makes a list too large, there are not so many
pub too_many : (room n count : ℕ) (found : Datas) (d : Data) (bytes rest behind : Bytes) → ItemsSoFar (suc room) n found bytes rest → n < count → Front (λ word. Encodes word d) rest behind → most_size < data_size (list (found ++ d ∷ []))
    → (ds : Items) → length (list_of ds) ≡ count → Fits (suc room) (sequence ds) → NoFront (λ word. EncodesItems word ds) bytes
too_many room n count found d bytes rest behind so_far h f large ds long fits rest' g =
    let next = the_next_item (suc room) n found ds bytes rest rest' so_far g (omega (arith, h, long)) in
    let same = spelling_same d next.one f.word next.here.word behind next.behind f.is_word next.here.is_word (two_fronts rest behind next.behind f next.here) in
    let size : data_size d ≡ data_size next.one = ap data_size same.value in
    let lebs = leb_size-mono (length (list_of (items_of (found ++ d ∷ [])))) (length (list_of ds)) (omega (arith, counted (found ++ d ∷ []), length-append found (d ∷ []), so_far.count, h, long)) in
    omega (arith, large, items_more found d, size, next.small, lebs, fits.small)

-- a number of items that is no length is none of a list that fits
pub items_few : (room : ℕ) (ds : Items) → Fits room (sequence ds) → length (list_of ds) ≤ most_size
items_few room ds fits = omega (arith, items_count ds, fits.small)

pub members_few : (room : ℕ) (ms : Members) → Fits room (mapping ms) → length (pairs_of ms) ≤ most_size
members_few room ms fits = omega (arith, members_count ms, fits.small)

-- ---- numbers

pub too_short : (bytes : Bytes) (d : Data) (rest : Bytes) → Front (λ word. Encodes word d) (3 ∷ bytes) rest → length bytes < 8 → ⊥
too_short bytes d rest f h =
    let w = as_whole bytes rest d f in
    let long : length bytes ≡ length (w.front.word ++ rest) = ap length w.front.parts in
    omega (arith, h, long, length-append w.front.word rest, whole_long w.front.word w.number w.front.is_word)

pub whole_found : (room : ℕ) (bytes field rest : Bytes) (z : ℤ) → bytes ≡ field ++ rest → IsWhole field z → Front (λ word. Encodes word (int z)) (3 ∷ bytes) rest × (0 ≤ room)
whole_found room bytes field rest z e is = (record { word = 3 ∷ field; parts = ap (λ (w : Bytes). 3 ∷ w) e; is_word = (field, refl, is) }, omega arith)
