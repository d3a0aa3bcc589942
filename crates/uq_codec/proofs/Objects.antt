-- Reading objects.
use Rattle.std.proofs.Common.{◌≡◌, ℕ, suc, ◌<◌, ◌≤◌, Bool, true, false, ◌||◌, List, [], ◌∷◌, ◌++◌, length, Ok, Err, refl, sym, ap, subst, ◌∙◌, append_assoc, append-nil, length-append, arith}
use Rattle.std.specs.Str.{bytes_eq}
use Rattle.std.proofs.lemmas.Slice.Eq.{bytes_eq-Decides}
use Rattle.uq_value.specs.Data.{Bytes, Data, Pairs, Members, no_members, member, mapping, members_of, pairs_of, object, is_among, names_of, IsDistinct}
use Rattle.uq_value.specs.Size.{data_size, members_size, most_size}
use Rattle.uq_value.specs.Depth.{data_depth, members_depth, most_depth}
use Rattle.uq_value.specs.Plain.{plain}
use Rattle.uq_value.specs.Put.{with_member, limited}
use Rattle.uq_value.specs.Places.{place_of}
use Rattle.uq_value.specs.Faults.{Refuses}
use Rattle.uq_value.specs.declared.value.Value.{Value}
use Rattle.uq_value.specs.declared.error.ValueFault.{ValueFault}
use Rattle.uq_codec.specs.Varint.{IsVarint}
use Rattle.uq_codec.specs.Stored.{IsName, IsMember, Encodes, EncodesMembers}
use Rattle.uq_codec.specs.Internal.Reading.{Front, NoFront, Fits, Passes, ReadsValue, ReadsMember, ReadsMembers}
use Rattle.uq_codec.specs.declared.error.CodecFault.{CodecFault}
use Rattle.uq_codec.specs.declared.error.CodecFault.TheVariants as fault
use Rattle.uq_codec.proofs.Determined.{name_same, spelling_same, members_same, in_a_row}
use Rattle.uq_value.specs.Laws.Levels.{pairs_of-members_of}
use Rattle.uq_value.specs.Laws.Growth.{members-depth-push}
use Rattle.uq_value.specs.Laws.Limits.{Allowed, limited-ok, fits-refused}
use Rattle.uq_value.specs.Laws.Named.{Place, place, there, nowhere, length-names_of, with_member-last}
use Rattle.uq_codec.proofs.Decoded.{two_fronts, as_object, behind_count, members_few}
use Rattle.uq_codec.proofs.Lists.{passes_memory}

-- ---- a member

pub no_name : (room : ℕ) (bytes : Bytes) → ((name : Bytes) → length name ≤ most_size → NoFront (λ word. IsName word name) bytes)
    → (name : Bytes) (d : Data) → length name ≤ most_size → Fits room d → NoFront (λ word. IsMember word name d) bytes
no_name room bytes none name d short fits rest f =
    let m = f.is_word in
    none name short (m.front ++ rest) (record { word = m.label; parts = f.parts ∙ ap (λ (w : Bytes). w ++ rest) m.parts ∙ append_assoc m.label m.front rest; is_word = m.is_name })

pub member_fails : (room : ℕ) (bytes name after : Bytes) (e : CodecFault) → Front (λ word. IsName word name) bytes after → ReadsValue room after (Err e) → ReadsMember room bytes (Err e)
member_fails room bytes name after fault.Memory f none = tt
member_fails room bytes name after fault.NotCanonical f none = λ name' d short fits rest g.
    let m = g.is_word in
    let words : f.word ++ after ≡ m.label ++ (m.front ++ rest) = sym f.parts ∙ g.parts ∙ ap (λ (w : Bytes). w ++ rest) m.parts ∙ append_assoc m.label m.front rest in
    let same = name_same f.word m.label after (m.front ++ rest) name name' f.is_word m.is_name words in
    none d fits rest (record { word = m.front; parts = same.rest; is_word = m.is_value })

pub member_found : (room : ℕ) (bytes name after rest : Bytes) (v : Value) → Front (λ word. IsName word name) bytes after → Front (λ word. Encodes word (plain v)) after rest × (data_depth (plain v) ≤ room)
    → Front (λ word. IsMember word name (plain v)) bytes rest × (data_depth (plain v) ≤ room)
member_found room bytes name after rest v f (g, shallow) = (
  record {
    word = f.word ++ g.word;
    parts = f.parts ∙ ap (λ (w : Bytes). f.word ++ w) g.parts ∙ sym (append_assoc f.word g.word rest);
    is_word = record { label = f.word; front = g.word; parts = refl; is_name = f.is_word; is_value = g.is_word };
  },
  shallow,
)

record SameMember (m n : Bytes) (c d : Data) (x y : Bytes) : Type 0 where
  name : m ≡ n
  value : c ≡ d
  rest : x ≡ y

member_same : (bytes x y : Bytes) (m n : Bytes) (c d : Data) → Front (λ word. IsMember word m c) bytes x → Front (λ word. IsMember word n d) bytes y → SameMember m n c d x y
member_same bytes x y m n c d f g =
    let one = f.is_word in
    let other = g.is_word in
    let words : one.label ++ (one.front ++ x) ≡ other.label ++ (other.front ++ y) =
    sym (append_assoc one.label one.front x) ∙ ap (λ (w : Bytes). w ++ x) (sym one.parts) ∙ two_fronts bytes x y f g ∙ ap (λ (w : Bytes). w ++ y) other.parts ∙ append_assoc other.label other.front y in
    let names = name_same one.label other.label (one.front ++ x) (other.front ++ y) m n one.is_name other.is_name words in
    let values = spelling_same c d one.front other.front x y one.is_value other.is_value names.rest in
    record { name = names.value; value = values.value; rest = values.rest }

-- ---- names

none_of : (a b : Bool) → a ≡ false → b ≡ false → (a || b) ≡ false
none_of false b p q = q
none_of true b p q = absurd (cc)

-- ---- members

-- the first members of an object are read
pub record MembersSoFar (room n : ℕ) (done : Pairs) (bytes rest : Bytes) : Type 0 where
  pub front : Front (λ word. EncodesMembers word (members_of done)) bytes rest
  pub count : length done ≡ n
  pub distinct : IsDistinct (names_of done)
  pub shallow : data_depth (object done) ≤ room

pub no_members_yet : (room : ℕ) (done : Pairs) (bytes : Bytes) → done ≡ [] → MembersSoFar (suc room) 0 done bytes bytes
no_members_yet room done bytes e = subst (λ (ms : Pairs). MembersSoFar (suc room) 0 ms bytes bytes) (sym e)
    (record { front = record { word = []; parts = refl; is_word = refl }; count = refl; distinct = tt; shallow = omega arith })

encodes_more : (ms : Pairs) (n : Bytes) (d : Data) (a b : Bytes) → EncodesMembers a (members_of ms) → IsMember b n d → EncodesMembers (a ++ b) (members_of (ms ++ (n, d) ∷ []))
encodes_more [] n d a b p m =
    (m.label, m.front, [], ap (λ (w : Bytes). w ++ b) p ∙ m.parts ∙ ap (λ (w : Bytes). m.label ++ w) (sym (append-nil m.front)), m.is_name, m.is_value, refl)
encodes_more (e ∷ ms) n d a b (label, front, back, parts, named, is, are) m = (
  label,
  front,
  back ++ b,
  ap (λ (w : Bytes). w ++ b) parts ∙ append_assoc label (front ++ back) b ∙ ap (λ (w : Bytes). label ++ w) (append_assoc front back b),
  named,
  is,
  encodes_more ms n d back b are m,
)

-- the next member of an object that begins so
record NextMember (done : Pairs) (ms : Members) (rest : Bytes) : Type 0 where
  name : Bytes
  one : Data
  behind : Bytes
  here : Front (λ word. IsMember word name one) rest behind
  short : length name ≤ members_size ms
  shallow : data_depth one ≤ members_depth ms
  small : data_size one ≤ members_size ms
  among : is_among name (names_of (pairs_of ms)) ≡ true
  fresh : IsDistinct (names_of (pairs_of ms)) → is_among name (names_of done) ≡ false

same_name : (n : Bytes) → bytes_eq n n ≡ true
same_name n = (bytes_eq-Decides n n).1 refl

either : (a b : Bool) → b ≡ true → (a || b) ≡ true
either true b e = refl
either false b e = e

one_true : (a b : Bool) → a ≡ true → (a || b) ≡ true
one_true true b e = refl
one_true false b e = absurd (cc)

-- a name that is among some is not another one that isn't
apart : (m n : Bytes) (ns : List Bytes) → is_among n ns ≡ true → is_among m ns ≡ false → bytes_eq m n ≡ false
apart m n ns p q = by (bytes_eq m n) refl
  where
    by : (b : Bool) → bytes_eq m n ≡ b → b ≡ false
    by false e = refl
    by true e = let same : m ≡ n = (bytes_eq-Decides m n).0 e in let also : is_among m ns ≡ true = ap (λ (k : Bytes). is_among k ns) same ∙ p in absurd (cc)

next_member : (done : Pairs) (ms : Members) (a b rest rest' : Bytes) → EncodesMembers a (members_of done) → EncodesMembers b ms → a ++ rest ≡ b ++ rest' → length done < length (pairs_of ms) → NextMember done ms rest
next_member done no_members a b rest rest' p q e h = absurd (omega (arith, h))
next_member [] (member n d ms) a b rest rest' p (label, front, back, parts, named, is, are) e h =
    record {
      name = n;
      one = d;
      behind = back ++ rest';
      here = record {
        word = label ++ front;
        parts = ap (λ (w : Bytes). w ++ rest) (sym p) ∙ e ∙ ap (λ (w : Bytes). w ++ rest') parts ∙ append_assoc label (front ++ back) rest' ∙ ap (λ (w : Bytes). label ++ w) (append_assoc front back rest') ∙ sym (append_assoc label front (back ++ rest'));
        is_word = record { label = label; front = front; parts = refl; is_name = named; is_value = is };
      };
      short = omega arith;
      shallow = omega arith;
      small = omega arith;
      among = one_true (bytes_eq n n) (is_among n (names_of (pairs_of ms))) (same_name n);
      fresh = λ distinct. refl;
    }
next_member (c ∷ cs) (member n d ms) a b rest rest' (label, front, back, parts, named, is, are) (label', front', back', parts', named', is', are') e h =
    let tails = in_a_row label (front ++ back) label' (front' ++ back') rest rest' (ap (λ (w : Bytes). w ++ rest) (sym parts) ∙ e ∙ ap (λ (w : Bytes). w ++ rest') parts') in
    let names = name_same label label' ((front ++ back) ++ rest) ((front' ++ back') ++ rest') c.0 n named named' tails in
    let one = spelling_same c.1 d front front' (back ++ rest) (back' ++ rest') is is' (in_a_row front back front' back' rest rest' names.rest) in
    let more = next_member cs ms back back' rest rest' are are' one.rest (omega (arith, h)) in
    record {
      name = more.name;
      one = more.one;
      behind = more.behind;
      here = more.here;
      short = omega (arith, more.short);
      shallow = omega (arith, more.shallow);
      small = omega (arith, more.small);
      among = either (bytes_eq n more.name) (is_among more.name (names_of (pairs_of ms))) more.among;
      fresh = λ distinct. none_of (bytes_eq c.0 more.name) (is_among more.name (names_of cs))
          (ap (λ (k : Bytes). bytes_eq k more.name) names.value ∙ apart n more.name (names_of (pairs_of ms)) more.among distinct.0) (more.fresh distinct.1);
    }

the_next_member : (room n : ℕ) (done : Pairs) (ms : Members) (bytes rest rest' : Bytes) → MembersSoFar room n done bytes rest → Front (λ word. EncodesMembers word ms) bytes rest' → n < length (pairs_of ms) → NextMember done ms rest
the_next_member room n done ms bytes rest rest' s f h =
    next_member done ms s.front.word f.word rest rest' s.front.is_word f.is_word (two_fronts bytes rest rest' s.front f) (omega (arith, h, s.count))

pub members_fail : (room n count : ℕ) (done : Pairs) (bytes rest : Bytes) (e : CodecFault) → MembersSoFar (suc room) n done bytes rest → n < count → ReadsMember room rest (Err e) → ReadsMembers (suc room) count bytes (Err e)
members_fail room n count done bytes rest fault.Memory s h none = tt
members_fail room n count done bytes rest fault.NotCanonical s h none = λ ms long distinct fits rest' f.
    let next = the_next_member (suc room) n done ms bytes rest rest' s f (omega (arith, h, long)) in
    none next.name next.one (omega (arith, next.short, fits.small)) (record { shallow = omega (arith, next.shallow, fits.shallow); small = omega (arith, next.small, fits.small) }) next.behind next.here

-- whether a name stands already is told by its place
stands : (name : Bytes) (done : Pairs) (n at : ℕ) → length done ≡ n → at ≡ place_of name (names_of done) → at < n → is_among name (names_of done) ≡ true
stands name done n at long is h = by (place name (names_of done))
  where
    by : Place name (names_of done) → is_among name (names_of done) ≡ true
    by (there less among) = among
    by (nowhere last absent) = absurd (omega (arith, long, is, h, last, length-names_of done))

is_new : (name : Bytes) (done : Pairs) (n at : ℕ) → length done ≡ n → at ≡ place_of name (names_of done) → n ≤ at → is_among name (names_of done) ≡ false
is_new name done n at long is h = by (place name (names_of done))
  where
    by : Place name (names_of done) → is_among name (names_of done) ≡ false
    by (there less among) = absurd (omega (arith, long, is, h, less, length-names_of done))
    by (nowhere last absent) = absent

-- a name that stands already
pub repeated : (room n count at : ℕ) (done : Pairs) (name : Bytes) (v : Value) (bytes rest behind : Bytes) → MembersSoFar (suc room) n done bytes rest → n < count
    → Front (λ word. IsMember word name (plain v)) rest behind → at ≡ place_of name (names_of done) → at < n → ReadsMembers (suc room) count bytes (Err fault.NotCanonical)
repeated room n count at done name v bytes rest behind s h f is old = λ ms long distinct fits rest' g.
    let next = the_next_member (suc room) n done ms bytes rest rest' s g (omega (arith, h, long)) in
    let same = member_same rest behind next.behind name next.name (plain v) next.one f next.here in
    let among : is_among name (names_of done) ≡ true = stands name done n at s.count is old in
    let absent : is_among name (names_of done) ≡ false = ap (λ (k : Bytes). is_among k (names_of done)) same.name ∙ next.fresh distinct in
    absurd (cc)

pub one_member_more : (room n at : ℕ) (done now : Pairs) (name : Bytes) (v : Value) (bytes rest behind : Bytes) → MembersSoFar (suc room) n done bytes rest
    → Front (λ word. IsMember word name (plain v)) rest behind → data_depth (plain v) ≤ room → at ≡ place_of name (names_of done) → n ≤ at → now ≡ with_member name (plain v) done → IsDistinct (names_of now)
    → MembersSoFar (suc room) (suc n) now bytes behind
one_member_more room n at done now name v bytes rest behind s f h is new set distinct =
    let last : now ≡ done ++ (name, plain v) ∷ [] = set ∙ with_member-last name (plain v) done (is_new name done n at s.count is new) in
    subst (λ (ms : Pairs). MembersSoFar (suc room) (suc n) ms bytes behind) (sym last) (
    record {
      front = record {
        word = s.front.word ++ f.word;
        parts = s.front.parts ∙ ap (λ (w : Bytes). s.front.word ++ w) f.parts ∙ sym (append_assoc s.front.word f.word behind);
        is_word = encodes_more done name (plain v) s.front.word f.word s.front.is_word f.is_word;
      };
      count = omega (arith, s.count, length-append done ((name, plain v) ∷ []));
      distinct = subst (λ (ms : Pairs). IsDistinct (names_of ms)) last distinct;
      shallow = let deep = members-depth-push done name (plain v) in omega (arith, deep, s.shallow, h);
    })

pub members_found : (room count : ℕ) (done : Pairs) (bytes rest : Bytes) → MembersSoFar (suc room) count done bytes rest
    → Front (λ word. EncodesMembers word (members_of done)) bytes rest × (length done ≡ count) × IsDistinct (names_of done) × (data_depth (object done) ≤ suc room)
members_found room count done bytes rest s = (s.front, s.count, s.distinct, s.shallow)

-- ---- objects

pub no_object : (bytes : Bytes) → ((n : ℕ) → n ≤ most_size → NoFront (λ word. IsVarint word n) bytes) → (room : ℕ) (d : Data) → Fits room d → NoFront (λ word. Encodes word d) (6 ∷ bytes)
no_object bytes none room d fits rest f =
    let o = as_object bytes rest d f in
    none (length (pairs_of o.members)) (members_few room o.members (subst (Fits room) o.is fits)) (o.counted.body ++ rest) o.counted.count

pub no_object_so_flat : (bytes : Bytes) (room : ℕ) → room ≡ 0 → (d : Data) → Fits room d → NoFront (λ word. Encodes word d) (6 ∷ bytes)
no_object_so_flat bytes room e d fits rest f =
    let o = as_object bytes rest d f in
    let deep : data_depth d ≡ data_depth (mapping o.members) = ap data_depth o.is in
    omega (arith, e, deep, fits.shallow)

pub object_fails : (room inner n : ℕ) (bytes after : Bytes) (e : CodecFault) → room ≡ suc inner → Front (λ word. IsVarint word n) bytes after → ReadsMembers (suc inner) n after (Err e) → ReadsValue room (6 ∷ bytes) (Err e)
object_fails room inner n bytes after fault.Memory r count none = tt
object_fails room inner n bytes after fault.NotCanonical r count none = λ d fits rest f.
    let o = as_object bytes rest d f in
    let behind = behind_count (length (pairs_of o.members)) n bytes after rest count o.counted in
    none o.members (sym behind.0) o.distinct (subst (Fits (suc inner)) o.is (subst (λ (k : ℕ). Fits k d) r fits)) rest behind.1

object_data : (ms ns : Pairs) → Value.Object ms ≡ Value.Object ns → ms ≡ ns
object_data ms ns e = cc

-- the members that a builder holds
abbrev pub Held : ℕ → ℕ → Bytes → Bytes → Pairs → Type 0
Held room count bytes rest ms = Front (λ word. EncodesMembers word (members_of ms)) bytes rest × (length ms ≡ count) × IsDistinct (names_of ms) × (data_depth (object ms) ≤ room)

pub object_found : (room inner n : ℕ) (bytes after rest : Bytes) (ms o : Pairs) → room ≡ suc inner → Front (λ word. IsVarint word n) bytes after
    → Held (suc inner) n after rest ms → limited (Value.Object ms) ≡ Ok (Value.Object o)
    → Front (λ word. Encodes word (object o)) (6 ∷ bytes) rest × (data_depth (object o) ≤ room)
object_found room inner n bytes after rest ms o r count (body, long, distinct, shallow) finished =
    let allowed : Allowed (Value.Object ms) (Value.Object o) = limited-ok (Value.Object ms) (Value.Object o) finished in
    let same : ms ≡ o = object_data ms o allowed.same in
    let counted : n ≡ length (pairs_of (members_of ms)) = sym (ap length (pairs_of-members_of ms) ∙ long) in
    subst (λ (ns : Pairs). Front (λ word. Encodes word (object ns)) (6 ∷ bytes) rest × (data_depth (object ns) ≤ room)) same (
      record {
        word = 6 ∷ (count.word ++ body.word);
        parts = ap (λ (w : Bytes). 6 ∷ w) (count.parts ∙ ap (λ (w : Bytes). count.word ++ w) body.parts ∙ sym (append_assoc count.word body.word rest));
        is_word = (count.word, body.word, refl, subst (λ (m : ℕ). IsVarint count.word m) counted count.is_word, body.is_word, subst (λ (ns : Pairs). IsDistinct (names_of ns)) (sym (pairs_of-members_of ms)) distinct);
      },
      omega (arith, r, shallow),
    )

object_large : (room inner n : ℕ) (bytes after rest : Bytes) (ms : Pairs) (e : ValueFault) (out : CodecFault) → room ≤ most_depth → room ≡ suc inner → Front (λ word. IsVarint word n) bytes after
    → Held (suc inner) n after rest ms → Refuses (limited (Value.Object ms)) e → Passes e out → out ≡ fault.NotCanonical
    → (d : Data) → Fits room d → NoFront (λ word. Encodes word d) (6 ∷ bytes)
object_large room inner n bytes after rest ms e out low r count (body, long, distinct, shallow) refused passes is d fits rest' f =
    let o = as_object bytes rest' d f in
    let behind = behind_count (length (pairs_of o.members)) n bytes after rest' count o.counted in
    let same = members_same (members_of ms) o.members body.word behind.1.word rest rest' (ap length (pairs_of-members_of ms) ∙ long ∙ behind.0) body.is_word behind.1.is_word (two_fronts after rest rest' body behind.1) in
    let size : data_size (object ms) ≡ data_size d = ap (λ (ns : Members). data_size (mapping ns)) same.value ∙ ap data_size (sym o.is) in
    let memory = passes_memory e out (fits-refused (Value.Object ms) e (omega (arith, size, fits.small)) (omega (arith, shallow, r, low)) refused) passes in
    let clash : fault.NotCanonical ≡ fault.Memory = sym is ∙ memory in absurd (cc)

pub object_refused : (room inner n : ℕ) (bytes after rest : Bytes) (ms : Pairs) (e : ValueFault) (out : CodecFault) → room ≤ most_depth → room ≡ suc inner → Front (λ word. IsVarint word n) bytes after
    → Held (suc inner) n after rest ms → Refuses (limited (Value.Object ms)) e → Passes e out → ReadsValue room (6 ∷ bytes) (Err out)
object_refused room inner n bytes after rest ms e fault.Memory low r count held refused passes = tt
object_refused room inner n bytes after rest ms e fault.NotCanonical low r count held refused passes = object_large room inner n bytes after rest ms e fault.NotCanonical low r count held refused passes refl
