-- What stands behind what stood there, part by part.
use Rattle.std.proofs.Common.{◌≡◌, ℕ, zero, suc, ◌<◌, ◌+◌, [], ◌∷◌, ◌++◌, length, take, take_all, get_or, Result, Ok, refl, sym, ap, subst, ◌∙◌, append_assoc, append-nil, add-one, arith}
use Rattle.std.proofs.lemmas.Result.{on_ok_weaker}
use Rattle.uq_value.specs.Data.{Bytes, Data, Datas, Pairs, null, items_of, members_of, list, object, names_of, IsDistinct}
use Rattle.uq_value.specs.Plain.{plain}
use Rattle.uq_value.specs.declared.value.Value.{Value}
use Rattle.uq_codec.specs.Varint.{IsVarint}
use Rattle.uq_codec.specs.Stored.{IsName, Encodes, EncodesItems, EncodesMembers}
use Rattle.uq_codec.specs.Internal.Writing.{Writes, EncodesItemAt, EncodesMember, EncodesMemberAt}
use Rattle.uq_value.specs.Laws.Levels.{list_of-items_of, pairs_of-members_of}
use Rattle.uq_value.specs.Laws.Parts.{MemberAt}

-- ---- part by part

-- the kind, the count, and so many items or members
pub record HasItems (old out : Bytes) (at : ℕ) (ds : Datas) : Type 0 where
  pub count : Bytes
  pub body : Bytes
  pub parts : out ≡ old ++ 5 ∷ (count ++ body)
  pub is_count : IsVarint count (length ds)
  pub spells : EncodesItems body (items_of (take at ds))

pub record HasMembers (old out : Bytes) (at : ℕ) (ms : Pairs) : Type 0 where
  pub count : Bytes
  pub body : Bytes
  pub parts : out ≡ old ++ 6 ∷ (count ++ body)
  pub is_count : IsVarint count (length ms)
  pub spells : EncodesMembers body (members_of (take at ms))

-- one word more
longer : (kind : ℕ) (old out now count body word : Bytes) → out ≡ old ++ kind ∷ (count ++ body) → now ≡ out ++ word → now ≡ old ++ kind ∷ (count ++ (body ++ word))
longer kind old out now count body word parts more =
    more ∙ ap (λ (w : Bytes). w ++ word) parts ∙ append_assoc old (kind ∷ (count ++ body)) word ∙ ap (λ (w : Bytes). old ++ kind ∷ w) (append_assoc count body word)

item_more : (ds : Datas) (at : ℕ) (body word : Bytes) → at < length ds → EncodesItems body (items_of (take at ds)) → Encodes word (get_or ds at null) → EncodesItems (body ++ word) (items_of (take (suc at) ds))
item_more [] at body word h so_far is = absurd (omega (arith, h))
item_more (d ∷ ds) zero body word h so_far is = (word, [], ap (λ (w : Bytes). w ++ word) so_far ∙ sym (append-nil word), is, refl)
item_more (d ∷ ds) (suc at) body word h (front, back, parts, first, others) is =
    (front, back ++ word, ap (λ (w : Bytes). w ++ word) parts ∙ append_assoc front back word, first, item_more ds at back word (omega (arith, h)) others is)

pub item_written : {E : Type 0} (old out now : Bytes) (at : ℕ) (ds : Datas) → at < length ds → HasItems old out at ds → Writes {E = E} (EncodesItemAt ds at) out now (Ok tt) → HasItems old now (at + 1) ds
item_written old out now at ds h so_far one = record {
  count = so_far.count;
  body = so_far.body ++ one.word;
  parts = longer 5 old out now so_far.count so_far.body one.word so_far.parts one.parts;
  is_count = so_far.is_count;
  spells = subst (λ (k : ℕ). EncodesItems (so_far.body ++ one.word) (items_of (take k ds))) (sym (add-one at)) (item_more ds at so_far.body one.word h so_far.spells one.is_whole);
}

pub list_written : {E : Type 0} (old out : Bytes) (at : ℕ) (ds : Datas) → at ≡ length ds → HasItems old out at ds → Writes {E = E} (λ word. Encodes word (list ds)) old out (Ok tt)
list_written old out at ds e all = record {
  word = 5 ∷ (all.count ++ all.body);
  parts = all.parts;
  is_whole = (
    all.count,
    all.body,
    refl,
    subst (λ (es : Datas). IsVarint all.count (length es)) (sym (list_of-items_of ds)) all.is_count,
    subst (λ (es : Datas). EncodesItems all.body (items_of es)) (take_all at ds (omega (arith, e))) all.spells,
  );
}

member_more : (ms : Pairs) (at : ℕ) (body word : Bytes) → at < length ms → EncodesMembers body (members_of (take at ms)) → EncodesMember (get_or ms at ([], null)) word → EncodesMembers (body ++ word) (members_of (take (suc at) ms))
member_more [] at body word h so_far is = absurd (omega (arith, h))
member_more (m ∷ ms) zero body word h so_far is =
    (is.label, is.front, [], ap (λ (w : Bytes). w ++ word) so_far ∙ is.parts ∙ ap (λ (w : Bytes). is.label ++ w) (sym (append-nil is.front)), is.is_name, is.is_value, refl)
member_more (m ∷ ms) (suc at) body word h (label, front, back, parts, name, first, others) is = (
  label,
  front,
  back ++ word,
  ap (λ (w : Bytes). w ++ word) parts ∙ append_assoc label (front ++ back) word ∙ ap (λ (w : Bytes). label ++ w) (append_assoc front back word),
  name,
  first,
  member_more ms at back word (omega (arith, h)) others is,
)

pub member_written : {E : Type 0} (old out now : Bytes) (at : ℕ) (ms : Pairs) → at < length ms → HasMembers old out at ms → Writes {E = E} (EncodesMemberAt ms at) out now (Ok tt) → HasMembers old now (at + 1) ms
member_written old out now at ms h so_far one = record {
  count = so_far.count;
  body = so_far.body ++ one.word;
  parts = longer 6 old out now so_far.count so_far.body one.word so_far.parts one.parts;
  is_count = so_far.is_count;
  spells = subst (λ (k : ℕ). EncodesMembers (so_far.body ++ one.word) (members_of (take k ms))) (sym (add-one at)) (member_more ms at so_far.body one.word h so_far.spells one.is_whole);
}

pub object_written : {E : Type 0} (old out : Bytes) (at : ℕ) (ms : Pairs) → at ≡ length ms → IsDistinct (names_of ms) → HasMembers old out at ms → Writes {E = E} (λ word. Encodes word (object ms)) old out (Ok tt)
object_written old out at ms e distinct all = record {
  word = 6 ∷ (all.count ++ all.body);
  parts = all.parts;
  is_whole = (
    all.count,
    all.body,
    refl,
    subst (λ (ns : Pairs). IsVarint all.count (length ns)) (sym (pairs_of-members_of ms)) all.is_count,
    subst (λ (ns : Pairs). EncodesMembers all.body (members_of ns)) (take_all at ms (omega (arith, e))) all.spells,
    subst (λ (ns : Pairs). IsDistinct (names_of ns)) (sym (pairs_of-members_of ms)) distinct,
  );
}

-- a name, and its value behind it
pub named_written : {E : Type 0} (name : Bytes) (v : Value) (ms : Pairs) (at : ℕ) (old out now : Bytes) (result : Result (Unit {0}) E) → MemberAt ms at name v
    → Writes {E = E} (λ word. IsName word name) old out (Ok tt) → Writes {E = E} (λ word. Encodes word (plain v)) out now result → Writes {E = E} (EncodesMemberAt ms at) old now result
named_written name v ms at old out now result there label one = record {
  word = label.word ++ one.word;
  parts = one.parts ∙ ap (λ (w : Bytes). w ++ one.word) label.parts ∙ append_assoc old label.word one.word;
  is_whole = on_ok_weaker result
      (λ is. subst (λ (m : Bytes × Data). EncodesMember m (label.word ++ one.word)) (sym there.is) (record { label = label.word; front = one.word; parts = refl; is_name = label.is_whole; is_value = is }))
      one.is_whole;
}
