-- Reading texts and lists.
use Rattle.std.proofs.Common.{◌≡◌, ℕ, suc, ◌<◌, ◌≤◌, Bool, true, false, ltb, [], ◌∷◌, ◌++◌, length, Err, refl, sym, ap, subst, ◌∙◌, arith}
use Rattle.std.proofs.lemmas.Bool.{ltb-true, ltb-false}
use Rattle.uq_value.specs.Data.{Bytes, Data, Datas, text, sequence, items_of, list_of, list}
use Rattle.uq_value.specs.Size.{data_size, most_size, text_size}
use Rattle.uq_value.specs.Depth.{data_depth, most_depth}
use Rattle.uq_value.specs.Plain.{plain}
use Rattle.uq_value.specs.Put.{limited}
use Rattle.uq_value.specs.Faults.{Refuses, TextFault}
use Rattle.uq_value.specs.declared.value.Value.{Value}
use Rattle.uq_value.specs.declared.error.ValueFault.{ValueFault}
use Rattle.uq_value.specs.declared.error.ValueFault.TheVariants as value
use Rattle.uq_codec.specs.Varint.{IsVarint}
use Rattle.uq_codec.specs.Stored.{IsName, Encodes, EncodesItems}
use Rattle.uq_codec.specs.Internal.Reading.{Front, NoFront, Fits, Passes, ReadsValue, ReadsItems, AddsItem}
use Rattle.uq_codec.specs.declared.error.CodecFault.{CodecFault}
use Rattle.uq_codec.specs.declared.error.CodecFault.TheVariants as fault
use Rattle.uq_codec.proofs.Determined.{name_same}
use Rattle.uq_value.specs.Laws.Levels.{list_of-items_of}
use Rattle.uq_value.specs.Laws.Growth.{items-depth-push}
use Rattle.uq_value.specs.Laws.Limits.{fits-refused}
use Rattle.uq_codec.proofs.Decoded.{two_fronts, behind_byte, as_text, as_list, behind_count, list_bytes, ItemsSoFar, no_item, too_many, items_few}

-- ---- texts

pub no_text : (bytes : Bytes) → ((name : Bytes) → length name ≤ most_size → NoFront (λ word. IsName word name) bytes) → (room : ℕ) (d : Data) → Fits room d → NoFront (λ word. Encodes word d) (4 ∷ bytes)
no_text bytes none room d fits rest f =
    let t = as_text bytes rest d f in
    let large : data_size d ≡ text_size t.text_bytes = ap data_size t.is in
    none t.text_bytes (omega (arith, large, fits.small)) rest t.front

pub text_found : (room : ℕ) (bytes name rest now : Bytes) → Front (λ word. IsName word name) bytes rest → now ≡ name → Front (λ word. Encodes word (text now)) (4 ∷ bytes) rest × (0 ≤ room)
text_found room bytes name rest now f e =
    (behind_byte 4 bytes rest (λ word is. (word, refl, subst (λ (n : Bytes). IsName word n) (sym e) is)) f, omega arith)

text_large : (room : ℕ) (bytes name rest : Bytes) → Front (λ word. IsName word name) bytes rest → most_size < text_size name → (d : Data) → Fits room d → NoFront (λ word. Encodes word d) (4 ∷ bytes)
text_large room bytes name rest f large d fits rest' g =
    let t = as_text bytes rest' d g in
    let same = name_same f.word t.front.word rest rest' name t.text_bytes f.is_word t.front.is_word (two_fronts bytes rest rest' f t.front) in
    let size : data_size d ≡ text_size t.text_bytes = ap data_size t.is in
    let alike : text_size name ≡ text_size t.text_bytes = ap text_size same.value in
    omega (arith, large, size, alike, fits.small)

pub text_refused : (room : ℕ) (bytes name rest : Bytes) (e : ValueFault) (out : CodecFault) → Front (λ word. IsName word name) bytes rest → TextFault name e → Passes e out → ReadsValue room (4 ∷ bytes) (Err out)
text_refused room bytes name rest value.Memory out f why p = subst (λ (o : CodecFault). ReadsValue room (4 ∷ bytes) (Err o)) (sym p) tt
text_refused room bytes name rest value.TooLarge out f why p = subst (λ (o : CodecFault). ReadsValue room (4 ∷ bytes) (Err o)) (sym p) (text_large room bytes name rest f why)
text_refused room bytes name rest value.TooDeep out f why p = absurd why
text_refused room bytes name rest value.NotContainer out f why p = absurd why
text_refused room bytes name rest value.IndexRange out f why p = absurd why

-- ---- the limits

pub passes_memory : (e : ValueFault) (out : CodecFault) → e ≡ value.Memory → Passes e out → out ≡ fault.Memory
passes_memory value.Memory out is p = p
passes_memory value.TooLarge out is p = absurd (cc)
passes_memory value.TooDeep out is p = absurd (cc)
passes_memory value.NotContainer out is p = absurd (cc)
passes_memory value.IndexRange out is p = absurd (cc)

-- ---- lists

pub no_list : (bytes : Bytes) → ((n : ℕ) → n ≤ most_size → NoFront (λ word. IsVarint word n) bytes) → (room : ℕ) (d : Data) → Fits room d → NoFront (λ word. Encodes word d) (5 ∷ bytes)
no_list bytes none room d fits rest f =
    let l = as_list bytes rest d f in
    none (length (list_of l.items)) (items_few room l.items (subst (Fits room) l.is fits)) (l.counted.body ++ rest) l.counted.count

pub no_list_so_flat : (bytes : Bytes) (room : ℕ) → room ≡ 0 → (d : Data) → Fits room d → NoFront (λ word. Encodes word d) (5 ∷ bytes)
no_list_so_flat bytes room e d fits rest f =
    let l = as_list bytes rest d f in
    let deep : data_depth d ≡ data_depth (sequence l.items) = ap data_depth l.is in
    omega (arith, e, deep, fits.shallow)

pub list_fails : (room inner n : ℕ) (bytes after : Bytes) (e : CodecFault) → room ≡ suc inner → Front (λ word. IsVarint word n) bytes after → ReadsItems (suc inner) n after (Err e) → ReadsValue room (5 ∷ bytes) (Err e)
list_fails room inner n bytes after fault.Memory r count none = tt
list_fails room inner n bytes after fault.NotCanonical r count none = λ d fits rest f.
    let l = as_list bytes rest d f in
    let behind = behind_count (length (list_of l.items)) n bytes after rest count l.counted in
    none l.items (sym behind.0) (subst (Fits (suc inner)) l.is (subst (λ (k : ℕ). Fits k d) r fits)) rest behind.1

pub list_found : (room inner n : ℕ) (bytes after rest : Bytes) (ds : Datas) → room ≡ suc inner → Front (λ word. IsVarint word n) bytes after
    → Front (λ word. EncodesItems word (items_of ds)) after rest × (length ds ≡ n) × (data_depth (list ds) ≤ suc inner)
    → Front (λ word. Encodes word (list ds)) (5 ∷ bytes) rest × (data_depth (list ds) ≤ room)
list_found room inner n bytes after rest ds r count (body, long, shallow) =
    (list_bytes n (items_of ds) bytes after rest (sym (ap length (list_of-items_of ds) ∙ long)) count body, omega (arith, r, shallow))

pub items_fails : (room n count : ℕ) (found : Datas) (bytes rest : Bytes) (e : CodecFault) → ItemsSoFar (suc room) n found bytes rest → n < count → ReadsValue room rest (Err e) → ReadsItems (suc room) count bytes (Err e)
items_fails room n count found bytes rest fault.Memory so_far h none = tt
items_fails room n count found bytes rest fault.NotCanonical so_far h none = no_item room n count found bytes rest so_far h none

pub items_full : (room n count : ℕ) (found after : Datas) (d : Data) (bytes rest behind : Bytes) (e : CodecFault) → ItemsSoFar (suc room) n found bytes rest → n < count → Front (λ word. Encodes word d) rest behind → AddsItem found after d (Err e) → ReadsItems (suc room) count bytes (Err e)
items_full room n count found after d bytes rest behind fault.Memory so_far h f large = tt
items_full room n count found after d bytes rest behind fault.NotCanonical so_far h f large = too_many room n count found d bytes rest behind so_far h f large

pub item_refused : (before after : Datas) (v : Value) (e : ValueFault) (out : CodecFault) → data_depth (list before) ≤ most_depth → suc (data_depth (plain v)) ≤ most_depth → Refuses (limited (Value.List (before ++ plain v ∷ []))) e → Passes e out → AddsItem before after (plain v) (Err out)
item_refused before after v e out shallow flat r p = by (ltb most_size (data_size (list (before ++ plain v ∷ [])))) refl
  where
    large : (o : CodecFault) → most_size < data_size (list (before ++ plain v ∷ [])) → AddsItem before after (plain v) (Err o)
    large fault.Memory h = tt
    large fault.NotCanonical h = h

    by : (b : Bool) → ltb most_size (data_size (list (before ++ plain v ∷ []))) ≡ b → AddsItem before after (plain v) (Err out)
    by true t = large out (ltb-true most_size (data_size (list (before ++ plain v ∷ []))) t)
    by false f =
        let small = ltb-false most_size (data_size (list (before ++ plain v ∷ []))) f in
        let deep = items-depth-push before (plain v) in
        let memory = passes_memory e out (fits-refused (Value.List (before ++ plain v ∷ [])) e (omega (arith, small)) (omega (arith, deep, shallow, flat)) r) p in
        subst (λ (o : CodecFault). AddsItem before after (plain v) (Err o)) (sym memory) tt
