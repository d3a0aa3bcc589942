-- The parts of a list or object by their places, and their texts.
use Rattle.std.proofs.Common.{◌≡◌, ℕ, zero, suc, ◌<◌, ◌+◌, List, [], ◌∷◌, ◌++◌, length, drop, get_or, slice_get, Option, Some, refl, sym, ap, ◌∙◌, append_assoc, append-nil, add-one, arith}
use Rattle.std.proofs.Math.Seq.{drop-cons, drop-length}
use Rattle.uq_value.specs.Data.{Bytes, Data, Datas, Pairs, items_of, members_of}
use Rattle.uq_value.specs.Plain.{plain, items, members}
use Rattle.uq_value.specs.declared.value.Value.{Value}
use Rattle.uq_value.specs.Laws.Parts.{item_there, member_there}
use Rattle.uq_json.specs.Internal.Printing.{comma_before, item_text, member_text}
use Rattle.uq_json.specs.Quote.{quoted}
use Rattle.uq_json.specs.Text.{json, item_texts, member_texts, comma_separated, behind_others, bracketed}

-- ---- the text of the part at a place

printed_item : (ds : Datas) (at : ℕ) (v : Value) → Some v ≡ slice_get (items ds) at → item_text ds at ≡ json (plain v)
printed_item [] at v e = absurd (cc)
printed_item (d ∷ ds) zero v e = ap json (item_there (d ∷ ds) zero v e).is
printed_item (d ∷ ds) (suc at) v e = printed_item ds at v e

printed_member : (ms : Pairs) (at : ℕ) (name : Bytes) (v : Value) → ◌≡◌ {A = Option (Bytes × Value)} (Some (name, v)) (slice_get (members ms) at) → member_text ms at ≡ quoted name ++ 0x3a ∷ json (plain v)
printed_member [] at name v e = absurd (cc)
printed_member (m ∷ ms) zero name v e = ap (λ (n : Bytes × Data). quoted n.0 ++ 0x3a ∷ json n.1) (member_there (m ∷ ms) zero name v e).is
printed_member (m ∷ ms) (suc at) name v e = printed_member ms at name v e

-- ---- texts from a place on

abbrev pub from_place : ℕ → List Bytes → Bytes
from_place zero ps = comma_separated ps
from_place (suc n) ps = behind_others (drop (suc n) ps)

behind_from : (n : ℕ) (ps : List Bytes) → behind_others (drop (suc n) ps) ≡ from_place (n + 1) ps
behind_from n ps = ap (λ (k : ℕ). from_place k ps) (sym (add-one n))

pub place_goes_on : (at : ℕ) (ps : List Bytes) → at < length ps → from_place at ps ≡ (comma_before at ++ get_or ps at []) ++ from_place (at + 1) ps
place_goes_on zero [] h = absurd (omega (arith, h))
place_goes_on zero (p ∷ ps) h = ap (λ (w : Bytes). p ++ w) (behind_from zero (p ∷ ps))
place_goes_on (suc n) ps h =
    ap behind_others (drop-cons ps (suc n) [] h)
    ∙ ap (λ (w : Bytes). (comma_before (suc n) ++ get_or ps (suc n) []) ++ w) (behind_from (suc n) ps)

nothing_left : (ps : List Bytes) → from_place (length ps) ps ≡ []
nothing_left [] = refl
nothing_left (p ∷ ps) = ap behind_others (drop-length ps)

pub items_count : (ds : Datas) → length (item_texts (items_of ds)) ≡ length ds
items_count [] = refl
items_count (d ∷ ds) = ap suc (items_count ds)

pub members_count : (ms : Pairs) → length (member_texts (members_of ms)) ≡ length ms
members_count [] = refl
members_count (m ∷ ms) = ap suc (members_count ms)

-- what is printed so far, and the rest, is the whole
abbrev pub PrintedSoFar : Bytes → Bytes → ℕ → List Bytes → Type 0
PrintedSoFar start now at ps = now ++ from_place at ps ≡ start ++ comma_separated ps

pub printed_begins : (start now : Bytes) (ps : List Bytes) → now ≡ start → PrintedSoFar start now 0 ps
printed_begins start now ps e = ap (λ (w : Bytes). w ++ comma_separated ps) e

pub printed_goes_on : (start now later : Bytes) (at : ℕ) (ps : List Bytes) → at < length ps → later ≡ now ++ (comma_before at ++ get_or ps at []) → PrintedSoFar start now at ps → PrintedSoFar start later (at + 1) ps
printed_goes_on start now later at ps h e so_far =
    ap (λ (w : Bytes). w ++ from_place (at + 1) ps) e ∙ append_assoc now (comma_before at ++ get_or ps at []) (from_place (at + 1) ps)
    ∙ ap (λ (w : Bytes). now ++ w) (sym (place_goes_on at ps h)) ∙ so_far

pub printed_ends : (before now later : Bytes) (opening close at : ℕ) (ps : List Bytes) → at ≡ length ps → PrintedSoFar (before ++ opening ∷ []) now at ps → later ≡ now ++ close ∷ [] → later ≡ before ++ bracketed opening ps close
printed_ends before now later opening close at ps is so_far e =
    let all : now ≡ (before ++ opening ∷ []) ++ comma_separated ps = sym (append-nil now) ∙ ap (λ (w : Bytes). now ++ w) (sym (nothing_left ps)) ∙ ap (λ (k : ℕ). now ++ from_place k ps) (sym is) ∙ so_far in
    e ∙ ap (λ (w : Bytes). w ++ close ∷ []) all ∙ append_assoc (before ++ opening ∷ []) (comma_separated ps) (close ∷ []) ∙ append_assoc before (opening ∷ []) (comma_separated ps ++ close ∷ [])

-- ---- one part printed

pub piece_text : (ds : Datas) (at : ℕ) (v : Value) (before comma later : Bytes) → Some v ≡ slice_get (items ds) at → comma ≡ before ++ comma_before at
    → later ≡ comma ++ json (plain v) → later ≡ before ++ (comma_before at ++ item_text ds at)
piece_text ds at v before comma later there first second =
    second ∙ ap (λ (w : Bytes). w ++ json (plain v)) first ∙ append_assoc before (comma_before at) (json (plain v))
    ∙ ap (λ (w : Bytes). before ++ (comma_before at ++ w)) (sym (printed_item ds at v there))

pub pair_text : (ms : Pairs) (at : ℕ) (name : Bytes) (v : Value) (before comma named colon later : Bytes) → ◌≡◌ {A = Option (Bytes × Value)} (Some (name, v)) (slice_get (members ms) at)
    → comma ≡ before ++ comma_before at → named ≡ comma ++ quoted name → colon ≡ named ++ 0x3a ∷ [] → later ≡ colon ++ json (plain v) → later ≡ before ++ (comma_before at ++ member_text ms at)
pair_text ms at name v before comma named colon later there first second third fourth =
    let all : comma ++ (quoted name ++ 0x3a ∷ json (plain v)) ≡ later = sym (fourth ∙ ap (λ (w : Bytes). w ++ json (plain v)) (third ∙ ap (λ (w : Bytes). w ++ 0x3a ∷ []) second)
    ∙ append_assoc (comma ++ quoted name) (0x3a ∷ []) (json (plain v)) ∙ append_assoc comma (quoted name) (0x3a ∷ json (plain v))) in
    sym all ∙ ap (λ (w : Bytes). w ++ (quoted name ++ 0x3a ∷ json (plain v))) first ∙ append_assoc before (comma_before at) (quoted name ++ 0x3a ∷ json (plain v))
    ∙ ap (λ (w : Bytes). before ++ (comma_before at ++ w)) (sym (printed_member ms at name v there))
