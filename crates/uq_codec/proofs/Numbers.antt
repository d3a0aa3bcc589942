-- Eight bytes and their whole number.
use Rattle.std.proofs.Common.{◌≡◌, ℕ, suc, ◌<◌, ◌-◌, ◌^◌, Bool, true, false, cond, ltb, ℤ, pos, negsuc, length, get_or, w64, to_z, refl, sym, ap, subst, ◌∙◌, arith}
use Rattle.std.proofs.lemmas.Bool.{ltb-true, ltb-false}
use Rattle.std.proofs.lemmas.Nat.{be_bytes_8}
use Rattle.std.specs.Int.{to_be_bytes, from_be_bytes}
use Rattle.uq_value.specs.Data.{Bytes}
use Rattle.uq_codec.specs.Stored.{IsWhole}

below : (bs : Bytes) → ((i : ℕ) → get_or bs i 0 < 256) → from_be_bytes w64 bs < 2 ^ 64
below bs small = omega (arith, small 0, small 1, small 2, small 3, small 4, small 5, small 6, small 7)

signed : (bs : Bytes) (n : ℕ) → n < 2 ^ 64 → bs ≡ to_be_bytes w64 n → IsWhole bs (to_z w64 n)
signed bs n h e = by (ltb n (2 ^ 63)) refl
  where
    by : (b : Bool) → ltb n (2 ^ 63) ≡ b → IsWhole bs (cond b (pos n) (negsuc (2 ^ 64 - suc n)))
    by true t = (ltb-true n (2 ^ 63) t, e)
    by false f = let high = ltb-false n (2 ^ 63) f in
        let back : n ≡ 2 ^ 64 - 1 - (2 ^ 64 - suc n) = omega (arith, h) in
        (omega (arith, h, high), e ∙ ap (to_be_bytes w64) back)

pub whole_read : (bs : Bytes) (z : ℤ) → length bs ≡ 8 → ((i : ℕ) → get_or bs i 0 < 256) → z ≡ to_z w64 (from_be_bytes w64 bs) → IsWhole bs z
whole_read bs z long small e =
    subst (IsWhole bs) (sym e) (signed bs (from_be_bytes w64 bs) (below bs small) (sym (be_bytes_8 bs (from_be_bytes w64 bs) long small refl)))
