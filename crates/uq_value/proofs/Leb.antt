-- The bytes of a length.
use Rattle.std.proofs.Common.{◌≡◌, ◌<◌, ◌≤◌, ◌+◌, ◌-◌, ◌/◌, ℕ, zero, suc, refl, ap, arith}
use Rattle.uq_value.specs.Size.{leb_size, leb_within}

leb-more : (k n : ℕ) → 128 ≤ n → leb_within (suc k) n ≡ 1 + leb_within k (n / 128)
leb-more k n h = grind arith

leb-last : (k n : ℕ) → n < 128 → leb_within k n ≡ 1
leb-last zero n h = refl
leb-last (suc k) n h = grind arith

pub leb_begins : (n : ℕ) → leb_size n + 1 ≡ 1 + leb_within (10 - 1) n
unfolding leb_size
leb_begins n = omega arith

pub leb_goes_on : (m g n : ℕ) → g < 10 → 128 ≤ n → m ≡ g + leb_within (10 - g) n → m ≡ g + 1 + leb_within (10 - (g + 1)) (n / 128)
leb_goes_on m g n b h e =
    let k : 10 - g ≡ suc (10 - (g + 1)) = omega arith in
    omega (arith, e, ap (λ k. leb_within k n) k, leb-more (10 - (g + 1)) n h)

pub leb_ends : (m g n : ℕ) → n < 128 → m + 1 ≡ g + leb_within (10 - g) n → g ≡ m
leb_ends m g n h e = omega (arith, e, leb-last (10 - g) n h)
