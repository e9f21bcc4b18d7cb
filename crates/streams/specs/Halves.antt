-- A number of 32 bits in halves of 16 bits, and a product from the products of its halves (02, ticket 4: T4.2, T4.3). Assumes nothing.
use Rattle.std.specs.Prelude.{ℕ, ◌+◌, ◌*◌, ◌/◌, ◌%◌, ◌^◌, ◌≤◌, ◌<◌, ◌≡◌}
use Rattle.std.proofs.Common.{ap, ◌∙◌, arith, mul-le-mul}
use Rattle.numbers.specs.Limits.{max_number}

-- what one in the upper half stands for
abbrev pub half : ℕ
half = 65536

abbrev pub max_half : ℕ
max_half = 65535

-- THE EXACT PRODUCT FROM THOSE OF THE HALVES
pub product_halves : (a b : ℕ) → a / half * b * half + a % half * b ≡ a * b
product_halves a b =
    let parts : a / half * b * half + a % half * b ≡ (a / half * half + a % half) * b = omega arith in
    let whole : a / half * half + a % half ≡ a = omega arith in
    parts ∙ ap (λ (x : ℕ). x * b) whole

-- the same by the names of the halves and of their products
pub product_parts : (a b upper lower high low : ℕ) → upper ≡ a / half → lower ≡ a % half → high ≡ upper * b → low ≡ lower * b → high * half + low ≡ a * b
product_parts a b upper lower high low u l h k = rw (h, k, u, l) (product_halves a b)

-- numbers of 32 bits have a product of 64
pub product_fits : (a b : ℕ) → a ≤ max_number → b ≤ max_number → a * b < 2 ^ 64
product_fits a b h k = omega (arith, mul-le-mul h k)
