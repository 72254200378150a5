-- Products of bounded numbers, and places in a table of rows.
use Rattle.std.proofs.Common.{◌≡◌, ℕ, ◌+◌, ◌*◌, ◌<◌, ◌≤◌, add-mul, mul-le-mul, arith}

pub product : (x y a b : ℕ) → x ≤ a → y ≤ b → x * y ≤ a * b
product x y a b h k = mul-le-mul h k

-- column t of row s, of m rows of n
pub in_rows : (m n s t : ℕ) → s < m → t < n → s * n + t < m * n
in_rows m n s t h k =
    let p : (s + 1) * n ≤ m * n = product (s + 1) n m n (omega arith) (omega arith) in
    let q : (s + 1) * n ≡ s * n + 1 * n = add-mul s 1 n in
    omega arith
