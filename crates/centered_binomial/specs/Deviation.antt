-- The standard deviation of the centered binomial, the f64 nearest to the square root of its variance, eta / 2.
use Rattle.std.specs.Prelude.{ℕ, zero, suc, ◌+◌, ◌*◌, ◌/◌, ◌^◌, ◌≤◌, ◌≡◌, cond, leb, Float}
use Rattle.distr.specs.Constants.{literal, eta_limit}

-- r, or r + 1 where its square is still within n.
abbrev pub one_more : ℕ → ℕ → ℕ
one_more n r = cond (leb ((r + 1) * (r + 1)) n) (r + 1) r

-- The whole part of the square root of an n below 4^k: twice that of n / 4, or one more.
unfoldable pub root : ℕ → ℕ → ℕ
root zero n = 0
root (suc k) n = one_more n (root k (n / 4) * 2)

-- The root of eta / 2 to 60 binary places, times 2^60.
abbrev pub scaled_root : ℕ → ℕ
scaled_root eta = root 64 (eta * 2 ^ 119)

-- The Rust's `(f64::from(eta) / 2.0).sqrt()`, for eta up to 32.
abbrev pub binomial_deviation : ℕ → Float
binomial_deviation eta = cond (leb eta eta_limit) (literal (scaled_root eta) (2 ^ 60)) (literal 0 1)

-- x is the f64 nearest to the root of eta / 2: the root lies from r / 2^60 to (r + 1) / 2^60, and both of these are rounded to x.
pub record NearestRoot (eta : ℕ) (x : Float) : Type 0 where
  pub r : ℕ
  pub below : r * r ≤ eta * 2 ^ 119
  pub above : eta * 2 ^ 119 ≤ (r + 1) * (r + 1)
  pub rounded : literal r (2 ^ 60) ≡ x
  pub rounded-up : literal (r + 1) (2 ^ 60) ≡ x
