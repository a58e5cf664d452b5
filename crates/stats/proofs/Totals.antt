-- Sums of a function's values over a list: of a list in two parts, of one element more, and how large they can be.
use Rattle.std.proofs.Common.{◌≡◌, ℕ, ◌+◌, ◌*◌, ◌<◌, ◌≤◌, true, List, [], ◌∷◌, ◌++◌, length, get_or, take, suc-mul, add-one, arith, take-suc}
use Rattle.stats.specs.Centered.{all_below}
use Rattle.stats.specs.Sums.{total}
use Rattle.stats.proofs.Below.{below-first, below_rest}

module _ (f : ℕ → ℕ) where
  pub total_append : (xs ys : List ℕ) → total f (xs ++ ys) ≡ total f xs + total f ys
  unfolding total
  total_append [] ys = omega arith
  total_append (x ∷ xs) ys = omega (arith, total_append xs ys)

  -- one element more
  pub total_more : (xs : List ℕ) (i : ℕ) → i < length xs → total f (take (i + 1) xs) ≡ total f (take i xs) + f (get_or xs i 0)
  unfolding total
  total_more xs i h = rw (add-one i, take-suc xs i 0 h, total_append (take i xs) (get_or xs i 0 ∷ [])) (omega arith)

  -- values of at most `most` for residues below the modulus
  pub total-most : (modulus most : ℕ) (xs : List ℕ) → ((r : ℕ) → r < modulus → f r ≤ most) → all_below modulus xs ≡ true
      → total f xs ≤ length xs * most
  unfolding total
  total-most modulus most [] each below = omega arith
  total-most modulus most (x ∷ xs) each below =
      omega (
        arith,
        suc-mul (length xs) most,
        each x (below-first modulus x xs below),
        total-most modulus most xs each (below_rest modulus x xs below),
      )
