-- Which parameters making gives, and what a draw may rely on then.
use mathlib.Core.Path.{◌≡◌, refl, ◌∙◌}
use mathlib.Core.Bool.{Bool, true, false, not, cond, ◌&&◌}
use Prim.Native.Nat.{ℕ, ◌*◌, ◌-◌, ◌%◌, ◌^◌, ◌≤◌}
use native.Mathlib.Nat.{one-mul}
use native.Mathlib.Omega.{arith}
use borrow.Author.Tests.{leb-true, eqb-true}
use lib.Dec.{leb, eqb, lit<}
use lib.Pow.{shl_exact}
use Rattle.distr.specs.Constants.{eta_limit}
use Rattle.distr.specs.Making.{error_number}
use Rattle.distr.proofs.Reading.{both_true}
use Rattle.centered_binomial.specs.declared.CenteredBinomialParameters.{CenteredBinomialParameters}
use Rattle.centered_binomial.specs.Binomial.{eta_number, is_made_binomial}

-- an eta that is not refused is 1 to 32
pub eta_range : (eta : ℕ) → eqb (eta_number eta) 0 ≡ true → (1 ≤ eta) × (eta ≤ eta_limit)
unfolding error_number
eta_range eta e =
    let tests = both_true (leb 1 eta) (leb eta eta_limit) (go (leb 1 eta && leb eta eta_limit) e) in
    (leb-true 1 eta tests.0, leb-true eta eta_limit tests.1)
  where
    go : (a : Bool) → eqb (cond (not a) 4 0) 0 ≡ true → a ≡ true
    go true p = refl
    go false p = p

pub eta_small : (eta : ℕ) → eqb (eta_number eta) 0 ≡ true → eta ≤ eta_limit
eta_small eta e = (eta_range eta e).1

-- 1 moved up by such an eta stays below 2^64
pub one_up : (eta : ℕ) → eta ≤ eta_limit → 1 * 2 ^ eta % 2 ^ 64 ≡ 2 ^ eta
one_up eta h = shl_exact 1 eta 64 (lit< tt) (omega arith) ∙ one-mul (2 ^ eta)

-- parameters that making gives: both parts fit a word, and the mask is eta ones
pub made-small : (s : CenteredBinomialParameters) → is_made_binomial s ≡ true → s.eta ≤ eta_limit
made-small s e = eta_small s.eta (both_true (eqb (eta_number s.eta) 0) (eqb s.mask (2 ^ s.eta - 1)) e).0

pub made_mask : (s : CenteredBinomialParameters) → is_made_binomial s ≡ true → s.mask ≡ 2 ^ s.eta - 1
made_mask s e = eqb-true s.mask (2 ^ s.eta - 1) (both_true (eqb (eta_number s.eta) 0) (eqb s.mask (2 ^ s.eta - 1)) e).1
