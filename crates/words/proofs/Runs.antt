-- A word w stands in the run of k numbers from w - w % k on; it is accepted where this run ends at N or below.
use mathlib.Core.Path.{◌≡◌}
use Prim.Native.Nat.{ℕ, suc, ◌*◌, ◌-◌, ◌/◌, ◌%◌, ◌<◌, ◌≤◌}
use native.Mathlib.Nat.{div-add-mod, mul_comm, le-div_iff_mul-le, div-lt_iff_lt-mul, le_of_suc-le-suc, lt_of_not-le, not-le_of_lt}
use native.Mathlib.Omega.{arith}

module _ (N k w : ℕ) (some : 0 < k) (small : k ≤ N) where
  -- the run's start is a multiple of k
  start : w - w % k ≡ k * (w / k)
  start = omega (arith, div-add-mod w k)

  pub run_accepted : w - w % k ≤ N - k → w < k * (N / k)
  run_accepted h =
      let below : suc (w / k) * k ≤ N = omega (arith, start) in
      rw (mul_comm k (N / k)) ((div-lt_iff_lt-mul some).0 ((le-div_iff_mul-le some).1 below))

  run_within : w < k * (N / k) → w - w % k ≤ N - k
  run_within h =
      let below : suc (w / k) * k ≤ N = (le-div_iff_mul-le some).0 ((div-lt_iff_lt-mul some).1 (rw (mul_comm k (N / k)) at h)) in
      omega (arith, start)

  pub run_skipped : N - k < w - w % k → k * (N / k) ≤ w
  run_skipped h = le_of_suc-le-suc (lt_of_not-le (λ t. not-le_of_lt h (run_within t)))
