-- The first of a draw's numbers, which refuses it, and what is settled by two ways of writing that agree.
use mathlib.Core.Path.{◌≡◌, refl}
use mathlib.Core.List.{List, [], ◌∷◌, ◌++◌}
use Prim.Native.Nat.{ℕ, zero, suc, ◌<◌}
use native.Mathlib.Nat.{not-suc-le-zero}
use native.Mathlib.Omega.{arith}
use borrow.Author.Tests.{ne_eqb}
use lib.ListN.{length, replicate}
use lib.IntN.{ℤ, pos}
use Rattle.distr.specs.Words.{Read, got, short}
use Rattle.distr.specs.Numbers.{first_of}
use Rattle.distr.specs.Draw.{Outcome, settled, judged}

-- a number before others that do not refuse is the first
pub first-before : (k : ℕ) (ns : List ℕ) → first_of ns ≡ 0 → first_of (k ∷ ns) ≡ k
unfolding first_of
first-before zero ns e = e
first-before (suc k) ns e = refl

-- and so is one alone
pub first_alone : (k : ℕ) → first_of (k ∷ []) ≡ k
unfolding first_of
first_alone k = first-before k [] refl

-- of two lists of numbers the first decides, or the second
pub first-within : (ks ns : List ℕ) → 0 < first_of ks → first_of (ks ++ ns) ≡ first_of ks
unfolding first_of
first-within [] ns h = absurd (not-suc-le-zero h)
first-within (zero ∷ ks) ns h = first-within ks ns h
first-within (suc k ∷ ks) ns h = refl

pub first_after : (ks ns : List ℕ) → first_of ks ≡ 0 → first_of (ks ++ ns) ≡ first_of ns
unfolding first_of
first_after [] ns e = refl
first_after (zero ∷ ks) ns e = first_after ks ns e
first_after (suc k ∷ ks) ns e = absurd (omega arith)

-- a first number above 0 is the answer
pub refused : {A : Type 0} (ns : List ℕ) {k : ℕ} (place : ℕ) (out : List A) (given : Outcome A) → first_of ns ≡ k → 0 < k
    → judged (first_of ns) place out given ≡ record { number = k; place = place; index = 0; output = out }
unfolding judged
refused ns {k} place out given e h = rw (e, ne_eqb k 0 (λ z. omega arith))

module _ {A : Type 0} (write write' : List ℤ → List A) (words : List ℕ) (place : ℕ) (out : List A) where
  pub settled_same : (read : Read (List ℤ)) → ((cs : List ℤ) (rest : List ℕ) → read ≡ got cs rest → write cs ≡ write' cs)
      → write (replicate (length out) (pos 0)) ≡ write' (replicate (length out) (pos 0))
      → settled write (length words) place (length out) read ≡ settled write' (length words) place (length out) read
  unfolding settled
  settled_same (got cs rest) h z = rw (h cs rest refl)
  settled_same short h z = rw z
