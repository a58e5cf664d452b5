-- A method and its key: nothing of a method is lost in its key, so that keys which pass the test give one method; and the key of a method whose
-- deviation making gave passes it against itself.
use Prim.Native.Nat.{ℕ}
use native.Mathlib.Omega.{arith}
use mathlib.Core.Path.{◌≡◌, refl, sym, ◌∙◌}
use mathlib.Core.List.{List, [], ◌∷◌}
use lib.ListN.{get_or}
use mathlib.Core.Bool.{Bool, true, false, cond}
use lib.Dec.{T, eqb}
use lib.Ieee.{Float, binary64, eq, fits}
use lib.Ieee.Positive.{positive}
use borrow.Author.Tests.{eqb-true}
use Rattle.distr.specs.declared.secret_key_distr.BlockOccupancy.TheVariants.{AtMostOne, ExactlyOne}
use Rattle.distr.specs.Constants.{literal}
use Rattle.ternary.specs.declared.ternary.TernaryValue.TheVariants.{MinusOne, Zero, One}
use Rattle.ternary.specs.declared.ternary.TernaryEnds.{TernaryEnds}
use Rattle.ternary.specs.declared.ternary.TernaryEnds.TheVariants.{Constant, Nonzero, General}
use Rattle.gaussian_core.proofs.SameFloat.{eq-same}
use Rattle.methods.specs.Keys.{MethodKey}
use Rattle.methods.specs.declared.SamplingMethod.{SamplingMethod}
use Rattle.methods.specs.declared.SamplingMethod.TheVariants.{UniformBinary, Binary, SparseTernary, UniformTernary, Ternary, Empty}
use Rattle.methods.specs.declared.SamplingMethod.TheVariants.{FixedHammingWeightBinary, BlockBinary, Gaussian, CenteredBinomial}
use Rattle.methods.specs.declared.SamplingMethod.TheVariants.{FixedHammingWeightTernary, FixedCompositionTernary}
use Rattle.methods.specs.Keys.{same_key, ternary_key, method_key}
use Rattle.methods.proofs.Keys.{same_parts, same_itself}
use Rattle.methods.proofs.Deviation.{positive_equal, zero_equal}

-- The method back from its key, by its kind; only a Gaussian's kind looks at the deviation.
abbrev plain_methods : Bool → ℕ → ℕ → List SamplingMethod
plain_methods full first second =
    Empty
    ∷ UniformBinary
    ∷ Binary (record { full = full; below = first })
    ∷ SparseTernary
    ∷ UniformTernary
    ∷ Ternary (Constant MinusOne)
    ∷ Ternary (Constant Zero)
    ∷ Ternary (Constant One)
    ∷ Ternary (Nonzero first)
    ∷ Ternary (General first second)
    ∷ FixedHammingWeightBinary first
    ∷ BlockBinary first AtMostOne
    ∷ BlockBinary first ExactlyOne
    ∷ FixedHammingWeightTernary first
    ∷ FixedCompositionTernary first second
    ∷ Empty
    ∷ CenteredBinomial (record { eta = first; mask = second })
    ∷ []

method_of : ℕ → Bool → ℕ → ℕ → Float → SamplingMethod
method_of kind full first second deviation =
    cond (eqb kind 15) (Gaussian (record { standard_deviation = deviation; maximum_magnitude = first }))
    (get_or (plain_methods full first second) kind Empty)

abbrev of_key : MethodKey → SamplingMethod
of_key a = method_of a.kind a.full a.first a.second a.deviation

-- Nothing of a method is lost in its key.
ternary_back : (s : TernaryEnds) → of_key (ternary_key s) ≡ Ternary s
unfolding method_of
ternary_back (Constant MinusOne) = refl
ternary_back (Constant Zero) = refl
ternary_back (Constant One) = refl
ternary_back (Nonzero N) = refl
ternary_back (General N E) = refl

key_back : (m : SamplingMethod) → of_key (method_key m) ≡ m
unfolding method_of
key_back UniformBinary = refl
key_back (Binary t) = refl
key_back SparseTernary = refl
key_back UniformTernary = refl
key_back (Ternary s) = ternary_back s
key_back (FixedHammingWeightBinary h) = refl
key_back (BlockBinary size AtMostOne) = refl
key_back (BlockBinary size ExactlyOne) = refl
key_back (FixedHammingWeightTernary h) = refl
key_back (FixedCompositionTernary minus ones) = refl
key_back (Gaussian parameters) = refl
key_back (CenteredBinomial parameters) = refl
key_back Empty = refl

-- Keys that pass the test give one method, if those of a Gaussian give one deviation.
other-deviation : (kind : ℕ) (full : Bool) (first second : ℕ) (x y : Float) → (kind ≡ 15 → x ≡ y)
    → method_of kind full first second x ≡ method_of kind full first second y
unfolding method_of
other-deviation kind full first second x y h = go (eqb kind 15) refl
  where
    go : (b : Bool) → eqb kind 15 ≡ b → method_of kind full first second x ≡ method_of kind full first second y
    go true e = rw (h (eqb-true kind 15 e))
    go false e = rw e

same-method : (a b : MethodKey) → T (same_key a b) → (b.kind ≡ 15 → T (eq a.deviation b.deviation) → a.deviation ≡ b.deviation)
    → of_key a ≡ of_key b
same-method a b h deviation =
    let same = same_parts a b h in
    rw (same.kind, same.full, same.first, same.second)
    (other-deviation b.kind b.full b.first b.second a.deviation b.deviation (λ e. deviation e same.deviation))

-- What stands for the deviation in a prepared method: a Gaussian's is above zero, and any other kind has 0.0.
pub data Kept (kind : ℕ) (x : Float) : Type 0 where
  gaussian : T (positive x) → Kept kind x
  other : (kind ≡ 15 → ⊥) → x ≡ literal 0 1 → Kept kind x

pub kept-ternary : (s : TernaryEnds) → Kept (ternary_key s).kind (ternary_key s).deviation
kept-ternary (Constant MinusOne) = other (λ e. omega (arith, e)) refl
kept-ternary (Constant Zero) = other (λ e. omega (arith, e)) refl
kept-ternary (Constant One) = other (λ e. omega (arith, e)) refl
kept-ternary (Nonzero N) = other (λ e. omega (arith, e)) refl
kept-ternary (General N E) = other (λ e. omega (arith, e)) refl

kept-positive : (kind : ℕ) (x : Float) → Kept kind x → kind ≡ 15 → T (positive x)
kept-positive kind x (gaussian p) e = p
kept-positive kind x (other never z) e = absurd (never e)

kept_equal : (kind : ℕ) (x : Float) → Kept kind x → eq x x ≡ true
kept_equal kind x (gaussian p) = positive_equal x p
kept_equal kind x (other never z) = rw z zero_equal

-- A method whose key is that of one that making gave, where the floats are values of f64, is that one, and that one has its own key.
module _ (wanted : SamplingMethod) (keeps : Kept (method_key wanted).kind (method_key wanted).deviation) where
  pub same_kept : (m : SamplingMethod) → T (fits binary64 (method_key m).deviation) → T (fits binary64 (method_key wanted).deviation)
      → T (same_key (method_key m) (method_key wanted)) → m ≡ wanted
  same_kept m mine its h =
      sym (key_back m)
      ∙ same-method (method_key m) (method_key wanted) h
      (λ e q. eq-same binary64 (method_key m).deviation (method_key wanted).deviation mine its (kept-positive _ _ keeps e) q)
      ∙ key_back wanted

  pub kept_same : same_key (method_key wanted) (method_key wanted) ≡ true
  kept_same = same_itself (method_key wanted) (kept_equal _ _ keeps)
