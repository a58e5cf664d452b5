-- Independent draws: a coefficient for each draw, so the counts multiply.
use mathlib.Core.Path.{◌≡◌, refl, sym, ap, ap₂, ◌∙◌}
use mathlib.Core.Bool.{Bool, true, false, cond, ◌&&◌}
use mathlib.Core.List.{List, [], ◌∷◌, map}
use Prim.Native.Nat.{ℕ, zero, suc, ◌+◌, ◌*◌, ◌^◌}
use native.Mathlib.Nat.{zero-add, zero-mul, one-mul, mul-zero, mul-mul-mul_comm, pow-zero, pow-succ'}
use native.Mathlib.Numerals.{one-add}
use lib.Dec.{T, eqb, eqb-suc-zero, eqb-zero-suc, eqb-suc-suc}
use lib.ListN.{length, replicate}
use lib.Ieee.Fits.{and_l, and_r}
use lib.IntN.{ℤ}
use Rattle.counts.specs.Inside.{same, every, list_of, tally}
use Rattle.counts.specs.Formula.{product_of}
use Rattle.counts.proofs.Sums.{bit, sum, cnt, same_list, sum_ext, sum-zero, sum-mul-right, cnt_ext, cnt-zero, cnt-mul_left, bit_and}

-- how many draws below r give the coefficient c
abbrev pub ways : ℕ → (ℕ → ℤ) → ℤ → ℕ
ways r value c = sum r (λ d. bit (same (value d) c))

-- a test in front of a product, and two tests one after the other
cond-mul : (a b : Bool) (x y : ℕ) → cond a x 0 * cond b y 0 ≡ cond (a && b) (x * y) 0
cond-mul true true x y = refl
cond-mul true false x y = mul-zero x
cond-mul false b x y = zero-mul (cond b y 0)

cond-and : (a b : Bool) (x : ℕ) → cond a (cond b x 0) 0 ≡ cond (a && b) x 0
cond-and true b x = refl
cond-and false b x = refl

-- n draws below r, one for each coefficient: a list of n coefficients is reached as often as the product says, another not at all
pub product_law : (n r : ℕ) (value : ℕ → ℤ) (cs : List ℤ)
    → cnt (replicate n r) (λ ds. bit (same_list (map value ds) cs)) ≡ cond (eqb (length cs) n) (product_of (ways r value) cs) 0
unfolding cnt same_list product_of
product_law zero r value [] = refl
product_law zero r value (c ∷ cs) = rw (eqb-suc-zero (length cs))
product_law (suc n) r value [] =
    sum_ext r (λ d. cnt (replicate n r) (λ ds. 0)) (λ d. 0) (λ d k. cnt-zero (replicate n r)) ∙ sum-zero r ∙ rw (eqb-zero-suc n)
product_law (suc n) r value (c ∷ cs) =
    let rest : List ℕ → ℕ = λ ds. bit (same_list (map value ds) cs) in
    sum_ext r (λ d. cnt (replicate n r) (λ ds. bit (same (value d) c && same_list (map value ds) cs)))
    (λ d. bit (same (value d) c) * cnt (replicate n r) rest)
    (λ d k.
    cnt_ext (replicate n r) (λ ds. bit (same (value d) c && same_list (map value ds) cs)) (λ ds. bit (same (value d) c) * rest ds)
    (λ ds t. bit_and (same (value d) c) (same_list (map value ds) cs))
    ∙ cnt-mul_left (replicate n r) (bit (same (value d) c)) rest)
    ∙ sum-mul-right r (cnt (replicate n r) rest) (λ d. bit (same (value d) c))
    ∙ ap (λ (x : ℕ). ways r value c * x) (product_law n r value cs)
    ∙ cond-mul true (eqb (length cs) n) (ways r value c) (product_of (ways r value) cs)
    ∙ rw (eqb-suc-suc (length cs) n)

-- a product with a factor 0 for each coefficient that is not allowed
product_of_ways : (ok : ℤ → Bool) (v w : ℤ → ℕ) → ((c : ℤ) → v c ≡ cond (ok c) (w c) 0)
    → (cs : List ℤ) → product_of v cs ≡ cond (every ok cs) (product_of w cs) 0
unfolding product_of every
product_of_ways ok v w h [] = refl
product_of_ways ok v w h (c ∷ cs) =
    ap₂ ◌*◌ (h c) (product_of_ways ok v w h cs) ∙ cond-mul (ok c) (every ok cs) (w c) (product_of w cs)

-- with each coefficient's ways known, 0 for one that is not allowed
pub map_law : (n r : ℕ) (value : ℕ → ℤ) (ok : ℤ → Bool) (w : ℤ → ℕ)
    → ((c : ℤ) → ways r value c ≡ cond (ok c) (w c) 0)
    → (cs : List ℤ)
    → cnt (replicate n r) (λ ds. bit (same_list (map value ds) cs)) ≡ cond (list_of n ok cs) (product_of w cs) 0
map_law n r value ok w h cs =
    product_law n r value cs
    ∙ ap (λ (x : ℕ). cond (eqb (length cs) n) x 0) (product_of_ways ok (ways r value) w h cs)
    ∙ cond-and (eqb (length cs) n) (every ok cs) (product_of w cs)

-- a product looks at allowed coefficients only
pub product_ext : (f g : ℤ → ℕ) (ok : ℤ → Bool) → ((c : ℤ) → T (ok c) → f c ≡ g c)
    → (cs : List ℤ) → T (every ok cs) → product_of f cs ≡ product_of g cs
unfolding product_of every
product_ext f g ok h [] t = refl
product_ext f g ok h (c ∷ cs) t =
    ap₂ ◌*◌ (h c (and_l (ok c) (every ok cs) t)) (product_ext f g ok h cs (and_r (ok c) (every ok cs) t))

pub product-mul : (f g : ℤ → ℕ) (cs : List ℤ) → product_of (λ c. f c * g c) cs ≡ product_of f cs * product_of g cs
unfolding product_of
product-mul f g [] = refl
product-mul f g (c ∷ cs) =
    ap (λ (x : ℕ). f c * g c * x) (product-mul f g cs) ∙ mul-mul-mul_comm (f c) (g c) (product_of f cs) (product_of g cs)

-- the product of a number for each value that occurs is a power of it by its tally
pub product-tally : (v : ℤ) (k : ℕ) (cs : List ℤ) → product_of (λ c. cond (same v c) k 1) cs ≡ k ^ tally v cs
unfolding product_of tally
product-tally v k [] = sym (pow-zero k)
product-tally v k (c ∷ cs) = go (same v c) (product-tally v k cs)
  where
    go : (b : Bool) → product_of (λ x. cond (same v x) k 1) cs ≡ k ^ tally v cs
        → cond b k 1 * product_of (λ x. cond (same v x) k 1) cs ≡ k ^ (cond b 1 0 + tally v cs)
    go true e = ap (λ (x : ℕ). k * x) e ∙ sym (pow-succ' k (tally v cs)) ∙ ap (λ (x : ℕ). k ^ x) (sym (one-add (tally v cs)))
    go false e = one-mul (product_of (λ x. cond (same v x) k 1) cs) ∙ e ∙ ap (λ (x : ℕ). k ^ x) (sym (zero-add (tally v cs)))

-- a product of ones
pub product-ones : (cs : List ℤ) → product_of (λ c. 1) cs ≡ 1
unfolding product_of
product-ones [] = refl
product-ones (c ∷ cs) = rw (product-ones cs)
