-- SamplePolyCBD is counted: the bits of a byte string, 2·eta at a time, are a group for each coefficient. Byte strings and lists of groups go one to
-- one, and the groups of each coefficient multiply.
use mathlib.Core.Path.{◌≡◌, refl, sym, ap, ap₂, ◌∙◌}
use mathlib.Core.Bool.{Bool, cond}
use mathlib.Core.List.{List, [], ◌∷◌, map}
use Prim.Native.Nat.{ℕ, suc, ◌+◌, ◌-◌, ◌*◌, ◌^◌, ◌<◌, ◌≤◌}
use native.Mathlib.Nat.{sub_self, mul-one, le_refl, mod-eq_of_lt}
use native.Mathlib.Omega.{arith}
use borrow.Author.Tests.{eq-eqb}
use lib.Dec.{T, eqb, leb→le, le→leb}
use lib.Ieee.Fits.{and_i, and_l, and_r}
use lib.ListN.{length, get_or, take, drop, replicate, length-map, length-replicate, get_or-map}
use lib.Seq.{ext_get_or}
use lib.IntN.{ℤ, pos, negsuc, nat_abs, ◌+ℤ◌, ◌-ℤ◌}
use Rattle.distr.specs.Constants.{cbd_modulus, cbd_coefficients}
use Rattle.distr.specs.Packed.{digits, split}
use Rattle.distr.specs.CenteredBinomial.{total}
use Rattle.distr.specs.Encoding.{encode}
use Rattle.distr.specs.SamplePolyCbd.{bit_of, sum_to, modulo, coefficient_of, tabulate, polynomial_of}
use Rattle.counts.specs.Inside.{every, within, list_of, inside_polynomial}
use Rattle.counts.specs.Formula.{binomial, polynomial_formula}
use Rattle.counts.specs.DrawLists.{Exactly, in_box, byte_string}
use Rattle.distr.proofs.Reading.{T_true}
use Rattle.distr.proofs.Writing.{map-map}
use Rattle.distr.proofs.Tabulating.{length-tabulate, get_d_tabulate, sum_to_ext, total-part}
use Rattle.distr.proofs.Digits.{get_d_digits, get_d_split, get_d_bits}
use Rattle.distr.proofs.BitSums.{total_at_most, difference_at_most}
use Rattle.counts.proofs.Exact.{exactly_as, exactly-map, decoded_exactly}
use Rattle.counts.proofs.Products.{ways, map_law}
use Rattle.counts.proofs.Packed.{box_length, pack, length-pack, split-pack, pack-split, pack_boxed, split_boxed}
use Rattle.counts.proofs.CenteredBinomial.{bit_difference, binomial-ways}

-- ---- the same digits in groups of another size

-- the digits of numbers that have `from` each, packed into n numbers of `to` each
abbrev regroup : ℕ → ℕ → ℕ → ℕ → List ℕ → List ℕ
regroup base from to n xs = pack base to n (split base from xs)

module _ (base from to m n : ℕ) (some-digit : 0 < base) (as_many : m * from ≡ n * to) (xs : List ℕ) (t : T (in_box (replicate m (base ^ from)) xs)) where
  digits_regrouped : T (in_box (replicate (n * to) base) (split base from xs))
  digits_regrouped =
      let size : length xs * from ≡ n * to = ap (λ (k : ℕ). k * from) (box_length (replicate m (base ^ from)) xs t ∙ length-replicate m (base ^ from)) ∙ as_many in
      rw size at (split_boxed base from xs some-digit)

  regroup_boxed : T (in_box (replicate n (base ^ to)) (regroup base from to n xs))
  regroup_boxed = pack_boxed base to n (split base from xs) digits_regrouped

  split-regroup : split base to (regroup base from to n xs) ≡ split base from xs
  split-regroup = split-pack base to n (split base from xs) digits_regrouped

  -- the first groups come back
  regroup_back : regroup base to from m (regroup base from to n xs) ≡ xs
  regroup_back = ap (pack base from m) split-regroup ∙ pack-split base from m xs some-digit t

-- ---- the coefficient of a group

-- what one group of 2·eta bits gives
abbrev centered : ℕ → ℕ → ℤ
centered eta g = bit_difference (2 * eta) eta g

centered-ways : (eta : ℕ) (c : ℤ) → ways (2 ^ (2 * eta)) (centered eta) c ≡ cond (within eta c) (binomial (2 * eta) (nat_abs (pos eta +ℤ c))) 0
centered-ways eta c =
    let k : ℕ = binomial (2 * eta) (nat_abs (pos eta +ℤ c)) in
    binomial-ways (2 * eta) eta (le_refl (2 * eta)) c
    ∙ ap (λ (x : ℕ). cond (within eta c) x 0) (ap (λ (e : ℕ). k * 2 ^ e) (sub_self (2 * eta)) ∙ mul-one k)

centered-within : (eta g : ℕ) → T (within eta (centered eta g))
centered-within eta g =
    le→leb (nat_abs (centered eta g)) eta
    (difference_at_most (total (take eta (digits 2 (2 * eta) g))) (total (take eta (drop eta (digits 2 (2 * eta) g))))
    (total_at_most (2 * eta) 0 eta g) (total_at_most (2 * eta) eta eta g))

-- a list of groups gives such coefficients, as many as there are groups
centered-every : (eta : ℕ) (gs : List ℕ) → T (every (within eta) (map (centered eta) gs))
unfolding every
centered-every eta [] = tt
centered-every eta (g ∷ gs) =
    and_i (within eta (centered eta g)) (every (within eta) (map (centered eta) gs)) (centered-within eta g) (centered-every eta gs)

centered-inside : (eta n : ℕ) (gs : List ℕ) → length gs ≡ n → T (list_of n (within eta) (map (centered eta) gs))
centered-inside eta n gs e =
    let long : length (map (centered eta) gs) ≡ n = length-map gs (centered eta) ∙ e in
    rw (eq-eqb (length (map (centered eta) gs)) n long) (centered-every eta gs)

-- ---- residues

-- small coefficients modulo q are their residues
modulo-encode : (q eta : ℕ) → eta < q → (v : ℤ) → T (within eta v) → modulo q v ≡ encode q v
modulo-encode q eta h (pos m) t = mod-eq_of_lt (omega (arith, leb→le m eta t))
modulo-encode q eta h (negsuc m) t =
    ap (λ (x : ℕ). q - suc x) (mod-eq_of_lt (omega (arith, leb→le (suc m) eta t)))

-- and their residues are apart
encode_injective : (q eta : ℕ) → 2 * eta < q → (u v : ℤ) → T (within eta u) → T (within eta v) → encode q u ≡ encode q v → u ≡ v
encode_injective q eta h (pos a) (pos b) s t e = ap pos e
encode_injective q eta h (pos a) (negsuc b) s t e = absurd (omega (arith, leb→le a eta s, leb→le (suc b) eta t))
encode_injective q eta h (negsuc a) (pos b) s t e = absurd (omega (arith, leb→le (suc a) eta s, leb→le b eta t))
encode_injective q eta h (negsuc a) (negsuc b) s t e = ap negsuc (omega (arith, leb→le (suc a) eta s, leb→le (suc b) eta t))

residues_injective : (q eta : ℕ) → 2 * eta < q → (us vs : List ℤ) → T (every (within eta) us) → T (every (within eta) vs)
    → map (encode q) us ≡ map (encode q) vs → us ≡ vs
unfolding every
residues_injective q eta h [] [] s t e = refl
residues_injective q eta h [] (v ∷ vs) s t e = let z : ◌≡◌ {A = ℕ} 0 1 = cc in absurd (omega arith)
residues_injective q eta h (u ∷ us) [] s t e = let z : ◌≡◌ {A = ℕ} 0 1 = cc in absurd (omega arith)
residues_injective q eta h (u ∷ us) (v ∷ vs) s t e =
    let first : encode q u ≡ encode q v = cc in
    let others : map (encode q) us ≡ map (encode q) vs = cc in
    ap₂ ◌∷◌
    (encode_injective q eta h u v (and_l (within eta u) (every (within eta) us) s) (and_l (within eta v) (every (within eta) vs) t) first)
    (residues_injective q eta h us vs (and_r (within eta u) (every (within eta) us) s) (and_r (within eta v) (every (within eta) vs) t) others)

-- ---- the polynomial of a byte string, by its groups

-- the n groups of a byte string, and the m bytes of a list of groups
abbrev groups_of : ℕ → ℕ → List ℕ → List ℕ
groups_of eta n B = regroup 2 8 (2 * eta) n B

abbrev bytes_of : ℕ → ℕ → List ℕ → List ℕ
bytes_of eta m gs = regroup 2 (2 * eta) 8 m gs

module _ (eta m n : ℕ) (small : 2 * eta < cbd_modulus) (as_many : m * 8 ≡ n * (2 * eta)) (B : List ℕ) (t : T (byte_string m B)) where
  -- bit j of group i
  group_bit : (i j : ℕ) → j < 2 * eta → get_or (digits 2 (2 * eta) (get_or (groups_of eta n B) i 0)) j 0 ≡ bit_of B (i * (2 * eta) + j)
  group_bit i j h =
      get_d_digits 2 (2 * eta) (get_or (groups_of eta n B) i 0) j h
      ∙ sym (get_d_split 2 (2 * eta) (groups_of eta n B) i j h)
      ∙ ap (λ (bs : List ℕ). get_or bs (i * (2 * eta) + j) 0) (split-regroup 2 8 (2 * eta) m n (omega arith) as_many B t)
      ∙ get_d_bits B (i * (2 * eta) + j)

  -- eta bits of a group, from its bit k on
  group_sum : (i k start : ℕ) → k + eta ≤ 2 * eta → i * (2 * eta) + k ≡ start
      → sum_to eta (λ j. bit_of B (start + j)) ≡ total (take eta (drop k (digits 2 (2 * eta) (get_or (groups_of eta n B) i 0))))
  group_sum i k start h e =
      sym (total-part eta k (digits 2 (2 * eta) (get_or (groups_of eta n B) i 0))
      ∙ sum_to_ext eta _ _ (λ j l. group_bit i (k + j) (omega arith) ∙ ap (bit_of B) (omega arith)))

  coefficient_group : (i : ℕ) → coefficient_of eta B i ≡ encode cbd_modulus (centered eta (get_or (groups_of eta n B) i 0))
  coefficient_group i =
      ap₂ (λ x y. modulo cbd_modulus (pos x -ℤ pos y)) (group_sum i 0 (2 * i * eta) (omega arith) (omega arith))
      (group_sum i eta (2 * i * eta + eta) (omega arith) (omega arith))
      ∙ modulo-encode cbd_modulus eta (omega arith) (centered eta (get_or (groups_of eta n B) i 0)) (centered-within eta (get_or (groups_of eta n B) i 0))

  polynomial_groups : tabulate n (coefficient_of eta B) ≡ map (encode cbd_modulus) (map (centered eta) (groups_of eta n B))
  polynomial_groups =
      let residue : ℕ → ℕ = λ g. encode cbd_modulus (centered eta g) in
      let long : length (tabulate n (coefficient_of eta B)) ≡ n = length-tabulate (coefficient_of eta B) n in
      ext_get_or (residue 0) (tabulate n (coefficient_of eta B)) (map residue (groups_of eta n B))
      (long ∙ sym (length-map (groups_of eta n B) residue ∙ length-pack 2 (2 * eta) n (split 2 8 B)))
      (λ i h. get_d_tabulate (coefficient_of eta B) n i (residue 0) (rw long at h) ∙ coefficient_group i ∙ sym (get_or-map residue (groups_of eta n B) i 0))
      ∙ sym (map-map (encode cbd_modulus) (centered eta) (groups_of eta n B))

-- ---- the count

module _ (eta m n : ℕ) (small : 2 * eta < cbd_modulus) (as_many : m * 8 ≡ n * (2 * eta)) where
  -- every byte string gives coefficients −eta..eta
  tabulated-inside : (B : List ℕ) → T (byte_string m B)
      → (vs : List ℤ) × T (list_of n (within eta) vs) × (tabulate n (coefficient_of eta B) ≡ map (encode cbd_modulus) vs)
  tabulated-inside B t = (
    map (centered eta) (groups_of eta n B),
    centered-inside eta n (groups_of eta n B) (length-pack 2 (2 * eta) n (split 2 8 B)),
    polynomial_groups eta m n small as_many B t,
  )

  module _ (vs : List ℤ) (inside : T (list_of n (within eta) vs)) where
    -- a list of groups that gives vs
    Gives : List ℕ → Type 0
    Gives gs = T (in_box (replicate n (2 ^ (2 * eta))) gs) × (map (centered eta) gs ≡ vs)

    groups-exactly : Exactly (List ℕ) (polynomial_formula eta vs) Gives
    unfolding Gives
    groups-exactly =
        decoded_exactly (replicate n (2 ^ (2 * eta))) (map (centered eta)) vs
        (map_law n (2 ^ (2 * eta)) (centered eta) (within eta) (λ v. binomial (2 * eta) (nat_abs (pos eta +ℤ v))) (centered-ways eta) vs
        ∙ ap (λ (b : Bool). cond b (polynomial_formula eta vs) 0) (T_true (list_of n (within eta) vs) inside))

    groups_back : (gs : List ℕ) → Gives gs → groups_of eta n (bytes_of eta m gs) ≡ gs
    unfolding Gives
    groups_back gs p = regroup_back 2 (2 * eta) 8 n m (omega arith) (sym as_many) gs p.0

    -- the bytes of such groups are a string that gives the polynomial
    string_gives : (B gs : List ℕ) → B ≡ bytes_of eta m gs → Gives gs
        → T (byte_string m B) × (tabulate n (coefficient_of eta B) ≡ map (encode cbd_modulus) vs)
    unfolding Gives
    string_gives B gs e p =
        let t : T (byte_string m B) = rw e (regroup_boxed 2 (2 * eta) 8 n m (omega arith) (sym as_many) gs p.0) in (
          t,
          polynomial_groups eta m n small as_many B t
              ∙ ap (λ (hs : List ℕ). map (encode cbd_modulus) (map (centered eta) hs)) (ap (groups_of eta n) e ∙ groups_back gs p)
              ∙ ap (map (encode cbd_modulus)) p.1,
        )

    -- and the groups of a string that gives the polynomial are such groups
    groups_give : (B : List ℕ) → T (byte_string m B) → tabulate n (coefficient_of eta B) ≡ map (encode cbd_modulus) vs → Gives (groups_of eta n B)
    unfolding Gives
    groups_give B t e = (
      regroup_boxed 2 8 (2 * eta) m n (omega arith) as_many B t,
      residues_injective cbd_modulus eta small (map (centered eta) (groups_of eta n B)) vs (centered-every eta (groups_of eta n B))
          (and_r (eqb (length vs) n) (every (within eta) vs) inside)
          (sym (polynomial_groups eta m n small as_many B t) ∙ e),
    )

    tabulated-exactly : Exactly (List ℕ) (polynomial_formula eta vs)
        (λ B. T (byte_string m B) × (tabulate n (coefficient_of eta B) ≡ map (encode cbd_modulus) vs))
    tabulated-exactly =
        exactly_as
        (exactly-map (bytes_of eta m) (λ gs hs p q e. sym (groups_back gs p) ∙ ap (groups_of eta n) e ∙ groups_back hs q) groups-exactly)
        (λ B p. string_gives B p.0 p.1 p.2)
        (λ B p. (groups_of eta n B, sym (regroup_back 2 8 (2 * eta) m n (omega arith) as_many B p.0), groups_give B p.0 p.1))

-- 64·eta bytes are 256 groups of 2·eta bits
string_bits : (eta : ℕ) → 64 * eta * 8 ≡ cbd_coefficients * (2 * eta)
string_bits eta = omega arith

-- a polynomial with centered coefficients is reached by as many byte strings as the formula says
pub polynomials-exactly : (eta : ℕ) → 2 * eta < cbd_modulus → (vs : List ℤ) → T (inside_polynomial eta vs)
    → Exactly (List ℕ) (polynomial_formula eta vs) (λ B. T (byte_string (64 * eta) B) × (polynomial_of eta B ≡ map (encode cbd_modulus) vs))
unfolding polynomial_of
polynomials-exactly eta small vs inside = tabulated-exactly eta (64 * eta) cbd_coefficients small (string_bits eta) vs inside

-- and every byte string reaches such a polynomial
pub polynomials-inside : (eta : ℕ) → 2 * eta < cbd_modulus → (B : List ℕ) → T (byte_string (64 * eta) B)
    → (vs : List ℤ) × T (inside_polynomial eta vs) × (polynomial_of eta B ≡ map (encode cbd_modulus) vs)
unfolding polynomial_of
polynomials-inside eta small B t = tabulated-inside eta (64 * eta) cbd_coefficients small (string_bits eta) B t
