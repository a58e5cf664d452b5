-- What a rule leaves is a tail of the words that it read from, so the place where it stops is that tail's beginning.
use mathlib.Core.Path.{◌≡◌, refl, ap, subst, ◌∙◌}
use mathlib.Core.Bool.{Bool, true, false, cond, ◌&&◌}
use mathlib.Core.List.{List, [], ◌∷◌, ◌++◌, append_assoc}
use Prim.Native.Nat.{ℕ, zero, suc, ◌+◌, ◌*◌, ◌-◌, ◌/◌, ◌^◌, ◌≤◌}
use native.Mathlib.Omega.{arith}
use lib.Dec.{ltb, leb, eqb}
use lib.ListN.{length, take, drop, length-append, take-append-drop}
use lib.Seq.{drop_at}
use Rattle.distr.specs.declared.secret_key_distr.SecretKeyDistr.{SecretKeyDistr}
use Rattle.distr.specs.declared.secret_key_distr.SecretKeyDistr.TheVariants.{UniformBinary, Binary, SparseTernary, UniformTernary, Ternary, FixedHammingWeightBinary, BlockBinary, FixedHammingWeightTernary, FixedCompositionTernary, Gaussian}
use Rattle.distr.specs.declared.error_distribution.ErrorDistribution.{ErrorDistribution}
use Rattle.distr.specs.declared.error_distribution.ErrorDistribution.TheVariants.{CenteredBinomial, Gaussian as ErrorGaussian}
use Rattle.distr.specs.Words.{Read, got, short, map_read, bind_read, word, wide, choose, many, choose_each}
use Rattle.distr.specs.Rule.{Rule}
use Rattle.distr.specs.Packed.{digits, signs_alone}
use Rattle.distr.specs.UniformTernary.{accepted_bytes, bytes}
use Rattle.distr.specs.Thresholds.{threshold, nonzero_end}
use Rattle.distr.specs.Insertion.{signs, choose_signed, signed_insertion}
use Rattle.distr.specs.Distribution.{Distr, secret, error, secret_rule, error_rule, rule}

-- the words left stand at the end of those there were
unfoldable Leaves : {A : Type 0} → List ℕ → Read A → Type 0
Leaves ws (got a rest) = (used : List ℕ) × (used ++ rest ≡ ws)
Leaves ws short = Unit {0}

module _ {A : Type 0} where
  one_more : (w : ℕ) (ws : List ℕ) (r : Read A) → Leaves ws r → Leaves (w ∷ ws) r
  unfolding Leaves
  one_more w ws (got a rest) l = (w ∷ l.0, ap (λ (x : List ℕ). w ∷ x) l.1)
  one_more w ws short l = tt

  either_leaves : (b : Bool) (ws : List ℕ) (r r' : Read A) → Leaves ws r → Leaves ws r' → Leaves ws (cond b r r')
  either_leaves true ws r r' l l' = l
  either_leaves false ws r r' l l' = l'

  map_leaves : {B : Type 0} (f : A → B) (ws : List ℕ) (r : Read A) → Leaves ws r → Leaves ws (map_read f r)
  unfolding Leaves map_read
  map_leaves f ws (got a rest) l = l
  map_leaves f ws short l = tt

  after : (used rest ws : List ℕ) → used ++ rest ≡ ws → (r : Read A) → Leaves rest r → Leaves ws r
  unfolding Leaves
  after used rest ws e (got a left) l = (used ++ l.0, append_assoc used l.0 left ∙ ap (λ (x : List ℕ). used ++ x) l.1 ∙ e)
  after used rest ws e short l = tt

  bind_leaves : {B : Type 0} (ws : List ℕ) (r : Read B) (next : B → List ℕ → Read A) → Leaves ws r
      → ((b : B) (rest : List ℕ) → Leaves rest (next b rest)) → Leaves ws (bind_read r next)
  unfolding Leaves bind_read
  bind_leaves ws (got b rest) next l then = after l.0 rest ws l.1 (next b rest) (then b rest)
  bind_leaves ws short next l then = tt

many_leaves : {A : Type 0} (one : List ℕ → Read A) → ((ws : List ℕ) → Leaves ws (one ws)) → (m : ℕ) (ws : List ℕ) → Leaves ws (many one m ws)
unfolding Leaves many
many_leaves one l zero ws = ([], refl)
many_leaves {A} one l (suc m) ws =
    bind_leaves ws (one ws) _ (l ws) (λ a rest. map_leaves (λ (rs : List A). a ∷ rs) rest (many one m rest) (many_leaves one l m rest))

word_leaves : (ws : List ℕ) → Leaves ws (word ws)
unfolding Leaves word
word_leaves [] = tt
word_leaves (w ∷ ws) = (w ∷ [], refl)

wide_leaves : (ws : List ℕ) → Leaves ws (wide ws)
unfolding Leaves wide
wide_leaves [] = tt
wide_leaves (low ∷ []) = tt
wide_leaves (low ∷ high ∷ ws) = (low ∷ high ∷ [], refl)

choose_leaves : (k : ℕ) (ws : List ℕ) → Leaves ws (choose k ws)
unfolding Leaves choose
choose_leaves k [] = tt
choose_leaves k (w ∷ ws) =
    either_leaves (ltb w (k * (2 ^ 32 / k))) (w ∷ ws) _ (choose k ws) (w ∷ [], refl) (one_more w ws (choose k ws) (choose_leaves k ws))

choices_leave : (ks ws : List ℕ) → Leaves ws (choose_each ks ws)
unfolding Leaves choose_each
choices_leave [] ws = ([], refl)
choices_leave (k ∷ ks) ws =
    bind_leaves ws (choose k ws) _ (choose_leaves k ws) (λ s rest. map_leaves (λ (ss : List ℕ). s ∷ ss) rest (choose_each ks rest) (choices_leave ks rest))

bytes_leave : (ws : List ℕ) (m : ℕ) → Leaves ws (bytes ws m)
unfolding Leaves bytes
bytes_leave [] zero = ([], refl)
bytes_leave [] (suc m) = tt
bytes_leave (w ∷ ws) zero = ([], refl)
bytes_leave (w ∷ ws) (suc m) =
    let found = accepted_bytes (digits 256 4 w) in
    let left = bytes ws (suc m - length found) in
    map_leaves (λ (rest : List ℕ). take (suc m) found ++ rest) (w ∷ ws) left (one_more w ws left (bytes_leave ws (suc m - length found)))

signs_leave : (bits ws : List ℕ) → Leaves ws (signs bits ws)
unfolding Leaves signs
signs_leave [] ws = map_leaves (λ (w : ℕ). digits 2 32 w) ws (word ws) (word_leaves ws)
signs_leave (b ∷ bs) ws = ([], refl)

signed_leave : (ks bits ws : List ℕ) → Leaves ws (choose_signed ks bits ws)
unfolding Leaves choose_signed
signed_leave [] bits ws = ([], refl)
signed_leave (k ∷ ks) bits ws =
    bind_leaves ws (signs bits ws) _ (signs_leave bits ws)
    (λ bs rest. bind_leaves rest (choose k rest) _ (choose_leaves k rest)
    (λ s left. map_leaves _ left (choose_signed ks (drop 1 bs) left) (signed_leave ks (drop 1 bs) left)))

-- a rule that leaves a tail
abbrev Tidy : Rule → Type 0
Tidy ρ = (ws : List ℕ) → Leaves ws (ρ.draws ws)

either_tidy : (b : Bool) (ρ ρ' : Rule) → Tidy ρ → Tidy ρ' → Tidy (cond b ρ ρ')
either_tidy true ρ ρ' t t' = t
either_tidy false ρ ρ' t t' = t'

nothing_read : (ws : List ℕ) → Leaves {A = List ℕ} ws (got [] ws)
unfolding Leaves
nothing_read ws = ([], refl)

words_tidy : (m : ℕ) (f : List ℕ → List ℕ) (ws : List ℕ) → Leaves ws (map_read f (many word m ws))
words_tidy m f ws = map_leaves f ws (many word m ws) (many_leaves word word_leaves m ws)

secret_tidy : (d : SecretKeyDistr) (n : ℕ) (bounds : List ℕ) → Tidy (secret_rule d n bounds)
unfolding secret_rule
secret_tidy UniformBinary n bounds = words_tidy (n / 32 + 1) _
secret_tidy (Binary p) n bounds = either_tidy (eqb (threshold p) (2 ^ 64)) _ _ nothing_read (many_leaves wide wide_leaves n)
secret_tidy SparseTernary n bounds = words_tidy ((n + 15) / 16) _
secret_tidy UniformTernary n bounds = λ ws. bytes_leave ws ((n + 4) / 5)
secret_tidy (Ternary minus plus) n bounds =
    either_tidy (eqb (threshold minus) (2 ^ 64)) _ _ nothing_read
    (either_tidy (eqb (nonzero_end (threshold minus) (threshold plus)) 0) _ _ nothing_read
    (either_tidy (eqb (threshold plus) (2 ^ 64)) _ _ nothing_read (many_leaves wide wide_leaves n)))
secret_tidy (FixedHammingWeightBinary h) n bounds = either_tidy (leb h (n - h)) _ _ (choices_leave _) (choices_leave _)
secret_tidy (BlockBinary size occupancy) n bounds = choices_leave _
secret_tidy (FixedHammingWeightTernary h) n bounds = either_tidy (eqb h n) (signs_alone n) (signed_insertion h n) (words_tidy ((n + 31) / 32) _) (signed_leave _ [])
secret_tidy (FixedCompositionTernary minus ones) n bounds =
    either_tidy (leb minus (n - (minus + ones)) && leb ones (n - (minus + ones))) _ _ (choices_leave _)
    (either_tidy (leb ones minus) _ _ (choices_leave _) (choices_leave _))
secret_tidy (Gaussian deviation) n bounds = many_leaves wide wide_leaves n

error_tidy : (d : ErrorDistribution) (n : ℕ) (bounds : List ℕ) → Tidy (error_rule d n bounds)
unfolding error_rule
error_tidy (ErrorGaussian deviation) n bounds = many_leaves wide wide_leaves n
error_tidy (CenteredBinomial eta) n bounds = many_leaves wide wide_leaves n

rule_tidy : (d : Distr) (n : ℕ) (bounds : List ℕ) → Tidy (rule d n bounds)
unfolding rule
rule_tidy (secret d) n bounds = secret_tidy d n bounds
rule_tidy (error d) n bounds = error_tidy d n bounds

-- the place that a draw answers, so many words before those left, is where they begin
pub stops : (d : Distr) (n : ℕ) (bounds words : List ℕ) (place : ℕ) (ds rest : List ℕ) → (rule d n bounds).draws (drop place words) ≡ got ds rest
    → (length words - length rest ≤ length words) × (drop (length words - length rest) words ≡ rest)
unfolding Leaves
stops d n bounds words place ds rest e =
    let l : Leaves (drop place words) (got ds rest) = subst (λ (r : Read (List ℕ)). Leaves (drop place words) r) e (rule_tidy d n bounds (drop place words)) in
    let before = take place words ++ l.0 in
    let whole : before ++ rest ≡ words =
    append_assoc (take place words) l.0 rest ∙ ap (λ (x : List ℕ). take place words ++ x) l.1 ∙ take-append-drop place words in
    let size : length before ≡ length words - length rest = omega (arith, length-append before rest, ap length whole) in
    (omega arith, subst (λ (x : List ℕ). drop (length words - length rest) x ≡ rest) whole (drop_at before rest _ size))
