-- Tries until one is kept: a try that reads leaves fewer words, so one coefficient is one try, and then one coefficient of what is left.
use mathlib.Core.Path.{◌≡◌, refl, sym, ap, ◌∙◌}
use mathlib.Core.Bool.{Bool, true, false, cond, ◌&&◌}
use mathlib.Core.List.{List, [], ◌∷◌}
use Prim.Native.Nat.{ℕ, zero, suc, ◌+◌, ◌-◌, ◌*◌, ◌/◌, ◌%◌, ◌^◌, ◌≤◌}
use native.Mathlib.Nat.{le_refl, le_trans, le_of_suc-le-suc}
use native.Mathlib.Omega.{arith}
use lib.Dec.{leb, ltb, eqb}
use lib.ListN.{length, get_or}
use lib.IntN.{ℤ}
use lib.Ieee.{Float, le}
use Rattle.distr.specs.Words.{Read, got, short, map_read, bind_read, word, wide, choose, coin, chance}
use Rattle.distr.specs.Skipped.{passed_over, passed_after}
use Rattle.distr.specs.Gaussian.{with_sign}
use Rattle.distr.specs.Layered.{Layers, layer_count, x, float, accepts, zero_threshold, judge, Tried, kept, rejected, try, or_else, tries, layered_one, passed_try, passed_else, passed_tries, passed_one}
use Rattle.ziggurat.specs.Sampling.{Proposed, propose}

-- a reading leaves at most n words
abbrev AtMost : {A : Type 0} → Read A → ℕ → Type 0
AtMost (got a rest) n = length rest ≤ n
AtMost short n = Unit

more : {A : Type 0} (r : Read A) (n : ℕ) → AtMost r n → AtMost r (suc n)
more (got a rest) n h = omega arith
more short n h = tt

map_keeps : {A B : Type 0} (f : A → B) (r : Read A) (n : ℕ) → AtMost r n → AtMost (map_read f r) n
unfolding map_read
map_keeps f (got a rest) n h = h
map_keeps f short n h = tt

bind_keeps : {A B : Type 0} (r : Read A) (next : A → List ℕ → Read B) (n : ℕ) → AtMost r n
    → ((a : A) (rest : List ℕ) → AtMost (next a rest) (length rest)) → AtMost (bind_read r next) n
unfolding bind_read
bind_keeps {B = B} (got a rest) next n h keeps = lower (next a rest) (keeps a rest)
  where
    lower : (r : Read B) → AtMost r (length rest) → AtMost r n
    lower (got b later) k = le_trans k h
    lower short k = tt
bind_keeps short next n h keeps = tt

cond_keeps : {A : Type 0} (b : Bool) (r s : Read A) (n : ℕ) → AtMost r n → AtMost s n → AtMost (cond b r s) n
cond_keeps true r s n h k = h
cond_keeps false r s n h k = k

word_keeps : (ws : List ℕ) → AtMost (word ws) (length ws)
unfolding word
word_keeps [] = tt
word_keeps (w ∷ ws) = omega arith

wide_keeps : (ws : List ℕ) → AtMost (wide ws) (length ws)
unfolding wide
wide_keeps [] = tt
wide_keeps (w ∷ []) = tt
wide_keeps (w ∷ v ∷ ws) = omega arith

choose_keeps : (k : ℕ) (ws : List ℕ) → AtMost (choose k ws) (length ws)
unfolding choose
choose_keeps k [] = tt
choose_keeps k (w ∷ ws) =
    cond_keeps (ltb w (k * (2 ^ 32 / k))) (got (w % k) ws) (choose k ws) (suc (length ws)) (omega arith) (more (choose k ws) (length ws) (choose_keeps k ws))

-- a choice takes a word
choose_less : (k w : ℕ) (ws : List ℕ) → AtMost (choose k (w ∷ ws)) (length ws)
unfolding choose
choose_less k w ws = cond_keeps (ltb w (k * (2 ^ 32 / k))) (got (w % k) ws) (choose k ws) (length ws) (le_refl (length ws)) (choose_keeps k ws)

coin_keeps : (ws : List ℕ) → AtMost (coin ws) (length ws)
unfolding coin
coin_keeps ws = map_keeps (λ w. leb (2 ^ 31) w) (word ws) (length ws) (word_keeps ws)

chance_keeps : (threshold : ℕ) (ws : List ℕ) → AtMost (chance threshold ws) (length ws)
unfolding chance
chance_keeps threshold ws =
    cond_keeps (eqb threshold (2 ^ 64)) (got true ws) (map_read (λ w. ltb w threshold) (wide ws)) (length ws) (le_refl (length ws))
    (map_keeps (λ w. ltb w threshold) (wide ws) (length ws) (wide_keeps ws))

-- what follows a try that is kept or not
or_else_same : (r : Read Tried) (n : ℕ) (f g : List ℕ → Read ℤ) → AtMost r n → ((rest : List ℕ) → length rest ≤ n → f rest ≡ g rest)
    → or_else r f ≡ or_else r g
unfolding or_else
or_else_same (got (kept v) rest) n f g h same = refl
or_else_same (got rejected rest) n f g h same = same rest h
or_else_same short n f g h same = refl

-- and what it passes over
passed_else_same : (r : Read Tried) (n : ℕ) (f g : List ℕ → ℕ) → AtMost r n → ((rest : List ℕ) → length rest ≤ n → f rest ≡ g rest)
    → passed_else r f ≡ passed_else r g
unfolding passed_else
passed_else_same (got (kept v) rest) n f g h same = refl
passed_else_same (got rejected rest) n f g h same = same rest h
passed_else_same short n f g h same = refl

module _ (deviation : Float) (t : Layers) where
  judge_keeps : (i m : ℕ) (ws : List ℕ) → AtMost (judge deviation t i m ws) (length ws)
  judge_keeps i m ws =
      cond_keeps (le (float m) (x t (i - 1)) && ltb 0 m) (got true ws) _ (length ws) (le_refl (length ws))
      (cond_keeps (eqb m 0) (chance (zero_threshold t) ws) (map_read (λ u. accepts deviation t i m u) (word ws)) (length ws) (chance_keeps (zero_threshold t) ws)
      (map_keeps (λ u. accepts deviation t i m u) (word ws) (length ws) (word_keeps ws)))

  -- a try takes a word, or lacks one
  try_less : (w : ℕ) (ws : List ℕ) → AtMost (try deviation t (w ∷ ws)) (length ws)
  unfolding try
  try_less w ws =
      bind_keeps (choose (layer_count t) (w ∷ ws)) _ (length ws) (choose_less (layer_count t) w ws) (λ layer ws₁.
      bind_keeps (coin ws₁) _ (length ws₁) (coin_keeps ws₁) (λ positive ws₂.
      bind_keeps (choose (suc (get_or t.endpoints (layer + 1) 0)) ws₂) _ (length ws₂) (choose_keeps (suc (get_or t.endpoints (layer + 1) 0)) ws₂) (λ m ws₃.
      map_keeps _ (judge deviation t (layer + 1) m ws₃) (length ws₃) (judge_keeps (layer + 1) m ws₃))))

  try_none : try deviation t [] ≡ short
  unfolding try choose bind_read
  try_none = refl

  -- as many tries as there are words are as good as more
  tries-enough : (k l : ℕ) (ws : List ℕ) → length ws ≤ k → length ws ≤ l → tries k deviation t ws ≡ tries l deviation t ws
  unfolding tries or_else
  tries-enough zero zero ws h j = refl
  tries-enough zero (suc l) [] h j = sym (ap (λ (r : Read Tried). or_else r (tries l deviation t)) try_none)
  tries-enough zero (suc l) (w ∷ ws) h j = absurd (omega arith)
  tries-enough (suc k) zero [] h j = ap (λ (r : Read Tried). or_else r (tries k deviation t)) try_none
  tries-enough (suc k) zero (w ∷ ws) h j = absurd (omega arith)
  tries-enough (suc k) (suc l) [] h j = rw try_none
  tries-enough (suc k) (suc l) (w ∷ ws) h j =
      or_else_same (try deviation t (w ∷ ws)) (length ws) (tries k deviation t) (tries l deviation t) (try_less w ws)
      (λ rest n. tries-enough k l rest (le_trans n (le_of_suc-le-suc h)) (le_trans n (le_of_suc-le-suc j)))

  -- one coefficient is one try, and then one of what is left
  one-try : (ws : List ℕ) → layered_one deviation t ws ≡ or_else (try deviation t ws) (layered_one deviation t)
  unfolding tries or_else
  one-try [] = rw try_none
  one-try (w ∷ ws) =
      or_else_same (try deviation t (w ∷ ws)) (length ws) (tries (length ws) deviation t) (layered_one deviation t) (try_less w ws)
      (λ rest n. tries-enough (length ws) (length rest) rest n (le_refl (length rest)))

  -- the same of what the tries pass over
  nothing-passed : (again : List ℕ → ℕ) → passed_try t [] + passed_else (try deviation t []) again ≡ 0
  unfolding passed_try passed_over passed_after passed_else choose
  nothing-passed again = rw try_none

  passed-enough : (k l : ℕ) (ws : List ℕ) → length ws ≤ k → length ws ≤ l → passed_tries k deviation t ws ≡ passed_tries l deviation t ws
  unfolding passed_tries
  passed-enough zero zero ws h j = refl
  passed-enough zero (suc l) [] h j = sym (nothing-passed (passed_tries l deviation t))
  passed-enough zero (suc l) (w ∷ ws) h j = absurd (omega arith)
  passed-enough (suc k) zero [] h j = nothing-passed (passed_tries k deviation t)
  passed-enough (suc k) zero (w ∷ ws) h j = absurd (omega arith)
  passed-enough (suc k) (suc l) [] h j = nothing-passed (passed_tries k deviation t) ∙ sym (nothing-passed (passed_tries l deviation t))
  passed-enough (suc k) (suc l) (w ∷ ws) h j =
      ap (λ (n : ℕ). passed_try t (w ∷ ws) + n)
      (passed_else_same (try deviation t (w ∷ ws)) (length ws) (passed_tries k deviation t) (passed_tries l deviation t) (try_less w ws)
      (λ rest n. passed-enough k l rest (le_trans n (le_of_suc-le-suc h)) (le_trans n (le_of_suc-le-suc j))))

  passed-try : (ws : List ℕ) → passed_one deviation t ws ≡ passed_try t ws + passed_else (try deviation t ws) (passed_one deviation t)
  unfolding passed_tries
  passed-try [] = sym (nothing-passed (passed_one deviation t))
  passed-try (w ∷ ws) =
      ap (λ (n : ℕ). passed_try t (w ∷ ws) + n)
      (passed_else_same (try deviation t (w ∷ ws)) (length ws) (passed_tries (length ws) deviation t) (passed_one deviation t) (try_less w ws)
      (λ rest n. passed-enough (length ws) (length rest) rest n (le_refl (length rest))))

  -- a try in two halves: what is proposed, and its judging
  abbrev verdict : Proposed → List ℕ → Read Tried
  verdict p ws = map_read (λ passed. cond passed (kept (with_sign p.positive p.magnitude)) rejected) (judge deviation t p.layer p.magnitude ws)

  abbrev proposal : ℕ → Bool → ℕ → Proposed
  proposal chosen positive m = record { layer = chosen + 1; positive = positive; magnitude = m }

  abbrev magnitudes : ℕ → List ℕ → Read ℕ
  magnitudes chosen ws = choose (suc (get_or t.endpoints (chosen + 1) 0)) ws

  try-halves : (ws : List ℕ) → try deviation t ws ≡ bind_read (propose t.endpoints ws) verdict
  unfolding try propose bind_read map_read
  try-halves ws = by-layer (choose (layer_count t) ws)
    where
      by-magnitude : (chosen : ℕ) (positive : Bool) (r : Read ℕ)
          → bind_read r (λ m rest. verdict (proposal chosen positive m) rest) ≡ bind_read (map_read (proposal chosen positive) r) verdict
      by-magnitude chosen positive (got m rest) = refl
      by-magnitude chosen positive short = refl

      by-coin : (chosen : ℕ) (r : Read Bool)
          → bind_read r (λ positive rest. bind_read (magnitudes chosen rest) (λ m later. verdict (proposal chosen positive m) later))
          ≡ bind_read (bind_read r (λ positive rest. map_read (proposal chosen positive) (magnitudes chosen rest))) verdict
      by-coin chosen (got positive rest) = by-magnitude chosen positive (magnitudes chosen rest)
      by-coin chosen short = refl

      by-layer : (r : Read ℕ)
          → bind_read r (λ chosen ws₁. bind_read (coin ws₁) (λ positive rest.
          bind_read (magnitudes chosen rest) (λ m later. verdict (proposal chosen positive m) later)))
          ≡ bind_read (bind_read r (λ chosen ws₁. bind_read (coin ws₁) (λ positive rest. map_read (proposal chosen positive) (magnitudes chosen rest)))) verdict
      by-layer (got chosen rest) = by-coin chosen (coin rest)
      by-layer short = refl

  -- what a proposal and its judging make of a coefficient
  module _ (ws : List ℕ) where
    pub none_proposed : propose t.endpoints ws ≡ short → layered_one deviation t ws ≡ short
    unfolding bind_read or_else
    none_proposed e = one-try ws ∙ rw (try-halves ws, e)

    module _ (p : Proposed) (rest : List ℕ) (proposed : propose t.endpoints ws ≡ got p rest) where
      judged : (r : Read Bool) → judge deviation t p.layer p.magnitude rest ≡ r
          → layered_one deviation t ws
          ≡ or_else (map_read (λ passed. cond passed (kept (with_sign p.positive p.magnitude)) rejected) r) (layered_one deviation t)
      unfolding bind_read
      judged r e = one-try ws ∙ ap (λ (q : Read Tried). or_else q (layered_one deviation t)) (try-halves ws ∙ rw (proposed, e))

      pub none_judged : judge deviation t p.layer p.magnitude rest ≡ short → layered_one deviation t ws ≡ short
      unfolding or_else map_read
      none_judged e = judged short e

      pub one-judged : (passed : Bool) (later : List ℕ) → judge deviation t p.layer p.magnitude rest ≡ got passed later
          → layered_one deviation t ws ≡ cond passed (got (with_sign p.positive p.magnitude) later) (layered_one deviation t later)
      unfolding or_else map_read
      one-judged true later e = judged (got true later) e
      one-judged false later e = judged (got false later) e

      -- and of what it passes over
      pub passed-judged : (passed : Bool) (later : List ℕ) → judge deviation t p.layer p.magnitude rest ≡ got passed later
          → passed_one deviation t ws ≡ passed_try t ws + cond passed 0 (passed_one deviation t later)
      unfolding bind_read map_read passed_else
      passed-judged true later e = passed-try ws ∙ rw (try-halves ws, proposed, e)
      passed-judged false later e = passed-try ws ∙ rw (try-halves ws, proposed, e)
