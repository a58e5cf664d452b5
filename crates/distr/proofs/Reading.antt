-- Laws of reading from words: how many words are taken, and where the reading stops.
use mathlib.Core.Path.{◌≡◌, refl, sym, ap, ap₂, ◌∙◌}
use mathlib.Core.Bool.{Bool, true, false, cond, ◌&&◌, ◌||◌, true≢false}
use mathlib.Core.List.{List, [], ◌∷◌, ◌++◌}
use Prim.Native.Nat.{ℕ, zero, suc, ◌+◌, ◌*◌, ◌/◌, ◌%◌, ◌^◌, ◌<◌, ◌≤◌, suc-le-suc}
use native.Mathlib.Nat.{not-suc-le-zero, le_of_suc-le-suc, mod-lt}
use native.Mathlib.Omega.{arith}
use lib.Dec.{T, leb, ltb, leb-zero, leb-suc-zero, leb-suc-suc, leb→le, ltb→lt}
use borrow.Author.Tests.{ltb-true, le-ltb, lt-leb}
use lib.ListN.{length, get_or, take, drop, drop_of_length-le}
use lib.Seq.{drop-cons, get_or-drop}
use Rattle.distr.specs.Words.{Read, got, short, map_read, bind_read, are_words, word, wide, choose, many}
use Rattle.distr.specs.Skipped.{passed_over}

-- a reading that is there or not, changed by f
map-cond : {A B : Type 0} (f : A → B) (b : Bool) (a : A) (rest : List ℕ) → map_read f (cond b (got a rest) short) ≡ cond b (got (f a) rest) short
unfolding map_read
map-cond f true a rest = refl
map-cond f false a rest = refl

-- a word that is missing is none that was read
pub short-not-got : {A : Type 0} {a : A} {rest : List ℕ} → short ≡ got a rest → ⊥
short-not-got e = let z : ◌≡◌ {A = ℕ} 0 1 = cc in absurd (omega arith)

-- what a changed reading gives was read, and changed
pub map-got : {A B : Type 0} (f : A → B) (r : Read A) (b : B) (rest : List ℕ) → map_read f r ≡ got b rest → (a : A) × (r ≡ got a rest) × (b ≡ f a)
unfolding map_read
map-got f (got a left) b rest e = let same : got (f a) left ≡ got b rest = e in (a, cc, cc)
map-got f short b rest e = absurd (short-not-got e)

-- both of two tests
pub and_left : (a b : Bool) → T (a && b) → T a
and_left true b t = tt
and_left false b t = t

pub and_right : (a b : Bool) → T (a && b) → T b
and_right true b t = t
and_right false b t = absurd t

-- neither of two tests
pub or_false : (a b : Bool) → (a || b) ≡ false → (a ≡ false) × (b ≡ false)
or_false true b e = absurd (true≢false e)
or_false false b e = (refl, e)

-- both of two tests, as equations
pub both_true : (a b : Bool) → (a && b) ≡ true → (a ≡ true) × (b ≡ true)
both_true true b e = (refl, e)
both_true false b e = absurd (true≢false (sym e))

pub and_both : (a b : Bool) → T a → T b → T (a && b)
and_both true b t u = u
and_both false b t u = t

-- a test that holds, as an equation
pub T_true : (b : Bool) → T b → b ≡ true
T_true true t = refl
T_true false t = absurd t

-- m words are there, and are taken as they stand, or one is missing
pub many-word : (m : ℕ) (ws : List ℕ) → many word m ws ≡ cond (leb m (length ws)) (got (take m ws) (drop m ws)) short
unfolding many word bind_read map_read
many-word zero ws = rw leb-zero
many-word (suc m) [] = rw leb-suc-zero
many-word (suc m) (w ∷ ws) =
    rw (leb-suc-suc m (length ws), many-word m ws) (map-cond (λ (rs : List ℕ). w ∷ rs) (leb m (length ws)) (take m ws) (drop m ws))

-- the 64-bit words of a list of words, low half first
unfoldable pub wides : ℕ → List ℕ → List ℕ
wides zero ws = []
wides (suc n) ws = (get_or ws 0 0 + get_or ws 1 0 * 2 ^ 32) ∷ wides n (drop 2 ws)

pub length-wides : (n : ℕ) (ws : List ℕ) → length (wides n ws) ≡ n
unfolding wides
length-wides zero ws = refl
length-wides (suc n) ws = ap suc (length-wides n (drop 2 ws))

pub get_d_wides : (n i : ℕ) (ws : List ℕ) → i < n → get_or (wides n ws) i 0 ≡ get_or ws (2 * i) 0 + get_or ws (2 * i + 1) 0 * 2 ^ 32
unfolding wides
get_d_wides zero i ws h = absurd (not-suc-le-zero h)
get_d_wides (suc n) zero ws h = refl
get_d_wides (suc n) (suc i) ws h = get_d_wides n i (drop 2 ws) (le_of_suc-le-suc h)
    ∙ ap₂ (λ (a b : ℕ). a + b * 2 ^ 32) (behind (2 * i) (2 * suc i) (omega arith)) (behind (2 * i + 1) (2 * suc i + 1) (omega arith))
  where
    behind : (j l : ℕ) → 2 + j ≡ l → get_or (drop 2 ws) j 0 ≡ get_or ws l 0
    behind j l e = get_or-drop 2 ws j 0 ∙ ap (λ (k : ℕ). get_or ws k 0) e

pub many-wide : (n : ℕ) (ws : List ℕ) → many wide n ws ≡ cond (leb (2 * n) (length ws)) (got (wides n ws) (drop (2 * n) ws)) short
unfolding many wide bind_read map_read wides
many-wide zero ws = rw leb-zero
many-wide (suc n) [] = rw (lt-leb (2 * suc n) 0 (omega arith))
many-wide (suc n) (x ∷ []) = rw (lt-leb (2 * suc n) 1 (omega arith))
many-wide (suc n) (x ∷ y ∷ ws) =
    rw (many-wide n ws, twice n, leb-suc-suc, leb-suc-suc)
    (map-cond (λ (rs : List ℕ). (x + y * 2 ^ 32) ∷ rs) (leb (2 * n) (length ws)) (wides n ws) (drop (2 * n) ws))
  where
    twice : (m : ℕ) → 2 * suc m ≡ suc (suc (2 * m))
    twice m = omega arith

-- words below 2^32
pub word_below : (ws : List ℕ) → T (are_words ws) → (i : ℕ) → i < length ws → get_or ws i 0 < 2 ^ 32
unfolding are_words
word_below [] t i h = absurd (not-suc-le-zero h)
word_below (w ∷ ws) t zero h = ltb→lt w (2 ^ 32) (and_left (ltb w (2 ^ 32)) (are_words ws) t)
word_below (w ∷ ws) t (suc i) h = word_below ws (and_right (ltb w (2 ^ 32)) (are_words ws) t) i (le_of_suc-le-suc h)

pub are_words-drop : (ws : List ℕ) (i : ℕ) → T (are_words ws) → T (are_words (drop i ws))
unfolding are_words
are_words-drop ws zero t = t
are_words-drop [] (suc i) t = tt
are_words-drop (w ∷ ws) (suc i) t = are_words-drop ws i (and_right (ltb w (2 ^ 32)) (are_words ws) t)

pub are_words_append : (xs ys : List ℕ) → T (are_words xs) → T (are_words ys) → T (are_words (xs ++ ys))
unfolding are_words
are_words_append [] ys t u = u
are_words_append (x ∷ xs) ys t u =
    and_both (ltb x (2 ^ 32)) (are_words (xs ++ ys)) (and_left (ltb x (2 ^ 32)) (are_words xs) t)
    (are_words_append xs ys (and_right (ltb x (2 ^ 32)) (are_words xs) t) u)

-- a choice that succeeds passes over j words and takes the one after them
pub record Chose (k : ℕ) (ws : List ℕ) (s : ℕ) (rest : List ℕ) : Type 0 where
  pub passed : ℕ
  pub counted : passed_over k ws ≡ passed
  pub there : passed < length ws
  pub left : rest ≡ drop (suc passed) ws
  pub value : s ≡ get_or ws passed 0 % k
  pub below : s < k

-- a choice accepts no word where there is nothing to choose from
positive : (k w : ℕ) → w < k * (2 ^ 32 / k) → 0 < k
positive zero w h = omega arith
positive (suc k) w h = omega arith

pub chose : (k : ℕ) (ws : List ℕ) (s : ℕ) (rest : List ℕ) → choose k ws ≡ got s rest → Chose k ws s rest
unfolding choose passed_over
chose k [] s rest e = absurd (short-not-got e)
chose k (w ∷ ws) s rest e = go (ltb w (k * (2 ^ 32 / k))) refl e (chose k ws s rest)
  where
    go : (b : Bool) → ltb w (k * (2 ^ 32 / k)) ≡ b → cond b (got (w % k) ws) (choose k ws) ≡ got s rest
        → (choose k ws ≡ got s rest → Chose k ws s rest) → Chose k (w ∷ ws) s rest
    go true t q later =
        let value : s ≡ w % k = cc in
        let below : w % k < k = mod-lt w {m = k} (positive k w (ltb-true w (k * (2 ^ 32 / k)) t)) in
        record { passed = 0; counted = rw t; there = omega arith; left = cc; value = value; below = omega arith }
    go false t q later =
        let c = later q in
        record { passed = suc c.passed; counted = rw (t, c.counted); there = suc-le-suc c.there; left = c.left; value = c.value; below = c.below }

-- a word at hand: accepted, or passed over
pub choose_accept : (k i : ℕ) (ws : List ℕ) → i < length ws → T (ltb (get_or ws i 0) (k * (2 ^ 32 / k))) → choose k (drop i ws) ≡ got (get_or ws i 0 % k) (drop (suc i) ws)
unfolding choose
choose_accept k i ws h t = rw (drop-cons ws i 0 h, T_true (ltb (get_or ws i 0) (k * (2 ^ 32 / k))) t)

pub choose_skip : (k i : ℕ) (ws : List ℕ) → i < length ws → T (leb (k * (2 ^ 32 / k)) (get_or ws i 0)) → choose k (drop i ws) ≡ choose k (drop (suc i) ws)
unfolding choose
choose_skip k i ws h t = rw (drop-cons ws i 0 h, le-ltb (get_or ws i 0) (k * (2 ^ 32 / k)) (leb→le (k * (2 ^ 32 / k)) (get_or ws i 0) t))

-- so many are passed over: none before a word that is accepted, one more before those after a word that is not
pub passed_accept : (k i : ℕ) (ws : List ℕ) → i < length ws → T (ltb (get_or ws i 0) (k * (2 ^ 32 / k))) → passed_over k (drop i ws) ≡ 0
unfolding passed_over
passed_accept k i ws h t = rw (drop-cons ws i 0 h, T_true (ltb (get_or ws i 0) (k * (2 ^ 32 / k))) t)

pub passed_skip : (k i : ℕ) (ws : List ℕ) → i < length ws → T (leb (k * (2 ^ 32 / k)) (get_or ws i 0))
    → passed_over k (drop i ws) ≡ suc (passed_over k (drop (suc i) ws))
unfolding passed_over
passed_skip k i ws h t = rw (drop-cons ws i 0 h, le-ltb (get_or ws i 0) (k * (2 ^ 32 / k)) (leb→le (k * (2 ^ 32 / k)) (get_or ws i 0) t))

-- past the end there is nothing
pub choose-end : (k i : ℕ) (ws : List ℕ) → length ws ≤ i → choose k (drop i ws) ≡ short
unfolding choose
choose-end k i ws h = rw (drop_of_length-le ws {i = i} h)

-- a reading changed twice
pub map_read_twice : {A B C : Type 0} (g : B → C) (f : A → B) (r : Read A) → map_read g (map_read f r) ≡ map_read (λ a. g (f a)) r
unfolding map_read
map_read_twice g f (got a rest) = refl
map_read_twice g f short = refl

pub map_read_same : {A B : Type 0} (f g : A → B) → ((a : A) → f a ≡ g a) → (r : Read A) → map_read f r ≡ map_read g r
unfolding map_read
map_read_same f g h (got a rest) = ap (λ b. got b rest) (h a)
map_read_same f g h short = refl
