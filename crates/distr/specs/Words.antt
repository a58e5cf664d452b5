-- Document 01, "Words and draws": lent words of 32 bits, and what is taken out of them.
use Rattle.std.specs.Prelude.{ℕ, zero, suc, ◌+◌, ◌*◌, ◌/◌, ◌%◌, ◌^◌, Bool, true, cond, ◌&&◌, List, [], ◌∷◌, leb, ltb, eqb}

-- Reading from the words that are left: a value with the words left then, or `short`, "the rules need a word that is not there".
pub data Read (A : Type 0) : Type 0 where
  got : A → List ℕ → Read A
  short : Read A

-- The value read, changed by f.
unfoldable pub map_read : {A B : Type 0} → (A → B) → Read A → Read B
map_read f (got a rest) = got (f a) rest
map_read f short = short

-- A reading, and then one that goes on with its value and the words left.
unfoldable pub bind_read : {A B : Type 0} → Read A → (A → List ℕ → Read B) → Read B
bind_read (got a rest) next = next a rest
bind_read short next = short

-- "Words are a lent list of u32."
unfoldable pub are_words : List ℕ → Bool
are_words [] = true
are_words (w ∷ ws) = ltb w (2 ^ 32) && are_words ws

-- The next word.
unfoldable pub word : List ℕ → Read ℕ
word [] = short
word (w ∷ ws) = got w ws

-- "A 64-bit word is two of them, low half first."
unfoldable pub wide : List ℕ → Read ℕ
wide [] = short
wide (low ∷ []) = short
wide (low ∷ high ∷ ws) = got (low + high * 2 ^ 32) ws

-- "A choice among k (1..2^32) reads a word, skips it if it is not below k × ⌊2^32/k⌋, and gives the remainder by k."
unfoldable pub choose : ℕ → List ℕ → Read ℕ
choose k [] = short
choose k (w ∷ ws) = cond (ltb w (k * (2 ^ 32 / k))) (got (w % k) ws) (choose k ws)

-- "A coin is yes for a word of 2^31 or more."
unfoldable pub coin : List ℕ → Read Bool
coin ws = map_read (λ w. leb (2 ^ 31) w) (word ws)

-- "Yes is a 64-bit word below it, and threshold 2^64 says yes without reading."
unfoldable pub chance : ℕ → List ℕ → Read Bool
chance threshold ws = cond (eqb threshold (2 ^ 64)) (got true ws) (map_read (λ w. ltb w threshold) (wide ws))

-- m readings of one kind, one after the other, and their values in that order.
unfoldable pub many : {A : Type 0} → (List ℕ → Read A) → ℕ → List ℕ → Read (List A)
many one zero ws = got [] ws
many one (suc m) ws = bind_read (one ws) (λ a rest. map_read (λ rs. a ∷ rs) (many one m rest))

-- A choice among each of the given numbers, one after the other.
unfoldable pub choose_each : List ℕ → List ℕ → Read (List ℕ)
choose_each [] ws = got [] ws
choose_each (k ∷ ks) ws = bind_read (choose k ws) (λ s rest. map_read (λ ss. s ∷ ss) (choose_each ks rest))
