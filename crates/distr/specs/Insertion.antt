-- Fixed composition and fixed weights: values inserted at chosen places.
use Rattle.std.specs.Prelude.{ℕ, zero, suc, ◌+◌, ◌-◌, cond, ◌&&◌, List, [], ◌∷◌, ◌++◌, leb, eqb, length, get_or, set, replicate, drop, ℤ, pos}
use Rattle.distr.specs.Words.{Read, got, map_read, bind_read, word, choose, choose_each}
use Rattle.distr.specs.Skipped.{skipped_words, passed_over, passed_after, passed_each}
use Rattle.distr.specs.Rule.{Rule}
use Rattle.distr.specs.Packed.{digits, minus_one, sign_value, signs_alone}

-- m numbers from a on.
unfoldable pub count_up : ℕ → ℕ → List ℕ
count_up a zero = []
count_up a (suc m) = a ∷ count_up (suc a) m

-- "Inserting at index i chooses s among i+1, copies place s to i and puts the value at s." The list so far has i elements, so place i is
-- new; where s is i itself, nothing stands there to copy, and the new place gets the value alone.
unfoldable pub inserted : ℤ → List ℤ → ℕ → List ℤ
inserted v xs s = set (xs ++ (get_or xs s v ∷ [])) s v

-- The values inserted one after the other, each at its choice.
unfoldable pub insert_each : List ℤ → List ℕ → List ℤ → List ℤ
insert_each [] ss xs = xs
insert_each (v ∷ vs) [] xs = xs
insert_each (v ∷ vs) (s ∷ ss) xs = insert_each vs ss (inserted v xs s)

-- Values inserted into copies of another, up to n: "for each index i from n−m to n−1 a value 0..i", "chooses s among i+1".
abbrev pub insertion : ℤ → List ℤ → ℕ → Rule
insertion fill values n = record {
  ranges = count_up (suc (n - length values)) (length values);
  draws = choose_each (count_up (suc (n - length values)) (length values));
  decode = λ ss. insert_each values ss (replicate (n - length values) fill);
  skips = λ ws. skipped_words (passed_each (count_up (suc (n - length values)) (length values)) ws);
}

-- "Fixed composition: the commonest value fills (ties: 0, then −1, then 1); the other two follow in that order."
abbrev pub fixed_composition : ℕ → ℕ → ℕ → Rule
fixed_composition minus ones n =
    let zeros = n - (minus + ones) in
    cond (leb minus zeros && leb ones zeros) (insertion (pos 0) (replicate minus minus_one ++ replicate ones (pos 1)) n)
    (cond (leb ones minus) (insertion minus_one (replicate zeros (pos 0) ++ replicate ones (pos 1)) n)
    (insertion (pos 1) (replicate zeros (pos 0) ++ replicate minus minus_one) n))

-- "Fixed binary weight h: ones into zeros if h ≤ n−h, else zeros into ones."
abbrev pub fixed_binary_weight : ℕ → ℕ → Rule
fixed_binary_weight h n =
    cond (leb h (n - h)) (insertion (pos 0) (replicate h (pos 1)) n) (insertion (pos 1) (replicate (n - h) (pos 0)) n)

-- The signs at hand: where none are left, "each 32 signs take a word".
unfoldable pub signs : List ℕ → List ℕ → Read (List ℕ)
signs [] ws = map_read (λ w. digits 2 32 w) (word ws)
signs (b ∷ bs) ws = got (b ∷ bs) ws

-- A sign bit and a choice among each of the given numbers; the signs' word is "read before the choice".
unfoldable pub choose_signed : List ℕ → List ℕ → List ℕ → Read (List ℕ)
choose_signed [] bits ws = got [] ws
choose_signed (k ∷ ks) bits ws =
    bind_read (signs bits ws) (λ bs rest.
    bind_read (choose k rest) (λ s left.
    map_read (λ ds. get_or bs 0 0 ∷ s ∷ ds) (choose_signed ks (drop 1 bs) left)))

-- 02 [1]: what the choices of `choose_signed` pass over; a word of signs is used, not skipped.
unfoldable pub passed_signed : List ℕ → List ℕ → List ℕ → ℕ
passed_signed [] bits ws = 0
passed_signed (k ∷ ks) bits ws =
    passed_after (signs bits ws) (λ bs rest.
    passed_over k rest + passed_after (choose k rest) (λ s left. passed_signed ks (drop 1 bs) left))

-- Each sign's value inserted at the choice that follows the sign.
unfoldable pub insert_signed : List ℕ → List ℤ → List ℤ
insert_signed [] xs = xs
insert_signed (b ∷ []) xs = xs
insert_signed (b ∷ s ∷ ds) xs = insert_signed ds (inserted (sign_value b) xs s)

-- "A sign bit before it": 2 before each range.
unfoldable pub sign_before : List ℕ → List ℕ
sign_before [] = []
sign_before (k ∷ ks) = 2 ∷ k ∷ sign_before ks

-- "Fixed ternary weight h < n: insertion at n−h..n−1." Here, as in the two above, "signed" is said of insertions that have a sign bit each; elsewhere it
-- is said of the output.
abbrev pub signed_insertion : ℕ → ℕ → Rule
signed_insertion h n = record {
  ranges = sign_before (count_up (suc (n - h)) h);
  draws = choose_signed (count_up (suc (n - h)) h) [];
  decode = λ ds. insert_signed ds (replicate (n - h) (pos 0));
  skips = λ ws. skipped_words (passed_signed (count_up (suc (n - h)) h) [] ws);
}

-- "With h = n only signs are read."
abbrev pub fixed_ternary_weight : ℕ → ℕ → Rule
fixed_ternary_weight h n = cond (eqb h n) (signs_alone n) (signed_insertion h n)
