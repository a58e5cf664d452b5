-- Insertion with the choices read on the way: it is the rule's, it keeps to any map of the values, and a loop's turn does one step of it.
use mathlib.Core.Path.{◌≡◌, refl, sym, ap, ◌∙◌}
use mathlib.Core.List.{List, [], ◌∷◌, ◌++◌, map}
use Prim.Native.Nat.{ℕ, zero, suc, ◌<◌, ◌≤◌}
use native.Mathlib.Omega.{arith}
use lib.ListN.{length, get_or, take, set, length-append, length-set, length-map, get_or-map}
use lib.Seq.{take-set-lt, take-suc-set, length-take-le, get_or-take}
use lib.IntN.{ℤ}
use Rattle.distr.specs.Words.{Read, got, short, map_read, bind_read, choose, choose_each}
use Rattle.distr.specs.Insertion.{count_up, inserted, insert_each}
use Rattle.distr.proofs.Reading.{map_read_twice}
use Rattle.distr.proofs.Writing.{map_append, map-set}
use Rattle.fixed_weights.specs.Inserting.{inserted_at, insert_all}

-- a reading that goes on, changed at its end
pub map_bind : {A B C : Type 0} (g : B → C) (r : Read A) (next : A → List ℕ → Read B)
    → map_read g (bind_read r next) ≡ bind_read r (λ a rest. map_read g (next a rest))
unfolding map_read bind_read
map_bind g (got a rest) next = refl
map_bind g short next = refl

pub bind_same : {A B : Type 0} (r : Read A) (f g : A → List ℕ → Read B) → ((a : A) (rest : List ℕ) → f a rest ≡ g a rest) → bind_read r f ≡ bind_read r g
unfolding bind_read
bind_same (got a rest) f g h = h a rest
bind_same short f g h = refl

-- readings one after the other, however they are grouped
pub bind_bind : {A B C : Type 0} (r : Read A) (f : A → List ℕ → Read B) (g : B → List ℕ → Read C)
    → bind_read (bind_read r f) g ≡ bind_read r (λ a rest. bind_read (f a rest) g)
unfolding bind_read
bind_bind (got a rest) f g = refl
bind_bind short f g = refl

pub bind_map : {A B C : Type 0} (h : A → B) (r : Read A) (f : B → List ℕ → Read C) → bind_read (map_read h r) f ≡ bind_read r (λ a rest. f (h a) rest)
unfolding bind_read map_read
bind_map h (got a rest) f = refl
bind_map h short f = refl

module _ {A : Type 0} where
  pub length_inserted : (v : A) (xs : List A) (s : ℕ) → length (inserted_at v xs s) ≡ suc (length xs)
  unfolding inserted_at
  length_inserted v xs s = simp (length-set, length-append) (omega arith)

  get_d_any : (xs : List A) (i : ℕ) (d e : A) → i < length xs → get_or xs i d ≡ get_or xs i e
  get_d_any [] i d e h = absurd (omega arith)
  get_d_any (x ∷ xs) zero d e h = refl
  get_d_any (x ∷ xs) (suc i) d e h = get_d_any xs i d e (omega arith)

  -- an old place is copied to the new last one; where the new place itself is chosen, what it held is overwritten
  copied : (xs : List A) (s : ℕ) (v y : A) → s ≤ length xs → (s < length xs → y ≡ get_or xs s v) → set (xs ++ (y ∷ [])) s v ≡ inserted_at v xs s
  unfolding inserted_at
  copied [] zero v y h e = refl
  copied [] (suc s) v y h e = absurd (omega arith)
  copied (x ∷ xs) zero v y h e = ap (λ (t : A). v ∷ (xs ++ (t ∷ []))) (e (omega arith))
  copied (x ∷ xs) (suc s) v y h e = ap (λ (t : List A). x ∷ t) (copied xs s v y (omega arith) (λ l. e (omega arith)))

  -- the two stores of a turn, on the first places of the output
  pub stored-insertion : (out : List A) (i s : ℕ) (v d : A) → i < length out → s < suc i
      → take (suc i) (set (set out i (get_or out s d)) s v) ≡ inserted_at v (take i out) s
  stored-insertion out i s v d h l =
      let size : length (take i out) ≡ i = length-take-le i out (omega arith) in
      take-set-lt (suc i) (set out i (get_or out s d)) s v l ∙ ap (λ (t : List A). set t s v) (take-suc-set out i (get_or out s d) h)
      ∙ copied (take i out) s v (get_or out s d) (omega arith)
      (λ t. get_d_any out s d v (omega arith) ∙ sym (get_or-take i out s v (omega arith)))

  -- one value more: its choice, and then the others
  pub insert_next : (v : A) (vs xs : List A) (ws : List ℕ) (s : ℕ) (rest : List ℕ) → choose (suc (length xs)) ws ≡ got s rest
      → insert_all (v ∷ vs) xs ws ≡ insert_all vs (inserted_at v xs s) rest
  unfolding insert_all bind_read
  insert_next v vs xs ws s rest e = rw e

  pub insert_short : (v : A) (vs xs : List A) (ws : List ℕ) → choose (suc (length xs)) ws ≡ short → insert_all (v ∷ vs) xs ws ≡ short
  unfolding insert_all bind_read
  insert_short v vs xs ws e = rw e

  -- values inserted one after the other, however they are grouped
  pub insert_append : (vs us xs : List A) (ws : List ℕ) → insert_all (vs ++ us) xs ws ≡ bind_read (insert_all vs xs ws) (λ ys rest. insert_all us ys rest)
  unfolding insert_all bind_read
  insert_append [] us xs ws = refl
  insert_append (v ∷ vs) us xs ws =
      bind_same (choose (suc (length xs)) ws) _ _ (λ s rest. insert_append vs us (inserted_at v xs s) rest) ∙ sym (bind_bind (choose (suc (length xs)) ws) _ _)

-- the rule's insertion is this one
pub rule_inserts : (vs xs : List ℤ) (ws : List ℕ)
    → map_read (λ ss. insert_each vs ss xs) (choose_each (count_up (suc (length xs)) (length vs)) ws) ≡ insert_all vs xs ws
unfolding map_read choose_each count_up insert_each insert_all inserted inserted_at
rule_inserts [] xs ws = refl
rule_inserts (v ∷ vs) xs ws =
    map_bind (λ (ss : List ℕ). insert_each (v ∷ vs) ss xs) (choose (suc (length xs)) ws) _
    ∙ bind_same (choose (suc (length xs)) ws) _ _ (λ s rest.
    map_read_twice (λ (ss : List ℕ). insert_each (v ∷ vs) ss xs) (λ (ss : List ℕ). s ∷ ss) (choose_each (count_up (suc (suc (length xs))) (length vs)) rest)
    ∙ ap (λ (k : ℕ). map_read (λ (ss : List ℕ). insert_each vs ss (inserted v xs s)) (choose_each (count_up (suc k) (length vs)) rest))
    (sym (length_inserted v xs s))
    ∙ rule_inserts vs (inserted_at v xs s) rest)

module _ {A B : Type 0} (f : A → B) where
  pub map-inserted : (v : A) (xs : List A) (s : ℕ) → map f (inserted_at v xs s) ≡ inserted_at (f v) (map f xs) s
  unfolding inserted_at
  map-inserted v xs s = map-set f (xs ++ (get_or xs s v ∷ [])) s v
      ∙ ap (λ (t : List B). set t s (f v)) (map_append f xs (get_or xs s v ∷ []) ∙ ap (λ (t : B). map f xs ++ (t ∷ [])) (sym (get_or-map f xs s v)))

  -- insertion does not look at the values
  pub map_insert : (vs xs : List A) (ws : List ℕ) → map_read (map f) (insert_all vs xs ws) ≡ insert_all (map f vs) (map f xs) ws
  unfolding map_read insert_all
  map_insert [] xs ws = refl
  map_insert (v ∷ vs) xs ws =
      rw (length-map xs f)
      (map_bind (map f) (choose (suc (length xs)) ws) _
      ∙ bind_same (choose (suc (length xs)) ws) _ _ (λ s rest.
      map_insert vs (inserted_at v xs s) rest ∙ ap (λ (t : List B). insert_all (map f vs) t rest) (map-inserted v xs s)))
