-- Laws of writing a list front to back into an output, over any element type.
use mathlib.Core.Path.{◌≡◌, refl, sym, ap, ap₂, ◌∙◌}
use mathlib.Core.List.{List, [], ◌∷◌, ◌++◌, map, append-nil}
use Prim.Native.Nat.{ℕ, zero, suc, ◌+◌, ◌<◌, ◌≤◌}
use native.Mathlib.Numerals.{add-one}
use native.Mathlib.Omega.{arith}
use lib.ListN.{length, get_or, take, drop, set, replicate, length-append, length-take, length-drop, drop_of_length-le, length-replicate, get_or-replicate}
use lib.Seq.{sets, sets-eq, drop-cons, set_at, length-take-le, append_snoc, take-suc, drop-length, take_all, paste, take_at, drop_at, take-add, drop-drop}

module _ {A : Type 0} where
  -- the first i elements of xs are written
  abbrev pub written : List A → ℕ → List A → List A
  written xs i out = take i xs ++ drop i out

  pub written_none : (xs out : List A) → written xs 0 out ≡ out
  written_none xs out = refl

  pub written-length : (xs out : List A) (i : ℕ) → i ≤ length xs → i ≤ length out → length (written xs i out) ≡ length out
  written-length xs out i h k = simp (length-append, length-take, length-drop) (omega arith)

  -- one store more
  pub written_more : (xs out : List A) (i : ℕ) (d : A) → i < length xs → i < length out → set (written xs i out) i (get_or xs i d) ≡ written xs (suc i) out
  written_more xs out i d h k =
      ap (λ (l : List A). set (take i xs ++ l) i (get_or xs i d)) (drop-cons out i d k)
      ∙ set_at (take i xs) (get_or out i d) (drop (suc i) out) (get_or xs i d) i (length-take-le i xs (omega arith))
      ∙ sym (append_snoc (take i xs) (get_or xs i d) (drop (suc i) out))
      ∙ ap (λ (l : List A). l ++ drop (suc i) out) (sym (take-suc xs i d h))

  -- a store into each place leaves nothing of what was there
  pub sets-all : (out xs : List A) → length xs ≡ length out → sets out 0 xs ≡ xs
  sets-all out xs e =
      sets-eq xs out 0 (omega arith) ∙ ap (λ (l : List A). xs ++ l) (drop_of_length-le out {i = 0 + length xs} (omega arith)) ∙ append-nil xs

  pub written_all : (xs out : List A) → length xs ≡ length out → written xs (length out) out ≡ xs
  written_all xs out h =
      ap (λ (l : List A). take (length out) xs ++ l) (drop-length out) ∙ append-nil (take (length out) xs) ∙ take_all (length out) xs (omega arith)

pub map-replicate : {A B : Type 0} (f : A → B) (n : ℕ) (a : A) → map f (replicate n a) ≡ replicate n (f a)
map-replicate f zero a = refl
map-replicate f (suc n) a = ap (λ l. f a ∷ l) (map-replicate f n a)

pub map-map : {A B C : Type 0} (g : B → C) (f : A → B) (xs : List A) → map g (map f xs) ≡ map (λ x. g (f x)) xs
map-map g f [] = refl
map-map g f (x ∷ xs) = ap (λ l. g (f x) ∷ l) (map-map g f xs)

pub map_id : {A : Type 0} (xs : List A) → map (λ x. x) xs ≡ xs
map_id [] = refl
map_id (x ∷ xs) = ap (λ l. x ∷ l) (map_id xs)

pub map-take : {A B : Type 0} (f : A → B) (n : ℕ) (xs : List A) → map f (take n xs) ≡ take n (map f xs)
map-take f zero xs = refl
map-take f (suc n) [] = refl
map-take f (suc n) (x ∷ xs) = ap (λ l. f x ∷ l) (map-take f n xs)

pub map-drop : {A B : Type 0} (f : A → B) (n : ℕ) (xs : List A) → map f (drop n xs) ≡ drop n (map f xs)
map-drop f zero xs = refl
map-drop f (suc n) [] = refl
map-drop f (suc n) (x ∷ xs) = map-drop f n xs

pub map_append : {A B : Type 0} (f : A → B) (xs ys : List A) → map f (xs ++ ys) ≡ map f xs ++ map f ys
map_append f [] ys = refl
map_append f (x ∷ xs) ys = ap (λ l. f x ∷ l) (map_append f xs ys)

pub map_ext : {A B : Type 0} (f g : A → B) → ((a : A) → f a ≡ g a) → (xs : List A) → map f xs ≡ map g xs
map_ext f g h [] = refl
map_ext f g h (x ∷ xs) = ap₂ (λ a as'. a ∷ as') (h x) (map_ext f g h xs)

pub map-set : {A B : Type 0} (f : A → B) (xs : List A) (i : ℕ) (a : A) → map f (set xs i a) ≡ set (map f xs) i (f a)
map-set f [] i a = refl
map-set f (x ∷ xs) zero a = refl
map-set f (x ∷ xs) (suc i) a = ap (λ t. f x ∷ t) (map-set f xs i a)

-- one value throughout: a turn writes it once more, and after the last it stands everywhere
pub fill_more : {A : Type 0} (v : A) (out : List A) (i : ℕ) → i < length out
    → set (written (replicate (length out) v) i out) i v ≡ written (replicate (length out) v) (i + 1) out
fill_more v out i h =
    ap (set (written (replicate (length out) v) i out) i) (sym (get_or-replicate (length out) i v v h))
    ∙ written_more (replicate (length out) v) out i v (rw (length-replicate (length out) v) h) h
    ∙ ap (λ (k : ℕ). written (replicate (length out) v) k out) (sym (add-one i))

pub fill_all : {A : Type 0} (v : A) (out now : List A) (i : ℕ) → i ≡ length out → now ≡ written (replicate (length out) v) i out
    → now ≡ replicate (length out) v
fill_all v out now i e w =
    w ∙ ap (λ (k : ℕ). written (replicate (length out) v) k out) e ∙ written_all (replicate (length out) v) out (length-replicate (length out) v)

-- the first of many equal elements
pub take-replicate : {A : Type 0} (i n : ℕ) (a : A) → i ≤ n → take i (replicate n a) ≡ replicate i a
take-replicate zero n a h = refl
take-replicate (suc i) zero a h = absurd (omega arith)
take-replicate (suc i) (suc n) a h = ap (λ (t : List _). a ∷ t) (take-replicate i n a (omega arith))

-- what is pasted after the first p written elements is the next that were to be written
pub written-paste : {A : Type 0} (xs out part : List A) (p count : ℕ) → p ≤ length xs → take count part ≡ take count (drop p xs)
    → paste (written xs p out) p part count ≡ written xs (p + count) out
written-paste {A} xs out part p count h e =
    let d : List A = written xs p out in
    let there : length (take p xs) ≡ p = length-take-le p xs h in
    ap₂ (λ (a b : List A). a ++ b)
    (ap₂ (λ (a b : List A). a ++ b) (take_at (take p xs) (drop p out) p there) e ∙ sym (take-add p count xs))
    (sym (drop-drop count p d) ∙ ap (drop count) (drop_at (take p xs) (drop p out) p there) ∙ drop-drop count p out)
