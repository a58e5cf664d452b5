-- Filling an output block by block, over how the output holds coefficients: what is read from the words left now, behind the blocks that
-- are filled, is what is read from those left at first.
use mathlib.Core.Path.{◌≡◌, refl, sym, ap, ap₂, ◌∙◌}
use mathlib.Core.List.{List, [], ◌∷◌, ◌++◌, map, append_assoc, append-nil}
use Prim.Native.Nat.{ℕ, zero, suc, ◌+◌, ◌-◌, ◌*◌, ◌/◌, ◌%◌, ◌^◌, ◌<◌, ◌≤◌}
use native.Mathlib.Nat.{div-add-mod', mod-le}
use native.Mathlib.Numerals.{add-one}
use native.Mathlib.Omega.{arith}
use borrow.Rule.Slice.PartMut.{mid_of, post_of, put_mid, mid_len, same_len_mid}
use lib.Dec.{T, leb, ltb, lt→ltb, le→leb}
use lib.ListN.{length, get_or, take, drop, set, replicate, length-append, length-set, length-replicate, length-drop}
use lib.Seq.{length-take-le, take_at, take_all}
use lib.IntN.{ℤ, pos}
use Rattle.distr.specs.Words.{Read, got, short, map_read, bind_read, choose, choose_each}
use Rattle.distr.specs.Skipped.{passed_each}
use Rattle.distr.specs.Blocks.{block, blocks_of}
use Rattle.distr.specs.Draw.{settled}
use Rattle.distr.proofs.Reading.{map-got, map_read_twice, map_read_same, choose_accept, choose_skip, choose-end}
use Rattle.distr.proofs.Skipping.{each_counts}
use Rattle.distr.proofs.Drawing.{settled-got, settled-short}
use Rattle.distr.proofs.Writing.{map_append, map-replicate, map-set}
use Rattle.words.proofs.Runs.{run_accepted, run_skipped}

-- what stands up to the end of a part that was filled
front : {A : Type 0} (start size : ℕ) (out ys : List A) → start ≤ length out → length ys ≡ size
    → take (start + size) (put_mid start (start + size - start) out ys) ≡ take start out ++ ys
front {A} start size out ys h l =
    let post : List A = post_of start (start + size - start) out in
    ap (take (start + size)) (sym (append_assoc (take start out) ys post))
    ∙ take_at (take start out ++ ys) post (start + size) (length-append (take start out) ys ∙ ap₂ (λ (a b : ℕ). a + b) (length-take-le start out h) l)

-- the next choice, and then the others
choose-next : (k m s : ℕ) (ws rest : List ℕ) → choose k ws ≡ got s rest
    → choose_each (replicate (suc m) k) ws ≡ map_read (λ ss. s ∷ ss) (choose_each (replicate m k) rest)
unfolding choose_each bind_read
choose-next k m s ws rest e = rw e

choose_none : (k m : ℕ) (ws : List ℕ) → choose k ws ≡ short → choose_each (replicate (suc m) k) ws ≡ short
unfolding choose_each bind_read
choose_none k m ws e = rw e

-- how an output holds coefficients: each by itself, and 0 and 1 by their values
pub record Holds {A : Type 0} (write : List ℤ → List A) (value : ℕ → A) : Type 0 where
  pub none : write [] ≡ []
  pub zeros : (n : ℕ) → write (replicate n (pos 0)) ≡ replicate n (value 0)
  pub one_block : (size s : ℕ) → write (block size s) ≡ set (replicate size (value 0)) s (value 1)
  pub joined : (xs ys : List ℤ) → write (xs ++ ys) ≡ write xs ++ write ys

-- so it does where it holds each by one function, and a count by its value
pub holds_each : {A : Type 0} (write : List ℤ → List A) (one : ℤ → A) (value : ℕ → A) → ((cs : List ℤ) → write cs ≡ map one cs) → ((n : ℕ) → one (pos n) ≡ value n)
    → Holds write value
holds_each {A} write one value each natural = record {
  none = each [];
  zeros = zeros;
  one_block = λ size s. each (block size s) ∙ map-set one (replicate size (pos 0)) s (pos 1)
      ∙ ap₂ (λ (l : List A) (o : A). set l s o) (sym (each (replicate size (pos 0))) ∙ zeros size) (natural 1);
  joined = λ xs ys. each (xs ++ ys) ∙ map_append one xs ys ∙ sym (ap₂ (λ (l m : List A). l ++ m) (each xs) (each ys));
}
  where
    zeros : (n : ℕ) → write (replicate n (pos 0)) ≡ replicate n (value 0)
    zeros n = each (replicate n (pos 0)) ∙ map-replicate one n (pos 0) ∙ ap (replicate n) (natural 0)

-- what is read from the words left where m blocks are still to fill and xs stands before them
abbrev onwards : {A : Type 0} → (List ℤ → List A) → ℕ → ℕ → List A → ℕ → List ℕ → Read (List A)
onwards write size k xs m ws = map_read (λ ss. xs ++ write (blocks_of size ss)) (choose_each (replicate m k) ws)

-- the rule's reading of an output of n coefficients in blocks of a size, each by a choice among k
abbrev pub wanted : ℕ → ℕ → ℕ → List ℕ → Read (List ℤ)
wanted size k n ws = map_read (blocks_of size) (choose_each (replicate (n / size) k) ws)

-- words of which the next choice is the same are read alike
choose-same : (k m : ℕ) (ws rest : List ℕ) → choose k ws ≡ choose k rest → choose_each (replicate (suc m) k) ws ≡ choose_each (replicate (suc m) k) rest
unfolding choose_each
choose-same k m ws rest e = rw e

onwards-same : {A : Type 0} (write : List ℤ → List A) (size k : ℕ) (xs : List A) (m : ℕ) (ws rest : List ℕ) → choose k ws ≡ choose k rest
    → onwards write size k xs (suc m) ws ≡ onwards write size k xs (suc m) rest
onwards-same write size k xs m ws rest e = ap (map_read (λ (ss : List ℕ). xs ++ write (blocks_of size ss))) (choose-same k m ws rest e)

module _ {A : Type 0} (write : List ℤ → List A) {value : ℕ → A} (holds : Holds write value) (size k : ℕ) (xs : List A) (ws : List ℕ) where
  -- none is left to fill; a word is missing; a choice fills one
  onwards-end : onwards write size k xs 0 ws ≡ got xs ws
  unfolding map_read choose_each blocks_of
  onwards-end = ap (λ (l : List A). got l ws) (ap (λ (l : List A). xs ++ l) holds.none ∙ append-nil xs)

  onwards-short : (m : ℕ) → choose k ws ≡ short → onwards write size k xs (suc m) ws ≡ short
  unfolding map_read
  onwards-short m e = rw (choose_none k m ws e)

  onwards-next : (m s : ℕ) (rest : List ℕ) → choose k ws ≡ got s rest
      → onwards write size k xs (suc m) ws ≡ onwards write size k (xs ++ write (block size s)) m rest
  unfolding blocks_of
  onwards-next m s rest e =
      let others = choose_each (replicate m k) rest in
      ap (map_read (λ (ss : List ℕ). xs ++ write (blocks_of size ss))) (choose-next k m s ws rest e)
      ∙ map_read_twice (λ (ss : List ℕ). xs ++ write (blocks_of size ss)) (λ (ss : List ℕ). s ∷ ss) others
      ∙ map_read_same _ _ (λ ss. ap (λ (l : List A). xs ++ l) (holds.joined (block size s) (blocks_of size ss))
      ∙ sym (append_assoc xs (write (block size s)) (write (blocks_of size ss)))) others

module _ {A : Type 0} (write : List ℤ → List A) (value : ℕ → A) (ws : List ℕ) (size k n : ℕ) where
  -- the blocks before `start` are filled, `left` blocks follow, and the words are read up to `at`
  pub record Turn (start at : ℕ) (out : List A) : Type 0 where
    pub holds : Holds write value
    pub left : ℕ
    pub whole : start + left * size ≡ n
    pub kept : length out ≡ n
    pub within : at ≤ length ws
    pub reading : onwards write size k (take start out) left (drop at ws) ≡ map_read write (wanted size k n ws)

  pub turn_start : (out : List A) → Holds write value → n % size ≡ 0 → length out ≡ n → Turn 0 0 out
  turn_start out holds d l = record {
    holds = holds;
    left = n / size;
    whole = omega (arith, div-add-mod' n size);
    kept = l;
    within = omega arith;
    reading = sym (map_read_twice write (blocks_of size) (choose_each (replicate (n / size) k) ws));
  }

module _ {A : Type 0} {write : List ℤ → List A} {value : ℕ → A} {ws : List ℕ} {size k n start at : ℕ} {out : List A}
    (t : Turn write value ws size k n start at out) where
  -- before the end a block is left, and after it one less
  some_left : start < n → (m : ℕ) × (t.left ≡ suc m) × (start + size + m * size ≡ n)
  some_left h = go t.left t.whole
    where
      go : (l : ℕ) → start + l * size ≡ n → (m : ℕ) × (l ≡ suc m) × (start + size + m * size ≡ n)
      go zero e = absurd (omega arith)
      go (suc l) e = (l, refl, omega arith)

  -- at the end none is
  none_left : 0 < size → n ≤ start → t.left ≡ 0
  none_left p h = go t.left t.whole
    where
      go : (l : ℕ) → start + l * size ≡ n → l ≡ 0
      go zero e = refl
      go (suc l) e = absurd (omega arith)

  -- a block that begins before the end has room
  turn_room : start < n → start + size ≤ length out
  turn_room h = omega (arith, (some_left h).2, t.kept)

  -- so much of it
  turn_size : start < n → length (mid_of start (start + size - start) out) ≡ size
  turn_size h = omega (arith, mid_len start (start + size) out (turn_room h))

  module _ (h : start < n) where
    abbrev rest : List ℕ → Read (List A)
    rest left = onwards write size k (take start out) (suc (some_left h).0) left

    -- what is read where a block is left
    reads : rest (drop at ws) ≡ map_read write (wanted size k n ws)
    reads = ap (λ (j : ℕ). onwards write size k (take start out) j (drop at ws)) (sym (some_left h).1) ∙ t.reading

    module _ (p : 0 < k) (q : k ≤ 2 ^ 32) (there : at < length ws) where
      abbrev word : ℕ
      word = get_or ws at 0

      -- a word whose run ends at 2^32 or below gives the block, which is filled in the output's part
      pub turn_more : {ys : List A} → word - word % k + k ≤ 2 ^ 32
          → ys ≡ set (replicate (length (mid_of start (start + size - start) out)) (value 0)) (word % k) (value 1)
          → Turn write value ws size k n (start + size) (at + 1) (put_mid start (start + size - start) out ys)
      turn_more {ys} e f =
          let m = some_left h in
          let s : ℕ = word % k in
          let below : T (ltb word (k * (2 ^ 32 / k))) = lt→ltb word _ (run_accepted (2 ^ 32) k word p q (omega (arith, mod-le word k))) in
          let fill : ys ≡ set (replicate size (value 0)) s (value 1) = f ∙ ap (λ (j : ℕ). set (replicate j (value 0)) s (value 1)) (turn_size h) in
          let size-fill : length ys ≡ size = ap length fill ∙ simp (length-set, length-replicate) in
          let as_many : length ys ≡ length (mid_of start (start + size - start) out) = size-fill ∙ sym (turn_size h) in
          record {
            holds = t.holds;
            left = m.0;
            whole = m.2;
            kept = same_len_mid start (start + size - start) out ys as_many ∙ t.kept;
            within = omega arith;
            reading = rw (add-one at)
                (ap (λ (xs : List A). onwards write size k xs m.0 (drop (suc at) ws))
                (front start size out ys (omega (arith, turn_room h)) size-fill
                ∙ ap (λ (l : List A). take start out ++ l) (fill ∙ sym (t.holds.one_block size s)))
                ∙ sym (onwards-next write t.holds size k (take start out) (drop at ws) m.0 s (drop (suc at) ws) (choose_accept k at ws there below))
                ∙ reads);
          }

      -- another is passed over
      pub turn_passed : 2 ^ 32 < word - word % k + k → Turn write value ws size k n start (at + 1) out
      turn_passed e =
          let above : T (leb (k * (2 ^ 32 / k)) word) = le→leb _ word (run_skipped (2 ^ 32) k word p q (omega (arith, mod-le word k))) in
          record {
            holds = t.holds;
            left = t.left;
            whole = t.whole;
            kept = t.kept;
            within = omega arith;
            reading = rw (add-one at)
                (ap (λ (j : ℕ). onwards write size k (take start out) j (drop (suc at) ws)) (some_left h).1
                ∙ onwards-same write size k (take start out) (some_left h).0 (drop (suc at) ws) (drop at ws) (sym (choose_skip k at ws there above)) ∙ reads);
          }

    -- a word is missing, and the output was cleared
    pub turn_short : (words : List ℕ) (place : ℕ) {out' : List A} → length ws ≤ at → ws ≡ drop place words → out' ≡ replicate (length out) (value 0)
        → record { number = 23; place = place; index = 0; output = out' } ≡ settled write (length words) place n (wanted size k n (drop place words))
    turn_short words place {out'} e same c =
        settled-short write (length words) place n out' (wanted size k n (drop place words))
        (ap (λ (l : List ℕ). map_read write (wanted size k n l)) (sym same) ∙ sym reads
        ∙ onwards-short write t.holds size k (take start out) (drop at ws) (some_left h).0 (choose-end k at ws e))
        (c ∙ ap (λ (j : ℕ). replicate j (value 0)) t.kept ∙ sym (t.holds.zeros n))

  -- every block is filled
  module _ (p : 0 < size) (h : n ≤ start) where
    filled : map_read write (wanted size k n ws) ≡ got out (drop at ws)
    filled =
        sym t.reading ∙ ap (λ (j : ℕ). onwards write size k (take start out) j (drop at ws)) (none_left p h)
        ∙ onwards-end write t.holds size k (take start out) (drop at ws)
        ∙ ap (λ (l : List A). got l (drop at ws)) (take_all start out (omega (arith, t.kept)))

    pub turn_end : (words : List ℕ) (place : ℕ) → place ≤ length words → ws ≡ drop place words
        → record { number = 0; place = place + at; index = 0; output = out } ≡ settled write (length words) place n (wanted size k n (drop place words))
    turn_end words place w same =
        settled-got write (length words) place n out (wanted size k n (drop place words)) (drop at ws)
        (omega (arith, t.within, length-drop at ws, ap length same, length-drop place words))
        (ap (λ (l : List ℕ). map_read write (wanted size k n l)) (sym same) ∙ filled)

    -- a word was taken for each block, and those that were passed over
    pub turn_counts : {words : List ℕ} → ws ≡ words → at ≡ n / size + passed_each (replicate (n / size) k) words
    turn_counts same =
        let ks : List ℕ = replicate (n / size) k in
        let blocks = map-got write (wanted size k n ws) out (drop at ws) filled in
        let choices = map-got (blocks_of size) (choose_each ks ws) blocks.0 (drop at ws) blocks.1 in
        let all = each_counts ks ws choices.0 (drop at ws) choices.1 in
        rw (← same) (omega (arith, t.within, length-replicate (n / size) k, length-drop at ws))
