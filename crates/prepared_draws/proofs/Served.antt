-- A CRT draw by the prepared state of a distribution is the CRT draw of the distribution, whose rules give as many coefficients as are asked
-- for, and none without reading.
use mathlib.Core.Path.{◌≡◌, refl, ap, ◌∙◌, sym, subst}
use mathlib.Core.Bool.{Bool, true, false, cond}
use mathlib.Core.List.{List, [], ◌∷◌, map, ◌++◌, append-nil}
use Prim.Native.Nat.{ℕ, zero, suc, ◌-◌, ◌^◌, ◌<◌, ◌≤◌}
use lib.Dec.{leb, ltb}
use lib.ListN.{length, length-map, take, drop, length-drop, replicate, length-replicate, take-append-drop}
use lib.IntN.{ℤ, pos}
use lib.Ieee.{Float}
use Rattle.distr.specs.Constants.{cumulative_limit}
use Rattle.distr.specs.Words.{Read, got, map_read, many, wide}
use Rattle.distr.specs.Rule.{read_by, wide_words}
use Rattle.distr.specs.Gaussian.{cumulative, cumulative_value}
use Rattle.distr.specs.Layered.{layered, layered_one}
use Rattle.distr.specs.Distribution.{Tables, gaussian_read, Distr, coefficients}
use Rattle.draw_laws.proofs.Readings.{Reads, value, reads_all, reads-map, reads_bind, nothing}
use native.Mathlib.Omega.{arith}
use borrow.Author.Tests.{lt-ltb, le-ltb, ltb-true, ltb-false}
use lib.Seq.{length-take-le}
use Rattle.distr.specs.Encoding.{encode_with, rows}
use Rattle.distr.specs.Making.{largest}
use Rattle.distr.specs.Numbers.{first_of, state_numbers, serves_crt, table_number, table_index}
use Rattle.distr.specs.Draw.{Outcome, settled, judged, naming, read_draw, crt_draw}
use Rattle.distr.proofs.FirstWrong.{layer_unnamed}
use Rattle.draw_laws.proofs.Naming.{judged-naming}
use Rattle.distr.proofs.Drawing.{read_settled, read_own, read_got}
use Rattle.draw_laws.proofs.Bounds.{Within}
use Rattle.draw_laws.proofs.Joining.{refused}
use Rattle.draw_laws.proofs.Crt.{layout_numbers, layout_small, Layout, layout_passed, crt_plain, crt_named, crt_past_end, crt_layout, crt_table, crt_empty, crt_settled}
use Rattle.crt.specs.Rows.{last_row}
use Rattle.crt.proofs.Finishing.{finished-kept, finished-settled}
use Rattle.methods.specs.declared.SamplingMethod.{SamplingMethod}
use Rattle.methods.specs.Method.{magnitude_of}
use Rattle.methods.specs.Keys.{is_served}
use Rattle.method_draws.specs.Drawing.{method_draw}
use Rattle.prepared_draws.specs.Drawing.{crt_number, as_native, row_draw, finished_row, crt_by}
use Rattle.prepared_draws.proofs.Answers.{row-length, row_last, spread_empty, row_fits}

-- a reading gives so many
abbrev pub Counts : ℕ → Read (List ℤ) → Type 0
Counts n read = Reads (λ (cs : List ℤ). length cs ≡ n) read

many_counts : {A : Type 0} (one : List ℕ → Read A) (m : ℕ) (ws : List ℕ) → Reads (λ (xs : List A). length xs ≡ m) (many one m ws)
unfolding many
many_counts one zero ws = value refl
many_counts {A} one (suc m) ws =
    reads_bind (λ x rest. map_read (λ xs. x ∷ xs) (many one m rest)) (reads_all (one ws))
    (λ x rest any. reads-map (λ (xs : List A). x ∷ xs) (λ xs e. ap suc e) (many_counts one m rest))

pub words_count : (n : ℕ) (f : ℕ → ℤ) (ws : List ℕ) → Counts n (read_by (wide_words n f) ws)
words_count n f ws = reads-map (map f) (λ ds e. length-map ds f ∙ e) (many_counts wide n ws)

module _ (deviation : Float) (M : ℕ) (tables : Tables) where
  pub gaussian_counts : (n : ℕ) (ws : List ℕ) → Counts n (gaussian_read deviation M tables n ws)
  gaussian_counts n ws = go (leb M cumulative_limit)
    where
      go : (b : Bool) → Counts n (cond b (read_by (cumulative M tables.bounds n) ws) (layered deviation tables.layers n ws))
      go true = words_count n (cumulative_value M tables.bounds) ws
      go false = many_counts (layered_one deviation tables.layers) n ws

  pub gaussian_none : (ws : List ℕ) → gaussian_read deviation M tables 0 ws ≡ got [] ws
  unfolding map_read many
  gaussian_none ws = go (leb M cumulative_limit) (got [] ws)
    where
      go : (b : Bool) (x : Read (List ℤ)) → cond b x x ≡ x
      go true x = refl
      go false x = refl

-- What a method must be for a distribution: it is served and so is the distribution, they have one largest magnitude, which is small, and
-- the row drawn by the method is that of the rules.
pub record Serves (d : Distr) (method : SamplingMethod) (tables : Tables) : Type 0 where
  pub served : is_served method ≡ true
  pub serves : serves_crt d ≡ true
  pub magnitude : magnitude_of method ≡ largest d
  pub small : largest d < 2 ^ 63
  pub table : table_number d tables ≡ 23 → ⊥
  pub draws : (words : List ℕ) (place : ℕ) (out : List ℕ)
      → method_draw as_native method tables words place out
      ≡ naming (table_index d tables) (read_draw as_native (table_number d tables) (coefficients d (length out) tables) words place out)
  pub counts : (n : ℕ) (ws : List ℕ) → Counts n (coefficients d n tables ws)
  pub within : table_number d tables ≡ 0 → (n : ℕ) (ws : List ℕ) (cs : List ℤ) (rest : List ℕ) → coefficients d n tables ws ≡ got cs rest → Within (largest d) cs
  pub none : (ws : List ℕ) → coefficients d 0 tables ws ≡ got [] ws

-- a number is 0 or above it
zero_or_more : {C : Type 0} (n : ℕ) → (n ≡ 0 → C) → (0 < n → C) → C
zero_or_more zero f g = f refl
zero_or_more (suc n) f g = g (omega arith)

-- a list of length 0
pub no_elements : (out : List ℕ) → length out ≡ 0 → [] ≡ out
no_elements [] e = refl
no_elements (a ∷ out) e = absurd (omega arith)

-- what is settled has the length asked for
settled-length : (words place n : ℕ) {read : Read (List ℤ)} → Counts n read → length (settled as_native words place n read).output ≡ n
unfolding settled
settled-length words place n (value {a} e) = length-map a (encode_with (2 ^ 64 - 1)) ∙ e
settled-length words place n nothing = length-map (replicate n (pos 0)) (encode_with (2 ^ 64 - 1)) ∙ length-replicate n (pos 0)

module _ {d : Distr} {method : SamplingMethod} {tables : Tables} (s : Serves d method tables) (count : ℕ) (moduli words : List ℕ) (place : ℕ) (out : List ℕ) where
  abbrev part : List ℕ
  part = last_row out count

  -- the last row as the rules say, without the index that goes with its number
  abbrev row : Outcome ℕ
  row = read_draw as_native (table_number d tables) (coefficients d (length part) tables) words place part

  row-drawn : row_draw method tables words place part ≡ naming (table_index d tables) row
  unfolding row_draw
  row-drawn = rw s.served (s.draws words place part)

  -- the numbers before the tables': 22, or the layout's
  abbrev numbers : List ℕ
  numbers = state_numbers true (length words) place ++ layout_numbers (largest d) (length out) count moduli

  past_end : length words < place → first_of numbers ≡ 22
  unfolding first_of
  past_end h = rw (lt-ltb (length words) place h)

  passed : place ≤ length words → first_of numbers ≡ first_of (layout_numbers (largest d) (length out) count moduli)
  unfolding first_of
  passed h = rw (le-ltb (length words) place h)

  module _ (here : place ≤ length words) (good : first_of (layout_numbers (largest d) (length out) count moduli) ≡ 0) where
    layout : Layout (largest d) (length out) count moduli
    layout = layout_passed (largest d) (length out) count moduli good

    few : length part ≤ 65536
    few = omega (arith, length-drop (length out - count) out, layout.few)

    -- 12, 13, or 30 to 32 leaves the last row as it was, and so the output
    table-finished : 0 < table_number d tables → finished_row out count moduli row ≡ record { number = table_number d tables; place = place; index = 0; output = out }
    table-finished t =
        ap (finished_row out count moduli)
        (read_own as_native (table_number d tables) (coefficients d (length part) tables) words place part here few t)
        ∙ sym (finished-kept (2 ^ 63) (take (length out - count) out ++ part) count moduli (table_number d tables) place 0
        (λ z. omega arith) s.table (sym (take-append-drop (length out - count) out)))

    -- else an empty output stays
    empty_finished : table_number d tables ≡ 0 → length out ≡ 0 → finished_row out count moduli row ≡ record { number = 0; place = place; index = 0; output = out }
    empty_finished t none =
        let empty : length part ≡ 0 = omega (arith, length-drop (length out - count) out) in
        let taken : length (take (length out - count) out ++ []) ≡ 0 =
        ap length (append-nil (take (length out - count) out)) ∙ length-take-le (length out - count) out (omega arith) ∙ omega arith in
        let same : length words - length (drop place words) ≡ place = omega (arith, length-drop place words) in
        ap (finished_row out count moduli)
        (read_got as_native (table_number d tables) (coefficients d (length part) tables) words place part here few t [] (drop place words)
        (ap (λ (n : ℕ). coefficients d n tables (drop place words)) empty ∙ s.none (drop place words)))
        ∙ rw (same, spread_empty (take (length out - count) out ++ []) count moduli taken, no_elements out none)

    row_settled : table_number d tables ≡ 0 → (n : ℕ) → length part ≡ n
        → row ≡ settled as_native (length words) place n (coefficients d n tables (drop place words))
    row_settled t n e =
        subst (λ (n : ℕ). row ≡ settled as_native (length words) place n (coefficients d n tables (drop place words))) e
        (read_settled as_native (table_number d tables) (coefficients d (length part) tables) words place part here few t)

    -- and in another the rows are made from the last one, or 23
    rows-finished : table_number d tables ≡ 0 → 0 < length out
        → finished_row out count moduli row ≡ settled (rows moduli) (length words) place count (coefficients d count tables (drop place words))
    rows-finished t some =
        let long : length part ≡ count =
        omega (arith, length-drop (length out - count) out, row_fits (length out) count (length moduli) layout.shape some) in
        let drawn = row_settled t count long in
        let size : length row.output ≡ length part =
        ap (λ (o : Outcome ℕ). length o.output) drawn
        ∙ settled-length (length words) place count (s.counts count (drop place words)) ∙ sym long in
        finished-settled (2 ^ 63) (take (length out - count) out ++ row.output) count moduli row.number row.place row.index
        (largest d) (length words) place (coefficients d count tables (drop place words)) (row-length out count row.output size ∙ layout.shape)
        s.small layout.above (s.within t count (drop place words)) (rw (row_last out count row.output size) drawn)

    -- no number of the layout refuses
    made-drawn : finished_row out count moduli row ≡ crt_plain d tables count moduli words place out true
    made-drawn =
        zero_or_more (table_number d tables)
        (λ t. zero_or_more (length out)
        (λ none. empty_finished t none ∙ sym (crt_empty d tables count moduli words place out s.serves here good t none))
        (λ some. rows-finished t some ∙ sym (crt_settled d tables count moduli words place out s.serves here good t some)))
        (λ t. table-finished t ∙ sym (crt_table d tables count moduli words place out s.serves here good t))

  not-refused : first_of numbers ≡ 0 → judged (first_of numbers) place out (finished_row out count moduli row) ≡ finished_row out count moduli row
  unfolding judged
  not-refused e = rw e

  settled_crt : judged (first_of numbers) place out (finished_row out count moduli row) ≡ crt_plain d tables count moduli words place out true
  settled_crt = go (ltb (length words) place) refl
    where
      go : (b : Bool) → ltb (length words) place ≡ b
          → judged (first_of numbers) place out (finished_row out count moduli row) ≡ crt_plain d tables count moduli words place out true
      go true e =
          let past : length words < place = ltb-true (length words) place e in
          refused numbers place out (finished_row out count moduli row) (past_end past) (omega arith)
          ∙ sym (crt_past_end d tables count moduli words place out s.serves past)
      go false e =
          let here : place ≤ length words = ltb-false (length words) place e in
          zero_or_more (first_of (layout_numbers (largest d) (length out) count moduli))
          (λ good. not-refused (passed here ∙ good) ∙ made-drawn here good)
          (λ bad. refused numbers place out (finished_row out count moduli row) (passed here) bad
          ∙ sym (crt_layout d tables count moduli words place out s.serves here bad))

  pub method_crt : crt_by method tables count moduli words place out ≡ crt_draw true d tables count moduli words place out
  unfolding crt_by crt_number
  method_crt =
      let index = table_index d tables in
      let small = layout_small true (length words) place (largest d) (length out) count moduli in
      rw (s.served, s.magnitude)
      (ap (λ (r : Outcome ℕ). judged (first_of numbers) place out (finished_row out count moduli r)) row-drawn
      ∙ judged-naming index (first_of numbers) place out (finished_row out count moduli row) (λ some. layer_unnamed (largest d) tables.layers (first_of numbers) small)
      ∙ ap (naming index) settled_crt ∙ crt_named d tables count moduli words place out true)
