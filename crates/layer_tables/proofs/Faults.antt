-- The fault of the tables by what a search found: `ok` the test of the lengths, `e`, `h` and `v` the first wrong endpoint, height and value.
use mathlib.Core.Path.{◌≡◌, sym, ◌∙◌}
use mathlib.Core.Bool.{Bool, true, false, not}
use mathlib.Core.List.{[], ◌∷◌}
use Prim.Native.Nat.{ℕ}
use Rattle.std.proofs.Common.{Option, Some, None, cond, refl}
use lib.Dec.{ltb}
use lib.ListN.{length}
use Rattle.distr.specs.Constants.{invalid_layer_tables, invalid_endpoint, invalid_height, invalid_curve_value}
use Rattle.distr.specs.Layered.{Layers, layer_tables}
use Rattle.distr.specs.FirstWrong.{wrong_endpoint, wrong_height, wrong_value, right_sizes}
use Rattle.distr.specs.Making.{refuse}
use Rattle.distr.specs.Numbers.{first_of, layer_number, layer_index}
use Rattle.distr.proofs.FirstWrong.{good-layer}
use Rattle.layer_tables.specs.Fault.{Fault, layer_fault, wrong_at}

-- the number of the four tests
abbrev number : Bool → Bool → Bool → Bool → ℕ
number sizes endpoint height value =
    first_of
    (refuse (not sizes) invalid_layer_tables ∷ refuse endpoint invalid_endpoint ∷ refuse height invalid_height ∷ refuse value invalid_curve_value ∷ [])

module _ (a b c d : Bool) where
  first : a ≡ false → number a b c d ≡ invalid_layer_tables
  unfolding first_of
  first p = rw p

  second : a ≡ true → b ≡ true → number a b c d ≡ invalid_endpoint
  unfolding first_of
  second p q = rw (p, q)

  third : a ≡ true → b ≡ false → c ≡ true → number a b c d ≡ invalid_height
  unfolding first_of
  third p q r = rw (p, q, r)

  fourth : a ≡ true → b ≡ false → c ≡ false → d ≡ true → number a b c d ≡ invalid_curve_value
  unfolding first_of
  fourth p q r s = rw (p, q, r, s)

  none : a ≡ true → b ≡ false → c ≡ false → d ≡ false → number a b c d ≡ 0
  unfolding first_of
  none p q r s = rw (p, q, r, s)

-- the result of a search, as the definition tests it
module _ (n w : ℕ) {o : Option ℕ} (told : o ≡ wrong_at n w) where
  found : {i : ℕ} → o ≡ Some i → (i ≡ w) × (ltb w n ≡ true)
  found {i} e = go (ltb w n) refl (sym e ∙ told)
    where
      go : (b : Bool) → ltb w n ≡ b → Some i ≡ cond b (Some w) None → (i ≡ w) × (ltb w n ≡ true)
      go true p q = (cc, p)
      go false p q = absurd (cc)

  passed : o ≡ None → ltb w n ≡ false
  passed e = go (ltb w n) refl (sym e ∙ told)
    where
      go : (b : Bool) → ltb w n ≡ b → None ≡ cond b (Some w) None → ltb w n ≡ false
      go true p q = absurd (cc)
      go false p q = p

module _ (M : ℕ) (t : Layers) where
  abbrev bad_endpoint : Bool
  bad_endpoint = ltb (wrong_endpoint M t) (length t.endpoints)

  abbrev bad_height : Bool
  bad_height = ltb (wrong_height t) (length t.heights)

  abbrev bad_value : Bool
  bad_value = ltb (wrong_value t) (length t.curve)

  -- r is what the code hands back
  module _ (r : Fault) where
    by_number : (n : ℕ) → layer_number M t ≡ n → r ≡ record { number = n; index = layer_index M t n } → r ≡ layer_fault M t
    by_number n e f = rw e f

    pub good_fault : (good : Bool) → good ≡ layer_tables M t → good ≡ true → r ≡ record { number = 0; index = 0 } → r ≡ layer_fault M t
    unfolding layer_index
    good_fault good e p = by_number 0 (good-layer M t (rw (sym e ∙ p) tt))

    -- the lengths, tested first
    module _ (ok : Bool) (sizes : ok ≡ right_sizes M t) where
      pub sizes_fault : ok ≡ false → r ≡ record { number = invalid_layer_tables; index = 0 } → r ≡ layer_fault M t
      unfolding layer_number layer_index
      sizes_fault w = by_number invalid_layer_tables (first (right_sizes M t) bad_endpoint bad_height bad_value (sym sizes ∙ w))

      -- then the lists in their order
      module _ (w : ok ≡ true) {e : Option ℕ} (ends : e ≡ wrong_at (length t.endpoints) (wrong_endpoint M t)) where
        sized : right_sizes M t ≡ true
        sized = sym sizes ∙ w

        pub endpoint_fault : {i : ℕ} → e ≡ Some i → r ≡ record { number = invalid_endpoint; index = i } → r ≡ layer_fault M t
        unfolding layer_number layer_index
        endpoint_fault p f =
            let x = found (length t.endpoints) (wrong_endpoint M t) ends p in
            by_number invalid_endpoint (second (right_sizes M t) bad_endpoint bad_height bad_value sized x.1) (rw (← x.0) f)

        module _ (p : e ≡ None) {h : Option ℕ} (tops : h ≡ wrong_at (length t.heights) (wrong_height t)) where
          right_ends : bad_endpoint ≡ false
          right_ends = passed (length t.endpoints) (wrong_endpoint M t) ends p

          pub height_fault : {i : ℕ} → h ≡ Some i → r ≡ record { number = invalid_height; index = i } → r ≡ layer_fault M t
          unfolding layer_number layer_index
          height_fault q f =
              let x = found (length t.heights) (wrong_height t) tops q in
              by_number invalid_height (third (right_sizes M t) bad_endpoint bad_height bad_value sized right_ends x.1) (rw (← x.0) f)

          module _ (q : h ≡ None) {v : Option ℕ} (values : v ≡ wrong_at (length t.curve) (wrong_value t)) where
            right_heights : bad_height ≡ false
            right_heights = passed (length t.heights) (wrong_height t) tops q

            pub value_fault : {i : ℕ} → v ≡ Some i → r ≡ record { number = invalid_curve_value; index = i } → r ≡ layer_fault M t
            unfolding layer_number layer_index
            value_fault s f =
                let x = found (length t.curve) (wrong_value t) values s in
                by_number invalid_curve_value (fourth (right_sizes M t) bad_endpoint bad_height bad_value sized right_ends right_heights x.1)
                (rw (← x.0) f)

            pub no_fault : v ≡ None → r ≡ record { number = 0; index = 0 } → r ≡ layer_fault M t
            unfolding layer_number layer_index
            no_fault s =
                by_number 0
                (none (right_sizes M t) bad_endpoint bad_height bad_value sized right_ends right_heights
                (passed (length t.curve) (wrong_value t) values s))

pub ruleset faults = (sizes_fault, endpoint_fault, height_fault, value_fault, no_fault)
