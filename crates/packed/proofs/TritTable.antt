-- The rule of the table of trits: each entry is the matching base-3 digit of its byte, and so the table says where the trits of a byte stand as division does.
use mathlib.Core.Path.{◌≡◌, refl, sym, ap, ◌∙◌}
use mathlib.Core.Bool.{Bool, true, false, cond}
use mathlib.Core.List.{List}
use Prim.Native.Nat.{ℕ, zero, suc, ◌+◌, ◌*◌, ◌/◌, ◌%◌, ◌^◌, ◌<◌, ◌≤◌}
use native.Mathlib.Nat.{zero-add, mod-eq_of_lt, div-eq_of_lt, add-mul-mod_self_left, add-mul-div_left, div-div-eq-div-mul}
use native.Mathlib.Omega.{arith}
use borrow.Author.Tests.{lt-ltb, ltb-true}
use lib.Dec.{ltb}
use mir.Val.{bool_byte}
use lib.ListN.{length, get_or, get_or-map}
use Rattle.distr.specs.Packed.{digits}
use Rattle.packed.specs.declared.trits.Places.{Places}
use Rattle.packed.specs.declared.trits.TritsBy.{TritsBy}
use Rattle.packed.specs.declared.trits.TritsBy.TheVariants.{Table, Division}
use Rattle.packed.specs.TritTable.{count_up, trit_table, kept, kept_table, TableRule, group_places, digits_at, divided_places, places_by}
use Rattle.packed.specs.Tables.{TritTables}

-- the number at k
count_at : (from count k : ℕ) → k < count → get_or (count_up from count) k 0 ≡ from + k
unfolding count_up
count_at from zero k h = absurd (omega arith)
count_at from (suc count) zero h = omega arith
count_at from (suc count) (suc k) h = omega (arith, count_at (suc from) count k (omega arith))

-- the group of a byte is its five digits
pub group_at : (byte : ℕ) → byte < 243 → get_or trit_table byte (digits 3 5 0) ≡ digits 3 5 byte
unfolding trit_table
group_at byte h = get_or-map (digits 3 5) (count_up 0 243) byte 0 ∙ ap (digits 3 5) (count_at 0 243 byte h ∙ zero-add byte)

kept_at : (byte : ℕ) → byte < 243 → get_or kept_table byte 0 ≡ kept (digits 3 5 byte)
unfolding kept_table digits
kept_at byte h = get_or-map kept trit_table byte (digits 3 5 0) ∙ ap kept (group_at byte h)

-- a number of three parts
parts : (p q r : ℕ) → p < 256 → q < 256 → group_places (p + 256 * (q + 256 * r)) ≡ record { first = p; second = q; last = r }
parts p q r h k =
    let g : ℕ = p + 256 * (q + 256 * r) in
    let first : g % 256 ≡ p = add-mul-mod_self_left p 256 (q + 256 * r) ∙ mod-eq_of_lt h in
    let above : g / 256 ≡ q + 256 * r = add-mul-div_left p (q + 256 * r) {y = 256} (omega arith) ∙ omega (arith, div-eq_of_lt h) in
    let second : g / 256 % 256 ≡ q = ap (λ (n : ℕ). n % 256) above ∙ add-mul-mod_self_left q 256 r ∙ mod-eq_of_lt k in
    let last : g / 65536 ≡ r =
    sym (div-div-eq-div-mul g 256 256) ∙ ap (λ (n : ℕ). n / 256) above ∙ add-mul-div_left q r {y = 256} (omega arith) ∙ omega (arith, div-eq_of_lt k) in
    cc

-- the weights of five digits make these parts
weighed : (a b c d e : ℕ) {p q r : ℕ} → a + b * 3 ≡ p → c + d * 3 ≡ q → e ≡ r
    → a * 2 + b * 6 + c * 512 + d * 1536 + e * 131072 ≡ p * 2 + 256 * (q * 2 + 256 * (r * 2))
weighed a b c d e f g h = omega arith

-- where it says that they stand
kept-places : (byte : ℕ) → byte < 243 → group_places (kept (digits 3 5 byte)) ≡ divided_places byte
unfolding digits
kept-places byte h =
    let nine : byte / 3 / 3 ≡ byte / 9 = omega arith in
    let top : byte / 3 / 3 / 3 / 3 ≡ byte / 81 = omega arith in
    let first : byte % 3 + byte / 3 % 3 * 3 ≡ byte % 9 = omega arith in
    let second : byte / 3 / 3 % 3 + byte / 3 / 3 / 3 % 3 * 3 ≡ byte / 9 % 9 = rw nine (omega arith) in
    let last : byte / 3 / 3 / 3 / 3 % 3 ≡ byte / 81 = rw top (omega arith) in
    ap group_places (weighed (byte % 3) (byte / 3 % 3) (byte / 3 / 3 % 3) (byte / 3 / 3 / 3 % 3) (byte / 3 / 3 / 3 / 3 % 3) first second last)
    ∙ parts (byte % 9 * 2) (byte / 9 % 9 * 2) (byte / 81 * 2) (omega arith) (omega arith)

-- and the digits that stand there are those of the byte
size : length kept_table ≡ 243
unfolding kept_table trit_table count_up
size = refl

digit_at : (byte k : ℕ) → byte < 243 → k < 5 → get_or (digits_at (divided_places byte)) k 0 ≡ byte / 3 ^ k % 3
digit_at byte zero h l = omega arith
digit_at byte (suc zero) h l = omega arith
digit_at byte (suc (suc zero)) h l = omega arith
digit_at byte (suc (suc (suc zero))) h l = omega arith
digit_at byte (suc (suc (suc (suc zero)))) h l = omega arith
digit_at byte (suc (suc (suc (suc (suc k))))) h l = absurd (omega arith)

pub table-rule : TableRule kept_table
table-rule = record {
  groups = size;
  entries = λ byte k h l.
      ap (λ (group : ℕ). get_or (digits_at (group_places group)) k 0) (kept_at byte h)
      ∙ ap (λ (p : Places). get_or (digits_at p) k 0) (kept-places byte h)
      ∙ digit_at byte k h l;
}

-- a byte that is not skipped takes its own group, another the first
pub index_of : (byte : ℕ) (accepted : Bool) → byte * bool_byte accepted ≡ cond accepted byte 0
index_of byte true = omega arith
index_of byte false = omega arith

pub index_below : (byte : ℕ) → byte * bool_byte (ltb byte 243) < 243
index_below byte = go (ltb byte 243) refl
  where
    go : (t : Bool) → ltb byte 243 ≡ t → byte * bool_byte t < 243
    go true e = let l = ltb-true byte 243 e in omega arith
    go false e = omega arith

-- So both ways lead to the same places,
pub same-places : (by : TritsBy) {table : List ℕ} → table ≡ kept_table → (byte : ℕ) → byte < 243 → places_by by table byte ≡ divided_places byte
unfolding places_by
same-places Table e byte h = rw (e, lt-ltb byte 243 h) (ap group_places (kept_at byte h) ∙ kept-places byte h)
same-places Division e byte h = refl

pub found_places : {p : Places} (by : TritsBy) {table : List ℕ} {byte : ℕ} → table ≡ kept_table → p ≡ places_by by table byte → byte < 243 → p ≡ divided_places byte
found_places by e found h = found ∙ same-places by e _ h

-- and those of a byte that is skipped are in a table of pairs too.
pub record Within (p : Places) : Type 0 where
  pub first : p.first + 2 ≤ 18
  pub second : p.second + 2 ≤ 18
  pub last : p.last < 18

divided_within : (byte : ℕ) → byte < 256 → Within (divided_places byte)
divided_within byte h = record { first = omega arith; second = omega arith; last = omega arith }

table-within : (byte : ℕ) → Within (places_by Table kept_table byte)
unfolding places_by
table-within byte = go (ltb byte 243) refl
  where
    go : (t : Bool) → ltb byte 243 ≡ t → Within (group_places (get_or kept_table (cond t byte 0) 0))
    go true e = let l = ltb-true byte 243 e in rw (kept_at byte l, kept-places byte l) (divided_within byte (omega arith))
    go false e = rw (kept_at 0 (omega arith), kept-places 0 (omega arith)) (divided_within 0 (omega arith))

pub places-within : (by : TritsBy) {table : List ℕ} → table ≡ kept_table → (byte : ℕ) → byte < 256 → Within (places_by by table byte)
unfolding places_by
places-within Table e byte h = rw e (table-within byte)
places-within Division e byte h = divided_within byte h

-- So they are in a table of the pairs of three values.
pub record InPairs {A : Type 0} (pairs : List A) (p : Places) : Type 0 where
  pub first : p.first + 2 ≤ length pairs
  pub second : p.second + 2 ≤ length pairs
  pub last : p.last < length pairs

pub in_pairs : {A : Type 0} {z : A} {pairs : List A} {groups : List ℕ} {byte : ℕ} {p : Places} (by : TritsBy) → TritTables z pairs groups → byte < 256
    → p ≡ places_by by groups byte → InPairs pairs p
in_pairs by t h e =
    let size = t.paired.sized in
    let within = places-within by t.kept _ h in
    rw e (record { first = omega (arith, within.first); second = omega (arith, within.second); last = omega (arith, within.last) })
