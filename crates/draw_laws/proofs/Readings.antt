-- What holds of the value of a reading, if there is one: of readings changed, one after another, and of the choices.
use mathlib.Core.Path.{◌≡◌, refl}
use mathlib.Core.List.{List, ◌∷◌}
use Prim.Native.Nat.{ℕ, zero, suc, ◌<◌}
use native.Mathlib.Omega.{arith}
use lib.IntN.{ℤ}
use Rattle.distr.specs.Words.{Read, got, short, map_read, bind_read, choose, many}
use Rattle.distr.specs.Rule.{Rule, read_by}
use Rattle.distr.proofs.Reading.{chose}
use Rattle.draw_laws.proofs.Every.{Every, none, more}

pub data Reads {A : Type 0} (P : A → Type 0) : Read A → Type 0 where
  value : {a : A} {rest : List ℕ} → P a → Reads P (got a rest)
  nothing : Reads P short

module _ {A : Type 0} {P : A → Type 0} where
  pub value_read : {read : Read A} {a : A} {rest : List ℕ} → Reads P read → read ≡ got a rest → P a
  value_read {read} {a} (value {a = b} p) e = let same : b ≡ a = cc in rw same at p
  value_read nothing e = let z : ◌≡◌ {A = ℕ} 0 1 = cc in absurd (omega arith)

  pub reads-each : (read : Read A) → ((a : A) (rest : List ℕ) → read ≡ got a rest → P a) → Reads P read
  reads-each (got a rest) h = value (h a rest refl)
  reads-each short h = nothing

-- any reading
pub reads_all : {A : Type 0} (read : Read A) → Reads (λ (a : A). Unit) read
reads_all (got a rest) = value tt
reads_all short = nothing

module _ {A B : Type 0} {Q : B → Type 0} where
  -- a value changed by f
  pub reads-map : {P : A → Type 0} (f : A → B) → ((a : A) → P a → Q (f a)) → {read : Read A} → Reads P read → Reads Q (map_read f read)
  unfolding map_read
  reads-map f h (value p) = value (h _ p)
  reads-map f h nothing = nothing

  -- whatever f gives
  pub reads_any : (f : A → B) → ((a : A) → Q (f a)) → (read : Read A) → Reads Q (map_read f read)
  unfolding map_read
  reads_any f h (got a rest) = value (h a)
  reads_any f h short = nothing

  -- a reading that goes on with the value of another
  pub reads_bind : {P : A → Type 0} {read : Read A} (next : A → List ℕ → Read B) → Reads P read
      → ((a : A) (rest : List ℕ) → P a → Reads Q (next a rest)) → Reads Q (bind_read read next)
  unfolding bind_read
  reads_bind next (value {a} {rest} p) h = h a rest p
  reads_bind next nothing h = nothing

-- the coefficients of a rule
pub reads-rule : {P : ℤ → Type 0} (by : Rule) → ((ds : List ℕ) → Every P (by.decode ds)) → (ws : List ℕ) → Reads (Every P) (read_by by ws)
reads-rule by h ws = reads_any by.decode h (by.draws ws)

-- as many readings of one kind
pub reads-many : {P : ℤ → Type 0} (one : List ℕ → Read ℤ) → ((ws : List ℕ) → Reads P (one ws)) → (m : ℕ) (ws : List ℕ) → Reads (Every P) (many one m ws)
unfolding many
reads-many one h zero ws = value none
reads-many one h (suc m) ws =
    reads_bind (λ c rest. map_read (λ cs. c ∷ cs) (many one m rest)) (h ws)
    (λ c rest p. reads-map (λ (cs : List ℤ). c ∷ cs) (λ cs e. more p e) (reads-many one h m rest))

-- a choice among k
pub reads-choose : (k : ℕ) (ws : List ℕ) → Reads (λ s. s < k) (choose k ws)
reads-choose k ws = reads-each (choose k ws) (λ s rest e. (chose k ws s rest e).below)
