-- A function's contract as a claim can speak of it.
use Rattle.std.specs.Prelude.{ℕ, ◌≡◌}
use contract.Lifetimes.{Lfts}

-- What the checker reads off a function's contract: `Pre` is what it asks of the arguments, and here that is nothing; `Post` is what it promises of the
-- arguments, the answer and the arguments at exit, and that is `Promise`.
abbrev pub Contract : (m : ℕ) (A R : Type 0) → (A → R → A → Type 0) → (Lfts m → A → Type 0) → (Lfts m → A → R → A → Type 0) → Type 1
Contract m A R Promise Pre Post =
    ((κs : Lfts m) (before : A) → Pre κs before ≡ Unit {0})
    × ((κs : Lfts m) (before : A) (answer : R) (after : A) → Post κs before answer after ≡ Promise before answer after)
