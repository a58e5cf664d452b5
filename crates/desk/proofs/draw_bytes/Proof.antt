-- `draw_bytes` draws on the words that stand in the bytes.
use mathlib.Core.Path.{◌≡◌, ap, ◌∙◌}
use mathlib.Core.List.{List}
use Prim.Native.Nat.{ℕ, ◌/◌, ◌*◌}
use native.Mathlib.Omega.{arith}
use borrow.Author.Rules.{rules}
use borrow.Author.Tests.{eq-eqb}
use lib.ListN.{length, take}
use lib.Seq.{length-take-le}
use Rattle.little_endian.specs.LittleEndian.{words_in}
use Rattle.desk.specs.Desk.{drawn_answer}
use Rattle.desk.proofs.Requests.{Good, good}
use Rattle.desk.proofs.draw_bytes.Statement.{statement}
use Rattle.desk.proofs.draw_bytes.Tie as tie

fits : (c : tie.After-words_room-store) → let a = c.args in Good (length a.words.now) (length a.output.now)
fits c = good _ _ c.requires

-- the room has as many words as the bytes hold
sized : (c : tie.After-words_room-store) → let n = length c.args.words.now / 4 in n ≡ length (take n c.words_room-store.result)
sized c =
    let n = length c.args.words.now / 4 in
    omega (arith, length-take-le n c.words_room-store.result (omega (arith, (fits c).few_words, c.words_room-store.ensures)))

-- and holds those
decoded : (c : tie.After-read_words) → c.read_words.new.words ≡ words_in c.args.words.now
decoded c =
    let words = c.args.words.now in
    let many : length words ≡ 4 * length (take (length words / 4) c.words_room-store.result) = omega (arith, (fits c.before.before.before).whole_words, sized c.before.before.before) in
    c.read_words.ensures ∙ rw (eq-eqb _ _ many)

draw-requires : tie.Need-draw-requires
draw-requires c κs =
    ((fits c.before.before.before.before.before.before).few-coefficients, (fits c.before.before.before.before.before.before).whole_output)

returns : tie.Need-returns
returns c =
    let a = c.args in
    c.draw.ensures ∙ ap (λ (ws : List ℕ). drawn_answer a.kind a.a a.b a.modulus ws a.place a.output.now) (decoded c.before.before.before.before.before.before.before)

pub draw_bytes_spec : {M : Type 1} → statement M
draw_bytes_spec =
    tie.close
    (tie.spec (λ c κs. search rules) (λ c. omega (arith, (fits c).few_words, c.words_room-store.ensures)) (λ c. sized c.before) (λ c κs. search rules)
    draw-requires (λ c. search rules) returns)
