-- `text::write_item` writes the three parts of a value's text one after the other.
use mathlib.Core.Path.{ap}
use native.Mathlib.Omega.{arith}
use borrow.Author.Rules.{rules}
use lib.ListN.{length}
use Rattle.decimal.specs.Decimal.{decimal}
use Rattle.sheet.proofs.Placing.{written_then, written-length}
use Rattle.sheet.proofs.Lines.{value-text, item_length}
use Rattle.sheet.proofs.text.write_item.Statement.{statement}
use Rattle.sheet.proofs.text.write_item.Tie as tie

write-byte-requires : tie.Need-write_byte-after_space-requires
write-byte-requires c κs =
    omega (arith, c.requires, item_length c.args.later c.args.signed c.args.bits)

write-byte-requires-2 : tie.Need-write_byte-after_sign-requires
write-byte-requires-2 c κs =
    let w = c.write_byte-after_space.ensures in
    omega (arith, c.requires, item_length c.args.later c.args.signed c.args.bits, w.place, written-length w)

write-number-requires : tie.Need-write_number-requires
write-number-requires c κs =
    let w = written_then c.write_byte-after_space.ensures c.write_byte-after_sign.ensures in
    omega (
      arith,
      c.requires,
      item_length c.args.later c.args.signed c.args.bits,
      c.write_byte-after_space.ensures.place,
      c.write_byte-after_sign.ensures.place,
      written-length w,
      ap (λ n. length (decimal n)) c.size_of-size.ensures,
    )

returns : tie.Need-returns
returns c =
    rw value-text
    (written_then c.write_byte-after_space.ensures
    (written_then c.write_byte-after_sign.ensures (rw c.size_of-size.ensures at c.write_number.ensures)))

pub write_item_spec : {M : Type 1} → statement M
write_item_spec =
    tie.close (tie.spec write-byte-requires write-byte-requires-2 (λ c κs. search rules) write-number-requires (λ c. search rules) returns)
