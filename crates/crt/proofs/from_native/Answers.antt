use Rattle.std.proofs.Common.{◌^◌, ◌∙◌, arith}
use Rattle.crt.proofs.Native.{added}
use Rattle.crt.proofs.from_native.Goals as goal

pub returns : goal.returns
returns c = c.wrapping_add_u64.ensures.value ∙ added (2 ^ 63) c.args.modulus c.args.word (omega arith) (omega arith)
