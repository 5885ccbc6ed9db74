-- `writing::signed` meets its contract.
use Rattle.std.proofs.Common.{◌∙◌}
use Rattle.writing.proofs.Lengths.{signed_is}
use Rattle.writing.proofs.signed.Goals as goal

pub returns : goal.returns
returns c =
    c.concatenated.ensures ∙ signed_is c.args.n c.ranges.n c.sign.ensures c.unsigned_abs.ensures.value c.format.ensures.text
