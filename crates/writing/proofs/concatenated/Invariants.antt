-- `writing::concatenated`: the parts passed are put, each whole.
use Rattle.writing.proofs.Concatenation.{Put}
use Rattle.writing.proofs.concatenated.Given as goal

abbrev pub invariant-loop-part : goal.invariant-loop-part
invariant-loop-part g l = Put (λ part. part.now) g.row.N l.parts l.part-index l.text.bytes
