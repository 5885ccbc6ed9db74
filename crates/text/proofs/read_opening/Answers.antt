-- `text::read_opening` meets its contract: too long, or what its lines give.
use Rattle.std.proofs.Common.{arith, rules}
use Rattle.text.specs.Private.{body_reading}
use Rattle.text.proofs.Openings.{text_long, text_opened}
use Rattle.text.proofs.read_opening.Goals as goal

pub returns-then-text-gt-MOST_BYTES : goal.returns-then-text-gt-MOST_BYTES
returns-then-text-gt-MOST_BYTES c = text_long c.args.text.now (omega arith)

pub returns : goal.returns
returns c = text_opened c.args.text.now (omega arith) (λ r. body_reading r.0.items r.1.now) c.read_contents.result c.map_err.result c.read_contents.ensures (search rules)
