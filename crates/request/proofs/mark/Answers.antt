-- `request::mark` meets its contract: a place past the end changes nothing.
use mathlib.Core.Path.{refl, sym}
use lib.Seq.{set_out}
use Rattle.request.specs.Private.{marked_by}
use Rattle.request.proofs.mark.Goals as goal

pub returns-then-k-heard : goal.returns-then-k-heard
unfolding marked_by
returns-then-k-heard c = refl

pub returns-else-k-heard : goal.returns-else-k-heard
unfolding marked_by
returns-else-k-heard c = sym (set_out c.args.heard.now c.args.k _ c.if-k-heard.false)
