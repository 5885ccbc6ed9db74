-- The size of a text.
-- Assumes nothing.
use Rattle.std.proofs.Common.{◌≡◌, ℕ, ◌≤◌, ◌<◌, List, length, le-leb, ◌∙◌, Result, Ok, Err}
use borrow.Author.Tests.{lt-leb}
use Rattle.figures.specs.declared.Refusal.TheVariants as R
use Rattle.study.specs.Add.{ours}
use Rattle.text.specs.Text.{Reading, lines_of, refused_at, read_from, read_text}
use Rattle.text.specs.Answer.{refused_line}
use Rattle.text.specs.declared.Fault.{Fault}
use Rattle.figures.specs.declared.Refusal.{Refusal}
use Rattle.std.specs.Result.{MatchResult}

pub text_long : (text : List ℕ) → 16384 < length text → read_text ours text ≡ refused_at R.Form 0
unfolding read_text
text_long text h = rw (lt-leb (length text) 16384 h)

pub text_short : (text : List ℕ) → length text ≤ 16384 → read_text ours text ≡ read_from ours (lines_of text)
unfolding read_text
text_short text h = rw (le-leb (length text) 16384 h)

-- what `map_err` gives of what its lines give
pub text_opened : {A : Type 0} (text : List ℕ) → length text ≤ 16384 → (after : A → Reading) (a : Result A Refusal) (r : Result A Fault)
    → MatchResult a (λ o. read_from ours (lines_of text) ≡ after o) (λ f. read_from ours (lines_of text) ≡ refused_at f 1) → MatchResult a (λ o. r ≡ Ok o) (λ f. r ≡ refused_line f 1)
    → MatchResult r (λ o. read_text ours text ≡ after o) (λ e. read_text ours text ≡ refused_at e.refusal e.line)
text_opened text h after (Ok o) r e is = rw is (text_short text h ∙ e)
text_opened text h after (Err f) r e is = rw is (text_short text h ∙ e)
