-- How many segments and entries a text has, by its first line.
-- Assumes nothing.
use Rattle.std.proofs.Common.{◌≡◌, ℕ, ◌≤◌, List, length, None, Some, Result, Ok, Err, refl, sum, sym, ap, ◌∙◌, arith}
use Rattle.std.specs.Result.{result_ok}
use Rattle.arrayvec.specs.ArrayVec.{ArrayVec}
use Rattle.figures.specs.declared.Refusal.{Refusal}
use Rattle.study.specs.Add.{ours}
use Rattle.lines.specs.Bytes.{until, past}
use Rattle.lines.specs.Numbers.{numbers_of}
use Rattle.lines.specs.Contents.{contents_of, counts_of}
use Rattle.text.specs.Text.{read_text}
use Rattle.text.specs.Answer.{plan_in}
use Rattle.text.proofs.Refusals.{Given, contents_given}
use Rattle.text.proofs.Places.{torn_refused}
use Rattle.text.proofs.Counted.{Announces, plan_announced}
use Rattle.drawings.specs.Private.{Announced, Unannounced}

-- what `ok` gives tells what it was given
ok_is : {T E : Type 0} (r : Result T E) {x : T} → Some x ≡ result_ok r → r ≡ Ok x
ok_is (Ok y) e = cc
ok_is (Err f) e = cc

err_is : {T E : Type 0} (r : Result T E) → None ≡ result_ok r → (f : E) × (r ≡ Err f)
err_is (Ok y) e = cc
err_is (Err f) e = (f, refl)

-- an accepted text's is ended
pub torn_sizes : (text : List ℕ) → past 10 text ≡ None → Unannounced text
torn_sizes text e ok = torn_refused text e ok

module _ (text : List ℕ) {line : List ℕ} (first : line ≡ until 10 text) (r : Result (ArrayVec ℕ) Refusal) (e : counts_of r ≡ contents_of ours line) where
  contents_read : counts_of r ≡ contents_of ours (until 10 text)
  contents_read = e ∙ ap (contents_of ours) first

  -- what an accepted text's plan has
  announced : (read_text ours text).check ≡ Ok tt → Announces (counts_of r) (length (plan_in text).segments) (length (plan_in text).entries)
  announced ok = rw contents_read (plan_announced ours text ok)

  pub refused_sizes : None ≡ result_ok r → Unannounced text
  refused_sizes none ok = rw (err_is r none).1 at (announced ok)

  module _ {counts : ArrayVec ℕ} (some : Some counts ≡ result_ok r) where
    abbrev q : r ≡ Ok counts
    q = ok_is r some

    counts_given : Given ours (Ok counts.items)
    unfolding contents_of
    counts_given = rw (← contents_read, q) at (contents_given ours (numbers_of (until 10 text)))

    pub counts_most : {list : List ℕ} → list ≡ counts.items → sum list ≤ ours.entries
    counts_most z = rw z counts_given.1

    pub counted_sizes : {list : List ℕ} → list ≡ counts.items → {segments entries : ℕ} → segments ≡ length counts.items → entries ≡ sum list → Announced text (record { segments = segments; entries = entries })
    counted_sizes z n s =
        record {
          few = omega (arith, counts_most z);
          segments = λ ok. n ∙ sym (rw q at (announced ok)).1;
          entries = λ ok. s ∙ ap sum z ∙ sym (rw q at (announced ok)).2;
        }
