-- `lines::fields::train_of` meets its contract: each number read is one of the line's, and where one is missing the line has not 5.
use Rattle.std.proofs.Common.{◌≡◌, List, ℕ, Option, ℤ, None, rules, refl, lit<}
use Rattle.lines.specs.Numbers.{values_of, numbers_of}
use Rattle.lines.specs.Lines.{train_of, train_as}
use Rattle.lines.proofs.Counted.{fields, fields_are, lacking, passed_none, read, ended, front_then, made}
use Rattle.lines.proofs.fields.train_of.Goals as goal

lacks : (line : List ℕ) {os : List (Option ℤ)} → os ≡ values_of line → fields 5 os ≡ None → None ≡ train_of line
unfolding train_of numbers_of
lacks line e f = rw (fields_are, ← e, f)

pub returns-in_default : goal.returns-in_default
returns-in_default c = search (rules, lacks, lacking, passed_none) depth 20

pub returns-in_default-next_number : goal.returns-in_default-next_number
returns-in_default-next_number c = search (rules, lacks, lacking, passed_none) depth 20

pub returns-in_default-next_number-2 : goal.returns-in_default-next_number-2
returns-in_default-next_number-2 c = search (rules, lacks, lacking, passed_none) depth 20

pub returns-in_default-next_number-3 : goal.returns-in_default-next_number-3
returns-in_default-next_number-3 c = search (rules, lacks, lacking, passed_none) depth 20

pub returns-in_default-next_number-4 : goal.returns-in_default-next_number-4
returns-in_default-next_number-4 c = search (rules, lacks, lacking, passed_none) depth 20

pub returns : goal.returns
unfolding train_of numbers_of
returns c =
    rw (
      c.then_some.ensures,
      fields_are 5,
      ← c.new-numbers.ensures,
      read 5 _ (lit< tt) c.in-Some.ensures (search rules),
      read 4 _ (lit< tt) c.in-Some-next_number.ensures (search rules),
      read 3 _ (lit< tt) c.in-Some-next_number-2.ensures (search rules),
      read 2 _ (lit< tt) c.in-Some-next_number-3.ensures (search rules),
      read 1 _ (lit< tt) c.in-Some-next_number-4.ensures (search rules),
      ended c.is_empty.result c.is_empty.ensures,
    )
    (simp front_then (made c.is_empty.result train_as _ refl refl))
