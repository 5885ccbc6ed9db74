-- `lines::fields::segment_of` meets its contract: each number read is one of the line's, and where one is missing the line has not 15.
use Rattle.std.proofs.Common.{◌≡◌, List, ℕ, Option, ℤ, None, rules, refl, lit<}
use Rattle.lines.specs.Numbers.{values_of, numbers_of}
use Rattle.lines.specs.Lines.{segment_of, segment_as}
use Rattle.lines.proofs.Counted.{fields, fields_are, lacking, passed_none, read, ended, front_then, made}
use Rattle.lines.proofs.fields.segment_of.Goals as goal

lacks : (line : List ℕ) {os : List (Option ℤ)} → os ≡ values_of line → fields 15 os ≡ None → None ≡ segment_of line
unfolding segment_of numbers_of
lacks line e f = rw (fields_are, ← e, f)

pub returns-in_default : goal.returns-in_default
returns-in_default c = search (rules, lacks, lacking, passed_none) depth 60

pub returns-in_default-next_number : goal.returns-in_default-next_number
returns-in_default-next_number c = search (rules, lacks, lacking, passed_none) depth 60

pub returns-in_default-next_number-2 : goal.returns-in_default-next_number-2
returns-in_default-next_number-2 c = search (rules, lacks, lacking, passed_none) depth 60

pub returns-in_default-next_number-3 : goal.returns-in_default-next_number-3
returns-in_default-next_number-3 c = search (rules, lacks, lacking, passed_none) depth 60

pub returns-in_default-next_number-4 : goal.returns-in_default-next_number-4
returns-in_default-next_number-4 c = search (rules, lacks, lacking, passed_none) depth 60

pub returns-in_default-next_number-5 : goal.returns-in_default-next_number-5
returns-in_default-next_number-5 c = search (rules, lacks, lacking, passed_none) depth 60

pub returns-in_default-next_number-6 : goal.returns-in_default-next_number-6
returns-in_default-next_number-6 c = search (rules, lacks, lacking, passed_none) depth 60

pub returns-in_default-next_number-7 : goal.returns-in_default-next_number-7
returns-in_default-next_number-7 c = search (rules, lacks, lacking, passed_none) depth 60

pub returns-in_default-next_number-8 : goal.returns-in_default-next_number-8
returns-in_default-next_number-8 c = search (rules, lacks, lacking, passed_none) depth 60

pub returns-in_default-next_number-9 : goal.returns-in_default-next_number-9
returns-in_default-next_number-9 c = search (rules, lacks, lacking, passed_none) depth 60

pub returns-in_default-next_number-10 : goal.returns-in_default-next_number-10
returns-in_default-next_number-10 c = search (rules, lacks, lacking, passed_none) depth 60

pub returns-in_default-next_number-11 : goal.returns-in_default-next_number-11
returns-in_default-next_number-11 c = search (rules, lacks, lacking, passed_none) depth 60

pub returns-in_default-next_number-12 : goal.returns-in_default-next_number-12
returns-in_default-next_number-12 c = search (rules, lacks, lacking, passed_none) depth 60

pub returns-in_default-next_number-13 : goal.returns-in_default-next_number-13
returns-in_default-next_number-13 c = search (rules, lacks, lacking, passed_none) depth 60

pub returns-in_default-next_number-14 : goal.returns-in_default-next_number-14
returns-in_default-next_number-14 c = search (rules, lacks, lacking, passed_none) depth 60

pub returns : goal.returns
unfolding segment_of numbers_of
returns c =
    rw (
      c.then_some.ensures,
      fields_are 15,
      ← c.new-numbers.ensures,
      read 15 _ (lit< tt) c.in-Some.ensures (search rules),
      read 14 _ (lit< tt) c.in-Some-next_number.ensures (search rules),
      read 13 _ (lit< tt) c.in-Some-next_number-2.ensures (search rules),
      read 12 _ (lit< tt) c.in-Some-next_number-3.ensures (search rules),
      read 11 _ (lit< tt) c.in-Some-next_number-4.ensures (search rules),
      read 10 _ (lit< tt) c.in-Some-next_number-5.ensures (search rules),
      read 9 _ (lit< tt) c.in-Some-next_number-6.ensures (search rules),
      read 8 _ (lit< tt) c.in-Some-next_number-7.ensures (search rules),
      read 7 _ (lit< tt) c.in-Some-next_number-8.ensures (search rules),
      read 6 _ (lit< tt) c.in-Some-next_number-9.ensures (search rules),
      read 5 _ (lit< tt) c.in-Some-next_number-10.ensures (search rules),
      read 4 _ (lit< tt) c.in-Some-next_number-11.ensures (search rules),
      read 3 _ (lit< tt) c.in-Some-next_number-12.ensures (search rules),
      read 2 _ (lit< tt) c.in-Some-next_number-13.ensures (search rules),
      read 1 _ (lit< tt) c.in-Some-next_number-14.ensures (search rules),
      ended c.is_empty.result c.is_empty.ensures,
    )
    (simp front_then (made c.is_empty.result segment_as _ refl refl))
