-- Laws of a breakdown's lines: what each is written from, and one line after another.
-- Assumes nothing.
use mathlib.Core.Path.{◌≡◌, refl, sym, ap, ◌∙◌}
use mathlib.Core.Bool.{Bool, true, false, cond}
use mathlib.Core.List.{List, [], ◌∷◌, ◌++◌, append-nil, append_assoc, flatten}
use Prim.Native.Nat.{ℕ, ◌+◌, ◌*◌, ◌<◌, ◌≤◌, ◌^◌}
use native.Mathlib.Numerals.{add-one}
use native.Mathlib.Omega.{arith}
use lib.IntN.{ℤ, pos}
use lib.ListN.{length, length-append, get_or, replicate}
use Rattle.std.specs.Fmt.{decimal}
use Rattle.decibel.specs.declared.Level.{Level}
use Rattle.figures.specs.declared.Segment.{Segment}
use Rattle.figures.specs.declared.Train.{Train}
use Rattle.figures.specs.Rules.{unscreened}
use Rattle.figures.proofs.Signs.{read}
use Rattle.propagation.specs.declared.SegmentBreakdown.{SegmentBreakdown}
use Rattle.propagation.specs.Propagation.{segment_breakdown_of}
use Rattle.propagation.specs.Results.{PartsBelow}
use Rattle.emission.specs.declared.TrainBreakdown.{TrainBreakdown}
use Rattle.emission.specs.Emission.{train_breakdown_of}
use Rattle.emission.specs.Results.{TrainParted}
use Rattle.study.specs.declared.Entry.{Entry}
use Rattle.study.specs.Plan.{Plan, no_segment, no_entry}
use Rattle.request.specs.Levels.{own_marks}
use Rattle.request.specs.Request.{Answer, AnsweredBy}
use Rattle.writing.specs.Bytes.{ascii, fitting, digits_of, figure_of}
use Rattle.writing.proofs.Digits.{digits_length, decimal_is}
use Rattle.writing.proofs.Concatenation.{all_fit}
use Rattle.text.specs.Answer.{plan_in}
use Rattle.report.specs.Bytes.{level}
use Rattle.report.specs.Report.{cells_lent, report_of}
use Rattle.report.proofs.Lines.{flatten_append}
use Rattle.breakdown.specs.Lines.{close_part, path_part, step_parts, reading_parts, reflection_parts, segment_parts, cell_level, train_parts, level_parts, place_number, entry_parts}
use Rattle.breakdown.specs.Private.{segment_bytes, entry_bytes}
use Rattle.breakdown.specs.Breakdown.{each_below, segments_parts, cells_of, cell_at, segment_line, entry_line, entries_parts, study_parts, text_parts, segments_bytes, entries_bytes}
use Rattle.breakdown.proofs.Read.{small_length, segment_read, train_read}

-- ---- a line, put together from its parts: there is room for all of them

name_length : (clear : Bool) → length (cond clear (ascii " ground ") (ascii " screen ")) ≤ 8
name_length true = omega arith
name_length false = omega arith

close_length : (close : Bool) → length (close_part close) ≤ 11
unfolding close_part
close_length true = omega arith
close_length false = omega arith

-- the parts of a segment's line
abbrev segment_list : ℕ → Segment → SegmentBreakdown → List (List ℕ)
segment_list number s b =
    ascii "segment " ∷ digits_of number ∷ ascii " distance " ∷ figure_of b.distance ∷ ascii " air " ∷ figure_of b.air
    ∷ cond (unscreened s) (ascii " ground ") (ascii " screen ") ∷ figure_of b.path ∷ ascii " angle " ∷ figure_of b.angle
    ∷ ascii " chart " ∷ figure_of b.chart ∷ ascii " track " ∷ figure_of b.track ∷ ascii " ballast " ∷ figure_of b.ballast
    ∷ ascii " facade " ∷ figure_of b.facade ∷ ascii " opposite " ∷ figure_of b.opposite ∷ close_part b.close ∷ []

segment_list_is : (number : ℕ) (s : Segment) → flatten (segment_list number s (segment_breakdown_of s)) ≡ segment_bytes number s
unfolding segment_bytes segment_parts step_parts path_part reading_parts reflection_parts
segment_list_is number s = refl

segment_length : (number : ℕ) (s : Segment) (b : SegmentBreakdown) → number < 2 ^ 64 → PartsBelow b → length (flatten (segment_list number s b)) ≤ 256
unfolding flatten
segment_length number s b h small =
    simp length-append
    (omega (arith, digits_length 19 number (omega arith), name_length (unscreened s), close_length b.close, small_length b.distance small.distance, small_length b.air small.air, small_length b.path small.path, small_length b.angle small.angle, small_length b.chart small.chart, small_length b.track small.track, small_length b.ballast small.ballast, small_length b.facade small.facade, small_length b.opposite small.opposite))

pub segment_is : (number : ℕ) (s : Segment) {b : SegmentBreakdown} {count name mark distance air path angle chart track ballast facade opposite : List ℕ}
    → number < 2 ^ 64
    → b ≡ segment_breakdown_of s
    → PartsBelow b
    → count ≡ decimal number
    → name ≡ cond (unscreened s) (ascii " ground ") (ascii " screen ")
    → mark ≡ close_part b.close
    → distance ≡ figure_of (read b.distance)
    → air ≡ figure_of (read b.air)
    → path ≡ figure_of (read b.path)
    → angle ≡ figure_of (read b.angle)
    → chart ≡ figure_of (read b.chart)
    → track ≡ figure_of (read b.track)
    → ballast ≡ figure_of (read b.ballast)
    → facade ≡ figure_of (read b.facade)
    → opposite ≡ figure_of (read b.opposite)
    → fitting 256 (ascii "segment " ∷ count ∷ ascii " distance " ∷ distance ∷ ascii " air " ∷ air ∷ name ∷ path ∷ ascii " angle " ∷ angle ∷ ascii " chart " ∷ chart ∷ ascii " track " ∷ track ∷ ascii " ballast " ∷ ballast ∷ ascii " facade " ∷ facade ∷ ascii " opposite " ∷ opposite ∷ mark ∷ []) ≡ segment_bytes number s
segment_is number s {b} h is small count name mark distance air path angle chart track ballast facade opposite =
    let r = segment_read b small in
    rw (count, name, mark, distance, air, path, angle, chart, track, ballast, facade, opposite, r.distance, r.air, r.path, r.angle, r.chart, r.track, r.ballast, r.facade, r.opposite, decimal_is number h)
    (all_fit 256 (segment_list number s b) (segment_length number s b h small) ∙ rw is (segment_list_is number s))

-- and of an entry's
abbrev entry_list : ℕ → ℕ → TrainBreakdown → List ℕ → List ℕ → List ℕ → List ℕ → List (List ℕ)
entry_list number segment b by_day by_night day night =
    ascii "train " ∷ digits_of number ∷ ascii " segment " ∷ digits_of segment ∷ ascii " speed " ∷ figure_of b.speed
    ∷ ascii " rolling " ∷ figure_of b.rolling ∷ ascii " vehicles " ∷ figure_of b.vehicles ∷ ascii " trains by day " ∷ by_day
    ∷ ascii " trains by night " ∷ by_night ∷ ascii " level by day " ∷ day ∷ ascii " level by night " ∷ night ∷ ascii "\n" ∷ []

entry_list_is : (number segment : ℕ) (t : Train) (day night : ℤ) {b : TrainBreakdown}
    → b ≡ train_breakdown_of t
    → flatten (entry_list number segment b (level b.trains.day) (level b.trains.night) (level (cell_level day)) (level (cell_level night))) ≡ entry_bytes number segment t day night
unfolding entry_bytes entry_parts train_parts level_parts
entry_list_is number segment t day night is = rw is refl

-- four levels that are written in twelve bytes each
pub record Short (p q r s : List ℕ) : Type 0 where
  pub by_day : length p ≤ 12
  pub by_night : length q ≤ 12
  pub day : length r ≤ 12
  pub night : length s ≤ 12

entry_length : (number segment : ℕ) {v : TrainBreakdown} (b : TrainBreakdown) (by_day by_night day night : List ℕ)
    → number < 2 ^ 64
    → segment < 2 ^ 64
    → TrainParted v b
    → Short by_day by_night day night
    → length (flatten (entry_list number segment b by_day by_night day night)) ≤ 256
unfolding flatten
entry_length number segment b by_day by_night day night h k small short =
    simp length-append
    (omega (arith, digits_length 19 number (omega arith), digits_length 19 segment (omega arith), small_length b.speed small.speed, small_length b.rolling small.rolling, small_length b.vehicles small.vehicles, short.by_day, short.by_night, short.day, short.night))

pub entry_is : (number segment : ℕ) (t : Train) (day night : ℤ) {b : TrainBreakdown} {count place speed rolling vehicles by_day by_night level_by_day level_by_night : List ℕ} {heard_by_day heard_by_night : Level}
    → number < 2 ^ 64
    → segment < 2 ^ 64
    → TrainParted (train_breakdown_of t) b
    → Short by_day by_night level_by_day level_by_night
    → count ≡ decimal number
    → place ≡ decimal segment
    → speed ≡ figure_of (read b.speed)
    → rolling ≡ figure_of (read b.rolling)
    → vehicles ≡ figure_of (read b.vehicles)
    → by_day ≡ level b.trains.day
    → by_night ≡ level b.trains.night
    → level_by_day ≡ level heard_by_day
    → level_by_night ≡ level heard_by_night
    → heard_by_day ≡ cell_level day
    → heard_by_night ≡ cell_level night
    → fitting 256 (ascii "train " ∷ count ∷ ascii " segment " ∷ place ∷ ascii " speed " ∷ speed ∷ ascii " rolling " ∷ rolling ∷ ascii " vehicles " ∷ vehicles ∷ ascii " trains by day " ∷ by_day ∷ ascii " trains by night " ∷ by_night ∷ ascii " level by day " ∷ level_by_day ∷ ascii " level by night " ∷ level_by_night ∷ ascii "\n" ∷ []) ≡ entry_bytes number segment t day night
entry_is number segment t day night {b} {count} {place} {speed} {rolling} {vehicles} {by_day} {by_night} {level_by_day} {level_by_night} h k parted short c p s r v d n l m heard kept =
    let f = train_read b parted in
    rw (c, p, s, r, v, f.speed, f.rolling, f.vehicles, decimal_is number h, decimal_is segment k)
    (all_fit 256 (entry_list number segment b by_day by_night level_by_day level_by_night) (entry_length number segment b by_day by_night level_by_day level_by_night h k parted short)
    ∙ rw (d, n, l, m, heard, kept) (entry_list_is number segment t day night parted.is))

-- ---- one place after another

each_more : (parts : ℕ → List (List ℕ)) (k : ℕ) → flatten (each_below k parts) ++ flatten (parts k) ≡ flatten (each_below (k + 1) parts)
unfolding each_below
each_more parts k = rw (add-one k) (sym (flatten_append (each_below k parts) (parts k)))

-- the lines so far after what was written before, and no more room taken than so many bytes a line
pub record Lines (parts : ℕ → List (List ℕ)) (k : ℕ) (before bytes : List ℕ) : Type 0 where
  pub is : bytes ≡ before ++ flatten (each_below k parts)
  pub room : length bytes ≤ length before + 256 * k

pub no_lines : (parts : ℕ → List (List ℕ)) (before : List ℕ) → Lines parts 0 before before
unfolding each_below flatten
no_lines parts before = record { is = sym (append-nil before); room = omega arith }

pub line_more : {parts : ℕ → List (List ℕ)} {k : ℕ} {before so_far line after : List ℕ}
    → Lines parts k before so_far
    → length line ≤ 256
    → line ≡ flatten (parts k)
    → after ≡ so_far ++ line
    → Lines parts (k + 1) before after
line_more {parts} {k} {before} {so_far} {line} lines h is e =
    record {
      is = e ∙ rw (lines.is, is) (append_assoc before (flatten (each_below k parts)) (flatten (parts k)) ∙ ap (λ (xs : List ℕ). before ++ xs) (each_more parts k));
      room = rw (e, length-append so_far line) (omega (arith, lines.room));
    }

-- the request for levels answers so
pub cells_are : (plan : Plan) {before after : List ℤ} {r : Answer}
    → before ≡ replicate cells_lent (pos 0)
    → AnsweredBy plan (own_marks plan) before after r
    → after ≡ cells_of plan
unfolding cells_of
cells_are plan e a = rw e at a.cells

-- ---- a study and a text

module _ (plan : Plan) {items : List Segment} (is : items ≡ plan.segments) (k : ℕ) where
  pub segment_at_place : segment_bytes (k + 1) (get_or items k no_segment) ≡ flatten (segment_line plan k)
  unfolding segment_bytes
  segment_at_place = rw is refl

  pub segments_all : k ≤ length items → length items ≤ k → flatten (each_below k (segment_line plan)) ≡ segments_bytes plan
  unfolding segments_bytes segments_parts
  segments_all h e = let all : k ≡ length items = omega (arith, h, e) in rw (all, is) refl

module _ (plan : Plan) {items : List Entry} (is : items ≡ plan.entries) (k : ℕ) (cells : List ℤ) where
  pub entry_at_place : {number : ℕ} {day night : ℤ}
      → number ≡ place_number (get_or items k no_entry).segment
      → day ≡ cell_at cells k
      → night ≡ cell_at cells (length items + k)
      → entry_bytes (k + 1) number (get_or items k no_entry).train day night ≡ flatten (entry_line plan cells k)
  unfolding entry_bytes
  entry_at_place n d m = rw (n, d, m, is) refl

  pub entries_all : k ≤ length items → length items ≤ k → flatten (each_below k (entry_line plan cells)) ≡ entries_bytes plan cells
  unfolding entries_bytes entries_parts
  entries_all h e = let all : k ≡ length items = omega (arith, h, e) in rw (all, is) refl

pub study_is : (plan : Plan) {cells : List ℤ} → cells ≡ cells_of plan → segments_bytes plan ++ entries_bytes plan cells ≡ flatten (study_parts plan)
unfolding study_parts segments_bytes entries_bytes
study_is plan e = rw e (sym (flatten_append (segments_parts plan) (entries_parts plan (cells_of plan))))

pub text_is : (text : List ℕ) {st : Plan} {outcome : List ℕ} → st ≡ plan_in text → outcome ≡ report_of text → flatten (study_parts st) ++ outcome ≡ flatten (text_parts text)
unfolding text_parts flatten
text_is text e o =
    rw (o, e, flatten_append (study_parts (plan_in text)) (report_of text ∷ []), append-nil (report_of text)) refl
