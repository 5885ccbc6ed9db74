-- The answer to a text, an entry, a period and a limit: the text's refusal, or the answer of its plan.
-- Assumes nothing.
use mathlib.Core.Path.{◌≡◌, refl, sym, ap, ◌∙◌, subst}
use mathlib.Core.Bool.{cond}
use mathlib.Core.List.{List, map}
use Prim.Native.Nat.{ℕ, ◌+◌, ◌-◌, ◌≤◌, ◌<◌}
use native.Mathlib.Omega.{arith}
use lib.IntN.{ℤ, pos}
use lib.ListN.{length, length-map, take, drop, get_or, get_or-map}
use Rattle.figures.specs.declared.Train.{Train}
use Rattle.figures.specs.declared.Period.{Period}
use Rattle.figures.specs.declared.Periods.{Periods}
use Rattle.figures.specs.declared.Refusal.TheVariants.{EntryNumber}
use Rattle.figures.specs.Refusal.{check_number, check_of, Check}
use Rattle.propagation.specs.declared.Propagation.{Propagation}
use Rattle.propagation.specs.Propagation.{propagation_of}
use Rattle.propagation.proofs.SegmentSum.{short_fits, propagation_small}
use Rattle.study.specs.declared.Entry.{Entry}
use Rattle.study.specs.Plan.{Plan, segment_at, no_train, no_entry}
use Rattle.study.specs.Add.{ours}
use Rattle.study.proofs.Plans.{each_at}
use Rattle.request.specs.declared.PeriodResult.{PeriodResult}
use Rattle.request.specs.Levels.{level_at, levels_of, cell_of, ground_marks}
use Rattle.request.specs.Request.{cells_needed, cell_in, first_cell}
use Rattle.request.proofs.Cells.{cells_of, cells_length, entry_level}
use Rattle.request.proofs.Laid.{first_most}
use Rattle.text.specs.declared.Fault.{Fault}
use Rattle.text.specs.Text.{read_text}
use Rattle.text.specs.Answer.{TextAnswer, check_at, answer_with, refused_line, at_line, text_answer, plan_in, text_number, TextAnswered}
use Rattle.text.proofs.EnoughCells.{told, period_cells}
use Rattle.text.proofs.Runs.{text_held, accepted_line}
use Rattle.speeds.specs.Speeds.{SpeedAnswer, at_speed, speed_number, highest_in, speed_answer, SpeedAnswered, SpeedAnsweredFrom}
use Rattle.speeds.proofs.OfPlan.{entry_in, added_in, allowed_at, outside_refused, plan_answered}
use Rattle.speeds.proofs.Checks.{answer_number}
use Rattle.speeds.proofs.OfStudy.{part_is}
use Rattle.text_speeds.specs.TextSpeeds.{TextSpeed, speed_with, text_speed, text_speed_number, TextSpeedAnswered}
use Rattle.text_speeds.specs.Private.{TrainIn, train_of_entry, trains_held, Emitted, Regained}
use Rattle.std.specs.Prelude.{Option, None, Some, Ok, Err, is_ok, slice_get, MatchResult}
use Rattle.std.proofs.lemmas.List.{get_or_default}
use Rattle.std.proofs.lemmas.Option.{none-some, slice_get_within, slice_get-get_or, get_or_from_slice_get}

-- ---- an entry's own cell

own_cell : (p : Period) (plan : Plan) (i : ℕ) → i < length plan.entries → get_or (cells_of p plan) i (pos 0) ≡ cell_in p (added_in p plan i) (entry_in p plan i).train
unfolding levels_of
own_cell p plan i h =
    let level = level_at p plan (ground_marks plan) in
    get_or_default (cells_of p plan) i (pos 0) (cell_of (level no_entry)) (omega (arith, cells_length p plan))
    ∙ get_or-map cell_of (map level plan.entries) i (level no_entry)
    ∙ ap cell_of (get_or-map level plan.entries i no_entry ∙ entry_level p plan (entry_in p plan i))

-- ---- an accepted text's levels, in cells enough for every study

module _ {text : List ℕ} {before after : List ℤ} {both : Periods PeriodResult} (q : TextAnswered text before after (Ok both)) (room : length before ≡ cells_needed ours.entries) where
  ok : (read_text ours text).check ≡ Ok tt
  unfolding check_at
  ok = sym (told text q room (read_text ours text).check refl)

  module _ {entry : ℕ} (some : entry ≡ 0 → ⊥) {found : ℕ × Option Train} (f : TrainIn text (entry - 1) found) where
    -- there is no such entry
    past : found.1 ≡ None → (1 ≤ entry) × (entry ≤ length (plan_in text).entries) → ⊥
    past e h = none-some _ (sym e ∙ f.train ok ∙ slice_get-get_or (trains_held (plan_in text)) (entry - 1) no_train (omega (arith, some, h.1, length-map (plan_in text).entries train_of_entry)))

    abbrev asked : Entry
    asked = get_or (plan_in text).entries (entry - 1) no_entry

    abbrev adds : Propagation
    adds = propagation_of (segment_at (plan_in text) asked.segment)

    -- there is, and its train
    module _ {t : Train} (there : found.1 ≡ Some t) where
      place : slice_get (trains_held (plan_in text)) (entry - 1) ≡ Some t
      place = sym (f.train ok) ∙ there

      within : entry - 1 < length (plan_in text).entries
      within = omega (arith, slice_get_within (trains_held (plan_in text)) (entry - 1) t place, length-map (plan_in text).entries train_of_entry)

      train_is : t ≡ asked.train
      train_is = sym (get_or_from_slice_get (trains_held (plan_in text)) (entry - 1) t no_train place) ∙ get_or-map train_of_entry (plan_in text).entries (entry - 1) no_entry

      module _ (p : Period) {from : ℕ} (first : from ≡ first_cell p found.0) where
        -- the period's cells
        cells_are : take (from + found.0 - from) (drop from after) ≡ cells_of p (plan_in text)
        cells_are = part_is after found.0 first ∙ period_cells text q room p ok (f.total ok)

        -- they are among those that were lent, and the entry's among them
        pub own_within : (from + found.0 ≤ 192) × (entry - 1 < length (take (from + found.0 - from) (drop from after)))
        own_within = (omega (arith, f.total ok, (text_held ours text).total, first, first_most p found.0), omega (arith, within, ap length cells_are, cells_length p (plan_in text)))

        module _ {cell : ℤ} (e : cell ≡ get_or (take (from + found.0 - from) (drop from after)) (entry - 1) (pos 0)) where
          cell_is : cell ≡ cell_in p adds.tenths asked.train
          cell_is = e ∙ ap (λ (cs : List ℤ). get_or cs (entry - 1) (pos 0)) cells_are ∙ own_cell p (plan_in text) (entry - 1) within

          -- the cell is that of the entry's train
          pub emitted : Emitted p t cell
          emitted =
              let small = propagation_small (segment_at (plan_in text) asked.segment) in
              rw train_is (record { check = (each_at (text_held ours text).entries (entry - 1) no_entry within).train; added = adds.tenths; small = (short_fits adds.tenths small).sfits; is = cell_is })

          -- so what is left of it stands for what the segment adds
          same_level : {tenths : ℤ} → Regained p t cell tenths → (v : ℕ) → cell_in p tenths (at_speed v t) ≡ cell_in p adds.tenths (at_speed v asked.train)
          same_level g v = g.same adds.tenths (cell_is ∙ ap (cell_in p adds.tenths) (sym train_is)) v ∙ ap (λ (x : Train). cell_in p adds.tenths (at_speed v x)) train_is

-- ---- the answer

-- a refused text's is its refusal, at its line
refused_told : {c : Check} (line : ℕ) (plan : Plan) (cells entry : ℕ) (p : Period) (limit : ℤ) {f : Fault} → c ≡ Err f.refusal → Err f ≡ answer_with c line plan cells → Err f ≡ speed_with c line plan entry p limit
unfolding answer_with speed_with
refused_told line plan cells entry p limit {f} e q =
    let z : ◌≡◌ {A = TextAnswer} (Err f) (refused_line f.refusal line) = q ∙ rw e refl in
    let same : f ≡ record { refusal = f.refusal; line = line } = cc in
    rw e (ap Err same)

-- an answer with its line, as `map_err` gives it
line_mapped : (a : SpeedAnswer) {r : TextSpeed} → MatchResult a (λ v. r ≡ Ok v) (λ f. r ≡ refused_line f 0) → r ≡ at_line 0 a
line_mapped (Ok v) e = e
line_mapped (Err f) e = e

module _ (text : List ℕ) (entry : ℕ) (p : Period) (limit : ℤ) where
  few : length (plan_in text).entries ≤ ours.entries
  few = (text_held ours text).total

  -- the request over the text's study
  planned : {a : SpeedAnswer} → (read_text ours text).check ≡ Ok tt → SpeedAnswered (plan_in text) entry p limit a → TextSpeedAnswered text entry p limit (at_line 0 a)
  unfolding text_speed speed_with
  planned ok q = record { answer = ap (at_line 0) q.answer ∙ rw (ok, accepted_line ours text ok) refl; allowed = q.allowed }

  module _ {before after : List ℤ} (room : length before ≡ cells_needed ours.entries) where
    -- what the text is refused with, at its line
    pub text_refused : {f : Fault} → TextAnswered text before after (Err f) → TextSpeedAnswered text entry p limit (Err f)
    unfolding text_speed text_answer check_at
    text_refused q =
        let r = read_text ours text in
        record { answer = refused_told r.line r.study (length before) entry p limit (sym (told text q room r.check refl)) q.answer; allowed = allowed_at r.study (entry - 1) few }

    module _ {both : Periods PeriodResult} (q : TextAnswered text before after (Ok both)) where
      -- 25 where the number is of no entry
      pub zero_told : entry ≡ 0 → TextSpeedAnswered text entry p limit (refused_line EntryNumber 0)
      zero_told e = planned (ok q room) (outside_refused (plan_in text) entry p limit few (λ h. omega (arith, e, h.0)))

      module _ (some : entry ≡ 0 → ⊥) {found : ℕ × Option Train} (f : TrainIn text (entry - 1) found) where
        pub past_told : found.1 ≡ None → TextSpeedAnswered text entry p limit (refused_line EntryNumber 0)
        past_told e = planned (ok q room) (outside_refused (plan_in text) entry p limit few (past q room some f e))

        module _ {t : Train} (there : found.1 ≡ Some t) {from : ℕ} (first : from ≡ first_cell p found.0) {cell tenths : ℤ} (e : cell ≡ get_or (take (from + found.0 - from) (drop from after)) (entry - 1) (pos 0)) where
          pub speed_told : Regained p t cell tenths → {s : SpeedAnswer} → SpeedAnsweredFrom (take ours.entries (take (from + found.0 - from) (drop from after))) entry tenths t p limit s
              → {r : TextSpeed} → MatchResult s (λ v. r ≡ Ok v) (λ why. r ≡ refused_line why 0) → TextSpeedAnswered text entry p limit r
          speed_told g {s} h m =
              let a = plan_answered (plan_in text) entry p limit few (cells_are q room some f there p first) (same_level q room some f there p first e g) h in
              subst (TextSpeedAnswered text entry p limit) (sym (line_mapped s m)) (planned (ok q room) a)

-- ---- its number

line_check : (line : ℕ) (a : SpeedAnswer) → check_at (at_line line a) ≡ check_of a
unfolding check_at check_of
line_check line (Ok v) = refl
line_check line (Err why) = refl

answer_numbered : (c : Check) (line : ℕ) (plan : Plan) (entry : ℕ) (p : Period) (limit : ℤ)
    → check_number (check_at (speed_with c line plan entry p limit)) ≡ cond (is_ok c) (speed_number entry (length plan.entries) (highest_in plan entry p limit)) (check_number c)
unfolding speed_with speed_answer check_at
answer_numbered (Ok _) line plan entry p limit = ap check_number (line_check line (speed_answer plan entry p limit)) ∙ answer_number entry (length plan.entries) (highest_in plan entry p limit) refl
answer_numbered (Err why) line plan entry p limit = refl

pub text_numbered : {text : List ℕ} {entry : ℕ} {p : Period} {limit : ℤ} {r : TextSpeed} → TextSpeedAnswered text entry p limit r → check_number (check_at r) ≡ text_speed_number text entry p limit
unfolding text_speed text_speed_number text_number
text_numbered {text} {entry} {p} {limit} a =
    let x = read_text ours text in
    ap (λ (r : TextSpeed). check_number (check_at r)) a.answer ∙ answer_numbered x.check x.line x.study entry p limit
