-- What the exported function hands to C of four texts, each perhaps marked as empty (02, L2).
-- Assumes nothing.
use Rattle.std.specs.Prelude.{◌≡◌, Bool, cond, List, [], ℕ, ◌≤◌, Some, None, Result, Ok, Err}
use Rattle.energy.specs.declared.Total.{Total}
use Rattle.figures.specs.declared.Refusal.{Refusal}
use Rattle.figures.specs.Refusal.{check_number, check_of, Check}
use Rattle.study.specs.Add.{ours}
use Rattle.text.specs.declared.TextFault.{TextFault}
use Rattle.text.specs.Text.{read_text}
use Rattle.c_values.specs.Values.{is_silent, tenths_of, line_value}
use Rattle.entitlement.specs.declared.Layout.{Layout}
use Rattle.entitlement.specs.declared.PeriodEntitlement.{PeriodEntitlement}
use Rattle.entitlement.specs.declared.Entitlement.{Entitlement}
use Rattle.entitlement.specs.Entitlement.{Lines, shown, entitlement_of, EntitlementAllowed}
use Rattle.railnoise_requests_c.specs.declared.RailnoiseCombined.{RailnoiseCombined}
use Rattle.railnoise_requests_c.specs.declared.RailnoiseEntitlementPeriod.{RailnoiseEntitlementPeriod}
use Rattle.railnoise_requests_c.specs.declared.RailnoiseEntitlementAnswer.{RailnoiseEntitlementAnswer}

-- ---- the values of C's structs

abbrev pub exported_combined : Total → RailnoiseCombined
exported_combined t = record { silent = is_silent t.level; level = tenths_of t.level; close = t.close }

unfoldable pub exported_entitlement_period : PeriodEntitlement → RailnoiseEntitlementPeriod
exported_entitlement_period p =
    record { prevailing = exported_combined p.prevailing; relevant = exported_combined p.relevant; reaches = p.reaches; rises = p.rises; contributes = p.contributes; entitled = p.entitled }

-- an answer with the text that was refused and its line at fault, both 0 where none was
unfoldable pub exported_entitlement : Result Entitlement Refusal → ℕ → ℕ → RailnoiseEntitlementAnswer
exported_entitlement answer text line =
    let e = shown answer in
    record { refusal = check_number (check_of answer); text = text; line = line_value line; day = exported_entitlement_period e.day; night = exported_entitlement_period e.night; entitled = e.entitled }

-- the same of what the program tells: of the texts' studies, or of the text that is refused
unfoldable pub exported_told : Result Entitlement TextFault → RailnoiseEntitlementAnswer
exported_told (Ok e) = exported_entitlement (Ok e) 0 0
exported_told (Err f) = exported_entitlement (Err f.fault.refusal) f.text f.fault.line

-- ---- four texts

-- a text, and whether it is marked as empty
pub record Source : Type 0 where
  pub empty : Bool
  pub text : List ℕ

abbrev pub source : Bool → List ℕ → Source
source empty text = record { empty = empty; text = text }

-- "it is then silent and not read"
unfoldable pub source_check : Source → Check
source_check s = cond s.empty (Ok tt) (read_text ours s.text).check

unfoldable pub given_lines : Source → Lines
given_lines s = cond s.empty None (Some (read_text ours s.text).study)

-- a text that is refused ends the request, with its refusal, its place and its line; else what comes after it
abbrev pub ended_by : Check → ℕ → ℕ → RailnoiseEntitlementAnswer → RailnoiseEntitlementAnswer
ended_by (Ok _) place line rest = rest
ended_by (Err why) place line rest = exported_entitlement (Err why) place line

unfoldable pub read_at : ℕ → Source → RailnoiseEntitlementAnswer → RailnoiseEntitlementAnswer
read_at place s rest = ended_by (source_check s) place (read_text ours s.text).line rest

abbrev pub layout_of : Source → Source → Layout Lines
layout_of altered other = record { altered = given_lines altered; other = given_lines other }

-- the altered lines before and after the works, the other lines before and after, in the order of C's parameters
unfoldable pub entitlement_in : Source → Source → Source → Source → RailnoiseEntitlementAnswer
entitlement_in altered_before altered_after other_before other_after =
    read_at 1 altered_before (read_at 2 altered_after (read_at 3 other_before (read_at 4 other_after
    (exported_entitlement (entitlement_of (layout_of altered_before other_before) (layout_of altered_after other_after)) 0 0))))

-- the whole of a call: by the program's own marks, and 01 allows these
pub record EntitlementCalled (altered_before altered_after other_before other_after : Source) (r : RailnoiseEntitlementAnswer) : Type 0 where
  pub answer : r ≡ entitlement_in altered_before altered_after other_before other_after
  pub allowed : EntitlementAllowed (layout_of altered_before other_before) (layout_of altered_after other_after)

-- ---- what a caller can rely on beside the equation. Proved as `entitlement_calls` in proofs/Refusals.antt

-- the same, with nothing behind a mark of emptiness
abbrev pub as_looked_at : Source → Source
as_looked_at s = source s.empty (cond s.empty [] s.text)

pub record EntitlementCalls : Type 0 where
  -- a refusal is a text's own, 1 to 13: never 23 or 24
  pub own_refusal : (a b c d : Source) → (entitlement_in a b c d).refusal ≤ 13
  -- a text is told exactly where one is refused
  pub text_told : (a b c d : Source) → ((entitlement_in a b c d).text ≡ 0 → (entitlement_in a b c d).refusal ≡ 0) × ((entitlement_in a b c d).refusal ≡ 0 → (entitlement_in a b c d).text ≡ 0)
  -- a text behind a mark makes no difference
  pub marked_unread : (a b c d : Source) → entitlement_in a b c d ≡ entitlement_in (as_looked_at a) (as_looked_at b) (as_looked_at c) (as_looked_at d)
