-- What one text gives: its levels in the cells, and for each period how many segments with trains are marked.
-- Assumes nothing.
use mathlib.Core.Path.{◌≡◌, refl, sym, ap, ◌∙◌}
use mathlib.Core.List.{List, map}
use Prim.Native.Nat.{ℕ, ◌+◌}
use native.Mathlib.Omega.{arith}
use lib.IntN.{ℤ}
use lib.ListN.{length, take, drop}
use Rattle.figures.specs.declared.Period.{Period}
use Rattle.figures.specs.declared.Periods.{Periods}
use Rattle.figures.specs.Periods.{in_period}
use Rattle.figures.specs.declared.Period.TheVariants.{Day, Night}
use Rattle.study.specs.Plan.{Plan}
use Rattle.study.specs.Add.{ours}
use Rattle.request.specs.declared.PeriodResult.{PeriodResult}
use Rattle.request.specs.Levels.{own_marks, levels_of, cell_of, close_segments, result_from, result_by}
use Rattle.request.specs.Request.{cells_needed, first_cell}
use Rattle.request.proofs.Cells.{cells_of, cells_length}
use Rattle.request.proofs.Counts.{close_most}
use Rattle.request.proofs.Results.{result_is}
use Rattle.request.proofs.Laid.{own_cells}
use Rattle.text.specs.Text.{read_text}
use Rattle.text.specs.Answer.{TextAnswer, plan_in, TextAnswered}
use Rattle.text.proofs.Runs.{text_held}
use Rattle.text.proofs.EnoughCells.{accepted_by, results_are, period_cells}
use Rattle.drawings.specs.declared.Sizes.{Sizes}
use Rattle.drawings.specs.declared.Part.{Part}
use Rattle.drawings.specs.declared.Drawing.{Drawing}
use Rattle.drawings.specs.Private.{total_marks, Announced, Unannounced, PartOf, Given, TextGives, Small}
use Rattle.std.specs.Prelude.{Option, None, Some, IsSome, MatchOption, Ok}

-- ---- the answer of a text with 192 cells

module _ (text : List ℕ) {before after : List ℤ} {a : TextAnswer} (q : TextAnswered text before after a) (room : length before ≡ cells_needed ours.entries) where
  abbrev plan : Plan
  plan = plan_in text

  module _ {both : Periods PeriodResult} (e : a ≡ Ok both) where
    accepted : (read_text ours text).check ≡ Ok tt
    accepted = accepted_by text q room e

    pub sizes_some : (o : Option Sizes) → MatchOption o (Unannounced text) (λ r. Announced text r) → IsSome o
    sizes_some None w = absurd (w accepted)
    sizes_some (Some r) w = refl

    results : (p : Period) → in_period p both ≡ result_by p plan (own_marks plan)
    unfolding in_period
    results Day = ap (λ (x : Periods PeriodResult). x.day) (results_are text q room e)
    results Night = ap (λ (x : Periods PeriodResult). x.night) (results_are text q room e)

    -- the close count has the total's own mark in it
    close_at : (p : Period) → (in_period p both).close ≡ close_segments p plan (own_marks plan) + total_marks (cells_of p plan)
    unfolding result_from
    close_at p = ap (λ (x : PeriodResult). x.close) (results p ∙ result_is p plan (text_held ours text).total)

    -- a period's part, from its cells
    part_levels : (p : Period) {cells : List ℤ} {r : Part} → cells ≡ cells_of p plan → PartOf (in_period p both).close cells r → r.levels.now ≡ map cell_of (levels_of p plan (own_marks plan))
    part_levels p c w = w.levels ∙ c ∙ sym (own_cells p plan)

    part_close : (p : Period) {cells : List ℤ} {r : Part} → cells ≡ cells_of p plan → PartOf (in_period p both).close cells r → r.close ≡ close_segments p plan (own_marks plan)
    part_close p c w = w.close ∙ rw (c, close_at p) (omega arith)

    pub text_gives : {sizes : Sizes} → Announced text sizes → {n : ℕ} → n ≡ sizes.entries → {d e : Part} → PartOf both.day.close (take sizes.entries after) d → PartOf both.night.close (take n (drop sizes.entries after)) e
        → TextGives text (record { segments = sizes.segments; parts = record { day = d; night = e } })
    unfolding in_period first_cell
    text_gives {sizes} announced {n} same {d} {e} v w = record { accepted = accepted; given = record { segments = announced.segments accepted; close = close; levels = levels } }
      where
        size : sizes.entries ≡ length plan.entries
        size = announced.entries accepted

        day : take sizes.entries after ≡ cells_of Day plan
        day = period_cells text q room Day accepted size

        night : take n (drop sizes.entries after) ≡ cells_of Night plan
        night = rw same (period_cells text q room Night accepted size)

        close : (p : Period) → (in_period p (record { day = d; night = e })).close ≡ close_segments p plan (own_marks plan)
        close Day = part_close Day day v
        close Night = part_close Night night w

        levels : (p : Period) → (in_period p (record { day = d; night = e })).levels.now ≡ map cell_of (levels_of p plan (own_marks plan))
        levels Day = part_levels Day day v
        levels Night = part_levels Night night w

-- ---- no more than a study may hold

-- as many levels in each period as entries
module _ {plan : Plan} {r : Drawing} (g : Given plan r) where
  entries_in : (p : Period) → length (in_period p r.parts).levels.now ≡ length plan.entries
  entries_in p = ap length (g.levels p ∙ own_cells p plan) ∙ cells_length p plan

  pub day_entries : length r.parts.day.levels.now ≡ length plan.entries
  unfolding in_period
  day_entries = entries_in Day

  night_entries : length r.parts.night.levels.now ≡ length plan.entries
  unfolding in_period
  night_entries = entries_in Night

pub text_small : (text : List ℕ) {r : Drawing} → TextGives text r → Small r
unfolding in_period
text_small text w =
    let g = w.given in
    let held = text_held ours text in
    record {
      segments = omega (arith, g.segments, held.count);
      entries = omega (arith, day_entries g, held.total);
      nights = night_entries g ∙ sym (day_entries g);
      day = omega (arith, g.close Day, close_most Day (plan_in text) (own_marks (plan_in text)), held.count);
      night = omega (arith, g.close Night, close_most Night (plan_in text) (own_marks (plan_in text)), held.count);
    }
