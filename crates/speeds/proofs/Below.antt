-- Whether a level stays below a limit: by one comparison of tenths, and of a lower level too.
-- Assumes nothing.
use mathlib.Core.Path.{◌≡◌, refl, sym, ap, ◌∙◌}
use native.Mathlib.Nat.{zero-lt-suc}
use native.Mathlib.Omega.{arith}
use lib.Dec.{T}
use lib.IntN.{ℤ, pos, negsuc, ◌+ℤ◌, ◌*ℤ◌, ◌-ℤ◌}
use lib.Signed.{lt_z, lt_z_yes, ◌≤ℤ◌, ◌<ℤ◌}
use Rattle.decibel.specs.Ints.{up, dn}
use Rattle.decibel.specs.Round.{whole_decibels}
use Rattle.decibel.specs.declared.Level.{Level}
use Rattle.decibel.specs.declared.Level.TheVariants.{Figure}
use Rattle.decibel.proofs.Ints.{add_is, mul_is, floor_is, lt_is, is_lt, ints}
use Rattle.energy.specs.Rising.{LevelAtMost, silent_lowest, figure_at_most}
use Rattle.energy.proofs.Order.{same_test}
use Rattle.speeds.specs.Speeds.{stays_below}

-- a lower level stays below where a higher one does
figure_falls : (limit f g : ℤ) → f ≤ℤ g → T (lt_z (whole_decibels g) limit) → T (lt_z (whole_decibels f) limit)
unfolding whole_decibels
figure_falls limit f g h t =
    let below : whole_decibels g <ℤ limit = lt_z_yes t in
    let lower : whole_decibels f <ℤ limit = omega (arith, ints, floor_is (f +ℤ pos 5) 10 (zero-lt-suc _), floor_is (g +ℤ pos 5) 10 (zero-lt-suc _), add_is f (pos 5), add_is g (pos 5)) in
    lower.lt

pub below_falls : (limit : ℤ) {l k : Level} → LevelAtMost l k → T (stays_below limit k) → T (stays_below limit l)
unfolding stays_below
below_falls limit silent_lowest t = tt
below_falls limit (figure_at_most {f = f} {g = g} h) t = figure_falls limit f g h t

-- as the code compares: on whole decibels a level stays below the limit exactly where it lies more than half a decibel under it
half_under : (limit r bound : ℤ) → bound ≡ pos 10 *ℤ limit -ℤ pos 5 → lt_z r bound ≡ lt_z (whole_decibels r) limit
unfolding whole_decibels
half_under limit r bound e = same_test (lt_z r bound) (lt_z (whole_decibels r) limit) there back
  where
    there : T (lt_z r bound) → T (lt_z (whole_decibels r) limit)
    there t = (is_lt (whole_decibels r) limit (omega (arith, lt_is r bound (lt_z_yes t), floor_is (r +ℤ pos 5) 10 (zero-lt-suc _), add_is r (pos 5), add_is (pos 10 *ℤ limit) (negsuc 4), mul_is 10 limit, ap up e, ap dn e))).lt

    back : T (lt_z (whole_decibels r) limit) → T (lt_z r bound)
    back t = (is_lt r bound (omega (arith, lt_is (whole_decibels r) limit (lt_z_yes t), floor_is (r +ℤ pos 5) 10 (zero-lt-suc _), add_is r (pos 5), add_is (pos 10 *ℤ limit) (negsuc 4), mul_is 10 limit, ap up e, ap dn e))).lt

pub figure_below : (limit : ℤ) {l : Level} {r : ℤ} → l ≡ Figure r → lt_z r (pos 10 *ℤ limit -ℤ pos 5) ≡ stays_below limit l
unfolding stays_below
figure_below limit {l} {r} e = half_under limit r _ refl ∙ sym (rw e refl)
