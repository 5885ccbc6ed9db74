-- The program's own total never falls where levels rise, one or more, or where levels are added.
-- The figure is so many tenths above the loudest level. While the loudest stays, the sum of weights rises. Where the loudest rises, all weights and
-- thresholds are cut anew, which costs at most 296 units, and the level that is the new loudest alone brings 20,000,000,000,000 and more.
-- Assumes nothing.
use mathlib.Core.Path.{◌≡◌, refl, sym, subst, ◌∙◌}
use mathlib.Core.Bool.{Bool, true, false, cond}
use mathlib.Core.Logic.{◌⊎◌, inl, inr, ⊎_elim}
use mathlib.Core.List.{List, [], ◌∷◌, ◌++◌}
use Prim.Native.Nat.{ℕ, zero, suc, ◌+◌, ◌*◌, ◌-◌, ◌^◌, ◌≤◌, ◌<◌, zero-le}
use native.Mathlib.Nat.{le_refl, le_trans, lt_of_not-le, mul-le-mul_left, mul-le-mul_right, mul-div-le, lt-mul-div-succ, zero-lt-suc}
use native.Mathlib.Decide.{dec_le}
use native.Mathlib.Omega.{arith}
use lib.Dec.{leb, le→leb, lit≤, lit<}
use lib.IntN.{ℤ, pos, negsuc}
use lib.Signed.{lt_z, ◌≤ℤ◌}
use lib.ListN.{length, take, length-take}
use Rattle.decibel.specs.Round.{by_mark}
use Rattle.decibel.proofs.Ints.{add_is, is_le, ints}
use Rattle.decibel.proofs.Powers.{le_of_pow_le, ten_mono}
use Rattle.decibel.proofs.Greatest.{greatest_above, greatest_most}
use Rattle.energy.specs.Energy.{bare_at}
use Rattle.energy.specs.Total.{energies, total_by, heard}
use Rattle.energy.specs.Mark.{height_of, loudest_of, weight_of, weighed, raised_unit, begin_of, passed_of, total_mark, total_of}
use Rattle.energy.specs.Private.{figure_at}
use Rattle.energy.specs.Rising.{Rises, end, more, then, CellsRise, last, cell, LevelAtMost, silent_lowest, figure_at_most, LevelsKept, next}
use Rattle.energy.proofs.Order.{less, not_less}
use Rattle.energy.proofs.Ratio.{Upper, Lower, upper_mul, lower_mul, crossed}
use Rattle.energy.proofs.Weighing.{unit, weight_fits, weight_most, weight_upper, weight_lower}
use Rattle.energy.proofs.Thresholds.{tenths_most, tenths_upper, tenths_lower, passed_fits}
use Rattle.energy.proofs.Levels.{height_is, louder, loudest_above, loudest_some}
use Rattle.energy.proofs.Named.{total_figure}
use Rattle.energy.proofs.Cells.{heard-kept, heard_few}

-- ---- heights

height_rises : (x y : ℤ) → negsuc 1999 ≤ℤ x → x ≤ℤ y → height_of x ≤ height_of y
height_rises x y low h = omega (arith, ints, height_is x low, height_is y (omega (arith, ints)))

loudest_rises : {xs ys : List ℤ} → LevelsKept xs → Rises xs ys → loudest_of xs ≤ loudest_of ys
unfolding loudest_of
loudest_rises kept end = zero-le
loudest_rises kept (more {y = y} {ys = ys} r) = le_trans (loudest_rises kept r) (loudest_above y ys).1
loudest_rises (next low high kept) (then {x = x} {y = y} {xs = xs} {ys = ys} h r) =
    let top = loudest_above y ys in
    louder (λ t. t ≤ loudest_of (y ∷ ys)) (height_of x) (loudest_of xs) (λ _. le_trans (loudest_rises kept r) top.1) (λ _. le_trans (height_rises x y low h) top.0)

loudest_one : (y : ℤ) (ys : List ℤ) → (loudest_of (y ∷ ys) ≡ height_of y) ⊎ (loudest_of (y ∷ ys) ≡ loudest_of ys)
unfolding loudest_of
loudest_one y ys = louder (λ t. (t ≡ height_of y) ⊎ (t ≡ loudest_of ys)) (height_of y) (loudest_of ys) (λ _. inr refl) (λ _. inl refl)

-- ---- weights

weight_falls : (i j : ℕ) → i ≤ j → weight_of j ≤ weight_of i
unfolding weight_of
weight_falls i j h =
    greatest_above (λ w. leb (w ^ 100 * 10 ^ i) (unit ^ 100)) unit (weight_of j) (weight_most j)
    (le→leb (weight_of j ^ 100 * 10 ^ i) (unit ^ 100) (le_trans (mul-le-mul_left (weight_of j ^ 100) (ten_mono h)) (weight_fits j)))

weight_first : unit ≤ weight_of 0
unfolding weight_of
weight_first = greatest_above (λ w. leb (w ^ 100 * 10 ^ 0) (unit ^ 100)) unit unit (le_refl unit) (le→leb (unit ^ 100 * 10 ^ 0) (unit ^ 100) (lit≤ tt))

weight_loudest : (t h : ℕ) → t ≡ h → unit ≤ weight_of (t - h)
weight_loudest t h e = le_trans weight_first (weight_falls (t - h) 0 (omega arith))

-- a tenth below the loudest
abbrev second : ℕ
second = 980000000000000

weight_second : (j : ℕ) → 0 < j → weight_of j ≤ second
weight_second j h = le_trans (weight_falls 1 j h) (le_of_pow_le {n = 100} (lit< tt) (bound (weight_of 1 ^ 100) (second ^ 100) (le_trans (weight_fits 1) (lit≤ tt))))
  where
    bound : (x y : ℕ) → x * 10 ^ 1 ≤ y * 10 ^ 1 → x ≤ y
    bound x y l = omega arith

weighed_rises : (t : ℕ) {xs ys : List ℤ} → LevelsKept xs → Rises xs ys → weighed t xs ≤ weighed t ys
unfolding weighed
weighed_rises t kept end = zero-le
weighed_rises t kept (more r) = omega (arith, weighed_rises t kept r)
weighed_rises t (next low high kept) (then {x = x} {y = y} h r) =
    let l = height_rises x y low h in
    omega (arith, weighed_rises t kept r, weight_falls (t - height_of y) (t - height_of x) (omega arith))

-- ---- the ties passed

passed_least : (w k : ℕ) → k ≤ 199 → begin_of k ≤ w → k ≤ passed_of w
unfolding passed_of
passed_least w k few h = greatest_above (λ i. leb (begin_of i) w) 199 k few (le→leb (begin_of k) w h)

passed_bound : (w : ℕ) → passed_of w ≤ 199
unfolding passed_of
passed_bound w = greatest_most (λ k. leb (begin_of k) w) 199

pub passed_rises : (w v : ℕ) → w ≤ v → passed_of w ≤ passed_of v
passed_rises w v h = passed_least v (passed_of w) (passed_bound w) (le_trans (passed_fits w) h)

-- ---- the loudest rises by d tenths

module _ (d : ℕ) where
  -- weights are scaled down, by at most one unit more than the ratio
  weight_scaled : (j : ℕ) → weight_of j * weight_of d ≤ unit * suc (weight_of (j + d))
  weight_scaled j =
      let same : (j + d) * 100000 ≡ j * 100000 + d * 100000 = omega arith in
      let l = crossed (upper_mul (weight_upper j) (weight_upper d)) (subst (λ (c : ℕ). Lower unit (suc (weight_of (j + d))) c) same (weight_lower (j + d))) in
      omega arith

  weighed_scaled : (t : ℕ) (xs : List ℤ) → loudest_of xs ≤ t → weighed t xs * weight_of d ≤ unit * (weighed (t + d) xs + length xs)
  unfolding weighed
  weighed_scaled t [] h = omega arith
  weighed_scaled t (x ∷ xs) h =
      let top = loudest_above x xs in
      let same : t - height_of x + d ≡ t + d - height_of x = omega arith in
      omega (arith, weighed_scaled t xs (le_trans top.1 h), rw same at (weight_scaled (t - height_of x)))

  -- and so are thresholds
  tenths_scaled : (j : ℕ) → unit * raised_unit j ≤ suc (raised_unit (j + d)) * suc (weight_of d)
  tenths_scaled j =
      let same : (j + d) * 100000 ≡ j * 100000 + d * 100000 = omega arith in
      let l = crossed (subst (λ (c : ℕ). Upper (suc (raised_unit (j + d))) unit c) same (tenths_upper (j + d))) (lower_mul (tenths_lower j) (weight_lower d)) in
      omega arith

  begin_scaled : (j w : ℕ) → j + d ≤ 200 → begin_of (suc (j + d)) ≤ w → unit * begin_of (suc j) ≤ w * weight_of d + unit * 200
  unfolding begin_of
  begin_scaled j w few h =
      let a = raised_unit j in
      let b = raised_unit (j + d) in
      let low = mul-div-le (1011230 * a) 1000000 in
      let high = lt-mul-div-succ (1011230 * b) (zero-lt-suc 999999) in
      let over : 1011230 * b ≤ 1000000 * suc w = omega arith in
      omega (arith, tenths_scaled j, tenths_most (j + d) few, weight_most d, mul-le-mul_right (weight_of d) over)

-- the level that is the new loudest brings more than a fiftieth of its weight
weighed_gains : (t : ℕ) {xs ys : List ℤ} → LevelsKept xs → Rises xs ys → loudest_of xs < t → loudest_of ys ≡ t → weighed t xs + unit ≤ weighed t ys + second
unfolding loudest_of weighed
weighed_gains t kept end small e = absurd (omega arith)
weighed_gains t kept (more {y = y} {ys = ys} r) small e =
    ⊎_elim
    (λ (q : loudest_of (y ∷ ys) ≡ height_of y). omega (arith, weighed_rises t kept r, weight_loudest t (height_of y) (omega arith)))
    (λ (q : loudest_of (y ∷ ys) ≡ loudest_of ys). omega (arith, weighed_gains t kept r small (sym q ∙ e)))
    (loudest_one y ys)
weighed_gains t (next low high kept) (then {x = x} {y = y} {xs = xs} {ys = ys} h r) small e =
    let top = loudest_above x xs in
    let l = height_rises x y low h in
    ⊎_elim
    (λ (q : loudest_of (y ∷ ys) ≡ height_of y). omega (arith, weighed_rises t kept r, weight_loudest t (height_of y) (omega arith), weight_second (t - height_of x) (omega arith)))
    (λ (q : loudest_of (y ∷ ys) ≡ loudest_of ys). omega (arith, weighed_gains t kept r (omega arith) (sym q ∙ e), weight_falls (t - height_of y) (t - height_of x) (omega arith)))
    (loudest_one y ys)

-- so every tie that the first sum has passed is passed by the second, counted from the new loudest
passed_louder : (t d : ℕ) {xs ys : List ℤ} → 0 < d → LevelsKept xs → length xs ≤ 96 → Rises xs ys → loudest_of xs ≡ t → loudest_of ys ≡ t + d → passed_of (weighed t xs) ≤ d + passed_of (weighed (t + d) ys)
passed_louder t d {xs} {ys} some kept few r was is = go (dec_le (passed_of w) d)
  where
    w : ℕ
    w = weighed t xs

    v : ℕ
    v = weighed (t + d) ys

    reached : (j : ℕ) → passed_of w ≡ suc (j + d) → suc j ≤ passed_of v
    reached j e =
        let gain = weighed_gains (t + d) kept r (omega arith) is in
        let scaled = weighed_scaled d t xs (omega arith) in
        passed_least v (suc j) (omega (arith, passed_bound w)) (omega (arith, begin_scaled d j w (omega (arith, passed_bound w)) (subst (λ (k : ℕ). begin_of k ≤ w) e (passed_fits w))))

    go : Dec (passed_of w ≤ d) → passed_of w ≤ d + passed_of v
    go (yes l) = omega arith
    go (no l) = omega (arith, lt_of_not-le l, reached (passed_of w - d - 1) (omega (arith, lt_of_not-le l)))

-- ---- figures

figure_order : (t k u j : ℕ) → t + k ≤ u + j → figure_at t k ≤ℤ figure_at u j
figure_order t k u j h = is_le (figure_at t k) (figure_at u j) (omega (arith, add_is (pos (t + k)) (negsuc 2000), add_is (pos (u + j)) (negsuc 2000)))

rises_length : {xs ys : List ℤ} → Rises xs ys → length xs ≤ length ys
rises_length end = zero-le
rises_length (more r) = omega (arith, rises_length r)
rises_length (then h r) = omega (arith, rises_length r)

abbrev figure_of : List ℤ → ℤ
figure_of ls = by_mark (total_mark ls) (bare_at (energies ls))

module _ {xs ys : List ℤ} (kept-xs : LevelsKept xs) (kept-ys : LevelsKept ys) (some : 0 < loudest_of xs) (few : length ys ≤ 96) (r : Rises xs ys) where
  abbrev t : ℕ
  t = loudest_of xs

  abbrev u : ℕ
  u = loudest_of ys

  higher : t ≤ u
  higher = loudest_rises kept-xs r

  few_xs : length xs ≤ 96
  few_xs = omega (arith, rises_length r)

  by_passed : t + passed_of (weighed t xs) ≤ u + passed_of (weighed u ys) → figure_of xs ≤ℤ figure_of ys
  by_passed h = rw (total_figure kept-xs some few_xs, total_figure kept-ys (omega (arith, higher)) few) (figure_order t (passed_of (weighed t xs)) u (passed_of (weighed u ys)) h)

  -- while the loudest level stays
  pub figure_same : t ≡ u → figure_of xs ≤ℤ figure_of ys
  figure_same e = by_passed (omega (arith, passed_rises (weighed t xs) (weighed u ys) (subst (λ (h : ℕ). weighed t xs ≤ weighed h ys) e (weighed_rises t kept-xs r))))

  -- where another level becomes the loudest, or the loudest rises
  pub figure_louder : t < u → figure_of xs ≤ℤ figure_of ys
  figure_louder h =
      let d : ℕ = u - t in
      let e : t + d ≡ u = omega arith in
      by_passed (omega (arith, subst (λ (v : ℕ). passed_of (weighed t xs) ≤ d + passed_of (weighed v ys)) e (passed_louder t d (omega arith) kept-xs few_xs r refl (sym e))))

  pub figure_rises : figure_of xs ≤ℤ figure_of ys
  figure_rises = go (dec_le u t)
    where
      go : Dec (u ≤ t) → figure_of xs ≤ℤ figure_of ys
      go (yes h) = figure_same (omega (arith, higher))
      go (no h) = figure_louder (lt_of_not-le h)

-- ---- totals

-- the law
pub total_rises : (xs ys : List ℤ) → LevelsKept xs → LevelsKept ys → length ys ≤ 96 → Rises xs ys → LevelAtMost (total_of xs).level (total_of ys).level
unfolding total_of total_by
total_rises [] ys kept-xs kept-ys few r = silent_lowest
total_rises (x ∷ xs) [] kept-xs kept-ys few r = absurd (omega (arith, rises_length r))
total_rises (x ∷ xs) (y ∷ ys) kept-xs kept-ys few r = figure_at_most (figure_rises kept-xs kept-ys (loudest_some kept-xs) few r)

-- one level rises, at one place
at_place : (before after : List ℤ) (x y : ℤ) → x ≤ℤ y → Rises (before ++ (x ∷ after)) (before ++ (y ∷ after))
at_place [] after x y h = then h (same after)
  where
    same : (ls : List ℤ) → Rises ls ls
    same [] = end
    same (l ∷ ls) = then (is_le l l (omega arith)) (same ls)
at_place (a ∷ before) after x y h = then (is_le a a (omega arith)) (at_place before after x y h)

pub one_rises : (before after : List ℤ) (x y : ℤ) → LevelsKept (before ++ (x ∷ after)) → LevelsKept (before ++ (y ∷ after)) → length (before ++ (y ∷ after)) ≤ 96 → x ≤ℤ y → LevelAtMost (total_of (before ++ (x ∷ after))).level (total_of (before ++ (y ∷ after))).level
one_rises before after x y kept-x kept-y few h = total_rises (before ++ (x ∷ after)) (before ++ (y ∷ after)) kept-x kept-y few (at_place before after x y h)

-- ---- working cells

heard_cell : (c d : ℤ) (xs ys : List ℤ) → c ≤ℤ d → Rises xs ys →
    Rises (cond (lt_z c (negsuc 1999)) xs (cond (lt_z (pos 2000) c) (pos 2000) c ∷ xs)) (cond (lt_z d (negsuc 1999)) ys (cond (lt_z (pos 2000) d) (pos 2000) d ∷ ys))
heard_cell c d xs ys h r = go (lt_z c (negsuc 1999)) (lt_z d (negsuc 1999)) refl refl
  where
    most : (a b : Bool) → lt_z (pos 2000) c ≡ a → lt_z (pos 2000) d ≡ b → cond a (pos 2000) c ≤ℤ cond b (pos 2000) d
    most true true e f = is_le (pos 2000) (pos 2000) (omega arith)
    most true false e f = let l = less (pos 2000) c e in omega (arith, ints)
    most false true e f = not_less (pos 2000) c e
    most false false e f = h

    go : (a b : Bool) → lt_z c (negsuc 1999) ≡ a → lt_z d (negsuc 1999) ≡ b →
        Rises (cond a xs (cond (lt_z (pos 2000) c) (pos 2000) c ∷ xs)) (cond b ys (cond (lt_z (pos 2000) d) (pos 2000) d ∷ ys))
    go true true e f = r
    go true false e f = more r
    go false true e f = let low = not_less c (negsuc 1999) e in let under = less d (negsuc 1999) f in absurd (omega (arith, ints))
    go false false e f = then (most (lt_z (pos 2000) c) (lt_z (pos 2000) d) refl refl) r

heard_rises : {cs ds : List ℤ} → CellsRise cs ds → Rises (heard cs) (heard ds)
unfolding heard
heard_rises last = end
heard_rises (cell {c = c} {d = d} {cs = cs} {ds = ds} h r) = heard_cell c d (heard cs) (heard ds) h (heard_rises r)

take_cells : (n : ℕ) {cs ds : List ℤ} → CellsRise cs ds → CellsRise (take n cs) (take n ds)
take_cells zero r = last
take_cells (suc n) last = last
take_cells (suc n) (cell h r) = cell h (take_cells n r)

-- what `total_of` answers, whatever the cells
pub cells_rise : {cs ds : List ℤ} → CellsRise cs ds → LevelAtMost (total_of (heard (take 96 cs))).level (total_of (heard (take 96 ds))).level
cells_rise {cs} {ds} r =
    total_rises (heard (take 96 cs)) (heard (take 96 ds)) (heard-kept (take 96 cs)) (heard-kept (take 96 ds))
    (le_trans (heard_few (take 96 ds)) (omega (arith, length-take 96 ds)))
    (heard_rises (take_cells 96 r))
