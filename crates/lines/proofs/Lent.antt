-- Laws of entry counts that are lent: one more at its place, and what a call leaves in them.
-- Assumes nothing.
use Rattle.std.proofs.Common.{◌≡◌, ℕ, ◌+◌, ◌<◌, ◌≤◌, List, length, take, set, ℤ, pos, Option, None, Some, Ok, Err, refl, ap, arith, length-take-le, take_all, unwrap_or}
use Rattle.std.proofs.lemmas.List.{take_more_set}
use Rattle.figures.specs.declared.Refusal.{Refusal}
use Rattle.study.specs.Add.{Limits}
use Rattle.lines.specs.Contents.{contents_of, limits, ContentsRead}
use Rattle.lines.specs.Private.{Summed, Counted}
use Rattle.lines.proofs.Entries.{Reached, exceeded_full, held_more}

-- one more, after n of them
module _ (entries : ℕ) (v : ℤ) (counts : List ℕ) where
  abbrev l : Limits
  l = limits (length counts) entries

  module _ {n total : ℕ} where
    pub lent_full : length counts ≤ n → Counted l v (take n counts) (Some total) (take n counts) None
    lent_full h = exceeded_full l v (omega (arith, ap length (take_all n counts h)))

    pub lent_more : {c : ℕ} → v ≡ pos c → n < length counts → total + c ≤ entries → Counted l v (take n counts) (Some total) (take (n + 1) (set counts n c)) (Some (total + c))
    lent_more {c} p h w = held_more l v p (omega (arith, length-take-le n counts (omega arith))) w (take_more_set counts n c h)

-- no more than there are places
pub reached_few : {l : Limits} {line : List ℕ} {m : ℕ} {list : List ℕ} {total : Option ℕ} {left : List (Option ℤ)} {n : ℕ} → Reached l line m list total left n → (unwrap_or total 0 ≡ 0 → ⊥) → n ≤ l.segments
reached_few {l} {list = list} {total} {n = n} r z = go total r.summed z
  where
    go : (s : Option ℕ) → Summed l r.vs list s → (unwrap_or s 0 ≡ 0 → ⊥) → n ≤ l.segments
    go None t z = absurd (z refl)
    go (Some s) t z = omega (arith, t.many, t.few, r.count)

-- ---- what a call leaves in them

module _ {entries : ℕ} {line before after : List ℕ} (size : length after ≡ length before) where
  pub contents_refused : {f : Refusal} → Err f ≡ contents_of (limits (length before) entries) line → ContentsRead entries line before after (Err f)
  contents_refused e = record { size = size; room = omega arith; is = e }

  pub contents_counted : {n : ℕ} → n ≤ length before → Ok (take n after) ≡ contents_of (limits (length before) entries) line → ContentsRead entries line before after (Ok n)
  contents_counted h e = record { size = size; room = omega arith; is = e }
