-- Laws of the sum of records; what a filled drawer is told as. Assumes nothing.
use Rattle.std.proofs.Common.{◌≡◌, ℕ, zero, suc, ◌+◌, ◌*◌, ◌/◌, ◌%◌, ◌^◌, ◌<◌, ◌≤◌, List, [], ◌∷◌, map, length, get_or, take, sym, refl, ap, ◌∙◌, le_of_suc-le-suc, not-suc-le-zero, add-one, arith}
use Rattle.std.specs.Prelude.{Result}
use lib.ListN.{length-map}
use lib.Seq.{take-append_seam}
use Rattle.rule.specs.Lists.{placed}
use Rattle.rule.specs.Reasons.{Answer, is, afterwards}
use Rattle.dates.specs.declared.Date.{Date}
use Rattle.dates.specs.Dates.{date_of}
use Rattle.drawer.specs.declared.DrawerError.{DrawerError}
use Rattle.drawer.specs.Drawer.{drawer_at, said_filled, to_fill, FillDates}
use Rattle.drawer.proofs.Days.{Verdict, many, short, bad, good, verdict}
use Rattle.drawn.specs.Drawn.{added_of, sum_from, drawn_with, drawn_of}

-- a number of 64 bits turned by seven of them
pub turned-below : (s : ℕ) → s < 2 ^ 64 → s % 144115188075855872 * 128 + s / 144115188075855872 < 2 ^ 64
turned-below s h =
    let rest : s % 144115188075855872 < 144115188075855872 = omega arith in
    let whole : s / 144115188075855872 < 128 = omega arith in
    of-halves (s % 144115188075855872) (s / 144115188075855872) rest whole
  where
    of-halves : (a b : ℕ) → a < 144115188075855872 → b < 128 → a * 128 + b < 2 ^ 64
    of-halves a b k l = omega arith

-- the sum of the first i records: of none, and of one more
pub sum-none : (zs : List Date) → 0 ≡ sum_from 0 (take 0 zs)
unfolding sum_from
sum-none zs = refl

next : (s : ℕ) (zs : List Date) (i : ℕ) (d : Date) → i < length zs → added_of (sum_from s (take i zs)) (get_or zs i d) ≡ sum_from s (take (suc i) zs)
unfolding sum_from
next s [] i d l = absurd (not-suc-le-zero l)
next s (z ∷ zs) zero d l = refl
next s (z ∷ zs) (suc i) d l = next (added_of s z) zs i d (le_of_suc-le-suc l)

pub sum-next : (zs : List Date) (i : ℕ) (d : Date) (t : ℕ) → t ≡ sum_from 0 (take i zs) → i < length zs → added_of t (get_or zs i d) ≡ sum_from 0 (take (i + 1) zs)
sum-next zs i d t e l = ap (λ (s : ℕ). added_of s (get_or zs i d)) e ∙ next 0 zs i d l ∙ ap (λ (k : ℕ). sum_from 0 (take k zs)) (sym (add-one i))

-- a drawer of 4,096 records after the call
module _ (ds : List ℕ) (ys : List Date) (len : length ys ≡ 4096) (v : Result ℕ DrawerError) (zs : List Date) (done : FillDates ds ys v zs) where
  pub within : (n : ℕ) → n ≡ to_fill (said_filled v) → length zs ≡ length ys → n ≤ length zs
  within n e f = let most : to_fill (said_filled v) ≤ 4096 = rw (done.answered) (go (drawer_at ds (length ys)) (verdict ds (length ys))) in omega arith
    where
      go : (a : Answer ℕ) → Verdict ds (length ys) a → to_fill a ≤ 4096
      go a (many l e) = rw (e) (omega arith)
      go a (short l m e) = rw (e) (omega arith)
      go a (bad l m j f e) = rw (e) (omega arith)
      go a (good l m all e) = rw (e) l

  -- all that were filled are read
  pub as-drawn : drawn_with (said_filled v) (sum_from 0 (take (to_fill (said_filled v)) zs)) ≡ drawn_of ds
  unfolding drawn_of
  as-drawn = rw (done.lent, done.answered, len) (go (drawer_at ds 4096) (verdict ds 4096))
    where
      read : take (length ds) (placed (map date_of ds) ys) ≡ map date_of ds
      read = ap (λ (k : ℕ). take k (placed (map date_of ds) ys)) (sym (length-map ds date_of)) ∙ take-append_seam (map date_of ds) _

      go : (a : Answer ℕ) → Verdict ds 4096 a →
          drawn_with a (sum_from 0 (take (to_fill a) (afterwards a (λ n. map date_of ds) ys))) ≡ drawn_with a (sum_from 0 (map date_of ds))
      go a (many l e) = rw (e)
      go a (short l m e) = rw (e)
      go a (bad l m j f e) = rw (e)
      go a (good l m all e) = rw (e) (ap (λ (xs : List Date). drawn_with (is (length ds)) (sum_from 0 xs)) read)
