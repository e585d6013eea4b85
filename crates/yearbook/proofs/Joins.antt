-- Laws of two ranges that meet, and of the pairs across the join: in how many years' last months one starts. Assumes nothing.
use Prim.Native.Nat.{ℕ, zero, suc, ◌+◌, ◌-◌, ◌*◌, ◌≤◌, ◌<◌}
use native.Mathlib.Omega.{arith}
use mathlib.Core.Path.{◌≡◌, refl, ap, ap₂, sym, ◌∙◌}
use mathlib.Core.Bool.{Bool, ◌&&◌}
use lib.Dec.{eqb}
use lib.ListN.{length}
use Rattle.rule.specs.Lists.{those}
use Rattle.rule.specs.Rule.{month_start, month_length, big, pair_starts, civil_first_month}
use Rattle.rule.proofs.Lists.{bit, length_more}
use Rattle.rule.proofs.Months.{length_shift}
use Rattle.rule.proofs.CivilYears.{civil-first-shift}
use Rattle.yearbook.specs.Figures.{passing}
use Rattle.yearbook.specs.Paper.{pair_across}
use Rattle.yearbook.proofs.Passing.{meet, none_yet}

-- pairs come round with each bu
pair-shift : (n : ℕ) → pair_starts (n + 940) ≡ pair_starts n
unfolding pair_starts big
pair-shift n =
    ap₂ (λ (a b : ℕ). eqb a 30 && eqb b 30) (length_shift 1 n) (ap month_length {x = n + 940 + 1} {y = n + 1 + 940 * 1} (omega arith) ∙ length_shift 1 (n + 1))

-- and so do those across the join
opens-late : (y : ℕ) → 1 ≤ y → 1 ≤ civil_first_month y
unfolding civil_first_month
opens-late y h = omega arith

across-shift : (y : ℕ) → pair_across (y + 76) ≡ pair_across y
across-shift y =
    ap pair_starts {y = civil_first_month (y + 1) - 1 + 940}
    (omega (
      arith,
      ap civil_first_month {x = y + 76 + 1} {y = y + 1 + 76 * 1} (omega arith),
      civil-first-shift 1 (y + 1) (omega arith),
      opens-late (y + 1) (omega arith),
    ))
    ∙ pair-shift (civil_first_month (y + 1) - 1)

-- as many of one run as of another on which the test is the same
moved_on : (p : ℕ → Bool) (a b : ℕ) → ((i : ℕ) → p (b + i) ≡ p (a + i)) → (m : ℕ) → length (those p b m) ≡ length (those p a m)
moved_on p a b h zero = none_yet p b ∙ sym (none_yet p a)
moved_on p a b h (suc m) = omega (arith, length_more p a m, length_more p b m, moved_on p a b h m, ap bit (h m))

across-on : (k y : ℕ) → pair_across (y + 76 * k) ≡ pair_across y
across-on zero y = ap pair_across {x = y + 76 * 0} {y = y} (omega arith)
across-on (suc k) y = ap pair_across {x = y + 76 * suc k} {y = y + 76 * k + 76} (omega arith) ∙ across-shift (y + 76 * k) ∙ across-on k y

-- four in a bu
across-in-bu : length (those pair_across 1 76) ≡ 4
unfolding those pair_starts big month_length month_start civil_first_month
across-in-bu = refl

across-in-bus : (k : ℕ) → passing pair_across 1 (1 + 76 * k) ≡ 4 * k
across-in-bus zero = ap (λ (m : ℕ). length (those pair_across 1 m)) {y = 0} (omega arith) ∙ none_yet pair_across 1
across-in-bus (suc k) =
    omega (
      arith,
      meet pair_across 1 (1 + 76 * k) (1 + 76 * suc k) (omega arith) (omega arith),
      across-in-bus k,
      ap (λ (m : ℕ). length (those pair_across (1 + 76 * k) m)) {x = 1 + 76 * suc k - (1 + 76 * k)} {y = 76} (omega arith),
      moved_on pair_across 1 (1 + 76 * k) (λ i. ap pair_across {y = 1 + i + 76 * k} (omega arith) ∙ across-on k (1 + i)) 76,
      across-in-bu,
    )

-- none in the last two years
across-at-end : length (those pair_across 41039 2) ≡ 0
unfolding those pair_starts big month_length month_start civil_first_month
across-at-end = refl

pub across-in-all : length (those pair_across 1 41038) ≡ 2160
across-in-all = omega (arith, meet pair_across 1 41039 41041 (omega arith) (omega arith), across-in-bus 540, across-at-end)

-- a run and its last
pub with-last : (p : ℕ → Bool) (a b : ℕ) → a < b → passing p a b ≡ passing p a (b - 1) + bit (p (b - 1))
with-last p a b h =
    ap (λ (m : ℕ). length (those p a m)) {y = suc (b - 1 - a)} (omega arith)
    ∙ length_more p a (b - 1 - a) ∙ ap (λ (n : ℕ). passing p a (b - 1) + bit (p n)) {y = b - 1} (omega arith)
