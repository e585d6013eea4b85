-- What W4 says of civil years, proved, each statement under its name in small letters. Assumes nothing.
use Rattle.std.specs.Prelude.{Ok}
use Prim.Native.Nat.{ℕ, ◌+◌, ◌-◌, ◌≤◌, ◌<◌}
use native.Mathlib.Omega.{arith}
use mathlib.Core.Path.{◌≡◌, refl, ap, ap₂, sym, ◌∙◌, subst₂}
use mathlib.Core.Bool.{false, not}
use mathlib.Core.List.{map}
use Rattle.rule.specs.Counts.{CivilYearInRange, MonthInRange}
use Rattle.rule.specs.Lists.{those}
use Rattle.rule.specs.Rule.{solstice_first_month, month_number, month_at, number_of, leap_mark, InCivilYear, civil_first_month, months_in_civil_year}
use Rattle.rule.specs.Paper.{ordinary, AfterNamesake}
use Rattle.rule.specs.declared.Month.TheVariants.{Leap}
use Rattle.rule.proofs.Lists.{those-same, map_same}
use Rattle.rule.proofs.Leap.{at_mark, mark-at, number_at}
use Rattle.rule.proofs.CivilYears.{civil-so-many, civil-end, civil-next}
use Rattle.rule.proofs.Civil as Civil
use Rattle.facts.specs.declared.SolsticeYear.{SolsticeYear}
use Rattle.facts.specs.declared.YearFacts.{YearFacts}
use Rattle.facts.specs.declared.MonthFacts.{MonthFacts}
use Rattle.facts.specs.Facts.{solstice_year, year_facts, year_facts_at, month_facts}
use Rattle.facts.specs.Promises.{YearOwnFacts, MonthByCount}
use Rattle.facts.specs.Years as Years
use Rattle.facts.specs.Years.{BySolsticeYear, number_told, ordinary_told}
use Rattle.facts.proofs.Computing.{facts-computed}
use Rattle.facts.proofs.Given.{told_is, year-given, month-given}
use Rattle.facts.proofs.Paper as Facts

-- what is answered for a year and for a month
year-told : (y : ℕ) (f : YearFacts) → YearOwnFacts y (Ok f) → CivilYearInRange y × (f ≡ year_facts y)
year-told y f p = let h = ((Facts.year-facts-exactly y f).0 p).0 in (h, told_is (year_facts y) f (year_facts_at y) (year-given y h) p)

month-told : (n : ℕ) (f : MonthFacts) → MonthByCount n (Ok f) → MonthInRange n × (f.month ≡ month_at n)
unfolding month_facts
month-told n f p =
    let h = ((Facts.month-by-count-exactly n f).0 p).0 in (h, ap (λ (g : MonthFacts). g.month) (Facts.its-month n f h p))

pub years-of-the-request : Years.YearsOfTheRequest
unfolding facts-computed
years-of-the-request =
    record {
      year-0 = λ a p. (Facts.unique-facts).year 0 a _ p refl;
      month-0 = λ f p. (month-told 0 f p).1;
      month-1 = λ f p. (month-told 1 f p).1;
      year-8 = λ a p. (Facts.unique-facts).year 8 a _ p refl;
      remainder-of-8 = λ s p. ap (λ (t : SolsticeYear). t.leap_remainder) (Facts.its-place 8 s (omega arith) p);
      year-11 = λ a p. (Facts.unique-facts).year 11 a _ p refl;
      year-27 = λ a p. (Facts.unique-facts).year 27 a _ p refl;
      year-41040 = λ a p. (Facts.unique-facts).year 41040 a _ p refl;
    }

pub up-to-the-next : Years.UpToTheNext
unfolding year_facts
up-to-the-next y f g p q =
    let (h, e) = year-told y f p in
    let (i, d) = year-told (y + 1) g q in
    ap₂ (λ (a b : YearFacts). a.first_month + b.months) e e ∙ civil-next y (omega (arith, i)) ∙ sym (ap (λ (a : YearFacts). a.first_month) d)

-- civil year y by solstice year y
by-its-own : (y : ℕ) → 1 ≤ y → BySolsticeYear y (solstice_year y) (year_facts y)
unfolding solstice_year year_facts solstice_first_month
by-its-own y l =
    record {
      two-on = (Civil.civil-first-month y l).two-on;
      three-on = (Civil.civil-first-month y l).three-on;
      thirteen = λ h. (Civil.thirteen-in-a-civil-year y l h).thirteen;
      twelve = λ h. (Civil.thirteen-in-a-civil-year y l h).twelve;
    }

pub by-the-solstice-year : Years.ByTheSolsticeYear
by-the-solstice-year y s f p q =
    let r = ((Facts.solstice-year-exactly y s).0 p).0 in
    subst₂ (BySolsticeYear y) (sym (Facts.its-place y s r p)) (sym (year-told y f q).1) (by-its-own y r.0)

pub numbers-in-order : Years.NumbersInOrder
unfolding year_facts month_facts
numbers-in-order told h y f l m p =
    let (r, e) = year-told y f p in
    ap (λ (g : YearFacts). map (λ n. number_told (told n)) (those (λ n. ordinary_told (told n)) g.first_month g.months)) e
    ∙ ap (map (λ n. number_told (told n))) (those-same (λ n. ordinary_told (told n)) ordinary F M (λ i g. mark (F + i) (inside r i g)))
    ∙ map_same (λ n. number_told (told n)) month_number ordinary F M (λ i g. number (F + i) (inside r i g))
    ∙ Civil.numbers-of-civil-year y l m
  where
    F : ℕ
    F = civil_first_month y

    M : ℕ
    M = months_in_civil_year y

    inside : CivilYearInRange y → (i : ℕ) → i < M → MonthInRange (F + i)
    inside r i g = omega (arith, civil-end y r)

    its : (n : ℕ) → MonthInRange n → told n ≡ Ok (month_facts n)
    its n r = (Facts.unique-facts).month n (told n) (Ok (month_facts n)) (h n r) (sym (month-given n r))

    mark : (n : ℕ) → MonthInRange n → ordinary_told (told n) ≡ ordinary n
    mark n r = ap ordinary_told (its n r) ∙ ap not (mark-at n)

    number : (n : ℕ) → MonthInRange n → number_told (told n) ≡ month_number n
    number n r = ap number_told (its n r) ∙ number_at n

pub leap-after-its-namesake : Years.LeapAfterItsNamesake
unfolding year_facts
leap-after-its-namesake y n k f a p low high q e =
    record {
      same-year = omega (arith, first, (civil-so-many y (n - 1) its.0).0 before.same-year, before.later);
      namesake = λ b s.
          (month-told (n - 1) b s).1 ∙ at_mark (n - 1) k false before.ordinary-one (before.same_number ∙ sym (number_at n) ∙ ap number_of m);
    }
  where
    its : CivilYearInRange y × (f ≡ year_facts y)
    its = year-told y f p

    first : f.first_month ≡ civil_first_month y
    first = ap (λ (g : YearFacts). g.first_month) its.1

    months : f.months ≡ months_in_civil_year y
    months = ap (λ (g : YearFacts). g.months) its.1

    m : month_at n ≡ Leap k
    m = sym (month-told n a q).1 ∙ e

    before : AfterNamesake (InCivilYear y) n
    before =
        Civil.leap-in-its-civil-year y n
        ((civil-so-many y n its.0).1 (omega (arith, first), omega (arith, first, months)))
        (sym (mark-at n) ∙ ap leap_mark m)
