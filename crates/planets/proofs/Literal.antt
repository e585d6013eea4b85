-- A planet's conjunction read literally: what the request says of it is what is defined. Assumes nothing.
use Prim.Native.Nat.{ℕ, ◌%◌, ◌≤◌}
use native.Mathlib.Omega.{arith}
use mathlib.Core.Path.{◌≡◌, refl, ap, sym, subst, ◌∙◌}
use mathlib.Core.Logic.{◌↔◌, ◌⊎◌, inl, inr, ⊎_elim}
use mathlib.Core.Bool.{Bool, true, false, cond}
use lib.Dec.{eqb}
use borrow.Author.Tests.{eqb-true, eqb-false}
use Rattle.planets.specs.declared.Numbers.{Numbers}
use Rattle.planets.specs.declared.Phase.{Phase}
use Rattle.planets.specs.declared.Phase.TheVariants.{Morning, Evening, Neither}
use Rattle.planets.specs.declared.Conjunction.{Conjunction}
use Rattle.planets.specs.Planets.{Planet, numbers_of, divisor, conjunction_day, conjunction_parts, phase, conjunction_of}
use Rattle.planets.specs.Paper.{MorningOrEvening, IsConjunction}
use Rattle.planets.proofs.Moments.{moment}
use Rattle.planets.proofs.Five.{each-planet, good-planets}

abbrev turns : ℕ → Phase
turns r = cond (eqb r 1) Morning Evening

even-or-odd : (k : ℕ) → (k % 2 ≡ 0) ⊎ (k % 2 ≡ 1)
even-or-odd k = go (eqb (k % 2) 1) refl
  where
    go : (b : Bool) → eqb (k % 2) 1 ≡ b → (k % 2 ≡ 0) ⊎ (k % 2 ≡ 1)
    go true e = inr (eqb-true (k % 2) 1 e)
    go false e = let n = eqb-false (k % 2) 1 e in inl (omega arith)

pub venus-or-mercury : (p : ℕ) → (p ≡ 4) ⊎ (p ≡ 5) → Planet p
venus-or-mercury p (inl e) = (omega (arith, e), omega (arith, e))
venus-or-mercury p (inr e) = (omega (arith, e), omega (arith, e))

-- of Venus and Mercury, and of the other three
by-turns : (p k : ℕ) (f : Phase) → (p ≡ 4) ⊎ (p ≡ 5) → MorningOrEvening p k f ↔ (f ≡ turns (k % 2))
by-turns p k f v = (
  λ m. ⊎_elim (λ e. m.even v e ∙ ap turns (sym e)) (λ e. m.odd v e ∙ ap turns (sym e)) (even-or-odd k),
  λ g. record {
    odd = λ w e. g ∙ ap turns e;
    even = λ w e. g ∙ ap turns e;
    neither = λ l. absurd (⊎_elim (λ e. omega (arith, l, e)) (λ e. omega (arith, l, e)) v);
  },
)

without : (p k : ℕ) (f : Phase) → p ≤ 3 → MorningOrEvening p k f ↔ (f ≡ Neither)
without p k f l = (
  λ m. m.neither l,
  λ g. record {
    odd = λ w e. absurd (⊎_elim (λ e. omega (arith, l, e)) (λ e. omega (arith, l, e)) w);
    even = λ w e. absurd (⊎_elim (λ e. omega (arith, l, e)) (λ e. omega (arith, l, e)) w);
    neither = λ h. g;
  },
)

phase-is : (p k : ℕ) (f : Phase) → Planet p → MorningOrEvening p k f ↔ (f ≡ phase (numbers_of p) k)
unfolding numbers_of phase
phase-is p k f =
    each-planet (λ q. MorningOrEvening q k f ↔ (f ≡ phase (numbers_of q) k))
    (without 1 k f (omega arith)) (without 2 k f (omega arith)) (without 3 k f (omega arith))
    (by-turns 4 k f (inl refl)) (by-turns 5 k f (inr refl)) p

pub of-count : (p k : ℕ) → Planet p → MorningOrEvening p k (phase (numbers_of p) k)
of-count p k h = (phase-is p k (phase (numbers_of p) k) h).1 refl

abbrev held : ℕ → ℕ → ℕ → Phase → Conjunction
held d r s f = record { day = d; parts = r; divisor = s; phase = f }

pub conjunction-is : (p k : ℕ) (c : Conjunction) → Planet p → IsConjunction p k c ↔ (c ≡ conjunction_of (numbers_of p) k)
unfolding conjunction_of
conjunction-is p k c h = (there, back)
  where
    n : Numbers
    n = numbers_of p

    there : IsConjunction p k c → c ≡ held (conjunction_day n k) (conjunction_parts n k) (divisor n) (phase n k)
    there i =
        let m = (moment n (good-planets p h) k c.day c.parts).0 i.moment in
        ap (λ (d : ℕ). held d c.parts c.divisor c.phase) m.0
        ∙ ap (λ (r : ℕ). held (conjunction_day n k) r c.divisor c.phase) m.1
        ∙ ap (λ (s : ℕ). held (conjunction_day n k) (conjunction_parts n k) s c.phase) i.divisor
        ∙ ap (held (conjunction_day n k) (conjunction_parts n k) (divisor n)) ((phase-is p k c.phase h).0 i.phase)

    back : c ≡ held (conjunction_day n k) (conjunction_parts n k) (divisor n) (phase n k) → IsConjunction p k c
    back e =
        subst (IsConjunction p k) (sym e)
        (record { moment = (moment n (good-planets p h) k (conjunction_day n k) (conjunction_parts n k)).1 (refl, refl); divisor = refl; phase = of-count p k h })
