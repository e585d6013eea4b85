-- Laws of the leap months by number: those of a range are so many like each of the 28 of a bu. Assumes nothing.
use Prim.Native.Nat.{ℕ, zero, suc, ◌+◌, ◌-◌, ◌*◌, ◌/◌, ◌%◌, ◌≤◌, ◌<◌}
use native.Mathlib.Nat.{eq-or-lt_of_le, le_of_suc-le-suc, not-suc-le-zero}
use native.Mathlib.Numerals.{add-one}
use native.Mathlib.Omega.{arith}
use mathlib.Core.Path.{◌≡◌, refl, ap, ap₂, sym, ◌∙◌}
use mathlib.Core.Logic.{⊎_elim}
use mathlib.Core.Bool.{Bool, true, false, cond, ◌&&◌}
use mathlib.Core.List.{List, [], ◌∷◌, ◌++◌}
use lib.Dec.{eqb}
use lib.ListN.{length, get_or, set, take, length-take}
use lib.Seq.{take-suc, take_all}
use borrow.Author.Tests.{eq-eqb, ne_eqb}
use Rattle.rule.specs.Lists.{those, kept}
use Rattle.rule.specs.Rule.{month_start, mid_terms_before, leap, month_number}
use Rattle.rule.proofs.Lists.{bit, length_more, complement, at-place}
use Rattle.rule.proofs.Leap.{leap-shift, number-shift, number-range}
use Rattle.yearbook.specs.Figures.{passing, leap_numbered, for_each, leaps_from}
use Rattle.yearbook.proofs.Each.{each_at, each_same, each-added}
use Rattle.yearbook.proofs.Passing.{at_place, none_yet}

-- the values of f over a list, added
unfoldable pub adding : (ℕ → ℕ) → List ℕ → ℕ
adding f [] = 0
adding f (x ∷ xs) = f x + adding f xs

adding-append : (f : ℕ → ℕ) (xs ys : List ℕ) → adding f (xs ++ ys) ≡ adding f xs + adding f ys
unfolding adding
adding-append f [] ys = omega arith
adding-append f (x ∷ xs) ys = omega (arith, adding-append f xs ys)

adding-kept : (f : ℕ → ℕ) (b : Bool) (x : ℕ) → adding f (kept b x) ≡ cond b (f x) 0
unfolding adding
adding-kept f true x = omega arith
adding-kept f false x = refl

pub adding-same : (f g : ℕ → ℕ) (xs : List ℕ) → ((x : ℕ) → f x ≡ g x) → adding f xs ≡ adding g xs
unfolding adding
adding-same f g [] h = refl
adding-same f g (x ∷ xs) h = omega (arith, h x, adding-same f g xs h)

adding-plus : (f g : ℕ → ℕ) (xs : List ℕ) → adding (λ x. f x + g x) xs ≡ adding f xs + adding g xs
unfolding adding
adding-plus f g [] = refl
adding-plus f g (x ∷ xs) = omega (arith, adding-plus f g xs)

adding-noughts : (f : ℕ → ℕ) (xs : List ℕ) → ((x : ℕ) → f x ≡ 0) → adding f xs ≡ 0
unfolding adding
adding-noughts f [] h = refl
adding-noughts f (x ∷ xs) h = omega (arith, h x, adding-noughts f xs h)

-- one count more
adding-those : (f : ℕ → ℕ) (p : ℕ → Bool) (a k : ℕ) → adding f (those p a (suc k)) ≡ adding f (those p a k) + cond (p (a + k)) (f (a + k)) 0
unfolding those
adding-those f p a k = omega (arith, adding-append f (those p a k) (kept (p (a + k)) (a + k)), adding-kept f (p (a + k)) (a + k))

-- how often r stands among those that pass: not where they end before it, and else once where it passes
module _ (p : ℕ → Bool) (r : ℕ) where
  abbrev is_it : ℕ → ℕ
  is_it o = bit (eqb r o)

  other : (b : Bool) (x : ℕ) → (r ≡ x → ⊥) → cond b (is_it x) 0 ≡ 0
  other true x not-it = ap bit (ne_eqb r x not-it)
  other false x not-it = refl

  itself : (b : Bool) (x : ℕ) → r ≡ x → cond b (is_it x) 0 ≡ bit b
  itself true x e = ap bit (eq-eqb r x e)
  itself false x e = refl

  never : (m : ℕ) → m ≤ r → adding is_it (those p 0 m) ≡ 0
  unfolding those adding
  never zero h = refl
  never (suc m) h = omega (arith, adding-those is_it p 0 m, never m (omega arith), other (p (0 + m)) (0 + m) (λ e. omega (arith, e)))

  once : (m : ℕ) → r < m → adding is_it (those p 0 m) ≡ bit (p r)
  once zero h = absurd (not-suc-le-zero h)
  once (suc m) h =
      ⊎_elim
      (λ e.
      let q : r ≡ 0 + m = omega (arith, e) in
      omega (arith, adding-those is_it p 0 m, never m (omega (arith, e)), itself (p (0 + m)) (0 + m) q, ap (λ (n : ℕ). bit (p n)) q))
      (λ l. omega (arith, adding-those is_it p 0 m, once m l, other (p (0 + m)) (0 + m) (λ e. omega (arith, e, l))))
      (eq-or-lt_of_le (le_of_suc-le-suc h))

-- of a test that comes round with each bu: as many pass as stand at the places of a bu that pass
module _ (p : ℕ → Bool) (round : (k n : ℕ) → p (n + 940 * k) ≡ p n) where
  in-first : (n : ℕ) → p (n % 940) ≡ p n
  in-first n = sym (ap p {x = n} {y = n % 940 + 940 * (n / 940)} (omega arith) ∙ round (n / 940) (n % 940))

  by-places : (a m : ℕ) → length (those p a m) ≡ adding (λ o. length (those (at_place o) a m)) (those p 0 940)
  by-places a zero =
      none_yet p a ∙ sym (adding-noughts (λ o. length (those (at_place o) a 0)) (those p 0 940) (λ o. none_yet (at_place o) a))
  by-places a (suc m) =
      let r = (a + m) % 940 in
      omega (
        arith,
        length_more p a m,
        by-places a m,
        once p r 940 (omega arith),
        ap bit (in-first (a + m)),
        adding-plus (λ o. length (those (at_place o) a m)) (is_it p r) (those p 0 940),
        adding-same (λ o. length (those (at_place o) a (suc m))) (λ o. length (those (at_place o) a m) + is_it p r o) (those p 0 940)
            (λ o. length_more (at_place o) a m),
      )

-- of two tests together: those of the one, told apart by the other
adding-both : (f : ℕ → ℕ) (p q : ℕ → Bool) (a m : ℕ) →
    adding f (those (λ n. p n && q n) a m) ≡ adding (λ o. cond (q o) (f o) 0) (those p a m)
unfolding those adding
adding-both f p q a zero = refl
adding-both f p q a (suc m) =
    omega (
      arith,
      adding-those f (λ n. p n && q n) a m,
      adding-those (λ o. cond (q o) (f o) 0) p a m,
      adding-both f p q a m,
      both (p (a + m)) (q (a + m)) (f (a + m)),
    )
  where
    both : (b c : Bool) (x : ℕ) → cond (b && c) x 0 ≡ cond b (cond c x 0) 0
    both true c x = refl
    both false c x = refl

-- how many leap months of number k are like those of a list
unfoldable pub tally : ℕ → ℕ → ℕ → List ℕ → ℕ
tally from to k = adding (λ o. cond (eqb (month_number o) k) (passing (at_place o) from to) 0)

numbered-round : (k j n : ℕ) → leap_numbered k (n + 940 * j) ≡ leap_numbered k n
unfolding leap_numbered
numbered-round k j n = ap₂ (λ (b : Bool) (m : ℕ). b && eqb m k) (leap-shift j n) (number-shift j n)

-- the leap months of number k from one month up to another, by those of a bu
pub leaps-counted : (k from to : ℕ) → passing (leap_numbered k) from to ≡ tally from to k (those leap 0 940)
unfolding tally leap_numbered
leaps-counted k from to =
    by-places (leap_numbered k) (numbered-round k) from (to - from)
    ∙ adding-both (λ o. passing (at_place o) from to) leap (λ n. eqb (month_number n) k) 0 940

pub tally-more : (from to k : ℕ) (xs : List ℕ) (x : ℕ) →
    tally from to k (xs ++ (x ∷ [])) ≡ tally from to k xs + cond (eqb (month_number x) k) (passing (at_place x) from to) 0
unfolding tally adding
tally-more from to k xs x = adding-append _ xs (x ∷ []) ∙ omega arith

-- at most as many pass as there are
few-pass : (p : ℕ → Bool) (from to : ℕ) → passing p from to ≤ to - from
few-pass p from to = omega (arith, complement p from (to - from))

tally-few : (from to k : ℕ) (xs : List ℕ) → to ≤ 507600 → tally from to k xs ≤ 507600 * length xs
unfolding tally adding
tally-few from to k [] h = omega arith
tally-few from to k (x ∷ xs) h = omega (arith, tally-few from to k xs h, one (eqb (month_number x) k))
  where
    one : (b : Bool) → cond b (passing (at_place x) from to) 0 ≤ 507600
    one true = omega (arith, few-pass (at_place x) from to, h)
    one false = omega arith

-- a bu has 28
leaps-of-bu : length (those leap 0 940) ≡ 28
unfolding those leap mid_terms_before month_start
leaps-of-bu = refl

-- the walk along the table l of them, i of them passed
module _ (from to : ℕ) (l : List ℕ) (table : l ≡ those leap 0 940) (i : ℕ) where
  abbrev so_far : ℕ → ℕ
  so_far k = tally from to k (take i l)

  as_many : length l ≡ 28
  as_many = ap length table ∙ leaps-of-bu

  pub place-below : i < 28 → get_or l i 0 < 940
  place-below h =
      let w = at-place leap 0 940 i (omega (arith, leaps-of-bu)) in
      omega (arith, w.here, w.inside, ap (λ (m : List ℕ). get_or m i 0) table)

  -- the next one's like are counted under its number
  pub leap-step : i < 28 → (counts : List ℕ) (number x : ℕ) → counts ≡ for_each so_far 12 → number ≡ month_number (get_or l i 0) →
      x ≡ passing (at_place (get_or l i 0)) from to →
      set counts (number - 1) (get_or counts (number - 1) 0 + x) ≡ for_each (λ k. tally from to k (take (i + 1) l)) 12
  leap-step h counts number x e f g =
      ap (λ (m : List ℕ). set m (number - 1) (get_or m (number - 1) 0 + x)) e
      ∙ each-added so_far (λ k. tally from to k (take (i + 1) l)) 12 number x
      (omega (arith, f, number-range (get_or l i 0))) (omega (arith, f, number-range (get_or l i 0))) next
    where
      next : (k : ℕ) → tally from to k (take (i + 1) l) ≡ so_far k + cond (eqb number k) x 0
      next k =
          ap (tally from to k) (ap (λ (n : ℕ). take n l) (add-one i) ∙ take-suc l i 0 (omega (arith, as_many)))
          ∙ tally-more from to k (take i l) (get_or l i 0)
          ∙ ap₂ (λ (n y : ℕ). so_far k + cond (eqb n k) y 0) (sym f) (sym g)

  -- and its count stays small
  pub leap-room : i < 28 → to ≤ 507600 → (counts : List ℕ) (number x : ℕ) → counts ≡ for_each so_far 12 → number ≡ month_number (get_or l i 0) →
      x ≤ 541 → get_or counts (number - 1) 0 + x ≤ 14213341
  leap-room h r counts number x e f g =
      omega (
        arith,
        g,
        f,
        number-range (get_or l i 0),
        ap (λ (m : List ℕ). get_or m (number - 1) 0) e,
        each_at so_far 12 (number - 1) (omega (arith, f, number-range (get_or l i 0))),
        tally-few from to (number - 1 + 1) (take i l) r,
        length-take i l,
        as_many,
      )

  -- all of them passed
  pub leaps-done : 28 ≤ i → for_each so_far 12 ≡ leaps_from from to
  unfolding leaps_from
  leaps-done h =
      each_same so_far (λ k. passing (leap_numbered k) from to) 12
      (λ k low high.
      ap (tally from to k) (take_all i l (omega (arith, as_many)) ∙ table) ∙ sym (leaps-counted k from to))

-- before the first of them
pub leaps-begin : (from to : ℕ) (l : List ℕ) → 0 ∷ 0 ∷ 0 ∷ 0 ∷ 0 ∷ 0 ∷ 0 ∷ 0 ∷ 0 ∷ 0 ∷ 0 ∷ 0 ∷ [] ≡ for_each (λ k. tally from to k (take 0 l)) 12
unfolding for_each tally adding
leaps-begin from to l = refl
