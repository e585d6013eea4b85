-- The statements of specs/Paper, proved, each under its own name. Assumes nothing.
use Prim.Native.Nat.{ℕ, zero, suc, ◌+◌, ◌-◌, ◌*◌, ◌/◌, ◌%◌, ◌≤◌, ◌<◌}
use native.Mathlib.Omega.{arith}
use native.Mathlib.Decide.{dec_lt}
use mathlib.Core.Path.{◌≡◌, refl, ap, ap₂, sym, ◌∙◌, subst}
use mathlib.Core.Bool.{Bool, true, false}
use mathlib.Core.List.{List, [], ◌∷◌, ◌++◌, append-nil, append_assoc}
use lib.Dec.{eqb}
use borrow.Author.Tests.{ne_eqb}
use Rattle.fields.specs.Fields.{decimal, followed}
use Rattle.fields.specs.Paper.{
  AreDigits,
  none,
  one_more,
  IsDecimal,
  nought,
  not-nought,
  value_from,
  DecimalReadsBack,
  OneDecimal,
  JoinedMore,
}
use Rattle.fields.proofs.Decimals.{decimal-one, decimal-more}

digits_more : {ds : List ℕ} {e : ℕ} → AreDigits ds → 48 ≤ e → e ≤ 57 → AreDigits (ds ++ (e ∷ []))
digits_more none low high = one_more low high none
digits_more (one_more a b ds) low high = one_more a b (digits_more ds low high)

-- digits of which the first is not 0
data Positive : List ℕ → Type 0 where
  positive : {d : ℕ} {ds : List ℕ} → 49 ≤ d → d ≤ 57 → AreDigits ds → Positive (d ∷ ds)

positive-more : {ds : List ℕ} {e : ℕ} → Positive ds → 48 ≤ e → e ≤ 57 → Positive (ds ++ (e ∷ []))
positive-more (positive a b ds) low high = positive a b (digits_more ds low high)

is_positive : (k n : ℕ) → n ≤ k → 1 ≤ n → Positive (decimal n)
is_positive zero n h l = absurd (omega arith)
is_positive (suc k) n h l = go (λ g. is_positive k (n / 10) (omega arith) (omega (arith, g))) (dec_lt n 10)
  where
    go : (10 ≤ n → Positive (decimal (n / 10))) → Dec (n < 10) → Positive (decimal n)
    go ih (yes s) = subst Positive (sym (decimal-one n s)) (positive (omega arith) (omega arith) none)
    go ih (no g) = subst Positive (sym (decimal-more n (omega (arith, g)))) (positive-more (ih (omega (arith, g))) (omega arith) (omega arith))

is-decimal : (n : ℕ) → IsDecimal (decimal n)
is-decimal zero = subst IsDecimal (sym (decimal-one 0 (omega arith))) nought
is-decimal (suc n) = as-decimal (is_positive (suc n) (suc n) (omega arith) (omega arith))
  where
    as-decimal : {ds : List ℕ} → Positive ds → IsDecimal ds
    as-decimal (positive a b ds) = not-nought a b ds

-- the last digit is worth itself, those in front of it ten times what they are worth
value-more : (a : ℕ) (ds : List ℕ) (e : ℕ) → value_from a (ds ++ (e ∷ [])) ≡ 10 * value_from a ds + (e - 48)
unfolding value_from
value-more a [] e = refl
value-more a (d ∷ ds) e = value-more (10 * a + (d - 48)) ds e

value-back : (k n : ℕ) → n ≤ k → value_from 0 (decimal n) ≡ n
unfolding value_from
value-back zero n h =
    let e : n ≡ 0 = omega arith in
    rw (e) (ap (value_from 0) (decimal-one 0 (omega arith)))
value-back (suc k) n h = go (value-back k (n / 10) (omega arith)) (dec_lt n 10)
  where
    go : value_from 0 (decimal (n / 10)) ≡ n / 10 → Dec (n < 10) → value_from 0 (decimal n) ≡ n
    go ih (yes s) = ap (value_from 0) (decimal-one n s) ∙ omega arith
    go ih (no g) =
        ap (value_from 0) (decimal-more n (omega (arith, g))) ∙ value-more 0 (decimal (n / 10)) (48 + n % 10) ∙ omega (arith, ih)

pub decimal-reads-back : DecimalReadsBack
decimal-reads-back n = (is-decimal n, value-back n n (omega arith))

-- digits after those of a number that is not 0
value-from : (a : ℕ) (ds : List ℕ) → 1 ≤ a → AreDigits ds → decimal (value_from a ds) ≡ decimal a ++ ds
unfolding value_from
value-from a [] h none = sym (append-nil (decimal a))
value-from a (d ∷ ds) h (one_more low high r) =
    value-from (10 * a + (d - 48)) ds (omega arith) r
    ∙ ap (λ (l : List ℕ). l ++ ds)
    (decimal-more (10 * a + (d - 48)) (omega arith) ∙ ap₂ (λ (b e : ℕ). decimal b ++ (e ∷ [])) (omega arith) (omega arith))
    ∙ append_assoc (decimal a) (d ∷ []) ds

pub one-decimal : OneDecimal
unfolding value_from
one-decimal [] x' = elim x' [ ]
one-decimal (d ∷ ds) nought = sym (decimal-one 0 (omega arith))
one-decimal (d ∷ ds) (not-nought low high r) =
    ap (λ (e : ℕ). e ∷ ds) (omega arith) ∙ ap (λ (l : List ℕ). l ++ ds) (sym (decimal-one (10 * 0 + (d - 48)) (omega arith))) ∙ sym (value-from (10 * 0 + (d - 48)) ds (omega arith) r)

pub joined-more : JoinedMore
unfolding followed
joined-more f g [] gs = refl
joined-more f g (h ∷ fs) gs =
    ap (λ (l : List ℕ). f ++ (32 ∷ l)) (joined-more h g fs gs) ∙ sym (append_assoc f (32 ∷ followed h fs) (32 ∷ followed g gs))

-- two numbers with one text are one
pub decimal-tells : (n m : ℕ) → decimal n ≡ decimal m → n ≡ m
decimal-tells n m e = sym (decimal-reads-back n).1 ∙ ap (value_from 0) e ∙ (decimal-reads-back m).1

-- the bytes before the first space
abbrev until_space : Bool → ℕ → List ℕ → List ℕ
until_space true b s = []
until_space false b s = b ∷ s

unfoldable up_to_space : List ℕ → List ℕ
up_to_space [] = []
up_to_space (b ∷ s) = until_space (eqb b 32) b (up_to_space s)

up-to-space : (ds xs : List ℕ) → AreDigits ds → up_to_space (ds ++ (32 ∷ xs)) ≡ ds
unfolding up_to_space
up-to-space [] xs none = refl
up-to-space (d ∷ ds) xs (one_more low high r) = rw (ne_eqb d 32 (λ e. absurd (omega (arith, e, low)))) (ap (λ (l : List ℕ). d ∷ l) (up-to-space ds xs r))

all_digits_lem : {ds : List ℕ} → IsDecimal ds → AreDigits ds
all_digits_lem nought = one_more {d = 48} (omega arith) (omega arith) none
all_digits_lem (not-nought {d} low high r) = one_more {d = d} (omega arith) high r

-- a line tells its first field, where that is a number and others follow
pub first-tells : (n m : ℕ) (xs ys : List ℕ) → decimal n ++ (32 ∷ xs) ≡ decimal m ++ (32 ∷ ys) → n ≡ m
first-tells n m xs ys e =
    decimal-tells n m
    (sym (up-to-space (decimal n) xs (all_digits_lem (decimal-reads-back n).0))
    ∙ ap up_to_space e
    ∙ up-to-space (decimal m) ys (all_digits_lem (decimal-reads-back m).0))
