-- Laws of the common divisor, and of taking remainders. Assumes nothing.
use Prim.Native.Nat.{ℕ, zero, suc, ◌+◌, ◌*◌, ◌%◌, ◌<◌, ◌∣◌}
use native.Mathlib.Omega.{arith}
use native.Mathlib.Nat.{
  dvd_refl,
  dvd-zero,
  dvd_antisymm,
  dvd-mod_iff,
  dvd-mul_left,
  dvd-mul_left_of_dvd,
  dvd-add_iff_right,
  mod-lt,
}
use mathlib.Core.Path.{◌≡◌, subst}
use mathlib.Core.Logic.{◌↔◌}
use Rattle.planets.specs.Divisors.{CommonDivisor, Remainders, none_left, again}

-- of a number and none: the number itself
pub with_none : (a : ℕ) → CommonDivisor a 0 a
with_none a = record { first = dvd_refl a; second = dvd-zero a; every = λ c p q. p }

-- "taking the remainder of one by the other": it stays what it was
pub of-remainder : (a b d : ℕ) → CommonDivisor b (a % b) d → CommonDivisor a b d
of-remainder a b d h =
    record {
      first = (dvd-mod_iff d h.first).0 h.second;
      second = h.first;
      every = λ c p q. h.every c q ((dvd-mod_iff c q).1 p);
    }

pub one-divisor : (a b c d : ℕ) → CommonDivisor a b c → CommonDivisor a b d → c ≡ d
one-divisor a b c d p q = dvd_antisymm (q.every c p.first p.second) (p.every d q.first q.second)

-- the second number falls, so that none is left at last
once_more : (n : ℕ) → ((a b : ℕ) → b < n → (d : ℕ) × Remainders a b d) → (a b : ℕ) → b < suc n → (d : ℕ) × Remainders a b d
once_more n less a zero h = (a, none_left a)
once_more n less a (suc b) h =
    let l : a % suc b < suc b = mod-lt a (omega arith) in
    let r = less (suc b) (a % suc b) (omega (arith, h, l)) in
    (r.0, again a (suc b) r.0 (omega arith) r.1)

ends : (n a b : ℕ) → b < n → (d : ℕ) × Remainders a b d
ends zero a b h = absurd (omega (arith, h))
ends (suc n) a b h = once_more n (ends n) a b h

common-at-end : {a b d : ℕ} → Remainders a b d → CommonDivisor a b d
common-at-end (none_left a) = with_none a
common-at-end (again a b d h r) = of-remainder a b d (common-at-end r)

pub taking-remainders : (a b d : ℕ) → Remainders a b d ↔ CommonDivisor a b d
taking-remainders a b d = (
  common-at-end,
  λ h. let r = ends (suc b) a b (omega arith) in subst (Remainders a b) (one-divisor a b r.0 d (common-at-end r.1) h) r.1,
)

-- so many times d, and so many times d, where d is a difference of their multiples
pub by_difference : (x y d u v : ℕ) → u * (x * d) ≡ v * (y * d) + d → CommonDivisor (x * d) (y * d) d
by_difference x y d u v e =
    record {
      first = dvd-mul_left d x;
      second = dvd-mul_left d y;
      every = λ c p q. (dvd-add_iff_right c (dvd-mul_left_of_dvd c q v)).1 (subst (λ (m : ℕ). c ∣ m) e (dvd-mul_left_of_dvd c p u));
    }
