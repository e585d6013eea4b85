-- The digits of a field one after the other: what they make of a number, nine at most. Assumes nothing.
use Rattle.std.specs.Prelude.{Some, None}
use Rattle.std.proofs.Common.{◌≡◌, ℕ, zero, suc, ◌+◌, ◌-◌, ◌*◌, ◌^◌, ◌<◌, ◌≤◌, Bool, true, false, ◌&&◌, leb, List, [], ◌∷◌, length, get_or, take, drop, sym, refl, ap, ◌∙◌, pow-suc, add-one, arith, drop_of_length-le, eq-eqb, ne_eqb, le-leb, leb-true}
use borrow.Author.Tests.{lt-leb}
use Rattle.rule.specs.Reasons.{within}
use Rattle.fields.specs.Paper.{value_from}
use Rattle.forms.specs.Forms.{first_field, all_digits, leads, is_decimal}
use Rattle.forms.proofs.Fields.{first-few, front-is}
use Rattle.forms.proofs.Saying.{both}
use Rattle.forms.proofs.Scanning.{rest}
use Rattle.concordance.specs.declared.Numeral.{Numeral}
use Rattle.concordance.specs.Verdicts.{is_number}
use Rattle.concordance.specs.Parts.{nine_digits, Scanned, Numbered}

pub and-false : (x : Bool) → (x && false) ≡ false
and-false true = refl
and-false false = refl

-- a power of ten grows
grows : (k i : ℕ) → 10 ^ i ≤ 10 ^ (i + k)
grows zero i = let e : 10 ^ i ≡ 10 ^ (i + 0) = ap (λ (j : ℕ). 10 ^ j) (omega arith) in omega (arith, e)
grows (suc k) i =
    let e : 10 ^ (i + suc k) ≡ 10 ^ suc (i + k) = ap (λ (j : ℕ). 10 ^ j) (omega arith) in
    omega (arith, e, pow-suc 10 (i + k), grows k i)

below : (i n : ℕ) → i ≤ n → 10 ^ i ≤ 10 ^ n
below i n h = let e : 10 ^ (i + (n - i)) ≡ 10 ^ n = ap (λ (j : ℕ). 10 ^ j) (omega arith) in omega (arith, e, grows (n - i) i)

-- the first field of what is left
module _ (s : List ℕ) (i : ℕ) where
  field-more : i < length s → (get_or s i 0 ≡ 32 → ⊥) → first_field (drop i s) ≡ get_or s i 0 ∷ first_field (drop (i + 1) s)
  unfolding first_field
  field-more h e = ap first_field (rest s i h) ∙ rw (ne_eqb (get_or s i 0) 32 e) refl

  pub field-over : i < length s → get_or s i 0 ≡ 32 → first_field (drop i s) ≡ []
  unfolding first_field
  field-over h e = ap first_field (rest s i h) ∙ rw (eq-eqb (get_or s i 0) 32 e) refl

  pub field-none : length s ≤ i → first_field (drop i s) ≡ []
  unfolding first_field
  field-none h = ap first_field (drop_of_length-le s h)

-- i digits of the first field are read and worth v
pub record Scanning (s : List ℕ) (v i : ℕ) : Type 0 where
  pub nine : i ≤ 9
  pub low : v < 10 ^ i
  pub digits : all_digits (first_field (drop i s)) ≡ all_digits (first_field s)
  pub value : value_from v (first_field (drop i s)) ≡ value_from 0 (first_field s)
  pub end : i + length (first_field (drop i s)) ≡ length (first_field s)

module _ (s : List ℕ) (v i : ℕ) (h : Scanning s v i) where
  -- it fits, and so does one digit more
  pub scan-fits : i < 9 → 10 * v + 9 < 4294967296
  scan-fits l = let w : v < 10 ^ i = h.low in omega (arith, below i 8 (omega arith))

  pub scan-over : first_field (drop i s) ≡ [] → Scanned s (Some (record { value = v; end = i }))
  unfolding all_digits value_from
  scan-over e =
      let g : i ≡ length (first_field s) = omega (arith, h.end, ap length e) in
      let d : all_digits (first_field s) ≡ true = sym h.digits ∙ ap all_digits e in
      record {
        passed = rw (d, le-leb (length (first_field s)) 9 (omega (arith, h.nine, g))) refl;
        value = sym (ap (value_from v) e) ∙ h.value;
        end = g;
      }

  module _ (l : i < length s) (n : get_or s i 0 ≡ 32 → ⊥) where
    pub scan-many : 9 ≤ i → Scanned s None
    scan-many m =
        let g : 9 < length (first_field s) = omega (arith, h.end, ap length (field-more s i l n), m) in
        rw (lt-leb (length (first_field s)) 9 g) (and-false (all_digits (first_field s)))

    pub scan-other : within 48 57 (get_or s i 0) ≡ false → Scanned s None
    unfolding all_digits
    scan-other d =
        let e : all_digits (first_field s) ≡ false = sym h.digits ∙ ap all_digits (field-more s i l n) ∙ rw (d) refl in
        rw (e) refl

    pub scan-next : i < 9 → within 48 57 (get_or s i 0) ≡ true → Scanning s (10 * v + (get_or s i 0 - 48)) (i + 1)
    unfolding all_digits value_from
    scan-next m d =
        let (a, b) = both (leb 48 (get_or s i 0)) (leb (get_or s i 0) 57) d in
        let w : v < 10 ^ i = h.low in
        let p : 10 ^ (i + 1) ≡ 10 ^ i * 10 = ap (λ (j : ℕ). 10 ^ j) (add-one i) ∙ pow-suc 10 i in
        let g : i + length (first_field (drop i s)) ≡ length (first_field s) = h.end in
        record {
          nine = omega arith;
          low = omega (arith, p, leb-true (get_or s i 0) 57 b);
          digits = sym (ap all_digits (field-more s i l n) ∙ rw (d) refl) ∙ h.digits;
          value = sym (ap (value_from v) (field-more s i l n)) ∙ h.value;
          end = omega (arith, ap length (field-more s i l n));
        }

-- a number is what leads well and has nine digits at most
leads-and : (k a l : Bool) → (a && l) ≡ true → ((k && a) && l) ≡ k
leads-and true a l e = e
leads-and false a l e = refl

and_none : (k a l : Bool) → (a && l) ≡ false → ((k && a) && l) ≡ false
and_none true a l e = e
and_none false a l e = refl

number-run : (f : List ℕ) → nine_digits f ≡ true → is_number f ≡ leads f
unfolding is_number is_decimal
number-run f e = leads-and (leads f) (all_digits f) (leb (length f) 9) e

pub no_run : (f : List ℕ) → nine_digits f ≡ false → is_number f ≡ false
unfolding is_number is_decimal
no_run f e = and_none (leads f) (all_digits f) (leb (length f) 9) e

module _ (s : List ℕ) (n : Numeral) (h : Scanned s (Some n)) where
  in-front : take (n.end - 0) (drop 0 s) ≡ first_field s
  in-front = front-is s n.end (omega (arith, h.end))

  leads-is : is_number (first_field s) ≡ leads (take (n.end - 0) (drop 0 s))
  leads-is = number-run (first_field s) h.passed ∙ ap leads (sym in-front)

  pub numbered : leads (take (n.end - 0) (drop 0 s)) ≡ true → Numbered s (Some n)
  numbered l = record { passed = leads-is ∙ l; value = h.value; end = h.end }

  pub not-numbered : leads (take (n.end - 0) (drop 0 s)) ≡ false → Numbered s None
  not-numbered l = leads-is ∙ l

pub number-inside : (s : List ℕ) (n : Numeral) → Scanned s (Some n) → n.end ≤ length s
number-inside s n h = omega (arith, h.end, first-few s)
