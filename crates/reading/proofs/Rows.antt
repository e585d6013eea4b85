-- The tests of a search as the paper says them, and what it comes to: a fault of the paper's rows, the total told, or the days
-- given. Assumes nothing.
use Prim.Native.Nat.{ℕ, ◌≤◌, ◌<◌}
use native.Mathlib.Omega.{arith}
use mathlib.Core.Path.{◌≡◌, refl, ap, sym, ◌∙◌, subst}
use mathlib.Core.Logic.Iff
use mathlib.Core.Logic.{◌↔◌, ◌⊎◌, inl, inr, ⊎_elim}
use mathlib.Core.Bool.{Bool, true, false, ◌&&◌}
use lib.Dec.{leb}
use borrow.Author.Tests.{leb-true, leb-false, lt-leb}
use Rattle.rule.specs.declared.Reason.{Reason}
use Rattle.rule.specs.declared.Reason.TheVariants.{NoSuchDay, BadWindow, FieldOutOfRange}
use Rattle.rule.specs.Reasons.{Answer, is, refused, refused-with, reason_number}
use Rattle.rule.proofs.Answers.{both_true, within-true}
use Rattle.reading.specs.declared.Field.{Field}
use Rattle.reading.specs.declared.Field.TheVariants.{Known, Unread}
use Rattle.reading.specs.declared.Reading.{Reading}
use Rattle.reading.specs.Readings.{field_in_range, in_ranges, window_days, window_holds}
use Rattle.reading.specs.Search.{total, where_good, search_at}
use Rattle.reading.specs.Paper.{
  FieldInRange,
  FieldOutside,
  FieldsInRange,
  SomeFieldOutside,
  year-name-outside,
  month-number-outside,
  leap-mark-outside,
  day-of-month-outside,
  day-name-outside,
  first-name-outside,
  EndsInRange,
  EndOutside,
  IsWindow,
  NoWindow,
  SearchFault,
  end-outside,
  no-window,
  field-outside,
  GoodSearch,
}
use Rattle.reading.proofs.Answered

-- two tests, one of which fails
one-false : {P Q : Type 0} (p q : Bool) → ((p ≡ false) ↔ P) → ((q ≡ false) ↔ Q) → ((p && q) ≡ false) ↔ (P ⊎ Q)
one-false true true e f = (λ h. inl (e.0 h), ⊎_elim e.1 f.1)
one-false true false e f = (λ h. inr (f.0 refl), λ s. refl)
one-false false q e f = (λ h. inl (e.0 refl), λ s. refl)

-- a is beyond b
beyond : (a b : ℕ) → (leb a b ≡ false) ↔ (b < a)
beyond a b = (leb-false a b, lt-leb a b)

ends-false : (first last : ℕ) → ((leb first 14989859 && leb last 14989859) ≡ false) ↔ EndOutside first last
ends-false first last = one-false (leb first 14989859) (leb last 14989859) (beyond first 14989859) (beyond last 14989859)

window-false : (first last : ℕ) → (window_holds first last ≡ false) ↔ NoWindow first last
window-false first last = one-false (leb first last) (leb (window_days first last) 27759) (beyond first last) (beyond (window_days first last) 27759)

-- a known field in its range, and outside it
field-range : (f : Field) (most : ℕ) → (field_in_range f most ≡ true) ↔ FieldInRange f most
field-range (Known k) most = (
  λ e j g. let i : k ≡ j = cc in let h = (within-true 1 most k).0 e in (omega (arith, h.0), omega (arith, h.1)),
  λ h. (within-true 1 most k).1 (h k refl),
)
field-range Unread most = (λ e j g. absurd (let o : ◌≡◌ {A = ℕ} 0 1 = cc in omega arith), λ h. refl)

field-beyond : (f : Field) (most : ℕ) → (field_in_range f most ≡ false) ↔ FieldOutside f most
field-beyond (Known k) most =
    Iff.trans (one-false (leb 1 k) (leb k most) (beyond 1 k) (beyond k most))
    (λ s. (k, refl, s), λ h. subst (λ (j : ℕ). (j < 1) ⊎ (most < j)) (sym (same h.0 h.1)) h.2)
  where
    same : (j : ℕ) → Known k ≡ Known j → k ≡ j
    same j e = cc
field-beyond Unread most = (
  λ e. absurd (let o : ◌≡◌ {A = ℕ} 0 1 = cc in omega arith),
  λ h. absurd (let e : Unread ≡ Known h.0 = h.1 in let o : ◌≡◌ {A = ℕ} 0 1 = cc in omega arith),
)

-- six tests: all of them hold, or one of them fails
module _ {A B C D E F : Type 0} (a b c d e f : Bool) where
  all-six : ((a ≡ true) ↔ A) → ((b ≡ true) ↔ B) → ((c ≡ true) ↔ C) → ((d ≡ true) ↔ D) → ((e ≡ true) ↔ E) → ((f ≡ true) ↔ F) →
      ((a && b && c && d && e && f) ≡ true) ↔ (((((A × B) × C) × D) × E) × F)
  all-six p q s t u v =
      both_true (a && b && c && d && e) f
      (both_true (a && b && c && d) e (both_true (a && b && c) d (both_true (a && b) c (both_true a b p q) s) t) u) v

  one-of-six : ((a ≡ false) ↔ A) → ((b ≡ false) ↔ B) → ((c ≡ false) ↔ C) → ((d ≡ false) ↔ D) → ((e ≡ false) ↔ E) → ((f ≡ false) ↔ F) →
      ((a && b && c && d && e && f) ≡ false) ↔ (((((A ⊎ B) ⊎ C) ⊎ D) ⊎ E) ⊎ F)
  one-of-six p q s t u v =
      one-false (a && b && c && d && e) f
      (one-false (a && b && c && d) e (one-false (a && b && c) d (one-false (a && b) c (one-false a b p q) s) t) u) v

-- the fields of a reading: every one in its range, or some one outside it
module _ (r : Reading) where
  in-ranges : (in_ranges r ≡ true) ↔ FieldsInRange r
  unfolding in_ranges
  in-ranges =
      Iff.trans
      (all-six _ _ _ _ _ _ (field-range r.year_name 60) (field-range r.month_number 12) (field-range r.leap_mark 2)
      (field-range r.day_of_month 30) (field-range r.day_name 60) (field-range r.first_name 60)) (
        λ h. record {
          year-name = h.0.0.0.0.0;
          month-number = h.0.0.0.0.1;
          leap-mark = h.0.0.0.1;
          day-of-month = h.0.0.1;
          day-name = h.0.1;
          first-name = h.1;
        },
        λ h. (((((h.year-name, h.month-number), h.leap-mark), h.day-of-month), h.day-name), h.first-name),
      )

  abbrev One : Type 0
  One =
      ((((FieldOutside r.year_name 60 ⊎ FieldOutside r.month_number 12) ⊎ FieldOutside r.leap_mark 2)
      ⊎ FieldOutside r.day_of_month 30) ⊎ FieldOutside r.day_name 60) ⊎ FieldOutside r.first_name 60

  which : One → SomeFieldOutside r
  which (inl (inl (inl (inl (inl h))))) = year-name-outside h
  which (inl (inl (inl (inl (inr h))))) = month-number-outside h
  which (inl (inl (inl (inr h)))) = leap-mark-outside h
  which (inl (inl (inr h))) = day-of-month-outside h
  which (inl (inr h)) = day-name-outside h
  which (inr h) = first-name-outside h

  one : SomeFieldOutside r → One
  one (year-name-outside h) = inl (inl (inl (inl (inl h))))
  one (month-number-outside h) = inl (inl (inl (inl (inr h))))
  one (leap-mark-outside h) = inl (inl (inl (inr h)))
  one (day-of-month-outside h) = inl (inl (inr h))
  one (day-name-outside h) = inl (inr h)
  one (first-name-outside h) = inr h

  some-outside : (in_ranges r ≡ false) ↔ SomeFieldOutside r
  unfolding in_ranges
  some-outside =
      Iff.trans
      (one-of-six _ _ _ _ _ _ (field-beyond r.year_name 60) (field-beyond r.month_number 12) (field-beyond r.leap_mark 2)
      (field-beyond r.day_of_month 30) (field-beyond r.day_name 60) (field-beyond r.first_name 60))
      (which, one)

-- the tests of a search, whatever comes after them: a fault of the paper's rows, or none
module _ (r : Reading) (first last : ℕ) where
  pub refuses-any : {A : Type 0} (a : Answer A) (why : Reason) → SearchFault r first last why → where_good r first last a ≡ refused (reason_number why)
  refuses-any a why (end-outside h e) =
      ⊎_elim (Answered.first-outside r first last a) (Answered.last-outside r first last a) h ∙ sym (ap (λ (w : Reason). refused (reason_number w)) e)
  refuses-any a why (no-window h g e) =
      Answered.bad-window r first last a h.0 h.1 ((window-false first last).1 g) ∙ sym (ap (λ (w : Reason). refused (reason_number w)) e)
  refuses-any a why (field-outside h g s e) =
      Answered.bad-field r first last a h.0 h.1 ((Answered.window-true first last).1 g) ((some-outside r).1 s)
      ∙ sym (ap (λ (w : Reason). refused (reason_number w)) e)

  pub lets-through : GoodSearch r first last → Answered.Passed r first last
  lets-through g =
      record { ends = g.ends; window = (Answered.window-true first last).1 g.window; fields = (in-ranges r).1 g.fields }

  pub good-or-not : GoodSearch r first last ⊎ ((why : Reason) × SearchFault r first last why)
  good-or-not = ends (leb first 14989859 && leb last 14989859) refl
    where
      Here : Type 0
      Here = GoodSearch r first last ⊎ ((why : Reason) × SearchFault r first last why)

      fields : EndsInRange first last → IsWindow first last → (t : Bool) → in_ranges r ≡ t → Here
      fields h w true e = inl (record { ends = h; window = w; fields = (in-ranges r).0 e })
      fields h w false e = inr (FieldOutOfRange, field-outside h w ((some-outside r).0 e) refl)

      window : EndsInRange first last → (t : Bool) → window_holds first last ≡ t → Here
      window h true e = fields h ((Answered.window-true first last).0 e) (in_ranges r) refl
      window h false e = inr (BadWindow, no-window h ((window-false first last).0 e) refl)

      ends : (t : Bool) → (leb first 14989859 && leb last 14989859) ≡ t → Here
      ends true e = window ((Answered.ends-true first last).0 e) (window_holds first last) refl
      ends false e = inr (NoSuchDay, end-outside ((ends-false first last).0 e) refl)

-- what a search comes to
module _ (r : Reading) (first last room : ℕ) where
  pub refuses : (why : Reason) → SearchFault r first last why → search_at r first last room ≡ refused (reason_number why)
  unfolding search_at
  refuses why h = refuses-any r first last _ why h

  pub tells : GoodSearch r first last → room < total r first last → search_at r first last room ≡ refused-with 12 (total r first last)
  unfolding total
  tells g h = Answered.too_short r first last room (lets-through r first last g) (total r first last) refl h

  pub gives : GoodSearch r first last → total r first last ≤ room → search_at r first last room ≡ is (total r first last)
  unfolding total
  gives g h = Answered.room-enough r first last room (lets-through r first last g) (total r first last) refl h

  -- by what is said: the days given, the total told, or a fault of the paper's rows
  abbrev Comes : Answer ℕ → Type 0
  Comes (is n) = GoodSearch r first last × (n ≡ total r first last) × (n ≤ room)
  Comes (refused k) = (why : Reason) × (reason_number why ≡ k) × SearchFault r first last why
  Comes (refused-with k n) = GoodSearch r first last × (n ≡ total r first last) × (room < n)

  pub comes : (x : Answer ℕ) → x ≡ search_at r first last room → Comes x
  comes x said =
      subst Comes (sym said)
      (⊎_elim (λ (g : GoodSearch r first last). good g (leb (total r first last) room) refl)
      (λ (h : (why : Reason) × SearchFault r first last why). subst Comes (sym (refuses h.0 h.1)) (h.0, refl, h.1))
      (good-or-not r first last))
    where
      good : GoodSearch r first last → (t : Bool) → leb (total r first last) room ≡ t → Comes (search_at r first last room)
      good g true e = let h = leb-true (total r first last) room e in subst Comes (sym (gives g h)) (g, refl, h)
      good g false e = let h = leb-false (total r first last) room e in subst Comes (sym (tells g h)) (g, refl, h)
