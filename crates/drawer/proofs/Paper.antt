-- What the request says of a drawer, proved, each statement under its name in small letters. Assumes nothing.
use Rattle.std.specs.Prelude.{Result, Ok, Err}
use Rattle.std.proofs.Common.{◌≡◌, ℕ, zero, suc, ◌+◌, ◌<◌, ◌≤◌, ◌↔◌, List, [], ◌∷◌, map, length, get_or, replicate, sym, refl, ap, ◌∙◌, inl, inr, ⊎_elim, le_of_suc-le-suc, not-suc-le-zero, arith}
use lib.ListN.{length-replicate}
use Rattle.rule.specs.Counts.{DayInRange, MonthInRange}
use Rattle.rule.specs.Lists.{placed}
use Rattle.rule.specs.Rule.{month_start, month_of_day}
use Rattle.rule.specs.Reasons.{Answer, is, refused, refused-with, reason_number, reason_of, afterwards}
use Rattle.rule.specs.declared.Reason.{Reason}
use Rattle.rule.specs.declared.Reason.TheVariants.{CountTooLarge, LentTooShort}
use Rattle.rule.proofs.Months.{of-day-only, of-day-range, start-next}
use Rattle.rule.proofs.Answers.{reason-back, one-to-one}
use Rattle.dates.specs.declared.Date.{Date}
use Rattle.dates.specs.Dates.{date_of}
use Rattle.dates.specs.Promises.{DateOfDay}
use Rattle.dates.specs.Paper.{first_of_bu2}
use Rattle.dates.proofs.Days.{a-day}
use Rattle.dates.proofs.Laws.{dated}
use Rattle.dates.proofs.Paper.{date-of-day-exactly, date-agrees, second-of-two-big}
use Rattle.dates.proofs.Computing.{dates-computed}
use Rattle.drawer.specs.declared.DrawerError.{DrawerError}
use Rattle.drawer.specs.declared.DrawerError.TheVariants.{BadDay, Refused}
use Rattle.drawer.specs.Drawer.{days_from, drawer_at, said_filled, FillDates}
use Rattle.drawer.specs.Paper as Paper
use Rattle.drawer.specs.Paper.{NotTooMany, Roomy, AllInRange, FirstBad, FilledWith, SingleCall}
use Rattle.drawer.proofs.Rows.{filled-with, only-first, Row, row}

-- the promise, by its row and the list that it leaves
module _ (days : List ℕ) (old : List Date) (a : Result ℕ DrawerError) (new : List Date) where
  abbrev left_by : Answer ℕ → List Date
  left_by x = afterwards x (λ n. map date_of days) old

  promised : FillDates days old a new ↔ (Row days (length old) (said_filled a) × (new ≡ left_by (said_filled a)))
  promised = (
    λ s. ((row days (length old) (said_filled a)).0 s.answered, s.lent ∙ ap left_by (sym s.answered)),
    λ h. let e = (row days (length old) (said_filled a)).1 h.0 in record { answered = e; lent = h.1 ∙ ap left_by e },
  )

-- the dates of all days in the lent list are what the single call gives for each
with-dates : (days : List ℕ) (old : List Date) → AllInRange days → Roomy days old → (new : List Date) →
    (new ≡ placed (map date_of days) old) ↔ FilledWith SingleCall days old new
with-dates = filled-with date_of SingleCall given
  where
    given : (d : ℕ) → DayInRange d → (r : Date) → (r ≡ date_of d) ↔ SingleCall d r
    given d h r = (λ e. ap is e ∙ sym (a-day d h), λ t. sym ((dated d r).0 (sym t)).1)

pub drawer-filled : Paper.DrawerFilled
drawer-filled days old n new = (
  λ s.
      let h = (promised days old (Ok n) new).0 s in
      let r = h.0 in
      (r.0, (r.1.0, (r.1.1.0, (r.1.1.1, (with-dates days old r.1.1.0 r.1.0 new).0 h.1)))),
  λ (l, (m, (all, (e, f)))). (promised days old (Ok n) new).1 ((l, (m, (all, e))), (with-dates days old all m new).1 f),
)

-- record i of a drawer that is answered is what the single call gives for day i
single-call : (days : List ℕ) (old : List Date) (n : ℕ) (new : List Date) (i : ℕ) (none : Date) → FillDates days old (Ok n) new → i < n →
    DateOfDay (get_or days i 0) (Ok (get_or new i none))
single-call days old n new i none s l =
    let h = ((drawer-filled days old n new).0 s).1.1.1 in
    h.1.single i none (omega (arith, h.0))

pub records-literally : Paper.RecordsLiterally
records-literally =
    record {
      a-date = λ days old n new i none s l. ((date-of-day-exactly (get_or days i 0) (get_or new i none)).0 (single-call days old n new i none s l)).1;
      agrees = λ days old n new i none s l. date-agrees (get_or days i 0) (get_or new i none) (single-call days old n new i none s l);
    }

pub reasons-of-a-drawer : Paper.ReasonsOfADrawer
reasons-of-a-drawer days old new =
    record {
      ten = (
        λ s. let h = (promised days old (Err (Refused CountTooLarge)) new).0 s in (⊎_elim (λ r. r.1) (λ r. absurd (omega (arith, r.0))) h.0, h.1),
        λ h. (promised days old (Err (Refused CountTooLarge)) new).1 (inl (refl, h.0), h.1),
      );
      twelve = (
        λ s. let h = (promised days old (Err (Refused LentTooShort)) new).0 s in ⊎_elim (λ r. absurd (omega (arith, r.0))) (λ r. (r.1.0, (r.1.1, h.1))) h.0,
        λ h. (promised days old (Err (Refused LentTooShort)) new).1 (inr (refl, (h.0, h.1.0)), h.1.1),
      );
      six = λ i. (
        λ s. let h = (promised days old (Err (BadDay i)) new).0 s in let r = h.0.1 in (r.0, (r.1.0, (r.1.1, h.1))),
        λ h. (promised days old (Err (BadDay i)) new).1 ((refl, (h.0, (h.1.0, h.1.1.0))), h.1.1.1),
      );
      no_other = λ why s. ⊎_elim (λ r. inl (named why r.0)) (λ r. inr (named why r.0)) ((promised days old (Err (Refused why)) new).0 s).0;
    }
  where
    named : (why : Reason) {k : ℕ} → reason_number why ≡ k → why ≡ reason_of k
    named why e = sym (reason-back why) ∙ ap reason_of e

pub refusal-fills-nothing : Paper.RefusalFillsNothing
refusal-fills-nothing =
    record {
      refused-one = λ days old why new s. ((promised days old (Err (Refused why)) new).0 s).1;
      bad-day = λ days old i new s. ((promised days old (Err (BadDay i)) new).0 s).1;
    }

-- there is an answer of the call, whatever is asked
pub there-is : (days : List ℕ) (room : ℕ) → (a : Result ℕ DrawerError) × (said_filled a ≡ drawer_at days room)
there-is days room = go (drawer_at days room) ((row days room (drawer_at days room)).0 refl)
  where
    go : (x : Answer ℕ) → Row days room x → (a : Result ℕ DrawerError) × (said_filled a ≡ x)
    go (is n) w = (Ok n, refl)
    go (refused k) (inl (e, h)) = (Err (Refused CountTooLarge), ap refused (sym e))
    go (refused k) (inr (e, h)) = (Err (Refused LentTooShort), ap refused (sym e))
    go (refused-with k i) (e, h) = (Err (BadDay i), ap (λ (n : ℕ). refused-with n i) (sym e))

-- an answer can be read back from what it says
back-to-filled : Answer ℕ → Result ℕ DrawerError
back-to-filled (is n) = Ok n
back-to-filled (refused k) = Err (Refused (reason_of k))
back-to-filled (refused-with k i) = Err (BadDay i)

pub unique-drawer : Paper.UniqueDrawer
unfolding back-to-filled
unique-drawer days old a b new other p q =
    (one-to-one said_filled back-to-filled again a b (p.answered ∙ sym q.answered), p.lent ∙ sym q.lent)
  where
    again : (a : Result ℕ DrawerError) → back-to-filled (said_filled a) ≡ a
    again (Ok n) = refl
    again (Err (BadDay i)) = refl
    again (Err (Refused w)) = ap (λ k. Err (Refused k)) (reason-back w)

pub empty-drawer : Paper.EmptyDrawer
empty-drawer old a new s =
    unique-drawer [] old a (Ok 0) new old s
    ((promised [] old (Ok 0) old).1 ((omega arith, (omega arith, (λ i l. absurd (not-suc-le-zero l), refl))), refl))

pub second-of-two-big-filled : Paper.SecondOfTwoBigFilled
second-of-two-big-filled days old n new m i j none s big also l k e =
    second-of-two-big m i (Ok (get_or new j none)) in-range big also l told
  where
    d : ℕ
    d = month_start (m + 1) + i

    told : DateOfDay d (Ok (get_or new j none))
    told = rw (e) at (single-call days old n new j none s k)

    its : month_of_day d ≡ m + 1
    its = of-day-only (m + 1) d (omega arith, omega (arith, start-next (m + 1), also))

    in-range : MonthInRange (m + 1)
    in-range = rw (its) at ((of-day-range d).0 ((dated d (get_or new j none)).0 (sym told)).0)

-- the place that is told is that of the first bad day
first-bad : {days : List ℕ} {old : List Date} {i : ℕ} {new : List Date} → FillDates days old (Err (BadDay i)) new → FirstBad days i
first-bad {days} {old} {i} {new} s = (((reasons-of-a-drawer days old new).six i).0 s).1.1.0

pub one-first-bad : Paper.OneFirstBad
one-first-bad days old i new j s f = only-first days i j (first-bad s) f

-- a drawer of few enough days and enough records is not refused, and the one day of a drawer is not bad where it is in range
not-refused : (days : List ℕ) (old : List Date) (why : Reason) (new : List Date) → NotTooMany days → Roomy days old → FillDates days old (Err (Refused why)) new → ⊥
not-refused days old why new l m s = ⊎_elim (λ r. r.1 l) (λ r. r.1.1 m) ((promised days old (Err (Refused why)) new).0 s).0

not-bad : (d : ℕ) (old : List Date) (i : ℕ) (new : List Date) → DayInRange d → FillDates (d ∷ []) old (Err (BadDay i)) new → ⊥
not-bad d old i new h s = go i (first-bad s)
  where
    go : (i : ℕ) → FirstBad (d ∷ []) i → ⊥
    go zero f = f.bad h
    go (suc i) f = not-suc-le-zero (le_of_suc-le-suc f.a-place)

-- the day of month in place i of a list
at : (i : ℕ) {xs ys : List Date} → xs ≡ ys → (get_or xs i first_of_bu2).day_of_month ≡ (get_or ys i first_of_bu2).day_of_month
at i e = ap (λ (l : List Date). (get_or l i first_of_bu2).day_of_month) e

-- a drawer of n equal days
equal-days : (n : ℕ) → NotTooMany (replicate n 0) ↔ (n ≤ 4096)
equal-days n = let e = length-replicate {A = ℕ} n 0 in (λ h. omega arith, λ h. omega arith)

pub wrong-drawers : Paper.WrongDrawers
unfolding drawer_at days_from dates-computed
wrong-drawers =
    record {
      refusing-all = λ why x new. not-refused (0 ∷ []) (x ∷ []) why new (omega arith) (omega arith);
      bad-in-all = λ i x new. not-bad 0 (x ∷ []) i new (omega arith);
      filling-none = λ a s. let e : ◌≡◌ {A = ℕ} 1 30 = at 0 s.lent in omega arith;
      copying-first = λ a x y s. let e : ◌≡◌ {A = ℕ} 30 1 = at 1 s.lent in omega arith;
      skipping-second = λ a s. let e : ◌≡◌ {A = ℕ} 1 30 = at 1 s.lent in omega arith;
      turned_round = λ a x y s. let e : ◌≡◌ {A = ℕ} 1 30 = at 0 s.lent in omega arith;
      last-bad-place = λ x new s. let l : 1 < 2 = omega arith in omega (arith, (first-bad s).good-before 1 l);
      counted-from-1 = λ i x new h s. h (omega (arith, (first-bad s).a-place));
      beyond-changed = λ a s. let e : ◌≡◌ {A = ℕ} 30 1 = at 1 s.lent in omega arith;
      filled-before-refusal = λ a s. let e : ◌≡◌ {A = ℕ} 30 1 = at 0 s.lent in omega arith;
      inventing = λ n x y new h s. h ((drawer-filled _ _ n new).0 s).1.1.1.0;
      six-before-twelve = λ i new s. omega (arith, (((reasons-of-a-drawer _ _ new).six i).0 s).1.0);
      twelve-before-ten = λ new s. omega (arith, (equal-days 4097).0 ((reasons-of-a-drawer _ _ new).twelve.0 s).0);
      too-few-taken = λ x new s. ((reasons-of-a-drawer _ _ new).ten.0 s).0 ((equal-days 4096).1 (omega arith));
      too-many-taken = λ n x new s. omega (arith, (equal-days 4097).0 ((drawer-filled _ _ n new).0 s).0);
      second-big-refused = λ why x new. not-refused (3838 ∷ []) (x ∷ []) why new (omega arith) (omega arith);
      second-big-bad = λ i x new. not-bad 3838 (x ∷ []) i new (omega arith);
    }
