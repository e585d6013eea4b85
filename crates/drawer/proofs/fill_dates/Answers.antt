-- `drawer::fill_dates` meets its contract: a day of the kept month gets a copy of a record of that month, with its own day of month and day name
-- put over it; for any other the date is made and kept. Assumes nothing.
use Rattle.std.proofs.Common.{◌≡◌, ℕ, ◌+◌, ◌-◌, ◌<◌, T, false, List, length, get_or, set, sym, ap, ◌∙◌, subst, arith}
use Rattle.std.proofs.lemmas.Result.{err_from_is_err_and}
use Rattle.rule.specs.Counts.{day_name}
use Rattle.rule.specs.declared.Month.TheVariants.{Ordinary}
use Rattle.dates.specs.declared.Date.{Date}
use Rattle.dates.specs.Dates.{date_of}
use Rattle.drawer.specs.Shared.{Holds}
use Rattle.drawer.proofs.Mid.{mid, mid_none, mid-next, mid_at}
use Rattle.drawer.proofs.Sharing.{Kept, none_kept, still_kept, now-kept, with_day, beside}
use Rattle.drawer.proofs.Filling.{changed_twice, all-fill, filled-all, left-alone}
use Rattle.drawer.proofs.fill_dates.Goals as goal
use Rattle.drawer.proofs.fill_dates.Goals.{Then-lies_in, then-lies_in, else-lies_in}

-- what is read past the end of a list of records
abbrev none : Date
none =
    record {
      month = Ordinary 0;
      year = 0;
      day_of_month = 0;
      month_length = 0;
      day_name = 0;
      year_name = 0;
      ji = 0;
      bu = 0;
      year_in_bu = 0;
      eclipse = false;
    }

-- a day of the kept month: a record before its place has the date of a day of that month
kept-before : (c : Then-lies_in) → c.loop-i.shared.at < c.loop-i.i
kept-before c = (c.loop-i.invariant.kept.known (get_or c.args.days.now c.loop-i.i 0) (c.lies_in.ensures (subst T (sym c.if-lies_in.true) tt))).0

pub loop-i-init : goal.loop-i-init
loop-i-init c =
    let day = λ (k : ℕ). get_or c.args.days.now k 0 in
    record {
      good = all-fill c.args.days.now (length c.args.out.now) _ c.in_ok-count.ensures;
      so_far = sym (mid_none date_of c.args.days.now c.args.out.now);
      kept = subst (Kept day 0) (sym c.no_month-shared.ensures) (none_kept day);
    }

pub slice_copy_out-out : goal.slice_copy_out-out
slice_copy_out-out c =
    let l : c.loop-i.shared.at < length c.loop-i.out = omega (arith, kept-before c, c.loop-i.invariant.good.roomy, c.loop-i.auto.out) in
    l

pub loop-i-preserved : goal.loop-i-preserved
loop-i-preserved c =
    let good = c.loop-i.invariant.good in
    let ds = c.args.days.now in
    let ys = c.args.out.now in
    let l = c.loop-i in
    let i = l.i in
    let day = λ (k : ℕ). get_or ds k 0 in
    let stored = λ (y : Date) (e : y ≡ date_of (day i)).
    ap (λ (v : List Date). set v i y) l.invariant.so_far ∙ mid-next date_of ds ys i 0 y e (omega arith) (omega (arith, good.roomy)) in
    elim c.if-lies_in.branch [
      | then-lies_in w ↦
          let s = l.shared in
          let m = w.day_of_month_in in
          let name = w.day_name_at in
          let holds : Holds s.start s.month_length (day i) = c.lies_in.ensures (subst T (sym w.if-lies_in.true) tt) in
          let before : s.at < i = (l.invariant.kept.known (day i) holds).0 in
          let put : c.if-lies_in.out ≡ set l.out i (with_day (get_or l.out s.at none) m.result name.result) =
          w.out-is
          ∙ changed_twice (λ (r : Date). record r { day_of_month = m.result }) (λ (r : Date). record r { day_name = name.result }) l.out i
          (get_or l.out s.at none) none (omega (arith, good.roomy, l.auto.out)) in
          let copied : get_or l.out s.at none ≡ date_of (day s.at) =
          ap (λ (v : List Date). get_or v s.at none) l.invariant.so_far
          ∙ mid_at date_of ds ys i s.at 0 none before (omega (arith, before)) (omega (arith, good.roomy, before)) in
          let its : with_day (get_or l.out s.at none) m.result name.result ≡ date_of (day i) =
          let e : m.result ≡ day i - s.start + 1 = m.ensures in
          let f : name.result ≡ day_name (day i) = name.ensures in
          ap (λ (r : Date). with_day r m.result name.result) copied
          ∙ ap (λ (k : ℕ). with_day (date_of (day s.at)) k name.result) e
          ∙ ap (with_day (date_of (day s.at)) (day i - s.start + 1)) f
          ∙ beside day i s (day i) l.invariant.kept holds in
          record {
            good = good;
            so_far = put ∙ stored (with_day (get_or l.out s.at none) m.result name.result) its;
            kept = subst (Kept day (i + 1)) (sym w.shared-is) (still_kept day i s l.invariant.kept);
          }
      | else-lies_in w ↦
          record {
            good = good;
            so_far = w.out-is ∙ stored w.date_at-date.result w.date_at-date.ensures;
            kept = subst (Kept day (i + 1)) (sym (w.shared-is ∙ w.shared_at-shared.ensures)) (now-kept day i (good.in-range i (omega arith)));
          }
    ]

pub returns-in_err-count : goal.returns-in_err-count
returns-in_err-count c =
    let p = err_from_is_err_and c.from_residual.result c.from_residual.ensures.1 in
    let e = c.in_err-count in
    rw (p.1, p.2) (record { answered = e.ensures; lent = left-alone date_of c.args.days.now c.args.out.now e.field-0.0 e.ensures })

pub returns : goal.returns
returns c =
    record {
      answered = c.in_ok-count.ensures;
      lent =
          c.loop-i.invariant.so_far
          ∙ ap (mid date_of c.args.days.now c.args.out.now) (omega arith)
          ∙ filled-all date_of c.args.days.now c.args.out.now _ c.in_ok-count.ensures;
    }
