-- A drawer's answer and its records laid flat: what the statements of the calls for C have of it. Assumes nothing.
use Rattle.std.specs.Prelude.{Result, Ok, Err}
use Prim.Native.Nat.{ℕ, ◌≤◌, ◌<◌}
use native.Mathlib.Omega.{arith}
use mathlib.Core.Path.{◌≡◌, refl, ap, sym, ◌∙◌, subst}
use mathlib.Core.Logic.{◌↔◌, ◌≢◌, ⊎_elim}
use mathlib.Core.List.{List, map}
use lib.ListN.{length, get_or, replicate, length-replicate, get_or-replicate}
use lib.Seq.{ext_get_or}
use Rattle.rule.specs.Reasons.{Answer, is, refused, refused-with, afterwards}
use Rattle.dates.specs.declared.Date.{Date}
use Rattle.dates.specs.Dates.{date_of}
use Rattle.dates.proofs.Days.{a-day}
use Rattle.drawer.specs.declared.DrawerError.{DrawerError}
use Rattle.drawer.specs.declared.DrawerError.TheVariants.{BadDay, Refused}
use Rattle.drawer.specs.Drawer.{drawer_at, said_filled, to_fill, FillDates}
use Rattle.drawer.specs.Paper.{FirstBad, SingleCall}
use Rattle.drawer.proofs.Days.{too_many}
use Rattle.drawer.proofs.Paper.{drawer-filled, there-is}
use Rattle.drawer.proofs.Rows.{filled-with, Row, row}
use Rattle.offered.specs.declared.CDate.{CDate}
use Rattle.offered.specs.declared.CFilled.{CFilled}
use Rattle.offered.specs.Flat.{given_date, no_date, flat_date, flat_filled}
use Rattle.offered.specs.Promises.{c_date_at, CDateOfDay, CFillDates}
use Rattle.offered.specs.Structs.{BareFilled}
use Rattle.offered.specs.Paper.{GoodDrawer, SaysTheDrawer}
use Rattle.offered.proofs.Sound.{none-is-0}

-- the three fields of an answer
abbrev pub reason-of : CFilled → ℕ
reason-of r = r.reason

abbrev count_of : CFilled → ℕ
count_of r = r.count

abbrev pub place_of : CFilled → ℕ
place_of r = r.place

module _ (days : List ℕ) (old : List CDate) (r : CFilled) (new : List CDate) (p : CFillDates days old r new) where
  -- what the answer a, laid flat, and the list that it leaves say, by its row of the table
  abbrev By : (Answer ℕ → Type 0) → Type 0
  By Said =
      (a : Answer ℕ) → Row days (length old) a → r ≡ flat_filled a → new ≡ afterwards a (λ n. map c_date_at days) old → Said a

  by-its-row : (Said : Type 0) → By (λ a. Said) → Said
  by-its-row Said go =
      let a = drawer_at days (length old) in
      go a ((row days (length old) a).0 refl) p.answer p.lent

  pub drawer-bare : r.reason ≢ 0 → BareFilled days r × (new ≡ old)
  drawer-bare h = by-its-row (BareFilled days r × (new ≡ old)) go
    where
      go : By (λ a. BareFilled days r × (new ≡ old))
      go (is n) w e l = absurd (h (ap reason-of e))
      go (refused k) w e l = (
        record {
          count = ap count_of e;
          other = λ z. ap place_of e;
          six = λ z. absurd (⊎_elim (λ q. omega (arith, z, ap reason-of e, q.0)) (λ q. omega (arith, z, ap reason-of e, q.0)) w);
        },
        l,
      )
      go (refused-with k i) w e l = (
        record {
          count = ap count_of e;
          other = λ z. absurd (z (ap reason-of e ∙ w.0));
          six = λ z. subst (FirstBad days) (sym (ap place_of e)) w.1.1.1;
        },
        l,
      )

  pub drawer-zero : (r.reason ≡ 0) ↔ GoodDrawer days old r new
  drawer-zero = (λ z. by-its-row (GoodDrawer days old r new) (go z), λ d. ap reason-of d.so-many)
    where
      go : r.reason ≡ 0 → By (λ a. GoodDrawer days old r new)
      go z (is n) (m, (o, (all, f))) e l =
          record {
            not-too-many = m;
            roomy = o;
            in-range = all;
            so-many = e ∙ ap (λ (k : ℕ). flat_filled (is k)) f;
            filled = (filled-with c_date_at CDateOfDay (λ d h x. (λ q. q, λ q. q)) days old all o new).0 l;
          }
      go z (refused k) w e l = absurd (⊎_elim (λ q. omega (arith, z, ap reason-of e, q.0)) (λ q. omega (arith, z, ap reason-of e, q.0)) w)
      go z (refused-with k i) w e l = absurd (omega (arith, z, ap reason-of e, w.0))

  -- a record that is filled is an answer of the single call for C
  module _ (z : r.reason ≡ 0) (i : ℕ) (none : CDate) (l : i < length days) where
    pub single-record : CDateOfDay (get_or days i 0) (get_or new i none)
    single-record = (drawer-zero.0 z).filled.single i none l

    pub record-given : (get_or new i none).reason ≡ 0
    record-given =
        ap (λ (x : CDate). x.reason) single-record
        ∙ ap (λ (x : Answer Date). (flat_date x).reason) (a-day (get_or days i 0) ((drawer-zero.0 z).in-range i l))

-- what the call for C says is what the call says of the same days, given as many records
module _ (days : List ℕ) (old : List CDate) (r : CFilled) (new : List CDate) (held : List Date) (e : length held ≡ length old) where
  -- the answer of both
  same_answer : (a : Result ℕ DrawerError) → said_filled a ≡ drawer_at days (length held) → flat_filled (drawer_at days (length old)) ≡ flat_filled (said_filled a)
  same_answer a f = ap (λ (k : ℕ). flat_filled (drawer_at days k)) (sym e) ∙ ap flat_filled (sym f)

  -- a record of the single call laid flat
  laid : (d : ℕ) (x : Date) → SingleCall d x → c_date_at d ≡ given_date x
  laid d x s = ap flat_date (sym s)

  says : CFillDates days old r new → (a : Result ℕ DrawerError) (after : List Date) → FillDates days held a after → SaysTheDrawer old r new a after
  says p a after f = go a f (p.answer ∙ same_answer a f.answered)
    where
      unfilled : (a : Result ℕ DrawerError) → r ≡ flat_filled (said_filled a) → to_fill (said_filled a) ≡ 0 → r.reason ≢ 0 → SaysTheDrawer old r new a after
      unfilled a s none_filled h =
          let same = (drawer-bare days old r new p h).1 in
          record {
            answer = s;
            as_long = ap length same;
            records = λ i none blank l. absurd (omega (arith, none_filled, l));
            rest = λ i none l. ap (λ (x : List CDate). get_or x i none) same;
          }

      go : (a : Result ℕ DrawerError) → FillDates days held a after → r ≡ flat_filled (said_filled a) → SaysTheDrawer old r new a after
      go (Ok n) g s =
          let z = ap reason-of s in
          let whole = ((drawer-zero days old r new p).0 z).filled in
          let told = ((drawer-filled days held n after).0 g).1.1.1 in
          record {
            answer = s;
            as_long = whole.as_long;
            records = λ i none blank l.
                let h : i < length days = omega (arith, told.0, l) in
                whole.single i none h ∙ laid (get_or days i 0) (get_or after i blank) (told.1.single i blank h);
            rest = λ i none l. whole.beyond i none (omega (arith, told.0, l));
          }
      go (Err (BadDay j)) g s = unfilled (Err (BadDay j)) s refl (λ z. omega (arith, z, ap reason-of s))
      go (Err (Refused why)) g s = unfilled (Err (Refused why)) s refl (λ z. none-is-0 why (sym (ap reason-of s) ∙ z))

  back : (a : Result ℕ DrawerError) (after : List Date) → FillDates days held a after → SaysTheDrawer old r new a after → CFillDates days old r new
  back a after f s = record { answer = s.answer ∙ sym (same_answer a f.answered); lent = go a f s ∙ ap left (f.answered ∙ ap (drawer_at days) e) }
    where
      left : Answer ℕ → List CDate
      left x = afterwards x (λ n. map c_date_at days) old

      same-list : {a : Result ℕ DrawerError} → SaysTheDrawer old r new a after → ((i : ℕ) → to_fill (said_filled a) ≤ i) → new ≡ old
      same-list t h = ext_get_or (no_date 0) new old t.as_long (λ i l. t.rest i (no_date 0) (h i))

      blank : Date
      blank = date_of 0

      go : (a : Result ℕ DrawerError) → FillDates days held a after → SaysTheDrawer old r new a after → new ≡ left (said_filled a)
      go (Ok n) g t =
          let h = (drawer-filled days held n after).0 g in
          let m = h.1.1.1.0 in
          let k = h.1.1.1.1 in
          (filled-with c_date_at CDateOfDay (λ d l x. (λ q. q, λ q. q)) days old h.1.1.0 (omega (arith, e, h.1.0)) new).1
          record {
            as_long = t.as_long;
            single = λ i none l. t.records i none blank (omega (arith, m, l)) ∙ sym (laid (get_or days i 0) (get_or after i blank) (k.single i blank l));
            beyond = λ i none l. t.rest i none (omega (arith, m, l));
          }
      go (Err (BadDay j)) g t = same-list t (λ i. omega arith)
      go (Err (Refused why)) g t = same-list t (λ i. omega arith)

  pub says-the-drawer :
      CFillDates days old r new ↔ ((a : Result ℕ DrawerError) × (after : List Date) × FillDates days held a after × SaysTheDrawer old r new a after)
  says-the-drawer = (
    λ p.
        let a = there-is days (length held) in
        let after = afterwards (drawer_at days (length held)) (λ n. map date_of days) held in
        let f : FillDates days held a.0 after = record { answered = a.1; lent = refl } in
        (a.0, after, f, says p a.0 after f),
    λ (a, after, f, s). back a after f s,
  )

-- drawers of n days nought, and as many records or none
pub of-noughts : (n : ℕ) → length (replicate {A = ℕ} n 0) ≡ n
of-noughts n = length-replicate n 0

pub overfull : (n room : ℕ) → 4096 < n → drawer_at (replicate n 0) room ≡ refused 10
overfull n room l = too_many (replicate n 0) room (omega (arith, of-noughts n))

pub full : (n : ℕ) (x : CDate) → n ≤ 4096 → drawer_at (replicate n 0) (length (replicate n x)) ≡ is n
full n x l =
    let m : length (replicate n x) ≡ n = length-replicate n x in
    sym
    ((row (replicate n 0) (length (replicate n x)) (is n)).1 (
      omega (arith, of-noughts n),
      (omega (arith, of-noughts n, m), (λ i h. omega (arith, get_or-replicate {A = ℕ} n i 0 0 (omega (arith, of-noughts n, h))), sym (of-noughts n))),
    ))
