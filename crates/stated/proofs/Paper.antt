-- What the paper says of the sheet, proved, each statement under its name in small letters. Assumes nothing.
use Rattle.std.specs.Prelude.{Ok}
use Prim.Native.Nat.{ℕ, zero, suc, ◌+◌, ◌*◌, ◌≤◌}
use native.Mathlib.Omega.{arith}
use mathlib.Core.Path.{◌≡◌, refl, ap, sym, ◌∙◌, subst}
use mathlib.Core.Logic.Iff
use mathlib.Core.List.{List, [], ◌∷◌, ◌++◌, append_assoc}
use lib.ListN.{length, take, drop, length-drop, replicate, length-replicate}
use lib.Seq.{drop_at, drop-drop}
use Rattle.rule.specs.Lists.{placed}
use Rattle.rule.specs.Reasons.{Answer, is, refused, and_then, reason_number, afterwards}
use Rattle.rule.specs.declared.Reason.TheVariants.{SheetEndsEarly, BytesAfterLast}
use Rattle.rule.proofs.Answers.{within-true, said-once}
use Rattle.sheet.specs.declared.Counted.{Counted}
use Rattle.octets.specs.Bytes.{number, lay}
use Rattle.sheet.specs.Sheet.{
  Section,
  ranged,
  year_items,
  month_items,
  day_items,
  sheet_sections,
  count_of,
  left_after,
  Lists,
  three_lists,
  in_order,
  named,
  months_part,
  days_part,
  lists_of,
  lists_in,
  read_sheet,
  read_into,
  lay_section,
  lay_sections,
  sheet_of,
  write_into,
  empty_sheet,
}
use Rattle.sheet.specs.Faults.{here, GoodSections, HasRoom, GoodSheet, GoodValue, GoodValues, GoodList, GoodEach, GoodLists}
use Rattle.sheet.specs.Promises.{counted, counts_are, counts_in, ReadSheet, WriteSheet}
use Rattle.sheet.proofs.Deciding.{if-given, reason-iff, made_of, refused-of}
use Rattle.sheet.proofs.Reading.{reading, section-long, sheet-decided, into-decided}
use Rattle.sheet.proofs.Writing.{writing, buffer-decided}
use Rattle.sheet.proofs.Laying.{length-section, length-sheet}
use Rattle.sheet.proofs.Sheets.{lists-read, counted-lists, read-refused, read-given, write-refused, write-given}
use Rattle.sheet.proofs.Places.{unlike, InFront, rest-kept, front}
use Rattle.stated.specs.Paper as Paper
use Rattle.stated.specs.Paper.{AreBytes, months_from, days_from, IsSheetOf}
use Rattle.stated.proofs.RoundTrip.{bytes-laid, AllFit, fit-each, sections-back, sections-again}
use Rattle.stated.proofs.Ends.{sections-cut, sections-added}
use Rattle.stated.proofs.Items.{stands_at, laid-at}

pub unique-read-sheet : Paper.UniqueReadSheet
unique-read-sheet s y m d a b y₁ m₁ d₁ y₂ m₂ d₂ p q =
    (said-once a b (p.answer ∙ sym q.answer), p.years ∙ sym q.years, p.months ∙ sym q.months, p.days ∙ sym q.days)

pub unique-write-sheet : Paper.UniqueWriteSheet
unique-write-sheet y m d o a b o₁ o₂ p q = (said-once a b (p.answer ∙ sym q.answer), p.buffer ∙ sym q.buffer)

pub least-byte-first : Paper.LeastByteFirst
unfolding number lay
least-byte-first =
    record {
      two = λ a b t. omega arith;
      four = λ a b c d t. omega arith;
      laid-in-two = λ x. refl;
      laid-in-four = λ x. refl;
    }

pub sections-literally : Paper.SectionsLiterally
sections-literally =
    record {
      order = refl;
      years = record { bytes = refl; counts = refl; good = within-true 0 41040; reason = λ x. refl };
      months = record { bytes = refl; counts = refl; good = within-true 0 507599; reason = λ x. refl };
      days = record { bytes = refl; counts = refl; good = within-true 0 14989859; reason = λ x. refl };
    }

-- the three sections' values fit their bytes
pub all_fit : AllFit sheet_sections
all_fit = (
  record { values = λ x h. omega (arith, ((within-true 0 41040 x).0 h).1); counts = omega arith },
  (
    record { values = λ x h. omega (arith, ((within-true 0 507599 x).0 h).1); counts = omega arith },
    (record { values = λ x h. omega (arith, ((within-true 0 14989859 x).0 h).1); counts = omega arith }, tt),
  ),
)

-- the sheet of good lists is read as them, and a good sheet is the sheet of its lists
pub laid-is-read : (l : Lists) → GoodLists l → GoodSections sheet_sections (sheet_of l) × (lists_in (sheet_of l) ≡ l)
unfolding sheet_of lists_in
laid-is-read l g = let a = sections-back sheet_sections (in_order l) g (fit-each sheet_sections all_fit (in_order l) g) in (a.0, ap named a.1)

pub read-is-laid : (s : List ℕ) → AreBytes s → GoodSections sheet_sections s → GoodLists (lists_in s) × (sheet_of (lists_in s) ≡ s)
unfolding sheet_of lists_in
read-is-laid s b g = (lists-read sheet_sections s g, sections-again sheet_sections s b g)

-- a good sheet is read into lists with room
read-with-room : (s : List ℕ) (l : Lists) (y m d : ℕ) → GoodSections sheet_sections s → lists_in s ≡ l → HasRoom l y m d → read_into s y m d ≡ is l
read-with-room s l y m d g e r =
    (into-decided s y m d).given (g, subst (λ (k : Lists). HasRoom k y m d) (sym e) r) ∙ ap is e

-- an answered call: that the sheet is good, and where its items stand then
record ReadAs (s y m d : List ℕ) (c : Counted) (y' m' d' : List ℕ) : Type 0 where
  good : GoodSheet s (length y) (length m) (length d)
  counts : c ≡ counts_in s
  years : InFront c.years (lists_in s).years y y'
  months : InFront c.months (lists_in s).months m m'
  days : InFront c.days (lists_in s).days d d'

read_as_lem : (s y m d y' m' d' : List ℕ) (c : Counted) → ReadSheet s y m d (Ok c) y' m' d' → ReadAs s y m d c y' m' d'
read_as_lem s y m d y' m' d' c p =
    let w = made_of (read_into s (length y) (length m) (length d)) counted c p.answer in
    let a = if-given (into-decided s (length y) (length m) (length d)) w.0 w.1 in
    let g : read_into s (length y) (length m) (length d) ≡ is (lists_in s) = w.1 ∙ ap is (sym a.1) in
    let h : c ≡ counted (lists_in s) = w.2 ∙ ap counted (sym a.1) in
    record {
      good = a.0;
      counts = h ∙ counted-lists s;
      years =
          record {
            room = a.0.1.0;
            count = ap (λ (k : Counted). k.years) h;
            list = p.years ∙ ap (λ (a : Answer Lists). afterwards a (λ l. l.years) y) g;
          };
      months =
          record {
            room = a.0.1.1;
            count = ap (λ (k : Counted). k.months) h;
            list = p.months ∙ ap (λ (a : Answer Lists). afterwards a (λ l. l.months) m) g;
          };
      days =
          record {
            room = a.0.1.2;
            count = ap (λ (k : Counted). k.days) h;
            list = p.days ∙ ap (λ (a : Answer Lists). afterwards a (λ l. l.days) d) g;
          };
    }

-- the same of writing
record WrittenAs (y m d o : List ℕ) (n : ℕ) (o' : List ℕ) : Type 0 where
  good : GoodLists (three_lists y m d)
  bytes : InFront n (sheet_of (three_lists y m d)) o o'

written_as : (y m d o o' : List ℕ) (n : ℕ) → WriteSheet y m d o (Ok n) o' → WrittenAs y m d o n o'
written_as y m d o o' n p =
    let l : Lists = three_lists y m d in
    let w = made_of (write_into l (length o)) length n p.answer in
    let a = if-given (buffer-decided l (length o)) w.0 w.1 in
    let g : write_into l (length o) ≡ is (sheet_of l) = w.1 ∙ ap is (sym a.1) in
    record {
      good = a.0.0;
      bytes =
          record {
            room = a.0.1;
            count = w.2 ∙ ap length (sym a.1);
            list = p.buffer ∙ ap (λ (a : Answer (List ℕ)). afterwards a (λ b. b) o) g;
          };
    }

pub calls-there-and-back : Paper.CallsThereAndBack
calls-there-and-back y m d o o' y₀ m₀ d₀ y' m' d' n r p q hy hm hd =
    let l : Lists = three_lists y m d in
    let a = written_as y m d o o' n p in
    let b = laid-is-read l a.good in
    let g : read_into (take n o') (length y₀) (length m₀) (length d₀) ≡ is l =
    ap (λ (s : List ℕ). read_into s (length y₀) (length m₀) (length d₀)) (front (sheet_of l) o n o' a.bytes.list a.bytes.count)
    ∙ read-with-room (sheet_of l) l (length y₀) (length m₀) (length d₀) b.0 b.1 (hy, hm, hd)
    in
    let u = unique-read-sheet (take n o') y₀ m₀ d₀ r _ y' m' d' _ _ _ q (read-given (take n o') y₀ m₀ d₀ l (counted l) refl g) in
    record { answer = u.0; years = u.1; months = u.2; days = u.3 }

pub calls-back-and-there : Paper.CallsBackAndThere
calls-back-and-there s y₀ m₀ d₀ y' m' d' o o' c r bytes p q h =
    let a = read_as_lem s y₀ m₀ d₀ y' m' d' c p in
    let l : Lists = lists_in s in
    let y = front l.years y₀ c.years y' a.years.list a.years.count in
    let m = front l.months m₀ c.months m' a.months.list a.months.count in
    let d = front l.days d₀ c.days d' a.days.list a.days.count in
    let b = read-is-laid s bytes a.good.0 in
    let w : write_into l (length o) ≡ is s =
    (buffer-decided l (length o)).given (b.0, omega (arith, h, ap length b.1)) ∙ ap is b.1
    in
    let e : write_into (three_lists (take c.years y') (take c.months m') (take c.days d')) (length o) ≡ is s = rw (y, m, d) w in
    unique-write-sheet _ _ _ o r (Ok (length s)) o' (placed s o) q
    (write-given (take c.years y') (take c.months m') (take c.days d') o s e)

pub rest-untouched : Paper.RestUntouched
rest-untouched =
    record {
      read-sheet = λ s y m d y' m' d' c p.
          let r = read_as_lem s y m d y' m' d' c p in (rest-kept r.years, rest-kept r.months, rest-kept r.days);
      write-sheet = λ y m d o o' n p. rest-kept (written_as y m d o o' n p).bytes;
    }

pub refusal-changes-nothing : Paper.RefusalChangesNothing
refusal-changes-nothing =
    record {
      read-sheet = λ s y m d y' m' d' why p.
          let a : Answer Lists = read_into s (length y) (length m) (length d) in
          let e : a ≡ refused (reason_number why) = refused-of a counted (reason_number why) p.answer in (
            p.years ∙ ap (λ (a : Answer Lists). afterwards a (λ l. l.years) y) e,
            p.months ∙ ap (λ (a : Answer Lists). afterwards a (λ l. l.months) m) e,
            p.days ∙ ap (λ (a : Answer Lists). afterwards a (λ l. l.days) d) e,
          );
      write-sheet = λ y m d o o' why p.
          let e = refused-of (write_into (three_lists y m d) (length o)) length (reason_number why) p.answer in
          p.buffer ∙ ap (λ (a : Answer (List ℕ)). afterwards a (λ b. b) o) e;
    }

pub reasons-of-a-sheet : Paper.ReasonsOfASheet
reasons-of-a-sheet s y m d =
    let a : Answer Lists = read_into s (length y) (length m) (length d) in
    let w = into-decided s (length y) (length m) (length d) in
    record {
      reason = λ why. Iff.trans (λ p. refused-of a counted (reason_number why) p.answer, read-refused s y m d why) (reason-iff w (reason_number why));
      given = (
        λ p. (read_as_lem s y m d _ _ _ _ p).good,
        λ g. read-given s y m d (lists_in s) (counts_in s) (sym (counted-lists s)) (w.given g),
      );
    }

pub reasons-of-lists : Paper.ReasonsOfLists
reasons-of-lists y m d o =
    let l : Lists = three_lists y m d in
    let w = buffer-decided l (length o) in
    record {
      reason = λ why.
          Iff.trans (λ p. refused-of (write_into l (length o)) length (reason_number why) p.answer, write-refused y m d o why)
          (reason-iff w (reason_number why));
      given = (λ p. let a = written_as y m d o _ _ p in (a.good, a.bytes.room), λ g. write-given y m d o (sheet_of l) (w.given g));
    }

-- a sheet of three lists is good, and has them
pub lists-same : (a b : Lists) → a.years ≡ b.years → a.months ≡ b.months → a.days ≡ b.days → a ≡ b
lists-same a b y m d =
    ap (λ (x : List ℕ). three_lists x a.months a.days) y
    ∙ ap (λ (x : List ℕ). three_lists b.years x a.days) m
    ∙ ap (three_lists b.years b.months) d

is_read : (l : Lists) (s : List ℕ) → IsSheetOf l s → GoodSections sheet_sections s × (lists_in s ≡ l)
is_read l s h =
    let r =
    read_as_lem s l.years l.months l.days _ _ _ (counted l)
    (h.reads l.years l.months l.days (omega arith) (omega arith) (omega arith))
    in
    (r.good.0, lists-same (lists_in s) l (same l.years r.years) (same l.months r.months) (same l.days r.days))
  where
    same : (xs : List ℕ) {zs old : List ℕ} → InFront (length xs) zs old (placed xs old) → zs ≡ xs
    same xs {zs} {old} a = sym (front zs old (length xs) (placed xs old) a.list a.count) ∙ front xs old (length xs) (placed xs old) refl refl

-- it is the sheet that is laid of them, and they are good
is-laid : (l : Lists) (s : List ℕ) → IsSheetOf l s → GoodLists l × (s ≡ sheet_of l)
is-laid l s h =
    let a = is_read l s h in
    let b = read-is-laid s h.bytes a.0 in
    (subst GoodLists a.1 b.0, sym b.1 ∙ ap sheet_of a.1)

bytes-sheet : (l : Lists) → AreBytes (sheet_of l)
unfolding sheet_of
bytes-sheet l = bytes-laid sheet_sections (in_order l)

sheet-of-good : (l : Lists) → GoodLists l → IsSheetOf l (sheet_of l)
sheet-of-good l g =
    let a = laid-is-read l g in
    record {
      bytes = bytes-sheet l;
      reads = λ y m d hy hm hd.
          read-given (sheet_of l) y m d l (counted l) refl
          (read-with-room (sheet_of l) l (length y) (length m) (length d) a.0 a.1 (hy, hm, hd));
    }

pub one-sheet : Paper.OneSheet
one-sheet l g = (sheet_of l, sheet-of-good l g, λ t i. (is-laid l t i).1)

pub added : Paper.Added
added s b t l h y m d y' m' d' r p =
    (unique-read-sheet (s ++ (b ∷ t)) y m d r _ y' m' d' y m d p
    (read-refused (s ++ (b ∷ t)) y m d BytesAfterLast
    ((into-decided (s ++ (b ∷ t)) (length y) (length m) (length d)).told 11
    (here (sections-added sheet_sections s (b ∷ t) (omega arith) (is_read l s h).0))))).0

pub cut_off : Paper.CutOff
cut_off s b t l h y m d y' m' d' r p =
    (unique-read-sheet s y m d r _ y' m' d' y m d p
    (read-refused s y m d SheetEndsEarly
    ((into-decided s (length y) (length m) (length d)).told 9
    (here (sections-cut sheet_sections s (b ∷ t) (omega arith) (is_read l (s ++ (b ∷ t)) h).0))))).0

-- a list of n equal items
equal-values : (k : Section) (v n : ℕ) → GoodValue k v → GoodValues k (replicate n v)
unfolding GoodValues
equal-values k v zero h = tt
equal-values k v (suc n) h = (h, equal-values k v n h)

pub same-items : (k : Section) (v n : ℕ) → GoodValue k v → n ≤ k.items → GoodList k (replicate n v)
same-items k v n h l = (omega (arith, l, length-replicate n v), equal-values k v n h)

full : (n : ℕ) → n ≤ 1000 → (s : List ℕ) × (l : Lists) × IsSheetOf l s × (length s ≡ 6 + 2 * n + 4 * n + 4 * n)
unfolding GoodEach
full n h =
    let l : Lists = three_lists (replicate n 1) (replicate n 0) (replicate n 0) in (
      sheet_of l,
      l,
      sheet-of-good l
          (same-items (ranged year_items) 1 n refl h, (same-items (ranged month_items) 0 n refl h, (same-items (ranged day_items) 0 n refl h, tt))),
      length-sheet l ∙ rw (length-replicate {A = ℕ} n 1, length-replicate {A = ℕ} n 0) refl,
    )

pub longest-sheet : Paper.LongestSheet
unfolding GoodEach
longest-sheet =
    record {
      none-longer = λ s l h.
          let a = is-laid l s h in
          omega (arith, ap length a.1, length-sheet l, a.0.0.0, a.0.1.0.0, a.0.1.1.0.0);
      one-so-long = full 1000 (omega arith);
    }

-- how long a good sheet is
size-of-a-sheet : (s : List ℕ) → GoodSections sheet_sections s →
    length s ≡ 6 + 2 * count_of s + 4 * count_of (months_part s) + 4 * count_of (days_part s)
unfolding GoodSections left_after
size-of-a-sheet s g =
    omega (
      arith,
      section-long (ranged year_items) s g.0,
      section-long (ranged month_items) (months_part s) g.1.0,
      section-long (ranged day_items) (days_part s) g.1.1.0,
      g.1.1.1,
      length-drop (2 + 2 * count_of s) s,
      length-drop (2 + 4 * count_of (months_part s)) (months_part s),
      length-drop (2 + 4 * count_of (days_part s)) (days_part s),
    )

-- each section stands where the one before it ended
read-by-item : (s y m d y' m' d' : List ℕ) (c : Counted) → ReadAs s y m d c y' m' d' → Paper.ReadByItem s c y' m' d'
unfolding lists_in lists_of left_after
read-by-item s y m d y' m' d' c r =
    let ey : c.years ≡ count_of s = ap (λ (k : Counted). k.years) r.counts in
    let em : c.months ≡ count_of (months_part s) = ap (λ (k : Counted). k.months) r.counts in
    let ed : c.days ≡ count_of (days_part s) = ap (λ (k : Counted). k.days) r.counts in
    let fm : months_part s ≡ drop (months_from c) s = ap (λ (n : ℕ). drop (2 + 2 * n) s) (sym ey) in
    let fd : days_part s ≡ drop (days_from c) s =
    ap (λ (n : ℕ). drop (2 + 4 * n) (months_part s)) (sym em) ∙ ap (drop (2 + 4 * c.months)) fm ∙ drop-drop (2 + 4 * c.months) (months_from c) s
    in
    record {
      years = stands_at (ranged year_items) s s y y' 0 c.years refl ey r.years;
      months = stands_at (ranged month_items) s (months_part s) m m' (months_from c) c.months fm em r.months;
      days = stands_at (ranged day_items) s (days_part s) d d' (days_from c) c.days fd ed r.days;
      end = omega (arith, size-of-a-sheet s r.good.0, ey, em, ed);
    }

written-by-item : (y m d o o' : List ℕ) (n : ℕ) → InFront n (sheet_of (three_lists y m d)) o o' →
    Paper.WrittenByItem y m d (counts_are (length y) (length m) (length d)) n o'
unfolding sheet_of lay_sections
written-by-item y m d o o' n a =
    let c : Counted = counts_are (length y) (length m) (length d) in
    let ly : List ℕ = lay_section (ranged year_items) y in
    let lm : List ℕ = lay_section (ranged month_items) m in
    let ld : List ℕ = lay_section (ranged day_items) d in
    let old : List ℕ = drop (length (sheet_of (three_lists y m d))) o in
    let rest : List ℕ = [] ++ old in
    let fy : o' ≡ ly ++ (lm ++ (ld ++ rest)) =
    a.list
    ∙ append_assoc ly (lm ++ (ld ++ [])) old
    ∙ ap (λ (t : List ℕ). ly ++ t) (append_assoc lm (ld ++ []) old ∙ ap (λ (t : List ℕ). lm ++ t) (append_assoc ld [] old))
    in
    let fm : drop (months_from c) o' ≡ lm ++ (ld ++ rest) =
    ap (drop (months_from c)) fy ∙ drop_at ly (lm ++ (ld ++ rest)) (months_from c) (length-section (ranged year_items) y)
    in
    let fd : drop (days_from c) o' ≡ ld ++ rest =
    sym (drop-drop (2 + 4 * length m) (months_from c) o')
    ∙ ap (drop (2 + 4 * length m)) fm
    ∙ drop_at lm (ld ++ rest) (2 + 4 * length m) (length-section (ranged month_items) m)
    in
    record {
      years = laid-at (ranged year_items) y (lm ++ (ld ++ rest)) o' 0 fy;
      months = laid-at (ranged month_items) m (ld ++ rest) o' (months_from c) fm;
      days = laid-at (ranged day_items) d rest o' (days_from c) fd;
      end = a.count ∙ length-sheet (three_lists y m d) ∙ omega arith;
    }

pub item-by-item : Paper.ItemByItem
item-by-item =
    record {
      read-sheet = λ s y m d y' m' d' c p. read-by-item s y m d y' m' d' c (read_as_lem s y m d y' m' d' c p);
      write-sheet = λ y m d o o' n p. written-by-item y m d o o' n (written_as y m d o o' n p).bytes;
    }

empty-read : read_sheet empty_sheet ≡ is (three_lists [] [] [])
unfolding reading
empty-read = refl

pub empty-sheet : Paper.EmptySheet
empty-sheet y m d y' m' d' r p =
    let a = if-given (sheet-decided empty_sheet) (three_lists [] [] []) empty-read in
    let g = read-with-room empty_sheet _ (length y) (length m) (length d) a.0 a.1 (omega arith, omega arith, omega arith) in
    said-once r (Ok (counts_are 0 0 0)) (p.answer ∙ ap (λ (a : Answer Lists). and_then a (λ l. is (counted l))) g)

pub wrong-sheets : Paper.WrongSheets
unfolding reading
wrong-sheets =
    record {
      refusing-all = λ why y m d p.
          let o : ◌≡◌ {A = Answer Counted} (refused (reason_number why)) (is (counts_are 0 0 0)) = p.answer in
          let z : ◌≡◌ {A = ℕ} 0 1 = cc in
          omega arith;
      filling-none = λ a m d p. unlike 0 0 11 p.years refl refl (omega arith);
      copying-first-year = λ a m d p. unlike 1 11 12 p.years refl refl (omega arith);
      copying-first-month = λ a y d p. unlike 1 123 134 p.months refl refl (omega arith);
      copying-first-day = λ a y m p. unlike 1 28 29 p.days refl refl (omega arith);
      first-year-alone = λ a m d p. unlike 1 0 12 p.years refl refl (omega arith);
      first-month-alone = λ a y d p. unlike 1 0 134 p.months refl refl (omega arith);
      first-day-alone = λ a y m p. unlike 1 0 29 p.days refl refl (omega arith);
      month-as-a-day = λ c y m d p.
          let o : ◌≡◌ {A = Answer Counted} (is c) (refused 7) = p.answer in
          let z : ◌≡◌ {A = ℕ} 0 1 = cc in
          omega arith;
      day-as-a-month = λ why y m d p.
          let o : ◌≡◌ {A = Answer Counted} (refused (reason_number why)) (is (counts_are 0 0 1)) = p.answer in
          let z : ◌≡◌ {A = ℕ} 0 1 = cc in
          omega arith;
      year-0-refused = λ why y m d p.
          let o : ◌≡◌ {A = Answer Counted} (refused (reason_number why)) (is (counts_are 1 0 0)) = p.answer in
          let z : ◌≡◌ {A = ℕ} 0 1 = cc in
          omega arith;
    }

pub wrong-writings : Paper.WrongWritings
unfolding writing
wrong-writings =
    record {
      refusing-all = λ why o p.
          let e : ◌≡◌ {A = Answer ℕ} (refused (reason_number why)) (is 6) = p.answer in
          let z : ◌≡◌ {A = ℕ} 0 1 = cc in
          omega arith;
      filling-none = λ a p. unlike 0 0 1 p.buffer refl refl (omega arith);
      copying-first-year = λ a p. unlike 4 11 12 p.buffer refl refl (omega arith);
      copying-first-month = λ a p. unlike 8 123 134 p.buffer refl refl (omega arith);
      copying-first-day = λ a p. unlike 10 28 29 p.buffer refl refl (omega arith);
      first-year-alone = λ a p. unlike 4 0 12 p.buffer refl refl (omega arith);
      first-month-alone = λ a p. unlike 8 0 134 p.buffer refl refl (omega arith);
      first-day-alone = λ a p. unlike 10 0 29 p.buffer refl refl (omega arith);
      month-as-a-day = λ n o p.
          let e : ◌≡◌ {A = Answer ℕ} (is n) (refused 7) = p.answer in
          let z : ◌≡◌ {A = ℕ} 0 1 = cc in
          omega arith;
      day-as-a-month = λ why o p.
          let e : ◌≡◌ {A = Answer ℕ} (refused (reason_number why)) (is 10) = p.answer in
          let z : ◌≡◌ {A = ℕ} 0 1 = cc in
          omega arith;
      year-0-refused = λ why o p.
          let e : ◌≡◌ {A = Answer ℕ} (refused (reason_number why)) (is 8) = p.answer in
          let z : ◌≡◌ {A = ℕ} 0 1 = cc in
          omega arith;
    }
