-- Every refusal is one of the reasons: of a row of guards, and so of each answer of the paper. Assumes nothing.
use Prim.Native.Nat.{ℕ, zero, suc, ◌+◌, ◌-◌}
use native.Mathlib.Omega.{arith}
use mathlib.Core.Path.{◌≡◌, ap, sym, ◌∙◌}
use mathlib.Core.Logic.{◌≢◌}
use mathlib.Core.Bool.{Bool, true, false, ◌&&◌}
use mathlib.Core.List.{List, [], ◌∷◌, ◌++◌}
use lib.Dec.{leb}
use lib.IntN.{ℤ, pos, negsuc, ◌+ℤ◌}
use lib.ListN.{length, take, drop}
use Rattle.rule.specs.Rule.{month_start, month_length}
use Rattle.rule.specs.Reasons.{Answer, is, refused, within, guard, and_then, reason_number, reason_of, into_room}
use Rattle.rule.specs.declared.Reason.{Reason}
use Rattle.rule.specs.declared.Reason.TheVariants.{
  NoSuchYear,
  NoSuchMonthNumber,
  NoSuchDayOfMonth,
  NoSuchLeapMonth,
  NoThirtiethDay,
  NoSuchDay,
  NoSuchMonth,
  MoveOutOfRange,
  SheetEndsEarly,
  CountTooLarge,
  BytesAfterLast,
  LentTooShort,
  BadWindow,
  FieldOutOfRange,
  NoSuchTermOrQuarter,
  NoSuchNumberInYear,
  ReadingsPresent,
  TextTooLong,
  NoSuchPlanet,
  NoConjunctionLeft,
  NoSuchBu,
}
use Rattle.rule.proofs.Answers.{reason-back}
use Rattle.dates.specs.Dates.{date_of, date_at, month_asked, is_there, day_in_month, day_of_named, day_of_date, number_there, mid_term_of}
use Rattle.moves.specs.Moves.{landed, moved}
use Rattle.facts.specs.Facts.{
  solstice_year,
  solstice_year_at,
  year_facts,
  year_facts_at,
  month_facts,
  month_facts_at,
  quarter_of,
  quarter_at,
  term_of,
  term_at,
}
use Rattle.clerk.specs.declared.Clerk.{Clerk}
use Rattle.clerk.specs.Clerk.{before_last, stepped, step_at, head, start_at, walked}
use Rattle.planets.specs.Planets.{numbers_of, conjunction_day, conjunction_of, conjunction_at, next_count, next_of, next_at, pair_of, pair_at}
use Rattle.sheet.specs.declared.Items.{Items}
use Rattle.octets.specs.Bytes.{number, lay}
use Rattle.sheet.specs.Sheet.{
  Section,
  item_read,
  items_read,
  count_of,
  count_read,
  section_read,
  left_after,
  ListsFor,
  sections_read,
  items_written,
  section_written,
  sections_written,
  ranged,
  year_items,
  month_items,
  day_items,
  Lists,
  named,
  in_order,
  read_sheet,
  room,
  read_into,
  write_sheet,
  write_into,
}
use Rattle.reading.specs.Readings.{in_ranges, window_holds}
use Rattle.newsheet.specs.New.{
  eight_of,
  reading_in,
  first_in,
  last_in,
  tested,
  is_given,
  reason_in,
  reading_section,
  four_named,
  read_new,
  room_for_four,
  read_new_into,
  to_new,
  to_old,
}
use Rattle.penned.specs.Lines.{year_block, month_lined, month_item, day_item}
use Rattle.penned.specs.Promises.{year_block_at, month_line_at, month_item_at, day_item_at}
use Rattle.concordance.specs.Verdicts.{verdicts_of}
use Rattle.concordance.specs.Promises.{verdicts_into}

-- what is given, or a refusal for a reason
pub data Sound {A : Type 0} : Answer A → Type 0 where
  given : (x : A) → Sound (is x)
  numbered : (why : Reason) → Sound (refused (reason_number why))

guarded : {A : Type 0} (t : Bool) (why : Reason) {a : Answer A} → Sound a → Sound (guard t (reason_number why) a)
guarded true why s = s
guarded false why s = numbered why

pub sound-then : {A B : Type 0} {a : Answer A} (f : A → Answer B) → Sound a → ((x : A) → Sound (f x)) → Sound (and_then a f)
sound-then f (given x) h = h x
sound-then f (numbered why) h = numbered why

-- no reason's number is 0
pub none-is-0 : (why : Reason) → reason_number why ≢ 0
none-is-0 why z = let e : why ≡ NoSuchYear = sym (reason-back why) ∙ ap reason_of z in omega (arith, z, ap reason_number e)

-- a text into a room of n bytes
in-room : (n : ℕ) (xs : List ℕ) → Sound (into_room n xs)
in-room n xs = guarded (leb (length xs) n) LentTooShort (given xs)

-- dates and moves
pub date-sound : (d : ℕ) → Sound (date_at d)
unfolding date_at
date-sound d = guarded (leb d 14989859) NoSuchDay (given (date_of d))

in-month-sound : (n m : ℕ) → Sound (day_in_month n m)
unfolding day_in_month
in-month-sound n m = guarded (leb m (month_length n)) NoThirtiethDay (given (month_start n + (m - 1)))

named-sound : (t : ℕ) (l : Bool) (m : ℕ) → Sound (day_of_named t l m)
unfolding day_of_named
named-sound t l m = guarded (is_there t l) NoSuchLeapMonth (in-month-sound (month_asked t l) m)

pub day-sound : (y k : ℕ) (l : Bool) (m : ℕ) → Sound (day_of_date y k l m)
unfolding day_of_date
day-sound y k l m =
    guarded (leb y 41040) NoSuchYear
    (guarded (within 1 12 k) NoSuchMonthNumber
    (guarded (within 1 30 m) NoSuchDayOfMonth (guarded (number_there y k) NoSuchNumberInYear (named-sound (mid_term_of y k) l m))))

landed-sound : (n : ℤ) → Sound (landed n)
landed-sound (pos d) = guarded (leb d 14989859) MoveOutOfRange (given (date_of d))
landed-sound (negsuc d) = numbered MoveOutOfRange

pub move-sound : (y k : ℕ) (l : Bool) (m : ℕ) (n : ℤ) → Sound (moved y k l m n)
unfolding moved
move-sound y k l m n = sound-then (λ d. landed (pos d +ℤ n)) (day-sound y k l m) (λ d. landed-sound (pos d +ℤ n))

-- facts
pub solstice-sound : (y : ℕ) → Sound (solstice_year_at y)
unfolding solstice_year_at
solstice-sound y = guarded (within 1 41040 y) NoSuchYear (given (solstice_year y))

pub year-sound : (y : ℕ) → Sound (year_facts_at y)
unfolding year_facts_at
year-sound y = guarded (leb y 41040) NoSuchYear (given (year_facts y))

pub month-sound : (n : ℕ) → Sound (month_facts_at n)
unfolding month_facts_at
month-sound n = guarded (leb n 507599) NoSuchMonth (given (month_facts n))

pub quarter-sound : (n q : ℕ) → Sound (quarter_at n q)
unfolding quarter_at
quarter-sound n q = guarded (leb n 507599) NoSuchMonth (guarded (leb q 3) NoSuchTermOrQuarter (given (quarter_of n q)))

pub term-sound : (y k : ℕ) → Sound (term_at y k)
unfolding term_at
term-sound y k = guarded (within 1 41040 y) NoSuchYear (guarded (leb k 23) NoSuchTermOrQuarter (given (term_of y k)))

-- the clerk
pub start-sound : (b : ℕ) → Sound (start_at b)
unfolding start_at
start-sound b = guarded (within 1 540 b) NoSuchBu (given (head b))

pub step-sound : (c : Clerk) → Sound (step_at c)
unfolding step_at
step-sound c = guarded (before_last c) NoSuchMonth (given (stepped c))

pub walk-sound : (b k : ℕ) → Sound (walked b k)
unfolding walked
walk-sound b zero = start-sound b
walk-sound b (suc k) = sound-then step_at (walk-sound b k) step-sound

-- planets
pub conjunction-sound : (p k : ℕ) → Sound (conjunction_at p k)
unfolding conjunction_at
conjunction-sound p k =
    guarded (within 1 5 p) NoSuchPlanet
    (guarded (leb (conjunction_day (numbers_of p) k) 14989859) NoSuchDay (given (conjunction_of (numbers_of p) k)))

pub next-sound : (p d : ℕ) → Sound (next_at p d)
unfolding next_at
next-sound p d =
    let k = next_count (numbers_of p) d in
    guarded (within 1 5 p) NoSuchPlanet
    (guarded (leb d 14989859) NoSuchDay
    (guarded (leb (conjunction_day (numbers_of p) k) 14989859) NoConjunctionLeft (given (next_of (numbers_of p) k))))

pub pair-sound : (p : ℕ) → Sound (pair_at p)
unfolding pair_at
pair-sound p = guarded (within 1 5 p) NoSuchPlanet (given (pair_of (numbers_of p)))

-- a sheet read
abbrev ItemSound : Section → Type 0
ItemSound k = (x : ℕ) → Sound (guard (k.good x) (k.reason x) (is x))

item-sound : (k : Section) → ItemSound k → (s : List ℕ) → Sound (item_read k s)
unfolding item_read
item-sound k h s = guarded (leb k.width (length s)) SheetEndsEarly (h (number k.width s))

items-sound : (k : Section) → ItemSound k → (n : ℕ) (s : List ℕ) → Sound (items_read k n s)
unfolding items_read
items-sound k h zero s = given []
items-sound k h (suc n) s =
    sound-then (λ x. and_then (items_read k n (drop k.width s)) (λ xs. is (x ∷ xs))) (item-sound k h s)
    (λ x. sound-then (λ xs. is (x ∷ xs)) (items-sound k h n (drop k.width s)) (λ xs. given (x ∷ xs)))

count-sound : (k : Section) (s : List ℕ) → Sound (count_read k s)
unfolding count_read
count-sound k s = guarded (leb 2 (length s)) SheetEndsEarly (guarded (leb (count_of s) k.items) CountTooLarge (given (count_of s)))

any-section-sound : (k : Section) → ItemSound k → (s : List ℕ) → Sound (section_read k s)
unfolding section_read
any-section-sound k h s = sound-then (λ n. items_read k n (drop 2 s)) (count-sound k s) (λ n. items-sound k h n (drop 2 s))

section-sound : (k : Items) (s : List ℕ) → Sound (section_read (ranged k) s)
section-sound k = any-section-sound (ranged k) (λ x. guarded (within k.least k.most x) k.reason (given x))

module _ (k : Section) (ks : List Section) where
  next-sound-read : ((s : List ℕ) → Sound (section_read k s)) → ((s : List ℕ) → Sound (sections_read ks s)) → (s : List ℕ) → Sound (sections_read (k ∷ ks) s)
  unfolding sections_read
  next-sound-read p q s =
      sound-then (λ xs. and_then (sections_read ks (left_after k s)) (λ l. is (xs, l))) (p s)
      (λ xs. sound-then (λ l. is (xs, l)) (q (left_after k s)) (λ l. given (xs, l)))

  next-sound-written : (l : ListsFor (k ∷ ks)) → Sound (section_written k l.0) → Sound (sections_written ks l.1) → Sound (sections_written (k ∷ ks) l)
  unfolding sections_written
  next-sound-written l p q =
      sound-then (λ b. and_then (sections_written ks l.1) (λ c. is (b ++ c))) p (λ b. sound-then (λ c. is (b ++ c)) q (λ c. given (b ++ c)))

end-sound : (s : List ℕ) → Sound (sections_read [] s)
unfolding sections_read
end-sound s = guarded (leb (length s) 0) BytesAfterLast (given tt)

sheet-sound : (s : List ℕ) → Sound (read_sheet s)
unfolding read_sheet
sheet-sound s =
    sound-then (λ l. is (named l))
    (next-sound-read (ranged year_items) (ranged month_items ∷ ranged day_items ∷ []) (section-sound year_items)
    (next-sound-read (ranged month_items) (ranged day_items ∷ []) (section-sound month_items)
    (next-sound-read (ranged day_items) [] (section-sound day_items) end-sound)) s)
    (λ l. given (named l))

pub read-sound : (s : List ℕ) (y m d : ℕ) → Sound (read_into s y m d)
unfolding read_into
read-sound s y m d = sound-then (λ l. guard (room l y m d) 12 (is l)) (sheet-sound s) (λ l. guarded (room l y m d) LentTooShort (given l))

-- a sheet of the new form read, and converted: the tests of a reading, then the sections
test-sound : (v : List ℕ) → Sound (tested v)
unfolding tested
test-sound v =
    guarded (leb (first_in v) 14989859 && leb (last_in v) 14989859) NoSuchDay
    (guarded (window_holds (first_in v) (last_in v)) BadWindow (guarded (in_ranges (reading_in v)) FieldOutOfRange (given tt)))

by-test : {A : Type 0} {a : Answer A} (x : ℕ) → Sound a → Sound (guard (is_given a) (reason_in a) (is x))
by-test x (given z) = given x
by-test x (numbered why) = numbered why

new-sound : (s : List ℕ) → Sound (read_new s)
unfolding read_new
new-sound s =
    sound-then (λ l. is (four_named l))
    (next-sound-read (ranged year_items) (ranged month_items ∷ ranged day_items ∷ reading_section ∷ []) (section-sound year_items)
    (next-sound-read (ranged month_items) (ranged day_items ∷ reading_section ∷ []) (section-sound month_items)
    (next-sound-read (ranged day_items) (reading_section ∷ []) (section-sound day_items)
    (next-sound-read reading_section [] (any-section-sound reading_section (λ x. by-test x (test-sound (eight_of x)))) end-sound))) s)
    (λ l. given (four_named l))

pub read-new-sound : (s : List ℕ) (y m d n : ℕ) → Sound (read_new_into s y m d n)
unfolding read_new_into
read-new-sound s y m d n =
    sound-then (λ l. guard (room_for_four l y m d n) 12 (is l)) (new-sound s) (λ l. guarded (room_for_four l y m d n) LentTooShort (given l))

pub to-new-sound : (s : List ℕ) (n : ℕ) → Sound (to_new s n)
unfolding to_new
to-new-sound s n = sound-then (λ l. into_room n (s ++ (0 ∷ 0 ∷ []))) (sheet-sound s) (λ l. in-room n (s ++ (0 ∷ 0 ∷ [])))

pub to-old-sound : (s : List ℕ) (n : ℕ) → Sound (to_old s n)
unfolding to_old
to-old-sound s n =
    sound-then (λ l. guard (leb (length l.readings) 0) 17 (into_room n (take (length s - 2) s))) (new-sound s)
    (λ l. guarded (leb (length l.readings) 0) ReadingsPresent (in-room n (take (length s - 2) s)))

-- and written
values-sound : (k : Items) (xs : List ℕ) → Sound (items_written (ranged k) xs)
unfolding items_written
values-sound k [] = given []
values-sound k (x ∷ xs) =
    guarded (within k.least k.most x) k.reason
    (sound-then (λ b. is (lay k.width x ++ b)) (values-sound k xs) (λ b. given (lay k.width x ++ b)))

list-sound : (k : Items) (xs : List ℕ) → Sound (section_written (ranged k) xs)
unfolding section_written
list-sound k xs =
    guarded (leb (length xs) k.items) CountTooLarge
    (sound-then (λ b. is (lay 2 (length xs) ++ b)) (values-sound k xs) (λ b. given (lay 2 (length xs) ++ b)))

no-list-sound : Sound (sections_written [] tt)
unfolding sections_written
no-list-sound = given []

pub write-sound : (l : Lists) (n : ℕ) → Sound (write_into l n)
unfolding write_into write_sheet
write-sound l n =
    sound-then (λ b. into_room n b)
    (next-sound-written (ranged year_items) (ranged month_items ∷ ranged day_items ∷ []) (in_order l) (list-sound year_items l.years)
    (next-sound-written (ranged month_items) (ranged day_items ∷ []) (l.months, (l.days, tt)) (list-sound month_items l.months)
    (next-sound-written (ranged day_items) [] (l.days, tt) (list-sound day_items l.days) no-list-sound)))
    (λ b. in-room n b)

-- printed lines
pub year-printed-sound : (y n : ℕ) → Sound (year_block_at y n)
unfolding year_block_at
year-printed-sound y n = guarded (leb y 41040) NoSuchYear (in-room n (year_block y))

pub line-printed-sound : (m n : ℕ) → Sound (month_line_at m n)
unfolding month_line_at
line-printed-sound m n = guarded (leb m 507599) NoSuchMonth (in-room n (month_lined m))

pub month-printed-sound : (m n : ℕ) → Sound (month_item_at m n)
unfolding month_item_at
month-printed-sound m n = guarded (leb m 507599) NoSuchMonth (in-room n (month_item m))

pub day-printed-sound : (d n : ℕ) → Sound (day_item_at d n)
unfolding day_item_at
day-printed-sound d n = guarded (leb d 14989859) NoSuchDay (in-room n (day_item d))

pub verdicts-sound : (s : List ℕ) (n : ℕ) → Sound (verdicts_into s n)
unfolding verdicts_into
verdicts-sound s n = guarded (leb (length s) 65536) TextTooLong (in-room n (verdicts_of s))
