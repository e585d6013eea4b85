-- What the request says, proved, each statement under its name in small letters. Assumes nothing.
use Rattle.std.specs.Prelude.{Result, Ok, Err}
use Rattle.rule.specs.declared.Reason.{Reason}
use Prim.Native.Nat.{ℕ, zero, suc, ◌+◌, ◌-◌, ◌*◌, ◌≤◌}
use native.Mathlib.Omega.{arith}
use mathlib.Core.Path.{◌≡◌, refl, ap, sym, ◌∙◌, subst}
use mathlib.Core.Logic.Iff
use mathlib.Core.List.{List, [], ◌∷◌, ◌++◌}
use lib.ListN.{length, take, drop, length-append, length-drop, replicate, length-replicate}
use lib.Seq.{take_at, drop-drop, length-take-le}
use Rattle.rule.specs.Lists.{placed}
use Rattle.rule.specs.Reasons.{Answer, is, refused, reason_number, afterwards}
use Rattle.rule.specs.declared.Reason.TheVariants.{SheetEndsEarly, BytesAfterLast}
use Rattle.rule.proofs.Answers.{said-once}
use Rattle.octets.specs.Bytes.{number, lay}
use Rattle.reading.specs.Readings.{in_ranges}
use Rattle.sheet.specs.declared.Counted.{Counted}
use Rattle.sheet.specs.Sheet.{
  Section,
  ranged,
  year_items,
  month_items,
  day_items,
  sheet_sections,
  count_of,
  left_after,
  Lists,
  three_lists,
  months_part,
  days_part,
  items_of,
  lists_of,
  lists_in,
  lay_sections,
  read_into,
  sheet_of,
}
use Rattle.sheet.specs.Faults.{here, GoodSections, GoodValue, GoodList, GoodEach, GoodLists}
use Rattle.sheet.specs.Steps.{left_over, bytes_of}
use Rattle.sheet.specs.Promises.{counted, ReadSheet}
use Rattle.sheet.proofs.Deciding.{if-given, reason-iff, made_of, refused-of}
use Rattle.sheet.proofs.Reading.{section-long, into-decided, Three, three-good}
use Rattle.sheet.proofs.Sheets.{front-and-rest, read-refused}
use Rattle.sheet.proofs.Places.{InFront, rest-kept, front}
use Rattle.stated.specs.Paper.{AreBytes, months_from, days_from}
use Rattle.stated.proofs.RoundTrip.{bytes_drop, SmallItems}
use Rattle.stated.proofs.Items.{stands_at}
use Rattle.stated.proofs.Ends.{sections-cut}
use Rattle.stated.proofs.Paper.{same-items, lists-same, unique-read-sheet}
use Rattle.newsheet.specs.declared.FourCounts.{FourCounts}
use Rattle.newsheet.specs.New.{eight_in, eight_of, eights, tested, reading_section, new_sections, Four, four_named, four_in, read_new_into, to_new, to_old}
use Rattle.newsheet.specs.Faults.{HasRoomForFour, GoodNew, GoodToNew, GoodToOld}
use Rattle.newsheet.specs.Promises.{counted_four, four_counts_in, readings_part, ReadNew, ToNew, ToOld}
use Rattle.newsheet.proofs.Eights.{eight-read, length-eights}
use Rattle.newsheet.proofs.Calls.{
  into-four-decided,
  to-new-decided,
  to-old-decided,
  counted-four,
  read-new-refused,
  read-new-given,
  to-new-refused,
  to-new-given,
  to-old-refused,
  to-old-given,
}
use Rattle.newstated.specs.Paper as Paper
use Rattle.newstated.specs.Paper.{readings_from, IsNewSheetOf}
use Rattle.newstated.proofs.Testing.{good-iff, fault-iff, search-tests}
use Rattle.newstated.proofs.Packing.{items-once, small-numbers, pack}
use Rattle.newstated.proofs.Forms.{one_more, four, four-back, old-is-new, new-is-laid, new-is-old, length-four, bytes-four}
use Rattle.newstated.proofs.Places.{field_at, first-at, last-at}

pub unique-read-new : Paper.UniqueReadNew
unique-read-new s y m d n a b y₁ m₁ d₁ n₁ y₂ m₂ d₂ n₂ p q = (
  said-once a b (p.answer ∙ sym q.answer),
  p.years ∙ sym q.years,
  p.months ∙ sym q.months,
  p.days ∙ sym q.days,
  p.readings ∙ sym q.readings,
)

pub unique-to-new : Paper.UniqueToNew
unique-to-new s o a b o₁ o₂ p q = (said-once a b (p.answer ∙ sym q.answer), p.buffer ∙ sym q.buffer)

pub unique-to-old : Paper.UniqueToOld
unique-to-old s o a b o₁ o₂ p q = (said-once a b (p.answer ∙ sym q.answer), p.buffer ∙ sym q.buffer)

pub fourth-section-literally : Paper.FourthSectionLiterally
fourth-section-literally =
    record {
      order = refl;
      bytes = refl;
      counts = refl;
      good = λ x. good-iff (eight_of x);
      reason = λ x r. fault-iff (eight_of x) r;
    }

pub eight-literally : Paper.EightLiterally
unfolding eight_in
eight-literally s b h = eight-read s h b

pub unread-literally : Paper.UnreadLiterally
unread-literally = record { zero = refl; other = λ k. refl }

pub reading-literally : Paper.ReadingLiterally
reading-literally =
    record { fields = λ a b c d e f first last. refl; window = λ a b c d e f first last. (refl, refl); ordinary = refl; leap = refl }

pub tests-of-the-search : Paper.TestsOfTheSearch
tests-of-the-search = search-tests

-- an answered call: that the sheet is good, and where its items stand then
record ReadAs (s y m d n : List ℕ) (c : FourCounts) (y' m' d' n' : List ℕ) : Type 0 where
  good : GoodNew s (length y) (length m) (length d) (length n)
  counts : c ≡ four_counts_in s
  years : InFront c.three.years (four_in s).three.years y y'
  months : InFront c.three.months (four_in s).three.months m m'
  days : InFront c.three.days (four_in s).three.days d d'
  readings : InFront (8 * c.readings) (eights (four_in s).readings) n n'

read_as_lem : (s y m d n y' m' d' n' : List ℕ) (c : FourCounts) → ReadNew s y m d n (Ok c) y' m' d' n' → ReadAs s y m d n c y' m' d' n'
read_as_lem s y m d n y' m' d' n' c p =
    let w = made_of (read_new_into s (length y) (length m) (length d) (length n)) counted_four c p.answer in
    let a = if-given (into-four-decided s (length y) (length m) (length d) (length n)) w.0 w.1 in
    let g : read_new_into s (length y) (length m) (length d) (length n) ≡ is (four_in s) = w.1 ∙ ap is (sym a.1) in
    let h : c ≡ counted_four (four_in s) = w.2 ∙ ap counted_four (sym a.1) in
    let stands : (part : Four → List ℕ) (old : List ℕ) →
    afterwards (read_new_into s (length y) (length m) (length d) (length n)) part old ≡ placed (part (four_in s)) old =
    λ part old. ap (λ (x : Answer Four). afterwards x part old) g
    in
    let k = length-eights (four_in s).readings in
    let r : c.readings ≡ length (four_in s).readings = ap (λ (c : FourCounts). c.readings) h in
    record {
      good = a.0;
      counts = h ∙ counted-four s;
      years =
          record {
            room = a.0.1.0.0;
            count = ap (λ (c : FourCounts). c.three.years) h;
            list = p.years ∙ stands (λ l. l.three.years) y;
          };
      months =
          record {
            room = a.0.1.0.1;
            count = ap (λ (c : FourCounts). c.three.months) h;
            list = p.months ∙ stands (λ l. l.three.months) m;
          };
      days =
          record {
            room = a.0.1.0.2;
            count = ap (λ (c : FourCounts). c.three.days) h;
            list = p.days ∙ stands (λ l. l.three.days) d;
          };
      readings =
          record {
            room = omega (arith, k, a.0.1.1);
            count = omega (arith, k, r);
            list = p.readings ∙ stands (λ l. eights l.readings) n;
          };
    }

-- what was converted: that the sheet is good, and where its bytes stand then
converted-new : (s o o' : List ℕ) (k : ℕ) → ToNew s o (Ok k) o' → GoodToNew s (length o) × InFront k (s ++ (0 ∷ 0 ∷ [])) o o'
converted-new s o o' k p =
    let w = made_of (to_new s (length o)) length k p.answer in
    let a = if-given (to-new-decided s (length o)) w.0 w.1 in
    let g : to_new s (length o) ≡ is (s ++ (0 ∷ 0 ∷ [])) = w.1 ∙ ap is (sym a.1) in (
      a.0,
      record {
        room = omega (arith, a.0.1, length-append s (0 ∷ 0 ∷ []));
        count = w.2 ∙ ap length (sym a.1);
        list = p.buffer ∙ ap (λ (x : Answer (List ℕ)). afterwards x (λ b. b) o) g;
      },
    )

converted-old : (s o o' : List ℕ) (k : ℕ) → ToOld s o (Ok k) o' → GoodToOld s (length o) × InFront k (take (length s - 2) s) o o'
converted-old s o o' k p =
    let w = made_of (to_old s (length o)) length k p.answer in
    let a = if-given (to-old-decided s (length o)) w.0 w.1 in
    let g : to_old s (length o) ≡ is (take (length s - 2) s) = w.1 ∙ ap is (sym a.1) in (
      a.0,
      record {
        room = omega (arith, a.0.1.1, length-take-le (length s - 2) s (omega arith));
        count = w.2 ∙ ap length (sym a.1);
        list = p.buffer ∙ ap (λ (x : Answer (List ℕ)). afterwards x (λ b. b) o) g;
      },
    )

pub rest-untouched : Paper.RestUntouched
rest-untouched =
    record {
      read-new = λ s y m d n y' m' d' n' c p.
          let r = read_as_lem s y m d n y' m' d' n' c p in (rest-kept r.years, rest-kept r.months, rest-kept r.days, rest-kept r.readings);
      to-new = λ s o o' k p. rest-kept (converted-new s o o' k p).1;
      to-old = λ s o o' k p. rest-kept (converted-old s o o' k p).1;
    }

pub refusal-changes-nothing : Paper.RefusalChangesNothing
refusal-changes-nothing =
    record {
      read-new = λ s y m d n y' m' d' n' why p.
          let a : Answer Four = read_new_into s (length y) (length m) (length d) (length n) in
          let e : a ≡ refused (reason_number why) = refused-of a counted_four (reason_number why) p.answer in (
            p.years ∙ ap (λ (a : Answer Four). afterwards a (λ l. l.three.years) y) e,
            p.months ∙ ap (λ (a : Answer Four). afterwards a (λ l. l.three.months) m) e,
            p.days ∙ ap (λ (a : Answer Four). afterwards a (λ l. l.three.days) d) e,
            p.readings ∙ ap (λ (a : Answer Four). afterwards a (λ l. eights l.readings) n) e,
          );
      to-new = λ s o o' why p.
          p.buffer ∙ ap (λ (a : Answer (List ℕ)). afterwards a (λ b. b) o) (refused-of (to_new s (length o)) length (reason_number why) p.answer);
      to-old = λ s o o' why p.
          p.buffer ∙ ap (λ (a : Answer (List ℕ)). afterwards a (λ b. b) o) (refused-of (to_old s (length o)) length (reason_number why) p.answer);
    }

pub reasons-of-a-new-sheet : Paper.ReasonsOfANewSheet
reasons-of-a-new-sheet s y m d n =
    let a : Answer Four = read_new_into s (length y) (length m) (length d) (length n) in
    let w = into-four-decided s (length y) (length m) (length d) (length n) in
    record {
      reason = λ why.
          Iff.trans (λ p. refused-of a counted_four (reason_number why) p.answer, read-new-refused s y m d n why) (reason-iff w (reason_number why));
      given = (
        λ p. (read_as_lem s y m d n _ _ _ _ _ p).good,
        λ g. read-new-given s y m d n (four_in s) (four_counts_in s) (sym (counted-four s)) (w.given g),
      );
    }

pub reasons-of-converting : Paper.ReasonsOfConverting
reasons-of-converting =
    record {
      to-new = λ s o why.
          Iff.trans (λ p. refused-of (to_new s (length o)) length (reason_number why) p.answer, to-new-refused s o why)
          (reason-iff (to-new-decided s (length o)) (reason_number why));
      to-new-given = λ s o.
          let e : length (s ++ (0 ∷ 0 ∷ [])) ≡ length s + 2 = length-append s (0 ∷ 0 ∷ []) in
          (λ p. (converted-new s o _ _ p).0, λ g. rw (← e) (to-new-given s o (s ++ (0 ∷ 0 ∷ [])) ((to-new-decided s (length o)).given g)));
      to-old = λ s o why.
          Iff.trans (λ p. refused-of (to_old s (length o)) length (reason_number why) p.answer, to-old-refused s o why)
          (reason-iff (to-old-decided s (length o)) (reason_number why));
      to-old-given = λ s t o e.
          let f : take (length s - 2) s ≡ t = without-count s t e in
          (λ p. (converted-old s o _ _ p).0, λ g. rw (← f) (to-old-given s o (take (length s - 2) s) ((to-old-decided s (length o)).given g)));
    }
  where
    without-count : (s t : List ℕ) → s ≡ t ++ (0 ∷ 0 ∷ []) → take (length s - 2) s ≡ t
    without-count s t e =
        let n : length t ≡ length s - 2 = omega (arith, ap length e, length-append t (0 ∷ 0 ∷ [])) in
        ap (take (length s - 2)) e ∙ take_at t (0 ∷ 0 ∷ []) (length s - 2) n

pub converted-there-and-back : Paper.ConvertedThereAndBack
converted-there-and-back s o o' p p' n r b c d h =
    let a = converted-new s o o' n c in
    let t : List ℕ = s ++ (0 ∷ 0 ∷ []) in
    let f : take n o' ≡ t = front t o n o' a.1.list a.1.count in
    let w = old-is-new s b a.0.0 in
    let l : length t ≡ length s + 2 = length-append s (0 ∷ 0 ∷ []) in
    let k : take (length t - 2) t ≡ s = take_at s (0 ∷ 0 ∷ []) (length t - 2) (omega (arith, l)) in
    let z : length (four_in t).readings ≡ 0 = ap (λ (x : Four). length x.readings) w.1 in
    let g : to_old t (length p) ≡ is s = (to-old-decided t (length p)).given (w.0, (omega (arith, z), omega (arith, h, l))) ∙ ap is k in
    unique-to-old t p r (Ok (length s)) p' (placed s p) (subst (λ (u : List ℕ). ToOld u p r p') f d) (to-old-given t p s g)

pub converted-back-and-there : Paper.ConvertedBackAndThere
converted-back-and-there s o o' p p' n r b c d h =
    let a = converted-old s o o' n c in
    let w = new-is-old s b a.0.0 a.0.1.0 in
    let t : List ℕ = sheet_of (four_in s).three in
    let l : length s ≡ length t + 2 = ap length w.0 ∙ length-append t (0 ∷ 0 ∷ []) in
    let k : take (length s - 2) s ≡ t = ap (take (length s - 2)) w.0 ∙ take_at t (0 ∷ 0 ∷ []) (length s - 2) (omega (arith, l)) in
    let f : take n o' ≡ t = front (take (length s - 2) s) o n o' a.1.list a.1.count ∙ k in
    let g : to_new t (length p) ≡ is s = (to-new-decided t (length p)).given (w.1, omega (arith, h, l)) ∙ ap is (sym w.0) in
    unique-to-new t p r (Ok (length s)) p' (placed s p) (subst (λ (u : List ℕ). ToNew u p r p') f d) (to-new-given t p s g)

-- the lists of an old sheet that was read have room, so that its new form is read into the same lists
pub converted-reads-alike : Paper.ConvertedReadsAlike
unfolding eights
converted-reads-alike s o o' y m d n y' m' d' y'' m'' d'' n'' k c r b p q t =
    let a = converted-new s o o' k p in
    let w = old-is-new s b a.0.0 in
    let u : List ℕ = s ++ (0 ∷ 0 ∷ []) in
    let f : take k o' ≡ u = front u o k o' a.1.list a.1.count in
    let l : Four = record { three = lists_in s; readings = [] } in
    let v = made_of (read_into s (length y) (length m) (length d)) counted c q.answer in
    let x = if-given (into-decided s (length y) (length m) (length d)) v.0 v.1 in
    let e : read_into s (length y) (length m) (length d) ≡ is (lists_in s) = v.1 ∙ ap is (sym x.1) in
    let i : c ≡ counted (lists_in s) = v.2 ∙ ap counted (sym x.1) in
    let g : read_new_into u (length y) (length m) (length d) (length n) ≡ is l =
    (into-four-decided u (length y) (length m) (length d) (length n)).given
    (w.0, subst (λ (z : Four). HasRoomForFour z (length y) (length m) (length d) (length n)) (sym w.1) (x.0.1, omega arith))
    ∙ ap is w.1
    in
    let z =
    unique-read-new u y m d n r _ y'' m'' d'' n'' _ _ _ _ (subst (λ (u : List ℕ). ReadNew u y m d n r y'' m'' d'' n'') f t)
    (read-new-given u y m d n l (record { three = c; readings = 0 }) (ap (λ (c : Counted). record { three = c; readings = 0 }) i) g)
    in
    record {
      answer = z.0;
      years = z.1 ∙ sym (q.years ∙ ap (λ (a : Answer Lists). afterwards a (λ l. l.years) y) e);
      months = z.2 ∙ sym (q.months ∙ ap (λ (a : Answer Lists). afterwards a (λ l. l.months) m) e);
      days = z.3 ∙ sym (q.days ∙ ap (λ (a : Answer Lists). afterwards a (λ l. l.days) d) e);
      readings = z.4;
    }

pub readers-of-the-other-form : Paper.ReadersOfTheOtherForm
readers-of-the-other-form =
    record {
      old-reader = old;
      old-reader-of-what-is-read = λ s y m d n y' m' d' n' c p. old s (read_as_lem s y m d n y' m' d' n' c p).good.0;
      new-reader = λ s b g y m d n y' m' d' n' r p.
          (unique-read-new s y m d n r _ y' m' d' n' y m d n p
          (read-new-refused s y m d n SheetEndsEarly
          ((into-four-decided s (length y) (length m) (length d) (length n)).told 9
          (here (sections-cut new_sections s (0 ∷ 0 ∷ []) (omega arith) (old-is-new s b g).0))))).0;
    }
  where
    old : (s : List ℕ) → GoodSections new_sections s →
        (y m d y' m' d' : List ℕ) (r : Result Counted Reason) → ReadSheet s y m d r y' m' d' → r ≡ Err BytesAfterLast
    old s g y m d y' m' d' r p =
        (unique-read-sheet s y m d r _ y' m' d' y m d p
        (read-refused s y m d BytesAfterLast
        ((into-decided s (length y) (length m) (length d)).told 11 (here (one_more sheet_sections reading_section s g))))).0

-- what is left of bytes after sections is bytes
bytes_left : (ks : List Section) (s : List ℕ) → AreBytes s → AreBytes (left_over ks s)
unfolding left_over left_after
bytes_left [] s b = b
bytes_left (k ∷ ks) s b = bytes_left ks (left_after k s) (bytes_drop (2 + k.width * count_of s) s b)

-- a sheet of three lists and readings is good, and has them
module _ (l : Lists) (k : ℕ) (e s : List ℕ) (h : IsNewSheetOf l k e s) where
  there : ReadAs s l.years l.months l.days e (record { three = counted l; readings = k })
      (placed l.years l.years) (placed l.months l.months) (placed l.days l.days) (placed e e)
  there =
      read_as_lem s l.years l.months l.days e _ _ _ _ _
      (h.reads l.years l.months l.days e (omega arith, omega arith, omega arith) (omega arith))

  same : (xs : List ℕ) (n : ℕ) {zs old : List ℕ} → n ≡ length xs → InFront n zs old (placed xs old) → zs ≡ xs
  same xs n {zs} {old} c a = sym (front zs old n (placed xs old) a.list a.count) ∙ front xs old n (placed xs old) refl c

  is_read : ((four_in s).three ≡ l) × (eights (four_in s).readings ≡ e)
  is_read = (
    lists-same (four_in s).three l (same l.years _ refl there.years) (same l.months _ refl there.months) (same l.days _ refl there.days),
    same e (8 * k) (sym h.whole) there.readings,
  )

  is-laid : GoodLists (four_in s).three × GoodList reading_section (four_in s).readings
      × (lay_sections new_sections (four (four_in s).three (four_in s).readings) ≡ s)
  is-laid = new-is-laid s h.bytes there.good.0

  small : SmallItems reading_section (four_in s).readings
  unfolding four_in lists_of items_of left_over
  small = small-numbers (count_of (readings_part s)) (drop 2 (readings_part s)) (bytes_drop 2 (readings_part s) (bytes_left sheet_sections s h.bytes))

-- the sheet of good lists
sheet-of-good : (l : Lists) (k : ℕ) (e xs : List ℕ) → GoodLists l → GoodList reading_section xs → SmallItems reading_section xs →
    length xs ≡ k → eights xs ≡ e → IsNewSheetOf l k e (lay_sections new_sections (four l xs))
unfolding four_in
sheet-of-good l k e xs g h f m q =
    let s : List ℕ = lay_sections new_sections (four l xs) in
    let w = four-back l xs g h f in
    let i : four_in s ≡ record { three = l; readings = xs } = ap four_named w.1 in
    let n : length e ≡ 8 * k = omega (arith, ap length q, length-eights xs, m) in
    record {
      bytes = bytes-four l xs;
      whole = n;
      reads = λ y m' d o r t.
          let x : Four = record { three = l; readings = xs } in
          let a : read_new_into s (length y) (length m') (length d) (length o) ≡ is x =
          (into-four-decided s (length y) (length m') (length d) (length o)).given
          (w.0, subst (λ (z : Four). HasRoomForFour z (length y) (length m') (length d) (length o)) (sym i) (r, omega (arith, t, n, m)))
          ∙ ap is i
          in
          rw (← q, ← m) (read-new-given s y m' d o x (record { three = counted l; readings = length xs }) refl a);
    }

pub one-new-sheet : Paper.OneNewSheet
one-new-sheet l k e g h i =
    let p = pack k e i in
    let s : List ℕ = lay_sections new_sections (four l p.items) in
    let good : GoodList reading_section p.items = (omega (arith, p.many, h), p.good) in (
      s,
      sheet-of-good l k e p.items g good p.small p.many p.same,
      λ t j.
          let r = is_read l k e t j in
          let x : (four_in t).readings ≡ p.items = items-once (four_in t).readings p.items (small l k e t j) p.small (r.1 ∙ sym p.same) in
          sym (is-laid l k e t j).2
          ∙ ap (λ (z : Lists). lay_sections new_sections (four z (four_in t).readings)) r.0
          ∙ ap (λ (z : List ℕ). lay_sections new_sections (four l z)) x,
    )

-- the item of noughts: all unread, day 0 alone
zero-good : GoodValue reading_section 0
unfolding tested eight_of eight_in number lay in_ranges
zero-good = refl

small-zeros : (k : ℕ) → SmallItems reading_section (replicate k 0)
unfolding SmallItems
small-zeros zero = tt
small-zeros (suc k) = (omega arith, small-zeros k)

pub longest-new-sheet : Paper.LongestNewSheet
unfolding GoodEach
longest-new-sheet =
    record {
      none-longer = λ s e l k h.
          let a = is-laid l k e s h in
          let f = four_in s in
          omega (
            arith,
            ap length a.2,
            length-four f.three f.readings,
            a.0.0.0,
            a.0.1.0.0,
            a.0.1.1.0.0,
            a.1.0,
          );
      one-so-long = full 1000 500 (omega arith) (omega arith);
    }
  where
    full : (n k : ℕ) → n ≤ 1000 → k ≤ 500 →
        (s : List ℕ) × (e : List ℕ) × (l : Lists) × IsNewSheetOf l k e s × (length s ≡ 8 + 2 * n + 4 * n + 4 * n + 14 * k)
    full n k h i =
        let l : Lists = three_lists (replicate n 1) (replicate n 0) (replicate n 0) in
        let xs : List ℕ = replicate k 0 in
        let m : length xs ≡ k = length-replicate {A = ℕ} k 0 in (
          lay_sections new_sections (four l xs),
          eights xs,
          l,
          sheet-of-good l k (eights xs) xs
              (same-items (ranged year_items) 1 n refl h, (same-items (ranged month_items) 0 n refl h, (same-items (ranged day_items) 0 n refl h, tt)))
              (same-items reading_section 0 k zero-good i) (small-zeros k) m refl,
          length-four l xs ∙ rw (length-replicate {A = ℕ} n 1, length-replicate {A = ℕ} n 0, m) refl,
        )

-- each section stands where the one before it ended
module _ (s y m d n y' m' d' n' : List ℕ) (c : FourCounts) (b : AreBytes s) (r : ReadAs s y m d n c y' m' d' n') where
  three : Three s c.three
  three =
      subst (Three s) (sym (ap (λ (c : FourCounts). c.three) r.counts))
      (three-good s (front-and-rest sheet_sections (reading_section ∷ []) s r.good.0).0)

  part : readings_part s ≡ drop (readings_from c) s
  part = let e : bytes_of c.three ≡ readings_from c = omega arith in three.next ∙ ap (λ (i : ℕ). drop i s) e

  fourth : GoodSections (reading_section ∷ []) (readings_part s)
  fourth = (front-and-rest sheet_sections (reading_section ∷ []) s r.good.0).1

  many : c.readings ≡ count_of (readings_part s)
  many = ap (λ (c : FourCounts). c.readings) r.counts

  long : 2 + 14 * c.readings ≤ length (readings_part s)
  unfolding GoodSections
  long = omega (arith, section-long reading_section (readings_part s) fourth.0, many)

  ends : length s ≡ readings_from c + 2 + 14 * c.readings
  unfolding GoodSections left_after
  ends =
      omega (
        arith,
        long,
        many,
        fourth.1,
        length-drop (2 + 14 * count_of (readings_part s)) (readings_part s),
        ap length part,
        length-drop (readings_from c) s,
        three.long,
      )

  by_number : Paper.ReadNewByItem s c y' m' d' n'
  unfolding four_in lists_of left_after left_over
  by_number =
      let ey : c.three.years ≡ count_of s = ap (λ (k : FourCounts). k.three.years) r.counts in
      let em : c.three.months ≡ count_of (months_part s) = ap (λ (k : FourCounts). k.three.months) r.counts in
      let ed : c.three.days ≡ count_of (days_part s) = ap (λ (k : FourCounts). k.three.days) r.counts in
      let fm : months_part s ≡ drop (months_from c.three) s = ap (λ (n : ℕ). drop (2 + 2 * n) s) (sym ey) in
      let fd : days_part s ≡ drop (days_from c.three) s =
      ap (λ (n : ℕ). drop (2 + 4 * n) (months_part s)) (sym em)
      ∙ ap (drop (2 + 4 * c.three.months)) fm
      ∙ drop-drop (2 + 4 * c.three.months) (months_from c.three) s
      in
      let f = r.readings.list in
      let from = readings_from c in
      let t = readings_part s in
      record {
        years = stands_at (ranged year_items) s s y y' 0 c.three.years refl ey r.years;
        months = stands_at (ranged month_items) s (months_part s) m m' (months_from c.three) c.three.months fm em r.months;
        days = stands_at (ranged day_items) s (days_part s) d d' (days_from c.three) c.three.days fd ed r.days;
        count = ap (number 2) (sym part) ∙ sym many;
        field = field_at s t n n' from c.readings b part many long f;
        first = first-at s t n n' from c.readings b part many long f;
        last = last-at s t n n' from c.readings b part many long f;
        end = ends;
      }

pub number-by-number : Paper.NumberByNumber
number-by-number s y m d n y' m' d' n' c b p = by_number s y m d n y' m' d' n' c b (read_as_lem s y m d n y' m' d' n' c p)
