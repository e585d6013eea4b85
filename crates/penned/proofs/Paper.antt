-- The statements of specs/Paper, proved, each under its own name. Assumes nothing.
use Rattle.std.specs.Prelude.{Result, Ok, Err}
use Rattle.rule.proofs.Answers.{said-once}
use Prim.Native.Nat.{ℕ, ◌≤◌, ◌<◌}
use native.Mathlib.Omega.{arith}
use mathlib.Core.Path.{◌≡◌, refl, ap, ap₂, sym, ◌∙◌, subst}
use mathlib.Core.Bool.{Bool, true}
use mathlib.Core.List.{List, [], ◌∷◌, ◌++◌, append_assoc}
use mathlib.Core.Logic.Iff
use mathlib.Core.Logic.{◌↔◌, inl, inr, ⊎_elim}
use lib.Dec.{leb}
use lib.ListN.{length, get_or}
use borrow.Author.Tests.{leb-true}
use Rattle.rule.specs.Rule.{month_of_day}
use Rattle.rule.specs.Lists.{placed}
use Rattle.rule.specs.Reasons.{Answer, is, refused, guard, and_then, reason_number, into_room, afterwards}
use Rattle.rule.specs.declared.Reason.{Reason}
use Rattle.rule.specs.declared.Reason.TheVariants.{NoSuchYear, NoSuchMonth, NoSuchDay, LentTooShort}
use Rattle.rule.proofs.Leap.{mark-at, number_at}
use Rattle.rule.proofs.Answers.{reason-back, holds-all, at_most, two-given, two-first, two-second, given-not, two-only}
use Rattle.dates.specs.Dates.{date_in, date_of}
use Rattle.facts.specs.Facts.{month_facts, year_facts}
use Rattle.sheet.specs.Promises.{RestKept}
use Rattle.sheet.proofs.Deciding.{made_of, refused-of}
use Rattle.sheet.proofs.Reading.{reading}
use Rattle.sheet.proofs.Places.{unlike, InFront, rest-kept}
use Rattle.fields.specs.Fields.{followed, joined, each}
use Rattle.penned.specs.Lines.{
  fields_of_year,
  month_line,
  month_lined,
  months_listed,
  year_block,
  month_item,
  day_item,
  refused_line,
  listing_of,
  printed,
  listing,
}
use Rattle.fields.proofs.Paper.{first-tells}
use Rattle.penned.specs.Promises.{year_block_at, month_line_at, month_item_at, day_item_at, Printed}
use Rattle.penned.specs.Paper.{in_lines}
use Rattle.penned.proofs.Cases.{year-lines, year-11, line-134, month-134, day-0, year-0}
use Rattle.penned.proofs.Refusing.{printed-refused}
use Rattle.penned.specs.Paper as Paper

pub example-of-the-paper : Paper.ExampleOfThePaper
unfolding listing listing_of year-lines reading
example-of-the-paper = refl

pub empty-listing : Paper.EmptyListing
unfolding listing listing_of reading each
empty-listing = refl

pub refused-listing : Paper.RefusedListing
unfolding listing refused_line followed
refused-listing s k e = ap printed e

pub listing-in-order : Paper.ListingInOrder
unfolding listing listing_of
listing-in-order s l e = ap printed e

pub month-line-literally : Paper.MonthLineLiterally
unfolding month_line month_facts followed
month-line-literally n = rw (number_at n, mark-at n) refl

pub with_newline : (n : ℕ) → month_lined n ≡ month_line n ++ (10 ∷ [])
unfolding month_lined month_line
with_newline n = refl

each_same : (f g : ℕ → List ℕ) → ((n : ℕ) → f n ≡ g n) → (xs : List ℕ) → each f xs ≡ each g xs
unfolding each
each_same f g h [] = refl
each_same f g h (x ∷ xs) = ap₂ ◌++◌ (h x) (each_same f g h xs)

pub year-block-literally : Paper.YearBlockLiterally
unfolding year_block year_facts followed
year-block-literally y =
    append_assoc (joined (fields_of_year y (year_facts y))) (10 ∷ []) (each month_lined (months_listed (year_facts y)))
    ∙ ap (λ (l : List ℕ). joined (fields_of_year y (year_facts y)) ++ (10 ∷ l))
    (each_same month_lined (λ n. month_line n ++ (10 ∷ [])) with_newline (months_listed (year_facts y)))

pub month-and-such-a-line : Paper.MonthAndSuchALine
unfolding month_item month_line followed
month-and-such-a-line n = refl

pub day-line-literally : Paper.DayLineLiterally
unfolding day_item date_of date_in followed
day-line-literally d = rw (number_at (month_of_day d), mark-at (month_of_day d)) refl

pub two-months-two-lines : Paper.TwoMonthsTwoLines
two-months-two-lines n m e = first-tells n m _ _ (sym (month-line-literally n) ∙ e ∙ month-line-literally m)

-- an answered call: the whole text, in a buffer with room for it
module _ (t : Bool) (k : ℕ) (text o : List ℕ) where
  abbrev in_room : Answer (List ℕ)
  in_room = guard t k (into_room (length o) text)

  pub text-given : {n : ℕ} {o' : List ℕ} → Printed in_room o (Ok n) o' → in_room ≡ is text
  text-given {n} p =
      let w = made_of in_room length n p.answer in
      let r = (holds-all t k (into_room (length o) text) w.0).0 w.1 in
      w.1 ∙ sym ((holds-all (leb (length text) (length o)) 12 (is text) w.0).0 r.1).1

  pub text_in-front : (o' : List ℕ) (n : ℕ) → Printed in_room o (Ok n) o' → RestKept n o o'
  text_in-front o' n p =
      let g = text-given p in
      let r = (holds-all t k (into_room (length o) text) text).0 g in
      let e : ◌≡◌ {A = Answer ℕ} (is n) (is (length text)) = p.answer ∙ ap (λ (a : Answer (List ℕ)). and_then a (λ b. is (length b))) g in
      let f : InFront n text o o' =
      record {
        room = leb-true (length text) (length o) ((holds-all (leb (length text) (length o)) 12 (is text) text).0 r.1).0;
        count = cc;
        list = p.buffer ∙ ap (λ (a : Answer (List ℕ)). afterwards a (λ b. b) o) g;
      }
      in
      rest-kept f

pub rest-untouched : Paper.RestUntouched
unfolding year_block_at month_line_at month_item_at day_item_at
rest-untouched =
    record {
      year = λ y o. text_in-front (leb y _) 1 (year_block y) o;
      month-line = λ n o. text_in-front (leb n _) 7 (month_lined n) o;
      month = λ n o. text_in-front (leb n _) 7 (month_item n) o;
      day = λ d o. text_in-front (leb d _) 6 (day_item d) o;
    }

-- each reason if and only if, of any call that refuses for one reason and then for want of room
refusal : (a : Answer (List ℕ)) (o : List ℕ) (why : Reason) → Printed a o (Err why) o ↔ (a ≡ refused (reason_number why))
refusal a o why = (λ p. refused-of a length (reason_number why) p.answer, printed-refused o why)

pub of-text : {There : Type 0} (t : Bool) (why : Reason) → (reason_number why ≡ 12 → ⊥) → (text o : List ℕ) → ((t ≡ true) ↔ There) →
    Paper.PrintReasons There why text o (Printed (guard t (reason_number why) (into_room (length o) text)) o)
of-text t why l text o e =
    let k : ℕ = reason_number why in
    let s : Bool = leb (length text) (length o) in
    let f = at_most (length text) (length o) in
    record {
      absent = Iff.trans (refusal (guard t k (into_room (length o) text)) o why) (two-first t s k 12 l text e f);
      short = Iff.trans (refusal (guard t k (into_room (length o) text)) o LentTooShort) (two-second t s k 12 l text e f);
      only = λ other o' p.
          let r = refused-of _ length (reason_number other) p.answer in
          ⊎_elim (λ e. inl (e ∙ reason-back why)) inr (two-only other t s k 12 text (sym r));
      given = Iff.trans (text-given t k text o, λ h. record { answer = rw (h); buffer = rw (h) }) (two-given t s k 12 l text e f);
    }

pub reasons-of-printing : Paper.ReasonsOfPrinting
unfolding year_block_at month_line_at month_item_at day_item_at
reasons-of-printing =
    record {
      year = λ y o. of-text (leb y _) NoSuchYear (omega arith) (year_block y) o (to y (omega arith));
      month-line = λ m o. of-text (leb m _) NoSuchMonth (omega arith) (month_lined m) o (to m (omega arith));
      month = λ m o. of-text (leb m _) NoSuchMonth (omega arith) (month_item m) o (to m (omega arith));
      day = λ d o. of-text (leb d _) NoSuchDay (omega arith) (day_item d) o (to d (omega arith));
    }
  where
    -- the range that is tested is the range that is said
    to : (x : ℕ) {k n : ℕ} → k ≡ n → (leb x k ≡ true) ↔ (x ≤ n)
    to x {k} e = subst (λ (n : ℕ). (leb x k ≡ true) ↔ (x ≤ n)) e (at_most x k)

-- whatever the answer is that was to be printed
pub printed-kept : (a : Answer (List ℕ)) (o o' : List ℕ) (why : Reason) → Printed a o (Err why) o' → o' ≡ o
printed-kept a o o' why p =
    p.buffer ∙ ap (λ (c : Answer (List ℕ)). afterwards c (λ b. b) o) (refused-of a length (reason_number why) p.answer)

pub refusal-changes-nothing : Paper.RefusalChangesNothing
refusal-changes-nothing =
    record {
      year = λ y o. printed-kept (year_block_at y (length o)) o;
      month-line = λ n o. printed-kept (month_line_at n (length o)) o;
      month = λ n o. printed-kept (month_item_at n (length o)) o;
      day = λ d o. printed-kept (day_item_at d (length o)) o;
    }

pub printed-once :
    (x : Answer (List ℕ)) (o : List ℕ) (a b : Result ℕ Reason) (o₁ o₂ : List ℕ) →
    Printed x o a o₁ → Printed x o b o₂ → (a ≡ b) × (o₁ ≡ o₂)
printed-once x o a b o₁ o₂ p q = (said-once a b (p.answer ∙ sym q.answer), p.buffer ∙ sym q.buffer)

pub unique-printing : Paper.UniquePrinting
unique-printing =
    record {
      year = λ y o. printed-once (year_block_at y (length o)) o;
      month-line = λ n o. printed-once (month_line_at n (length o)) o;
      month = λ n o. printed-once (month_item_at n (length o)) o;
      day = λ d o. printed-once (day_item_at d (length o)) o;
    }

-- what is given at a named input: a refusal is shut out, and so is a buffer that differs from it at a place
pub not-refused : {a : Answer (List ℕ)} {text o o' : List ℕ} {why : Reason} → a ≡ is text → Printed a o (Err why) o' → ⊥
not-refused {a} {text} {why = why} e p = given-not a text (reason_number why) e (refused-of a length (reason_number why) p.answer)

pub not_so : {a : Answer (List ℕ)} {text o o' : List ℕ} {r : Result ℕ Reason} (i x z : ℕ) → a ≡ is text → Printed a o r o' →
    get_or o' i 0 ≡ x → get_or (placed text o) i 0 ≡ z → x < z → ⊥
not_so {o = o} i x z e p f g l = unlike i x z (p.buffer ∙ ap (λ (c : Answer (List ℕ)). afterwards c (λ s. s) o) e) f g l

pub wrong-printings : Paper.WrongPrintings
unfolding in_lines
wrong-printings =
    record {
      year-refused = λ why o p. not-refused year-11 p;
      year-0-refused = λ why o p. not-refused year-0 p;
      year-unwritten = λ a p. not_so 0 0 89 year-11 p refl refl (omega arith);
      header-alone = λ a p. not_so 26 0 49 year-11 p refl refl (omega arith);
      month-line-refused = λ why o p. not-refused line-134 p;
      month-line-unwritten = λ a p. not_so 0 0 49 line-134 p refl refl (omega arith);
      month-refused = λ why o p. not-refused month-134 p;
      month-unwritten = λ a p. not_so 0 0 77 month-134 p refl refl (omega arith);
      day-refused = λ why o p. not-refused day-0 p;
      day-unwritten = λ a p. not_so 0 0 68 day-0 p refl refl (omega arith);
    }
