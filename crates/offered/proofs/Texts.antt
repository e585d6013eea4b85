-- Four texts that the calls print, for the wrong versions: how long each is, and that it does not begin with a nought.
-- Assumes nothing.
use Prim.Native.Nat.{ℕ, ◌<◌, ◌≤◌}
use native.Mathlib.Omega.{arith}
use mathlib.Core.Path.{◌≡◌, refl, ap, sym, ◌∙◌}
use mathlib.Core.Logic.{◌≢◌}
use mathlib.Core.List.{List}
use lib.Dec.{leb}
use lib.ListN.{length, get_or, drop, get_or-append}
use borrow.Author.Tests.{le-leb}
use Rattle.rule.specs.Lists.{placed}
use Rattle.rule.specs.Reasons.{Answer, is, and_then, into_room, afterwards}
use Rattle.rule.proofs.Answers.{passes}
use Rattle.fields.specs.Fields.{digits, decimal, followed, each}
use Rattle.penned.specs.Lines.{year_block, month_lined, month_item, day_item}
use Rattle.penned.specs.Promises.{year_block_at, month_line_at, month_item_at, day_item_at}
use Rattle.offered.specs.declared.CLength.{CLength}
use Rattle.offered.specs.Flat.{given_length, flat_length}
use Rattle.offered.specs.Promises.{CPrinted}
use Rattle.rule.proofs.Computing.{rule-computed}
use Rattle.dates.proofs.Computing.{dates-computed}
use Rattle.facts.proofs.Computing.{facts-computed}

-- what is printed into any room is a text of n bytes, the first of which is no nought
pub record Text (a : ℕ → Answer (List ℕ)) (n : ℕ) : Type 0 where
  text : List ℕ
  into : (k : ℕ) → a k ≡ into_room k text
  has : length text ≡ n
  begins : get_or text 0 0 ≢ 0

module _ {a : ℕ → Answer (List ℕ)} {n : ℕ} (t : Text a n) (o : List ℕ) (h : n ≤ length o) where
  with-room : a (length o) ≡ is t.text
  with-room = t.into (length o) ∙ passes (leb (length t.text) (length o)) 12 (is t.text) (le-leb (length t.text) (length o) (omega (arith, t.has)))

  pub text-said : {r : CLength} {o' : List ℕ} → CPrinted (a (length o)) o r o' → r ≡ given_length (length t.text)
  text-said p = p.answer ∙ ap (λ (c : Answer (List ℕ)). flat_length (and_then c (λ b. is (length b)))) with-room

  text-placed : {r : CLength} {o' : List ℕ} → CPrinted (a (length o)) o r o' → o' ≡ placed t.text o
  text-placed p = p.buffer ∙ ap (λ (c : Answer (List ℕ)). afterwards c (λ b. b) o) with-room

  pub unwritten : {r : CLength} → 0 < n → get_or o 0 0 ≡ 0 → CPrinted (a (length o)) o r o → ⊥
  unwritten l z p =
      t.begins
      (sym (get_or-append t.text (drop (length t.text) o) 0 0 (omega (arith, t.has))) ∙ ap (λ (b : List ℕ). get_or b 0 0) (sym (text-placed p)) ∙ z)

-- what a line is computed with: on an `unfolding` line such a name brings all that its own line names
lines : ℕ
unfolding digits decimal followed rule-computed
lines = 0

pub year-11 : Text (year_block_at 11) 236
unfolding year_block_at year_block month_lined each lines facts-computed
year-11 = record { text = year_block 11; into = λ k. refl; has = refl; begins = λ e. let f : ◌≡◌ {A = ℕ} 89 0 = e in omega arith }

pub line-134 : Text (month_line_at 134) 16
unfolding month_line_at month_lined lines facts-computed
line-134 = record { text = month_lined 134; into = λ k. refl; has = refl; begins = λ e. let f : ◌≡◌ {A = ℕ} 49 0 = e in omega arith }

pub month-134 : Text (month_item_at 134) 22
unfolding month_item_at month_item lines facts-computed
month-134 = record { text = month_item 134; into = λ k. refl; has = refl; begins = λ e. let f : ◌≡◌ {A = ℕ} 77 0 = e in omega arith }

pub day-0 : Text (day_item_at 0) 17
unfolding day_item_at day_item lines dates-computed
day-0 = record { text = day_item 0; into = λ k. refl; has = refl; begins = λ e. let f : ◌≡◌ {A = ℕ} 68 0 = e in omega arith }
