-- What a public call says of capped numbers, for the numbers themselves: each call's own, in the words of its contract.
-- Assumes nothing.
use Rattle.emending.specs.declared.Emended.{Emended}
use Rattle.emending.specs.declared.Emended.TheVariants.{Are}
use Rattle.reading.specs.declared.SearchError.{SearchError}
use Rattle.std.specs.Prelude.{Result}
use Rattle.rule.specs.declared.Reason.{Reason}
use Prim.Native.Nat.{ℕ, ◌*◌}
use native.Mathlib.Omega.{arith}
use mathlib.Core.Path.{◌≡◌, ap, ap₂, sym, ◌∙◌}
use mathlib.Core.Bool.{Bool}
use mathlib.Core.List.{List}
use lib.Dec.{leb}
use lib.IntN.{ℤ}
use lib.ListN.{length}
use Rattle.rule.specs.Reasons.{said, Answer, is, refused, guard-with, into_room, afterwards}
use Rattle.dates.specs.Dates.{day_of_date}
use Rattle.moves.specs.Moves.{moved}
use Rattle.reading.specs.declared.Reading.{Reading}
use Rattle.reading.specs.Search.{total, where_good, said_found, Searched}
use Rattle.emending.specs.Emended.{emend_total, where_none_fits, emend_at, EmendsReading}
use Rattle.penned.specs.Lines.{year_block, month_lined, month_item, day_item}
use Rattle.penned.specs.Promises.{year_block_at, month_line_at, month_item_at, day_item_at, Printed}
use Rattle.capped.specs.Capped.{capped, capped_reading}
use Rattle.capped.specs.Paper.{AlikeSearch, whole, both}
use Rattle.capped.proofs.Paper.{behind-a-test, at_most, capped-alike, capped-search, search-refused}
use Rattle.offered.specs.declared.CFound.{CFound}
use Rattle.offered.specs.declared.CEmended.{CEmended}
use Rattle.offered.specs.declared.CLength.{CLength}
use Rattle.offered.specs.Flat.{flat_found, flat_emended, flat_length}
use Rattle.offered.specs.declared.CReading.{CReading}
use Rattle.offered.specs.Promises.{reading_of, CSearch, CEmendsReading, CPrinted}

-- an answer of one number, and of two, that is the same of capped ones: what is said of these, laid flat
pub asked-one :
    {A R : Type 0} (laid : Answer A → R) (f : ℕ → Answer A) → ((n : ℕ) → f (capped n) ≡ f n) →
    {a n : ℕ} {s : Answer A} {r : R} → a ≡ capped n → s ≡ f a → r ≡ laid s → r ≡ laid (f n)
asked-one laid f h {n = n} e p q = q ∙ ap laid (p ∙ ap f e ∙ h n)

pub asked-two :
    {A R : Type 0} (laid : Answer A → R) (f : ℕ → ℕ → Answer A) → ((n m : ℕ) → f (capped n) (capped m) ≡ f n m) →
    {a b n m : ℕ} {s : Answer A} {r : R} → a ≡ capped n → b ≡ capped m → s ≡ f a b → r ≡ laid s → r ≡ laid (f n m)
asked-two laid f h {n = n} {m} d e p q = q ∙ ap laid (p ∙ ap₂ f d e ∙ h n m)

-- a date asked for
module _ (y k : ℕ) (l : Bool) (m : ℕ) {a b c : ℕ} (p : a ≡ capped y) (q : b ≡ capped k) (r : c ≡ capped m) where
  pub day-asked : day_of_date a b l c ≡ day_of_date y k l m
  day-asked = rw (p, q, r) (capped-alike.day y k l m)

  pub move-asked : (n : ℤ) → moved a b l c n ≡ moved y k l m n
  move-asked n = rw (p, q, r) (capped-alike.move y k l m n)

-- two answers refused with the same reason: the list is as it was after both, whatever each would have filled it with
list-alike :
    {A : Type 0} (x y : Answer A) (k : ℕ) (f g : A → List ℕ) (old : List ℕ) {new : List ℕ} →
    x ≡ refused k → y ≡ refused k → new ≡ afterwards x f old → new ≡ afterwards y g old
list-alike {A} x y k f g old p q l = l ∙ ap (λ (a : Answer A). afterwards a f old) p ∙ sym (ap (λ (a : Answer A). afterwards a g old) q)

-- an emendation whose tests fail, whatever list is lent
emend-refused :
    (r : Reading) (first last k : ℕ) → ((A : Type 0) (a : Answer A) → where_good r first last a ≡ refused k) → (room : ℕ) →
    emend_at r first last room ≡ refused k
unfolding emend_at
emend-refused r first last k h room =
    let n = emend_total r first last in
    h Emended (where_none_fits (total r first last) (guard-with (leb (4 * n) room) 12 n (is (Are n))))

-- a search and an emendation: nothing was cut down, or both are refused with the same reason and the list is as it was
module _ (r : Reading) (first last : ℕ) (old new : List ℕ) where
  search-alike :
      (f : Result ℕ SearchError) → AlikeSearch r first last → Searched (capped_reading r) (capped first) (capped last) old f new → Searched r first last old f new
  search-alike f (whole e p q) s = rw (e, p, q) at s
  search-alike f (both k g h) s =
      let x = search-refused (capped_reading r) (capped first) (capped last) k g (length old) in
      let y = search-refused r first last k h (length old) in
      record { answered = s.answered ∙ x ∙ sym y; lent = list-alike _ _ k _ _ old x y s.lent }

  emend-alike :
      (f : Result Emended SearchError) → AlikeSearch r first last → EmendsReading (capped_reading r) (capped first) (capped last) old f new →
      EmendsReading r first last old f new
  emend-alike f (whole e p q) s = rw (e, p, q) at s
  emend-alike f (both k g h) s =
      let x = emend-refused (capped_reading r) (capped first) (capped last) k g (length old) in
      let y = emend-refused r first last k h (length old) in
      record { answered = s.answered ∙ x ∙ sym y; lent = list-alike _ _ k _ _ old x y s.lent }

pub search-asked :
    (c : CReading) (first last : ℕ) {r : Reading} {a b : ℕ} {old new : List ℕ} {f : Result ℕ SearchError} {x : CFound} →
    r ≡ capped_reading (reading_of c) → a ≡ capped first → b ≡ capped last → Searched r a b old f new →
    x ≡ flat_found (said_found f) → CSearch c first last old x new
search-asked c first last {old = old} {new} {f} e p q s t =
    let r = reading_of c in
    let g = search-alike r first last old new f (capped-search r first last) (rw (e, p, q) at s) in
    record { answer = t ∙ ap flat_found g.answered; lent = g.lent }

pub emend-asked :
    (c : CReading) (first last : ℕ) {r : Reading} {a b : ℕ} {old new : List ℕ} {f : Result Emended SearchError} {x : CEmended} →
    r ≡ capped_reading (reading_of c) → a ≡ capped first → b ≡ capped last → EmendsReading r a b old f new →
    x ≡ flat_emended (said_found f) → CEmendsReading c first last old x new
emend-asked c first last {old = old} {new} {f} e p q s t =
    let r = reading_of c in
    let g = emend-alike r first last old new f (capped-search r first last) (rw (e, p, q) at s) in
    record { answer = t ∙ ap flat_emended g.answered; lent = g.lent }

-- bytes printed of a number, said flat
pub printed-asked :
    (f : ℕ → ℕ → Answer (List ℕ)) → ((n x : ℕ) → f (capped x) n ≡ f x n) →
    {a x : ℕ} {o o' : List ℕ} {h : Result ℕ Reason} {r : CLength} →
    a ≡ capped x → Printed (f a (length o)) o h o' → r ≡ flat_length (said h) → CPrinted (f x (length o)) o r o'
printed-asked f alike {x = x} {o} e p t =
    let q = rw (e, alike (length o) x) at p in
    record { answer = t ∙ ap flat_length q.answer; buffer = q.buffer }

-- what is printed of a capped number
pub year-printed : (n : ℕ) (y : ℕ) → year_block_at (capped y) n ≡ year_block_at y n
unfolding year_block_at
year-printed n y = behind-a-test (List ℕ) _ (at_most 41040 (omega arith)) 1 (λ i. into_room n (year_block i)) y

pub line-printed : (n : ℕ) (m : ℕ) → month_line_at (capped m) n ≡ month_line_at m n
unfolding month_line_at
line-printed n m = behind-a-test (List ℕ) _ (at_most 507599 (omega arith)) 7 (λ i. into_room n (month_lined i)) m

pub month-printed : (n : ℕ) (m : ℕ) → month_item_at (capped m) n ≡ month_item_at m n
unfolding month_item_at
month-printed n m = behind-a-test (List ℕ) _ (at_most 507599 (omega arith)) 7 (λ i. into_room n (month_item i)) m

pub day-printed : (n : ℕ) (d : ℕ) → day_item_at (capped d) n ≡ day_item_at d n
unfolding day_item_at
day-printed n d = behind-a-test (List ℕ) _ (at_most 14989859 (omega arith)) 6 (λ i. into_room n (day_item i)) d
