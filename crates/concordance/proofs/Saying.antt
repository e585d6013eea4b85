-- What the number of a line's verdict says of the line; every line that is printed is right. Assumes nothing.
use Rattle.std.proofs.Common.{◌≡◌, ℕ, zero, suc, ◌+◌, ◌<◌, ◌≤◌, Bool, true, false, cond, leb, ◌⊎◌, List, [], ◌∷◌, length, sym, refl, ap, ◌∙◌, subst, inl, inr, arith, leb-false, leb-true}
use Rattle.rule.specs.Counts.{MonthInRange, day_name}
use Rattle.rule.specs.Rule.{number_of, leap_mark}
use Rattle.rule.proofs.Leap.{number_at, number-range}
use Rattle.rule.proofs.Months.{length-range}
use Rattle.facts.specs.Facts.{month_facts}
use Rattle.fields.specs.Fields.{word, decimal, mark, joined, letter_l, letter_e}
use Rattle.fields.proofs.Paper.{decimal-reads-back}
use Rattle.fields.proofs.Decimals.{decimal-short}
use Rattle.forms.specs.Forms.{fields_in, field_at}
use Rattle.forms.specs.Paper.{NoSpace, no_text, text-more}
use Rattle.forms.proofs.Spaces.{joined-fields, decimal-no-space, sign}
use Rattle.penned.specs.Lines.{month_line}
use Rattle.concordance.specs.Verdicts.{field_number, field_counted, readable, count_in, first_wrong, printed_fields, verdict_of, verdict_number, number_on}
use Rattle.concordance.specs.declared.LineField.{LineField}
use Rattle.concordance.specs.declared.LineField.TheVariants.{MonthCount, Number, LeapMark, FirstName, Length, EclipseMark}
use Rattle.concordance.specs.declared.Verdict.{Verdict}
use Rattle.concordance.specs.declared.Verdict.TheVariants.{Wrong, Unreadable}
use Rattle.concordance.specs.Paper.{Digits, CanBeRead, fields_of, count_of, FirstThatDiffers, WrongIn, out_of_range, differs, Says}
use Rattle.concordance.proofs.Literally.{can-be-read, fields-are, is-readable, count-is, Found, agree, differ, found}

-- the fields of a printed line are those that are printed
mark-no-space : (b : Bool) (l : ℕ) → (l ≡ 32 → ⊥) → NoSpace (mark b l ∷ [])
mark-no-space true l n = sign l n
mark-no-space false l n = sign 45 (λ i. omega (arith, i))

line-fields : (n : ℕ) → fields_in (month_line n) ≡ printed_fields n
unfolding month_line
line-fields n =
    joined-fields (decimal n) _
    (text-more (decimal-no-space n)
    (text-more (decimal-no-space (number_of (month_facts n).month))
    (text-more (mark-no-space (leap_mark (month_facts n).month) letter_l (λ i. omega (arith, i)))
    (text-more (decimal-no-space (month_facts n).first_name)
    (text-more (decimal-no-space (month_facts n).month_length)
    (text-more (mark-no-space (month_facts n).eclipse letter_e (λ i. omega (arith, i))) no_text))))))

line-joined : (n : ℕ) → joined (printed_fields n) ≡ month_line n
unfolding month_line
line-joined n = refl

-- each of the six is counted
number-counted : (j : ℕ) → j < 6 → field_number (field_counted (1 + j)) ≡ 1 + j
number-counted zero h = refl
number-counted (suc zero) h = refl
number-counted (suc (suc zero)) h = refl
number-counted (suc (suc (suc zero))) h = refl
number-counted (suc (suc (suc (suc zero)))) h = refl
number-counted (suc (suc (suc (suc (suc zero))))) h = refl
number-counted (suc (suc (suc (suc (suc (suc j)))))) h = absurd (omega (arith, h))

-- the first that differs is one
first_one : {k : ℕ} {fs gs : List (List ℕ)} → FirstThatDiffers k fs gs → (j : ℕ) → (field_at fs j ≡ field_at gs j → ⊥) → ((i : ℕ) → i < j → field_at fs i ≡ field_at gs i) → k ≡ suc j
first_one d j n a =
    let e = d.counted in
    let p : d.place < j → ⊥ = λ l. d.differs (a d.place l) in
    let q : j < d.place → ⊥ = λ l. n (d.earlier j l) in
    e ∙ ap suc (omega (arith, p, q))

module _ (l : List ℕ) where
  abbrev n : ℕ
  n = count_in l

  abbrev gs : List (List ℕ)
  gs = printed_fields n

  -- of any reading of the line
  in-range : (r : CanBeRead l) → MonthInRange (count_of r) → n ≤ 507599
  in-range r h = rw (count-is r) h

  printed-same : (r : CanBeRead l) → printed_fields (count_of r) ≡ gs
  printed-same r = ap printed_fields (sym (count-is r))

  as_first : {k : ℕ} (r : CanBeRead l) → FirstThatDiffers k (fields_of r) (printed_fields (count_of r)) → FirstThatDiffers k (fields_in l) gs
  as_first {k} r d =
      subst (λ (fs : List (List ℕ)). FirstThatDiffers k fs gs) (sym (fields-are r))
      (subst (λ (hs : List (List ℕ)). FirstThatDiffers k (fields_of r) hs) (printed-same r) d)

  from_first : {k : ℕ} (r : CanBeRead l) → FirstThatDiffers k (fields_in l) gs → FirstThatDiffers k (fields_of r) (printed_fields (count_of r))
  from_first {k} r d =
      subst (λ (fs : List (List ℕ)). FirstThatDiffers k fs (printed_fields (count_of r))) (fields-are r)
      (subst (λ (hs : List (List ℕ)). FirstThatDiffers k (fields_in l) hs) (sym (printed-same r)) d)

  as-printed : (r : CanBeRead l) → l ≡ month_line (count_of r) → fields_in l ≡ gs
  as-printed r e = ap fields_in e ∙ (line-fields (count_of r) ∙ printed-same r)

  -- a line that cannot be read
  says-7 : readable l ≡ false → (v : ℕ) → v ≡ 7 → Says l v
  says-7 e v h =
      let none : CanBeRead l → ⊥ = λ r. let i : true ≡ false = sym (is-readable r) ∙ e in let o : ◌≡◌ {A = ℕ} 0 1 = cc in omega arith in
      record {
        unreadable = (λ z. none, λ z. h);
        right = (λ z. absurd (omega (arith, z, h)), λ z. absurd (none z.0));
        wrong = λ k. (λ z. absurd (let a = z.0 in let b = z.2 in omega (arith, a, b, h)), λ z. absurd (none z.0));
        most = omega (arith, h);
      }

  module _ (r : CanBeRead l) where
    -- a count out of range
    says-1 : (n ≤ 507599 → ⊥) → (v : ℕ) → v ≡ 1 → Says l v
    says-1 out v h =
        record {
          unreadable = (λ z. absurd (omega (arith, z, h)), λ z. absurd (z r));
          right = (λ z. absurd (omega (arith, z, h)), λ z. absurd (out (in-range z.0 z.1)));
          wrong = λ k. (λ z. (r, out_of_range (λ i. out (in-range r i)) (sym z.0 ∙ h)), λ z. back k z.0 z.1);
          most = omega (arith, h);
        }
      where
        back : (k : ℕ) (s : CanBeRead l) → WrongIn k s → (v ≡ k) × (1 ≤ k) × (k ≤ 6)
        back k s (out_of_range i e) = (h ∙ sym e, omega (arith, e), omega (arith, e))
        back k s (differs i d) = absurd (out (in-range s i))

    module _ (there : n ≤ 507599) where
      here : MonthInRange (count_of r)
      here = rw (sym (count-is r)) there

      says-found : (v : ℕ) (w : Verdict) → v ≡ verdict_number w → length (fields_in l) ≡ 6 → Found 1 (fields_in l) gs w → Says l v
      says-found v w h six (agree e i) =
          let z0 : v ≡ 0 = h ∙ ap verdict_number i in
          record {
            unreadable = (λ z. absurd (omega (arith, z, z0)), λ z. absurd (z r));
            right = (λ z. (r, here, r.six ∙ (ap joined (sym (fields-are r) ∙ (e ∙ sym (printed-same r))) ∙ line-joined (count_of r))), λ z. z0);
            wrong = λ k. (λ z. absurd (let a = z.0 in let b = z.1 in omega (arith, a, b, z0)), λ z. absurd (back k z.0 z.1));
            most = omega (arith, z0);
          }
        where
          back : (k : ℕ) (s : CanBeRead l) → WrongIn k s → ⊥
          back k s (out_of_range i q) = i (rw (sym (count-is s)) there)
          back k s (differs i d) = let d' : FirstThatDiffers k (fields_in l) gs = as_first s d in d'.differs (ap (λ (fs : List (List ℕ)). field_at fs d'.place) e)
      says-found v w h six (differ j i m d a) =
          let z1 : v ≡ 1 + j = h ∙ ap verdict_number i ∙ number-counted j (omega (arith, m, six)) in
          record {
            unreadable = (λ z. absurd (omega (arith, z, z1, m, six)), λ z. absurd (z r));
            right = (λ z. absurd (omega (arith, z, z1)), λ z. absurd (d (ap (λ (fs : List (List ℕ)). field_at fs j) (as-printed z.0 z.2))));
            wrong = λ k. (
              λ z. (r, differs here (from_first r (record { place = j; counted = let q = z.0 in omega (arith, q, z1); six = omega (arith, m, six); differs = d; earlier = a }))),
              λ z. back k z.0 z.1,
            );
            most = omega (arith, z1, m, six);
          }
        where
          back : (k : ℕ) (s : CanBeRead l) → WrongIn k s → (v ≡ k) × (1 ≤ k) × (k ≤ 6)
          back k s (out_of_range q e) = absurd (q (rw (sym (count-is s)) there))
          back k s (differs q b) =
              let e : k ≡ suc j = first_one (as_first s b) j d a in
              let z1 : v ≡ 1 + j = h ∙ ap verdict_number i ∙ number-counted j (omega (arith, m, six)) in
              (omega (arith, e, z1), omega (arith, e), omega (arith, e, m, six))

  pub says : Says l (number_on l)
  unfolding verdict_of
  says = go (readable l) refl
    where
      read : (r : CanBeRead l) (t : Bool) → leb n 507599 ≡ t → Says l (verdict_number (cond t (first_wrong 1 (fields_in l) gs) (Wrong MonthCount)))
      read r true e = says-found r (leb-true n 507599 e) _ (first_wrong 1 (fields_in l) gs) refl (ap length (fields-are r)) (found 1 (fields_in l) gs (ap length (fields-are r)))
      read r false e = says-1 r (λ i. omega (arith, i, leb-false n 507599 e)) 1 refl

      go : (t : Bool) → readable l ≡ t → Says l (verdict_number (cond t (cond (leb n 507599) (first_wrong 1 (fields_in l) gs) (Wrong MonthCount)) Unreadable))
      go true e = read (can-be-read l e) (leb n 507599) refl
      go false e = says-7 e 7 refl

-- the fields are six
pub in-six : (field : LineField) → (1 ≤ field_number field) × (field_number field ≤ 6)
in-six MonthCount = (omega arith, omega arith)
in-six Number = (omega arith, omega arith)
in-six LeapMark = (omega arith, omega arith)
in-six FirstName = (omega arith, omega arith)
in-six Length = (omega arith, omega arith)
in-six EclipseMark = (omega arith, omega arith)

-- EVERY LINE THAT IS PRINTED can be read, and is right
small : (k : ℕ) → k < 1000000 → Digits (decimal k)
small k h = record { decimal = (decimal-reads-back k).0; nine = let m : length (decimal k) ≤ 6 = decimal-short 5 k (omega (arith, h)) in omega (arith, m) }

marked : (b : Bool) (l : ℕ) → (mark b l ∷ [] ≡ l ∷ []) ⊎ (mark b l ∷ [] ≡ word "-")
marked true l = inl refl
marked false l = inr refl

line_read : (m : ℕ) → MonthInRange m → CanBeRead (month_line m)
unfolding month_facts day_name
line_read m h =
    let (a, b) = number-range m in
    let (d, e) = length-range m in
    record {
      a = decimal m;
      b = decimal (number_of (month_facts m).month);
      c = mark (leap_mark (month_facts m).month) letter_l ∷ [];
      d = decimal (month_facts m).first_name;
      e = decimal (month_facts m).month_length;
      f = mark (month_facts m).eclipse letter_e ∷ [];
      six = sym (line-joined m);
      first = small m (omega (arith, h));
      second = small (number_of (month_facts m).month) (omega (arith, number_at m, b));
      third = marked (leap_mark (month_facts m).month) letter_l;
      fourth = small (month_facts m).first_name (omega arith);
      fifth = small (month_facts m).month_length (omega (arith, e));
      last = marked (month_facts m).eclipse letter_e;
    }

line-count : (m : ℕ) (h : MonthInRange m) → m ≡ count_of (line_read m h)
unfolding line_read
line-count m h = sym (decimal-reads-back m).1

pub line-right : (m : ℕ) → MonthInRange m → number_on (month_line m) ≡ 0
line-right m h = (says (month_line m)).right.1 (line_read m h, subst MonthInRange (line-count m h) h, ap month_line (line-count m h))
