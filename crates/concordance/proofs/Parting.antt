-- A line's fields one after the other: what the tests and the texts come to, and the verdict by them. Assumes nothing.
use Rattle.std.specs.Prelude.{Some, None}
use Rattle.std.proofs.Common.{◌≡◌, ℕ, suc, ◌+◌, ◌<◌, ◌≤◌, Bool, true, false, cond, ◌&&◌, ◌||◌, eqb, leb, List, [], ◌∷◌, length, get_or, drop, sym, refl, ap, ◌∙◌, ap₂, arith, T, subst, drop_of_length-le, le-ltb, lt-ltb, eq-eqb, ne_eqb, eqb-true, le-leb}
use mathlib.Core.Bool.{not, beq}
use native.Mathlib.Decide.{dec_le}
use borrow.Author.Tests.{lt-leb, eqb-false}
use Rattle.rule.specs.Rule.{number_of, leap_mark}
use Rattle.facts.specs.declared.MonthFacts.{MonthFacts}
use Rattle.facts.specs.Facts.{month_facts}
use Rattle.fields.specs.Fields.{decimal, mark, followed, joined, letter_l, letter_e}
use Rattle.fields.specs.Paper.{value_from}
use Rattle.fields.proofs.Paper.{decimal-tells}
use Rattle.forms.specs.Forms.{first_field, fields_in, after_first, field_at, same, is_decimal, is_mark, number_in}
use Rattle.forms.proofs.Fields.{fields-last, fields-next, first-few}
use Rattle.forms.proofs.Spaces.{fields-joined}
use Rattle.forms.proofs.Saying.{both, exact, number-text, number-says}
use Rattle.concordance.specs.declared.LineField.TheVariants.{MonthCount, Number, LeapMark, FirstName, Length, EclipseMark}
use Rattle.concordance.specs.declared.Verdict.TheVariants.{Right, Wrong, Unreadable}
use Rattle.concordance.specs.declared.Numeral.{Numeral}
use Rattle.concordance.specs.declared.Parts.{Parts}
use Rattle.concordance.specs.Verdicts.{is_number, is_eclipse_mark, all_pass, six_tests, readable, count_in, first_wrong, printed_fields, verdict_of}
use Rattle.concordance.specs.Parts.{Numbered, mark_read, first_mark, last_mark, texts_of, Parted, parts_printed, differing}
use Rattle.concordance.proofs.Scanning.{and-false}

-- MARKS: the byte that is taken
not-two : (a b c : ℕ) (s : List ℕ) → same (a ∷ []) (b ∷ c ∷ s) ≡ false
unfolding same
not-two a b c s = and-false (eqb a b)

same-one : (a b : ℕ) → same (a ∷ []) (b ∷ []) ≡ eqb a b
unfolding same
same-one a b = go (eqb a b)
  where
    go : (t : Bool) → (t && true) ≡ t
    go true = refl
    go false = refl

byte-none : (l : ℕ) → mark_read l [] ≡ None
unfolding same
byte-none l = refl

byte-two : (l b c : ℕ) (s : List ℕ) → mark_read l (b ∷ c ∷ s) ≡ None
byte-two l b c s = rw (not-two 45 b c s, not-two l b c s) refl

byte_one : (l b : ℕ) → mark_read l (b ∷ []) ≡ cond (eqb 45 b) (Some false) (cond (eqb l b) (Some true) None)
byte_one l b = rw (same-one 45 b, same-one l b) refl

pub last_none : (s : List ℕ) → (length s ≡ 1 → ⊥) → None ≡ last_mark s
unfolding last_mark
last_none [] h = sym (byte-none letter_e)
last_none (b ∷ []) h = absurd (h refl)
last_none (b ∷ c ∷ s) h = sym (byte-two letter_e b c s)

module _ (s : List ℕ) (h : length s ≡ 1) where
  last-is : last_mark s ≡ cond (eqb 45 (get_or s 0 0)) (Some false) (cond (eqb 69 (get_or s 0 0)) (Some true) None)
  unfolding last_mark
  last-is = go s h
    where
      go : (t : List ℕ) → length t ≡ 1 → mark_read letter_e t ≡ cond (eqb 45 (get_or t 0 0)) (Some false) (cond (eqb 69 (get_or t 0 0)) (Some true) None)
      go [] e = absurd (omega (arith, e))
      go (b ∷ []) e = byte_one letter_e b
      go (b ∷ c ∷ t) e = absurd (omega (arith, e))

  pub last-absent : get_or s 0 0 ≡ 45 → Some false ≡ last_mark s
  last-absent e = sym (last-is ∙ rw (eq-eqb 45 (get_or s 0 0) (sym e)) refl)

  pub last-there : get_or s 0 0 ≡ 69 → Some true ≡ last_mark s
  last-there e = sym (last-is ∙ rw (e) refl)

  pub last-other : (get_or s 0 0 ≡ 45 → ⊥) → (get_or s 0 0 ≡ 69 → ⊥) → None ≡ last_mark s
  last-other e f = sym (last-is ∙ rw (ne_eqb 45 (get_or s 0 0) (λ i. e (sym i)), ne_eqb 69 (get_or s 0 0) (λ i. f (sym i))) refl)

pub mark-short : (s : List ℕ) → length s < 2 → None ≡ first_mark s
unfolding first_mark
mark-short s h = sym (rw (le-ltb 1 (length s) (omega (arith, h))) refl)

-- the first field of a text of two bytes or more
first_two : (b c : ℕ) (s : List ℕ) → (t u : Bool) → eqb b 32 ≡ t → eqb c 32 ≡ u → first_field (b ∷ c ∷ s) ≡ cond t [] (b ∷ cond u [] (c ∷ first_field s))
unfolding first_field
first_two b c s t u e f = rw (e, f) refl

module _ (s : List ℕ) (h : 2 ≤ length s) where
  pub mark-longer : (get_or s 1 0 ≡ 32 → ⊥) → None ≡ first_mark s
  unfolding first_mark
  mark-longer n = sym (rw (lt-ltb 1 (length s) (omega (arith, h))) (go s h n))
    where
      go : (t : List ℕ) → 2 ≤ length t → (get_or t 1 0 ≡ 32 → ⊥) → mark_read letter_l (first_field t) ≡ None
      go [] l m = absurd (omega (arith, l))
      go (b ∷ []) l m = absurd (omega (arith, l))
      go (b ∷ c ∷ t) l m = on (eqb b 32) refl
        where
          on : (x : Bool) → eqb b 32 ≡ x → mark_read letter_l (first_field (b ∷ c ∷ t)) ≡ None
          on true e = rw (first_two b c t true false e (ne_eqb c 32 m)) (byte-none letter_l)
          on false e = rw (first_two b c t false false e (ne_eqb c 32 m)) (byte-two letter_l b c (first_field t))

  module _ (n : get_or s 1 0 ≡ 32) where
    mark-is : first_mark s ≡ cond (eqb 45 (get_or s 0 0)) (Some false) (cond (eqb 76 (get_or s 0 0)) (Some true) None)
    unfolding first_mark
    mark-is = rw (lt-ltb 1 (length s) (omega (arith, h))) (go s h n)
      where
        go : (t : List ℕ) → 2 ≤ length t → get_or t 1 0 ≡ 32 → mark_read letter_l (first_field t) ≡ cond (eqb 45 (get_or t 0 0)) (Some false) (cond (eqb 76 (get_or t 0 0)) (Some true) None)
        go [] l m = absurd (omega (arith, l))
        go (b ∷ []) l m = absurd (omega (arith, l))
        go (b ∷ c ∷ t) l m = on (eqb b 32) refl
          where
            on : (x : Bool) → eqb b 32 ≡ x → mark_read letter_l (first_field (b ∷ c ∷ t)) ≡ cond (eqb 45 b) (Some false) (cond (eqb 76 b) (Some true) None)
            on true e = rw (first_two b c t true true e (eq-eqb c 32 m), eqb-true b 32 e) (byte-none letter_l)
            on false e = rw (first_two b c t false true e (eq-eqb c 32 m)) (byte_one letter_l b)

    pub mark-absent : get_or s 0 0 ≡ 45 → Some false ≡ first_mark s
    mark-absent e = sym (mark-is ∙ rw (e) refl)

    pub mark-there : get_or s 0 0 ≡ 76 → Some true ≡ first_mark s
    mark-there e = sym (mark-is ∙ rw (e) refl)

    pub mark-other : (get_or s 0 0 ≡ 45 → ⊥) → (get_or s 0 0 ≡ 76 → ⊥) → None ≡ first_mark s
    mark-other e f = sym (mark-is ∙ rw (ne_eqb 45 (get_or s 0 0) (λ i. e (sym i)), ne_eqb 76 (get_or s 0 0) (λ i. f (sym i))) refl)

-- FIELDS: so many tests as fields, one after the other
module _ (s : List ℕ) (p q : List ℕ → Bool) (ps : List (List ℕ → Bool)) (none : q [] ≡ false) where
  -- after the last field there is none that passes
  nothing : length s ≤ length (first_field s) → all_pass (q ∷ ps) (fields_in (after_first s)) ≡ false
  unfolding after_first fields_in all_pass
  nothing h = rw (drop_of_length-le s {i = suc (length (first_field s))} (omega (arith, h)), none) refl

  pass-next : all_pass (p ∷ q ∷ ps) (fields_in s) ≡ (p (first_field s) && all_pass (q ∷ ps) (fields_in (after_first s)))
  unfolding all_pass after_first
  pass-next = go (dec_le (length s) (length (first_field s)))
    where
      go : Dec (length s ≤ length (first_field s)) → all_pass (p ∷ q ∷ ps) (fields_in s) ≡ (p (first_field s) && all_pass (q ∷ ps) (fields_in (after_first s)))
      go (yes h) = ap (all_pass (p ∷ q ∷ ps)) (fields-last s (omega (arith, h, first-few s))) ∙ ap (λ (x : Bool). p (first_field s) && x) (sym (nothing h))
      go (no h) = ap (all_pass (p ∷ q ∷ ps)) (fields-next s (omega (arith, h)))

  next-fields : all_pass (q ∷ ps) (fields_in (after_first s)) ≡ true → fields_in s ≡ first_field s ∷ fields_in (after_first s)
  unfolding after_first
  next-fields e = go (dec_le (length s) (length (first_field s)))
    where
      go : Dec (length s ≤ length (first_field s)) → fields_in s ≡ first_field s ∷ fields_in (after_first s)
      go (yes h) = absurd (let i : true ≡ false = sym e ∙ nothing h in let o : ◌≡◌ {A = ℕ} 0 1 = cc in omega arith)
      go (no h) = fields-next s (omega (arith, h))

-- g says whether the fields of s pass the tests, and if so they are these texts
pub record Read (s : List ℕ) (ps : List (List ℕ → Bool)) (g : Bool) (ts : List (List ℕ)) : Type 0 where
  pub passed : g ≡ all_pass ps (fields_in s)
  pub texts : g ≡ true → fields_in s ≡ ts

-- one field more in front: where x holds it passes, is the text t, and u stands behind it
link : (x : Bool) {s u t : List ℕ} {p q : List ℕ → Bool} {ps : List (List ℕ → Bool)} {g : Bool} {ts : List (List ℕ)} →
    q [] ≡ false → x ≡ p (first_field s) → (x ≡ true → first_field s ≡ t) → (x ≡ true → u ≡ after_first s) →
    Read u (q ∷ ps) g ts → Read s (p ∷ q ∷ ps) (x && g) (t ∷ ts)
link true {s} {u} {t} {p} {q} {ps} {g} {ts} n e a b r =
    let i : g ≡ all_pass (q ∷ ps) (fields_in (after_first s)) = r.passed ∙ ap (λ (v : List ℕ). all_pass (q ∷ ps) (fields_in v)) (b refl) in
    record {
      passed = i ∙ sym (pass-next s p q ps n ∙ ap (λ (y : Bool). y && all_pass (q ∷ ps) (fields_in (after_first s))) (sym e));
      texts = λ h. next-fields s p q ps n (sym i ∙ h) ∙ ap₂ (λ (f : List ℕ) (fs : List (List ℕ)). f ∷ fs) (a refl) (ap fields_in (sym (b refl)) ∙ r.texts h);
    }
link false {s} {u} {t} {p} {q} {ps} {g} {ts} n e a b r =
    record {
      passed = sym (pass-next s p q ps n ∙ ap (λ (y : Bool). y && all_pass (q ∷ ps) (fields_in (after_first s))) (sym e));
      texts = λ h. absurd (let i : false ≡ true = h in let o : ◌≡◌ {A = ℕ} 0 1 = cc in omega arith);
    }

-- a field that does not pass
pub none-link : {s : List ℕ} {p q : List ℕ → Bool} {ps : List (List ℕ → Bool)} →
    q [] ≡ false → p (first_field s) ≡ false → Read s (p ∷ q ∷ ps) false []
none-link {s} {p} {q} {ps} n e =
    record {
      passed = sym (pass-next s p q ps n ∙ ap (λ (y : Bool). y && all_pass (q ∷ ps) (fields_in (after_first s))) e);
      texts = λ h. absurd (let o : ◌≡◌ {A = ℕ} 0 1 = cc in omega arith);
    }

number-of : (f : List ℕ) → is_number f ≡ true → f ≡ decimal (value_from 0 f)
unfolding is_number
number-of f e = number-text f (both (is_decimal f) (leb (length f) 9) e).0

pub number-link : {s u : List ℕ} {n : Numeral} {q : List ℕ → Bool} {ps : List (List ℕ → Bool)} {g : Bool} {ts : List (List ℕ)} →
    Numbered s (Some n) → u ≡ drop (n.end + 1) s → q [] ≡ false → Read u (q ∷ ps) g ts → Read s (is_number ∷ q ∷ ps) g (decimal n.value ∷ ts)
unfolding after_first
number-link {s} {u} {n} h e z r =
    link true z (sym h.passed)
    (λ x. number-of (first_field s) h.passed ∙ ap decimal (sym h.value))
    (λ x. e ∙ ap (λ (k : ℕ). drop k s) {x = n.end + 1} {y = suc (length (first_field s))} (omega (arith, h.end)))
    r

-- an empty field passes none of them
pub empty-number : is_number [] ≡ false
unfolding is_number is_decimal
empty-number = refl

pub empty-mark : is_mark [] ≡ false
unfolding is_mark same
empty-mark = refl

pub empty-eclipse : is_eclipse_mark [] ≡ false
unfolding is_eclipse_mark same
empty-eclipse = refl

-- a mark's byte is there exactly where the text is a mark, and then it is the text
byte-good : (l : ℕ) (f : List ℕ) (c : Bool) → Some c ≡ mark_read l f → (same (45 ∷ []) f || same (l ∷ []) f) ≡ true
byte-good l f c = go (same (45 ∷ []) f) (same (l ∷ []) f)
  where
    go : (a b : Bool) → Some c ≡ cond a (Some false) (cond b (Some true) None) → (a || b) ≡ true
    go true b h = refl
    go false true h = refl
    go false false h = absurd (let o : ◌≡◌ {A = ℕ} 0 1 = cc in omega arith)

byte-bad : (l : ℕ) (f : List ℕ) → None ≡ mark_read l f → (same (45 ∷ []) f || same (l ∷ []) f) ≡ false
byte-bad l f = go (same (45 ∷ []) f) (same (l ∷ []) f)
  where
    go : (a b : Bool) → None ≡ cond a (Some false) (cond b (Some true) None) → (a || b) ≡ false
    go true b h = absurd (let o : ◌≡◌ {A = ℕ} 0 1 = cc in omega arith)
    go false true h = absurd (let o : ◌≡◌ {A = ℕ} 0 1 = cc in omega arith)
    go false false h = refl

byte-text : (l : ℕ) (f : List ℕ) (c : Bool) → Some c ≡ mark_read l f → f ≡ mark c l ∷ []
byte-text l f c = go (same (45 ∷ []) f) (same (l ∷ []) f) refl refl
  where
    go : (a b : Bool) → same (45 ∷ []) f ≡ a → same (l ∷ []) f ≡ b → Some c ≡ cond a (Some false) (cond b (Some true) None) → f ≡ mark c l ∷ []
    go true b e i h = let k : false ≡ c = cc in exact (45 ∷ []) f e ∙ ap (λ (x : Bool). mark x l ∷ []) k
    go false true e i h = let k : true ≡ c = cc in exact (l ∷ []) f i ∙ ap (λ (x : Bool). mark x l ∷ []) k
    go false false e i h = absurd (let o : ◌≡◌ {A = ℕ} 0 1 = cc in omega arith)

no_field : (f : List ℕ) → length f ≤ 0 → is_mark f ≡ false
unfolding is_mark same
no_field [] h = refl
no_field (b ∷ f) h = absurd (omega (arith, h))

pub mark-link : {s u : List ℕ} {c : Bool} {q : List ℕ → Bool} {ps : List (List ℕ → Bool)} {g : Bool} {ts : List (List ℕ)} →
    Some c ≡ first_mark s → u ≡ drop (1 + 1) s → q [] ≡ false → Read u (q ∷ ps) g ts → Read s (is_mark ∷ q ∷ ps) g ((mark c letter_l ∷ []) ∷ ts)
unfolding after_first is_mark first_mark
mark-link {s} {u} {c} {q} {ps} {g} {ts} h e z r = go (dec_le (length s) 1)
  where
    go : Dec (length s ≤ 1) → Read s (is_mark ∷ q ∷ ps) g ((mark c letter_l ∷ []) ∷ ts)
    go (no l) =
        let m : Some c ≡ mark_read letter_l (first_field s) = h ∙ rw (lt-ltb 1 (length s) (omega (arith, l))) refl in
        let t : first_field s ≡ mark c letter_l ∷ [] = byte-text letter_l (first_field s) c m in
        link true z (sym (byte-good letter_l (first_field s) c m)) (λ x. t)
        (λ x. e ∙ ap (λ (k : ℕ). drop k s) {x = 1 + 1} {y = suc (length (first_field s))} (omega (arith, ap length t)))
        r
    go (yes l) = absurd (let m : Some c ≡ None = h ∙ rw (le-ltb 1 (length s) l) refl in let o : ◌≡◌ {A = ℕ} 0 1 = cc in omega arith)

pub mark-none : {s : List ℕ} {q : List ℕ → Bool} {ps : List (List ℕ → Bool)} →
    None ≡ first_mark s → q [] ≡ false → Read s (is_mark ∷ q ∷ ps) false []
unfolding is_mark first_mark
mark-none {s} {q} {ps} h z = go (dec_le (length s) 1)
  where
    go : Dec (length s ≤ 1) → Read s (is_mark ∷ q ∷ ps) false []
    go (no l) = none-link z (byte-bad letter_l (first_field s) (h ∙ rw (lt-ltb 1 (length s) (omega (arith, l))) refl))
    go (yes l) =
        record {
          passed = sym (pass-next s is_mark q ps z ∙ none (dec_le (length s) (length (first_field s))));
          texts = λ x. absurd (let o : ◌≡◌ {A = ℕ} 0 1 = cc in omega arith);
        }
      where
        none : Dec (length s ≤ length (first_field s)) → (is_mark (first_field s) && all_pass (q ∷ ps) (fields_in (after_first s))) ≡ false
        none (yes k) = ap (λ (x : Bool). is_mark (first_field s) && x) (nothing s is_mark q ps z k) ∙ and-false (is_mark (first_field s))
        none (no k) = ap (λ (x : Bool). x && all_pass (q ∷ ps) (fields_in (after_first s))) (no_field (first_field s) (omega (arith, k, l)))

-- the last field: what is left of the line is it, with nothing behind
last-alone : (s : List ℕ) → is_eclipse_mark s ≡ true → fields_in s ≡ s ∷ []
unfolding is_eclipse_mark fields_in
last-alone s e =
    go (same (45 ∷ []) s) (same (69 ∷ []) s) refl refl e
  where
    go : (a b : Bool) → same (45 ∷ []) s ≡ a → same (69 ∷ []) s ≡ b → (a || b) ≡ true → fields_in s ≡ s ∷ []
    go true b i j h = rw (exact (45 ∷ []) s i) refl
    go false true i j h = rw (exact (69 ∷ []) s j) refl
    go false false i j h = absurd (let o : ◌≡◌ {A = ℕ} 0 1 = cc in omega arith)

last-pass : (s : List ℕ) → all_pass (is_eclipse_mark ∷ []) (fields_in s) ≡ is_eclipse_mark s
unfolding all_pass followed
last-pass s = go (fields_in s) refl
  where
    alone : (x : Bool) → (x && true) ≡ x
    alone true = refl
    alone false = refl

    other : (fs : List (List ℕ)) → fields_in s ≡ fs → (length fs ≡ 1 → ⊥) → false ≡ is_eclipse_mark s
    other fs e n = on (is_eclipse_mark s) refl
      where
        on : (x : Bool) → is_eclipse_mark s ≡ x → false ≡ x
        on true i = absurd (n (ap length (sym e ∙ last-alone s i)))
        on false i = refl

    go : (fs : List (List ℕ)) → fields_in s ≡ fs → all_pass (is_eclipse_mark ∷ []) fs ≡ is_eclipse_mark s
    go [] e = other [] e (λ i. omega (arith, i))
    go (f ∷ []) e = alone (is_eclipse_mark f) ∙ ap is_eclipse_mark (sym (ap joined e) ∙ fields-joined s)
    go (f ∷ g ∷ fs) e = and-false (is_eclipse_mark f) ∙ other (f ∷ g ∷ fs) e (λ i. omega (arith, i))

pub last-link : {s : List ℕ} {c : Bool} → Some c ≡ last_mark s → Read s (is_eclipse_mark ∷ []) true ((mark c letter_e ∷ []) ∷ [])
unfolding is_eclipse_mark last_mark
last-link {s} {c} h =
    let e : is_eclipse_mark s ≡ true = byte-good letter_e s c h in
    record {
      passed = sym (last-pass s ∙ e);
      texts = λ x. last-alone s e ∙ ap (λ (f : List ℕ). f ∷ []) (byte-text letter_e s c h);
    }

pub last-bad : {s : List ℕ} → None ≡ last_mark s → Read s (is_eclipse_mark ∷ []) false []
unfolding is_eclipse_mark last_mark
last-bad {s} h =
    record {
      passed = sym (last-pass s ∙ byte-bad letter_e s h);
      texts = λ x. absurd (let o : ◌≡◌ {A = ℕ} 0 1 = cc in omega arith);
    }

pub parted : (l : List ℕ) (p : Parts) → Read l six_tests true (texts_of p) → Parted l (Some p)
unfolding readable
parted l p r = (sym r.passed, r.texts refl)

pub not-parted : (l : List ℕ) {ts : List (List ℕ)} → Read l six_tests false ts → Parted l None
unfolding readable
not-parted l r = sym r.passed

-- THE VERDICT: what is printed, and where two differ
pub printed-is : {n a : ℕ} {b : Bool} {f g : MonthFacts} → f ≡ g → a ≡ number_of f.month → b ≡ leap_mark f.month →
    ◌≡◌ {A = Parts} (record { count = n; number = a; leap = b; name = f.first_name; days = f.month_length; eclipse = f.eclipse }) (parts_printed n g)
unfolding parts_printed
printed-is e i j = rw (i, j, e) refl

-- a mark's byte tells whether it is there
marks-tell : (l : ℕ) → (l ≡ 45 → ⊥) → (a b : Bool) → mark a l ≡ mark b l → a ≡ b
marks-tell l n true true e = refl
marks-tell l n true false e = absurd (n e)
marks-tell l n false true e = absurd (n (sym e))
marks-tell l n false false e = refl

-- two marks as they are compared
pub marks-differ : (a b : Bool) → not (beq a b) ≡ true → a ≡ b → ⊥
marks-differ true true h e = subst T (sym h) tt
marks-differ true false h e = subst T e tt
marks-differ false true h e = subst T (sym e) tt
marks-differ false false h e = subst T (sym h) tt

pub marks-same : (a b : Bool) → not (beq a b) ≡ false → a ≡ b
marks-same true true h = refl
marks-same true false h = absurd (subst T h tt)
marks-same false true h = absurd (subst T h tt)
marks-same false false h = refl

module _ (p q : Parts) where
  pub differ-2 : (p.number ≡ q.number → ⊥) → Wrong Number ≡ differing p q
  unfolding differing
  differ-2 n = rw (ne_eqb p.number q.number n) refl

  module _ (e2 : p.number ≡ q.number) where
    pub differ-3 : (p.leap ≡ q.leap → ⊥) → Wrong LeapMark ≡ differing p q
    unfolding differing
    differ-3 n = rw (eq-eqb p.number q.number e2, ne_eqb (mark p.leap letter_l) (mark q.leap letter_l) (λ e. n (marks-tell 76 (λ i. omega (arith, i)) _ _ e))) refl

    module _ (e3 : p.leap ≡ q.leap) where
      pub differ-4 : (p.name ≡ q.name → ⊥) → Wrong FirstName ≡ differing p q
      unfolding differing
      differ-4 n = rw (eq-eqb p.number q.number e2, eq-eqb (mark p.leap letter_l) (mark q.leap letter_l) (ap (λ (b : Bool). mark b letter_l) e3), ne_eqb p.name q.name n) refl

      module _ (e4 : p.name ≡ q.name) where
        pub differ-5 : (p.days ≡ q.days → ⊥) → Wrong Length ≡ differing p q
        unfolding differing
        differ-5 n = rw (eq-eqb p.number q.number e2, eq-eqb (mark p.leap letter_l) (mark q.leap letter_l) (ap (λ (b : Bool). mark b letter_l) e3), eq-eqb p.name q.name e4, ne_eqb p.days q.days n) refl

        module _ (e5 : p.days ≡ q.days) where
          four : differing p q ≡ cond (eqb (mark p.eclipse letter_e) (mark q.eclipse letter_e)) Right (Wrong EclipseMark)
          unfolding differing
          four = rw (eq-eqb p.number q.number e2, eq-eqb (mark p.leap letter_l) (mark q.leap letter_l) (ap (λ (b : Bool). mark b letter_l) e3), eq-eqb p.name q.name e4, eq-eqb p.days q.days e5) refl

          pub differ-6 : (p.eclipse ≡ q.eclipse → ⊥) → Wrong EclipseMark ≡ differing p q
          differ-6 n = sym (four ∙ rw (ne_eqb (mark p.eclipse letter_e) (mark q.eclipse letter_e) (λ e. n (marks-tell 69 (λ i. omega (arith, i)) _ _ e))) refl)

          pub differ-none : p.eclipse ≡ q.eclipse → Right ≡ differing p q
          differ-none e = sym (four ∙ rw (eq-eqb (mark p.eclipse letter_e) (mark q.eclipse letter_e) (ap (λ (b : Bool). mark b letter_e) e)) refl)

pub same_self : (s : List ℕ) → same s s ≡ true
unfolding same
same_self [] = refl
same_self (b ∷ s) = rw (eq-eqb b b refl) (same_self s)

same_number : (a b : ℕ) → same (decimal a) (decimal b) ≡ eqb a b
same_number a b = go (eqb a b) refl
  where
    go : (t : Bool) → eqb a b ≡ t → same (decimal a) (decimal b) ≡ t
    go true e = ap (λ (k : ℕ). same (decimal a) (decimal k)) (sym (eqb-true a b e)) ∙ same_self (decimal a)
    go false e = on (same (decimal a) (decimal b)) refl
      where
        on : (x : Bool) → same (decimal a) (decimal b) ≡ x → x ≡ false
        on true i = absurd (eqb-false a b e (decimal-tells a b (sym (exact (decimal a) (decimal b) i))))
        on false i = refl

-- two lines with one month count differ first where their texts do
texts-differ : (p q : Parts) → p.count ≡ q.count → first_wrong 1 (texts_of p) (texts_of q) ≡ differing p q
unfolding first_wrong differing
texts-differ p q e =
    rw (
      same_number p.count q.count,
      eq-eqb p.count q.count e,
      same_number p.number q.number,
      same-one (mark p.leap letter_l) (mark q.leap letter_l),
      same_number p.name q.name,
      same_number p.days q.days,
      same-one (mark p.eclipse letter_e) (mark q.eclipse letter_e),
    )
    refl

count_same : (n : ℕ) (f : MonthFacts) → n ≡ (parts_printed n f).count
unfolding parts_printed
count_same n f = refl

printed-texts : (n : ℕ) → texts_of (parts_printed n (month_facts n)) ≡ printed_fields n
unfolding parts_printed
printed-texts n = refl

pub judged-unreadable : (l : List ℕ) → Parted l None → Unreadable ≡ verdict_of l
unfolding verdict_of
judged-unreadable l e = sym (rw (e) refl)

module _ (l : List ℕ) (p : Parts) (r : Parted l (Some p)) where
  count-is : count_in l ≡ p.count
  unfolding count_in number_in field_at
  count-is = ap (λ (fs : List (List ℕ)). number_in fs 0) r.1 ∙ number-says p.count

  can : verdict_of l ≡ cond (leb p.count 507599) (first_wrong 1 (texts_of p) (printed_fields p.count)) (Wrong MonthCount)
  unfolding verdict_of
  can = rw (r.0, count-is, r.1) refl

  pub judged-out : 507599 < p.count → Wrong MonthCount ≡ verdict_of l
  judged-out h = sym (can ∙ rw (lt-leb p.count 507599 h) refl)

  pub judged-in : p.count ≤ 507599 → differing p (parts_printed p.count (month_facts p.count)) ≡ verdict_of l
  judged-in h =
      sym (can ∙ rw (le-leb p.count 507599 h) (ap (first_wrong 1 (texts_of p)) (sym (printed-texts p.count))
      ∙ texts-differ p (parts_printed p.count (month_facts p.count)) (count_same p.count (month_facts p.count))))
