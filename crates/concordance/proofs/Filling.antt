-- The list of verdicts while it is filled. Assumes nothing.
use Rattle.std.proofs.Common.{◌≡◌, ℕ, suc, ◌+◌, ◌<◌, ◌≤◌, List, [], ◌∷◌, ◌++◌, length, get_or, take, drop, set, sym, refl, ap, ◌∙◌, append_assoc, add-one, arith, length-append, length-take, take_all, drop-cons, take-suc}
use native.Mathlib.Decide.{dec_le}
use lib.ListN.{length-map, get_or-map}
use lib.Seq.{set-append_seam}
use Rattle.rule.specs.Lists.{placed}
use Rattle.concordance.specs.Text.{lines_of, advance, place_of}
use Rattle.concordance.specs.Verdicts.{verdict_of, verdict_number, number_on, verdicts_of, line_at}
use Rattle.concordance.specs.declared.Judged.{Judged}
use Rattle.concordance.proofs.Places.{more_no, line-is}

pub verdicts-length : (s : List ℕ) → length (verdicts_of s) ≡ length (lines_of s)
unfolding verdicts_of
verdicts-length s = length-map (lines_of s) number_on

pub verdict-at : (s : List ℕ) (i : ℕ) → get_or (verdicts_of s) i (number_on []) ≡ number_on (get_or (lines_of s) i [])
unfolding verdicts_of
verdict-at s i = get_or-map number_on (lines_of s) i []

placed-more : (l old : List ℕ) (x : ℕ) → length l < length old → set (placed l old) (length l) x ≡ placed (l ++ (x ∷ [])) old
placed-more l old x h =
    let n : length (l ++ (x ∷ [])) ≡ suc (length l) = omega (arith, length-append l (x ∷ [])) in
    ap (λ (r : List ℕ). set (l ++ r) (length l) x) (drop-cons old (length l) 0 h)
    ∙ (set-append_seam l (get_or old (length l) 0) (drop (suc (length l)) old) x
    ∙ (ap (λ (k : ℕ). l ++ (x ∷ drop k old)) (sym n) ∙ sym (append_assoc l (x ∷ []) (drop (length (l ++ (x ∷ []))) old))))

-- what is told of the line at a place
abbrev pub told : List ℕ → ℕ → Judged
told s p = record { verdict = verdict_of (line_at s p); next = p + advance (drop p s) }

-- i lines are judged, and the next one starts at p
pub record Filling (s old out : List ℕ) (p i : ℕ) : Type 0 where
  pub place : p ≡ place_of s i
  pub list : out ≡ placed (take i (verdicts_of s)) old

pub fill_none : (s old : List ℕ) → Filling s old old 0 0
unfolding place_of
fill_none s old = record { place = refl; list = refl }

module _ (s old out : List ℕ) (p i : ℕ) (f : Filling s old out p i) where
  pub fill_done : length (lines_of s) ≤ i → out ≡ placed (verdicts_of s) old
  fill_done k = f.list ∙ ap (λ (l : List ℕ). placed l old) (take_all i (verdicts_of s) (omega (arith, verdicts-length s)))

  module _ (k : i < length (lines_of s)) where
    -- line i starts before the end
    more' : place_of s i < length s
    more' = go (dec_le (length s) (place_of s i))
      where
        go : Dec (length s ≤ place_of s i) → place_of s i < length s
        go (yes m) = absurd (omega (arith, k, more_no s i m))
        go (no m) = omega (arith, m)

    pub fill-place : p < length s
    fill-place = omega (arith, f.place, more')

    pub fill-next : length (lines_of s) ≤ length old → (t : Judged) (x : ℕ) → t ≡ told s p → x ≡ verdict_number t.verdict →
        Filling s old (set out i x) t.next (i + 1)
    unfolding place_of
    fill-next room t x e v =
        let e' : t ≡ told s (place_of s i) = e ∙ ap (told s) f.place in
        let m : length (verdicts_of s) ≡ length (lines_of s) = verdicts-length s in
        let n : length (take i (verdicts_of s)) ≡ i = simp length-take (omega arith) in
        let ex : x ≡ get_or (verdicts_of s) i (number_on []) =
        v ∙ (ap (λ (u : Judged). verdict_number u.verdict) e' ∙ (ap number_on (line-is s i more') ∙ sym (verdict-at s i))) in
        record {
          place = ap (λ (u : Judged). u.next) e' ∙ ap (place_of s) (sym (add-one i));
          list = ap (λ (o : List ℕ). set o i x) f.list
              ∙ (ap (λ (j : ℕ). set (placed (take i (verdicts_of s)) old) j x) (sym n)
              ∙ (placed-more (take i (verdicts_of s)) old x (omega arith)
              ∙ ap (λ (l : List ℕ). placed l old)
              (ap (λ (y : ℕ). take i (verdicts_of s) ++ (y ∷ [])) ex
              ∙ (sym (take-suc (verdicts_of s) i (number_on []) (omega arith)) ∙ ap (λ (j : ℕ). take j (verdicts_of s)) (sym (add-one i))))));
        }
