-- Laws of an answer's text: what is known of an answer that is told. Assumes nothing.
use Rattle.std.specs.Prelude.{Result, Ok}
use Prim.Native.Nat.{ℕ, ◌≤◌}
use native.Mathlib.Omega.{arith}
use mathlib.Core.Path.{◌≡◌, ap, sym, subst, ◌∙◌}
use mathlib.Core.List.{List, [], ◌∷◌}
use Rattle.rule.specs.Counts.{CivilYearInRange}
use lib.Dec.{leb}
use Rattle.rule.specs.Reasons.{said, is, reason_number}
use Rattle.rule.specs.declared.Reason.{Reason}
use Rattle.rule.proofs.Answers.{reason-back, holds-all, at_most}
use Rattle.facts.specs.declared.YearFacts.{YearFacts}
use Rattle.facts.specs.Facts.{year_facts, year_facts_at}
use Rattle.facts.specs.Promises.{YearOwnFacts}
use Rattle.planets.specs.declared.Pair.{Pair}
use Rattle.planets.specs.Planets.{numbers_of, pair_of}
use Rattle.planets.specs.Promises.{ReducedPair}
use Rattle.planets.proofs.Five.{each-planet}
use Rattle.planets.proofs.Reducing.{reduction}
use Rattle.fields.specs.Fields.{word, decimal, lined}
use Rattle.penned.specs.Lines.{words_of}
use Rattle.told.specs.Answers.{words_numbered, refused_text}

-- a year that has facts is in range
pub year-there : (y : ℕ) {r : Result YearFacts Reason} {f : YearFacts} → YearOwnFacts y r → r ≡ Ok f → CivilYearInRange y
unfolding year_facts_at
year-there y {r} {f} e g =
    (at_most y 41040).0 ((holds-all (leb y 41040) 1 (is (year_facts y)) f).0 (sym e ∙ ap said g)).0

-- a pair that is given is a planet's: 9,415 years and 11,908 conjunctions at most
abbrev Few : Pair → Type 0
Few r = (r.years ≤ 9415) × (r.conjunctions ≤ 11908)

pub pair-few : (p : ℕ) {r : Result Pair Reason} {x : Pair} → ReducedPair p r → r ≡ Ok x → Few x
unfolding numbers_of
pair-few p {r} {x} h g =
    let q = (reduction p x).0 (subst (ReducedPair p) g h) in
    subst Few (sym q.1)
    (each-planet (λ i. Few (pair_of (numbers_of i)))
    (omega arith, omega arith) (omega arith, omega arith) (omega arith, omega arith) (omega arith, omega arith) (omega arith, omega arith) p q.0)

-- a reason's number has its words
pub words_back : (r : Reason) → words_numbered (reason_number r) ≡ words_of r
unfolding words_numbered
words_back r = ap words_of (reason-back r)

pub as-refusal : {k : ℕ} (r : Reason) → k ≡ reason_number r → lined (word "REFUSED" ∷ decimal k ∷ words_of r ∷ []) ≡ refused_text (reason_number r)
unfolding refused_text
as-refusal r e =
    ap (λ (j : ℕ). lined (word "REFUSED" ∷ decimal j ∷ words_of r ∷ [])) e
    ∙ ap (λ (ws : List ℕ). lined (word "REFUSED" ∷ decimal (reason_number r) ∷ ws ∷ [])) (sym (words_back r))
