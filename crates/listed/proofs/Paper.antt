-- The statement of specs/Paper, proved under its own name, and what follows for a room into which an input was read. Assumes nothing.
use Prim.Native.Nat.{ℕ, ◌≤◌}
use native.Mathlib.Omega.{arith}
use mathlib.Core.Path.{◌≡◌, ap, sym, ◌∙◌}
use mathlib.Core.List.{List}
use lib.ListN.{length, take}
use lib.Seq.{take_all, length-take-le}
use Rattle.rule.specs.Reasons.{Answer, is, and_then}
use Rattle.sheet.specs.Sheet.{ListsFor, sheet_sections, named, read_sheet}
use Rattle.penned.specs.Lines.{printed, listing}
use Rattle.listed.proofs.Fronts.{sections-taken}
use Rattle.listed.specs.Paper as Paper

-- so many bytes or more are enough
front_of : (k : ℕ) → 10007 ≤ k → (s : List ℕ) → listing (take k s) ≡ listing s
unfolding listing read_sheet
front_of k h s =
    ap (λ (a : Answer (ListsFor sheet_sections)). printed (and_then a (λ l. is (named l)))) (sections-taken sheet_sections k (omega (arith, h)) s)

pub front-is-enough : Paper.FrontIsEnough
front-is-enough = front_of Paper.input_held (omega arith)

-- the listing of what a room of so many bytes has taken is that of the whole input
pub taken-listing : (room : List ℕ) (n : ℕ) (s : List ℕ) → Paper.input_held ≡ length room → Paper.TakenInto room n s → listing (take n room) ≡ listing s
taken-listing room n s h e = ap listing (e ∙ ap (λ (k : ℕ). take k s) (sym h)) ∙ front-is-enough s

-- a room has taken what stands in it
pub taken-itself : (room : List ℕ) (n : ℕ) → n ≤ length room → Paper.TakenInto room n (take n room)
taken-itself room n h = sym (take_all (length room) (take n room) (omega (arith, length-take-le n room h)))
