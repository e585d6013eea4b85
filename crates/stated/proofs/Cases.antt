-- What a sheet is computed with, and small cases at which a wrong order of the reasons, and a wrong promise, show at once.
-- Assumes nothing.
use Rattle.std.specs.Prelude.{Ok}
use mathlib.Core.Path.{◌≡◌, refl}
use mathlib.Core.List.{[], ◌∷◌}
use Rattle.rule.specs.Reasons.{refused}
use Rattle.sheet.specs.Sheet.{read_into, sheet_of11}
use Rattle.sheet.specs.Promises.{counts_are, ReadSheet}
use Rattle.sheet.proofs.Reading.{reading}

-- the paper's sheet of the year 11 with a byte after it, read into no places at all: 11 comes before 12
pub eleven-first : read_into (1 ∷ 0 ∷ 11 ∷ 0 ∷ 0 ∷ 0 ∷ 0 ∷ 0 ∷ 9 ∷ []) 0 0 0 ≡ refused 11
unfolding reading
eleven-first = refl

-- the same sheet without that byte, read into two places that held 7: the second is kept
pub second-kept : ReadSheet sheet_of11 (7 ∷ 7 ∷ []) [] [] (Ok (counts_are 1 0 0)) (11 ∷ 7 ∷ []) [] []
unfolding reading
second-kept = record { answer = refl; years = refl; months = refl; days = refl }
