-- Two bytes read and laid, at which a wrong order shows at once. Assumes nothing.
use mathlib.Core.Path.{◌≡◌, refl}
use mathlib.Core.List.{[], ◌∷◌}
use Rattle.octets.specs.Bytes.{number, lay}

pub least_first : number 2 (1 ∷ 2 ∷ []) ≡ 513
unfolding number
least_first = refl

pub least-laid-first : lay 2 513 ≡ 1 ∷ 2 ∷ []
unfolding lay
least-laid-first = refl
