-- What a drawer's answer says of how many records are filled, and of the list then: what the walks of the calls cite, over whatever a record
-- is. Assumes nothing.
use Rattle.std.proofs.Common.{◌≡◌, ℕ, ◌<◌, ◌≤◌, List, map, length, get_or, set, arith, ◌∙◌, Bool, true, false, T, ap, subst, refl}
use Rattle.std.proofs.lemmas.List.{set-set, get_or-set_same}
use Rattle.std.specs.Prelude.{Err}
use Rattle.rule.specs.Counts.{DayInRange}
use Rattle.rule.specs.Reasons.{Answer, is, refused, refused-with, afterwards}
use Rattle.drawer.specs.declared.DrawerError.{DrawerError}
use Rattle.drawer.specs.declared.DrawerError.TheVariants.{Refused, BadDay}
use Rattle.drawer.specs.Drawer.{drawer_at, said_filled, to_fill}
use Rattle.drawer.proofs.Mid.{mid, mid_none, mid-ends}
use Rattle.drawer.proofs.Days.{Verdict, many, short, bad, good, verdict}

-- a place that is filled: there is a day, there is a record, and the day is in range
pub record Fills (ds : List ℕ) (room i : ℕ) : Type 0 where
  pub a-day : i < length ds
  pub a-record : i < room
  pub in-range : DayInRange (get_or ds i 0)

pub fills : (ds : List ℕ) (room i : ℕ) → i < to_fill (drawer_at ds room) → Fills ds room i
fills ds room i = go (drawer_at ds room) (verdict ds room)
  where
    go : (a : Answer ℕ) → Verdict ds room a → i < to_fill a → Fills ds room i
    go a (many l e) h = absurd (let z : i < 0 = rw (e) at h in omega arith)
    go a (short l m e) h = absurd (let z : i < 0 = rw (e) at h in omega arith)
    go a (bad l m j f e) h = absurd (let z : i < 0 = rw (e) at h in omega arith)
    go a (good l m all e) h = let z : i < length ds = rw (e) at h in record { a-day = z; a-record = omega arith; in-range = all i z }

-- the list once all of them are filled
pub filled : {X : Type 0} (of : ℕ → X) (ds : List ℕ) (ys : List X) →
    mid of ds ys (to_fill (drawer_at ds (length ys))) ≡ afterwards (drawer_at ds (length ys)) (λ n. map of ds) ys
filled {X} of ds ys = go (drawer_at ds (length ys)) (verdict ds (length ys))
  where
    go : (a : Answer ℕ) → Verdict ds (length ys) a → mid of ds ys (to_fill a) ≡ afterwards a (λ n. map of ds) ys
    go a (many l e) = rw (e) (mid_none of ds ys)
    go a (short l m e) = rw (e) (mid_none of ds ys)
    go a (bad l m j f e) = rw (e) (mid_none of ds ys)
    go a (good l m all e) = rw (e) (mid-ends of ds ys m)

-- whether an answer fills
fills-any : Answer ℕ → Bool
fills-any (is n) = true
fills-any (refused k) = false
fills-any (refused-with k i) = false

no-refusal : {n : ℕ} {a : Answer ℕ} → is n ≡ a → fills-any a ≡ false → ⊥
unfolding fills-any
no-refusal h f = subst T (ap fills-any h ∙ f) tt

-- what an answer that fills says: few days, room for as many records, and all in range
pub record AllFill (ds : List ℕ) (room : ℕ) : Type 0 where
  pub few : length ds ≤ 4096
  pub roomy : length ds ≤ room
  pub in-range : (i : ℕ) → i < length ds → DayInRange (get_or ds i 0)

pub all-fill : (ds : List ℕ) (room n : ℕ) → is n ≡ drawer_at ds room → AllFill ds room
unfolding fills-any
all-fill ds room n e = go (drawer_at ds room) (verdict ds room) e
  where
    go : (a : Answer ℕ) → Verdict ds room a → is n ≡ a → AllFill ds room
    go a (many l r) h = absurd (no-refusal {n = n} (h ∙ r) refl)
    go a (short l m r) h = absurd (no-refusal {n = n} (h ∙ r) refl)
    go a (bad l m j f r) h = absurd (no-refusal {n = n} (h ∙ r) refl)
    go a (good l m all r) h = record { few = l; roomy = m; in-range = all }

pub filled-all : {X : Type 0} (of : ℕ → X) (ds : List ℕ) (ys : List X) (n : ℕ) → is n ≡ drawer_at ds (length ys) →
    mid of ds ys (length ds) ≡ afterwards (drawer_at ds (length ys)) (λ n. map of ds) ys
filled-all of ds ys n e = rw (← e) (mid-ends of ds ys (all-fill ds (length ys) n e).roomy)

-- a drawer that comes back leaves the list as it was
pub left-alone : {X : Type 0} (of : ℕ → X) (ds : List ℕ) (ys : List X) (e : DrawerError) → said_filled (Err e) ≡ drawer_at ds (length ys) →
    ys ≡ afterwards (drawer_at ds (length ys)) (λ n. map of ds) ys
left-alone of ds ys (Refused why) h = rw (← h) refl
left-alone of ds ys (BadDay i) h = rw (← h) refl

-- an element that is put in, changed in place, and changed once more
pub changed_twice : {X : Type 0} (f g : X → X) (l : List X) (i : ℕ) (r z : X) → i < length l →
    let put = set l i r in
    let once = set put i (f (get_or put i z)) in
    set once i (g (get_or once i z)) ≡ set l i (g (f r))
changed_twice {X} f g l i r z h =
    ap (λ (v : List X). set v i (g (get_or v i z))) (set-set l i r (f (get_or (set l i r) i z)) ∙ ap (λ (x : X). set l i (f x)) (get_or-set_same l i r z h))
    ∙ set-set l i (f r) (g (get_or (set l i (f r)) i z))
    ∙ ap (λ (x : X). set l i (g x)) (get_or-set_same l i (f r) z h)
