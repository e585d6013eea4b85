-- Laws of puts into a lent buffer: one after the other, of nothing, and of so many turns of a loop. Assumes nothing.
use Prim.Native.Nat.{ℕ, ◌+◌, ◌*◌, ◌≤◌}
use native.Mathlib.Nat.{mul-suc}
use native.Mathlib.Numerals.{add-one}
use native.Mathlib.Omega.{arith}
use mathlib.Core.Path.{◌≡◌, refl, ap, ap₂, sym, ◌∙◌, subst}
use mathlib.Core.List.{List, [], ◌++◌}
use lib.ListN.{length, take, drop, length-append}
use lib.Seq.{sets-eq, length-sets, length-take-le}
use Rattle.std.proofs.Math.Seq.{take-append_seam}
use Rattle.rule.proofs.Stores.{sets-append}
use Rattle.fields.specs.Fields.{Put}

-- a buffer keeps its length
pub put-kept : {w a b : ℕ} {o xs o' : List ℕ} → Put w o a xs o' b → length o' ≡ length o
put-kept {o = o} {xs} p = ap length p.stored ∙ length-sets o _ xs

-- so many at most are more at most
pub wide : {w v a b : ℕ} {o xs o' : List ℕ} → w ≤ v → Put w o a xs o' b → Put v o a xs o' b
wide h p = record { stored = p.stored; next = p.next; few = omega (arith, p.few, h) }

-- one put after the other
pub then : {w v a b d : ℕ} {o xs o' ys o'' : List ℕ} → Put w o a xs o' b → Put v o' b ys o'' d → Put (w + v) o a (xs ++ ys) o'' d
then {w} {v} {a} {b} {d} {o} {xs} {o'} {ys} {o''} p q =
    record {
      stored = q.stored ∙ rw (p.stored, p.next) (sym (sets-append xs ys o a));
      next = omega (arith, q.next, p.next, length-append xs ys);
      few = omega (arith, q.few, p.few);
    }

-- what stands up to the next place: what stood in front, and what was put
pub put-taken : {w a b : ℕ} {o xs o' : List ℕ} → Put w o a xs o' b → a + length xs ≤ length o → take b o' ≡ take a o ++ xs
put-taken {w} {a} {b} {o} {xs} {o'} p h =
    let f = take a o ++ xs in
    let e : length f ≡ a + length xs = length-append (take a o) xs ∙ ap (λ (k : ℕ). k + length xs) (length-take-le a o (omega (arith, h))) in
    let all : o' ≡ f ++ drop (a + length xs) o = p.stored ∙ sets-eq xs o a h in
    ap₂ (λ (k : ℕ) (l : List ℕ). take k l) (p.next ∙ sym e) all ∙ take-append_seam f (drop (a + length xs) o)

-- nothing put
pub put-none : (o : List ℕ) (a : ℕ) → Put 0 o a [] o a
put-none o a = record { stored = refl; next = omega arith; few = omega arith }

-- the same bytes, said otherwise
pub put_as : {w a b : ℕ} {o xs ys o' : List ℕ} → xs ≡ ys → Put w o a xs o' b → Put w o a ys o' b
put_as {w} {a} {b} {o} {xs} {ys} {o'} e p = subst (λ (zs : List ℕ). Put w o a zs o' b) e p

-- a loop that puts w bytes at most at each turn: the next turn
pub turn : {w a b d : ℕ} {o xs o' ys zs o'' : List ℕ} (i : ℕ) → zs ≡ xs ++ ys → Put (w * i) o a xs o' b → Put w o' b ys o'' d → Put (w * (i + 1)) o a zs o'' d
turn {w} i e p q =
    wide (omega (arith, mul-suc w i, ap (λ (k : ℕ). w * k) (add-one i))) (put_as (sym e) (then p q))
