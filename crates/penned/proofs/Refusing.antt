-- A refused call that prints: the reason, and nothing changed. Assumes nothing.
use Rattle.std.specs.Prelude.{Result, Err}
use Prim.Native.Nat.{ℕ}
use mathlib.Core.Path.{◌≡◌, refl, sym, subst}
use mathlib.Core.List.{List}
use Rattle.rule.specs.Reasons.{Answer, refused, reason_number}
use Rattle.rule.specs.declared.Reason.{Reason}
use Rattle.penned.specs.Promises.{Printed}

pub printed-as : {a b : Answer (List ℕ)} {o o' : List ℕ} {r : Result ℕ Reason} → a ≡ b → Printed a o r o' → Printed b o r o'
printed-as {o = o} {o'} {r} e p = subst (λ (x : Answer (List ℕ)). Printed x o r o') e p

pub printed-refused : {a : Answer (List ℕ)} (o : List ℕ) (r : Reason) → a ≡ refused (reason_number r) → Printed a o (Err r) o
printed-refused o r e = printed-as (sym e) (record { answer = refl; buffer = refl })
