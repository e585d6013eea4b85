-- `fields::Text::field` meets its contract: what is written is what was put. Assumes nothing.
use Rattle.std.proofs.Common.{ℕ, List, ◌≡◌, ◌∷◌, ◌++◌, length, length-take-le, ap, sym, ◌∙◌, arith}
use Rattle.fields.specs.Fields.{decimal}
use Rattle.fields.proofs.Decimals.{decimal-short}
use Rattle.fields.proofs.Puts.{put-taken}
use Rattle.fields.proofs.text.Text.field.Goals as goal

pub returns-clause-text : goal.returns-clause-text
returns-clause-text g c =
    let t = c.self.inside in
    let e : length c.args.self.now ≡ t.len = ap length (sym c.self.view_is) ∙ length-take-le t.len t.bytes (omega (arith, c.self.invariant)) in
    put-taken c.put_next-self-inside.ensures (omega (arith, c.requires, e, decimal-short 9 c.args.n (omega arith))) ∙ ap (λ (l : List ℕ). l ++ (32 ∷ decimal c.args.n)) c.self.view_is
