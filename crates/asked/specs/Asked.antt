-- What a line asks: the table of forms, and the query of each. All numbers may be of any size. Assumes nothing.
use Rattle.std.specs.Prelude.{ℕ, zero, suc, Bool, false, cond, List, [], ◌∷◌, eqb}
use Prim.Native.String.{String}
use Rattle.fields.specs.Fields.{word}
use Rattle.forms.specs.Forms.{fields_in, first_like, number_in, leap_in, move_in, slip_field_in, slip_mark_in}
use Rattle.asked.specs.declared.Slip.{Slip}
use Rattle.asked.specs.declared.Places.{Places}
use Rattle.asked.specs.declared.Query.{Query}

-- what stands in the places of a line: a slip in 1 to 6; numbers (n), a mark (m) and a move (s), as forms have them there. c says what
-- becomes of a number
module _ (c : ℕ → ℕ) (fs : List (List ℕ)) where
  abbrev pub slip_in : Slip
  slip_in =
      record {
        year_name = slip_field_in c fs 1;
        month_number = slip_field_in c fs 2;
        leap_mark = slip_mark_in fs 3;
        day_of_month = slip_field_in c fs 4;
        day_name = slip_field_in c fs 5;
        first_name = slip_field_in c fs 6;
      }

  abbrev pub places_in : Places
  places_in =
      record {
        n1 = c (number_in fs 1);
        n2 = c (number_in fs 2);
        m3 = leap_in fs 3;
        n4 = c (number_in fs 4);
        s5 = move_in c fs 5;
        n7 = c (number_in fs 7);
        n8 = c (number_in fs 8);
      }

-- a form, and the query of a line that is like it
pub record Row : Type 0 where
  pub form : List ℕ
  pub query : Query

abbrev row : String → Query → Row
row f q = record { form = word f; query = q }

-- the table of forms: `n` is a number, `m` a mark, `s` a number that may start with `-`, `f` and `g` a number and a mark that may be `?`
unfoldable pub table : Places → Slip → List Row
table p slip =
    row "PLACE n" (Query.Place p.n1)
    ∷ row "YEAR n" (Query.Year p.n1)
    ∷ row "MONTH n" (Query.Month p.n1)
    ∷ row "QUARTER n n" (Query.Quarter p.n1 p.n2)
    ∷ row "TERM n n" (Query.Term p.n1 p.n2)
    ∷ row "CONJUNCTION n n" (Query.Conjunction p.n1 p.n2)
    ∷ row "NEXT n n" (Query.Next p.n1 p.n2)
    ∷ row "PAIR n" (Query.Pair p.n1)
    ∷ row "DAY n" (Query.Day p.n1)
    ∷ row "DATE n n m n" (Query.Date p.n1 p.n2 p.m3 p.n4)
    ∷ row "MOVE n n m n s" (Query.Move p.n1 p.n2 p.m3 p.n4 p.s5)
    ∷ row "SEARCH f f g f f f n n" (Query.Search slip p.n7 p.n8)
    ∷ row "EMEND f f g f f f n n" (Query.Emend slip p.n7 p.n8)
    ∷ row "CLERK n n" (Query.Clerk p.n1 p.n2)
    ∷ row "FIGURES n n" (Query.Figures p.n1 p.n2)
    ∷ []

-- the table, with what stands in the places of a line
abbrev pub table_of : (ℕ → ℕ) → List (List ℕ) → List Row
table_of c fs = table (places_in c fs) (slip_in c fs)

-- the forms alone, and the query in a place
unfoldable pub forms_of : List Row → List (List ℕ)
forms_of [] = []
forms_of (r ∷ rs) = r.form ∷ forms_of rs

unfoldable pub forms : List (List ℕ)
forms = forms_of (table_of (λ n. n) [])

unfoldable pub query_at : List Row → ℕ → Query
query_at [] k = Query.Unreadable
query_at (r ∷ rs) zero = r.query
query_at (r ∷ rs) (suc k) = query_at rs k

-- "A line that begins with `#`": it is a note where it "has at most 200 bytes", which is asked of every line (crate `queries`)
unfoldable pub hashed : List ℕ → Bool
hashed [] = false
hashed (b ∷ s) = eqb b 35

-- what a line asks: nothing, where it begins with `#`; else the query of the first form that it is like
unfoldable pub read_by : (ℕ → ℕ) → List ℕ → Query
read_by c s = cond (hashed s) Query.Note (query_at (table_of c (fields_in s)) (first_like forms (fields_in s)))
