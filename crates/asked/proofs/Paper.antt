-- The statements of specs/Paper, proved, each under its own name. Assumes nothing.
use Prim.Native.Nat.{ℕ}
use mathlib.Core.Path.{◌≡◌, refl, ap, sym, ◌∙◌}
use mathlib.Core.Bool.{Bool, true, false}
use mathlib.Core.Logic.{◌⊎◌, inl, inr}
use mathlib.Core.List.{List, [], ◌∷◌}
use lib.Dec.{eqb}
use borrow.Author.Tests.{ne_eqb}
use Rattle.fields.specs.Fields.{followed, joined}
use Rattle.forms.specs.Forms.{fields_in, field_at, same, admits, like, first_like, number_in, leap_in, move_in, slip_field_in, slip_mark_in}
use Rattle.forms.specs.Texts.{Text, bytes, texts_of, line}
use Rattle.forms.proofs.Spaces.{fields-joined, spaceless, words, fields-of-line}
use Rattle.forms.proofs.Saying.{
  itself,
  read_as,
  read_all,
  all-admitted,
  number_is,
  number-says,
  mark-is,
  mark-says,
  move-is,
  move-says,
  field_is,
  field-says,
  slip-mark-is,
  slip-mark-says,
}
use Rattle.asked.specs.declared.Query.{Query}
use Rattle.asked.specs.Asked.{Row, table, table_of, forms_of, forms, query_at, hashed, read_by}
use Rattle.asked.specs.Paper.{texts, written, WrittenIsRead, NoteIsRead, ElseUnreadable, OneQuery}

-- what each row reads, and what each row's query is written as
as_read : List (List ℕ) → List Row → List (List Text)
as_read fs [] = []
as_read fs (r ∷ rs) = read_all (fields_in r.form) 0 fs ∷ as_read fs rs

as_written : List Row → List (List Text)
as_written [] = []
as_written (r ∷ rs) = texts r.query ∷ as_written rs

-- they are the same in every row
rows_right : (fs : List (List ℕ)) → as_read fs (table_of itself fs) ≡ as_written (table_of itself fs)
unfolding as_read as_written table fields_in read_all read_as number_in leap_in move_in slip_field_in slip_mark_in
rows_right fs = refl

-- so parts that are like a form are the texts of its query
abbrev chosen : List Row → List (List ℕ) → Query
chosen rs fs = query_at rs (first_like (forms_of rs) fs)

row-like : (rs : List Row) (fs : List (List ℕ)) → as_read fs rs ≡ as_written rs → (chosen rs fs ≡ Query.Unreadable) ⊎ (fs ≡ texts_of (texts (chosen rs fs)))
unfolding as_read as_written query_at first_like forms_of
row-like [] fs e = inl refl
row-like (r ∷ rs) fs e = go (like (fields_in r.form) fs) refl (row-like rs fs (cc))
  where
    here : read_all (fields_in r.form) 0 fs ≡ texts r.query
    here = cc

    go : (x : Bool) → like (fields_in r.form) fs ≡ x → (chosen rs fs ≡ Query.Unreadable) ⊎ (fs ≡ texts_of (texts (chosen rs fs))) →
        (chosen (r ∷ rs) fs ≡ Query.Unreadable) ⊎ (fs ≡ texts_of (texts (chosen (r ∷ rs) fs)))
    go true h i = inr (rw (h) (all-admitted (fields_in r.form) fs h ∙ ap texts_of here))
    go false h i = rw (h) i

-- a line that does not begin with `#` is no note
no_note : (t : List ℕ) → ((u : List ℕ) → t ≡ 35 ∷ u → ⊥) → hashed t ≡ false
unfolding hashed
no_note [] h = refl
no_note (b ∷ t) h = ne_eqb b 35 (λ e. h t (ap (λ (x : ℕ). x ∷ t) e))

pub else-unreadable : ElseUnreadable
unfolding read_by forms forms_of table written line
else-unreadable t not-note no-query = rw (no_note t not-note) (go (row-like (table_of itself fs) fs (rows_right fs)))
  where
    fs : List (List ℕ)
    fs = fields_in t

    go : (chosen (table_of itself fs) fs ≡ Query.Unreadable) ⊎ (fs ≡ texts_of (texts (chosen (table_of itself fs) fs))) → chosen (table_of itself fs) fs ≡ Query.Unreadable
    go (inl e) = e
    go (inr e) = absurd (no-query (chosen (table_of itself fs) fs) (sym (fields-joined t) ∙ ap joined e))

pub note-is-read : NoteIsRead
unfolding read_by hashed
note-is-read t = refl

-- a line of texts is read as its texts are, where its word does not begin with `#`
word_first : (b : ℕ) (x : List ℕ) (ts : List Text) → eqb b 35 ≡ false → hashed (line (bytes (b ∷ x) ∷ ts)) ≡ false
unfolding line texts_of followed hashed
word_first b x [] e = e
word_first b x (u ∷ us) e = e

by : {q : Query} (b : ℕ) (x : List ℕ) (ts : List Text) → words (bytes (b ∷ x) ∷ ts) ≡ true → eqb b 35 ≡ false →
    query_at (table_of itself ((b ∷ x) ∷ texts_of ts)) (first_like forms ((b ∷ x) ∷ texts_of ts)) ≡ q → read_by itself (line (bytes (b ∷ x) ∷ ts)) ≡ q
unfolding read_by texts_of
by b x ts e n h = rw (word_first b x ts n, fields-of-line (bytes (b ∷ x)) ts e) h

nothing : read_by itself (line []) ≡ Query.Unreadable
unfolding read_by hashed query_at table first_like forms forms_of texts_of line fields_in like admits same
nothing = refl

note : read_by itself (line (texts Query.Note)) ≡ Query.Note
unfolding read_by hashed texts_of line followed
note = refl

pub written-is-read : WrittenIsRead
unfolding written words spaceless query_at table first_like forms forms_of texts_of fields_in field_at like admits same number_in leap_in move_in slip_field_in slip_mark_in
written-is-read Query.Unreadable = nothing
written-is-read Query.Note = note
written-is-read (Query.Place y) = by _ _ _ refl refl (simp (number_is, number-says, mark-is, mark-says, move-is, move-says, field_is, field-says, slip-mark-is, slip-mark-says))
written-is-read (Query.Year y) = by _ _ _ refl refl (simp (number_is, number-says, mark-is, mark-says, move-is, move-says, field_is, field-says, slip-mark-is, slip-mark-says))
written-is-read (Query.Month k) = by _ _ _ refl refl (simp (number_is, number-says, mark-is, mark-says, move-is, move-says, field_is, field-says, slip-mark-is, slip-mark-says))
written-is-read (Query.Quarter k q) = by _ _ _ refl refl (simp (number_is, number-says, mark-is, mark-says, move-is, move-says, field_is, field-says, slip-mark-is, slip-mark-says))
written-is-read (Query.Term y k) = by _ _ _ refl refl (simp (number_is, number-says, mark-is, mark-says, move-is, move-says, field_is, field-says, slip-mark-is, slip-mark-says))
written-is-read (Query.Conjunction p k) = by _ _ _ refl refl (simp (number_is, number-says, mark-is, mark-says, move-is, move-says, field_is, field-says, slip-mark-is, slip-mark-says))
written-is-read (Query.Next p d) = by _ _ _ refl refl (simp (number_is, number-says, mark-is, mark-says, move-is, move-says, field_is, field-says, slip-mark-is, slip-mark-says))
written-is-read (Query.Pair p) = by _ _ _ refl refl (simp (number_is, number-says, mark-is, mark-says, move-is, move-says, field_is, field-says, slip-mark-is, slip-mark-says))
written-is-read (Query.Day d) = by _ _ _ refl refl (simp (number_is, number-says, mark-is, mark-says, move-is, move-says, field_is, field-says, slip-mark-is, slip-mark-says))
written-is-read (Query.Date y k l d) = by _ _ _ refl refl (simp (number_is, number-says, mark-is, mark-says, move-is, move-says, field_is, field-says, slip-mark-is, slip-mark-says))
written-is-read (Query.Move y k l d z) = by _ _ _ refl refl (simp (number_is, number-says, mark-is, mark-says, move-is, move-says, field_is, field-says, slip-mark-is, slip-mark-says))
written-is-read (Query.Search r a b) = by _ _ _ refl refl (simp (number_is, number-says, mark-is, mark-says, move-is, move-says, field_is, field-says, slip-mark-is, slip-mark-says))
written-is-read (Query.Emend r a b) = by _ _ _ refl refl (simp (number_is, number-says, mark-is, mark-says, move-is, move-says, field_is, field-says, slip-mark-is, slip-mark-says))
written-is-read (Query.Clerk b k) = by _ _ _ refl refl (simp (number_is, number-says, mark-is, mark-says, move-is, move-says, field_is, field-says, slip-mark-is, slip-mark-says))
written-is-read (Query.Figures a b) = by _ _ _ refl refl (simp (number_is, number-says, mark-is, mark-says, move-is, move-says, field_is, field-says, slip-mark-is, slip-mark-says))

pub one-query : OneQuery
one-query p q e = sym (written-is-read p) ∙ ap (read_by itself) e ∙ written-is-read q
