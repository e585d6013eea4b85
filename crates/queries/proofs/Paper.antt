-- The statements of specs/Paper, proved, each under its own name. Assumes nothing.
use Rattle.std.specs.Prelude.{Bool, Option, Some, None}
use Prim.Native.Nat.{◌≤◌}
use native.Mathlib.Omega.{arith}
use native.Mathlib.Decide.{dec_le}
use mathlib.Core.Path.{◌≡◌, ap, sym, ◌∙◌}
use mathlib.Core.Bool.{true, false}
use mathlib.Core.List.{◌∷◌}
use lib.ListN.{length, take}
use lib.Seq.{take_all, length-take-le}
use lib.IntN.{pos, negsuc}
use borrow.Author.Tests.{le-leb}
use Rattle.reading.specs.declared.Field.{Field}
use Rattle.reading.specs.declared.Field.TheVariants.{Known, Unread}
use Rattle.fields.specs.Fields.{followed}
use Rattle.forms.specs.Texts.{texts_of, line}
use Rattle.asked.specs.declared.Slip.{Slip}
use Rattle.asked.specs.declared.Query.{Query}
use Rattle.asked.specs.Paper.{written}
use Rattle.asked.proofs.Paper.{written-is-read, note-is-read, else-unreadable as read-else}
use Rattle.queries.specs.Queries.{unreadable, answered, answer_to}
use Rattle.queries.specs.Paper.{EachQueryLiterally, WrittenIsAnswered, NoteAsItStands, ElseUnreadable, TooLong, FrontIsEnough}
use Rattle.queries.proofs.Cutting as cutting

pub written-is-answered : WrittenIsAnswered
unfolding answer_to
written-is-answered q h = rw (le-leb (length (written q)) 200 h) (ap (answered (written q)) (written-is-read q))

-- a slip of six fields
abbrev slip : Field → Field → Option Bool → Field → Field → Field → Slip
slip a b l c d e =
    record {
      year_name = a;
      month_number = b;
      leap_mark = l;
      day_of_month = c;
      day_name = d;
      first_name = e;
    }

pub each-query-literally : EachQueryLiterally
unfolding written line texts_of followed
each-query-literally =
    record {
      place = λ y. written-is-answered (Query.Place y);
      year = λ y. written-is-answered (Query.Year y);
      month = λ n. written-is-answered (Query.Month n);
      quarter = λ n q. written-is-answered (Query.Quarter n q);
      term = λ y k. written-is-answered (Query.Term y k);
      conjunction = λ p k. written-is-answered (Query.Conjunction p k);
      next = λ p d. written-is-answered (Query.Next p d);
      pair = λ p. written-is-answered (Query.Pair p);
      day = λ d. written-is-answered (Query.Day d);
      date = λ y k m. written-is-answered (Query.Date y k false m);
      leap-date = λ y k m. written-is-answered (Query.Date y k true m);
      move = λ y k m n. written-is-answered (Query.Move y k false m (pos n));
      move-back = λ y k m n. written-is-answered (Query.Move y k true m (negsuc n));
      search = λ a b c d e first last. written-is-answered (Query.Search (slip (Known a) (Known b) (Some true) (Known c) (Known d) (Known e)) first last);
      ordinary-search = λ a first last. written-is-answered (Query.Search (slip (Known a) Unread (Some false) Unread Unread Unread) first last);
      unread-search = λ first last. written-is-answered (Query.Search (slip Unread Unread None Unread Unread Unread) first last);
      emend = λ a b c d e first last. written-is-answered (Query.Emend (slip (Known a) (Known b) (Some true) (Known c) (Known d) (Known e)) first last);
      ordinary-emend = λ a first last. written-is-answered (Query.Emend (slip (Known a) Unread (Some false) Unread Unread Unread) first last);
      unread-emend = λ first last. written-is-answered (Query.Emend (slip Unread Unread None Unread Unread Unread) first last);
      clerk = λ b k. written-is-answered (Query.Clerk b k);
      figures = λ first last. written-is-answered (Query.Figures first last);
    }

pub note-as-it-stands : NoteAsItStands
unfolding answer_to
note-as-it-stands t h = rw (le-leb (length (35 ∷ t)) 200 h) (ap (answered (35 ∷ t)) (note-is-read t))

pub too_long : TooLong
too_long s h = cutting.too_long s h

pub else-unreadable : ElseUnreadable
unfolding answer_to
else-unreadable s not-note no-query = go (dec_le (length s) 200)
  where
    go : Dec (length s ≤ 200) → answer_to s ≡ unreadable
    go (yes h) = rw (le-leb (length s) 200 h) (ap (answered s) (read-else s not-note no-query))
    go (no h) = too_long s (omega (arith, h))

pub front-is-enough : FrontIsEnough
front-is-enough s = go (dec_le (length s) 200)
  where
    go : Dec (length s ≤ 200) → answer_to (take 201 s) ≡ answer_to s
    go (yes h) = ap answer_to (take_all 201 s (omega (arith, h)))
    go (no h) = too_long (take 201 s) (omega (arith, h, length-take-le 201 s (omega (arith, h)))) ∙ sym (too_long s (omega (arith, h)))
