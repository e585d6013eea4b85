-- Lines that are no query, and lines that are, by computing. Assumes nothing.
use mathlib.Core.Path.{◌≡◌, refl}
use Rattle.fields.specs.Fields.{word}
use Rattle.fields.specs.Paper.{value_from}
use Rattle.forms.specs.Forms.{fields_in, field_at, same, all_digits, is_decimal, is_back, is_mark, admits, like, first_like, number_in, leap_in, move_in, move_of, slip_field_in, slip_mark_in}
use Rattle.asked.specs.declared.Query.{Query}
use Rattle.asked.specs.Asked.{table, forms_of, forms, query_at, hashed, read_by}
use Rattle.asked.specs.Paper.{read}

pub minus-nought : read (word "MOVE 1 1 - 1 -0") ≡ Query.Unreadable
unfolding value_from fields_in field_at same all_digits is_decimal is_back is_mark admits like first_like number_in leap_in move_in move_of slip_field_in slip_mark_in table forms_of forms query_at hashed read_by
minus-nought = refl

pub double-space : read (word "DAY  5") ≡ Query.Unreadable
unfolding value_from fields_in field_at same all_digits is_decimal is_back is_mark admits like first_like number_in leap_in move_in move_of slip_field_in slip_mark_in table forms_of forms query_at hashed read_by
double-space = refl

pub a-day : read (word "DAY 39857") ≡ Query.Day 39857
unfolding value_from fields_in field_at same all_digits is_decimal is_back is_mark admits like first_like number_in leap_in move_in move_of slip_field_in slip_mark_in table forms_of forms query_at hashed read_by
a-day = refl

pub a-planet-next : read (word "NEXT 5 7") ≡ Query.Next 5 7
unfolding value_from fields_in field_at same all_digits is_decimal is_back is_mark admits like first_like number_in leap_in move_in move_of slip_field_in slip_mark_in table forms_of forms query_at hashed read_by
a-planet-next = refl
