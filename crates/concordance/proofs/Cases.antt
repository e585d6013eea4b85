-- Verdicts at named texts, at which a wrong definition shows at once. Assumes nothing.
use Rattle.std.proofs.Common.{◌≡◌, ℕ, [], ◌∷◌, ◌++◌, refl}
use Rattle.rule.specs.Reasons.{is}
use Rattle.fields.specs.Fields.{word, digits, decimal}
use Rattle.fields.specs.Paper.{value_from}
use Rattle.facts.proofs.Computing.{facts-computed}
use Rattle.forms.specs.Forms.{fields_in, field_at, same, all_digits, is_decimal, is_mark, number_in}
use Rattle.concordance.specs.Text.{lines_of}
use Rattle.concordance.specs.Verdicts.{is_number, is_eclipse_mark, all_pass, readable, count_in, first_wrong, verdict_of, verdicts_of}
use Rattle.concordance.specs.Promises.{verdicts_into}

-- what fields are computed with, and verdicts
unfoldable pub fields_read : ℕ
unfolding digits decimal value_from fields_in field_at same all_digits is_decimal is_mark number_in
fields_read = 0

unfoldable pub judging : ℕ
unfolding fields_read facts-computed lines_of is_number is_eclipse_mark all_pass readable count_in first_wrong verdict_of verdicts_of verdicts_into
judging = 0

-- month 129 is the second of two big months
pub big-pair : verdicts_into (word "129 5 - 30 30 E") 3 ≡ is (0 ∷ [])
unfolding judging
big-pair = refl

pub short-month : verdicts_into (word "129 5 - 30 29 E") 3 ≡ is (5 ∷ [])
unfolding judging
short-month = refl

pub two-lines : verdicts_into (word "129 5 - 30 30 E" ++ (10 ∷ word "1")) 3 ≡ is (0 ∷ 7 ∷ [])
unfolding judging
two-lines = refl

pub two-wrong : verdicts_into (word "129 5 - 31 30 -") 3 ≡ is (4 ∷ [])
unfolding judging
two-wrong = refl

pub leading-zero : verdicts_into (word "0129 5 - 30 30 E") 3 ≡ is (7 ∷ [])
unfolding judging
leading-zero = refl

pub carriage-return : verdicts_into (word "129 5 - 30 30 E" ++ (13 ∷ [])) 3 ≡ is (7 ∷ [])
unfolding judging
carriage-return = refl

pub tab : verdicts_into (word "129" ++ (9 ∷ word "5 - 30 30 E")) 3 ≡ is (7 ∷ [])
unfolding judging
tab = refl

pub word-before : verdicts_into (word "MONTH 129 5 - 30 30 E") 3 ≡ is (7 ∷ [])
unfolding judging
word-before = refl

pub space-after : verdicts_into (word "129 5 - 30 30 E ") 3 ≡ is (7 ∷ [])
unfolding judging
space-after = refl

pub two-spaces : verdicts_into (word "129  5 - 30 30 E") 3 ≡ is (7 ∷ [])
unfolding judging
two-spaces = refl

pub ten-digits : verdicts_into (word "129 5 - 1000000000 30 E") 3 ≡ is (7 ∷ [])
unfolding judging
ten-digits = refl

pub nine-digits : verdicts_into (word "129 5 - 999999999 30 E") 3 ≡ is (4 ∷ [])
unfolding judging
nine-digits = refl

pub nought : verdicts_into (word "129 0 - 30 30 E") 3 ≡ is (2 ∷ [])
unfolding judging
nought = refl

pub out_of_range : verdicts_into (word "507600 5 - 30 30 E") 3 ≡ is (1 ∷ [])
unfolding judging
out_of_range = refl

pub newline-last : verdicts_into (word "129 5 - 30 30 E" ++ (10 ∷ [])) 3 ≡ is (0 ∷ [])
unfolding judging
newline-last = refl

pub empty-line : verdicts_into (10 ∷ word "129 5 - 30 30 E") 3 ≡ is (7 ∷ 0 ∷ [])
unfolding judging
empty-line = refl

pub empty-text : verdicts_into [] 3 ≡ is []
unfolding judging
empty-text = refl
