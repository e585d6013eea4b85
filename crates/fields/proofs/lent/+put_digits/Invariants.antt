-- `fields::lent::put_digits` meets its contract: at each call the number is a tenth. Assumes nothing.
use Rattle.fields.proofs.lent.+put_digits.Given as goal

abbrev pub decreases-put_digits : goal.decreases-put_digits
decreases-put_digits l = l.n
