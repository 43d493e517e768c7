-- `pam::writing::put_decimal` calls itself at a tenth: the measure is the number.
use Rattle.pam.proofs.writing.+put_decimal.Given as goal

abbrev pub decreases-put_decimal : goal.decreases-put_decimal
decreases-put_decimal l = l.n
