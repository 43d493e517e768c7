-- `pam::writing::digits` calls itself at a tenth: the measure is the number.
use Rattle.pam.proofs.writing.+digits.Given as goal

abbrev pub decreases-digits : goal.decreases-digits
decreases-digits l = l.n
