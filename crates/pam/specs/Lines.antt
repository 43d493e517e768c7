-- The lines of a header, and the tokens of a line. Definitions only.
-- Written from the PAM document, "THE LAYOUT": "Each line ends with and is delimited by a newline character", "Each header line consists of zero or more
-- whitespace-delimited tokens".
use Rattle.std.specs.Prelude.{ℕ, Bool, false, cond, not, List, [], ◌∷◌}
use Rattle.pam.specs.Text.{is_newline, is_white}

-- a line that a newline ends: its bytes without the newline, and all bytes behind that
pub record Line : Type 0 where
  pub bytes : List ℕ
  pub behind : List ℕ

-- a byte more at the front of the first line; the bytes behind the last newline are no line
abbrev pub onto_line : ℕ → List Line → List Line
onto_line b [] = []
onto_line b (l ∷ ls) = record { bytes = b ∷ l.bytes; behind = l.behind } ∷ ls

-- the lines that newlines end, in order (proofs/LineLaws: what they are)
unfoldable pub lines_of : List ℕ → List Line
lines_of [] = []
lines_of (b ∷ bs) = cond (is_newline b) (record { bytes = []; behind = bs } ∷ lines_of bs) (onto_line b (lines_of bs))

-- a token begins with the first byte
abbrev pub in_token : List ℕ → Bool
in_token [] = false
in_token (b ∷ bs) = not (is_white b)

-- a byte more at the front of the first token
abbrev pub onto_token : ℕ → List (List ℕ) → List (List ℕ)
onto_token b [] = (b ∷ []) ∷ []
onto_token b (t ∷ ts) = (b ∷ t) ∷ ts

-- the tokens: the longest runs of bytes that are not white space, in order (proofs/TokenLaws: what they are)
unfoldable pub tokens : List ℕ → List (List ℕ)
tokens [] = []
tokens (b ∷ bs) = cond (is_white b) (tokens bs) (cond (in_token bs) (onto_token b (tokens bs)) ((b ∷ []) ∷ tokens bs))
