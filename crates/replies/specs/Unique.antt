-- That a promise leaves one result. Definitions only.
-- Written from document 01, "How firm each promise is": "It is proved that two results which both satisfy it are equal".
use Rattle.std.specs.Prelude.{◌≡◌}

-- two results that both satisfy the promise are equal
abbrev pub Unique : {A : Type 0} → (A → Type 0) → Type 0
Unique {A} promise = (x y : A) → promise x → promise y → x ≡ y
