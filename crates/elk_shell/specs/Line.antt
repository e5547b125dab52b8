-- Texts in one line.
use Rattle.std.specs.Prelude.{ℕ, ◌==◌, if◌then◌else◌}

-- a byte as it stands in a line: a blank in place of a line feed
abbrev pub in_line : ℕ → ℕ
in_line byte = if byte == 10 then 32 else byte
