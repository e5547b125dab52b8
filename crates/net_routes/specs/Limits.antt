-- How many nets a gap may have.
use Rattle.std.specs.Prelude.{ℕ, ◌^◌}

-- Slots are found for at most this many nets.
abbrev pub net_limit : ℕ
net_limit = 2 ^ 24

-- Neighbouring slots are exchanged in gaps of at most this many nets.
abbrev pub exchange_limit : ℕ
exchange_limit = 1024
