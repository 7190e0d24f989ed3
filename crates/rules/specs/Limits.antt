-- The limits that only the book knows, each number once. (01, The book, "Limits")
-- Assumes nothing.
use Rattle.std.specs.Prelude.{ℕ, ◌*◌, ◌^◌}

-- "capacity (the lent table's length) 4,096"
abbrev pub capacity_limit : ℕ
capacity_limit = 4096

-- "S 10^10"
abbrev pub size_limit : ℕ
size_limit = 10 ^ 10

-- "either net 4×10^18 up or down"
abbrev pub net_limit : ℕ
net_limit = 4 * 10 ^ 18

-- "up to 128 applications stand for the evening"
abbrev pub application_limit : ℕ
application_limit = 128

-- "product 0 to 15" (02, ask 4)
abbrev pub product_limit : ℕ
product_limit = 16

-- "due not 1 to 365 days ahead"
abbrev pub ahead_limit : ℕ
ahead_limit = 365
