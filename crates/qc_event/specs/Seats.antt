-- Under which seats entries stand, and how tops are named.
use Rattle.std.specs.Prelude.{ℕ, ◌==◌, ◌+◌, ◌*◌, ◌^◌, Bool, ◌||◌, nat_lt, List, [], ◌∷◌}

-- the seat of the ledger, under which tops commit
abbrev pub ledger_seat : ℕ
ledger_seat = 1

-- the seat of a copy, under which it grants and refuses
abbrev pub copy_seat : ℕ → ℕ
copy_seat copy = copy + 2

-- the first seat of clients
abbrev pub client_seat : ℕ
client_seat = 18

-- Whether a seat is a client's, under which sessions act: 0, or above the seats of the ledger and of sixteen copies.
abbrev pub is_client : ℕ → Bool
is_client seat = (seat == 0) || nat_lt (copy_seat 15) seat

-- the number of a top by its place in an epoch, both counted from 1
abbrev pub number_in : ℕ → ℕ → ℕ
number_in epoch place = epoch * 2 ^ 32 + place

-- the name of that top
abbrev pub top_name : ℕ → ℕ → List ℕ
top_name epoch place = number_in epoch place ∷ []
