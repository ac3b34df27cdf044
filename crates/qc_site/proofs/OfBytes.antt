-- Bodies that are of bytes.
use Rattle.std.proofs.Common.{ℕ, ◌<◌, inl, inr, List, length, sym, subst, arith}
use Rattle.std.specs.List.{All}
use Rattle.std.proofs.lemmas.Bool.{cases_lt}
use Rattle.std.proofs.lemmas.List.{get_or_past}
use Rattle.qc_codec.proofs.Exact.{IsBytes}

-- each number of a list is a byte
abbrev pub Bytes : List ℕ → Type 0
Bytes bytes = All (λ (byte : ℕ). byte < 256) bytes

pub are_bytes : (bytes : List ℕ) → Bytes bytes → IsBytes bytes
are_bytes bytes all i = elim (cases_lt i (length bytes)) [
  | inl within ↦ all i 0 within
  | inr past_all ↦ subst (λ (n : ℕ). n < 256) (sym (get_or_past bytes i 0 past_all)) (omega arith)
]
