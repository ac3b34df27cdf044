-- What becomes of passes as a client gets a branch, and takes one in.
use Rattle.std.specs.Prelude.{◌≡◌, ◌<◌, [], ◌∷◌}
use Rattle.qc_desk.specs.declared.view.View.{View}
use Rattle.qc_desk.specs.Entries.{IsSince, entries_of}
use Rattle.qc_desk.specs.Rules.{IsNewTo, joined, knows, pass}

-- A pass was split: the new one has a client's number that is new to it, has seen the same, and has entered nothing.
pub record IsBranch (v w branch : View) : Type 0 where
  pub number : 17 < branch.number
  pub fresh : branch ≡ pass branch.number v.seen
  pub left : w ≡ record v { out = branch.number ∷ v.out }
  pub other : IsNewTo v branch.number
  pub none : entries_of branch.number v.seen ≡ []

-- A pass took another in, and has then seen what both had. Neither entered anything meanwhile.
pub record HasTaken (v other w : View) : Type 0 where
  pub taken : w ≡ knows w.seen (joined v other)
  pub since : IsSince v.number v.seen w.seen
  pub other_since : IsSince other.number other.seen w.seen
