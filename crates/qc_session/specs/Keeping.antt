-- What a client keeps of its pass, and of the marks that it made.
use Rattle.std.specs.Prelude.{List}
use Rattle.qc_board.specs.Boards.{Mark}
use Rattle.qc_desk.specs.declared.view.View.{View as Pass}
use Rattle.qc_desk.specs.Rules.{AreKin, numbers}
use Rattle.qc_session.specs.Marking.{KnowsMarks}
use Rattle.qc_session.specs.Session.{AreHigh}
use Rattle.qc_session.specs.Tidy.{AreTidy}

-- The pass of a client that knows these marks: none of its numbers is the ledger's or a copy's, what those entered that
-- were joined into it is known, and under each of its numbers the entries are tidy and their marks are among these.
pub record IsClientPass (v : Pass) (marks : List Mark) : Type 0 where
  pub high : AreHigh (numbers v)
  pub kin : AreKin v.kin v.seen
  pub tidy : ∥ AreTidy (numbers v) v.seen ∥₁
  pub marks_known : ∥ KnowsMarks (numbers v) v.seen marks ∥₁
