use Rattle.std.proofs.Common.{sym}
use Rattle.qc_event.specs.Users as users
use Rattle.qc_history.proofs.Marked.{none_above}
use Rattle.qc_history.proofs.marks.Marks.reach.Goals as goal

pub returns-then-at-ge-SESSIONS : goal.returns-then-at-ge-SESSIONS
returns-then-at-ge-SESSIONS c = λ setting past was legal. sym (none_above setting past c.args.session (users.top_number c.args.name.now) legal c.if-at-ge-SESSIONS.true)
