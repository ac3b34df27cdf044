-- What became of a request is kept as what was told of it.
use Rattle.qc_managers.proofs.placing.hear.Goals as goal

pub returns-in-Reply : goal.returns-in-Reply
returns-in-Reply c = λ config phase told is. rw c.in-Reply.is (c.add.ensures c.in-Reply.field-0 config phase told is)

pub returns-in-Blocked : goal.returns-in-Blocked
returns-in-Blocked c = λ config phase told is. rw c.in-Blocked.is (c.blocked.ensures config phase told is)

pub returns-in-Gone : goal.returns-in-Gone
returns-in-Gone c = λ config phase told is. rw c.in-Gone.is (c.miss.ensures config phase told is)
