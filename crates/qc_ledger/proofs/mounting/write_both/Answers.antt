-- One record behind another.
use Rattle.std.proofs.Common.{◌∷◌, [], ◌++◌, ℕ, List, sym, ap, ◌∙◌, subst, Err}
use Rattle.qc_journal.specs.Image.{HasAt, bodies_of}
use Rattle.qc_journal.specs.Journal.{disk_of, limit_of}
use Rattle.qc_journal.specs.declared.fault.Fault.TheVariants.{Full}
use Rattle.qc_journal.proofs.Moments.{continues, grows_on}
use Rattle.qc_ledger.specs.Image.{IsFull, made_where_none}
use Rattle.qc_ledger.specs.Mounted.{HasSome}
use Rattle.qc_ledger.proofs.Writing.{full_back, full_front, on_ok, room_both, same_err, some_back, some_front}
use Rattle.qc_ledger.proofs.mounting.write_both.Goals as goal

pub returns-in_err-make-clause-full : goal.returns-in_err-make-clause-full
returns-in_err-make-clause-full g c = λ place is k.
    let bodies = bodies_of c.args.bodies.now.items in
    full_front (limit_of c.args.journal.now) bodies (made_where_none c.args.made.items bodies) (c.args.epoch.items ∷ []) place
    (c.make.ensures.full place (c.in_err-make.was ∙ ap Err (same_err c.from_residual.result c.in_err-make.field-0.0 (Full place) c.from_residual.ensures.1 is)) k)

pub returns-clause-room : goal.returns-clause-room
returns-clause-room g c =
    let bodies = bodies_of c.args.bodies.now.items in
    let made = made_where_none c.args.made.items bodies in
    let mid = c.make.new.journal in
    let one = c.in_ok-make.ensures in
    on_ok c.write.result (λ room k.
    room_both (limit_of c.args.journal.now) bodies made (c.args.epoch.items ∷ []) (one.room k)
    (λ place full. room (one.keeps k) place
    (subst (λ n. IsFull n (bodies_of c.make.new.bodies.items) (c.args.epoch.items ∷ []) place) (sym one.limit)
    (subst (λ (b : List (List ℕ)). IsFull (limit_of c.args.journal.now) b (c.args.epoch.items ∷ []) place) (sym one.bodies) full))))
    c.write.ensures.room

pub returns-clause-full : goal.returns-clause-full
returns-clause-full g c = λ place is k.
    let bodies = bodies_of c.args.bodies.now.items in
    let made = made_where_none c.args.made.items bodies in
    let mid = c.make.new.journal in
    let one = c.in_ok-make.ensures in
    full_back (limit_of c.args.journal.now) bodies made (c.args.epoch.items ∷ []) place (one.room k)
    (subst (λ n. IsFull n (bodies ++ made) (c.args.epoch.items ∷ []) place) one.limit
    (subst (λ (b : List (List ℕ)). IsFull (limit_of mid) b (c.args.epoch.items ∷ []) place) one.bodies
    (c.write.ensures.full place is (one.keeps k))))

pub returns-clause-any_moment : goal.returns-clause-any_moment
returns-clause-any_moment g c = λ k.
    let bodies = bodies_of c.args.bodies.now.items in
    let made = made_where_none c.args.made.items bodies in
    let next = c.args.epoch.items ∷ [] in
    let mid = c.make.new.journal in
    let one = c.in_ok-make.ensures in
    continues g.D.Disk.view (disk_of c.args.journal.now) (disk_of mid) (disk_of c.write.new.journal) (HasSome bodies made) (HasSome (bodies_of c.make.new.bodies.items) next) (HasSome bodies (made ++ next))
    (one.any_moment k) (c.write.ensures.any_moment (one.keeps k))
    (some_front bodies made next)
    (λ image has. some_back bodies made next image (subst (λ (b : List (List ℕ)). HasSome b next image) one.bodies has))

pub returns-clause-grows : goal.returns-clause-grows
returns-clause-grows g c = λ k index had.
    let mid = c.make.new.journal in
    let one = c.in_ok-make.ensures in
    let now = one.keeps k in
    grows_on g.D.Disk.view (disk_of c.args.journal.now) (disk_of mid) (disk_of c.write.new.journal) (HasAt index had) _ (one.any_moment k).later
    (one.grows k index had) (c.write.ensures.any_moment now) (c.write.ensures.grows now index had)
