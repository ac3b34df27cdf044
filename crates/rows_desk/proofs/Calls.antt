-- What a call leaves, whether its event was entered or it was refused.
use Rattle.std.proofs.Common.{◌≡◌, ◌<◌, ◌≤◌, sym, ap, ◌∙◌, subst}
use Rattle.std.specs.Prelude.{Option, Result, Ok, Err, OnOk, IfErr}
use Rattle.qc_event.specs.declared.event.Event.{Event}
use Rattle.qc_event.specs.History.{Past, Name}
use Rattle.qc_event.specs.Standing.{IsUser}
use Rattle.qc_desk.specs.declared.refusal.DeskNo.{DeskNo}
use Rattle.qc_desk.specs.declared.view.View.{View}
use Rattle.qc_desk.specs.Calling.{Entered, Refused}
use Rattle.qc_desk.specs.Entries.{IsOlder}
use Rattle.qc_desk.specs.Rules.{IsClient}
use Rattle.qc_desk.proofs.AskedTops.{entered_later}
use Rattle.qc_desk.proofs.Entering.{started_later}
use Rattle.rows_desk.specs.Tops.{AreUsers}
use Rattle.rows_desk.proofs.Children.{still_top}

client_as : (v w : View) → w.live ≡ v.live → w.number ≡ v.number → IsClient v → IsClient w
client_as v w live number client = (live ∙ client.0, subst (λ n. 1 ≤ n → 17 < n) (sym number) client.1)

-- the pass is still that of a client, and has seen what it had seen before
pub either_way : {T : Type 0} (r : Result T DeskNo) (against : Past → Option DeskNo) (ev : Event) (v w : View) → OnOk r (Entered against ev v w) → IfErr r (Refused against v w) → IsClient v → IsClient w × IsOlder v.seen w.seen
either_way (Ok x) against ev v w ok err client =
    (client_as v w (ap (λ (u : View). u.live) ok.3) (ap (λ (u : View). u.number) ok.3) client, entered_later against ev v w ok)
either_way (Err why) against ev v w ok err client =
    let looked = err.0 in
    (client_as v w (ap (λ (u : View). u.live) looked.1) (ap (λ (u : View). u.number) looked.1) client, (looked.0.0, looked.0.1))

pub still_users : (before now : Past) (top n : Name) → IsOlder before now → AreUsers before top n → AreUsers now top n
still_users before now top n older (is_top, user) = (still_top before now top older is_top, started_later before now n (λ b. IsUser b.kind) older user)
