-- A child that was started is a user transaction; and a top that was started stays one.
use Rattle.std.proofs.Common.{◌≡◌, ℕ, ◌+◌, ◌<◌, [], ◌∷◌, ◌++◌, length, sym, ap, ◌∙◌, subst, arith}
use Rattle.std.specs.Prelude.{Some, MatchOption}
use Rattle.std.proofs.lemmas.Bool.{le-leb}
use Rattle.qc_event.specs.Base.{Setting}
use Rattle.qc_event.specs.declared.event.Entry.{Entry}
use Rattle.qc_event.specs.declared.event.Event.{Event}
use Rattle.qc_event.specs.declared.event.Event.TheVariants as event
use Rattle.qc_event.specs.declared.event.Kind.{Kind}
use Rattle.qc_event.specs.declared.event.Kind.TheVariants as kind
use Rattle.qc_event.specs.History.{Past, Name, Begun, start, children}
use Rattle.qc_event.specs.Legal.{Legal}
use Rattle.qc_event.specs.Standing.{Started, IsUser}
use Rattle.qc_event.specs.Starts.{Stands}
use Rattle.qc_event.proofs.Lawful.{lawful, child_starts}
use Rattle.qc_event.proofs.LegalOrderly.{legal_orderly}
use Rattle.qc_event.proofs.OneEntry.{not_some, start_is}
use Rattle.qc_event.proofs.Options.{match_wider}
use Rattle.qc_desk.specs.declared.view.View.{View}
use Rattle.qc_desk.specs.Calling.{EnteredAs}
use Rattle.qc_desk.specs.Entries.{IsOlder, entry}
use Rattle.qc_desk.specs.Refusing.{against_child}
use Rattle.qc_desk.proofs.Entering.{started_later}
use Rattle.rows_desk.specs.Tops.{IsUserTop}

abbrev pub IsChild : Name → ℕ → ℕ → Name → Past → Event → Type 0
IsChild parent session body n past ev = (n ≡ parent ++ (length (children past parent) + 1) ∷ []) × (ev ≡ event.Start n (kind.User session body))

begun : (setting : Setting) (e : Entry) (past : Past) (p : Name) (j : ℕ) (k : Kind) → 0 < length p → e.event ≡ event.Start (p ++ j ∷ []) k → Legal setting (e ∷ past) → start (e ∷ past) (p ++ j ∷ []) ≡ Some (record { seat = e.seat; kind = k })
begun setting e past p j k pos is legal =
    let orderly = legal_orderly setting (e ∷ past) legal in
    let next : j ≡ length (children past p) + 1 = (child_starts past e p j pos (k, is) orderly.1).next in
    let law = lawful past orderly.0 in
    start_is e past (p ++ j ∷ []) k (not_some (start past (p ++ j ∷ [])) (λ h. let n = (law.number p j pos h).1 in omega (arith, n, next))) is

pub child_begun : (setting : Setting) (parent : Name) (session body : ℕ) (v w : View) (n : Name) → 0 < length parent → EnteredAs (against_child parent) (IsChild parent session body n) v w → Legal setting w.seen → Started w.seen n (λ b. IsUser b.kind)
child_begun setting parent session body v w n pos (before, ev, (named, is), since, none, same) legal =
    let j = length (children before parent) + 1 in
    let seen : w.seen ≡ entry v.number ev ∷ before = ap (λ (x : View). x.seen) same in
    let at : start (entry v.number ev ∷ before) (parent ++ j ∷ []) ≡ Some (record { seat = v.number; kind = kind.User session body }) =
    begun setting (entry v.number ev) before parent j (kind.User session body) pos (is ∙ ap (λ m. event.Start m (kind.User session body)) named) (subst (Legal setting) seen legal) in
    let here : start w.seen n ≡ Some (record { seat = v.number; kind = kind.User session body }) = ap (λ p. start p n) seen ∙ ap (start (entry v.number ev ∷ before)) named ∙ at in
    subst (λ o. MatchOption o ⊥ (λ (b : Begun). IsUser b.kind)) (sym here) tt

-- a user transaction may stand below a top
pub stands_below : (setting : Setting) (past : Past) (seat : ℕ) (top : Name) (session body : ℕ) → IsUserTop past top → Started past top (λ p. Stands setting seat p (length top + 1) (kind.User session body))
stands_below setting past seat top session body (one, user) =
    match_wider (start past top) (λ b. IsUser b.kind) (λ p. Stands setting seat p (length top + 1) (kind.User session body)) (λ b is. (is, le-leb (length top + 1) 16 (omega (arith, one)))) user

pub still_top : (before now : Past) (n : Name) → IsOlder before now → IsUserTop before n → IsUserTop now n
still_top before now n older (one, user) = (one, started_later before now n (λ b. IsUser b.kind) older user)
