-- What a commit makes, and what the ledger's answer tells of a ready top.
use Rattle.std.proofs.Common.{◌≡◌, ℕ, ◌≤◌, inl, inr, Bool, true, false, [], ◌∷◌, ◌++◌, length, refl, sym, ap, ◌∙◌, subst, arith}
use mathlib.Core.Bool.{true≢false}
use Rattle.std.specs.Prelude.{Option, None, Some, MatchOption, is_some, not, ◌||◌, if◌then◌else◌}
use Rattle.std.specs.List.{list_any}
use Rattle.std.specs.Option.{option_map_or}
use Rattle.std.proofs.lemmas.Bool.{or_left, or_right}
use Rattle.qc_event.specs.Base.{Setting}
use Rattle.qc_event.specs.Commits.{MayCommit}
use Rattle.qc_event.specs.declared.event.Answer.{Answer}
use Rattle.qc_event.specs.declared.event.Answer.TheVariants as answer
use Rattle.qc_event.specs.declared.event.Entry.{Entry}
use Rattle.qc_event.specs.declared.event.Event.{Event}
use Rattle.qc_event.specs.declared.event.Event.TheVariants as event
use Rattle.qc_event.specs.declared.event.How.{How}
use Rattle.qc_event.specs.declared.event.How.TheVariants.{Commit, Abort}
use Rattle.qc_event.specs.declared.event.Kind.{Kind}
use Rattle.qc_event.specs.declared.event.Kind.TheVariants as kind
use Rattle.qc_event.specs.declared.event.Why.{Why}
use Rattle.qc_event.specs.declared.event.Why.TheVariants as why
use Rattle.qc_event.specs.History.{Past, Name, Begun, IsOpen, earliest, same, start, end, is_ready, ready_in}
use Rattle.qc_event.specs.Legal.{Legal, MayEnd, MayHappen}
use Rattle.qc_event.specs.Requests.{is_why, was_unable}
use Rattle.qc_event.specs.Requests as requests
use Rattle.qc_event.specs.Standing.{IsUser, Started}
use Rattle.qc_event.proofs.Absent.{same_itself}
use Rattle.qc_event.proofs.Lawful.{some_how, started_some, started_wider}
use Rattle.qc_event.proofs.OneEntry.{end_step, here_some, ready_step, some_or_none}
use Rattle.qc_event.proofs.StillTold.{some_stays}
use Rattle.qc_refine.proofs.Restoring.LoggedTops.{top_user}
use Rattle.qc_carry.specs.Walk.{Walk}
use Rattle.qc_managers.specs.Carrying.{entry}
use Rattle.qc_ledger.specs.declared.fault.LedgerNo.{LedgerNo}
use Rattle.qc_ledger.specs.declared.fault.LedgerNo.TheVariants as ledger
use Rattle.qc_desk.specs.declared.view.View.{View}
use Rattle.qc_desk.specs.Own.{CommitsOwn}
use Rattle.qc_script.specs.Calls.{Committed, NotCommitted, by_client, is_over, unable_in}
use Rattle.qc_script.specs.Client.{Client, Made}
use Rattle.qc_system.specs.Kept.{HasRefused}
use Rattle.qc_session.specs.Acting.{log_no}
use Rattle.qc_session.specs.Clients.{IsFor}
use Rattle.qc_session.proofs.Own.{made_one}

-- A READY TOP THAT HAS ENDED

commit_nothing : (setting : Setting) (past : Past) (seat x : ℕ) (b : Begun) (given : Answer) (k : Kind) → IsUser k → MayCommit setting past seat (x ∷ []) b given k → given ≡ answer.Nothing
commit_nothing setting past seat x b given (kind.User session body) user may = may.nothing
commit_nothing setting past seat x b given (kind.Read rec) user may = absurd user
commit_nothing setting past seat x b given (kind.Write rec value) user may = absurd user
commit_nothing setting past seat x b given (kind.Reconf rec config) user may = absurd user
commit_nothing setting past seat x b given kind.Access user may = absurd user

end_nothing : (setting : Setting) (past : Past) (seat x : ℕ) (how : How) (o : Option Begun) → MatchOption o ⊥ (λ b. IsUser b.kind) → is_ready past (x ∷ []) ≡ true → MatchOption o ⊥ (MayEnd setting past seat (x ∷ []) how) → how ≡ Commit answer.Nothing
end_nothing setting past seat x how None user ready may = absurd may
end_nothing setting past seat x (Commit given) (Some b) user ready may = ap Commit (commit_nothing setting past seat x b given b.kind user may)
end_nothing setting past seat x (Abort c) (Some b) user ready may = absurd (true≢false (sym may.not_ready ∙ ap not ready))

-- it has been committed
pub ready_ended : (setting : Setting) (past : Past) (x : ℕ) → Legal setting past → is_ready past (x ∷ []) ≡ true → is_some (end past (x ∷ [])) ≡ true → end past (x ∷ []) ≡ Some (Commit answer.Nothing)
ready_ended setting [] x legal ready over = absurd (true≢false (sym over))
ready_ended setting (e ∷ past) x legal ready over =
    let how = some_how (end (e ∷ past) (x ∷ [])) over in
    elim (ready_step e past (x ∷ []) ready) [
      | inl was ↦ elim (end_step e past (x ∷ []) how.0 how.1) [
        | inl old ↦ how.1 ∙ sym old ∙ ready_ended setting past x legal.0 was (ap is_some old)
        | inr new ↦ how.1 ∙ ap Some (by_end how.0 new.1 was)
      ]
      | inr now ↦ elim (end_step e past (x ∷ []) how.0 how.1) [
        | inl old ↦
            let opens : IsOpen past (x ∷ []) = (subst (MayHappen setting past e.seat) now legal.1).is_open in
            absurd (some_or_none (end past (x ∷ [])) (ap is_some old) opens.not_ended)
        | inr new ↦ absurd (differ how.0 (sym now ∙ new.1))
      ]
    ]
  where
    differ : (how : How) → event.Ready (x ∷ []) ≡ event.End (x ∷ []) how → ⊥
    differ how same = cc

    by_end : (how : How) → e.event ≡ event.End (x ∷ []) how → is_ready past (x ∷ []) ≡ true → how ≡ Commit answer.Nothing
    by_end how is was =
        let may : MayHappen setting past e.seat (event.End (x ∷ []) how) = subst (MayHappen setting past e.seat) is legal.1 in
        end_nothing setting past e.seat x how (start past (x ∷ [])) (top_user setting past x legal.0 (started_some (MayEnd setting past e.seat (x ∷ []) how) (start past (x ∷ [])) may)) was may

-- WHO WAS UNABLE

told_unable : (n : Name) (y : Why) (ev : Event) → option_map_or (is_why y) (requests.unable_in n ev) false ≡ true → unable_in n ev ≡ true
told_unable n y (event.Unable m x) told = by_test (same m n) told
  where
    by_test : (b : Bool) → option_map_or (is_why y) (if b then Some x else None) false ≡ true → b ≡ true
    by_test true h = refl
    by_test false h = h
told_unable n y (event.Start m k) told = absurd (true≢false (sym told))
told_unable n y (event.Ask ask) told = absurd (true≢false (sym told))
told_unable n y (event.Gone m x) told = absurd (true≢false (sym told))
told_unable n y (event.Granted copy grant) told = absurd (true≢false (sym told))
told_unable n y (event.Refused m copy refusal) told = absurd (true≢false (sym told))
told_unable n y (event.Mark by session) told = absurd (true≢false (sym told))
told_unable n y (event.Ready m) told = absurd (true≢false (sym told))
told_unable n y (event.End m how) told = absurd (true≢false (sym told))

any_unable : (past : Past) (n : Name) (y : Why) → was_unable past n y ≡ true → list_any (λ (e : Entry). unable_in n e.event) past ≡ true
any_unable [] n y was = absurd (true≢false (sym was))
any_unable (e ∷ past) n y was = by_first (option_map_or (is_why y) (requests.unable_in n e.event) false) refl (λ h. any_unable past n y h) was
  where
    by_first : (b : Bool) → option_map_or (is_why y) (requests.unable_in n e.event) false ≡ b → (was_unable past n y ≡ true → list_any (λ (x : Entry). unable_in n x.event) past ≡ true) → (b || was_unable past n y) ≡ true
        → list_any (λ (x : Entry). unable_in n x.event) (e ∷ past) ≡ true
    by_first true is rest h = or_left _ _ (told_unable n y e.event is)
    by_first false is rest h = or_right _ _ (rest h)

unable_over : (past : Past) (n : Name) (y : Why) → was_unable past n y ≡ true → is_over past n ≡ true
unable_over past n y was = or_right (is_some (end past n)) _ (any_unable past n y was)

-- A TOP

one_long : (x : ℕ) → length (x ∷ []) ≡ 1
one_long x = refl

module _ (setting : Setting) (v w : View) (c : Client) (for : IsFor setting v w c) (legal : Legal setting w.seen) (x : ℕ) (walk : Walk v w (entry v.number (event.Ready (x ∷ [])) ∷ [])) where
  readied : Made c (by_client c (event.Ready (x ∷ [])) ∷ []) v.seen w.seen
  readied = made_one setting v w c for legal (event.Ready (x ∷ [])) walk

  pub top_committed : is_ready w.seen (x ∷ []) ≡ true → is_some (end w.seen (x ∷ [])) ≡ true → Committed c (x ∷ []) v.seen w.seen
  top_committed ready over = (readied, ready_ended setting w.seen x legal ready over)

  pub top_uncommitted : (no : LedgerNo) → HasRefused w.seen (x ∷ []) no → NotCommitted c (x ∷ []) v.seen w.seen (log_no no)
  top_uncommitted ledger.Disk refused = (refl, readied, unable_over w.seen (x ∷ []) why.Down refused)
  top_uncommitted (ledger.Image bad) refused = absurd refused
  top_uncommitted (ledger.Full place) refused = (refl, readied, unable_over w.seen (x ∷ []) why.Full refused)
  top_uncommitted (ledger.Short s) refused = (inr (refl, readied), refused)

-- a top that is ready stays so
pub ready_later : (newer past : Past) (n : Name) → is_ready past n ≡ true → is_ready (newer ++ past) n ≡ true
ready_later newer past n ready = some_stays (λ (e : Entry). ready_in n e.event) newer past ready

pub ready_seen : (ev : Event) (n : Name) (before : Past) (s : ℕ) → ev ≡ event.Ready n → is_ready (entry s ev ∷ before) n ≡ true
ready_seen ev n before s is = here_some (earliest (λ (e : Entry). ready_in n e.event) before) (ready_in n ev) (ap (λ x. is_some (ready_in n x)) is ∙ ap (λ (b : Bool). is_some (if b then Some tt else None)) (same_itself n))

-- BELOW A TOP

-- a user transaction below a top may be asked to commit
pub user_commits : (setting : Setting) (past : Past) (seat : ℕ) (n : Name) → 2 ≤ length n → Started past n (λ b. IsUser b.kind) → Started past n (λ b. CommitsOwn setting past seat n answer.Nothing b b.kind)
user_commits setting past seat n long user = started_wider (λ b. IsUser b.kind) (λ b. CommitsOwn setting past seat n answer.Nothing b b.kind) (start past n) (λ b is. by_kind b b.kind is) user
  where
    by_kind : (b : Begun) (k : Kind) → IsUser k → CommitsOwn setting past seat n answer.Nothing b k
    by_kind b (kind.User session body) is = (long, refl)
    by_kind b (kind.Read rec) is = absurd is
    by_kind b (kind.Write rec value) is = absurd is
    by_kind b (kind.Reconf rec config) is = absurd is
    by_kind b kind.Access is = absurd is

pub below_committed : (setting : Setting) (v w : View) (c : Client) (for : IsFor setting v w c) (legal : Legal setting w.seen) (n : Name) → 2 ≤ length n → Walk v w (entry v.number (event.End n (Commit answer.Nothing)) ∷ []) → Committed c n v.seen w.seen
below_committed setting v w c for legal [] long walk = absurd (omega (arith, long))
below_committed setting v w c for legal (x ∷ []) long walk = absurd (omega (arith, long))
below_committed setting v w c for legal (x ∷ y ∷ r) long walk = made_one setting v w c for legal (event.End (x ∷ y ∷ r) (Commit answer.Nothing)) walk
