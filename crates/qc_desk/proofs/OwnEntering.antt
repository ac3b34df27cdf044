-- What a client enters of its own accesses and managers by what was seen, whatever others entered since.
use Rattle.std.proofs.Common.{◌≡◌, ℕ, ◌≤◌, [], ◌∷◌, ◌++◌, length, refl, sym, ap, ◌∙◌, subst, arith}
use Rattle.std.specs.Prelude.{None, Some, MatchOption, IsTrue, is_some}
use Rattle.std.specs.Option.{option_or}
use Rattle.qc_config.specs.declared.tuple.Tuple.{Tuple}
use Rattle.qc_names.specs.Name as name
use Rattle.qc_event.specs.declared.event.Answer.{Answer}
use Rattle.qc_event.specs.declared.event.Answer.TheVariants as answer
use Rattle.qc_event.specs.declared.event.Ask.{Ask}
use Rattle.qc_event.specs.declared.event.Event.TheVariants as event
use Rattle.qc_event.specs.declared.event.How.{How}
use Rattle.qc_event.specs.declared.event.How.TheVariants.{Commit}
use Rattle.qc_event.specs.declared.event.Kind.{Kind}
use Rattle.qc_event.specs.declared.event.Kind.TheVariants as kind
use Rattle.qc_event.specs.declared.event.Why.{Why}
use Rattle.qc_event.specs.Base.{Setting}
use Rattle.qc_event.specs.Commits.{MayCommit, MayCommitAccess, MayCommitManager}
use Rattle.qc_event.specs.Dead.{dead}
use Rattle.qc_event.specs.History.{Past, Name, Begun, IsOpen, start, start_in, end, granted}
use Rattle.qc_event.specs.Legal.{Legal, Allowed, MayEnd}
use Rattle.qc_event.specs.Requests.{MayGiveUp}
use Rattle.qc_event.specs.Seats.{is_client}
use Rattle.qc_event.specs.Standing.{Started, IsUser, IsManager, IsGoing, open_child}
use Rattle.qc_event.specs.Users.{MayCommitUser, MayCommitUserOrTop}
use Rattle.qc_desk.specs.Entries.{AreOthers, IsSince, entry}
use Rattle.qc_desk.specs.Own.{IsOwnAccess, MayReplyOwn, MayAskOwn, CommitsOwn, IsComplete}
use Rattle.qc_desk.specs.Refusing.{if_ended, if_dead, if_open, against_commit, against_access}
use Rattle.qc_event.proofs.Later.{started_still}
use Rattle.qc_event.proofs.OneEntry.{none_before}
use Rattle.qc_event.proofs.Options.{match_wider, some_there}
use Rattle.qc_event.proofs.StillTold.{match_stays, some_stays, is_stays}
use Rattle.qc_event.proofs.Starting.{manager_name, user_short}
use Rattle.qc_desk.proofs.Begun.{NameHasRoom, not_root}
use Rattle.qc_desk.proofs.Entering.{not_ended, alive, closed}
use Rattle.qc_desk.proofs.OwnAsking as asking
use Rattle.qc_desk.proofs.OwnEnding as ending
use Rattle.qc_desk.proofs.OwnSince as since

module _ (setting : Setting) (past newer : Past) (seat : ℕ) (n : Name) (own : IsOwnAccess past seat n) (legal : Legal setting (newer ++ past)) (all : AreOthers seat newer) where
  abbrev later : Past
  later = newer ++ past

  abbrev IsAccess : Begun → Type 0
  IsAccess a = (a.seat ≡ seat) × (a.kind ≡ kind.Access)

  there : (b : Begun) × (start later n ≡ Some b) × IsAccess b
  there = some_there (start later n) IsAccess (started_still newer past n IsAccess own.started)

  open_now : IsOpen later n
  open_now = record { started = some_stays _ newer past own.is_open.started; not_ended = since.access_end_same setting past seat own.manager own.mine newer legal all n own.child ∙ own.is_open.not_ended }

  pub gone_allowed : (why : Why) → MayGiveUp past seat n why → Allowed setting later (entry seat (event.Gone n why))
  gone_allowed why may = ending.gives_up_now setting past newer seat own.manager own.mine legal all n own.child why may

  ends : (how : How) → MayEnd setting later seat n how (record { seat = seat; kind = kind.Access }) → Allowed setting later (entry seat (event.End n how))
  ends how may =
      let b : there.0 ≡ record { seat = seat; kind = kind.Access } = begun_is there.0 there.2 in
      subst (λ o. MatchOption o ⊥ (MayEnd setting later seat n how)) (sym (there.1 ∙ ap Some b)) may
    where
      begun_is : (b : Begun) → IsAccess b → b ≡ record { seat = seat; kind = kind.Access }
      begun_is b h = λ i. record { seat = h.0 i; kind = h.1 i }

  pub reply_allowed : (tuple : Tuple) → MayReplyOwn past seat n tuple → dead later n ≡ None → Allowed setting later (entry seat (event.End n (Commit (answer.Reply tuple))))
  reply_allowed tuple may alive = ends (Commit (answer.Reply tuple)) may_commit
    where
      may_commit : MayCommitAccess later seat n (answer.Reply tuple)
      may_commit = record {
        by_client = own.by_client;
        asked_here = match_stays _ newer past (λ a. a.seat ≡ seat) may.asked_here;
        going = record { is_open = open_now; alive = alive };
        reply = match_wider (granted later n) (λ g. g.grant.tuple ≡ tuple) (λ g. answer.Reply tuple ≡ answer.Reply g.grant.tuple) (λ g same. ap answer.Reply (sym same)) (match_stays _ newer past (λ g. g.grant.tuple ≡ tuple) may.reply);
      }

-- AFTER THE LOOK

pub ask_enters : (setting : Setting) (seat : ℕ) (seen now : Past) (ask : Ask) → Legal setting now → IsSince seat seen now → MayAskOwn setting seen seat (name.front ask.access) ask → against_access ask.access now ≡ None → Allowed setting now (entry seat (event.Ask ask))
ask_enters setting seat seen now ask legal s may none =
    subst (λ p. Allowed setting p (entry seat (event.Ask ask))) (sym s.1)
    (asking.access_may_ask setting seen s.0 seat (subst (Legal setting) s.1 legal) s.2 (name.front ask.access) ask may (ap (λ p. dead p ask.access) (sym s.1) ∙ alive now ask.access none))

pub gone_enters : (setting : Setting) (seat : ℕ) (seen now : Past) (n : Name) (why : Why) → Legal setting now → IsSince seat seen now → IsOwnAccess seen seat n → MayGiveUp seen seat n why → Allowed setting now (entry seat (event.Gone n why))
gone_enters setting seat seen now n why legal s own may =
    subst (λ p. Allowed setting p (entry seat (event.Gone n why))) (sym s.1)
    (gone_allowed setting seen s.0 seat n own (subst (Legal setting) s.1 legal) s.2 why may)

pub reply_enters : (setting : Setting) (seat : ℕ) (seen now : Past) (n : Name) (tuple : Tuple) → Legal setting now → IsSince seat seen now → IsOwnAccess seen seat n → MayReplyOwn seen seat n tuple → against_access n now ≡ None
    → Allowed setting now (entry seat (event.End n (Commit (answer.Reply tuple))))
reply_enters setting seat seen now n tuple legal s own may none =
    subst (λ p. Allowed setting p (entry seat (event.End n (Commit (answer.Reply tuple))))) (sym s.1)
    (reply_allowed setting seen s.0 seat n own (subst (Legal setting) s.1 legal) s.2 tuple may (ap (λ p. dead p n) (sym s.1) ∙ alive now n none))

-- COMMITS OF USER TRANSACTIONS AND MANAGERS

commits_user : (past : Past) (seat : ℕ) (n : Name) (given : Answer) → 2 ≤ length n → MayCommitUser past seat n given → MayCommitUserOrTop past seat n given
commits_user past seat [] given long may = may
commits_user past seat (x ∷ []) given long may = absurd (omega arith)
commits_user past seat (x ∷ y ∷ r) given long may = may

pub commit_room : (setting : Setting) (seat : ℕ) (seen now : Past) (n : Name) (given : Answer) → Legal setting now → IsSince seat seen now → Started seen n (λ b. CommitsOwn setting seen seat n given b b.kind) → NameHasRoom n
commit_room setting seat seen now n given legal s may =
    let there = some_there (start seen n) (λ b. CommitsOwn setting seen seat n given b b.kind) may in
    let begun : start now n ≡ Some there.0 = ap (λ p. start p n) s.1 ∙ is_stays (λ e. start_in n e.seat e.event) s.0 seen there.0 there.1 in
    record { below_a_top = not_root setting now n there.0 legal begun; room = by_kind there.0 there.0.kind refl begun there.2 }
  where
    by_kind : (b : Begun) (k : Kind) → b.kind ≡ k → start now n ≡ Some b → CommitsOwn setting seen seat n given b k → length n ≤ 17
    by_kind b (kind.User session body) of is h = let l = user_short setting now n b legal is (subst IsUser (sym of) tt) in omega (arith, l)
    by_kind b kind.Access of is h = absurd h
    by_kind b (kind.Read rec) of is h = (manager_name setting now n b legal is (subst IsManager (sym of) tt)).short
    by_kind b (kind.Write rec value) of is h = (manager_name setting now n b legal is (subst IsManager (sym of) tt)).short
    by_kind b (kind.Reconf rec config) of is h = (manager_name setting now n b legal is (subst IsManager (sym of) tt)).short

pub commit_enters : (setting : Setting) (seat : ℕ) (seen now : Past) (n : Name) (given : Answer) → Legal setting now → IsSince seat seen now → IsTrue (is_client seat) → Started seen n (λ b. CommitsOwn setting seen seat n given b b.kind)
    → against_commit n now ≡ None → Allowed setting now (entry seat (event.End n (Commit given)))
commit_enters setting seat seen now n given legal s client may none =
    subst (λ o. MatchOption o ⊥ (MayEnd setting now seat n (Commit given))) (sym begun) (by_kind there.0 there.0.kind refl there.1 there.2)
  where
    there : (b : Begun) × (start seen n ≡ Some b) × CommitsOwn setting seen seat n given b b.kind
    there = some_there (start seen n) (λ b. CommitsOwn setting seen seat n given b b.kind) may

    begun : start now n ≡ Some there.0
    begun = ap (λ p. start p n) s.1 ∙ is_stays (λ e. start_in n e.seat e.event) s.0 seen there.0 there.1

    first : (if_ended now n ≡ None) × (option_or (if_dead now n) (if_open now n) ≡ None)
    first = none_before (if_ended now n) (option_or (if_dead now n) (if_open now n)) none

    second : (if_dead now n ≡ None) × (if_open now n ≡ None)
    second = none_before (if_dead now n) (if_open now n) first.1

    going : IsGoing now n
    going = record { is_open = record { started = ap is_some begun; not_ended = not_ended now n first.0 }; alive = alive now n second.0 }

    manager : (b : Begun) → IsManager b.kind → start seen n ≡ Some b → IsComplete setting seen seat n given b → MayCommitManager setting now seat n b given
    manager b manages is own =
        subst (λ p. MayCommitManager setting p seat n b given) (sym s.1)
        (ending.commits_now setting seen s.0 seat n (subst (λ o. MatchOption o ⊥ (λ (x : Begun). IsManager x.kind × (x.seat ≡ seat))) (sym is) (manages, sym own.own_seat)) (subst (Legal setting) s.1 legal) s.2 b given client own (ap is_some is)
        (ap (λ p. end p n) (sym s.1) ∙ not_ended now n first.0) (ap (λ p. dead p n) (sym s.1) ∙ alive now n second.0) (ap (λ p. open_child p n) (sym s.1) ∙ closed now n second.1))

    by_kind : (b : Begun) (k : Kind) → b.kind ≡ k → start seen n ≡ Some b → CommitsOwn setting seen seat n given b k → MayCommit setting now seat n b given b.kind
    by_kind b (kind.User session body) of is h = subst (MayCommit setting now seat n b given) (sym of) (commits_user now seat n given h.0 record { by_client = client; going = going; children_ended = closed now n second.1; nothing = h.1 })
    by_kind b kind.Access of is h = absurd h
    by_kind b (kind.Read rec) of is h = subst (MayCommit setting now seat n b given) (sym of) (manager b (subst IsManager (sym of) tt) is h)
    by_kind b (kind.Write rec value) of is h = subst (MayCommit setting now seat n b given) (sym of) (manager b (subst IsManager (sym of) tt) is h)
    by_kind b (kind.Reconf rec config) of is h = subst (MayCommit setting now seat n b given) (sym of) (manager b (subst IsManager (sym of) tt) is h)
