-- What an entry under another seat leaves of a manager and of its accesses.
use Rattle.std.proofs.Common.{◌≡◌, ℕ, true, [], ◌∷◌, ◌≤◌, length, arith, refl, sym, ap, ◌∙◌, subst, inl, inr}
use Rattle.std.specs.Prelude.{Option, None, Some, MatchOption, is_some}
use Rattle.std.specs.Option.{option_or}
use Rattle.std.proofs.lemmas.Bool.{false_from_ne_true}
use Rattle.qc_names.specs.Name as name
use Rattle.qc_event.specs.declared.event.Answer.{Answer}
use Rattle.qc_event.specs.declared.event.Cause.{Cause}
use Rattle.qc_event.specs.declared.event.Entry.{Entry}
use Rattle.qc_event.specs.declared.event.Event.{Event}
use Rattle.qc_event.specs.declared.event.Event.TheVariants as event
use Rattle.qc_event.specs.declared.event.How.{How}
use Rattle.qc_event.specs.declared.event.How.TheVariants.{Commit, Abort}
use Rattle.qc_event.specs.declared.event.Kind.{Kind}
use Rattle.qc_event.specs.declared.event.Kind.TheVariants as kind
use Rattle.qc_event.specs.Aborts.{Licensed, AccessCause}
use Rattle.qc_event.specs.Base.{Setting}
use Rattle.qc_event.specs.Commits.{MayCommit, MayCommitAccess}
use Rattle.qc_event.specs.History.{Past, Name, Begun, Asked, same, start, end, end_in, child_in, ask_below, ask_in, asked, gone_in, gone, is_child}
use Rattle.qc_event.specs.Legal.{Legal, Allowed, MayHappen, MayEnd}
use Rattle.qc_event.specs.Manager.{result}
use Rattle.qc_event.specs.Requests.{MayAsk}
use Rattle.qc_event.specs.Standing.{IsManager, Started}
use Rattle.qc_event.specs.Starts.{Stands, Starts}
use Rattle.qc_event.proofs.Absent.{same_is, if_not}
use Rattle.qc_event.proofs.AskedAccess.{asking}
use Rattle.qc_event.proofs.BelowTops.{next_below}
use Rattle.qc_event.proofs.KindsApart.{user_or_manager}
use Rattle.qc_event.proofs.LastNumber.{child_front, child_last, length_last}
use Rattle.qc_event.proofs.LateRefusals as late
use Rattle.qc_event.proofs.Lawful.{Lawful, lawful, started_wider}
use Rattle.qc_event.proofs.LegalOrderly.{legal_orderly}
use Rattle.qc_event.proofs.OneEntry.{first_is, started_stays}
use Rattle.qc_event.proofs.Options.{some_there, still}
use Rattle.qc_event.proofs.Orderly.{Belongs}
use Rattle.qc_event.proofs.Starting.{manager_name}
use Rattle.qc_desk.specs.Own.{IsMine}

-- WHO ENDS A MANAGER

commit_seat : (setting : Setting) (past : Past) (seat : ℕ) (n : Name) (b : Begun) (given : Answer) (k : Kind) → IsManager k → MayCommit setting past seat n b given k → seat ≡ b.seat
commit_seat setting past seat n b given (kind.Read rec) manager may = may.own_seat
commit_seat setting past seat n b given (kind.Write rec value) manager may = may.own_seat
commit_seat setting past seat n b given (kind.Reconf rec config) manager may = may.own_seat
commit_seat setting past seat n b given (kind.User session body) manager may = absurd manager
commit_seat setting past seat n b given kind.Access manager may = absurd manager

abort_seat : (setting : Setting) (past : Past) (seat : ℕ) (n : Name) (b : Begun) (c : Cause) (k : Kind) → IsManager k → Licensed setting past seat n b k c → seat ≡ b.seat
abort_seat setting past seat n b c (kind.Read rec) manager may = may.1
abort_seat setting past seat n b c (kind.Write rec value) manager may = may.1
abort_seat setting past seat n b c (kind.Reconf rec config) manager may = may.1
abort_seat setting past seat n b c (kind.User session body) manager may = absurd manager
abort_seat setting past seat n b c kind.Access manager may = absurd manager

end_seat : (setting : Setting) (past : Past) (seat : ℕ) (n : Name) (how : How) (b : Begun) → IsManager b.kind → MayEnd setting past seat n how b → seat ≡ b.seat
end_seat setting past seat n (Commit given) b manager may = commit_seat setting past seat n b given b.kind manager may
end_seat setting past seat n (Abort c) b manager may = abort_seat setting past seat n b c b.kind manager may.licensed

both : {A : Type 0} (P Q : A → Type 0) (o : Option A) → ((x : A) → P x → Q x → ⊥) → MatchOption o ⊥ P → MatchOption o ⊥ Q → ⊥
both P Q None apart p q = p
both P Q (Some x) apart p q = apart x p q

-- WHO ASKED

-- the manager of an access that asked was started under the seat of the request
pub asked_seat : (setting : Setting) (past : Past) (n : Name) (a : Asked) → Legal setting past → asked past n ≡ Some a → Started past (name.front n) (λ m. m.seat ≡ a.seat)
asked_seat setting [] n a legal is = absurd cc
asked_seat setting (e ∷ past) n a legal is = started_stays e past (name.front n) (λ m. m.seat ≡ a.seat) (elim (first_is (asked past n) (ask_in n e.seat e.event) a is) [
  | inl old ↦ asked_seat setting past n a legal.0 old
  | inr new ↦
      let at = asking n e.seat e.event a new.1 in
      let may : MayAsk setting past a.seat a.ask = subst (λ seat. MayAsk setting past seat a.ask) at.same_seat (subst (MayHappen setting past e.seat) at.asks legal.1) in
      subst (λ x. Started past (name.front x) (λ m. m.seat ≡ a.seat)) at.of_name may.manager_started
])

-- WHAT ANOTHER'S ENTRY LEAVES

under_manager : (setting : Setting) (seat : ℕ) (p : Begun) (d : ℕ) (k : Kind) → IsManager p.kind → Stands setting seat p d k → seat ≡ p.seat
under_manager setting seat p d kind.Access manager h = h.1
under_manager setting seat p d (kind.User session body) manager h = absurd (user_or_manager p.kind h.0 manager)
under_manager setting seat p d (kind.Read rec) manager h = absurd (user_or_manager p.kind h.0 manager)
under_manager setting seat p d (kind.Write rec value) manager h = absurd (user_or_manager p.kind h.0 manager)
under_manager setting seat p d (kind.Reconf rec config) manager h = absurd (user_or_manager p.kind h.0 manager)

module _ (setting : Setting) (e : Entry) (past : Past) (seat : ℕ) (m : Name) (other : e.seat ≡ seat → ⊥) (legal : Legal setting past) (may : Allowed setting past e) (mine : IsMine past seat m) where
  long : 2 ≤ length m
  long = let there = some_there (start past m) (λ b. IsManager b.kind × (b.seat ≡ seat)) mine in (manager_name setting past m there.0 legal there.1 there.2.0).below_a_top

  -- who started under the entry's seat is not this manager
  not_by : (n : Name) → n ≡ m → Started past n (λ b. b.seat ≡ e.seat) → ⊥
  not_by n is at = both (λ b. b.seat ≡ e.seat) (λ b. IsManager b.kind × (b.seat ≡ seat)) (start past m) (λ b x y. other (sym x ∙ y.1)) (subst (λ x. Started past x (λ b. b.seat ≡ e.seat)) is at) mine

  pub no_end : end_in m e.event ≡ None
  no_end = by_event e.event may
    where
      clash : (how : How) → Started past m (MayEnd setting past e.seat m how) → ⊥
      clash how ends = both (MayEnd setting past e.seat m how) (λ b. IsManager b.kind × (b.seat ≡ seat)) (start past m) (λ b x y. other (end_seat setting past e.seat m how b y.0 x ∙ y.1)) ends mine

      by_event : (ev : Event) → MayHappen setting past e.seat ev → end_in m ev ≡ None
      by_event (event.End n how) h = if_not (same n m) (Some how) (false_from_ne_true (same n m) (λ is. clash how (subst (λ x. Started past x (MayEnd setting past e.seat x how)) (same_is n m is) h)))
      by_event _ h = refl

  pub no_child : child_in m e.event ≡ None
  no_child = by_event e.event may
    where
      clash : (c : Name) (k : Kind) → is_child m c ≡ true → Starts setting past e.seat c k → ⊥
      clash c k is h =
          let l = child_last m c is in
          let next = next_below setting past e.seat c k (omega (arith, long, ap length l.1, length_last m l.0)) h in
          both (λ p. Stands setting e.seat p (length c) k) (λ b. IsManager b.kind × (b.seat ≡ seat)) (start past m) (λ b x y. other (under_manager setting e.seat b (length c) k y.0 x ∙ y.1))
          (subst (λ x. Started past x (λ p. Stands setting e.seat p (length c) k)) (child_front m c is) next.stands) mine

      by_event : (ev : Event) → MayHappen setting past e.seat ev → child_in m ev ≡ None
      by_event (event.Start c k) h = if_not (is_child m c) (Some c) (false_from_ne_true (is_child m c) (λ is. clash c k is h))
      by_event _ h = refl

  pub no_ask : ask_below m e.event ≡ None
  no_ask = by_event e.event may
    where
      by_event : (ev : Event) → MayHappen setting past e.seat ev → ask_below m ev ≡ None
      by_event (event.Ask ask) h = if_not (is_child m ask.access) (Some ask) (false_from_ne_true (is_child m ask.access) (λ is. not_by (name.front ask.access) (child_front m ask.access is) h.manager_started))
      by_event _ h = refl

  module _ (c : Name) (child : is_child m c ≡ true) where
    pub no_request : ask_in c e.seat e.event ≡ None
    no_request = by_event e.event may
      where
        by_event : (ev : Event) → MayHappen setting past e.seat ev → ask_in c e.seat ev ≡ None
        by_event (event.Ask ask) h = if_not (same ask.access c) _ (false_from_ne_true (same ask.access c) (λ is. not_by (name.front ask.access) (ap name.front (same_is ask.access c is) ∙ child_front m c child) h.manager_started))
        by_event _ h = refl

    -- a request of the access is not the entry's client's
    not_asked_by : MatchOption (asked past c) ⊥ (λ a. a.seat ≡ e.seat) → ⊥
    not_asked_by at =
        let there = some_there (asked past c) (λ a. a.seat ≡ e.seat) at in
        not_by (name.front c) (child_front m c child) (started_wider (λ b. b.seat ≡ there.0.seat) (λ b. b.seat ≡ e.seat) (start past (name.front c)) (λ b x. x ∙ there.2) (asked_seat setting past c there.0 legal there.1))

    pub no_giving_up : gone_in c e.event ≡ None
    no_giving_up = by_event e.event may
      where
        by_event : (ev : Event) → MayHappen setting past e.seat ev → gone_in c ev ≡ None
        by_event (event.Gone a why) h = if_not (same a c) (Some why) (false_from_ne_true (same a c) (λ is. not_asked_by (subst (λ x. MatchOption (asked past x) ⊥ (λ q. q.seat ≡ e.seat)) (same_is a c is) h.asked_here)))
        by_event _ h = refl

    pub no_access_end : end_in c e.event ≡ None
    no_access_end = by_event e.event may
      where
        law : Lawful past
        law = lawful past (legal_orderly setting past legal)

        front_is : name.front c ≡ m
        front_is = child_front m c child

        by_parent : (p : Begun) (k : Kind) → IsManager p.kind → Belongs p k → k ≡ kind.Access
        by_parent p kind.Access manager h = refl
        by_parent p (kind.User session body) manager h = absurd (user_or_manager p.kind h manager)
        by_parent p (kind.Read rec) manager h = absurd (user_or_manager p.kind h manager)
        by_parent p (kind.Write rec value) manager h = absurd (user_or_manager p.kind h manager)
        by_parent p (kind.Reconf rec config) manager h = absurd (user_or_manager p.kind h manager)

        by_option : (k : Kind) (o : Option Begun) → MatchOption o ⊥ (λ b. IsManager b.kind × (b.seat ≡ seat)) → MatchOption o ⊥ (λ p. Belongs p k) → k ≡ kind.Access
        by_option k None a h = absurd h
        by_option k (Some p) a h = by_parent p k a.0 h

        -- a started child of a manager is an access
        access : (b : Begun) → start past c ≡ Some b → b.kind ≡ kind.Access
        access b is =
            let l = child_last m c child in
            let under : Started past c (λ x. Started past m (λ p. Belongs p x.kind)) =
            subst (λ x. is_some (start past x) ≡ true → Started past x (λ y. Started past m (λ p. Belongs p y.kind))) (sym l.1) (law.under m l.0 (omega (arith, long))) (ap is_some is) in
            by_option b.kind (start past m) mine (subst (λ o. MatchOption o ⊥ (λ (x : Begun). Started past m (λ p. Belongs p x.kind))) is under)

        by_kind : (how : How) (b : Begun) (k : Kind) → k ≡ kind.Access → b.kind ≡ k → MayEnd setting past e.seat c how b → ⊥
        by_kind (Commit given) b k at is h =
            let may_commit : MayCommitAccess past e.seat c given = subst (λ x. MayCommit setting past e.seat c b given x) (is ∙ at) h in
            not_asked_by may_commit.asked_here
        by_kind (Abort x) b k at is h =
            let licence : AccessCause past c x × Started past (name.front c) (λ p. e.seat ≡ p.seat) = subst (λ y. Licensed setting past e.seat c b y x) (is ∙ at) h.licensed in
            not_by (name.front c) front_is (started_wider (λ p. e.seat ≡ p.seat) (λ p. p.seat ≡ e.seat) (start past (name.front c)) (λ p y. sym y) licence.1)

        clash : (how : How) → Started past c (MayEnd setting past e.seat c how) → ⊥
        clash how ends =
            let there = some_there (start past c) (MayEnd setting past e.seat c how) ends in
            by_kind how there.0 there.0.kind (access there.0 there.1) refl there.2

        by_event : (ev : Event) → MayHappen setting past e.seat ev → end_in c ev ≡ None
        by_event (event.End n how) h = if_not (same n c) (Some how) (false_from_ne_true (same n c) (λ is. clash how (subst (λ x. Started past x (MayEnd setting past e.seat x how)) (same_is n c is) h)))
        by_event _ h = refl

    -- the result of an access that has ended stays, whoever the entry is of
    pub result_stays : is_some (end past c) ≡ true → result (e ∷ past) c ≡ result past c
    result_stays ended = late.result_stays setting e past c may
        (ap (option_or (end past c)) no_access_end ∙ still (end past c)) (ap (option_or (gone past c)) no_giving_up ∙ still (gone past c)) ended
