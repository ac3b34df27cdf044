-- Each entry of a legal history can be saved: it tells of names that were started, and configurations are for all copies.
use Rattle.std.proofs.Common.{◌≡◌, ℕ, true, List, [], ◌∷◌, length, reverse, refl, sym, ap, ◌∙◌, subst, inl, inr, arith}
use Rattle.std.specs.Prelude.{Option, None, Some, is_some, find, MatchOption, IsTrue, if◌then◌else◌}
use Rattle.std.specs.List.{All}
use Rattle.std.specs.Option.{option_map}
use Rattle.std.proofs.lemmas.Bool.{leb-true}
use Rattle.std.proofs.lemmas.List.{reverse-append, reverse-reverse}
use Rattle.std.proofs.lemmas.List.Elements.{All-nil, All-cons, All-head, All-tail, All-push, recursion_from_All}
use Rattle.qc_config.specs.Config.{Voting}
use Rattle.qc_config.specs.declared.tuple.Op.{Op}
use Rattle.qc_config.specs.declared.tuple.Op.TheVariants.{Get, PutData, PutConfig}
use Rattle.qc_event.specs.declared.event.Answer.{Answer}
use Rattle.qc_event.specs.declared.event.Answer.TheVariants as answer
use Rattle.qc_event.specs.declared.event.Ask.{Ask}
use Rattle.qc_event.specs.declared.event.Cause.{Cause}
use Rattle.qc_event.specs.declared.event.Cause.TheVariants as cause
use Rattle.qc_event.specs.declared.event.Entry.{Entry}
use Rattle.qc_event.specs.declared.event.Event.{Event}
use Rattle.qc_event.specs.declared.event.Event.TheVariants as event
use Rattle.qc_event.specs.declared.event.Grant.{Grant}
use Rattle.qc_event.specs.declared.event.How.{How}
use Rattle.qc_event.specs.declared.event.How.TheVariants.{Commit, Abort}
use Rattle.qc_event.specs.declared.event.Kind.{Kind}
use Rattle.qc_event.specs.declared.event.Kind.TheVariants as kind
use Rattle.qc_event.specs.declared.event.Refusal.{Refusal}
use Rattle.qc_event.specs.declared.event.Refusal.TheVariants.{Blocked, Dead}
use Rattle.qc_event.specs.declared.event.Why.{Why}
use Rattle.qc_event.specs.declared.event.Why.TheVariants.{Lost, Late, Down, Full, Strange}
use Rattle.qc_event.specs.Aborts.{FailedByConflict, IsBlockedThere, ManagerCause, AccessCause, Licensed}
use Rattle.qc_event.specs.Base.{Setting, IsProper, IsProperBase}
use Rattle.qc_event.specs.Commits.{MayCommit, manager_answer}
use Rattle.qc_event.specs.Dead.{outcome, is_aborted, ancestors, dead}
use Rattle.qc_event.specs.Grants.{IsRefusal, MayGrant, MayRefuse}
use Rattle.qc_event.specs.History.{Past, Name, Begun, Asked, Given, same, start, end, asked, ask_in, granted, grants, refused, refusal_in, gone}
use Rattle.qc_event.specs.Legal.{Legal, MayHappen, MayEnd}
use Rattle.qc_event.specs.Manager.{result_by, holder_of, stage, first_blocked, first_for}
use Rattle.qc_event.specs.Requests.{MayAsk, is_fault, is_ledger_fault, MayBeUnable}
use Rattle.qc_event.specs.Seen.{holder, is_in_way}
use Rattle.qc_event.specs.Standing.{IsUser, IsAbort}
use Rattle.qc_event.specs.Starts.{Stands, Starts}
use Rattle.qc_event.specs.Users.{UserCause}
use Rattle.qc_event.proofs.Absent.{same_itself}
use Rattle.qc_event.proofs.AccessNames as names
use Rattle.qc_event.proofs.Asked.{asked_fits}
use Rattle.qc_event.proofs.AskedAccess.{asked_access}
use Rattle.qc_event.proofs.Found.{found_passes, found_holds}
use Rattle.qc_event.proofs.Lawful.{lawful, started_some}
use Rattle.qc_event.proofs.LegalOrderly.{legal_orderly}
use Rattle.qc_event.proofs.OneEntry.{if_is, first_is, start_now, end_step}
use Rattle.qc_event.proofs.Options.{or_new, some_match, some_there}
use Rattle.qc_event.proofs.Outcomes.{aborted_is_abort}
use Rattle.qc_event.proofs.PutConfigs.{each_granted}
use Rattle.qc_event.proofs.RootAndTops.{ready_started}
use Rattle.qc_event.proofs.SizedConfigs.{OpSized, granted_sized}
use Rattle.qc_codec.specs.Fields.{IsNumbered}
use Rattle.qc_trail_codec.specs.Reasons.{is_inability}
use Rattle.qc_trail_codec.specs.Saving.{records_of, IsOpFor, IsKindFor, IsAnswerFor, IsNumberedCause, IsNumberedRefusal, CanEndBeSaved, CanAskBeSaved, CanEventBeSaved, CanBeSaved}

-- NAMES

numbered : (n : Name) → names.IsNumbered n → IsNumbered n
numbered [] is = absurd is
numbered (top ∷ rest) is = is

module _ (setting : Setting) (past : Past) (legal : Legal setting past) where
  -- who was started
  started : (n : Name) → is_some (start past n) ≡ true → IsNumbered n
  started n began = numbered n (names.started_numbered setting past n legal began)

  -- who ended was started
  ended : (n : Name) → is_some (end past n) ≡ true → IsNumbered n
  ended n done = started n ((lawful past (legal_orderly setting past legal)).end_has_start n done)

  -- who asked was started
  who_asked : (n : Name) (P : Asked → Type 0) → MatchOption (asked past n) ⊥ P → IsNumbered n
  who_asked n P h =
      let there = some_there (asked past n) P h in
      subst IsNumbered (asked_access past n there.0 there.1) (numbered there.0.ask.access (names.asked_name setting past n there.0 legal there.1).numbered)

  -- who is aborted ended
  who_aborted : (n : Name) → MatchOption (end past n) ⊥ IsAbort → IsNumbered n
  who_aborted n h = ended n (some_match (end past n) IsAbort h)

  who_is_dead : (n a : Name) → dead past n ≡ Some a → IsNumbered a
  who_is_dead n a is = who_aborted a (aborted_is_abort (end past a) (found_passes (λ x. is_aborted (outcome past x)) (ancestors n) a is))

-- who was granted asked
grantee : (setting : Setting) (past : Past) (seat copy : ℕ) (g : Grant) → Legal setting past → MayGrant setting past seat copy g → IsNumbered g.access
grantee setting past seat copy g legal may = who_asked setting past legal g.access _ may.request

-- a holder was granted
holder_numbered : (setting : Setting) (past : Past) (copy rec : ℕ) (op : Op) (access h : Name) → Legal setting past → holder past copy rec op access ≡ Some h → IsNumbered h
holder_numbered setting past copy rec op access h legal is = by_found (find (is_in_way past rec op access) (grants past copy)) refl is
  where
    by_found : (o : Option Grant) → find (is_in_way past rec op access) (grants past copy) ≡ o → option_map (λ (g : Grant). g.access) o ≡ Some h → IsNumbered h
    by_found None at is = absurd cc
    by_found (Some g) at is =
        let same : g.access ≡ h = cc in
        subst IsNumbered same (found_holds (λ (x : Grant). IsNumbered x.access) (is_in_way past rec op access) (grants past copy) g
        (recursion_from_All (λ (x : Grant). IsNumbered x.access) (grants past copy) (each_granted (λ c x. IsNumbered x.access) setting (grantee setting) past copy legal)) at)

-- REFUSALS

refusal_saved : (setting : Setting) (past : Past) (seat : ℕ) (access : Name) (copy : ℕ) (r : Refusal) → Legal setting past → MayRefuse past seat access copy r → IsNumberedRefusal r
refusal_saved setting past seat access copy (Dead a) legal may =
    let there = some_there (asked past access) (λ x. IsRefusal past x.ask (Dead a)) may.reason in
    who_is_dead setting past legal there.0.ask.access a there.2
refusal_saved setting past seat access copy (Blocked h) legal may =
    let there = some_there (asked past access) (λ x. IsRefusal past x.ask (Blocked h)) may.reason in
    holder_numbered setting past there.0.ask.copy there.0.ask.rec there.0.ask.op there.0.ask.access h legal there.2.1

-- the entry that is the refusal of a name
refusing : (n : Name) (ev : Event) (r : Refusal) → refusal_in n ev ≡ Some r → (m : Name) × (copy : ℕ) × (ev ≡ event.Refused m copy r)
refusing n (event.Refused m copy refusal) r is = (m, copy, ap (λ x. event.Refused m copy x) (if_is (same m n) refusal r is).1)
refusing n _ r is = absurd cc

refused_saved : (setting : Setting) (past : Past) (n : Name) (r : Refusal) → Legal setting past → refused past n ≡ Some r → IsNumberedRefusal r
refused_saved setting [] n r legal is = absurd cc
refused_saved setting (e ∷ past) n r legal is = elim (first_is (refused past n) (refusal_in n e.event) r is) [
  | inl old ↦ refused_saved setting past n r legal.0 old
  | inr new ↦
      let at = refusing n e.event r new.1 in
      refusal_saved setting past e.seat at.0 at.1 r legal.0 (subst (MayHappen setting past e.seat) at.2 legal.1)
]

-- a holder that blocks an access was told by its first refusal
blocked_refusal : (how : Option How) (why : Option Why) (refusal : Option Refusal) (h : Name) → holder_of (result_by how why refusal) ≡ Some h → refusal ≡ Some (Blocked h)
blocked_refusal None why refusal h is = absurd cc
blocked_refusal (Some (Commit answer.Nothing)) why refusal h is = absurd cc
blocked_refusal (Some (Commit (answer.Value value))) why refusal h is = absurd cc
blocked_refusal (Some (Commit (answer.Generation generation))) why refusal h is = absurd cc
blocked_refusal (Some (Commit (answer.Reply tuple))) why refusal h is = absurd cc
blocked_refusal (Some (Abort c)) (Some why) refusal h is = absurd cc
blocked_refusal (Some (Abort c)) None None h is = absurd cc
blocked_refusal (Some (Abort c)) None (Some (Blocked holder)) h is = let same : holder ≡ h = cc in ap (λ x. Some (Blocked x)) same
blocked_refusal (Some (Abort c)) None (Some (Dead a)) h is = absurd cc

-- COMMITS

manager_answers : (copies : ℕ) (past : Past) (first : Voting) (m : Name) (k : Kind) → IsAnswerFor copies (manager_answer past first m k)
manager_answers copies past first m (kind.Read rec) = tt
manager_answers copies past first m (kind.Reconf rec config) = tt
manager_answers copies past first m (kind.Write rec value) = tt
manager_answers copies past first m (kind.User session body) = tt
manager_answers copies past first m kind.Access = tt

commit_saved : (setting : Setting) (past : Past) (seat : ℕ) (n : Name) (b : Begun) (given : Answer) (k : Kind) → Legal setting past → MayCommit setting past seat n b given k → IsAnswerFor (length setting.base) given
commit_saved setting past seat n b given kind.Access legal may =
    let there = some_there (granted past n) (λ (g : Given). given ≡ answer.Reply g.grant.tuple) may.reply in
    subst (IsAnswerFor (length setting.base)) (sym there.2) (granted_sized setting past n there.0 legal there.1)
commit_saved setting past seat n b given (kind.User session body) legal may = by_name n may
  where
    answers_nothing : given ≡ answer.Nothing → IsAnswerFor (length setting.base) given
    answers_nothing is = subst (IsAnswerFor (length setting.base)) (sym is) tt

    by_name : (m : Name) → MayCommit setting past seat m b given (kind.User session body) → IsAnswerFor (length setting.base) given
    by_name [] may = answers_nothing may.nothing
    by_name (x ∷ []) may = answers_nothing may.nothing
    by_name (x ∷ y ∷ r) may = answers_nothing may.nothing
commit_saved setting past seat n b given (kind.Read rec) legal may = subst (IsAnswerFor (length setting.base)) (sym may.answers) (manager_answers (length setting.base) past _ n b.kind)
commit_saved setting past seat n b given (kind.Write rec value) legal may = subst (IsAnswerFor (length setting.base)) (sym may.answers) (manager_answers (length setting.base) past _ n b.kind)
commit_saved setting past seat n b given (kind.Reconf rec config) legal may = subst (IsAnswerFor (length setting.base)) (sym may.answers) (manager_answers (length setting.base) past _ n b.kind)

-- ABORTS

module _ (setting : Setting) (past : Past) (legal : Legal setting past) (earlier : (m : Name) (how : How) → end past m ≡ Some how → CanEndBeSaved (length setting.base) how) where
  user_cause : (n : Name) (session : ℕ) (c : Cause) → UserCause past n session c → IsNumberedCause c
  user_cause n session (cause.Asked by) h = started setting past legal by (started_some _ (start past by) h.0)
  user_cause n session (cause.Conflict copy holder) h = earlier h.child (Abort (cause.Conflict copy holder)) h.ended
  user_cause n session (cause.NoQuorum lack) h = tt
  user_cause n session cause.Last h = tt
  user_cause n session (cause.Orphan a) h = who_aborted setting past legal a h.aborted
  user_cause n session cause.Killed h = tt
  user_cause n session (cause.Child c) h = started setting past legal c (started_some _ (start past c) h.1)
  user_cause n session cause.Missed h = tt

  access_cause : (n : Name) (c : Cause) → AccessCause past n c → IsNumberedCause c
  access_cause n (cause.Asked by) h = absurd h
  access_cause n (cause.Conflict copy holder) h = absurd h
  access_cause n (cause.NoQuorum lack) h = tt
  access_cause n cause.Last h = tt
  access_cause n (cause.Orphan a) h = who_aborted setting past legal a h.aborted
  access_cause n cause.Killed h = tt
  access_cause n (cause.Child c) h = absurd h
  access_cause n cause.Missed h = tt

  manager_cause : (m : Name) (k : Kind) (c : Cause) → ManagerCause setting past m k c → IsNumberedCause c
  manager_cause m k (cause.Asked by) h = absurd h
  manager_cause m k (cause.Conflict copy holder) h =
      let at = some_there (stage past (first_for setting k) m k) (FailedByConflict past m copy holder) h in
      let first = some_there (first_blocked past m at.0.phase) (IsBlockedThere past copy holder) at.2.first in
      refused_saved setting past first.0.access (Blocked holder) legal
      (blocked_refusal (end past first.0.access) (gone past first.0.access) (refused past first.0.access) holder first.2.holder)
  manager_cause m k (cause.NoQuorum lack) h = tt
  manager_cause m k cause.Last h = tt
  manager_cause m k (cause.Orphan a) h = who_aborted setting past legal a h.aborted
  manager_cause m k cause.Killed h = tt
  manager_cause m k (cause.Child c) h = absurd h
  manager_cause m k cause.Missed h = tt

  licensed_cause : (seat : ℕ) (n : Name) (b : Begun) (k : Kind) (c : Cause) → Licensed setting past seat n b k c → IsNumberedCause c
  licensed_cause seat n b (kind.User session body) c h = user_cause n session c h
  licensed_cause seat n b kind.Access c h = access_cause n c h.0
  licensed_cause seat n b (kind.Read rec) c h = manager_cause n (kind.Read rec) c h.0
  licensed_cause seat n b (kind.Write rec value) c h = manager_cause n (kind.Write rec value) c h.0
  licensed_cause seat n b (kind.Reconf rec config) c h = manager_cause n (kind.Reconf rec config) c h.0

  end_saved : (seat : ℕ) (n : Name) (how : How) (b : Begun) → MayEnd setting past seat n how b → CanEndBeSaved (length setting.base) how
  end_saved seat n (Commit given) b may = commit_saved setting past seat n b given b.kind legal may
  end_saved seat n (Abort c) b may = licensed_cause seat n b b.kind c may.licensed

  may_end_saved : (seat : ℕ) (n : Name) (how : How) → MayHappen setting past seat (event.End n how) → CanEndBeSaved (length setting.base) how
  may_end_saved seat n how may = let there = some_there (start past n) (MayEnd setting past seat n how) may in end_saved seat n how there.0 there.2

-- a transaction may be aborted for what aborted its child, so an end is looked at after those before it
ended_saved : (setting : Setting) (past : Past) (n : Name) (how : How) → Legal setting past → end past n ≡ Some how → CanEndBeSaved (length setting.base) how
ended_saved setting [] n how legal is = absurd cc
ended_saved setting (e ∷ past) n how legal is = elim (end_step e past n how is) [
  | inl old ↦ ended_saved setting past n how legal.0 old
  | inr now ↦ may_end_saved setting past legal.0 (λ m h at. ended_saved setting past m h legal.0 at) e.seat n how (subst (MayHappen setting past e.seat) now.1 legal.1)
]

-- STARTS AND REQUESTS

stands_for : (setting : Setting) (seat : ℕ) (parent : Begun) (depth : ℕ) (k : Kind) → Stands setting seat parent depth k → IsKindFor (length setting.base) k
stands_for setting seat parent depth (kind.User session body) h = tt
stands_for setting seat parent depth (kind.Read rec) h = tt
stands_for setting seat parent depth (kind.Write rec value) h = tt
stands_for setting seat parent depth (kind.Reconf rec config) h = h.2
stands_for setting seat parent depth kind.Access h = tt

user_for : (copies : ℕ) (k : Kind) → IsUser k → IsKindFor copies k
user_for copies (kind.User session body) user = tt
user_for copies (kind.Read rec) user = tt
user_for copies (kind.Write rec value) user = tt
user_for copies (kind.Reconf rec config) user = absurd user
user_for copies kind.Access user = tt

starts_for : (setting : Setting) (past : Past) (seat : ℕ) (n : Name) (k : Kind) → Starts setting past seat n k → IsKindFor (length setting.base) k
starts_for setting past seat [] k may = absurd may
starts_for setting past seat (x ∷ []) k may = user_for (length setting.base) k may.user
starts_for setting past seat (x ∷ y ∷ r) k may =
    let parent = some_there _ (λ p. Stands setting seat p (length (x ∷ y ∷ r)) k) may.stands in
    stands_for setting seat parent.0 (length (x ∷ y ∷ r)) k parent.2

sized_for : (copies : ℕ) (op : Op) → OpSized copies op → IsOpFor copies op
sized_for copies Get h = tt
sized_for copies (PutData version value) h = tt
sized_for copies (PutConfig generation config) h = h

ask_saved : (setting : Setting) (past : Past) (seat : ℕ) (ask : Ask) → IsProper setting → Legal setting past → MayAsk setting past seat ask → CanAskBeSaved (length setting.base) ask
ask_saved setting past seat ask proper legal may = record {
  numbered = started setting past legal ask.access (started_some _ (start past ask.access) may.started);
  for_copies = sized_for (length setting.base) ask.op (asked_fits setting now ask.access (record { seat = seat; ask = ask }) proper (legal, may) asks).sized;
}
  where
    now : Past
    now = record { seat = seat; event = event.Ask ask } ∷ past

    asks : asked now ask.access ≡ Some (record { seat = seat; ask = ask })
    asks =
        or_new (asked past ask.access) (ask_in ask.access seat (event.Ask ask)) may.not_asked
        ∙ ap (λ b. if b then Some (record { seat = seat; ask = ask }) else None) (same_itself ask.access)

-- REASONS

fault_is : (w : Why) → IsTrue (is_fault w) → IsTrue (is_inability w)
fault_is Lost is = is
fault_is Late is = is
fault_is Down is = refl
fault_is Full is = refl
fault_is Strange is = refl

ledger_fault_is : (w : Why) → IsTrue (is_ledger_fault w) → IsTrue (is_inability w)
ledger_fault_is Lost is = is
ledger_fault_is Late is = is
ledger_fault_is Down is = refl
ledger_fault_is Full is = refl
ledger_fault_is Strange is = refl

unable_saved : (setting : Setting) (past : Past) (seat : ℕ) (n : Name) (w : Why) → Legal setting past → MayBeUnable past seat n w → IsNumbered n × IsTrue (is_inability w)
unable_saved setting past seat n w legal (inl copy) = (who_asked setting past legal n _ copy.asked_there, fault_is w copy.fault)
unable_saved setting past seat n w legal (inr ledger) = (started setting past legal n (ready_started setting past n legal ledger.ready), ledger_fault_is w ledger.fault)

-- ENTRIES

event_saved : (setting : Setting) (past : Past) (seat : ℕ) (ev : Event) → IsProper setting → Legal setting past → MayHappen setting past seat ev → CanEventBeSaved (length setting.base) ev
event_saved setting past seat (event.Start n k) proper legal may =
    let e : Entry = record { seat = seat; event = event.Start n k } in
    (started setting (e ∷ past) (legal, may) n (start_now e past n (k, refl)), starts_for setting past seat n k may)
event_saved setting past seat (event.Ask ask) proper legal may = ask_saved setting past seat ask proper legal may
event_saved setting past seat (event.Gone access w) proper legal may = started setting past legal access may.is_open.started
event_saved setting past seat (event.Granted copy g) proper legal may = record { numbered = grantee setting past seat copy g legal may; for_copies = may.for_copies; sets = may.sets }
event_saved setting past seat (event.Refused access copy r) proper legal may = (who_asked setting past legal access _ may.request, refusal_saved setting past seat access copy r legal may)
event_saved setting past seat (event.Unable n w) proper legal may = unable_saved setting past seat n w legal may
event_saved setting past seat (event.Mark by session) proper legal may =
    let small = leb-true session 15 may.session_small in
    (started setting past legal by (started_some _ (start past by) may.by_user), omega arith)
event_saved setting past seat (event.Ready top) proper legal may = started setting past legal top may.is_open.started
event_saved setting past seat (event.End n how) proper legal may = (
  started setting past legal n (started_some _ (start past n) may),
  may_end_saved setting past legal (λ m h at. ended_saved setting past m h legal at) seat n how may,
)

each_saved : (setting : Setting) (past : Past) → IsProper setting → Legal setting past → All (CanBeSaved (length setting.base)) past
each_saved setting [] proper legal = All-nil (CanBeSaved (length setting.base))
each_saved setting (e ∷ past) proper legal =
    All-cons (CanBeSaved (length setting.base)) e past (event_saved setting past e.seat e.event proper legal.0 legal.1) (each_saved setting past proper legal.0)

all_reversed : {X : Type 0} (P : X → Type 0) (xs : List X) → All P xs → All P (reverse xs)
all_reversed P [] all = All-nil P
all_reversed P (x ∷ xs) all =
    subst (All P) (sym (reverse-append (x ∷ []) xs)) (All-push P (reverse xs) x (all_reversed P xs (All-tail P x xs all)) (All-head P x xs all))

pub entries_saved : (setting : Setting) (trail : List Entry) → IsProper setting → Legal setting (reverse trail) → All (CanBeSaved (length setting.base)) trail
entries_saved setting trail proper legal =
    subst (All (CanBeSaved (length setting.base))) (reverse-reverse trail)
    (all_reversed (CanBeSaved (length setting.base)) (reverse trail) (each_saved setting (reverse trail) proper legal))

-- BASES

-- the rows of a proper setting have as many records as there are first configurations
pub base_saved : (setting : Setting) → IsProper setting → IsProperBase (records_of setting.base) setting.base
base_saved setting proper =
    let row = proper.base.rows 0 [] proper.base.some_copy in
    subst (λ n. IsProperBase n setting.base) (sym row.same_records) proper.base
