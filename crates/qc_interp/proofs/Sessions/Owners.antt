-- Where clients run sessions together, all about a client's tops is its own, and so are all tops of its session.
use Rattle.std.proofs.Common.{◌≡◌, ◌+◌, ℕ, zero, suc, arith, true, false, List, [], ◌∷◌, length, refl, sym, ap, ◌∙◌, subst, append-nil}
use mathlib.Core.Bool.{true≢false}
use Rattle.std.specs.Prelude.{Option, None, Some, MatchOption, slice_get, is_some, not, ◌==◌, ◌&&◌, ◌||◌}
use Rattle.std.specs.List.{AllByRecursion, list_all, list_any}
use Rattle.std.specs.Option.{option_map, option_map_or}
use Rattle.std.proofs.Math.Bool.{and-false}
use Rattle.std.proofs.lemmas.Bool.{and_parts, and_from, or_left, or_right}
use Rattle.qc_event.specs.declared.event.Answer.{Answer}
use Rattle.qc_event.specs.declared.event.Cause.{Cause}
use Rattle.qc_event.specs.declared.event.Entry.{Entry}
use Rattle.qc_event.specs.declared.event.Event.{Event}
use Rattle.qc_event.specs.declared.event.Event.TheVariants as event
use Rattle.qc_event.specs.declared.event.How.{How}
use Rattle.qc_event.specs.declared.event.How.TheVariants.{Commit, Abort}
use Rattle.qc_event.specs.declared.event.Kind.{Kind}
use Rattle.qc_event.specs.declared.event.Kind.TheVariants as kind
use Rattle.qc_event.specs.Base.{Setting}
use Rattle.qc_event.specs.Commits.{MayCommit}
use Rattle.qc_event.specs.History.{Past, Name, Begun, start, child_in, is_child, kind_of}
use Rattle.qc_event.specs.Legal.{Legal, MayHappen, MayEnd}
use Rattle.qc_event.specs.Seats.{is_client}
use Rattle.qc_event.specs.Starts.{Starts}
use Rattle.qc_event.specs.Users.{MayCommitUserOrTop}
use Rattle.qc_event.proofs.OneEntry.{all_children}
use Rattle.qc_names.specs.Name as name
use Rattle.qc_script.specs.Client.{Client, mine, is_own, is_commit, is_upward, about, concerns, AreOurs}
use Rattle.qc_script.specs.Plan.{SessionPlan}
use Rattle.qc_interp.specs.Adding.{is_of_one, starts_for}
use Rattle.qc_interp.specs.Reach.{Reach}
use Rattle.qc_interp.specs.Session.{tops, AreAllOurs}
use Rattle.qc_interp.specs.Sessions.{top_in, is_of}
use Rattle.qc_interp.specs.Together.{HasRun, EachHasRun, AreOf}
use Rattle.qc_interp.proofs.Scopes.Adding.{first_anyhow}
use Rattle.qc_interp.proofs.Scopes.Scope.{whole_scope, upward_top}
use Rattle.qc_interp.proofs.Listing.Places.{some_same, at_place, each_place, all_from, any_place, kept_at, any_answered}
use Rattle.qc_interp.proofs.Scopes.Starts.{legal_at, started_at, top_is, one_top, StartsTop, starts_top, starts_user, starts_of}
use Rattle.qc_event.proofs.Booleans.{implies}

-- WHO MAY ENTER WHAT

pub starts_client : (setting : Setting) (past : Past) (seat : ℕ) (n : Name) (k : Kind) → Starts setting past seat n k → is_client seat ≡ true
starts_client setting past seat [] k may = absurd may
starts_client setting past seat (x ∷ []) k may = may.by_client
starts_client setting past seat (x ∷ y ∷ n) k may = may.by_client

pub aborts_client : (setting : Setting) (past : Past) (seat : ℕ) (n : Name) (why : Cause) → MayHappen setting past seat (event.End n (Abort why)) → is_client seat ≡ true
aborts_client setting past seat n why may = by_start (start past n) may
  where
    by_start : (o : Option Begun) → MatchOption o ⊥ (MayEnd setting past seat n (Abort why)) → is_client seat ≡ true
    by_start None may = absurd may
    by_start (Some b) may = may.by_client

-- a top's commit does not concern a top
commits_none : (number : ℕ) (n : Name) (how : How) → (length n == 1) ≡ true → is_commit how ≡ true → concerns (number ∷ []) (event.End n how) ≡ false
commits_none number n how short commits =
    let low = name.is_ancestor (number ∷ []) n || (is_upward (number ∷ []) n && is_commit how) in
    ap (λ b. low && not (b && is_commit how)) short ∙ ap (λ b. low && not b) commits ∙ and-false low

module _ (setting : Setting) (past : Past) (seat number : ℕ) where
  -- who commits is a client, but for a top, which the ledger commits
  user_commits : (n : Name) (given : Answer) → MayCommitUserOrTop past seat n given → concerns (number ∷ []) (event.End n (Commit given)) ≡ true → is_client seat ≡ true
  user_commits [] given may h = may.by_client
  user_commits (x ∷ []) given may h = absurd (true≢false (sym h ∙ commits_none number (x ∷ []) (Commit given) refl refl))
  user_commits (x ∷ y ∷ n) given may h = may.by_client

  commits : (n : Name) (b : Begun) (given : Answer) (k : Kind) → MayCommit setting past seat n b given k → concerns (number ∷ []) (event.End n (Commit given)) ≡ true → is_client seat ≡ true
  commits n b given (kind.User s body) may h = user_commits n given may h
  commits n b given kind.Access may h = may.by_client
  commits n b given (kind.Read rec) may h = may.by_client
  commits n b given (kind.Write rec value) may h = may.by_client
  commits n b given (kind.Reconf rec config) may h = may.by_client

  ends_client : (n : Name) (how : How) (o : Option Begun) → MatchOption o ⊥ (MayEnd setting past seat n how) → concerns (number ∷ []) (event.End n how) ≡ true → is_client seat ≡ true
  ends_client n how None may h = absurd may
  ends_client n (Commit given) (Some b) may h = commits n b given b.kind may h
  ends_client n (Abort why) (Some b) may h = may.by_client

  -- whatever concerns a top stands under a client's seat
  pub concern_client : (ev : Event) → MayHappen setting past seat ev → concerns (number ∷ []) ev ≡ true → is_client seat ≡ true
  concern_client (event.Start n k) may h = starts_client setting past seat n k may
  concern_client (event.Ready n) may h = may.by_client
  concern_client (event.End n how) may h = ends_client n how (start past n) may h
  concern_client (event.Mark n session) may h = may.by_client
  concern_client _ may h = absurd (true≢false (sym h))

-- and is about a name at or below that top
concern_about : (number : ℕ) (ev : Event) → concerns (number ∷ []) ev ≡ true → (n : Name) × (about ev ≡ Some n) × (name.is_ancestor (number ∷ []) n ≡ true)
concern_about number (event.Start n k) h = (n, refl, h)
concern_about number (event.Ready n) h = (n, refl, first_anyhow (name.is_ancestor (number ∷ []) n) (is_upward (number ∷ []) n) (upward_top number n) h)
concern_about number (event.End n how) h =
    let parts = and_parts (name.is_ancestor (number ∷ []) n || (is_upward (number ∷ []) n && is_commit how)) _ h in
    (n, refl, first_anyhow (name.is_ancestor (number ∷ []) n) _ (λ up. upward_top number n (and_parts (is_upward (number ∷ []) n) (is_commit how) up).0) parts.0)
concern_about number (event.Mark n session) h = (n, refl, h)
concern_about number _ h = absurd (true≢false (sym h))

-- WHAT ONE CLIENT RAN

-- All tops of a session are a client's, its tops are of that session, and all that is about these is its own.
pub record IsItsOwn (c : Client) (s : ℕ) (past : Past) : Type 0 where
  pub starts : AllByRecursion (λ (e : Entry). is_some (top_in s e.event) ≡ true → is_own c e.seat ≡ true) past
  pub for_it : AllByRecursion (λ (e : Entry). is_own c e.seat ≡ true → starts_for s e ≡ true) past
  pub below : AllByRecursion (λ (e : Entry). is_of (tops c past) e ≡ true → is_own c e.seat ≡ true) past

module _ (reach : Reach) (setting : Setting) (s epoch patience : ℕ) (c : Client) (plan : SessionPlan) (past : Past) (ran : HasRun reach setting s epoch patience c plan past) where
  newer_is : ran.in_turn.later.newer ≡ past
  newer_is = sym (append-nil ran.in_turn.later.newer) ∙ sym ran.in_turn.later.grown

  ran_for : list_all (starts_for s) (mine c past) ≡ true
  ran_for =
      subst (λ r. list_all (starts_for r) (mine c past) ≡ true) ran.session_is
      (subst (λ h. list_all (starts_for c.session) (mine c h) ≡ true) newer_is ran.in_turn.of_session)

  pub ran_inside : list_all (is_of_one (tops c past)) (mine c past) ≡ true
  ran_inside =
      subst (λ h. list_all (is_of_one (tops c past)) (mine c h) ≡ true) newer_is
      (subst (λ ts. list_all (is_of_one ts) (mine c ran.in_turn.later.newer) ≡ true) (sym ran.in_turn.more) ran.in_turn.inside)

  pub for_at : (i : ℕ) (e : Entry) → slice_get past i ≡ Some e → is_own c e.seat ≡ true → starts_for s e ≡ true
  for_at i e at own = kept_at (starts_for s) (λ (x : Entry). is_own c x.seat) past i e ran_for at own

  -- an entry of its own about a name is about one of its tops, and who that is it started for its session
  own_below : (i : ℕ) (e : Entry) (n : Name) → Legal setting past → slice_get past i ≡ Some e → is_own c e.seat ≡ true → about e.event ≡ Some n → list_any (λ t. name.is_ancestor t n) (tops c past) ≡ true
  own_below i e n legal at own is =
      sym (ap (λ o. option_map_or (λ m. list_any (λ t. name.is_ancestor t m) (tops c past)) o true) is)
      ∙ kept_at (is_of_one (tops c past)) (λ (x : Entry). is_own c x.seat) past i e ran_inside at own

  -- one of its tops, which it started for its session
  record ItsTop (n : Name) : Type 0 where
    number : ℕ
    body : ℕ
    low : name.is_ancestor (number ∷ []) n ≡ true
    kind_is : kind_of past (number ∷ []) ≡ Some (kind.User s body)

  its_top : (n : Name) → Legal setting past → list_any (λ t. name.is_ancestor t n) (tops c past) ≡ true → ItsTop n
  its_top n legal low =
      let a = any_answered (λ (e : Entry). is_own c e.seat) (λ e. child_in [] e.event) (λ t. name.is_ancestor t n) past low in
      let top = starts_top a.entry.event a.answer a.tells in
      let user = starts_user s a.entry a.answer top (for_at a.place a.entry a.is a.kept) in
      record {
        number = top.number;
        body = user.0;
        low = subst (λ t. name.is_ancestor t n ≡ true) top.top a.passing;
        kind_is = ap (option_map (λ (b : Begun). b.kind)) (started_at setting past a.place a.entry (top.number ∷ []) top.kind legal a.is top.starts) ∙ ap (λ k. Some k) user.1;
      }

-- a kind of user transaction is of one session
pub one_session : (s r b d : ℕ) → Some (kind.User s b) ≡ Some (kind.User r d) → s ≡ r
one_session s r b d is = cc

-- ALL CLIENTS

module _ (reach : Reach) (setting : Setting) (epoch patience : ℕ) (past : Past) where
  -- the client at a place, and what it ran
  pub record Ran (session : ℕ) (clients : List Client) (sessions : List SessionPlan) (i : ℕ) : Type 0 where
    pub client : Client
    pub plan : SessionPlan
    pub client_is : slice_get clients i ≡ Some client
    pub plan_is : slice_get sessions i ≡ Some plan
    pub ran : HasRun reach setting (session + i) epoch patience client plan past

  first_ran : (session : ℕ) (c : Client) (clients : List Client) (s : SessionPlan) (sessions : List SessionPlan) → HasRun reach setting session epoch patience c s past → Ran session (c ∷ clients) (s ∷ sessions) zero
  first_ran session c clients s sessions ran =
      record { client = c; plan = s; client_is = refl; plan_is = refl; ran = subst (λ n. HasRun reach setting n epoch patience c s past) (let e : session ≡ session + 0 = omega arith in e) ran }

  later_ran : (session : ℕ) (c : Client) (clients : List Client) (s : SessionPlan) (sessions : List SessionPlan) (i : ℕ) → Ran (session + 1) clients sessions i → Ran session (c ∷ clients) (s ∷ sessions) (suc i)
  later_ran session c clients s sessions i r = record {
    client = r.client;
    plan = r.plan;
    client_is = r.client_is;
    plan_is = r.plan_is;
    ran = subst (λ n. HasRun reach setting n epoch patience r.client r.plan past) (let e : session + 1 + i ≡ session + suc i = omega arith in e) r.ran;
  }

  pub ran_client : (session : ℕ) (clients : List Client) (sessions : List SessionPlan) → EachHasRun reach setting session epoch patience clients sessions past → (i : ℕ) (c : Client) → slice_get clients i ≡ Some c → Ran session clients sessions i
  ran_client session [] sessions all i c is = absurd cc
  ran_client session (x ∷ clients) [] all i c is = absurd all
  ran_client session (x ∷ clients) (s ∷ sessions) all zero c is = first_ran session x clients s sessions all.0
  ran_client session (x ∷ clients) (s ∷ sessions) all (suc i) c is = later_ran session x clients s sessions i (ran_client (session + 1) clients sessions all.1 i c is)

  pub ran_plan : (session : ℕ) (clients : List Client) (sessions : List SessionPlan) → EachHasRun reach setting session epoch patience clients sessions past → (i : ℕ) (s : SessionPlan) → slice_get sessions i ≡ Some s → Ran session clients sessions i
  ran_plan session clients [] all i s is = absurd cc
  ran_plan session [] (x ∷ sessions) all i s is = absurd all
  ran_plan session (c ∷ clients) (x ∷ sessions) all zero s is = first_ran session c clients x sessions all.0
  ran_plan session (c ∷ clients) (x ∷ sessions) all (suc i) s is = later_ran session c clients x sessions i (ran_plan (session + 1) clients sessions all.1 i s is)

  module _ (clients : List Client) (sessions : List SessionPlan) (legal : Legal setting past) (of : AreOf clients past) (all : EachHasRun reach setting 0 epoch patience clients sessions past) where
    -- the client of an entry
    pub record Owner (seat : ℕ) : Type 0 where
      pub session : ℕ
      pub client : Client
      pub plan : SessionPlan
      pub client_is : slice_get clients session ≡ Some client
      pub plan_is : slice_get sessions session ≡ Some plan
      pub owns : is_own client seat ≡ true
      pub ran : HasRun reach setting session epoch patience client plan past

    pub owner : (i : ℕ) (e : Entry) → slice_get past i ≡ Some e → is_client e.seat ≡ true → Owner e.seat
    owner i e at client =
        let found = any_place (λ c. is_own c e.seat) clients (at_place _ past i e of at client) in
        let r = ran_client 0 clients sessions all found.place found.one found.is in
        let same : r.client ≡ found.one = some_same r.client found.one (sym r.client_is ∙ found.is) in
        record {
          session = found.place;
          client = r.client;
          plan = r.plan;
          client_is = r.client_is;
          plan_is = r.plan_is;
          owns = ap (λ c. is_own c e.seat) same ∙ found.passes;
          ran = subst (λ n. HasRun reach setting n epoch patience r.client r.plan past) (let z : 0 + found.place ≡ found.place = omega arith in z) r.ran;
        }

    -- one session has one client
    same_client : (i j : ℕ) (c d : Client) → slice_get clients i ≡ Some c → slice_get clients j ≡ Some d → i ≡ j → d ≡ c
    same_client i j c d at also is = some_same d c (sym also ∙ sym (ap (slice_get clients) is) ∙ at)

    module _ (s : ℕ) (c : Client) (plan : SessionPlan) (is_one : slice_get clients s ≡ Some c) (ran : HasRun reach setting s epoch patience c plan past) where
      starts_own : (i : ℕ) (e : Entry) → slice_get past i ≡ Some e → is_some (top_in s e.event) ≡ true → is_own c e.seat ≡ true
      starts_own i e at some = by_top (top_in s e.event) refl some
        where
          of_owner : (number body : ℕ) → e.event ≡ event.Start (number ∷ []) (kind.User s body) → Owner e.seat → is_own c e.seat ≡ true
          of_owner number body is o =
              let top : StartsTop e.event (number ∷ []) = record { number = number; kind = kind.User s body; starts = is; top = refl } in
              let user = starts_user o.session e (number ∷ []) top (for_at reach setting o.session epoch patience o.client o.plan past o.ran i e at o.owns) in
              let same : s ≡ o.session = one_session s o.session body user.0 (ap (λ k. Some k) user.1) in
              subst (λ d. is_own d e.seat ≡ true) (same_client s o.session c o.client is_one o.client_is same) o.owns

          by_top : (o : Option Name) → top_in s e.event ≡ o → is_some o ≡ true → is_own c e.seat ≡ true
          by_top None is some = absurd (true≢false (sym some))
          by_top (Some t) is some =
              let top = starts_of s e.event t is in
              let may = legal_at setting past i e legal at in
              of_owner top.number top.body top.starts (owner i e at (starts_client setting may.0 e.seat (top.number ∷ []) (kind.User s top.body) (subst (MayHappen setting may.0 e.seat) top.starts may.1)))

      below_own : (i : ℕ) (e : Entry) → slice_get past i ≡ Some e → is_of (tops c past) e ≡ true → is_own c e.seat ≡ true
      below_own i e at low = by_about (about e.event) refl (and_parts (is_client e.seat) _ low).1 (owner i e at (and_parts (is_client e.seat) _ low).0)
        where
          by_about : (o : Option Name) → about e.event ≡ o → option_map_or (λ n. list_any (λ t. name.is_ancestor t n) (tops c past)) o false ≡ true → Owner e.seat → is_own c e.seat ≡ true
          by_about None is low o = absurd (true≢false (sym low))
          by_about (Some n) is low o =
              let own = its_top reach setting s epoch patience c plan past ran n legal low in
              let low_too = own_below reach setting o.session epoch patience o.client o.plan past o.ran i e n legal at o.owns is in
              let other = its_top reach setting o.session epoch patience o.client o.plan past o.ran n legal low_too in
              let one = one_top own.number other.number n own.low other.low in
              let same : s ≡ o.session = one_session s o.session own.body other.body (sym own.kind_is ∙ ap (λ x. kind_of past (x ∷ [])) one ∙ other.kind_is) in
              subst (λ d. is_own d e.seat ≡ true) (same_client s o.session c o.client is_one o.client_is same) o.owns

      pub its_own : IsItsOwn c s past
      its_own = record {
        starts = each_place _ past starts_own;
        for_it = each_place _ past (for_at reach setting s epoch patience c plan past ran);
        below = each_place _ past below_own;
      }

-- so all about its tops is its own
pub all_its_own : (setting : Setting) (c : Client) (s : ℕ) (past : Past) → Legal setting past → IsItsOwn c s past → AreAllOurs c past
all_its_own setting c s past legal its = by_tops (tops c past) (λ n low. low) (all_children (mine c past) [])
  where
    IsAmong : List Name → Name → Type 0
    IsAmong ts n = list_any (λ x. name.is_ancestor x n) ts ≡ true

    own : (number : ℕ) → ((n : Name) → name.is_ancestor (number ∷ []) n ≡ true → IsAmong (tops c past) n) → (i : ℕ) (e : Entry) → slice_get past i ≡ Some e → concerns (number ∷ []) e.event ≡ true → is_own c e.seat ≡ true
    own number low i e at h =
        let may = legal_at setting past i e legal at in
        let whom = concern_about number e.event h in
        at_place _ past i e its.below at (and_from _ _ (concern_client setting may.0 e.seat number e.event may.1 h)
        (ap (λ o. option_map_or (λ n. list_any (λ t. name.is_ancestor t n) (tops c past)) o false) whom.1 ∙ low whom.0 whom.2))

    ours : (t : Name) → is_child [] t ≡ true → ((n : Name) → name.is_ancestor t n ≡ true → IsAmong (tops c past) n) → AreOurs c t past
    ours t child low =
        let top = top_is t child in
        subst (λ x. AreOurs c x past) (sym top.1)
        (subst (λ x. list_all (λ (e : Entry). not (concerns x e.event) || is_own c e.seat) past ≡ true) (sym (whole_scope c (top.0 ∷ []) refl)) (all_from (λ (e : Entry). not (concerns (top.0 ∷ []) e.event) || is_own c e.seat) past
        (λ i e at. implies (concerns (top.0 ∷ []) e.event) (is_own c e.seat) (λ h. own top.0 (λ n is. low n (ap (λ x. name.is_ancestor x n) top.1 ∙ is)) i e at h))))

    by_tops : (ts : List Name) → ((n : Name) → IsAmong ts n → IsAmong (tops c past) n) → AllByRecursion (λ t. is_child [] t ≡ true) ts → AllByRecursion (λ t. AreOurs c t past) ts
    by_tops [] among all = tt
    by_tops (t ∷ ts) among all = (ours t all.0 (λ n is. among n (or_left _ _ is)), by_tops ts (λ n is. among n (or_right _ _ is)) all.1)
