-- Grants to accesses of one manager are served in the order in which they were given.
use mathlib.Core.List.{reverse-cons}
use Rattle.std.proofs.Common.{ℕ, ◌≡◌, true, List, [], ◌∷◌, ◌++◌, reverse, refl, sym, ap, ◌∙◌, subst, inl, inr, ◌⊎◌, append_assoc}
use Rattle.std.specs.Prelude.{None, is_some}
use Rattle.std.proofs.lemmas.List.{reverse-append, reverse-reverse}
use Rattle.qc_names.specs.Name as name
use Rattle.qc_event.specs.declared.event.Entry.{Entry}
use Rattle.qc_event.specs.declared.event.Event.{Event}
use Rattle.qc_event.specs.declared.event.Event.TheVariants as event
use Rattle.qc_event.specs.declared.event.How.{How}
use Rattle.qc_event.specs.declared.event.How.TheVariants as how
use Rattle.qc_event.specs.declared.event.Outcome.TheVariants.{Live}
use Rattle.qc_event.specs.Base.{Setting}
use Rattle.qc_event.specs.History.{Past, Name, Given, start, end, asked, is_child}
use Rattle.qc_event.specs.Dead.{dead}
use Rattle.qc_event.specs.Grants.{MayGrant}
use Rattle.qc_event.specs.Legal.{Legal, Allowed, MayHappen}
use Rattle.qc_event.proofs.LastNumber.{EndsIn, ends_in, front_last, is_child-last}
use Rattle.qc_event.proofs.OneEntry.{some_or_none}
use Rattle.qc_event.proofs.Orderly.{Orderly}
use Rattle.qc_event.proofs.Lawful.{lawful, started_some}
use Rattle.qc_event.proofs.LegalOrderly.{legal_orderly}
use Rattle.qc_serial.specs.Serial.{IsUserOf}
use Rattle.qc_serial.specs.Visible.{served_order, IsGivenBefore, KeepsTurns}
use Rattle.qc_serial.proofs.Accesses.{asked_access, granted_asked}
use Rattle.qc_serial.proofs.OneAsked.{one_asked}
use Rattle.qc_serial.proofs.MossNames.{Line}
use Rattle.qc_serial.proofs.MossMoves as moss
use Rattle.qc_serial.proofs.MossMoves.{access_of}
use Rattle.qc_serial.proofs.MossLocks.{In}
use Rattle.qc_serial.proofs.MossSerial.{serial}
use Rattle.qc_serial.proofs.MossLists.{in-right}
use Rattle.qc_serial.proofs.MossWalks.{serial-in}
use Rattle.qc_serial.proofs.MossTurned.{turn_last, turn_back}
use Rattle.qc_serial.proofs.MossPast.{end_move, move_in, moves, start_at, end_grants}
use Rattle.qc_serial.proofs.MossStands.{live_open}
use Rattle.qc_serial.proofs.MossRules.{follows}
use Rattle.qc_serial.proofs.MossVisible.{given_granted, Served, serves}
use Rattle.qc_serial.proofs.MossInTurn.{IsBefore, Siblings, InTurn, OneLive, AlwaysOneLive, in_turn}

-- SIBLINGS

sibling_child : (n : Name) (k : ℕ) (p : Line) → reverse n ≡ k ∷ p → is_child (reverse p) n ≡ true
sibling_child n k p is = ap (is_child (reverse p)) (turn_back n (k ∷ p) is ∙ turn_last k p) ∙ is_child-last (reverse p) k

given_asked : (setting : Setting) (past : Past) (g : Given) → Legal setting past → In g (moss.grants (moves past)) → is_some (asked past g.grant.access) ≡ true
given_asked setting past g legal i = granted_asked setting past g.grant.access g legal (given_granted setting past g legal i)

open_access : (past : Past) → Orderly past → (g : Given) → moss.outcome (moves past) (access_of g) ≡ Live → end past g.grant.access ≡ None
open_access past orderly g live = subst (λ n. end past n ≡ None) (reverse-reverse g.grant.access) (live_open past orderly (access_of g) live)

one_live : (setting : Setting) (past : Past) → Legal setting past → OneLive (moves past)
one_live setting past legal b c i j s open_b open_c =
    let orderly : Orderly past = legal_orderly setting past legal in
    ap reverse (one_asked setting past (reverse s.parent) b.grant.access c.grant.access legal
    (sibling_child b.grant.access s.one s.parent s.is_one) (sibling_child c.grant.access s.other s.parent s.is_other)
    (given_asked setting past b legal i) (given_asked setting past c legal j)
    (open_access past orderly b open_b) (open_access past orderly c open_c))

always_end : (past : Past) (m : Line) (h : How) → OneLive (moves past) → AlwaysOneLive (moves past) → AlwaysOneLive (end_move m h ++ moves past)
always_end past [] h one always = always
always_end past (k ∷ p) (how.Commit answer) one always = (one, always)
always_end past (k ∷ p) (how.Abort cause) one always = (one, always)

always_entry : (past : Past) (ev : Event) → OneLive (moves past) → AlwaysOneLive (moves past) → AlwaysOneLive (move_in ev ++ moves past)
always_entry past (event.Granted copy grant) one always = (one, always)
always_entry past (event.End n h) one always = always_end past (reverse n) h one always
always_entry past _ one always = always

always_one : (setting : Setting) (past : Past) → Legal setting past → AlwaysOneLive (moves past)
always_one setting [] legal = tt
always_one setting (e ∷ past) legal = always_entry past e.event (one_live setting past legal.0) (always_one setting past legal.0)

-- IN TIME

later_too : (e : Entry) (past : Past) (g h : Given) → IsGivenBefore past g h → IsGivenBefore (e ∷ past) g h
later_too e past g h b = record { newer = e ∷ b.newer; older = b.older; parts = ap (λ x. e ∷ x) b.parts; given = b.given; not_yet = b.not_yet }

before_entry : (setting : Setting) (past : Past) (e : Entry) (ev : Event) (g h : Given) → e.event ≡ ev → Legal setting past → Allowed setting past e
    → (IsBefore (moss.grants (moves past)) g h → IsGivenBefore past g h) → IsBefore (moss.grants (move_in ev ++ moves past)) g h → IsGivenBefore (e ∷ past) g h
before_entry setting past e (event.Granted copy grant) g h is legal allowed before (inl now) =
    let there : e.event ≡ event.Granted h.copy h.grant = is ∙ ap (λ (x : Given). event.Granted x.copy x.grant) (sym now.0) in
    let may : MayGrant setting past e.seat h.copy h.grant = subst (MayHappen setting past e.seat) there allowed in
    record { newer = e ∷ []; older = past; parts = refl; given = given_granted setting past g legal now.1; not_yet = may.first_time }
before_entry setting past e (event.Granted copy grant) g h is legal allowed before (inr old) = later_too e past g h (before old)
before_entry setting past e (event.End n x) g h is legal allowed before old = later_too e past g h (before (subst (λ gs. IsBefore gs g h) (end_grants (reverse n) x (moves past)) old))
before_entry setting past e _ g h is legal allowed before old = later_too e past g h (before old)

given_before : (setting : Setting) (past : Past) (g h : Given) → Legal setting past → IsBefore (moss.grants (moves past)) g h → IsGivenBefore past g h
given_before setting [] g h legal b = absurd b
given_before setting (e ∷ past) g h legal b = before_entry setting past e e.event g h refl legal.0 legal.1 (given_before setting past g h legal.0) b

-- THE LAW

-- what stands in turn, at one of the grants
turn_at : (all later rest : List Given) (h : Given) → InTurn all (later ++ h ∷ rest) → (g : Given) → In g rest → Siblings (access_of g) (access_of h) → IsBefore all g h
turn_at all [] rest h turn g i s = turn.0 g i s
turn_at all (x ∷ later) rest h turn g i s = turn_at all later rest h turn.1 g i s

turn_list : (earlier between later : List Given) (g h : Given) → reverse (earlier ++ g ∷ (between ++ h ∷ later)) ≡ reverse later ++ h ∷ (reverse between ++ g ∷ reverse earlier)
turn_list earlier between later g h =
    reverse-append earlier (g ∷ (between ++ h ∷ later))
    ∙ ap (λ xs. xs ++ reverse earlier) (reverse-cons g (between ++ h ∷ later) ∙ ap (λ xs. xs ++ g ∷ []) (reverse-append between (h ∷ later) ∙ ap (λ xs. xs ++ reverse between) (reverse-cons h later)))
    ∙ append_assoc ((reverse later ++ h ∷ []) ++ reverse between) (g ∷ []) (reverse earlier)
    ∙ append_assoc (reverse later ++ h ∷ []) (reverse between) (g ∷ reverse earlier)
    ∙ append_assoc (reverse later) (h ∷ []) (reverse between ++ g ∷ reverse earlier)

module _ (setting : Setting) (past : Past) (t : Name) (legal : Legal setting past) (user : IsUserOf past t) (alive : dead past t ≡ None) where
  served : Served past t
  served = serves past t (legal_orderly setting past legal) user alive

  nonroot : (g : Given) → In g (moss.grants (moves past)) → g.grant.access ≡ [] → ⊥
  nonroot g i root =
      let began = started_some _ (start past g.grant.access) (asked_access setting past g.grant.access legal (given_asked setting past g legal i)).started in
      some_or_none (start past g.grant.access) began (ap (start past) root ∙ (lawful past (legal_orderly setting past legal)).no_root_start)

  siblings : (g h : Given) → In g (moss.grants (moves past)) → In h (moss.grants (moves past)) → name.front g.grant.access ≡ name.front h.grant.access → Siblings (access_of g) (access_of h)
  siblings g h i j same = by_parents (ends_in g.grant.access) (ends_in h.grant.access)
    where
      child : (n m : Name) (k : ℕ) → n ≡ m ++ k ∷ [] → reverse n ≡ k ∷ reverse m
      child n m k is = ap reverse is ∙ reverse-append m (k ∷ [])

      by_parents : (g.grant.access ≡ []) ⊎ EndsIn g.grant.access → (h.grant.access ≡ []) ⊎ EndsIn h.grant.access → Siblings (access_of g) (access_of h)
      by_parents (inl root) q = absurd (nonroot g i root)
      by_parents (inr p) (inl root) = absurd (nonroot h j root)
      by_parents (inr (p, k, is)) (inr (q, l, at)) =
          let parents : p ≡ q = sym (ap name.front is ∙ front_last p k) ∙ same ∙ ap name.front at ∙ front_last q l in
          record { parent = reverse p; one = k; other = l; is_one = child g.grant.access p k is; is_other = child h.grant.access q l at ∙ ap (λ x. l ∷ reverse x) (sym parents) }

  pub keeps_turns : KeepsTurns past (served_order past t)
  keeps_turns earlier between later g h is same =
      let turned : serial (moves past) served.who ≡ reverse later ++ h ∷ (reverse between ++ g ∷ reverse earlier) =
      sym (reverse-reverse (serial (moves past) served.who)) ∙ ap reverse (sym served.same_order ∙ is) ∙ turn_list earlier between later g h in
      let rules = follows setting past legal in
      let turn = in_turn (start_at setting.base) (moves past) served.who rules (always_one setting past legal) served.live in
      let member = λ (x : Given) (i : In x (reverse later ++ h ∷ (reverse between ++ g ∷ reverse earlier))).
      (serial-in (start_at setting.base) (moves past) served.who x rules (subst (In x) (sym turned) i)).granted in
      let in_rest : In g (reverse between ++ g ∷ reverse earlier) = in-right g (reverse between) (g ∷ reverse earlier) (inl refl) in
      let i = member g (in-right g (reverse later) (h ∷ (reverse between ++ g ∷ reverse earlier)) (inr in_rest)) in
      let j = member h (in-right h (reverse later) (h ∷ (reverse between ++ g ∷ reverse earlier)) (inl refl)) in
      given_before setting past g h legal (turn_at (moss.grants (moves past)) (reverse later) (reverse between ++ g ∷ reverse earlier) h
      (subst (InTurn (moss.grants (moves past))) turned turn) g in_rest (siblings g h i j same))
