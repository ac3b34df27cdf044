-- Who follows a plan by one list of entries follows it by another that tells the same of each name below.
use Rattle.std.proofs.Common.{◌≡◌, ◌⊎◌, inl, inr, ℕ, Bool, true, false, List, [], ◌∷◌, refl, sym, ap, ◌∙◌, subst, ◌<◌, ◌≤◌, arith, length}
use Rattle.std.specs.Prelude.{◌==◌, Option, None, Some, MatchBool}
use Rattle.std.specs.List.{AllByRecursion}
use Rattle.std.specs.Option.{option_map_or}
use Rattle.qc_event.specs.declared.event.Answer.{Answer}
use Rattle.qc_event.specs.declared.event.How.{How}
use Rattle.qc_event.specs.declared.event.How.TheVariants.{Commit, Abort}
use Rattle.qc_event.specs.History.{Past, Name, end, is_ready, is_child, kind_of}
use Rattle.qc_event.proofs.LastNumber.{child_last, child_longer, below_more}
use Rattle.qc_event.proofs.OneEntry.{all_children}
use Rattle.qc_names.specs.Name as name
use Rattle.qc_script.specs.Plan.{Plan}
use Rattle.qc_interp.specs.Asking.{DoesOn, DoesAfter, DoesInRow, Asks, RowAsks}
use Rattle.qc_interp.specs.Deeds.{Deed, deeds, deed_end, OfChild}
use Rattle.qc_interp.specs.Follows.{Stops, HasNotEnded, StopsBefore, WasAsked, WasKilled, WasOrphan, WasTurnedBack, GoesOn, GoesOnAfter, AfterTries, AfterRow, Commits, RunsPlan, RunsRow}
use Rattle.qc_interp.specs.Reach.{Reach}
use Rattle.qc_interp.specs.Rows.{AreAtOnce, OneOf, is_of_body, is_try, tries_among, has_committed, each_begun, each_tried, first_failed, opens_seat, deed_done}
use Rattle.qc_interp.specs.Tries.{is_tried_again}
use Rattle.qc_interp.specs.Turns.{seat_of}
use Rattle.qc_interp.proofs.Listing.Lists.{all_parts}
use Rattle.qc_interp.proofs.Stepping.Asked.{BranchAsks}
use Rattle.qc_interp.proofs.Following.Behind.{waits_for, finds_idle, next_alike, first_alike}
use Rattle.qc_interp.proofs.Scopes.Beside.{IsSameSeat, beside_alike, own_seat_alike}
use Rattle.qc_interp.proofs.Following.Deeds.{begun, children_are}
use Rattle.qc_interp.proofs.Rows.SameDeeds.{IsSameTry, OfAnyChild, all_map, all_both, all_among, one_map, failed_is, among_alike, begun_alike, each_alike, at_once_alike, failed_alike}
use Rattle.qc_interp.proofs.Following.Followed.{IsTryBeside, IsRowTry}
use Rattle.qc_interp.proofs.Trying.TriesAlike.{AreAlike, IfAny, tries_alike, tries_do_alike}
use Rattle.qc_interp.proofs.Following.Turning.{itself}

pub below_child : (a n c : Name) → name.is_ancestor a n ≡ true → is_child n c ≡ true → name.is_ancestor a c ≡ true
below_child a n c h child = let l = child_last n c child in ap (name.is_ancestor a) l.1 ∙ below_more a n (l.0 ∷ []) h

-- one child of a name waits for another by a list of entries, or finds it idle, and so it does by another list
abbrev pub AreInOrder : Past → Past → Name → Type 0
AreInOrder p q n = (x y : Name) → is_child n x ≡ true → is_child n y ≡ true → (waits_for p x y ≡ true → waits_for q x y ≡ true) × (finds_idle p x y ≡ true → finds_idle q x y ≡ true)

-- by two lists of entries the same stands of a name, and of the order of its children
pub record AgreesAt (p q : Past) (x : Name) : Type 0 where
  pub kind : kind_of p x ≡ kind_of q x
  pub ended : end p x ≡ end q x
  pub ready : is_ready p x ≡ is_ready q x
  pub seat : seat_of p x ≡ seat_of q x
  pub opens : opens_seat p x ≡ opens_seat q x
  pub order : AreInOrder p q x
  pub deeds : deeds p x ≡ deeds q x

-- the same, as far as it is asked of who follows a plan, whatever its end and its deeds are
pub record AgreesOf (p q : Past) (n : Name) : Type 0 where
  pub ready : is_ready p n ≡ is_ready q n
  pub seat : seat_of p n ≡ seat_of q n
  pub order : AreInOrder p q n

-- a name was killed, or aborted as another asked, by both
pub record AreEndsAlike (p q : Past) (n : Name) : Type 0 where
  pub killed : WasKilled (end q n) → WasKilled (end p n)
  pub asked : WasAsked n (end p n) → WasAsked n (end q n)

-- Some names of which the same stands, with all that they start.
module _ (p q : Past) (Low : Name → Type 0) (agrees : (x : Name) → Low x → AgreesAt p q x) (down : (x : Name) → Low x → AllByRecursion (OfAnyChild Low) (deeds p x)) where
  abbrev LowDeed : Deed → Type 0
  LowDeed = OfAnyChild Low

  -- one of them, started by this name
  abbrev LowChild : Name → Deed → Type 0
  LowChild n = OfAnyChild (λ x. Low x × (is_child n x ≡ true))

  low_of : (n : Name) (d : Deed) → LowChild n d → LowDeed d
  low_of n (Deed.child x) low = low.0
  low_of n (Deed.mark session) low = tt

  child_of : (n : Name) (d : Deed) → LowChild n d → OfAnyChild (λ x. is_child n x ≡ true) d
  child_of n (Deed.child x) low = low.1
  child_of n (Deed.mark session) low = tt

  any_low : (n : Name) (o : Option Deed) → IfAny (LowChild n) o → IfAny LowDeed o
  any_low n None low = tt
  any_low n (Some d) low = low_of n d low

  pub low_children : (n : Name) → AllByRecursion LowDeed (deeds p n) → AllByRecursion (LowChild n) (deeds p n)
  low_children n low = by_deeds (deeds p n) low (subst (AllByRecursion (λ c. is_child n c ≡ true)) (children_are p n) (all_children p n))
    where
      by_deeds : (ds : List Deed) → AllByRecursion LowDeed ds → AllByRecursion (λ c. is_child n c ≡ true) (begun ds) → AllByRecursion (LowChild n) ds
      by_deeds [] all children = tt
      by_deeds (Deed.child x ∷ ds) all children = ((all.0, children.0), by_deeds ds all.1 children.1)
      by_deeds (Deed.mark session ∷ ds) all children = (tt, by_deeds ds all.1 children)

  down_children : (x : Name) → Low x → AllByRecursion (LowChild x) (deeds p x)
  down_children x low = low_children x (down x low)

  agrees_of : (x : Name) → Low x → AgreesOf p q x
  agrees_of x low = let at = agrees x low in record { ready = at.ready; seat = at.seat; order = at.order }

  same_seat : (d : Deed) → LowDeed d → IsSameSeat p q d
  same_seat (Deed.child x) low = let at = agrees x low in (at.seat, at.opens)
  same_seat (Deed.mark session) low = tt

  again_low : (d : Deed) → LowDeed d → AreAlike (deed_end p) (deed_end q) d
  again_low (Deed.child x) low = ap is_tried_again (agrees x low).ended
  again_low (Deed.mark session) low = refl

  same_one : (d : Deed) → LowDeed d → IsSameTry p q d
  same_one d low = record { tried = λ number. by_deed number d low; again = again_low d low }
    where
      by_deed : (number : ℕ) (d : Deed) → LowDeed d → is_try p number d ≡ is_try q number d
      by_deed number (Deed.child x) low = ap (λ o. option_map_or (is_of_body number) o false) (agrees x low).kind
      by_deed number (Deed.mark session) low = refl

  at_once_by : (n : Name) (branches : Plan) (here further : List Deed) → AreInOrder p q n → AllByRecursion (LowChild n) here → AllByRecursion (LowChild n) further → AreAtOnce p branches here further → AreAtOnce q branches here further
  at_once_by n branches here further order low more h =
      let all = all_map _ _ (low_of n) here low in
      let same = all_map _ _ same_one here all in
      let children = all_map _ _ (child_of n) here low in (
        sym (at_once_alike p q branches here same) ∙ h.0,
        sym (own_seat_alike p q branches here same (all_map _ _ same_seat here all)) ∙ h.1,
        first_alike p q (λ x. is_child n x ≡ true) (λ x y first second. (order x y first second).1) branches here same children h.2,
        next_alike deed_done (λ past session. refl) p q (λ x. is_child n x ≡ true) (λ x y first second. (order x y first second).0) here further children (all_map _ _ (child_of n) further more) h.3,
      )

  same_commit : (d : Deed) → LowDeed d → has_committed (deed_end p d) ≡ has_committed (deed_end q d)
  same_commit (Deed.child x) low = ap has_committed (agrees x low).ended
  same_commit (Deed.mark session) low = refl

  stops_alike : (reach : Reach) (n : Name) (how : Option How) → is_ready p n ≡ is_ready q n → Stops reach p n how → Stops reach q n how
  stops_alike Reach.to_the_end n how ready h = h
  stops_alike Reach.cut_off n how ready (inl h) = inl h
  stops_alike Reach.cut_off n how ready (inr h) = inr (h.0, sym ready ∙ h.1)

  unended_alike : (reach : Reach) (n : Name) (how : Option How) → is_ready p n ≡ is_ready q n → HasNotEnded reach p n how → HasNotEnded reach q n how
  unended_alike Reach.to_the_end n how ready h = h
  unended_alike Reach.cut_off n how ready (inl h) = inl h
  unended_alike Reach.cut_off n how ready (inr h) = inr (h.0, sym ready ∙ h.1)

  before_alike : (reach : Reach) (n : Name) (how : Option How) → is_ready p n ≡ is_ready q n → StopsBefore reach p n how → StopsBefore reach q n how
  before_alike reach n how ready (inl h) = inl (unended_alike reach n how ready h)
  before_alike reach n how ready (inr h) = inr h

  goes_alike : (reach : Reach) (n : Name) (o : Option How) (Rest RestToo : Answer → Type 0) (further : List Deed) (how : Option How) → is_ready p n ≡ is_ready q n → ((given : Answer) → Rest given → RestToo given) → GoesOn reach p n o Rest further how → GoesOn reach q n o RestToo further how
  goes_alike Reach.to_the_end n None Rest RestToo further how ready step h = h
  goes_alike Reach.cut_off n None Rest RestToo further how ready step h = (h.0, unended_alike Reach.cut_off n how ready h.1)
  goes_alike reach n (Some (Commit given)) Rest RestToo further how ready step h = step given h
  goes_alike reach n (Some (Abort y)) Rest RestToo further how ready step h = (
    h.0,
    elim h.1 [
      | inl is ↦ inl is
      | inr x ↦ inr (stops_alike reach n how ready x)
    ],
  )

  after_alike : (reach : Reach) (n child : Name) (o : Option How) (Rest RestToo : Type 0) (further : List Deed) (how : Option How) → is_ready p n ≡ is_ready q n → (Rest → RestToo) → GoesOnAfter reach p n child o Rest further how → GoesOnAfter reach q n child o RestToo further how
  after_alike Reach.to_the_end n child None Rest RestToo further how ready step h = h
  after_alike Reach.cut_off n child None Rest RestToo further how ready step h = (h.0, unended_alike Reach.cut_off n how ready h.1)
  after_alike reach n child (Some (Commit given)) Rest RestToo further how ready step h = step h
  after_alike reach n child (Some (Abort y)) Rest RestToo further how ready step h = (
    h.0,
    elim h.1 [
      | inl is ↦ inl is
      | inr x ↦ inr (stops_alike reach n how ready x)
    ],
  )

  behind_alike : (reach : Reach) (n : Name) (last : Option Deed) (must : Bool) (Rest RestToo : Type 0) (further : List Deed) (how : Option How) → is_ready p n ≡ is_ready q n → IfAny LowDeed last → (Rest → RestToo) → AfterTries reach p n last must Rest further how → AfterTries reach q n last must RestToo further how
  behind_alike reach n None must Rest RestToo further how ready was step h = step h
  behind_alike reach n (Some d) false Rest RestToo further how ready was step h = step h
  behind_alike reach n (Some (Deed.mark m)) true Rest RestToo further how ready was step h = absurd h
  behind_alike reach n (Some (Deed.child child)) true Rest RestToo further how ready was step h =
      subst (λ o. GoesOnAfter reach q n child o RestToo further how) (agrees child was).ended (after_alike reach n child (end p child) Rest RestToo further how ready step h)

  low_runs : (reach : Reach) (s : ℕ) (inner : Plan) → ((x : Name) → Low x → RunsPlan reach s p x inner (deeds p x) (end p x) → RunsPlan reach s q x inner (deeds p x) (end p x))
      → (x : Name) → Low x → RunsPlan reach s p x inner (deeds p x) (end p x) → RunsPlan reach s q x inner (deeds q x) (end q x)
  low_runs reach s inner step x lx h =
      subst (λ o. RunsPlan reach s q x inner (deeds q x) o) (agrees x lx).ended
      (subst (λ xs. RunsPlan reach s q x inner xs (end p x)) (agrees x lx).deeds (step x lx h))

  try_alike : (reach : Reach) (s : ℕ) (n : Name) (number : ℕ) (inner : Plan) → seat_of p n ≡ seat_of q n → ((x : Name) → Low x → RunsPlan reach s p x inner (deeds p x) (end p x) → RunsPlan reach s q x inner (deeds p x) (end p x))
      → (d : Deed) → LowChild n d → OfChild (IsTryBeside reach s p n number inner) d → OfChild (IsTryBeside reach s q n number inner) d
  try_alike reach s n number inner seat step (Deed.mark m) low t = t
  try_alike reach s n number inner seat step (Deed.child x) low t = (
    sym (beside_alike p q n x seat (agrees x low.0).seat) ∙ t.0,
    sym (agrees x low.0).kind ∙ t.1,
    low_runs reach s inner step x low.0 t.2,
  )

  turned_alike : (reach : Reach) (x : Name) → Low x → WasTurnedBack reach p x → WasTurnedBack reach q x
  turned_alike reach x low h =
      let at = agrees x low in (
        sym at.deeds ∙ h.0,
        subst (λ o. WasOrphan o ⊎ HasNotEnded reach q x o) at.ended (elim h.1 [
          | inl orphan ↦ inl orphan
          | inr runs ↦ inr (unended_alike reach x (end p x) at.ready runs)
        ]),
      )

  row_try_alike : (reach : Reach) (s : ℕ) (all_begun : Bool) (number : ℕ) (inner : Plan) → ((x : Name) → Low x → RunsPlan reach s p x inner (deeds p x) (end p x) → RunsPlan reach s q x inner (deeds p x) (end p x))
      → (d : Deed) → LowDeed d → OfChild (IsRowTry reach s p all_begun number inner) d → OfChild (IsRowTry reach s q all_begun number inner) d
  row_try_alike reach s all_begun number inner step (Deed.mark m) low t = t
  row_try_alike reach s true number inner step (Deed.child x) lx t = (sym (agrees x lx).kind ∙ t.0, low_runs reach s inner step x lx t.1)
  row_try_alike reach s false number inner step (Deed.child x) lx t = (sym (agrees x lx).kind ∙ t.0, turned_alike reach x lx t.1)

  behind_row_alike : (reach : Reach) (n : Name) (tried : Bool) (failed : Option Deed) (Rest RestToo : Type 0) (further : List Deed) (how : Option How) → is_ready p n ≡ is_ready q n → IfAny LowDeed failed → (Rest → RestToo) → AfterRow reach p n tried failed Rest further how → AfterRow reach q n tried failed RestToo further how
  behind_row_alike reach n true failed Rest RestToo further how ready was step h = behind_alike reach n failed true Rest RestToo further how ready was step h
  behind_row_alike reach n false failed Rest RestToo further how ready was step h = (h.0, stops_alike reach n how ready h.1)

  mutual
    pub plan_alike : (reach : Reach) (s : ℕ) (n : Name) (plan : Plan) (cs : List Deed) (how : Option How) → AgreesOf p q n → AllByRecursion (LowChild n) cs → RunsPlan reach s p n plan cs how → RunsPlan reach s q n plan cs how
    plan_alike reach s n Plan.done [] how of all (inl is) = inl (by_how how is)
      where
        by_how : (o : Option How) → Commits p n o → Commits q n o
        by_how None h = sym of.ready ∙ h
        by_how (Some (Commit given)) h = tt
        by_how (Some (Abort x)) h = h
    plan_alike reach s n Plan.done [] how of all (inr x) = inr (stops_alike reach n how of.ready x)
    plan_alike reach s n Plan.done (x ∷ cs) how of all h = absurd h
    plan_alike reach s n (Plan.manage_by k next) [] how of all h = stops_alike reach n how of.ready h
    plan_alike reach s n (Plan.manage_by k next) (Deed.mark m ∷ cs) how of all h = absurd h
    plan_alike reach s n (Plan.manage_by k next) (Deed.child x ∷ cs) how of all h = (
      sym (agrees x all.0.0).kind ∙ h.0,
      sym (beside_alike p q n x of.seat (agrees x all.0.0).seat) ∙ h.1,
      subst (λ o. GoesOn reach q n o (λ given. RunsPlan reach s q n (next given) cs how) cs how) (agrees x all.0.0).ended
          (goes_alike reach n (end p x) (λ given. RunsPlan reach s p n (next given) cs how) (λ given. RunsPlan reach s q n (next given) cs how) cs how of.ready (λ given. plan_alike reach s n (next given) cs how of all.1) h.2),
    )
    plan_alike reach s n (Plan.child_then number tries must inner rest) cs how of all h =
        tries_alike (deed_end p) (deed_end q) (OfChild (IsTryBeside reach s p n number inner)) (OfChild (IsTryBeside reach s q n number inner)) (Stops reach p n how) (Stops reach q n how) (λ last further. AfterTries reach p n last must (RunsPlan reach s p n rest further how) further how)
        (λ last further. AfterTries reach q n last must (RunsPlan reach s q n rest further how) further how) (LowChild n) (λ d low. again_low d (low_of n d low)) (stops_alike reach n how of.ready)
        (try_alike reach s n number inner of.seat (λ x lx. plan_alike reach s x inner (deeds p x) (end p x) (agrees_of x lx) (down_children x lx)))
        (λ last further was lf f. behind_alike reach n last must (RunsPlan reach s p n rest further how) (RunsPlan reach s q n rest further how) further how of.ready (any_low n last was) (plan_alike reach s n rest further how of lf) f) None tries cs tt all h
    plan_alike reach s n (Plan.par_then branches rest) cs how of all h =
        let low = all_parts (LowChild n) h.0 h.1 (subst (AllByRecursion (LowChild n)) h.2 all) in
        let here = all_map _ _ (low_of n) h.0 low.0 in
        let same = all_map _ _ same_one h.0 here in (
          h.0,
          h.1,
          h.2,
          at_once_by n branches h.0 h.1 of.order low.0 low.1 h.3,
          subst (λ b. RunsRow reach s q b branches h.0) (begun_alike p q branches h.0 same) (row_alike reach s (each_begun p branches h.0) branches h.0 here h.4),
          subst (λ b. AfterRow reach q n b (first_failed q branches h.0) (RunsPlan reach s q n rest h.1 how) h.1 how) (each_alike p q false branches h.0 same)
              (subst (λ o. AfterRow reach q n (each_tried p false branches h.0) o (RunsPlan reach s q n rest h.1 how) h.1 how) (failed_alike p q branches h.0 same (all_map _ _ same_commit h.0 here))
              (behind_row_alike reach n (each_tried p false branches h.0) (first_failed p branches h.0) (RunsPlan reach s p n rest h.1 how) (RunsPlan reach s q n rest h.1 how) h.1 how of.ready (failed_is p LowDeed branches h.0 here) (plan_alike reach s n rest h.1 how of low.1) h.5)),
        )
    plan_alike reach s n (Plan.abort_then levels rest) [] how of all (inl is) = inl is
    plan_alike reach s n (Plan.abort_then levels rest) [] how of all (inr x) = inr (before_alike reach n how of.ready x)
    plan_alike reach s n (Plan.abort_then levels rest) (x ∷ cs) how of all h = absurd h
    plan_alike reach s n (Plan.crash_then copy rest) cs how of all h = plan_alike reach s n rest cs how of all h
    plan_alike reach s n (Plan.kill_then session rest) [] how of all h = before_alike reach n how of.ready h
    plan_alike reach s n (Plan.kill_then session rest) (Deed.child x ∷ cs) how of all h = absurd h
    plan_alike reach s n (Plan.kill_then session rest) (Deed.mark m ∷ cs) how of all h = (h.0, by_own (session == s) h.1 (plan_alike reach s n rest cs how of all.1))
      where
        by_own : (b : Bool) → MatchBool b ((cs ≡ []) × StopsBefore reach p n how) (RunsPlan reach s p n rest cs how) → (RunsPlan reach s p n rest cs how → RunsPlan reach s q n rest cs how)
            → MatchBool b ((cs ≡ []) × StopsBefore reach q n how) (RunsPlan reach s q n rest cs how)
        by_own true x more = (x.0, before_alike reach n how of.ready x.1)
        by_own false x more = more x

    row_alike : (reach : Reach) (s : ℕ) (all_begun : Bool) (branches : Plan) (ds : List Deed) → AllByRecursion LowDeed ds → RunsRow reach s p all_begun branches ds → RunsRow reach s q all_begun branches ds
    row_alike reach s all_begun (Plan.child_then number tries must inner others) ds low h = (
      subst (AllByRecursion (OfChild (IsRowTry reach s q all_begun number inner))) (among_alike p q number ds (all_map _ _ same_one ds low))
          (all_both _ _ _ (row_try_alike reach s all_begun number inner (λ x lx. plan_alike reach s x inner (deeds p x) (end p x) (agrees_of x lx) (down_children x lx))) (tries_among p number ds) (all_among (is_try p number) LowDeed ds low) h.0),
      row_alike reach s all_begun others ds low h.1,
    )
    row_alike reach s all_begun _ ds low h = h

  -- WHO ASKS

  low_ends : (x : Name) → Low x → AreEndsAlike p q x
  low_ends x low = record { killed = subst WasKilled (sym (agrees x low).ended); asked = subst (WasAsked x) (agrees x low).ended }

  does_after_alike : (last : Option Deed) (must : Bool) (Does DoesToo : Type 0) → IfAny LowDeed last → (Does → DoesToo) → DoesAfter p last must Does → DoesAfter q last must DoesToo
  does_after_alike None must Does DoesToo was step h = step h
  does_after_alike (Some d) false Does DoesToo was step h = step h
  does_after_alike (Some (Deed.mark m)) true Does DoesToo was step h = absurd h
  does_after_alike (Some (Deed.child child)) true Does DoesToo was step h = subst (λ o. DoesOn o (λ given. DoesToo)) (agrees child was).ended (by_end (end p child) h)
    where
      by_end : (o : Option How) → DoesOn o (λ given. Does) → DoesOn o (λ given. DoesToo)
      by_end None g = g
      by_end (Some (Commit given)) g = step g
      by_end (Some (Abort y)) g = g

  does_in_row_alike : (tried : Bool) (failed : Option Deed) (One OneToo : Type 0) (further : List Deed) (Does DoesToo : Type 0) → IfAny LowDeed failed → (One → OneToo) → (Does → DoesToo) → DoesInRow p tried failed One further Does → DoesInRow q tried failed OneToo further DoesToo
  does_in_row_alike true failed One OneToo further Does DoesToo was one step (inl h) = inl (one h)
  does_in_row_alike true failed One OneToo further Does DoesToo was one step (inr h) = inr (does_after_alike failed true Does DoesToo was step h)
  does_in_row_alike false failed One OneToo further Does DoesToo was one step h = (h.0, one h.1)

  try_asks_alike : (by target : Name) (inner : Plan) → ((x : Name) → Low x → Asks p x inner (deeds p x) by target → Asks q x inner (deeds p x) by target)
      → (d : Deed) → LowDeed d → OfChild (λ x. Asks p x inner (deeds p x) by target) d → OfChild (λ x. Asks q x inner (deeds q x) by target) d
  try_asks_alike by target inner step (Deed.mark m) ends t = t
  try_asks_alike by target inner step (Deed.child x) lx t = subst (λ xs. Asks q x inner xs by target) (agrees x lx).deeds (step x lx t)

  mutual
    pub plan_asks_alike : (by target n : Name) → AreEndsAlike p q n → (plan : Plan) (cs : List Deed) → AllByRecursion LowDeed cs → Asks p n plan cs by target → Asks q n plan cs by target
    plan_asks_alike by target n ends Plan.done cs all h = absurd h
    plan_asks_alike by target n ends (Plan.manage_by k next) [] all h = absurd h
    plan_asks_alike by target n ends (Plan.manage_by k next) (Deed.mark m ∷ cs) all h = absurd h
    plan_asks_alike by target n ends (Plan.manage_by k next) (Deed.child x ∷ cs) all h =
        subst (λ o. DoesOn o (λ given. Asks q n (next given) cs by target)) (agrees x all.0).ended (by_end (end p x) (λ given. plan_asks_alike by target n ends (next given) cs all.1) h)
      where
        by_end : (o : Option How) → ((given : Answer) → Asks p n (next given) cs by target → Asks q n (next given) cs by target)
            → DoesOn o (λ given. Asks p n (next given) cs by target) → DoesOn o (λ given. Asks q n (next given) cs by target)
        by_end None step g = g
        by_end (Some (Commit given)) step g = step given g
        by_end (Some (Abort y)) step g = g
    plan_asks_alike by target n ends (Plan.child_then number tries must inner rest) cs all h =
        tries_do_alike (deed_end p) (deed_end q) (OfChild (λ x. Asks p x inner (deeds p x) by target)) (OfChild (λ x. Asks q x inner (deeds q x) by target)) (λ last further. DoesAfter p last must (Asks p n rest further by target))
        (λ last further. DoesAfter q last must (Asks q n rest further by target)) LowDeed again_low
        (try_asks_alike by target inner (λ x lx. plan_asks_alike by target x (low_ends x lx) inner (deeds p x) (down x lx)))
        (λ last further was lf f. does_after_alike last must (Asks p n rest further by target) (Asks q n rest further by target) was (plan_asks_alike by target n ends rest further lf) f) None tries cs tt all h
    plan_asks_alike by target n ends (Plan.par_then branches rest) cs all h =
        let low = all_parts LowDeed h.0 h.1 (subst (AllByRecursion LowDeed) h.2 all) in
        let same = all_map _ _ same_one h.0 low.0 in (
          h.0,
          h.1,
          h.2,
          sym (at_once_alike p q branches h.0 same) ∙ h.3,
          subst (λ b. DoesInRow q b (first_failed q branches h.0) (BranchAsks q branches h.0 by target) h.1 (Asks q n rest h.1 by target)) (each_alike p q false branches h.0 same)
              (subst (λ o. DoesInRow q (each_tried p false branches h.0) o (BranchAsks q branches h.0 by target) h.1 (Asks q n rest h.1 by target)) (failed_alike p q branches h.0 same (all_map _ _ same_commit h.0 low.0))
              (does_in_row_alike (each_tried p false branches h.0) (first_failed p branches h.0) (BranchAsks p branches h.0 by target) (BranchAsks q branches h.0 by target) h.1 (Asks p n rest h.1 by target) (Asks q n rest h.1 by target) (failed_is p LowDeed branches h.0 low.0) (λ asks. (sym (begun_alike p q branches h.0 same) ∙ asks.0, row_asks_alike by target branches h.0 low.0 asks.1)) (plan_asks_alike by target n ends rest h.1 low.1) h.4)),
        )
    plan_asks_alike by target n ends (Plan.abort_then levels rest) [] all h = (h.0, h.1, λ killed. h.2 (ends.killed killed))
    plan_asks_alike by target n ends (Plan.abort_then levels rest) (x ∷ cs) all h = absurd h
    plan_asks_alike by target n ends (Plan.crash_then copy rest) cs all h = plan_asks_alike by target n ends rest cs all h
    plan_asks_alike by target n ends (Plan.kill_then session rest) [] all h = (ends.asked h.0, plan_asks_alike by target n ends rest [] all h.1)
    plan_asks_alike by target n ends (Plan.kill_then session rest) (d ∷ cs) all h = plan_asks_alike by target n ends rest cs all.1 h

    row_asks_alike : (by target : Name) (branches : Plan) (ds : List Deed) → AllByRecursion LowDeed ds → RowAsks p branches ds by target → RowAsks q branches ds by target
    row_asks_alike by target (Plan.child_then number tries must inner others) ds low (inl one) =
        inl (subst (OneOf (OfChild (λ x. Asks q x inner (deeds q x) by target))) (among_alike p q number ds (all_map _ _ same_one ds low))
        (one_map _ _ LowDeed (try_asks_alike by target inner (λ x lx. plan_asks_alike by target x (low_ends x lx) inner (deeds p x) (down x lx))) (tries_among p number ds) (all_among (is_try p number) LowDeed ds low) one))
    row_asks_alike by target (Plan.child_then number tries must inner others) ds low (inr more) = inr (row_asks_alike by target others ds low more)
    row_asks_alike by target Plan.done ds low h = absurd h
    row_asks_alike by target (Plan.manage_by k next) ds low h = absurd h
    row_asks_alike by target (Plan.par_then branches rest) ds low h = absurd h
    row_asks_alike by target (Plan.abort_then levels rest) ds low h = absurd h
    row_asks_alike by target (Plan.crash_then copy rest) ds low h = absurd h
    row_asks_alike by target (Plan.kill_then session rest) ds low h = absurd h

-- BELOW ONE NAME

abbrev pub IsUnder : Name → Name → Type 0
IsUnder n x = (name.is_ancestor n x ≡ true) × (length n < length x)

-- Of each name below this one the same stands, and of itself that it is ready, its seat, what it did and in which order.
pub record AgreesUnder (p q : Past) (n : Name) : Type 0 where
  pub ready : is_ready p n ≡ is_ready q n
  pub seat : seat_of p n ≡ seat_of q n
  pub order : AreInOrder p q n
  pub deeds : deeds p n ≡ deeds q n
  pub under : (x : Name) → IsUnder n x → AgreesAt p q x

module _ (p q : Past) (n : Name) (agrees : AgreesUnder p q n) where
  all_under : (x : Name) → name.is_ancestor n x ≡ true → length n ≤ length x → AllByRecursion (OfAnyChild (IsUnder n)) (deeds p x)
  all_under x low long = by_deeds (deeds p x) (subst (AllByRecursion (λ c. is_child x c ≡ true)) (children_are p x) (all_children p x))
    where
      by_deeds : (ds : List Deed) → AllByRecursion (λ c. is_child x c ≡ true) (begun ds) → AllByRecursion (OfAnyChild (IsUnder n)) ds
      by_deeds [] all = tt
      by_deeds (Deed.mark session ∷ ds) all = (tt, by_deeds ds all)
      by_deeds (Deed.child c ∷ ds) all = ((below_child n x c low all.0, omega (arith, child_longer x c all.0, long)), by_deeds ds all.1)

  at_itself : AllByRecursion (OfAnyChild (IsUnder n)) (deeds p n)
  at_itself = all_under n (itself n) (omega arith)

  down_under : (x : Name) → IsUnder n x → AllByRecursion (OfAnyChild (IsUnder n)) (deeds p x)
  down_under x low = all_under x low.0 (omega (arith, low.1))

  of_itself : AgreesOf p q n
  of_itself = record { ready = agrees.ready; seat = agrees.seat; order = agrees.order }

  pub runs_under : (reach : Reach) (s : ℕ) (plan : Plan) (how : Option How) → RunsPlan reach s p n plan (deeds p n) how → RunsPlan reach s q n plan (deeds q n) how
  runs_under reach s plan how h = subst (λ ds. RunsPlan reach s q n plan ds how) agrees.deeds (plan_alike p q (IsUnder n) agrees.under down_under reach s n plan (deeds p n) how of_itself (low_children p q (IsUnder n) agrees.under down_under n at_itself) h)

  pub asks_under : AreEndsAlike p q n → (by target : Name) (plan : Plan) → Asks p n plan (deeds p n) by target → Asks q n plan (deeds q n) by target
  asks_under ends by target plan h = subst (λ ds. Asks q n plan ds by target) agrees.deeds (plan_asks_alike p q (IsUnder n) agrees.under down_under by target n ends plan (deeds p n) at_itself h)

-- of each name at or below this one the same stands
abbrev pub AgreesBelow : Past → Past → Name → Type 0
AgreesBelow p q n = (x : Name) → name.is_ancestor n x ≡ true → AgreesAt p q x

module _ (p q : Past) (n : Name) (agrees : AgreesBelow p q n) where
  under : AgreesUnder p q n
  under = let at = agrees n (itself n) in record { ready = at.ready; seat = at.seat; order = at.order; deeds = at.deeds; under = λ x low. agrees x low.0 }

  pub runs_alike : (reach : Reach) (s : ℕ) (plan : Plan) → RunsPlan reach s p n plan (deeds p n) (end p n) → RunsPlan reach s q n plan (deeds q n) (end q n)
  runs_alike reach s plan h = subst (RunsPlan reach s q n plan (deeds q n)) (agrees n (itself n)).ended (runs_under p q n under reach s plan (end p n) h)

  pub asks_alike : (by target : Name) (plan : Plan) → Asks p n plan (deeds p n) by target → Asks q n plan (deeds q n) by target
  asks_alike by target plan h =
      let at = (agrees n (itself n)).ended in
      asks_under p q n under (record { killed = subst WasKilled (sym at); asked = subst (WasAsked n) at }) by target plan h
