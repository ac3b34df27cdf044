-- In a legal history over sound start tuples, all that a manager was given is of its record and from copies that
-- are there.
use Rattle.std.proofs.Common.{◌≡◌, ℕ, ◌<◌, ◌≤◌, ◌==◌, Bool, true, false, List, [], ◌∷◌, length, refl, sym, ap, ap₂, ◌∙◌, subst, inl, inr, arith}
use Rattle.std.specs.Prelude.{All, Option, None, Some, MatchOption, IfNone, cond}
use Rattle.std.proofs.lemmas.Bool.{cases_lt, eqb-true}
use Rattle.std.proofs.lemmas.List.Elements.{All-nil, All-cons}
use Rattle.qc_config.specs.Tuple.{after}
use Rattle.qc_config.specs.declared.tuple.Tuple.{Tuple}
use Rattle.qc_event.specs.declared.event.Ask.{Ask}
use Rattle.qc_event.specs.declared.event.Entry.{Entry}
use Rattle.qc_event.specs.declared.event.Event.{Event}
use Rattle.qc_event.specs.declared.event.Event.TheVariants as event
use Rattle.qc_event.specs.declared.event.Grant.{Grant}
use Rattle.qc_event.specs.declared.event.Kind.{Kind}
use Rattle.qc_event.specs.declared.event.Phase.{Phase}
use Rattle.qc_event.specs.declared.event.Phase.TheVariants.{Collect}
use Rattle.qc_event.specs.Base.{Setting, first_of, start_tuple}
use Rattle.qc_event.specs.Dead.{dead}
use Rattle.qc_event.specs.Grants.{MayGrant, IsServed}
use Rattle.qc_event.specs.History.{Past, Name, Given, Asked, start, asked, ask_in, granted, grants, grant_at, is_child}
use Rattle.qc_event.specs.Legal.{Legal, MayHappen}
use Rattle.qc_event.specs.Manager.{Stage, record_of, first_for, phase_of, is_phase}
use Rattle.qc_event.specs.Seen.{seen}
use Rattle.qc_event.specs.Standing.{IsManager}
use Rattle.qc_event.proofs.KindFits.{kind_fits, record_fits}
use Rattle.qc_event.proofs.Later.{alive_before}
use Rattle.qc_event.proofs.LastNumber.{length_last, child_last, child_front}
use Rattle.qc_event.proofs.LegalOrderly.{legal_orderly}
use Rattle.qc_event.proofs.OneEntry.{first_is, if_is}
use Rattle.qc_event.proofs.Orderly.{Commits, KeepsOrder}
use Rattle.qc_event.proofs.Found.{has_place}
use Rattle.qc_serial.specs.Visible.{served}
use Rattle.qc_serial.proofs.Accesses.{granted_step}
use Rattle.qc_refine.specs.Given.{in_phase, tuples_of}
use Rattle.qc_refine.specs.InTurn.{IsAt}
use Rattle.qc_refine.proofs.Managers.Delivers.{Delivers, ask_of, delivers_or_not}
use Rattle.qc_refine.proofs.Managers.Finished.{is_started}
use Rattle.qc_refine.proofs.Order.Grounded.{OfFirst, IsGrounded}
use Rattle.qc_refine.proofs.Managers.KindsBelow.{HasKind, kind_before}
use Rattle.qc_refine.proofs.Managers.LiveGrants.{Every, every_more, every_weaker, every_option, newest_known, some_got, AskFits, new_generation, put_fits, move_fits, after_first, no_place, LiveAt, seen_first, seen_none, nothing_there, IsThere, Kept, IsAskedBy, asking, asked_by}
use Rattle.qc_refine.proofs.Managers.ServedAsked.{served_more, served_same}
use Rattle.qc_refine.proofs.Managers.Shapes.{marks_in}
use Rattle.qc_refine.proofs.Managers.Stages.{newest_among, IsMoving}
use Rattle.qc_refine.proofs.Copies.Within.{served_sized, sized_phase, next_has_votes}

-- what was given in a phase
given_first : (setting : Setting) (k : Kind) (phase : Phase) (gs : List Given) → Every (IsThere setting k) gs → Every (OfFirst (first_for setting k)) (tuples_of (in_phase phase gs))
given_first setting k phase [] all = tt
given_first setting k phase (g ∷ gs) all = by_test (is_phase phase (phase_of g.grant.op)) (given_first setting k phase gs all.1)
  where
    by_test : (b : Bool) → Every (OfFirst (first_for setting k)) (tuples_of (in_phase phase gs)) → Every (OfFirst (first_for setting k)) (tuples_of (cond b (g ∷ in_phase phase gs) (in_phase phase gs)))
    by_test true rest = (all.0.of_first, rest)
    by_test false rest = rest

granting_at : (copy : ℕ) (ev : Event) (g : Grant) → grant_at copy ev ≡ Some g → ev ≡ event.Granted copy g
granting_at copy (event.Granted c grant) g is =
    let parts = if_is (c == copy) grant g is in
    ap₂ (λ x y. event.Granted x y) (eqb-true c copy parts.0) parts.1
granting_at copy _ g is = absurd cc

module _ (setting : Setting) (ground : IsGrounded setting) (past : Past) (e : Entry) (legal : Legal setting (e ∷ past)) (kept : Kept setting past) where
  -- REQUESTS

  moves_there : (ask : Ask) (by : IsAskedBy setting past ask) → IsMoving by.b.kind (newest_among (first_for setting by.b.kind) (tuples_of (in_phase Collect (served past by.m)))) (marks_in (served past by.m)) by.of.at → ask.copy < length setting.base
  moves_there ask by mv =
      let k = by.b.kind in
      let first = first_for setting k in
      let gs = in_phase Collect (served past by.m) in
      let has = (is_started setting past by.m by.b legal.0 by.began).has in
      let in_table = record_fits setting k by.manager (kind_fits setting past by.m by.b legal.0 by.began) in
      let votes = (next_has_votes past by.m by.of.at ask.copy by.of.next.next).1 in
      let sized = sized_phase (length setting.base) Collect (served past by.m) (served_sized setting past by.m k legal.0 by.pos has by.manager) in
      let known = newest_known (length setting.base) first (tuples_of gs) sized (given_first setting k Collect (served past by.m) (kept.given by.m k by.pos has by.manager))
      (some_got first gs (ground.some_read (record_of k) in_table) mv.enough) in
      let same_size : length by.of.at.config.votes ≡ length setting.base = ap (λ (x : Stage). length x.config.votes) (sym mv.is) ∙ known in
      let place = has_place by.of.at.config.votes ask.copy votes in
      omega (arith, place, same_size)

  new_fits : (ask : Ask) → IsAskedBy setting past ask → AskFits setting ask.copy ask.op
  new_fits ask by = elim by.of.leads [
    | inl c ↦ subst (AskFits setting ask.copy) (sym (by.of.next.same_op ∙ ap (λ (x : Stage). x.op) (sym c.is))) tt
    | inr rest ↦ elim rest [
      | inl p ↦ subst (AskFits setting ask.copy) (sym (by.of.next.same_op ∙ ap (λ (x : Stage). x.op) (sym p.is))) (put_fits setting ask.copy by.b.kind _)
      | inr m ↦ subst (AskFits setting ask.copy) (sym (by.of.next.same_op ∙ ap (λ (x : Stage). x.op) (sym m.is))) (move_fits setting ask.copy by.b.kind _ m.moves (moves_there ask by m))
    ]
  ]

  table : (n : Name) (a : Asked) → asked (e ∷ past) n ≡ Some a → a.ask.rec < length setting.firsts
  table n a is = elim (first_is (asked past n) (ask_in n e.seat e.event) a is) [
    | inl old ↦ kept.table n a old
    | inr new ↦
        let by = asked_by setting past e legal a.ask (asking n e.seat e.event a new.1).0 in
        let here = by.of.next.same_record in
        let there = record_fits setting by.b.kind by.manager (kind_fits setting past by.m by.b legal.0 by.began) in
        omega (arith, here, there)
  ]

  fits : (n : Name) (a : Asked) → asked (e ∷ past) n ≡ Some a → AskFits setting a.ask.copy a.ask.op
  fits n a is = elim (first_is (asked past n) (ask_in n e.seat e.event) a is) [
    | inl old ↦ kept.fits n a old
    | inr new ↦ new_fits a.ask (asked_by setting past e legal a.ask (asking n e.seat e.event a new.1).0)
  ]

  same_record : (m n : Name) (k : Kind) (a : Asked) → 0 < length m → HasKind (e ∷ past) m k → IsManager k → is_child m n ≡ true → asked (e ∷ past) n ≡ Some a → a.ask.rec ≡ record_of k
  same_record m n k a pos has manager child is = elim (first_is (asked past n) (ask_in n e.seat e.event) a is) [
    | inl old ↦ kept.same_record m n k a pos (kind_before e past m k has) manager child old
    | inr new ↦
        let of_ask = asking n e.seat e.event a new.1 in
        let by = asked_by setting past e legal a.ask of_ask.0 in
        let same_parent : by.m ≡ m = sym (child_front by.m a.ask.access by.child) ∙ child_front m a.ask.access (ap (is_child m) of_ask.1 ∙ child) in
        let same_kind : by.b.kind ≡ k = kind_before e past m k has by.b (sym (ap (start past) same_parent) ∙ by.began) in
        by.of.next.same_record ∙ ap record_of same_kind
  ]

  -- GRANTS

  requested : (copy : ℕ) (g : Grant) → MayGrant setting past e.seat copy g → (g.rec < length setting.firsts) × AskFits setting copy g.op
  requested copy g may = by_ask (asked past g.access) refl may.request
    where
      asks_it : Ask
      asks_it = record { access = g.access; copy = copy; rec = g.rec; op = g.op }

      by_ask : (o : Option Asked) → asked past g.access ≡ o → MatchOption o ⊥ (λ a. a.ask ≡ record { access = g.access; copy = copy; rec = g.rec; op = g.op }) → (g.rec < length setting.firsts) × AskFits setting copy g.op
      by_ask None is same = absurd same
      by_ask (Some a) is same = (
        subst (λ (x : Ask). x.rec < length setting.firsts) same (kept.table g.access a is),
        subst (λ (x : Ask). AskFits setting x.copy x.op) same (kept.fits g.access a is),
      )

  may_grant : (copy : ℕ) (g : Grant) → e.event ≡ event.Granted copy g → MayGrant setting past e.seat copy g
  may_grant copy g is = subst (MayHappen setting past e.seat) is legal.1

  new_good : (copy : ℕ) (g : Grant) → e.event ≡ event.Granted copy g → dead past g.access ≡ None → (copy < length setting.base) × OfFirst (first_of setting g.rec) g.tuple
  new_good copy g is alive =
      let may = may_grant copy g is in
      let wanted = requested copy g may in
      let first = first_of setting g.rec in
      let begins = start_tuple setting.base copy g.rec in
      let given : IsServed setting past copy g = subst (λ o. IfNone o (IsServed setting past copy g)) alive may.served in
      elim (cases_lt copy (length setting.base)) [
        | inl there ↦ (
          there,
          subst (OfFirst first) (sym given.tuple)
              (after_first first (seen setting.base past copy g.rec) g.op
              (seen_first setting past copy g.rec first begins (grants past copy) (kept.live copy) (ground.starts g.rec copy wanted.0 there))
              (new_generation setting copy g.op wanted.1)),
        )
        | inr past_all ↦
            let out : length setting.base ≤ copy = omega (arith, past_all) in
            let nothing = seen_none setting past copy g.rec begins (grants past copy) (kept.live copy) out ∙ nothing_there setting.base copy g.rec out in
            absurd (no_place setting copy g.op (ground.some_copy g.rec wanted.0) out wanted.1
            (sym (ap (λ (t : Tuple). length t.config.votes) (given.tuple ∙ ap (λ t. after t g.op) nothing)) ∙ may.for_copies))
      ]

  live : (copy : ℕ) → Every (LiveAt setting (e ∷ past) copy) (grants (e ∷ past) copy)
  live copy = every_more (LiveAt setting (e ∷ past) copy) (grants past copy) _
      (every_weaker (LiveAt setting past copy) (LiveAt setting (e ∷ past) copy) (grants past copy) (λ g had alive. had (alive_before (e ∷ []) past g.access alive)) (kept.live copy))
      (every_option (LiveAt setting (e ∷ past) copy) (grant_at copy e.event) new_live)
    where
      new_live : (g : Grant) → grant_at copy e.event ≡ Some g → LiveAt setting (e ∷ past) copy g
      new_live g at alive =
          let is = granting_at copy e.event g at in
          ((new_good copy g is (alive_before (e ∷ []) past g.access alive)).0, new_generation setting copy g.op (requested copy g (may_grant copy g is)).1)

  good : (n : Name) (g : Given) → granted (e ∷ past) n ≡ Some g → dead (e ∷ past) n ≡ None → (g.copy < length setting.base) × OfFirst (first_of setting g.grant.rec) g.grant.tuple
  good n g is alive = elim (granted_step e past n g is) [
    | inl old ↦ kept.good n g old (alive_before (e ∷ []) past n alive)
    | inr new ↦ new_good g.copy g.grant new.0 (subst (λ x. dead past x ≡ None) (sym new.1) (alive_before (e ∷ []) past n alive))
  ]

  -- WHAT MANAGERS WERE GIVEN

  delivered : (m : Name) (k : Kind) → 0 < length m → HasKind past m k → IsManager k → (d : Delivers past m e.event) → IsThere setting k d.g
  delivered m k pos has manager d =
      let (j, last) = child_last m d.access d.child in
      let commits : Commits past d.access = subst (KeepsOrder past) d.is (legal_orderly setting (e ∷ past) legal).1 in
      let here = kept.good d.access d.g d.was_granted (commits.alive (omega (arith, length_last m j, ap length last))) in
      record { there = here.0; of_record = of_record; of_first = subst (λ r. OfFirst (first_of setting r) d.g.grant.tuple) of_record here.1 }
    where
      by_ask : (o : Option Asked) → asked past d.access ≡ o → MatchOption o ⊥ (λ a. a.ask ≡ ask_of d.g) → d.g.grant.rec ≡ record_of k
      by_ask None is same = absurd same
      by_ask (Some a) is same = sym (ap (λ (x : Ask). x.rec) same) ∙ kept.same_record m d.access k a pos has manager d.child is

      of_record : d.g.grant.rec ≡ record_of k
      of_record = by_ask (asked past d.access) refl d.asked_for

  given : (m : Name) (k : Kind) → 0 < length m → HasKind (e ∷ past) m k → IsManager k → Every (IsThere setting k) (served (e ∷ past) m)
  given m k pos has manager =
      let had = kind_before e past m k has in
      let before = kept.given m k pos had manager in
      elim (delivers_or_not setting past e m k legal pos had manager) [
        | inl d ↦ subst (Every (IsThere setting k)) (sym (served_more setting past e m k legal pos had manager d))
            (every_more (IsThere setting k) (served past m) (d.g ∷ []) before (delivered m k pos had manager d, tt))
        | inr quiet ↦ subst (Every (IsThere setting k)) (sym (served_same setting past e m k legal pos had manager quiet)) before
      ]

  one_more : Kept setting (e ∷ past)
  one_more = record { table = table; fits = fits; same_record = same_record; live = live; good = good; given = given }

keeps : (setting : Setting) (past : Past) → IsGrounded setting → Legal setting past → Kept setting past
keeps setting [] ground legal = record {
  table = λ n a is. absurd cc;
  fits = λ n a is. absurd cc;
  same_record = λ m n k a pos has manager child is. absurd cc;
  live = λ copy. tt;
  good = λ n g is alive. absurd cc;
  given = λ m k pos has manager. tt;
}
keeps setting (e ∷ past) ground legal = one_more setting ground past e legal (keeps setting past ground legal.0)

every_at : (setting : Setting) (k : Kind) (gs : List Given) → Every (IsThere setting k) gs → All (IsAt setting (record_of k)) gs
every_at setting k [] all = All-nil (IsAt setting (record_of k))
every_at setting k (g ∷ gs) all =
    All-cons (IsAt setting (record_of k)) g gs (record { copy_there = all.0.there; of_record = all.0.of_record }) (every_at setting k gs all.1)

pub served_at : (setting : Setting) (past : Past) (m : Name) (k : Kind) → IsGrounded setting → Legal setting past → 0 < length m → HasKind past m k → IsManager k → All (IsAt setting (record_of k)) (served past m)
served_at setting past m k ground legal pos has manager = every_at setting k (served past m) ((keeps setting past ground legal).given m k pos has manager)
