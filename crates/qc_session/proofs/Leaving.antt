-- What a client leaves in its pass, as its session ran.
use Rattle.std.proofs.Common.{◌≡◌, ℕ, true, cond, [], ◌∷◌, map, refl, sym, ap, ◌∙◌, subst}
use Rattle.std.specs.Prelude.{Option, Result, Ok, Err, OnOk, IfErr, IsErrOf, IsTrue, MatchOption, length, ◌&&◌}
use Rattle.std.specs.List.{AllByRecursion, list_all}
use Rattle.qc_event.specs.Base.{Setting}
use Rattle.qc_event.specs.declared.event.Entry.{Entry}
use Rattle.qc_event.specs.declared.short.Short.{Short}
use Rattle.qc_event.specs.declared.short.Short.TheVariants.{Memory, Room}
use Rattle.qc_event.specs.History.{Past, Name, limit}
use Rattle.qc_event.specs.Wants.{IsWant}
use Rattle.qc_interp.specs.FollowsScript.{net_of}
use Rattle.qc_interp.specs.Reach.{Reach}
use Rattle.qc_interp.specs.Session.{CutTops, EndsTops, EndsTopsAt, InTurnAt, RanInTurn}
use Rattle.qc_interp.proofs.Following.RanLater.{ends_begun, turns_begun}
use Rattle.qc_interp.proofs.Sessions.TopsRun.{none_cut}
use Rattle.qc_net.specs.Messages.{Net, meets_fates}
use Rattle.qc_desk.specs.declared.view.View.{View}
use Rattle.qc_desk.specs.Known.{IsKnown}
use Rattle.qc_desk.specs.Rules.{Has, numbers}
use Rattle.qc_desk.proofs.Having.{has_none}
use Rattle.qc_script.specs.Calls.{MeetsLink}
use Rattle.qc_script.specs.Client.{Client, HasJoined, is_own, mine}
use Rattle.qc_script.specs.Plan.{SessionPlan}
use Rattle.qc_session.specs.Clients.{client_for, client_of, kin_of}
use Rattle.qc_session.specs.Session.{AreHigh, IsNew, Leaves, RanOne}
use Rattle.qc_session.specs.Tidy.{AreTidy}
use Rattle.qc_session.proofs.High.{one_high}
use Rattle.qc_session.proofs.Own.{mine_is}
use Rattle.qc_session.proofs.Requests.{met_none}
use Rattle.qc_session.proofs.Tidy.{fresh_tidy}

-- who owns the same of a history made the same of it
mine_alike : (c d : Client) (past : Past) → AllByRecursion (λ (e : Entry). is_own d e.seat ≡ is_own c e.seat) past → mine d past ≡ mine c past
mine_alike c d [] all = refl
mine_alike c d (e ∷ past) all = ap (λ b. cond b (e ∷ mine d past) (mine d past)) all.0 ∙ ap (λ l. cond (is_own c e.seat) (e ∷ l) l) (mine_alike c d past all.1)

-- where room was wanting the history is full
full_of : (r : Result (Unit {0}) Short) (past : Past) → IfErr r (IsWant past) → IsErrOf r Room → length past ≡ limit
full_of (Ok x) past want is = absurd cc
full_of (Err e) past want is = let one : e ≡ Room = cc in subst (IsWant past) one want

module _ (setting : Setting) (epoch patience session : ℕ) (plan : SessionPlan) (given : View) (new : IsNew given) where
  abbrev c : Client
  c = client_for setting epoch patience session plan given

  kinless : kin_of given ≡ []
  kinless = ap (map (λ (p : ℕ × Past). p.0)) new.kin

  nothing_made : mine c given.seen ≡ []
  nothing_made = mine_is c given.number given.seen refl (λ k h. absurd (has_none k (subst (λ ks. Has ks k) kinless h))) ∙ new.none

  -- it ran, to its end or not, with the branches that it has merged
  module _ (asked : Client) (before : Past) (same : asked ≡ c) (seen : before ≡ given.seen) (root : Name) (s e : ℕ) (net : Option Net) (back : View) (joined : HasJoined asked before (client_of setting root s e net back)) where
    abbrev told_as : Client
    told_as = client_of setting root s e net back

    abbrev d : Client
    d = client_for setting epoch patience session plan back

    path : told_as ≡ record c { kin = joined.kin }
    path = let widened : Client → Client = λ x. record x { kin = joined.kin } in joined.same ∙ ap widened same

    is_back : told_as ≡ d
    is_back = λ i. client_of setting (path i).root (path i).session (path i).epoch (path i).net back

    told : (P : Client → Past → Type 0) → P told_as before → P d given.seen
    told P is = subst (λ (x : Client × Past). P x.0 x.1) (λ i. (is_back i, seen i)) is

    joined_now : HasJoined c given.seen d
    joined_now = subst (λ (x : Client). HasJoined x given.seen d) same (told (λ k past. HasJoined asked past k) joined)

    module _ (live : back.live ≡ true) (high : AreHigh (numbers back)) (tidy : ∥ AreTidy (numbers back) back.seen ∥₁)
        (met : MatchOption net (Unit {0}) (λ n. IsTrue (list_all (λ seat. meets_fates seat n back.seen) (numbers back)))) where
      met_now : IsTrue (list_all (λ seat. meets_fates seat (net_of patience plan) back.seen) (numbers back))
      met_now = told (λ k past. MatchOption k.net (Unit {0}) (λ n. IsTrue (list_all (λ seat. meets_fates seat n back.seen) (numbers back)))) met

      leaves : (reach : Reach) → EndsTopsAt reach told_as before back.seen plan.tops → InTurnAt reach told_as before back.seen → Leaves reach setting epoch patience session plan given.seen back
      leaves reach ends ran = record {
        ends = told (λ k past. EndsTopsAt reach k past back.seen plan.tops) ends;
        in_turn = told (λ k past. InTurnAt reach k past back.seen) ran;
        met = met_now;
        tidy = tidy;
      }

      follows : (ran : Result (Unit {0}) Short) → OnOk ran (EndsTops told_as before back.seen plan.tops) → OnOk ran (RanInTurn told_as before back.seen) → OnOk ran (Leaves Reach.to_the_end setting epoch patience session plan given.seen back)
      follows (Ok done) ends turns = leaves Reach.to_the_end ends turns
      follows (Err why) ends turns = tt

      begins : (ran : Result (Unit {0}) Short) → OnOk ran (EndsTops told_as before back.seen plan.tops) → OnOk ran (RanInTurn told_as before back.seen) → IfErr ran (λ _. CutTops told_as before back.seen plan.tops) → Leaves Reach.cut_off setting epoch patience session plan given.seen back
      begins (Ok done) ends turns cut = leaves Reach.cut_off (ends_begun told_as before back.seen plan.tops ends) (turns_begun told_as before back.seen turns)
      begins (Err why) ends turns cut = leaves Reach.cut_off cut.begins cut.in_turn

      pub one_ran : (ran : Result (Unit {0}) Short) → OnOk ran (EndsTops told_as before back.seen plan.tops) → OnOk ran (RanInTurn told_as before back.seen) → IfErr ran (λ _. CutTops told_as before back.seen plan.tops) → IfErr ran (IsWant back.seen) → IsKnown setting back
          → RanOne setting epoch patience session plan given ran back
      one_ran ran ends turns cut want known = record {
        number = ap (λ (x : Client). x.number) joined_now.same;
        live = live;
        out = ap (λ (x : Client). x.out) joined_now.same ∙ new.out;
        high = high;
        none = mine_alike c d given.seen joined_now.own ∙ nothing_made;
        follows = follows ran ends turns;
        begins = begins ran ends turns cut;
        room = full_of ran back.seen want;
        known = known;
      }

  alone : numbers given ≡ given.number ∷ []
  alone = ap (λ ks. given.number ∷ ks) kinless

  -- a client that has asked nothing meets the fates of its link
  pub meets_at_start : (asked : Client) (seen : Past) → asked ≡ c → seen ≡ given.seen → MeetsLink (record { client = asked; seen = seen })
  meets_at_start asked seen same same_seen =
      subst (λ (x : Client). MeetsLink (record { client = x; seen = seen })) (sym same)
      (subst (λ h. IsTrue (list_all (λ seat. meets_fates seat (net_of patience plan) h) (given.number ∷ kin_of given))) (sym same_seen)
      (subst (λ ks. IsTrue (list_all (λ seat. meets_fates seat (net_of patience plan) given.seen) (given.number ∷ ks))) (sym kinless)
      (ap (λ b. b && true) (met_none given.number plan.fates plan.hold patience given.seen new.none))))

  -- it got no memory to begin with
  pub none_ran : IsKnown setting given → RanOne setting epoch patience session plan given (Err Memory) given
  none_ran known = record {
    number = refl;
    live = new.live;
    out = new.out;
    high = subst AreHigh (sym alone) (one_high given.number new.number);
    none = nothing_made;
    follows = tt;
    begins = record {
      ends = cut.begins;
      in_turn = cut.in_turn;
      met = subst (λ ns. IsTrue (list_all (λ seat. meets_fates seat (net_of patience plan) given.seen) ns)) (sym alone)
          (ap (λ b. b && true) (met_none given.number plan.fates plan.hold patience given.seen new.none));
      tidy = ∣ subst (λ ns. AreTidy ns given.seen) (sym alone) (fresh_tidy setting given.number given.seen known.legal new.none, tt) ∣₁;
    };
    room = λ is. absurd (no_room (Err Memory) refl is);
    known = known;
  }
    where
      cut : CutTops c given.seen given.seen plan.tops
      cut = none_cut c plan.tops given.seen given.seen (record { newer = []; grown = refl; made = refl; legal = known.legal })

      no_room : (r : Result (Unit {0}) Short) → r ≡ Err Memory → IsErrOf r Room → ⊥
      no_room (Ok done) at is = cc
      no_room (Err why) at is = cc
