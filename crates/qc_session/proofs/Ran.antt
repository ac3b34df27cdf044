-- What the clients of a script's sessions left follows the script, in the closed history.
use Rattle.std.proofs.Common.{◌≡◌, ℕ, zero, suc, ◌+◌, ◌==◌, ◌≤◌, ◌⊎◌, inl, inr, Bool, true, false, List, [], ◌∷◌, ◌++◌, length, reverse, refl, sym, ap, ◌∙◌, subst, arith}
use mathlib.Core.Bool.{true≢false}
use Rattle.std.proofs.Math.Logic.{∥∥₁_map}
use mathlib.Core.Option.{some-injective}
use Rattle.std.specs.Prelude.{IsTrue, ◌||◌}
use Rattle.std.specs.List.{list_all, list_any}
use Rattle.std.proofs.lemmas.Bool.{eqb-true}
use Rattle.std.proofs.lemmas.List.{length-append, length-reverse}
use Rattle.qc_carry.proofs.Walking.{none_own}
use Rattle.qc_event.specs.Base.{Setting}
use Rattle.qc_event.specs.History.{Past, limit}
use Rattle.qc_event.specs.Legal.{Legal}
use Rattle.qc_event.specs.Seats.{is_client}
use Rattle.qc_interp.specs.FollowsScript.{RunsScript, net_of}
use Rattle.qc_interp.specs.Reach.{Reach}
use Rattle.qc_interp.specs.Together.{AreOf, EachHasRun, HasRun}
use Rattle.qc_interp.proofs.Stepping.Ending.{at_any}
use Rattle.qc_interp.proofs.Sessions.FromStart.{ends_from_start, turns_from_start}
use Rattle.qc_interp.proofs.Following.RanLater.{has_run_later}
use Rattle.qc_interp.proofs.Sessions.Together.{together}
use Rattle.qc_desk.specs.declared.view.View.{View}
use Rattle.qc_net.specs.Messages.{meets_fates}
use Rattle.qc_desk.specs.Entries.{AreOthers, IsOlder, entries_of}
use Rattle.qc_desk.specs.Rules.{Has, IsSettled, numbers}
use Rattle.qc_desk.proofs.Apart.{kin_of_number}
use Rattle.qc_desk.proofs.Having.{has_none}
use Rattle.qc_desk.proofs.Seers.{older_trans}
use Rattle.qc_script.specs.Client.{Client, is_own, mine}
use Rattle.qc_script.specs.Plan.{SessionPlan}
use Rattle.qc_session.specs.Clients.{client_for}
use Rattle.qc_session.specs.Session.{EachJoined, HaveRun, IsFirst, Joined, is_of}
use Rattle.qc_session.specs.Tidy.{AreTidy, IsTidy}
use Rattle.qc_session.proofs.High.{all_clients}
use Rattle.qc_session.proofs.Own.{mine_is, others_newer}
use Rattle.qc_session.proofs.Settled.{AreTheirs, accesses_end, all_theirs, is_one}
use Rattle.qc_session.proofs.Tidy.{each_tidy}
use Rattle.qc_session.proofs.Walks.{all_meet_still}

-- ONE SESSION

module _ (reach : Reach) (setting : Setting) (epoch patience : ℕ) (final : Past) (legal : Legal setting final) (first : View) (older : IsOlder first.seen final) (settled : IsSettled final first) where
  module _ (session : ℕ) (plan : SessionPlan) (one : View) (j : Joined reach setting epoch patience session plan one first) where
    abbrev c : Client
    c = client_for setting epoch patience session plan one

    -- under none of its numbers anything was entered since
    same : (k : ℕ) → Has (numbers one) k → entries_of k final ≡ entries_of k one.seen
    same k (zero, at) = subst (λ n. entries_of n final ≡ entries_of n one.seen) (some-injective one.number k at) (settled.1 one.number one.mine (j.joined one.number one.mine (0, refl)) ∙ j.own)
    same k (suc i, at) =
        let m = kin_of_number one.kin k i at in
        settled.1 k m.0 (j.joined k m.0 (suc m.1.0, m.1.1)) ∙ sym (j.kin k m.0 m.1)

    newer : IsOlder one.seen final
    newer = older_trans one.seen first.seen final j.seen older

    legal_now : Legal setting (newer.0 ++ one.seen)
    legal_now = subst (Legal setting) newer.1 legal

    others : (k : ℕ) → Has (numbers one) k → AreOthers k newer.0
    others k h = others_newer k newer.0 one.seen final newer.1 (same k h)

    none_newer : mine c newer.0 ≡ []
    none_newer = mine_is c one.number newer.0 refl (λ k h. others k (suc h.0, h.1)) ∙ none_own one.number newer.0 (others one.number (0, refl))

    still_tidy : ∥ AreTidy (numbers one) final ∥₁
    still_tidy = ∥∥₁_map j.leaves.tidy (each_tidy setting one.seen final (numbers one) legal newer same)

    clients_all : list_all is_client (numbers one) ≡ true
    clients_all = all_clients (numbers one) j.high

    has_run : HasRun reach setting session epoch patience c plan final
    has_run =
        subst (HasRun reach setting session epoch patience c plan) (sym newer.1)
        (has_run_later reach setting session epoch patience c plan one.seen newer.0 refl refl refl (record { rootless = refl; clients = clients_all })
        (ends_from_start c j.before one.seen j.none reach plan.tops j.leaves.ends) (turns_from_start c j.before one.seen j.none reach j.leaves.in_turn)
        none_newer legal_now
        (subst (λ p. list_all (λ seat. meets_fates seat (net_of patience plan) p) (numbers one) ≡ true) newer.1
        (all_meet_still setting (net_of patience plan) one.seen final (numbers one) legal newer same j.leaves.met)))

  -- ALL SESSIONS

  -- the sessions' clients, by their passes
  abbrev clients : ℕ → List SessionPlan → List View → List Client
  clients session [] ones = []
  clients session (plan ∷ plans) [] = []
  clients session (plan ∷ plans) (one ∷ ones) = client_for setting epoch patience session plan one ∷ clients (session + 1) plans ones

  each_has_run : (session : ℕ) (plans : List SessionPlan) (ones : List View) → EachJoined reach setting epoch patience session plans ones first → EachHasRun reach setting session epoch patience (clients session plans ones) plans final
  each_has_run session [] [] each = tt
  each_has_run session [] (one ∷ ones) each = absurd each
  each_has_run session (plan ∷ plans) [] each = absurd each
  each_has_run session (plan ∷ plans) (one ∷ ones) each = (has_run session plan one each.0, each_has_run (session + 1) plans ones each.1)

  -- a seat that is one of the passes' is one of the clients'
  one_client : (session : ℕ) (plans : List SessionPlan) (ones : List View) (k : ℕ) → EachJoined reach setting epoch patience session plans ones first → is_one ones k ≡ true → list_any (λ (x : Client). is_own x k) (clients session plans ones) ≡ true
  one_client session [] [] k each is = absurd (true≢false (sym is))
  one_client session [] (one ∷ ones) k each is = absurd each
  one_client session (plan ∷ plans) [] k each is = absurd each
  one_client session (plan ∷ plans) (one ∷ ones) k each is = by_test (is_of one k) is (λ h. one_client (session + 1) plans ones k each.1 h)
    where
      by_test : (b : Bool) → (b || is_one ones k) ≡ true → (is_one ones k ≡ true → list_any (λ (x : Client). is_own x k) (clients (session + 1) plans ones) ≡ true)
          → (b || list_any (λ (x : Client). is_own x k) (clients (session + 1) plans ones)) ≡ true
      by_test true h rest = refl
      by_test false h rest = rest h

  tidy_of : (k : ℕ) (seats : List ℕ) → list_any (λ n. n == k) seats ≡ true → AreTidy seats final → IsTidy k final
  tidy_of k [] at tidy = absurd (true≢false (sym at))
  tidy_of k (n ∷ seats) at tidy = by_test (n == k) refl at (λ h. tidy_of k seats h tidy.1)
    where
      by_test : (b : Bool) → (n == k) ≡ b → (b || list_any (λ m. m == k) seats) ≡ true → (list_any (λ m. m == k) seats ≡ true → IsTidy k final) → IsTidy k final
      by_test true is h rest = subst (λ m. IsTidy m final) (eqb-true n k is) tidy.0
      by_test false is h rest = rest h

  tidy_at : (session : ℕ) (plans : List SessionPlan) (ones : List View) (k : ℕ) → EachJoined reach setting epoch patience session plans ones first → is_one ones k ≡ true → ∥ IsTidy k final ∥₁
  tidy_at session [] [] k each is = absurd (true≢false (sym is))
  tidy_at session [] (one ∷ ones) k each is = absurd each
  tidy_at session (plan ∷ plans) [] k each is = absurd each
  tidy_at session (plan ∷ plans) (one ∷ ones) k each is = by_test (is_of one k) refl is (λ h. tidy_at (session + 1) plans ones k each.1 h)
    where
      by_test : (b : Bool) → is_of one k ≡ b → (b || is_one ones k) ≡ true → (is_one ones k ≡ true → ∥ IsTidy k final ∥₁) → ∥ IsTidy k final ∥₁
      by_test true at h rest = ∥∥₁_map (still_tidy session plan one each.0) (λ (t : AreTidy (numbers one) final). tidy_of k (numbers one) at t)
      by_test false at h rest = rest h

  are_of : (plans : List SessionPlan) (ones : List View) (past : Past) → EachJoined reach setting epoch patience 0 plans ones first → AreTheirs ones past → AreOf (clients 0 plans ones) past
  are_of plans ones [] each all = tt
  are_of plans ones (e ∷ past) each all = (λ client. one_client 0 plans ones e.seat each (all.0 client), are_of plans ones past each all.1)

  pub script_runs : (plans : List SessionPlan) (before : View) → before.kin ≡ [] → IsFirst first → HaveRun reach setting epoch patience 0 plans before first → RunsScript reach epoch patience plans final
  script_runs plans before none is ran =
      together reach setting epoch patience (clients 0 plans ran.ones) plans final legal (are_of plans ran.ones final ran.each all) (each_has_run 0 plans ran.ones ran.each)
      (at_any reach _ (accesses_end setting ran.ones final legal all (λ k is. tidy_at 0 plans ran.ones k ran.each is)))
    where
      all : AreTheirs ran.ones final
      all = all_theirs ran.ones final first is.mine settled (λ k m h. by_kin k m (ran.only k m h))
        where
          by_kin : (k : ℕ) (m : Past) → Has before.kin (k, m) ⊎ IsTrue (list_any (λ (v : View). is_of v k) ran.ones) → is_one ran.ones k ≡ true
          by_kin k m (inl old) = absurd (has_none (k, m) (subst (λ ks. Has ks (k, m)) none old))
          by_kin k m (inr one) = one

-- ROOM

-- a history that was full is the closed one
pub full_still : (seen items : Past) → IsOlder seen (reverse items) → length items ≤ limit → limit ≤ length seen → length items ≡ limit
full_still seen items older few full = omega (arith, few, full, ap (λ (p : Past). length p) older.1, length-append older.0 seen, length-reverse items)
