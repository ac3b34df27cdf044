-- What a line keeps of its link while an access is carried, or is cut off.
use Rattle.std.proofs.Common.{◌≡◌, ℕ, Bool, true, false, List, [], ◌∷◌, ◌++◌, refl, sym, ap, ◌∙◌, subst, append-nil, inr}
use mathlib.Core.Bool.{true≢false}
use Rattle.std.specs.Prelude.{Option, None, Some, IfSome, IsTrue, not, ◌&&◌}
use Rattle.std.specs.List.{AllByRecursion, list_all}
use Rattle.std.specs.Option.{option_map, option_or}
use Rattle.std.proofs.lemmas.List.Elements.{recursion_from_All}
use Rattle.std.proofs.lemmas.Option.{same_Some}
use Rattle.qc_config.specs.declared.tuple.Op.{Op}
use Rattle.qc_event.specs.declared.event.Ask.{Ask}
use Rattle.qc_event.specs.declared.event.Why.{Why}
use Rattle.qc_event.specs.declared.event.Why.TheVariants.{Lost, Late}
use Rattle.qc_event.specs.Base.{Setting}
use Rattle.qc_event.specs.History.{Past, Name, start, end, gone}
use Rattle.qc_event.specs.Legal.{Legal}
use Rattle.qc_event.proofs.Later.{earlier_legal}
use Rattle.qc_event.proofs.OneEntry.{some_or_none}
use Rattle.qc_event.proofs.Options.{still}
use Rattle.qc_managers.specs.Carrying.{MayCarry, next_ask, made_by}
use Rattle.qc_net.specs.Given.{Given}
use Rattle.qc_net.specs.Messages.{Net, was_answered, is_told, is_met, are_met, asked_under, meets_fates}
use Rattle.qc_net.specs.Plan.{Plan, anew}
use Rattle.qc_net.specs.Sending as net
use Rattle.qc_net.specs.Sending.{Outcome, Sending, Way, IsSending, sending}
use Rattle.qc_net.specs.declared.courier.Sent.{Sent}
use Rattle.qc_desk.specs.declared.view.View.{View}
use Rattle.qc_desk.specs.Entries.{IsOlder}
use Rattle.qc_desk.specs.Rules.{IsClient}
use Rattle.qc_desk.proofs.Calls as calls
use Rattle.qc_desk.specs.Answers.{HasAnswered}
use Rattle.qc_carry.specs.Kept.{IsInStep, IsKept, net_of, at_start, sendings, way_of, is_loss, TellsLoss}
use Rattle.qc_carry.specs.Walk.{Walk}
use Rattle.qc_carry.proofs.Answered.{all_answered_still, delivered_answered}
use Rattle.qc_carry.proofs.Carries as carries
use Rattle.qc_carry.proofs.Meeting.{IsLeft, met_unended, met_told, are_met_still, are_met_more, sendings_more}
use Rattle.qc_carry.proofs.OwnAccesses.{IsOwnRequest, asks_own, own_started}
use Rattle.qc_carry.proofs.OwnRequests.{requests_more}
use Rattle.qc_carry.proofs.Walks as walks
use Rattle.qc_carry.proofs.Walks.{IsOf}

-- WHAT IS TOLD OF A SENDING

sent_told : (past : Past) (n : Name) (o : Outcome) (made : List Given) (s : Sent) (reason : Option Why) → net.Tells o made s → TellsLoss s reason → gone past n ≡ reason → is_told past n o ≡ true
sent_told past n (net.answered later) made s reason (g, there, is) tells same =
    ap (λ r. not (is_loss Lost r) && not (is_loss Late r)) same ∙ subst (λ x. TellsLoss x reason) is tells
sent_told past n net.lost made s reason is tells same = ap (is_loss Lost) (same ∙ subst (λ x. TellsLoss x reason) is tells)
sent_told past n net.late made s reason is tells same = ap (is_loss Late) (same ∙ subst (λ x. TellsLoss x reason) is tells)

-- NO REQUEST

-- where its requests are the same, and stay as they were, what a line keeps stays
module _ (seat : ℕ) (past newer : Past) (left : AllByRecursion (λ (a : Ask). IsLeft past (newer ++ past) a.access) (asked_under seat past)) (none : asked_under seat (made_by seat newer) ≡ []) where
  same_requests : asked_under seat (newer ++ past) ≡ asked_under seat past
  same_requests = requests_more seat newer past ∙ ap (λ asks. asked_under seat past ++ asks) none ∙ append-nil (asked_under seat past)

  pub no_request_kept : (plan : Plan) (held : List Ask) (patience : ℕ) (was torn : Bool) → (torn ≡ false → was ≡ false) → IsKept seat plan held patience past was → IsKept seat plan held patience (newer ++ past) torn
  no_request_kept plan held patience was torn whole kept = record {
    met = ap (are_met patience (newer ++ past) (at_start (net_of plan patience)).plan []) same_requests ∙ are_met_still patience newer past (at_start (net_of plan patience)).plan [] (asked_under seat past) left kept.met;
    in_step = λ now.
        let same = ap (sendings patience (at_start (net_of plan patience))) (sym same_requests) in
        let step = kept.in_step (whole now) in
        record { same_plan = step.same_plan ∙ ap (λ (w : Way). w.plan) same; same_held = step.same_held ∙ ap (λ (w : Way). w.held) same };
  }

-- ONE ACCESS, AND NO OTHER

module _ (setting : Setting) (seat : ℕ) (past newer : Past) (legal : Legal setting (newer ++ past)) (n : Name) (unstarted : start past n ≡ None) (of : AllByRecursion (IsOf n) (made_by seat newer)) where
  abbrev now : Past
  now = newer ++ past

  each_left : (requests : List Ask) → AllByRecursion (IsOwnRequest past seat) requests → AllByRecursion (λ (a : Ask). IsLeft past now a.access) requests
  each_left [] all = tt
  each_left (a ∷ rest) all =
      let own = all.0 in
      let none = walks.none_elsewhere (made_by seat newer) n a.access of (λ is. some_or_none (start past a.access) (own_started past seat a own) (ap (start past) (sym is) ∙ unstarted)) in (
        record {
          ends = walks.end_c setting past seat own.manager own.mine newer legal a.access own.child ∙ ap (option_or (end past a.access)) none.0 ∙ still (end past a.access);
          goes = inr (walks.gone_c setting past seat own.manager own.mine newer legal a.access own.child ∙ ap (option_or (gone past a.access)) none.1 ∙ still (gone past a.access));
        },
        each_left rest all.1,
      )

  pub all_left : AllByRecursion (λ (a : Ask). IsLeft past now a.access) (asked_under seat past)
  all_left = each_left (asked_under seat past) (asks_own setting past seat (earlier_legal setting newer past legal))

  module _ (q : Ask) (one : asked_under seat (made_by seat newer) ≡ q ∷ []) where
    more_requests : asked_under seat now ≡ asked_under seat past ++ q ∷ []
    more_requests = requests_more seat newer past ∙ ap (λ asks. asked_under seat past ++ asks) one

    -- it has asked, and its request is met
    asked_met : (patience : ℕ) (first : Way) → are_met patience past first.plan first.held (asked_under seat past) ≡ true
        → is_met now q (sending (sendings patience first (asked_under seat past)).plan (sendings patience first (asked_under seat past)).held q patience) ≡ true
        → are_met patience now first.plan first.held (asked_under seat now) ≡ true
    asked_met patience first met here =
        ap (are_met patience now first.plan first.held) more_requests
        ∙ are_met_more patience now first (asked_under seat past) q (are_met_still patience newer past first.plan first.held (asked_under seat past) all_left met) here

    asked_way : (patience : ℕ) (first : Way) → sendings patience first (asked_under seat now) ≡ (sending (sendings patience first (asked_under seat past)).plan (sendings patience first (asked_under seat past)).held q patience).way
    asked_way patience first = ap (sendings patience first) more_requests ∙ sendings_more patience first (asked_under seat past) q

-- A MANAGER'S NEXT ACCESS

same_net : (p p' : Plan) (patience : ℕ) → anew p' ≡ anew p → net_of p' patience ≡ net_of p patience
same_net p p' patience same = ap (λ x. net_of x patience) same

-- a link that tells its plan goes on telling it, and none that does not begins to
pub tells_still : (plan plan' : Option Plan) (P : Plan → Type 0) → option_map anew plan' ≡ option_map anew plan → ((p p' : Plan) → plan ≡ Some p → plan' ≡ Some p' → anew p' ≡ anew p → P p') → IfSome plan' P
tells_still plan None P same h = tt
tells_still None (Some p') P same h = absurd cc
tells_still (Some p) (Some p') P same h = h p p' refl refl (same_Some (anew p') (anew p) same)

module _ (setting : Setting) (v w : View) (m : Name) (copy rec : ℕ) (op : Op) (client : IsClient v) (may : MayCarry setting v.number v.seen m copy rec op) (legal : Legal setting w.seen) where
  abbrev q : Ask
  q = next_ask v.seen m copy rec op

  abbrev n : Name
  n = q.access

  module _ (made : Past) (walk : Walk v w made) (of : AllByRecursion (IsOf n) made) where
    now_legal : Legal setting (walk.newer ++ v.seen)
    now_legal = subst (Legal setting) walk.grown legal

    of_walk : AllByRecursion (IsOf n) (made_by v.number walk.newer)
    of_walk = subst (AllByRecursion (IsOf n)) (sym walk.own) of

    unstarted : start v.seen n ≡ None
    unstarted = (carries.fresh setting v.number v.seen m copy rec op (calls.client v client) may walk.newer now_legal).no_start

    -- what holds by the entries since holds of the pass
    at_pass : (P : ℕ → Past → Type 0) → P v.number (walk.newer ++ v.seen) → P w.number w.seen
    at_pass P h = subst (λ k. P k w.seen) (sym walk.number) (subst (P v.number) (sym walk.grown) h)

    pub kept_unasked : (plan : Plan) (held : List Ask) (patience : ℕ) (torn : Bool) → asked_under v.number made ≡ [] → IsKept v.number plan held patience v.seen false → IsKept w.number plan held patience w.seen torn
    kept_unasked plan held patience torn none kept =
        at_pass (λ k p. IsKept k plan held patience p torn)
        (no_request_kept v.number v.seen walk.newer (all_left setting v.number v.seen walk.newer now_legal n unstarted of_walk) (ap (asked_under v.number) walk.own ∙ none) plan held patience false torn (λ whole. refl) kept)

    module _ (one : asked_under v.number made ≡ q ∷ []) where
      abbrev sending_of : Net → Sending
      sending_of net = sending (way_of v.number net v.seen).plan (way_of v.number net v.seen).held q net.patience

      one_asked : asked_under v.number (made_by v.number walk.newer) ≡ q ∷ []
      one_asked = ap (asked_under v.number) walk.own ∙ one

      pub met_on : (net : Net) → IsTrue (meets_fates v.number net v.seen) → is_met (walk.newer ++ v.seen) q (sending_of net) ≡ true → IsTrue (meets_fates v.number net (walk.newer ++ v.seen))
      met_on net met here = asked_met setting v.number v.seen walk.newer now_legal n unstarted of_walk q one_asked net.patience (at_start net) met here

      -- it is open still
      pub kept_open : (plan plan' : Plan) (held held' : List Ask) (patience : ℕ) → anew plan' ≡ anew plan → end made n ≡ None → IsKept v.number plan held patience v.seen false → IsKept w.number plan' held' patience w.seen true
      kept_open plan plan' held held' patience same none kept =
          at_pass (λ k p. IsKept k plan' held' patience p true)
          (record {
            met = subst (λ net. IsTrue (meets_fates v.number net (walk.newer ++ v.seen))) (sym (same_net plan plan' patience same))
                (met_on (net_of plan patience) kept.met
                (met_unended (walk.newer ++ v.seen) q (sending_of (net_of plan patience)) (carries.end_by setting v.number v.seen m copy rec op (calls.client v client) may walk.newer now_legal made walk.own ∙ none)));
            in_step = λ whole. absurd (true≢false whole);
          })

      -- it has ended, and is told as it was sent
      module _ (plan plan' : Plan) (held held' : List Ask) (patience : ℕ) (same : anew plan' ≡ anew plan) (kept : IsKept v.number plan held patience v.seen false)
          (seen : Past) (older : IsOlder seen w.seen) (what : Sent) (reason : Option Why) (is_sent : IsSending (sending plan held q patience) (Some plan') held' (λ (a : Ask). HasAnswered a.copy seen a) None None what) (tells : TellsLoss what reason) (given_up : gone made n ≡ reason) where
        step : IsInStep v.number (net_of plan patience) v.seen plan held
        step = kept.in_step refl

        abbrev s : Sending
        s = sending_of (net_of plan patience)

        as_sent : IsSending s (Some plan') held' (λ (a : Ask). HasAnswered a.copy seen a) None None what
        as_sent =
            subst (λ p. IsSending (sending p (way_of v.number (net_of plan patience) v.seen).held q patience) (Some plan') held' (λ (a : Ask). HasAnswered a.copy seen a) None None what) step.same_plan
            (subst (λ h. IsSending (sending plan h q patience) (Some plan') held' (λ (a : Ask). HasAnswered a.copy seen a) None None what) step.same_held is_sent)

        delivered : list_all (λ (a : Ask). was_answered (walk.newer ++ v.seen) a.access) s.way.delivered ≡ true
        delivered =
            ap (λ p. list_all (λ (a : Ask). was_answered p a.access) s.way.delivered) (sym walk.grown)
            ∙ ap (λ p. list_all (λ (a : Ask). was_answered p a.access) s.way.delivered) older.1
            ∙ all_answered_still older.0 seen s.way.delivered
            (ap (list_all (λ (a : Ask). was_answered seen a.access)) (sym as_sent.delivered)
            ∙ delivered_answered seen as_sent.made (recursion_from_All (λ (g : Given). HasAnswered g.ask.copy seen g.ask g.answer) as_sent.made as_sent.is_made.gave))

        told : is_told (walk.newer ++ v.seen) n s.outcome ≡ true
        told = sent_told (walk.newer ++ v.seen) n s.outcome as_sent.made what reason as_sent.tells tells
            (carries.gone_by setting v.number v.seen m copy rec op (calls.client v client) may walk.newer now_legal made walk.own ∙ given_up)

        pub kept_ended : IsKept w.number plan' held' patience w.seen false
        kept_ended =
            at_pass (λ k p. IsKept k plan' held' patience p false)
            (record {
              met = subst (λ net. IsTrue (meets_fates v.number net (walk.newer ++ v.seen))) (sym (same_net plan plan' patience same)) (met_on (net_of plan patience) kept.met (met_told (walk.newer ++ v.seen) q s told delivered));
              in_step = λ whole.
                  subst (λ net. IsInStep v.number net (walk.newer ++ v.seen) plan' held') (sym (same_net plan plan' patience same))
                  (let way = asked_way setting v.number v.seen walk.newer now_legal n unstarted of_walk q one_asked patience (at_start (net_of plan patience)) in
                  record {
                    same_plan = same_Some plan' s.way.plan as_sent.plan_after ∙ sym (ap (λ (x : Way). x.plan) way);
                    same_held = as_sent.held_after ∙ sym (ap (λ (x : Way). x.held) way);
                  });
            })
