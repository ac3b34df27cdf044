-- What a client's call leaves of it, by how its line went on.
use Rattle.std.proofs.Common.{◌≡◌, ℕ, sym, ap, subst, [], ◌∷◌}
use Rattle.std.proofs.Math.Logic.{∥∥₁_map}
use Rattle.std.specs.Prelude.{List, Option, None, Result, IfOk, IfErr, OnOk}
use Rattle.qc_board.specs.Boards.{Mark}
use Rattle.qc_carry.specs.Walk.{Walk}
use Rattle.qc_event.specs.Base.{Setting}
use Rattle.qc_event.specs.declared.event.Answer.{Answer}
use Rattle.qc_event.specs.declared.event.Cause.{Cause}
use Rattle.qc_event.specs.declared.event.Event.TheVariants as event
use Rattle.qc_event.specs.declared.event.How.TheVariants.{Abort, Commit}
use Rattle.qc_event.specs.declared.event.Kind.{Kind}
use Rattle.qc_event.specs.History.{Name}
use Rattle.qc_event.specs.Users.{top_number}
use Rattle.qc_managers.specs.Carrying.{entry}
use Rattle.qc_net.specs.Messages.{Net}
use Rattle.qc_net.specs.Plan.{Plan}
use Rattle.qc_desk.specs.declared.view.View.{View}
use Rattle.qc_desk.specs.Rules.{AreKin, numbers}
use Rattle.qc_script.specs.Calls.{Committed, GaveNone, MeetsLink, NotAborted, NotCommitted, Ran, WasRefused, by_client}
use Rattle.qc_script.specs.Client.{Client, Made}
use Rattle.qc_script.specs.declared.tx.TxNo.{TxNo}
use Rattle.qc_session.specs.Clients.{IsFor, client_of, link_told, view_of}
use Rattle.qc_session.specs.Keeping.{IsClientPass}
use Rattle.qc_session.specs.Lines.{HasGoneOn}
use Rattle.qc_session.specs.Marking.{KnowsMarks, made_under}
use Rattle.qc_session.specs.Session.{AreHigh}
use Rattle.qc_session.proofs.MarksKept.{Did, did_aborted, did_begun, did_ended, did_made, did_manager, did_none, kept, still_known}
use Rattle.qc_session.proofs.Own.{is_for, made_one, made_so}
use Rattle.qc_session.proofs.OwnMarks.{known_more, mark_known}
use Rattle.qc_session.proofs.Tidy.{tidy_still}
use Rattle.qc_session.proofs.Walks.{client_still, link_met, same_numbers}

module _ {setting : Setting} {v w : View} {plan plan' : Option Plan} {patience patience' : ℕ} {System : Type 0} {over over' : System} (gone : HasGoneOn setting v w plan plan' patience patience' over over') (kin : AreKin v.kin v.seen) where
  -- its pass is still its client's
  pub for : (root : Name) (session epoch : ℕ) (net : Option Net) → IsFor setting v w (client_of setting root session epoch net v)
  for root session epoch net = is_for setting root session epoch net v w gone.carried.kin kin gone.kin

  pub met_now : (root : Name) (session : ℕ) (epoch : System → ℕ) → MeetsLink (view_of setting root session (epoch over) (link_told plan patience) v) → MeetsLink (view_of setting root session (epoch over') (link_told plan' patience') w)
  met_now root session epoch met =
      link_met setting root session (epoch over) (epoch over') plan plan' patience patience' v w gone.carried (ap epoch gone.system) gone.older (for root session (epoch over) (link_told plan patience)) gone.legal gone.met met

  pub client_now : (root : Name) (session : ℕ) (epoch : System → ℕ) → client_of setting root session (epoch over') (link_told plan' patience') w ≡ client_of setting root session (epoch over) (link_told plan patience) v
  client_now root session epoch = client_still setting root session (epoch over) (epoch over') plan plan' patience patience' v w gone.carried (ap epoch gone.system)

  -- it keeps its pass, where it knows the marks that it made
  pub pass_now : (marks marks' : List Mark) → (KnowsMarks (numbers v) v.seen marks → KnowsMarks (numbers v) w.seen marks') → IsClientPass v marks → IsClientPass w marks'
  pass_now marks marks' known was = record {
    high = subst AreHigh (sym (same_numbers v w gone.carried.number gone.carried.kin)) was.high;
    kin = gone.kin;
    tidy = ∥∥₁_map was.tidy (tidy_still setting v w gone.legal gone.older gone.carried.number gone.carried.kin (for [] 0 0 None).kin_still gone.tidy);
    marks_known = still_known v w marks marks' gone.carried.number gone.carried.kin known was.marks_known;
  }

  -- BY WHAT IT MADE

  -- whose pass it is does not matter
  abbrev pub anyone : Client
  anyone = client_of setting [] 0 0 None v

  pub for_anyone : IsFor setting v w anyone
  for_anyone = for [] 0 0 None

  pub did_keep : (marks : List Mark) → Did anyone marks v.seen w.seen → IsClientPass v marks → IsClientPass w marks
  did_keep marks did was = pass_now marks marks (kept anyone marks v.seen w.seen did) was

  pub none_keeps : (marks : List Mark) → Walk v w [] → IsClientPass v marks → IsClientPass w marks
  none_keeps marks walk was = did_keep marks (did_none anyone marks v.seen w.seen (made_so setting v w anyone for_anyone gone.legal [] walk)) was

  pub manager_keeps : (marks : List Mark) (r : Result Answer TxNo) (of : Name) (k : Kind) → ((c : Client) → IsFor setting v w c → IfOk r (λ given. Ran c of k (Commit given) v.seen w.seen)) → ((c : Client) → IsFor setting v w c → IfErr r (GaveNone c of k v.seen w.seen)) → IsClientPass v marks → IsClientPass w marks
  manager_keeps marks r of k ok err was = did_keep marks (did_manager anyone marks v.seen w.seen r of k (ok anyone for_anyone) (err anyone for_anyone)) was

  pub begun_keeps : (marks : List Mark) (r : Result Name TxNo) (of : Name) (k : Kind) → ((c : Client) → IsFor setting v w c → IfOk r (λ n. Made c (by_client c (event.Start n k) ∷ []) v.seen w.seen)) → ((c : Client) → IsFor setting v w c → IfErr r (WasRefused c of v.seen w.seen)) → IsClientPass v marks → IsClientPass w marks
  begun_keeps marks r of k ok err was = did_keep marks (did_begun anyone marks v.seen w.seen r of k (ok anyone for_anyone) (err anyone for_anyone)) was

  pub aborted_keeps : (marks : List Mark) (r : Result (Unit {0}) TxNo) (of : Name) (why : Cause) → ((c : Client) → IsFor setting v w c → OnOk r (Made c (by_client c (event.End of (Abort why)) ∷ []) v.seen w.seen)) → ((c : Client) → IsFor setting v w c → IfErr r (NotAborted c of why v.seen w.seen)) → IsClientPass v marks → IsClientPass w marks
  aborted_keeps marks r of why ok err was = did_keep marks (did_aborted anyone marks v.seen w.seen r of why (ok anyone for_anyone) (err anyone for_anyone)) was

  pub ended_keeps : (marks : List Mark) (r : Result (Unit {0}) TxNo) (of : Name) → ((c : Client) → IsFor setting v w c → OnOk r (Committed c of v.seen w.seen)) → ((c : Client) → IsFor setting v w c → IfErr r (NotCommitted c of v.seen w.seen)) → IsClientPass v marks → IsClientPass w marks
  ended_keeps marks r of ok err was = did_keep marks (did_ended anyone marks v.seen w.seen r of (ok anyone for_anyone) (err anyone for_anyone)) was

  -- it marked a session, and knows of the mark
  pub mark_keeps : (marks : List Mark) (by : Name) (session upto : ℕ) → upto ≡ top_number by → Walk v w (entry v.number (event.Mark by session) ∷ []) → IsClientPass v marks → IsClientPass w ((session, upto) ∷ marks)
  mark_keeps marks by session upto is walk was =
      let more = (session, upto) ∷ marks in
      let did = did_made anyone more v.seen w.seen _ (mark_known v.number session upto by marks is) (made_one setting v w anyone for_anyone gone.legal (event.Mark by session) walk) in
      pass_now marks more (λ known. kept anyone more v.seen w.seen did (known_more (session, upto) marks (made_under (numbers v) v.seen) known)) was
