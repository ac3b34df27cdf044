-- What ends an access or commits a manager by what was seen does so after all that others entered, unless it has died.
use Rattle.std.proofs.Common.{◌≡◌, inl, inr, ℕ, ◌+◌, Bool, true, false, List, ◌++◌, refl, sym, ap, ap₂, ◌∙◌, subst}
use Rattle.std.specs.Prelude.{None, MatchOption, IsTrue, ◌&&◌, not, is_some}
use Rattle.std.specs.List.{list_any, list_all}
use Rattle.std.specs.Option.{option_map_or}
use Rattle.std.proofs.lemmas.Bool.{or_cases, or_left, or_right}
use Rattle.std.proofs.lemmas.List.Folds.{list_any-append}
use Rattle.qc_config.specs.Config.{Voting}
use Rattle.qc_config.specs.declared.tuple.Tuple.{Tuple}
use Rattle.qc_event.specs.declared.event.Answer.{Answer}
use Rattle.qc_event.specs.declared.event.Answer.TheVariants as answer
use Rattle.qc_event.specs.declared.event.Entry.{Entry}
use Rattle.qc_event.specs.declared.event.Kind.{Kind}
use Rattle.qc_event.specs.declared.event.Kind.TheVariants as kind
use Rattle.qc_event.specs.declared.event.Phase.{Phase}
use Rattle.qc_event.specs.declared.event.Why.{Why}
use Rattle.qc_event.specs.Base.{Setting}
use Rattle.qc_event.specs.Commits.{MayCommitAccess, MayCommitManager, manager_answer}
use Rattle.qc_event.specs.Dead.{dead}
use Rattle.qc_event.specs.History.{Past, Name, Begun, Asked, Given, IsOpen, start, end, asked, granted, is_child}
use Rattle.qc_event.specs.Legal.{Legal}
use Rattle.qc_event.specs.Manager.{stages_by, collecting, is_last, greatest_among, is_complete, first_for}
use Rattle.qc_event.specs.Requests.{MayGiveUp, is_fault, is_why, unable_in, was_unable}
use Rattle.qc_event.specs.Seats.{is_client}
use Rattle.qc_event.specs.Standing.{open_child}
use Rattle.qc_event.proofs.Histories.{earliest-append}
use Rattle.qc_event.proofs.Options.{still_matches}
use Rattle.qc_event.proofs.StillTold.{begun_still}
use Rattle.qc_desk.specs.Entries.{AreOthers}
use Rattle.qc_desk.specs.Own.{IsMine, IsComplete}
use Rattle.qc_desk.proofs.OwnSince as since
use Rattle.qc_desk.proofs.OwnSince.{enough_of, newest_of}

-- whether a manager is complete, by the replies to its reads and by who replied in each phase
abbrev complete_of : List Tuple → (Phase → ℕ → Bool) → Voting → Kind → Bool
complete_of tuples has first k =
    not (enough_of has (collecting (newest_of tuples first)) && is_last k (newest_of tuples first) (greatest_among tuples))
    && list_all (enough_of has) (stages_by k (newest_of tuples first) (greatest_among tuples))

module _ (setting : Setting) (past newer : Past) (seat : ℕ) (m : Name) (mine : IsMine past seat m) (legal : Legal setting (newer ++ past)) (all : AreOthers seat newer) where
  abbrev now : Past
  now = newer ++ past

  older : Legal setting past
  older = since.older setting past seat m mine newer legal

  -- ACCESSES

  module _ (c : Name) (child : is_child m c ≡ true) where
    open_now : IsOpen past c → IsOpen now c
    open_now was = record { started = begun_still newer past c was.started; not_ended = since.access_end_same setting past seat m mine newer legal all c child ∙ was.not_ended }

    asked_now : MatchOption (asked past c) ⊥ (λ a. a.seat ≡ seat) → MatchOption (asked now c) ⊥ (λ a. a.seat ≡ seat)
    asked_now h = subst (λ o. MatchOption o ⊥ (λ (a : Asked). a.seat ≡ seat)) (sym (since.asked_same setting past seat m mine newer legal all c child)) h

    -- an access is given up by what was seen alone
    pub gives_up_now : (why : Why) → MayGiveUp past seat c why → MayGiveUp now seat c why
    gives_up_now why may = record {
      by_client = may.by_client;
      asked_here = asked_now may.asked_here;
      is_open = open_now may.is_open;
      first_time = since.gone_same setting past seat m mine newer legal all c child ∙ may.first_time;
      told = elim (or_cases (not (is_fault why)) (was_unable past c why) may.told) [
        | inl lossy ↦ or_left (not (is_fault why)) (was_unable now c why) lossy
        | inr unable ↦ or_right (not (is_fault why)) (was_unable now c why)
            (list_any-append (λ (e : Entry). option_map_or (is_why why) (unable_in c e.event) false) newer past ∙ or_right (list_any (λ (e : Entry). option_map_or (is_why why) (unable_in c e.event) false) newer) _ unable)
      ];
    }

    -- an access commits with the reply that was seen, unless it has died
    pub replies_now : (given : Answer) → MayCommitAccess past seat c given → dead now c ≡ None → MayCommitAccess now seat c given
    replies_now given may alive = record {
      by_client = may.by_client;
      asked_here = asked_now may.asked_here;
      going = record { is_open = open_now may.going.is_open; alive = alive };
      reply = subst (λ o. MatchOption o ⊥ (λ (g : Given). given ≡ answer.Reply g.grant.tuple)) (sym (earliest-append _ newer past))
          (still_matches (granted past c) (granted newer c) (λ g. given ≡ answer.Reply g.grant.tuple) may.reply);
    }

  -- THE MANAGER

  complete_same : (first : Voting) (k : Kind) → is_complete now first m k ≡ is_complete past first m k
  complete_same first k = ap₂ (λ (t : List Tuple) (h : Phase → ℕ → Bool). complete_of t h first k) (since.tuples_same setting past newer seat m mine legal all) (since.has_same setting past newer seat m mine legal all)

  answer_same : (first : Voting) (k : Kind) → manager_answer now first m k ≡ manager_answer past first m k
  answer_same first (kind.Read rec) = ap (λ t. answer.Value (greatest_among t).value) (since.tuples_same setting past newer seat m mine legal all)
  answer_same first (kind.Reconf rec config) = ap (λ t. answer.Generation ((newest_of t first).generation + 1)) (since.tuples_same setting past newer seat m mine legal all)
  answer_same first (kind.Write rec value) = refl
  answer_same first (kind.User session body) = refl
  answer_same first kind.Access = refl

  -- a manager that was complete by what was seen commits with the same answer, unless it has ended, died, or has an open child
  pub commits_now : (b : Begun) (given : Answer) → IsTrue (is_client seat) → IsComplete setting past seat m given b → is_some (start past m) ≡ true → end now m ≡ None → dead now m ≡ None → open_child now m ≡ None → MayCommitManager setting now seat m b given
  commits_now b given client own started not_ended alive closed = record {
    by_client = client;
    own_seat = own.own_seat;
    going = record { is_open = record { started = begun_still newer past m started; not_ended = not_ended }; alive = alive };
    complete = complete_same (first_for setting b.kind) b.kind ∙ own.complete;
    children_ended = closed;
    answers = own.answers ∙ sym (answer_same (first_for setting b.kind) b.kind);
  }
