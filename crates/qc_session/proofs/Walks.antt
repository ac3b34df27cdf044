-- How a line goes on by what its client enters.
use Rattle.std.proofs.Common.{◌≡◌, ℕ, suc, ◌+◌, ◌==◌, Bool, true, List, [], ◌∷◌, ◌++◌, map, length, refl, sym, ap, ◌∙◌, subst}
use Rattle.std.specs.Prelude.{Option, None, Some, IfSome, IsTrue, MatchOption, not, ◌&&◌}
use Rattle.std.specs.List.{list_all}
use Rattle.std.proofs.lemmas.Bool.{and_parts}
use Rattle.std.specs.Option.{option_map}
use Rattle.qc_carry.specs.Carried.{HasCarried}
use Rattle.qc_carry.specs.Kept.{net_of}
use Rattle.qc_carry.specs.Walk.{Walk}
use Rattle.qc_carry.proofs.Walking as walking
use Rattle.qc_event.specs.declared.event.Event.TheVariants as event
use Rattle.qc_event.specs.declared.event.Kind.{Kind}
use Rattle.qc_event.specs.Base.{Setting}
use Rattle.qc_event.specs.History.{Past, Name, children}
use Rattle.qc_event.specs.Legal.{Legal}
use Rattle.qc_managers.specs.Carrying.{HasGrown, entry, made_by}
use Rattle.qc_net.specs.Messages.{Net, meets_fates}
use Rattle.qc_net.specs.Plan.{Plan, anew}
use Rattle.qc_desk.specs.declared.view.View.{View}
use Rattle.qc_desk.specs.Calling.{EnteredAs}
use Rattle.qc_desk.specs.Refusing.{against_child, against_nothing}
use Rattle.qc_desk.specs.Entries.{IsOlder, entries_of}
use Rattle.qc_desk.specs.Rules.{Has, extends, numbers, pass}
use Rattle.qc_desk.proofs.Since.{since}
use Rattle.qc_script.specs.Calls.{MeetsLink}
use Rattle.qc_script.specs.Client.{Client}
use Rattle.qc_session.specs.Clients.{IsFor, client_of, kin_of, link_told, view_of}
use Rattle.qc_session.specs.Managing.{HasStarted}
use Rattle.qc_session.proofs.Requests.{met_later}

-- a walk with the same link
pub walk_carried : (v w : View) (made : Past) (plan plan' : Option Plan) (patience patience' : ℕ) → Walk v w made → plan' ≡ plan → patience' ≡ patience → HasCarried v w plan plan' patience patience'
walk_carried v w made plan plan' patience patience' walk same patient = record {
  number = walk.number;
  live = walk.live;
  out = walk.out;
  kin = walk.kin;
  net = ap (option_map anew) same;
  same_patience = patient;
}

-- what a line has carried, by what its client made meanwhile
pub carried_walk : (v w : View) (plan plan' : Option Plan) (patience patience' : ℕ) (Names : Name → Type 0) → HasCarried v w plan plan' patience patience' → (g : HasGrown (λ e. not (e.seat == v.number)) Names v.seen w.seen) → Walk v w (made_by v.number g.newer)
carried_walk v w plan plan' patience patience' Names still g = record {
  newer = g.newer;
  grown = g.grown;
  own = refl;
  number = still.number;
  live = still.live;
  out = still.out;
  kin = still.kin;
}

-- A START

pub started_so : (v w : View) (of n : Name) (k : Kind) → EnteredAs (against_child of) (λ past ev. (n ≡ of ++ (length (children past of) + 1) ∷ []) × (ev ≡ event.Start n k)) v w → HasStarted v w of n k
started_so v w of n k s = record {
  before = s.0;
  since = s.3;
  named = s.2.0;
  grown = s.5 ∙ ap (λ ev. extends (entry v.number ev) s.0 v) s.2.1;
}

pub started_walk : (v w : View) (of n : Name) (k : Kind) → HasStarted v w of n k → Walk v w (entry v.number (event.Start n k) ∷ [])
started_walk v w of n k h = walking.of_entered against_nothing (event.Start n k) v w (h.before, h.since, refl, h.grown)

-- THE CLIENT OF A LINE

-- the same link is told
told_still : (plan plan' : Option Plan) (patience : ℕ) → option_map anew plan' ≡ option_map anew plan → link_told plan' patience ≡ link_told plan patience
told_still None None patience same = refl
told_still None (Some p) patience same = absurd cc
told_still (Some p) None patience same = absurd cc
told_still (Some p) (Some q) patience same = ap (option_map (λ x. net_of x patience)) same

pub same_numbers : (v w : View) → w.number ≡ v.number → w.kin ≡ v.kin → numbers w ≡ numbers v
same_numbers v w number kin = λ i. number i ∷ map (λ (p : ℕ × Past). p.0) (kin i)

pub same_net : (plan plan' : Option Plan) (patience patience' : ℕ) → option_map anew plan' ≡ option_map anew plan → patience' ≡ patience → link_told plan' patience' ≡ link_told plan patience
same_net plan plan' patience patience' same patient = ap (link_told plan') patient ∙ told_still plan plan' patience same

-- a client, by its parts
abbrev client_with : Setting → Name → ℕ → ℕ → Option Net → ℕ → List (ℕ × Past) → List ℕ → Client
client_with setting root session epoch net number kin out = record { number = number; root = root; kin = map (λ (p : ℕ × Past). p.0) kin; out = out; session = session; epoch = epoch; setting = setting; net = net }

-- a line that has carried is the same client's
pub client_still : (setting : Setting) (root : Name) (session epoch epoch' : ℕ) (plan plan' : Option Plan) (patience patience' : ℕ) (v w : View) → HasCarried v w plan plan' patience patience' → epoch' ≡ epoch
    → client_of setting root session epoch' (link_told plan' patience') w ≡ client_of setting root session epoch (link_told plan patience) v
client_still setting root session epoch epoch' plan plan' patience patience' v w still same =
    let net : link_told plan' patience' ≡ link_told plan patience = same_net plan plan' patience patience' still.net still.same_patience in
    λ i. client_with setting root session (same i) (net i) (still.number i) (still.kin i) (still.out i)

-- THE FATES OF ITS LINK

-- the requests under these seats meet the fates of a link
abbrev pub all_meet : Net → Past → List ℕ → Bool
all_meet net seen seats = list_all (λ seat. meets_fates seat net seen) seats

-- so they do still, where nothing is newer under any of these
pub all_meet_still : (setting : Setting) (net : Net) (before now : Past) (seats : List ℕ) → Legal setting now → IsOlder before now → ((k : ℕ) → Has seats k → entries_of k now ≡ entries_of k before) → all_meet net before seats ≡ true → all_meet net now seats ≡ true
all_meet_still setting net before now [] legal older same met = refl
all_meet_still setting net before now (k ∷ seats) legal older same met =
    let others = since k before now older (same k (0, refl)) in
    let both = and_parts (meets_fates k net before) (all_meet net before seats) met in
    let here : meets_fates k net now ≡ true = subst (λ p. meets_fates k net p ≡ true) (sym others.1) (met_later setting (pass k before) others.0 net.fates net.hold net.patience (subst (Legal setting) others.1 legal) others.2 both.0) in
    ap (λ b. b && all_meet net now seats) here ∙ all_meet_still setting net before now seats legal older (λ j h. same j (suc h.0, h.1)) both.1

-- where a line's own requests meet the fates of its link, and its kin's did, all do
pub link_met : (setting : Setting) (root : Name) (session epoch epoch' : ℕ) (plan plan' : Option Plan) (patience patience' : ℕ) (v w : View) → HasCarried v w plan plan' patience patience' → epoch' ≡ epoch → IsOlder v.seen w.seen → IsFor setting v w (client_of setting root session epoch (link_told plan patience) v) → Legal setting w.seen
    → IfSome plan' (λ p. IsTrue (meets_fates w.number (net_of p patience') w.seen)) → MeetsLink (view_of setting root session epoch (link_told plan patience) v) → MeetsLink (view_of setting root session epoch' (link_told plan' patience') w)
link_met setting root session epoch epoch' plan plan' patience patience' v w still same older for legal own was =
    subst (λ c. MeetsLink (record { client = c; seen = w.seen })) (sym (client_still setting root session epoch epoch' plan plan' patience patience' v w still same))
    (by_net (link_told plan patience) was (subst (λ (x : Option Net × ℕ). MatchOption x.0 (Unit {0}) (λ net. IsTrue (meets_fates x.1 net w.seen))) (λ i. (net i, still.number i)) (told_own plan' own)))
  where
    net : link_told plan' patience' ≡ link_told plan patience
    net = same_net plan plan' patience patience' still.net still.same_patience

    told_own : (o : Option Plan) → IfSome o (λ p. IsTrue (meets_fates w.number (net_of p patience') w.seen)) → MatchOption (link_told o patience') (Unit {0}) (λ x. IsTrue (meets_fates w.number x w.seen))
    told_own None own = tt
    told_own (Some p) own = own

    by_net : (o : Option Net) → MatchOption o (Unit {0}) (λ x. IsTrue (all_meet x v.seen (numbers v))) → MatchOption o (Unit {0}) (λ x. IsTrue (meets_fates v.number x w.seen)) → MatchOption o (Unit {0}) (λ x. IsTrue (all_meet x w.seen (numbers v)))
    by_net None was own = tt
    by_net (Some x) was own =
        ap (λ b. b && all_meet x w.seen (kin_of v)) own
        ∙ all_meet_still setting x v.seen w.seen (kin_of v) legal older for.kin_still (and_parts (meets_fates v.number x v.seen) (all_meet x v.seen (kin_of v)) was).1
