-- What a client ran stands where others' entries come after its last call, and what came to its end has begun.
use Rattle.std.proofs.Common.{◌≡◌, ℕ, true, List, [], ◌∷◌, ◌++◌, refl, sym, ap, ◌∙◌, subst, append-nil}
use Rattle.std.specs.Prelude.{None}
use Rattle.std.specs.List.{AllByRecursion, list_all}
use Rattle.std.proofs.lemmas.Bool.{and_parts}
use Rattle.std.proofs.lemmas.List.Elements.{filter-append}
use Rattle.std.proofs.lemmas.List.Folds.{list_all-append}
use Rattle.qc_event.specs.declared.event.Entry.{Entry}
use Rattle.qc_event.specs.Base.{Setting}
use Rattle.qc_event.specs.History.{Past, Name, end, children}
use Rattle.qc_event.specs.Legal.{Legal}
use Rattle.qc_net.specs.Messages.{meets_fates}
use Rattle.qc_script.specs.Client.{Client, mine, is_own, AreOurs}
use Rattle.qc_script.specs.Numbers.{each}
use Rattle.qc_script.specs.Plan.{Numbered, SessionPlan}
use Rattle.qc_interp.specs.Adding.{is_of_one, stays_in, starts_for, all_over, AllStayIn}
use Rattle.qc_interp.specs.Asking.{BodiesAsk, IsAskedBy}
use Rattle.qc_interp.specs.Deeds.{deeds}
use Rattle.qc_interp.specs.Follows.{RunsBody, FollowsBody}
use Rattle.qc_interp.specs.FollowsScript.{net_of}
use Rattle.qc_interp.specs.Reach.{Reach, AtTheEnd}
use Rattle.qc_interp.specs.Session.{tops, NotBegun, AreAllOurs, RunsBodies, FollowsBodies, EndsTops, EndsTopsAt, InTurnAt}
use Rattle.qc_interp.specs.Together.{IsWhole, HasRun}
use Rattle.qc_interp.specs.Turns.{takes_turn, is_alone, is_under}
use Rattle.qc_interp.proofs.Scopes.Adding.{numbers_stay, after_stay, all_over_more}
use Rattle.qc_interp.proofs.Stepping.Ending.{at_the_end}
use Rattle.qc_interp.proofs.Following.Followed.{tries_wider, follows_runs}

-- WHERE THE CLIENT MAKES NOTHING MORE

mine_still : (c : Client) (seen newer : Past) → mine c newer ≡ [] → mine c (newer ++ seen) ≡ mine c seen
mine_still c seen newer none = filter-append (λ (e : Entry). is_own c e.seat) newer seen ∙ ap (λ l. l ++ mine c seen) none

tops_still : (c : Client) (seen newer : Past) → mine c newer ≡ [] → tops c (newer ++ seen) ≡ tops c seen
tops_still c seen newer none = ap (λ h. children h []) (mine_still c seen newer none)

-- all about its tops was its own before
ours_before : (c : Client) (seen newer : Past) → mine c newer ≡ [] → AreAllOurs c (newer ++ seen) → AreAllOurs c seen
ours_before c seen newer none ours = by_tops (tops c seen) (subst (AllByRecursion (λ t. AreOurs c t (newer ++ seen))) (tops_still c seen newer none) ours)
  where
    by_tops : (ts : List Name) → AllByRecursion (λ t. AreOurs c t (newer ++ seen)) ts → AllByRecursion (λ t. AreOurs c t seen) ts
    by_tops [] all = tt
    by_tops (t ∷ ts) all = ((and_parts _ _ (sym (list_all-append _ newer seen) ∙ all.0)).1, by_tops ts all.1)

-- the tops that the client made are tries of these bodies still
ends_later : (reach : Reach) (c : Client) (seen newer : Past) (bodies : List Numbered) → mine c newer ≡ [] → Legal c.setting (newer ++ seen) → EndsTopsAt reach c [] seen bodies → EndsTopsAt reach c [] (newer ++ seen) bodies
ends_later reach c seen newer bodies none legal ends = λ ours.
    let was = ends (ours_before c seen newer none ours) in
    let same = mine_still c seen newer none in (
      was.0,
      tops_still c seen newer none ∙ was.1,
      subst (λ h. RunsBodies reach c.session h bodies was.0) (sym same) was.2,
      subst (λ h. (made : Past) × (h ≡ made ++ []) × AllByRecursion (λ (e : Entry). IsAskedBy (λ by t. BodiesAsk h bodies was.0 by t) e.event) made) (sym same) was.3,
    )

-- and they ran in turn still
turns_later : (reach : Reach) (c : Client) (seen newer : Past) → mine c newer ≡ [] → Legal c.setting (newer ++ seen) → InTurnAt reach c [] seen → InTurnAt reach c [] (newer ++ seen)
turns_later reach c seen newer none legal ran = record {
  made = ran.made;
  more = tops_still c seen newer none ∙ ran.more;
  later = record { newer = newer ++ seen; grown = sym (append-nil (newer ++ seen)); legal = legal };
  inside = ap (list_all (is_of_one ran.made)) same ∙ subst (λ h. list_all (is_of_one ran.made) (mine c h) ≡ true) newer_is ran.inside;
  of_session = ap (list_all (starts_for c.session)) same ∙ subst (λ h. list_all (starts_for c.session) (mine c h) ≡ true) newer_is ran.of_session;
  numbers = λ was. numbers_stay c [] newer seen stay (ran.numbers was);
  seats = λ was. subst (λ h. list_all (is_under h c.number) (children h []) ≡ true) (sym same) (ran.seats was);
  order = λ ours was over.
      let now = ran.order (ours_before c seen newer none ours) was over in (
        after_stay c [] newer seen stay now.0,
        at_the_end reach (all_over c seen ≡ true) (all_over c (newer ++ seen) ≡ true)
            (λ all. all_over_more c newer seen [] (tops_still c seen newer none ∙ sym (append-nil (tops c seen))) all refl) now.1,
      );
  turns = λ ours under was alone. subst (λ h. (each takes_turn h ≡ true) × AtTheEnd reach (is_alone h [] ≡ true)) (sym same) (ran.turns (ours_before c seen newer none ours) under was alone);
}
  where
    same : mine c (newer ++ seen) ≡ mine c seen
    same = mine_still c seen newer none

    newer_is : ran.later.newer ≡ seen
    newer_is = sym (append-nil ran.later.newer) ∙ sym ran.later.grown

    stay : AllStayIn c [] newer
    stay = ap (list_all (stays_in [])) none

pub has_run_later : (reach : Reach) (setting : Setting) (session epoch patience : ℕ) (c : Client) (plan : SessionPlan) (seen newer : Past)
    → c.session ≡ session → c.epoch ≡ epoch → c.setting ≡ setting → IsWhole c → EndsTopsAt reach c [] seen plan.tops → InTurnAt reach c [] seen → mine c newer ≡ [] → Legal c.setting (newer ++ seen)
    → list_all (λ seat. meets_fates seat (net_of patience plan) (newer ++ seen)) (c.number ∷ c.kin) ≡ true → HasRun reach setting session epoch patience c plan (newer ++ seen)
has_run_later reach setting session epoch patience c plan seen newer session_is epoch_is setting_is whole ends ran none legal met = record {
  session_is = session_is;
  epoch_is = epoch_is;
  setting_is = setting_is;
  whole = whole;
  ends = ends_later reach c seen newer plan.tops none legal ends;
  in_turn = turns_later reach c seen newer none legal ran;
  met = met;
}

-- WHAT CAME TO ITS END HAS BEGUN

module _ (s : ℕ) (past : Past) where
  body_begins : (b : Numbered) (t : Name) → FollowsBody s past b t → RunsBody Reach.cut_off s past b t
  body_begins b t follows = record { kind = follows.kind; steps = follows_runs Reach.cut_off s past t b.plan (deeds past t) (end past t) follows.steps }

  bodies_begin : (bodies : List Numbered) (ts : List Name) → FollowsBodies s past bodies ts → RunsBodies Reach.cut_off s past bodies ts
  bodies_begin [] [] h = h
  bodies_begin [] (t ∷ ts) h = absurd h
  bodies_begin (b ∷ bodies) ts h =
      tries_wider (end past) (FollowsBody s past b) (RunsBody Reach.cut_off s past b) ⊥ (NotBegun Reach.cut_off) (λ last further. FollowsBodies s past bodies further) (λ last further. RunsBodies Reach.cut_off s past bodies further)
      (body_begins b) (λ none. tt) (λ last further r. bodies_begin bodies further r) None b.tries ts h

pub ends_begun : (c : Client) (before now : Past) (bodies : List Numbered) → EndsTops c before now bodies → EndsTopsAt Reach.cut_off c before now bodies
ends_begun c before now bodies ends = λ ours. let e = ends ours in (e.0, e.1, bodies_begin c.session (mine c now) bodies e.0 e.2, e.3)

pub turns_begun : (c : Client) (before now : Past) → InTurnAt Reach.to_the_end c before now → InTurnAt Reach.cut_off c before now
turns_begun c before now ran = record {
  made = ran.made;
  more = ran.more;
  later = ran.later;
  inside = ran.inside;
  of_session = ran.of_session;
  numbers = ran.numbers;
  seats = ran.seats;
  order = λ ours was over. ((ran.order ours was over).0, tt);
  turns = λ ours under was alone. ((ran.turns ours under was alone).0, tt);
}
