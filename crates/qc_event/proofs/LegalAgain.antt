-- That a history is legal is told again by that it was shown once.
use Rattle.std.proofs.Common.{◌≡◌, ℕ, Bool, true, false, List, [], ◌∷◌, refl, sym, ap, ◌∙◌}
use mathlib.Core.Bool.{true≢false}
use base.Stored.{Gv, gnil, gnum, gcons}
use Rattle.std.specs.Coded.{Coded, codes}
use Rattle.std.proofs.Props.{props}
use Rattle.std.proofs.Math.Logic.{∥∥₁_elim, ∥∥₁_map}
use Rattle.std.proofs.lemmas.Bool.{and_parts, and_from, eq-eqb, eqb-true}
use Rattle.std.specs.Prelude.{◌==◌, ◌&&◌, cond, Option, None, Some, MatchOption, find}
use Rattle.qc_event.specs.declared.event.Cause.{Cause}
use Rattle.qc_event.specs.declared.event.Cause.TheVariants as cause
use Rattle.qc_event.specs.declared.event.Event.{Event}
use Rattle.qc_event.specs.declared.event.Event.TheVariants as event
use Rattle.qc_event.specs.declared.event.How.{How}
use Rattle.qc_event.specs.declared.event.How.TheVariants.{Commit, Abort}
use Rattle.qc_event.specs.declared.event.Kind.{Kind}
use Rattle.qc_event.specs.declared.event.Kind.TheVariants as kind
use Rattle.qc_event.specs.Aborts.{Licensed}
use Rattle.qc_event.specs.Base.{Setting}
use Rattle.qc_event.specs.History.{Past, Name, Begun, start, end, is_child, children}
use Rattle.qc_event.specs.Legal.{Legal, MayHappen, MayEnd}
use Rattle.qc_event.specs.Standing.{IsManager}
use Rattle.qc_event.specs.Users.{ChildAborted, UserCause, MayAbort}
use Rattle.qc_event.proofs.OneEntry.{no_child_passes}
use Rattle.qc_event.proofs.Lawful.{started_some}
use Rattle.qc_event.proofs.RulesOnce as once

-- ENDS COMPARED

same_code : Gv → Gv → Bool
same_code gnil gnil = true
same_code (gnum m) (gnum n) = m == n
same_code (gcons a b) (gcons c d) = same_code a c && same_code b d
same_code _ _ = false

code_itself : (a : Gv) → same_code a a ≡ true
unfolding same_code
code_itself gnil = refl
code_itself (gnum n) = eq-eqb n n refl
code_itself (gcons a b) = and_from (same_code a a) (same_code b b) (code_itself a) (code_itself b)

code_is : (a b : Gv) → same_code a b ≡ true → a ≡ b
unfolding same_code
code_is gnil gnil h = refl
code_is (gnum m) (gnum n) h = ap gnum (eqb-true m n h)
code_is (gcons a b) (gcons c d) h =
    let parts = and_parts (same_code a c) (same_code b d) h in
    ap (λ x. gcons x b) (code_is a c parts.0) ∙ ap (gcons c) (code_is b d parts.1)
code_is _ _ h = absurd (true≢false (sym h))

how_code : Coded (Option How)
how_code = hlevel codes

is_end : Option How → Option How → Bool
is_end a b = same_code (how_code.code a) (how_code.code b)

end_itself : (o : Option How) → is_end o o ≡ true
unfolding is_end
end_itself o = code_itself (how_code.code o)

end_is : (a b : Option How) → is_end a b ≡ true → a ≡ b
unfolding is_end
end_is a b h = how_code.inj a b (code_is (how_code.code a) (how_code.code b) h)

-- CHILDREN SOUGHT

is_manager : Kind → Bool
is_manager (kind.User session body) = false
is_manager kind.Access = false
is_manager _ = true

manages : (k : Kind) → is_manager k ≡ true → IsManager k
unfolding is_manager
manages (kind.User session body) h = absurd (true≢false (sym h))
manages (kind.Read rec) h = tt
manages (kind.Write rec value) h = tt
manages (kind.Reconf rec config) h = tt
manages kind.Access h = absurd (true≢false (sym h))

is_one : (k : Kind) → IsManager k → is_manager k ≡ true
unfolding is_manager
is_one (kind.User session body) h = absurd h
is_one (kind.Read rec) h = refl
is_one (kind.Write rec value) h = refl
is_one (kind.Reconf rec config) h = refl
is_one kind.Access h = absurd h

began_managing : Option Begun → Bool
began_managing None = false
began_managing (Some b) = is_manager b.kind

began_manages : (o : Option Begun) → began_managing o ≡ true → MatchOption o ⊥ (λ b. IsManager b.kind)
unfolding began_managing
began_manages None h = absurd (true≢false (sym h))
began_manages (Some b) h = manages b.kind h

began_one : (o : Option Begun) → MatchOption o ⊥ (λ b. IsManager b.kind) → began_managing o ≡ true
unfolding began_managing
began_one None h = absurd h
began_one (Some b) h = is_one b.kind h

-- who is found passes
found_passes : (p : Name → Bool) (ns : List Name) (n : Name) → find p ns ≡ Some n → p n ≡ true
found_passes p [] n is = absurd cc
found_passes p (x ∷ ns) n is = by_test (p x) refl is (found_passes p ns n)
  where
    by_test : (b : Bool) → p x ≡ b → cond b (Some x) (find p ns) ≡ Some n → (find p ns ≡ Some n → p n ≡ true) → p n ≡ true
    by_test true here at below = let same : x ≡ n = cc in ap p (sym same) ∙ here
    by_test false here at below = below at

module _ (past : Past) (n : Name) (c : Cause) where
  -- whether a name is a manager child that was aborted with the cause
  abbrev fell : Name → Bool
  fell child = is_child n child && (began_managing (start past child) && is_end (end past child) (Some (Abort c)))

  fell_is : (child : Name) → fell child ≡ true → ChildAborted past n c
  fell_is child h =
      let parts = and_parts (is_child n child) (began_managing (start past child) && is_end (end past child) (Some (Abort c))) h in
      let more = and_parts (began_managing (start past child)) (is_end (end past child) (Some (Abort c))) parts.1 in
      record {
        child = child;
        is_one = parts.0;
        manages = began_manages (start past child) more.0;
        ended = end_is (end past child) (Some (Abort c)) more.1;
      }

  is_fell : (a : ChildAborted past n c) → fell a.child ≡ true
  is_fell a =
      and_from (is_child n a.child) _ a.is_one
      (and_from (began_managing (start past a.child)) _ (began_one (start past a.child) a.manages) (ap (λ o. is_end o (Some (Abort c))) a.ended ∙ end_itself (Some (Abort c))))

  not_missed : find fell (children past n) ≡ None → ChildAborted past n c → ⊥
  not_missed none a = true≢false (sym (is_fell a)
      ∙ no_child_passes fell past n a.child a.is_one (started_some (λ b. IsManager b.kind) (start past a.child) a.manages) none)

  -- such a child is found again, where there is one
  pub child_again : ∥ ChildAborted past n c ∥₁ → ChildAborted past n c
  child_again shown = by_search (find fell (children past n)) refl
    where
      by_search : (o : Option Name) → find fell (children past n) ≡ o → ChildAborted past n c
      by_search None is = absurd (∥∥₁_elim shown (hlevel) (not_missed is))
      by_search (Some child) is = fell_is child (found_passes fell (children past n) child is)

-- RULES

again : {A : Type 0} → IsProp A → ∥ A ∥₁ → A
again once shown = ∥∥₁_elim shown once (λ a. a)

match_again : {A : Type 0} (o : Option A) (P : A → Type 0) → ((x : A) → ∥ P x ∥₁ → P x) → ∥ MatchOption o ⊥ P ∥₁ → MatchOption o ⊥ P
match_again None P h shown = again (hlevel) shown
match_again (Some x) P h shown = h x shown

user_again : (past : Past) (n : Name) (session : ℕ) (c : Cause) → ∥ UserCause past n session c ∥₁ → UserCause past n session c
user_again past n session (cause.Asked by) shown = again (hlevel (props, once.match_once, once.user_once)) shown
user_again past n session (cause.Orphan a) shown = again (hlevel (props, once.match_once, once.abort_once)) shown
user_again past n session cause.Killed shown = again (hlevel props) shown
user_again past n session (cause.Child d) shown = again (hlevel (props, once.match_once, once.user_once, once.abort_once)) shown
user_again past n session cause.Missed shown = again (hlevel) shown
user_again past n session (cause.Conflict copy h) shown = child_again past n (cause.Conflict copy h) shown
user_again past n session (cause.NoQuorum lack) shown = child_again past n (cause.NoQuorum lack) shown
user_again past n session cause.Last shown = child_again past n cause.Last shown

licence_again : (setting : Setting) (past : Past) (seat : ℕ) (n : Name) (b : Begun) (k : Kind) (c : Cause) → ∥ Licensed setting past seat n b k c ∥₁ → Licensed setting past seat n b k c
licence_again setting past seat n b (kind.User session body) c shown = user_again past n session c shown
licence_again setting past seat n b kind.Access c shown = again (hlevel (props, once.match_once, once.access_cause_once)) shown
licence_again setting past seat n b (kind.Read rec) c shown = again (hlevel (props, once.manager_cause_once)) shown
licence_again setting past seat n b (kind.Write rec value) c shown = again (hlevel (props, once.manager_cause_once)) shown
licence_again setting past seat n b (kind.Reconf rec config) c shown = again (hlevel (props, once.manager_cause_once)) shown

abort_again : (Licence : Type 0) (past : Past) (seat : ℕ) (n : Name) → (∥ Licence ∥₁ → Licence) → ∥ MayAbort Licence past seat n ∥₁ → MayAbort Licence past seat n
abort_again Licence past seat n licence shown = record {
  by_client = ∥∥₁_elim shown (hlevel props) (λ (may : MayAbort Licence past seat n). may.by_client);
  is_open = ∥∥₁_elim shown (hlevel props) (λ (may : MayAbort Licence past seat n). may.is_open);
  not_ready = ∥∥₁_elim shown (hlevel props) (λ (may : MayAbort Licence past seat n). may.not_ready);
  licensed = licence (∥∥₁_map shown (λ (may : MayAbort Licence past seat n). may.licensed));
}

end_again : (setting : Setting) (past : Past) (seat : ℕ) (n : Name) (how : How) (b : Begun) → ∥ MayEnd setting past seat n how b ∥₁ → MayEnd setting past seat n how b
end_again setting past seat n (Commit given) b shown = again (once.commit_once setting past seat n b given b.kind) shown
end_again setting past seat n (Abort c) b shown = abort_again (Licensed setting past seat n b b.kind c) past seat n (licence_again setting past seat n b b.kind c) shown

happens_again : (setting : Setting) (past : Past) (seat : ℕ) (ev : Event) → ∥ MayHappen setting past seat ev ∥₁ → MayHappen setting past seat ev
happens_again setting past seat (event.Start n k) shown = again (once.starts_once setting past seat n k) shown
happens_again setting past seat (event.Ask ask) shown = again (once.ask_once setting past seat ask) shown
happens_again setting past seat (event.Gone n why) shown = again (once.give_up_once past seat n why) shown
happens_again setting past seat (event.Granted copy grant) shown = again (once.grant_once setting past seat copy grant) shown
happens_again setting past seat (event.Refused n copy refusal) shown = again (once.refuse_once past seat n copy refusal) shown
happens_again setting past seat (event.Unable n why) shown = again (once.unable_once past seat n why) shown
happens_again setting past seat (event.Mark by session) shown = again (once.mark_once past seat by session) shown
happens_again setting past seat (event.Ready top) shown = again (once.ready_once past seat top) shown
happens_again setting past seat (event.End n how) shown = match_again (start past n) (MayEnd setting past seat n how) (end_again setting past seat n how) shown

pub legal_again : (setting : Setting) (past : Past) → ∥ Legal setting past ∥₁ → Legal setting past
legal_again setting [] shown = tt
legal_again setting (e ∷ past) shown = (
  legal_again setting past (∥∥₁_map shown (λ h. h.0)),
  happens_again setting past e.seat e.event (∥∥₁_map shown (λ h. h.1)),
)
