-- Every configuration that a legal history has put at a copy is legal.
use Rattle.std.proofs.Common.{◌≡◌, ℕ, ◌<◌, [], ◌∷◌, length, refl, sym, ap, subst, arith}
use Rattle.std.specs.Prelude.{Option, None, Some, MatchOption}
use Rattle.std.specs.List.{AllByRecursion}
use Rattle.qc_names.specs.Name as name
use Rattle.qc_config.specs.Config.{IsLegal}
use Rattle.qc_config.specs.Tuple.{after}
use Rattle.qc_event.specs.declared.event.Ask.{Ask}
use Rattle.qc_event.specs.declared.event.Grant.{Grant}
use Rattle.qc_event.specs.declared.event.Kind.{Kind}
use Rattle.qc_event.specs.declared.event.Kind.TheVariants as kind
use Rattle.qc_event.specs.Base.{Setting, IsProper, IsConfigFor, start_tuple, no_tuple}
use Rattle.qc_event.specs.Grants.{MayGrant}
use Rattle.qc_event.specs.History.{Past, Name, Asked, Begun, start, asked}
use Rattle.qc_event.specs.Legal.{Legal}
use Rattle.qc_event.specs.Manager.{Stage, Newest, Greatest, stages_by, stage, newest, greatest, first_for, AtStage}
use Rattle.qc_event.specs.Requests.{IsNextAsk}
use Rattle.qc_event.specs.Seen.{seen}
use Rattle.qc_event.specs.Standing.{IsUser}
use Rattle.qc_event.specs.Starts.{Stands, Starts}
use Rattle.qc_event.proofs.Asked.{was_asked, asked_fits}
use Rattle.qc_event.proofs.Starting.{was_begun}
use Rattle.qc_event.proofs.AsksFit.{stage_holds, start_sized}
use Rattle.qc_event.proofs.PutConfigs.{OpHas, GrantHas, after_has, seen_has}
use Rattle.qc_event.proofs.SizedConfigs.{after_sized, seen_sized}

-- WHAT IS ASKED

-- the configuration that a manager is to put is legal
abbrev KindLegal : Kind → Type 0
KindLegal (kind.Reconf rec config) = IsLegal config
KindLegal _ = Unit {0}

stands_legal : (setting : Setting) (seat : ℕ) (parent : Begun) (depth : ℕ) (k : Kind) → Stands setting seat parent depth k → KindLegal k
stands_legal setting seat parent depth (kind.Reconf rec config) stands = stands.3
stands_legal setting seat parent depth _ stands = tt

user_legal : (k : Kind) → IsUser k → KindLegal k
user_legal (kind.Reconf rec config) user = absurd user
user_legal _ user = tt

kind_legal : (setting : Setting) (past : Past) (n : Name) (b : Begun) → Legal setting past → start past n ≡ Some b → KindLegal b.kind
kind_legal setting past n b legal is = let was = was_begun setting past n b legal is in by_name n b.kind was.before was.may
  where
    by_parent : (k : Kind) (depth : ℕ) (o : Option Begun) → MatchOption o ⊥ (λ p. Stands setting b.seat p depth k) → KindLegal k
    by_parent k depth None stands = absurd stands
    by_parent k depth (Some p) stands = stands_legal setting b.seat p depth k stands

    by_name : (m : Name) (k : Kind) (older : Past) → Starts setting older b.seat m k → KindLegal k
    by_name [] k older may = absurd may
    by_name (x ∷ []) k older may = user_legal k may.user
    by_name (x ∷ y ∷ r) k older may = by_parent k (length (x ∷ y ∷ r)) (start older (name.front (x ∷ y ∷ r))) may.stands

-- what a stage asks for is legal
abbrev StageLegal : Stage → Type 0
StageLegal s = OpHas IsLegal s.op

stages_legal : (k : Kind) (now : Newest) (best : Greatest) → KindLegal k → AllByRecursion StageLegal (stages_by k now best)
stages_legal (kind.Read rec) now best legal = (tt, tt)
stages_legal (kind.Write rec value) now best legal = (tt, (tt, tt))
stages_legal (kind.Reconf rec config) now best legal = (tt, (tt, (legal, tt)))
stages_legal (kind.User session body) now best legal = tt
stages_legal kind.Access now best legal = tt

next_legal : (setting : Setting) (past : Past) (m : Name) (k : Kind) (ask : Ask) → KindLegal k → AtStage setting past m k (IsNextAsk past m k ask) → OpHas IsLegal ask.op
next_legal setting past m k ask legal at = by_stage (stage past (first_for setting k) m k) refl at
  where
    by_stage : (o : Option Stage) → stage past (first_for setting k) m k ≡ o → MatchOption o ⊥ (IsNextAsk past m k ask) → OpHas IsLegal ask.op
    by_stage None is next = absurd next
    by_stage (Some s) is next =
        subst (OpHas IsLegal) (sym next.same_op)
        (stage_holds StageLegal past (first_for setting k) m k s (stages_legal k (newest past (first_for setting k) m) (greatest past m) legal) is)

-- a request puts a legal configuration, where it puts one
pub asked_legal : (setting : Setting) (past : Past) (n : Name) (a : Asked) → Legal setting past → asked past n ≡ Some a → OpHas IsLegal a.ask.op
asked_legal setting past n a legal is =
    let was = was_asked setting past n a legal is in
    by_manager was.before was.legal (start was.before (name.front a.ask.access)) refl was.may.of_stage
  where
    by_manager : (before : Past) → Legal setting before → (o : Option Begun) → start before (name.front a.ask.access) ≡ o
        → MatchOption o ⊥ (λ m. AtStage setting before (name.front a.ask.access) m.kind (IsNextAsk before (name.front a.ask.access) m.kind a.ask)) → OpHas IsLegal a.ask.op
    by_manager before was None is at = absurd at
    by_manager before was (Some m) is at =
        next_legal setting before (name.front a.ask.access) m.kind a.ask (kind_legal setting before (name.front a.ask.access) m was is) at

-- WHAT A COPY HAS

grant_legal : (setting : Setting) (past : Past) (seat copy : ℕ) (g : Grant) → Legal setting past → MayGrant setting past seat copy g → GrantHas IsLegal g
grant_legal setting past seat copy g legal may = by_request (asked past g.access) refl may.request
  where
    by_request : (o : Option Asked) → asked past g.access ≡ o → MatchOption o ⊥ (λ a. a.ask ≡ record { access = g.access; copy = copy; rec = g.rec; op = g.op }) → GrantHas IsLegal g
    by_request None is request = absurd request
    by_request (Some a) is request = subst (OpHas IsLegal) (ap (λ (ask : Ask). ask.op) request) (asked_legal setting past g.access a legal is)

-- the configuration that a copy has of a record is legal, where its start tuple's is
pub seen_legal : (setting : Setting) (past : Past) (copy rec : ℕ) → Legal setting past → IsLegal (start_tuple setting.base copy rec).config → IsLegal (seen setting.base past copy rec).config
seen_legal setting past copy rec = seen_has IsLegal setting past copy rec (grant_legal setting)

start_legal : (setting : Setting) → IsProper setting → (copy rec : ℕ) → copy < length setting.base → rec < length setting.firsts → IsLegal (start_tuple setting.base copy rec).config
start_legal setting proper copy rec is_copy is_record =
    let row = proper.base.rows copy [] is_copy in
    (row.configs rec no_tuple (omega (arith, row.same_records))).legal

-- a copy that does what it was asked has a legal configuration then, for as many copies as there are
pub left_config : (setting : Setting) (past : Past) (n : Name) (a : Asked) → IsProper setting → Legal setting past → asked past n ≡ Some a
    → IsConfigFor (length setting.base) (after (seen setting.base past a.ask.copy a.ask.rec) a.ask.op).config
left_config setting past n a proper legal is =
    let fits = asked_fits setting past n a proper legal is in
    record {
      legal = after_has IsLegal (seen setting.base past a.ask.copy a.ask.rec) a.ask.op
          (seen_legal setting past a.ask.copy a.ask.rec legal (start_legal setting proper a.ask.copy a.ask.rec fits.is_copy fits.is_record))
          (asked_legal setting past n a legal is);
      for_copies = after_sized (length setting.base) (seen setting.base past a.ask.copy a.ask.rec) a.ask.op
          (seen_sized setting past a.ask.copy a.ask.rec legal (start_sized setting proper a.ask.copy a.ask.rec fits.is_copy fits.is_record)) fits.sized;
    }
