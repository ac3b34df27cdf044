-- That a line stays one while its client enters nothing, or what is of no access.
use Rattle.std.proofs.Common.{◌≡◌, ℕ, Bool, List, [], ◌∷◌, refl, sym, ap, ◌∙◌, subst}
use Rattle.std.specs.Prelude.{All, Option, None, Some, MatchOption, Result, Ok, Err, OnOk, IfOk, IfErr}
use Rattle.std.specs.Option.{option_map}
use Rattle.std.proofs.lemmas.Bool.{false_from_ne_true}
use Rattle.qc_event.specs.declared.event.Answer.{Answer}
use Rattle.qc_event.specs.declared.event.Ask.{Ask}
use Rattle.qc_event.specs.declared.event.Event.{Event}
use Rattle.qc_event.specs.declared.event.Event.TheVariants as event
use Rattle.qc_event.specs.declared.event.How.{How}
use Rattle.qc_event.specs.declared.event.Kind.{Kind}
use Rattle.qc_event.specs.declared.event.Kind.TheVariants as kind
use Rattle.qc_event.specs.Base.{Setting}
use Rattle.qc_event.specs.History.{Past, Name, Begun, end_in, gone_in, kind_of, same, start}
use Rattle.qc_event.specs.Standing.{Started}
use Rattle.qc_event.proofs.Absent.{if_not, same_is}
use Rattle.qc_event.proofs.Lawful.{started_wider}
use Rattle.qc_managers.specs.Carrying.{entry}
use Rattle.qc_net.specs.Messages.{ask_of}
use Rattle.qc_net.specs.Plan.{Plan}
use Rattle.qc_desk.specs.declared.refusal.DeskNo.{DeskNo}
use Rattle.qc_desk.specs.declared.view.View.{View}
use Rattle.qc_desk.specs.Calling.{Entered, EnteredAs, Looked}
use Rattle.qc_desk.specs.Consulting.{HasAsked}
use Rattle.qc_desk.specs.Known.{IsKnown}
use Rattle.qc_desk.specs.Own.{CommitsOwn}
use Rattle.qc_desk.specs.Rules.{IsClient}
use Rattle.qc_carry.specs.Acting.{IsNoAccess}
use Rattle.qc_carry.specs.Kept.{Keeps}
use Rattle.qc_carry.specs.Walk.{Walk}
use Rattle.qc_carry.proofs.Held.{held_on}
use Rattle.qc_carry.proofs.KeepsStill.{keeps_still}
use Rattle.qc_carry.proofs.OwnRequests.{no_request}
use Rattle.qc_carry.proofs.Walking.{of_entered, of_entered_as, of_looked, still_client}

-- the event ends no access, and gives none up
abbrev pub OfNoAccess : Past → Event → Type 0
OfNoAccess past ev = (n : Name) → kind_of past n ≡ Some kind.Access → (end_in n ev ≡ None) × (gone_in n ev ≡ None)

-- the end of what is no access
pub ends_no_access : (past : Past) (m : Name) (how : How) → Started past m (λ b. IsNoAccess b.kind) → OfNoAccess past (event.End m how)
ends_no_access past m how began n access = (if_not (same m n) (Some how) (false_from_ne_true (same m n) (λ is. apart (start past m) refl began (ap (kind_of past) (same_is m n is) ∙ access))), refl)
  where
    by_kind : (k : Kind) → k ≡ kind.Access → IsNoAccess k → ⊥
    by_kind k is none = subst IsNoAccess is none

    apart : (o : Option Begun) → start past m ≡ o → MatchOption o ⊥ (λ b. IsNoAccess b.kind) → option_map (λ (b : Begun). b.kind) (start past m) ≡ Some kind.Access → ⊥
    apart None at none is = none
    apart (Some b) at none is = by_kind b.kind (let same : b.kind ≡ kind.Access = cc (sym (ap (option_map (λ (x : Begun). x.kind)) at) ∙ is) in same) none

module _ (setting : Setting) (v w : View) (client : IsClient v) (known : IsKnown setting w) (plan : Option Plan) (held : List Ask) (patience : ℕ) (torn : Bool) (was : All (HasAsked v.seen) held) (keeps : Keeps v.number plan held patience v.seen torn) where
  -- what a line keeps
  abbrev pub Still : Type 0
  Still = IsClient w × ∥ IsKnown setting w ∥₁ × All (HasAsked w.seen) held × Keeps w.number plan held patience w.seen torn

  pub none_still : Walk v w [] → Still
  none_still walk = (still_client v w [] walk client, ∣ known ∣₁, held_on v w [] walk held was, keeps_still setting v w [] known.legal walk refl (λ n access. (refl, refl)) plan held patience torn keeps)

  pub one_still : (ev : Event) → Walk v w (entry v.number ev ∷ []) → ask_of ev ≡ None → OfNoAccess v.seen ev → Still
  one_still ev walk none of = (
    still_client v w _ walk client,
    ∣ known ∣₁,
    held_on v w _ walk held was,
    keeps_still setting v w (entry v.number ev ∷ []) known.legal walk (no_request v.number ev [] none) of plan held patience torn keeps,
  )

  -- a desk's call entered this event, or refused
  pub entered_still : {T E : Type 0} (r : Result T E) (Says : E → Type 0) (against : Past → Option DeskNo) (ev : Event) → OnOk r (Entered against ev v w) → IfErr r (λ why. Looked v w × Says why) → ask_of ev ≡ None → OfNoAccess v.seen ev → Still
  entered_still (Ok x) Says against ev ok err none of = one_still ev (of_entered against ev v w ok) none of
  entered_still (Err why) Says against ev ok err none of = none_still (of_looked v w err.0)

  -- it started a name, or refused
  pub started_still : {E : Type 0} (r : Result Name E) (Says : E → Type 0) (against : Past → Option DeskNo) (kd : Kind) (IsNext : Name → Past → Type 0) → IfOk r (λ n. EnteredAs against (λ past ev. IsNext n past × (ev ≡ event.Start n kd)) v w) → IfErr r (λ why. Looked v w × Says why) → Still
  started_still (Ok n) Says against kd IsNext ok err =
      one_still ok.1 (of_entered_as against (λ past ev. IsNext n past × (ev ≡ event.Start n kd)) v w ok) (ap ask_of ok.2.1)
      (λ m access. (ap (end_in m) ok.2.1, ap (gone_in m) ok.2.1))
  started_still (Err why) Says against kd IsNext ok err = none_still (of_looked v w err.0)

-- who commits at a client's word is no access
pub commits_no_access : (setting : Setting) (past : Past) (seat : ℕ) (n : Name) (given : Answer) → Started past n (λ b. CommitsOwn setting past seat n given b b.kind) → Started past n (λ b. IsNoAccess b.kind)
commits_no_access setting past seat n given may = started_wider (λ b. CommitsOwn setting past seat n given b b.kind) (λ b. IsNoAccess b.kind) (start past n) (λ b own. by_kind b b.kind own) may
  where
    by_kind : (b : Begun) (k : Kind) → CommitsOwn setting past seat n given b k → IsNoAccess k
    by_kind b kind.Access own = own
    by_kind b (kind.User session body) own = tt
    by_kind b (kind.Read rec) own = tt
    by_kind b (kind.Write rec value) own = tt
    by_kind b (kind.Reconf rec config) own = tt
